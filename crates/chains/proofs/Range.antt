-- Where the nodes of a forest are: those of the forest f at n are the numbers from n on, as many as f has nodes.
use mathlib.Core.Path.{◌≡◌, refl, sym, ◌∙◌, ap, Σ_path}
use mathlib.Core.Logic.{◌⊎◌, inl, inr}
use Prim.Native.Nat.{ℕ, zero, suc, ◌+◌, ◌≤◌, ◌<◌}
use native.Mathlib.Omega.{arith}
use Rattle.chains.specs.Grammar.{Occ, Grammar}
use Rattle.chains.specs.Tree.{Bush, nil, grow, size, count, Root, Slot, Inst, At}
use Rattle.chains.specs.Chain.{Own, Edge}

-- m is a node of the forest
abbrev pub In : Bush → ℕ → ℕ → Type 0
In f n m = (n ≤ m) × (m < n + size f)

-- x is a setting of the tree whose root is n and whose root's children are cs
abbrev pub Within : ℕ → Bush → Inst → Type 0
Within n cs x = (n ≤ x.0) × (x.0 < suc (n + size cs))

-- x is a setting of the node n; of a child of it; of the production instance there; below n; not below n
abbrev pub Top : ℕ → Inst → Type 0
Top n x = x.0 ≡ n

abbrev pub Border : ℕ → Bush → Inst → Type 0
Border n cs x = (j : ℕ) × Root cs (suc n) j x.0

abbrev pub Here : ℕ → Bush → Inst → Type 0
Here n cs x = (o : Occ) × At n cs o x

abbrev pub Under : ℕ → Bush → Inst → Type 0
Under n cs x = In cs (suc n) x.0

abbrev pub Clear : ℕ → Bush → Inst → Type 0
Clear n cs x = Under n cs x → ⊥

-- ── roots ──
pub root_in : (f : Bush) (n j m : ℕ) → Root f n j m → In f n m
root_in nil n j m r = absurd r
root_in (grow p cs rest) n zero m r = omega arith
root_in (grow p cs rest) n (suc j) m r = let h = root_in rest (suc (n + size cs)) j m r in omega arith

pub root_fun : (f : Bush) (n j m m' : ℕ) → Root f n j m → Root f n j m' → m ≡ m'
root_fun nil n j m m' r s = absurd r
root_fun (grow p cs rest) n zero m m' r s = r ∙ sym s
root_fun (grow p cs rest) n (suc j) m m' r s = root_fun rest (suc (n + size cs)) j m m' r s

pub root_inj : (f : Bush) (n i j m : ℕ) → Root f n i m → Root f n j m → i ≡ j
root_inj nil n i j m r s = absurd r
root_inj (grow p cs rest) n zero zero m r s = refl
root_inj (grow p cs rest) n zero (suc j) m r s = let h = root_in rest (suc (n + size cs)) j m s in absurd (omega arith)
root_inj (grow p cs rest) n (suc i) zero m r s = let h = root_in rest (suc (n + size cs)) i m r in absurd (omega arith)
root_inj (grow p cs rest) n (suc i) (suc j) m r s = ap suc (root_inj rest (suc (n + size cs)) i j m r s)

-- a forest has as many roots as trees
pub root_exists : (f : Bush) (n j : ℕ) → j < count f → (m : ℕ) × Root f n j m
root_exists nil n j h = absurd (omega arith)
root_exists (grow p cs rest) n zero h = (n, refl)
root_exists (grow p cs rest) n (suc j) h = root_exists rest (suc (n + size cs)) j (omega arith)

pub root_count : (f : Bush) (n j m : ℕ) → Root f n j m → j < count f
root_count nil n j m r = absurd r
root_count (grow p cs rest) n zero m r = omega arith
root_count (grow p cs rest) n (suc j) m r = let h = root_count rest (suc (n + size cs)) j m r in omega arith

-- ── slots ──
pub slot_fun : (n : ℕ) (cs : Bush) (s m m' : ℕ) → Slot n cs s m → Slot n cs s m' → m ≡ m'
slot_fun n cs zero m m' r t = r ∙ sym t
slot_fun n cs (suc j) m m' r t = root_fun cs (suc n) j m m' r t

pub slot_inj : (n : ℕ) (cs : Bush) (s t m : ℕ) → Slot n cs s m → Slot n cs t m → s ≡ t
slot_inj n cs zero zero m r h = refl
slot_inj n cs zero (suc j) m r h = let k = root_in cs (suc n) j m h in absurd (omega arith)
slot_inj n cs (suc i) zero m r h = let k = root_in cs (suc n) i m r in absurd (omega arith)
slot_inj n cs (suc i) (suc j) m r h = ap suc (root_inj cs (suc n) i j m r h)

pub slot_in : (n : ℕ) (cs : Bush) (s m : ℕ) → Slot n cs s m → (n ≤ m) × (m < suc (n + size cs))
slot_in n cs zero m r = omega arith
slot_in n cs (suc j) m r = let h = root_in cs (suc n) j m r in omega arith

pub slot_exists : (n : ℕ) (cs : Bush) (s : ℕ) → s ≤ count cs → (m : ℕ) × Slot n cs s m
slot_exists n cs zero h = (n, refl)
slot_exists n cs (suc j) h = root_exists cs (suc n) j h

-- ── occurrences and settings ──
-- an occurrence of the instance is one setting, and a setting one occurrence
pub at_fun : (n : ℕ) (cs : Bush) (o : Occ) (x y : Inst) → At n cs o x → At n cs o y → x ≡ y
at_fun n cs o x y h k = Σ_path (slot_fun n cs o.0 x.0 y.0 h.0 k.0) (sym h.1 ∙ k.1)

pub at_one : (n : ℕ) (cs : Bush) (o o' : Occ) (x : Inst) → At n cs o x → At n cs o' x → o ≡ o'
at_one n cs o o' x h h' = Σ_path (slot_inj n cs o.0 o'.0 x.0 h.0 h'.0) (h.1 ∙ sym h'.1)

pub here_cases : (n : ℕ) (cs : Bush) (x : Inst) → Here n cs x → Top n x ⊎ Border n cs x
here_cases n cs x (o, (s, e)) = go o.0 s
  where
    go : (s : ℕ) → Slot n cs s x.0 → Top n x ⊎ Border n cs x
    go zero r = inl r
    go (suc j) r = inr (j, r)

-- ── edges ──
module _ (G : Grammar) where
  pub own_in : (p n : ℕ) (cs : Bush) (x y : Inst) → Own G p n cs x y → Within n cs x × Within n cs y
  own_in p n cs x y (o, o', b, hx, hy) = (slot_in n cs o.0 x.0 hx.0, slot_in n cs o'.0 y.0 hy.0)

  pub own_here : (p n : ℕ) (cs : Bush) (x y : Inst) → Own G p n cs x y → Here n cs x × Here n cs y
  own_here p n cs x y (o, o', b, hx, hy) = ((o, hx), (o', hy))

  pub edge_in : (f : Bush) (n : ℕ) (x y : Inst) → Edge G f n x y → In f n x.0 × In f n y.0
  edge_in nil n x y e = absurd e
  edge_in (grow p cs rest) n x y (inl e) = let h = own_in p n cs x y e in omega arith
  edge_in (grow p cs rest) n x y (inr (inl e)) = let h = edge_in cs (suc n) x y e in omega arith
  edge_in (grow p cs rest) n x y (inr (inr e)) = let h = edge_in rest (suc (n + size cs)) x y e in omega arith

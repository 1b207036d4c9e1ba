-- A forest does not depend on where it stands: from n to n', every node and every dependence moves along.
use mathlib.Core.Path.{◌≡◌, refl}
use mathlib.Core.Logic.{inl, inr}
use Prim.Native.Nat.{ℕ, zero, suc, ◌+◌}
use native.Mathlib.Omega.{arith}
use Rattle.chains.specs.Grammar.{Occ, Grammar}
use Rattle.chains.specs.Tree.{Bush, nil, grow, size, Root, Slot, Inst, At, Sub}
use Rattle.chains.specs.Chain.{Edge}

pub root_move : (f : Bush) (n n' j m : ℕ) → Root f n j m → (m' : ℕ) × Root f n' j m' × (m' + n ≡ m + n')
root_move nil n n' j m r = absurd r
root_move (grow p cs rest) n n' zero m r = (n', refl, omega arith)
root_move (grow p cs rest) n n' (suc j) m r =
    let (m', r', e) = root_move rest (suc (n + size cs)) (suc (n' + size cs)) j m r in (m', r', omega arith)

pub slot_move : (cs : Bush) (n n' s m : ℕ) → Slot n cs s m → (m' : ℕ) × Slot n' cs s m' × (m' + n ≡ m + n')
slot_move cs n n' zero m r = (n', refl, omega arith)
slot_move cs n n' (suc j) m r = let (m', r', e) = root_move cs (suc n) (suc n') j m r in (m', r', omega arith)

abbrev pub Moved : ℕ → ℕ → Inst → Inst → Type 0
Moved n n' x x' = (x'.0 + n ≡ x.0 + n') × (x'.1 ≡ x.1)

pub at_move : (cs : Bush) (n n' : ℕ) (o : Occ) (x : Inst) → At n cs o x → (x' : Inst) × At n' cs o x' × Moved n n' x x'
at_move cs n n' o x (s, e) = let (m', s', k) = slot_move cs n n' o.0 x.0 s in ((m', x.1), (s', e), (k, refl))

pub sub_move : (f : Bush) (n n' i q : ℕ) (ds : Bush) → Sub f n i q ds → (i' : ℕ) × Sub f n' i' q ds × (i' + n ≡ i + n')
sub_move nil n n' i q ds s = absurd s
sub_move (grow p cs rest) n n' i q ds (inl (ei, ep, ec)) = (n', inl (refl, ep, ec), omega arith)
sub_move (grow p cs rest) n n' i q ds (inr (inl s)) =
    let (i', s', e) = sub_move cs (suc n) (suc n') i q ds s in (i', inr (inl s'), omega arith)
sub_move (grow p cs rest) n n' i q ds (inr (inr s)) =
    let (i', s', e) = sub_move rest (suc (n + size cs)) (suc (n' + size cs)) i q ds s in (i', inr (inr s'), omega arith)

pub edge_move : (G : Grammar) (f : Bush) (n n' : ℕ) (x y : Inst) → Edge G f n x y
    → (x' : Inst) × (y' : Inst) × Moved n n' x x' × Moved n n' y y' × Edge G f n' x' y'
edge_move G nil n n' x y e = absurd e
edge_move G (grow p cs rest) n n' x y (inl (o, o', b, hx, hy)) =
    let (x', hx', mx) = at_move cs n n' o x hx in
    let (y', hy', my) = at_move cs n n' o' y hy in
    (x', y', mx, my, inl (o, o', b, hx', hy'))
edge_move G (grow p cs rest) n n' x y (inr (inl e)) =
    let (x', y', mx, my, e') = edge_move G cs (suc n) (suc n') x y e in
    (x', y', (omega arith, mx.1), (omega arith, my.1), inr (inl e'))
edge_move G (grow p cs rest) n n' x y (inr (inr e)) =
    let (x', y', mx, my, e') = edge_move G rest (suc (n + size cs)) (suc (n' + size cs)) x y e in
    (x', y', (omega arith, mx.1), (omega arith, my.1), inr (inr e'))

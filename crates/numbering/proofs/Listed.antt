-- The occurrences of a production in order, as the settings that they are and as the labels that an entry has for them.
use mathlib.Core.Path.{◌≡◌, refl, sym, ap, ap₂, ◌∙◌}
use mathlib.Core.List.{List, [], ◌∷◌, ◌++◌, map, map-append}
use Prim.Native.Nat.{ℕ, zero, suc, ◌+◌}
use native.Mathlib.Omega.{arith}
use lib.ListN.{length, get_or}
use Rattle.chains.specs.Grammar.{Occ, Grammar, width}
use Rattle.chains.specs.Tree.{Bush, nil, grow, size, Kinded, Root, Inst, roots}
use Rattle.chains.specs.Numbering.{in_slot, occurrences, setting}
use Rattle.chains.proofs.Nodes.{roots_at}
use Rattle.numbering.specs.Walk.{Tables, label_in, slot_labels, kid_labels}

-- ── as settings ──
-- the settings of a forest's roots, one root after another
unfoldable pub root_settings : Grammar → Bush → ℕ → List Inst
root_settings G nil n = []
root_settings G (grow p cs rest) n = in_slot n 0 (width G p 0) ++ root_settings G rest (suc (n + size cs))

pub in_slot_long : (s a A : ℕ) → length (in_slot s a A) ≡ A
in_slot_long s a zero = refl
in_slot_long s a (suc A) = ap suc (in_slot_long s (suc a) A)

-- a slot's occurrences, each told by its node
pub slot_settings : (node : ℕ → ℕ) (s n a A : ℕ) → node s ≡ n → map (λ (o : Occ). (node o.0, o.1)) (in_slot s a A) ≡ in_slot n a A
slot_settings node s n a zero e = refl
slot_settings node s n a (suc A) e = ap₂ ◌∷◌ (ap (λ m. (m, a)) e) (slot_settings node s n (suc a) A e)

all_settings : (G : Grammar) (node : ℕ → ℕ) (s : ℕ) (f : Bush) (ks : List ℕ) (n : ℕ) → Kinded G f ks → ((j m : ℕ) → Root f n j m → node (s + j) ≡ m)
    → map (λ (o : Occ). (node o.0, o.1)) (occurrences G s ks) ≡ root_settings G f n
unfolding root_settings
all_settings G node s nil [] n k h = refl
all_settings G node s nil (x ∷ ks) n k h = absurd k
all_settings G node s (grow p cs rest) [] n k h = absurd k
all_settings G node s (grow p cs rest) (x ∷ ks) n k h =
    let e : node s ≡ n = let z : s + 0 ≡ s = omega arith in rw z at (h 0 n refl) in
    let later : (j m : ℕ) → Root rest (suc (n + size cs)) j m → node (suc s + j) ≡ m = λ j m r. let z : s + suc j ≡ suc s + j = omega arith in rw z at (h (suc j) m r) in
    map-append (λ (o : Occ). (node o.0, o.1)) (in_slot s 0 (G.settings x)) (occurrences G (suc s) ks)
    ∙ ap₂ ◌++◌ (slot_settings node s n 0 (G.settings x) e ∙ ap (λ t. in_slot n 0 (G.settings t)) (sym k.0.1))
    (all_settings G node (suc s) rest ks (suc (n + size cs)) k.2 later)

-- the occurrences of node i's children are the settings of its children, one child after another
pub kid_settings : (G : Grammar) (i q : ℕ) (ds : Bush) → Kinded G ds (G.kids q) → map (setting i ds) (occurrences G 1 (G.kids q)) ≡ root_settings G ds (suc i)
kid_settings G i q ds k = all_settings G (λ s. get_or (i ∷ roots ds (suc i)) s 0) 1 ds (G.kids q) (suc i) k (λ j m r. let e : 1 + j ≡ suc j = omega arith in rw e (roots_at ds (suc i) j m 0 r))

-- its own occurrences are its own settings
pub own_settings : (i : ℕ) (ds : Bush) (A : ℕ) → map (setting i ds) (in_slot 0 0 A) ≡ in_slot i 0 A
own_settings i ds A = slot_settings (λ s. get_or (i ∷ roots ds (suc i)) s 0) 0 i 0 A refl

-- ── as labels ──
module _ (G : Grammar) (T : Tables) (e : ℕ) where
  -- the label that the entry e has for an occurrence
  abbrev pub label_of : Occ → ℕ
  label_of o = label_in T e o.0 o.1

  pub own_labels : (s a A : ℕ) → slot_labels T e s a A ≡ map label_of (in_slot s a A)
  unfolding slot_labels
  own_labels s a zero = refl
  own_labels s a (suc A) = ap (λ (l : List ℕ). label_in T e s a ∷ l) (own_labels s (suc a) A)

  pub all_labels : (s : ℕ) (ks : List ℕ) → kid_labels G T e s ks ≡ map label_of (occurrences G s ks)
  unfolding kid_labels
  all_labels s [] = refl
  all_labels s (k ∷ ks) = ap₂ ◌++◌ (own_labels s 0 (G.settings k)) (all_labels (suc s) ks) ∙ sym (map-append label_of (in_slot s 0 (G.settings k)) (occurrences G (suc s) ks))

-- The promise of the sheet call pins its answer and all memory that is lent to it.
use mathlib.Core.Path.{◌≡◌, refl, sym, ap, ap₂, ◌∙◌}
use mathlib.Core.List.{List, [], ◌∷◌, ◌++◌}
use Prim.Native.Nat.{ℕ, ◌*◌}
use lib.ListN.{length, get_or, drop}
use Rattle.lists.specs.Refusals.{Said, accepted, refused}
use Rattle.lists.proofs.Refusals.{first_once}
use Rattle.chains.specs.Grammar.{Grammar}
use Rattle.chains.specs.Tree.{Bush}
use Rattle.sheet.specs.Reading.{all_settings}
use Rattle.numbering.specs.Walk.{Tables, places, started, group_numbers}
use Rattle.numbering.specs.Promise.{Lent, Applies, Fault, turn, Grouped, CallDue}
use Rattle.claims.proofs.Demand2Groups.{one_tree_of}

-- a turn has one number and one place
turn_numbers : (f g : Fault) → turn f ≡ turn g → (f.0 ≡ g.0) × (f.1 ≡ g.1)
turn_numbers f g e = (ap (λ (t : List ℕ). get_or t 2 0) e, ap (λ (t : List ℕ). get_or t 3 0) e)

lent_same : (m m' : Lent) → m.nodes ≡ m'.nodes → m.groups ≡ m'.groups → m ≡ m'
lent_same m m' a b =
    let e : ◌≡◌ {A = Lent} (record { nodes = m.nodes; groups = m.groups }) (record { nodes = m'.nodes; groups = m'.groups }) = rw (a, b) in
    e

module _ {G : Grammar} {l : List ℕ} {T : Tables} {m m₁ m₂ : Lent} {cs ds : List ℕ} (g : Grouped G l T m m₁ cs) (h : Grouped G l T m m₂ ds) where
  one : g.of.tree ≡ h.of.tree
  one = one_tree_of g.of h.of

  same_counts : cs ≡ ds
  same_counts = g.counted ∙ ap (λ (f : Bush). length l ∷ all_settings G l ∷ (group_numbers G T f).next ∷ []) one ∙ sym h.counted

  same_memory : m₁ ≡ m₂
  same_memory =
      lent_same m₁ m₂ (g.nodes ∙ ap (λ (f : Bush). places G T f (started G T f) ++ drop (3 * length l) m.nodes) one ∙ sym h.nodes)
      (g.groups ∙ ap (λ (f : Bush). (group_numbers G T f).list ++ drop (all_settings G l) m.groups) one ∙ sym h.groups)

-- THEOREM: two outcomes that keep the promise of the sheet call are the same answer and leave the same memory
pub call_once : (b l : List ℕ) (T : Tables) (m : Lent) (a a' : Said) (m₁ m₂ : Lent) → CallDue b l T m a m₁ → CallDue b l T m a' m₂ → (a ≡ a') × (m₁ ≡ m₂)
call_once b l T m (accepted cs) (accepted ds) m₁ m₂ (free, g) (free', h) = (ap accepted (same_counts g h), same_memory g h)
call_once b l T m (accepted cs) (refused n p) m₁ m₂ (free, g) ((t, f), e) = absurd (free n p t f.0)
call_once b l T m (refused n p) (accepted cs) m₁ m₂ ((t, f), e) (free, g) = absurd (free n p t f.0)
call_once b l T m (refused n p) (refused n' p') m₁ m₂ ((t, f), e) ((t', f'), e') =
    let same = first_once turn (λ (f : Fault). Applies b l T m f.0 f.1 f.2) (λ j k. refl) (n, p, t) (n', p', t') f f' in
    let (en, ep) = turn_numbers (n, p, t) (n', p', t') same in
    (ap₂ refused en ep, e ∙ sym e')

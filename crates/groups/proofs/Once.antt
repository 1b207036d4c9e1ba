-- The promise of the program fixes its text: two texts that are due for one input are the same.
use mathlib.Core.Path.{◌≡◌, refl, sym, ap, ap₂, subst, ◌∙◌}
use mathlib.Core.List.{List, [], ◌∷◌, ◌++◌}
use Prim.Native.Nat.{ℕ, ◌*◌}
use native.Mathlib.Omega.{arith}
use lib.ListN.{length, get_or, drop}
use Rattle.lists.specs.Refusals.{Said, accepted, refused}
use Rattle.lists.proofs.Refusals.{first_once}
use Rattle.chains.specs.Tree.{Bush}
use Rattle.book.specs.Format.{grammar}
use Rattle.sheet.specs.Reading.{all_settings}
use Rattle.tables.specs.Promise as tables
use Rattle.tables.proofs.Promise.{build_once}
use Rattle.numbering.specs.Walk.{Tables, places, started, group_numbers}
use Rattle.numbering.specs.Promise.{Lent, lent, Applies, Fault, turn, Grouped, CallDue}
use Rattle.numbering.proofs.Trees.{one_tree}
use Rattle.groups.specs.Room.{build_room, sheet_room}
use Rattle.groups.specs.Printed.{refusal, printed}
use Rattle.groups.specs.Answers.{tables_of, SheetText, BookText, not_built, built, Answers, thirty, taken}

-- what is printed of an accepted sheet, by its tree
abbrev by_tree : List ℕ → List ℕ → Tables → Bush → List ℕ
by_tree b l T f =
    let G = grammar b in
    printed b l (accepted (length l ∷ all_settings G l ∷ (group_numbers G T f).next ∷ []))
    (lent (places G T f (started G T f) ++ drop (3 * length l) sheet_room.nodes) ((group_numbers G T f).list ++ drop (all_settings G l) sheet_room.groups))

grouped_text : (b l : List ℕ) (T : Tables) (m : Lent) (cs : List ℕ) (g : Grouped (grammar b) l T sheet_room m cs) → printed b l (accepted cs) m ≡ by_tree b l T g.of.tree
grouped_text b l T m cs g =
    ap (λ (c : List ℕ). printed b l (accepted c) m) g.counted
    ∙ ap₂ (λ (n k : List ℕ). printed b l (accepted (length l ∷ all_settings (grammar b) l ∷ (group_numbers (grammar b) T g.of.tree).next ∷ [])) (lent n k)) g.nodes g.groups

said_once : (b l : List ℕ) (T : Tables) (a a' : Said) (m m' : Lent) → CallDue b l T sheet_room a m → CallDue b l T sheet_room a' m' → printed b l a m ≡ printed b l a' m'
said_once b l T (accepted cs) (accepted ds) m m' (free, g) (free', h) = grouped_text b l T m cs g ∙ ap (by_tree b l T) (one_tree g.of h.of) ∙ sym (grouped_text b l T m' ds h)
said_once b l T (accepted cs) (refused n p) m m' (free, g) ((t, f), e) = absurd (free n p t f.0)
said_once b l T (refused n p) (accepted cs) m m' ((t, f), e) (free, g) = absurd (free n p t f.0)
said_once b l T (refused n p) (refused n' p') m m' ((t, f), e) ((t', f'), e') =
    let same = first_once turn (λ (f : Fault). Applies b l T sheet_room f.0 f.1 f.2) (λ j k. refl) (n, p, t) (n', p', t') f f' in
    ap₂ refusal (ap (λ (x : List ℕ). get_or x 2 0) same) (ap (λ (x : List ℕ). get_or x 3 0) same)

sheet_text_once : {b l : List ℕ} {T : Tables} {x y : List ℕ} → SheetText b l T x → SheetText b l T y → x ≡ y
sheet_text_once {b} {l} {T} u w = u.shown ∙ said_once b l T u.said w.said u.left w.left u.due w.due ∙ sym w.shown

book_text_once : {b l x y : List ℕ} → BookText b l x → BookText b l y → x ≡ y
book_text_once {b} (not_built n p m d e) (not_built n' p' m' d' e') =
    let same = (build_once b build_room (refused n p) (refused n' p') m m' d d').0 in
    let number : n ≡ n' = cc in
    let place : p ≡ p' = cc in
    e ∙ ap₂ refusal number place ∙ sym e'
book_text_once {b} (not_built n p m d e) (built cs m' d' u) =
    let same = (build_once b build_room (refused n p) (accepted cs) m m' d d').0 in
    let z : ◌≡◌ {A = ℕ} 0 1 = cc in absurd (omega arith)
book_text_once {b} (built cs m d u) (not_built n p m' d' e) =
    let same = (build_once b build_room (accepted cs) (refused n p) m m' d d').0 in
    let z : ◌≡◌ {A = ℕ} 0 1 = cc in absurd (omega arith)
book_text_once {b} {l} {x} (built cs m d u) (built ds m' d' w) =
    let same = (build_once b build_room (accepted cs) (accepted ds) m m' d d').1 in
    sheet_text_once (subst (λ (k : tables.Lent). SheetText b l (tables_of k) x) same u) w

-- THEOREM: for every input one text is due
pub answers_once : {input x y : List ℕ} → Answers input x → Answers input y → x ≡ y
answers_once (thirty h e) (thirty k f) = e ∙ sym f
answers_once (thirty h e) (taken k u) = absurd (k h)
answers_once (taken h u) (thirty k f) = absurd (h k)
answers_once (taken h u) (taken k w) = book_text_once u w

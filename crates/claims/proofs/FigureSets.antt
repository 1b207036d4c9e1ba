-- Fig. 1's plausible and feasible codes, by trees and chains: each of those listed is one, and there are no others. So a build of its book leaves what
-- was worked out.
use mathlib.Core.Path.{◌≡◌, refl, sym, ◌∙◌}
use mathlib.Core.Logic.{inl, inr, ◌↔◌}
use mathlib.Core.Bool.{Bool, true}
use mathlib.Core.List.Memᴰ
use mathlib.Core.List.{List, [], ◌∷◌, Memᴰ}
use Prim.Native.Nat.{ℕ, zero, suc, ◌≤◌, ◌<◌}
use native.Mathlib.Omega.{arith}
use borrow.Author.Tests.{eqb-true, le-ltb}
use lib.Dec.{ltb, eqb}
use lib.ListN.{length, get_or, get_or-eq_default}
use Rattle.lists.specs.Pick.{pick}
use Rattle.lists.specs.Rising.{Rising, single, step}
use Rattle.lists.specs.Refusals.{accepted}
use Rattle.chains.specs.Limits.{max_members}
use Rattle.chains.specs.Grammar.{Grammar, Lawful, width}
use Rattle.chains.specs.Grouping.{Members, unpack, pack}
use Rattle.chains.specs.Labels.{relabel, joins, labels_by, index, add, canon_from}
use Rattle.chains.specs.State.{pairs_from, code_on}
use Rattle.chains.specs.Plausible.{Plausible}
use Rattle.chains.specs.Feasible.{Feasible, root, down}
use Rattle.chains.proofs.Plausible.{plausible_sound, plausible_iff}
use Rattle.chains.proofs.Feasible.{feasible_iff}
use Rattle.book.specs.Format.{entry, ties_of, grammar}
use Rattle.ranks.specs.Entries.{choices, up_start, down_start}
use Rattle.members.specs.Sets.{members, Has, member, Placed}
use Rattle.tables.specs.Sets.{Holds}
use Rattle.tables.specs.State.{based}
use Rattle.tables.specs.Promise.{Lent, up_entries, down_entries, Applies, of_book, short_slice, over_plausible, over_feasible, short_up, short_down, Counted, BuildDue}
use Rattle.tables.proofs.Holds.{holds_counted, over_never, counted_once}
use Rattle.tables.proofs.Entries.{up_entries_same, down_entries_same}
use Rattle.claims.specs.Examples.{book, S, X, Y, room}
use Rattle.claims.specs.NotRefused.{Roomy}
use Rattle.claims.proofs.Tests.{all_below, each_below}
use Rattle.claims.proofs.Worked.{tie_all, up_state, up_says, down_state, down_says}
use Rattle.claims.proofs.Closed.{closed_up, closed_down}
use Rattle.claims.proofs.Figure.{book_free, book_accepted, left, up_is_right, down_is_right}

abbrev G : Grammar
G = grammar book

lawful : Lawful G
lawful = book_accepted.lawful

-- all of l have P
abbrev All : (ℕ → Type 0) → List ℕ → Type 0
All P [] = Unit {0}
All P (x ∷ l) = P x × All P l

each : (P : ℕ → Type 0) (l : List ℕ) → All P l → (x : ℕ) → Memᴰ x l → P x
each P [] a x m = absurd (Memᴰ.not-nil m)
each P (y ∷ l) a x m = elim (Memᴰ.cases_cons m) [ inl e ↦ rw e a.0 | inr k ↦ each P l a.1 x k ]

-- ── each is plausible ──
by_production : (p : ℕ) → p < 5 → (cs : List ℕ) → length cs ≡ length (G.kids p) → Members (Plausible G) (G.kids p) cs
    → Plausible G (G.left p) (code_on 0 (width G p 0) (up_state book_accepted p cs))
by_production p h cs long ms = plausible_sound G lawful p (code_on 0 (width G p 0) (up_state book_accepted p cs)) h (cs, ms, up_says book_accepted p h cs long)

-- by the trees that the productions named here grow
plausible_codes : All (Plausible G S) (0 ∷ 8 ∷ []) × All (Plausible G X) (0 ∷ 72 ∷ 576 ∷ []) × All (Plausible G Y) (72 ∷ 576 ∷ [])
unfolding entry ties_of based tie_all joins relabel labels_by index add canon_from pack unpack pairs_from
plausible_codes =
    let y_576 : Plausible G Y 576 = by_production 3 (omega arith) [] refl tt in
    let y_72 : Plausible G Y 72 = by_production 4 (omega arith) [] refl tt in
    let x_72 : Plausible G X 72 = by_production 1 (omega arith) (72 ∷ []) refl (y_72, tt) in
    let x_576 : Plausible G X 576 = by_production 1 (omega arith) (576 ∷ []) refl (y_576, tt) in
    let x_0 : Plausible G X 0 = by_production 2 (omega arith) (72 ∷ []) refl (y_72, tt) in
    let s_0 : Plausible G S 0 = by_production 0 (omega arith) (0 ∷ []) refl (x_0, tt) in
    let s_8 : Plausible G S 8 = by_production 0 (omega arith) (72 ∷ []) refl (x_72, tt) in
    ((s_0, (s_8, tt)), (x_0, (x_72, (x_576, tt))), (y_72, (y_576, tt)))

only_plausible : (k x : ℕ) → Has left.plausible left.plausible_counts k x → Plausible G k x
only_plausible zero x m = each (Plausible G S) (0 ∷ 8 ∷ []) plausible_codes.0 x m
only_plausible (suc zero) x m = each (Plausible G X) (0 ∷ 72 ∷ 576 ∷ []) plausible_codes.1 x m
only_plausible (suc (suc zero)) x m = each (Plausible G Y) (72 ∷ 576 ∷ []) plausible_codes.2 x m
only_plausible (suc (suc (suc k))) x m = absurd (Memᴰ.not-nil m)

-- ── each is feasible ──
by_child : (p : ℕ) (h : p < 5) (c : ℕ) (cs : List ℕ) (long : length cs ≡ length (G.kids p)) (j : ℕ) → j < length (G.kids p) → Feasible G (G.left p) c
    → Members (Plausible G) (G.kids p) cs → Feasible G (get_or (G.kids p) j 0) (code_on (suc j) (width G p (suc j)) (down_state book_accepted p c cs))
by_child p h c cs long j l f ms = down p j c cs h l f ms (down_says book_accepted p h cs long c (suc j) (omega arith))

feasible_codes : All (Feasible G S) (0 ∷ 8 ∷ []) × All (Feasible G X) (0 ∷ 72 ∷ 576 ∷ []) × All (Feasible G Y) (0 ∷ 72 ∷ 576 ∷ [])
unfolding entry ties_of based tie_all joins relabel labels_by index add canon_from pack unpack pairs_from
feasible_codes =
    let ((s_0, (s_8, u)), (x_0, (x_72, (x_576, v))), (y_72, (y_576, w))) = plausible_codes in
    let fx_0 : Feasible G X 0 = by_child 0 (omega arith) 0 (0 ∷ []) refl 0 (omega arith) (root s_0) (x_0, tt) in
    let fx_72 : Feasible G X 72 = by_child 0 (omega arith) 8 (72 ∷ []) refl 0 (omega arith) (root s_8) (x_72, tt) in
    let fx_576 : Feasible G X 576 = by_child 0 (omega arith) 8 (576 ∷ []) refl 0 (omega arith) (root s_8) (x_576, tt) in
    let fy_0 : Feasible G Y 0 = by_child 1 (omega arith) 0 (72 ∷ []) refl 0 (omega arith) fx_0 (y_72, tt) in
    let fy_72 : Feasible G Y 72 = by_child 1 (omega arith) 72 (72 ∷ []) refl 0 (omega arith) fx_72 (y_72, tt) in
    let fy_576 : Feasible G Y 576 = by_child 1 (omega arith) 576 (576 ∷ []) refl 0 (omega arith) fx_576 (y_576, tt) in
    ((root s_0, (root s_8, tt)), (fx_0, (fx_72, (fx_576, tt))), (fy_0, (fy_72, (fy_576, tt))))

only_feasible : (k x : ℕ) → Has left.feasible left.feasible_counts k x → Feasible G k x
only_feasible zero x m = each (Feasible G S) (0 ∷ 8 ∷ []) feasible_codes.0 x m
only_feasible (suc zero) x m = each (Feasible G X) (0 ∷ 72 ∷ 576 ∷ []) feasible_codes.1 x m
only_feasible (suc (suc zero)) x m = each (Feasible G Y) (0 ∷ 72 ∷ 576 ∷ []) feasible_codes.2 x m
only_feasible (suc (suc (suc k))) x m = absurd (Memᴰ.not-nil m)

-- ── and there are no others ──
plausible_few : (k : ℕ) → k < 3 → get_or left.plausible_counts k 0 ≤ max_members
plausible_few zero h = omega arith
plausible_few (suc zero) h = omega arith
plausible_few (suc (suc zero)) h = omega arith
plausible_few (suc (suc (suc k))) h = absurd (omega arith)

feasible_few : (k : ℕ) → k < 3 → get_or left.feasible_counts k 0 ≤ max_members
feasible_few zero h = omega arith
feasible_few (suc zero) h = omega arith
feasible_few (suc (suc zero)) h = omega arith
feasible_few (suc (suc (suc k))) h = absurd (omega arith)

plausible_placed : (k : ℕ) → k < 3 → Placed left.plausible left.plausible_counts k
plausible_placed k h = record { there = omega arith; here = omega arith; few = plausible_few k h }

feasible_placed : (k : ℕ) → k < 3 → Placed left.feasible left.feasible_counts k
feasible_placed k h = record { there = omega arith; here = omega arith; few = feasible_few k h }

pub plausible_exactly : (k x : ℕ) → Has left.plausible left.plausible_counts k x ↔ Plausible G k x
plausible_exactly =
    plausible_iff G lawful (Has left.plausible left.plausible_counts) (closed_up lawful plausible_placed left.up up_is_right) only_plausible

pub feasible_exactly : (k x : ℕ) → Has left.feasible left.feasible_counts k x ↔ Feasible G k x
feasible_exactly =
    feasible_iff G (Has left.plausible left.plausible_counts) (Has left.feasible left.feasible_counts) plausible_exactly
    (closed_down lawful plausible_placed feasible_placed left.down down_is_right (λ x m. m)) only_feasible

-- ── so the sets hold what they should ──
-- behind the members there are zeros
blank_test : (s c : List ℕ) → Bool
blank_test s c = all_below (λ k. all_below (λ i. pick (ltb i (get_or c k 0)) true (eqb (member s k i) 0)) max_members) 3

blank_true : (s c : List ℕ) → blank_test s c ≡ true → (k i : ℕ) → k < 3 → get_or c k 0 ≤ i → i < max_members → member s k i ≡ 0
unfolding blank_test
blank_true s c e k i h l m =
    let row : ℕ → Bool = λ i. pick (ltb i (get_or c k 0)) true (eqb (member s k i) 0) in
    let t = each_below row max_members i (each_below (λ k. all_below (λ i. pick (ltb i (get_or c k 0)) true (eqb (member s k i) 0)) max_members) 3 k e h) m in
    eqb-true (member s k i) 0 (rw (le-ltb i (get_or c k 0) l) at t)

pub two_rise : Rising (0 ∷ 8 ∷ [])
two_rise = step {x = 0} {y = 8} (omega arith) single

pub three_rise : Rising (0 ∷ 72 ∷ 576 ∷ [])
three_rise = step {x = 0} {y = 72} (omega arith) (step {x = 72} {y = 576} (omega arith) single)

pub two_of_Y_rise : Rising (72 ∷ 576 ∷ [])
two_of_Y_rise = step {x = 72} {y = 576} (omega arith) single

plausible_rising : (k : ℕ) → k < 3 → Rising (members left.plausible left.plausible_counts k)
plausible_rising zero h = two_rise
plausible_rising (suc zero) h = three_rise
plausible_rising (suc (suc zero)) h = two_of_Y_rise
plausible_rising (suc (suc (suc k))) h = absurd (omega arith)

feasible_rising : (k : ℕ) → k < 3 → Rising (members left.feasible left.feasible_counts k)
feasible_rising zero h = two_rise
feasible_rising (suc zero) h = three_rise
feasible_rising (suc (suc zero)) h = three_rise
feasible_rising (suc (suc (suc k))) h = absurd (omega arith)

-- past the end of both there is nothing
past_both : (s s₀ : List ℕ) (n i : ℕ) → length s ≡ n → length s₀ ≡ n → n ≤ i → get_or s i 0 ≡ get_or s₀ i 0
past_both s s₀ n i e e₀ h = get_or-eq_default s 0 (omega arith) ∙ sym (get_or-eq_default s₀ 0 (omega arith))

pub plausible_held : Holds G.kinds (Plausible G) room.plausible room.plausible_counts left.plausible left.plausible_counts
unfolding all_below blank_test
plausible_held = record {
  long = refl;
  long_c = refl;
  few = plausible_few;
  rising = plausible_rising;
  exactly = λ k x h. plausible_exactly k x;
  blank = blank_true left.plausible left.plausible_counts refl;
  beyond = λ i h. past_both left.plausible room.plausible 192 i refl refl h;
  beyond_c = λ k h. past_both left.plausible_counts room.plausible_counts 3 k refl refl h;
}

pub feasible_held : Holds G.kinds (Feasible G) room.feasible room.feasible_counts left.feasible left.feasible_counts
unfolding all_below blank_test
feasible_held = record {
  long = refl;
  long_c = refl;
  few = feasible_few;
  rising = feasible_rising;
  exactly = λ k x h. feasible_exactly k x;
  blank = blank_true left.feasible left.feasible_counts refl;
  beyond = λ i h. past_both left.feasible room.feasible 192 i refl refl h;
  beyond_c = λ k h. past_both left.feasible_counts room.feasible_counts 3 k refl refl h;
}

-- ── a build of the book in that room ──
up_nine : up_entries G left.plausible_counts ≡ 9
unfolding up_start choices entry
up_nine = refl

down_many : down_entries G left.plausible_counts left.feasible_counts ≡ 24
unfolding down_start choices entry
down_many = refl

counted_plausible : (c : List ℕ) → Counted G.kinds (Plausible G) c → (k : ℕ) → k < G.kinds → get_or c k 0 ≡ get_or left.plausible_counts k 0
counted_plausible c a = counted_once (Plausible G) c left.plausible_counts a (holds_counted (omega arith) (omega arith) plausible_held)

counted_feasible : (d : List ℕ) → Counted G.kinds (Feasible G) d → (k : ℕ) → k < G.kinds → get_or d k 0 ≡ get_or left.feasible_counts k 0
counted_feasible d a = counted_once (Feasible G) d left.feasible_counts a (holds_counted (omega arith) (omega arith) feasible_held)

-- no row applies to a build in memory that is enough
pub no_row : {m : Lent} → Roomy m → (n p : ℕ) → Applies book m n p → ⊥
no_row roomy n p (of_book a) = book_free n p a
no_row roomy n p (short_slice (inl h)) = omega (arith, roomy.plausible)
no_row roomy n p (short_slice (inr (inl h))) = omega (arith, roomy.plausible_counts)
no_row roomy n p (short_slice (inr (inr (inl h)))) = omega (arith, roomy.feasible)
no_row roomy n p (short_slice (inr (inr (inr h)))) = omega (arith, roomy.feasible_counts)
no_row roomy n p (over_plausible o) = over_never (omega arith) (omega arith) plausible_held o
no_row roomy n p (over_feasible o) = over_never (omega arith) (omega arith) feasible_held o
no_row roomy n p (short_up c a h) =
    let e = up_entries_same G (λ p j l k. lawful.kids_in p j l k) c left.plausible_counts (counted_plausible c a) in
    omega (arith, up_nine, roomy.up)
no_row roomy n p (short_down c d a b h) =
    let e = down_entries_same G (λ p j l k. lawful.kids_in p j l k) c left.plausible_counts (counted_plausible c a) (λ p l. lawful.left_in p l) d left.feasible_counts
    (counted_feasible d b) in
    omega (arith, down_many, roomy.down)

-- THEOREM: a build of Fig. 1's book in that room is accepted, with 9 up entries and 24 down entries, and leaves what was worked out
pub figure_built : BuildDue book room (accepted (9 ∷ 24 ∷ [])) left
unfolding up_start down_start choices entry
figure_built = (
  no_row (record { plausible = omega arith; plausible_counts = omega arith; feasible = omega arith; feasible_counts = omega arith; up = omega arith; down = omega arith }),
  record {
    plausible = plausible_held;
    feasible = feasible_held;
    up = up_is_right;
    up_rest = record { long = refl; beyond = refl };
    down = down_is_right;
    down_rest = record { long = refl; beyond = refl };
    counted = refl;
    up_fits = omega arith;
    down_fits = omega arith;
  },
)

-- What the tables hold, worked out: the codes and labels of a production by tying its slots one after another, and a test of whole tables that computes.
use mathlib.Core.Path.{◌≡◌, refl, sym, ap, ◌∙◌, subst}
use mathlib.Core.Logic.{◌↔◌}
use mathlib.Core.Bool.{Bool, true, false, ◌&&◌}
use mathlib.Core.List.{List, [], ◌∷◌}
use Prim.Native.Nat.{ℕ, suc, ◌+◌, ◌*◌, ◌≤◌, ◌<◌}
use native.Mathlib.Omega.{arith}
use borrow.Author.Tests.{ltb-true, eqb-true, le-ltb}
use lib.Dec.{ltb, eqb}
use lib.ListN.{length, get_or, take}
use Rattle.lists.specs.Pick.{pick}
use Rattle.lists.specs.Part.{part}
use Rattle.chains.specs.Limits.{max_kids}
use Rattle.chains.specs.Grammar.{Occ, Grammar, Lawful, slots, width}
use Rattle.chains.specs.Grouping.{Says, Alike}
use Rattle.chains.specs.Feasible.{Chosen}
use Rattle.chains.specs.Labels.{joins, index, add}
use Rattle.chains.specs.State.{code_on, code_pairs}
use Rattle.chains.proofs.Step.{width_few}
use Rattle.book.specs.Format.{prods, entry, grammar}
use Rattle.bookcheck.specs.Accepted.{Accepted}
use Rattle.ranks.specs.Entries.{up_entry, down_entry, labels, entry_bytes, none}
use Rattle.members.specs.Sets.{member}
use Rattle.tables.specs.Entries.{picked, Upward, Downward, Ranked, UpTable, Labelled, DownTable}
use Rattle.tables.specs.State.{based, tidy_from, tidied}
use Rattle.tables.proofs.FillState.{picked_long}
use Rattle.tables.proofs.StateEntry.{Showing, show_base, show_skip, show_tie, show_says, show_labelled, Below, below_at, below_all, chosen_at, chosen_all}
use Rattle.std.proofs.lemmas.Bool.{and_parts}
use Rattle.claims.proofs.Tests.{all_below, each_below, all_ranks, each_ranks, same, same_true}

-- the codes cs tied to the slots from t on
unfoldable pub tie_all : Grammar → ℕ → ℕ → List ℕ → List ℕ → List ℕ
tie_all G p t [] s = s
tie_all G p t (c ∷ cs) s = tie_all G p (suc t) cs (joins s (code_pairs t (width G p t) c))

module _ (G : Grammar) (L : Lawful G) (p : ℕ) (there : p < G.prods) (τ : ℕ → ℕ → ℕ → Type 0) where
  tied_all : (t : ℕ) (cs s : List ℕ) → t + length cs ≤ length (slots G p) → ((j a b : ℕ) → j < length cs → τ (t + j) a b ↔ Alike G (get_or (slots G p) (t + j) 0) (get_or cs j 0) a b)
      → Showing G p τ t s → Showing G p τ (t + length cs) (tie_all G p t cs s)
  unfolding tie_all
  tied_all t [] s room each h = let e : t + 0 ≡ t = omega arith in rw e h
  tied_all t (c ∷ cs) s room each h =
      let low : t < length (slots G p) = omega arith in
      let zero_more : t + 0 ≡ t = omega arith in
      let one_more : suc t + length cs ≡ t + suc (length cs) = omega arith in
      let here : (a b : ℕ) → τ t a b ↔ Alike G (get_or (slots G p) t 0) c a b = λ a b. rw zero_more at (each 0 a b (omega arith)) in
      let rest = tied_all (suc t) cs (joins s (code_pairs t (width G p t) c)) (omega arith)
      (λ j a b k. let e : t + suc j ≡ suc t + j = omega arith in rw e at (each (suc j) a b (omega arith)))
      (show_tie h c low (width_few G L p there t low) here) in
      rw one_more at rest

-- ── of an accepted book ──
module _ {b : List ℕ} (ok : Accepted b) where
  abbrev G : Grammar
  G = grammar b

  -- the labels of production p's occurrences once the codes cs of its children are tied, and once x of its left kind is besides
  abbrev pub up_state : ℕ → List ℕ → List ℕ
  up_state p cs = tie_all (grammar b) p 1 cs (based b (entry b p))

  abbrev pub down_state : ℕ → ℕ → List ℕ → List ℕ
  down_state p x cs = tie_all (grammar b) p 0 (x ∷ cs) (based b (entry b p))

  module _ (p : ℕ) (there : p < prods b) (cs : List ℕ) (long : length cs ≡ length ((grammar b).kids p)) where
    up_shown : Showing (grammar b) p (Below (grammar b) p cs long) (1 + length cs) (up_state p cs)
    up_shown =
        tied_all (grammar b) ok.lawful p there (Below (grammar b) p cs long) 1 cs (based b (entry b p)) (omega arith)
        (λ j x y h. let e : 1 + j ≡ suc j = omega arith in rw e (below_at (grammar b) p cs long j (omega arith) x y))
        (show_skip (show_base ok p there (Below (grammar b) p cs long)) (λ x y r. r))

    pub up_says : Says (width (grammar b) p 0) (code_on 0 (width (grammar b) p 0) (up_state p cs)) (λ x y. Upward (grammar b) p cs (0, x) (0, y))
    up_says =
        show_says up_shown (λ t x y h r. below_all (grammar b) p cs long t x y (omega arith) r) 0 (omega arith) (omega arith)
        (width_few (grammar b) ok.lawful p there 0 (omega arith))

    module _ (c : ℕ) where
      down_shown : Showing (grammar b) p (Chosen (grammar b) p c cs) (0 + length (c ∷ cs)) (down_state p c cs)
      down_shown =
          tied_all (grammar b) ok.lawful p there (Chosen (grammar b) p c cs) 0 (c ∷ cs) (based b (entry b p)) (omega arith)
          (λ j x y h. let e : 0 + j ≡ j = omega arith in rw e (chosen_at (grammar b) p cs long c j (omega arith) x y))
          (show_base ok p there (Chosen (grammar b) p c cs))

      pub down_says : (t : ℕ) → t < length (slots (grammar b) p)
          → Says (width (grammar b) p t) (code_on t (width (grammar b) p t) (down_state p c cs)) (λ x y. Downward (grammar b) p c cs (t, x) (t, y))
      down_says t h =
          show_says down_shown (λ t x y h r. chosen_all (grammar b) p cs long c t x y (omega arith) r) t h (omega (arith, ok.lawful.few_kids p there))
          (width_few (grammar b) ok.lawful p there t h)

      pub down_labels : Labelled (grammar b) p (Downward (grammar b) p c cs) (tidied (down_state p c cs))
      down_labels = show_labelled down_shown (λ t x y h r. chosen_all (grammar b) p cs long c t x y (omega arith) r)

-- ── labels by first appearance, with each case worked out only where it is met ──
abbrev pub tidy_case : Bool → ℕ → List ℕ → (List ℕ → List ℕ) → List ℕ
tidy_case true x seen rest = none ∷ rest seen
tidy_case false x seen rest = index x seen ∷ rest (add x seen)

unfoldable pub tidy : List ℕ → List ℕ → List ℕ
tidy [] seen = []
tidy (x ∷ l) seen = tidy_case (eqb x none) x seen (tidy l)

tidy_is : (l seen : List ℕ) → tidy l seen ≡ tidy_from seen l
unfolding tidy tidy_from
tidy_is [] seen = refl
tidy_is (x ∷ l) seen = go (eqb x none) (tidy_is l)
  where
    go : (t : Bool) → ((seen : List ℕ) → tidy l seen ≡ tidy_from seen l) → tidy_case t x seen (tidy l) ≡ pick t (none ∷ tidy_from seen l) (index x seen ∷ tidy_from (add x seen) l)
    go true later = ap (λ (u : List ℕ). none ∷ u) (later seen)
    go false later = ap (λ (u : List ℕ). index x seen ∷ u) (later (add x seen))

-- ── tables that are worked out so are right ──
-- r is below the count of k, and the member there is x
unfoldable pub rank_test : (s c : List ℕ) (k x r : ℕ) → Bool
rank_test s c k x r = ltb r (get_or c k 0) && eqb x (member s k r)

rank_true : (s c : List ℕ) (A k x t r : ℕ) (R : Occ → Occ → Type 0) → Says A x (λ a b. R (t, a) (t, b)) → rank_test s c k x r ≡ true → Ranked s c A k t R r
unfolding rank_test
rank_true s c A k x t r R says e =
    let (low, here) = and_parts (ltb r (get_or c k 0)) (eqb x (member s k r)) e in
    record { below = ltb-true r (get_or c k 0) low; says = subst (λ y. Says A y (λ a b. R (t, a) (t, b))) (eqb-true x (member s k r) here) says }

module _ (b : List ℕ) (s c : List ℕ) where
  -- the up entry of production p and the ranks rs
  unfoldable pub up_test : List ℕ → ℕ → List ℕ → Bool
  up_test up p rs =
      rank_test s c ((grammar b).left p) (code_on 0 (width (grammar b) p 0) (tie_all (grammar b) p 1 (picked s ((grammar b).kids p) rs) (based b (entry b p))))
      (get_or up (up_entry (grammar b) c p rs) none)

  -- THEOREM: where the test of every production and choice comes out true, the up table is right
  pub up_right : Accepted b → (up : List ℕ) → ((p : ℕ) → p < prods b → all_ranks c ((grammar b).kids p) (up_test up p) ≡ true) → UpTable (grammar b) s c up
  unfolding up_test
  up_right ok up e p rs there small =
      let here = each_ranks c ((grammar b).kids p) (up_test up p) rs (e p there) small in
      let cs = picked s ((grammar b).kids p) rs in
      rank_true s c (width (grammar b) p 0) ((grammar b).left p) (code_on 0 (width (grammar b) p 0) (up_state ok p cs)) 0 (get_or up (up_entry (grammar b) c p rs) none)
      (Upward (grammar b) p cs) (up_says ok p there cs (picked_long c s ((grammar b).kids p) rs small)) here

  module _ (f d : List ℕ) where
    -- the bytes of the down entry of production p, the feasible rank u and the ranks rs
    abbrev entry_of : List ℕ → ℕ → ℕ → List ℕ → List ℕ
    entry_of down p u rs = part (down_entry (grammar b) c d p u rs * entry_bytes) entry_bytes down

    abbrev state_of : ℕ → ℕ → List ℕ → List ℕ
    state_of p u rs = tie_all (grammar b) p 0 (member f ((grammar b).left p) u ∷ picked s ((grammar b).kids p) rs) (based b (entry b p))

    abbrev child_test : List ℕ → ℕ → ℕ → List ℕ → ℕ → Bool
    child_test down p u rs j =
        rank_test f d (get_or ((grammar b).kids p) j 0) (code_on (suc j) (width (grammar b) p (suc j)) (state_of p u rs)) (get_or (entry_of down p u rs) (labels + j) none)

    abbrev rest_test : List ℕ → ℕ → ℕ → List ℕ → ℕ → Bool
    rest_test down p u rs j = pick (ltb j (length ((grammar b).kids p))) true (eqb (get_or (entry_of down p u rs) (labels + j) none) none)

    unfoldable pub down_test : List ℕ → ℕ → ℕ → List ℕ → Bool
    down_test down p u rs =
        same (tidy (state_of p u rs) []) (take labels (entry_of down p u rs))
        && (all_below (child_test down p u rs) (length ((grammar b).kids p)) && all_below (rest_test down p u rs) max_kids)

    -- THEOREM: and so the down table
    pub down_right : Accepted b → (down : List ℕ)
        → ((p : ℕ) → p < prods b → all_below (λ u. all_ranks c ((grammar b).kids p) (down_test down p u)) (get_or d ((grammar b).left p) 0) ≡ true)
        → DownTable (grammar b) s c f d down
    unfolding down_test
    down_right ok down e p u rs there low small =
        let by_rank : ℕ → Bool = λ u. all_ranks c ((grammar b).kids p) (down_test down p u) in
        let here = each_ranks c ((grammar b).kids p) (down_test down p u) rs
        (each_below by_rank (get_or d ((grammar b).left p) 0) u (e p there) low) small in
        let labels_same = same (tidy (state_of p u rs) []) (take labels (entry_of down p u rs)) in
        let ranks_same = all_below (child_test down p u rs) (length ((grammar b).kids p)) in
        let rest_same = all_below (rest_test down p u rs) max_kids in
        let (e₁, e₂) = and_parts labels_same (ranks_same && rest_same) here in
        let (e₃, e₄) = and_parts ranks_same rest_same e₂ in
        let x = member f ((grammar b).left p) u in
        let cs = picked s ((grammar b).kids p) rs in
        let long = picked_long c s ((grammar b).kids p) rs small in
        record {
          blocks = subst (Labelled (grammar b) p (Downward (grammar b) p x cs)) (sym (tidy_is (state_of p u rs) []) ∙ same_true (tidy (state_of p u rs) []) (take labels (entry_of down p u rs)) e₁) (down_labels ok p there cs long x);
          ranks = λ j h. rank_true f d (width (grammar b) p (suc j)) (get_or ((grammar b).kids p) j 0) (code_on (suc j) (width (grammar b) p (suc j)) (state_of p u rs)) (suc j)
              (get_or (entry_of down p u rs) (labels + j) none) (Downward (grammar b) p x cs) (down_says ok p there cs long x (suc j) (omega arith))
              (each_below (child_test down p u rs) (length ((grammar b).kids p)) j e₃ h);
          rest = λ j h k.
              let t = each_below (rest_test down p u rs) max_kids j e₄ k in
              eqb-true (get_or (entry_of down p u rs) (labels + j) none) none (rw (le-ltb j (length ((grammar b).kids p)) h) at t);
        }

-- Laws of the walk: what is found at one position, and what the reading of a subtree comes to.
use mathlib.Core.Path.{◌≡◌, refl, sym, ap, subst, ◌∙◌}
use mathlib.Core.List.{List, ◌∷◌, ◌++◌}
use Prim.Native.Nat.{ℕ, suc, ◌+◌, ◌-◌, ◌≤◌, ◌<◌}
use native.Mathlib.Omega.{arith}
use native.Mathlib.Numerals.{add-one}
use lib.ListN.{length, get_or, drop}
use lib.Seq.{drop-cons}
use Rattle.std.proofs.Common.{Ok, Err}
use Rattle.chains.specs.Limits.{max_settings, max_prods, max_levels}
use Rattle.refusals.specs.Table.{number_of}
use Rattle.refusals.specs.declared.Refusal.{Refusal}
use Rattle.refusals.specs.declared.Refusal.TheVariants.{UnknownProduction, Misfit, TooDeep}
use Rattle.refusals.specs.declared.Refused.{Refused}
use Rattle.book.specs.Format.{grammar, left_at, arity_at, entry}
use Rattle.book.specs.Reading.{told, settings_of, kid_at, Index}
use Rattle.bookcheck.specs.Accepted.{Accepted}
use Rattle.bookcheck.proofs.Accepted.{told_prods, settings_read, place_read, arity_read, kid_read}
use Rattle.sheet.specs.Reading.{Node, due, Read, further}
use Rattle.sheet.specs.Stops.{Stop}
use Rattle.sheet.specs.Trees.{Sound}
use Rattle.sheet.specs.Walk.{Standing, Awaited, Stopped, Fit, Looked, Walked}
use Rattle.sheet.specs.declared.Counts.{Counts}
use Rattle.sheet.proofs.Accepted.{book_accepted}
use Rattle.sheet.proofs.Reading.{settings_next}
use Rattle.sheet.proofs.Stops.{stop_unknown, stop_end, stop_kind, stop_deep}

-- ── what stands at one position ──
module _ {b : List ℕ} (sound : Sound b) where
  abbrev a : Accepted b
  a = book_accepted b sound

  -- a number that the trailer counts is a production's
  known_low : {p : ℕ} → p < told b 2 → p < (grammar b).prods
  known_low h = omega (arith, told_prods a)

  pub place_within : {p : ℕ} → p < told b 2 → p < max_prods
  place_within h = omega (arith, told_prods a, a.few_prods)

  module _ (l : List ℕ) {i : ℕ} (k levels : ℕ) where
    found_stop : (q : Refusal) {r : Refused} → r ≡ record { refusal = q; place = i } → Awaited b l i k levels (λ ds. Stop (grammar b) l (number_of q) i) → Looked b l i k levels (Err r)
    found_stop q e s = record { case = subst (Stopped b l i k levels) (sym e) s }

    pub found_end : {r : Refused} → r ≡ record { refusal = Misfit; place = i } → i ≤ length l → length l ≤ i → Looked b l i k levels (Err r)
    found_end e h m = found_stop Misfit e (λ v ds x r. stop_end r (omega arith))

    module _ {p : ℕ} (there : i < length l) (is : p ≡ get_or l i 0) where
      pub found_unknown : {r : Refused} → r ≡ record { refusal = UnknownProduction; place = i } → told b 2 ≤ p → Looked b l i k levels (Err r)
      found_unknown e m = found_stop UnknownProduction e (λ v ds x r. stop_unknown r (there, omega (arith, told_prods a)))

      module _ (known : p < told b 2) {places : List ℕ} (ix : Index b places) where
        -- the entry's place, by the index
        indexed : get_or places p 0 ≡ entry b (get_or l i 0)
        indexed = place_read a ix p (known_low known) ∙ ap (entry b) is

        pub found_kind : {r : Refused} → r ≡ record { refusal = Misfit; place = i } → (left_at b (get_or places p 0) ≡ k → ⊥) → Looked b l i k levels (Err r)
        found_kind e d = found_stop Misfit e (λ v ds x r. stop_kind r there (omega (arith, known_low known)) (λ y. d (ap (left_at b) indexed ∙ y)))

        module _ (kind : left_at b (get_or places p 0) ≡ k) where
          heads : (get_or l i 0 < (grammar b).prods) × ((grammar b).left (get_or l i 0) ≡ k)
          heads = (omega (arith, known_low known), sym (ap (left_at b) indexed) ∙ kind)

          pub found_deep : {r : Refused} → r ≡ record { refusal = TooDeep; place = i } → levels ≡ 0 → Looked b l i k levels (Err r)
          found_deep e z = found_stop TooDeep e (λ v ds x r. stop_deep r there heads (omega arith))

          pub found_fit : (levels ≡ 0 → ⊥) → Looked b l i k levels (Ok (get_or places p 0))
          found_fit z = record { case = record { there = there; heads = heads; levels_left = omega arith; place = indexed } }

-- ── the children of a node, one after another ──
-- j children of the node at i are read, and c counts up to there
pub record Children (b l : List ℕ) (i k levels at kids : ℕ) (c : Counts) (j : ℕ) : Type 0 where
  pub fit : Fit b l i k levels at
  pub all : kids ≡ length ((grammar b).kids (get_or l i 0))
  pub standing : Standing b l c
  pub onward : (v : ℕ) (ds : List Node) → v + levels ≡ suc max_levels → Read (grammar b) l i ((k, v) ∷ ds)
      → Read (grammar b) l c.nodes (due (suc v) (drop j ((grammar b).kids (get_or l i 0))) ++ ds)

module _ {b : List ℕ} (sound : Sound b) where
  -- the node's own byte
  module _ {l : List ℕ} {k levels at : ℕ} {c : Counts} (h : Standing b l c) (f : Fit b l c.nodes k levels at) where
    own_settings : (grammar b).settings ((grammar b).left (get_or l c.nodes 0)) ≡ settings_of b k
    own_settings = ap (grammar b).settings f.heads.1 ∙ sym (settings_read (book_accepted b sound) k)

    pub children_begin : {kids t : ℕ} → kids ≡ arity_at b at → t ≡ settings_of b k
        → Children b l c.nodes k levels at kids (record { nodes = c.nodes + 1; settings = c.settings + t }) 0
    children_begin {kids} {t} a e =
        let book = book_accepted b sound in
        let p = get_or l c.nodes 0 in
        let m : t ≤ max_settings = omega (arith, own_settings, book.lawful.few_settings ((grammar b).left p) (book.lawful.left_in p f.heads.0)) in
        record {
          fit = f;
          all = a ∙ ap (arity_at b) f.place ∙ arity_read book p f.heads.0;
          standing = record {
            within = omega (arith, f.there);
            sum = rw (add-one c.nodes) (omega (arith, h.sum, settings_next (grammar b) l c.nodes f.there, own_settings));
            low = omega (arith, h.low);
          };
          onward = λ v ds x r. rw (add-one c.nodes) (further r f.there f.heads (omega (arith, f.levels_left)) refl);
        }

  module _ {l : List ℕ} {i k levels at kids j : ℕ} {c : Counts} (h : Children b l i k levels at kids c j) where
    -- what is due after child j
    abbrev Later : ℕ → List Node → List Node
    Later v ds = due (suc v) (drop (suc j) ((grammar b).kids (get_or l i 0))) ++ ds

    -- child j is due next
    child_due : {x : ℕ} → j < kids → x ≡ kid_at b at j → (v : ℕ) (ds : List Node) → v + levels ≡ suc max_levels → Read (grammar b) l i ((k, v) ∷ ds)
        → Read (grammar b) l c.nodes ((x, suc v) ∷ Later v ds)
    child_due {x} m e v ds y r =
        let p = get_or l i 0 in
        let ks = (grammar b).kids p in
        let n : j < length ks = omega (arith, h.all) in
        let q : get_or ks j 0 ≡ x = sym (kid_read (book_accepted b sound) p h.fit.heads.0 j n) ∙ ap (λ (a : ℕ). kid_at b a j) (sym h.fit.place) ∙ sym e in
        subst (λ (js : List ℕ). Read (grammar b) l c.nodes (due (suc v) js ++ ds)) (drop-cons ks j 0 n ∙ ap (λ (c : ℕ). c ∷ drop (suc j) ks) q) (h.onward v ds y r)

    module _ {x : ℕ} (m : j < kids) (e : x ≡ kid_at b at j) where
      pub children_next : {d : Counts} → Walked b l c.nodes x (levels - 1) (Ok d) → Children b l i k levels at kids d (j + 1)
      children_next w = record {
        fit = h.fit;
        all = h.all;
        standing = w.case.0;
        onward = λ v ds y r. rw (add-one j) (w.case.1 (suc v) (Later v ds) (omega (arith, h.fit.levels_left)) (child_due m e v ds y r));
      }

      pub children_stop : {r : Refused} → Walked b l c.nodes x (levels - 1) (Err r) → Walked b l i k levels (Err r)
      children_stop w = record { case = λ v ds y r. w.case (suc v) (Later v ds) (omega (arith, h.fit.levels_left)) (child_due m e v ds y r) }

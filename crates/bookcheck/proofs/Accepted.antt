-- An accepted book: what a check's acceptance says of it, and what its readers may lean on.
use mathlib.Core.Path.{◌≡◌, refl, ap, sym, ◌∙◌, Σ_path}
use mathlib.Core.Logic.{inl, inr}
use mathlib.Core.Bool.{Bool, true, false}
use mathlib.Core.List.{List, [], ◌∷◌, Memᴰ}
use Prim.Native.Nat.{ℕ, ◌+◌, ◌*◌, ◌≤◌, ◌<◌}
use native.Mathlib.Decide.{dec_le, dec_lt, ℕ_discrete}
use native.Mathlib.Omega.{arith}
use lib.ListN.{length, get_or}
use borrow.Author.Tests.{lt-ltb}
use Rattle.lists.specs.Refusals.{accepted}
use Rattle.chains.specs.Limits.{max_settings, max_kids}
use Rattle.chains.specs.Grammar.{Occ, Tie, slots, Exists, Target, Named, Tied, Lawful}
use Rattle.book.specs.Format.{trailer_bytes, edition, kinds, prods, start, trailer, kind_at, Bit, arity_at, pairs_at, next_at, entry, occ, grammar}
use Rattle.book.specs.Reading.{told, settings_of, mask_of, kid_at, to_at, from_at, pair_at, kind_in, following, Index}
use Rattle.bookcheck.specs.Refusals.{OutOfRange, Applies, other_edition, out_of_range, not_laid, bad_kind, bad_kids, bad_ties, headless, BookDue}
use Rattle.bookcheck.specs.Accepted.{Accepted}
use Rattle.bookcheck.specs.Search.{Stands}
use Rattle.bookcheck.proofs.Decided.{held, true_or_false, laid_decided, exists_decided, target_decided, rises_decided, head_decided}
use Rattle.bookcheck.proofs.Laying as laying
use Rattle.bookcheck.proofs.Entry as parts
use Rattle.bookcheck.proofs.Entry.{no_tie}
use Rattle.book.proofs.Places.{entry_next}
use Rattle.bookcheck.proofs.Tying.{tie_member, member_place}

-- what is tied is a member of the list of ties, and the other way round
tied_member : (ts : List Tie) (o o' : Occ) → Named ts o o' → Memᴰ (o, o') ts
tied_member [] o o' x' = elim x' [ ]
tied_member (t ∷ ts) o o' (inl (e, e')) = mathlib.Core.List.Memᴰ.head (Σ_path e e')
tied_member (t ∷ ts) o o' (inr n) = mathlib.Core.List.Memᴰ.tail (tied_member ts o o' n)

member_tied : {t : Tie} {ts : List Tie} → Memᴰ t ts → Named ts t.0 t.1
member_tied (mathlib.Core.List.Memᴰ.head e) = inl (ap (λ u. u.0) e, ap (λ u. u.1) e)
member_tied (mathlib.Core.List.Memᴰ.tail m) = inr (member_tied m)

-- ── a book to which no row of the table applies is lawful ──
module _ (b : List ℕ) (none : (n p : ℕ) → Applies b n p → ⊥) where
  kept_range : OutOfRange b → ⊥
  kept_range h = none 3 0 (out_of_range h)

  lawful_book : Lawful (grammar b)
  lawful_book = record {
    start_in = laying.start_in b kept_range;
    few_settings = λ k l. held (dec_le ((grammar b).settings k) max_settings) (λ h. none 5 k (bad_kind k l (inl (omega arith))));
    masked = λ k i l e. held (dec_lt i ((grammar b).settings k)) (λ h. none 5 k (bad_kind k l (inr (inl (i, omega arith, e)))));
    start_free = λ i. not_inherited i (true_or_false ((grammar b).inherits (start b) i) true);
    left_in = λ p l. held (dec_lt ((grammar b).left p) (kinds b)) (λ h. none 6 p (bad_kids p l (inl (omega arith))));
    few_kids = λ p l. held (dec_le (length ((grammar b).kids p)) max_kids) (λ h. none 6 p (bad_kids p l (inr (inl (omega arith)))));
    kids_in = λ p j l h. held (dec_lt (get_or ((grammar b).kids p) j 0) (kinds b)) (λ n. none 6 p (bad_kids p l (inr (inr (j, h, inl (omega arith))))));
    start_alone = λ p j l h e. none 6 p (bad_kids p l (inr (inr (j, h, inr e))));
    named = λ p o o' l t. fair p l (o, o') (tied_member ((grammar b).ties p) o o' t);
    rises = λ p l. held (rises_decided ((grammar b).ties p)) (λ h. none 7 p (bad_ties p l (inr h)));
    headed = λ k l. let (p, i, e) = held (head_decided (grammar b) k (prods b)) (λ h. none 8 k (headless k l (λ p i e. h (p, i, e)))) in (p, (i, e));
  }
    where
      not_inherited : (i : ℕ) → Dec ((grammar b).inherits (start b) i ≡ true) → (grammar b).inherits (start b) i ≡ false
      not_inherited i (yes e) = absurd (none 5 (start b) (bad_kind (start b) (laying.start_in b kept_range) (inr (inr (refl, (i, e))))))
      not_inherited i (no n) = other ((grammar b).inherits (start b) i) n
        where
          other : (x : Bool) → (x ≡ true → ⊥) → x ≡ false
          other true n = absurd (n refl)
          other false n = refl

      fair : (p : ℕ) → p < prods b → (t : Tie) → Memᴰ t ((grammar b).ties p)
          → Exists (grammar b) p t.0 × Exists (grammar b) p t.1 × Target (grammar b) p t.0
      fair p l t m = (
        held (exists_decided (grammar b) p t.0) (λ h. none 7 p (bad_ties p l (inl (t, m, inl h)))),
        held (exists_decided (grammar b) p t.1) (λ h. none 7 p (bad_ties p l (inl (t, m, inr (inl h))))),
        held (target_decided (grammar b) p t.0) (λ h. none 7 p (bad_ties p l (inl (t, m, inr (inr h))))),
      )

  blameless : Accepted b
  blameless = record {
    known = held (ℕ_discrete (edition b) 1) (λ h. none 2 0 (other_edition h));
    some_kinds = laying.some_kinds b kept_range;
    few_kinds = laying.few_kinds b kept_range;
    some_prods = laying.some_prods b kept_range;
    few_prods = laying.few_prods b kept_range;
    laid = held (laid_decided b) (λ h. none 4 0 (not_laid h));
    lawful = lawful_book;
  }

-- THEOREM: a book that a check accepts is lawful, its three parts fill it, and the counts are its own
pub accepted_book : (b : List ℕ) (n m : ℕ) → BookDue b (accepted (n ∷ m ∷ [])) → Accepted b × (n ≡ kinds b) × (m ≡ prods b)
accepted_book b n m d = let e = d.0 in (blameless b (λ n p. d.1 (n, p)), cc, cc)

-- ── what the accessors read of an accepted book is what its grammar has ──
module _ {b : List ℕ} (a : Accepted b) where
  pub whole : trailer_bytes ≤ length b
  whole = a.laid.whole

  pub told_kinds : told b 1 ≡ kinds b
  told_kinds = laying.told_is b 1 whole

  pub told_prods : told b 2 ≡ prods b
  told_prods = laying.told_is b 2 whole

  pub told_start : told b 3 ≡ start b
  told_start = laying.told_is b 3 whole

  pub kind_front : (k : ℕ) → kind_at b k ≡ 2 * k
  kind_front = laying.kind_front a.laid

  pub entry_front : entry b 0 ≡ 2 * kinds b
  entry_front = laying.entry_front a.laid

  pub settings_read : (k : ℕ) → settings_of b k ≡ (grammar b).settings k
  settings_read = laying.settings_is a.laid

  pub mask_read : (k i : ℕ) → Bit (mask_of b k) i ≡ (grammar b).inherits k i
  mask_read = laying.inherits_is a.laid

  pub place_read : {places : List ℕ} → Index b places → (p : ℕ) → p < prods b → get_or places p 0 ≡ entry b p
  place_read x p l = rw (lt-ltb p (told b 2) (omega (arith, told_prods))) at (x.each p (omega (arith, a.few_prods)))

  -- the kind entries and every production entry lie before the trailer: no byte that the grammar reads is a default
  pub kinds_inside : (k : ℕ) → k < kinds b → 2 * k + 1 < trailer b
  kinds_inside k l = omega (arith, a.laid.then_prods)

  pub inside : (p : ℕ) → p < prods b → next_at b (entry b p) ≤ trailer b
  inside = laying.inside a.laid

  module _ (p : ℕ) (l : p < prods b) where
    pub stands : Stands b (entry b p)
    stands = record { laid = a.laid; inside = inside p l }

    pub next_read : following b (entry b p) ≡ entry b (p + 1)
    next_read = rw (lt-ltb (entry b p) (length b) (omega (arith, inside p l))) (sym (entry_next b p))

    pub arity_read : arity_at b (entry b p) ≡ length ((grammar b).kids p)
    arity_read = sym (parts.kids_long stands)

    pub kid_read : (j : ℕ) → j < length ((grammar b).kids p) → kid_at b (entry b p) j ≡ get_or ((grammar b).kids p) j 0
    kid_read j h = parts.kid_is stands j (omega (arith, arity_read))

    pub kind_in_read : (s : ℕ) → s < length (slots (grammar b) p) → kind_in b (entry b p) s ≡ get_or (slots (grammar b) p) s 0
    kind_in_read = parts.kind_in_is stands

    pub pairs_read : pairs_at b (entry b p) ≡ length ((grammar b).ties p)
    pairs_read = sym (parts.ties_count stands)

    pub pair_read : (i : ℕ) → i < length ((grammar b).ties p) → pair_at b (entry b p) i ≡ get_or ((grammar b).ties p) i no_tie
    pair_read i h = parts.tie_is stands i (omega (arith, pairs_read))

    -- what is tied is a pair, and each pair is tied
    pub tied_pair : (o o' : Occ) → Tied (grammar b) p o o' → (i : ℕ) × (i < length ((grammar b).ties p)) × ((o, o') ≡ pair_at b (entry b p) i)
    tied_pair o o' t =
        let (i, h, e) = member_place (tied_member ((grammar b).ties p) o o' t) in
        (i, h, e ∙ sym (pair_read i h))

    pub pair_tied : (i : ℕ) → i < length ((grammar b).ties p) → Tied (grammar b) p (occ (to_at b (entry b p) i)) (occ (from_at b (entry b p) i))
    pair_tied i h =
        let m : Memᴰ (pair_at b (entry b p) i) ((grammar b).ties p) = rw (pair_read i h) (tie_member ((grammar b).ties p) i h) in
        member_tied m

    -- an occurrence byte of a pair is below 8 times the number of slots
    occurrence_low : (o : ℕ) → Exists (grammar b) p (occ o) → o < 8 * (1 + max_kids)
    occurrence_low o e = omega (arith, e.0, a.lawful.few_kids p l)

    pub to_low : (i : ℕ) → i < length ((grammar b).ties p) → to_at b (entry b p) i < 8 * (1 + max_kids)
    to_low i h = occurrence_low _ (a.lawful.named p _ _ l (pair_tied i h)).0

    pub from_low : (i : ℕ) → i < length ((grammar b).ties p) → from_at b (entry b p) i < 8 * (1 + max_kids)
    from_low i h = occurrence_low _ (a.lawful.named p _ _ l (pair_tied i h)).1

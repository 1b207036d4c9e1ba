-- A test of a book that computes: where it comes out true, no row of the book's table applies.
use mathlib.Core.Path.{◌≡◌, refl, sym}
use mathlib.Core.Logic.{inl, inr}
use mathlib.Core.Bool.{Bool, true, false, ◌&&◌, not}
use mathlib.Core.List.{List, [], ◌∷◌}
use Prim.Native.Nat.{ℕ, zero, suc, ◌/◌, ◌^◌, ◌≤◌, ◌<◌}
use native.Mathlib.Omega.{arith}
use borrow.Author.Tests.{ltb-true, leb-true, eqb-true, eqb-false, not-true}
use lib.Dec.{ltb, leb, eqb}
use lib.ListN.{length, get_or}
use Rattle.lists.specs.Pick.{pick}
use Rattle.lists.specs.Refusals.{Sooner}
use Rattle.chains.specs.Limits.{max_settings, max_kids}
use Rattle.chains.specs.Grammar.{Occ, Tie, Grammar, slots, width, Exists, Target, order, Rises}
use Rattle.book.specs.Format.{edition, kinds, prods, start, Laid, grammar}
use Rattle.book.specs.Reading.{settings_of, mask_of}
use Rattle.bookcheck.specs.Refusals.{OutOfRange, BadKind, BadKids, BadTies, Headless, Applies, short, other_edition, out_of_range, not_laid, bad_kind, bad_kids, bad_ties, headless}
use Rattle.bookcheck.proofs.Kinding.{fair_kind}
use Rattle.std.specs.List.{list_all}
use Rattle.std.proofs.lemmas.Bool.{false≢true, and_parts}
use Rattle.claims.proofs.Tests.{all_below, each_below, each_in}

-- ── kinds ──
unfoldable pub kind_test : List ℕ → ℕ → Bool
kind_test b k =
    leb (settings_of b k) max_settings && (leb (mask_of b k / 2 ^ settings_of b k) 0 && pick (eqb k (start b)) (leb (mask_of b k) 0) true)

kind_fair : (b : List ℕ) → Laid b → (k : ℕ) → kind_test b k ≡ true → BadKind (grammar b) k → ⊥
unfolding kind_test
kind_fair b l k e =
    let rest = pick (eqb k (start b)) (leb (mask_of b k) 0) true in
    let (few, e₁) = and_parts (leb (settings_of b k) max_settings) (leb (mask_of b k / 2 ^ settings_of b k) 0 && rest) e in
    let (low, e₂) = and_parts (leb (mask_of b k / 2 ^ settings_of b k) 0) rest e₁ in
    fair_kind l k refl refl (leb-true (settings_of b k) max_settings few) (leb-true (mask_of b k / 2 ^ settings_of b k) 0 low) (at_start (eqb k (start b)) refl e₂)
  where
    at_start : (t : Bool) → eqb k (start b) ≡ t → pick t (leb (mask_of b k) 0) true ≡ true → k ≡ start b → mask_of b k ≤ 0
    at_start true h e q = leb-true (mask_of b k) 0 e
    at_start false h e q = absurd (eqb-false k (start b) h q)

-- ── left kinds and children ──
unfoldable pub kids_test : Grammar → ℕ → Bool
kids_test G p =
    ltb (G.left p) G.kinds
    && (leb (length (G.kids p)) max_kids
    && all_below (λ j. ltb (get_or (G.kids p) j 0) G.kinds && not (eqb (get_or (G.kids p) j 0) G.start)) (length (G.kids p)))

kids_all_fair : (G : Grammar) (p : ℕ) → kids_test G p ≡ true → BadKids G p → ⊥
unfolding kids_test
kids_all_fair G p e bad =
    let each : ℕ → Bool = λ j. ltb (get_or (G.kids p) j 0) G.kinds && not (eqb (get_or (G.kids p) j 0) G.start) in
    let (low, e₁) = and_parts (ltb (G.left p) G.kinds) (leb (length (G.kids p)) max_kids && all_below each (length (G.kids p))) e in
    let (few, all) = and_parts (leb (length (G.kids p)) max_kids) (all_below each (length (G.kids p))) e₁ in
    go (ltb-true (G.left p) G.kinds low) (leb-true (length (G.kids p)) max_kids few)
    (λ j h. and_parts (ltb (get_or (G.kids p) j 0) G.kinds) (not (eqb (get_or (G.kids p) j 0) G.start)) (each_below each (length (G.kids p)) j all h)) bad
  where
    go : G.left p < G.kinds → length (G.kids p) ≤ max_kids
        → ((j : ℕ) → j < length (G.kids p) → (ltb (get_or (G.kids p) j 0) G.kinds ≡ true) × (not (eqb (get_or (G.kids p) j 0) G.start) ≡ true)) → BadKids G p → ⊥
    go low few each (inl h) = omega arith
    go low few each (inr (inl h)) = omega arith
    go low few each (inr (inr (j, h, inl u))) = let l = ltb-true (get_or (G.kids p) j 0) G.kinds (each j h).0 in omega arith
    go low few each (inr (inr (j, h, inr u))) = eqb-false (get_or (G.kids p) j 0) G.start (not-true (eqb (get_or (G.kids p) j 0) G.start) (each j h).1) u

-- ── ties ──
unfoldable pub exists_test : Grammar → ℕ → Occ → Bool
exists_test G p o = ltb o.0 (length (slots G p)) && ltb o.1 (width G p o.0)

exists_true : (G : Grammar) (p : ℕ) (o : Occ) → exists_test G p o ≡ true → Exists G p o
unfolding exists_test
exists_true G p o e =
    let (s, a) = and_parts (ltb o.0 (length (slots G p))) (ltb o.1 (width G p o.0)) e in
    (ltb-true o.0 (length (slots G p)) s, ltb-true o.1 (width G p o.0) a)

unfoldable pub target_test : Grammar → ℕ → Occ → Bool
target_test G p o = pick (eqb o.0 0) (not (G.inherits (G.left p) o.1)) (G.inherits (get_or (slots G p) o.0 0) o.1)

target_true : (G : Grammar) (p : ℕ) (o : Occ) → target_test G p o ≡ true → Target G p o
unfolding target_test
target_true G p o e = go (eqb o.0 0) refl e
  where
    go : (t : Bool) → eqb o.0 0 ≡ t → pick t (not (G.inherits (G.left p) o.1)) (G.inherits (get_or (slots G p) o.0 0) o.1) ≡ true → Target G p o
    go true h e = inl (eqb-true o.0 0 h, not-true (G.inherits (G.left p) o.1) e)
    go false h e = let n : o.0 ≡ 0 → ⊥ = eqb-false o.0 0 h in inr (omega arith, e)

unfoldable pub sooner_test : List ℕ → List ℕ → Bool
sooner_test [] m = false
sooner_test (x ∷ l) [] = false
sooner_test (x ∷ l) (y ∷ m) = pick (ltb x y) true (eqb x y && sooner_test l m)

sooner_true : (l m : List ℕ) → sooner_test l m ≡ true → Sooner l m
unfolding sooner_test
sooner_true [] m e = absurd (false≢true e)
sooner_true (x ∷ l) [] e = absurd (false≢true e)
sooner_true (x ∷ l) (y ∷ m) e = go (ltb x y) refl e (λ h. sooner_true l m h)
  where
    go : (t : Bool) → ltb x y ≡ t → pick t true (eqb x y && sooner_test l m) ≡ true → (sooner_test l m ≡ true → Sooner l m) → Sooner (x ∷ l) (y ∷ m)
    go true h e later = inl (ltb-true x y h)
    go false h e later = let (i, r) = and_parts (eqb x y) (sooner_test l m) e in inr (eqb-true x y i, later r)

unfoldable pub rises_test : List Tie → Bool
rises_test [] = true
rises_test (t ∷ []) = true
rises_test (t ∷ u ∷ ts) = sooner_test (order t) (order u) && rises_test (u ∷ ts)

rises_true : (ts : List Tie) → rises_test ts ≡ true → Rises ts
unfolding rises_test
rises_true [] e = tt
rises_true (t ∷ []) e = tt
rises_true (t ∷ u ∷ ts) e =
    let (here, rest) = and_parts (sooner_test (order t) (order u)) (rises_test (u ∷ ts)) e in
    (sooner_true (order t) (order u) here, rises_true (u ∷ ts) rest)

abbrev pub tie_test : Grammar → ℕ → Tie → Bool
tie_test G p t = exists_test G p t.0 && (exists_test G p t.1 && target_test G p t.0)

unfoldable pub ties_test : Grammar → ℕ → Bool
ties_test G p = list_all (tie_test G p) (G.ties p) && rises_test (G.ties p)

ties_all_fair : (G : Grammar) (p : ℕ) → ties_test G p ≡ true → BadTies G p → ⊥
unfolding ties_test
ties_all_fair G p e bad = let (all, rise) = and_parts (list_all (tie_test G p) (G.ties p)) (rises_test (G.ties p)) e in go all rise bad
  where
    go : list_all (tie_test G p) (G.ties p) ≡ true → rises_test (G.ties p) ≡ true → BadTies G p → ⊥
    go all rise (inl (t, m, h)) =
        let (x, e₁) = and_parts (exists_test G p t.0) (exists_test G p t.1 && target_test G p t.0) (each_in (tie_test G p) (G.ties p) t all m) in
        let (y, z) = and_parts (exists_test G p t.1) (target_test G p t.0) e₁ in
        elim h [ inl n ↦ n (exists_true G p t.0 x) | inr k ↦ elim k [ inl n ↦ n (exists_true G p t.1 y) | inr n ↦ n (target_true G p t.0 z) ] ]
    go all rise (inr h) = h (rises_true (G.ties p) rise)

-- ── every kind has a production ──
unfoldable pub headless_below : Grammar → ℕ → ℕ → Bool
headless_below G k zero = true
headless_below G k (suc n) = pick (eqb (G.left n) k) false (headless_below G k n)

headed : (G : Grammar) (k n : ℕ) → headless_below G k n ≡ false → n ≤ G.prods → Headless G k → ⊥
unfolding headless_below
headed G k zero e l h = absurd (false≢true (sym e))
headed G k (suc n) e l h = go (eqb (G.left n) k) refl e (λ r. headed G k n r (omega arith) h)
  where
    go : (t : Bool) → eqb (G.left n) k ≡ t → pick t false (headless_below G k n) ≡ false → (headless_below G k n ≡ false → ⊥) → ⊥
    go true q e later = h n l (eqb-true (G.left n) k q)
    go false q e later = later e

-- ── the book ──
-- every kind, every production and its ties are fair
pub record Fair (b : List ℕ) : Type 0 where
  pub known : edition b ≡ 1
  pub in_range : OutOfRange b → ⊥
  pub laid : Laid b
  pub kinds_fair : all_below (kind_test b) (kinds b) ≡ true
  pub kids_fair : all_below (kids_test (grammar b)) (prods b) ≡ true
  pub ties_fair : all_below (ties_test (grammar b)) (prods b) ≡ true
  pub heads_fair : all_below (λ k. not (headless_below (grammar b) k (prods b))) (kinds b) ≡ true

-- THEOREM: then no row of the book's table applies
pub fair_sound : (b : List ℕ) → Fair b → (n p : ℕ) → Applies b n p → ⊥
fair_sound b f n p (short h) = let w = f.laid.whole in omega arith
fair_sound b f n p (other_edition h) = h f.known
fair_sound b f n p (out_of_range h) = f.in_range h
fair_sound b f n p (not_laid h) = h f.laid
fair_sound b f n p (bad_kind k l h) = kind_fair b f.laid k (each_below (kind_test b) (kinds b) k f.kinds_fair l) h
fair_sound b f n p (bad_kids q l h) = kids_all_fair (grammar b) q (each_below (kids_test (grammar b)) (prods b) q f.kids_fair l) h
fair_sound b f n p (bad_ties q l h) = ties_all_fair (grammar b) q (each_below (ties_test (grammar b)) (prods b) q f.ties_fair l) h
fair_sound b f n p (headless k l h) =
    let t = each_below (λ k. not (headless_below (grammar b) k (prods b))) (kinds b) k f.heads_fair l in
    headed (grammar b) k (prods b) (not-true (headless_below (grammar b) k (prods b)) t) (omega arith) h

-- The base grouping of a production as a state: its occurrences are there, and its dependences are what stands in one group.
use mathlib.Core.Path.{◌≡◌, refl, sym, ap, ◌∙◌, subst}
use mathlib.Core.Logic.{inl, inr, ◌↔◌}
use mathlib.Core.List.{List, [], ◌∷◌}
use Prim.Native.Nat.{ℕ, zero, suc, ◌+◌, ◌*◌, ◌/◌, ◌%◌, ◌≤◌, ◌<◌}
use native.Mathlib.Omega.{arith}
use native.Mathlib.Decide.{dec_lt}
use borrow.Author.Tests.{lt-ltb, le-ltb}
use lib.ListN.{length, get_or, get_or-eq_default}
use Rattle.chains.specs.Limits.{max_settings, max_kids}
use Rattle.chains.specs.Grammar.{Occ, Tie, Grammar, slots, width, Exists, Named, Tied}
use Rattle.chains.specs.Chain.{Eqv}
use Rattle.chains.specs.State.{number, numbers, Shown}
use Rattle.chains.proofs.Closure.{more}
use Rattle.chains.proofs.Labels.{Ends, length_labels, labels_at}
use Rattle.chains.proofs.State.{get_d_any, base_shown, ties_numbered}
use Rattle.book.specs.Format.{occ, prods, entry, arity_at, grammar}
use Rattle.book.specs.Reading.{kind_in}
use Rattle.bookcheck.proofs.Decided.{exists_decided}
use Rattle.bookcheck.specs.Accepted.{Accepted}
use Rattle.bookcheck.proofs.Accepted.{settings_read, arity_read, kind_in_read, pairs_read, inside, to_low, from_low}
use Rattle.ranks.specs.Entries.{labels, none}
use Rattle.tables.specs.State.{Present, State, width_in, own, apart, based, Readable}
use Rattle.tables.proofs.State.{joins_means}
use Rattle.tables.proofs.StateLoops.{apart_low}

-- what every pair's ends have
ends_named : {X : Type 0} (P : X → Type 0) (ts : List (X × X)) → ((x y : X) → Named ts x y → P x × P y) → Ends P ts
unfolding Ends
ends_named P [] h = tt
ends_named P (t ∷ ts) h = let e = h t.0 t.1 (inl (refl, refl)) in (e.0, e.1, ends_named P ts (λ x y n. h x y (inr n)))

ends_numbered : (P : ℕ → Type 0) (ts : List Tie) → Ends (λ o. P (number o)) ts → Ends P (numbers ts)
unfolding Ends
ends_numbered P [] h = tt
ends_numbered P (t ∷ ts) h = (h.0, h.1, ends_numbered P ts h.2)

module _ {b : List ℕ} (a : Accepted b) (p : ℕ) (l : p < prods b) where
  abbrev G : Grammar
  G = grammar b

  abbrev at : ℕ
  at = entry b p

  pub few_kids : arity_at b at ≤ max_kids
  few_kids = omega (arith, arity_read a p l, a.lawful.few_kids p l)

  pub width_is : (t : ℕ) → t ≤ arity_at b at → width_in b at t ≡ width G p t
  width_is t h = rw (le-ltb (arity_at b at) t h) (settings_read a (kind_in b at t) ∙ ap G.settings (kind_in_read a p l t (omega (arith, arity_read a p l))))

  no_width : (t : ℕ) → arity_at b at < t → width_in b at t ≡ 0
  no_width t h = rw (lt-ltb (arity_at b at) t h)

  -- the settings of a slot fit their eight places
  pub few_settings : (t : ℕ) → t < length (slots G p) → width G p t ≤ max_settings
  few_settings zero h = a.lawful.few_settings (G.left p) (a.lawful.left_in p l)
  few_settings (suc j) h = a.lawful.few_settings (get_or (G.kids p) j 0) (a.lawful.kids_in p j l (omega arith))

  exists_low : (o : Occ) → Exists G p o → (o.0 ≤ max_kids) × (o.1 < max_settings)
  exists_low o (h, k) = (omega (arith, arity_read a p l, few_kids), let w = few_settings o.0 h in omega arith)

  -- ---- every occurrence by itself
  apart_long : length (apart b at) ≡ labels
  apart_long = length_labels (own b at) 0 labels

  apart_at : (o : ℕ) → o < labels → get_or (apart b at) o none ≡ own b at o
  apart_at o h =
      get_d_any (apart b at) o none 0 (omega (arith, apart_long)) ∙ labels_at (own b at) 0 labels o h ∙ ap (own b at) (omega arith)

  -- what exists has its own number
  has_own : (o : ℕ) → Exists G p (occ o) → get_or (apart b at) o none ≡ o
  has_own o e =
      let (k, m) = exists_low (occ o) e in
      let t : o / max_settings ≤ arity_at b at = omega (arith, arity_read a p l, e.0) in
      let w : o % max_settings < width_in b at (o / max_settings) = rw (width_is (o / max_settings) t) e.1 in
      apart_at o (omega arith) ∙ rw (lt-ltb (o % max_settings) (width_in b at (o / max_settings)) w)

  -- and the others none
  has_none : (o : ℕ) → (Exists G p (occ o) → ⊥) → get_or (apart b at) o none ≡ none
  has_none o n = elim (dec_lt o labels) [ yes h ↦ apart_at o h ∙ missing | no h ↦ get_or-eq_default (apart b at) none (omega (arith, apart_long)) ]
    where
      short : Dec (arity_at b at < o / max_settings) → Dec (o % max_settings < width G p (o / max_settings)) → width_in b at (o / max_settings) ≤ o % max_settings
      short (yes k) d = omega (arith, no_width (o / max_settings) k)
      short (no k) (yes m) = absurd (n (omega (arith, arity_read a p l), m))
      short (no k) (no m) = let e = width_is (o / max_settings) (omega arith) in omega arith

      missing : own b at o ≡ none
      missing =
          rw (le-ltb (o % max_settings) (width_in b at (o / max_settings))
          (short (dec_lt (arity_at b at) (o / max_settings)) (dec_lt (o % max_settings) (width G p (o / max_settings)))))

  apart_present : (o : ℕ) → Present (apart b at) o ↔ Exists G p (occ o)
  apart_present o = (
    λ h. elim (exists_decided G p (occ o)) [ yes e ↦ e | no n ↦ absurd (omega (arith, has_none o n)) ],
    λ e. let (k, m) = exists_low (occ o) e in omega (arith, has_own o e),
  )

  apart_own : (o : ℕ) → Present (apart b at) o → get_or (apart b at) o none ≡ o
  apart_own o h = has_own o ((apart_present o).0 h)

  -- ---- the pairs
  tied_exist : (o q : Occ) → Tied G p o q → Exists G p o × Exists G p q
  tied_exist o q h = let e = a.lawful.named p o q l h in (e.0, e.1)

  named_low : Ends (λ o. o.1 < max_settings) (G.ties p)
  named_low = ends_named (λ o. o.1 < max_settings) (G.ties p) (λ o q h. let e = tied_exist o q h in ((exists_low o e.0).1, (exists_low q e.1).1))

  occ_number : (o : Occ) → o.1 < max_settings → occ (number o) ≡ o
  occ_number o h =
      let d : (o.0 * max_settings + o.1) / max_settings ≡ o.0 = omega arith in
      let m : (o.0 * max_settings + o.1) % max_settings ≡ o.1 = omega arith in
      rw (d, m)

  there : (o : Occ) → Exists G p o → Present (apart b at) (number o)
  there o e = (apart_present (number o)).1 (subst (Exists G p) (sym (occ_number o (exists_low o e).1)) e)

  pairs_there : Ends (Present (apart b at)) (numbers (G.ties p))
  pairs_there =
      ends_numbered (Present (apart b at)) (G.ties p)
      (ends_named (λ o. Present (apart b at) (number o)) (G.ties p) (λ o q h. let e = tied_exist o q h in (there o e.0, there q e.1)))

  -- THEOREM: an accepted book's entries can be read
  pub readable : Readable b at
  readable = record {
    room = omega (arith, inside a p l);
    low = λ i h. let k : i < length (G.ties p) = omega (arith, pairs_read a p l) in (to_low a p l i k, from_low a p l i k);
  }

  -- THEOREM: the base is a state of the occurrences that exist
  pub base_state : State (based b at)
  unfolding based
  base_state = (joins_means (apart_low b at) (numbers (G.ties p)) pairs_there).state

  pub base_present : (o : ℕ) → Present (based b at) o ↔ Exists G p (occ o)
  unfolding based
  base_present o =
      let t = (joins_means (apart_low b at) (numbers (G.ties p)) pairs_there).present o in
      let u = apart_present o in
      (λ h. u.0 (t.0 h), λ e. t.1 (u.1 e))

  -- and shows the chains of its dependences
  pub base_chains : (o q : Occ) → Eqv (Shown (based b at)) o q ↔ Eqv (Tied G p) o q
  unfolding based
  base_chains o q =
      let t = base_shown (apart b at) (numbers (G.ties p)) apart_own pairs_there o q in
      let u = ties_numbered (G.ties p) named_low in
      (λ c. more (λ o q n. (u o q).0 n) (t.0 c), λ c. t.1 (more (λ o q n. (u o q).1 n) c))

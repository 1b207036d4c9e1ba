-- The up table: what a production's entries ask for, and what those of all productions say.
use mathlib.Core.Path.{◌≡◌, refl, sym, ap, ap₂, ◌∙◌, subst}
use mathlib.Core.List.{List}
use Prim.Native.Nat.{ℕ, zero, suc, ◌+◌, ◌*◌, ◌≤◌, ◌<◌}
use native.Mathlib.Nat.{mul-one}
use native.Mathlib.Omega.{arith}
use lib.ListN.{get_or}
use Rattle.lists.specs.Part.{part}
use Rattle.lists.proofs.Parts.{get_d_part}
use Rattle.chains.specs.Grammar.{Grammar, width}
use Rattle.chains.specs.Grouping.{Says}
use Rattle.chains.specs.Plausible.{Plausible}
use Rattle.chains.specs.State.{code_on}
use Rattle.chains.proofs.Plausible.{plausible_sound}
use Rattle.book.specs.Format.{kinds, prods, entry, grammar}
use Rattle.bookcheck.specs.Accepted.{Accepted}
use Rattle.ranks.specs.Entries.{Ranks, choices, choice, up_start, up_entry, none}
use Rattle.ranks.proofs.Numbers.{choice_below}
use Rattle.tables.specs.Entries.{picked, Upward, Ranked, UpTable}
use Rattle.tables.specs.Promise.{up_entries, Written}
use Rattle.tables.specs.Shape.{kinds_from, shape_of, base_of, ShapeAt}
use Rattle.tables.specs.Sweep.{Exact}
use Rattle.tables.specs.Fill.{tied, Listed, UpByte, UpAsks, chosen, Choices, Choosable, so_many, Filled}
use Rattle.tables.specs.declared.shape.Shape.{Shape}
use Rattle.tables.proofs.StateBase.{few_settings}
use Rattle.tables.proofs.StateEntry.{show_says, below_all}
use Rattle.tables.proofs.Shapes.{shape_read, kind_is, width_is_of, kids_are}
use Rattle.tables.proofs.FillState.{picked_long, picked_members, shape_placed, base_ready, ranked_on, up_shows}

module _ {b : List ℕ} (a : Accepted b) {s c : List ℕ} (x : Exact (kinds b) (Plausible (grammar b)) s c) where
  abbrev G : Grammar
  G = grammar b

  -- ── a production ──
  module _ (p : ℕ) (l : p < prods b) {v : Shape} (h : ShapeAt b (entry b p) v) where
    abbrev ks : List ℕ
    ks = G.kids p

    -- the state once the members with these ranks are tied
    abbrev state : List ℕ → List ℕ
    state rs = tied v 1 (picked s ks rs) (base_of b p)

    module _ (rs : List ℕ) (r : Ranks c ks rs) where
      up_says : Says (width G p 0) (code_on 0 (width G p 0) (state rs)) (λ i k. Upward G p (picked s ks rs) (0, i) (0, k))
      up_says =
          let n = picked_long c s ks rs r in
          show_says (up_shows a p l h (picked s ks rs) n) (below_all G p (picked s ks rs) n) 0 (omega arith) (omega arith) (few_settings a p l 0 (omega arith))

      -- the result is plausible, and so it has a rank
      up_listed : Listed s c v 0 (state rs)
      up_listed =
          let m = picked_members x.fine ks rs (λ j k. a.lawful.kids_in p j l k) r in
          let w = x.whole (G.left p) (code_on 0 (width G p 0) (state rs)) (a.lawful.left_in p l)
          (plausible_sound G a.lawful p (code_on 0 (width G p 0) (state rs)) l (picked s ks rs, m, up_says)) in
          rw (kind_is a p l h 0 (omega arith), width_is_of a p l h 0 (omega arith)) w

      -- THEOREM: the byte that the state gives is the entry
      up_is : (e : List ℕ) → UpByte s c v (state rs) e → Ranked s c (width G p 0) (G.left p) 0 (Upward G p (picked s ks rs)) (get_or e 0 none)
      up_is e q = ranked_on a p l h 0 (omega arith) up_says q

    choosable : Choosable (UpAsks s c v) v 1 s c (base_of b p)
    choosable = record {
      ready = base_ready a p l h;
      placed = shape_placed a p l h x.fine;
      each = subst (λ ks. (rs : List ℕ) → Ranks c ks rs → UpAsks s c v (chosen v 1 s ks rs (base_of b p))) (sym (kids_are a p l h))
          (λ rs r. (shape_placed a p l h x.fine, up_listed rs r));
    }

    -- the entries of its choices are what the table has of it
    held : (e : List ℕ) (rs : List ℕ) → Ranks c ks rs → Choices (UpByte s c v) v 1 s c (kinds_from v 1) (base_of b p) (choice c ks rs) e
        → Ranked s c (width G p 0) (G.left p) 0 (Upward G p (picked s ks rs)) (get_or e 0 none)
    held e rs r q = up_is rs r e (subst (λ ks'. Choices (UpByte s c v) v 1 s c ks' (base_of b p) (choice c ks rs) e) (kids_are a p l h) q rs r refl)

  -- what the writing of a production's entries asks for
  pub up_choosable : (p : ℕ) → p < prods b → Choosable (UpAsks s c (shape_of b p)) (shape_of b p) 1 s c (base_of b p)
  up_choosable p l = choosable p l (shape_read refl)

  -- the number of its entries
  abbrev many : ℕ → ℕ
  many p = choices c (kinds_from (shape_of b p) 1)

  many_is : (p : ℕ) → p < prods b → many p ≡ choices c (G.kids p)
  many_is p l = ap (choices c) (kids_are a p l (shape_read refl))

  -- ── all productions ──
  start_is : (n : ℕ) → n ≤ prods b → so_many many n ≡ up_start G c n
  unfolding so_many up_start
  start_is zero k = refl
  start_is (suc n) k = ap₂ ◌+◌ (start_is n (omega arith)) (many_is n k)

  -- as many are written as are counted
  up_many : so_many many (prods b) ≡ up_entries G c
  up_many = start_is (prods b) (omega arith)

  pub up_room : {n u : ℕ} → u ≡ up_entries G c → u ≤ n → so_many many (prods b) * 1 ≤ n
  up_room e l = omega (arith, up_many, mul-one (so_many many (prods b)))

  -- THEOREM: all entries stand, and the rest is as it came
  pub up_done : {out out' : List ℕ} → Filled 1 many (prods b) (λ p. Choices (UpByte s c (shape_of b p)) (shape_of b p) 1 s c (kinds_from (shape_of b p) 1) (base_of b p)) out out'
      → UpTable G s c out' × Written (up_entries G c) out out'
  up_done {out} {out'} f = (table, subst (λ (m : ℕ). Written m out out') (mul-one _ ∙ up_many) f.rest)
    where
      byte : (i : ℕ) → get_or (part (i * 1) 1 out') 0 none ≡ get_or out' i none
      byte i = let e : i * 1 + 0 ≡ i = omega arith in get_d_part (i * 1) 1 out' 0 none (omega arith) ∙ ap (λ (k : ℕ). get_or out' k none) e

      table : UpTable G s c out'
      table p rs l r =
          let n = choice c (G.kids p) rs in
          let i : n < many p = rw (many_is p l) (choice_below c (G.kids p) rs r) in
          let e : so_many many p + n ≡ up_entry G c p rs = ap (λ (k : ℕ). k + n) (start_is p (omega arith)) in
          rw (byte (so_many many p + n), e) at (held p l (shape_read refl) (part ((so_many many p + n) * 1) 1 out') rs r (f.each p n l i))

-- The down table: what a production's entries ask for, and what those of all productions say.
use mathlib.Core.Path.{◌≡◌, refl, sym, ap, ap₂, subst, subst₂}
use mathlib.Core.List.{List}
use Prim.Native.Nat.{ℕ, zero, suc, ◌+◌, ◌*◌, ◌≤◌, ◌<◌}
use native.Mathlib.Omega.{arith}
use lib.ListN.{length, get_or}
use Rattle.lists.specs.Part.{part}
use Rattle.chains.specs.Grammar.{Grammar, slots, width}
use Rattle.chains.specs.Grouping.{Says}
use Rattle.chains.specs.Plausible.{Plausible}
use Rattle.chains.specs.Feasible.{Feasible, down, Chosen}
use Rattle.chains.specs.State.{code_on}
use Rattle.book.specs.Format.{kinds, prods, entry, grammar}
use Rattle.bookcheck.specs.Accepted.{Accepted}
use Rattle.ranks.specs.Entries.{Ranks, choices, choice, down_start, down_entry, entry_bytes}
use Rattle.ranks.proofs.Digits.{digit_below}
use Rattle.ranks.proofs.Numbers.{choice_below}
use Rattle.members.specs.Sets.{member}
use Rattle.members.proofs.Ranked.{ranked_has}
use Rattle.tables.specs.Entries.{picked, Downward, Labelled, DownEntry, DownTable}
use Rattle.tables.specs.Promise.{down_entries, Written}
use Rattle.tables.specs.Shape.{kind_of, kinds_from, shape_of, base_of, ShapeAt}
use Rattle.tables.specs.Sweep.{Exact}
use Rattle.tables.specs.Fill.{tied, tied_once, Listed, DownBytes, DownAsks, chosen, left_many, AllChoices, AllChoosable, so_many, Filled}
use Rattle.tables.specs.declared.shape.Shape.{Shape}
use Rattle.tables.proofs.Memory.{fine_placed}
use Rattle.tables.proofs.StateBase.{few_settings}
use Rattle.tables.proofs.StateEntry.{Showing, show_says, show_labelled, chosen_all}
use Rattle.tables.proofs.Shapes.{shape_read, arity_is, arity_few, kind_is, width_is_of, kids_are}
use Rattle.tables.proofs.FillState.{picked_long, picked_members, shape_placed, base_ready, ranked_on, down_shows}

module _ {b : List ℕ} (a : Accepted b) {s c f d : List ℕ} (x : Exact (kinds b) (Plausible (grammar b)) s c) (y : Exact (kinds b) (Feasible (grammar b)) f d) where
  abbrev G : Grammar
  G = grammar b

  -- ── a production ──
  module _ (p : ℕ) (l : p < prods b) {v : Shape} (h : ShapeAt b (entry b p) v) where
    abbrev ks : List ℕ
    ks = G.kids p

    abbrev left : ℕ
    left = G.left p

    left_is : kind_of v 0 ≡ left
    left_is = kind_is a p l h 0 (omega arith)

    -- the state once member u of the left kind, and the children's with these ranks, are tied
    abbrev state : ℕ → List ℕ → List ℕ
    state u rs = tied v 1 (picked s ks rs) (tied_once v 0 (member f left u) (base_of b p))

    module _ (u : ℕ) (rs : List ℕ) (k : u < get_or d left 0) (r : Ranks c ks rs) where
      abbrev codes : List ℕ
      codes = picked s ks rs

      long : length codes ≡ length ks
      long = picked_long c s ks rs r

      shows : Showing G p (Chosen G p (member f left u) codes) (length (slots G p)) (state u rs)
      shows = down_shows a p l h codes long (member f left u)

      down_says : (t : ℕ) → t < length (slots G p) → Says (width G p t) (code_on t (width G p t) (state u rs)) (λ i k. Downward G p (member f left u) codes (t, i) (t, k))
      down_says t m =
          show_says shows (chosen_all G p codes long (member f left u)) t m (omega (arith, arity_is a p l h, arity_few a p l h)) (few_settings a p l t m)

      feasible : Feasible G left (member f left u)
      feasible = let m = a.lawful.left_in p l in y.fine.only left (member f left u) m (ranked_has (fine_placed y.fine left m) u k)

      -- what a child is seen as is feasible, and so it has a rank
      down_listed : (j : ℕ) → j < v.arity → Listed f d v (suc j) (state u rs)
      down_listed j m =
          let n : j < length ks = omega (arith, arity_is a p l h) in
          let ms = picked_members x.fine ks rs (λ j k. a.lawful.kids_in p j l k) r in
          let code = code_on (suc j) (width G p (suc j)) (state u rs) in
          let w = y.whole (get_or ks j 0) code (a.lawful.kids_in p j l n) (down p j (member f left u) codes l n feasible ms (down_says (suc j) (omega arith))) in
          rw (kind_is a p l h (suc j) m, width_is_of a p l h (suc j) m) w

      -- THEOREM: the bytes that the state gives are the entry
      down_is : (e : List ℕ) → DownBytes f d v (state u rs) e → DownEntry G p f d (Downward G p (member f left u) codes) e
      down_is e q = record {
        blocks = subst (Labelled G p (Downward G p (member f left u) codes)) (sym q.blocks) (show_labelled shows (chosen_all G p codes long (member f left u)));
        ranks = λ j m.
            let n : j < v.arity = omega (arith, arity_is a p l h) in
            ranked_on a p l h (suc j) (omega arith) (down_says (suc j) (omega arith)) ((q.ranks j (omega (arith, arity_few a p l h))).there n);
        rest = λ j m n. (q.ranks j n).missing (omega (arith, arity_is a p l h));
      }

    choosable : AllChoosable (DownAsks f d v) v s c f d (base_of b p)
    choosable = record {
      ready = base_ready a p l h;
      placed = shape_placed a p l h x.fine;
      left = shape_placed a p l h y.fine;
      each = subst₂
          (λ (k : ℕ) (ks : List ℕ). (u : ℕ) (rs : List ℕ) → u < get_or d k 0 → Ranks c ks rs → DownAsks f d v (chosen v 1 s ks rs (tied_once v 0 (member f k u) (base_of b p))))
          (sym left_is) (sym (kids_are a p l h))
          (λ u rs k r. (shape_placed a p l h y.fine, down_listed u rs k r));
    }

    -- the entries of its choices are what the table has of it
    held : (e : List ℕ) (u : ℕ) (rs : List ℕ) → u < get_or d left 0 → Ranks c ks rs
        → AllChoices (DownBytes f d v) v s c f d (kinds_from v 1) (base_of b p) (u * choices c ks + choice c ks rs) e
        → DownEntry G p f d (Downward G p (member f left u) (picked s ks rs)) e
    held e u rs k r q =
        down_is u rs k r e
        (subst₂
        (λ (k : ℕ) (ks' : List ℕ). (u' : ℕ) (rs' : List ℕ) → u' < get_or d k 0 → Ranks c ks' rs' → u' * choices c ks' + choice c ks' rs' ≡ u * choices c ks + choice c ks rs
        → DownBytes f d v (chosen v 1 s ks' rs' (tied_once v 0 (member f k u') (base_of b p))) e)
        left_is (kids_are a p l h) q u rs k r refl)

    counted : left_many v d * choices c (kinds_from v 1) ≡ get_or d left 0 * choices c ks
    counted = ap₂ (λ (k : ℕ) (ks : List ℕ). get_or d k 0 * choices c ks) left_is (kids_are a p l h)

  -- what the writing of a production's entries asks for
  pub down_choosable : (p : ℕ) → p < prods b → AllChoosable (DownAsks f d (shape_of b p)) (shape_of b p) s c f d (base_of b p)
  down_choosable p l = choosable p l (shape_read refl)

  -- the number of its entries
  abbrev many : ℕ → ℕ
  many p = left_many (shape_of b p) d * choices c (kinds_from (shape_of b p) 1)

  many_is : (p : ℕ) → p < prods b → many p ≡ get_or d (G.left p) 0 * choices c (G.kids p)
  many_is p l = counted p l (shape_read refl)

  -- ── all productions ──
  start_is : (n : ℕ) → n ≤ prods b → so_many many n ≡ down_start G c d n
  unfolding so_many down_start
  start_is zero k = refl
  start_is (suc n) k = ap₂ ◌+◌ (start_is n (omega arith)) (many_is n k)

  -- as many are written as are counted
  down_many : so_many many (prods b) ≡ down_entries G c d
  down_many = start_is (prods b) (omega arith)

  pub down_room : {n u : ℕ} → u ≡ down_entries G c d → u * entry_bytes ≤ n → so_many many (prods b) * entry_bytes ≤ n
  down_room e l = rw (down_many, ← e) l

  -- THEOREM: all entries stand, and the rest is as it came
  pub down_done : {out out' : List ℕ}
      → Filled entry_bytes many (prods b) (λ p. AllChoices (DownBytes f d (shape_of b p)) (shape_of b p) s c f d (kinds_from (shape_of b p) 1) (base_of b p)) out out'
      → DownTable G s c f d out' × Written (down_entries G c d * entry_bytes) out out'
  down_done {out} {out'} w = (table, subst (λ (m : ℕ). Written (m * entry_bytes) out out') down_many w.rest)
    where
      table : DownTable G s c f d out'
      table p u rs l k r =
          let n = u * choices c (G.kids p) + choice c (G.kids p) rs in
          let i : n < many p = rw (many_is p l) (digit_below u (choice c (G.kids p) rs) k (choice_below c (G.kids p) rs r)) in
          let e : so_many many p + n ≡ down_entry G c d p u rs = ap (λ (k : ℕ). k + n) (start_is p (omega arith)) in
          rw e at (held p l (shape_read refl) (part ((so_many many p + n) * entry_bytes) entry_bytes out') u rs k r (w.each p n l i))

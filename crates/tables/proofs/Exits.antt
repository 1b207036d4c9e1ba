-- The exits of a build: at each refusal its own row of the table applies and none before it does; at acceptance none does.
use mathlib.Core.Path.{◌≡◌}
use mathlib.Core.Logic.{inl, inr}
use mathlib.Core.List.{List}
use Prim.Native.Nat.{ℕ, suc, ◌*◌, ◌≤◌, ◌<◌}
use native.Mathlib.Omega.{arith}
use lib.ListN.{length}
use Rattle.lists.specs.Refusals.{Said, accepted, refused, Sooner, First}
use Rattle.chains.specs.Plausible.{Plausible}
use Rattle.chains.specs.Feasible.{Feasible}
use Rattle.book.specs.Format.{kinds, grammar}
use Rattle.bookcheck.specs.Refusals as rows
use Rattle.ranks.specs.Entries.{entry_bytes}
use Rattle.tables.specs.Sets.{Over, Holds}
use Rattle.tables.specs.Promise.{Lent, up_entries, down_entries, Counted, Applies, of_book, short_slice, over_plausible, over_feasible, short_up, short_down, Built}
use Rattle.members.specs.Room.{TooShort, Roomy}
use Rattle.ranks.specs.Room.{Exceeds, up_exceeds, down_exceeds}
use Rattle.tables.specs.Making.{Lacking, Ready, Tables, TablesDue, WorkDue}
use Rattle.tables.specs.Answer.{lent}
use Rattle.tables.proofs.Holds.{holds_counted, over_never, counted_once}
use Rattle.tables.proofs.Entries.{up_entries_same, down_entries_same}

below_next : (n : ℕ) → n < suc n
below_next n = omega arith

-- a row at place 0 comes after those of smaller numbers only
pub first_at_zero : (P : ℕ → ℕ → Type 0) (n : ℕ) → P n 0 → ((k p : ℕ) → k < n → P k p → ⊥) → First rows.turn (λ f. P f.0 f.1) (n, 0)
first_at_zero P n a before = (a, λ j s u. go j s u)
  where
    go : (j : ℕ × ℕ) → Sooner (rows.turn j) (rows.turn (n, 0)) → P j.0 j.1 → ⊥
    go j (inl h) u = before j.0 j.1 h u
    go j (inr (e, inl h)) u = absurd (omega arith)
    go j (inr (e, inr (e', z))) u = absurd z

-- no row from 9 on and before n applies
record Spared (b : List ℕ) (m : Lent) (n : ℕ) : Type 0 where
  pub room : 9 < n → Lacking b m → ⊥
  pub plausible : 10 < n → Over (kinds b) (Plausible (grammar b)) → ⊥
  pub feasible : 11 < n → Over (kinds b) (Feasible (grammar b)) → ⊥
  pub up : 12 < n → (c : List ℕ) → Counted (kinds b) (Plausible (grammar b)) c → length m.up < up_entries (grammar b) c → ⊥
  pub down : 13 < n → (c d : List ℕ) → Counted (kinds b) (Plausible (grammar b)) c → Counted (kinds b) (Feasible (grammar b)) d
      → length m.down < down_entries (grammar b) c d * entry_bytes → ⊥

-- what applies first to b and m
abbrev pub FirstDue : List ℕ → Lent → ℕ → ℕ → Type 0
FirstDue b m n p = First rows.turn (λ f. Applies b m f.0 f.1) (n, p)

module _ {b : List ℕ} {m : Lent} (clean : (n p : ℕ) → rows.Applies b n p → ⊥) where
  none_before : {n : ℕ} → Spared b m n → (k p : ℕ) → k < n → Applies b m k p → ⊥
  none_before s k p h (of_book a) = clean k p a
  none_before s _ _ h (short_slice a) = s.room h a
  none_before s _ _ h (over_plausible a) = s.plausible h a
  none_before s _ _ h (over_feasible a) = s.feasible h a
  none_before s _ _ h (short_up c a l) = s.up h c a l
  none_before s _ _ h (short_down c d a a' l) = s.down h c d a a' l

  first_due : (n : ℕ) → Applies b m n 0 → Spared b m n → FirstDue b m n 0
  first_due n a s = first_at_zero (Applies b m) n a (none_before s)

  -- THEOREM: refusal 9
  pub refuse_room : Lacking b m → FirstDue b m 9 0
  refuse_room short = first_due 9 (short_slice short) record {
    room = λ h. absurd (omega arith);
    plausible = λ h. absurd (omega arith);
    feasible = λ h. absurd (omega arith);
    up = λ h. absurd (omega arith);
    down = λ h. absurd (omega arith);
  }

-- slices of enough places lack none
enough : {n a b c d : ℕ} → Roomy n a b c d → TooShort n a b c d → ⊥
enough r (inl h) = let z = r.plausible in omega arith
enough r (inr (inl h)) = let z = r.plausible_counts in omega arith
enough r (inr (inr (inl h))) = let z = r.feasible in omega arith
enough r (inr (inr (inr h))) = let z = r.feasible_counts in omega arith

module _ {b : List ℕ} {m : Lent} (ready : Ready b m) where
  -- THEOREM: refusal 10
  pub refuse_plausible : Over (kinds b) (Plausible (grammar b)) → FirstDue b m 10 0
  refuse_plausible o = first_due ready.clean 10 (over_plausible o) record {
    room = λ h. enough ready.room;
    plausible = λ h. absurd (omega arith);
    feasible = λ h. absurd (omega arith);
    up = λ h. absurd (omega arith);
    down = λ h. absurd (omega arith);
  }

  module _ {s c : List ℕ} (p : Holds (kinds b) (Plausible (grammar b)) m.plausible m.plausible_counts s c) where
    plausible_few : Over (kinds b) (Plausible (grammar b)) → ⊥
    plausible_few = over_never ready.room.plausible ready.room.plausible_counts p

    plausible_counted : Counted (kinds b) (Plausible (grammar b)) c
    plausible_counted = holds_counted ready.room.plausible ready.room.plausible_counts p

    -- THEOREM: refusal 11
    pub refuse_feasible : Over (kinds b) (Feasible (grammar b)) → FirstDue b m 11 0
    refuse_feasible o = first_due ready.clean 11 (over_feasible o) record {
      room = λ h. enough ready.room;
      plausible = λ h. plausible_few;
      feasible = λ h. absurd (omega arith);
      up = λ h. absurd (omega arith);
      down = λ h. absurd (omega arith);
    }

    -- the up entries are as many by any counts of the plausible sets
    up_spared : up_entries (grammar b) c ≤ length m.up → (c' : List ℕ) → Counted (kinds b) (Plausible (grammar b)) c'
        → length m.up < up_entries (grammar b) c' → ⊥
    up_spared fits c' a l =
        let e : up_entries (grammar b) c ≡ up_entries (grammar b) c'
        = up_entries_same (grammar b) ready.book.lawful.kids_in c c' (counted_once (Plausible (grammar b)) c c' plausible_counted a) in
        omega (arith, e)

    module _ {f d : List ℕ} (q : Holds (kinds b) (Feasible (grammar b)) m.feasible m.feasible_counts f d) where
      feasible_few : Over (kinds b) (Feasible (grammar b)) → ⊥
      feasible_few = over_never ready.room.feasible ready.room.feasible_counts q

      feasible_counted : Counted (kinds b) (Feasible (grammar b)) d
      feasible_counted = holds_counted ready.room.feasible ready.room.feasible_counts q

      down_spared : down_entries (grammar b) c d * entry_bytes ≤ length m.down → (c' d' : List ℕ) → Counted (kinds b) (Plausible (grammar b)) c'
          → Counted (kinds b) (Feasible (grammar b)) d' → length m.down < down_entries (grammar b) c' d' * entry_bytes → ⊥
      down_spared fits c' d' a a' l =
          let e : down_entries (grammar b) c d ≡ down_entries (grammar b) c' d'
          = down_entries_same (grammar b) ready.book.lawful.kids_in c c' (counted_once (Plausible (grammar b)) c c' plausible_counted a)
          ready.book.lawful.left_in d d' (counted_once (Feasible (grammar b)) d d' feasible_counted a') in
          omega (arith, e)

      -- THEOREM: refusals 12 and 13
      pub refuse_tables : {n place : ℕ} → Exceeds (length m.up) (length m.down) (up_entries (grammar b) c) (down_entries (grammar b) c d) n place → FirstDue b m n place × (9 < n)
      refuse_tables (up_exceeds l) = (
        first_due ready.clean 12 (short_up c plausible_counted l) record {
          room = λ h. enough ready.room;
          plausible = λ h. plausible_few;
          feasible = λ h. feasible_few;
          up = λ h. absurd (omega arith);
          down = λ h. absurd (omega arith);
        },
        omega arith,
      )
      refuse_tables (down_exceeds fits l) = (
        first_due ready.clean 13 (short_down c d plausible_counted feasible_counted l) record {
          room = λ h. enough ready.room;
          plausible = λ h. plausible_few;
          feasible = λ h. feasible_few;
          up = λ h. up_spared fits;
          down = λ h. absurd (omega arith);
        },
        omega arith,
      )

      module _ {u w counts : List ℕ} (t : Tables (grammar b) s c f d m.up m.down u w counts) where
        -- THEOREM: no refusal applies where both tables fit
        pub none_refuse : (n place : ℕ) → Applies b m n place → ⊥
        none_refuse n place = none_before ready.clean record {
          room = λ h. enough ready.room;
          plausible = λ h. plausible_few;
          feasible = λ h. feasible_few;
          up = λ h. up_spared t.up_fits;
          down = λ h. down_spared t.down_fits;
        } n place (below_next n)

        -- THEOREM: and all is built
        pub all_built : Built (grammar b) m (lent s c f d u w) counts
        all_built = record {
          plausible = p;
          feasible = q;
          up = t.up;
          up_rest = t.up_rest;
          down = t.down;
          down_rest = t.down_rest;
          counted = t.counted;
          up_fits = t.up_fits;
          down_fits = t.down_fits;
        }

      -- THEOREM: what the tables come to, the whole comes to
      pub tables_worked : (u w : List ℕ) (a : Said) → TablesDue (grammar b) s c f d m.up m.down a u w → WorkDue b m a (lent s c f d u w)
      tables_worked u w (accepted counts) t = (none_refuse t, all_built t)
      tables_worked u w (refused n place) e = refuse_tables e

-- The build of an accepted book: from what its passes and its tables leave to what the whole does.
use mathlib.Core.Path.{◌≡◌, ap₂, subst}
use mathlib.Core.Bool.{true}
use mathlib.Core.List.{List, [], ◌∷◌}
use Prim.Native.Nat.{ℕ, ◌*◌, ◌≤◌}
use native.Mathlib.Omega.{arith}
use lib.ListN.{length}
use Rattle.std.specs.Prelude.{Result, Ok, Err, is_ok, MatchResult, OnOk, OnErr, IsErrAnd}
use Rattle.refusals.specs.Table.{number_of, said_by}
use Rattle.refusals.specs.declared.Refused.{Refused}
use Rattle.members.specs.declared.Full.{Full}
use Rattle.lists.specs.Refusals.{Said, accepted, refused}
use Rattle.chains.specs.Grammar.{Grammar}
use Rattle.book.specs.Format.{kinds, grammar}
use Rattle.members.specs.Room.{Roomy}
use Rattle.ranks.specs.Entries.{entry_bytes}
use Rattle.tables.specs.Entries.{UpTable, DownTable}
use Rattle.tables.specs.Promise.{Lent, up_entries, down_entries, Written}
use Rattle.tables.specs.Answer.{lent}
use Rattle.tables.specs.Making.{Ready, Passed, over_plausible, over_feasible, both_hold, Settled, Tabled, Worked}
use Rattle.tables.proofs.Sweeping.{holds_exact}
use Rattle.tables.proofs.Exits.{refuse_plausible, refuse_feasible, tables_worked}

-- ── the passes ──
-- what a pass comes to is made a refusal where it is over-full; which of the two it was
pub was_done : {A : Type 0} (r : Result (Unit {0}) Full) → OnOk r A → true ≡ is_ok r → A
was_done (Ok x) h e = h
was_done (Err f) h e = absurd cc

pub was_over : {B : Type 0} {Q : Full → Type 0} (r : Result (Unit {0}) Full) (e : Refused) → OnErr r B → MatchResult r (λ (x : Unit {0}). Err e ≡ Ok x) Q → B × ((f : Full) × Q f)
was_over (Ok x) e h q = absurd cc
was_over (Err f) e h q = (h, (f, q))

pub was_told : {A B : Type 0} {Q : Full → Refused → Type 0} (P : Said → Type 0) (told : Refused) (r : Result (Unit {0}) Full) (r' : Result (Unit {0}) Refused)
    → OnOk r A → OnErr r B → MatchResult r (λ (x : Unit {0}). r' ≡ Ok x) (λ f. IsErrAnd r' (Q f)) → ((f : Full) (e : Refused) → Q f e → e ≡ told)
    → (A → P (accepted [])) → (B → P (refused (number_of told.refusal) told.place)) → P (said_by (λ _. []) r')
was_told P told (Ok x) r' h k q s a b = rw q (a h)
was_told P told (Err f) (Ok x) h k q s a b = absurd q
was_told P told (Err f) (Err e) h k q s a b = rw (s f e q) (b k)

-- passes that came to no refusal leave what the tables need
pub passed_settled : {b s c f d s' c' f' d' l : List ℕ} → Roomy (kinds b) (length s) (length c) (length f) (length d) → Passed b s c f d s' c' f' d' (accepted l)
    → Settled b s' c' f' d'
passed_settled room (both_hold p q) = record {
  plausible = holds_exact room.plausible room.plausible_counts p;
  feasible = holds_exact room.feasible room.feasible_counts q;
}

module _ {b : List ℕ} {m : Lent} (ready : Ready b m) where
  -- THEOREM: passes that came to one
  pub stopped : {s c f d : List ℕ} (n p : ℕ) (m' : Lent) → Passed b m.plausible m.plausible_counts m.feasible m.feasible_counts s c f d (refused n p) → Worked b m (refused n p) m'
  stopped _ _ m' (over_plausible o) = record { due = (refuse_plausible ready o, omega arith) }
  stopped _ _ m' (over_feasible h o) = record { due = (refuse_feasible ready h o, omega arith) }

  -- THEOREM: passes and tables together
  pub worked : {s c f d l u w : List ℕ} (a : Said) → Passed b m.plausible m.plausible_counts m.feasible m.feasible_counts s c f d (accepted l)
      → Tabled (grammar b) s c f d m.up m.down a u w → Worked b m a (lent s c f d u w)
  worked {u = u} {w} a (both_hold p q) t = record { due = tables_worked ready p q u w a t.due }

-- ── the tables ──
-- the u entries of the up table and the w entries of the down table, which have room and are written
pub tabled : {G : Grammar} {s c f d up down up' down' : List ℕ} {u w : ℕ} → (u ≡ up_entries G c) × (w ≡ down_entries G c d) → (u ≤ length up) × (w * entry_bytes ≤ length down)
    → UpTable G s c up' × Written (up_entries G c) up up' → DownTable G s c f d down' × Written (down_entries G c d * entry_bytes) down down'
    → Tabled G s c f d up down (accepted (u ∷ w ∷ [])) up' down'
tabled {down = down} (e, e') (r, r') t t' = record {
  due = record {
    counted = ap₂ (λ (u : ℕ) (w : ℕ). u ∷ w ∷ []) e e';
    up_fits = omega arith;
    down_fits = subst (λ (n : ℕ). n * entry_bytes ≤ length down) e' r';
    up = t.0;
    up_rest = t.1;
    down = t'.0;
    down_rest = t'.1;
  };
}

-- Refusals 6 and 7: the walk over the entries.
use mathlib.Core.Path.{◌≡◌, ap, sym, ◌∙◌, subst}
use mathlib.Core.Bool.{Bool, true, false}
use mathlib.Core.List.{List}
use Prim.Native.Nat.{ℕ, ◌+◌, ◌≤◌, ◌<◌}
use native.Mathlib.Omega.{arith}
use Rattle.bookcheck.specs.declared.walk.Row.{Row}
use Rattle.bookcheck.specs.declared.walk.Row.TheVariants.{Kids, Ties}
use Rattle.book.specs.Format.{prods, trailer, next_at, entry, grammar, Laid}
use Rattle.book.specs.Reading.{following}
use Rattle.bookcheck.specs.Refusals.{BadKids, BadTies}
use Rattle.bookcheck.specs.Search.{Tells, Finds, Stands, Bad, alone}
use Rattle.bookcheck.proofs.Answers.{Seeking, seek_begins, seek_on, seek_found, seek_ends}
use Rattle.bookcheck.proofs.Laying.{inside}
use Rattle.book.proofs.Places.{following_is, entry_first, entry_next}

-- the p entries before the one at `at` are not refused
pub record Passing (b : List ℕ) (row : Row) (m at p : ℕ) : Type 0 where
  pub laid : Laid b
  pub all : m ≡ prods b
  pub seek : Seeking (Bad row (grammar b)) m p
  pub here : at ≡ entry b p
  pub near : at ≤ trailer b

pub passing_begins : {b : List ℕ} {row : Row} {m at : ℕ} → Laid b → m ≡ prods b → at ≡ entry b 0 → Passing b row m at 0
passing_begins {b} l e h = record { laid = l; all = e; seek = seek_begins; here = h; near = omega (arith, entry_first b) }

-- the one production of an entry alone is that production of the grammar
in_grammar : (b : List ℕ) {at : ℕ} (p : ℕ) {r : Bool} (row : Row) → at ≡ entry b p → Tells (Bad row (alone b at) 0) r → Tells (Bad row (grammar b) p) r
in_grammar b p {r} Kids e t = subst (λ a. Tells (BadKids (alone b a) 0) r) e t
in_grammar b p {r} Ties e t = subst (λ a. Tells (BadTies (alone b a) 0) r) e t

module _ {b : List ℕ} {row : Row} {m at p : ℕ} (w : Passing b row m at p) (l : p < m) where
  pub stands : Stands b at
  stands = record { laid = w.laid; inside = rw w.here (inside w.laid p (omega (arith, w.all))) }

  module _ {r : Bool} (t : Tells (Bad row (alone b at) 0) r) where
    pub passing_found : r ≡ true → Finds (Bad row (grammar b)) m p
    passing_found e = seek_found w.seek l (in_grammar b p row w.here t) e

    pub passing_on : {next : ℕ} → r ≡ false → next ≡ following b at → Passing b row m next (p + 1)
    passing_on e f = let h = following_is b at f (omega (arith, w.near, w.laid.whole)) in record {
      laid = w.laid;
      all = w.all;
      seek = seek_on w.seek l (in_grammar b p row w.here t) e;
      here = h ∙ ap (next_at b) w.here ∙ sym (entry_next b p);
      near = omega (arith, stands.inside);
    }

pub passing_ends : {b : List ℕ} {row : Row} {m at p : ℕ} → Passing b row m at p → m ≤ p → Finds (Bad row (grammar b)) m m
passing_ends w l = seek_ends w.seek l

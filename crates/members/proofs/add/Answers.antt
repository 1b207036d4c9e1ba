-- A number put into the set of a kind that has its places. Assumes nothing.
use mathlib.Core.Path.{sym, ◌∙◌}
use native.Mathlib.Omega.{arith}
use Rattle.members.proofs.Putting.{put_old, put_full, put_new}
use Rattle.members.proofs.add.Goals as goal

pub returns-then-is_some : goal.returns-then-is_some
returns-then-is_some c = put_old c.args.k c.requires c.place_of.ensures (sym c.is_some.ensures ∙ c.if-is_some.true)

pub returns-then-n-eq-MAX_MEMBERS : goal.returns-then-n-eq-MAX_MEMBERS
returns-then-n-eq-MAX_MEMBERS c =
    put_full c.args.k c.requires c.place_of.ensures (sym c.is_some.ensures ∙ c.if-is_some.false) (omega arith)

pub returns : goal.returns
returns c =
    put_new c.args.k c.requires c.place_of.ensures (sym c.is_some.ensures ∙ c.if-is_some.false) (omega arith) (omega arith) (c.insert.ensures.room (omega arith))

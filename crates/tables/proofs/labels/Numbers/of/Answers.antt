-- The number of a label. Assumes nothing.
use native.Mathlib.Omega.{arith}
use Rattle.tables.proofs.StateNumbers.{number_old, number_new, numbers_more, numbers_low}
use Rattle.tables.proofs.labels.Numbers.of.Goals.{then-self-at, else-self-at}
use Rattle.tables.proofs.labels.Numbers.of.Goals as goal

pub overflow_add-self : goal.overflow_add-self
overflow_add-self c = let n = numbers_low c.self.inside.given c.self.inside.next c.self.view_is c.requires.1 in omega arith

pub invariant_of-self : goal.invariant_of-self
invariant_of-self c =
    let n = numbers_low c.self.inside.given c.self.inside.next c.self.view_is c.requires.1 in
    elim c.if-self-at.branch [
      | then-self-at w ↦ rw w.self-inside-is (numbers_more c.self.invariant c.args.label c.requires.0 n w.if-self-at.true)
      | else-self-at w ↦ rw w.self-inside-is c.self.invariant
    ]

pub returns : goal.returns
returns c =
    let n = numbers_low c.self.inside.given c.self.inside.next c.self.view_is c.requires.1 in
    elim c.if-self-at.branch [
      | then-self-at w ↦ let r = number_new c.self.invariant c.args.label c.requires.0 n w.if-self-at.true in rw (w.self-inside-is, ← c.self.view_is) r
      | else-self-at w ↦ rw (w.self-inside-is, ← c.self.view_is) (number_old c.self.invariant c.args.label c.requires.0 w.if-self-at.false)
    ]

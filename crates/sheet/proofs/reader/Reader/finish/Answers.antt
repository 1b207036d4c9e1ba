use Rattle.std.proofs.Common.{arith}
use Rattle.sheet.proofs.Answers.{ended_accepted, ended_unknown, ended_left}
use Rattle.sheet.proofs.reader.Reader.finish.Goals as goal

pub returns-in_default : goal.returns-in_default
returns-in_default c = let s = c.args.self.now in ended_accepted s.sound s.some_nodes s.few_nodes c.requires (grind arith)

pub returns-then-productions-from : goal.returns-then-productions-from
returns-then-productions-from c =
    let s = c.args.self.now in
    ended_unknown s.sound s.some_nodes s.few_nodes c.requires {p = c.in-Some.p} c.at.ensures (grind arith) (grind arith) (omega arith)

pub returns : goal.returns
returns c =
    let s = c.args.self.now in
    ended_left s.sound s.some_nodes s.few_nodes c.requires {p = c.in-Some.p} c.at-2.ensures (grind arith) (grind arith) (omega arith)

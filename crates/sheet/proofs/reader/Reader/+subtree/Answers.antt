use Rattle.std.proofs.Common.{rules, ◌∙◌}
use Rattle.sheet.proofs.Walk.{children_begin, children_next, children_stop}
use Rattle.sheet.proofs.reader.Reader.+subtree.Goals as goal

pub loop-j-init : goal.loop-j-init
loop-j-init t c = children_begin c.args.self.now.sound c.requires c.in_ok-entry.ensures.case c.arity-j-end.ensures (c.from.ensures ∙ c.settings.ensures)

pub returns-in_err-counts : goal.returns-in_err-counts
returns-in_err-counts t c =
    let stop = children_stop c.args.self.now.sound c.loop-j.invariant c.loop-j-test.true c.kid-due.ensures c.in_err-counts.ensures in
    search (rules, stop)

pub loop-j-preserved : goal.loop-j-preserved
loop-j-preserved t c = children_next c.args.self.now.sound c.loop-j.invariant c.loop-j-test.true c.kid-due.ensures c.in_ok-counts.ensures

-- A visit for each child. Assumes nothing.
use mathlib.Core.Path.{◌≡◌, ap, ◌∙◌}
use native.Mathlib.Omega.{arith}
use lib.ListN.{length}
use Rattle.std.specs.Prelude.{Ok}
use Rattle.book.specs.Format.{arity_at, grammar}
use Rattle.bookcheck.proofs.Accepted.{arity_read}
use Rattle.tables.proofs.Memory.{turned_map}
use Rattle.tables.proofs.Sweeping.{step_next}
use Rattle.tables.proofs.downward.DownwardsPass.serve.Goals as goal

pub visit-requires : goal.visit-requires
visit-requires c =
    let (w, l, f) = c.requires in
    let (o, s) = w.leans in
    let n : c.arity-j-end.result ≡ length ((grammar c.args.self.now.book.now).kids c.args.p) = c.arity-j-end.ensures ∙ ap (arity_at c.args.self.now.book.now) (o.each c.args.p l) ∙ arity_read o.book c.args.p l in
    (w.leans, l, omega arith, c.loop-j.invariant.fine)

pub loop-j-preserved : goal.loop-j-preserved
loop-j-preserved c =
    let (w, l, f) = c.requires in
    step_next w l c.in_ok-added.field-0 c.loop-j.invariant (rw c.in_ok-added.was at c.visit.ensures)

pub returns : goal.returns
returns c =
    let (w, l, f) = c.requires in
    let (o, s) = w.leans in
    let n : c.arity-j-end.result ≡ length ((grammar c.args.self.now.book.now).kids c.args.p) = c.arity-j-end.ensures ∙ ap (arity_at c.args.self.now.book.now) (o.each c.args.p l) ∙ arity_read o.book c.args.p l in
    turned_map (Ok c.loop-j.added) (λ d j q. d j (omega arith) q) c.loop-j.invariant

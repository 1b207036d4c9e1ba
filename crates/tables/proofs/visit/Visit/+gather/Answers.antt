-- Gathering meets its contract, by recursion on the turns left. Assumes nothing.
use mathlib.Core.Path.{◌≡◌}
use Prim.Native.Nat.{ℕ, suc, ◌-◌, ◌≤◌}
use native.Mathlib.Omega.{arith}
use lib.ListN.{length-take}
use Rattle.tables.specs.Visit.{size_of}
use Rattle.std.proofs.lemmas.Result.{err_from_is_err_and}
use Rattle.tables.proofs.Gathering.{enter_asks, reply_none, reply_known, in_turn, loop_request, loop_next, loop_full, loop_end}
use Rattle.tables.proofs.visit.Visit.+gather.Goals as goal

pub enter-requires : goal.enter-requires
enter-requires t c = enter_asks c.requires

pub returns-then-j-eq0 : goal.returns-then-j-eq0
returns-then-j-eq0 t c =
    let e : c.args.j ≡ 0 = omega (arith, c.if-j-eq0.true) in
    rw e (reply_none _ c.enter.result (rw e at c.requires) c.enter.ensures)

pub returns-then-knows : goal.returns-then-knows
returns-then-knows t c =
    let e : c.args.j ≡ suc (c.args.j - 1) = omega (arith, c.if-j-eq0.false) in
    rw e (reply_known _ _ _ (rw e at c.requires) c.index-seen-j.result (rw e at (c.knows.ensures c.if-knows.true)))

pub gather-requires : goal.gather-requires
gather-requires t c =
    let e : c.args.j ≡ suc (c.args.j - 1) = omega (arith, c.if-j-eq0.false) in
    let (w, b) = in_turn c.args.self.now (c.args.j - 1) c.loop-code.code-index c.loop-code-test.true in
    (omega arith, loop_request _ _ _ (rw e at c.requires) c.loop-code.invariant (rw w at c.choose-t.ensures))

pub returns-in_err-added : goal.returns-in_err-added
returns-in_err-added t c =
    let e : c.args.j ≡ suc (c.args.j - 1) = omega (arith, c.if-j-eq0.false) in
    let (w, b) = in_turn c.args.self.now (c.args.j - 1) c.loop-code.code-index c.loop-code-test.true in
    let p = err_from_is_err_and c.from_residual.result c.from_residual.ensures.1 in
    rw (p.1, e) (loop_full _ _ _ (rw e at c.requires) c.loop-code.invariant (rw w at c.choose-t.ensures) b (rw c.in_err-added.was at c.gather.ensures))

pub loop-code-preserved : goal.loop-code-preserved
loop-code-preserved t c =
    let e : c.args.j ≡ suc (c.args.j - 1) = omega (arith, c.if-j-eq0.false) in
    let (w, b) = in_turn c.args.self.now (c.args.j - 1) c.loop-code.code-index c.loop-code-test.true in
    loop_next _ _ _ (rw e at c.requires) c.loop-code.invariant (rw w at c.choose-t.ensures) _ b (rw c.in_ok-added.was at c.gather.ensures)

pub returns : goal.returns
returns t c =
    let e : c.args.j ≡ suc (c.args.j - 1) = omega (arith, c.if-j-eq0.false) in
    let q = rw e at c.requires in
    let z = q.ready.sizes (c.args.j - 1) (omega arith) in
    let l : size_of c.args.self.now (c.args.j - 1) ≤ c.loop-code.code-index = omega (arith, length-take {A = ℕ}) in
    rw e (loop_end _ _ _ q c.loop-code.invariant l c.index-seen-j-2.result c.remember.new.self (rw e at c.remember.ensures.only))

use Rattle.std.proofs.Common.{◌≡◌, length, arith}
use Rattle.std.proofs.lemmas.Grind.{common_steps}
use Rattle.trial.specs.Numbers.{four}
use Rattle.trial.proofs.Parsing.{uneven, over, found}
use Rattle.trial.proofs.request.argument.Goals.{then-argument-width-ne0-via-then-argument-width-ne0, then-argument-width-ne0-via-else-argument-width-ne0+then-room-argument}
use Rattle.trial.proofs.request.argument.Goals as goal

pub returns-then-argument-width-ne0 : goal.returns-then-argument-width-ne0
returns-then-argument-width-ne0 c =
    let front = c.in_ok-length.ensures.cases in
    let cut = c.in_ok-argument.ensures.cases in
    let told : length c.in_ok-argument.argument.now ≡ four c.args.left.now 0 = grind (arith, common_steps) in
    elim c.then-argument-width-ne0.branch [
      | then-argument-width-ne0-via-then-argument-width-ne0 w ↦ uneven told w.if-argument-width-ne0.true
      | then-argument-width-ne0-via-else-argument-width-ne0+then-room-argument w ↦ over told c.requires w.if-room-argument.true
    ]

pub returns : goal.returns
returns c =
    let front = c.in_ok-length.ensures.cases in
    let cut = c.in_ok-argument.ensures.cases in
    let told : length c.in_ok-argument.argument.now ≡ four c.args.left.now 0 = grind (arith, common_steps) in
    found told (omega arith) (cc) (grind (arith, common_steps)) c.if-argument-width-ne0.false c.if-room-argument.false

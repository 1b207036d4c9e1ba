use Rattle.groups.proofs.Answering.{taken_text}
use Rattle.groups.proofs.answer.Goals as goal

pub returns-in-Err : goal.returns-in-Err
returns-in-Err c = rw c.refused-in-Err.ensures (taken_text c.in-Some.ensures c.in-Err.ensures)

pub returns-in_default-build : goal.returns-in_default-build
returns-in_default-build c = taken_text c.in-Some.ensures c.in_default-build.ensures

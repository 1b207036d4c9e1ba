use Rattle.bookcheck.proofs.walk.bad.Goals as goal

pub returns-in-Kids : goal.returns-in-Kids
returns-in-Kids c = rw c.in-Kids.is c.bad_kids.ensures

pub returns-in-Ties : goal.returns-in-Ties
returns-in-Ties c = rw c.in-Ties.is c.bad_ties.ensures

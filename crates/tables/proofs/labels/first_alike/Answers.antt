-- The search for the first setting of a label. Assumes nothing.
use borrow.Author.Tests.{tests}
use Rattle.std.proofs.Common.{◌≡◌, rules}
use Rattle.std.proofs.lemmas.Iterator.{first_from_Range}
use Rattle.chains.specs.Grouping.{label}
use Rattle.tables.proofs.StateLoops.{alike_first}
use Rattle.tables.proofs.labels.first_alike.Goals as goal

pub returns : goal.returns
returns c =
    let v = c.label-v.result in
    rw c.unwrap_or.ensures (alike_first c.args.code c.args.x v c.find.result c.label-v.ensures
    (first_from_Range _ _ _ _ (λ k. label c.args.code k ≡ v) (λ k. label c.args.code k ≡ v → ⊥) c.find.ensures.ran
    (λ k q h. search (rules, tests)) (λ k q h. search (rules, tests))))

use Rattle.numbering.proofs.Calls.{width_is, width_low}
use Rattle.numbering.proofs.call.Call.width.Goals as goal

pub returns-clause-is : goal.returns-clause-is
returns-clause-is c = width_is c.args.self.now _ c.settings.ensures

pub returns-clause-few : goal.returns-clause-few
returns-clause-few c = width_low c.args.self.now _ c.requires c.settings.ensures

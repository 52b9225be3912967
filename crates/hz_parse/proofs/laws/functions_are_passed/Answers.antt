use Rattle.hz_own.specs.Known.{Known}
use Rattle.hz_parse.specs.Leads.{Reaches}
use Rattle.hz_parse.proofs.LeadsLaws.{leads_behind}
use Rattle.hz_parse.proofs.laws.functions_are_passed.Goals as goal

pub returns : goal.returns
returns c functions last whole = leads_behind functions (Known functions) (Reaches last whole)

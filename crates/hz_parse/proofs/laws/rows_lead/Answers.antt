use Rattle.hz_own.specs.Known.{Known}
use Rattle.hz_parse.specs.Leads.{Reaches}
use Rattle.hz_parse.proofs.LeadsLaws.{leads_no_refusal}
use Rattle.hz_parse.proofs.laws.rows_lead.Goals as goal

pub returns-clause-refuses : goal.returns-clause-refuses
returns-clause-refuses c functions last whole = leads_no_refusal functions (Known functions) (Reaches last whole)

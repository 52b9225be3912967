use Rattle.hz_resolve.proofs.lemmas.LayoutLaws.{slots_found}
use Rattle.hz_resolve.proofs.laws.slot_is_found.Goals as goal

pub returns : goal.returns
returns c = slots_found

use Rattle.hz_resolve.proofs.lemmas.LayoutLaws.{registers_local}
use Rattle.hz_resolve.proofs.laws.register_is_its_functions.Goals as goal

pub returns : goal.returns
returns c = registers_local

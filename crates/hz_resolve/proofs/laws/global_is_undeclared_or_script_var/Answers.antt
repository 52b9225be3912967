use Rattle.hz_resolve.proofs.lemmas.LayoutLaws.{globals_undeclared}
use Rattle.hz_resolve.proofs.laws.global_is_undeclared_or_script_var.Goals as goal

pub returns : goal.returns
returns c = globals_undeclared

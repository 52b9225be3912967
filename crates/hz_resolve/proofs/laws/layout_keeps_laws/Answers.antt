use Rattle.hz_resolve.proofs.lemmas.LayoutLaws.{is_layout}
use Rattle.hz_resolve.proofs.laws.layout_keeps_laws.Goals as goal

pub returns : goal.returns
returns c = is_layout

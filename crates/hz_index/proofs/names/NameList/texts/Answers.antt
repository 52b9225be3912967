use Rattle.hz_index.proofs.NamesLemmas.{range-texts}
use Rattle.hz_index.proofs.names.NameList.texts.Goals as goal

pub returns : goal.returns
returns c =
    let i = c.self.inside in
    rw (c.deref.ensures.value, ← c.self.view_is)
    (range-texts c.args.first c.args.past i.names.items i.bindings.items c.self.invariant.0)

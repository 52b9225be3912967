use Rattle.hz_index.proofs.NamesLemmas.{range-named}
use Rattle.hz_index.proofs.names.NameList.part.Goals as goal

pub returns : goal.returns
returns c =
    let i = c.self.inside in
    rw (c.deref.ensures.value, c.deref-2.ensures.value, ← c.self.view_is)
    (range-named c.args.first c.args.past i.names.items i.bindings.items)

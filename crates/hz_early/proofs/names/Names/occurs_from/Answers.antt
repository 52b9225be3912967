use Rattle.std.proofs.Common.{◌∙◌, Some, None}
use Rattle.hz_early.proofs.NamesLemmas.{occurs_by_place}
use Rattle.hz_early.proofs.names.Names.occurs_from.Goals as goal

pub returns-in-Some : goal.returns-in-Some
returns-in-Some c =
    occurs_by_place c.args.name.now c.args.place c.self.inside.entries.items c.args.self.now (Some c.in-Some.last.now)
    c.self.view_is (c.in-Some.ensures.value ∙ c.self.invariant.0 c.args.name.now)

pub returns-in-None : goal.returns-in-None
returns-in-None c =
    occurs_by_place c.args.name.now c.args.place c.self.inside.entries.items c.args.self.now None
    c.self.view_is (c.in-None.ensures.value ∙ c.self.invariant.0 c.args.name.now)

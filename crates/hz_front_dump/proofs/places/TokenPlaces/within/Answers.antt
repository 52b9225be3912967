use Rattle.std.proofs.Common.{◌∙◌}
use Rattle.hz_front_dump.proofs.Counted.{within_source}
use Rattle.hz_front_dump.proofs.places.TokenPlaces.within.Goals as goal

pub returns : goal.returns
returns c =
    c.saturating_sub.ensures ∙ rw (c.before-2.ensures, c.before-3.ensures)
    (within_source c.args.self.now c.args.start c.args.end)

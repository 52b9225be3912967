use Rattle.hz_parse.proofs.TurnSteps.{reached}
use Rattle.hz_parse.proofs.turns.finish.Goals as goal

pub returns : goal.returns
returns g c =
    λ last whole total h. reached c.loop-symbol.reader c.loop-symbol.place c.loop-symbol.steps last whole total c.pop.new.self
    c.in_default.ensures.0
    c.in_default.ensures.1 (c.loop-symbol.invariant last whole total h)

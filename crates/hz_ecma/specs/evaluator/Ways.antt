-- What a frame does with an abrupt completion: it takes it or lets it pass.
use Rattle.std.specs.Prelude.{Bool, true, false, if◌then◌else◌, List, Option, Some, None, bytes_eq}
use Rattle.std.specs.List.{list_any}
use Rattle.hz_tree.specs.tokens.Text.{Text}
use Rattle.hz_value.specs.declared.values.Value.TheVariants as value
use Rattle.hz_value.specs.world.World.{World}
use Rattle.hz_value.specs.system.Acts.{Next, Goes}
use Rattle.hz_ecma.specs.evaluator.Activations.{Activation, Leaving, Way, Breaking, Continuing, Frame, Restore}
use Rattle.hz_ecma.specs.evaluator.Activations.{Breakable}
use Rattle.hz_ecma.specs.evaluator.Activations.{Labelled, WhileBody, DoBody, ForBody}
use Rattle.hz_ecma.specs.evaluator.Moves.{holding}
use Rattle.hz_ecma.specs.evaluator.Values.{use_value}

-- LoopContinues (14.7.1.1) for a `continue`
abbrev pub continues : List Text → Option Text → Bool
continues labels None = true
continues labels (Some target) = list_any (bytes_eq target) labels

-- a loop or a switch takes a `break` without a target (14.13.4), what stands behind a label one with that label
-- (14.13.4), and the body of a loop a `continue`
abbrev pub takes : Frame → Way → Bool
takes Breakable (Breaking None) = true
takes (Labelled label) (Breaking (Some target)) = bytes_eq label target
takes (WhileBody labels test body) (Continuing target) = continues labels target
takes (DoBody labels body test) (Continuing target) = continues labels target
takes (ForBody loop) (Continuing target) = continues loop.labels target
takes f way = false

-- what is taken counts as a normal completion
abbrev pub use_way : Frame → Way → Activation → World → Next Activation
use_way (Restore own) way a w = Goes (holding (Leaving way) (record a { own = own })) w
use_way f way a w = if takes f way then use_value f value.Undefined a w else Goes (holding (Leaving way) a) w

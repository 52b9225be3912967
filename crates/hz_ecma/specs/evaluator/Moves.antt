-- What the clauses of the evaluator do with an activation.
use Rattle.std.specs.Prelude.{List, [], ◌∷◌, ◌++◌, Option, Some, None, ℕ}
use Rattle.hz_tree.specs.declared.tree.Tree.{Tree}
use Rattle.hz_value.specs.declared.leaving.Left.TheVariants as left
use Rattle.hz_value.specs.declared.values.Value.{Value}
use Rattle.hz_value.specs.declared.values.Value.TheVariants as value
use Rattle.hz_value.specs.operators.Messages.{Message}
use Rattle.hz_value.specs.operators.Contents.{Content}
use Rattle.hz_value.specs.operators.Computed.{Computed}
use Rattle.hz_value.specs.world.Errors.{new_error}
use Rattle.hz_value.specs.world.World.{World, kept_to, raised}
use Rattle.hz_value.specs.system.Acts.{Next, Goes, Does, Leave, computed_to}
use Rattle.hz_ecma.specs.evaluator.Activations.{Activation, Hand, Eval, Exec, Completed, Leaving, Throwing}
use Rattle.hz_ecma.specs.evaluator.Activations.{Frame, Values, Items, statement_in}

abbrev pub holding : Hand → Activation → Activation
holding hand a = record a { hand = hand }

-- what is in hand comes first, and the frame waits for it
abbrev pub waiting : Frame → Hand → Activation → Activation
waiting f hand a = record a { hand = hand; frames = f ∷ a.frames }

abbrev pub with_frame : Frame → Activation → Activation
with_frame f a = record a { frames = f ∷ a.frames }

abbrev pub completed : Value → Activation → Activation
completed v a = holding (Completed v) a

-- a completion that has no value
abbrev pub done : Activation → Activation
done a = completed value.Undefined a

-- the records in scope, the innermost first
abbrev pub scope_of : Activation → List ℕ
scope_of a = a.own ++ a.outer

-- ---- steps

abbrev pub goes_with : Value → Activation → World → Next Activation
goes_with v a w = Goes (completed v a) w

-- the value that is so, in the world that keeps it
abbrev pub goes_with_content : Content → Activation → World → Next Activation
goes_with_content c a w = kept_to w (λ v w1. goes_with v a w1) c

-- an error of the engine, raised at the statement in hand
abbrev pub raises : Message → Activation → World → Next Activation
raises m a w =
    Goes (holding (Leaving (Throwing (new_error w.store))) a) (raised (statement_in a.frames) m w)

-- goes on with a result, raises the error, or leaves the run
abbrev pub result_to : {T : Type 0} → Computed T → Activation → World → (T → Next Activation) → Next Activation
result_to c a w go = computed_to a w go (λ m. raises m a w) c

-- what is not built yet
abbrev pub not_built : Activation → World → Next Activation
not_built a w = Does (Leave left.NotBuilt) a w

-- ---- lists

-- expressions or parts of a declaration one after the other: the value is that of the last one
abbrev pub all_values : Value → List Tree → Activation → Activation
all_values v [] a = completed v a
all_values v (t ∷ ts) a = waiting (Values ts) (Eval t) a

-- statements one after the other (14.2.2)
abbrev pub all_items : List Tree → Activation → Activation
all_items [] a = done a
all_items (t ∷ ts) a = waiting (Items ts) (Exec [] t) a

-- where it is there
abbrev pub maybe : Option Tree → Hand
maybe None = Completed value.Undefined
maybe (Some t) = Eval t

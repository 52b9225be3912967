-- A step of an activation of a tree, and what its functions mean.
use Rattle.std.specs.Prelude.{ℕ, List, [], ◌∷◌, Option, Some, None}
use Rattle.hz_tree.specs.declared.tree.Tree.{out-Tree}
use Rattle.hz_tree.specs.trees.Places.{place}
use Rattle.hz_value.specs.declared.values.Value.TheVariants as value
use Rattle.hz_value.specs.world.World.{World}
use Rattle.hz_value.specs.system.Acts.{Reply, Normal, Returned, Next, Does, Return, Throw}
use Rattle.hz_value.specs.system.Acts.{Thrown as ThrownReply}
use Rattle.hz_value.specs.system.System.{Meaning, Invocation}
use Rattle.hz_ecma.specs.evaluator.Activations.{Activation, Hand, Enter, Eval, Exec, Refer, Enclosed, Completed}
use Rattle.hz_ecma.specs.evaluator.Activations.{Leaving, Way, Throwing}
use Rattle.hz_ecma.specs.evaluator.Activations.{Returning, Frame, Statement, FunctionTree, statement_of}
use Rattle.hz_ecma.specs.evaluator.Moves.{with_frame, holding}
use Rattle.hz_ecma.specs.evaluator.Expressions.{eval, refer, eval_enclosed}
use Rattle.hz_ecma.specs.evaluator.Statements.{enter, exec}
use Rattle.hz_ecma.specs.evaluator.Values.{use_value}
use Rattle.hz_ecma.specs.evaluator.Ways.{use_way}

-- the end of an activation (10.2.1): a `return` gives its value, and a throw is one
abbrev pub leaves : Way → Activation → World → Next Activation
leaves (Throwing v) a w = Does (Throw v) a w
leaves (Returning v) a w = Does (Return v) a w
leaves way a w = Does (Return value.Undefined) a w

abbrev pub on_hand : Hand → List Frame → Activation → World → Next Activation
on_hand (Enter function) fs a w = enter function.vars (out-Tree function.tree) a w
on_hand (Eval tree) fs a w = eval (out-Tree tree) a w
on_hand (Exec labels tree) fs a w = exec labels (out-Tree tree) (with_frame (Statement (place tree)) a) w
on_hand (Refer purpose target) fs a w = refer purpose target (out-Tree target) a w
on_hand (Enclosed inner left right) fs a w = eval_enclosed left right (out-Tree inner) a w
on_hand (Completed v) [] a w = Does (Return value.Undefined) a w
on_hand (Completed v) (f ∷ fs) a w = use_value f v (record a { frames = fs }) w
on_hand (Leaving way) [] a w = leaves way a w
on_hand (Leaving way) (f ∷ fs) a w = use_way f way (record a { frames = fs }) w

abbrev pub tree_step : Activation → World → Next Activation
tree_step a w = on_hand a.hand a.frames a w

-- what comes back is a completion of what is in hand
abbrev pub reply_hand : Reply → Hand
reply_hand (Normal v) = Completed v
reply_hand (ThrownReply v) = Leaving (Throwing v)
reply_hand (Returned v) = Leaving (Returning v)

abbrev pub tree_answered : Activation → Reply → Activation
tree_answered a c = holding (reply_hand c) a

-- ---- the meaning of a source's functions by their numbers; the script is function 0

abbrev pub Trees : Type 0
Trees = (function : ℕ) → FunctionTree

-- the activation of the script or of a call, where this is the place of the function
abbrev pub activation_of : FunctionTree → (function place : ℕ) → Option ℕ → List ℕ → Activation
activation_of tree function place callee outer = record {
  function = function;
  callee = callee;
  own = [];
  outer = outer;
  hand = Enter tree;
  frames = Statement place ∷ [];
}

-- the script begins at the place 0
abbrev pub script_activation : Trees → Activation
script_activation trees = activation_of (trees 0) 0 0 None []

abbrev pub tree_entered : Trees → Invocation → Activation
tree_entered trees i =
    activation_of (trees i.closure.function) i.closure.function (place (trees i.closure.function).tree) (Some i.callee)
    i.closure.records

abbrev pub tree_meaning : Trees → Meaning Activation
tree_meaning trees = record {
  step = tree_step;
  answered = tree_answered;
  enter = tree_entered trees;
  statement = λ a. statement_of a.hand a.frames;
}

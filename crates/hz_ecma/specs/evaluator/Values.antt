-- What a frame does with the value that it waited for. One clause for each frame: `use_value` begins with it.
use Rattle.std.specs.Prelude.{Bool, true, false, if◌then◌else◌, List, [], ◌∷◌, ◌++◌, Option, Some, None}
use Rattle.hz_tree.specs.declared.tree.Tree.{Tree}
use Rattle.hz_value.specs.declared.values.Value.{Value}
use Rattle.hz_value.specs.operators.Conversions.{to_boolean, to_text}
use Rattle.hz_value.specs.operators.Comparisons.{strictly_equal}
use Rattle.hz_value.specs.world.Store.{type_name}
use Rattle.hz_value.specs.world.World.{World, content, marked}
use Rattle.hz_value.specs.system.Acts.{Next, Goes, take_turn}
use Rattle.hz_ecma.specs.evaluator.Activations.{Activation, Eval, Exec, Leaving, Throwing, Operation, Frame, Statement}
use Rattle.hz_ecma.specs.evaluator.Activations.{Values, Hole, Left, Right, Operand, Conditional, AssignTo, Initialise}
use Rattle.hz_ecma.specs.evaluator.Activations.{Tails, Argument, Items, Restore, Breakable, Labelled, Branch, WhileTest}
use Rattle.hz_ecma.specs.evaluator.Activations.{WhileBody, DoBody, DoTest, ForFirst, ForTest, ForBody, ForUpdate}
use Rattle.hz_ecma.specs.evaluator.Activations.{SwitchValue, CaseValue, Thrown, statement_in}
use Rattle.hz_ecma.specs.evaluator.Operators.{is_decided, result_of, unary_result}
use Rattle.hz_ecma.specs.evaluator.Scopes.{declared_by, scoped_to, copied_to}
use Rattle.hz_ecma.specs.evaluator.Moves.{holding, waiting, done, goes_with, goes_with_content, result_to}
use Rattle.hz_ecma.specs.evaluator.Moves.{all_values, all_items, maybe}
use Rattle.hz_ecma.specs.evaluator.Expressions.{put_name, template_to, call_to, eval_tails, initialise}
use Rattle.hz_ecma.specs.evaluator.Statements.{do_body, while_test, for_body, for_test, items_from, next_case}

-- ToBoolean of a test (7.1.2)
abbrev pub holds : World → Value → Bool
holds w v = to_boolean (content w v)

-- the left operand is there (13.13, 13.15.4)
abbrev pub left_value : Operation → Tree → Value → Activation → World → Next Activation
left_value operation right v a w =
    if is_decided operation (content w v) then goes_with v a w
    else Goes (waiting (Right operation v) (Eval right) a) w

abbrev pub right_value : Operation → Value → Value → Activation → World → Next Activation
right_value operation left v a w =
    result_to (result_of operation (content w left) (content w v)) a w (λ c. goes_with_content c a w)

abbrev pub branch : Option Tree → Activation → Activation
branch None a = done a
branch (Some statement) a = holding (Exec [] statement) a

-- a clause of a switch is selected, or it is the next one's turn (14.12.3)
abbrev pub case_value : Bool → Value → List Tree → List Tree → List Tree → Activation → World → Next Activation
case_value true input items rest clauses a w = Goes (all_items items a) w
case_value false input items rest clauses a w = Goes (next_case input clauses rest a) w

abbrev pub use_value : Frame → Value → Activation → World → Next Activation
use_value (Statement place) v a w = goes_with v a w
use_value (Values rest) v a w = Goes (all_values v rest a) w
use_value (Hole before parts holes) v a w =
    result_to (to_text (content w v)) a w (λ t. template_to (before ++ t) parts holes a w)
use_value (Left operation right) v a w = left_value operation right v a w
use_value (Right operation left) v a w = right_value operation left v a w
use_value (Operand operator) v a w =
    result_to (unary_result operator (type_name w.store v) (content w v)) a w (λ c. goes_with_content c a w)
use_value (Conditional first second) v a w = Goes (holding (Eval (if holds w v then first else second)) a) w
use_value (AssignTo name) v a w = put_name name v v a w
use_value (Initialise name) v a w = initialise name v a w
use_value (Tails tails) v a w = eval_tails tails v a w
use_value (Argument callee before rest) v a w = call_to callee (before ++ v ∷ []) rest a w
use_value (Items rest) v a w = Goes (all_items rest a) w
use_value (Restore own) v a w = goes_with v (record a { own = own }) w
use_value Breakable v a w = goes_with v a w
use_value (Labelled label) v a w = goes_with v a w
use_value (Branch first other) v a w = Goes (branch (if holds w v then Some first else other) a) w
-- 14.7.3.2, 14.7.2.2: a turn is taken behind the body of `while`, and behind a true test of `do`
use_value (WhileTest labels test body) v a w =
    Goes (if holds w v then waiting (WhileBody labels test body) (Exec [] body) a else done a) w
use_value (WhileBody labels test body) v a w = take_turn (while_test labels test body a) w
use_value (DoBody labels body test) v a w = Goes (waiting (DoTest labels body test) (Eval test) a) w
use_value (DoTest labels body test) v a w =
    if holds w v then take_turn (do_body labels body test a) w else Goes (done a) w
-- 14.7.4.3: a turn is taken behind the update, also where there is none
use_value (ForFirst loop) v a w = copied_to loop.copies a w (λ a1 w1. Goes (for_test loop a1) w1)
use_value (ForTest loop) v a w = Goes (if holds w v then for_body loop a else done a) w
use_value (ForBody loop) v a w =
    copied_to loop.copies a w (λ a1 w1. Goes (waiting (ForUpdate loop) (maybe loop.update) a1) w1)
use_value (ForUpdate loop) v a w = take_turn (for_test loop a) w
-- 14.12.4: the names of a switch are those of its tests and items, and not of its value
use_value (SwitchValue place clauses) v a w =
    scoped_to place (declared_by (items_from clauses)) a w (λ a1 w1. Goes (next_case v clauses clauses a1) w1)
use_value (CaseValue input items rest clauses) v a w =
    case_value (strictly_equal (content w input) (content w v)) input items rest clauses a w
-- 14.14
use_value Thrown v a w = Goes (holding (Leaving (Throwing v)) a) (marked (statement_in a.frames) w)

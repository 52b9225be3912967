-- Expressions (ECMA-262, clause 13), and the parts of declarations. One clause for each node: `eval` begins with it.
use Rattle.std.specs.Prelude.{ℕ, pos, Bool, true, false, if◌then◌else◌, List, [], ◌∷◌, ◌++◌, Option, Some, None}
use Rattle.hz_tree.specs.declared.operator.AssignOperator.{AssignOperator}
use Rattle.hz_tree.specs.declared.operator.AssignOperator.TheVariants as assign
use Rattle.hz_tree.specs.declared.operator.BinaryOperator.{BinaryOperator}
use Rattle.hz_tree.specs.declared.operator.BinaryOperator.TheVariants as binary
use Rattle.hz_tree.specs.declared.operator.DeclarationWord.{DeclarationWord}
use Rattle.hz_tree.specs.declared.operator.DeclarationWord.TheVariants as word
use Rattle.hz_tree.specs.declared.operator.UnaryOperator.{UnaryOperator}
use Rattle.hz_tree.specs.declared.operator.UnaryOperator.TheVariants as unary
use Rattle.hz_tree.specs.declared.operator.UpdateOperator.{UpdateOperator}
use Rattle.hz_tree.specs.declared.operator.UpdateOperator.TheVariants as update
use Rattle.hz_tree.specs.declared.tree.Tree.{Tree, out-Tree}
use Rattle.hz_tree.specs.declared.tree.Tree.TheOpen.{Tree-F}
use Rattle.hz_tree.specs.tokens.Text.{Text}
use Rattle.hz_tree.specs.tokens.Values.{text_value, template_value, name_value}
use Rattle.hz_value.specs.declared.values.Value.{Value}
use Rattle.hz_value.specs.declared.values.Value.TheVariants as value
use Rattle.hz_value.specs.operators.Contents.{Text as TextContent}
use Rattle.hz_value.specs.operators.Arithmetic.{as_number}
use Rattle.hz_value.specs.world.World.{World, content}
use Rattle.hz_value.specs.world.Store.{value_of}
use Rattle.hz_value.specs.system.Acts.{Next, Goes, Does, Call}
use Rattle.hz_ecma.specs.evaluator.Activations.{Activation, Eval, Refer, Enclosed, Purpose, Assigned, Updated, Typed}
use Rattle.hz_ecma.specs.evaluator.Activations.{Frame, Hole, Left, Right, Operand}
use Rattle.hz_ecma.specs.evaluator.Activations.{Conditional, AssignTo, Initialise, Tails, Argument, Plain}
use Rattle.hz_ecma.specs.evaluator.Activations.{FusedQuotient}
use Rattle.hz_ecma.specs.evaluator.Operators.{assigning, decides, updated, enclosed}
use Rattle.hz_ecma.specs.evaluator.Names.{read_name, type_of_name, write_name, initialised}
use Rattle.hz_ecma.specs.evaluator.Moves.{holding, waiting, with_frame, done, scope_of, goes_with}
use Rattle.hz_ecma.specs.evaluator.Moves.{goes_with_content, result_to, not_built, all_values}

-- ---- names

-- 13.1.3
abbrev pub eval_name : List ℕ → Activation → World → Next Activation
eval_name name a w = result_to (read_name w (scope_of a) name) a w (λ v. goes_with v a w)

-- the value is the result of the assignment too
abbrev pub put_name : List ℕ → Value → Value → Activation → World → Next Activation
put_name name v result a w = result_to (write_name w (scope_of a) name v) a w (λ w1. goes_with result a w1)

-- ---- assignment (13.15.2)

-- the operator has the name's value for its left operand. Where that decides, nothing is written
abbrev pub assign_by : BinaryOperator → List ℕ → Tree → Value → Activation → World → Next Activation
assign_by operator name right v a w =
    if decides operator (content w v) then goes_with v a w
    else Goes (waiting (Right (Plain operator) v) (Eval right) (with_frame (AssignTo name) a)) w

abbrev pub assign_name : AssignOperator → Tree → List ℕ → Activation → World → Next Activation
assign_name assign.Assign right name a w = Goes (waiting (AssignTo name) (Eval right) a) w
assign_name operator right name a w =
    result_to (read_name w (scope_of a) name) a w (λ v. assign_by (assigning operator) name right v a w)

-- ---- updates (13.4)

abbrev pub update_by : UpdateOperator → (before : Bool) → List ℕ → Value → Activation → World → Next Activation
update_by operator before name v a w =
    result_to (as_number (content w v)) a w (λ old.
    result_to (updated operator old) a w (λ new.
    put_name name (value_of w.store new) (value_of w.store (if before then new else old)) a w))

-- the result is the new number where the operator stands before the name, else the old one
abbrev pub update_name : UpdateOperator → (before : Bool) → List ℕ → Activation → World → Next Activation
update_name operator before name a w =
    result_to (read_name w (scope_of a) name) a w (λ v. update_by operator before name v a w)

-- ---- `typeof` (13.5.3)

abbrev pub type_name_of : List ℕ → Activation → World → Next Activation
type_name_of name a w =
    result_to (type_of_name w (scope_of a) name) a w (λ t. goes_with_content (TextContent t) a w)

-- ---- references: a name, in parentheses or without them (13.1.3, 13.2.9.2). Of what is none the type is that of its
-- value

abbrev pub use_name : Purpose → List ℕ → Activation → World → Next Activation
use_name (Assigned operator right) name a w = assign_name operator right name a w
use_name (Updated operator before) name a w = update_name operator before name a w
use_name Typed name a w = type_name_of name a w

abbrev pub use_other : Purpose → Tree → Activation → World → Next Activation
use_other Typed tree a w = Goes (waiting (Operand unary.TypeOf) (Eval tree) a) w
use_other purpose tree a w = not_built a w

abbrev pub refer : Purpose → Tree → Tree-F Tree → Activation → World → Next Activation
refer purpose tree (Tree-F.Identifier at name) a w = use_name purpose (name_value name) a w
refer purpose tree (Tree-F.Parentheses at inner) a w = Goes (holding (Refer purpose inner) a) w
refer purpose tree layer a w = use_other purpose tree a w

-- ---- words and signs before an operand (13.5)

abbrev pub eval_unary : UnaryOperator → Tree → Activation → World → Next Activation
eval_unary unary.Delete operand a w = not_built a w
eval_unary unary.TypeOf operand a w = Goes (holding (Refer Typed operand) a) w
eval_unary unary.Increment operand a w = Goes (holding (Refer (Updated update.Increment true) operand) a) w
eval_unary unary.Decrement operand a w = Goes (holding (Refer (Updated update.Decrement true) operand) a) w
eval_unary operator operand a w = Goes (waiting (Operand operator) (Eval operand) a) w

-- ---- templates (13.2.8.6)

-- the next part, and the hole behind it
abbrev pub template_to : List ℕ → List Text → List Tree → Activation → World → Next Activation
template_to before [] holes a w = goes_with_content (TextContent before) a w
template_to before (p ∷ ps) [] a w = goes_with_content (TextContent (before ++ template_value p)) a w
template_to before (p ∷ ps) (h ∷ hs) a w = Goes (waiting (Hole (before ++ template_value p) ps hs) (Eval h) a) w

-- ---- calls (13.3.6.1): the callee, then the arguments from left to right; the system tests the callee

abbrev pub call_to : Value → List Value → List Tree → Activation → World → Next Activation
call_to callee before [] a w = Does (Call callee value.Undefined before) a w
call_to callee before (t ∷ ts) a w = Goes (waiting (Argument callee before ts) (Eval t) a) w

-- what stands behind a value
abbrev pub eval_tail : Tree-F Tree → Value → Activation → World → Next Activation
eval_tail (Tree-F.Args at arguments) callee a w = call_to callee [] arguments a w
eval_tail layer v a w = not_built a w

abbrev pub eval_tails : List Tree → Value → Activation → World → Next Activation
eval_tails [] v a w = goes_with v a w
eval_tails (t ∷ ts) v a w = eval_tail (out-Tree t) v (with_frame (Tails ts) a) w

-- ---- parts of declarations (14.3.1.2, 14.3.2.1)

abbrev pub declaration_frame : DeclarationWord → List ℕ → Frame
declaration_frame word.Var name = AssignTo name
declaration_frame declared name = Initialise name

abbrev pub initialise : List ℕ → Value → Activation → World → Next Activation
initialise name v a w = Goes (done a) (initialised w (scope_of a) name v)

-- without a value a `var` does nothing, and a `let` is undefined
abbrev pub eval_bind : DeclarationWord → List ℕ → Option Tree → Activation → World → Next Activation
eval_bind declared name (Some t) a w = Goes (waiting (declaration_frame declared name) (Eval t) a) w
eval_bind word.Var name None a w = Goes (done a) w
eval_bind declared name None a w = initialise name value.Undefined a w

-- ---- two operands; a quotient in parentheses before `| 0` is one operation with it

abbrev pub eval_operands : BinaryOperator → Tree → Tree → Activation → World → Next Activation
eval_operands operator left right a w = Goes (waiting (Left (Plain operator) right) (Eval left) a) w

abbrev pub eval_binary : Option Tree → BinaryOperator → Tree → Tree → Activation → World → Next Activation
eval_binary None operator left right a w = eval_operands operator left right a w
eval_binary (Some inner) operator left right a w = Goes (holding (Enclosed inner left right) a) w

abbrev pub eval_enclosed : Tree → Tree → Tree-F Tree → Activation → World → Next Activation
eval_enclosed left right (Tree-F.Parentheses at inner) a w = Goes (holding (Enclosed inner left right) a) w
eval_enclosed left right (Tree-F.Binary at x binary.Divide y) a w = Goes (waiting (Left FusedQuotient y) (Eval x) a) w
eval_enclosed left right layer a w = eval_operands binary.Or left right a w

-- ---- one clause for each node

abbrev pub eval : Tree-F Tree → Activation → World → Next Activation
eval (Tree-F.Null at) a w = goes_with value.Null a w
eval (Tree-F.Truth at truth) a w = goes_with (value.Bool truth) a w
eval (Tree-F.Number at number) a w = goes_with (value.Num (pos number)) a w
eval (Tree-F.Text at written octal) a w = goes_with_content (TextContent (text_value written)) a w
eval (Tree-F.Template at parts holes) a w = template_to [] parts holes a w
eval (Tree-F.Identifier at name) a w = eval_name (name_value name) a w
eval (Tree-F.Parentheses at inner) a w = Goes (holding (Eval inner) a) w
eval (Tree-F.Comma at trees) a w = Goes (all_values value.Undefined trees a) w
eval (Tree-F.Assign at target operator right) a w = Goes (holding (Refer (Assigned operator right) target) a) w
eval (Tree-F.Cond at test first second) a w = Goes (waiting (Conditional first second) (Eval test) a) w
eval (Tree-F.Binary at left operator right) a w = eval_binary (enclosed operator left right) operator left right a w
eval (Tree-F.Unary at operator operand) a w = eval_unary operator operand a w
eval (Tree-F.Postfix at operand operator) a w = Goes (holding (Refer (Updated operator false) operand) a) w
eval (Tree-F.Left at head tails) a w = Goes (waiting (Tails tails) (Eval head) a) w
eval (Tree-F.Bind at declared name tree) a w = eval_bind declared (name_value name) tree a w
eval layer a w = not_built a w

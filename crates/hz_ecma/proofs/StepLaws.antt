-- Each step of an activation of a tree means something, leaves no more turns than there were, and makes no function.
-- Its act is a call, the entry of a routine, an end, a line that is printed, a turn, or the leaving of the run.
use Rattle.std.proofs.Common.{◌≡◌, ◌≤◌, arith, refl, sym, ap, subst, ℕ, zero, suc, Bool, true, false}
use Rattle.std.proofs.Common.{if◌then◌else◌, List, [], ◌∷◌, Option, Some, None}
use Rattle.std.specs.Bool.{⊤}
use Rattle.hz_tree.specs.declared.operator.AssignOperator.{AssignOperator}
use Rattle.hz_tree.specs.declared.operator.AssignOperator.TheVariants as assign
use Rattle.hz_tree.specs.declared.operator.BinaryOperator.{BinaryOperator}
use Rattle.hz_tree.specs.declared.operator.BinaryOperator.TheVariants as binary
use Rattle.hz_tree.specs.declared.operator.DeclarationWord.{DeclarationWord}
use Rattle.hz_tree.specs.declared.operator.DeclarationWord.TheVariants as word
use Rattle.hz_tree.specs.declared.operator.UnaryOperator.{UnaryOperator}
use Rattle.hz_tree.specs.declared.operator.UnaryOperator.TheVariants as unary
use Rattle.hz_tree.specs.declared.operator.UpdateOperator.{UpdateOperator}
use Rattle.hz_tree.specs.declared.tree.Tree.{Tree, out-Tree}
use Rattle.hz_tree.specs.declared.tree.Tree.TheOpen.{Tree-F}
use Rattle.hz_tree.specs.tokens.Text.{Text}
use Rattle.hz_value.specs.declared.values.Value.{Value}
use Rattle.hz_value.specs.declared.values.Value.TheVariants as value
use Rattle.hz_value.specs.operators.Computed.{Computed, Gives, Throws, Leaves, and_then}
use Rattle.hz_value.specs.operators.Arithmetic.{as_number}
use Rattle.hz_value.specs.operators.Conversions.{to_text}
use Rattle.hz_value.specs.operators.Comparisons.{strictly_equal}
use Rattle.hz_value.specs.world.Globals.{Globals, write_global, is_among}
use Rattle.hz_value.specs.world.Objects.{Object}
use Rattle.hz_value.specs.world.Records.{Binding}
use Rattle.hz_value.specs.world.Store.{type_name, value_of}
use Rattle.hz_value.specs.operators.Contents.{Content}
use Rattle.hz_value.specs.operators.Contents as content
use Rattle.hz_value.specs.world.World.{World, content, keeping}
use Rattle.hz_value.specs.system.Acts.{Act, Start, Yield, Resume, WantLine, Bad, Next, Goes, Does, take_turn, turned}
use Rattle.hz_value.specs.system.Runs.{world_behind, TakesTurns}
use Rattle.hz_ecma.specs.evaluator.Activations.{Activation, Hand, Enter, Eval, Exec, Refer, Enclosed, Purpose}
use Rattle.hz_ecma.specs.evaluator.Activations.{Assigned, Updated}
use Rattle.hz_ecma.specs.evaluator.Activations.{Typed, Completed, Leaving, Way}
use Rattle.hz_ecma.specs.evaluator.Activations.{Throwing, Returning, Breaking, Continuing, Operation, Frame, Statement}
use Rattle.hz_ecma.specs.evaluator.Activations.{Values, Hole, Left, Right, Operand, Conditional, AssignTo, Initialise}
use Rattle.hz_ecma.specs.evaluator.Activations.{Tails, Argument, Items, Restore, Breakable, Labelled, Branch, WhileTest}
use Rattle.hz_ecma.specs.evaluator.Activations.{WhileBody, DoBody, DoTest, ForLoop, ForFirst, ForTest, ForBody}
use Rattle.hz_ecma.specs.evaluator.Activations.{ForUpdate}
use Rattle.hz_ecma.specs.evaluator.Activations.{SwitchValue, CaseValue, Thrown}
use Rattle.hz_ecma.specs.evaluator.Operators.{assigning, decides, updated, is_decided, result_of, unary_result}
use Rattle.hz_ecma.specs.evaluator.Operators.{enclosed}
use Rattle.hz_ecma.specs.evaluator.Names.{Place, read_name, type_of_name, write_at, write_name, write_binding, resolved}
use Rattle.hz_ecma.specs.evaluator.Names.{initialised_at}
use Rattle.hz_ecma.specs.evaluator.Scopes.{copied_to}
use Rattle.hz_ecma.specs.evaluator.Moves.{scope_of, goes_with, result_to, with_frame, waiting, maybe}
use Rattle.hz_ecma.specs.evaluator.Expressions.{put_name, assign_by, assign_name, update_by, use_name, use_other}
use Rattle.hz_ecma.specs.evaluator.Expressions.{refer, eval_unary, template_to, call_to, eval_tail, eval_tails}
use Rattle.hz_ecma.specs.evaluator.Expressions.{initialise}
use Rattle.hz_ecma.specs.evaluator.Expressions.{eval_bind, eval_binary, eval_enclosed, eval, eval_name}
use Rattle.hz_ecma.specs.evaluator.Statements.{for_binds, for_test, enter, exec}
use Rattle.hz_ecma.specs.evaluator.Values.{holds, left_value, case_value, use_value}
use Rattle.hz_ecma.specs.evaluator.Ways.{takes, use_way}
use Rattle.hz_ecma.specs.evaluator.Steps.{leaves, on_hand, tree_step, Trees, tree_meaning}
use Rattle.hz_ecma.specs.runs.Meant.{IsMeant}
use Rattle.hz_ecma.proofs.FunctionLaws.{NoneMade, none_made, none_made_raised}

abbrev pub IsPlainAct : Act → Type 0
IsPlainAct Bad = ⊥
IsPlainAct (Start prototype) = ⊥
IsPlainAct (Yield v) = ⊥
IsPlainAct (Resume g c) = ⊥
IsPlainAct WantLine = ⊥
IsPlainAct act = ⊤

abbrev pub IsPlain : {A : Type 0} → Next A → Type 0
IsPlain (Goes a w) = ⊤
IsPlain (Does act a w) = IsPlainAct act

record Sound (w : World) (next : Next Activation) : Type 0 where
  meant : IsPlain next
  turns : (world_behind next).turns ≤ w.turns
  made : NoneMade w.store.objects (world_behind next).store.objects

-- ---- what goes on, and what follows on a result

abbrev Counted : World → ℕ × List Object
Counted w = (w.turns, w.store.objects)

goes : {a : Activation} {w w1 : World} → Counted w1 ≡ Counted w → Sound w (Goes a w1)
goes {w} {w1} e = record {
  meant = tt;
  turns = let same : w1.turns ≡ w.turns = ap {A = ℕ × List Object} (λ p. p.0) e in omega (arith, same);
  made =
      subst (NoneMade w.store.objects) (sym (ap {A = ℕ × List Object} (λ p. p.1) e)) (none_made w.store.objects);
}

keeps_content : (c : Content) (w : World) → Counted (keeping c w) ≡ Counted w
keeps_content (content.Text t) w = refl
keeps_content content.Undefined w = refl
keeps_content content.Null w = refl
keeps_content (content.Boolean b) w = refl
keeps_content (content.Number z) w = refl
keeps_content (content.Symbol n) w = refl
keeps_content (content.Object n) w = refl

acts : {act : Act} {a : Activation} {w : World} → IsPlainAct act → Sound w (Does act a w)
acts {act} {a} {w} h = record { meant = h; turns = omega arith; made = none_made w.store.objects }

either : {w : World} (b : Bool) (x y : Next Activation) → Sound w x → Sound w y → Sound w (if b then x else y)
either true x y h k = h
either false x y h k = k

from_turns : (n : ℕ) (a : Activation) (w : World) → w.turns ≡ n → Sound w (turned a w n)
from_turns zero a w e = acts tt
from_turns (suc n) a w e = record { meant = tt; turns = omega (arith, e); made = none_made w.store.objects }

turn : (a : Activation) (w : World) → Sound w (take_turn a w)
turn a w = from_turns w.turns a w refl

result : {T : Type 0} (c : Computed T) (a : Activation) (w : World) (go : T → Next Activation)
    → ((x : T) → Sound w (go x)) → Sound w (result_to c a w go)
result (Gives x) a w go h = h x
result (Throws m) a w go h = record { meant = tt; turns = omega arith; made = none_made_raised w m }
result (Leaves reason) a w go h = acts tt

-- ---- writing

abbrev Keeps : World → Computed World → Type 0
Keeps w (Gives w1) = Counted w1 ≡ Counted w
Keeps w (Throws m) = ⊤
Keeps w (Leaves reason) = ⊤

keeps_globals : (w : World) (c : Computed Globals) → Keeps w (and_then c (λ gs. Gives (record w { globals = gs })))
keeps_globals w (Gives gs) = refl
keeps_globals w (Throws m) = tt
keeps_globals w (Leaves reason) = tt

keeps_if : (w : World) (b : Bool) (x y : Computed World) → Keeps w x → Keeps w y → Keeps w (if b then x else y)
keeps_if w true x y h k = h
keeps_if w false x y h k = k

keeps_binding : (w : World) (name : List ℕ) (v : Value) (r : ℕ) (b : Binding) → Keeps w (write_binding w name v r b)
keeps_binding w name v r None = tt
keeps_binding w name v r (Some old) = keeps_if w (is_among name (w.records r).scope.constants) _ _ tt refl

keeps_write : (w : World) (name : List ℕ) (v : Value) (at : Place) → Keeps w (write_at w name v at)
keeps_write w name v None = keeps_globals w (write_global w.globals name v)
keeps_write w name v (Some at) = keeps_binding w name v at.0 at.1

written : (c : Computed World) (r : Value) (a : Activation) (w : World) → Keeps w c
    → Sound w (result_to c a w (λ w1. goes_with r a w1))
written (Gives w1) r a w h = goes h
written (Throws m) r a w h = record { meant = tt; turns = omega arith; made = none_made_raised w m }
written (Leaves reason) r a w h = acts tt

put_sound : (name : List ℕ) (v r : Value) (a : Activation) (w : World) → Sound w (put_name name v r a w)
put_sound name v r a w =
    written (write_name w (scope_of a) name v) r a w (keeps_write w name v (resolved w (scope_of a) name))

initialised_counted : (w : World) (name : List ℕ) (v : Value) (at : Place)
    → Counted (initialised_at w name v at) ≡ Counted w
initialised_counted w name v None = refl
initialised_counted w name v (Some at) = refl

initialise_sound : (name : List ℕ) (v : Value) (a : Activation) (w : World) → Sound w (initialise name v a w)
initialise_sound name v a w = goes (initialised_counted w name v (resolved w (scope_of a) name))

-- ---- expressions

name_sound : (name : List ℕ) (a : Activation) (w : World) → Sound w (eval_name name a w)
name_sound name a w = result (read_name w (scope_of a) name) a w _ (λ v. goes refl)

assign_by_sound : (operator : BinaryOperator) (name : List ℕ) (right : Tree) (v : Value) (a : Activation) (w : World)
    → Sound w (assign_by operator name right v a w)
assign_by_sound operator name right v a w =
    either (decides operator (content w v)) _ _ (goes refl) (goes refl)

assign_sound : (operator : AssignOperator) (right : Tree) (name : List ℕ) (a : Activation) (w : World)
    → Sound w (assign_name operator right name a w)
assign_sound assign.Assign right name a w = goes refl
assign_sound operator right name a w =
    result (read_name w (scope_of a) name) a w _ (λ v. assign_by_sound (assigning operator) name right v a w)

update_by_sound : (operator : UpdateOperator) (before : Bool) (name : List ℕ) (v : Value) (a : Activation) (w : World)
    → Sound w (update_by operator before name v a w)
update_by_sound operator before name v a w =
    result (as_number (content w v)) a w _ (λ old. result (updated operator old) a w _ (λ new.
    put_sound name (value_of w.store new) (value_of w.store (if before then new else old)) a w))

use_sound : (purpose : Purpose) (name : List ℕ) (a : Activation) (w : World) → Sound w (use_name purpose name a w)
use_sound (Assigned operator right) name a w = assign_sound operator right name a w
use_sound (Updated operator before) name a w =
    result (read_name w (scope_of a) name) a w _ (λ v. update_by_sound operator before name v a w)
use_sound Typed name a w = result (type_of_name w (scope_of a) name) a w _ (λ t. goes refl)

other_sound : (purpose : Purpose) (tree : Tree) (a : Activation) (w : World) → Sound w (use_other purpose tree a w)
other_sound (Assigned operator right) tree a w = acts tt
other_sound (Updated operator before) tree a w = acts tt
other_sound Typed tree a w = goes refl

refer_sound : (purpose : Purpose) (tree : Tree) (layer : Tree-F Tree) (a : Activation) (w : World)
    → Sound w (refer purpose tree layer a w)
refer_sound purpose tree (Tree-F.Identifier at name) a w = use_sound purpose _ a w
refer_sound purpose tree (Tree-F.Parentheses at inner) a w = goes refl
refer_sound purpose tree layer a w = other_sound purpose tree a w

unary_sound : (operator : UnaryOperator) (operand : Tree) (a : Activation) (w : World)
    → Sound w (eval_unary operator operand a w)
unary_sound unary.Delete operand a w = acts tt
unary_sound unary.TypeOf operand a w = goes refl
unary_sound unary.Increment operand a w = goes refl
unary_sound unary.Decrement operand a w = goes refl
unary_sound operator operand a w = goes refl

template_sound : (before : List ℕ) (parts : List Text) (holes : List Tree) (a : Activation) (w : World)
    → Sound w (template_to before parts holes a w)
template_sound before [] holes a w = goes refl
template_sound before (p ∷ ps) [] a w = goes refl
template_sound before (p ∷ ps) (h ∷ hs) a w = goes refl

call_sound : (callee : Value) (before : List Value) (rest : List Tree) (a : Activation) (w : World)
    → Sound w (call_to callee before rest a w)
call_sound callee before [] a w = acts tt
call_sound callee before (t ∷ ts) a w = goes refl

tail_sound : (layer : Tree-F Tree) (v : Value) (a : Activation) (w : World) → Sound w (eval_tail layer v a w)
tail_sound (Tree-F.Args at arguments) v a w = call_sound v [] arguments a w
tail_sound layer v a w = acts tt

tails_sound : (tails : List Tree) (v : Value) (a : Activation) (w : World) → Sound w (eval_tails tails v a w)
tails_sound [] v a w = goes refl
tails_sound (t ∷ ts) v a w = tail_sound (out-Tree t) v (with_frame (Tails ts) a) w

bind_sound : (declared : DeclarationWord) (name : List ℕ) (tree : Option Tree) (a : Activation) (w : World)
    → Sound w (eval_bind declared name tree a w)
bind_sound declared name (Some t) a w = goes refl
bind_sound word.Var name None a w = goes refl
bind_sound declared name None a w = initialise_sound name value.Undefined a w

binary_sound : (inner : Option Tree) (operator : BinaryOperator) (left right : Tree) (a : Activation) (w : World)
    → Sound w (eval_binary inner operator left right a w)
binary_sound None operator left right a w = goes refl
binary_sound (Some inner) operator left right a w = goes refl

enclosed_sound : (left right : Tree) (layer : Tree-F Tree) (a : Activation) (w : World)
    → Sound w (eval_enclosed left right layer a w)
enclosed_sound left right (Tree-F.Parentheses at inner) a w = goes refl
enclosed_sound left right (Tree-F.Binary at x binary.Divide y) a w = goes refl
enclosed_sound left right layer a w = goes refl

eval_sound : (layer : Tree-F Tree) (a : Activation) (w : World) → Sound w (eval layer a w)
eval_sound (Tree-F.Null at) a w = goes refl
eval_sound (Tree-F.Truth at truth) a w = goes refl
eval_sound (Tree-F.Number at number) a w = goes refl
eval_sound (Tree-F.Text at written octal) a w = goes refl
eval_sound (Tree-F.Template at parts holes) a w = template_sound [] parts holes a w
eval_sound (Tree-F.Identifier at name) a w = name_sound _ a w
eval_sound (Tree-F.Parentheses at inner) a w = goes refl
eval_sound (Tree-F.Comma at trees) a w = goes refl
eval_sound (Tree-F.Assign at target operator right) a w = goes refl
eval_sound (Tree-F.Cond at test first second) a w = goes refl
eval_sound (Tree-F.Binary at left operator right) a w =
    binary_sound (enclosed operator left right) operator left right a w
eval_sound (Tree-F.Unary at operator operand) a w = unary_sound operator operand a w
eval_sound (Tree-F.Postfix at operand operator) a w = goes refl
eval_sound (Tree-F.Left at head tails) a w = goes refl
eval_sound (Tree-F.Bind at declared name tree) a w = bind_sound declared _ tree a w
eval_sound layer a w = acts tt

-- ---- statements

enter_sound : (vars : List (List ℕ)) (layer : Tree-F Tree) (a : Activation) (w : World)
    → Sound w (enter vars layer a w)
enter_sound vars (Tree-F.Script at items) a w = goes refl
enter_sound vars layer a w = acts tt

for_sound : (place : ℕ) (declared : DeclarationWord) (binds : List Tree) (loop : Bool → ForLoop) (a : Activation)
    (w : World) → Sound w (for_binds place declared binds loop a w)
for_sound place word.Var binds loop a w = goes refl
for_sound place word.Let binds loop a w = goes refl
for_sound place word.Const binds loop a w = goes refl

exec_sound : (labels : List Text) (layer : Tree-F Tree) (a : Activation) (w : World) → Sound w (exec labels layer a w)
exec_sound labels (Tree-F.Lexical at declared binds) a w = goes refl
exec_sound labels (Tree-F.Var at binds) a w = goes refl
exec_sound labels (Tree-F.Block at items end) a w = goes refl
exec_sound labels (Tree-F.Empty at) a w = goes refl
exec_sound labels (Tree-F.Debugger at) a w = goes refl
exec_sound labels (Tree-F.If at test first other) a w = goes refl
exec_sound labels (Tree-F.DoWhile at body test) a w = goes refl
exec_sound labels (Tree-F.While at test body) a w = goes refl
exec_sound labels (Tree-F.ForBinds at declared binds test update body end) a w = for_sound at declared binds _ _ w
exec_sound labels (Tree-F.ForExpr at first test update body) a w = goes refl
exec_sound labels (Tree-F.Continue at label) a w = goes refl
exec_sound labels (Tree-F.Break at label) a w = goes refl
exec_sound labels (Tree-F.Throw at thrown) a w = goes refl
exec_sound labels (Tree-F.Switch at input brace clauses end) a w = goes refl
exec_sound labels (Tree-F.Label at name body) a w = goes refl
exec_sound labels (Tree-F.Expression at tree) a w = goes refl
exec_sound labels layer a w = acts tt

-- ---- frames

copied_sound : (copies : Bool) (a : Activation) (w : World) (next : Activation → Activation)
    → Sound w (copied_to copies a w (λ a1 w1. Goes (next a1) w1))
copied_sound true a w next = goes refl
copied_sound false a w next = goes refl

left_sound : (operation : Operation) (right : Tree) (v : Value) (a : Activation) (w : World)
    → Sound w (left_value operation right v a w)
left_sound operation right v a w =
    either (is_decided operation (content w v)) _ _ (goes refl) (goes refl)

case_sound : (selected : Bool) (input : Value) (items rest clauses : List Tree) (a : Activation) (w : World)
    → Sound w (case_value selected input items rest clauses a w)
case_sound true input items rest clauses a w = goes refl
case_sound false input items rest clauses a w = goes refl

value_sound : (f : Frame) (v : Value) (a : Activation) (w : World) → Sound w (use_value f v a w)
value_sound (Statement place) v a w = goes refl
value_sound (Values rest) v a w = goes refl
value_sound (Hole before parts holes) v a w =
    result (to_text (content w v)) a w _ (λ t. template_sound _ parts holes a w)
value_sound (Left operation right) v a w = left_sound operation right v a w
value_sound (Right operation left) v a w =
    result (result_of operation (content w left) (content w v)) a w _ (λ c. goes (keeps_content c w))
value_sound (Operand operator) v a w =
    result (unary_result operator (type_name w.store v) (content w v)) a w _ (λ c. goes (keeps_content c w))
value_sound (Conditional first second) v a w = goes refl
value_sound (AssignTo name) v a w = put_sound name v v a w
value_sound (Initialise name) v a w = initialise_sound name v a w
value_sound (Tails tails) v a w = tails_sound tails v a w
value_sound (Argument callee before rest) v a w = call_sound callee _ rest a w
value_sound (Items rest) v a w = goes refl
value_sound (Restore own) v a w = goes refl
value_sound Breakable v a w = goes refl
value_sound (Labelled label) v a w = goes refl
value_sound (Branch first other) v a w = goes refl
value_sound (WhileTest labels test body) v a w = goes refl
value_sound (WhileBody labels test body) v a w = turn _ w
value_sound (DoBody labels body test) v a w = goes refl
value_sound (DoTest labels body test) v a w = either (holds w v) _ _ (turn _ w) (goes refl)
value_sound (ForFirst loop) v a w = copied_sound loop.copies a w (λ a1. for_test loop a1)
value_sound (ForTest loop) v a w = goes refl
value_sound (ForBody loop) v a w =
    copied_sound loop.copies a w (λ a1. waiting (ForUpdate loop) (maybe loop.update) a1)
value_sound (ForUpdate loop) v a w = turn _ w
value_sound (SwitchValue place clauses) v a w = goes refl
value_sound (CaseValue input items rest clauses) v a w =
    case_sound (strictly_equal (content w input) (content w v)) input items rest clauses a w
value_sound Thrown v a w = goes refl

way_sound : (f : Frame) (way : Way) (a : Activation) (w : World) → Sound w (use_way f way a w)
way_sound (Restore own) way a w = goes refl
way_sound f way a w = either (takes f way) _ _ (value_sound f value.Undefined a w) (goes refl)

-- ---- steps

leaves_sound : (way : Way) (a : Activation) (w : World) → Sound w (leaves way a w)
leaves_sound (Throwing v) a w = acts tt
leaves_sound (Returning v) a w = acts tt
leaves_sound (Breaking target) a w = acts tt
leaves_sound (Continuing target) a w = acts tt

hand_sound : (hand : Hand) (fs : List Frame) (a : Activation) (w : World) → Sound w (on_hand hand fs a w)
hand_sound (Enter function) fs a w = enter_sound function.vars (out-Tree function.tree) a w
hand_sound (Eval tree) fs a w = eval_sound (out-Tree tree) a w
hand_sound (Exec labels tree) fs a w = exec_sound labels (out-Tree tree) _ w
hand_sound (Refer purpose target) fs a w = refer_sound purpose target (out-Tree target) a w
hand_sound (Enclosed inner left right) fs a w = enclosed_sound left right (out-Tree inner) a w
hand_sound (Completed v) [] a w = acts tt
hand_sound (Completed v) (f ∷ fs) a w = value_sound f v _ w
hand_sound (Leaving way) [] a w = leaves_sound way a w
hand_sound (Leaving way) (f ∷ fs) a w = way_sound f way _ w

pub step_plain : (a : Activation) (w : World) → IsPlain (tree_step a w)
step_plain a w = (hand_sound a.hand a.frames a w).meant

pub step_made : (a : Activation) (w : World) → NoneMade w.store.objects (world_behind (tree_step a w)).store.objects
step_made a w = (hand_sound a.hand a.frames a w).made

pub step_turns : (a : Activation) (w : World) → (world_behind (tree_step a w)).turns ≤ w.turns
step_turns a w = (hand_sound a.hand a.frames a w).turns

plain_meant : (next : Next Activation) → IsPlain next → IsMeant next
plain_meant (Goes a w) h = tt
plain_meant (Does Bad a w) h = h
plain_meant (Does act a w) h = tt

pub step_meant : (a : Activation) (w : World) → IsMeant (tree_step a w)
step_meant a w = plain_meant (tree_step a w) (step_plain a w)

pub trees_take_turns : (trees : Trees) → TakesTurns (tree_meaning trees)
trees_take_turns trees = record { by = step_turns }

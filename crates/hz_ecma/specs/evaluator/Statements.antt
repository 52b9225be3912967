-- The script (ECMA-262, 16.1.6) and statements (clause 14). One clause for each node: `exec` begins with it.
use Rattle.std.specs.Prelude.{ℕ, Bool, true, false, if◌then◌else◌, List, [], ◌∷◌, ◌++◌, Option, Some, None, option_map}
use Rattle.hz_tree.specs.declared.operator.DeclarationWord.{DeclarationWord}
use Rattle.hz_tree.specs.declared.operator.DeclarationWord.TheVariants as word
use Rattle.hz_tree.specs.declared.tree.Bound.{Bound}
use Rattle.hz_tree.specs.declared.tree.Tree.{Tree, out-Tree}
use Rattle.hz_tree.specs.declared.tree.Tree.TheOpen.{Tree-F}
use Rattle.hz_tree.specs.tokens.Text.{Text}
use Rattle.hz_value.specs.declared.values.Value.{Value}
use Rattle.hz_value.specs.declared.values.Value.TheVariants as value
use Rattle.hz_value.specs.world.World.{World}
use Rattle.hz_value.specs.system.Acts.{Next, Goes}
use Rattle.hz_ecma.specs.evaluator.Activations.{Activation, Eval, Exec, Leaving, Breaking, Continuing}
use Rattle.hz_ecma.specs.evaluator.Activations.{Breakable, Labelled, Branch, WhileTest, DoBody, ForLoop, ForFirst}
use Rattle.hz_ecma.specs.evaluator.Activations.{ForTest}
use Rattle.hz_ecma.specs.evaluator.Activations.{ForBody, SwitchValue, CaseValue, Thrown}
use Rattle.hz_ecma.specs.evaluator.Scopes.{bound_by, declared_by, scoped_to, instantiated_to}
use Rattle.hz_ecma.specs.evaluator.Moves.{holding, waiting, with_frame, done, not_built, all_values, all_items, maybe}

-- ---- loops (14.7): in a body no label stands directly before the statement

-- 14.7.2, 14.7.3
abbrev pub do_body : List Text → Tree → Tree → Activation → Activation
do_body labels body test a = waiting (DoBody labels body test) (Exec [] body) a

abbrev pub while_test : List Text → Tree → Tree → Activation → Activation
while_test labels test body a = waiting (WhileTest labels test body) (Eval test) a

-- ForBodyEvaluation (14.7.4.3): the test, where there is one, and the body
abbrev pub for_body : ForLoop → Activation → Activation
for_body loop a = waiting (ForBody loop) (Exec [] loop.body) a

abbrev pub for_next : ForLoop → Option Tree → Activation → Activation
for_next loop None a = for_body loop a
for_next loop (Some test) a = waiting (ForTest loop) (Eval test) a

abbrev pub for_test : ForLoop → Activation → Activation
for_test loop a = for_next loop loop.test a

abbrev pub for_loop : List Text → Bool → Option Tree → Option Tree → Tree → ForLoop
for_loop labels copies test update body =
    record { labels = labels; copies = copies; test = test; update = update; body = body }

-- 14.7.4.2: names of `let` are bound anew for each iteration, those of `const` once; those of `var` are no names of
-- the loop
abbrev pub for_binds : ℕ → DeclarationWord → List Tree → (Bool → ForLoop) → Activation → World → Next Activation
for_binds place word.Var binds loop a w =
    Goes (all_values value.Undefined binds (with_frame (ForFirst (loop false)) a)) w
for_binds place word.Let binds loop a w =
    scoped_to place (bound_by binds) a w
    (λ a1 w1. Goes (all_values value.Undefined binds (with_frame (ForFirst (loop true)) a1)) w1)
for_binds place word.Const binds loop a w =
    scoped_to place (bound_by binds) a w
    (λ a1 w1. Goes (all_values value.Undefined binds (with_frame (ForFirst (loop false)) a1)) w1)

-- ---- switch (14.12)

abbrev pub clause_items : Tree-F Tree → List Tree
clause_items (Tree-F.Case at test items) = items
clause_items (Tree-F.Default at items) = items
clause_items layer = []

-- the items from the first of these clauses on
abbrev pub items_from : List Tree → List Tree
items_from [] = []
items_from (c ∷ cs) = clause_items (out-Tree c) ++ items_from cs

-- from the default clause on, where there is one
abbrev pub is_default : Tree-F Tree → Bool
is_default (Tree-F.Default at items) = true
is_default layer = false

abbrev pub items_of_default : List Tree → List Tree
items_of_default [] = []
items_of_default (c ∷ cs) = if is_default (out-Tree c) then items_from (c ∷ cs) else items_of_default cs

-- a test is evaluated; the default clause has none
abbrev pub case_test : Value → List Tree → List Tree → Activation → Activation → Tree-F Tree → Activation
case_test input clauses cs a behind (Tree-F.Case at test items) =
    waiting (CaseValue input (items ++ items_from cs) cs clauses) (Eval test) a
case_test input clauses cs a behind layer = behind

-- the tests of these clauses from the first on; behind the last one it is the turn of the default clause
-- (CaseBlockEvaluation, 14.12.2)
abbrev pub next_case : Value → List Tree → List Tree → Activation → Activation
next_case input clauses [] a = all_items (items_of_default clauses) a
next_case input clauses (c ∷ cs) a = case_test input clauses cs a (next_case input clauses cs a) (out-Tree c)

-- ---- jumps (14.8, 14.9)

abbrev pub target_of : Option Bound → Option Text
target_of label = option_map (λ b. b.name) label

-- ---- functions: what is in hand first

abbrev pub enter : List (List ℕ) → Tree-F Tree → Activation → World → Next Activation
enter vars (Tree-F.Script at items) a w = instantiated_to vars items a w (λ a1 w1. Goes (all_items items a1) w1)
enter vars layer a w = not_built a w

-- ---- one clause for each node

abbrev pub exec : List Text → Tree-F Tree → Activation → World → Next Activation
exec labels (Tree-F.Lexical at declared binds) a w = Goes (all_values value.Undefined binds a) w
exec labels (Tree-F.Var at binds) a w = Goes (all_values value.Undefined binds a) w
exec labels (Tree-F.Block at items end) a w =
    scoped_to at (declared_by items) a w (λ a1 w1. Goes (all_items items a1) w1)
exec labels (Tree-F.Empty at) a w = Goes (done a) w
exec labels (Tree-F.Debugger at) a w = Goes (done a) w
exec labels (Tree-F.If at test first other) a w = Goes (waiting (Branch first other) (Eval test) a) w
exec labels (Tree-F.DoWhile at body test) a w = Goes (do_body labels body test (with_frame Breakable a)) w
exec labels (Tree-F.While at test body) a w = Goes (while_test labels test body (with_frame Breakable a)) w
exec labels (Tree-F.ForBinds at declared binds test update body end) a w =
    for_binds at declared binds (λ copies. for_loop labels copies test update body) (with_frame Breakable a) w
exec labels (Tree-F.ForExpr at first test update body) a w =
    Goes (waiting (ForFirst (for_loop labels false test update body)) (maybe first) (with_frame Breakable a)) w
exec labels (Tree-F.Continue at label) a w = Goes (holding (Leaving (Continuing (target_of label))) a) w
exec labels (Tree-F.Break at label) a w = Goes (holding (Leaving (Breaking (target_of label))) a) w
exec labels (Tree-F.Throw at thrown) a w = Goes (waiting Thrown (Eval thrown) a) w
exec labels (Tree-F.Switch at input brace clauses end) a w =
    Goes (waiting (SwitchValue brace clauses) (Eval input) (with_frame Breakable a)) w
exec labels (Tree-F.Label at name body) a w = Goes (waiting (Labelled name) (Exec (name ∷ labels) body) a) w
exec labels (Tree-F.Expression at tree) a w = Goes (holding (Eval tree) a) w
exec labels layer a w = not_built a w

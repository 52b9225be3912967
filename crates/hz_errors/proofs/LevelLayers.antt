-- What the events of each variant of trees do to the state of levels, from what those of the trees in it do.
use Rattle.std.proofs.Common.{◌≡◌, ℕ, List, [], ◌∷◌, Option, Some, None, refl}
use Rattle.hz_tree.specs.declared.signal.Jump.{Jump}
use Rattle.hz_tree.specs.declared.signal.NodeKind.TheVariants as kind
use Rattle.hz_tree.specs.declared.signal.NodeShape.TheVariants as shape
use Rattle.hz_tree.specs.declared.signal.Role.TheVariants as role
use Rattle.hz_tree.specs.declared.signal.Signal.TheVariants as tell
use Rattle.hz_tree.specs.declared.tree.Bound.{Bound}
use Rattle.hz_tree.specs.declared.tree.FunctionForm.TheVariants as form
use Rattle.hz_tree.specs.declared.tree.Tree.TheOpen.{Tree-F}
use Rattle.hz_tree.specs.errors.Limits.{Depths}
use Rattle.hz_tree.specs.grammar.Signals.{Event, Plain}
use Rattle.hz_tree.specs.trees.Events.{told_name, told_jump, told_scope}
use Rattle.hz_laws.specs.Sorts.{statement, bind, clause, handler, expression, element, property, method}
use Rattle.hz_laws.specs.Sorts.{body, key, tail}
use Rattle.hz_laws.proofs.Ranks.{and_left, and_right, false_true}
use Rattle.hz_errors.specs.Levels.{State, joined, after}
use Rattle.hz_errors.proofs.LevelActs.{Adds, JoinsFirst, ChangesNothing, adds_none, adds_both, adds_put}
use Rattle.hz_errors.proofs.LevelActs.{adds_quiet, adds_then, ends_quiet, ends_with, ends_node, ends_put}
use Rattle.hz_errors.proofs.LevelActs.{ends_parentheses, expression_adds, inner_adds, leaf, part, operand, grows}
use Rattle.hz_errors.proofs.LevelActs.{statement as one_statement}
use Rattle.hz_errors.proofs.LevelCounts.{arguments, method_puts, arrow_puts, expression_puts, declaration_adds}
use Rattle.hz_errors.proofs.LevelTrees.{Proved, LayerActs, join_first, puts_as, adds_as, all_add, all_into, all_put}
use Rattle.hz_errors.proofs.LevelTrees.{option_adds, option_into, initial_adds, script_puts, statement_adds, bind_adds}
use Rattle.hz_errors.proofs.LevelTrees.{clause_adds, handler_adds, element_puts, property_puts, spread_puts, body_puts}
use Rattle.hz_errors.proofs.LevelTrees.{key_adds, tail_adds}
use Rattle.hz_errors.proofs.LevelTrees.{expression_puts as operand_puts, method_puts as part_puts}

-- ---- what adds nothing

one_quiet : (e : Event) → ((s : State) → after s (e ∷ []) ≡ s) → ChangesNothing (e ∷ [])
one_quiet e h = record { keeps = h }

scope_adds : (end : Option ℕ) {es : (List Event)} {ds : List Depths} → Adds es ds → Adds (told_scope end es) ds
scope_adds None h = h
scope_adds (Some end) h = adds_quiet _ (λ s. refl) (adds_then h (one_quiet _ (λ s. refl)))

caught_adds : (name : Option Bound) → Adds (told_name role.Caught name) []
caught_adds None = adds_none
caught_adds (Some bound) = adds_quiet _ (λ s. refl) adds_none

jump_adds : (jump : Jump) (label : Option Bound) → Adds (told_jump jump label) []
jump_adds jump None = adds_quiet _ (λ s. refl) adds_none
jump_adds jump (Some label) = adds_quiet _ (λ s. refl) adds_none

-- one quiet event before or behind a join
joins_behind : (e : Event) (more : List Event) → ((s : State) → after s (e ∷ Plain tell.Join ∷ more)
    ≡ after (joined s) more) → JoinsFirst (e ∷ Plain tell.Join ∷ more) more
joins_behind e more h = record { joins = h }

joins_before : (e : Event) (more : List Event) → ((s : State) → after s (e ∷ more) ≡ after s more)
    → JoinsFirst (Plain tell.Join ∷ e ∷ more) more
joins_before e more h = record { joins = λ s. h (joined s) }

-- ---- each variant

pub layer_acts : (y : Tree-F Proved) → LayerActs y
layer_acts (Tree-F.Script at items) w h =
    puts_as w (script_puts w (and_left _ _ h)) (part at kind.Body (all_add statement refl items (and_right _ _ h)))
layer_acts (Tree-F.Function at end (form.Declaration bound) kind parameters rest within) w h =
    adds_as w (statement_adds w (and_left _ _ h))
    (declaration_adds at end bound kind parameters rest (within.1 body (and_right _ _ h)))
layer_acts (Tree-F.Function at end (form.Expression name) kind parameters rest within) w h =
    puts_as w (operand_puts w (and_left _ _ h))
    (expression_puts at end name kind parameters rest (within.1 body (and_right _ _ h)))
layer_acts (Tree-F.Function at end form.Arrow kind parameters rest within) w h =
    puts_as w (operand_puts w (and_left _ _ h))
    (arrow_puts at end kind parameters rest (within.1 body (and_right _ _ h)))
layer_acts (Tree-F.Function at end form.Method kind parameters rest within) w h =
    puts_as w (part_puts w (and_left _ _ h))
    (method_puts at end kind parameters rest (within.1 body (and_right _ _ h)))
layer_acts (Tree-F.Inner at number form) w h = cc
layer_acts (Tree-F.Body at items) w h =
    puts_as w (body_puts w (and_left _ _ h)) (part at kind.Body (all_add statement refl items (and_right _ _ h)))
layer_acts (Tree-F.Lexical at word binds) w h =
    adds_as w (statement_adds w (and_left _ _ h))
    (one_statement at kind.Statement kind.Statement (all_add bind refl binds (and_right _ _ h)))
layer_acts (Tree-F.Var at binds) w h =
    adds_as w (statement_adds w (and_left _ _ h))
    (one_statement at kind.Statement kind.Statement (all_add bind refl binds (and_right _ _ h)))
layer_acts (Tree-F.Bind at word name value) w h =
    adds_as w (bind_adds w (and_left _ _ h))
    (inner_adds at (adds_quiet _ (λ s. refl) (initial_adds word value (and_right _ _ h))))
layer_acts (Tree-F.Block at items end) w h =
    adds_as w (statement_adds w (and_left _ _ h))
    (one_statement at kind.Statement kind.Statement
    (scope_adds (Some end) (all_add statement refl items (and_right _ _ h))))
layer_acts (Tree-F.Empty at) w h =
    adds_as w (statement_adds w h) (one_statement at kind.Statement kind.Statement adds_none)
layer_acts (Tree-F.Debugger at) w h =
    adds_as w (statement_adds w h) (one_statement at kind.Statement kind.Statement adds_none)
layer_acts (Tree-F.If at test within other) w h =
    let parts = and_right _ _ h in
    let more = and_right _ _ parts in
    adds_as w (statement_adds w (and_left _ _ h))
    (one_statement at kind.Statement kind.Statement
    (adds_put (test.1 expression (and_left _ _ parts)) (join_first _)
    (adds_both (within.1 statement (and_left _ _ more)) (option_adds statement refl other (and_right _ _ more)))))
layer_acts (Tree-F.DoWhile at within test) w h =
    let parts = and_right _ _ h in
    adds_as w (statement_adds w (and_left _ _ h))
    (one_statement at kind.Loop kind.Loop
    (adds_both (within.1 statement (and_left _ _ parts))
    (adds_put (test.1 expression (and_right _ _ parts)) (join_first _) adds_none)))
layer_acts (Tree-F.While at test within) w h =
    let parts = and_right _ _ h in
    adds_as w (statement_adds w (and_left _ _ h))
    (one_statement at kind.Loop kind.Loop
    (adds_put (test.1 expression (and_left _ _ parts)) (join_first _) (within.1 statement (and_right _ _ parts))))
layer_acts (Tree-F.ForDeclared at word bound iteration over within end) w h =
    let parts = and_right _ _ h in
    adds_as w (statement_adds w (and_left _ _ h))
    (one_statement at kind.Loop kind.Loop
    (scope_adds end (adds_quiet _ (λ s. refl)
    (adds_put (over.1 expression (and_left _ _ parts)) (join_first _) (within.1 statement (and_right _ _ parts))))))
layer_acts (Tree-F.ForBinds at word binds test update within end) w h =
    let parts = and_right _ _ h in
    let more = and_right _ _ parts in
    let last = and_right _ _ more in
    adds_as w (statement_adds w (and_left _ _ h))
    (one_statement at kind.Loop kind.Loop
    (scope_adds end
    (adds_both (all_add bind refl binds (and_left _ _ parts))
    (adds_both (option_into expression refl test (and_left _ _ more))
    (adds_both (option_into expression refl update (and_left _ _ last)) (within.1 statement (and_right _ _ last)))))))
layer_acts (Tree-F.ForLeft at target iteration over within) w h =
    let parts = and_right _ _ h in
    let more = and_right _ _ parts in
    adds_as w (statement_adds w (and_left _ _ h))
    (one_statement at kind.Loop kind.Loop
    (adds_put (target.1 expression (and_left _ _ parts)) (joins_behind _ _ (λ s. refl))
    (adds_put (over.1 expression (and_left _ _ more)) (join_first _) (within.1 statement (and_right _ _ more)))))
layer_acts (Tree-F.ForExpr at first test update within) w h =
    let parts = and_right _ _ h in
    let more = and_right _ _ parts in
    let last = and_right _ _ more in
    adds_as w (statement_adds w (and_left _ _ h))
    (one_statement at kind.Loop kind.Loop
    (adds_both (option_into expression refl first (and_left _ _ parts))
    (adds_both (option_into expression refl test (and_left _ _ more))
    (adds_both (option_into expression refl update (and_left _ _ last)) (within.1 statement (and_right _ _ last))))))
layer_acts (Tree-F.Continue at label) w h =
    adds_as w (statement_adds w h) (one_statement at kind.Statement kind.Statement (jump_adds _ label))
layer_acts (Tree-F.Break at label) w h =
    adds_as w (statement_adds w h) (one_statement at kind.Statement kind.Statement (jump_adds _ label))
layer_acts (Tree-F.Return at value) w h =
    adds_as w (statement_adds w (and_left _ _ h))
    (one_statement at kind.Statement kind.Statement (option_into expression refl value (and_right _ _ h)))
layer_acts (Tree-F.Throw at value) w h =
    adds_as w (statement_adds w (and_left _ _ h))
    (one_statement at kind.Statement kind.Statement
    (adds_put (value.1 expression (and_right _ _ h)) (join_first _) adds_none))
layer_acts (Tree-F.Switch at value brace clauses end) w h =
    let parts = and_right _ _ h in
    adds_as w (statement_adds w (and_left _ _ h))
    (one_statement at kind.Switch kind.Switch
    (adds_put (value.1 expression (and_left _ _ parts)) (joins_before _ _ (λ s. refl))
    (adds_then (all_add clause refl clauses (and_right _ _ parts)) (one_quiet _ (λ s. refl)))))
layer_acts (Tree-F.Case at value items) w h =
    let parts = and_right _ _ h in
    adds_as w (clause_adds w (and_left _ _ h))
    (inner_adds at
    (adds_put (value.1 expression (and_left _ _ parts)) (join_first _)
    (all_add statement refl items (and_right _ _ parts))))
layer_acts (Tree-F.Default at items) w h =
    adds_as w (clause_adds w (and_left _ _ h)) (inner_adds at (all_add statement refl items (and_right _ _ h)))
layer_acts (Tree-F.Try at block handling finally) w h =
    let parts = and_right _ _ h in
    let more = and_right _ _ parts in
    adds_as w (statement_adds w (and_left _ _ h))
    (one_statement at kind.Statement kind.Statement
    (adds_both (block.1 statement (and_left _ _ parts))
    (adds_both (option_adds handler refl handling (and_left _ _ more))
    (option_adds statement refl finally (and_right _ _ more)))))
layer_acts (Tree-F.Catch at bound brace items end) w h =
    adds_as w (handler_adds w (and_left _ _ h))
    (inner_adds at
    (adds_quiet _ (λ s. refl)
    (adds_both (caught_adds bound)
    (adds_then
    (one_statement brace kind.Statement kind.Statement (all_add statement refl items (and_right _ _ h)))
    (one_quiet _ (λ s. refl))))))
layer_acts (Tree-F.Label at name within) w h =
    adds_as w (statement_adds w (and_left _ _ h))
    (one_statement at kind.Label kind.Label
    (adds_quiet _ (λ s. refl) (within.1 statement (and_right _ _ h))))
layer_acts (Tree-F.Expression at value) w h =
    adds_as w (statement_adds w (and_left _ _ h))
    (expression_adds at kind.Expression kind.Statement (value.1 expression (and_right _ _ h)))
layer_acts (Tree-F.Comma at []) w h = absurd (false_true (and_right _ _ h))
layer_acts (Tree-F.Comma at (first ∷ more)) w h =
    let parts = and_right _ _ h in
    puts_as w (operand_puts w (and_left _ _ h))
    (grows (first.1 expression (and_left _ _ parts))
    (ends_with shape.Other (all_into expression refl more (and_right _ _ parts))))
layer_acts (Tree-F.Assign at target operator value) w h =
    let parts = and_right _ _ h in
    puts_as w (operand_puts w (and_left _ _ h))
    (grows (target.1 expression (and_left _ _ parts))
    (ends_quiet _ (λ s. refl)
    (ends_put (value.1 expression (and_right _ _ parts)) (join_first _) (ends_node shape.Other))))
layer_acts (Tree-F.Yield at delegates value) w h =
    puts_as w (operand_puts w (and_left _ _ h))
    (operand at kind.Operand (ends_with shape.Other (option_into expression refl value (and_right _ _ h))))
layer_acts (Tree-F.Cond at test first second) w h =
    let parts = and_right _ _ h in
    let more = and_right _ _ parts in
    puts_as w (operand_puts w (and_left _ _ h))
    (grows (test.1 expression (and_left _ _ parts))
    (ends_put (first.1 expression (and_left _ _ more)) (join_first _)
    (ends_put (second.1 expression (and_right _ _ more)) (join_first _) (ends_node shape.Other))))
layer_acts (Tree-F.Binary at left operator right) w h =
    let parts = and_right _ _ h in
    puts_as w (operand_puts w (and_left _ _ h))
    (grows (left.1 expression (and_left _ _ parts))
    (ends_put (right.1 expression (and_right _ _ parts)) (join_first _) (ends_node shape.Other)))
layer_acts (Tree-F.Unary at operator value) w h =
    puts_as w (operand_puts w (and_left _ _ h))
    (operand at kind.Operand
    (ends_with shape.Other
    (adds_put (value.1 expression (and_right _ _ h)) (joins_behind _ _ (λ s. refl)) adds_none)))
layer_acts (Tree-F.Postfix at value operator) w h =
    puts_as w (operand_puts w (and_left _ _ h))
    (grows (value.1 expression (and_right _ _ h)) (ends_quiet _ (λ s. refl) (ends_node shape.Other)))
layer_acts (Tree-F.Left at head tails) w h =
    let parts = and_right _ _ h in
    puts_as w (operand_puts w (and_left _ _ h))
    (grows (head.1 expression (and_left _ _ parts))
    (ends_with shape.Same (all_add tail refl tails (and_right _ _ parts))))
layer_acts (Tree-F.NewTarget at) w h = puts_as w (operand_puts w h) (leaf at _ (λ s. refl))
layer_acts (Tree-F.New at callee members args) w h =
    let parts = and_right _ _ h in
    let more = and_right _ _ parts in
    puts_as w (operand_puts w (and_left _ _ h))
    (operand at kind.Operand
    (ends_with shape.Other
    (adds_put (callee.1 expression (and_left _ _ parts)) (join_first _)
    (adds_both (all_add tail refl members (and_left _ _ more)) (option_adds tail refl args (and_right _ _ more))))))
layer_acts (Tree-F.Dot at word) w h =
    adds_as w (tail_adds w h) (inner_adds at (adds_quiet _ (λ s. refl) adds_none))
layer_acts (Tree-F.Index at within) w h =
    adds_as w (tail_adds w (and_left _ _ h))
    (inner_adds at
    (adds_put (within.1 expression (and_right _ _ h)) (joins_before _ _ (λ s. refl)) adds_none))
layer_acts (Tree-F.Args at values) w h =
    adds_as w (tail_adds w (and_left _ _ h)) (arguments at _ _ (all_put element refl values (and_right _ _ h)))
layer_acts (Tree-F.Optional at within) w h =
    adds_as w (tail_adds w (and_left _ _ h))
    (inner_adds at (adds_then (within.1 tail (and_right _ _ h)) (one_quiet _ (λ s. refl))))
layer_acts (Tree-F.Spread at value) w h =
    puts_as w (spread_puts w (and_left _ _ h))
    (part at kind.Part (adds_put (value.1 expression (and_right _ _ h)) (join_first _) adds_none))
layer_acts (Tree-F.This at) w h = puts_as w (operand_puts w h) (leaf at _ (λ s. refl))
layer_acts (Tree-F.Identifier at name) w h = puts_as w (operand_puts w h) (leaf at _ (λ s. refl))
layer_acts (Tree-F.Null at) w h = puts_as w (operand_puts w h) (leaf at _ (λ s. refl))
layer_acts (Tree-F.Truth at value) w h = puts_as w (operand_puts w h) (leaf at _ (λ s. refl))
layer_acts (Tree-F.Number at value) w h = puts_as w (operand_puts w h) (leaf at _ (λ s. refl))
layer_acts (Tree-F.OctalNumber at) w h = puts_as w (operand_puts w h) (leaf at _ (λ s. refl))
layer_acts (Tree-F.Text at written octal) w h = puts_as w (operand_puts w h) (leaf at _ (λ s. refl))
layer_acts (Tree-F.Parentheses at value) w h =
    puts_as w (operand_puts w (and_left _ _ h))
    (operand at kind.Operand (ends_parentheses (value.1 expression (and_right _ _ h))))
layer_acts (Tree-F.Template at parts holes) w h =
    puts_as w (operand_puts w (and_left _ _ h))
    (operand at kind.Operand (ends_with shape.Other (all_into expression refl holes (and_right _ _ h))))
layer_acts (Tree-F.Array at elements) w h =
    puts_as w (operand_puts w (and_left _ _ h))
    (operand at kind.Operand (ends_with shape.Pattern (all_into element refl elements (and_right _ _ h))))
layer_acts (Tree-F.Hole at) w h = puts_as w (element_puts w h) (part at kind.Part adds_none)
layer_acts (Tree-F.Object at props) w h =
    puts_as w (operand_puts w (and_left _ _ h))
    (operand at kind.Operand (ends_with shape.Pattern (all_into property refl props (and_right _ _ h))))
layer_acts (Tree-F.Shorthand at name) w h =
    puts_as w (property_puts w h) (part at kind.Part (adds_quiet _ (λ s. refl) adds_none))
layer_acts (Tree-F.Property at named value) w h =
    let parts = and_right _ _ h in
    puts_as w (property_puts w (and_left _ _ h))
    (part at kind.Part
    (adds_both (named.1 key (and_left _ _ parts))
    (adds_quiet _ (λ s. refl)
    (adds_put (value.1 expression (and_right _ _ parts)) (join_first _) adds_none))))
layer_acts (Tree-F.Method at named function) w h =
    let parts = and_right _ _ h in
    puts_as w (property_puts w (and_left _ _ h))
    (part at kind.Part
    (adds_both (named.1 key (and_left _ _ parts))
    (adds_put (function.1 method (and_right _ _ parts)) (join_first _) adds_none)))
layer_acts (Tree-F.Getter at named function) w h =
    let parts = and_right _ _ h in
    puts_as w (property_puts w (and_left _ _ h))
    (part at kind.Part
    (adds_both (named.1 key (and_left _ _ parts))
    (adds_put (function.1 method (and_right _ _ parts)) (join_first _) adds_none)))
layer_acts (Tree-F.Setter at named function) w h =
    let parts = and_right _ _ h in
    puts_as w (property_puts w (and_left _ _ h))
    (part at kind.Part
    (adds_both (named.1 key (and_left _ _ parts))
    (adds_put (function.1 method (and_right _ _ parts)) (join_first _) adds_none)))
layer_acts (Tree-F.WordKey at word) w h =
    adds_as w (key_adds w h) (inner_adds at (adds_quiet _ (λ s. refl) adds_none))
layer_acts (Tree-F.TextKey at written octal) w h =
    adds_as w (key_adds w h) (inner_adds at (adds_quiet _ (λ s. refl) adds_none))
layer_acts (Tree-F.NumberKey at value) w h = adds_as w (key_adds w h) (inner_adds at adds_none)
layer_acts (Tree-F.OctalKey at) w h =
    adds_as w (key_adds w h) (inner_adds at (adds_quiet _ (λ s. refl) adds_none))
layer_acts (Tree-F.ComputedKey at within) w h =
    adds_as w (key_adds w (and_left _ _ h))
    (inner_adds at (adds_put (within.1 expression (and_right _ _ h)) (join_first _) adds_none))

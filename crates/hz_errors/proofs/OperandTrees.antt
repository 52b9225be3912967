-- What the events of each variant of a tree do to the state of operands.
use Rattle.std.proofs.Common.{◌≡◌, ℕ, Bool, true, false, ◌&&◌, List, [], ◌∷◌, ◌++◌, map, Option, Some, None, refl, ap}
use Rattle.std.proofs.Common.{sym, ◌∙◌}
use Rattle.hz_tree.specs.declared.operator.DeclarationWord.{DeclarationWord}
use Rattle.hz_tree.specs.declared.signal.NodeKind.TheVariants as kind
use Rattle.hz_tree.specs.declared.signal.Role.{Role}
use Rattle.hz_tree.specs.declared.tree.Bound.{Bound}
use Rattle.hz_tree.specs.tokens.Text.{Text}
use Rattle.hz_tree.specs.declared.signal.Jump.TheVariants as jump
use Rattle.hz_tree.specs.declared.scope.ScopeKind.TheVariants as scope_kind
use Rattle.hz_tree.specs.declared.signal.Role.TheVariants as role
use Rattle.hz_tree.specs.declared.signal.Signal.TheVariants as tell
use Rattle.hz_tree.specs.declared.tree.FunctionForm.TheVariants as form
use Rattle.hz_tree.specs.declared.tree.Tree.{Tree}
use Rattle.hz_tree.specs.declared.tree.Tree.TheOpen.{Tree-F}
use Rattle.hz_tree.specs.declared.tree.Tree.TheFolds.{map-Tree}
use Rattle.hz_tree.specs.tokens.Values.{text_value}
use Rattle.hz_tree.specs.grammar.Operators.{takes_pattern}
use Rattle.hz_tree.specs.grammar.Signals.{Event, Plain, Placed, Texted, Named, Written}
use Rattle.hz_tree.specs.trees.Events.{told_layer, told_all, told_statement, events_of}
use Rattle.hz_tree.specs.errors.Targets.{Operand, Meaning, Errors, joined, inside, means, means_tail, means_key}
use Rattle.hz_tree.specs.errors.Targets.{means_body, member}
use Rattle.hz_tree.specs.errors.Targets.{plain, a_name, a_text, another, no_errors, octal_errors, target_errors}
use Rattle.hz_tree.specs.errors.Targets.{is_proto}
use Rattle.hz_tree.specs.errors.Targets.{meaning_layer, meaning_of}
use Rattle.hz_laws.specs.Sorts.{Sort, script, statement, bind, clause, handler, expression, element, property, method}
use Rattle.hz_laws.specs.Sorts.{body}
use Rattle.hz_laws.specs.Sorts.{key, tail, is_script, is_statement, is_bind, is_clause, is_handler, is_expression}
use Rattle.hz_laws.specs.Sorts.{is_element, is_property, is_method, is_body, is_key, is_tail, all_fit, Fits, fits_layer}
use Rattle.hz_laws.specs.Sorts.{fits_of}
use Rattle.hz_laws.proofs.Ranks.{false_true, and_left, and_right}
use Rattle.hz_errors.specs.Operands.{Operands, noting, closing, pushed, changed, as_tailed, as_marked, after}
use Rattle.hz_errors.proofs.OperandSteps.{after_append, noting_none, noting_twice, closed, any, Over, over_none}
use Rattle.hz_errors.proofs.OperandSteps.{over_join}
use Rattle.hz_errors.proofs.OperandSteps.{Pushes}
use Rattle.hz_errors.proofs.OperandSorts.{Acts, Sorted, Proved, trees, events_in, meanings_in, as_script, as_statement}
use Rattle.hz_errors.proofs.OperandSorts.{as_bind, as_clause, as_handler, as_expression, as_element, as_property}
use Rattle.hz_errors.proofs.OperandSorts.{as_method, as_body, as_key, as_tail, statement_alone, bind_alone}
use Rattle.hz_errors.proofs.OperandSorts.{clause_alone}
use Rattle.hz_errors.proofs.OperandSorts.{handler_alone, expression_part, element_part, property_part, fills_items}
use Rattle.hz_errors.proofs.OperandSorts.{tells_items}
use Rattle.hz_errors.proofs.OperandPieces.{Piece, nothing, one, all_of, all_into, all_arguments, both, join, join_last}
use Rattle.hz_errors.proofs.OperandPieces.{behind, before, scope, jumps, initial, within, Whole, node, node_directs}
use Rattle.hz_errors.proofs.OperandPieces.{stands}
use Rattle.hz_errors.proofs.OperandPieces.{stands_alone}
use Rattle.hz_errors.proofs.OperandExpressions.{end_join, end_joined, end_piece, end_new, operand_node}
use Rattle.hz_errors.proofs.OperandExpressions.{literal_node, operator_node, assign_node, postfix_node, unary_node}
use Rattle.hz_errors.proofs.OperandExpressions.{parentheses_node, left_node}
use Rattle.hz_errors.proofs.OperandParts.{index_tail, call_tail, optional_tail, plain_key, computed_key, is_part}
use Rattle.hz_errors.proofs.OperandParts.{as_part}
use Rattle.hz_errors.proofs.OperandParts.{part_node, shorthand_node, property_node, method_node, expression_node}
use Rattle.hz_errors.proofs.OperandParts.{declaration_node, function_node, arrow_node, method_function}

-- ---- trees that are put together here

for_left_directs : (at : ℕ) (target over inner : Proved) → fits_of target.0 expression ≡ true
    → fits_of over.0 expression ≡ true
    → fits_of inner.0 statement ≡ true
    → Over closed
    (events_of target.0
    ++ Plain (tell.Target true) ∷ Plain tell.Join ∷ (events_of over.0 ++ Plain tell.Join ∷ events_of inner.0))
    (joined (meaning_of target.0).errors
    (joined (target_errors true (meaning_of target.0).operand)
    (joined (meaning_of over.0).errors (meaning_of inner.0).errors)))
for_left_directs at target over inner h i j s =
    let x : Meaning = meaning_of target.0 in
    let found : Errors = target_errors true x.operand in
    let others : Errors = joined (meaning_of over.0).errors (meaning_of inner.0).errors in
    let rest : List Event = events_of over.0 ++ Plain tell.Join ∷ events_of inner.0 in
    after_append (closing s) (events_of target.0) (Plain (tell.Target true) ∷ Plain tell.Join ∷ rest)
    ∙ ap (λ t. after t (Plain (tell.Target true) ∷ Plain tell.Join ∷ rest))
    ((target.1 expression h).pushes (closing s))
    ∙ over_join closed (events_of over.0) (events_of inner.0) (meaning_of over.0).errors (meaning_of inner.0).errors
    (expression_part over i) (statement_alone inner j) (noting found (noting x.errors s))
    ∙ noting_twice found others (noting x.errors (closing s))
    ∙ noting_twice x.errors (joined found others) (closing s)

abbrev for_left_node : (at : ℕ) → (target over inner : Proved) → Whole statement
for_left_node at target over inner =
    let x : Meaning = meaning_of target.0 in
    let rest : List Event = events_of over.0 ++ Plain tell.Join ∷ events_of inner.0 in
    let needed : Bool = fits_of over.0 expression && fits_of inner.0 statement in
    record {
      needs = fits_of target.0 expression && needed;
      events =
          told_statement kind.Loop at (events_of target.0 ++ Plain (tell.Target true) ∷ Plain tell.Join ∷ rest);
      meaning =
          means (plain at another)
          (joined x.errors
          (joined (target_errors true x.operand) (joined (meaning_of over.0).errors (meaning_of inner.0).errors)));
      acts = λ h.
          node_directs kind.Loop at
          (events_of target.0 ++ Plain (tell.Target true) ∷ Plain tell.Join ∷ rest)
          (joined x.errors
          (joined (target_errors true x.operand) (joined (meaning_of over.0).errors (meaning_of inner.0).errors)))
          (λ s. refl)
          (for_left_directs at target over inner (and_left (fits_of target.0 expression) needed h)
          (and_left (fits_of over.0 expression) (fits_of inner.0 statement)
          (and_right (fits_of target.0 expression) needed h))
          (and_right (fits_of over.0 expression) (fits_of inner.0 statement)
          (and_right (fits_of target.0 expression) needed h)));
    }

-- ---- by sorts

stated : (wanted : Sort) (w : Whole statement) → (is_statement wanted && w.needs) ≡ true
    → Acts wanted w.events w.meaning
stated = stands statement is_statement as_statement

valued : (wanted : Sort) (w : Whole expression) → (is_expression wanted && w.needs) ≡ true
    → Acts wanted w.events w.meaning
valued = stands expression is_expression as_expression

pushed_alone : (wanted : Sort) (es : List Event) (operand : Operand) (a : Errors) → Pushes es operand a
    → is_expression wanted ≡ true
    → Acts wanted es (means operand a)
pushed_alone wanted es operand a i h =
    as_expression wanted es (means operand a) h (record { pushes = i; undirected = refl })

-- an operand without errors
leaf : (wanted : Sort) (es : List Event) (operand : Operand) → ((s : Operands) → after s es ≡ pushed operand s)
    → is_expression wanted ≡ true
    → Acts wanted es (means operand no_errors)
leaf wanted es operand i h =
    pushed_alone wanted es operand no_errors (λ s. i s ∙ sym (noting_none (pushed operand s))) h

at_property : (wanted : Sort) (w : Whole property) → (is_property wanted && w.needs) ≡ true
    → Acts wanted w.events w.meaning
at_property = stands property is_property as_property

at_tail : (wanted : Sort) (w : Whole tail) → (is_tail wanted && w.needs) ≡ true → Acts wanted w.events w.meaning
at_tail = stands tail is_tail as_tail

stated_alone : (wanted : Sort) (at : ℕ) (p : Piece closed) → p.needs ≡ true → is_statement wanted ≡ true
    → Acts wanted (told_statement kind.Statement at p.events) (means (plain at another) (inside p.meanings))
stated_alone wanted at p i h =
    stands_alone statement is_statement as_statement wanted (node kind.Statement at (λ s. refl) p) i h

-- ---- pieces

abbrev item : Proved → Piece closed
item e = one closed statement statement_alone e

abbrev items_in : List Proved → Piece closed
items_in items = all_of closed statement statement_alone items

abbrev binds_in : List Proved → Piece closed
binds_in binds = all_of closed bind bind_alone binds

abbrev handlers_in : List Proved → Piece closed
handlers_in handlers = all_of closed handler handler_alone handlers

abbrev into : List Proved → Piece closed
into values = all_into closed expression expression_part values

abbrev values_in : List Proved → Piece any
values_in values = all_into any expression expression_part values

abbrev statement_at : ℕ → Piece closed → Whole statement
statement_at at p = node kind.Statement at (λ s. refl) p

abbrev loop_at : ℕ → Piece closed → Whole statement
loop_at at p = node kind.Loop at (λ s. refl) p

abbrev declared : Role → Bound → Piece closed → Piece closed
declared role bound p = behind closed (Named (tell.Declare role) bound.at bound.name) (λ s. refl) p

abbrev switch_node : (at : ℕ) → Proved → (brace : ℕ) → List Proved → (end : ℕ) → Whole statement
switch_node at value brace clauses end =
    node kind.Switch at (λ s. refl)
    (join closed value (behind closed (Placed (tell.ScopeHere scope_kind.Block) brace) (λ s. refl)
    (before closed (all_of closed clause clause_alone clauses) (Placed tell.EndScope end) (λ s. refl))))

abbrev try_node : (at : ℕ) → Proved → List Proved → List Proved → Whole statement
try_node at block handlers finally =
    statement_at at (both closed (item block) (both closed (handlers_in handlers) (items_in finally)))

abbrev for_binds : (at : ℕ) → (binds tests updates : List Proved) → Proved → (end : Option ℕ) → Whole statement
for_binds at binds tests updates inner end =
    loop_at at (scope closed end
    (both closed (binds_in binds) (both closed (into tests) (both closed (into updates) (item inner)))))

abbrev for_expression : (at : ℕ) → (firsts tests updates : List Proved) → Proved → Whole statement
for_expression at firsts tests updates inner =
    loop_at at (both closed (into firsts) (both closed (into tests) (both closed (into updates) (item inner))))

abbrev clause_of : (at : ℕ) → Piece closed → Whole clause
clause_of at p = record {
  needs = p.needs;
  events = p.events;
  meaning = means (plain at another) (inside p.meanings);
  acts = p.over;
}

abbrev handler_of : (at : ℕ) → Piece closed → Whole handler
handler_of at p = record {
  needs = p.needs;
  events = p.events;
  meaning = means (plain at another) (inside p.meanings);
  acts = p.over;
}

abbrev catch_block : (brace : ℕ) → List Proved → (end : ℕ) → Piece closed
catch_block brace items end =
    before closed (within kind.Statement brace (λ s. refl) (items_in items)) (Placed tell.EndScope end) (λ s. refl)

abbrev catch_at : ℕ → Piece closed → Piece closed
catch_at at p = behind closed (Placed (tell.ScopeHere scope_kind.Catch) at) (λ s. refl) p

abbrev bind_of : (at : ℕ) → Piece any → Whole bind
bind_of at p = record {
  needs = p.needs;
  events = p.events;
  meaning = means (plain at another) (inside p.meanings);
  acts = p.over;
}

abbrev bind_node : (at : ℕ) → DeclarationWord → (name : Text) → List Proved → Whole bind
bind_node at word name values =
    bind_of at (behind any (Named (tell.Declare (role.Variable word)) at name) (λ s. refl) (initial any word values))

-- ---- layers

abbrev pub trees_of : Tree-F Proved → Tree-F Tree
trees_of y = map-Tree Proved Tree (λ e. e.0) y

abbrev pub SortedLayer : Tree-F Tree → Type 0
SortedLayer x =
    Sorted (told_layer (map-Tree Tree (List Event) events_of x)) (meaning_layer (map-Tree Tree Meaning meaning_of x))
    (fits_layer (map-Tree Tree Fits fits_of x))

pub sorted_layer : (y : Tree-F Proved) → SortedLayer (trees_of y)
sorted_layer (Tree-F.Script at items) wanted h =
    stands script is_script as_script wanted (record {
      needs = all_fit statement (map fits_of (trees items));
      events = Placed (tell.Begin kind.Body) at ∷ told_all (events_in items);
      meaning = means_body at (meanings_in items);
      acts = tells_items at items;
    }) h
sorted_layer (Tree-F.Function at end (form.Declaration bound) kind parameters rest inner) wanted h =
    stated wanted (declaration_node at end kind parameters rest inner bound) h
sorted_layer (Tree-F.Function at end (form.Expression name) kind parameters rest inner) wanted h =
    valued wanted (function_node at end kind parameters rest inner name) h
sorted_layer (Tree-F.Function at end form.Arrow kind parameters rest inner) wanted h =
    valued wanted (arrow_node at end kind parameters rest inner) h
sorted_layer (Tree-F.Function at end form.Method kind parameters rest inner) wanted h =
    stands method is_method as_method wanted (method_function at end kind parameters rest inner) h
sorted_layer (Tree-F.Inner at number form) wanted h = absurd (false_true h)
sorted_layer (Tree-F.Body at items) wanted h =
    stands body is_body as_body wanted (record {
      needs = all_fit statement (map fits_of (trees items));
      events = Placed (tell.Begin kind.Body) at ∷ told_all (events_in items);
      meaning = means_body at (meanings_in items);
      acts = fills_items at items;
    }) h
sorted_layer (Tree-F.Lexical at word binds) wanted h = stated wanted (statement_at at (binds_in binds)) h
sorted_layer (Tree-F.Var at binds) wanted h = stated wanted (statement_at at (binds_in binds)) h
sorted_layer (Tree-F.Bind at word name None) wanted h =
    stands bind is_bind as_bind wanted (bind_node at word name []) h
sorted_layer (Tree-F.Bind at word name (Some value)) wanted h =
    stands bind is_bind as_bind wanted (bind_node at word name (value ∷ [])) h
sorted_layer (Tree-F.Block at items end) wanted h =
    stated wanted (statement_at at (scope closed (Some end) (items_in items))) h
sorted_layer (Tree-F.Empty at) wanted h = stated_alone wanted at (nothing closed) refl h
sorted_layer (Tree-F.Debugger at) wanted h = stated_alone wanted at (nothing closed) refl h
sorted_layer (Tree-F.If at test inner None) wanted h =
    stated wanted (statement_at at (join closed test (both closed (item inner) (items_in [])))) h
sorted_layer (Tree-F.If at test inner (Some other)) wanted h =
    stated wanted (statement_at at (join closed test (both closed (item inner) (items_in (other ∷ []))))) h
sorted_layer (Tree-F.DoWhile at inner test) wanted h =
    stated wanted (loop_at at (both closed (item inner) (join_last closed expression expression_part test))) h
sorted_layer (Tree-F.While at test inner) wanted h = stated wanted (loop_at at (join closed test (item inner))) h
sorted_layer (Tree-F.ForDeclared at word bound iteration over inner end) wanted h =
    stated wanted
    (loop_at at (scope closed end (declared (role.Variable word) bound (join closed over (item inner))))) h
sorted_layer (Tree-F.ForBinds at word binds None None inner end) wanted h =
    stated wanted (for_binds at binds [] [] inner end) h
sorted_layer (Tree-F.ForBinds at word binds None (Some update) inner end) wanted h =
    stated wanted (for_binds at binds [] (update ∷ []) inner end) h
sorted_layer (Tree-F.ForBinds at word binds (Some test) None inner end) wanted h =
    stated wanted (for_binds at binds (test ∷ []) [] inner end) h
sorted_layer (Tree-F.ForBinds at word binds (Some test) (Some update) inner end) wanted h =
    stated wanted (for_binds at binds (test ∷ []) (update ∷ []) inner end) h
sorted_layer (Tree-F.ForLeft at target iteration over inner) wanted h =
    stated wanted (for_left_node at target over inner) h
sorted_layer (Tree-F.ForExpr at None None None inner) wanted h = stated wanted (for_expression at [] [] [] inner) h
sorted_layer (Tree-F.ForExpr at None None (Some update) inner) wanted h =
    stated wanted (for_expression at [] [] (update ∷ []) inner) h
sorted_layer (Tree-F.ForExpr at None (Some test) None inner) wanted h =
    stated wanted (for_expression at [] (test ∷ []) [] inner) h
sorted_layer (Tree-F.ForExpr at None (Some test) (Some update) inner) wanted h =
    stated wanted (for_expression at [] (test ∷ []) (update ∷ []) inner) h
sorted_layer (Tree-F.ForExpr at (Some first) None None inner) wanted h =
    stated wanted (for_expression at (first ∷ []) [] [] inner) h
sorted_layer (Tree-F.ForExpr at (Some first) None (Some update) inner) wanted h =
    stated wanted (for_expression at (first ∷ []) [] (update ∷ []) inner) h
sorted_layer (Tree-F.ForExpr at (Some first) (Some test) None inner) wanted h =
    stated wanted (for_expression at (first ∷ []) (test ∷ []) [] inner) h
sorted_layer (Tree-F.ForExpr at (Some first) (Some test) (Some update) inner) wanted h =
    stated wanted (for_expression at (first ∷ []) (test ∷ []) (update ∷ []) inner) h
sorted_layer (Tree-F.Continue at label) wanted h =
    stated_alone wanted at (jumps closed jump.Continue label) refl h
sorted_layer (Tree-F.Break at label) wanted h = stated_alone wanted at (jumps closed jump.Break label) refl h
sorted_layer (Tree-F.Return at None) wanted h = stated wanted (statement_at at (into [])) h
sorted_layer (Tree-F.Return at (Some value)) wanted h = stated wanted (statement_at at (into (value ∷ []))) h
sorted_layer (Tree-F.Throw at value) wanted h =
    stated wanted (statement_at at (join_last closed expression expression_part value)) h
sorted_layer (Tree-F.Switch at value brace clauses end) wanted h =
    stated wanted (switch_node at value brace clauses end) h
sorted_layer (Tree-F.Case at value items) wanted h =
    stands clause is_clause as_clause wanted (clause_of at (join closed value (items_in items))) h
sorted_layer (Tree-F.Default at items) wanted h =
    stands clause is_clause as_clause wanted (clause_of at (items_in items)) h
sorted_layer (Tree-F.Try at block None None) wanted h = stated wanted (try_node at block [] []) h
sorted_layer (Tree-F.Try at block None (Some finally)) wanted h =
    stated wanted (try_node at block [] (finally ∷ [])) h
sorted_layer (Tree-F.Try at block (Some caught) None) wanted h = stated wanted (try_node at block (caught ∷ []) []) h
sorted_layer (Tree-F.Try at block (Some caught) (Some finally)) wanted h =
    stated wanted (try_node at block (caught ∷ []) (finally ∷ [])) h
sorted_layer (Tree-F.Catch at None brace items end) wanted h =
    stands handler is_handler as_handler wanted (handler_of at (catch_at at (catch_block brace items end))) h
sorted_layer (Tree-F.Catch at (Some bound) brace items end) wanted h =
    stands handler is_handler as_handler wanted
    (handler_of at (catch_at at (declared role.Caught bound (catch_block brace items end)))) h
sorted_layer (Tree-F.Label at name inner) wanted h =
    stated wanted (node kind.Label at (λ s. refl) (behind closed (Texted tell.Label name) (λ s. refl) (item inner))) h
sorted_layer (Tree-F.Expression at value) wanted h = stated wanted (expression_node at value) h
sorted_layer (Tree-F.Comma at []) wanted h = absurd (false_true (and_right (is_expression wanted) false h))
sorted_layer (Tree-F.Comma at (first ∷ more)) wanted h =
    valued wanted (operator_node first (end_piece (values_in more))) h
sorted_layer (Tree-F.Assign at target operator value) wanted h =
    valued wanted (assign_node (takes_pattern operator) target value) h
sorted_layer (Tree-F.Yield at delegates None) wanted h =
    valued wanted (operand_node at (end_piece (values_in []))) h
sorted_layer (Tree-F.Yield at delegates (Some value)) wanted h =
    valued wanted (operand_node at (end_piece (values_in (value ∷ [])))) h
sorted_layer (Tree-F.Cond at test first second) wanted h =
    valued wanted (operator_node test (end_join first (end_joined second))) h
sorted_layer (Tree-F.Binary at left operator right) wanted h = valued wanted (operator_node left (end_joined right)) h
sorted_layer (Tree-F.Unary at operator operand) wanted h = valued wanted (unary_node at operator operand) h
sorted_layer (Tree-F.Postfix at operand operator) wanted h = valued wanted (postfix_node operand) h
sorted_layer (Tree-F.Left at head tails) wanted h = valued wanted (left_node head tails) h
sorted_layer (Tree-F.NewTarget at) wanted h =
    leaf wanted (Placed tell.NewTarget at ∷ []) (plain at another) (λ s. refl) h
sorted_layer (Tree-F.New at callee members None) wanted h =
    valued wanted (operand_node at (end_new callee members [])) h
sorted_layer (Tree-F.New at callee members (Some arguments)) wanted h =
    valued wanted (operand_node at (end_new callee members (arguments ∷ []))) h
sorted_layer (Tree-F.Dot at word) wanted h =
    as_tail wanted (Plain tell.Member ∷ []) (means_tail at member no_errors) h
    (λ s. sym (noting_none (changed (as_tailed member) s)))
sorted_layer (Tree-F.Index at inner) wanted h = at_tail wanted (index_tail at inner) h
sorted_layer (Tree-F.Args at values) wanted h = at_tail wanted (call_tail at (all_arguments any values)) h
sorted_layer (Tree-F.Optional at inner) wanted h = at_tail wanted (optional_tail at inner) h
sorted_layer (Tree-F.Spread at value) wanted h =
    stands element is_part as_part wanted (part_node at (join_last any expression expression_part value)) h
sorted_layer (Tree-F.This at) wanted h = leaf wanted (Placed tell.This at ∷ []) (plain at another) (λ s. refl) h
sorted_layer (Tree-F.Identifier at name) wanted h =
    leaf wanted (Named tell.Name at name ∷ []) (plain at (a_name at name)) (λ s. refl) h
sorted_layer (Tree-F.Null at) wanted h = leaf wanted (Placed tell.Literal at ∷ []) (plain at another) (λ s. refl) h
sorted_layer (Tree-F.Truth at value) wanted h =
    leaf wanted (Placed tell.Literal at ∷ []) (plain at another) (λ s. refl) h
sorted_layer (Tree-F.Number at value) wanted h =
    leaf wanted (Placed tell.Literal at ∷ []) (plain at another) (λ s. refl) h
sorted_layer (Tree-F.OctalNumber at) wanted h =
    pushed_alone wanted (Placed tell.Octal at ∷ []) (plain at another) (octal_errors true at) (λ s. refl) h
sorted_layer (Tree-F.Text at written octal) wanted h =
    pushed_alone wanted (Written tell.Text at written octal ∷ []) (plain at (a_text written)) (octal_errors octal at)
    (λ s. refl) h
sorted_layer (Tree-F.Parentheses at value) wanted h = valued wanted (parentheses_node at value) h
sorted_layer (Tree-F.Template at parts holes) wanted h =
    valued wanted (operand_node at (end_piece (values_in holes))) h
sorted_layer (Tree-F.Array at elements) wanted h =
    valued wanted (literal_node at (all_into any element element_part elements)) h
sorted_layer (Tree-F.Hole at) wanted h =
    stands_alone element is_element as_element wanted (part_node at (nothing any)) refl h
sorted_layer (Tree-F.Object at props) wanted h =
    valued wanted (literal_node at (all_into any property property_part props)) h
sorted_layer (Tree-F.Shorthand at name) wanted h =
    stands_alone property is_property as_property wanted
    (shorthand_node at (behind any (Texted tell.Use name) (λ s. refl) (nothing any))) refl h
sorted_layer (Tree-F.Property at named value) wanted h = at_property wanted (property_node at named value) h
sorted_layer (Tree-F.Method at named function) wanted h = at_property wanted (method_node at named function) h
sorted_layer (Tree-F.Getter at named function) wanted h = at_property wanted (method_node at named function) h
sorted_layer (Tree-F.Setter at named function) wanted h = at_property wanted (method_node at named function) h
sorted_layer (Tree-F.WordKey at word) wanted h =
    as_key wanted (Texted tell.WordKey word ∷ []) (means_key at word no_errors) h
    (λ s. sym (noting_none (changed (as_marked (is_proto word)) s)))
sorted_layer (Tree-F.TextKey at written octal) wanted h =
    as_key wanted (Written tell.TextKey at written octal ∷ [])
    (means_key at (text_value written) (octal_errors octal at)) h (λ s. refl)
sorted_layer (Tree-F.NumberKey at value) wanted h =
    stands_alone key is_key as_key wanted (plain_key at [] no_errors (over_none any)) refl h
sorted_layer (Tree-F.OctalKey at) wanted h =
    stands_alone key is_key as_key wanted
    (plain_key at (Placed tell.OctalKey at ∷ []) (octal_errors true at) (λ s. refl)) refl h
sorted_layer (Tree-F.ComputedKey at inner) wanted h = stands key is_key as_key wanted (computed_key at inner) h

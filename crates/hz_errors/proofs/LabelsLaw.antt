-- What is found along the events of a script: the errors of its labels and jumps.
use Rattle.std.proofs.Common.{◌≡◌, ℕ, true, false, ◌&&◌, ◌||◌, List, [], ◌∷◌, ◌++◌, map, refl, ap, sym, subst, ◌∙◌}
use Rattle.hz_tree.specs.declared.signal.NodeKind.TheVariants as kind
use Rattle.hz_tree.specs.declared.signal.Jump.TheVariants as jump
use Rattle.hz_tree.specs.declared.signal.Signal.TheVariants as tell
use Rattle.hz_tree.specs.declared.tree.FunctionForm.TheVariants as form
use Rattle.hz_tree.specs.declared.tree.Tree.{Tree, roll-Tree}
use Rattle.hz_tree.specs.declared.tree.Tree.TheOpen.{Tree-F}
use Rattle.hz_tree.specs.declared.tree.Tree.TheFolds.{fold-roll-Tree, ind-Tree, map-Tree}
use Rattle.hz_tree.specs.grammar.Signals.{Event, Placed}
use Rattle.hz_tree.specs.trees.Events.{told_all, told_layer, events_of}
use Rattle.hz_tree.specs.trees.Places.{node, optional}
use Rattle.hz_tree.specs.errors.Jumps.{Jumping, beside, all_beside, jumping_layer, jumping_of}
use Rattle.hz_tree.specs.sources.EarlyErrors.{order_of_early}
use Rattle.hz_tree.specs.sources.Least.{least_of}
use Rattle.hz_laws.specs.Sorts.{Sort, script, statement, bind, clause, handler, expression, element, property, method}
use Rattle.hz_laws.specs.Sorts.{body, key, tail, is_script, is_statement, is_bind, is_clause, is_handler}
use Rattle.hz_laws.specs.Sorts.{is_expression, is_element, is_property, is_method, is_body, is_key, is_tail, Fits}
use Rattle.hz_laws.specs.Sorts.{all_fit, fits_layer, fits_of}
use Rattle.hz_laws.proofs.Ranks.{false_true, and_left, and_right}
use Rattle.hz_errors.specs.Labels.{begun, after}
use Rattle.hz_errors.proofs.LabelsHeard.{heard, after_heard, heard_own, heard_layer}
use Rattle.hz_errors.proofs.LabelsActs.{Within, within_both, settles_within, within_whole, statement_settles}
use Rattle.hz_errors.proofs.LabelsActs.{expression_settles, jump_settles, loop_settles, switch_settles, label_settles}
use Rattle.hz_errors.proofs.LabelsActs.{function_settles}
use Rattle.hz_errors.proofs.LabelsSorts.{Acts, as_script, as_statement, as_clause, as_handler, as_body, as_bind}
use Rattle.hz_errors.proofs.LabelsSorts.{as_expression, as_element, as_property, as_spread, as_method, as_key}
use Rattle.hz_errors.proofs.LabelsSorts.{as_tail, TreeActs, Proved, AllWithin, AllInside, within_append}
use Rattle.hz_errors.proofs.LabelsSorts.{inside_append, one_within, one_inside, all_within, all_inside, told_within}
use Rattle.hz_errors.proofs.LabelsSorts.{optional_within, optional_inside, event_parts, jumping_parts, parts_within}
use Rattle.hz_errors.proofs.LabelsSorts.{parts_inside, is_inside, trees}

-- ---- layers of each sort

beside_loops : (xs : List Jumping) → (all_beside xs).loops ≡ false
beside_loops [] = refl
beside_loops (x ∷ xs) = refl

-- a statement that does nothing of its own
plain_statement : (at : ℕ) (y : Tree-F Proved) (s : Sort) → is_statement s ≡ true → AllWithin (node y).children
    → Acts s (Placed (tell.Begin kind.Statement) at ∷ told_all (map heard (event_parts y)))
    (all_beside (jumping_parts y))
plain_statement at y s h a =
    as_statement s _ _ h (statement_settles at _ _ (parts_within y a) (beside_loops (jumping_parts y)))

plain_expression : (y : Tree-F Proved) (s : Sort) → is_expression s ≡ true → AllInside (node y).children
    → Acts s (told_all (map heard (event_parts y))) (all_beside (jumping_parts y))
plain_expression y s h a = as_expression s _ _ h (parts_inside y a)

plain_property : (y : Tree-F Proved) (s : Sort) → is_property s ≡ true → AllInside (node y).children
    → Acts s (told_all (map heard (event_parts y))) (all_beside (jumping_parts y))
plain_property y s h a = as_property s _ _ h (parts_inside y a)

-- ---- parts of several sorts

pair_within : (s t : Sort) (d e : Proved) → is_script s ≡ false → is_script t ≡ false
    → (fits_of d.0 s && fits_of e.0 t) ≡ true
    → Within (heard (events_of d.0) ++ heard (events_of e.0)) (beside (jumping_of d.0) (jumping_of e.0))
pair_within s t d e i j h =
    within_both _ _ _ _ (one_within s d i (and_left (fits_of d.0 s) _ h))
    (one_within t e j (and_right (fits_of d.0 s) _ h))

pair_inside : (s t : Sort) (d e : Proved) → is_inside s ≡ true → is_inside t ≡ true
    → (fits_of d.0 s && fits_of e.0 t) ≡ true → AllInside (d ∷ e ∷ [])
pair_inside s t d e i j h =
    (one_inside s d i (and_left (fits_of d.0 s) _ h), (one_inside t e j (and_right (fits_of d.0 s) _ h), tt))

-- ---- all layers

abbrev LayerActs : Tree-F Proved → Type 0
LayerActs y =
    (s : Sort) → fits_layer (map-Tree Tree Fits fits_of (map-Tree Proved Tree (λ e. e.0) y)) s ≡ true
    → Acts s (heard_own (map-Tree Tree (List Event) events_of (map-Tree Proved Tree (λ e. e.0) y)))
    (jumping_layer (map-Tree Tree Jumping jumping_of (map-Tree Proved Tree (λ e. e.0) y)))

acts_own : (y : Tree-F Proved) → LayerActs y
acts_own (Tree-F.Script at items) s h =
    as_script s _ _ (and_left (is_script s) _ h)
    (within_whole _ _ (parts_within (Tree-F.Script at items)
    (all_within statement items refl (and_right (is_script s) _ h))))
acts_own (Tree-F.Function at end (form.Declaration bound) called parameters rest inner) s h =
    as_statement s _ _ (and_left (is_statement s) _ h)
    (function_settles at end _ called _ _ (one_within body inner refl (and_right (is_statement s) _ h)))
acts_own (Tree-F.Function at end (form.Expression name) called parameters rest inner) s h =
    let whole =
    function_settles at end kind.Operand called _ _ (one_within body inner refl (and_right (is_expression s) _ h)) in
    as_expression s _ _ (and_left (is_expression s) _ h) (record { within = settles_within _ _ whole; stays = refl })
acts_own (Tree-F.Function at end form.Arrow called parameters rest inner) s h =
    let whole =
    function_settles at end kind.Operand called _ _ (one_within body inner refl (and_right (is_expression s) _ h)) in
    as_expression s _ _ (and_left (is_expression s) _ h) (record { within = settles_within _ _ whole; stays = refl })
acts_own (Tree-F.Function at end form.Method called parameters rest inner) s h =
    let whole =
    function_settles at end kind.Part called _ _ (one_within body inner refl (and_right (is_method s) _ h)) in
    as_method s _ _ (and_left (is_method s) _ h) (record { within = settles_within _ _ whole; stays = refl })
acts_own (Tree-F.Inner at number form) s h = absurd (false_true h)
acts_own (Tree-F.Body at items) s h =
    as_body s _ _ (and_left (is_body s) _ h)
    (parts_within (Tree-F.Body at items) (all_within statement items refl (and_right (is_body s) _ h)))
acts_own (Tree-F.Lexical at word binds) s h =
    plain_statement at (Tree-F.Lexical at word binds) s (and_left (is_statement s) _ h)
    (all_within bind binds refl (and_right (is_statement s) _ h))
acts_own (Tree-F.Var at binds) s h =
    plain_statement at (Tree-F.Var at binds) s (and_left (is_statement s) _ h)
    (all_within bind binds refl (and_right (is_statement s) _ h))
acts_own (Tree-F.Bind at word name value) s h =
    as_bind s _ _ (and_left (is_bind s) _ h)
    (parts_inside (Tree-F.Bind at word name value) (optional_inside expression value refl (and_right (is_bind s) _ h)))
acts_own (Tree-F.Block at items end) s h =
    plain_statement at (Tree-F.Block at items end) s (and_left (is_statement s) _ h)
    (all_within statement items refl (and_right (is_statement s) _ h))
acts_own (Tree-F.Empty at) s h = plain_statement at (Tree-F.Empty at) s h tt
acts_own (Tree-F.Debugger at) s h = plain_statement at (Tree-F.Debugger at) s h tt
acts_own (Tree-F.If at test inner other) s h =
    let i = and_right (is_statement s) _ h in
    let j = and_right (fits_of test.0 expression) _ i in
    plain_statement at (Tree-F.If at test inner other) s (and_left (is_statement s) _ h) (
      one_within expression test refl (and_left (fits_of test.0 expression) _ i),
      (
        one_within statement inner refl (and_left (fits_of inner.0 statement) _ j),
        optional_within statement other refl (and_right (fits_of inner.0 statement) _ j),
      ),
    )
acts_own (Tree-F.DoWhile at inner test) s h =
    as_statement s _ _ (and_left (is_statement s) _ h)
    (loop_settles at _ _ (pair_within statement expression inner test refl refl (and_right (is_statement s) _ h)))
acts_own (Tree-F.While at test inner) s h =
    as_statement s _ _ (and_left (is_statement s) _ h)
    (loop_settles at _ _ (pair_within expression statement test inner refl refl (and_right (is_statement s) _ h)))
acts_own (Tree-F.ForDeclared at word bound iteration over inner end) s h =
    as_statement s _ _ (and_left (is_statement s) _ h)
    (loop_settles at _ _ (pair_within expression statement over inner refl refl (and_right (is_statement s) _ h)))
acts_own (Tree-F.ForBinds at word binds test update inner end) s h =
    let i = and_right (is_statement s) _ h in
    let j = and_right (all_fit bind (map fits_of (map (λ e. e.0) binds))) _ i in
    as_statement s _ _ (and_left (is_statement s) _ h)
    (loop_settles at _ _ (parts_within (Tree-F.ForBinds at word binds test update inner end)
    (within_append binds _ (all_within bind binds refl (and_left _ _ i))
    (within_append (optional test) _ (optional_within expression test refl (and_left _ _ j))
    (within_append (optional update) _ (optional_within expression update refl (and_left _ _ (and_right _ _ j)))
    (one_within statement inner refl (and_right _ _ (and_right _ _ j)), tt))))))
acts_own (Tree-F.ForLeft at target iteration over inner) s h =
    let i = and_right (is_statement s) _ h in
    as_statement s _ _ (and_left (is_statement s) _ h)
    (loop_settles at _ _ (within_both _ _ _ _
    (one_within expression target refl (and_left (fits_of target.0 expression) _ i))
    (pair_within expression statement over inner refl refl (and_right (fits_of target.0 expression) _ i))))
acts_own (Tree-F.ForExpr at first test update inner) s h =
    let i = and_right (is_statement s) _ h in
    let j = and_right _ _ i in
    let k = and_right _ _ j in
    as_statement s _ _ (and_left (is_statement s) _ h)
    (loop_settles at _ _ (parts_within (Tree-F.ForExpr at first test update inner)
    (within_append (optional first) _ (optional_within expression first refl (and_left _ _ i))
    (within_append (optional test) _ (optional_within expression test refl (and_left _ _ j))
    (within_append (optional update) _ (optional_within expression update refl (and_left _ _ k))
    (one_within statement inner refl (and_right _ _ k), tt))))))
acts_own (Tree-F.Continue at label) s h = as_statement s _ _ h (jump_settles at jump.Continue label)
acts_own (Tree-F.Break at label) s h = as_statement s _ _ h (jump_settles at jump.Break label)
acts_own (Tree-F.Return at value) s h =
    plain_statement at (Tree-F.Return at value) s (and_left (is_statement s) _ h)
    (optional_within expression value refl (and_right (is_statement s) _ h))
acts_own (Tree-F.Throw at value) s h =
    plain_statement at (Tree-F.Throw at value) s (and_left (is_statement s) _ h)
    (one_within expression value refl (and_right (is_statement s) _ h), tt)
acts_own (Tree-F.Switch at value brace clauses end) s h =
    let i = and_right (is_statement s) _ h in
    let on = one_inside expression value refl (and_left (fits_of value.0 expression) _ i) in
    as_statement s _ _ (and_left (is_statement s) _ h)
    (switch_settles at _ (jumping_of value.0) (all_beside (map jumping_of (trees clauses)))
    (told_within (value ∷ clauses)
    (on.within, all_within clause clauses refl (and_right (fits_of value.0 expression) _ i))) on.stays)
acts_own (Tree-F.Case at value items) s h =
    let i = and_right (is_clause s) _ h in
    as_clause s _ _ (and_left (is_clause s) _ h)
    (parts_within (Tree-F.Case at value items) (
      one_within expression value refl (and_left (fits_of value.0 expression) _ i),
      all_within statement items refl (and_right (fits_of value.0 expression) _ i),
    ))
acts_own (Tree-F.Default at items) s h =
    as_clause s _ _ (and_left (is_clause s) _ h)
    (parts_within (Tree-F.Default at items) (all_within statement items refl (and_right (is_clause s) _ h)))
acts_own (Tree-F.Try at block handling finally) s h =
    let i = and_right (is_statement s) _ h in
    let j = and_right (fits_of block.0 statement) _ i in
    plain_statement at (Tree-F.Try at block handling finally) s (and_left (is_statement s) _ h) (
      one_within statement block refl (and_left (fits_of block.0 statement) _ i),
      within_append (optional handling) _ (optional_within handler handling refl (and_left _ _ j))
          (optional_within statement finally refl (and_right _ _ j)),
    )
acts_own (Tree-F.Catch at bound brace items end) s h =
    as_handler s _ _ (and_left (is_handler s) _ h)
    (settles_within _ _ (statement_settles brace _ _ (parts_within (Tree-F.Catch at bound brace items end)
    (all_within statement items refl (and_right (is_handler s) _ h))) (beside_loops _)))
acts_own (Tree-F.Label at name inner) s h =
    as_statement s _ _ (and_left (is_statement s) _ h)
    (label_settles at name _ _ (inner.1 statement (and_right (is_statement s) _ h)))
acts_own (Tree-F.Expression at value) s h =
    as_statement s _ _ (and_left (is_statement s) _ h)
    (expression_settles at _ _ (parts_within (Tree-F.Expression at value)
    (one_within expression value refl (and_right (is_statement s) _ h), tt)) refl)
acts_own (Tree-F.Comma at []) s h = absurd (false_true (and_right (is_expression s) _ h))
acts_own (Tree-F.Comma at (first ∷ more)) s h =
    plain_expression (Tree-F.Comma at (first ∷ more)) s (and_left (is_expression s) _ h)
    (all_inside expression (first ∷ more) refl (and_right (is_expression s) _ h))
acts_own (Tree-F.Assign at target operator value) s h =
    plain_expression (Tree-F.Assign at target operator value) s (and_left (is_expression s) _ h)
    (pair_inside expression expression target value refl refl (and_right (is_expression s) _ h))
acts_own (Tree-F.Yield at delegates value) s h =
    plain_expression (Tree-F.Yield at delegates value) s (and_left (is_expression s) _ h)
    (optional_inside expression value refl (and_right (is_expression s) _ h))
acts_own (Tree-F.Cond at test first second) s h =
    let i = and_right (is_expression s) _ h in
    plain_expression (Tree-F.Cond at test first second) s (and_left (is_expression s) _ h) (
      one_inside expression test refl (and_left (fits_of test.0 expression) _ i),
      pair_inside expression expression first second refl refl (and_right (fits_of test.0 expression) _ i),
    )
acts_own (Tree-F.Binary at left operator right) s h =
    plain_expression (Tree-F.Binary at left operator right) s (and_left (is_expression s) _ h)
    (pair_inside expression expression left right refl refl (and_right (is_expression s) _ h))
acts_own (Tree-F.Unary at operator operand) s h =
    plain_expression (Tree-F.Unary at operator operand) s (and_left (is_expression s) _ h)
    (one_inside expression operand refl (and_right (is_expression s) _ h), tt)
acts_own (Tree-F.Postfix at operand operator) s h =
    plain_expression (Tree-F.Postfix at operand operator) s (and_left (is_expression s) _ h)
    (one_inside expression operand refl (and_right (is_expression s) _ h), tt)
acts_own (Tree-F.Left at head tails) s h =
    let i = and_right (is_expression s) _ h in
    plain_expression (Tree-F.Left at head tails) s (and_left (is_expression s) _ h) (
      one_inside expression head refl (and_left (fits_of head.0 expression) _ i),
      all_inside tail tails refl (and_right (fits_of head.0 expression) _ i),
    )
acts_own (Tree-F.NewTarget at) s h = plain_expression (Tree-F.NewTarget at) s h tt
acts_own (Tree-F.New at callee members args) s h =
    let i = and_right (is_expression s) _ h in
    let j = and_right (fits_of callee.0 expression) _ i in
    plain_expression (Tree-F.New at callee members args) s (and_left (is_expression s) _ h) (
      one_inside expression callee refl (and_left (fits_of callee.0 expression) _ i),
      inside_append members _ (all_inside tail members refl (and_left _ _ j))
          (optional_inside tail args refl (and_right _ _ j)),
    )
acts_own (Tree-F.Dot at word) s h = as_tail s _ _ h (parts_inside (Tree-F.Dot at word) tt)
acts_own (Tree-F.Index at inner) s h =
    as_tail s _ _ (and_left (is_tail s) _ h)
    (parts_inside (Tree-F.Index at inner) (one_inside expression inner refl (and_right (is_tail s) _ h), tt))
acts_own (Tree-F.Args at values) s h =
    as_tail s _ _ (and_left (is_tail s) _ h)
    (parts_inside (Tree-F.Args at values) (all_inside element values refl (and_right (is_tail s) _ h)))
acts_own (Tree-F.Optional at inner) s h =
    as_tail s _ _ (and_left (is_tail s) _ h)
    (parts_inside (Tree-F.Optional at inner) (one_inside tail inner refl (and_right (is_tail s) _ h), tt))
acts_own (Tree-F.Spread at value) s h =
    as_spread s _ _ (and_left (is_element s || is_property s) _ h)
    (parts_inside (Tree-F.Spread at value)
    (one_inside expression value refl (and_right (is_element s || is_property s) _ h), tt))
acts_own (Tree-F.This at) s h = plain_expression (Tree-F.This at) s h tt
acts_own (Tree-F.Identifier at name) s h = plain_expression (Tree-F.Identifier at name) s h tt
acts_own (Tree-F.Null at) s h = plain_expression (Tree-F.Null at) s h tt
acts_own (Tree-F.Truth at value) s h = plain_expression (Tree-F.Truth at value) s h tt
acts_own (Tree-F.Number at value) s h = plain_expression (Tree-F.Number at value) s h tt
acts_own (Tree-F.OctalNumber at) s h = plain_expression (Tree-F.OctalNumber at) s h tt
acts_own (Tree-F.Text at written octal) s h = plain_expression (Tree-F.Text at written octal) s h tt
acts_own (Tree-F.Parentheses at value) s h =
    plain_expression (Tree-F.Parentheses at value) s (and_left (is_expression s) _ h)
    (one_inside expression value refl (and_right (is_expression s) _ h), tt)
acts_own (Tree-F.Template at parts holes) s h =
    plain_expression (Tree-F.Template at parts holes) s (and_left (is_expression s) _ h)
    (all_inside expression holes refl (and_right (is_expression s) _ h))
acts_own (Tree-F.Array at elements) s h =
    plain_expression (Tree-F.Array at elements) s (and_left (is_expression s) _ h)
    (all_inside element elements refl (and_right (is_expression s) _ h))
acts_own (Tree-F.Hole at) s h = as_element s _ _ h (parts_inside (Tree-F.Hole at) tt)
acts_own (Tree-F.Object at props) s h =
    plain_expression (Tree-F.Object at props) s (and_left (is_expression s) _ h)
    (all_inside property props refl (and_right (is_expression s) _ h))
acts_own (Tree-F.Shorthand at name) s h = plain_property (Tree-F.Shorthand at name) s h tt
acts_own (Tree-F.Property at named value) s h =
    plain_property (Tree-F.Property at named value) s (and_left (is_property s) _ h)
    (pair_inside key expression named value refl refl (and_right (is_property s) _ h))
acts_own (Tree-F.Method at named function) s h =
    plain_property (Tree-F.Method at named function) s (and_left (is_property s) _ h)
    (pair_inside key method named function refl refl (and_right (is_property s) _ h))
acts_own (Tree-F.Getter at named function) s h =
    plain_property (Tree-F.Getter at named function) s (and_left (is_property s) _ h)
    (pair_inside key method named function refl refl (and_right (is_property s) _ h))
acts_own (Tree-F.Setter at named function) s h =
    plain_property (Tree-F.Setter at named function) s (and_left (is_property s) _ h)
    (pair_inside key method named function refl refl (and_right (is_property s) _ h))
acts_own (Tree-F.WordKey at word) s h = as_key s _ _ h (parts_inside (Tree-F.WordKey at word) tt)
acts_own (Tree-F.TextKey at written octal) s h = as_key s _ _ h (parts_inside (Tree-F.TextKey at written octal) tt)
acts_own (Tree-F.NumberKey at value) s h = as_key s _ _ h (parts_inside (Tree-F.NumberKey at value) tt)
acts_own (Tree-F.OctalKey at) s h = as_key s _ _ h (parts_inside (Tree-F.OctalKey at) tt)
acts_own (Tree-F.ComputedKey at inner) s h =
    as_key s _ _ (and_left (is_key s) _ h)
    (parts_inside (Tree-F.ComputedKey at inner) (one_inside expression inner refl (and_right (is_key s) _ h), tt))

-- ---- all trees

acts_layer : (y : Tree-F Proved) (s : Sort)
    → fits_layer (map-Tree Tree Fits fits_of (map-Tree Proved Tree (λ e. e.0) y)) s ≡ true
    → Acts s (heard (told_layer (map-Tree Tree (List Event) events_of (map-Tree Proved Tree (λ e. e.0) y))))
    (jumping_layer (map-Tree Tree Jumping jumping_of (map-Tree Proved Tree (λ e. e.0) y)))
acts_layer y s h =
    subst (λ es. Acts s es (jumping_layer (map-Tree Tree Jumping jumping_of (map-Tree Proved Tree (λ e. e.0) y))))
    (sym (heard_layer (map-Tree Tree (List Event) events_of (map-Tree Proved Tree (λ e. e.0) y)))) (acts_own y s h)

abbrev RollActs : Tree-F Tree → Type 0
RollActs x =
    (s : Sort) → fits_layer (map-Tree Tree Fits fits_of x) s ≡ true
    → Acts s (heard (told_layer (map-Tree Tree (List Event) events_of x)))
    (jumping_layer (map-Tree Tree Jumping jumping_of x))

acts_roll : (x : Tree-F Tree) → RollActs x → TreeActs (roll-Tree x)
unfolding events_of jumping_of fits_of
acts_roll x a s h =
    subst (λ es. Acts s (heard es) (jumping_of (roll-Tree x))) (sym (fold-roll-Tree (List Event) told_layer x))
    (subst (λ y. Acts s (heard (told_layer (map-Tree Tree (List Event) events_of x))) y)
    (sym (fold-roll-Tree Jumping jumping_layer x))
    (a s (ap (λ fits. fits s) (sym (fold-roll-Tree Fits fits_layer x)) ∙ h)))

tree_acts : (tree : Tree) → TreeActs tree
tree_acts =
    ind-Tree TreeActs (λ x y is. subst (λ z. TreeActs (roll-Tree z)) is
    (acts_roll (map-Tree Proved Tree (λ e. e.0) y) (acts_layer y)))

-- The least of the errors of labels and jumps (8.3) of a script is found along its events.
pub labels_least : (tree : Tree) → fits_of tree script ≡ true
    → (after begun (events_of tree)).least ≡ least_of order_of_early (jumping_of tree).errors
labels_least tree h =
    ap (λ s. s.least) (sym (after_heard (events_of tree) begun)) ∙ (tree_acts tree script h).found_there begun refl

-- What a reading gives can stand where the grammar puts it, where every row makes such a tree of such parts.
use Rattle.std.proofs.Common.{◌≡◌, ℕ, zero, suc, Bool, true, false, not, ◌&&◌, ◌||◌, List, [], ◌∷◌, ◌++◌, map}
use Rattle.std.proofs.Common.{Option, Some, None, refl, ap, sym, ◌∙◌, arith}
use Rattle.std.proofs.Math.Bool.{and_assoc, and-true}
use Rattle.hz_tree.specs.declared.nonterminal.Nonterminal.{Nonterminal}
use Rattle.hz_tree.specs.declared.nonterminal.Nonterminal.TheVariants as n
use Rattle.hz_tree.specs.declared.operator.DeclarationWord.{DeclarationWord}
use Rattle.hz_tree.specs.declared.symbol.Symbol.{Symbol}
use Rattle.hz_tree.specs.declared.symbol.Symbol.TheVariants as s
use Rattle.hz_tree.specs.declared.tree.Bound.{Bound}
use Rattle.hz_tree.specs.declared.tree.FunctionForm.{FunctionForm}
use Rattle.hz_tree.specs.declared.tree.FunctionForm.TheVariants as form
use Rattle.hz_tree.specs.declared.tree.FunctionKind.{FunctionKind}
use Rattle.hz_tree.specs.declared.tree.Rest.{Rest}
use Rattle.hz_tree.specs.declared.tree.Tree.{Tree, out-Tree, the_lemmas}
use Rattle.hz_tree.specs.declared.tree.Tree.TheOpen.{Tree-F}
use Rattle.hz_tree.specs.declared.tree.Tree.TheFolds.{fold_out-Tree, map-Tree}
use Rattle.hz_tree.specs.declared.tree.Tree.TheVariants as t
use Rattle.hz_tree.specs.declared.look.Look.{Look}
use Rattle.hz_tree.specs.grammar.ExpressionRows.{listed}
use Rattle.hz_tree.specs.grammar.HeadRows.{for_tree}
use Rattle.hz_tree.specs.grammar.Look.{Terminal, look}
use Rattle.hz_tree.specs.grammar.OperatorRows.{tailed, applied, operated}
use Rattle.hz_tree.specs.grammar.PropertyRows.{property as property_tree}
use Rattle.hz_tree.specs.grammar.Signals.{Told}
use Rattle.hz_tree.specs.grammar.Symbols.{Part, Parts, goes, refuses, Value, Row, AfterKey, has_value, called}
use Rattle.hz_tree.specs.grammar.Symbols.{AfterName, goes_over, initialised, AfterLeft, target_of, expression_of}
use Rattle.hz_tree.specs.grammar.Symbols.{AfterFor, declares, begins_left, begins_expr, AfterHead}
use Rattle.hz_tree.specs.grammar.Symbols.{Behind, updates, joins, chooses, assigns}
use Rattle.hz_tree.specs.grammar.Table.{row}
use Rattle.hz_tree.specs.reading.Reading.{Reading, Got, Stuck, Deeper, and_then, takes, Reader, read_one, read_all}
use Rattle.hz_tree.specs.reading.Reading.{by_row, reads_to, reads_by, enough, reads}
use Rattle.hz_tree.specs.tokens.Text.{Text}
use Rattle.hz_laws.specs.Sorts.{Sort, script, statement, bind, clause, handler, expression, element, property, method}
use Rattle.hz_laws.specs.Sorts.{body, key, tail, is_form, Fits, all_fit, fits_layer, fits_of}

-- Whether a tree fits, from the trees in it.
abbrev pub own_fits : Tree-F Tree → Fits
own_fits x = fits_layer (map-Tree Tree Fits fits_of x)

pub fits_out : (tree : Tree) (wanted : Sort) → fits_of tree wanted ≡ own_fits (out-Tree tree) wanted
unfolding fits_of
fits_out tree wanted = ap (λ fits. fits wanted) (fold_out-Tree Fits fits_layer tree)

-- ---- what nonterminals give

abbrev pub all_sorted : Sort → List Tree → Bool
all_sorted wanted trees = all_fit wanted (map fits_of trees)

abbrev pub sorted_option : Sort → Option Tree → Bool
sorted_option wanted None = true
sorted_option wanted (Some tree) = fits_of tree wanted

abbrev pub sorted_after_key : AfterKey → Bool
sorted_after_key (has_value tree) = fits_of tree expression
sorted_after_key (called tree) = fits_of tree method

abbrev pub sorted_after_name : AfterName → Bool
sorted_after_name (goes_over iteration tree) = fits_of tree expression
sorted_after_name (initialised value more test update) =
    sorted_option expression value
    && (all_sorted bind more && (sorted_option expression test && sorted_option expression update))

abbrev pub sorted_behind : Behind → Bool
sorted_behind (updates operator) = true
sorted_behind (joins operator right) = fits_of right expression
sorted_behind (chooses first second) = fits_of first expression && fits_of second expression
sorted_behind (assigns operator value) = fits_of value expression

abbrev pub sorted_operators : List Behind → Bool
sorted_operators [] = true
sorted_operators (first ∷ more) = sorted_behind first && sorted_operators more

abbrev pub sorted_after_head : AfterHead → Bool
sorted_after_head after = all_sorted tail after.tails && sorted_operators after.operators

abbrev pub sorted_after_left : AfterLeft → Bool
sorted_after_left (target_of iteration tree) = fits_of tree expression
sorted_after_left (expression_of operators more test update) =
    sorted_operators operators
    && (all_sorted expression more && (sorted_option expression test && sorted_option expression update))

abbrev pub sorted_after_for : AfterFor → Bool
sorted_after_for (declares word bound after within end) = sorted_after_name after && fits_of within statement
sorted_after_for (begins_left left after within) =
    fits_of left expression && (sorted_after_left after && fits_of within statement)
sorted_after_for (begins_expr first test update within) =
    sorted_option expression first
    && (sorted_option expression test && (sorted_option expression update && fits_of within statement))

abbrev pub sorted_value : (m : Nonterminal) → Value m → Bool
sorted_value n.Script v = fits_of v script
sorted_value (n.Items c) v = all_sorted statement v
sorted_value (n.Item c) v = fits_of v statement
sorted_value (n.Statement c) v = fits_of v statement
sorted_value (n.Block c) v = fits_of v statement
sorted_value (n.Binds word c) v = all_sorted bind v
sorted_value (n.Bind word c) v = fits_of v bind
sorted_value (n.MoreBinds word c) v = all_sorted bind v
sorted_value (n.Initial word c) v = sorted_option expression v
sorted_value (n.Else c) v = sorted_option statement v
sorted_value (n.ReturnValue c) v = sorted_option expression v
sorted_value (n.ThrowValue c) v = fits_of v expression
sorted_value (n.Clauses c has_default) v = all_sorted clause v
sorted_value (n.Handlers c) v = sorted_option handler v.0 && sorted_option statement v.1
sorted_value (n.CatchClause c) v = fits_of v handler
sorted_value (n.Finally c) v = sorted_option statement v
sorted_value (n.Head c) v = sorted_after_for v
sorted_value (n.DeclaredHead word c) v = sorted_after_name v
sorted_value (n.LeftHead c) v = sorted_after_left v
sorted_value (n.OptionalExpr c) v = sorted_option expression v
sorted_value (n.Expr c) v = fits_of v expression
sorted_value (n.ExprRest listed c) v = all_sorted expression v
sorted_value (n.Operation loosest c) v = fits_of v expression
sorted_value (n.Tails tailed loosest c) v = sorted_after_head v
sorted_value (n.Rests loosest tightest c) v = sorted_operators v
sorted_value (n.ArrowBody c) v = fits_of v body
sorted_value (n.YieldValue c) v = sorted_option expression v.1
sorted_value (n.OptionalTail c) v = fits_of v tail
sorted_value (n.Members c) v = all_sorted tail v
sorted_value (n.NewArgs c) v = sorted_option tail v
sorted_value (n.Args c) v = fits_of v tail
sorted_value (n.Arguments c) v = all_sorted element v
sorted_value (n.MoreArguments c) v = all_sorted element v
sorted_value (n.Argument c) v = fits_of v element
sorted_value (n.Primary c) v = fits_of v expression
sorted_value (n.TemplateRest c) v = all_sorted expression v.1
sorted_value (n.Elements c) v = all_sorted element v
sorted_value (n.MoreElements c) v = all_sorted element v
sorted_value (n.Props c) v = all_sorted property v
sorted_value (n.MoreProps c) v = all_sorted property v
sorted_value (n.Prop c) v = fits_of v property
sorted_value (n.KeyRest c) v = sorted_after_key v
sorted_value (n.Key c) v = fits_of v key
sorted_value (n.Body generator) v = fits_of v body
sorted_value _ v = true

abbrev pub sorted_part : (symbol : Symbol) → Part Value symbol → Bool
sorted_part (s.Take wanted) part = true
sorted_part (s.Read m) part = sorted_value m part
sorted_part (s.Tell signal) part = true

-- what it gives has no tree in it
abbrev is_treeless : Nonterminal → Bool
is_treeless (n.Bound role) = true
is_treeless n.Semi = true
is_treeless n.LooseSemi = true
is_treeless (n.Label jump) = true
is_treeless n.CatchName = true
is_treeless n.ForOpen = true
is_treeless n.ArrowSign = true
is_treeless n.Word = true
is_treeless n.ShorthandEnd = true
is_treeless n.OwnName = true
is_treeless n.Params = true
is_treeless n.Parameters = true
is_treeless n.MoreParameters = true
is_treeless n.ParameterEnd = true
is_treeless _ = false

abbrev has_trees : List Symbol → Bool
has_trees [] = false
has_trees (s.Read m ∷ more) = not (is_treeless m) || has_trees more
has_trees (_ ∷ more) = has_trees more

-- both, where there are trees in both
abbrev joined : (no_first some_more : Bool) → Bool → Bool → Bool
joined true some_more first more = more
joined false true first more = first && more
joined false false first more = first

abbrev pub sorted_parts : (right : List Symbol) → Parts Value right → Bool
sorted_parts [] parts = true
sorted_parts (s.Read m ∷ more) parts =
    joined (is_treeless m) (has_trees more) (sorted_value m parts.0) (sorted_parts more parts.1)
sorted_parts (s.Take wanted ∷ more) parts = sorted_parts more parts.1
sorted_parts (s.Tell signal ∷ more) parts = sorted_parts more parts.1

abbrev always : Bool
always = true

-- a row makes what fits of parts that fit
abbrev pub SortsRow : (m : Nonterminal) → Row m → Type 0
SortsRow m (goes right make) =
    (p : Parts Value right) → sorted_parts right p ≡ true → sorted_value m (make p) ≡ true
SortsRow m (refuses cause) = Unit {0} → always ≡ true → always ≡ true

pub fits_by : {made parts : Bool} → parts ≡ true → made ≡ parts → made ≡ true
fits_by h same = same ∙ h

-- ---- trees that rows make of several parts

pub sorted_append : (wanted : Sort) (xs ys : List Tree)
    → all_sorted wanted (xs ++ ys) ≡ (all_sorted wanted xs && all_sorted wanted ys)
sorted_append wanted [] ys = refl
sorted_append wanted (x ∷ xs) ys =
    ap (λ b. fits_of x wanted && b) (sorted_append wanted xs ys)
    ∙ sym (and_assoc (fits_of x wanted) (all_sorted wanted xs) (all_sorted wanted ys))

ruleset tree_sorts = (the_lemmas, and_assoc, and-true)

pub sorted_tailed : (head : Tree) (tails : List Tree)
    → fits_of (tailed head tails) expression ≡ (fits_of head expression && all_sorted tail tails)
sorted_tailed head [] = sym (and-true (fits_of head expression))
sorted_tailed head (first ∷ more) = fits_out _ _ ∙ simp tree_sorts

pub sorted_applied : (operators : List Behind) (head : Tree)
    → fits_of (applied head operators) expression ≡ (fits_of head expression && sorted_operators operators)
sorted_applied [] head = sym (and-true (fits_of head expression))
sorted_applied (updates operator ∷ more) head =
    sorted_applied more _ ∙ ap (λ b. b && sorted_operators more) (fits_out _ _) ∙ simp tree_sorts
sorted_applied (joins operator right ∷ more) head =
    sorted_applied more _ ∙ ap (λ b. b && sorted_operators more) (fits_out _ _) ∙ simp tree_sorts
sorted_applied (chooses first second ∷ more) head =
    sorted_applied more _ ∙ ap (λ b. b && sorted_operators more) (fits_out _ _) ∙ simp tree_sorts
sorted_applied (assigns operator value ∷ more) head =
    sorted_applied more _ ∙ ap (λ b. b && sorted_operators more) (fits_out _ _) ∙ simp tree_sorts

pub sorted_operated : (head : Tree) (after : AfterHead)
    → fits_of (operated head after) expression ≡ (fits_of head expression && sorted_after_head after)
sorted_operated head after =
    sorted_applied after.operators (tailed head after.tails) ∙ simp (sorted_tailed, and_assoc)

pub sorted_listed : (first : Tree) (more : List Tree)
    → fits_of (listed first more) expression ≡ (fits_of first expression && all_sorted expression more)
sorted_listed first [] = sym (and-true (fits_of first expression))
sorted_listed first (second ∷ more) = fits_out _ _ ∙ simp tree_sorts

pub sorted_property : (begun : Told) (named : Tree) (after : AfterKey)
    → fits_of (property_tree begun named after) property ≡ (fits_of named key && sorted_after_key after)
sorted_property begun named (has_value value) = fits_out _ _ ∙ simp tree_sorts
sorted_property begun named (called function) = fits_out _ _ ∙ simp tree_sorts

pub sorted_Bind : (at : ℕ) (word : DeclarationWord) (name : Text) (value : Option Tree)
    → fits_of (t.Bind at word name value) bind ≡ sorted_option expression value
sorted_Bind at word name None = fits_out _ _ ∙ simp tree_sorts
sorted_Bind at word name (Some value) = fits_out _ _ ∙ simp tree_sorts

pub sorted_Return : (at : ℕ) (value : Option Tree)
    → fits_of (t.Return at value) statement ≡ sorted_option expression value
sorted_Return at None = fits_out _ _ ∙ simp tree_sorts
sorted_Return at (Some value) = fits_out _ _ ∙ simp tree_sorts

pub sorted_Yield : (at : ℕ) (delegates : Bool) (value : Option Tree)
    → fits_of (t.Yield at delegates value) expression ≡ sorted_option expression value
sorted_Yield at delegates None = fits_out _ _ ∙ simp tree_sorts
sorted_Yield at delegates (Some value) = fits_out _ _ ∙ simp tree_sorts

pub sorted_If : (at : ℕ) (test within : Tree) (other : Option Tree)
    → fits_of (t.If at test within other) statement
    ≡ (fits_of test expression && (fits_of within statement && sorted_option statement other))
sorted_If at test within None = fits_out _ _ ∙ simp tree_sorts
sorted_If at test within (Some other) = fits_out _ _ ∙ simp tree_sorts

pub sorted_Try : (at : ℕ) (block : Tree) (handling finally : Option Tree)
    → fits_of (t.Try at block handling finally) statement
    ≡ (fits_of block statement && (sorted_option handler handling && sorted_option statement finally))
sorted_Try at block None None = fits_out _ _ ∙ simp tree_sorts
sorted_Try at block None (Some finally) = fits_out _ _ ∙ simp tree_sorts
sorted_Try at block (Some handling) None = fits_out _ _ ∙ simp tree_sorts
sorted_Try at block (Some handling) (Some finally) = fits_out _ _ ∙ simp tree_sorts

pub sorted_New : (at : ℕ) (callee : Tree) (members : List Tree) (args : Option Tree)
    → fits_of (t.New at callee members args) expression
    ≡ (fits_of callee expression && (all_sorted tail members && sorted_option tail args))
sorted_New at callee members None = fits_out _ _ ∙ simp tree_sorts
sorted_New at callee members (Some args) = fits_out _ _ ∙ simp tree_sorts

sorted_ForExpr : (at : ℕ) (first test update : Option Tree) (within : Tree)
    → fits_of (t.ForExpr at first test update within) statement
    ≡ (sorted_option expression first
    && (sorted_option expression test && (sorted_option expression update && fits_of within statement)))
sorted_ForExpr at None None None within = fits_out _ _ ∙ simp tree_sorts
sorted_ForExpr at None None (Some update) within = fits_out _ _ ∙ simp tree_sorts
sorted_ForExpr at None (Some test) None within = fits_out _ _ ∙ simp tree_sorts
sorted_ForExpr at None (Some test) (Some update) within = fits_out _ _ ∙ simp tree_sorts
sorted_ForExpr at (Some first) None None within = fits_out _ _ ∙ simp tree_sorts
sorted_ForExpr at (Some first) None (Some update) within = fits_out _ _ ∙ simp tree_sorts
sorted_ForExpr at (Some first) (Some test) None within = fits_out _ _ ∙ simp tree_sorts
sorted_ForExpr at (Some first) (Some test) (Some update) within = fits_out _ _ ∙ simp tree_sorts

sorted_ForBinds : (at : ℕ) (word : DeclarationWord) (binds : List Tree) (test update : Option Tree) (within : Tree)
    (end : Option ℕ)
    → fits_of (t.ForBinds at word binds test update within end) statement
    ≡ (all_sorted bind binds
    && (sorted_option expression test && (sorted_option expression update && fits_of within statement)))
sorted_ForBinds at word binds None None within end = fits_out _ _ ∙ simp tree_sorts
sorted_ForBinds at word binds None (Some update) within end = fits_out _ _ ∙ simp tree_sorts
sorted_ForBinds at word binds (Some test) None within end = fits_out _ _ ∙ simp tree_sorts
sorted_ForBinds at word binds (Some test) (Some update) within end = fits_out _ _ ∙ simp tree_sorts

pub sorted_for : (at : ℕ) (after : AfterFor) → fits_of (for_tree at after) statement ≡ sorted_after_for after
sorted_for at (declares word bound (goes_over iteration over) within end) = fits_out _ _ ∙ simp tree_sorts
sorted_for at (declares word bound (initialised value more test update) within end) =
    sorted_ForBinds at word (t.Bind bound.at word bound.name value ∷ more) test update within end
    ∙ simp (sorted_Bind, and_assoc)
sorted_for at (begins_left left (target_of iteration over) within) = fits_out _ _ ∙ simp tree_sorts
sorted_for at (begins_left left (expression_of operators more test update) within) =
    sorted_ForExpr at (Some (listed (applied left operators) more)) test update within
    ∙ simp (sorted_listed, sorted_applied, and_assoc)
sorted_for at (begins_expr first test update within) = sorted_ForExpr at first test update within

pub sorted_Function : (at end : ℕ) (form : FunctionForm) (kind : FunctionKind) (parameters : List Bound)
    (rest : Option Rest) (within : Tree) (wanted : Sort)
    → fits_of (t.Function at end form kind parameters rest within) wanted
    ≡ (is_form form wanted && fits_of within body)
sorted_Function at end form kind parameters rest within wanted = fits_out _ _ ∙ simp the_lemmas

pub sorted_Dot : (at : ℕ) (name : Text) → fits_of (t.Dot at name) tail ≡ true
sorted_Dot at name = fits_out _ _ ∙ simp the_lemmas

pub sorted_Index : (at : ℕ) (within : Tree) → fits_of (t.Index at within) tail ≡ fits_of within expression
sorted_Index at within = fits_out _ _ ∙ simp the_lemmas

pub sorted_Optional : (at : ℕ) (within : Tree) → fits_of (t.Optional at within) tail ≡ fits_of within tail
sorted_Optional at within = fits_out _ _ ∙ simp the_lemmas

-- an expression can stand as an element, and as the body of an arrow
form_element : (form : FunctionForm) (b : Bool) → (is_form form expression && b) ≡ true
    → (is_form form element && b) ≡ true
form_element (form.Declaration bound) b h = h
form_element (form.Expression name) b h = h
form_element form.Arrow b h = h
form_element form.Method b h = h

form_body : (form : FunctionForm) (b : Bool) → (is_form form expression && b) ≡ true → (is_form form body && b) ≡ true
form_body (form.Declaration bound) b h = h
form_body (form.Expression name) b h = h
form_body form.Arrow b h = h
form_body form.Method b h = h

layer_element : (x : Tree-F Fits) → fits_layer x expression ≡ true → fits_layer x element ≡ true
layer_element (Tree-F.Function at end form kind parameters rest within) h = form_element form (within body) h
layer_element _ h = first_of (assumption, grind arith)

layer_body : (x : Tree-F Fits) → fits_layer x expression ≡ true → fits_layer x body ≡ true
layer_body (Tree-F.Function at end form kind parameters rest within) h = form_body form (within body) h
layer_body _ h = first_of (assumption, grind arith)

pub fits_element : (tree : Tree) → fits_of tree expression ≡ true → fits_of tree element ≡ true
fits_element tree h =
    fits_out tree element
    ∙ layer_element (map-Tree Tree Fits fits_of (out-Tree tree))
    (sym (fits_out tree expression) ∙ h)

pub fits_body : (tree : Tree) → fits_of tree expression ≡ true → fits_of tree body ≡ true
fits_body tree h =
    fits_out tree body
    ∙ layer_body (map-Tree Tree Fits fits_of (out-Tree tree))
    (sym (fits_out tree expression) ∙ h)

pub fits_next : (tree : Tree) (wanted : Sort) (more : Bool)
    → (fits_of tree wanted && more) ≡ (own_fits (out-Tree tree) wanted && more)
fits_next tree wanted more = ap (λ b. b && more) (fits_out tree wanted)

pub ruleset sort_laws = (
  the_lemmas,
  and_assoc,
  and-true,
  sorted_append,
  sorted_operated,
  sorted_applied,
  sorted_listed,
  sorted_property,
  sorted_for,
  sorted_Bind,
  sorted_Return,
  sorted_If,
  sorted_Try,
  sorted_Yield,
  sorted_New,
  sorted_Function,
  sorted_Dot,
  sorted_Index,
  sorted_Optional,
)

-- ---- readings

abbrev pub holds : {A : Type 0} → (A → Bool) → Reading A → Bool
holds test (Got v rest) = test v
holds test (Stuck cause ts) = true
holds test Deeper = true

then_holds : {A B : Type 0} (test : A → Bool) (goal : B → Bool) (r : Reading A) (next : A → List Terminal → Reading B)
    → holds test r ≡ true → ((v : A) (rest : List Terminal) → test v ≡ true → holds goal (next v rest) ≡ true)
    → holds goal (and_then r next) ≡ true
then_holds test goal (Got v rest) next h i = i v rest h
then_holds test goal (Stuck cause ts) next h i = refl
then_holds test goal Deeper next h i = refl

any_holds : {A : Type 0} (r : Reading A) → holds (λ v. true) r ≡ true
any_holds (Got v rest) = refl
any_holds (Stuck cause ts) = refl
any_holds Deeper = refl

joined_holds : (no_first some_more a b : Bool) → a ≡ true → b ≡ true → joined no_first some_more a b ≡ true
joined_holds true some_more a b h i = i
joined_holds false true a b h i = rw h i
joined_holds false false a b h i = h

parts_hold : (x : Symbol) (xs : List Symbol) (v : Part Value x) (vs : Parts Value xs) → sorted_part x v ≡ true
    → sorted_parts xs vs ≡ true
    → sorted_parts (x ∷ xs) (v, vs) ≡ true
parts_hold (s.Read m) xs v vs h i =
    joined_holds (is_treeless m) (has_trees xs) (sorted_value m v) (sorted_parts xs vs) h i
parts_hold (s.Take wanted) xs v vs h i = i
parts_hold (s.Tell signal) xs v vs h i = i

module _ (trees : Reader Value)
    (fit : (m : Nonterminal) (ts : List Terminal) → holds (sorted_value m) (trees m ts) ≡ true) where
  one_fits : (x : Symbol) (ts : List Terminal) → holds (sorted_part x) (read_one trees x ts) ≡ true
  one_fits (s.Take wanted) ts = any_holds (takes wanted ts)
  one_fits (s.Read m) ts = fit m ts
  one_fits (s.Tell signal) ts = refl

  all_fit_here : (xs : List Symbol) (ts : List Terminal) → holds (sorted_parts xs) (read_all trees xs ts) ≡ true
  all_fit_here [] ts = refl
  all_fit_here (x ∷ xs) ts =
      then_holds (sorted_part x) (sorted_parts (x ∷ xs)) (read_one trees x ts) _ (one_fits x ts)
      (λ v rest h.
      then_holds (sorted_parts xs) (sorted_parts (x ∷ xs)) (read_all trees xs rest) (λ vs end. Got (v, vs) end)
      (all_fit_here xs rest) (λ vs end i. parts_hold x xs v vs h i))

  row_fits : (m : Nonterminal) (r : Row m) (ts : List Terminal) → SortsRow m r
      → holds (sorted_value m) (by_row trees m r ts) ≡ true
  row_fits m (goes right make) ts h =
      then_holds (sorted_parts right) (sorted_value m) (read_all trees right ts) (λ vs rest. Got (make vs) rest)
      (all_fit_here right ts) (λ vs end i. h vs i)
  row_fits m (refuses cause) ts h = refl

sorts_to : ((m : Nonterminal) (l : Look) → SortsRow m (row m l)) → (d : ℕ) (m : Nonterminal) (ts : List Terminal)
    → holds (sorted_value m) (reads_to row d m ts) ≡ true
unfolding reads_to
sorts_to sorts zero m ts = refl
sorts_to sorts (suc d) m ts =
    row_fits (reads_to row d) (sorts_to sorts d) m (row m (look ts)) ts (sorts m (look ts))

-- Where every row makes what fits, so does a reading.
pub sorts_by : ((m : Nonterminal) (l : Look) → SortsRow m (row m l)) → (m : Nonterminal) (ts : List Terminal)
    → holds (sorted_value m) (reads m ts) ≡ true
unfolding reads_by
sorts_by sorts m ts = sorts_to sorts (enough ts) m ts

-- The sorts of trees: in which places of others each variant stands.
use Rattle.std.specs.Prelude.{Bool, true, false, ◌&&◌, ◌||◌, List, [], ◌∷◌}
use Rattle.hz_tree.specs.declared.tree.FunctionForm.{FunctionForm}
use Rattle.hz_tree.specs.declared.tree.FunctionForm.TheVariants as form
use Rattle.hz_tree.specs.declared.tree.Tree.{Tree, fold-Tree}
use Rattle.hz_tree.specs.declared.tree.Tree.TheOpen.{Tree-F}
use Rattle.hz_tree.specs.trees.Places.{optional}

pub data Sort : Type 0 where
  script : Sort
  statement : Sort  -- or a declaration
  bind : Sort  -- a name of a declaration, with its value
  clause : Sort  -- of a switch
  handler : Sort  -- the catch of a try
  expression : Sort
  element : Sort  -- of an array or of arguments: an expression too
  property : Sort
  method : Sort  -- the function of a property
  body : Sort  -- of a function: an expression too
  key : Sort
  tail : Sort  -- a member, a call or an optional one

abbrev pub is_script : Sort → Bool
is_script script = true
is_script _ = false

abbrev pub is_statement : Sort → Bool
is_statement statement = true
is_statement _ = false

abbrev pub is_bind : Sort → Bool
is_bind bind = true
is_bind _ = false

abbrev pub is_clause : Sort → Bool
is_clause clause = true
is_clause _ = false

abbrev pub is_handler : Sort → Bool
is_handler handler = true
is_handler _ = false

-- where an expression can stand
abbrev pub is_expression : Sort → Bool
is_expression expression = true
is_expression element = true
is_expression body = true
is_expression _ = false

abbrev pub is_element : Sort → Bool
is_element element = true
is_element _ = false

abbrev pub is_property : Sort → Bool
is_property property = true
is_property _ = false

abbrev pub is_method : Sort → Bool
is_method method = true
is_method _ = false

abbrev pub is_body : Sort → Bool
is_body body = true
is_body _ = false

abbrev pub is_key : Sort → Bool
is_key key = true
is_key _ = false

abbrev pub is_tail : Sort → Bool
is_tail tail = true
is_tail _ = false

abbrev pub is_form : FunctionForm → Sort → Bool
is_form (form.Declaration bound) wanted = is_statement wanted
is_form (form.Expression name) wanted = is_expression wanted
is_form form.Arrow wanted = is_expression wanted
is_form form.Method wanted = is_method wanted

-- Whether a tree can stand where a sort is wanted.
abbrev pub Fits : Type 0
Fits = Sort → Bool

abbrev pub all_fit : Sort → List Fits → Bool
all_fit wanted [] = true
all_fit wanted (first ∷ more) = first wanted && all_fit wanted more

abbrev pub some_fit : Sort → List Fits → Bool
some_fit wanted [] = false
some_fit wanted (first ∷ more) = all_fit wanted (first ∷ more)

abbrev pub fits_layer : Tree-F Fits → Fits
fits_layer (Tree-F.Script at items) wanted = is_script wanted && all_fit statement items
fits_layer (Tree-F.Function at end form kind parameters rest within) wanted = is_form form wanted && within body
fits_layer (Tree-F.Inner at number form) wanted = false
fits_layer (Tree-F.Body at items) wanted = is_body wanted && all_fit statement items
fits_layer (Tree-F.Lexical at word binds) wanted = is_statement wanted && all_fit bind binds
fits_layer (Tree-F.Var at binds) wanted = is_statement wanted && all_fit bind binds
fits_layer (Tree-F.Bind at word name value) wanted = is_bind wanted && all_fit expression (optional value)
fits_layer (Tree-F.Block at items end) wanted = is_statement wanted && all_fit statement items
fits_layer (Tree-F.Empty at) wanted = is_statement wanted
fits_layer (Tree-F.Debugger at) wanted = is_statement wanted
fits_layer (Tree-F.If at test within other) wanted =
    is_statement wanted && (test expression && (within statement && all_fit statement (optional other)))
fits_layer (Tree-F.DoWhile at within test) wanted = is_statement wanted && (within statement && test expression)
fits_layer (Tree-F.While at test within) wanted = is_statement wanted && (test expression && within statement)
fits_layer (Tree-F.ForDeclared at word bound iteration over within end) wanted =
    is_statement wanted && (over expression && within statement)
fits_layer (Tree-F.ForBinds at word binds test update within end) wanted =
    is_statement wanted && (all_fit bind binds && (all_fit expression (optional test)
    && (all_fit expression (optional update) && within statement)))
fits_layer (Tree-F.ForLeft at target iteration over within) wanted =
    is_statement wanted && (target expression && (over expression && within statement))
fits_layer (Tree-F.ForExpr at first test update within) wanted =
    is_statement wanted && (all_fit expression (optional first) && (all_fit expression (optional test)
    && (all_fit expression (optional update) && within statement)))
fits_layer (Tree-F.Continue at label) wanted = is_statement wanted
fits_layer (Tree-F.Break at label) wanted = is_statement wanted
fits_layer (Tree-F.Return at value) wanted = is_statement wanted && all_fit expression (optional value)
fits_layer (Tree-F.Throw at value) wanted = is_statement wanted && value expression
fits_layer (Tree-F.Switch at value brace clauses end) wanted =
    is_statement wanted && (value expression && all_fit clause clauses)
fits_layer (Tree-F.Case at value items) wanted = is_clause wanted && (value expression && all_fit statement items)
fits_layer (Tree-F.Default at items) wanted = is_clause wanted && all_fit statement items
fits_layer (Tree-F.Try at block handling finally) wanted =
    is_statement wanted && (block statement && (all_fit handler (optional handling)
    && all_fit statement (optional finally)))
fits_layer (Tree-F.Catch at bound brace items end) wanted = is_handler wanted && all_fit statement items
fits_layer (Tree-F.Label at name within) wanted = is_statement wanted && within statement
fits_layer (Tree-F.Expression at value) wanted = is_statement wanted && value expression
fits_layer (Tree-F.Comma at values) wanted = is_expression wanted && some_fit expression values
fits_layer (Tree-F.Assign at target operator value) wanted =
    is_expression wanted && (target expression && value expression)
fits_layer (Tree-F.Yield at delegates value) wanted = is_expression wanted && all_fit expression (optional value)
fits_layer (Tree-F.Cond at test first second) wanted =
    is_expression wanted && (test expression && (first expression && second expression))
fits_layer (Tree-F.Binary at left operator right) wanted =
    is_expression wanted && (left expression && right expression)
fits_layer (Tree-F.Unary at operator operand) wanted = is_expression wanted && operand expression
fits_layer (Tree-F.Postfix at operand operator) wanted = is_expression wanted && operand expression
fits_layer (Tree-F.Left at head tails) wanted = is_expression wanted && (head expression && all_fit tail tails)
fits_layer (Tree-F.NewTarget at) wanted = is_expression wanted
fits_layer (Tree-F.New at callee members args) wanted =
    is_expression wanted && (callee expression && (all_fit tail members && all_fit tail (optional args)))
fits_layer (Tree-F.Dot at word) wanted = is_tail wanted
fits_layer (Tree-F.Index at within) wanted = is_tail wanted && within expression
fits_layer (Tree-F.Args at values) wanted = is_tail wanted && all_fit element values
fits_layer (Tree-F.Optional at within) wanted = is_tail wanted && within tail
fits_layer (Tree-F.Spread at value) wanted = (is_element wanted || is_property wanted) && value expression
fits_layer (Tree-F.This at) wanted = is_expression wanted
fits_layer (Tree-F.Identifier at name) wanted = is_expression wanted
fits_layer (Tree-F.Null at) wanted = is_expression wanted
fits_layer (Tree-F.Truth at value) wanted = is_expression wanted
fits_layer (Tree-F.Number at value) wanted = is_expression wanted
fits_layer (Tree-F.OctalNumber at) wanted = is_expression wanted
fits_layer (Tree-F.Text at written octal) wanted = is_expression wanted
fits_layer (Tree-F.Parentheses at value) wanted = is_expression wanted && value expression
fits_layer (Tree-F.Template at parts holes) wanted = is_expression wanted && all_fit expression holes
fits_layer (Tree-F.Array at elements) wanted = is_expression wanted && all_fit element elements
fits_layer (Tree-F.Hole at) wanted = is_element wanted
fits_layer (Tree-F.Object at props) wanted = is_expression wanted && all_fit property props
fits_layer (Tree-F.Shorthand at name) wanted = is_property wanted
fits_layer (Tree-F.Property at named value) wanted = is_property wanted && (named key && value expression)
fits_layer (Tree-F.Method at named function) wanted = is_property wanted && (named key && function method)
fits_layer (Tree-F.Getter at named function) wanted = is_property wanted && (named key && function method)
fits_layer (Tree-F.Setter at named function) wanted = is_property wanted && (named key && function method)
fits_layer (Tree-F.WordKey at word) wanted = is_key wanted
fits_layer (Tree-F.TextKey at written octal) wanted = is_key wanted
fits_layer (Tree-F.NumberKey at value) wanted = is_key wanted
fits_layer (Tree-F.OctalKey at) wanted = is_key wanted
fits_layer (Tree-F.ComputedKey at within) wanted = is_key wanted && within expression

unfoldable pub fits_of : Tree → Fits
fits_of = fold-Tree Fits fits_layer

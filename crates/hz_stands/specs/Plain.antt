-- Functions read in fewer ways: a declaration as an expression, a getter or a setter as a method, an arrow outside of
-- generators and of heads. How a function is read then, its kind and its first token tell.
use Rattle.std.specs.Prelude.{◌≡◌, Bool, true, false, not, ◌&&◌, List}
use Rattle.hz_tree.specs.declared.class.Class.{Class}
use Rattle.hz_tree.specs.declared.tree.FunctionKind.{FunctionKind}
use Rattle.hz_tree.specs.declared.tree.FunctionKind.TheVariants as kind
use Rattle.hz_tree.specs.grammar.Classes.{is_function, is_paren}
use Rattle.hz_tree.specs.grammar.Look.{Terminal}
use Rattle.hz_tree.specs.grammar.Symbols.{of_body}
use Rattle.hz_stands.specs.Nodes.{FunctionNode}
use Rattle.hz_stands.specs.Stands.{Shape, expressed, arrowed, method, Standing}

abbrev pub is_plain : Shape → Bool
is_plain (expressed generator) = true
is_plain (arrowed c parenthesised) = c.returns && (not c.yields && not c.no_in)
is_plain (method generator) = true
is_plain _ = false

pub record StandingPlain (function : FunctionNode) (ts : List Terminal) : Type 0 where
  pub standing : Standing function ts
  pub plain : is_plain standing.shape ≡ true

-- ---- which of these ways it is

-- a generator begins with `function`, or is a method
abbrev pub generator_by : (begins_with_word : Bool) → Shape
generator_by true = expressed true
generator_by false = method true

-- how a function of the kind is read, of which the first token is of the class
abbrev pub shape_by : FunctionKind → (first : Class) → Shape
shape_by kind.Generator first = generator_by (is_function first)
shape_by kind.Arrow first = arrowed (of_body false) (is_paren first)
shape_by kind.Method first = method false
shape_by _ first = expressed false

-- Functions that are read by a reader that begins where they start.
use Rattle.std.specs.Prelude.{◌≡◌, true, List}
use Rattle.hz_tree.specs.grammar.Look.{Terminal, look}
use Rattle.hz_tree.specs.grammar.Symbols.{Parts, Value}
use Rattle.hz_tree.specs.reading.Reading.{Got, end_behind, read_all, reads}
use Rattle.hz_tree.specs.tokens.Text.{Text}
use Rattle.hz_middle.specs.Place.{beginning, left}
use Rattle.hz_stands.specs.Nodes.{FunctionNode}
use Rattle.hz_stands.specs.Plain.{is_plain, shape_by}
use Rattle.hz_stands.specs.Stands.{Shape, written}

-- The function's parameters and its body are read at the place where it starts, with no brace counted as open and
-- nothing known of what stands before. What is left begins where the function ends. Which symbols are read, the
-- function's kind and the first token tell.
pub record ReadAlone (source : Text) (function : FunctionNode) : Type 0 where
  pub shape : Shape
  pub parts : Parts Value (written shape).symbols
  pub rest : List Terminal
  pub plain : is_plain shape ≡ true
  pub told : shape ≡ shape_by function.kind (look (left (beginning source function.at))).one
  pub read : read_all reads (written shape).symbols (left (beginning source function.at)) ≡ Got parts rest
  pub end : function.end ≡ end_behind rest
  pub kind : function.kind ≡ (written shape).kind
  pub given : record { parameters = function.parameters; rest = function.rest; body = function.body }
      ≡ (written shape).given parts

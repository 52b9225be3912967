-- How functions are written, and where they stand among tokens.
use Rattle.std.specs.Prelude.{◌≡◌, Bool, true, false, List, [], ◌∷◌, ◌++◌, Option, None}
use Rattle.hz_tree.specs.declared.class.Class.TheVariants as k
use Rattle.hz_tree.specs.declared.nonterminal.Context.{Context}
use Rattle.hz_tree.specs.declared.nonterminal.Nonterminal.TheVariants as n
use Rattle.hz_tree.specs.declared.signal.Role.TheVariants as role
use Rattle.hz_tree.specs.declared.symbol.Symbol.{Symbol}
use Rattle.hz_tree.specs.declared.symbol.Symbol.TheVariants.{Take, Read}
use Rattle.hz_tree.specs.declared.tree.Bound.{Bound}
use Rattle.hz_tree.specs.declared.tree.FunctionKind.{FunctionKind}
use Rattle.hz_tree.specs.declared.tree.FunctionKind.TheVariants as kind
use Rattle.hz_tree.specs.declared.tree.Rest.{Rest}
use Rattle.hz_tree.specs.declared.tree.Tree.{Tree}
use Rattle.hz_tree.specs.grammar.Look.{Terminal}
use Rattle.hz_tree.specs.grammar.Symbols.{Parts, Value}
use Rattle.hz_tree.specs.reading.Reading.{Got, read_all, reads, place_ahead, end_behind}
use Rattle.hz_stands.specs.Nodes.{FunctionNode}

-- ---- how functions are written

pub data Shape : Type 0 where
  declared : (generator : Bool) → Shape  -- with `function` and a name
  expressed : (generator : Bool) → Shape  -- with `function`, and a name or none
  arrowed : Context → (parenthesised : Bool) → Shape
  method : (generator : Bool) → Shape
  getter : Shape
  setter : Shape

pub record Given : Type 0 where
  pub parameters : List Bound
  pub rest : Option Rest
  pub body : Tree

abbrev pub with_body : List Bound × Option Rest → Tree → Given
with_body params body = record { parameters = params.0; rest = params.1; body = body }

abbrev pub plain_or_generator : (generator : Bool) → FunctionKind → FunctionKind
plain_or_generator true plain = kind.Generator
plain_or_generator false plain = plain

-- the symbols of a function, from the place where it starts to the place where it ends
pub record Written : Type 0 where
  pub kind : FunctionKind
  pub symbols : List Symbol
  pub given : Parts Value symbols → Given

abbrev pub written : Shape → Written
written (declared true) = record {
  kind = kind.Generator;
  symbols = Take k.Function ∷ Take k.Star ∷ Read (n.Bound role.Function) ∷ Read n.Params ∷ Read (n.Body true) ∷ [];
  given = λ (_, (_, (_, (params, (body, _))))). with_body params body;
}
written (declared false) = record {
  kind = kind.Function;
  symbols = Take k.Function ∷ Read (n.Bound role.Function) ∷ Read n.Params ∷ Read (n.Body false) ∷ [];
  given = λ (_, (_, (params, (body, _)))). with_body params body;
}
written (expressed true) = record {
  kind = kind.Generator;
  symbols = Take k.Function ∷ Take k.Star ∷ Read n.OwnName ∷ Read n.Params ∷ Read (n.Body true) ∷ [];
  given = λ (_, (_, (_, (params, (body, _))))). with_body params body;
}
written (expressed false) = record {
  kind = kind.Function;
  symbols = Take k.Function ∷ Read n.OwnName ∷ Read n.Params ∷ Read (n.Body false) ∷ [];
  given = λ (_, (_, (params, (body, _)))). with_body params body;
}
written (arrowed c true) = record {
  kind = kind.Arrow;
  symbols = Read n.Params ∷ Read n.ArrowSign ∷ Read (n.ArrowBody c) ∷ [];
  given = λ (params, (_, (body, _))). with_body params body;
}
written (arrowed c false) = record {
  kind = kind.Arrow;
  symbols = Read (n.Bound role.Parameter) ∷ Read n.ArrowSign ∷ Read (n.ArrowBody c) ∷ [];
  given = λ (bound, (_, (body, _))). with_body (bound ∷ [], None) body;
}
written (method true) = record {
  kind = kind.Generator;
  symbols = Read n.Params ∷ Read (n.Body true) ∷ [];
  given = λ (params, (body, _)). with_body params body;
}
written (method false) = record {
  kind = kind.Method;
  symbols = Read n.Params ∷ Read (n.Body false) ∷ [];
  given = λ (params, (body, _)). with_body params body;
}
written getter = record {
  kind = kind.Method;
  symbols = Take k.LeftParen ∷ Take k.RightParen ∷ Read (n.Body false) ∷ [];
  given = λ (_, (_, (body, _))). with_body ([], None) body;
}
written setter = record {
  kind = kind.Method;
  symbols =
      Take k.LeftParen ∷ Read (n.Bound role.Parameter) ∷ Read n.ParameterEnd ∷ Take k.RightParen ∷ Read (n.Body false)
      ∷ [];
  given = λ (_, (bound, (_, (_, (body, _))))). with_body (bound ∷ [], None) body;
}

-- ---- where they stand

-- The function stands among the terminals: it is read from where it starts, up to where it ends.
pub record Standing (function : FunctionNode) (ts : List Terminal) : Type 0 where
  pub passed : List Terminal
  pub from : List Terminal
  pub left : List Terminal
  pub shape : Shape
  pub parts : Parts Value (written shape).symbols
  pub split : ts ≡ passed ++ from
  pub start : function.at ≡ place_ahead from
  pub read : read_all reads (written shape).symbols from ≡ Got parts left
  pub end : function.end ≡ end_behind left
  pub kind : function.kind ≡ (written shape).kind
  pub given : record { parameters = function.parameters; rest = function.rest; body = function.body }
      ≡ (written shape).given parts

-- Rows of the grammar: names, parameters and bodies of functions (ECMA-262, 15).
use Rattle.std.specs.Prelude.{Bool, if◌then◌else◌, List, [], ◌∷◌, Option, Some, None}
use Rattle.hz_tree.specs.declared.class.Class.{Class}
use Rattle.hz_tree.specs.declared.class.Class.TheVariants as k
use Rattle.hz_tree.specs.declared.outside.BadKind.TheVariants as bad
use Rattle.hz_tree.specs.declared.outside.OutsideKind.TheVariants as outside
use Rattle.hz_tree.specs.declared.nonterminal.Nonterminal.TheVariants as n
use Rattle.hz_tree.specs.declared.signal.NodeKind.TheVariants as node
use Rattle.hz_tree.specs.declared.signal.Role.TheVariants as role
use Rattle.hz_tree.specs.declared.signal.Signal.TheVariants as tell
use Rattle.hz_tree.specs.declared.symbol.Symbol.TheVariants.{Take, Read, Tell}
use Rattle.hz_tree.specs.declared.tree.Bound.{Bound}
use Rattle.hz_tree.specs.declared.tree.FunctionForm.{FunctionForm}
use Rattle.hz_tree.specs.declared.tree.FunctionKind.{FunctionKind}
use Rattle.hz_tree.specs.declared.tree.Rest.{Rest}
use Rattle.hz_tree.specs.declared.tree.Tree.{Tree}
use Rattle.hz_tree.specs.declared.tree.Tree.TheVariants as t
use Rattle.hz_tree.specs.grammar.Classes.{is_name}
use Rattle.hz_tree.specs.grammar.Signals.{Told}
use Rattle.hz_tree.specs.grammar.Symbols.{goes, refuses, Row, of_body}

abbrev pub function_tree : (opened closed : Told) → FunctionForm → FunctionKind → List Bound × Option Rest → Tree → Tree
function_tree opened closed form kind params body =
    t.Function opened.at closed.behind form kind params.0 params.1 body

-- the name of a function expression
abbrev pub own_name_row : Class → Row n.OwnName
own_name_row one =
    if is_name one then goes (Read (n.Bound role.Own) ∷ []) (λ (name, _). Some name) else goes [] (λ _. None)

abbrev pub params_row : Row n.Params
params_row = goes (Take k.LeftParen ∷ Read n.Parameters ∷ Take k.RightParen ∷ []) (λ (_, (params, _)). params)

abbrev pub parameters_row : Class → Row n.Parameters
parameters_row k.RightParen = goes [] (λ _. ([], None))
parameters_row k.Ellipsis =
    goes (Tell tell.Rest ∷ Take k.Ellipsis ∷ Read (n.Bound role.RestParameter) ∷ Read n.ParameterEnd ∷ [])
    (λ (dots, (_, (bound, _))). ([], Some (record { at = dots.at; bound = bound })))
parameters_row _ =
    goes (Read (n.Bound role.Parameter) ∷ Read n.MoreParameters ∷ []) (λ (bound, (more, _)). (bound ∷ more.0, more.1))

-- a default value is left out of the language
abbrev pub more_parameters_row : Class → Row n.MoreParameters
more_parameters_row k.Comma = goes (Take k.Comma ∷ Read n.Parameters ∷ []) (λ (_, (more, _)). more)
more_parameters_row k.Assign = refuses (bad.Outside outside.DefaultParameter)
more_parameters_row _ = goes [] (λ _. ([], None))

abbrev pub parameter_end_row : Class → Row n.ParameterEnd
parameter_end_row k.Assign = refuses (bad.Outside outside.DefaultParameter)
parameter_end_row _ = goes [] (λ _. tt)

abbrev pub body_row : (generator : Bool) → Row (n.Body generator)
body_row generator =
    goes (Tell (tell.Begin node.Body) ∷ Take k.LeftBrace ∷ Read (n.Items (of_body generator)) ∷ Take k.RightBrace ∷ [])
    (λ (begun, (_, (items, _))). t.Body begun.at items)

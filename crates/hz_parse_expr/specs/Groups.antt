-- The nonterminals of expressions and functions, by their makers.
use Rattle.std.specs.Prelude.{Bool, true, false}
use Rattle.hz_tree.specs.declared.nonterminal.Nonterminal.{Nonterminal}
use Rattle.hz_tree.specs.declared.nonterminal.Nonterminal.TheVariants as n
use Rattle.hz_parse_expr.specs.declared.make.Group.{Group}
use Rattle.hz_parse_expr.specs.declared.make.Group.TheVariants as group

abbrev pub group_of : Nonterminal → Group
group_of (n.Expr c) = group.Operation
group_of (n.ExprRest listed c) = group.Operation
group_of (n.Operation loosest c) = group.Operation
group_of (n.Tails tailed loosest c) = group.Operation
group_of (n.Rests loosest tightest c) = group.Operation
group_of n.ArrowSign = group.Operation
group_of (n.ArrowBody c) = group.Operation
group_of (n.YieldValue c) = group.Operation
group_of (n.OptionalTail c) = group.Primary
group_of n.Word = group.Primary
group_of (n.Members c) = group.Primary
group_of (n.NewArgs c) = group.Primary
group_of (n.Args c) = group.Primary
group_of (n.Arguments c) = group.Primary
group_of (n.MoreArguments c) = group.Primary
group_of (n.Argument c) = group.Primary
group_of (n.Primary c) = group.Primary
group_of (n.TemplateRest c) = group.Primary
group_of (n.Elements c) = group.Primary
group_of (n.MoreElements c) = group.Primary
group_of (n.Props c) = group.Property
group_of (n.MoreProps c) = group.Property
group_of (n.Prop c) = group.Property
group_of n.ShorthandEnd = group.Property
group_of (n.KeyRest c) = group.Property
group_of (n.Key c) = group.Property
group_of (n.Bound role) = group.Function
group_of n.OwnName = group.Function
group_of n.Params = group.Function
group_of n.Parameters = group.Function
group_of n.MoreParameters = group.Function
group_of n.ParameterEnd = group.Function
group_of (n.Body generator) = group.Function
group_of _ = group.Other

abbrev pub is_expression : Group → Bool
is_expression group.Other = false
is_expression _ = true

-- a nonterminal of expressions, of what they are made of, or of the functions in them
abbrev pub of_expression : Nonterminal → Bool
of_expression m = is_expression (group_of m)

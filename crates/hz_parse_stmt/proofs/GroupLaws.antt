-- What is no nonterminal of statements is one of expressions.
use Rattle.std.proofs.Common.{◌≡◌, true, refl}
use Rattle.hz_tree.specs.declared.nonterminal.Nonterminal.{Nonterminal}
use Rattle.hz_tree.specs.declared.nonterminal.Nonterminal.TheVariants as n
use Rattle.hz_parse_expr.specs.Groups.{of_expression}
use Rattle.hz_parse_stmt.specs.declared.make.Group.TheVariants as group
use Rattle.hz_parse_stmt.specs.Groups.{group_of}

pub other_is_expression : (m : Nonterminal) → group_of m ≡ group.Other → of_expression m ≡ true
other_is_expression n.Script h = cc
other_is_expression (n.Items c) h = cc
other_is_expression (n.Item c) h = cc
other_is_expression (n.Binds word c) h = cc
other_is_expression (n.Bind word c) h = cc
other_is_expression (n.MoreBinds word c) h = cc
other_is_expression (n.Initial word c) h = cc
other_is_expression n.Semi h = cc
other_is_expression n.LooseSemi h = cc
other_is_expression (n.Statement c) h = cc
other_is_expression (n.Block c) h = cc
other_is_expression (n.Else c) h = cc
other_is_expression (n.Label jump) h = cc
other_is_expression (n.ReturnValue c) h = cc
other_is_expression (n.ThrowValue c) h = cc
other_is_expression (n.Clauses c has_default) h = cc
other_is_expression (n.Handlers c) h = cc
other_is_expression (n.CatchClause c) h = cc
other_is_expression n.CatchName h = cc
other_is_expression (n.Finally c) h = cc
other_is_expression n.ForOpen h = cc
other_is_expression (n.Head c) h = cc
other_is_expression (n.DeclaredHead word c) h = cc
other_is_expression (n.LeftHead c) h = cc
other_is_expression (n.OptionalExpr c) h = cc
other_is_expression _ h = refl

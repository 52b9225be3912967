-- The nonterminals of statements, by their makers.
use Rattle.hz_tree.specs.declared.nonterminal.Nonterminal.{Nonterminal}
use Rattle.hz_tree.specs.declared.nonterminal.Nonterminal.TheVariants as n
use Rattle.hz_parse_stmt.specs.declared.make.Group.{Group}
use Rattle.hz_parse_stmt.specs.declared.make.Group.TheVariants as group

abbrev pub group_of : Nonterminal → Group
group_of n.Script = group.Item
group_of (n.Items c) = group.Item
group_of (n.Item c) = group.Item
group_of (n.Binds word c) = group.Item
group_of (n.Bind word c) = group.Item
group_of (n.MoreBinds word c) = group.Item
group_of (n.Initial word c) = group.Item
group_of n.Semi = group.Item
group_of n.LooseSemi = group.Item
group_of (n.Statement c) = group.Statement
group_of (n.Block c) = group.Statement
group_of (n.Else c) = group.Statement
group_of (n.Label jump) = group.Statement
group_of (n.ReturnValue c) = group.Statement
group_of (n.ThrowValue c) = group.Statement
group_of (n.Clauses c has_default) = group.Statement
group_of (n.Handlers c) = group.Statement
group_of (n.CatchClause c) = group.Statement
group_of n.CatchName = group.Statement
group_of (n.Finally c) = group.Statement
group_of n.ForOpen = group.Head
group_of (n.Head c) = group.Head
group_of (n.DeclaredHead word c) = group.Head
group_of (n.LeftHead c) = group.Head
group_of (n.OptionalExpr c) = group.Head
group_of _ = group.Other

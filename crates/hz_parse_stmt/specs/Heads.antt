-- The two rows of a head that begins with an expression.
use Rattle.std.specs.Prelude.{◌∷◌, Some}
use Rattle.hz_tree.specs.declared.class.Class.TheVariants as k
use Rattle.hz_tree.specs.declared.nonterminal.Context.{Context}
use Rattle.hz_tree.specs.declared.nonterminal.Nonterminal.TheVariants as n
use Rattle.hz_tree.specs.declared.operator.Level.TheVariants as level
use Rattle.hz_tree.specs.declared.signal.Signal.TheVariants as tell
use Rattle.hz_tree.specs.declared.symbol.Symbol.TheVariants.{Take, Read, Tell}
use Rattle.hz_tree.specs.grammar.HeadRows.{body_of}
use Rattle.hz_tree.specs.grammar.Symbols.{begins_expr, begins_left, goes, Row, without_in}

-- an expression that is no left-hand side
abbrev pub no_left_row : (c : Context) → Row (n.Head c)
no_left_row c =
    goes
    (Read (n.Expr (without_in c)) ∷ Tell tell.Join ∷ Take k.Semicolon ∷ Read (n.OptionalExpr c) ∷ Take k.Semicolon
    ∷ Read (n.OptionalExpr c) ∷ body_of c)
    (λ (first, (_, (_, (test, (_, (update, (_, (body, _)))))))). begins_expr (Some first) test update body)

-- a left-hand side, and what follows it
abbrev pub left_row : (c : Context) → Row (n.Head c)
left_row c =
    goes (Read (n.Operation level.Member c) ∷ Read (n.LeftHead c) ∷ body_of c)
    (λ (left, (after, (_, (body, _)))). begins_left left after body)

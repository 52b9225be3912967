-- Rows of the grammar: lists of expressions, and parts of arrows and `yield` (ECMA-262, 13.16, 15.3 and 15.5).
use Rattle.std.specs.Prelude.{Bool, true, false, List, [], ◌∷◌, Some, None}
use Rattle.hz_tree.specs.declared.class.Class.{Class}
use Rattle.hz_tree.specs.declared.class.Class.TheVariants as k
use Rattle.hz_tree.specs.declared.nonterminal.Context.{Context}
use Rattle.hz_tree.specs.declared.nonterminal.Nonterminal.TheVariants as n
use Rattle.hz_tree.specs.declared.signal.NodeShape.TheVariants as shape
use Rattle.hz_tree.specs.declared.signal.Signal.TheVariants as tell
use Rattle.hz_tree.specs.declared.symbol.Symbol.TheVariants.{Take, Read, Tell}
use Rattle.hz_tree.specs.declared.tree.Tree.{Tree}
use Rattle.hz_tree.specs.declared.tree.Tree.TheVariants as t
use Rattle.hz_tree.specs.declared.look.Look.{Look}
use Rattle.hz_tree.specs.grammar.Look.{stuck}
use Rattle.hz_tree.specs.grammar.Symbols.{assignment, goes, refuses, Row, of_arrow}
use Rattle.hz_tree.specs.trees.Places.{place}

-- ---- the comma

abbrev pub listed : Tree → List Tree → Tree
listed first [] = first
listed first (second ∷ more) = t.Comma (place first) (first ∷ second ∷ more)

abbrev pub expr_row : (c : Context) → Row (n.Expr c)
expr_row c = goes (Read (assignment c) ∷ Read (n.ExprRest false c) ∷ []) (λ (first, (more, _)). listed first more)

abbrev pub expr_end : (listed : Bool) → (c : Context) → Row (n.ExprRest listed c)
expr_end true c = goes (Tell (tell.Node shape.Other) ∷ []) (λ _. [])
expr_end false c = goes [] (λ _. [])

abbrev pub expr_rest_row : (listed : Bool) → (c : Context) → Class → Row (n.ExprRest listed c)
expr_rest_row listed c k.Comma =
    goes (Take k.Comma ∷ Read (assignment c) ∷ Tell tell.Join ∷ Read (n.ExprRest true c) ∷ [])
    (λ (_, (first, (_, (more, _)))). first ∷ more)
expr_rest_row listed c _ = expr_end listed c

-- ---- arrows

-- `=>` on the line of the token before it
abbrev pub arrow_sign_by : Look → (newline : Bool) → Row n.ArrowSign
arrow_sign_by l true = refuses (stuck l)
arrow_sign_by l false = goes (Take k.Arrow ∷ []) (λ _. tt)

abbrev pub arrow_sign_row : Look → Row n.ArrowSign
arrow_sign_row l = arrow_sign_by l l.one_newline

abbrev pub arrow_body_row : (c : Context) → Class → Row (n.ArrowBody c)
arrow_body_row c k.LeftBrace = goes (Read (n.Body false) ∷ []) (λ (body, _). body)
arrow_body_row c _ = goes (Read (assignment (of_arrow c)) ∷ []) (λ (value, _). value)

-- ---- yield

abbrev pub yield_value_by : (c : Context) → (newline : Bool) → Class → Row (n.YieldValue c)
yield_value_by c true one = goes [] (λ _. (false, None))
yield_value_by c false k.RightParen = goes [] (λ _. (false, None))
yield_value_by c false k.RightBracket = goes [] (λ _. (false, None))
yield_value_by c false k.RightBrace = goes [] (λ _. (false, None))
yield_value_by c false k.TemplateMiddle = goes [] (λ _. (false, None))
yield_value_by c false k.TemplateTail = goes [] (λ _. (false, None))
yield_value_by c false k.Comma = goes [] (λ _. (false, None))
yield_value_by c false k.Semicolon = goes [] (λ _. (false, None))
yield_value_by c false k.Colon = goes [] (λ _. (false, None))
yield_value_by c false k.In = goes [] (λ _. (false, None))
yield_value_by c false k.End = goes [] (λ _. (false, None))
yield_value_by c false k.Star =
    goes (Take k.Star ∷ Read (assignment c) ∷ Tell tell.Join ∷ []) (λ (_, (value, _)). (true, Some value))
yield_value_by c false _ = goes (Read (assignment c) ∷ Tell tell.Join ∷ []) (λ (value, _). (false, Some value))

abbrev pub yield_value_row : (c : Context) → Look → Row (n.YieldValue c)
yield_value_row c l = yield_value_by c l.one_newline l.one

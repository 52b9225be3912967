-- The head of a `for`, in which `in` is no operator. What is read there is read so anywhere, where no `in` stands
-- behind it.
use Rattle.std.specs.Prelude.{Bool, true, false, not, ◌&&◌, ◌||◌, List, [], ◌∷◌}
use Rattle.hz_tree.specs.declared.nonterminal.Context.{Context}
use Rattle.hz_tree.specs.declared.nonterminal.Nonterminal.{Nonterminal}
use Rattle.hz_tree.specs.declared.nonterminal.Nonterminal.TheVariants as n
use Rattle.hz_tree.specs.grammar.Classes.{is_in}
use Rattle.hz_tree.specs.grammar.Look.{Terminal}
use Rattle.hz_tree.specs.grammar.Symbols.{Value}

-- ---- where `in` is no operator

-- it stands in the head of a `for`, outside of brackets
abbrev pub in_head : Nonterminal → Bool
in_head (n.Items c) = c.no_in
in_head (n.Item c) = c.no_in
in_head (n.Statement c) = c.no_in
in_head (n.Block c) = c.no_in
in_head (n.Binds word c) = c.no_in
in_head (n.Bind word c) = c.no_in
in_head (n.MoreBinds word c) = c.no_in
in_head (n.Initial word c) = c.no_in
in_head (n.Else c) = c.no_in
in_head (n.ReturnValue c) = c.no_in
in_head (n.ThrowValue c) = c.no_in
in_head (n.Clauses c has_default) = c.no_in
in_head (n.Handlers c) = c.no_in
in_head (n.CatchClause c) = c.no_in
in_head (n.Finally c) = c.no_in
in_head (n.Head c) = c.no_in
in_head (n.DeclaredHead word c) = c.no_in
in_head (n.LeftHead c) = c.no_in
in_head (n.OptionalExpr c) = c.no_in
in_head (n.Expr c) = c.no_in
in_head (n.ExprRest listed c) = c.no_in
in_head (n.Operation loosest c) = c.no_in
in_head (n.Tails tailed loosest c) = c.no_in
in_head (n.Rests loosest tightest c) = c.no_in
in_head (n.ArrowBody c) = c.no_in
in_head (n.YieldValue c) = c.no_in
in_head (n.Primary c) = c.no_in
in_head (n.OptionalTail c) = c.no_in
in_head (n.Members c) = c.no_in
in_head (n.NewArgs c) = c.no_in
in_head (n.Args c) = c.no_in
in_head (n.Arguments c) = c.no_in
in_head (n.MoreArguments c) = c.no_in
in_head (n.Argument c) = c.no_in
in_head (n.TemplateRest c) = c.no_in
in_head (n.Elements c) = c.no_in
in_head (n.MoreElements c) = c.no_in
in_head (n.Props c) = c.no_in
in_head (n.MoreProps c) = c.no_in
in_head (n.Prop c) = c.no_in
in_head (n.KeyRest c) = c.no_in
in_head (n.Key c) = c.no_in
in_head _ = false

-- what a head is made of: declarations, expressions and their parts, up to brackets
abbrev pub is_of_head : Nonterminal → Bool
is_of_head (n.Binds word c) = true
is_of_head (n.Bind word c) = true
is_of_head (n.MoreBinds word c) = true
is_of_head (n.Initial word c) = true
is_of_head (n.Expr c) = true
is_of_head (n.ExprRest listed c) = true
is_of_head (n.Operation loosest c) = true
is_of_head (n.Tails tailed loosest c) = true
is_of_head (n.Rests loosest tightest c) = true
is_of_head (n.ArrowBody c) = true
is_of_head (n.YieldValue c) = true
is_of_head (n.Primary c) = true
is_of_head (n.OptionalTail c) = true
is_of_head (n.Members c) = true
is_of_head (n.NewArgs c) = true
is_of_head (n.Args c) = true
is_of_head _ = false

-- ---- where that does not matter

abbrev pub in_ahead : List Terminal → Bool
in_ahead [] = false
in_ahead (x ∷ ts) = is_in x.class

-- `in` is an operator in what is read; or it is of a head, and no `in` stands ahead of what is left.
abbrev pub settled : Nonterminal → (rest : List Terminal) → Bool
settled m rest = not (in_head m) || (is_of_head m && not (in_ahead rest))

-- ---- in a head and outside of heads

abbrev pub placed_context : (head : Bool) → Context → Context
placed_context head c = record c { no_in = head }

-- the same nonterminal, in a head or outside of heads
abbrev pub placed : (head : Bool) → Nonterminal → Nonterminal
placed head (n.Items c) = n.Items (placed_context head c)
placed head (n.Item c) = n.Item (placed_context head c)
placed head (n.Statement c) = n.Statement (placed_context head c)
placed head (n.Block c) = n.Block (placed_context head c)
placed head (n.Binds word c) = n.Binds word (placed_context head c)
placed head (n.Bind word c) = n.Bind word (placed_context head c)
placed head (n.MoreBinds word c) = n.MoreBinds word (placed_context head c)
placed head (n.Initial word c) = n.Initial word (placed_context head c)
placed head (n.Else c) = n.Else (placed_context head c)
placed head (n.ReturnValue c) = n.ReturnValue (placed_context head c)
placed head (n.ThrowValue c) = n.ThrowValue (placed_context head c)
placed head (n.Clauses c has_default) = n.Clauses (placed_context head c) has_default
placed head (n.Handlers c) = n.Handlers (placed_context head c)
placed head (n.CatchClause c) = n.CatchClause (placed_context head c)
placed head (n.Finally c) = n.Finally (placed_context head c)
placed head (n.Head c) = n.Head (placed_context head c)
placed head (n.DeclaredHead word c) = n.DeclaredHead word (placed_context head c)
placed head (n.LeftHead c) = n.LeftHead (placed_context head c)
placed head (n.OptionalExpr c) = n.OptionalExpr (placed_context head c)
placed head (n.Expr c) = n.Expr (placed_context head c)
placed head (n.ExprRest listed c) = n.ExprRest listed (placed_context head c)
placed head (n.Operation loosest c) = n.Operation loosest (placed_context head c)
placed head (n.Tails tailed loosest c) = n.Tails tailed loosest (placed_context head c)
placed head (n.Rests loosest tightest c) = n.Rests loosest tightest (placed_context head c)
placed head (n.ArrowBody c) = n.ArrowBody (placed_context head c)
placed head (n.YieldValue c) = n.YieldValue (placed_context head c)
placed head (n.Primary c) = n.Primary (placed_context head c)
placed head (n.OptionalTail c) = n.OptionalTail (placed_context head c)
placed head (n.Members c) = n.Members (placed_context head c)
placed head (n.NewArgs c) = n.NewArgs (placed_context head c)
placed head (n.Args c) = n.Args (placed_context head c)
placed head (n.Arguments c) = n.Arguments (placed_context head c)
placed head (n.MoreArguments c) = n.MoreArguments (placed_context head c)
placed head (n.Argument c) = n.Argument (placed_context head c)
placed head (n.TemplateRest c) = n.TemplateRest (placed_context head c)
placed head (n.Elements c) = n.Elements (placed_context head c)
placed head (n.MoreElements c) = n.MoreElements (placed_context head c)
placed head (n.Props c) = n.Props (placed_context head c)
placed head (n.MoreProps c) = n.MoreProps (placed_context head c)
placed head (n.Prop c) = n.Prop (placed_context head c)
placed head (n.KeyRest c) = n.KeyRest (placed_context head c)
placed head (n.Key c) = n.Key (placed_context head c)
placed head m = m

-- the same nonterminal, outside of heads
abbrev pub anywhere : Nonterminal → Nonterminal
anywhere m = placed false m

-- what it gives is of the same type
abbrev pub anywhere_value : (m : Nonterminal) → Value m → Value (anywhere m)
anywhere_value n.Script v = v
anywhere_value m v = v

-- Each right-hand side in a reading that is settled has parts of which the readings are settled.
use Rattle.std.proofs.Common.{◌≡◌, Bool, true, false, not, ◌&&◌, ◌||◌}
use Rattle.std.proofs.Common.{refl, ap, sym, ◌∙◌, subst}
use Rattle.hz_tree.specs.declared.class.Class.{Class}
use Rattle.hz_tree.specs.declared.class.Class.TheVariants as k
use Rattle.hz_tree.specs.declared.look.Look.{Look}
use Rattle.hz_tree.specs.declared.nonterminal.Context.{Context}
use Rattle.hz_tree.specs.declared.nonterminal.Nonterminal.{Nonterminal}
use Rattle.hz_tree.specs.declared.nonterminal.Nonterminal.TheVariants as n
use Rattle.hz_tree.specs.declared.operator.DeclarationWord.{DeclarationWord}
use Rattle.hz_tree.specs.declared.signal.Role.{Role}
use Rattle.hz_tree.specs.grammar.Classes.{is_name, is_of, is_colon, begins_key, is_async_word, is_paren, is_word}
use Rattle.hz_tree.specs.grammar.Look.{is_async, begins_arrow}
use Rattle.hz_tree.specs.grammar.HeadRows.{is_no_left, head_by}
use Rattle.hz_tree.specs.grammar.OperatorRows.{is_loosest}
use Rattle.hz_tree.specs.grammar.PropertyRows.{plain_prop_row, getter_row, setter_row, prop_by}
use Rattle.hz_tree.specs.grammar.StatementRows.{bound_by, declaration_row, return_row, statement_by}
use Rattle.hz_tree.specs.grammar.Table.{Step, row, step_of}
use Rattle.hz_stands.specs.Heads.{in_head, is_of_head, placed}
use Rattle.hz_stands.proofs.SettledExpressions.{is_guarded, Settles, settles_if, at, away, arrow_settles}
use Rattle.hz_stands.proofs.SettledExpressions.{no_value_settles, expr_end_settles, rests_settle, tails_settle}
use Rattle.hz_stands.proofs.SettledExpressions.{operation_settles, primary_settles}

-- ---- statements and what stands in brackets, outside of heads

plain_declaration : (c : Context) → Settles (n.Item (away c)) (declaration_row (away c) k.Name)
plain_declaration c = refl

declaration_settles : (c : Context) (two : Class) → Settles (n.Item (away c)) (declaration_row (away c) two)
declaration_settles c k.Star = refl
declaration_settles c _ = plain_declaration c

return_settles : (c : Context) (returns : Bool) → Settles (n.Statement (away c)) (return_row (away c) returns)
return_settles c true = refl
return_settles c false = refl

expression_statement : (c : Context) (l : Look) → Settles (n.Statement (away c)) (statement_by (away c) l k.Name)
expression_statement c l = refl

statement_settles : (c : Context) (l : Look) (one : Class)
    → Settles (n.Statement (away c)) (statement_by (away c) l one)
statement_settles c l k.LeftBrace = refl
statement_settles c l k.For = refl
statement_settles c l k.If = refl
statement_settles c l k.Try = refl
statement_settles c l k.Return = return_settles c c.returns
statement_settles c l k.Function = refl
statement_settles c l k.Var = refl
statement_settles c l k.Semicolon = refl
statement_settles c l k.Debugger = refl
statement_settles c l k.Do = refl
statement_settles c l k.While = refl
statement_settles c l k.Continue = refl
statement_settles c l k.Break = refl
statement_settles c l k.Throw = refl
statement_settles c l k.Switch = refl
statement_settles c l _ = expression_statement c l

expr_head_settles : (c : Context) (l : Look) → Settles (n.Head (away c)) (head_by (away c) l k.Name)
expr_head_settles c l =
    settles_if (n.Head (away c)) (is_async_word l.one && is_of l.two) _ _ refl
    (settles_if (n.Head (away c)) (is_no_left (away c) l) _ _ refl refl)

head_settles : (c : Context) (l : Look) (one : Class) → Settles (n.Head (away c)) (head_by (away c) l one)
head_settles c l k.Var = refl
head_settles c l k.Let = refl
head_settles c l k.Const = refl
head_settles c l k.Semicolon = refl
head_settles c l _ = expr_head_settles c l

plain_prop_settles : (c : Context) (l : Look) → Settles (n.Prop (away c)) (plain_prop_row (away c) l)
plain_prop_settles c l =
    settles_if (n.Prop (away c)) (is_name l.one && (not (is_colon l.two) && not (is_paren l.two))) _ _ refl refl

getter_settles : (c : Context) (l : Look) (keyed : Bool) → Settles (n.Prop (away c)) (getter_row (away c) l keyed)
getter_settles c l true = refl
getter_settles c l false = plain_prop_settles c l

setter_settles : (c : Context) (l : Look) (keyed : Bool) → Settles (n.Prop (away c)) (setter_row (away c) l keyed)
setter_settles c l true = refl
setter_settles c l false = plain_prop_settles c l

prop_settles : (c : Context) (l : Look) (one : Class) → Settles (n.Prop (away c)) (prop_by (away c) l one)
prop_settles c l k.Ellipsis = refl
prop_settles c l k.Star = refl
prop_settles c l k.Get = getter_settles c l (begins_key l.two)
prop_settles c l k.Set = setter_settles c l (begins_key l.two)
prop_settles c l _ = plain_prop_settles c l

bound_settles : (bound : Role) (l : Look) (one : Class) → Settles (n.Bound bound) (bound_by bound l one)
bound_settles bound l k.LeftBracket = refl
bound_settles bound l k.LeftBrace = refl
bound_settles bound l _ = settles_if (n.Bound bound) (is_name l.one) _ _ refl refl

-- ---- all rows, outside of heads

abbrev looked : (one : Class) → (one_newline : Bool) → (two : Class) → (two_newline arrow : Bool) → Look
looked one one_newline two two_newline arrow =
    record { one = one; one_newline = one_newline; two = two; two_newline = two_newline; arrow = arrow }

-- ---- rows for all classes that are not named

abbrev named : Look
named = looked k.Name false k.Name false false

abbrev SettlesNamed : Nonterminal → Type 0
SettlesNamed m = Settles (placed false m) (row (placed false m) named)

more_items : (c : Context) → SettlesNamed (n.Items c)
more_items c = refl

item_statement : (c : Context) → SettlesNamed (n.Item c)
item_statement c = refl

declared_loop : (word : DeclarationWord) (c : Context) → SettlesNamed (n.DeclaredHead word c)
declared_loop word c = refl

left_loop : (c : Context) → SettlesNamed (n.LeftHead c)
left_loop c = refl

optional_word : (c : Context) → SettlesNamed (n.OptionalTail c)
optional_word c = refl

first_argument : (c : Context) → SettlesNamed (n.Arguments c)
first_argument c = refl

plain_argument : (c : Context) → SettlesNamed (n.Argument c)
plain_argument c = refl

arrow_value : (c : Context) → SettlesNamed (n.ArrowBody c)
arrow_value c = refl

first_element : (c : Context) → SettlesNamed (n.Elements c)
first_element c = refl

first_prop : (c : Context) → SettlesNamed (n.Props c)
first_prop c = refl

word_key : (c : Context) → SettlesNamed (n.Key c)
word_key c = refl

first_parameter : SettlesNamed n.Parameters
first_parameter = refl

settles_at : (m : Nonterminal) (one : Class) (newline : Bool) (two : Class) (newline' arrow : Bool)
    → Settles (placed false m) (row (placed false m) (looked one newline two newline' arrow))
settles_at n.Script _ _ _ _ _ = refl
settles_at (n.Items c) k.RightBrace _ _ _ _ = refl
settles_at (n.Items c) k.Case _ _ _ _ = refl
settles_at (n.Items c) k.Default _ _ _ _ = refl
settles_at (n.Items c) k.End _ _ _ _ = refl
settles_at (n.Items c) _ _ _ _ _ = more_items c
settles_at (n.Item c) k.Function _ two _ _ = declaration_settles c two
settles_at (n.Item c) k.Let _ _ _ _ = refl
settles_at (n.Item c) k.Const _ _ _ _ = refl
settles_at (n.Item c) _ _ _ _ _ = item_statement c
settles_at (n.Block c) _ _ _ _ _ = refl
settles_at (n.Binds word c) _ _ _ _ _ = refl
settles_at (n.Bind word c) _ _ _ _ _ = refl
settles_at (n.MoreBinds word c) k.Comma _ _ _ _ = refl
settles_at (n.MoreBinds word c) _ _ _ _ _ = refl
settles_at (n.Initial word c) k.Assign _ _ _ _ = refl
settles_at (n.Initial word c) _ _ _ _ _ = no_value_settles false word c
settles_at (n.Bound role) one newline two newline' arrow =
    bound_settles role (looked one newline two newline' arrow) one
settles_at n.Semi k.Semicolon _ _ _ _ = refl
settles_at n.Semi k.RightBrace _ _ _ _ = refl
settles_at n.Semi k.End _ _ _ _ = refl
settles_at n.Semi _ true _ _ _ = refl
settles_at n.Semi _ false _ _ _ = refl
settles_at n.LooseSemi k.Semicolon _ _ _ _ = refl
settles_at n.LooseSemi _ _ _ _ _ = refl
settles_at (n.Else c) k.Else _ _ _ _ = refl
settles_at (n.Else c) _ _ _ _ _ = refl
settles_at (n.Label jump) _ true _ _ _ = refl
settles_at (n.Label jump) one false _ _ _ = settles_if (n.Label jump) (is_name one) _ _ refl refl
settles_at (n.ReturnValue c) k.Semicolon true _ _ _ = refl
settles_at (n.ReturnValue c) _ true _ _ _ = refl
settles_at (n.ReturnValue c) _ _ _ _ _ = refl
settles_at (n.ThrowValue c) _ true _ _ _ = refl
settles_at (n.ThrowValue c) _ _ _ _ _ = refl
settles_at (n.Clauses c has_default) k.Case _ _ _ _ = refl
settles_at (n.Clauses c false) k.Default _ _ _ _ = refl
settles_at (n.Clauses c true) k.Default _ _ _ _ = refl
settles_at (n.Clauses c has_default) _ _ _ _ _ = refl
settles_at (n.Handlers c) k.Catch _ _ _ _ = refl
settles_at (n.Handlers c) k.Finally _ _ _ _ = refl
settles_at (n.Handlers c) _ _ _ _ _ = refl
settles_at (n.CatchClause c) _ _ _ _ _ = refl
settles_at n.CatchName k.LeftParen _ _ _ _ = refl
settles_at n.CatchName _ _ _ _ _ = refl
settles_at (n.Finally c) k.Finally _ _ _ _ = refl
settles_at (n.Finally c) _ _ _ _ _ = refl
settles_at n.ForOpen k.Await _ _ _ _ = refl
settles_at n.ForOpen _ _ _ _ _ = refl
settles_at (n.DeclaredHead word c) k.In _ _ _ _ = refl
settles_at (n.DeclaredHead word c) k.Of _ _ _ _ = refl
settles_at (n.DeclaredHead word c) _ _ _ _ _ = declared_loop word c
settles_at (n.LeftHead c) k.In _ _ _ _ = refl
settles_at (n.LeftHead c) k.Of _ _ _ _ = refl
settles_at (n.LeftHead c) _ _ _ _ _ = left_loop c
settles_at (n.OptionalExpr c) k.Semicolon _ _ _ _ = refl
settles_at (n.OptionalExpr c) _ _ _ _ _ = refl
settles_at (n.Expr c) _ _ _ _ _ = refl
settles_at (n.ExprRest listed c) k.Comma _ _ _ _ = refl
settles_at (n.ExprRest listed c) _ _ _ _ _ = expr_end_settles false listed c
settles_at n.ArrowSign _ true _ _ _ = refl
settles_at n.ArrowSign _ _ _ _ _ = refl
settles_at (n.ArrowBody c) k.LeftBrace _ _ _ _ = refl
settles_at (n.ArrowBody c) _ _ _ _ _ = arrow_value c
settles_at (n.YieldValue c) k.Star true _ _ _ = refl
settles_at (n.YieldValue c) _ true _ _ _ = refl
settles_at (n.YieldValue c) _ _ _ _ _ = refl
settles_at (n.OptionalTail c) k.LeftBracket _ _ _ _ = refl
settles_at (n.OptionalTail c) k.LeftParen _ _ _ _ = refl
settles_at (n.OptionalTail c) k.TemplateWhole _ _ _ _ = refl
settles_at (n.OptionalTail c) k.TemplateHead _ _ _ _ = refl
settles_at (n.OptionalTail c) _ _ _ _ _ = optional_word c
settles_at n.Word one _ _ _ _ = settles_if n.Word (is_word one) _ _ refl refl
settles_at (n.Members c) k.Dot _ _ _ _ = refl
settles_at (n.Members c) k.LeftBracket _ _ _ _ = refl
settles_at (n.Members c) _ _ _ _ _ = refl
settles_at (n.NewArgs c) k.LeftParen _ _ _ _ = refl
settles_at (n.NewArgs c) k.OptionalDot _ _ _ _ = refl
settles_at (n.NewArgs c) _ _ _ _ _ = refl
settles_at (n.Args c) _ _ _ _ _ = refl
settles_at (n.Arguments c) k.RightParen _ _ _ _ = refl
settles_at (n.Arguments c) _ _ _ _ _ = first_argument c
settles_at (n.MoreArguments c) k.Comma _ _ _ _ = refl
settles_at (n.MoreArguments c) _ _ _ _ _ = refl
settles_at (n.Argument c) k.Ellipsis _ _ _ _ = refl
settles_at (n.Argument c) _ _ _ _ _ = plain_argument c
settles_at (n.TemplateRest c) k.TemplateMiddle _ _ _ _ = refl
settles_at (n.TemplateRest c) k.TemplateTail _ _ _ _ = refl
settles_at (n.TemplateRest c) _ _ _ _ _ = refl
settles_at (n.Elements c) k.RightBracket _ _ _ _ = refl
settles_at (n.Elements c) k.Comma _ _ _ _ = refl
settles_at (n.Elements c) _ _ _ _ _ = first_element c
settles_at (n.MoreElements c) k.Comma _ _ _ _ = refl
settles_at (n.MoreElements c) _ _ _ _ _ = refl
settles_at (n.Props c) k.RightBrace _ _ _ _ = refl
settles_at (n.Props c) _ _ _ _ _ = first_prop c
settles_at (n.MoreProps c) k.Comma _ _ _ _ = refl
settles_at (n.MoreProps c) _ _ _ _ _ = refl
settles_at n.ShorthandEnd k.Assign _ _ _ _ = refl
settles_at n.ShorthandEnd _ _ _ _ _ = refl
settles_at (n.KeyRest c) k.Colon _ _ _ _ = refl
settles_at (n.KeyRest c) k.LeftParen _ _ _ _ = refl
settles_at (n.KeyRest c) _ _ _ _ _ = refl
settles_at (n.Key c) k.Text _ _ _ _ = refl
settles_at (n.Key c) k.Number _ _ _ _ = refl
settles_at (n.Key c) k.OctalNumber _ _ _ _ = refl
settles_at (n.Key c) k.LeftBracket _ _ _ _ = refl
settles_at (n.Key c) _ _ _ _ _ = word_key c
settles_at n.OwnName one _ _ _ _ = settles_if n.OwnName (is_name one) _ _ refl refl
settles_at n.Params _ _ _ _ _ = refl
settles_at n.Parameters k.RightParen _ _ _ _ = refl
settles_at n.Parameters k.Ellipsis _ _ _ _ = refl
settles_at n.Parameters _ _ _ _ _ = first_parameter
settles_at n.MoreParameters k.Comma _ _ _ _ = refl
settles_at n.MoreParameters k.Assign _ _ _ _ = refl
settles_at n.MoreParameters _ _ _ _ _ = refl
settles_at n.ParameterEnd k.Assign _ _ _ _ = refl
settles_at n.ParameterEnd _ _ _ _ _ = refl
settles_at (n.Body generator) _ _ _ _ _ = refl
settles_at (n.Statement c) one newline two newline' arrow =
    let l = looked one newline two newline' arrow in
    settles_if (n.Statement (away c)) (is_async l) _ _ refl
    (settles_if (n.Statement (away c)) (is_name one && is_colon two) _ _ refl (statement_settles c l one))
settles_at (n.Head c) one newline two newline' arrow = head_settles c (looked one newline two newline' arrow) one
settles_at (n.Operation loosest c) one newline two newline' arrow =
    settles_if (n.Operation loosest (away c))
    (is_loosest loosest && begins_arrow (looked one newline two newline' arrow)) _ _
    (arrow_settles false loosest c (is_paren one))
    (operation_settles false loosest c (is_loosest loosest && c.yields) one)
settles_at (n.Tails tailed loosest c) one newline two newline' arrow =
    tails_settle false tailed loosest c (looked one newline two newline' arrow) one
settles_at (n.Rests loosest tightest c) one newline two newline' arrow =
    rests_settle false loosest tightest c (looked one newline two newline' arrow)
settles_at (n.Primary c) one newline two newline' arrow =
    let l = looked one newline two newline' arrow in
    settles_if (n.Primary (away c)) (is_async l) _ _ refl (primary_settles false c l one)
settles_at (n.Prop c) one newline two newline' arrow =
    let l = looked one newline two newline' arrow in
    settles_if (n.Prop (away c)) (is_async l) _ _ refl (prop_settles c l one)

-- ---- all rows of heads

more_settles : (c : Context) → Settles (n.OptionalTail (at true c)) (row (n.OptionalTail (at true c)) named)
more_settles c = refl

arrow_value_settles : (c : Context) → Settles (n.ArrowBody (at true c)) (row (n.ArrowBody (at true c)) named)
arrow_value_settles c = refl

heads_at : (m : Nonterminal) (one : Class) (newline : Bool) (two : Class) (newline' arrow : Bool) → is_of_head m ≡ true
    → Settles (placed true m) (row (placed true m) (looked one newline two newline' arrow))
heads_at (n.Binds word c) _ _ _ _ _ h = refl
heads_at (n.Bind word c) _ _ _ _ _ h = refl
heads_at (n.MoreBinds word c) k.Comma _ _ _ _ h = refl
heads_at (n.MoreBinds word c) _ _ _ _ _ h = refl
heads_at (n.Initial word c) k.Assign _ _ _ _ h = refl
heads_at (n.Initial word c) _ _ _ _ _ h = no_value_settles true word c
heads_at (n.Expr c) _ _ _ _ _ h = refl
heads_at (n.ExprRest listed c) k.Comma _ _ _ _ h = refl
heads_at (n.ExprRest listed c) _ _ _ _ _ h = expr_end_settles true listed c
heads_at (n.Operation loosest c) one newline two newline' arrow h =
    settles_if (n.Operation loosest (at true c))
    (is_loosest loosest && begins_arrow (looked one newline two newline' arrow)) _ _
    (arrow_settles true loosest c (is_paren one))
    (operation_settles true loosest c (is_loosest loosest && c.yields) one)
heads_at (n.Tails tailed loosest c) one newline two newline' arrow h =
    tails_settle true tailed loosest c (looked one newline two newline' arrow) one
heads_at (n.Rests loosest tightest c) one newline two newline' arrow h =
    rests_settle true loosest tightest c (looked one newline two newline' arrow)
heads_at (n.ArrowBody c) k.LeftBrace _ _ _ _ h = refl
heads_at (n.ArrowBody c) _ _ _ _ _ h = arrow_value_settles c
heads_at (n.YieldValue c) k.Star true _ _ _ h = refl
heads_at (n.YieldValue c) _ true _ _ _ h = refl
heads_at (n.YieldValue c) _ _ _ _ _ h = refl
heads_at (n.Primary c) one newline two newline' arrow h =
    let l = looked one newline two newline' arrow in
    settles_if (n.Primary (at true c)) (is_async l) _ _ refl (primary_settles true c l one)
heads_at (n.OptionalTail c) k.LeftBracket _ _ _ _ h = refl
heads_at (n.OptionalTail c) k.LeftParen _ _ _ _ h = refl
heads_at (n.OptionalTail c) k.TemplateWhole _ _ _ _ h = refl
heads_at (n.OptionalTail c) k.TemplateHead _ _ _ _ h = refl
heads_at (n.OptionalTail c) _ _ _ _ _ h = more_settles c
heads_at (n.Members c) k.Dot _ _ _ _ h = refl
heads_at (n.Members c) k.LeftBracket _ _ _ _ h = refl
heads_at (n.Members c) _ _ _ _ _ h = refl
heads_at (n.NewArgs c) k.LeftParen _ _ _ _ h = refl
heads_at (n.NewArgs c) k.OptionalDot _ _ _ _ h = refl
heads_at (n.NewArgs c) _ _ _ _ _ h = refl
heads_at (n.Args c) _ _ _ _ _ h = refl
heads_at m _ _ _ _ _ h = cc

-- ---- both

pub placed_here : (m : Nonterminal) → placed (in_head m) m ≡ m
placed_here n.Script = refl
placed_here _ = refl

-- it is so, in a head or not, as it is placed
pub as_placed : (head : Bool) (P : Nonterminal → Type 0) (m : Nonterminal) → in_head m ≡ head → P (placed head m) → P m
as_placed head P m e h = subst P (ap (λ b. placed b m) (sym e) ∙ placed_here m) h

in_statement : (m : Nonterminal) (step : Step) → in_head m ≡ true → is_of_head m ≡ false
    → ((in_head m && not (is_of_head m)) || is_guarded (in_head m) step) ≡ true
in_statement m step h i =
    ap (λ b. (b && not (is_of_head m)) || is_guarded b step) h ∙ ap (λ b. not b || is_guarded true step) i

-- Each row is so.
pub rows_settle : (m : Nonterminal) (l : Look) → Settles m (row m l)
rows_settle m l =
    elim (in_head m) as (λ b. in_head m ≡ b → Settles m (row m l)) [
      | false ↦ λ e.
          as_placed false (λ x. Settles x (row x l)) m e
          (settles_at m l.one l.one_newline l.two l.two_newline l.arrow)
      | true ↦ λ e.
          elim (is_of_head m) as (λ b. is_of_head m ≡ b → Settles m (row m l)) [
            | true ↦ λ i.
                as_placed true (λ x. Settles x (row x l)) m e
                (heads_at m l.one l.one_newline l.two l.two_newline l.arrow i)
            | false ↦ λ i. in_statement m (step_of (row m l)) e i
          ] refl
    ] refl

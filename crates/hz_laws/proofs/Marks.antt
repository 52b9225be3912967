-- What an expression or a function is read as does not depend on whether a line ends before its first token.
use Rattle.std.proofs.Common.{◌≡◌, ℕ, zero, suc, Bool, true, false, ◌&&◌, if◌then◌else◌, List, [], ◌∷◌, Option}
use Rattle.std.proofs.Common.{Some, None, refl, ap, ◌∙◌}
use Rattle.hz_tree.specs.declared.class.Class.{Class}
use Rattle.hz_tree.specs.declared.class.Class.TheVariants as k
use Rattle.hz_tree.specs.declared.look.Look.{Look}
use Rattle.hz_tree.specs.declared.nonterminal.Context.{Context}
use Rattle.hz_tree.specs.declared.nonterminal.Nonterminal.{Nonterminal}
use Rattle.hz_tree.specs.declared.nonterminal.Nonterminal.TheVariants as n
use Rattle.hz_tree.specs.declared.operator.Level.{Level}
use Rattle.hz_tree.specs.declared.operator.UnaryOperator.{UnaryOperator}
use Rattle.hz_tree.specs.declared.signal.Role.{Role}
use Rattle.hz_tree.specs.declared.symbol.Symbol.{Symbol}
use Rattle.hz_tree.specs.declared.symbol.Symbol.TheVariants as s
use Rattle.hz_tree.specs.grammar.Classes.{fits, is_name, is_colon, is_paren}
use Rattle.hz_tree.specs.grammar.Look.{Terminal, look, stuck, is_async, begins_arrow}
use Rattle.hz_tree.specs.grammar.Operators.{unary_operator}
use Rattle.hz_tree.specs.grammar.OperatorRows.{arrow_row, operand_row, operation_by, is_loosest}
use Rattle.hz_tree.specs.grammar.PrimaryRows.{new_row, function_expression_row, primary_by}
use Rattle.hz_tree.specs.grammar.StatementRows.{bound_by, declaration_row, return_row, statement_by}
use Rattle.hz_tree.specs.grammar.Symbols.{Parts, Value, Row, goes, refuses}
use Rattle.hz_tree.specs.grammar.Table.{row}
use Rattle.hz_tree.specs.reading.Reading.{Reading, Got, Stuck, Deeper, and_then, takes, Reader, read_all}
use Rattle.hz_tree.specs.reading.Reading.{told_ahead, by_row, reads_to, reads_by, enough, reads}
use Rattle.hz_laws.specs.Middle.{unmarked, begins}
use Rattle.hz_laws.proofs.Balance.{Then, then_got}
use Rattle.hz_laws.proofs.RowLaws.{looked}

-- ---- rows

-- a right-hand side takes a token first, or reads what begins an expression or a function
abbrev leads_on : List Symbol → Bool
leads_on [] = false
leads_on (s.Take wanted ∷ more) = true
leads_on (s.Read m ∷ more) = begins m
leads_on (s.Tell signal ∷ more) = leads_on more

abbrev without_mark : Terminal → Terminal
without_mark x = record x { token = record x.token { newline = false } }

-- the same parts, where the first token has no mark
abbrev unmark : (right : List Symbol) → Parts Value right → Parts Value right
unmark [] parts = parts
unmark (s.Take wanted ∷ more) parts = (without_mark parts.0, parts.1)
unmark (s.Read m ∷ more) parts = parts
unmark (s.Tell signal ∷ more) parts = (parts.0, unmark more parts.1)

-- what the row makes has no mark of the first token in it
abbrev Blind : (m : Nonterminal) → Row m → Type 0
Blind m (goes right make) = (leads_on right ≡ true) × ((p : Parts Value right) → make (unmark right p) ≡ make p)
Blind m (refuses cause) = Unit {0}

blind_if : (m : Nonterminal) (test : Bool) (a b : Row m) → Blind m a → Blind m b → Blind m (if test then a else b)
blind_if m true a b h i = h
blind_if m false a b h i = i

declaration_blind : (c : Context) (two : Class) → Blind (n.Item c) (declaration_row c two)
declaration_blind c k.Star = (refl, λ p. refl)
declaration_blind c _ = (refl, λ p. refl)

return_blind : (c : Context) (returns : Bool) → Blind (n.Statement c) (return_row c returns)
return_blind c true = (refl, λ p. refl)
return_blind c false = tt

statement_blind : (c : Context) (l : Look) (one : Class) → Blind (n.Statement c) (statement_by c l one)
statement_blind c l k.Return = return_blind c c.returns
statement_blind c l k.Function = tt
statement_blind c l _ = (refl, λ p. refl)

new_blind : (c : Context) (two : Class) → Blind (n.Primary c) (new_row c two)
new_blind c k.Dot = (refl, λ p. refl)
new_blind c _ = (refl, λ p. refl)

function_blind : (c : Context) (two : Class) → Blind (n.Primary c) (function_expression_row c two)
function_blind c k.Star = (refl, λ p. refl)
function_blind c _ = (refl, λ p. refl)

primary_blind : (c : Context) (l : Look) (one : Class) → Blind (n.Primary c) (primary_by c l one)
primary_blind c l k.Slash = tt
primary_blind c l k.SlashAssign = tt
primary_blind c l k.New = new_blind c l.two
primary_blind c l k.Function = function_blind c l.two
primary_blind c l k.This = (refl, λ p. refl)
primary_blind c l k.Null = (refl, λ p. refl)
primary_blind c l k.True = (refl, λ p. refl)
primary_blind c l k.False = (refl, λ p. refl)
primary_blind c l k.Number = (refl, λ p. refl)
primary_blind c l k.OctalNumber = (refl, λ p. refl)
primary_blind c l k.Text = (refl, λ p. refl)
primary_blind c l k.LeftParen = (refl, λ p. refl)
primary_blind c l k.TemplateWhole = (refl, λ p. refl)
primary_blind c l k.TemplateHead = (refl, λ p. refl)
primary_blind c l k.LeftBracket = (refl, λ p. refl)
primary_blind c l k.LeftBrace = (refl, λ p. refl)
primary_blind c l _ = blind_if (n.Primary c) (is_name l.one) _ _ (refl, λ p. refl) tt

arrow_blind : (loosest : Level) (c : Context) (parenthesised : Bool)
    → Blind (n.Operation loosest c) (arrow_row loosest c parenthesised)
arrow_blind loosest c true = (refl, λ p. refl)
arrow_blind loosest c false = (refl, λ p. refl)

operand_blind : (loosest : Level) (c : Context) (one : Class) (operator : Option UnaryOperator)
    → Blind (n.Operation loosest c) (operand_row loosest c one operator)
operand_blind loosest c one (Some operator) = (refl, λ p. refl)
operand_blind loosest c one None = (refl, λ p. refl)

operation_blind : (loosest : Level) (c : Context) (yields : Bool) (one : Class)
    → Blind (n.Operation loosest c) (operation_by loosest c yields one)
operation_blind loosest c true k.Yield = (refl, λ p. refl)
operation_blind loosest c yields one = operand_blind loosest c one (unary_operator one)

bound_blind : (role : Role) (l : Look) → Blind (n.Bound role) (bound_by role l k.Name)
bound_blind role l = blind_if (n.Bound role) (is_name l.one) _ _ (refl, λ p. refl) tt

blind_at : (m : Nonterminal) (one : Class) (newline : Bool) (two : Class) (newline' arrow : Bool) → begins m ≡ true
    → Blind m (row m (looked one newline two newline' arrow))
blind_at (n.Item c) k.Function _ two _ _ b = declaration_blind c two
blind_at (n.Item c) _ _ _ _ _ b = (refl, λ p. refl)
blind_at (n.Statement c) one newline two newline' arrow b =
    let l = looked one newline two newline' arrow in
    blind_if (n.Statement c) (is_async l) _ _ tt
    (blind_if (n.Statement c) (is_name one && is_colon two) _ _ (refl, λ p. refl) (statement_blind c l one))
blind_at (n.Block c) _ _ _ _ _ b = (refl, λ p. refl)
blind_at (n.Expr c) _ _ _ _ _ b = (refl, λ p. refl)
blind_at (n.Operation loosest c) one newline two newline' arrow b =
    blind_if (n.Operation loosest c) (is_loosest loosest && begins_arrow (looked one newline two newline' arrow)) _ _
    (arrow_blind loosest c (is_paren one)) (operation_blind loosest c (is_loosest loosest && c.yields) one)
blind_at (n.Primary c) one newline two newline' arrow b =
    let l = looked one newline two newline' arrow in
    blind_if (n.Primary c) (is_async l) _ _ tt (primary_blind c l one)
blind_at n.Params _ _ _ _ _ b = (refl, λ p. refl)
blind_at (n.Bound role) k.LeftBracket _ _ _ _ b = tt
blind_at (n.Bound role) k.LeftBrace _ _ _ _ b = tt
blind_at (n.Bound role) one newline two newline' arrow b = bound_blind role (looked one newline two newline' arrow)
blind_at _ _ _ _ _ _ b = cc

same_at : (m : Nonterminal) (one : Class) (newline : Bool) (two : Class) (newline' arrow : Bool) → begins m ≡ true
    → row m (looked one false two newline' arrow) ≡ row m (looked one newline two newline' arrow)
same_at (n.Statement c) k.Plus _ _ _ _ b = refl
same_at (n.Statement c) _ _ _ _ _ b = refl
same_at (n.Primary c) k.Plus _ _ _ _ b = refl
same_at (n.Primary c) _ _ _ _ _ b = refl
same_at (n.Bound role) k.Plus _ _ _ _ b = refl
same_at (n.Bound role) _ _ _ _ _ b = refl
same_at (n.Item c) _ _ _ _ _ b = refl
same_at (n.Block c) _ _ _ _ _ b = refl
same_at (n.Expr c) _ _ _ _ _ b = refl
same_at (n.Operation loosest c) _ _ _ _ _ b = refl
same_at n.Params _ _ _ _ _ b = refl
same_at _ _ _ _ _ _ b = cc

-- ---- readings

blind_row : (m : Nonterminal) (ts : List Terminal) → begins m ≡ true → Blind m (row m (look ts))
blind_row m ts b =
    let l = look ts in blind_at m l.one l.one_newline l.two l.two_newline l.arrow b

same_row : (m : Nonterminal) (ts : List Terminal) → begins m ≡ true → row m (look (unmarked ts)) ≡ row m (look ts)
same_row m [] b = refl
same_row m (x ∷ []) b = same_at m x.class x.token.newline k.End false x.arrow b
same_row m (x ∷ y ∷ ts) b =
    let l = look (x ∷ y ∷ ts) in same_at m l.one l.one_newline l.two l.two_newline l.arrow b

told_same : (ts : List Terminal) → told_ahead (unmarked ts) ≡ told_ahead ts
told_same [] = refl
told_same (x ∷ ts) = refl

takes_same : (wanted : Class) (ts : List Terminal) (x : Terminal) (rest : List Terminal) → takes wanted ts ≡ Got x rest
    → takes wanted (unmarked ts) ≡ Got (without_mark x) rest
takes_same wanted [] x rest h = cc
takes_same wanted (y ∷ ts) x rest h =
    elim (fits wanted y.class) as (λ b. (if b then Got y ts else Stuck (stuck (look (y ∷ ts))) (y ∷ ts)) ≡ Got x rest
    → (if b then Got (without_mark y) ts else Stuck (stuck (look (unmarked (y ∷ ts)))) (unmarked (y ∷ ts)))
    ≡ Got (without_mark x) rest) [
      | true ↦ λ got. cc
      | false ↦ λ got. cc
    ] h

abbrev unmark_reading : (right : List Symbol) → Reading (Parts Value right) → Reading (Parts Value right)
unmark_reading right (Got vs rest) = Got (unmark right vs) rest
unmark_reading right (Stuck cause ts) = Stuck cause ts
unmark_reading right Deeper = Deeper

module _ (trees : Reader Value)
    (same : (m : Nonterminal) (ts : List Terminal) (v : Value m) (rest : List Terminal) → begins m ≡ true
    → trees m ts ≡ Got v rest → trees m (unmarked ts) ≡ Got v rest) where
  same_all : (right : List Symbol) (ts : List Terminal) (vs : Parts Value right) (rest : List Terminal)
      → leads_on right ≡ true → read_all trees right ts ≡ Got vs rest
      → read_all trees right (unmarked ts) ≡ Got (unmark right vs) rest
  same_all [] ts vs rest b is = cc
  same_all (s.Take wanted ∷ more) ts vs rest b is =
      let one : Then (takes wanted ts) _ vs rest = then_got (takes wanted ts) _ vs rest is in
      let others : Then (read_all trees more one.mid) _ vs rest =
      then_got (read_all trees more one.mid) _ vs rest one.goes_on in
      ap (λ r. and_then r (λ v mid. and_then (read_all trees more mid) (λ vs end. Got (v, vs) end)))
      (takes_same wanted ts one.first one.mid one.got)
      ∙ ap (λ r. and_then r (λ vs end. Got (without_mark one.first, vs) end)) others.got
      ∙ ap (unmark_reading (s.Take wanted ∷ more)) others.goes_on
  same_all (s.Read m ∷ more) ts vs rest b is =
      let one : Then (trees m ts) _ vs rest = then_got (trees m ts) _ vs rest is in
      ap (λ r. and_then r (λ v mid. and_then (read_all trees more mid) (λ vs end. Got (v, vs) end)))
      (same m ts one.first one.mid b one.got) ∙ one.goes_on
  same_all (s.Tell signal ∷ more) ts vs rest b is =
      let others : Then (read_all trees more ts) _ vs rest = then_got (read_all trees more ts) _ vs rest is in
      ap (λ r. and_then r (λ vs end. Got (told_ahead (unmarked ts), vs) end))
      (same_all more ts others.first others.mid b others.got)
      ∙ ap (λ told. Got (told, unmark more others.first) others.mid) (told_same ts)
      ∙ ap (unmark_reading (s.Tell signal ∷ more)) others.goes_on

  same_by_row : (m : Nonterminal) (r : Row m) (ts : List Terminal) (v : Value m) (rest : List Terminal)
      → Blind m r → by_row trees m r ts ≡ Got v rest
      → by_row trees m r (unmarked ts) ≡ Got v rest
  same_by_row m (goes right make) ts v rest b is =
      let all : Then (read_all trees right ts) (λ vs end. Got (make vs) end) v rest =
      then_got (read_all trees right ts) (λ vs end. Got (make vs) end) v rest is in
      ap (λ r. and_then r (λ vs end. Got (make vs) end)) (same_all right ts all.first all.mid b.0 all.got)
      ∙ ap (λ made. Got made all.mid) (b.1 all.first) ∙ all.goes_on
  same_by_row m (refuses cause) ts v rest b is = cc

same_to : (d : ℕ) (m : Nonterminal) (ts : List Terminal) (v : Value m) (rest : List Terminal) → begins m ≡ true
    → reads_to row d m ts ≡ Got v rest → reads_to row d m (unmarked ts) ≡ Got v rest
unfolding reads_to
same_to zero m ts v rest b is = cc
same_to (suc d) m ts v rest b is =
    ap (λ r. by_row (reads_to row d) m r (unmarked ts)) (same_row m ts b)
    ∙ same_by_row (reads_to row d) (same_to d) m (row m (look ts)) ts v rest (blind_row m ts b) is

same_length : (ts : List Terminal) → enough (unmarked ts) ≡ enough ts
same_length [] = refl
same_length (x ∷ ts) = refl

pub unmarked_same : (m : Nonterminal) (ts rest : List Terminal) (v : Value m) → begins m ≡ true
    → reads m ts ≡ Got v rest → reads m (unmarked ts) ≡ Got v rest
unfolding reads_by
unmarked_same m ts rest v b is =
    ap (λ d. reads_to row d m (unmarked ts)) (same_length ts) ∙ same_to (enough ts) m ts v rest b is

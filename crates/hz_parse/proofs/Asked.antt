-- What rows ask of the arrow in view: whether an arrow begins, and whether what is `async` does.
use Rattle.std.proofs.Common.{◌≡◌, Bool, true, false, not, ◌&&◌, ◌||◌, if◌then◌else◌, List, refl, ap}
use Rattle.std.proofs.Common.{sym, ◌∙◌, subst}
use Rattle.hz_tree.specs.declared.class.Class.{Class}
use Rattle.hz_tree.specs.declared.class.Class.TheVariants as k
use Rattle.hz_tree.specs.declared.index.FunctionInfo.{FunctionInfo}
use Rattle.hz_tree.specs.declared.look.Look.{Look}
use Rattle.hz_tree.specs.declared.nonterminal.Context.{Context}
use Rattle.hz_tree.specs.declared.nonterminal.Nonterminal.{Nonterminal}
use Rattle.hz_tree.specs.declared.nonterminal.Nonterminal.TheVariants as n
use Rattle.hz_tree.specs.declared.operator.Level.{Level}
use Rattle.hz_tree.specs.declared.signal.Role.{Role}
use Rattle.hz_tree.specs.grammar.Classes.{is_name, is_of, is_word, is_yield, begins_key, is_async_word, is_paren}
use Rattle.hz_tree.specs.grammar.Classes.{is_function}
use Rattle.hz_tree.specs.grammar.ExpressionRows.{arrow_sign_by}
use Rattle.hz_tree.specs.grammar.HeadRows.{is_no_left, is_unary, expr_head_row, head_by}
use Rattle.hz_tree.specs.grammar.Look.{begins_arrow, cause_by, is_async, stuck}
use Rattle.hz_tree.specs.grammar.OperatorRows.{is_loosest, operation_row, tails_by}
use Rattle.hz_tree.specs.grammar.Operators.{unary_operator}
use Rattle.hz_tree.specs.grammar.PrimaryRows.{primary_by, template_rest_by}
use Rattle.hz_tree.specs.grammar.PropertyRows.{getter_row, setter_row, prop_by, key_rest_by}
use Rattle.hz_tree.specs.grammar.StatementRows.{bound_by, handlers_by, semi_by, statement_by, throw_value_by}
use Rattle.hz_tree.specs.grammar.Symbols.{Row, goes, refuses}
use Rattle.hz_tree.specs.grammar.Table.{row, step, step_of}
use Rattle.hz_cuts.specs.Rows.{cut_by, cut_row}
use Rattle.hz_parse.specs.Asked.{Told, asks, turned}
use Rattle.hz_cuts.specs.Skips.{skip_of}

-- what is asked of the arrow is answered alike
pub record Alike (m : Nonterminal) (l : Look) (arrow : Bool) : Type 0 where
  pub async : is_async (turned l arrow) ≡ is_async l
  pub begins : asks m ≡ true → begins_arrow (turned l arrow) ≡ begins_arrow l

abbrev Same : (m : Nonterminal) → (a b : Row m) → Type 0
Same m a b = a ≡ b

-- ---- causes

stuck_same : (m : Nonterminal) (l : Look) (arrow : Bool) → Alike m l arrow → stuck (turned l arrow) ≡ stuck l
stuck_same m l arrow h = ap (cause_by l.one) h.async

refused : (m : Nonterminal) (l : Look) (arrow : Bool) → Alike m l arrow
    → Same m (refuses (stuck (turned l arrow))) (refuses (stuck l))
refused m l arrow h = ap (λ cause. refuses cause) (stuck_same m l arrow h)

if_same : {A : Type 0} (test : Bool) (a b c : A) → b ≡ c → (if test then a else b) ≡ (if test then a else c)
if_same test a b c h = ap (λ x. if test then a else x) h

tested : {A : Type 0} (a b : Bool) (x y : A) → a ≡ b → (if a then x else y) ≡ (if b then x else y)
tested a b x y h = ap (λ test. if test then x else y) h

and_same : (a b c : Bool) → (a ≡ true → b ≡ c) → (a && b) ≡ (a && c)
and_same true b c h = h refl
and_same false b c h = refl

-- ---- rows that ask

bound_same : (role : Role) (l : Look) (arrow : Bool) (one : Class) → Alike (n.Bound role) l arrow
    → bound_by role (turned l arrow) one ≡ bound_by role l one
bound_same role l arrow k.LeftBracket h = refl
bound_same role l arrow k.LeftBrace h = refl
bound_same role l arrow _ h = if_same (is_name l.one) _ _ _ (refused (n.Bound role) l arrow h)

semi_same : (l : Look) (arrow newline : Bool) (one : Class) → Alike n.Semi l arrow
    → semi_by (turned l arrow) newline one ≡ semi_by l newline one
semi_same l arrow newline k.Semicolon h = refl
semi_same l arrow newline k.RightBrace h = refl
semi_same l arrow newline k.End h = refl
semi_same l arrow true _ h = refl
semi_same l arrow false _ h = refused n.Semi l arrow h

statement_same : (c : Context) (l : Look) (arrow : Bool) (one : Class)
    → statement_by c (turned l arrow) one ≡ statement_by c l one
statement_same c l arrow one = refl

throw_same : (c : Context) (l : Look) (arrow newline : Bool) → Alike (n.ThrowValue c) l arrow
    → throw_value_by c (turned l arrow) newline ≡ throw_value_by c l newline
throw_same c l arrow true h = refused (n.ThrowValue c) l arrow h
throw_same c l arrow false h = refl

handlers_same : (c : Context) (l : Look) (arrow : Bool) (one : Class) → Alike (n.Handlers c) l arrow
    → handlers_by c (turned l arrow) one ≡ handlers_by c l one
handlers_same c l arrow k.Catch h = refl
handlers_same c l arrow k.Finally h = refl
handlers_same c l arrow _ h = refused (n.Handlers c) l arrow h

no_left_same : (c : Context) (l : Look) (arrow : Bool) → Alike (n.Head c) l arrow
    → is_no_left c (turned l arrow) ≡ is_no_left c l
no_left_same c l arrow h = ap (λ b. is_unary (unary_operator l.one) || (b || (is_yield l.one && c.yields))) (h.begins refl)

expr_head_same : (c : Context) (l : Look) (arrow : Bool) → Alike (n.Head c) l arrow
    → expr_head_row c (turned l arrow) ≡ expr_head_row c l
expr_head_same c l arrow h =
    if_same (is_async_word l.one && is_of l.two) _ _ _
    (tested (is_no_left c (turned l arrow)) (is_no_left c l) _ _ (no_left_same c l arrow h))

head_same : (c : Context) (l : Look) (arrow : Bool) (one : Class) → Alike (n.Head c) l arrow
    → head_by c (turned l arrow) one ≡ head_by c l one
head_same c l arrow k.Var h = refl
head_same c l arrow k.Let h = refl
head_same c l arrow k.Const h = refl
head_same c l arrow k.Semicolon h = refl
head_same c l arrow _ h = expr_head_same c l arrow h

operation_same : (loosest : Level) (c : Context) (l : Look) (arrow : Bool) → Alike (n.Operation loosest c) l arrow
    → operation_row loosest c (turned l arrow) ≡ operation_row loosest c l
operation_same loosest c l arrow h =
    tested (is_loosest loosest && begins_arrow (turned l arrow)) (is_loosest loosest && begins_arrow l) _ _
    (and_same (is_loosest loosest) (begins_arrow (turned l arrow)) (begins_arrow l) h.begins)

tails_same : (tailed : Bool) (loosest : Level) (c : Context) (l : Look) (arrow : Bool) (one : Class)
    → tails_by tailed loosest c (turned l arrow) one ≡ tails_by tailed loosest c l one
tails_same true loosest c l arrow one = refl
tails_same false loosest c l arrow one = refl

primary_same : (c : Context) (l : Look) (arrow : Bool) (one : Class) → Alike (n.Primary c) l arrow
    → primary_by c (turned l arrow) one ≡ primary_by c l one
primary_same c l arrow k.New h = refl
primary_same c l arrow k.Slash h = refl
primary_same c l arrow k.SlashAssign h = refl
primary_same c l arrow k.This h = refl
primary_same c l arrow k.Null h = refl
primary_same c l arrow k.True h = refl
primary_same c l arrow k.False h = refl
primary_same c l arrow k.Number h = refl
primary_same c l arrow k.OctalNumber h = refl
primary_same c l arrow k.Text h = refl
primary_same c l arrow k.LeftParen h = refl
primary_same c l arrow k.TemplateWhole h = refl
primary_same c l arrow k.TemplateHead h = refl
primary_same c l arrow k.Function h = refl
primary_same c l arrow k.LeftBracket h = refl
primary_same c l arrow k.LeftBrace h = refl
primary_same c l arrow _ h = if_same (is_name l.one) _ _ _ (refused (n.Primary c) l arrow h)

template_same : (c : Context) (l : Look) (arrow : Bool) (one : Class) → Alike (n.TemplateRest c) l arrow
    → template_rest_by c (turned l arrow) one ≡ template_rest_by c l one
template_same c l arrow k.TemplateMiddle h = refl
template_same c l arrow k.TemplateTail h = refl
template_same c l arrow _ h = refused (n.TemplateRest c) l arrow h

getter_same : (c : Context) (l : Look) (arrow keyed : Bool)
    → getter_row c (turned l arrow) keyed ≡ getter_row c l keyed
getter_same c l arrow true = refl
getter_same c l arrow false = refl

setter_same : (c : Context) (l : Look) (arrow keyed : Bool)
    → setter_row c (turned l arrow) keyed ≡ setter_row c l keyed
setter_same c l arrow true = refl
setter_same c l arrow false = refl

prop_same : (c : Context) (l : Look) (arrow : Bool) (one : Class)
    → prop_by c (turned l arrow) one ≡ prop_by c l one
prop_same c l arrow k.Get = getter_same c l arrow (begins_key l.two)
prop_same c l arrow k.Set = setter_same c l arrow (begins_key l.two)
prop_same c l arrow _ = refl

rest_same : (c : Context) (l : Look) (arrow : Bool) (one : Class) → Alike (n.KeyRest c) l arrow
    → key_rest_by c (turned l arrow) one ≡ key_rest_by c l one
rest_same c l arrow k.Colon h = refl
rest_same c l arrow k.LeftParen h = refl
rest_same c l arrow _ h = refused (n.KeyRest c) l arrow h

sign_same : (l : Look) (arrow newline : Bool) → Alike n.ArrowSign l arrow
    → arrow_sign_by (turned l arrow) newline ≡ arrow_sign_by l newline
sign_same l arrow true h = refused n.ArrowSign l arrow h
sign_same l arrow false h = refl

-- ---- all rows

row_same : (m : Nonterminal) (l : Look) (arrow : Bool) → Alike m l arrow → row m (turned l arrow) ≡ row m l
row_same (n.Statement c) l arrow h =
    tested (is_async (turned l arrow)) (is_async l) _ _ h.async
row_same (n.Bound role) l arrow h = bound_same role l arrow l.one h
row_same n.Semi l arrow h = semi_same l arrow l.one_newline l.one h
row_same (n.ThrowValue c) l arrow h = throw_same c l arrow l.one_newline h
row_same (n.Handlers c) l arrow h = handlers_same c l arrow l.one h
row_same (n.Head c) l arrow h = head_same c l arrow l.one h
row_same (n.Operation loosest c) l arrow h = operation_same loosest c l arrow h
row_same (n.Tails tailed loosest c) l arrow h = tails_same tailed loosest c l arrow l.one
row_same n.ArrowSign l arrow h = sign_same l arrow l.one_newline h
row_same n.Word l arrow h = if_same (is_word l.one) _ _ _ (refused n.Word l arrow h)
row_same (n.Primary c) l arrow h =
    if_same (is_async (turned l arrow)) _ _ _ (primary_same c l arrow l.one h)
    ∙ tested (is_async (turned l arrow)) (is_async l) _ _ h.async
row_same (n.TemplateRest c) l arrow h = template_same c l arrow l.one h
row_same (n.Prop c) l arrow h =
    if_same (is_async (turned l arrow)) _ _ _ (prop_same c l arrow l.one)
    ∙ tested (is_async (turned l arrow)) (is_async l) _ _ h.async
row_same (n.KeyRest c) l arrow h = rest_same c l arrow l.one h
row_same _ l arrow h = refl

skip_same : (functions : List FunctionInfo) (m : Nonterminal) (l : Look) (arrow : Bool) → Alike m l arrow
    → skip_of functions m (turned l arrow) ≡ skip_of functions m l
skip_same functions (n.Primary c) l arrow h = tested (is_async (turned l arrow)) (is_async l) _ _ h.async
skip_same functions (n.Operation loosest c) l arrow h =
    tested (is_loosest loosest && begins_arrow (turned l arrow)) (is_loosest loosest && begins_arrow l) _ _
    (and_same (is_loosest loosest) (begins_arrow (turned l arrow)) (begins_arrow l) h.begins)
skip_same functions (n.Prop c) l arrow h = tested (is_async (turned l arrow)) (is_async l) _ _ h.async
skip_same functions _ l arrow h = refl

cut_alike : (functions : List FunctionInfo) (m : Nonterminal) (l : Look) (arrow : Bool) → Alike m l arrow
    → cut_row functions m (turned l arrow) ≡ cut_row functions m l
cut_alike functions m l arrow h =
    ap (λ r. cut_by m r (skip_of functions m (turned l arrow))) (row_same m l arrow h)
    ∙ ap (cut_by m (row m l)) (skip_same functions m l arrow h)

-- ---- `async` before what could be the parameters of an arrow

abbrev looked : (one : Class) → (one_newline : Bool) → (two : Class) → (two_newline arrow : Bool) → Look
looked one one_newline two two_newline arrow =
    record { one = one; one_newline = one_newline; two = two; two_newline = two_newline; arrow = arrow }

-- `async` and `(` on its line
abbrev async_look : (newline arrow : Bool) → Look
async_look newline arrow = looked k.Async newline k.LeftParen false arrow

abbrev pub Went : {m : Nonterminal} → Row m → Type 0
Went (goes right make) = Unit {0}
Went (refuses cause) = ⊥

-- A right-hand side that begins before it does not ask whether they are.
pub record Unasked (functions : List FunctionInfo) (m : Nonterminal) (l l' : Look) : Type 0 where
  pub step : step m l' ≡ step m l
  pub cut : cut_row functions m l' ≡ cut_row functions m l

same_rows : (functions : List FunctionInfo) (m : Nonterminal) (l l' : Look) → row m l' ≡ row m l
    → skip_of functions m l' ≡ skip_of functions m l → Unasked functions m l l'
same_rows functions m l l' r s = record {
  step = ap step_of r;
  cut = ap (λ x. cut_by m x (skip_of functions m l')) r ∙ ap (cut_by m (row m l)) s;
}

async_unasked : (functions : List FunctionInfo) (m : Nonterminal) (newline : Bool)
    → Went (row m (async_look newline true)) → Unasked functions m (async_look newline true) (async_look newline false)
async_unasked functions (n.Statement c) newline h = absurd h
async_unasked functions (n.Primary c) newline h = absurd h
async_unasked functions (n.Prop c) newline h = absurd h
async_unasked functions (n.Handlers c) newline h = absurd h
async_unasked functions (n.TemplateRest c) newline h = absurd h
async_unasked functions (n.KeyRest c) newline h = absurd h
async_unasked functions n.Semi true h = same_rows functions n.Semi _ _ refl refl
async_unasked functions n.Semi false h = absurd h
async_unasked functions (n.ThrowValue c) true h = absurd h
async_unasked functions (n.ThrowValue c) false h = same_rows functions (n.ThrowValue c) _ _ refl refl
async_unasked functions n.ArrowSign true h = absurd h
async_unasked functions n.ArrowSign false h = same_rows functions n.ArrowSign _ _ refl refl
async_unasked functions (n.Tails true loosest c) newline h =
    same_rows functions (n.Tails true loosest c) _ _ refl refl
async_unasked functions (n.Tails false loosest c) newline h =
    same_rows functions (n.Tails false loosest c) _ _ refl refl
async_unasked functions m newline h = same_rows functions m _ _ refl refl

-- ---- whatever is told

abbrev async_test : (word newline function name paren arrow : Bool) → Bool
async_test word newline function name paren arrow = word && (not newline && (function || (name || (paren && arrow))))

-- the test is answered alike, or it is `async` before what is taken for the parameters of an arrow
data Async (word newline function name paren arrow told : Bool) : Type 0 where
  alike : async_test word newline function name paren told ≡ async_test word newline function name paren arrow
      → Async word newline function name paren arrow told
  turns : word ≡ true → newline ≡ false → paren ≡ true → arrow ≡ true → told ≡ false
      → Async word newline function name paren arrow told

async_case : (word newline function name paren arrow told : Bool) → (word ≡ true → told ≡ false)
    → Async word newline function name paren arrow told
async_case false newline function name paren arrow told h = alike refl
async_case true true function name paren arrow told h = alike refl
async_case true false true name paren arrow told h = alike refl
async_case true false false true paren arrow told h = alike refl
async_case true false false false false arrow told h = alike refl
async_case true false false false true false told h = alike (h refl)
async_case true false false false true true told h = turns refl refl refl refl (h refl)

async_is : (one : Class) → is_async_word one ≡ true → one ≡ k.Async
async_is k.Async h = refl
async_is _ h = cc

paren_is : (one : Class) → is_paren one ≡ true → one ≡ k.LeftParen
paren_is k.LeftParen h = refl
paren_is _ h = cc

async_no_paren : (one : Class) → is_async_word one ≡ true → is_paren one ≡ false
async_no_paren k.Async h = refl
async_no_paren _ h = cc

unasked_at : (functions : List FunctionInfo) (m : Nonterminal) (one : Class) (newline : Bool) (two : Class)
    (newline' arrow told : Bool) → one ≡ k.Async → newline' ≡ false → two ≡ k.LeftParen → arrow ≡ true → told ≡ false
    → Went (row m (looked one newline two newline' arrow))
    → Unasked functions m (looked one newline two newline' arrow) (looked one newline two newline' told)
unasked_at functions m one newline two newline' arrow told a b c d e went =
    subst (λ (x : Class). Went (row m (looked x newline two newline' arrow))
    → Unasked functions m (looked x newline two newline' arrow) (looked x newline two newline' told)) (sym a)
    (subst (λ (x : Bool). Went (row m (looked k.Async newline two x arrow))
    → Unasked functions m (looked k.Async newline two x arrow) (looked k.Async newline two x told)) (sym b)
    (subst (λ (x : Class). Went (row m (looked k.Async newline x false arrow))
    → Unasked functions m (looked k.Async newline x false arrow) (looked k.Async newline x false told)) (sym c)
    (subst (λ (x : Bool). Went (row m (async_look newline x))
    → Unasked functions m (async_look newline x) (async_look newline told)) (sym d)
    (subst (λ (x : Bool). Went (row m (async_look newline true))
    → Unasked functions m (async_look newline true) (async_look newline x)) (sym e)
    (async_unasked functions m newline))))) went

alike_unasked : (functions : List FunctionInfo) (m : Nonterminal) (l : Look) (arrow : Bool) → Alike m l arrow
    → Unasked functions m l (turned l arrow)
alike_unasked functions m l arrow h = record {
  step = ap step_of (row_same m l arrow h);
  cut = cut_alike functions m l arrow h;
}

pub unasked : (functions : List FunctionInfo) (m : Nonterminal) (l : Look) (arrow : Bool) → Told m l arrow
    → Went (row m l) → Unasked functions m l (turned l arrow)
unasked functions m l arrow told went =
    elim (async_case (is_async_word l.one) l.two_newline (is_function l.two) (is_name l.two) (is_paren l.two) l.arrow
    arrow (λ word. told.paren (async_no_paren l.one word))) [
      | alike same ↦ alike_unasked functions m l arrow (record { async = same; begins = told.begins })
      | turns word newline paren is_told false_told ↦
          unasked_at functions m l.one l.one_newline l.two l.two_newline l.arrow arrow (async_is l.one word) newline
          (paren_is l.two paren) is_told false_told went
    ]

-- Where a `(` stands ahead, the functions' starts tell whether an arrow begins.
use Rattle.std.proofs.Common.{◌≡◌, ℕ, ◌==◌, not, ◌&&◌, ◌||◌, Bool, true, false, if◌then◌else◌, List, [], ◌∷◌, ◌++◌}
use Rattle.std.proofs.Common.{Option, Some, None, All, refl, ap, sym, ◌∙◌, subst, arith, slice_get, inl, inr}
use Rattle.std.proofs.lemmas.Bool.Decides.{nat_tests}
use Rattle.std.proofs.lemmas.List.Elements.{All-get_or, All-head}
use Rattle.std.proofs.lemmas.Option.{slice_get_cases}
use Rattle.hz_tree.specs.declared.class.Class.{Class}
use Rattle.hz_tree.specs.declared.class.Class.TheVariants as k
use Rattle.hz_tree.specs.declared.index.FunctionInfo.{FunctionInfo}
use Rattle.hz_tree.specs.declared.look.Look.{Look}
use Rattle.hz_tree.specs.declared.nonterminal.Context.{Context}
use Rattle.hz_tree.specs.declared.nonterminal.Nonterminal.{Nonterminal}
use Rattle.hz_tree.specs.declared.nonterminal.Nonterminal.TheVariants as n
use Rattle.hz_tree.specs.declared.operator.Level.{Level}
use Rattle.hz_tree.specs.declared.operator.Level.TheVariants as level
use Rattle.hz_tree.specs.declared.signal.NodeKind.TheVariants as node
use Rattle.hz_tree.specs.declared.signal.NodeShape.TheVariants as shape
use Rattle.hz_tree.specs.declared.signal.Signal.TheVariants as tell
use Rattle.hz_tree.specs.declared.symbol.Symbol.{Symbol}
use Rattle.hz_tree.specs.declared.symbol.Symbol.TheVariants as s
use Rattle.hz_tree.specs.declared.tree.Bound.{Bound}
use Rattle.hz_tree.specs.declared.tree.FunctionForm.TheVariants as form
use Rattle.hz_tree.specs.declared.tree.FunctionKind.{FunctionKind}
use Rattle.hz_tree.specs.declared.tree.FunctionKind.TheVariants as kind
use Rattle.hz_tree.specs.declared.tree.Rest.{Rest}
use Rattle.hz_tree.specs.declared.tree.Tree.{Tree}
use Rattle.hz_tree.specs.grammar.Classes.{is_arrow, is_async_word, is_function, is_name, is_of, is_paren, is_yield}
use Rattle.hz_tree.specs.grammar.FunctionRows.{function_tree}
use Rattle.hz_tree.specs.grammar.HeadRows.{body_of, expr_head_row, head_by, is_no_left, is_unary}
use Rattle.hz_tree.specs.grammar.Look.{Terminal, begins_arrow, is_async, look}
use Rattle.hz_tree.specs.grammar.OperatorRows.{arrow_row, is_loosest, operand_row, operation_by}
use Rattle.hz_tree.specs.grammar.Operators.{unary_operator}
use Rattle.hz_tree.specs.grammar.PrimaryRows.{primary_by}
use Rattle.hz_tree.specs.grammar.Signals.{Told as ToldOf}
use Rattle.hz_tree.specs.grammar.Symbols.{Parts, Row, Value, goes, with_in, without_in, assignment}
use Rattle.hz_tree.specs.grammar.Table.{pushes, step, step_of}
use Rattle.hz_tree.specs.reading.Reading.{Got, by_row, place_ahead, read_all, reads, told_ahead}
use Rattle.hz_tree.specs.trees.FunctionTrees.{number_at}
use Rattle.hz_laws.proofs.Balance.{Then, then_got}
use Rattle.hz_laws.proofs.ReadingLaws.{reads_law}
use Rattle.hz_cuts.specs.Skips.{arrow_parameters}
use Rattle.hz_own.specs.Known.{Known}
use Rattle.hz_stands.specs.Nodes.{FunctionNode, nodes_of, value_nodes}
use Rattle.hz_stands.proofs.Made.{row_laws}
use Rattle.hz_stands.proofs.Several.{Suffix}
use Rattle.hz_parts.specs.declared.mark.Mark.{Mark}
use Rattle.hz_parts.specs.declared.parts.Parts.{Parts as Stacks}
use Rattle.hz_parts.specs.Values.{push_seen, push_told, seen_token}
use Rattle.hz_parse.specs.Asked.{Told, asks, turned}
use Rattle.hz_parse.specs.Leads.{Leads, Reaches, mark_symbol}
use Rattle.hz_parse.specs.Turns.{arrow_at, is_arrow_kind}
use Rattle.hz_parse.proofs.Even.{and_first, and_second, takes_got}
use Rattle.hz_parse.proofs.LeadsLaws.{leads_pushes}
use Rattle.hz_parse.proofs.LeftBehind.{leads_left}
use Rattle.hz_parse.proofs.SkipNodes.{function_of}
use Rattle.hz_parse.proofs.Split.{cons, got_value}

-- ---- the table at a `(`

pub paren_is : (one : Class) → is_paren one ≡ true → one ≡ k.LeftParen
paren_is k.LeftParen h = refl
paren_is _ h = cc

abbrev async_at : Class → Look → Bool
async_at one l =
    is_async_word one && (not l.two_newline && (is_function l.two || (is_name l.two || (is_paren l.two && l.arrow))))

no_async : (l : Look) → is_paren l.one ≡ true → is_async l ≡ false
no_async l h = ap (λ one. async_at one l) (paren_is l.one h)

pub begins_paren : (l : Look) → is_paren l.one ≡ true → begins_arrow l ≡ l.arrow
begins_paren l h = ap (λ one. (is_name one && is_arrow l.two) || (is_paren one && l.arrow)) (paren_is l.one h)

pub begins_other : (l : Look) (arrow : Bool) → is_paren l.one ≡ false → begins_arrow (turned l arrow) ≡ begins_arrow l
begins_other l arrow h =
    ap (λ b. (is_name l.one && is_arrow l.two) || (b && arrow)) h
    ∙ sym (ap (λ b. (is_name l.one && is_arrow l.two) || (b && l.arrow)) h)

-- ---- the row that a test chooses

if_first : {m : Nonterminal} (a : Bool) (x y : Row m) (right : List Symbol) → a ≡ true → step_of x ≡ pushes right
    → step_of (if a then x else y) ≡ pushes right
if_first true x y right h e = e
if_first false x y right h e = cc

if_second : {m : Nonterminal} (a : Bool) (x y : Row m) (right : List Symbol) → a ≡ false → step_of y ≡ pushes right
    → step_of (if a then x else y) ≡ pushes right
if_second true x y right h e = cc
if_second false x y right h e = e

abbrev opens_paren : Context → List Symbol
opens_paren c =
    s.Tell (tell.Begin node.Operand) ∷ s.Take k.LeftParen ∷ s.Read (n.Expr (with_in c)) ∷ s.Take k.RightParen
    ∷ s.Tell tell.Parentheses ∷ []

primary_step : (c : Context) (l : Look) → is_paren l.one ≡ true → step (n.Primary c) l ≡ pushes (opens_paren c)
primary_step c l h =
    if_second {m = n.Primary c} (is_async l) _ _ (opens_paren c) (no_async l h)
    (ap (λ one. step_of (primary_by c l one)) (paren_is l.one h))

operand_paren : (loosest : Level) (c : Context) (yields : Bool)
    → operation_by loosest c yields k.LeftParen ≡ operand_row loosest c k.LeftParen None
operand_paren loosest c true = refl
operand_paren loosest c false = refl

abbrev operand : Level → Context → List Symbol
operand loosest c = s.Read (n.Primary c) ∷ s.Read (n.Tails false loosest c) ∷ []

operation_step : (loosest : Level) (c : Context) (l : Look) → is_paren l.one ≡ true
    → (is_loosest loosest && begins_arrow l) ≡ false → step (n.Operation loosest c) l ≡ pushes (operand loosest c)
operation_step loosest c l h none =
    if_second {m = n.Operation loosest c} (is_loosest loosest && begins_arrow l) _ _ (operand loosest c) none
    (ap (λ one. step_of (operation_by loosest c (is_loosest loosest && c.yields) one)) (paren_is l.one h)
    ∙ ap step_of (operand_paren loosest c (is_loosest loosest && c.yields)))

abbrev no_left_at : Context → (one : Class) → (arrow : Bool) → Bool
no_left_at c one arrow = is_unary (unary_operator one) || (arrow || (is_yield one && c.yields))

left_is : (c : Context) (l : Look) (arrow : Bool) → is_paren l.one ≡ true → begins_arrow l ≡ arrow
    → is_no_left c l ≡ arrow
left_is c l true h e = ap (no_left_at c l.one) e ∙ ap (λ one. no_left_at c one true) (paren_is l.one h)
left_is c l false h e = ap (no_left_at c l.one) e ∙ ap (λ one. no_left_at c one false) (paren_is l.one h)

-- a head that begins with an expression
head_paren : (c : Context) (l : Look) (right : List Symbol) → is_paren l.one ≡ true
    → step_of (expr_head_row c l) ≡ pushes right → step (n.Head c) l ≡ pushes right
head_paren c l right h e = ap (λ one. step_of (head_by c l one)) (paren_is l.one h) ∙ e

no_of : (l : Look) → is_paren l.one ≡ true → (is_async_word l.one && is_of l.two) ≡ false
no_of l h = ap (λ one. is_async_word one && is_of l.two) (paren_is l.one h)

abbrev begins_with_expr : Context → List Symbol
begins_with_expr c =
    s.Read (n.Expr (without_in c)) ∷ s.Tell tell.Join ∷ s.Take k.Semicolon ∷ s.Read (n.OptionalExpr c)
    ∷ s.Take k.Semicolon ∷ s.Read (n.OptionalExpr c) ∷ body_of c

abbrev begins_with_left : Context → List Symbol
begins_with_left c = s.Read (n.Operation level.Member c) ∷ s.Read (n.LeftHead c) ∷ body_of c

head_expr_step : (c : Context) (l : Look) → is_paren l.one ≡ true → begins_arrow l ≡ true
    → step (n.Head c) l ≡ pushes (begins_with_expr c)
head_expr_step c l h e =
    head_paren c l (begins_with_expr c) h
    (if_second {m = n.Head c} (is_async_word l.one && is_of l.two) _ _ (begins_with_expr c) (no_of l h)
    (if_first {m = n.Head c} (is_no_left c l) _ _ (begins_with_expr c) (left_is c l true h e) refl))

head_left_step : (c : Context) (l : Look) → is_paren l.one ≡ true → begins_arrow l ≡ false
    → step (n.Head c) l ≡ pushes (begins_with_left c)
head_left_step c l h e =
    head_paren c l (begins_with_left c) h
    (if_second {m = n.Head c} (is_async_word l.one && is_of l.two) _ _ (begins_with_left c) (no_of l h)
    (if_second {m = n.Head c} (is_no_left c l) _ _ (begins_with_left c) (left_is c l false h e) refl))

-- ---- the functions' starts

same_number : (x y : ℕ) → x ≡ y → (x == y) ≡ true
same_number x y e = ap (λ z. x == z) (sym e) ∙ same (x == x) refl
  where
    same : (b : Bool) → (x == x) ≡ b → (x == x) ≡ true
    same true e = e
    same false e = grind (arith, nat_tests)

number_same : (x y : ℕ) → (x == y) ≡ true → x ≡ y
number_same x y e = grind (arith, nat_tests)

arrow_kind : (given : FunctionKind) → is_arrow_kind given ≡ true → given ≡ kind.Arrow
arrow_kind kind.Arrow h = refl
arrow_kind _ h = cc

abbrev arrow_of : Option FunctionInfo → (place : ℕ) → Bool
arrow_of found place = elim found [ None ↦ false | Some info ↦ info.start == place && is_arrow_kind info.kind ]

-- an arrow that starts at the place is among the functions
pub record Found (functions : List FunctionInfo) (place : ℕ) : Type 0 where
  pub info : FunctionInfo
  pub found : slice_get functions (number_at functions place) ≡ Some info
  pub start : info.start ≡ place
  pub kind : info.kind ≡ kind.Arrow

pub arrow_found : (functions : List FunctionInfo) (place : ℕ) → arrow_at functions place ≡ true
    → Found functions place
arrow_found functions place h = by_info (slice_get functions (number_at functions place)) refl h
  where
    by_info : (found : Option FunctionInfo) → slice_get functions (number_at functions place) ≡ found
        → arrow_of found place ≡ true → Found functions place
    by_info None e i = cc
    by_info (Some info) e i = record {
      info = info;
      found = e;
      start = number_same info.start place (and_first (info.start == place) (is_arrow_kind info.kind) i);
      kind = arrow_kind info.kind (and_second (info.start == place) (is_arrow_kind info.kind) i);
    }

arrow_is : (functions : List FunctionInfo) (at place : ℕ) (info : FunctionInfo) → at ≡ place
    → slice_get functions (number_at functions at) ≡ Some info → info.start ≡ at → info.kind ≡ kind.Arrow
    → arrow_at functions place ≡ true
arrow_is functions at place info e found start arrow =
    ap (λ p. arrow_of (slice_get functions (number_at functions p)) place) (sym e)
    ∙ ap (λ o. arrow_of o place) found
    ∙ ap (λ b. b && is_arrow_kind info.kind) (same_number info.start place (start ∙ e))
    ∙ ap is_arrow_kind arrow

pub of_found : (P : FunctionInfo → Type 0) (functions : List FunctionInfo) (number : ℕ) (info : FunctionInfo)
    → All P functions → slice_get functions number ≡ Some info → P info
of_found P functions number info all found =
    elim (slice_get_cases functions number).1 [
      | inl one ↦ subst P (one.3 ∙ same one.0 (sym one.2 ∙ found))
          (All-get_or P functions number one.0 one.1 all)
      | inr past ↦ cc (sym past.1 ∙ found)
    ]
  where
    same : (x : FunctionInfo) → Some x ≡ Some info → x ≡ info
    same x e = cc

-- ---- the tree of an arrow

arrow_node : (loosest : Level) (c : Context) (opened closed : ToldOf) (params : List Bound × Option Rest) (body : Tree)
    → value_nodes (n.Operation loosest c) (function_tree opened closed form.Arrow kind.Arrow params body)
    ≡ function_of opened closed form.Arrow kind.Arrow params body ∷ nodes_of body
arrow_node loosest c opened closed params body = simp row_laws

abbrev opens_arrow : Symbol
opens_arrow = s.Tell (tell.Open node.Operand kind.Arrow)

abbrev arrow_inside : Context → (parenthesised : Bool) → List Symbol
arrow_inside c parenthesised =
    s.Tell tell.Enter ∷ arrow_parameters parenthesised ∷ s.Read n.ArrowSign ∷ s.Read (n.ArrowBody c) ∷ s.Tell tell.Join
    ∷ s.Tell tell.Close ∷ s.Tell (tell.Node shape.Other) ∷ []

abbrev arrow_right : Context → (parenthesised : Bool) → List Symbol
arrow_right c parenthesised = opens_arrow ∷ arrow_inside c parenthesised

-- a row that was read made its value of these parts
record RowMade (m : Nonterminal) (right : List Symbol) (make : Parts Value right → Value m) (ts : List Terminal)
    (v : Value m) : Type 0 where
  pub parts : Parts Value right
  pub mid : List Terminal
  pub read : read_all reads right ts ≡ Got parts mid
  pub same : make parts ≡ v

row_made : (m : Nonterminal) (right : List Symbol) (make : Parts Value right → Value m) (ts rest : List Terminal)
    (v : Value m) → by_row reads m (goes right make) ts ≡ Got v rest → RowMade m right make ts v
row_made m right make ts rest v h =
    let parts : Then (read_all reads right ts) (λ vs left. Got (make vs) left) v rest =
    then_got (read_all reads right ts) (λ vs left. Got (make vs) left) v rest h in
    record {
      parts = parts.first;
      mid = parts.mid;
      read = parts.got;
      same = got_value (make parts.first) v parts.mid rest parts.goes_on;
    }

module _ (functions : List FunctionInfo) where
  arrow_known : (loosest : Level) (c : Context) (opened closed : ToldOf) (params : List Bound × Option Rest)
      (body v : Tree) (ts : List Terminal) → told_ahead ts ≡ opened
      → function_tree opened closed form.Arrow kind.Arrow params body ≡ v
      → All (Known functions) (value_nodes (n.Operation loosest c) v) → arrow_at functions (place_ahead ts) ≡ true
  arrow_known loosest c opened closed params body v ts here made known =
      let node : FunctionNode = function_of opened closed form.Arrow kind.Arrow params body in
      let all : All (Known functions) (node ∷ nodes_of body) =
      subst (All (Known functions)) (arrow_node loosest c opened closed params body)
      (subst (λ w. All (Known functions) (value_nodes (n.Operation loosest c) w)) (sym made) known) in
      let one : Known functions node = All-head (Known functions) node (nodes_of body) all in
      arrow_is functions opened.at (place_ahead ts) one.info (sym (ap (λ (t : ToldOf). t.at) here)) one.found one.start
      one.kind

  arrow_read : (loosest : Level) (c : Context) (parenthesised : Bool) (ts rest : List Terminal)
      (v : Value (n.Operation loosest c)) → by_row reads (n.Operation loosest c) (arrow_row loosest c parenthesised) ts
      ≡ Got v rest → All (Known functions) (value_nodes (n.Operation loosest c) v)
      → arrow_at functions (place_ahead ts) ≡ true
  arrow_read loosest c true ts rest v h known =
      let made : RowMade (n.Operation loosest c) (arrow_right c true) (λ p. function_tree p.0 p.1.1.1.1.1.1.0 form.Arrow
      kind.Arrow p.1.1.0 p.1.1.1.1.0) ts v = row_made (n.Operation loosest c) (arrow_right c true) (λ p.
      function_tree p.0 p.1.1.1.1.1.1.0 form.Arrow kind.Arrow p.1.1.0 p.1.1.1.1.0) ts rest v h in
      let first = cons reads opens_arrow (arrow_inside c true) ts made.parts made.mid made.read in
      arrow_known loosest c made.parts.0 made.parts.1.1.1.1.1.1.0 made.parts.1.1.0 made.parts.1.1.1.1.0 v ts
      (got_value (told_ahead ts) made.parts.0 ts first.mid first.first) made.same known
  arrow_read loosest c false ts rest v h known =
      let made : RowMade (n.Operation loosest c) (arrow_right c false) (λ p. function_tree p.0 p.1.1.1.1.1.1.0 form.Arrow
      kind.Arrow (p.1.1.0 ∷ [], None) p.1.1.1.1.0) ts v = row_made (n.Operation loosest c) (arrow_right c false) (λ p.
      function_tree p.0 p.1.1.1.1.1.1.0 form.Arrow kind.Arrow (p.1.1.0 ∷ [], None) p.1.1.1.1.0) ts rest v h in
      let first = cons reads opens_arrow (arrow_inside c false) ts made.parts made.mid made.read in
      arrow_known loosest c made.parts.0 made.parts.1.1.1.1.1.1.0 (made.parts.1.1.0 ∷ [], None) made.parts.1.1.1.1.0 v
      ts (got_value (told_ahead ts) made.parts.0 ts first.mid first.first) made.same known

  arrow_row_read : (loosest : Level) (c : Context) (ts rest : List Terminal) (v : Value (n.Operation loosest c))
      → (is_loosest loosest && begins_arrow (look ts)) ≡ true → reads (n.Operation loosest c) ts ≡ Got v rest
      → All (Known functions) (value_nodes (n.Operation loosest c) v) → arrow_at functions (place_ahead ts) ≡ true
  arrow_row_read loosest c ts rest v h read known =
      arrow_read loosest c (is_paren (look ts).one) ts rest v
      (sym (ap (λ b. by_row reads (n.Operation loosest c) (if b then arrow_row loosest c (is_paren (look ts).one)
      else operation_by loosest c (is_loosest loosest && c.yields) (look ts).one) ts) h)
      ∙ sym (reads_law (n.Operation loosest c) ts) ∙ read) known

module _ (functions : List FunctionInfo) (last : List Terminal) (whole : Stacks) where
  abbrev Goes : List Symbol → List Mark → List Terminal → Stacks → (own : ℕ) → Type 0
  Goes symbols marks ts p own =
      Leads functions (Known functions) (Reaches last whole) false false symbols marks ts p own

  -- ---- down to what begins

  told_so : (m : Nonterminal) (l : Look) → is_paren l.one ≡ true → Told m l l.arrow
  told_so m l h = record { begins = λ asked. refl; paren = λ other. cc }

  abbrev marked : Nonterminal → List Terminal → Mark
  marked m ts = record { nonterminal = m; look = turned (look ts) (look ts).arrow }

  down : (m : Nonterminal) (right more : List Symbol) (marks : List Mark) (ts : List Terminal) (p : Stacks) (own : ℕ)
      → is_paren (look ts).one ≡ true → step m (look ts) ≡ pushes right → Goes (s.Read m ∷ more) marks ts p own
      → Goes (right ++ mark_symbol ∷ more) (marked m ts ∷ marks) ts p own
  down m right more marks ts p own h e g =
      leads_pushes functions (Known functions) (Reaches last whole) false m (look ts).arrow right more marks ts p own
      (told_so m (look ts) h) e g

  -- the `(` is taken, and what is left at the end is left of what stands behind it
  pub record Taken (ts : List Terminal) : Type 0 where
    pub paren : Terminal
    pub passed : List Terminal
    pub split : ts ≡ paren ∷ passed ++ last

  primary_taken : (c : Context) (more : List Symbol) (marks : List Mark) (ts : List Terminal) (p : Stacks) (own : ℕ)
      → is_paren (look ts).one ≡ true → Goes (s.Read (n.Primary c) ∷ more) marks ts p own → Taken ts
  primary_taken c more marks ts p own h g =
      let at = down (n.Primary c) (opens_paren c) more marks ts p own h (primary_step c (look ts) h) g in
      let left : Suffix at.rest last =
      leads_left functions (Known functions) last whole false false
      (s.Read (n.Expr (with_in c)) ∷ s.Take k.RightParen ∷ s.Tell tell.Parentheses ∷ mark_symbol ∷ more)
      (marked (n.Primary c) ts ∷ marks) at.rest
      (push_seen (seen_token at.token) (push_told (tell.Begin node.Operand) (told_ahead ts) p)) at.others at.goes_on in
      record {
        paren = at.token;
        passed = left.passed;
        split = (takes_got k.LeftParen ts at.token at.rest at.got).split ∙ ap (λ us. at.token ∷ us) left.split;
      }

  operation_taken : (loosest : Level) (c : Context) (more : List Symbol) (marks : List Mark) (ts : List Terminal)
      (p : Stacks) (own : ℕ) → is_paren (look ts).one ≡ true → (is_loosest loosest && begins_arrow (look ts)) ≡ false
      → Goes (s.Read (n.Operation loosest c) ∷ more) marks ts p own → Taken ts
  operation_taken loosest c more marks ts p own h none g =
      primary_taken c (s.Read (n.Tails false loosest c) ∷ mark_symbol ∷ more) (marked (n.Operation loosest c) ts ∷ marks)
      ts p own h
      (down (n.Operation loosest c) (operand loosest c) more marks ts p own h (operation_step loosest c (look ts) h none)
      g)

  pub asked_taken : (m : Nonterminal) (more : List Symbol) (marks : List Mark) (ts : List Terminal) (p : Stacks)
      (own : ℕ) → asks m ≡ true → is_paren (look ts).one ≡ true → begins_arrow (look ts) ≡ false
      → Goes (s.Read m ∷ more) marks ts p own → Taken ts
  asked_taken (n.Operation loosest c) more marks ts p own a h none g =
      operation_taken loosest c more marks ts p own h (ap (λ b. is_loosest loosest && b) none ∙ ap (λ b. b && false) a) g
  asked_taken (n.Head c) more marks ts p own a h none g =
      operation_taken level.Member c (s.Read (n.LeftHead c) ∷ body_of c ++ mark_symbol ∷ more)
      (marked (n.Head c) ts ∷ marks) ts p own h refl
      (down (n.Head c) (begins_with_left c) more marks ts p own h (head_left_step c (look ts) h none) g)
  asked_taken _ more marks ts p own a h none g = cc

  -- ---- an arrow that begins is known

  expr_known : (c : Context) (more : List Symbol) (marks : List Mark) (ts : List Terminal) (p : Stacks) (own : ℕ)
      → is_paren (look ts).one ≡ true → begins_arrow (look ts) ≡ true → Goes (s.Read (n.Expr c) ∷ more) marks ts p own
      → arrow_at functions (place_ahead ts) ≡ true
  expr_known c more marks ts p own h sure g =
      let one = down (n.Expr c) (s.Read (assignment c) ∷ s.Read (n.ExprRest false c) ∷ []) more marks ts p own h refl
      g in
      arrow_row_read functions level.Assignment c ts one.rest one.value sure one.read one.known

  pub asked_known : (m : Nonterminal) (more : List Symbol) (marks : List Mark) (ts : List Terminal) (p : Stacks)
      (own : ℕ) → asks m ≡ true → is_paren (look ts).one ≡ true → begins_arrow (look ts) ≡ true
      → Goes (s.Read m ∷ more) marks ts p own → arrow_at functions (place_ahead ts) ≡ true
  asked_known (n.Operation loosest c) more marks ts p own a h sure g =
      arrow_row_read functions loosest c ts g.rest g.value (ap (λ b. is_loosest loosest && b) sure ∙ ap (λ b. b && true) a)
      g.read g.known
  asked_known (n.Head c) more marks ts p own a h sure g =
      expr_known (without_in c) (s.Tell tell.Join ∷ s.Take k.Semicolon ∷ s.Read (n.OptionalExpr c) ∷ s.Take k.Semicolon
      ∷ s.Read (n.OptionalExpr c) ∷ body_of c ++ mark_symbol ∷ more) (marked (n.Head c) ts ∷ marks) ts p own h sure
      (down (n.Head c) (begins_with_expr c) more marks ts p own h (head_expr_step c (look ts) h sure) g)
  asked_known _ more marks ts p own a h sure g = cc

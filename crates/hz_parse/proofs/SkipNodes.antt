-- The rows of functions: what is opened and closed, and which functions stand in the value.
use Rattle.std.proofs.Common.{◌≡◌, Bool, true, false, ◌&&◌, if◌then◌else◌, List, [], ◌∷◌, ◌++◌, Option, Some, None}
use Rattle.std.proofs.Common.{refl, ◌∙◌}
use Rattle.hz_tree.specs.declared.class.Class.{Class}
use Rattle.hz_tree.specs.declared.class.Class.TheVariants as k
use Rattle.hz_tree.specs.declared.index.FunctionInfo.{FunctionInfo}
use Rattle.hz_tree.specs.declared.look.Look.{Look}
use Rattle.hz_tree.specs.declared.nonterminal.Context.{Context}
use Rattle.hz_tree.specs.declared.nonterminal.Nonterminal.{Nonterminal}
use Rattle.hz_tree.specs.declared.nonterminal.Nonterminal.TheVariants as n
use Rattle.hz_tree.specs.declared.operator.Level.{Level}
use Rattle.hz_tree.specs.declared.signal.Signal.TheVariants as tell
use Rattle.hz_tree.specs.declared.tree.Bound.{Bound}
use Rattle.hz_tree.specs.declared.tree.FunctionForm.{FunctionForm}
use Rattle.hz_tree.specs.declared.tree.FunctionForm.TheVariants as form
use Rattle.hz_tree.specs.declared.tree.FunctionKind.{FunctionKind}
use Rattle.hz_tree.specs.declared.tree.FunctionKind.TheVariants as kind
use Rattle.hz_tree.specs.declared.tree.Rest.{Rest}
use Rattle.hz_tree.specs.declared.tree.Tree.{Tree}
use Rattle.hz_tree.specs.declared.symbol.Symbol.TheVariants as s
use Rattle.hz_tree.specs.grammar.Classes.{begins_key, is_paren}
use Rattle.hz_tree.specs.grammar.Look.{is_async, begins_arrow}
use Rattle.hz_tree.specs.grammar.OperatorRows.{is_loosest, arrow_row}
use Rattle.hz_tree.specs.grammar.PrimaryRows.{function_expression_row, primary_by}
use Rattle.hz_tree.specs.grammar.PropertyRows.{getter_row, setter_row, prop_by, key_rest_by}
use Rattle.hz_tree.specs.grammar.Signals.{Told}
use Rattle.hz_tree.specs.grammar.StatementRows.{declaration_row, item_row}
use Rattle.hz_tree.specs.grammar.Symbols.{Parts, Value, Row, goes}
use Rattle.hz_tree.specs.grammar.Table.{row}
use Rattle.hz_cuts.specs.Cuts.{cut_parts}
use Rattle.hz_cuts.specs.Skips.{Skip, inside, whole, skip_of, declaration_skip, expression_skip, arrow_skip}
use Rattle.hz_cuts.specs.Skips.{getter_of, setter_of, generator_of, method_of, item_skip, primary_skip, prop_skip}
use Rattle.hz_cuts.specs.Skips.{getter_skip, setter_skip, method_skip}
use Rattle.hz_stands.specs.Nodes.{FunctionNode, value_nodes, part_nodes}
use Rattle.hz_stands.proofs.TreeNodes.{nodes_out}
use Rattle.hz_stands.proofs.Made.{row_laws, made_laws}
use Rattle.hz_parts.specs.declared.parts.Parts.{Parts as Stacks}
use Rattle.hz_parts.specs.Values.{push_parts}
use Rattle.hz_parse.proofs.Even.{even}
use Rattle.hz_parse.specs.Leads.{calm, no_marks, opened_last}
use Rattle.hz_parse.proofs.Split.{fronts, backs}

-- what is told where the function ends
abbrev pub closed_in : {m : Nonterminal} (skip : Skip m) → Parts Value (whole skip) → Told
closed_in skip p = (backs Value skip.middle (s.Tell tell.Close ∷ skip.back) (backs Value skip.front (inside skip) p).1).0

abbrev pub middle_parts : {m : Nonterminal} (skip : Skip m) → Parts Value (whole skip) → Parts Value skip.middle
middle_parts skip p = fronts Value skip.middle (s.Tell tell.Close ∷ skip.back) (backs Value skip.front (inside skip) p).1

-- The value has the functions of the parts before the function, the function, and those in it. Its place is the one that
-- is uppermost of those at which functions were opened.
pub record SkipNodes (functions : List FunctionInfo) (m : Nonterminal) (r : Row m) (skip : Skip m) : Type 0 where
  pub make : Parts Value (whole skip) → Value m
  pub same : r ≡ goes (whole skip) make
  pub function : Parts Value (whole skip) → FunctionNode
  pub nodes : (p : Parts Value (whole skip)) → value_nodes m (make p)
      ≡ part_nodes skip.front (fronts Value skip.front (inside skip) p)
      ++ function p ∷ part_nodes skip.middle (middle_parts skip p)
  pub opened : (p : Parts Value (whole skip)) (old : Stacks)
      → (push_parts false skip.front (cut_parts functions skip.front (fronts Value skip.front (inside skip) p)) old).opened
      ≡ (function p).at ∷ old.opened
  pub ends : (p : Parts Value (whole skip)) → (function p).end ≡ (closed_in skip p).behind
  pub even : even skip.middle ≡ true
  pub unmarked : no_marks skip.front ≡ true
  pub unmarked_middle : no_marks skip.middle ≡ true
  pub calm : calm false skip.front ≡ true
  pub opens : opened_last false skip.front ≡ true

skip_nodes : (functions : List FunctionInfo) (m : Nonterminal) (skip : Skip m)
    {make : Parts Value (whole skip) → Value m} (function : Parts Value (whole skip) → FunctionNode)
    → ((p : Parts Value (whole skip)) → value_nodes m (make p)
    ≡ part_nodes skip.front (fronts Value skip.front (inside skip) p)
    ++ function p ∷ part_nodes skip.middle (middle_parts skip p))
    → ((p : Parts Value (whole skip)) (old : Stacks)
    → (push_parts false skip.front (cut_parts functions skip.front (fronts Value skip.front (inside skip) p)) old).opened
    ≡ (function p).at ∷ old.opened)
    → ((p : Parts Value (whole skip)) → (function p).end ≡ (closed_in skip p).behind)
    → even skip.middle ≡ true → no_marks skip.front ≡ true → no_marks skip.middle ≡ true
    → calm false skip.front ≡ true → opened_last false skip.front ≡ true
    → SkipNodes functions m (goes (whole skip) make) skip
skip_nodes functions m skip {make = make} function nodes opened ends even unmarked unmarked_middle calm opens = record {
  make = make;
  same = refl;
  function = function;
  nodes = nodes;
  opened = opened;
  ends = ends;
  even = even;
  unmarked = unmarked;
  unmarked_middle = unmarked_middle;
  calm = calm;
  opens = opens;
}

abbrev pub function_of : (opened closed : Told) → FunctionForm → FunctionKind → List Bound × Option Rest → Tree
    → FunctionNode
function_of opened closed form kind params body = record {
  at = opened.at;
  end = closed.behind;
  form = form;
  kind = kind;
  parameters = params.0;
  rest = params.1;
  body = body;
}

-- ---- the rows

plain_declaration : (functions : List FunctionInfo) (c : Context)
    → SkipNodes functions (n.Item c) (declaration_row c k.Name) (declaration_skip functions c k.Name)
plain_declaration functions c =
    let skip : Skip (n.Item c) = declaration_skip functions c k.Name in
    skip_nodes functions (n.Item c) skip
    (λ p. function_of p.0 (closed_in skip p) (form.Declaration p.1.1.0) kind.Function (middle_parts skip p).0
    (middle_parts skip p).1.0) (λ p. simp row_laws) (λ p old. refl) (λ p. refl) refl refl refl refl refl

declaration_nodes : (functions : List FunctionInfo) (c : Context) (two : Class)
    → SkipNodes functions (n.Item c) (declaration_row c two) (declaration_skip functions c two)
declaration_nodes functions c k.Star =
    let skip : Skip (n.Item c) = declaration_skip functions c k.Star in
    skip_nodes functions (n.Item c) skip
    (λ p. function_of p.0 (closed_in skip p) (form.Declaration p.1.1.1.0) kind.Generator (middle_parts skip p).0
    (middle_parts skip p).1.0) (λ p. simp row_laws) (λ p old. refl) (λ p. refl) refl refl refl refl refl
declaration_nodes functions c _ = plain_declaration functions c

plain_expression : (functions : List FunctionInfo) (c : Context)
    → SkipNodes functions (n.Primary c) (function_expression_row c k.Name) (expression_skip functions c k.Name)
plain_expression functions c =
    let skip : Skip (n.Primary c) = expression_skip functions c k.Name in
    skip_nodes functions (n.Primary c) skip
    (λ p. function_of p.0 (closed_in skip p) (form.Expression p.1.1.0) kind.Function (middle_parts skip p).0
    (middle_parts skip p).1.0) (λ p. simp row_laws) (λ p old. refl) (λ p. refl) refl refl refl refl refl

expression_nodes : (functions : List FunctionInfo) (c : Context) (two : Class)
    → SkipNodes functions (n.Primary c) (function_expression_row c two) (expression_skip functions c two)
expression_nodes functions c k.Star =
    let skip : Skip (n.Primary c) = expression_skip functions c k.Star in
    skip_nodes functions (n.Primary c) skip
    (λ p. function_of p.0 (closed_in skip p) (form.Expression p.1.1.1.0) kind.Generator (middle_parts skip p).0
    (middle_parts skip p).1.0) (λ p. simp row_laws) (λ p old. refl) (λ p. refl) refl refl refl refl refl
expression_nodes functions c _ = plain_expression functions c

arrow_nodes : (functions : List FunctionInfo) (loosest : Level) (c : Context) (parenthesised : Bool)
    → SkipNodes functions (n.Operation loosest c) (arrow_row loosest c parenthesised)
    (arrow_skip functions loosest c parenthesised)
arrow_nodes functions loosest c true =
    let skip : Skip (n.Operation loosest c) = arrow_skip functions loosest c true in
    skip_nodes functions (n.Operation loosest c) skip
    (λ p. function_of p.0 (closed_in skip p) form.Arrow kind.Arrow (middle_parts skip p).0
    (middle_parts skip p).1.1.0) (λ p. simp row_laws) (λ p old. refl) (λ p. refl) refl refl refl refl refl
arrow_nodes functions loosest c false =
    let skip : Skip (n.Operation loosest c) = arrow_skip functions loosest c false in
    skip_nodes functions (n.Operation loosest c) skip
    (λ p. function_of p.0 (closed_in skip p) form.Arrow kind.Arrow ((middle_parts skip p).0 ∷ [], None)
    (middle_parts skip p).1.1.0) (λ p. simp row_laws) (λ p old. refl) (λ p. refl) refl refl refl refl refl

getter_nodes : (functions : List FunctionInfo) (c : Context) (l : Look)
    → SkipNodes functions (n.Prop c) (getter_row c l true) (getter_of functions c)
getter_nodes functions c l =
    let skip : Skip (n.Prop c) = getter_of functions c in
    skip_nodes functions (n.Prop c) skip
    (λ p. function_of p.1.1.1.0 (closed_in skip p) form.Method kind.Method ([], None)
    (middle_parts skip p).1.1.0) (λ p. nodes_out _ ∙ simp made_laws) (λ p old. refl) (λ p. refl) refl refl refl refl refl

setter_nodes : (functions : List FunctionInfo) (c : Context) (l : Look)
    → SkipNodes functions (n.Prop c) (setter_row c l true) (setter_of functions c)
setter_nodes functions c l =
    let skip : Skip (n.Prop c) = setter_of functions c in
    skip_nodes functions (n.Prop c) skip
    (λ p. function_of p.1.1.1.0 (closed_in skip p) form.Method kind.Method ((middle_parts skip p).1.0 ∷ [], None)
    (middle_parts skip p).1.1.1.1.0) (λ p. nodes_out _ ∙ simp made_laws) (λ p old. refl) (λ p. refl) refl refl refl refl refl

generator_nodes : (functions : List FunctionInfo) (c : Context) (l : Look)
    → SkipNodes functions (n.Prop c) (prop_by c l k.Star) (generator_of functions c)
generator_nodes functions c l =
    let skip : Skip (n.Prop c) = generator_of functions c in
    skip_nodes functions (n.Prop c) skip
    (λ p. function_of p.1.1.1.0 (closed_in skip p) form.Method kind.Generator (middle_parts skip p).0
    (middle_parts skip p).1.0) (λ p. nodes_out _ ∙ simp made_laws) (λ p old. refl) (λ p. refl) refl refl refl refl refl

method_nodes : (functions : List FunctionInfo) (c : Context) (l : Look)
    → SkipNodes functions (n.KeyRest c) (key_rest_by c l k.LeftParen) (method_of functions c)
method_nodes functions c l =
    let skip : Skip (n.KeyRest c) = method_of functions c in
    skip_nodes functions (n.KeyRest c) skip
    (λ p. function_of p.0 (closed_in skip p) form.Method kind.Method (middle_parts skip p).0
    (middle_parts skip p).1.0) (λ p. simp row_laws) (λ p old. refl) (λ p. refl) refl refl refl refl refl

-- ---- all rows

abbrev pub NodesBy : List FunctionInfo → (m : Nonterminal) → Row m → Option (Skip m) → Type 0
NodesBy functions m r None = Unit {0}
NodesBy functions m r (Some skip) = SkipNodes functions m r skip

nodes_if : (functions : List FunctionInfo) (m : Nonterminal) (test : Bool) (a b : Row m) (x y : Option (Skip m))
    → NodesBy functions m a x → NodesBy functions m b y
    → NodesBy functions m (if test then a else b) (if test then x else y)
nodes_if functions m true a b x y h i = h
nodes_if functions m false a b x y h i = i

item_nodes : (functions : List FunctionInfo) (c : Context) (one two : Class)
    → NodesBy functions (n.Item c) (item_row c one two) (item_skip functions c one two)
item_nodes functions c k.Function two = declaration_nodes functions c two
item_nodes functions c _ two = tt

primary_nodes : (functions : List FunctionInfo) (c : Context) (l : Look) (one : Class)
    → NodesBy functions (n.Primary c) (primary_by c l one) (primary_skip functions c one l.two)
primary_nodes functions c l k.Function = expression_nodes functions c l.two
primary_nodes functions c l _ = tt

keyed_getter : (functions : List FunctionInfo) (c : Context) (l : Look) (keyed : Bool)
    → NodesBy functions (n.Prop c) (getter_row c l keyed) (getter_skip functions c keyed)
keyed_getter functions c l true = getter_nodes functions c l
keyed_getter functions c l false = tt

keyed_setter : (functions : List FunctionInfo) (c : Context) (l : Look) (keyed : Bool)
    → NodesBy functions (n.Prop c) (setter_row c l keyed) (setter_skip functions c keyed)
keyed_setter functions c l true = setter_nodes functions c l
keyed_setter functions c l false = tt

prop_nodes : (functions : List FunctionInfo) (c : Context) (l : Look) (one : Class)
    → NodesBy functions (n.Prop c) (prop_by c l one) (prop_skip functions c one l.two)
prop_nodes functions c l k.Star = generator_nodes functions c l
prop_nodes functions c l k.Get = keyed_getter functions c l (begins_key l.two)
prop_nodes functions c l k.Set = keyed_setter functions c l (begins_key l.two)
prop_nodes functions c l _ = tt

rest_nodes : (functions : List FunctionInfo) (c : Context) (l : Look) (one : Class)
    → NodesBy functions (n.KeyRest c) (key_rest_by c l one) (method_skip functions c one)
rest_nodes functions c l k.LeftParen = method_nodes functions c l
rest_nodes functions c l _ = tt

pub skips_nodes : (functions : List FunctionInfo) (m : Nonterminal) (l : Look)
    → NodesBy functions m (row m l) (skip_of functions m l)
skips_nodes functions (n.Item c) l = item_nodes functions c l.one l.two
skips_nodes functions (n.Primary c) l =
    nodes_if functions (n.Primary c) (is_async l) _ _ None _ tt (primary_nodes functions c l l.one)
skips_nodes functions (n.Operation loosest c) l =
    nodes_if functions (n.Operation loosest c) (is_loosest loosest && begins_arrow l) _ _ (Some _) None
    (arrow_nodes functions loosest c (is_paren l.one)) tt
skips_nodes functions (n.Prop c) l =
    nodes_if functions (n.Prop c) (is_async l) _ _ None _ tt (prop_nodes functions c l l.one)
skips_nodes functions (n.KeyRest c) l = rest_nodes functions c l l.one
skips_nodes functions _ l = tt

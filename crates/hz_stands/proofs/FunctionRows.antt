-- The rows of functions: in the tree that such a row makes stands one function more than in its parts.
use Rattle.std.proofs.Common.{◌≡◌, Bool, true, false, ◌&&◌, List, [], ◌∷◌, ◌++◌, refl, ap, ◌∙◌}
use Rattle.hz_tree.specs.declared.class.Class.{Class}
use Rattle.hz_tree.specs.declared.class.Class.TheVariants as k
use Rattle.hz_tree.specs.declared.look.Look.{Look}
use Rattle.hz_tree.specs.declared.nonterminal.Context.{Context}
use Rattle.hz_tree.specs.declared.nonterminal.Nonterminal.{Nonterminal}
use Rattle.hz_tree.specs.declared.nonterminal.Nonterminal.TheVariants as n
use Rattle.hz_tree.specs.declared.operator.Level.{Level}
use Rattle.hz_tree.specs.declared.signal.NodeKind.{NodeKind}
use Rattle.hz_tree.specs.declared.signal.NodeKind.TheVariants as node
use Rattle.hz_tree.specs.declared.signal.NodeShape.TheVariants as shape
use Rattle.hz_tree.specs.declared.signal.Role.TheVariants as role
use Rattle.hz_tree.specs.declared.signal.Signal.TheVariants as tell
use Rattle.hz_tree.specs.declared.symbol.Symbol.{Symbol}
use Rattle.hz_tree.specs.declared.symbol.Symbol.TheVariants.{Take, Read, Tell}
use Rattle.hz_tree.specs.declared.tree.FunctionForm.{FunctionForm}
use Rattle.hz_tree.specs.declared.tree.FunctionForm.TheVariants as form
use Rattle.hz_tree.specs.declared.tree.FunctionKind.{FunctionKind}
use Rattle.hz_tree.specs.declared.tree.FunctionKind.TheVariants as kind
use Rattle.hz_tree.specs.grammar.Look.{Terminal}
use Rattle.hz_tree.specs.grammar.Symbols.{Parts, Value, goes}
use Rattle.hz_tree.specs.grammar.OperatorRows.{arrow_row}
use Rattle.hz_tree.specs.grammar.PrimaryRows.{function_expression_row}
use Rattle.hz_tree.specs.grammar.PropertyRows.{getter_row, setter_row, prop_by, key_rest_by}
use Rattle.hz_tree.specs.grammar.StatementRows.{declaration_row}
use Rattle.hz_tree.specs.reading.Reading.{Got, read_all, reads}
use Rattle.hz_cuts.specs.Skips.{usual, accessor, arrow_parameters, front_parts}
use Rattle.hz_stands.specs.Nodes.{value_nodes, part_nodes}
use Rattle.hz_stands.specs.Stands.{Shape, Given, declared, expressed, arrowed, method, getter, setter, written}
use Rattle.hz_stands.proofs.TreeNodes.{nodes_out}
use Rattle.hz_stands.proofs.Made.{row_laws, made_laws}
use Rattle.hz_stands.proofs.Several.{untold, untold_parts, untold_read}
use Rattle.hz_stands.proofs.Ends.{Ends}
use Rattle.hz_stands.proofs.Opening.{Sides, side, from_open, opened, own_parts, closed, function_by, opens_once}
use Rattle.hz_stands.proofs.Opening.{arrow_begins, Opening}

-- the symbols of a function that begins with `head`, and one symbol behind it
abbrev function_sides : NodeKind → FunctionKind → (head inner : List Symbol) → (last : Symbol) → Sides
function_sides node kind head inner last = record {
  lead = [];
  signal = tell.Open node kind;
  own = head ++ Tell tell.Enter ∷ inner;
  back = last ∷ [];
}

-- those of a property that begins with a word or a sign and a key
abbrev method_sides : (c : Context) → (word : List Symbol) → FunctionKind → (inner : List Symbol) → Sides
method_sides c word kind inner = record {
  lead = Tell (tell.Begin node.Part) ∷ (word ++ Read (n.Key c) ∷ []);
  signal = tell.Open node.Part kind;
  own = Tell tell.Enter ∷ inner;
  back = Tell tell.Join ∷ [];
}

abbrev arrow_own : (c : Context) → (parenthesised : Bool) → List Symbol
arrow_own c parenthesised =
    arrow_parameters parenthesised ∷ Read n.ArrowSign ∷ Read (n.ArrowBody c) ∷ Tell tell.Join ∷ []

-- the same parts without what is told: they are read alike, and the same functions stand in them
pub record GivenBy (own symbols : List Symbol) : Type 0 where
  pub given : Parts Value own → Parts Value symbols
  pub read : (ts rest : List Terminal) (q : Parts Value own) → read_all reads own ts ≡ Got q rest
      → read_all reads symbols ts ≡ Got (given q) rest
  pub within : (q : Parts Value own) → part_nodes own q ≡ part_nodes symbols (given q)

untold_nodes : (right : List Symbol) (p : Parts Value right)
    → part_nodes right p ≡ part_nodes (untold right) (untold_parts right p)
untold_nodes [] p = refl
untold_nodes (Take wanted ∷ more) p = untold_nodes more p.1
untold_nodes (Read m ∷ more) p = ap (λ fs. value_nodes m p.0 ++ fs) (untold_nodes more p.1)
untold_nodes (Tell signal ∷ more) p = untold_nodes more p.1

abbrev untold_given : (right : List Symbol) → GivenBy right (untold right)
untold_given right = record { given = untold_parts right; read = untold_read right; within = untold_nodes right }

abbrev Opens : (m : Nonterminal) → (x : Sides) → Shape → (Parts Value (side x) → Value m) →
    (Parts Value (side x) → FunctionForm) → (Parts Value x.own → Given) → Type 0
Opens m x shape make form given =
    (p : Parts Value (side x)) → value_nodes m (make p)
    ≡ part_nodes x.lead (front_parts x.lead (from_open x) p)
    ++ function_by (opened x p) (closed x p) (form p) shape (given (own_parts x p)) ∷ part_nodes x.own (own_parts x p)

pub opening : (m : Nonterminal) (x : Sides) (shape : Shape) (form : Parts Value (side x) → FunctionForm)
    {make : Parts Value (side x) → Value m} (g : GivenBy x.own (written shape).symbols)
    → (opens_once x && arrow_begins m x.lead shape) ≡ true
    → Opens m x shape make form (λ q. (written shape).given (g.given q))
    → Opening m (goes (side x) make)
opening m x shape form {make = make} g here nodes = record {
  sides = x;
  shape = shape;
  make = make;
  same = refl;
  form = form;
  given = g.given;
  given_read = g.read;
  within = g.within;
  opens_here = here;
  nodes = nodes;
}

abbrev with_word : NodeKind → (generator : Bool) → (name last : Symbol) → Sides
with_word node true name last =
    function_sides node kind.Generator (Take k.Function ∷ Take k.Star ∷ name ∷ []) (usual true) last
with_word node false name last =
    function_sides node kind.Function (Take k.Function ∷ name ∷ []) (usual false) last

abbrev declaration_sides : (generator : Bool) → Sides
declaration_sides generator =
    with_word node.Statement generator (Read (n.Bound role.Function)) (Tell (tell.End node.Statement))

abbrev expression_sides : (generator : Bool) → Sides
expression_sides generator = with_word node.Operand generator (Read n.OwnName) (Tell (tell.Node shape.Other))

abbrev arrow_sides : (c : Context) → (parenthesised : Bool) → Sides
arrow_sides c parenthesised =
    function_sides node.Operand kind.Arrow [] (arrow_own c parenthesised) (Tell (tell.Node shape.Other))

abbrev pub getter_sides : (c : Context) → Sides
getter_sides c = method_sides c (Take k.Get ∷ []) kind.Method (accessor [])

abbrev pub setter_sides : (c : Context) → Sides
setter_sides c =
    method_sides c (Take k.Set ∷ []) kind.Method (accessor (Read (n.Bound role.Parameter) ∷ Read n.ParameterEnd ∷ []))

abbrev pub generator_sides : (c : Context) → Sides
generator_sides c = method_sides c (Take k.Star ∷ []) kind.Generator (usual true)

abbrev pub plain_method_sides : Sides
plain_method_sides = function_sides node.Part kind.Method [] (usual false) (Tell tell.Join)

plain_declaration : (c : Context) → Opening (n.Item c) (declaration_row c k.Name)
plain_declaration c =
    opening (n.Item c) (declaration_sides false) (declared false) (λ p. form.Declaration p.1.1.0)
    (untold_given (declaration_sides false).own) refl (λ p. simp row_laws)

pub declaration_nodes : (c : Context) (two : Class) → Opening (n.Item c) (declaration_row c two)
declaration_nodes c k.Star =
    opening (n.Item c) (declaration_sides true) (declared true) (λ p. form.Declaration p.1.1.1.0)
    (untold_given (declaration_sides true).own) refl (λ p. simp row_laws)
declaration_nodes c _ = plain_declaration c

plain_expression : (c : Context) → Opening (n.Primary c) (function_expression_row c k.Name)
plain_expression c =
    opening (n.Primary c) (expression_sides false) (expressed false) (λ p. form.Expression p.1.1.0)
    (untold_given (expression_sides false).own) refl (λ p. simp row_laws)

pub expression_nodes : (c : Context) (two : Class) → Opening (n.Primary c) (function_expression_row c two)
expression_nodes c k.Star =
    opening (n.Primary c) (expression_sides true) (expressed true) (λ p. form.Expression p.1.1.1.0)
    (untold_given (expression_sides true).own) refl (λ p. simp row_laws)
expression_nodes c _ = plain_expression c

pub arrow_nodes : (loosest : Level) (c : Context) (parenthesised : Bool)
    → Opening (n.Operation loosest c) (arrow_row loosest c parenthesised)
arrow_nodes loosest c true =
    opening (n.Operation loosest c) (arrow_sides c true) (arrowed c true) (λ p. form.Arrow)
    (untold_given (arrow_sides c true).own) refl (λ p. simp row_laws)
arrow_nodes loosest c false =
    opening (n.Operation loosest c) (arrow_sides c false) (arrowed c false) (λ p. form.Arrow)
    (untold_given (arrow_sides c false).own) refl (λ p. simp row_laws)

pub getter_nodes : (c : Context) (l : Look) → Opening (n.Prop c) (getter_row c l true)
getter_nodes c l =
    opening (n.Prop c) (getter_sides c) getter (λ p. form.Method) (untold_given (getter_sides c).own) refl
    (λ p. nodes_out _ ∙ simp made_laws)

pub setter_nodes : (c : Context) (l : Look) → Opening (n.Prop c) (setter_row c l true)
setter_nodes c l =
    opening (n.Prop c) (setter_sides c) setter (λ p. form.Method) (untold_given (setter_sides c).own) refl
    (λ p. nodes_out _ ∙ simp made_laws)

pub generator_nodes : (c : Context) (l : Look) → Opening (n.Prop c) (prop_by c l k.Star)
generator_nodes c l =
    opening (n.Prop c) (generator_sides c) (method true) (λ p. form.Method) (untold_given (generator_sides c).own) refl
    (λ p. nodes_out _ ∙ simp made_laws)

pub method_nodes : (c : Context) (l : Look) → Opening (n.KeyRest c) (key_rest_by c l k.LeftParen)
method_nodes c l =
    opening (n.KeyRest c) plain_method_sides (method false) (λ p. form.Method)
    (untold_given plain_method_sides.own) refl (λ p. simp row_laws)

-- ---- where these functions end

pub declaration_ends : (c : Context) (two : Class) → Ends (n.Item c) (declaration_row c two) (declaration_nodes c two)
unfolding opening plain_declaration declaration_nodes
declaration_ends c k.Star = tt
declaration_ends c _ = tt

pub expression_ends : (c : Context) (two : Class)
    → Ends (n.Primary c) (function_expression_row c two) (expression_nodes c two)
unfolding opening plain_expression expression_nodes
expression_ends c k.Star = tt
expression_ends c _ = tt

pub arrow_ends : (loosest : Level) (c : Context) (parenthesised : Bool)
    → Ends (n.Operation loosest c) (arrow_row loosest c parenthesised) (arrow_nodes loosest c parenthesised)
unfolding opening arrow_nodes
arrow_ends loosest c true = (refl, refl)
arrow_ends loosest c false = (refl, refl)

pub getter_ends : (c : Context) (l : Look) → Ends (n.Prop c) (getter_row c l true) (getter_nodes c l)
unfolding opening getter_nodes
getter_ends c l = tt

pub setter_ends : (c : Context) (l : Look) → Ends (n.Prop c) (setter_row c l true) (setter_nodes c l)
unfolding opening setter_nodes
setter_ends c l = tt

pub generator_ends : (c : Context) (l : Look) → Ends (n.Prop c) (prop_by c l k.Star) (generator_nodes c l)
unfolding opening generator_nodes
generator_ends c l = tt

pub method_ends : (c : Context) (l : Look) → Ends (n.KeyRest c) (key_rest_by c l k.LeftParen) (method_nodes c l)
unfolding opening method_nodes
method_ends c l = tt

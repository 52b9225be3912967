-- The row of a function: where tokens are read by it, the function stands among them.
use Rattle.std.proofs.Common.{◌≡◌, Bool, true, false, not, ◌&&◌, List, [], ◌∷◌, ◌++◌, refl, ap, sym, ◌∙◌}
use Rattle.hz_tree.specs.declared.nonterminal.Nonterminal.{Nonterminal}
use Rattle.hz_tree.specs.declared.nonterminal.Nonterminal.TheVariants as n
use Rattle.hz_tree.specs.declared.signal.Signal.{Signal}
use Rattle.hz_tree.specs.declared.signal.Signal.TheVariants as tell
use Rattle.hz_tree.specs.declared.symbol.Symbol.{Symbol}
use Rattle.hz_tree.specs.declared.symbol.Symbol.TheVariants as s
use Rattle.hz_tree.specs.declared.tree.FunctionForm.{FunctionForm}
use Rattle.hz_tree.specs.grammar.Look.{Terminal}
use Rattle.hz_tree.specs.grammar.Signals.{Told}
use Rattle.hz_tree.specs.grammar.Symbols.{Parts, Value, Row, goes}
use Rattle.hz_tree.specs.reading.Reading.{Got, read_all, reads, told_ahead}
use Rattle.hz_laws.proofs.Balance.{got_rest}
use Rattle.hz_laws.proofs.Ranks.{opens}
use Rattle.hz_cuts.specs.Rows.{is_close, some_symbol, all_plain}
use Rattle.hz_cuts.specs.Skips.{front_parts}
use Rattle.hz_stands.specs.Nodes.{FunctionNode, value_nodes, part_nodes}
use Rattle.hz_stands.specs.Stands.{Shape, arrowed, Given, written, Standing}
use Rattle.hz_stands.proofs.Several.{value_of, back_parts, Cons, cons_got, Split}
use Rattle.hz_stands.proofs.Several.{split_read, Suffix, all_suffix}

-- the right-hand side of a function's row: what stands before the function, the signal that opens it, its own symbols,
-- and what stands behind its end
pub record Sides : Type 0 where
  pub lead : List Symbol
  pub signal : Signal
  pub own : List Symbol
  pub back : List Symbol

abbrev pub to_close : Sides → List Symbol
to_close x = x.own ++ s.Tell tell.Close ∷ x.back

abbrev pub from_open : Sides → List Symbol
from_open x = s.Tell x.signal ∷ to_close x

abbrev pub side : Sides → List Symbol
side x = x.lead ++ from_open x

abbrev pub opened : (x : Sides) → Parts Value (side x) → Told
opened x p = (back_parts x.lead (from_open x) p).0

abbrev pub behind_open : (x : Sides) → Parts Value (side x) → Parts Value (to_close x)
behind_open x p = (back_parts x.lead (from_open x) p).1

abbrev pub own_parts : (x : Sides) → Parts Value (side x) → Parts Value x.own
own_parts x p = front_parts x.own (s.Tell tell.Close ∷ x.back) (behind_open x p)

abbrev pub closed : (x : Sides) → Parts Value (side x) → Told
closed x p = (back_parts x.own (s.Tell tell.Close ∷ x.back) (behind_open x p)).0

abbrev pub function_by : (opened closed : Told) → FunctionForm → Shape → Given → FunctionNode
function_by opened closed form shape given = record {
  at = opened.at;
  end = closed.behind;
  form = form;
  kind = (written shape).kind;
  parameters = given.parameters;
  rest = given.rest;
  body = given.body;
}

-- ---- what opens, and where

abbrev pub is_open : Symbol → Bool
is_open (s.Tell signal) = opens signal
is_open _ = false

-- one function opens, and it closes behind its own symbols; behind that nothing is read
abbrev pub opens_once : Sides → Bool
opens_once x =
    not (some_symbol is_open x.lead) && (opens x.signal && (not (some_symbol is_close x.own) && all_plain x.back))

abbrev pub begins_operation : Nonterminal → (lead : List Symbol) → Bool
begins_operation (n.Operation loosest c) [] = true
begins_operation m lead = false

-- an arrow is an operation of its own
abbrev pub arrow_begins : Nonterminal → (lead : List Symbol) → Shape → Bool
arrow_begins m lead (arrowed c parenthesised) = begins_operation m lead
arrow_begins m lead shape = true

-- the row makes a tree with the function, behind those of its lead and before those in it
pub record Opening (m : Nonterminal) (r : Row m) : Type 0 where
  pub sides : Sides
  pub shape : Shape
  pub make : Parts Value (side sides) → Value m
  pub same : r ≡ goes (side sides) make
  pub form : Parts Value (side sides) → FunctionForm
  pub given : Parts Value sides.own → Parts Value (written shape).symbols
  pub given_read : (ts rest : List Terminal) (q : Parts Value sides.own) → read_all reads sides.own ts ≡ Got q rest
      → read_all reads (written shape).symbols ts ≡ Got (given q) rest
  pub within : (q : Parts Value sides.own) → part_nodes sides.own q ≡ part_nodes (written shape).symbols (given q)
  pub opens_here : (opens_once sides && arrow_begins m sides.lead shape) ≡ true
  pub nodes : (p : Parts Value (side sides)) → value_nodes m (make p)
      ≡ part_nodes sides.lead (front_parts sides.lead (from_open sides) p)
      ++ function_by (opened sides p) (closed sides p) (form p) shape
      ((written shape).given (given (own_parts sides p)))
      ∷ part_nodes sides.own (own_parts sides p)

abbrev pub function_of : {m : Nonterminal} {r : Row m} (o : Opening m r) → Parts Value (side o.sides) → FunctionNode
function_of o p =
    function_by (opened o.sides p) (closed o.sides p) (o.form p) o.shape
    ((written o.shape).given (o.given (own_parts o.sides p)))

unfoldable pub stands_here : (m : Nonterminal) (r : Row m) (o : Opening m r) (ts rest : List Terminal)
    (p : Parts Value (side o.sides)) → read_all reads (side o.sides) ts ≡ Got p rest
    → Standing (function_of o p) ts
stands_here m r o ts rest p h =
    let x = o.sides in
    let a : Split x.lead (from_open x) ts p rest = split_read x.lead (from_open x) ts rest p h in
    let b : Cons reads (s.Tell x.signal) (to_close x) a.mid (back_parts x.lead (from_open x) p) rest =
    cons_got reads (s.Tell x.signal) (to_close x) a.mid (back_parts x.lead (from_open x) p) rest a.others in
    let c : Split x.own (s.Tell tell.Close ∷ x.back) b.mid (behind_open x p) rest =
    split_read x.own (s.Tell tell.Close ∷ x.back) b.mid rest (behind_open x p) b.others in
    let last = back_parts x.own (s.Tell tell.Close ∷ x.back) (behind_open x p) in
    let d : Cons reads (s.Tell tell.Close) x.back c.mid last rest =
    cons_got reads (s.Tell tell.Close) x.back c.mid last rest c.others in
    let u : Suffix ts a.mid = all_suffix x.lead ts a.mid (front_parts x.lead (from_open x) p) a.first in
    record {
      passed = u.passed;
      from = a.mid;
      left = c.mid;
      shape = o.shape;
      parts = o.given (own_parts x p);
      split = u.split;
      start = ap (λ told. told.at) (sym (ap (value_of (opened x p)) b.first));
      read =
          o.given_read a.mid c.mid (own_parts x p)
          (ap (read_all reads x.own) (got_rest (told_ahead a.mid) (opened x p) a.mid b.mid b.first) ∙ c.first);
      end = ap (λ told. told.behind) (sym (ap (value_of (closed x p)) d.first));
      kind = refl;
      given = refl;
    }

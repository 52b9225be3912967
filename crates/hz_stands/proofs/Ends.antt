-- Where a function ends that is read by its row: no `in` stands there, where the row is of a head.
use Rattle.std.proofs.Common.{◌≡◌, Bool, true, false, not, ◌&&◌, ◌||◌, List, ◌∷◌, refl}
use Rattle.hz_tree.specs.declared.nonterminal.Nonterminal.{Nonterminal}
use Rattle.hz_tree.specs.declared.signal.Signal.TheVariants as tell
use Rattle.hz_tree.specs.declared.symbol.Symbol.{Symbol}
use Rattle.hz_tree.specs.declared.symbol.Symbol.TheVariants as s
use Rattle.hz_tree.specs.grammar.Look.{Terminal}
use Rattle.hz_tree.specs.grammar.Symbols.{Parts, Value, Row}
use Rattle.hz_tree.specs.reading.Reading.{Got, read_all, reads}
use Rattle.hz_stands.specs.Heads.{in_head, in_ahead}
use Rattle.hz_stands.specs.Stands.{Shape, arrowed}
use Rattle.hz_stands.proofs.Ahead.{keeps_off, none_behind}
use Rattle.hz_stands.proofs.Opening.{to_close, from_open, side, behind_open, Opening, stands_here}
use Rattle.hz_stands.proofs.Settled.{NoneBehind, shape_settled}
use Rattle.hz_stands.proofs.Several.{back_parts, Cons, cons_got, Split, split_read}

-- The body of an arrow is of a head where its row is, and nothing is taken behind it.
abbrev pub ShapeEnds : (m : Nonterminal) → Shape → (back : List Symbol) → Type 0
ShapeEnds m (arrowed c parenthesised) back = (c.no_in ≡ in_head m) × (keeps_off true back ≡ true)
ShapeEnds m _ back = Unit {0}

abbrev pub Ends : (m : Nonterminal) → (r : Row m) → Opening m r → Type 0
Ends m r o = ShapeEnds m o.shape o.sides.back

settled_by : (own head ahead : Bool) → own ≡ head → (head ≡ true → ahead ≡ false)
    → (not own || (true && not ahead)) ≡ true
settled_by false head ahead e h = refl
settled_by true true true e h = cc (h refl)
settled_by true true false e h = refl
settled_by true false ahead e h = cc

left_settled : (m : Nonterminal) (shape : Shape) (back : List Symbol) (left : List Terminal) → ShapeEnds m shape back
    → (keeps_off true back ≡ true → NoneBehind (in_head m) left) → shape_settled shape left ≡ true
left_settled m (arrowed c parenthesised) back left ends none =
    settled_by c.no_in (in_head m) (in_ahead left) ends.0 (none ends.1)
left_settled m _ back left ends none = refl

-- The function that stands in such a row is settled.
pub ends_settled : (m : Nonterminal) (r : Row m) (o : Opening m r) (ts rest : List Terminal)
    (p : Parts Value (side o.sides)) (h : read_all reads (side o.sides) ts ≡ Got p rest) → Ends m r o
    → NoneBehind (in_head m) rest
    → shape_settled (stands_here m r o ts rest p h).shape (stands_here m r o ts rest p h).left ≡ true
unfolding stands_here
ends_settled m r o ts rest p h ends none =
    let x = o.sides in
    let a : Split x.lead (from_open x) ts p rest = split_read x.lead (from_open x) ts rest p h in
    let b : Cons reads (s.Tell x.signal) (to_close x) a.mid (back_parts x.lead (from_open x) p) rest =
    cons_got reads (s.Tell x.signal) (to_close x) a.mid (back_parts x.lead (from_open x) p) rest a.others in
    let c : Split x.own (s.Tell tell.Close ∷ x.back) b.mid (behind_open x p) rest =
    split_read x.own (s.Tell tell.Close ∷ x.back) b.mid rest (behind_open x p) b.others in
    left_settled m o.shape x.back c.mid ends
    (λ off head. none_behind (s.Tell tell.Close ∷ x.back) c.mid rest
    (back_parts x.own (s.Tell tell.Close ∷ x.back) (behind_open x p)) true off (λ e. none head) c.others)

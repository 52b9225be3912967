-- A reading with counts in the place of trees: its count is that of the tokens outside of the functions in what is
-- read.
use Rattle.std.proofs.Common.{◌≡◌, ℕ, zero, suc, ◌+◌, true, false, if◌then◌else◌, List, [], ◌∷◌, ◌++◌}
use Rattle.std.proofs.Common.{Option, Some, None, refl, ap, sym, ◌∙◌, subst, arith}
use Rattle.hz_tree.specs.declared.class.Class.{Class}
use Rattle.hz_tree.specs.declared.nonterminal.Nonterminal.{Nonterminal}
use Rattle.hz_tree.specs.declared.signal.Signal.TheVariants as tell
use Rattle.hz_tree.specs.declared.symbol.Symbol.{Symbol}
use Rattle.hz_tree.specs.declared.symbol.Symbol.TheVariants as s
use Rattle.hz_tree.specs.grammar.Classes.{fits}
use Rattle.hz_tree.specs.grammar.Look.{Terminal, look, stuck, begins_arrow}
use Rattle.hz_tree.specs.grammar.Symbols.{Part, Parts, Value, Row, goes, refuses}
use Rattle.hz_tree.specs.grammar.Table.{pushes, row, step_of}
use Rattle.hz_tree.specs.reading.Reading.{Reading, Got, Stuck, and_then, takes, Reader, read_one, read_all, by_row}
use Rattle.hz_tree.specs.reading.Reading.{reads_to, reads_by, enough, reads, told_ahead}
use Rattle.hz_laws.proofs.Balance.{Then, then_got, got_rest}
use Rattle.hz_laws.proofs.Depth.{Ends, same_depth}
use Rattle.hz_laws.proofs.Ranks.{opens, and_left, and_right}
use Rattle.hz_laws.proofs.ReadingLaws.{reads_ends}
use Rattle.hz_cuts.specs.Rows.{is_enter, some_symbol, CutsRow}
use Rattle.hz_cuts.specs.Skips.{Skip, front_parts, skip_of}
use Rattle.hz_cuts.proofs.RowCuts.{rows_cut}
use Rattle.hz_stands.specs.Nodes.{FunctionNode, nodes_of, value_nodes, part_nodes}
use Rattle.hz_tree.specs.grammar.Signals.{Told}
use Rattle.hz_stands.proofs.Opening.{Sides, is_open, to_close, from_open, side, behind_open, own_parts}
use Rattle.hz_stands.proofs.Opening.{begins_operation, arrow_begins, opens_once, Opening, function_of}
use Rattle.hz_stands.proofs.RowNodes.{RowNodes, rows_nodes}
use Rattle.hz_stands.proofs.Several.{value_of, back_parts, Cons, cons_got}
use Rattle.hz_own.specs.Owned.{Owned, taken, counted, counting, own_row, owns}
use Rattle.hz_own.specs.Stretch.{Spans, SeenArrow, Stretch, nothing, token, both, function}
use Rattle.hz_own.proofs.Counts.{cons_reads, joined, Heard, heard, back_stays, summed, counted_plain}
use Rattle.hz_own.proofs.Around.{Around, around, Once, once, close_parts, open_parts, side_counted}
use Rattle.hz_own.proofs.OwnRows.{written_nodes, passed_some, kind_arrow, is_operation, operation_first, no_lead}
use Rattle.hz_own.proofs.OwnRows.{skips_arrow, nothing_passed}
use Rattle.hz_own.proofs.RowsOpen.{opens_none}

-- what is read with counts is the number of the tokens outside of the functions in what the nonterminal gives
pub record OwnedBy (r : Reading ℕ) (m : Nonterminal) (ts : List Terminal) (v : Value m) (rest : List Terminal)
    : Type 0 where
  pub count : ℕ
  pub read : r ≡ Got count rest
  pub stretch : Stretch ts rest count (value_nodes m v)

-- symbols are read with these counts; and so they are where others are read behind them
pub record AllOwned (counts : Reader Owned) (xs : List Symbol) (ts : List Terminal) (p : Parts Value xs)
    (rest : List Terminal) : Type 0 where
  pub parts : Parts Owned xs
  pub read : read_all counts xs ts ≡ Got parts rest
  pub goes_on : (ys : List Symbol) (b : Parts Owned ys) (end : List Terminal) → read_all counts ys rest ≡ Got b end
      → read_all counts (xs ++ ys) ts ≡ Got (joined xs ys parts b) end
  pub stretch : Stretch ts rest (summed xs parts) (part_nodes xs p)

took : (wanted : Class) (ts : List Terminal) (v : Terminal) (mid : List Terminal) → takes wanted ts ≡ Got v mid
    → Stretch ts mid (taken wanted) []
took wanted [] v mid h = cc
took wanted (y ∷ ts) v mid h =
    elim (fits wanted y.class) as (λ b. fits wanted y.class ≡ b
    → (if b then Got y ts else Stuck (stuck (look (y ∷ ts))) (y ∷ ts)) ≡ Got v mid
    → Stretch (y ∷ ts) mid (taken wanted) []) [
      | true ↦ λ e is. subst (λ us. Stretch (y ∷ ts) us (taken wanted) []) (got_rest y v ts mid is)
          (token wanted y ts e)
      | false ↦ λ e is. cc
    ] refl h

module _ (trees : Reader Value) (counts : Reader Owned)
    (owned : (m : Nonterminal) (ts rest : List Terminal) (v : Value m) → trees m ts ≡ Got v rest
    → OwnedBy (counts m ts) m ts v rest) where
  pub all_owned : (xs : List Symbol) (ts rest : List Terminal) (p : Parts Value xs) → read_all trees xs ts ≡ Got p rest
      → AllOwned counts xs ts p rest
  all_owned [] ts rest p h =
      let same : ts ≡ rest = got_rest tt p ts rest h in
      record {
        parts = tt;
        read = ap (Got tt) same;
        goes_on = λ ys b end is. ap (read_all counts ys) same ∙ is;
        stretch = subst (λ us. Stretch ts us 0 []) same (nothing ts);
      }
  all_owned (s.Take wanted ∷ more) ts rest p h =
      let c : Cons trees (s.Take wanted) more ts p rest = cons_got trees (s.Take wanted) more ts p rest h in
      let a : AllOwned counts more c.mid p.1 rest = all_owned more c.mid rest p.1 c.others in
      record {
        parts = (p.0, a.parts);
        read = cons_reads counts (s.Take wanted) more ts c.mid rest p.0 a.parts c.first a.read;
        goes_on = λ ys b end is.
            cons_reads counts (s.Take wanted) (more ++ ys) ts c.mid end p.0 (joined more ys a.parts b) c.first
            (a.goes_on ys b end is);
        stretch =
            both ts c.mid rest (taken wanted) (summed more a.parts) [] (part_nodes more p.1)
            (took wanted ts p.0 c.mid c.first) a.stretch;
      }
  all_owned (s.Read m ∷ more) ts rest p h =
      let c : Cons trees (s.Read m) more ts p rest = cons_got trees (s.Read m) more ts p rest h in
      let o : OwnedBy (counts m ts) m ts p.0 c.mid = owned m ts c.mid p.0 c.first in
      let a : AllOwned counts more c.mid p.1 rest = all_owned more c.mid rest p.1 c.others in
      record {
        parts = (o.count, a.parts);
        read = cons_reads counts (s.Read m) more ts c.mid rest o.count a.parts o.read a.read;
        goes_on = λ ys b end is.
            cons_reads counts (s.Read m) (more ++ ys) ts c.mid end o.count (joined more ys a.parts b) o.read
            (a.goes_on ys b end is);
        stretch =
            both ts c.mid rest o.count (summed more a.parts) (value_nodes m p.0) (part_nodes more p.1) o.stretch
            a.stretch;
      }
  all_owned (s.Tell signal ∷ more) ts rest p h =
      let c : Heard trees more ts p.0 p.1 rest = heard trees signal more ts rest p h in
      let a : AllOwned counts more ts p.1 rest = all_owned more ts rest p.1 c.others in
      record {
        parts = (told_ahead ts, a.parts);
        read = cons_reads counts (s.Tell signal) more ts ts rest (told_ahead ts) a.parts refl a.read;
        goes_on = λ ys b end is.
            cons_reads counts (s.Tell signal) (more ++ ys) ts ts end (told_ahead ts) (joined more ys a.parts b) refl
            (a.goes_on ys b end is);
        stretch = a.stretch;
      }

  -- ---- a row without functions

  abbrev Counted : (m : Nonterminal) → Row m → List Terminal → Value m → List Terminal → Type 0
  Counted m r ts v rest = OwnedBy (by_row counts m (counting r) ts) m ts v rest

  goes_owned : (m : Nonterminal) (right : List Symbol) (make : Parts Value right → Value m) (ts rest : List Terminal)
      (v : Value m) → by_row trees m (goes right make) ts ≡ Got v rest
      → ((p : Parts Value right) → read_all trees right ts ≡ Got p rest → Counted m (goes right make) ts (make p) rest)
      → Counted m (goes right make) ts v rest
  goes_owned m right make ts rest v is h =
      let all : Then (read_all trees right ts) (λ vs end. Got (make vs) end) v rest =
      then_got (read_all trees right ts) (λ vs end. Got (make vs) end) v rest is in
      subst (λ w. Counted m (goes right make) ts w rest) (ap (value_of v) all.goes_on)
      (h all.first (all.got ∙ ap (Got all.first) (got_rest (make all.first) v all.mid rest all.goes_on)))

  plain_owned : (m : Nonterminal) (right : List Symbol) (make : Parts Value right → Value m) (ts rest : List Terminal)
      (p : Parts Value right) → some_symbol is_open right ≡ false → value_nodes m (make p) ≡ part_nodes right p
      → read_all trees right ts ≡ Got p rest → Counted m (goes right make) ts (make p) rest
  plain_owned m right make ts rest p none nodes h =
      let a : AllOwned counts right ts p rest = all_owned right ts rest p h in
      record {
        count = counted right a.parts;
        read = ap (λ r. and_then r (λ vs end. Got (counted right vs) end)) a.read;
        stretch =
            subst (λ k. Stretch ts rest k (value_nodes m (make p))) (sym (counted_plain right a.parts none))
            (subst (Stretch ts rest (summed right a.parts)) (sym nodes) a.stretch);
      }

  -- ---- the row of a function

  -- what is read of the row with counts
  record SideOwned (x : Sides) (ts : List Terminal) (p : Parts Value (side x)) (rest : List Terminal) : Type 0 where
    at : Around trees x ts p rest
    count : ℕ
    read : and_then (read_all counts (side x) ts) (λ vs end. Got (counted (side x) vs) end) ≡ Got count rest
    lead : Stretch ts at.from count (part_nodes x.lead (front_parts x.lead (from_open x) p))
    inner : ℕ
    own : Stretch at.from at.left inner (part_nodes x.own (own_parts x p))

  side_owned : (x : Sides) (ts rest : List Terminal) (p : Parts Value (side x)) → Once x
      → read_all trees (side x) ts ≡ Got p rest → SideOwned x ts p rest
  side_owned x ts rest p o h =
      let a : Around trees x ts p rest = around trees x ts rest p h in
      let lead : AllOwned counts x.lead ts (front_parts x.lead (from_open x) p) a.from =
      all_owned x.lead ts a.from (front_parts x.lead (from_open x) p) a.lead in
      let own : AllOwned counts x.own a.from (own_parts x p) a.left =
      all_owned x.own a.from a.left (own_parts x p) a.own in
      let last = (back_parts x.own (s.Tell tell.Close ∷ x.back) (behind_open x p)).1 in
      let back : AllOwned counts x.back a.left last rest = all_owned x.back a.left rest last a.back in
      let there : Told = told_ahead a.left in
      let inner : Parts Owned (to_close x) =
      joined x.own (s.Tell tell.Close ∷ x.back) own.parts (close_parts x there back.parts) in
      let from_own : read_all counts (to_close x) a.from ≡ Got inner rest =
      own.goes_on (s.Tell tell.Close ∷ x.back) (close_parts x there back.parts) rest
      (cons_reads counts (s.Tell tell.Close) x.back a.left a.left rest there back.parts refl back.read) in
      let all : Parts Owned (side x) =
      joined x.lead (from_open x) lead.parts (open_parts x (told_ahead a.from) there own.parts back.parts) in
      let read : read_all counts (side x) ts ≡ Got all rest =
      lead.goes_on (from_open x) (open_parts x (told_ahead a.from) there own.parts back.parts) rest
      (cons_reads counts (s.Tell x.signal) (to_close x) a.from a.from rest (told_ahead a.from) inner refl from_own) in
      record {
        at = a;
        count = summed x.lead lead.parts;
        read =
            ap (λ r. and_then r (λ vs end. Got (counted (side x) vs) end)) read
            ∙ ap (λ k. Got k rest) (side_counted x (told_ahead a.from) there lead.parts own.parts back.parts o);
        lead = lead.stretch;
        inner = summed x.own own.parts;
        own = own.stretch;
      }

  opening_spans : (m : Nonterminal) (r : Row m) (o : Opening m r) (ts rest : List Terminal)
      (p : Parts Value (side o.sides)) (a : Around trees o.sides ts p rest)
      → ((xs : List Symbol) (us end : List Terminal) (q : Parts Value xs) → read_all trees xs us ≡ Got q end
      → read_all reads xs us ≡ Got q end)
      → Spans (function_of o p) a.from a.left
  opening_spans m r o ts rest p a same =
      let x = o.sides in
      record {
        start = ap (λ told. told.at) a.opened;
        end = ap (λ told. told.behind) a.closed;
        some =
            passed_some o.shape a.from a.left (o.given (own_parts x p))
            (o.given_read a.from a.left (own_parts x p) (same x.own a.from a.left (own_parts x p) a.own));
      }

  opening_arrow : (m : Nonterminal) (r : Row m) (o : Opening m r) (ts rest : List Terminal)
      (p : Parts Value (side o.sides)) (a : Around trees o.sides ts p rest)
      → (is_operation m ≡ true → begins_arrow (look ts) ≡ true) → SeenArrow (function_of o p) a.from
  opening_arrow m r o ts rest p a arrows is =
      let x = o.sides in
      let begins = and_right (opens_once x) (arrow_begins m x.lead o.shape) o.opens_here in
      let first : begins_operation m x.lead ≡ true = sym (kind_arrow o.shape m x.lead is) ∙ begins in
      subst (λ us. begins_arrow (look us) ≡ true)
      (nothing_passed trees x.lead ts a.from (front_parts x.lead (from_open x) p) (no_lead m x.lead first) a.lead)
      (arrows (operation_first m x.lead first))

  opening_owned : (m : Nonterminal) (r : Row m) (o : Opening m r) (ts rest : List Terminal)
      (p : Parts Value (side o.sides))
      → (is_operation m ≡ true → begins_arrow (look ts) ≡ true)
      → ((xs : List Symbol) (us end : List Terminal) (q : Parts Value xs) → read_all trees xs us ≡ Got q end
      → read_all reads xs us ≡ Got q end)
      → read_all trees (side o.sides) ts ≡ Got p rest → Counted m (goes (side o.sides) o.make) ts (o.make p) rest
  opening_owned m r o ts rest p arrows same h =
      let x = o.sides in
      let f : FunctionNode = function_of o p in
      let ones : Once x = once x (and_left (opens_once x) (arrow_begins m x.lead o.shape) o.opens_here) in
      let w : SideOwned x ts p rest = side_owned x ts rest p ones h in
      let a : Around trees x ts p rest = w.at in
      let lead = part_nodes x.lead (front_parts x.lead (from_open x) p) in
      let within : part_nodes x.own (own_parts x p) ≡ nodes_of f.body =
      o.within (own_parts x p) ∙ written_nodes o.shape (o.given (own_parts x p)) in
      let left : a.left ≡ rest = back_stays trees x.back a.left rest _ ones.back a.back in
      let all : Stretch ts a.left (w.count + 0) (lead ++ f ∷ nodes_of f.body) =
      both ts a.from a.left w.count 0 lead (f ∷ nodes_of f.body) w.lead
      (function a.from a.left f w.inner (opening_spans m r o ts rest p a same)
      (opening_arrow m r o ts rest p a arrows) (subst (Stretch a.from a.left w.inner) within w.own)) in
      let nodes : value_nodes m (o.make p) ≡ lead ++ f ∷ nodes_of f.body =
      o.nodes p ∙ ap (λ fs. lead ++ f ∷ fs) within in
      let count : w.count + 0 ≡ w.count = omega arith in
      record {
        count = w.count;
        read = w.read;
        stretch =
            subst (λ us. Stretch ts us w.count (value_nodes m (o.make p))) left
            (subst (Stretch ts a.left w.count) (sym nodes)
            (subst (λ k. Stretch ts a.left k (lead ++ f ∷ nodes_of f.body)) count all));
      }

  row_owned : (m : Nonterminal) (r : Row m) (skip : Option (Skip m)) (ts rest : List Terminal) (v : Value m)
      → RowNodes m r skip → CutsRow [] m r skip
      → ((right : List Symbol) → step_of r ≡ pushes right → some_symbol is_enter right ≡ false
      → some_symbol is_open right ≡ false)
      → ((only : Skip m) → skip ≡ Some only → is_operation m ≡ true → begins_arrow (look ts) ≡ true)
      → ((xs : List Symbol) (us end : List Terminal) (q : Parts Value xs) → read_all trees xs us ≡ Got q end
      → read_all reads xs us ≡ Got q end)
      → by_row trees m r ts ≡ Got v rest → Counted m r ts v rest
  row_owned m (goes right make) None ts rest v nodes cuts opens arrows same is =
      goes_owned m right make ts rest v is
      (λ p got. plain_owned m right make ts rest p (opens right refl cuts.0) (nodes p) got)
  row_owned m (refuses cause) None ts rest v nodes cuts opens arrows same is = cc
  row_owned m r (Some skip) ts rest v opening cuts opens arrows same is =
      let o : Opening m r = opening.0 in
      subst (λ x. Counted m x ts v rest) (sym o.same)
      (goes_owned m (side o.sides) o.make ts rest v (ap (λ x. by_row trees m x ts) (sym o.same) ∙ is)
      (λ p got. opening_owned m r o ts rest p (arrows skip refl) same got))

-- ---- readings

module _ (trees : Reader Value)
    (same : (m : Nonterminal) (ts rest : List Terminal) (v : Value m) → trees m ts ≡ Got v rest
    → reads m ts ≡ Got v rest) where
  one_same : (x : Symbol) (ts rest : List Terminal) (v : Part Value x) → read_one trees x ts ≡ Got v rest
      → read_one reads x ts ≡ Got v rest
  one_same (s.Take wanted) ts rest v h = h
  one_same (s.Read m) ts rest v h = same m ts rest v h
  one_same (s.Tell signal) ts rest v h = h

  all_same : (xs : List Symbol) (ts rest : List Terminal) (p : Parts Value xs) → read_all trees xs ts ≡ Got p rest
      → read_all reads xs ts ≡ Got p rest
  all_same [] ts rest p h = h
  all_same (x ∷ xs) ts rest p h =
      let c : Cons trees x xs ts p rest = cons_got trees x xs ts p rest h in
      cons_reads reads x xs ts c.mid rest p.0 p.1 (one_same x ts c.mid p.0 c.first)
      (all_same xs c.mid rest p.1 c.others)

ends_got : {A : Type 0} (r : Reading A) (v : A) (rest : List Terminal) → r ≡ Got v rest → Ends r
ends_got r v rest h = subst Ends (sym h) tt

to_reads : (d : ℕ) (m : Nonterminal) (ts rest : List Terminal) (v : Value m) → reads_to row d m ts ≡ Got v rest
    → reads m ts ≡ Got v rest
unfolding reads_by
to_reads d m ts rest v h =
    sym (same_depth row d (enough ts) m ts (ends_got (reads_to row d m ts) v rest h) (reads_ends m ts)) ∙ h

owned_to : (d : ℕ) (m : Nonterminal) (ts rest : List Terminal) (v : Value m) → reads_to row d m ts ≡ Got v rest
    → OwnedBy (reads_to own_row d m ts) m ts v rest
unfolding reads_to
owned_to zero m ts rest v is = cc
owned_to (suc d) m ts rest v is =
    row_owned (reads_to row d) (reads_to own_row d) (owned_to d) m (row m (look ts)) (skip_of [] m (look ts)) ts rest v
    (rows_nodes m (look ts)) (rows_cut [] m (look ts)) (opens_none m (look ts))
    (skips_arrow m (look ts)) (all_same (reads_to row d) (to_reads d)) is

-- What is read with counts counts the tokens outside of the functions in what is read.
pub reading_owned : (m : Nonterminal) (ts rest : List Terminal) (v : Value m) → reads m ts ≡ Got v rest
    → OwnedBy (owns m ts) m ts v rest
unfolding reads_by
reading_owned m ts rest v is = owned_to (enough ts) m ts rest v is

-- and so where several symbols are read
pub symbols_owned : (xs : List Symbol) (ts rest : List Terminal) (p : Parts Value xs)
    → read_all reads xs ts ≡ Got p rest
    → AllOwned owns xs ts p rest
symbols_owned = all_owned reads owns reading_owned

-- Readings of several symbols, one behind the other.
use Rattle.std.proofs.Common.{◌≡◌, ℕ, true, false, if◌then◌else◌, List, [], ◌∷◌, ◌++◌, refl, ap, sym, ◌∙◌, subst}
use Rattle.std.proofs.Common.{append_assoc}
use Rattle.hz_tree.specs.declared.class.Class.{Class}
use Rattle.hz_tree.specs.declared.nonterminal.Nonterminal.{Nonterminal}
use Rattle.hz_tree.specs.declared.symbol.Symbol.{Symbol}
use Rattle.hz_tree.specs.declared.symbol.Symbol.TheVariants as s
use Rattle.hz_tree.specs.grammar.Classes.{fits}
use Rattle.hz_tree.specs.grammar.Look.{Terminal, look, stuck}
use Rattle.hz_tree.specs.grammar.Symbols.{Part, Parts, Value}
use Rattle.hz_tree.specs.grammar.Table.{row}
use Rattle.hz_tree.specs.reading.Reading.{Reading, Got, Stuck, Deeper, and_then, takes, Reader, read_one, read_all}
use Rattle.hz_tree.specs.reading.Reading.{told_ahead, reads_to, reads_by, enough, reads}
use Rattle.hz_laws.specs.Middle.{Balances, hole}
use Rattle.hz_laws.proofs.Balance.{Then, then_got, got_rest, reading_balance}
use Rattle.hz_laws.proofs.Depth.{Ends, same_depth}
use Rattle.hz_laws.proofs.ReadingLaws.{reads_ends}
use Rattle.hz_cuts.specs.Skips.{front_parts}

-- ---- readings of several symbols

abbrev pub value_of : {A : Type 0} → A → Reading A → A
value_of other (Got v rest) = v
value_of other (Stuck cause ts) = other
value_of other Deeper = other

-- the parts behind those of the first symbols
abbrev pub back_parts : (front others : List Symbol) → Parts Value (front ++ others) → Parts Value others
back_parts [] others parts = parts
back_parts (symbol ∷ more) others parts = back_parts more others parts.1

-- one symbol, and others behind it
pub record Cons (trees : Reader Value) (x : Symbol) (xs : List Symbol) (ts : List Terminal) (p : Parts Value (x ∷ xs))
    (rest : List Terminal) : Type 0 where
  pub mid : List Terminal
  pub first : read_one trees x ts ≡ Got p.0 mid
  pub others : read_all trees xs mid ≡ Got p.1 rest

pub cons_got : (trees : Reader Value) (x : Symbol) (xs : List Symbol) (ts : List Terminal) (p : Parts Value (x ∷ xs))
    (rest : List Terminal)
    → read_all trees (x ∷ xs) ts ≡ Got p rest → Cons trees x xs ts p rest
cons_got trees x xs ts p rest h =
    let one : Then (read_one trees x ts) _ p rest = then_got (read_one trees x ts) _ p rest h in
    let more : Then (read_all trees xs one.mid) _ p rest = then_got (read_all trees xs one.mid) _ p rest one.goes_on in
    let same : (one.first, more.first) ≡ p = ap (value_of p) more.goes_on in
    record {
      mid = one.mid;
      first = one.got ∙ ap (λ q. Got q.0 one.mid) same;
      others =
          more.got
          ∙ ap (λ q. Got q.1 more.mid) same
          ∙ ap (Got p.1) (got_rest (one.first, more.first) p more.mid rest more.goes_on);
    }

-- Tells are left out of what is read.
abbrev pub untold : List Symbol → List Symbol
untold [] = []
untold (s.Take wanted ∷ more) = s.Take wanted ∷ untold more
untold (s.Read m ∷ more) = s.Read m ∷ untold more
untold (s.Tell signal ∷ more) = untold more

abbrev pub untold_parts : (right : List Symbol) → Parts Value right → Parts Value (untold right)
untold_parts [] parts = tt
untold_parts (s.Take wanted ∷ more) parts = (parts.0, untold_parts more parts.1)
untold_parts (s.Read m ∷ more) parts = (parts.0, untold_parts more parts.1)
untold_parts (s.Tell signal ∷ more) parts = untold_parts more parts.1

pub cons_makes : (x : Symbol) (xs : List Symbol) (ts mid rest : List Terminal) (v : Part Value x) (vs : Parts Value xs)
    → read_one reads x ts ≡ Got v mid → read_all reads xs mid ≡ Got vs rest
    → read_all reads (x ∷ xs) ts ≡ Got (v, vs) rest
cons_makes x xs ts mid rest v vs h i =
    ap (λ r. and_then r (λ w us. and_then (read_all reads xs us) (λ ws end. Got (w, ws) end))) h
    ∙ ap (λ r. and_then r (λ ws end. Got (v, ws) end)) i

pub untold_read : (right : List Symbol) (ts rest : List Terminal) (p : Parts Value right)
    → read_all reads right ts ≡ Got p rest → read_all reads (untold right) ts ≡ Got (untold_parts right p) rest
untold_read [] ts rest p h = h
untold_read (s.Take wanted ∷ more) ts rest p h =
    let c : Cons reads (s.Take wanted) more ts p rest = cons_got reads (s.Take wanted) more ts p rest h in
    cons_makes (s.Take wanted) (untold more) ts c.mid rest p.0 (untold_parts more p.1) c.first
    (untold_read more c.mid rest p.1 c.others)
untold_read (s.Read m ∷ more) ts rest p h =
    let c : Cons reads (s.Read m) more ts p rest = cons_got reads (s.Read m) more ts p rest h in
    cons_makes (s.Read m) (untold more) ts c.mid rest p.0 (untold_parts more p.1) c.first
    (untold_read more c.mid rest p.1 c.others)
untold_read (s.Tell signal ∷ more) ts rest p h =
    let c : Cons reads (s.Tell signal) more ts p rest = cons_got reads (s.Tell signal) more ts p rest h in
    untold_read more ts rest p.1
    (ap (read_all reads more) (got_rest (told_ahead ts) p.0 ts c.mid c.first) ∙ c.others)

-- some symbols, and others behind them
pub record Split (xs ys : List Symbol) (ts : List Terminal) (p : Parts Value (xs ++ ys)) (rest : List Terminal)
    : Type 0 where
  pub mid : List Terminal
  pub first : read_all reads xs ts ≡ Got (front_parts xs ys p) mid
  pub others : read_all reads ys mid ≡ Got (back_parts xs ys p) rest

pub split_read : (xs ys : List Symbol) (ts rest : List Terminal) (p : Parts Value (xs ++ ys))
    → read_all reads (xs ++ ys) ts ≡ Got p rest → Split xs ys ts p rest
split_read [] ys ts rest p h = record { mid = ts; first = refl; others = h }
split_read (x ∷ xs) ys ts rest p h =
    let c : Cons reads x (xs ++ ys) ts p rest = cons_got reads x (xs ++ ys) ts p rest h in
    let more : Split xs ys c.mid p.1 rest = split_read xs ys c.mid rest p.1 c.others in
    record {
      mid = more.mid;
      first = cons_makes x xs ts c.mid more.mid p.0 (front_parts xs ys p.1) c.first more.first;
      others = more.others;
    }

-- ---- what is left is a suffix

pub record Suffix (ts rest : List Terminal) : Type 0 where
  pub passed : List Terminal
  pub split : ts ≡ passed ++ rest

took : (wanted : Class) (ts : List Terminal) (v : Terminal) (mid : List Terminal) → takes wanted ts ≡ Got v mid
    → Suffix ts mid
took wanted [] v mid h = cc
took wanted (y ∷ ts) v mid h =
    elim (fits wanted y.class)
    as (λ b. (if b then Got y ts else Stuck (stuck (look (y ∷ ts))) (y ∷ ts)) ≡ Got v mid → Suffix (y ∷ ts) mid) [
      | true ↦ λ e. record { passed = y ∷ []; split = ap (λ us. y ∷ us) (got_rest y v ts mid e) }
      | false ↦ λ e. cc
    ] h

pub same_suffix : (ts rest : List Terminal) → ts ≡ rest → Suffix ts rest
same_suffix ts rest h = record { passed = []; split = h }

pub suffix_then : (ts mid rest : List Terminal) → Suffix ts mid → Suffix mid rest → Suffix ts rest
suffix_then ts mid rest h i = record {
  passed = h.passed ++ i.passed;
  split = h.split ∙ ap (λ us. h.passed ++ us) i.split ∙ sym (append_assoc h.passed i.passed rest);
}

pub one_suffix : (x : Symbol) (ts mid : List Terminal) (v : Part Value x) → read_one reads x ts ≡ Got v mid
    → Suffix ts mid
one_suffix (s.Take wanted) ts mid v h = took wanted ts v mid h
one_suffix (s.Read m) ts mid v h =
    let b : Balances (hole m) ts mid = reading_balance m ts mid v h in record { passed = b.passed; split = b.split }
one_suffix (s.Tell signal) ts mid v h = same_suffix ts mid (got_rest (told_ahead ts) v ts mid h)

pub all_suffix : (xs : List Symbol) (ts rest : List Terminal) (p : Parts Value xs) → read_all reads xs ts ≡ Got p rest
    → Suffix ts rest
all_suffix [] ts rest p h = same_suffix ts rest (got_rest tt p ts rest h)
all_suffix (x ∷ xs) ts rest p h =
    let c : Cons reads x xs ts p rest = cons_got reads x xs ts p rest h in
    suffix_then ts c.mid rest (one_suffix x ts c.mid p.0 c.first) (all_suffix xs c.mid rest p.1 c.others)

-- ---- readings of a bounded depth

module _ (trees : Reader Value)
    (same : (m : Nonterminal) (ts rest : List Terminal) (v : Value m) → trees m ts ≡ Got v rest
    → reads m ts ≡ Got v rest) where
  pub one_same : (x : Symbol) (ts rest : List Terminal) (v : Part Value x) → read_one trees x ts ≡ Got v rest
      → read_one reads x ts ≡ Got v rest
  one_same (s.Take wanted) ts rest v h = h
  one_same (s.Read m) ts rest v h = same m ts rest v h
  one_same (s.Tell signal) ts rest v h = h

  pub all_same : (xs : List Symbol) (ts rest : List Terminal) (p : Parts Value xs) → read_all trees xs ts ≡ Got p rest
      → read_all reads xs ts ≡ Got p rest
  all_same [] ts rest p h = h
  all_same (x ∷ xs) ts rest p h =
      let c : Cons trees x xs ts p rest = cons_got trees x xs ts p rest h in
      cons_makes x xs ts c.mid rest p.0 p.1 (one_same x ts c.mid p.0 c.first) (all_same xs c.mid rest p.1 c.others)

ends_got : {A : Type 0} (r : Reading A) (v : A) (rest : List Terminal) → r ≡ Got v rest → Ends r
ends_got r v rest h = subst Ends (sym h) tt

pub to_reads : (d : ℕ) (m : Nonterminal) (ts rest : List Terminal) (v : Value m) → reads_to row d m ts ≡ Got v rest
    → reads m ts ≡ Got v rest
unfolding reads_by
to_reads d m ts rest v h =
    sym (same_depth row d (enough ts) m ts (ends_got (reads_to row d m ts) v rest h) (reads_ends m ts)) ∙ h

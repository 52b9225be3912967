-- Where each row is cut, the reading gives what the reading by the grammar's own rows gives, and that cut.
use Rattle.std.proofs.Common.{◌≡◌, ℕ, zero, suc, List, [], ◌∷◌, ◌++◌, Option, Some, None, refl, ap, sym, ◌∙◌}
use Rattle.hz_tree.specs.declared.class.Class.{Class}
use Rattle.hz_tree.specs.declared.index.FunctionInfo.{FunctionInfo}
use Rattle.hz_tree.specs.declared.nonterminal.Nonterminal.{Nonterminal}
use Rattle.hz_tree.specs.declared.symbol.Symbol.{Symbol}
use Rattle.hz_tree.specs.declared.symbol.Symbol.TheVariants as s
use Rattle.hz_tree.specs.grammar.Look.{Terminal, look}
use Rattle.hz_tree.specs.grammar.Symbols.{Part, Parts, goes, refuses, Value, Row}
use Rattle.hz_tree.specs.grammar.Table.{row}
use Rattle.hz_tree.specs.reading.Reading.{Reading, Got, Stuck, Deeper, and_then, takes, Reader, read_one, read_all}
use Rattle.hz_tree.specs.reading.Reading.{by_row, reads_to, reads_by, enough, reads}
use Rattle.hz_cuts.specs.Cuts.{cut_value, cut_part, cut_parts}
use Rattle.hz_cuts.specs.Rows.{KeepsRow, SkipsRow, CutsRow, cut_by, cut_row, cut_reading}
use Rattle.hz_cuts.specs.Skips.{Skip, inside, whole, front_parts, skip_of}
use Rattle.hz_cuts.proofs.RowCuts.{rows_cut}

-- The parts before others are cut as they are in the whole.
pub cut_front : (functions : List FunctionInfo) (front others : List Symbol) (p : Parts Value (front ++ others))
    → front_parts front others (cut_parts functions (front ++ others) p)
    ≡ cut_parts functions front (front_parts front others p)
cut_front functions [] others p = refl
cut_front functions (x ∷ xs) others p =
    ap (λ more. (cut_part functions x p.0, more)) (cut_front functions xs others p.1)

-- ---- parts

abbrev cut_one : List FunctionInfo → (symbol : Symbol) → Reading (Part Value symbol) → Reading (Part Value symbol)
cut_one functions symbol (Got v rest) = Got (cut_part functions symbol v) rest
cut_one functions symbol (Stuck cause ts) = Stuck cause ts
cut_one functions symbol Deeper = Deeper

abbrev cut_each : List FunctionInfo → (right : List Symbol) → Reading (Parts Value right) → Reading (Parts Value right)
cut_each functions right (Got vs rest) = Got (cut_parts functions right vs) rest
cut_each functions right (Stuck cause ts) = Stuck cause ts
cut_each functions right Deeper = Deeper

cut_token : (functions : List FunctionInfo) (wanted : Class) (r : Reading Terminal)
    → r ≡ cut_one functions (s.Take wanted) r
cut_token functions wanted (Got v rest) = refl
cut_token functions wanted (Stuck cause ts) = refl
cut_token functions wanted Deeper = refl

cut_read : (functions : List FunctionInfo) (m : Nonterminal) (r : Reading (Value m))
    → cut_reading functions m r ≡ cut_one functions (s.Read m) r
cut_read functions m (Got v rest) = refl
cut_read functions m (Stuck cause ts) = refl
cut_read functions m Deeper = refl

cut_cons : (functions : List FunctionInfo) (x : Symbol) (xs : List Symbol) (v : Part Value x)
    (r : Reading (Parts Value xs))
    → and_then (cut_each functions xs r) (λ vs end. Got (cut_part functions x v, vs) end)
    ≡ cut_each functions (x ∷ xs) (and_then r (λ vs end. Got (v, vs) end))
cut_cons functions x xs v (Got vs end) = refl
cut_cons functions x xs v (Stuck cause ts) = refl
cut_cons functions x xs v Deeper = refl

-- ---- rows

module _ (functions : List FunctionInfo) (whole_reads cut_reads : Reader Value)
    (same : (m : Nonterminal) (ts : List Terminal) → cut_reads m ts ≡ cut_reading functions m (whole_reads m ts)) where
  one_cut : (x : Symbol) (ts : List Terminal)
      → read_one cut_reads x ts ≡ cut_one functions x (read_one whole_reads x ts)
  one_cut (s.Take wanted) ts = cut_token functions wanted (takes wanted ts)
  one_cut (s.Read m) ts = same m ts ∙ cut_read functions m (whole_reads m ts)
  one_cut (s.Tell signal) ts = refl

  then_cut : (x : Symbol) (xs : List Symbol) (r : Reading (Part Value x))
      → ((ts : List Terminal) → read_all cut_reads xs ts ≡ cut_each functions xs (read_all whole_reads xs ts))
      → and_then (cut_one functions x r) (λ v rest. and_then (read_all cut_reads xs rest) (λ vs end. Got (v, vs) end))
      ≡ cut_each functions (x ∷ xs)
      (and_then r (λ v rest. and_then (read_all whole_reads xs rest) (λ vs end. Got (v, vs) end)))
  then_cut x xs (Got v rest) h =
      ap (λ y. and_then y (λ vs end. Got (cut_part functions x v, vs) end)) (h rest)
      ∙ cut_cons functions x xs v (read_all whole_reads xs rest)
  then_cut x xs (Stuck cause ts) h = refl
  then_cut x xs Deeper h = refl

  all_cut : (xs : List Symbol) (ts : List Terminal)
      → read_all cut_reads xs ts ≡ cut_each functions xs (read_all whole_reads xs ts)
  all_cut [] ts = refl
  all_cut (x ∷ xs) ts =
      ap (λ y. and_then y (λ v rest. and_then (read_all cut_reads xs rest) (λ vs end. Got (v, vs) end)))
      (one_cut x ts)
      ∙ then_cut x xs (read_one whole_reads x ts) (all_cut xs)

  made_cut : (m : Nonterminal) (right : List Symbol) (make made : Parts Value right → Value m)
      (r : Reading (Parts Value right))
      → ((p : Parts Value right) → cut_value functions m (make p) ≡ made (cut_parts functions right p))
      → and_then (cut_each functions right r) (λ vs rest. Got (made vs) rest)
      ≡ cut_reading functions m (and_then r (λ vs rest. Got (make vs) rest))
  made_cut m right make made (Got vs rest) h = ap (λ v. Got v rest) (sym (h vs))
  made_cut m right make made (Stuck cause ts) h = refl
  made_cut m right make made Deeper h = refl

  goes_cut : (m : Nonterminal) (right : List Symbol) (make made : Parts Value right → Value m) (ts : List Terminal)
      → ((p : Parts Value right) → cut_value functions m (make p) ≡ made (cut_parts functions right p))
      → by_row cut_reads m (goes right made) ts ≡ cut_reading functions m (by_row whole_reads m (goes right make) ts)
  goes_cut m right make made ts h =
      ap (λ y. and_then y (λ vs rest. Got (made vs) rest)) (all_cut right ts)
      ∙ made_cut m right make made (read_all whole_reads right ts) h

  keeps_cut : (m : Nonterminal) (r : Row m) (ts : List Terminal) → KeepsRow functions m r
      → by_row cut_reads m r ts ≡ cut_reading functions m (by_row whole_reads m r ts)
  keeps_cut m (goes right make) ts h = goes_cut m right make make ts h.1
  keeps_cut m (refuses cause) ts h = refl

  skips_cut : (m : Nonterminal) (r : Row m) (skip : Skip m) (ts : List Terminal) → SkipsRow functions m r skip
      → by_row cut_reads m (cut_by m r (Some skip)) ts ≡ cut_reading functions m (by_row whole_reads m r ts)
  skips_cut m r skip ts h =
      goes_cut m (whole skip) h.make (λ p. skip.make (front_parts skip.front (inside skip) p)) ts
      (λ p. h.made p ∙ ap skip.make (sym (cut_front functions skip.front (inside skip) p)))
      ∙ ap (λ x. cut_reading functions m (by_row whole_reads m x ts)) (sym h.same)

  row_cut : (m : Nonterminal) (r : Row m) (skip : Option (Skip m)) (ts : List Terminal) → CutsRow functions m r skip
      → by_row cut_reads m (cut_by m r skip) ts ≡ cut_reading functions m (by_row whole_reads m r ts)
  row_cut m r None ts h = keeps_cut m r ts h
  row_cut m r (Some skip) ts h = skips_cut m r skip ts h

-- ---- readings

cut_to : (functions : List FunctionInfo) (d : ℕ) (m : Nonterminal) (ts : List Terminal)
    → reads_to (cut_row functions) d m ts ≡ cut_reading functions m (reads_to row d m ts)
unfolding reads_to
cut_to functions zero m ts = refl
cut_to functions (suc d) m ts =
    row_cut functions (reads_to row d) (reads_to (cut_row functions) d) (cut_to functions d) m (row m (look ts))
    (skip_of functions m (look ts)) ts (rows_cut functions m (look ts))

pub reads_cut : (functions : List FunctionInfo) (m : Nonterminal) (ts : List Terminal)
    → reads_by (cut_row functions) m ts ≡ cut_reading functions m (reads m ts)
unfolding reads_by
reads_cut functions m ts = cut_to functions (enough ts) m ts

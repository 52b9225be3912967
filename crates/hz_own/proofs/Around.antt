-- Where a function opens and where it ends in the reading of its row, and how the row's tokens count.
use Rattle.std.proofs.Common.{◌≡◌, Bool, true, false, not, List, ◌∷◌, refl, ap, ◌∙◌, arith}
use Rattle.hz_tree.specs.declared.signal.Signal.{Signal}
use Rattle.hz_tree.specs.declared.signal.Signal.TheVariants as tell
use Rattle.hz_tree.specs.declared.symbol.Symbol.TheVariants as s
use Rattle.hz_tree.specs.grammar.Look.{Terminal}
use Rattle.hz_tree.specs.grammar.Signals.{Told}
use Rattle.hz_tree.specs.grammar.Symbols.{Parts, Value}
use Rattle.hz_tree.specs.reading.Reading.{Got, Reader, read_all, told_ahead}
use Rattle.hz_laws.proofs.Ranks.{opens, and_left, and_right}
use Rattle.hz_cuts.specs.Rows.{is_close, some_symbol, all_plain}
use Rattle.hz_cuts.specs.Skips.{front_parts}
use Rattle.hz_stands.proofs.Opening.{is_open, Sides, to_close, from_open, side, opened, behind_open, own_parts, closed}
use Rattle.hz_stands.proofs.Opening.{opens_once}
use Rattle.hz_stands.proofs.Several.{back_parts}
use Rattle.hz_own.specs.Owned.{Owned, open_behind, counted_from, counted}
use Rattle.hz_own.proofs.Counts.{joined, Halves, halves, Heard, heard, summed, counted_lead, counted_inside}
use Rattle.hz_own.proofs.Counts.{counted_back}

-- from `from` to `left` the function's own symbols are read
pub record Around (trees : Reader Value) (x : Sides) (ts : List Terminal) (p : Parts Value (side x))
    (rest : List Terminal) : Type 0 where
  pub from : List Terminal
  pub left : List Terminal
  pub lead : read_all trees x.lead ts ≡ Got (front_parts x.lead (from_open x) p) from
  pub opened : opened x p ≡ told_ahead from
  pub own : read_all trees x.own from ≡ Got (own_parts x p) left
  pub closed : closed x p ≡ told_ahead left
  pub back : read_all trees x.back left ≡ Got (back_parts x.own (s.Tell tell.Close ∷ x.back) (behind_open x p)).1 rest

pub around : (trees : Reader Value) (x : Sides) (ts rest : List Terminal) (p : Parts Value (side x))
    → read_all trees (side x) ts ≡ Got p rest → Around trees x ts p rest
around trees x ts rest p h =
    let outer = back_parts x.lead (from_open x) p in
    let a : Halves trees x.lead (from_open x) ts p rest = halves trees x.lead (from_open x) ts rest p h in
    let b : Heard trees (to_close x) a.mid outer.0 outer.1 rest =
    heard trees x.signal (to_close x) a.mid rest outer a.others in
    let c : Halves trees x.own (s.Tell tell.Close ∷ x.back) a.mid (behind_open x p) rest =
    halves trees x.own (s.Tell tell.Close ∷ x.back) a.mid rest (behind_open x p) b.others in
    let inner = back_parts x.own (s.Tell tell.Close ∷ x.back) (behind_open x p) in
    let d : Heard trees x.back c.mid inner.0 inner.1 rest = heard trees tell.Close x.back c.mid rest inner c.others in
    record {
      from = a.mid;
      left = c.mid;
      lead = a.first;
      opened = b.here;
      own = c.first;
      closed = d.here;
      back = d.others;
    }

-- ---- what counts

negated : (a : Bool) → not a ≡ true → a ≡ false
negated true h = cc
negated false h = refl

pub record Once (x : Sides) : Type 0 where
  pub lead : some_symbol is_open x.lead ≡ false
  pub signal : opens x.signal ≡ true
  pub own : some_symbol is_close x.own ≡ false
  pub back : all_plain x.back ≡ true

pub once : (x : Sides) → opens_once x ≡ true → Once x
once x h =
    let others = and_right (not (some_symbol is_open x.lead)) _ h in
    let behind = and_right (opens x.signal) _ others in
    record {
      lead = negated (some_symbol is_open x.lead) (and_left _ _ h);
      signal = and_left (opens x.signal) _ others;
      own = negated (some_symbol is_close x.own) (and_left _ _ behind);
      back = and_right (not (some_symbol is_close x.own)) (all_plain x.back) behind;
    }

open_behind_open : (signal : Signal) → opens signal ≡ true → open_behind signal false ≡ true
open_behind_open (tell.Open node kind) h = refl
open_behind_open _ h = cc

abbrev pub close_parts : (x : Sides) → (here : Told) → Parts Owned x.back → Parts Owned (s.Tell tell.Close ∷ x.back)
close_parts x here back = (here, back)

-- the counts of the row, from those of its lead, of the function and of what stands behind
abbrev pub open_parts : (x : Sides) → (here there : Told) → Parts Owned x.own → Parts Owned x.back →
    Parts Owned (from_open x)
open_parts x here there own back =
    (here, joined x.own (s.Tell tell.Close ∷ x.back) own (close_parts x there back))

-- only what stands in the lead counts
pub side_counted : (x : Sides) (here there : Told) (lead : Parts Owned x.lead) (own : Parts Owned x.own)
    (back : Parts Owned x.back) → Once x
    → counted (side x) (joined x.lead (from_open x) lead (open_parts x here there own back)) ≡ summed x.lead lead
side_counted x here there lead own back h =
    let inner = joined x.own (s.Tell tell.Close ∷ x.back) own (close_parts x there back) in
    let none : counted_from (open_behind x.signal false) (to_close x) inner ≡ 0 =
    ap (λ o. counted_from o (to_close x) inner) (open_behind_open x.signal h.signal)
    ∙ counted_inside x.own (s.Tell tell.Close ∷ x.back) own (close_parts x there back) h.own
    ∙ counted_back x.back back h.back in
    let all = counted_lead x.lead (from_open x) lead (open_parts x here there own back) h.lead in
    omega (arith, none, all)

-- Readings of several symbols, and how their tokens count.
use Rattle.std.proofs.Common.{◌≡◌, ℕ, ◌+◌, Bool, true, false, ◌||◌, List, [], ◌∷◌, ◌++◌, refl, ap, sym, ◌∙◌, arith}
use Rattle.hz_tree.specs.declared.nonterminal.Nonterminal.{Nonterminal}
use Rattle.hz_tree.specs.declared.signal.Signal.{Signal}
use Rattle.hz_tree.specs.declared.signal.Signal.TheVariants as tell
use Rattle.hz_tree.specs.declared.symbol.Symbol.{Symbol}
use Rattle.hz_tree.specs.declared.symbol.Symbol.TheVariants as s
use Rattle.hz_tree.specs.grammar.Look.{Terminal}
use Rattle.hz_tree.specs.grammar.Signals.{Told}
use Rattle.hz_tree.specs.grammar.Symbols.{Part, Parts, Value}
use Rattle.hz_tree.specs.reading.Reading.{Got, and_then, Reader, read_one, read_all, told_ahead}
use Rattle.hz_laws.proofs.Balance.{got_rest}
use Rattle.hz_laws.proofs.Ranks.{opens, and_left, and_right}
use Rattle.hz_cuts.specs.Rows.{is_close, is_plain, some_symbol, all_plain}
use Rattle.hz_cuts.specs.Skips.{front_parts}
use Rattle.hz_stands.proofs.Opening.{is_open}
use Rattle.hz_stands.proofs.Several.{value_of, back_parts, Cons, cons_got}
use Rattle.hz_own.specs.Owned.{Owned, taken, open_behind, counted_from}

-- ---- readings

pub cons_reads : {V : Nonterminal → Type 0} (reader : Reader V) (x : Symbol) (xs : List Symbol)
    (ts mid rest : List Terminal) (v : Part V x) (vs : Parts V xs) → read_one reader x ts ≡ Got v mid
    → read_all reader xs mid ≡ Got vs rest → read_all reader (x ∷ xs) ts ≡ Got (v, vs) rest
cons_reads reader x xs ts mid rest v vs h i =
    ap (λ r. and_then r (λ w us. and_then (read_all reader xs us) (λ ws end. Got (w, ws) end))) h
    ∙ ap (λ r. and_then r (λ ws end. Got (v, ws) end)) i

abbrev pub joined : (xs ys : List Symbol) → Parts Owned xs → Parts Owned ys → Parts Owned (xs ++ ys)
joined [] ys a b = b
joined (x ∷ xs) ys a b = (a.0, joined xs ys a.1 b)

-- some symbols, and others behind them
pub record Halves (trees : Reader Value) (xs ys : List Symbol) (ts : List Terminal) (p : Parts Value (xs ++ ys))
    (rest : List Terminal) : Type 0 where
  pub mid : List Terminal
  pub first : read_all trees xs ts ≡ Got (front_parts xs ys p) mid
  pub others : read_all trees ys mid ≡ Got (back_parts xs ys p) rest

pub halves : (trees : Reader Value) (xs ys : List Symbol) (ts rest : List Terminal) (p : Parts Value (xs ++ ys))
    → read_all trees (xs ++ ys) ts ≡ Got p rest → Halves trees xs ys ts p rest
halves trees [] ys ts rest p h = record { mid = ts; first = refl; others = h }
halves trees (x ∷ xs) ys ts rest p h =
    let c : Cons trees x (xs ++ ys) ts p rest = cons_got trees x (xs ++ ys) ts p rest h in
    let more : Halves trees xs ys c.mid p.1 rest = halves trees xs ys c.mid rest p.1 c.others in
    record {
      mid = more.mid;
      first = cons_reads trees x xs ts c.mid more.mid p.0 (front_parts xs ys p.1) c.first more.first;
      others = more.others;
    }

-- what is told, and others behind it
pub record Heard (trees : Reader Value) (more : List Symbol) (ts : List Terminal) (told : Told) (p : Parts Value more)
    (rest : List Terminal) : Type 0 where
  pub here : told ≡ told_ahead ts
  pub others : read_all trees more ts ≡ Got p rest

pub heard : (trees : Reader Value) (signal : Signal) (more : List Symbol) (ts rest : List Terminal)
    (p : Parts Value (s.Tell signal ∷ more)) → read_all trees (s.Tell signal ∷ more) ts ≡ Got p rest
    → Heard trees more ts p.0 p.1 rest
heard trees signal more ts rest p h =
    let c : Cons trees (s.Tell signal) more ts p rest = cons_got trees (s.Tell signal) more ts p rest h in
    record {
      here = sym (ap (value_of p.0) c.first);
      others = ap (read_all trees more) (got_rest (told_ahead ts) p.0 ts c.mid c.first) ∙ c.others;
    }

-- nothing is read behind a function
pub back_stays : (trees : Reader Value) (xs : List Symbol) (ts rest : List Terminal) (p : Parts Value xs)
    → all_plain xs ≡ true → read_all trees xs ts ≡ Got p rest → ts ≡ rest
back_stays trees [] ts rest p h is = got_rest tt p ts rest is
back_stays trees (s.Take wanted ∷ more) ts rest p h is = cc
back_stays trees (s.Read m ∷ more) ts rest p h is = cc
back_stays trees (s.Tell signal ∷ more) ts rest p h is =
    back_stays trees more ts rest p.1 (and_right (is_plain (s.Tell signal)) (all_plain more) h)
    (heard trees signal more ts rest p is).others

-- ---- counts

-- all that is counted, wherever it stands
abbrev pub summed : (right : List Symbol) → Parts Owned right → ℕ
summed [] counts = 0
summed (s.Take wanted ∷ more) counts = taken wanted + summed more counts.1
summed (s.Read m ∷ more) counts = counts.0 + summed more counts.1
summed (s.Tell signal ∷ more) counts = summed more counts.1

or_left : (a b : Bool) → (a || b) ≡ false → a ≡ false
or_left true b h = h
or_left false b h = refl

or_right : (a b : Bool) → (a || b) ≡ false → b ≡ false
or_right true b h = cc
or_right false b h = h

none_open : (signal : Signal) → opens signal ≡ false → open_behind signal false ≡ false
none_open (tell.Open node kind) h = cc
none_open _ h = refl

still_open : (signal : Signal) → is_close (s.Tell signal) ≡ false → open_behind signal true ≡ true
still_open tell.Close h = cc
still_open _ h = refl

plain_closed : (signal : Signal) → is_plain (s.Tell signal) ≡ true → open_behind signal false ≡ false
plain_closed (tell.Open node kind) h = cc
plain_closed _ h = refl

pub counted_plain : (right : List Symbol) (counts : Parts Owned right) → some_symbol is_open right ≡ false
    → counted_from false right counts ≡ summed right counts
counted_plain [] counts h = refl
counted_plain (s.Take wanted ∷ more) counts h = ap (λ n. taken wanted + n) (counted_plain more counts.1 h)
counted_plain (s.Read m ∷ more) counts h = ap (λ n. counts.0 + n) (counted_plain more counts.1 h)
counted_plain (s.Tell signal ∷ more) counts h =
    ap (λ b. counted_from b more counts.1)
    (none_open signal (or_left (opens signal) (some_symbol is_open more) h))
    ∙ counted_plain more counts.1 (or_right (opens signal) (some_symbol is_open more) h)

pub counted_lead : (xs ys : List Symbol) (a : Parts Owned xs) (b : Parts Owned ys) → some_symbol is_open xs ≡ false
    → counted_from false (xs ++ ys) (joined xs ys a b) ≡ summed xs a + counted_from false ys b
counted_lead [] ys a b h = omega arith
counted_lead (s.Take wanted ∷ more) ys a b h =
    let later = counted_lead more ys a.1 b h in omega (arith, later)
counted_lead (s.Read m ∷ more) ys a b h = let later = counted_lead more ys a.1 b h in omega (arith, later)
counted_lead (s.Tell signal ∷ more) ys a b h =
    ap (λ o. counted_from o (more ++ ys) (joined more ys a.1 b))
    (none_open signal (or_left (opens signal) (some_symbol is_open more) h))
    ∙ counted_lead more ys a.1 b (or_right (opens signal) (some_symbol is_open more) h)

pub counted_inside : (xs ys : List Symbol) (a : Parts Owned xs) (b : Parts Owned ys) → some_symbol is_close xs ≡ false
    → counted_from true (xs ++ ys) (joined xs ys a b) ≡ counted_from true ys b
counted_inside [] ys a b h = refl
counted_inside (s.Take wanted ∷ more) ys a b h =
    let later = counted_inside more ys a.1 b h in omega (arith, later)
counted_inside (s.Read m ∷ more) ys a b h = let later = counted_inside more ys a.1 b h in omega (arith, later)
counted_inside (s.Tell signal ∷ more) ys a b h =
    ap (λ o. counted_from o (more ++ ys) (joined more ys a.1 b))
    (still_open signal (or_left (is_close (s.Tell signal)) (some_symbol is_close more) h))
    ∙ counted_inside more ys a.1 b (or_right (is_close (s.Tell signal)) (some_symbol is_close more) h)

pub counted_back : (xs : List Symbol) (b : Parts Owned xs) → all_plain xs ≡ true → counted_from false xs b ≡ 0
counted_back [] b h = refl
counted_back (s.Take wanted ∷ more) b h = cc
counted_back (s.Read m ∷ more) b h = cc
counted_back (s.Tell signal ∷ more) b h =
    ap (λ o. counted_from o more b.1) (plain_closed signal (and_left (is_plain (s.Tell signal)) (all_plain more) h))
    ∙ counted_back more b.1 (and_right (is_plain (s.Tell signal)) (all_plain more) h)

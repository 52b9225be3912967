-- Readings of several symbols, in parts.
use Rattle.std.proofs.Common.{◌≡◌, List, [], ◌∷◌, ◌++◌, refl, ap, ◌∙◌}
use Rattle.hz_tree.specs.declared.nonterminal.Nonterminal.{Nonterminal}
use Rattle.hz_tree.specs.declared.symbol.Symbol.{Symbol}
use Rattle.hz_tree.specs.grammar.Look.{Terminal}
use Rattle.hz_tree.specs.grammar.Symbols.{Parts}
use Rattle.hz_tree.specs.reading.Reading.{Reading, Got, Stuck, Deeper, and_then, Reader, read_one, read_all}
use Rattle.hz_laws.proofs.Balance.{Then, then_got, got_rest}

abbrev value_of : {A : Type 0} → A → Reading A → A
value_of other (Got v rest) = v
value_of other (Stuck cause ts) = other
value_of other Deeper = other

pub got_value : {A : Type 0} (v w : A) (ts us : List Terminal) → Got v ts ≡ Got w us → v ≡ w
got_value v w ts us h = ap (value_of v) h

-- ---- one symbol, and others behind it

pub record Cons {V : Nonterminal → Type 0} (r : Reader V) (x : Symbol) (xs : List Symbol) (ts : List Terminal)
    (p : Parts V (x ∷ xs)) (rest : List Terminal) : Type 0 where
  pub mid : List Terminal
  pub first : read_one r x ts ≡ Got p.0 mid
  pub others : read_all r xs mid ≡ Got p.1 rest

pub cons : {V : Nonterminal → Type 0} (r : Reader V) (x : Symbol) (xs : List Symbol) (ts : List Terminal)
    (p : Parts V (x ∷ xs)) (rest : List Terminal) → read_all r (x ∷ xs) ts ≡ Got p rest → Cons r x xs ts p rest
cons r x xs ts p rest h =
    let one : Then (read_one r x ts) _ p rest = then_got (read_one r x ts) _ p rest h in
    let more : Then (read_all r xs one.mid) _ p rest = then_got (read_all r xs one.mid) _ p rest one.goes_on in
    let same : (one.first, more.first) ≡ p = got_value _ p _ rest more.goes_on in
    record {
      mid = one.mid;
      first = one.got ∙ ap (λ q. Got q.0 one.mid) same;
      others =
          more.got
          ∙ ap (λ q. Got q.1 more.mid) same
          ∙ ap (Got p.1) (got_rest (one.first, more.first) p more.mid rest more.goes_on);
    }

-- ---- some symbols, and others behind them

abbrev pub fronts : (V : Nonterminal → Type 0) → (xs ys : List Symbol) → Parts V (xs ++ ys) → Parts V xs
fronts V [] ys p = tt
fronts V (x ∷ xs) ys p = (p.0, fronts V xs ys p.1)

abbrev pub backs : (V : Nonterminal → Type 0) → (xs ys : List Symbol) → Parts V (xs ++ ys) → Parts V ys
backs V [] ys p = p
backs V (x ∷ xs) ys p = backs V xs ys p.1

pub record Split {V : Nonterminal → Type 0} (r : Reader V) (xs ys : List Symbol) (ts : List Terminal)
    (p : Parts V (xs ++ ys)) (rest : List Terminal) : Type 0 where
  pub mid : List Terminal
  pub first : read_all r xs ts ≡ Got (fronts V xs ys p) mid
  pub others : read_all r ys mid ≡ Got (backs V xs ys p) rest

cons_makes : {V : Nonterminal → Type 0} (r : Reader V) (x : Symbol) (xs : List Symbol) (ts mid rest : List Terminal)
    (p : Parts V (x ∷ xs)) → read_one r x ts ≡ Got p.0 mid → read_all r xs mid ≡ Got p.1 rest
    → read_all r (x ∷ xs) ts ≡ Got p rest
cons_makes r x xs ts mid rest p h i =
    ap (λ y. and_then y (λ w us. and_then (read_all r xs us) (λ ws end. Got (w, ws) end))) h
    ∙ ap (λ y. and_then y (λ ws end. Got (p.0, ws) end)) i

pub split : {V : Nonterminal → Type 0} (r : Reader V) (xs ys : List Symbol) (ts rest : List Terminal)
    (p : Parts V (xs ++ ys)) → read_all r (xs ++ ys) ts ≡ Got p rest → Split r xs ys ts p rest
split r [] ys ts rest p h = record { mid = ts; first = refl; others = h }
split {V = V} r (x ∷ xs) ys ts rest p h =
    let c : Cons r x (xs ++ ys) ts p rest = cons r x (xs ++ ys) ts p rest h in
    let more : Split r xs ys c.mid p.1 rest = split r xs ys c.mid rest p.1 c.others in
    record {
      mid = more.mid;
      first = cons_makes r x xs ts c.mid more.mid (fronts V (x ∷ xs) ys p) c.first more.first;
      others = more.others;
    }

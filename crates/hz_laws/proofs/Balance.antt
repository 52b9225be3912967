-- What is left of a reading is a suffix of the terminals, and the braces that were opened on the way are closed.
use Rattle.std.proofs.Common.{◌≡◌, ℕ, zero, suc, Bool, true, false, if◌then◌else◌, List, [], ◌∷◌, ◌++◌, refl, ap, sym}
use Rattle.std.proofs.Common.{subst, ◌∙◌, append_assoc}
use Rattle.hz_tree.specs.declared.class.Class.{Class}
use Rattle.hz_tree.specs.declared.nonterminal.Nonterminal.{Nonterminal}
use Rattle.hz_tree.specs.declared.symbol.Symbol.{Symbol}
use Rattle.hz_tree.specs.declared.symbol.Symbol.TheVariants as s
use Rattle.hz_tree.specs.grammar.Classes.{fits, class_of}
use Rattle.hz_tree.specs.grammar.Look.{Terminal, look, stuck, terminals_from}
use Rattle.hz_tree.specs.grammar.Symbols.{Parts, Value, Row, goes, refuses}
use Rattle.hz_tree.specs.grammar.Table.{row, step_of}
use Rattle.hz_tree.specs.reading.Reading.{Reading, Got, Stuck, Deeper, and_then, takes, Reader, read_all}
use Rattle.hz_tree.specs.reading.Reading.{by_row, reads_to, reads_by, enough, reads}
use Rattle.hz_tree.specs.tokens.Tokens.{Lexeme, braces}
use Rattle.hz_laws.specs.Middle.{Classed, braces_behind, closes_hole, hole_by, hole, Balances}
use Rattle.hz_laws.proofs.Braces.{Change, keeps, opens, closes, none, changed, change, is_token, token_changes}
use Rattle.hz_laws.proofs.Braces.{fits_changes, after_change, after_hole, balanced, is_balanced}
use Rattle.hz_laws.proofs.RowLaws.{rows_balanced}

-- ---- readings that give something

pub record Then {A B : Type 0} (r : Reading A) (next : A → List Terminal → Reading B) (v : B) (rest : List Terminal)
    : Type 0 where
  pub first : A
  pub mid : List Terminal
  pub got : r ≡ Got first mid
  pub goes_on : next first mid ≡ Got v rest

pub then_got : {A B : Type 0} (r : Reading A) (next : A → List Terminal → Reading B) (v : B) (rest : List Terminal)
    → and_then r next ≡ Got v rest → Then r next v rest
then_got (Got a mid) next v rest h = record { first = a; mid = mid; got = refl; goes_on = h }
then_got (Stuck cause ts) next v rest h = cc
then_got Deeper next v rest h = cc

abbrev pub rest_of : {A : Type 0} → Reading A → List Terminal
rest_of (Got v rest) = rest
rest_of (Stuck cause ts) = ts
rest_of Deeper = []

pub got_rest : {A : Type 0} (v w : A) (ts us : List Terminal) → Got v ts ≡ Got w us → ts ≡ us
got_rest v w ts us h = ap rest_of h

abbrev value_of : {A : Type 0} → A → Reading A → A
value_of other (Got v rest) = v
value_of other (Stuck cause ts) = other
value_of other Deeper = other

record Takes (wanted : Class) (ts : List Terminal) (x : Terminal) (rest : List Terminal) : Type 0 where
  split : ts ≡ x ∷ rest
  fitting : fits wanted x.class ≡ true

takes_got : (wanted : Class) (ts : List Terminal) (x : Terminal) (rest : List Terminal) → takes wanted ts ≡ Got x rest
    → Takes wanted ts x rest
takes_got wanted [] x rest h = cc
takes_got wanted (y ∷ ts) x rest h =
    elim (fits wanted y.class) as (λ b. fits wanted y.class ≡ b
    → (if b then Got y ts else Stuck (stuck (look (y ∷ ts))) (y ∷ ts)) ≡ Got x rest → Takes wanted (y ∷ ts) x rest) [
      | true ↦ λ e got. record {
        split = cc;
        fitting = subst (λ z. fits wanted z.class ≡ true) (ap (value_of y) got) e;
      }
      | false ↦ λ e got. cc
    ] refl h

-- ---- one token

record Follows (made : Change) (inner : List Bool) (test : List Bool → Bool) : Type 0 where
  now : List Bool
  tested : test now ≡ true
  token : is_token made ≡ true
  moved : (outer : List Bool) → changed made (inner ++ outer) ≡ now ++ outer

follows : (made : Change) (inner : List Bool) (test : List Bool → Bool) → after_change made inner test ≡ true
    → Follows made inner test
follows keeps inner test h = record { now = inner; tested = h; token = refl; moved = λ outer. refl }
follows (opens b) inner test h = record { now = b ∷ inner; tested = h; token = refl; moved = λ outer. refl }
follows closes [] test h = cc
follows closes (b ∷ inner) test h = record { now = inner; tested = h; token = refl; moved = λ outer. refl }
follows none inner test h = cc

-- braces behind a token that a row takes
token_braces : (wanted : Class) (x : Terminal) (opened : List Bool) → fits wanted x.class ≡ true
    → is_token (change wanted) ≡ true → x.class ≡ class_of x.token
    → braces x.token opened ≡ changed (change wanted) opened
token_braces wanted x opened h t same =
    let e : change (class_of x.token) ≡ change wanted = ap change (sym same) ∙ fits_changes wanted x.class h in
    token_changes x.token opened (ap is_token e ∙ t) ∙ ap (λ c. changed c opened) e

-- ---- several symbols

passed_append : (ps qs : List Terminal) (opened : List Bool)
    → braces_behind (ps ++ qs) opened ≡ braces_behind qs (braces_behind ps opened)
passed_append [] qs opened = refl
passed_append (p ∷ ps) qs opened = passed_append ps qs (braces p.token opened)

classed_first : (ps qs : List Terminal) → Classed (ps ++ qs) → Classed ps
classed_first [] qs h = tt
classed_first (p ∷ ps) qs h = (h.0, classed_first ps qs h.1)

classed_second : (ps qs : List Terminal) → Classed (ps ++ qs) → Classed qs
classed_second [] qs h = h
classed_second (p ∷ ps) qs h = classed_second ps qs h.1

nothing_balances : (ts : List Terminal) → Balances [] ts ts
nothing_balances ts = record { passed = []; split = refl; closed = λ h outer. refl }

-- a token, and what comes behind it
token_balances : {wanted : Class} {inner : List Bool} {ts rest mid : List Terminal} {x : Terminal}
    {test : List Bool → Bool} (f : Follows (change wanted) inner test)
    → Takes wanted ts x mid → Balances f.now mid rest → Balances inner ts rest
token_balances {wanted = wanted} {inner = inner} {x = x} f t b = record {
  passed = x ∷ b.passed;
  split = t.split ∙ ap (λ us. x ∷ us) b.split;
  closed = λ h outer.
      ap (braces_behind b.passed) (token_braces wanted x (inner ++ outer) t.fitting f.token h.0 ∙ f.moved outer)
      ∙ b.closed h.1 outer;
}

-- a reading, and what comes behind it
read_balances : {own inner : List Bool} {ts mid rest : List Terminal} → Balances own ts mid → Balances inner mid rest
    → Balances (own ++ inner) ts rest
read_balances {own = own} {inner = inner} {rest = rest} a b = record {
  passed = a.passed ++ b.passed;
  split = a.split ∙ ap (λ us. a.passed ++ us) b.split ∙ sym (append_assoc a.passed b.passed rest);
  closed = λ h outer.
      passed_append a.passed b.passed ((own ++ inner) ++ outer)
      ∙ ap (λ os. braces_behind b.passed (braces_behind a.passed os)) (append_assoc own inner outer)
      ∙ ap (braces_behind b.passed) (a.closed (classed_first a.passed b.passed h) (inner ++ outer))
      ∙ b.closed (classed_second a.passed b.passed h) outer;
}

-- the inner braces are those of a hole that closes, and others
record Splits (own inner : List Bool) (test : List Bool → Bool) : Type 0 where
  now : List Bool
  tested : test now ≡ true
  same : inner ≡ own ++ now

splits : (m : Nonterminal) (closed : Bool) (inner : List Bool) (test : List Bool → Bool)
    → closes_hole m ≡ closed → after_hole closed inner test ≡ true
    → Splits (hole m) inner test
splits m false inner test e h = record { now = inner; tested = h; same = sym (ap (λ b. hole_by b ++ inner) e) }
splits m true [] test e h = cc
splits m true (true ∷ inner) test e h =
    record { now = inner; tested = h; same = sym (ap (λ b. hole_by b ++ inner) e) }
splits m true (false ∷ inner) test e h = cc

module _ (trees : Reader Value)
    (balance : (m : Nonterminal) (ts : List Terminal) (v : Value m) (rest : List Terminal)
    → trees m ts ≡ Got v rest → Balances (hole m) ts rest) where
  all_balance : (right : List Symbol) (inner : List Bool) (ts : List Terminal) (vs : Parts Value right)
      (rest : List Terminal) → balanced inner right ≡ true → read_all trees right ts ≡ Got vs rest
      → Balances inner ts rest
  all_balance [] [] ts vs rest h is = subst (Balances [] ts) (got_rest tt vs ts rest is) (nothing_balances ts)
  all_balance [] (b ∷ inner) ts vs rest h is = cc
  all_balance (s.Take wanted ∷ more) inner ts vs rest h is =
      let f : Follows (change wanted) inner (λ now. balanced now more) =
      follows (change wanted) inner (λ now. balanced now more) h in
      let one : Then (takes wanted ts) _ vs rest = then_got (takes wanted ts) _ vs rest is in
      let others : Then (read_all trees more one.mid) _ vs rest =
      then_got (read_all trees more one.mid) _ vs rest one.goes_on in
      token_balances f (takes_got wanted ts one.first one.mid one.got)
      (all_balance more f.now one.mid others.first rest f.tested
      (others.got ∙ ap (Got others.first) (got_rest _ vs others.mid rest others.goes_on)))
  all_balance (s.Read m ∷ more) inner ts vs rest h is =
      let f : Splits (hole m) inner (λ now. balanced now more) =
      splits m (closes_hole m) inner (λ now. balanced now more) refl h in
      let one : Then (trees m ts) _ vs rest = then_got (trees m ts) _ vs rest is in
      let others : Then (read_all trees more one.mid) _ vs rest =
      then_got (read_all trees more one.mid) _ vs rest one.goes_on in
      subst (λ os. Balances os ts rest) (sym f.same)
      (read_balances (balance m ts one.first one.mid one.got)
      (all_balance more f.now one.mid others.first rest f.tested
      (others.got ∙ ap (Got others.first) (got_rest _ vs others.mid rest others.goes_on))))
  all_balance (s.Tell signal ∷ more) inner ts vs rest h is =
      let others : Then (read_all trees more ts) _ vs rest = then_got (read_all trees more ts) _ vs rest is in
      all_balance more inner ts others.first rest h
      (others.got ∙ ap (Got others.first) (got_rest _ vs others.mid rest others.goes_on))

  row_balance : (m : Nonterminal) (r : Row m) (ts : List Terminal) (v : Value m) (rest : List Terminal)
      → is_balanced m (step_of r) ≡ true → by_row trees m r ts ≡ Got v rest
      → Balances (hole m) ts rest
  row_balance m (goes right make) ts v rest h is =
      let all : Then (read_all trees right ts) (λ vs end. Got (make vs) end) v rest =
      then_got (read_all trees right ts) (λ vs end. Got (make vs) end) v rest is in
      all_balance right (hole m) ts all.first rest h
      (all.got ∙ ap (Got all.first) (got_rest (make all.first) v all.mid rest all.goes_on))
  row_balance m (refuses cause) ts v rest h is = cc

balances_to : (d : ℕ) (m : Nonterminal) (ts : List Terminal) (v : Value m) (rest : List Terminal)
    → reads_to row d m ts ≡ Got v rest → Balances (hole m) ts rest
unfolding reads_to
balances_to zero m ts v rest is = cc
balances_to (suc d) m ts v rest is =
    row_balance (reads_to row d) (balances_to d) m (row m (look ts)) ts v rest (rows_balanced m (look ts)) is

-- What is left of a reading is a suffix, behind which the braces are those of before.
pub reading_balance : (m : Nonterminal) (ts rest : List Terminal) (v : Value m) → reads m ts ≡ Got v rest
    → Balances (hole m) ts rest
unfolding reads_by
reading_balance m ts rest v is = balances_to (enough ts) m ts v rest is

pub terminals_classed : (ts : List Lexeme) (behind : ℕ) → Classed (terminals_from behind ts)
terminals_classed [] behind = tt
terminals_classed (t ∷ ts) behind = (refl, terminals_classed ts _)

-- Behind symbols that open and close no brace by themselves the braces are those of before.
use Rattle.std.proofs.Common.{◌≡◌, Bool, true, false, not, ◌&&◌, if◌then◌else◌, List, [], ◌∷◌, ◌++◌, refl, ap, sym}
use Rattle.std.proofs.Common.{◌∙◌, subst, append_assoc}
use Rattle.hz_tree.specs.declared.class.Class.{Class}
use Rattle.hz_tree.specs.declared.symbol.Symbol.{Symbol}
use Rattle.hz_tree.specs.declared.symbol.Symbol.TheVariants as s
use Rattle.hz_tree.specs.grammar.Classes.{fits, class_of}
use Rattle.hz_tree.specs.grammar.Look.{Terminal, look, stuck}
use Rattle.hz_tree.specs.grammar.Symbols.{Part, Parts, Value}
use Rattle.hz_tree.specs.reading.Reading.{Reading, Got, Stuck, takes, read_all, read_one, reads, told_ahead}
use Rattle.hz_tree.specs.tokens.Tokens.{braces}
use Rattle.hz_laws.specs.Middle.{Classed, braces_behind, closes_hole, hole_by, Balances}
use Rattle.hz_laws.proofs.Balance.{got_rest, reading_balance}
use Rattle.hz_laws.proofs.Braces.{Change, keeps, changed, change, is_token, token_changes, fits_changes}
use Rattle.hz_parse.proofs.Split.{Cons, cons}

abbrev is_keeps : Change → Bool
is_keeps keeps = true
is_keeps _ = false

abbrev even_symbol : Symbol → Bool
even_symbol (s.Take wanted) = is_keeps (change wanted)
even_symbol (s.Read m) = not (closes_hole m)
even_symbol (s.Tell signal) = true

abbrev pub even : List Symbol → Bool
even [] = true
even (x ∷ xs) = even_symbol x && even xs

pub and_first : (a b : Bool) → (a && b) ≡ true → a ≡ true
and_first true b h = refl
and_first false b h = cc

pub and_second : (a b : Bool) → (a && b) ≡ true → b ≡ true
and_second true b h = h
and_second false b h = cc

-- ---- one behind the other

passed_append : (ps qs : List Terminal) (opened : List Bool)
    → braces_behind (ps ++ qs) opened ≡ braces_behind qs (braces_behind ps opened)
passed_append [] qs opened = refl
passed_append (p ∷ ps) qs opened = passed_append ps qs (braces p.token opened)

classed_first : (ps qs : List Terminal) → Classed (ps ++ qs) → Classed ps
classed_first [] qs h = tt
classed_first (p ∷ ps) qs h = (h.0, classed_first ps qs h.1)

classed_second : (ps qs : List Terminal) → Classed (ps ++ qs) → Classed qs
classed_second [] qs h = h
classed_second (p ∷ ps) qs h = classed_second ps qs h.1

balances_then : (ts mid rest : List Terminal) → Balances [] ts mid → Balances [] mid rest → Balances [] ts rest
balances_then ts mid rest a b = record {
  passed = a.passed ++ b.passed;
  split = a.split ∙ ap (λ us. a.passed ++ us) b.split ∙ sym (append_assoc a.passed b.passed rest);
  closed = λ h outer.
      passed_append a.passed b.passed outer
      ∙ ap (braces_behind b.passed) (a.closed (classed_first a.passed b.passed h) outer)
      ∙ b.closed (classed_second a.passed b.passed h) outer;
}

nothing_passed : (ts rest : List Terminal) → ts ≡ rest → Balances [] ts rest
nothing_passed ts rest e = record { passed = []; split = e; closed = λ h outer. refl }

-- ---- a token

pub record Takes (wanted : Class) (ts : List Terminal) (x : Terminal) (rest : List Terminal) : Type 0 where
  pub split : ts ≡ x ∷ rest
  pub fitting : fits wanted x.class ≡ true

first_of_reading : Terminal → Reading Terminal → Terminal
first_of_reading other (Got v rest) = v
first_of_reading other _ = other

pub takes_got : (wanted : Class) (ts : List Terminal) (x : Terminal) (rest : List Terminal) → takes wanted ts ≡ Got x rest
    → Takes wanted ts x rest
unfolding first_of_reading
takes_got wanted [] x rest h = cc
takes_got wanted (y ∷ ts) x rest h =
    elim (fits wanted y.class) as (λ b. fits wanted y.class ≡ b
    → (if b then Got y ts else Stuck (stuck (look (y ∷ ts))) (y ∷ ts)) ≡ Got x rest → Takes wanted (y ∷ ts) x rest) [
      | true ↦ λ e got. record {
        split = cc;
        fitting = subst (λ z. fits wanted z.class ≡ true) (ap (first_of_reading y) got) e;
      }
      | false ↦ λ e got. cc
    ] refl h

kept : (made : Change) (opened : List Bool) → is_keeps made ≡ true → changed made opened ≡ opened
kept keeps opened h = refl
kept _ opened h = cc

keeps_token : (made : Change) → is_keeps made ≡ true → is_token made ≡ true
keeps_token keeps h = refl
keeps_token _ h = cc

even_token : (wanted : Class) (x : Terminal) (opened : List Bool) → is_keeps (change wanted) ≡ true
    → fits wanted x.class ≡ true → x.class ≡ class_of x.token → braces x.token opened ≡ opened
even_token wanted x opened k f same =
    let e : change (class_of x.token) ≡ change wanted = ap change (sym same) ∙ fits_changes wanted x.class f in
    let b : is_keeps (change (class_of x.token)) ≡ true = ap is_keeps e ∙ k in
    token_changes x.token opened (keeps_token (change (class_of x.token)) b)
    ∙ kept (change (class_of x.token)) opened b

even_take : (wanted : Class) (ts rest : List Terminal) (x : Terminal) → is_keeps (change wanted) ≡ true
    → takes wanted ts ≡ Got x rest → Balances [] ts rest
even_take wanted ts rest x k h =
    let t : Takes wanted ts x rest = takes_got wanted ts x rest h in
    record {
      passed = x ∷ [];
      split = t.split;
      closed = λ classed outer. even_token wanted x outer k t.fitting classed.0;
    }

-- ---- several symbols

closes_none : (closes : Bool) → not closes ≡ true → hole_by closes ≡ []
closes_none true h = cc
closes_none false h = refl

even_one : (x : Symbol) (ts rest : List Terminal) (v : Part Value x) → even_symbol x ≡ true → read_one reads x ts ≡ Got v rest
    → Balances [] ts rest
even_one (s.Take wanted) ts rest v k h = even_take wanted ts rest v k h
even_one (s.Read m) ts rest v k h =
    subst (λ inner. Balances inner ts rest) (closes_none (closes_hole m) k) (reading_balance m ts rest v h)
even_one (s.Tell signal) ts rest v k h = nothing_passed ts rest (got_rest (told_ahead ts) v ts rest h)

pub even_balances : (right : List Symbol) (ts rest : List Terminal) (vs : Parts Value right) → even right ≡ true
    → read_all reads right ts ≡ Got vs rest → Balances [] ts rest
even_balances [] ts rest vs k h = nothing_passed ts rest (got_rest tt vs ts rest h)
even_balances (x ∷ xs) ts rest vs k h =
    let c : Cons reads x xs ts vs rest = cons reads x xs ts vs rest h in
    balances_then ts c.mid rest
    (even_one x ts c.mid vs.0 (and_first (even_symbol x) (even xs) k) c.first)
    (even_balances xs c.mid rest vs.1 (and_second (even_symbol x) (even xs) k) c.others)

-- Where no `in` stands ahead: before symbols that do not begin with it.
use Rattle.std.proofs.Common.{◌≡◌, Bool, true, false, not, ◌&&◌, if◌then◌else◌, List, [], ◌∷◌, None, refl, ap, sym}
use Rattle.std.proofs.Common.{◌∙◌, subst}
use denote.Enum.Bare.{same_true}
use Rattle.hz_tree.specs.contracts.class.Class.{the_type as class_type}
use Rattle.hz_tree.specs.declared.class.Class.{Class}
use Rattle.hz_tree.specs.declared.class.Class.TheVariants as k
use Rattle.hz_tree.specs.declared.look.Look.{Look}
use Rattle.hz_tree.specs.declared.nonterminal.Context.{Context}
use Rattle.hz_tree.specs.declared.nonterminal.Nonterminal.{Nonterminal}
use Rattle.hz_tree.specs.declared.nonterminal.Nonterminal.TheVariants as n
use Rattle.hz_tree.specs.declared.operator.Level.{Level}
use Rattle.hz_tree.specs.declared.operator.Level.TheVariants as level
use Rattle.hz_tree.specs.declared.signal.NodeShape.TheVariants as shape
use Rattle.hz_tree.specs.declared.signal.Signal.{Signal}
use Rattle.hz_tree.specs.declared.signal.Signal.TheVariants as tell
use Rattle.hz_tree.specs.declared.symbol.Symbol.{Symbol}
use Rattle.hz_tree.specs.declared.symbol.Symbol.TheVariants as s
use Rattle.hz_tree.specs.grammar.Classes.{fits, is_in, is_name, same_class}
use Rattle.hz_tree.specs.grammar.Look.{Terminal, look, stuck}
use Rattle.hz_tree.specs.grammar.OperatorRows.{no_tails}
use Rattle.hz_tree.specs.grammar.Symbols.{Parts, Value}
use Rattle.hz_tree.specs.grammar.Table.{row}
use Rattle.hz_tree.specs.reading.Reading.{Got, Stuck, takes, read_all, by_row, reads, told_ahead}
use Rattle.hz_laws.proofs.Balance.{Then, then_got, got_rest}
use Rattle.hz_laws.proofs.Ranks.{and_left, and_right}
use Rattle.hz_laws.proofs.ReadingLaws.{reads_law}
use Rattle.hz_stands.specs.Heads.{in_ahead, placed_context}
use Rattle.hz_stands.proofs.Several.{Cons, cons_got}

-- ---- symbols that do not begin with `in`

-- before an `in` nothing of it is taken
abbrev pub passes_in : Nonterminal → Bool
passes_in (n.MoreBinds word c) = true
passes_in (n.ExprRest listed c) = true
passes_in (n.Tails tailed loosest c) = c.no_in
passes_in (n.Rests loosest tightest c) = c.no_in
passes_in (n.Members c) = true
passes_in (n.NewArgs c) = true
passes_in _ = false

-- No `in` stands ahead of the symbols; of those that may take nothing, where none stands behind them.
abbrev pub keeps_off : (behind : Bool) → List Symbol → Bool
keeps_off behind [] = behind
keeps_off behind (s.Take wanted ∷ more) = not (is_in wanted)
keeps_off behind (s.Read m ∷ more) = passes_in m && keeps_off behind more
keeps_off behind (s.Tell signal ∷ more) = keeps_off behind more

-- ---- one token

not_true : (b : Bool) → not b ≡ true → b ≡ false
not_true true h = cc
not_true false h = refl

name_no_in : (found : Class) → is_name found ≡ true → is_in found ≡ false
name_no_in k.In h = cc
name_no_in _ h = refl

fits_no_in : (wanted found : Class) → is_in wanted ≡ false → fits wanted found ≡ true → is_in found ≡ false
unfolding same_class
fits_no_in k.Name found h i = name_no_in found i
fits_no_in wanted found h i = ap is_in (sym (same_true class_type tt wanted found i)) ∙ h

take_no_in : (wanted : Class) (ts rest : List Terminal) (x : Terminal) → is_in wanted ≡ false
    → takes wanted ts ≡ Got x rest → in_ahead ts ≡ false
take_no_in wanted [] rest x h is = refl
take_no_in wanted (y ∷ ts) rest x h is =
    elim (fits wanted y.class) as (λ b. fits wanted y.class ≡ b
    → (if b then Got y ts else Stuck (stuck (look (y ∷ ts))) (y ∷ ts)) ≡ Got x rest → is_in y.class ≡ false) [
      | true ↦ λ e got. fits_no_in wanted y.class h e
      | false ↦ λ e got. cc
    ] refl is

in_class : (c : Class) → is_in c ≡ true → c ≡ k.In
in_class k.In h = refl
in_class _ h = cc

-- what is looked at, where `in` stands ahead
abbrev in_look : Look → Look
in_look l = record l { one = k.In }

looks_in : (ts : List Terminal) → in_ahead ts ≡ true → look ts ≡ in_look (look ts)
looks_in [] h = cc
looks_in (x ∷ []) h = ap (λ c. record (look (x ∷ [])) { one = c }) (in_class x.class h)
looks_in (x ∷ y ∷ ts) h = ap (λ c. record (look (x ∷ y ∷ ts)) { one = c }) (in_class x.class h)

-- ---- nonterminals

in_row : (m : Nonterminal) (ts : List Terminal) → in_ahead ts ≡ true
    → reads m ts ≡ by_row reads m (row m (in_look (look ts))) ts
in_row m ts h = reads_law m ts ∙ ap (λ l. by_row reads m (row m l) ts) (looks_in ts h)

-- the operators behind an operand, in a head
rests_nothing : (loosest tightest : Level) (c : Context) (ts : List Terminal) → in_ahead ts ≡ true
    → reads (n.Rests loosest tightest (placed_context true c)) ts ≡ Got [] ts
rests_nothing loosest tightest c ts h = in_row (n.Rests loosest tightest (placed_context true c)) ts h

expr_rest_passes : (listed : Bool) (c : Context) (ts rest : List Terminal) (v : Value (n.ExprRest listed c))
    → by_row reads (n.ExprRest listed c) (row (n.ExprRest listed c) (in_look (look ts))) ts ≡ Got v rest → ts ≡ rest
expr_rest_passes true c ts rest v is = got_rest [] v ts rest is
expr_rest_passes false c ts rest v is = got_rest [] v ts rest is

rests_pass : (loosest tightest : Level) (c : Context) (ts rest : List Terminal)
    (v : Value (n.Rests loosest tightest (placed_context true c))) → in_ahead ts ≡ true
    → reads (n.Rests loosest tightest (placed_context true c)) ts ≡ Got v rest → ts ≡ rest
rests_pass loosest tightest c ts rest v h is =
    got_rest [] v ts rest (sym (rests_nothing loosest tightest c ts h) ∙ is)

told_last : (signal : Signal) (m : Nonterminal) (ts rest : List Terminal)
    (p : Parts Value (s.Tell signal ∷ s.Read m ∷ []))
    → read_all reads (s.Tell signal ∷ s.Read m ∷ []) ts ≡ Got p rest → reads m ts ≡ Got p.1.0 rest
told_last signal m ts rest p is =
    let one : Cons reads (s.Tell signal) (s.Read m ∷ []) ts p rest =
    cons_got reads (s.Tell signal) (s.Read m ∷ []) ts p rest is in
    let two : Cons reads (s.Read m) [] one.mid p.1 rest = cons_got reads (s.Read m) [] one.mid p.1 rest one.others in
    ap (reads m) (got_rest (told_ahead ts) p.0 ts one.mid one.first)
    ∙ two.first
    ∙ ap (Got p.1.0) (got_rest tt p.1.1 two.mid rest two.others)

tails_pass : (tailed : Bool) (loosest : Level) (c : Context) (ts rest : List Terminal)
    (v : Value (n.Tails tailed loosest (placed_context true c))) → in_ahead ts ≡ true
    → by_row reads (n.Tails tailed loosest (placed_context true c))
    (row (n.Tails tailed loosest (placed_context true c)) (in_look (look ts))) ts ≡ Got v rest
    → ts ≡ rest
tails_pass true loosest c ts rest v h is =
    let inner = n.Rests loosest level.Update (placed_context true c) in
    let all : Then (read_all reads (s.Tell (tell.Node shape.Same) ∷ s.Read inner ∷ []) ts)
    (λ vs end. Got (no_tails vs.1.0) end) v rest =
    then_got (read_all reads (s.Tell (tell.Node shape.Same) ∷ s.Read inner ∷ []) ts)
    (λ vs end. Got (no_tails vs.1.0) end) v rest is in
    rests_pass loosest level.Update c ts all.mid all.first.1.0 h
    (told_last (tell.Node shape.Same) inner ts all.mid all.first all.got)
    ∙ got_rest (no_tails all.first.1.0) v all.mid rest all.goes_on
tails_pass false loosest c ts rest v h is = got_rest (no_tails []) v ts rest is

tails_in_head : (head tailed : Bool) (loosest : Level) (c : Context) (ts rest : List Terminal)
    (v : Value (n.Tails tailed loosest (placed_context head c))) → head ≡ true → in_ahead ts ≡ true
    → by_row reads (n.Tails tailed loosest (placed_context head c))
    (row (n.Tails tailed loosest (placed_context head c)) (in_look (look ts))) ts ≡ Got v rest
    → ts ≡ rest
tails_in_head true tailed loosest c ts rest v e h is = tails_pass tailed loosest c ts rest v h is
tails_in_head false tailed loosest c ts rest v e h is = cc

rests_in_head : (head : Bool) (loosest tightest : Level) (c : Context) (ts rest : List Terminal)
    (v : Value (n.Rests loosest tightest (placed_context head c))) → head ≡ true
    → by_row reads (n.Rests loosest tightest (placed_context head c))
    (row (n.Rests loosest tightest (placed_context head c)) (in_look (look ts))) ts ≡ Got v rest
    → ts ≡ rest
rests_in_head true loosest tightest c ts rest v e is = got_rest [] v ts rest is
rests_in_head false loosest tightest c ts rest v e is = cc

passes_by : (m : Nonterminal) (ts rest : List Terminal) (v : Value m) → passes_in m ≡ true → in_ahead ts ≡ true
    → by_row reads m (row m (in_look (look ts))) ts ≡ Got v rest → ts ≡ rest
passes_by (n.MoreBinds word c) ts rest v p h is = got_rest [] v ts rest is
passes_by (n.ExprRest listed c) ts rest v p h is = expr_rest_passes listed c ts rest v is
passes_by (n.Tails tailed loosest c) ts rest v p h is = tails_in_head c.no_in tailed loosest c ts rest v p h is
passes_by (n.Rests loosest tightest c) ts rest v p h is = rests_in_head c.no_in loosest tightest c ts rest v p is
passes_by (n.Members c) ts rest v p h is = got_rest [] v ts rest is
passes_by (n.NewArgs c) ts rest v p h is = got_rest None v ts rest is
passes_by m ts rest v p h is = cc

-- What does not begin with `in` takes nothing before one.
pub passes : (m : Nonterminal) (ts rest : List Terminal) (v : Value m) → passes_in m ≡ true → in_ahead ts ≡ true
    → reads m ts ≡ Got v rest → ts ≡ rest
passes m ts rest v p h is = passes_by m ts rest v p h (sym (in_row m ts h) ∙ is)

-- ---- symbols

read_off : (m : Nonterminal) (ts mid : List Terminal) (v : Value m) → passes_in m ≡ true → reads m ts ≡ Got v mid
    → in_ahead mid ≡ false → in_ahead ts ≡ false
read_off m ts mid v p is none =
    elim (in_ahead ts) as (λ b. in_ahead ts ≡ b → b ≡ false) [
      | true ↦ λ e. sym (sym none ∙ ap in_ahead (sym (passes m ts mid v p e is)) ∙ e)
      | false ↦ λ e. refl
    ] refl

pub none_behind : (right : List Symbol) (ts rest : List Terminal) (p : Parts Value right) (behind : Bool)
    → keeps_off behind right ≡ true → (behind ≡ true → in_ahead rest ≡ false) → read_all reads right ts ≡ Got p rest
    → in_ahead ts ≡ false
none_behind [] ts rest p behind off none is =
    subst (λ us. in_ahead us ≡ false) (sym (got_rest tt p ts rest is)) (none off)
none_behind (s.Take wanted ∷ more) ts rest p behind off none is =
    let c : Cons reads (s.Take wanted) more ts p rest = cons_got reads (s.Take wanted) more ts p rest is in
    take_no_in wanted ts c.mid p.0 (not_true (is_in wanted) off) c.first
none_behind (s.Read m ∷ more) ts rest p behind off none is =
    let c : Cons reads (s.Read m) more ts p rest = cons_got reads (s.Read m) more ts p rest is in
    read_off m ts c.mid p.0 (and_left (passes_in m) (keeps_off behind more) off) c.first
    (none_behind more c.mid rest p.1 behind (and_right (passes_in m) (keeps_off behind more) off) none c.others)
none_behind (s.Tell signal ∷ more) ts rest p behind off none is =
    let c : Cons reads (s.Tell signal) more ts p rest = cons_got reads (s.Tell signal) more ts p rest is in
    subst (λ us. in_ahead us ≡ false) (sym (got_rest (told_ahead ts) p.0 ts c.mid c.first))
    (none_behind more c.mid rest p.1 behind off none c.others)

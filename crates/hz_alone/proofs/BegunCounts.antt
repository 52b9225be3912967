-- A function is read with the same counts whatever stands before its first token.
use Rattle.std.proofs.Common.{◌≡◌, ℕ, Bool, true, false, if◌then◌else◌, List, [], ◌∷◌, refl, ap, sym, ◌∙◌, subst}
use Rattle.hz_tree.specs.declared.class.Class.{Class}
use Rattle.hz_tree.specs.declared.class.Class.TheVariants as k
use Rattle.hz_tree.specs.declared.look.Look.{Look}
use Rattle.hz_tree.specs.declared.nonterminal.Nonterminal.TheVariants as n
use Rattle.hz_tree.specs.declared.signal.Role.{Role}
use Rattle.hz_tree.specs.declared.signal.Signal.TheVariants as tell
use Rattle.hz_tree.specs.declared.symbol.Symbol.{Symbol}
use Rattle.hz_tree.specs.declared.symbol.Symbol.TheVariants as s
use Rattle.hz_tree.specs.grammar.Classes.{is_name}
use Rattle.hz_tree.specs.grammar.Look.{Terminal, look, stuck}
use Rattle.hz_tree.specs.grammar.StatementRows.{bound_by}
use Rattle.hz_tree.specs.grammar.Symbols.{Parts, Row, goes, refuses}
use Rattle.hz_tree.specs.reading.Reading.{Got, and_then, read_all, by_row, told_ahead}
use Rattle.hz_laws.proofs.Balance.{Then, then_got, got_rest}
use Rattle.hz_own.specs.Owned.{Owned, counted, counting, owns}
use Rattle.hz_alone.specs.Middle.{begun, opens}
use Rattle.hz_alone.proofs.Begun.{first_of, params, look_one, take_begins, tree_begins}
use Rattle.hz_alone.proofs.Readings.{owns_law}

-- ---- parameters

params_counted : (x : Terminal) (rest left : List Terminal) (v : ℕ) → owns n.Params (x ∷ rest) ≡ Got v left
    → owns n.Params (begun (x ∷ rest)) ≡ Got v left
params_counted x rest left v h =
    let all : Then (read_all owns params (x ∷ rest)) (λ vs end. Got (counted params vs) end) v left =
    then_got (read_all owns params (x ∷ rest)) (λ vs end. Got (counted params vs) end) v left
    (sym (owns_law n.Params (x ∷ rest)) ∙ h) in
    owns_law n.Params (begun (x ∷ rest))
    ∙ ap (λ r. and_then r (λ vs end. Got (counted params vs) end))
    (take_begins owns k.LeftParen (s.Read n.Parameters ∷ s.Take k.RightParen ∷ []) x rest all.mid all.first all.got)
    ∙ all.goes_on

-- ---- a name

abbrev declared : Role → List Symbol
declared role = s.Tell (tell.Declare role) ∷ s.Take k.Name ∷ []

named : Bool → (role : Role) → Look → Row (n.Bound role)
named test role l =
    if test then
    goes (s.Tell (tell.Declare role) ∷ s.Take k.Name ∷ []) (λ (told, _). record { at = told.at; name = told.text })
    else refuses (stuck l)

named_counted : (test : Bool) (role : Role) (l l' : Look) (x : Terminal) (rest left : List Terminal) (v : ℕ)
    → by_row owns (n.Bound role) (counting (named test role l)) (x ∷ rest) ≡ Got v left
    → by_row owns (n.Bound role) (counting (named test role l')) (begun (x ∷ rest)) ≡ Got v left
unfolding named
named_counted false role l l' x rest left v h = cc
named_counted true role l l' x rest left v h =
    let whole : Then (read_all owns (declared role) (x ∷ rest)) (λ vs end. Got (counted (declared role) vs) end)
    v left = then_got (read_all owns (declared role) (x ∷ rest)) _ v left h in
    let others : Then (read_all owns (s.Take k.Name ∷ []) (x ∷ rest)) (λ vs end.
    Got (told_ahead (x ∷ rest), vs) end) whole.first whole.mid =
    then_got (read_all owns (s.Take k.Name ∷ []) (x ∷ rest)) _ whole.first whole.mid whole.got in
    ap (λ r. and_then {A = Parts Owned (declared role)}
    (and_then r (λ vs end. Got (told_ahead (begun (x ∷ rest)), vs) end))
    (λ vs end. Got (counted (declared role) vs) end))
    (take_begins owns k.Name [] x rest others.mid others.first others.got)
    ∙ ap (Got (counted (declared role) whole.first))
    (got_rest (told_ahead (x ∷ rest), others.first) whole.first others.mid whole.mid others.goes_on)
    ∙ whole.goes_on

bound_counted_by : (one : Class) (role : Role) (l l' : Look) (x : Terminal) (rest left : List Terminal) (v : ℕ)
    → is_name l.one ≡ is_name l'.one
    → by_row owns (n.Bound role) (counting (bound_by role l one)) (x ∷ rest) ≡ Got v left
    → by_row owns (n.Bound role) (counting (bound_by role l' one)) (begun (x ∷ rest)) ≡ Got v left
unfolding named
bound_counted_by k.LeftBracket role l l' x rest left v same h = cc
bound_counted_by k.LeftBrace role l l' x rest left v same h = cc
bound_counted_by _ role l l' x rest left v same h =
    subst (λ b. by_row owns (n.Bound role) (counting (named b role l')) (begun (x ∷ rest)) ≡ Got v left) same
    (named_counted (is_name l.one) role l l' x rest left v h)

bound_counted : (role : Role) (x : Terminal) (rest left : List Terminal) (v : ℕ)
    → owns (n.Bound role) (x ∷ rest) ≡ Got v left → owns (n.Bound role) (begun (x ∷ rest)) ≡ Got v left
bound_counted role x rest left v h =
    let l : Look = look (x ∷ rest) in
    let l' : Look = look (begun (x ∷ rest)) in
    let one : l.one ≡ l'.one = look_one x rest ∙ sym (look_one (first_of x) rest) in
    owns_law (n.Bound role) (begun (x ∷ rest))
    ∙ ap (λ c. by_row owns (n.Bound role) (counting (bound_by role l' c)) (begun (x ∷ rest))) (sym one)
    ∙ bound_counted_by l.one role l l' x rest left v (ap is_name one) (sym (owns_law (n.Bound role) (x ∷ rest)) ∙ h)

-- ---- several symbols

pub record CountsBegun (right : List Symbol) (counts : Parts Owned right) (left seen : List Terminal) : Type 0 where
  pub others : Parts Owned right
  pub read : read_all owns right seen ≡ Got others left
  pub same : counted right others ≡ counted right counts

pub symbols_counted_begin : (right : List Symbol) (x : Terminal) (rest left : List Terminal)
    (counts : Parts Owned right) → opens right ≡ true → read_all owns right (x ∷ rest) ≡ Got counts left
    → CountsBegun right counts left (begun (x ∷ rest))
symbols_counted_begin (s.Take wanted ∷ more) x rest left counts o h =
    record { others = (first_of x, counts.1); read = take_begins owns wanted more x rest left counts h; same = refl }
symbols_counted_begin (s.Read n.Params ∷ more) x rest left counts o h = record {
  others = counts;
  read = tree_begins owns n.Params more x rest left counts (λ v mid got. params_counted x rest mid v got) h;
  same = refl;
}
symbols_counted_begin (s.Read (n.Bound role) ∷ more) x rest left counts o h = record {
  others = counts;
  read = tree_begins owns (n.Bound role) more x rest left counts (λ v mid got. bound_counted role x rest mid v got) h;
  same = refl;
}
symbols_counted_begin _ x rest left counts o h = cc

-- What a function is read as does not depend on what stands before its first token.
use Rattle.std.proofs.Common.{◌≡◌, Bool, true, false, if◌then◌else◌, List, [], ◌∷◌, refl, ap, sym, ◌∙◌, subst}
use Rattle.hz_tree.specs.declared.class.Class.{Class}
use Rattle.hz_tree.specs.declared.class.Class.TheVariants as k
use Rattle.hz_tree.specs.declared.look.Look.{Look}
use Rattle.hz_tree.specs.declared.nonterminal.Nonterminal.{Nonterminal}
use Rattle.hz_tree.specs.declared.nonterminal.Nonterminal.TheVariants as n
use Rattle.hz_tree.specs.declared.signal.Role.{Role}
use Rattle.hz_tree.specs.declared.signal.Signal.TheVariants as tell
use Rattle.hz_tree.specs.declared.symbol.Symbol.{Symbol}
use Rattle.hz_tree.specs.declared.symbol.Symbol.TheVariants as s
use Rattle.hz_tree.specs.declared.tree.Bound.{Bound}
use Rattle.hz_tree.specs.grammar.Classes.{fits, is_name}
use Rattle.hz_tree.specs.grammar.Look.{Terminal, look, stuck}
use Rattle.hz_tree.specs.grammar.Signals.{Told}
use Rattle.hz_tree.specs.grammar.StatementRows.{bound_by}
use Rattle.hz_tree.specs.grammar.Symbols.{Parts, Value, Row, goes, refuses}
use Rattle.hz_tree.specs.reading.Reading.{Reading, Got, Stuck, Deeper, and_then, takes, Reader, read_all, by_row}
use Rattle.hz_tree.specs.reading.Reading.{reads}
use Rattle.hz_tree.specs.reading.Reading.{told_ahead}
use Rattle.hz_laws.proofs.Balance.{Then, then_got, got_rest}
use Rattle.hz_laws.proofs.ReadingLaws.{reads_law}
use Rattle.hz_alone.specs.Middle.{begun, opens, SameBehind}

got_value : {A : Type 0} (v w : A) (ts us : List Terminal) → Got v ts ≡ Got w us → v ≡ w
got_value v w ts us h = cc

abbrev pub first_of : Terminal → Terminal
first_of x = record x { token = record x.token { newline = false }; behind = x.token.at }

-- ---- a token is taken first

took : (wanted : Class) (x : Terminal) (rest : List Terminal) (v : Terminal) (mid : List Terminal)
    → takes wanted (x ∷ rest) ≡ Got v mid → takes wanted (first_of x ∷ rest) ≡ Got (first_of x) mid
took wanted x rest v mid h =
    elim (fits wanted x.class) as (λ b. (if b then Got x rest else Stuck (stuck (look (x ∷ rest))) (x ∷ rest)) ≡ Got
    v mid
    → (if b then Got (first_of x) rest else Stuck (stuck (look (first_of x ∷ rest))) (first_of x ∷ rest))
    ≡ Got (first_of x) mid) [ true ↦ λ e. cc | false ↦ λ e. cc ] h

module _ {V : Nonterminal → Type 0} (trees : Reader V) where
  abbrev got_with : (wanted : Class) → (more : List Symbol) → Terminal → Parts V more → List Terminal
      → Reading (Parts V (s.Take wanted ∷ more))
  got_with wanted more x vs left = Got (x, vs) left

  got_others : (wanted : Class) (more : List Symbol) (x y : Terminal) (r : Reading (Parts V more))
      (parts : Parts V (s.Take wanted ∷ more)) (left : List Terminal)
      → and_then {B = Parts V (s.Take wanted ∷ more)} r (λ vs end. Got (x, vs) end) ≡ Got parts left
      → and_then {B = Parts V (s.Take wanted ∷ more)} r (λ vs end. Got (y, vs) end) ≡ Got (y, parts.1) left
  got_others wanted more x y (Got vs end) parts left h =
      ap {A = Parts V (s.Take wanted ∷ more)} (λ q. got_with wanted more y q.1 end)
      (got_value {A = Parts V (s.Take wanted ∷ more)} (x, vs) parts end left h)
      ∙ ap (got_with wanted more y parts.1) (got_rest {A = Parts V (s.Take wanted ∷ more)} (x, vs) parts end left h)
  got_others wanted more x y (Stuck cause ts) parts left h = cc
  got_others wanted more x y Deeper parts left h = cc

  pub take_begins : (wanted : Class) (more : List Symbol) (x : Terminal) (rest left : List Terminal)
      (parts : Parts V (s.Take wanted ∷ more)) → read_all trees (s.Take wanted ∷ more) (x ∷ rest) ≡ Got parts left
      → read_all trees (s.Take wanted ∷ more) (begun (x ∷ rest)) ≡ Got (first_of x, parts.1) left
  take_begins wanted more x rest left parts h =
      let one : Then (takes wanted (x ∷ rest)) (λ v mid.
      and_then (read_all trees more mid) (λ vs end. Got (v, vs) end)) parts left =
      then_got (takes wanted (x ∷ rest)) _ parts left h in
      ap (λ r. and_then r (λ v mid. and_then (read_all trees more mid) (λ vs end. Got (v, vs) end)))
      (took wanted x rest one.first one.mid one.got)
      ∙ got_others wanted more one.first (first_of x) (read_all trees more one.mid) parts left one.goes_on

  pub tree_begins : (m : Nonterminal) (more : List Symbol) (x : Terminal) (rest left : List Terminal)
      (parts : Parts V (s.Read m ∷ more))
      → ((v : V m) (mid : List Terminal) → trees m (x ∷ rest) ≡ Got v mid → trees m (begun (x ∷ rest)) ≡ Got v mid)
      → read_all trees (s.Read m ∷ more) (x ∷ rest) ≡ Got parts left
      → read_all trees (s.Read m ∷ more) (begun (x ∷ rest)) ≡ Got parts left
  tree_begins m more x rest left parts begins h =
      let one : Then (trees m (x ∷ rest)) (λ v mid. and_then (read_all trees more mid) (λ vs end. Got (v, vs) end))
      parts left = then_got (trees m (x ∷ rest)) _ parts left h in
      ap (λ r. and_then r (λ v mid. and_then (read_all trees more mid) (λ vs end. Got (v, vs) end)))
      (begins one.first one.mid one.got) ∙ one.goes_on

-- ---- parameters

abbrev pub params : List Symbol
params = s.Take k.LeftParen ∷ s.Read n.Parameters ∷ s.Take k.RightParen ∷ []

params_begin : (x : Terminal) (rest left : List Terminal) (v : Value n.Params)
    → reads n.Params (x ∷ rest) ≡ Got v left → reads n.Params (begun (x ∷ rest)) ≡ Got v left
params_begin x rest left v h =
    let all : Then (read_all reads params (x ∷ rest)) (λ vs end. Got vs.1.0 end) v left =
    then_got (read_all reads params (x ∷ rest)) (λ vs end. Got vs.1.0 end) v left
    (sym (reads_law n.Params (x ∷ rest)) ∙ h) in
    reads_law n.Params (begun (x ∷ rest))
    ∙ ap (λ r. and_then r (λ vs end. Got vs.1.0 end))
    (take_begins reads k.LeftParen (s.Read n.Parameters ∷ s.Take k.RightParen ∷ []) x rest all.mid all.first all.got)
    ∙ all.goes_on

-- ---- a name

pub look_one : (x : Terminal) (ts : List Terminal) → (look (x ∷ ts)).one ≡ x.class
look_one x [] = refl
look_one x (y ∷ ts) = refl

abbrev got_bound : Told → List Terminal → Reading Bound
got_bound told left = Got (record { at = told.at; name = told.text }) left

named : Bool → (role : Role) → Look → Row (n.Bound role)
named test role l =
    if test then
    goes (s.Tell (tell.Declare role) ∷ s.Take k.Name ∷ []) (λ (told, _). record { at = told.at; name = told.text })
    else refuses (stuck l)

named_begins : (test : Bool) (role : Role) (l l' : Look) (x : Terminal) (rest left : List Terminal)
    (v : Value (n.Bound role)) → by_row reads (n.Bound role) (named test role l) (x ∷ rest) ≡ Got v left
    → by_row reads (n.Bound role) (named test role l') (begun (x ∷ rest)) ≡ Got v left
unfolding named
named_begins false role l l' x rest left v h = cc
named_begins true role l l' x rest left v h =
    let whole : Then (read_all reads (s.Tell (tell.Declare role) ∷ s.Take k.Name ∷ []) (x ∷ rest)) (λ vs end.
    Got (record { at = vs.0.at; name = vs.0.text }) end) v left =
    then_got (read_all reads (s.Tell (tell.Declare role) ∷ s.Take k.Name ∷ []) (x ∷ rest)) _ v left h in
    let others : Then (read_all reads (s.Take k.Name ∷ []) (x ∷ rest)) (λ vs end.
    Got (told_ahead (x ∷ rest), vs) end) whole.first whole.mid =
    then_got (read_all reads (s.Take k.Name ∷ []) (x ∷ rest)) _ whole.first whole.mid whole.got in
    let told : told_ahead (x ∷ rest) ≡ whole.first.0 =
    ap (λ p. p.0) (got_value (told_ahead (x ∷ rest), others.first) whole.first others.mid whole.mid others.goes_on) in
    ap (λ r. and_then {A = Parts Value (s.Tell (tell.Declare role) ∷ s.Take k.Name ∷ [])}
    (and_then r (λ vs end. Got (told_ahead (begun (x ∷ rest)), vs) end)) (λ vs end. got_bound vs.0 end))
    (take_begins reads k.Name [] x rest others.mid others.first others.got)
    ∙ ap (λ t. got_bound t others.mid) told
    ∙ ap (got_bound whole.first.0)
    (got_rest (told_ahead (x ∷ rest), others.first) whole.first others.mid whole.mid others.goes_on)
    ∙ whole.goes_on

bound_begin_by : (one : Class) (role : Role) (l l' : Look) (x : Terminal) (rest left : List Terminal)
    (v : Value (n.Bound role)) → is_name l.one ≡ is_name l'.one
    → by_row reads (n.Bound role) (bound_by role l one) (x ∷ rest) ≡ Got v left
    → by_row reads (n.Bound role) (bound_by role l' one) (begun (x ∷ rest)) ≡ Got v left
unfolding named
bound_begin_by k.LeftBracket role l l' x rest left v same h = cc
bound_begin_by k.LeftBrace role l l' x rest left v same h = cc
bound_begin_by _ role l l' x rest left v same h =
    subst (λ b. by_row reads (n.Bound role) (named b role l') (begun (x ∷ rest)) ≡ Got v left) same
    (named_begins (is_name l.one) role l l' x rest left v h)

bound_begins : (role : Role) (x : Terminal) (rest left : List Terminal) (v : Value (n.Bound role))
    → reads (n.Bound role) (x ∷ rest) ≡ Got v left → reads (n.Bound role) (begun (x ∷ rest)) ≡ Got v left
bound_begins role x rest left v h =
    let l : Look = look (x ∷ rest) in
    let l' : Look = look (begun (x ∷ rest)) in
    let one : l.one ≡ l'.one = look_one x rest ∙ sym (look_one (first_of x) rest) in
    reads_law (n.Bound role) (begun (x ∷ rest))
    ∙ ap (λ c. by_row reads (n.Bound role) (bound_by role l' c) (begun (x ∷ rest))) (sym one)
    ∙ bound_begin_by l.one role l l' x rest left v (ap is_name one) (sym (reads_law (n.Bound role) (x ∷ rest)) ∙ h)

-- ---- several symbols

pub record Begins (right : List Symbol) (parts : Parts Value right) (left seen : List Terminal) : Type 0 where
  pub others : Parts Value right
  pub read : read_all reads right seen ≡ Got others left
  pub same : SameBehind right parts others

pub symbols_begin : (right : List Symbol) (x : Terminal) (rest left : List Terminal) (parts : Parts Value right)
    → opens right ≡ true → read_all reads right (x ∷ rest) ≡ Got parts left
    → Begins right parts left (begun (x ∷ rest))
symbols_begin (s.Take wanted ∷ more) x rest left parts o h =
    record { others = (first_of x, parts.1); read = take_begins reads wanted more x rest left parts h; same = refl }
symbols_begin (s.Read n.Params ∷ more) x rest left parts o h = record {
  others = parts;
  read = tree_begins reads n.Params more x rest left parts (λ v mid got. params_begin x rest mid v got) h;
  same = refl;
}
symbols_begin (s.Read (n.Bound role) ∷ more) x rest left parts o h = record {
  others = parts;
  read = tree_begins reads (n.Bound role) more x rest left parts (λ v mid got. bound_begins role x rest mid v got) h;
  same = refl;
}
symbols_begin _ x rest left parts o h = cc

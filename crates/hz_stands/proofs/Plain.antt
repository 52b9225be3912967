-- What is read of a declaration is read of an expression too, and what is read of a getter or a setter, of a method.
use Rattle.std.proofs.Common.{◌≡◌, Bool, true, false, if◌then◌else◌, List, [], ◌∷◌, Option, Some, None, refl, ap}
use Rattle.std.proofs.Common.{sym, ◌∙◌}
use denote.Enum.Bare.{same_true}
use Rattle.hz_tree.specs.contracts.class.Class.{the_type as class_type}
use Rattle.hz_tree.specs.declared.class.Class.{Class}
use Rattle.hz_tree.specs.declared.class.Class.TheVariants as k
use Rattle.hz_tree.specs.declared.look.Look.{Look}
use Rattle.hz_tree.specs.declared.nonterminal.Nonterminal.TheVariants as n
use Rattle.hz_tree.specs.declared.signal.Role.{Role}
use Rattle.hz_tree.specs.declared.signal.Role.TheVariants as role
use Rattle.hz_tree.specs.declared.signal.Signal.TheVariants as tell
use Rattle.hz_tree.specs.declared.symbol.Symbol.TheVariants as s
use Rattle.hz_tree.specs.declared.tree.Bound.{Bound}
use Rattle.hz_tree.specs.declared.tree.Rest.{Rest}
use Rattle.hz_tree.specs.grammar.Classes.{fits, is_name, same_class}
use Rattle.hz_tree.specs.grammar.FunctionRows.{parameters_row, more_parameters_row, parameter_end_row}
use Rattle.hz_tree.specs.grammar.Look.{Terminal, look, stuck}
use Rattle.hz_tree.specs.grammar.StatementRows.{bound_by}
use Rattle.hz_tree.specs.grammar.Symbols.{Row, goes, refuses}
use Rattle.hz_tree.specs.reading.Reading.{Got, Stuck, and_then, takes, read_all, by_row, reads}
use Rattle.hz_laws.proofs.Balance.{Then, then_got, got_rest}
use Rattle.hz_laws.proofs.ReadingLaws.{reads_law}
use Rattle.hz_stands.proofs.Several.{Cons, cons_got, cons_makes}

-- ---- names

-- a row that takes a name, where there is one
abbrev name_row : (bound : Role) → Look → (named : Bool) → Row (n.Bound bound)
name_row bound l named =
    if named then
    goes (s.Tell (tell.Declare bound) ∷ s.Take k.Name ∷ []) (λ (told, _). record { at = told.at; name = told.text })
    else refuses (stuck l)

if_named : (bound : Role) (l : Look) (named : Bool) (ts rest : List Terminal) (b : Bound)
    → by_row reads (n.Bound bound) (name_row bound l named) ts ≡ Got b rest → named ≡ true
if_named bound l true ts rest b h = refl
if_named bound l false ts rest b h = cc

bound_named : (bound : Role) (l : Look) (one : Class) (ts rest : List Terminal) (b : Bound)
    → by_row reads (n.Bound bound) (bound_by bound l one) ts ≡ Got b rest → is_name l.one ≡ true
bound_named bound l k.LeftBracket ts rest b h = cc
bound_named bound l k.LeftBrace ts rest b h = cc
bound_named bound l _ ts rest b h = if_named bound l (is_name l.one) ts rest b h

pub begins_named : (bound : Role) (ts rest : List Terminal) (b : Bound) → reads (n.Bound bound) ts ≡ Got b rest
    → is_name (look ts).one ≡ true
begins_named bound ts rest b h =
    bound_named bound (look ts) (look ts).one ts rest b (sym (reads_law (n.Bound bound) ts) ∙ h)

if_same : (first second : Role) (l : Look) (named : Bool) (ts : List Terminal)
    → by_row reads (n.Bound first) (name_row first l named) ts
    ≡ by_row reads (n.Bound second) (name_row second l named) ts
if_same first second l true ts = refl
if_same first second l false ts = refl

same_row : (first second : Role) (l : Look) (one : Class) (ts : List Terminal)
    → by_row reads (n.Bound first) (bound_by first l one) ts ≡ by_row reads (n.Bound second) (bound_by second l one) ts
same_row first second l k.LeftBracket ts = refl
same_row first second l k.LeftBrace ts = refl
same_row first second l _ ts = if_same first second l (is_name l.one) ts

-- A name is read alike, whatever it is bound for.
same_bound : (first second : Role) (ts : List Terminal) → reads (n.Bound first) ts ≡ reads (n.Bound second) ts
same_bound first second ts =
    reads_law (n.Bound first) ts
    ∙ same_row first second (look ts) (look ts).one ts
    ∙ sym (reads_law (n.Bound second) ts)

own_by : (named : Bool) → Row n.OwnName
own_by named =
    if named then goes (s.Read (n.Bound role.Own) ∷ []) (λ (name, _). Some name) else goes [] (λ _. None)

pub own_name_read : (ts rest : List Terminal) (b : Bound) → reads (n.Bound role.Function) ts ≡ Got b rest
    → reads n.OwnName ts ≡ Got (Some b) rest
unfolding own_by
own_name_read ts rest b h =
    let own : reads (n.Bound role.Own) ts ≡ Got b rest = same_bound role.Own role.Function ts ∙ h in
    reads_law n.OwnName ts
    ∙ ap (λ named. by_row reads n.OwnName (own_by named) ts) (begins_named role.Function ts rest b h)
    ∙ ap (λ r. and_then r (λ vs end. Got (Some vs.0) end))
    (cons_makes (s.Read (n.Bound role.Own)) [] ts rest rest b tt own refl)

-- ---- parameters

look_one : (x : Terminal) (ts : List Terminal) → (look (x ∷ ts)).one ≡ x.class
look_one x [] = refl
look_one x (y ∷ ts) = refl

took_class : (wanted : Class) (ts rest : List Terminal) (x : Terminal)
    → ((c : Class) → fits wanted c ≡ true → wanted ≡ c) → takes wanted ts ≡ Got x rest
    → (look ts).one ≡ wanted
took_class wanted [] rest x same h = cc
took_class wanted (y ∷ ts) rest x same h =
    elim (fits wanted y.class) as (λ b. fits wanted y.class ≡ b
    → (if b then Got y ts else Stuck (stuck (look (y ∷ ts))) (y ∷ ts)) ≡ Got x rest
    → (look (y ∷ ts)).one ≡ wanted) [
      | true ↦ λ e got. look_one y ts ∙ sym (same y.class e)
      | false ↦ λ e got. cc
    ] refl h

closes : (ts rest : List Terminal) (x : Terminal) → takes k.RightParen ts ≡ Got x rest → (look ts).one ≡ k.RightParen
unfolding same_class
closes ts rest x h = took_class k.RightParen ts rest x (λ c e. same_true class_type tt k.RightParen c e) h

opens : (ts rest : List Terminal) (x : Terminal) → takes k.LeftParen ts ≡ Got x rest → (look ts).one ≡ k.LeftParen
unfolding same_class
opens ts rest x h = took_class k.LeftParen ts rest x (λ c e. same_true class_type tt k.LeftParen c e) h

pub function_first : (ts rest : List Terminal) (x : Terminal) → takes k.Function ts ≡ Got x rest
    → (look ts).one ≡ k.Function
unfolding same_class
function_first ts rest x h = took_class k.Function ts rest x (λ c e. same_true class_type tt k.Function c e) h

pub paren_first : (ts rest : List Terminal) (v : List Bound × Option Rest) → reads n.Params ts ≡ Got v rest
    → (look ts).one ≡ k.LeftParen
paren_first ts rest v h =
    let others = s.Read n.Parameters ∷ s.Take k.RightParen ∷ [] in
    let all : Then (read_all reads (s.Take k.LeftParen ∷ others) ts) (λ vs end. Got vs.1.0 end) v rest =
    then_got (read_all reads (s.Take k.LeftParen ∷ others) ts) (λ vs end. Got vs.1.0 end) v rest
    (sym (reads_law n.Params ts) ∙ h) in
    let one : Cons reads (s.Take k.LeftParen) others ts all.first all.mid =
    cons_got reads (s.Take k.LeftParen) others ts all.first all.mid all.got in
    opens ts one.mid all.first.0 one.first

abbrev NoParameters : List Bound × Option Rest
NoParameters = ([], None)

pub no_parameters : (ts rest : List Terminal) (x : Terminal) → takes k.RightParen ts ≡ Got x rest
    → reads n.Parameters ts ≡ Got NoParameters ts
no_parameters ts rest x h =
    reads_law n.Parameters ts ∙ ap (λ one. by_row reads n.Parameters (parameters_row one) ts) (closes ts rest x h)

no_more_parameters : (ts rest : List Terminal) (x : Terminal) → takes k.RightParen ts ≡ Got x rest
    → reads n.MoreParameters ts ≡ Got NoParameters ts
no_more_parameters ts rest x h =
    reads_law n.MoreParameters ts
    ∙ ap (λ one. by_row reads n.MoreParameters (more_parameters_row one) ts) (closes ts rest x h)

-- parameters between brackets
pub params_read : (ts t u rest : List Terminal) (a b : Terminal) (v : List Bound × Option Rest)
    → takes k.LeftParen ts ≡ Got a t → reads n.Parameters t ≡ Got v u → takes k.RightParen u ≡ Got b rest
    → reads n.Params ts ≡ Got v rest
params_read ts t u rest a b v h i j =
    reads_law n.Params ts
    ∙ ap (λ r. and_then r (λ vs end. Got vs.1.0 end))
    (cons_makes (s.Take k.LeftParen) (s.Read n.Parameters ∷ s.Take k.RightParen ∷ []) ts t rest a (v, (b, tt)) h
    (cons_makes (s.Read n.Parameters) (s.Take k.RightParen ∷ []) t u rest v (b, tt) i
    (cons_makes (s.Take k.RightParen) [] u rest rest b tt j refl)))

ends_by : (one : Class) (ts rest : List Terminal) (v : Unit {0})
    → by_row reads n.ParameterEnd (parameter_end_row one) ts ≡ Got v rest → ts ≡ rest
ends_by k.Assign ts rest v h = cc
ends_by _ ts rest v h = got_rest tt v ts rest h

first_row : Row n.Parameters
first_row =
    goes (s.Read (n.Bound role.Parameter) ∷ s.Read n.MoreParameters ∷ [])
    (λ (bound, (more, _)). (bound ∷ more.0, more.1))

named_row : (one : Class) → is_name one ≡ true → parameters_row one ≡ first_row
unfolding first_row
named_row k.RightParen h = cc
named_row k.Ellipsis h = cc
named_row _ h = refl

pub one_parameter : (ts t rest : List Terminal) (b : Bound) (x : Terminal) → reads (n.Bound role.Parameter) ts ≡ Got b t
    → takes k.RightParen t ≡ Got x rest
    → reads n.Parameters ts ≡ Got (b ∷ [], None) t
unfolding first_row
one_parameter ts t rest b x h i =
    reads_law n.Parameters ts
    ∙ ap (λ r. by_row reads n.Parameters r ts) (named_row (look ts).one (begins_named role.Parameter ts t b h))
    ∙ ap (λ r. and_then r (λ vs end. Got (vs.0 ∷ vs.1.0.0, vs.1.0.1) end))
    (cons_makes (s.Read (n.Bound role.Parameter)) (s.Read n.MoreParameters ∷ []) ts t t b (NoParameters, tt) h
    (cons_makes (s.Read n.MoreParameters) [] t t t NoParameters tt (no_more_parameters t rest x i) refl))

-- Behind a parameter of a setter nothing is read.
pub end_read : (ts rest : List Terminal) (v : Unit {0}) → reads n.ParameterEnd ts ≡ Got v rest → ts ≡ rest
end_read ts rest v h = ends_by (look ts).one ts rest v (sym (reads_law n.ParameterEnd ts) ∙ h)

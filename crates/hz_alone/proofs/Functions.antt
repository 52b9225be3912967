-- Each function is read by a reader that begins where it starts.
use Rattle.std.proofs.Common.{◌≡◌, Bool, true, false, if◌then◌else◌, List, [], ◌∷◌, ◌++◌}
use Rattle.std.proofs.Common.{None, codes, drop, refl, ap, sym}
use Rattle.std.proofs.Common.{◌∙◌}
use Rattle.std.proofs.Common.{All}
use Rattle.std.proofs.lemmas.List.Elements.{All-nil, All-cons, All-head, All-tail}
use denote.Enum.Bare.{same_true}
use Rattle.hz_tree.specs.contracts.class.Class.{the_type as class_type}
use Rattle.hz_tree.specs.declared.class.Class.{Class}
use Rattle.hz_tree.specs.declared.class.Class.TheVariants as k
use Rattle.hz_tree.specs.declared.look.Look.{Look}
use Rattle.hz_tree.specs.declared.nonterminal.Nonterminal.TheVariants as n
use Rattle.hz_tree.specs.declared.signal.Role.{Role}
use Rattle.hz_tree.specs.declared.signal.Role.TheVariants as role
use Rattle.hz_tree.specs.declared.signal.Signal.TheVariants as tell
use Rattle.hz_tree.specs.declared.symbol.Symbol.TheVariants as s
use Rattle.hz_tree.specs.declared.tree.Tree.{Tree}
use Rattle.hz_tree.specs.grammar.Classes.{fits, is_name, same_class, class_of}
use Rattle.hz_tree.specs.grammar.Look.{Terminal, look, stuck, terminals}
use Rattle.hz_tree.specs.grammar.StatementRows.{bound_by}
use Rattle.hz_tree.specs.grammar.Symbols.{Parts, Value, Row, goes, refuses}
use Rattle.hz_tree.specs.reading.Reading.{Got, Stuck, place_ahead, takes, read_all, by_row, reads}
use Rattle.hz_tree.specs.tokens.Text.{Text, begins}
use Rattle.hz_tree.specs.tokens.Tokens.{tokens}
use Rattle.hz_middle.specs.Place.{beginning, left}
use Rattle.hz_laws.proofs.Balance.{Then, then_got}
use Rattle.hz_laws.proofs.ReadingLaws.{reads_law}
use Rattle.hz_stands.proofs.PlainReadings.{functions_stand_plainly}
use Rattle.hz_stands.proofs.PlainShapes.{shapes_told}
use Rattle.hz_stands.specs.Nodes.{FunctionNode, nodes_of}
use Rattle.hz_stands.specs.Plain.{StandingPlain, shape_by}
use Rattle.hz_stands.specs.Stands.{Shape, declared, expressed, arrowed, method, getter, setter, with_body, written}
use Rattle.hz_stands.specs.Stands.{Standing}
use Rattle.hz_alone.specs.Functions.{ReadAlone}
use Rattle.hz_alone.specs.Middle.{opens, untold, SameBehind, ReadsAlike}
use Rattle.hz_alone.specs.Walks.{walks_all}
use Rattle.hz_alone.proofs.Comments.{starts, no_comment}
use Rattle.hz_alone.proofs.Places.{reads_there}
use Rattle.hz_alone.proofs.Terminals.{Found, found}

-- ---- the first token

record First (from : List Terminal) : Type 0 where
  first : Terminal
  others : List Terminal
  is : from ≡ first ∷ others
  starting : starts first.class ≡ true

name_starts : (c : Class) → is_name c ≡ true → starts c ≡ true
name_starts k.Function h = cc
name_starts k.LeftParen h = cc
name_starts c h = h

function_starts : (c : Class) → fits k.Function c ≡ true → starts c ≡ true
unfolding same_class
function_starts c h = ap starts (sym (same_true class_type tt k.Function c h))

paren_starts : (c : Class) → fits k.LeftParen c ≡ true → starts c ≡ true
unfolding same_class
paren_starts c h = ap starts (sym (same_true class_type tt k.LeftParen c h))

take_first : (wanted : Class) (from mid : List Terminal) (v : Terminal)
    → ((c : Class) → fits wanted c ≡ true → starts c ≡ true) → takes wanted from ≡ Got v mid → First from
take_first wanted [] mid v h is = cc
take_first wanted (x ∷ rest) mid v h is =
    elim (fits wanted x.class) as (λ b. fits wanted x.class ≡ b
    → (if b then Got x rest else Stuck (stuck (look (x ∷ rest))) (x ∷ rest)) ≡ Got v mid → First (x ∷ rest)) [
      | true ↦ λ e got. record { first = x; others = rest; is = refl; starting = h x.class e }
      | false ↦ λ e got. cc
    ] refl is

params_first : (from mid : List Terminal) (v : Value n.Params) → reads n.Params from ≡ Got v mid → First from
params_first from mid v h =
    let all : Then (read_all reads (s.Take k.LeftParen ∷ s.Read n.Parameters ∷ s.Take k.RightParen ∷ []) from)
    (λ vs end. Got vs.1.0 end) v mid =
    then_got (read_all reads (s.Take k.LeftParen ∷ s.Read n.Parameters ∷ s.Take k.RightParen ∷ []) from) _ v mid
    (sym (reads_law n.Params from) ∙ h) in
    let one : Then (takes k.LeftParen from) _ all.first all.mid =
    then_got (takes k.LeftParen from) _ all.first all.mid all.got in
    take_first k.LeftParen from one.mid one.first paren_starts one.got

look_one : (x : Terminal) (ts : List Terminal) → (look (x ∷ ts)).one ≡ x.class
look_one x [] = refl
look_one x (y ∷ ts) = refl

abbrev name_row : (wanted : Role) → Look → (test : Bool) → Row (n.Bound wanted)
name_row wanted l test =
    if test then
    goes (s.Tell (tell.Declare wanted) ∷ s.Take k.Name ∷ []) (λ (told, _). record { at = told.at; name = told.text })
    else refuses (stuck l)

if_named : (test : Bool) (wanted : Role) (l : Look) (from mid : List Terminal) (v : Value (n.Bound wanted))
    → by_row reads (n.Bound wanted) (name_row wanted l test) from ≡ Got v mid → test ≡ true
if_named true wanted l from mid v h = refl
if_named false wanted l from mid v h = cc

bound_named : (one : Class) (wanted : Role) (l : Look) (from mid : List Terminal) (v : Value (n.Bound wanted))
    → by_row reads (n.Bound wanted) (bound_by wanted l one) from ≡ Got v mid → is_name l.one ≡ true
bound_named k.LeftBracket wanted l from mid v h = cc
bound_named k.LeftBrace wanted l from mid v h = cc
bound_named _ wanted l from mid v h = if_named (is_name l.one) wanted l from mid v h

bound_first : (wanted : Role) (from mid : List Terminal) (v : Value (n.Bound wanted))
    → reads (n.Bound wanted) from ≡ Got v mid → First from
bound_first wanted [] mid v h = absurd (none (sym (reads_law (n.Bound wanted) []) ∙ h))
  where
    none : by_row reads (n.Bound wanted) (bound_by wanted (look []) k.End) [] ≡ Got v mid → ⊥
    none e = cc
bound_first wanted (x ∷ rest) mid v h = record {
  first = x;
  others = rest;
  is = refl;
  starting =
      name_starts x.class (ap is_name (sym (look_one x rest))
      ∙ bound_named (look (x ∷ rest)).one wanted (look (x ∷ rest)) (x ∷ rest) mid v
      (sym (reads_law (n.Bound wanted) (x ∷ rest)) ∙ h));
}

shape_first : (shape : Shape) (from rest : List Terminal) (parts : Parts Value (written shape).symbols)
    → read_all reads (written shape).symbols from ≡ Got parts rest → First from
shape_first (declared true) from rest parts h =
    let one = then_got (takes k.Function from) _ parts rest h in
    take_first k.Function from one.mid one.first function_starts one.got
shape_first (declared false) from rest parts h =
    let one = then_got (takes k.Function from) _ parts rest h in
    take_first k.Function from one.mid one.first function_starts one.got
shape_first (expressed true) from rest parts h =
    let one = then_got (takes k.Function from) _ parts rest h in
    take_first k.Function from one.mid one.first function_starts one.got
shape_first (expressed false) from rest parts h =
    let one = then_got (takes k.Function from) _ parts rest h in
    take_first k.Function from one.mid one.first function_starts one.got
shape_first (arrowed c true) from rest parts h =
    let one = then_got (reads n.Params from) _ parts rest h in params_first from one.mid one.first one.got
shape_first (arrowed c false) from rest parts h =
    let one = then_got (reads (n.Bound role.Parameter) from) _ parts rest h in
    bound_first role.Parameter from one.mid one.first one.got
shape_first (method true) from rest parts h =
    let one = then_got (reads n.Params from) _ parts rest h in params_first from one.mid one.first one.got
shape_first (method false) from rest parts h =
    let one = then_got (reads n.Params from) _ parts rest h in params_first from one.mid one.first one.got
shape_first getter from rest parts h =
    let one = then_got (takes k.LeftParen from) _ parts rest h in
    take_first k.LeftParen from one.mid one.first paren_starts one.got
shape_first setter from rest parts h =
    let one = then_got (takes k.LeftParen from) _ parts rest h in
    take_first k.LeftParen from one.mid one.first paren_starts one.got

-- ---- the symbols of functions

pub record Fit (shape : Shape) : Type 0 where
  pub opening : opens (written shape).symbols ≡ true
  pub silent : untold (written shape).symbols ≡ true
  pub walking : walks_all [] (written shape).symbols ≡ true
  same : (p q : Parts Value (written shape).symbols) → SameBehind (written shape).symbols p q
      → (written shape).given p ≡ (written shape).given q

pub shapes_fit : (shape : Shape) → Fit shape
shapes_fit (declared true) = record {
  opening = refl;
  silent = refl;
  walking = refl;
  same = λ p q h. ap (λ more. with_body more.1.1.0 more.1.1.1.0) h;
}
shapes_fit (declared false) = record {
  opening = refl;
  silent = refl;
  walking = refl;
  same = λ p q h. ap (λ more. with_body more.1.0 more.1.1.0) h;
}
shapes_fit (expressed true) = record {
  opening = refl;
  silent = refl;
  walking = refl;
  same = λ p q h. ap (λ more. with_body more.1.1.0 more.1.1.1.0) h;
}
shapes_fit (expressed false) = record {
  opening = refl;
  silent = refl;
  walking = refl;
  same = λ p q h. ap (λ more. with_body more.1.0 more.1.1.0) h;
}
shapes_fit (arrowed c true) = record {
  opening = refl;
  silent = refl;
  walking = refl;
  same = λ p q h. ap (written (arrowed c true)).given h;
}
shapes_fit (arrowed c false) = record {
  opening = refl;
  silent = refl;
  walking = refl;
  same = λ p q h. ap (written (arrowed c false)).given h;
}
shapes_fit (method true) = record {
  opening = refl;
  silent = refl;
  walking = refl;
  same = λ p q h. ap (written (method true)).given h;
}
shapes_fit (method false) = record {
  opening = refl;
  silent = refl;
  walking = refl;
  same = λ p q h. ap (written (method false)).given h;
}
shapes_fit getter = record {
  opening = refl;
  silent = refl;
  walking = refl;
  same = λ p q h. ap (λ more. with_body ([], None) more.1.0) h;
}
shapes_fit setter = record {
  opening = refl;
  silent = refl;
  walking = refl;
  same = λ p q h. ap (λ more. with_body (more.0 ∷ [], None) more.1.1.1.0) h;
}

-- ---- functions

-- where a function stands, as a reader finds it that begins there
pub record Beginning (source : Text) (f : FunctionNode) (s : Standing f (terminals source)) : Type 0 where
  pub first : Terminal
  pub others : List Terminal
  pub from : s.from ≡ first ∷ others
  pub split : terminals source ≡ s.passed ++ first ∷ others
  pub comment : begins (codes "-->") (drop first.token.at source) ≡ false
  pub at : f.at ≡ first.token.at

pub begins_there : (source : Text) (f : FunctionNode) (s : Standing f (terminals source)) → Beginning source f s
unfolding terminals
begins_there source f s =
    let one : First s.from = shape_first s.shape s.from s.left s.parts s.read in
    let there : terminals source ≡ s.passed ++ one.first ∷ one.others =
    s.split ∙ ap (λ us. s.passed ++ us) one.is in
    let t : Found (tokens source) one.first one.others =
    found s.passed 0 (tokens source) one.first one.others there in
    let starting : starts (class_of one.first.token) ≡ true =
    sym (ap (λ x. starts x.class) t.here) ∙ one.starting in
    record {
      first = one.first;
      others = one.others;
      from = one.is;
      split = there;
      comment = no_comment source t.before t.after one.first.token t.split starting;
      at = s.start ∙ ap place_ahead one.is;
    }

pub read_alone : (source : Text) (f : FunctionNode) → StandingPlain f (terminals source) → ReadAlone source f
read_alone source f h =
    let s : Standing f (terminals source) = h.standing in
    let b : Beginning source f s = begins_there source f s in
    let fit : Fit s.shape = shapes_fit s.shape in
    let r : ReadsAlike (written s.shape).symbols s.parts s.left (left (beginning source b.first.token.at)) =
    reads_there source s.passed b.others s.left b.first (written s.shape).symbols s.parts b.split b.comment
    fit.opening fit.silent fit.walking (sym (ap (read_all reads (written s.shape).symbols) b.from) ∙ s.read) in
    let read : read_all reads (written s.shape).symbols (left (beginning source f.at)) ≡ Got r.others r.left =
    ap (λ place. read_all reads (written s.shape).symbols (left (beginning source place))) b.at ∙ r.read in
    (record {
      shape = s.shape;
      parts = r.others;
      rest = r.left;
      plain = h.plain;
      told =
          shapes_told s.shape (left (beginning source f.at)) r.left r.others h.plain read
          ∙ ap (λ kind. shape_by kind (look (left (beginning source f.at))).one) (sym s.kind);
      read = read;
      end = s.end ∙ sym r.end;
      kind = s.kind;
      given = s.given ∙ fit.same s.parts r.others r.same;
    })

alone_each : (source : Text) (fs : List FunctionNode) → All (λ f. StandingPlain f (terminals source)) fs
    → All (ReadAlone source) fs
alone_each source [] h = All-nil (ReadAlone source)
alone_each source (f ∷ fs) h =
    All-cons (ReadAlone source) f fs
    (read_alone source f (All-head (λ g. StandingPlain g (terminals source)) f fs h))
    (alone_each source fs (All-tail (λ g. StandingPlain g (terminals source)) f fs h))

pub all_alone : (source : Text) (script : Tree) (rest : List Terminal)
    → reads n.Script (terminals source) ≡ Got script rest → All (ReadAlone source) (nodes_of script)
all_alone source script rest h =
    alone_each source (nodes_of script) (functions_stand_plainly n.Script (terminals source) rest script refl h)

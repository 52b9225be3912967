-- In which plain way a function is read, its kind and its first token tell.
use Rattle.std.proofs.Common.{◌≡◌, Bool, true, false, not, ◌&&◌, List, [], ◌∷◌, refl, ap, sym, ◌∙◌}
use Rattle.hz_tree.specs.declared.class.Class.{Class}
use Rattle.hz_tree.specs.declared.class.Class.TheVariants as k
use Rattle.hz_tree.specs.declared.nonterminal.Context.{Context}
use Rattle.hz_tree.specs.declared.nonterminal.Nonterminal.TheVariants as n
use Rattle.hz_tree.specs.declared.signal.Role.TheVariants as role
use Rattle.hz_tree.specs.declared.symbol.Symbol.TheVariants as s
use Rattle.hz_tree.specs.grammar.Classes.{is_function, is_name, is_paren}
use Rattle.hz_tree.specs.grammar.Look.{Terminal, look}
use Rattle.hz_tree.specs.grammar.Symbols.{Parts, Value, of_body}
use Rattle.hz_tree.specs.reading.Reading.{Got, read_all, reads}
use Rattle.hz_stands.specs.Nodes.{FunctionNode}
use Rattle.hz_stands.specs.Plain.{is_plain, generator_by, shape_by, StandingPlain}
use Rattle.hz_stands.specs.Stands.{Shape, declared, expressed, arrowed, method, getter, setter, written}
use Rattle.hz_stands.proofs.Plain.{begins_named, function_first, paren_first}
use Rattle.hz_stands.proofs.Several.{Cons, cons_got}

-- the context of a plain arrow
plain_by : (returns yields no_in : Bool) → (returns && (not yields && not no_in)) ≡ true
    → record { returns = returns; yields = yields; no_in = no_in } ≡ of_body false
plain_by true false false h = refl
plain_by true false true h = cc
plain_by true true no_in h = cc
plain_by false yields no_in h = cc

name_no_paren : (c : Class) → is_name c ≡ true → is_paren c ≡ false
name_no_paren k.LeftParen h = cc
name_no_paren c h = refl

-- the parameters of an arrow
arrow_told : (c : Context) (parenthesised : Bool) (first : Class) → is_plain (arrowed c parenthesised) ≡ true
    → is_paren first ≡ parenthesised → arrowed c parenthesised ≡ arrowed (of_body false) (is_paren first)
arrow_told c parenthesised first h i =
    ap (λ x. arrowed x parenthesised) (plain_by c.returns c.yields c.no_in h) ∙ ap (arrowed (of_body false)) (sym i)

pub shapes_told : (shape : Shape) (from left : List Terminal) (parts : Parts Value (written shape).symbols)
    → is_plain shape ≡ true → read_all reads (written shape).symbols from ≡ Got parts left
    → shape ≡ shape_by (written shape).kind (look from).one
shapes_told (declared true) from left parts h is = cc
shapes_told (declared false) from left parts h is = cc
shapes_told (expressed true) from left parts h is =
    let others = s.Take k.Star ∷ s.Read n.OwnName ∷ s.Read n.Params ∷ s.Read (n.Body true) ∷ [] in
    let one : Cons reads (s.Take k.Function) others from parts left =
    cons_got reads (s.Take k.Function) others from parts left is in
    ap (λ c. generator_by (is_function c)) (sym (function_first from one.mid parts.0 one.first))
shapes_told (expressed false) from left parts h is = refl
shapes_told (arrowed c true) from left parts h is =
    let others = s.Read n.ArrowSign ∷ s.Read (n.ArrowBody c) ∷ [] in
    let one : Cons reads (s.Read n.Params) others from parts left =
    cons_got reads (s.Read n.Params) others from parts left is in
    arrow_told c true (look from).one h (ap is_paren (paren_first from one.mid parts.0 one.first))
shapes_told (arrowed c false) from left parts h is =
    let others = s.Read n.ArrowSign ∷ s.Read (n.ArrowBody c) ∷ [] in
    let one : Cons reads (s.Read (n.Bound role.Parameter)) others from parts left =
    cons_got reads (s.Read (n.Bound role.Parameter)) others from parts left is in
    arrow_told c false (look from).one h
    (name_no_paren (look from).one (begins_named role.Parameter from one.mid parts.0 one.first))
shapes_told (method true) from left parts h is =
    let others = s.Read (n.Body true) ∷ [] in
    let one : Cons reads (s.Read n.Params) others from parts left =
    cons_got reads (s.Read n.Params) others from parts left is in
    ap (λ c. generator_by (is_function c)) (sym (paren_first from one.mid parts.0 one.first))
shapes_told (method false) from left parts h is = refl
shapes_told getter from left parts h is = cc
shapes_told setter from left parts h is = cc

-- so of a function that stands among terminals
pub standing_told : (f : FunctionNode) (ts : List Terminal) (h : StandingPlain f ts)
    → h.standing.shape ≡ shape_by f.kind (look h.standing.from).one
standing_told f ts h =
    shapes_told h.standing.shape h.standing.from h.standing.left h.standing.parts h.plain h.standing.read
    ∙ ap (λ kind. shape_by kind (look h.standing.from).one) (sym h.standing.kind)

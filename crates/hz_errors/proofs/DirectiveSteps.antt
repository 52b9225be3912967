-- What statements do to the directives of the function that they stand in.
use Rattle.std.proofs.Common.{◌≡◌, Bool, true, false, ◌&&◌, ◌||◌, if◌then◌else◌, List, [], ◌∷◌, drop, Option, Some}
use Rattle.std.proofs.Common.{None, refl, ap, sym, ◌∙◌}
use Rattle.std.proofs.Math.Bool.{or_assoc}
use Rattle.std.specs.List.{list_any}
use Rattle.hz_tree.specs.declared.early.EarlyKind.TheVariants as early
use Rattle.hz_tree.specs.grammar.Signals.{Event}
use Rattle.hz_tree.specs.errors.Targets.{is_use_strict}
use Rattle.hz_tree.specs.errors.Targets.{Errors, no_errors, joined, an_early, Directive, prologue, strict_errors}
use Rattle.hz_errors.specs.declared.functions.Opened.{Opened}
use Rattle.hz_errors.specs.Operands.{Operands, noting, with_functions, change_innermost, with_prologue}
use Rattle.hz_errors.specs.Operands.{closing, with_directive, directing, directive_errors, after, is_strict}
use Rattle.hz_errors.specs.Operands.{says_strict}
use Rattle.hz_errors.proofs.OperandSteps.{noting_twice, noting_none, noting_swapped, unmarked, Over, closed}

abbrev pub Directs : List Event → Option Directive → Errors → Type 0
Directs es directive errors = (s : Operands) → after s es ≡ noting errors (directing directive s)

-- ---- where no directive can come

closed_twice : (fs : List Opened)
    → change_innermost (with_prologue false) (change_innermost (with_prologue false) fs)
    ≡ change_innermost (with_prologue false) fs
closed_twice [] = refl
closed_twice (f ∷ outer) = refl

closed_directive : (d : Directive) (fs : List Opened) (s : Operands)
    → noting (directive_errors d (change_innermost (with_prologue false) fs))
    (with_functions (change_innermost (with_directive d) (change_innermost (with_prologue false) fs)) s)
    ≡ with_functions (change_innermost (with_prologue false) fs) s
closed_directive d [] s = noting_none (with_functions [] s)
closed_directive d (f ∷ outer) s =
    noting_none (with_functions (with_directive d (with_prologue false f) ∷ outer) s)
    ∙ ap (λ strict. with_functions (record { prologue = false; rest = f.rest; strict = strict } ∷ outer) s)
    (sym (unmarked f.strict))

pub directing_closed : (directive : Option Directive) (s : Operands) → directing directive (closing s) ≡ closing s
directing_closed None s = ap (λ fs. with_functions fs s) (closed_twice s.functions)
directing_closed (Some d) s = closed_directive d s.functions s

pub over_directs : (es : List Event) (directive : Option Directive) (a : Errors) → Directs es directive a
    → Over closed es a
over_directs es directive a h s = h (closing s) ∙ ap (noting a) (directing_closed directive s)

-- ---- several statements

abbrev pub directing_all : List (Option Directive) → Operands → Operands
directing_all [] s = s
directing_all (first ∷ more) s = directing_all more (directing first s)

pub directing_noting : (directive : Option Directive) (a : Errors) (s : Operands)
    → directing directive (noting a s) ≡ noting a (directing directive s)
directing_noting None a s = refl
directing_noting (Some d) a s =
    noting_swapped a (directive_errors d s.functions)
    (with_functions (change_innermost (with_directive d) s.functions) s)

pub directing_all_noting : (directives : List (Option Directive)) (a : Errors) (s : Operands)
    → directing_all directives (noting a s) ≡ noting a (directing_all directives s)
directing_all_noting [] a s = refl
directing_all_noting (first ∷ more) a s =
    ap (directing_all more) (directing_noting first a s) ∙ directing_all_noting more a (directing first s)

directing_all_closed : (directives : List (Option Directive)) (s : Operands)
    → directing_all directives (closing s) ≡ closing s
directing_all_closed [] s = refl
directing_all_closed (first ∷ more) s = ap (directing_all more) (directing_closed first s) ∙ directing_all_closed more s

-- ---- the prologue

-- whether one of them says "use strict"
abbrev pub says : List Directive → Bool
says directives = list_any (λ d. is_use_strict d.written) directives

abbrev pub rest_errors : (rest : Bool) → List Directive → Errors
rest_errors rest directives = if rest then strict_errors directives else no_errors

pub rest_none : (rest : Bool) → rest_errors rest [] ≡ no_errors
rest_none true = refl
rest_none false = refl

rest_more : (rest : Bool) (d : Directive) (more : List Directive)
    → joined (if rest && is_use_strict d.written then an_early (early.UseStrictInBody, d.at) else no_errors)
    (rest_errors rest more)
    ≡ rest_errors rest (d ∷ more)
rest_more true d more = refl
rest_more false d more = refl

-- a function behind these directives
abbrev pub directed : Opened → List Directive → Opened
directed f directives = record { prologue = false; rest = f.rest; strict = f.strict || says directives }

no_prologue : (f : Opened) (outer : List Opened) (s : Operands)
    → with_functions (with_prologue false f ∷ outer) s
    ≡ noting (rest_errors f.rest []) (with_functions (directed f [] ∷ outer) s)
no_prologue f outer s =
    ap (λ strict. with_functions (record { prologue = false; rest = f.rest; strict = strict } ∷ outer) s)
    (unmarked f.strict)
    ∙ sym (noting_none (with_functions (directed f [] ∷ outer) s))
    ∙ ap (λ e. noting e (with_functions (directed f [] ∷ outer) s)) (sym (rest_none f.rest))

pub prologue_told : (directives : List (Option Directive)) (f : Opened) (outer : List Opened) (s : Operands)
    → closing (directing_all directives (with_functions (with_prologue true f ∷ outer) s))
    ≡ noting (rest_errors f.rest (prologue directives)) (with_functions (directed f (prologue directives) ∷ outer) s)
prologue_told [] f outer s = no_prologue f outer s
prologue_told (None ∷ more) f outer s =
    ap closing (directing_all_closed more (with_functions (with_prologue true f ∷ outer) s)) ∙ no_prologue f outer s
prologue_told (Some d ∷ more) f outer s =
    let said : Opened = record f { strict = f.strict || is_use_strict d.written } in
    let own : Errors =
    if f.rest && is_use_strict d.written then an_early (early.UseStrictInBody, d.at) else no_errors in
    let others : Errors = rest_errors f.rest (prologue more) in
    ap closing (directing_all_noting more own (with_functions (with_prologue true said ∷ outer) s))
    ∙ ap (noting own) (prologue_told more said outer s)
    ∙ noting_swapped others own (with_functions (directed said (prologue more) ∷ outer) s)
    ∙ noting_twice own others (with_functions (directed said (prologue more) ∷ outer) s)
    ∙ ap (λ e. noting e (with_functions (directed said (prologue more) ∷ outer) s)) (rest_more f.rest d (prologue more))
    ∙ ap (λ strict. noting (rest_errors f.rest (d ∷ prologue more))
    (with_functions (record { prologue = false; rest = f.rest; strict = strict } ∷ outer) s))
    (or_assoc f.strict (is_use_strict d.written) (says (prologue more)))

-- ---- what is left of a function

-- the innermost function ends
abbrev pub dropped : Operands → Operands
dropped s = with_functions (drop 1 s.functions) s

drop_closed : (fs : List Opened) → drop 1 fs ≡ drop 1 (change_innermost (with_prologue false) fs)
drop_closed [] = refl
drop_closed (f ∷ outer) = refl

pub dropped_closing : (s : Operands) → dropped s ≡ dropped (closing s)
dropped_closing s = ap (λ fs. with_functions fs s) (drop_closed s.functions)

says_closed : (fs : List Opened) → says_strict fs ≡ says_strict (change_innermost (with_prologue false) fs)
says_closed [] = refl
says_closed (f ∷ outer) = refl

pub strict_closing : (s : Operands) → is_strict s ≡ is_strict (closing s)
strict_closing s = says_closed s.functions

-- The least of several errors.
use Rattle.std.proofs.Common.{◌≡◌, ℕ, Bool, true, false, ◌&&◌, ◌||◌, cond, List, [], ◌∷◌, ◌++◌, refl, sym, ap, ◌∙◌}
use Rattle.std.proofs.Common.{arith}
use Rattle.std.proofs.Common.{eqb, ltb, Option, Some, None}
use Rattle.std.specs.Option.{option_map}
use Rattle.std.proofs.lemmas.Bool.{eq-eqb, le-ltb}
use Rattle.std.proofs.lemmas.Bool.Decides.{nat_tests}
use Rattle.hz_tree.specs.declared.early.EarlyKind.{EarlyKind}
use Rattle.hz_tree.specs.declared.early.EarlyKind.TheVariants as early
use Rattle.hz_tree.specs.sources.EarlyErrors.{order_of_early}
use Rattle.hz_tree.specs.sources.Least.{precedes, lesser, least_of}
use Rattle.hz_early.specs.declared.event.ScopeEvent.{ScopeEvent}
use Rattle.hz_early.specs.declared.event.ScopeEvent.TheVariants as event
use Rattle.hz_tree.specs.errors.Scopes.{error_if}
use Rattle.hz_tree.specs.errors.Scopes.{errors_at}
use Rattle.hz_early.specs.Events.{Known, errors_told, errors_from, errors_of, happens, known_from}
use Rattle.hz_early.specs.Events.{known_behind, nothing_known}
use Rattle.hz_early.specs.Stack.{first_of}

pub lesser-none : {K : Type 0} (order : K → ℕ) (x : Option (K × ℕ)) → lesser order x None ≡ x
lesser-none order None = refl
lesser-none order (Some x) = refl

-- whether (p, k) stands before (q, l)
abbrev before : ℕ → ℕ → ℕ → ℕ → Bool
before p k q l = ltb p q || (eqb p q && ltb k l)

before_both : (p k q l r m : ℕ) → before q l p k ≡ true → before r m q l ≡ true → before r m p k ≡ true
before_both p k q l r m a b = grind (arith, nat_tests)

before_none : (p k q l r m : ℕ) → before q l p k ≡ false → before r m q l ≡ false → before r m p k ≡ false
before_none p k q l r m a b = grind (arith, nat_tests)

-- the three comparisons of three errors, as far as they can be
picked : {X : Type 0} (x y z : X) (a b c : Bool)
    → (a ≡ true → b ≡ true → c ≡ true) → (a ≡ false → b ≡ false → c ≡ false)
    → cond a (cond b z y) (cond c z x) ≡ cond b (cond c z x) (cond a y x)
picked x y z true true c both none = ap (λ c. cond c z x) (sym (both refl refl))
picked x y z true false c both none = refl
picked x y z false true c both none = refl
picked x y z false false c both none = ap (λ c. cond c z x) (none refl refl)

lesser_first : {K : Type 0} (order : K → ℕ) (x y z : K × ℕ) (a : Bool)
    → lesser order (cond a (Some y) (Some x)) (Some z)
    ≡ cond a (lesser order (Some y) (Some z)) (lesser order (Some x) (Some z))
lesser_first order x y z true = refl
lesser_first order x y z false = refl

lesser_second : {K : Type 0} (order : K → ℕ) (x y z : K × ℕ) (b : Bool)
    → lesser order (Some x) (cond b (Some z) (Some y))
    ≡ cond b (lesser order (Some x) (Some z)) (lesser order (Some x) (Some y))
lesser_second order x y z true = refl
lesser_second order x y z false = refl

pub lesser_assoc : {K : Type 0} (order : K → ℕ) (x y z : Option (K × ℕ))
    → lesser order (lesser order x y) z ≡ lesser order x (lesser order y z)
lesser_assoc order None y z = refl
lesser_assoc order (Some x) None z = refl
lesser_assoc order (Some x) (Some y) None = lesser-none order (lesser order (Some x) (Some y))
lesser_assoc order (Some x) (Some y) (Some z) =
    lesser_first order x y z (precedes order y x)
    ∙ picked (Some x) (Some y) (Some z) (precedes order y x) (precedes order z y) (precedes order z x)
    (before_both x.1 (order x.0) y.1 (order y.0) z.1 (order z.0))
    (before_none x.1 (order x.0) y.1 (order y.0) z.1 (order z.0))
    ∙ sym (lesser_second order x y z (precedes order z y))

pub least_of-append : {K : Type 0} (order : K → ℕ) (xs ys : List (K × ℕ))
    → least_of order (xs ++ ys) ≡ lesser order (least_of order xs) (least_of order ys)
least_of-append order [] ys = refl
least_of-append order (x ∷ xs) ys =
    ap (λ rest. lesser order (Some x) rest) (least_of-append order xs ys)
    ∙ sym (lesser_assoc order (Some x) (least_of order xs) (least_of order ys))

least_told : (k : Known) (e : ScopeEvent)
    → (happens k e).least ≡ lesser order_of_early k.least (least_of order_of_early (errors_told k.scopes e))
least_told k (event.Open kind) = sym (lesser-none order_of_early k.least)
least_told k event.Close = sym (lesser-none order_of_early k.least)
least_told k (event.Declare kind name at) = refl
least_told k (event.Found kind at) = refl

least_from : (k : Known) (events : List ScopeEvent)
    → (known_from k events).least ≡ lesser order_of_early k.least (least_of order_of_early (errors_from k events))
least_from k [] = sym (lesser-none order_of_early k.least)
least_from k (e ∷ more) =
    let told = errors_told k.scopes e in
    let rest = errors_from (happens k e) more in
    least_from (happens k e) more
    ∙ ap (λ least. lesser order_of_early least (least_of order_of_early rest)) (least_told k e)
    ∙ lesser_assoc order_of_early k.least (least_of order_of_early told) (least_of order_of_early rest)
    ∙ ap (λ least. lesser order_of_early k.least least) (sym (least_of-append order_of_early told rest))

pub least_known : (events : List ScopeEvent)
    → (known_behind events).least ≡ least_of order_of_early (errors_of events)
least_known events = least_from nothing_known events

-- where errors of one place stand in the order of their kinds, the first is the least
later : (at : ℕ) → ltb at at ≡ false
later at = le-ltb at at (omega arith)

same : (at : ℕ) → eqb at at ≡ true
same at = eq-eqb at at refl

-- the least of these errors, at this place, is the first
abbrev pub IsFirstLeast : ℕ → List EarlyKind → Type 0
IsFirstLeast at errors =
    least_of order_of_early (errors_at at errors) ≡ option_map (λ error. (error, at)) (first_of errors)

pub one_error : (at : ℕ) (kind : EarlyKind) (a : Bool) → IsFirstLeast at (error_if a kind)
one_error at kind true = refl
one_error at kind false = refl

pub var_errors_first : (at : ℕ) (a b : Bool)
    → IsFirstLeast at (error_if a early.LexicalVarClash ++ error_if b early.CatchClash)
var_errors_first at true true = simp (later, same)
var_errors_first at true false = refl
var_errors_first at false true = refl
var_errors_first at false false = refl

pub lexical_errors_first : (at : ℕ) (a b c d : Bool)
    → IsFirstLeast at (error_if a early.DuplicateLexical ++ (error_if b early.LexicalVarClash
    ++ (error_if c early.ParameterClash ++ error_if d early.CatchClash)))
lexical_errors_first at true true true true = simp (later, same)
lexical_errors_first at true true true false = simp (later, same)
lexical_errors_first at true true false true = simp (later, same)
lexical_errors_first at true true false false = simp (later, same)
lexical_errors_first at true false true true = simp (later, same)
lexical_errors_first at true false true false = simp (later, same)
lexical_errors_first at true false false true = simp (later, same)
lexical_errors_first at true false false false = refl
lexical_errors_first at false true true true = simp (later, same)
lexical_errors_first at false true true false = simp (later, same)
lexical_errors_first at false true false true = simp (later, same)
lexical_errors_first at false true false false = refl
lexical_errors_first at false false true true = simp (later, same)
lexical_errors_first at false false true false = refl
lexical_errors_first at false false false true = refl
lexical_errors_first at false false false false = refl

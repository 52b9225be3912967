-- A function as its scopes are numbered.
use Rattle.std.proofs.Common.{◌≡◌, ◌∙◌, ℕ, zero, suc, ◌+◌, ◌<◌, ◌≤◌, Bool, List, length, Option, Some, None, refl, ap}
use Rattle.std.proofs.Common.{sym, arith}
use Rattle.std.proofs.Common.{take, ◌++◌, ◌∷◌, [], slice_index}
use Rattle.std.proofs.lemmas.List.{take_all}
use Rattle.std.proofs.lemmas.Option.{slice_get_within}
use Rattle.std.specs.List.{slice_get}
use Rattle.std.specs.Option.{option_map}
use Rattle.hz_tree.specs.declared.scope.ScopeAt.{ScopeAt}
use Rattle.hz_tree.specs.sources.Refusals.{function_scopes}
use Rattle.hz_tree.specs.tokens.Text.{Text}
use Rattle.hz_tree.specs.trees.FunctionScopes.{Scope, FunctionScopes}
use Rattle.hz_tree.specs.trees.Layout.{first_scope, number_of}
use Rattle.hz_resolve.specs.declared.functions.PlacedFunction.{PlacedFunction}
use Rattle.hz_resolve.specs.Starts.{starts_of, around_of, placed_function}
use Rattle.hz_resolve.proofs.lemmas.Nesting.{ordered}
use Rattle.hz_resolve.specs.Numbered.{Numbered, numbered, uses_of, scopes_of}
use Rattle.hz_resolve.specs.Starts.{all_placed_in}
use Rattle.hz_tree.specs.trees.Layout.{PlacedScope, scopes_from}
use Rattle.hz_resolve.proofs.Building.{functions_step, first_of}
use Rattle.hz_resolve.proofs.Parts.{total, starts_step}
use Rattle.std.proofs.lemmas.Option.{slice_get-map, same_Some}

-- a function stands in one that is there
pub outer_there : (source : Text) (k : ℕ) (at : ScopeAt)
    → option_map (λ (f : FunctionScopes). f.around) (slice_get (function_scopes source) k) ≡ Some (Some at)
    → at.function < length (function_scopes source)
outer_there source k at is = there k (slice_get (function_scopes source) k) refl is
  where
    there : (k : ℕ) (o : Option FunctionScopes) → slice_get (function_scopes source) k ≡ o
        → option_map (λ (f : FunctionScopes). f.around) o ≡ Some (Some at)
        → at.function < length (function_scopes source)
    there k None e h = absurd (cc)
    there zero (Some f) e h =
        let none = (ordered source).script f e in
        let some : f.around ≡ Some at = cc in
        absurd (cc (none.0, some))
    there (suc k) (Some f) e h =
        let behind = (ordered source).others k f e in
        let some : f.around ≡ Some at = cc in
        let same : behind.at ≡ at = cc (behind.is, some) in
        let function : behind.at.function ≡ at.function = ap (λ (a : ScopeAt). a.function) same in
        omega (
          arith,
          function,
          slice_get_within (function_scopes source) behind.at.function behind.outer behind.there,
        )

pub around_is : (fs : List FunctionScopes) (k : ℕ) (at : ScopeAt) (number : ℕ)
    → option_map (λ (f : FunctionScopes). f.around) (slice_get fs k) ≡ Some (Some at)
    → number ≡ number_of fs at
    → option_map (around_of fs) (slice_get fs k) ≡ Some (Some number)
around_is fs k at number is same = there (slice_get fs k) is
  where
    there : (o : Option FunctionScopes) → option_map (λ (f : FunctionScopes). f.around) o ≡ Some (Some at)
        → option_map (around_of fs) o ≡ Some (Some number)
    there None h = absurd (cc)
    there (Some f) h =
        let some : f.around ≡ Some at = cc in
        ap (λ (a : Option ScopeAt). Some (option_map (number_of fs) a)) some ∙ ap (λ n. Some (Some n)) (sym same)

pub around_none : (fs : List FunctionScopes) (k : ℕ)
    → option_map (λ (f : FunctionScopes). f.around) (slice_get fs k) ≡ Some None
    → option_map (around_of fs) (slice_get fs k) ≡ Some None
around_none fs k is = there (slice_get fs k) is
  where
    there : (o : Option FunctionScopes) → option_map (λ (f : FunctionScopes). f.around) o ≡ Some None
        → option_map (around_of fs) o ≡ Some None
    there None h = absurd (cc)
    there (Some f) h =
        let none : f.around ≡ None = cc in ap (λ (a : Option ScopeAt). Some (option_map (number_of fs) a)) none

pub placed_is : (fs : List FunctionScopes) (k first : ℕ) (binds : Bool) (around : Option ℕ)
    → option_map (λ (f : FunctionScopes). f.binds) (slice_get fs k) ≡ Some binds
    → option_map (around_of fs) (slice_get fs k) ≡ Some around
    → first ≡ first_scope fs k
    → option_map (placed_function fs k) (slice_get fs k)
    ≡ Some (record { number = k; binds = binds; first = first; around = around })
placed_is fs k first binds around b a is = there (slice_get fs k) b a
  where
    there : (o : Option FunctionScopes) → option_map (λ (f : FunctionScopes). f.binds) o ≡ Some binds
        → option_map (around_of fs) o ≡ Some around
        → option_map (placed_function fs k) o
        ≡ Some (record { number = k; binds = binds; first = first; around = around })
    there None b a = absurd (cc)
    there (Some f) b a =
        let bound : f.binds ≡ binds = cc in
        let outer : around_of fs f ≡ around = cc in
        rw (is, ← bound, ← outer) refl

-- what is known of a function by parts of it
pub record Known (fs : List FunctionScopes) (k : ℕ) (scopes : List Scope) : Type 0 where
  pub function : FunctionScopes
  pub there : slice_get fs k ≡ Some function
  pub scopes_are : function.scopes ≡ scopes

pub known : (fs : List FunctionScopes) (k : ℕ) (scopes : List Scope)
    → option_map (λ (f : FunctionScopes). f.scopes) (slice_get fs k) ≡ Some scopes → Known fs k scopes
known fs k scopes is = there (slice_get fs k) refl is
  where
    there : (o : Option FunctionScopes) → slice_get fs k ≡ o
        → option_map (λ (f : FunctionScopes). f.scopes) o ≡ Some scopes → Known fs k scopes
    there None e h = absurd (cc)
    there (Some f) e h = record { function = f; there = e; scopes_are = cc }

pub function_starts_step : (fs : List FunctionScopes) (k n : ℕ) (scopes : List Scope) (starts : List ℕ) (sum : ℕ)
    → option_map (λ (f : FunctionScopes). f.scopes) (slice_get fs k) ≡ Some scopes
    → n ≡ length scopes
    → starts ≡ starts_of (λ (f : FunctionScopes). length f.scopes) 0 (take k fs)
    → sum ≡ total (λ (f : FunctionScopes). length f.scopes) (take k fs)
    → (starts ++ (sum + n) ∷ [] ≡ starts_of (λ (f : FunctionScopes). length f.scopes) 0 (take (k + 1) fs))
    × (sum + n ≡ total (λ (f : FunctionScopes). length f.scopes) (take (k + 1) fs))
function_starts_step fs k n scopes starts sum at long are is =
    let f = known fs k scopes at in
    let size : length f.function.scopes ≡ n = ap length f.scopes_are ∙ sym long in
    let step = starts_step (λ (f : FunctionScopes). length f.scopes) fs k f.function starts sum f.there are is in (
      ap (λ m. starts ++ (sum + m) ∷ []) (sym size) ∙ step.0,
      ap (λ m. sum + m) (sym size) ∙ step.1,
    )

-- the scopes of one function more
pub placed_step : (fs : List FunctionScopes) (k next past : ℕ) (p : PlacedFunction) (own : List Scope)
    (was now : List Numbered)
    → option_map (placed_function fs k) (slice_get fs k) ≡ Some p
    → option_map (λ (f : FunctionScopes). f.scopes) (slice_get fs k) ≡ Some own
    → (was ≡ numbered 0 (scopes_from fs 0 0 (take k fs))) × (next ≡ length (uses_of (scopes_from fs 0 0 (take k fs))))
    → now ≡ was ++ numbered next (all_placed_in p p.first own)
    → past ≡ next + length (uses_of (all_placed_in p p.first own))
    → (now ≡ numbered 0 (scopes_from fs 0 0 (take (k + 1) fs)))
    × (past ≡ length (uses_of (scopes_from fs 0 0 (take (k + 1) fs))))
placed_step fs k next past p own was now is at before step end =
    let f = known fs k own at in
    let same : placed_function fs k f.function ≡ p =
    same_Some (placed_function fs k f.function) p (ap (option_map (placed_function fs k)) (sym f.there) ∙ is) in
    let all : all_placed_in p p.first own
    ≡ all_placed_in (placed_function fs k f.function) (first_scope fs k) f.function.scopes =
    ap (λ (q : PlacedFunction). all_placed_in q q.first own) (sym same)
    ∙ ap (all_placed_in (placed_function fs k f.function) (first_scope fs k)) (sym f.scopes_are) in
    let done = functions_step fs k f.function next was now f.there before.0 before.1
    (step ∙ ap (λ ss. was ++ numbered next ss) all) in
    (done.0, end ∙ ap (λ ss. next + length (uses_of ss)) all ∙ done.1)

abbrev names_in : PlacedScope → ℕ
names_in s = length s.names

-- where the names of one scope more start
pub name_starts_step : (scopes : List Numbered) (g : ℕ) (s : Numbered) (starts : List ℕ)
    → scopes ≡ numbered 0 (scopes_of scopes) → slice_get scopes g ≡ Some s
    → starts ≡ starts_of names_in 0 (take g (scopes_of scopes))
    → starts ++ (s.first + length s.scope.names) ∷ [] ≡ starts_of names_in 0 (take (g + 1) (scopes_of scopes))
name_starts_step scopes g s starts ordered at are =
    let all = scopes_of scopes in
    let there : slice_get all g ≡ Some s.scope =
    slice_get-map (λ (s : Numbered). s.scope) scopes g ∙ ap (option_map (λ (s : Numbered). s.scope)) at in
    let first : s.first ≡ 0 + total names_in (take g all) =
    first_of 0 all g s (ap (λ ss. slice_get ss g) (sym ordered) ∙ at) in
    let sum : s.first ≡ total names_in (take g all) = omega (arith, first) in
    (starts_step names_in all g s.scope starts s.first there are sum).0

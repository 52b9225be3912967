-- What the events of names and of scopes do.
use Rattle.std.proofs.Common.{◌≡◌, ℕ, List, [], ◌∷◌, ◌++◌, map, Option, Some, None, refl, sym, ap, ◌∙◌}
use Rattle.std.proofs.Common.{append_assoc, append-nil, subst}
use Rattle.std.proofs.lemmas.List.{map-append}
use Rattle.hz_tree.specs.declared.early.EarlyKind.TheVariants as early
use Rattle.hz_tree.specs.declared.operator.DeclarationWord.{DeclarationWord}
use Rattle.hz_tree.specs.declared.operator.DeclarationWord.TheVariants as word
use Rattle.hz_tree.specs.declared.scope.BindingKind.{BindingKind}
use Rattle.hz_tree.specs.declared.scope.BindingKind.TheVariants as binding
use Rattle.hz_tree.specs.declared.scope.ScopeKind.TheVariants as scope
use Rattle.hz_tree.specs.declared.signal.NodeKind.TheVariants as node
use Rattle.hz_tree.specs.declared.signal.Role.TheVariants as role
use Rattle.hz_tree.specs.declared.signal.Signal.TheVariants as tell
use Rattle.hz_tree.specs.declared.tree.Bound.{Bound}
use Rattle.hz_tree.specs.declared.tree.FunctionForm.{FunctionForm}
use Rattle.hz_tree.specs.declared.tree.FunctionForm.TheVariants as form
use Rattle.hz_tree.specs.declared.tree.Rest.{Rest}
use Rattle.hz_tree.specs.grammar.Signals.{Event, Plain, Placed, Named}
use Rattle.hz_tree.specs.sources.EarlyErrors.{order_of_early}
use Rattle.hz_tree.specs.sources.Kinds.{order_of_profile}
use Rattle.hz_tree.specs.tokens.Text.{Text}
use Rattle.hz_tree.specs.trees.Events.{told_name, told_form, told_scope, told_bound}
use Rattle.hz_tree.specs.errors.Declarations.{Declaration, Declaring, none_declared, together, declaring}
use Rattle.hz_tree.specs.errors.Declarations.{declares, word_binding, at_top, bound_errors, all_bound, bind as binds}
use Rattle.hz_tree.specs.errors.Declarations.{value_errors, in_scope, in_top, in_for, scope_errors, bound_list}
use Rattle.hz_tree.specs.errors.Declarations.{rest_bound, form_bound, form_declares, declaring_function, vars_of}
use Rattle.hz_tree.specs.errors.Scopes.{empty_scope, EarlyError, errors_at, errors_of_name}
use Rattle.hz_tree.specs.errors.Targets.{ProfileError}
use Rattle.hz_early.specs.Events.{Known}
use Rattle.hz_errors.specs.declared.declarations.Site.{Site}
use Rattle.hz_errors.specs.Declarations.{declared_at, globals_noted, with_name, bind, happens, opens}
use Rattle.hz_errors.specs.Found.{noted}
use Rattle.hz_errors.proofs.Orders.{noted_none, profile_is_order}
use Rattle.hz_errors.proofs.ScopeLemmas.{least, declare_all}
use Rattle.hz_errors.proofs.DeclaredActs.{Acts, state, knows, same_state, acts_none, acts_both, acts_as}
use Rattle.hz_errors.proofs.DeclaredActs.{knows_twice, least_twice, after_append, inner_acts, top_acts}
use Rattle.hz_errors.proofs.DeclaredHeard.{initial_events, rest_events, parameter_events, own_function}

-- ---- names

abbrev pub named : BindingKind → Bound → Declaring
named kind bound = declaring (declares kind bound ∷ []) (bound_errors bound)

name_acts : (kind : BindingKind) (bound : Bound) (site : Site) (outer : List Site) (k : Known) (at : ℕ)
    (profile : Option ProfileError)
    → with_name (declares kind bound) (bind bound (state (site ∷ outer) k at profile))
    ≡ state (site ∷ outer) (knows (bound_errors bound) (map (declared_at site) (declares kind bound ∷ [])) k) bound.at
    (globals_noted site (declares kind bound ∷ []) profile)
name_acts kind bound site outer k at profile =
    let d : Declaration = declared_at site (declares kind bound) in
    let found : List EarlyError = errors_at d.at (errors_of_name d.binding d.name k.scopes) in
    ap (λ l. state (site ∷ outer) (record { scopes = declare_all (d ∷ []) k.scopes; least = l }) bound.at
    (globals_noted site (declares kind bound ∷ []) profile))
    (least_twice (bound_errors bound) found (bound_errors bound ++ (found ++ [])) k.least
    (ap (λ x. least (bound_errors bound ++ x)) (sym (append-nil found))))

acts_variable : (word : DeclarationWord) (bound : Bound)
    → Acts (told_bound (role.Variable word) bound) (named (word_binding word) bound)
acts_variable word bound = record { bound = λ at. bound.at; acts = name_acts (word_binding word) bound }

acts_parameter : (bound : Bound) → Acts (told_bound role.Parameter bound) (named binding.Parameter bound)
acts_parameter bound = record { bound = λ at. bound.at; acts = name_acts binding.Parameter bound }

acts_rest_name : (bound : Bound) → Acts (told_bound role.RestParameter bound) (named binding.Parameter bound)
acts_rest_name bound = record { bound = λ at. bound.at; acts = name_acts binding.Parameter bound }

acts_function_name : (bound : Bound) → Acts (told_bound role.Function bound) (named binding.BlockFunction bound)
acts_function_name bound = record { bound = λ at. bound.at; acts = name_acts binding.BlockFunction bound }

acts_caught_name : (bound : Bound) → Acts (told_bound role.Caught bound) (named binding.Caught bound)
acts_caught_name bound = record { bound = λ at. bound.at; acts = name_acts binding.Caught bound }

acts_own : (bound : Bound) → Acts (told_bound role.Own bound) (declaring [] (bound_errors bound))
acts_own bound =
    record {
      bound = λ at. bound.at;
      acts = λ site outer k at profile.
          same_state (site ∷ outer) bound.at
          (ap (λ x. record { scopes = k.scopes; least = noted order_of_early x k.least })
          (sym (append-nil (bound_errors bound))))
          (sym (noted_none order_of_profile profile_is_order profile));
    }

-- a `const` without a value, which is told of the name before it
acts_bare : (at : ℕ) (name : Text)
    → Acts (Named (tell.Declare (role.Variable word.Const)) at name ∷ Plain tell.Bare ∷ [])
    (together (binds word.Const (record { at = at; name = name }))
    (together (declaring [] ((early.ConstWithoutValue, at) ∷ [])) none_declared))
acts_bare at name =
    let bound : Bound = record { at = at; name = name } in
    record {
      bound = λ before. at;
      acts = λ site outer k before profile.
          ap (λ s. happens s (Plain tell.Bare)) (name_acts binding.Const bound site outer k before profile)
          ∙ ap (λ k. state (site ∷ outer) k at (globals_noted site (declares binding.Const bound ∷ []) profile))
          (knows_twice (bound_errors bound) ((early.ConstWithoutValue, at) ∷ [])
          (map (declared_at site) (declares binding.Const bound ∷ [])) [] k);
    }

-- a name without a value, and with one
pub acts_none_bound : (word : DeclarationWord) (at : ℕ) (name : Text)
    → Acts (Named (tell.Declare (role.Variable word)) at name ∷ initial_events word [])
    (together (binds word (record { at = at; name = name }))
    (together (declaring [] (value_errors word name at [])) none_declared))
acts_none_bound word.Const at name = acts_bare at name
acts_none_bound word.Let at name = acts_both (acts_variable word.Let (record { at = at; name = name })) acts_none
acts_none_bound word.Var at name = acts_both (acts_variable word.Var (record { at = at; name = name })) acts_none

pub acts_bound : (word : DeclarationWord) (at : ℕ) (name : Text) {es : (List Event)} {d : Declaring} → Acts es d
    → Acts (Named (tell.Declare (role.Variable word)) at name ∷ initial_events word (es ∷ []))
    (together (binds word (record { at = at; name = name }))
    (together (declaring [] (value_errors word name at (d ∷ []))) (together d none_declared)))
acts_bound word.Const at name h =
    acts_both (acts_variable word.Const (record { at = at; name = name })) (acts_both h acts_none)
acts_bound word.Let at name h =
    acts_both (acts_variable word.Let (record { at = at; name = name })) (acts_both h acts_none)
acts_bound word.Var at name h =
    acts_both (acts_variable word.Var (record { at = at; name = name })) (acts_both h acts_none)

-- ---- blocks

pub acts_block : (end : ℕ) {es : (List Event)} {d : Declaring} → Acts es d
    → Acts (told_scope (Some end) es) (in_scope scope.Block [] d)
acts_block end {es} {d} h =
    record {
      bound = h.bound;
      acts = λ site outer k at profile.
          after_append (opens scope.Block (state (site ∷ outer) k at profile)) es (Placed tell.EndScope end ∷ [])
          ∙ inner_acts h scope.Block refl site outer k at profile refl;
    }

pub acts_switch : (brace end : ℕ) {es : (List Event)} {d : Declaring} → Acts es d
    → Acts (Placed (tell.ScopeHere scope.Block) brace ∷ (es ++ Placed tell.EndScope end ∷ []))
    (in_scope scope.Block [] d)
acts_switch brace end {es} {d} h =
    record {
      bound = h.bound;
      acts = λ site outer k at profile.
          after_append (opens scope.Block (state (site ∷ outer) k at profile)) es (Placed tell.EndScope end ∷ [])
          ∙ inner_acts h scope.Block refl site outer k at profile refl;
    }

pub acts_for : (end : Option ℕ) {es : (List Event)} {d : Declaring} → Acts es d
    → Acts (told_scope end es) (in_for end d)
acts_for None h = h
acts_for (Some end) h = acts_block end h

pub acts_for_declared : (end : Option ℕ) (word : DeclarationWord) (bound : Bound) {es fs : (List Event)}
    {d e : Declaring} → Acts es d → Acts fs e
    → Acts (told_scope end (told_bound (role.Variable word) bound ++ (es ++ fs)))
    (in_for end (together (binds word bound) (together d e)))
acts_for_declared end word bound h i = acts_for end (acts_both (acts_variable word bound) (acts_both h i))

-- ---- catches

acts_caught : (bound : Option Bound)
    → Acts (told_name role.Caught bound)
    (declaring (map (declares binding.Caught) (bound_list bound)) (all_bound (bound_list bound)))
acts_caught None = acts_none
acts_caught (Some bound) = acts_both (acts_caught_name bound) acts_none

acts_here : (start end : ℕ) {es : (List Event)} {d : Declaring} → Acts es d
    → Acts (Placed (tell.ScopeHere scope.Catch) start ∷ (es ++ Placed tell.EndScope end ∷ []))
    (in_scope scope.Catch [] d)
acts_here start end {es} {d} h =
    record {
      bound = h.bound;
      acts = λ site outer k at profile.
          after_append (opens scope.Catch (state (site ∷ outer) k at profile)) es (Placed tell.EndScope end ∷ [])
          ∙ inner_acts h scope.Catch refl site outer k at profile refl;
    }

caught_vars : (bound : Option Bound) (ds : List Declaration)
    → vars_of (map (declares binding.Caught) (bound_list bound) ++ ds) ≡ vars_of ds
caught_vars None ds = refl
caught_vars (Some bound) ds = refl

caught_is : (bound : Option Bound) (d : Declaring)
    → in_scope scope.Catch []
    (together (declaring (map (declares binding.Caught) (bound_list bound)) (all_bound (bound_list bound))) d)
    ≡ together (declaring [] (all_bound (bound_list bound)))
    (in_scope scope.Catch (map (declares binding.Caught) (bound_list bound)) d)
caught_is bound d =
    let names : List Declaration = map (declares binding.Caught) (bound_list bound) in
    let found : List EarlyError = scope_errors (empty_scope scope.Catch ∷ []) (names ++ d.declarations) in
    ap (λ ds. declaring ds ((all_bound (bound_list bound) ++ d.errors) ++ found)) (caught_vars bound d.declarations)
    ∙ ap (λ es. declaring (vars_of d.declarations) es) (append_assoc (all_bound (bound_list bound)) d.errors found)

pub acts_catch : (start : ℕ) (bound : Option Bound) (end : ℕ) {es : (List Event)} {d : Declaring} → Acts es d
    → Acts (Placed (tell.ScopeHere scope.Catch) start
    ∷ (told_name role.Caught bound ++ (es ++ Placed tell.EndScope end ∷ [])))
    (together (declaring [] (all_bound (bound_list bound)))
    (in_scope scope.Catch (map (declares binding.Caught) (bound_list bound)) d))
acts_catch start bound end {es} {d} h =
    subst (λ fs. Acts (Placed (tell.ScopeHere scope.Catch) start ∷ fs)
    (together (declaring [] (all_bound (bound_list bound)))
    (in_scope scope.Catch (map (declares binding.Caught) (bound_list bound)) d)))
    (append_assoc (told_name role.Caught bound) es (Placed tell.EndScope end ∷ []))
    (acts_as (caught_is bound d) (acts_here start end (acts_both (acts_caught bound) h)))

-- ---- functions

acts_form : (form : FunctionForm) → Acts (told_form form) (declaring (form_declares form) (all_bound (form_bound form)))
acts_form (form.Declaration bound) = acts_both (acts_function_name bound) acts_none
acts_form (form.Expression None) = acts_none
acts_form (form.Expression (Some bound)) = acts_both (acts_own bound) acts_none
acts_form form.Arrow = acts_none
acts_form form.Method = acts_none

abbrev pub parameters_declared : List Bound → Declaring
parameters_declared bounds = declaring (map (declares binding.Parameter) bounds) (all_bound bounds)

acts_rest : (rest : Option Rest) → Acts (rest_events rest) (parameters_declared (rest_bound rest))
acts_rest None = acts_none
acts_rest (Some rest) = acts_both (acts_rest_name rest.bound) acts_none

acts_parameters : (parameters : List Bound) (rest : Option Rest)
    → Acts (parameter_events parameters rest) (parameters_declared (parameters ++ rest_bound rest))
acts_parameters [] rest = acts_rest rest
acts_parameters (first ∷ more) rest = acts_both (acts_parameter first) (acts_parameters more rest)

acts_top : (end : ℕ) {es : (List Event)} {d : Declaring} → Acts es d
    → Acts (Plain tell.Enter ∷ (es ++ Placed tell.Close end ∷ [])) (in_top scope.Function [] d)
acts_top end {es} {d} h =
    record {
      bound = h.bound;
      acts = λ site outer k at profile.
          after_append (opens scope.Function (state (site ∷ outer) k at profile)) es (Placed tell.Close end ∷ [])
          ∙ top_acts h site outer k at profile;
    }

bound_append : (xs ys : List Bound) → all_bound (xs ++ ys) ≡ all_bound xs ++ all_bound ys
bound_append [] ys = refl
bound_append (x ∷ xs) ys =
    ap (λ es. bound_errors x ++ es) (bound_append xs ys)
    ∙ sym (append_assoc (bound_errors x) (all_bound xs) (all_bound ys))

parameters_at_top : (bounds : List Bound)
    → map at_top (map (declares binding.Parameter) bounds) ≡ map (declares binding.Parameter) bounds
parameters_at_top [] = refl
parameters_at_top (bound ∷ more) = ap (λ ds. declares binding.Parameter bound ∷ ds) (parameters_at_top more)

function_is : (form : FunctionForm) (bounds : List Bound) (body : Declaring)
    → together (declaring (form_declares form) (all_bound (form_bound form)))
    (in_top scope.Function [] (together (parameters_declared bounds) body))
    ≡ declaring_function form bounds body
function_is form bounds body =
    let names : List Declaration = map (declares binding.Parameter) bounds in
    let own : List EarlyError = all_bound (form_bound form) in
    let errors = λ (ds : List Declaration). scope_errors (empty_scope scope.Function ∷ []) ds in
    let all : List Declaration = names ++ map at_top body.declarations in
    ap (λ ds. declaring (form_declares form ++ []) (own ++ ((all_bound bounds ++ body.errors) ++ errors ds)))
    (map-append at_top names body.declarations
    ∙ ap (λ ds. ds ++ map at_top body.declarations) (parameters_at_top bounds))
    ∙ ap (λ es. declaring (form_declares form ++ []) es)
    (ap (λ es. own ++ es) (append_assoc (all_bound bounds) body.errors (errors all))
    ∙ sym (append_assoc own (all_bound bounds) (body.errors ++ errors all))
    ∙ ap (λ es. es ++ (body.errors ++ errors all)) (sym (bound_append (form_bound form) bounds)))

pub acts_function : (end : ℕ) (form : FunctionForm) (parameters : List Bound) (rest : Option Rest) {es : (List Event)}
    {d : Declaring} → Acts es d
    → Acts (own_function end form parameters rest es) (declaring_function form (parameters ++ rest_bound rest) d)
acts_function end form parameters rest {es} {d} h =
    subst (λ fs. Acts (told_form form ++ Plain tell.Enter ∷ fs)
    (declaring_function form (parameters ++ rest_bound rest) d))
    (append_assoc (parameter_events parameters rest) es (Placed tell.Close end ∷ []))
    (acts_as (function_is form (parameters ++ rest_bound rest) d)
    (acts_both (acts_form form) (acts_top end (acts_both (acts_parameters parameters rest) h))))

-- ---- a body begins in the scope of its function

acts_begin : (at : ℕ) → Acts (Placed (tell.Begin node.Body) at ∷ []) none_declared
acts_begin at = record { bound = acts_none.bound; acts = acts_none.acts }

pub acts_body : (at : ℕ) {es : (List Event)} {d : Declaring} → Acts es d
    → Acts (Placed (tell.Begin node.Body) at ∷ es) d
acts_body at h = acts_both (acts_begin at) h

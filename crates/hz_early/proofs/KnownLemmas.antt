-- What is known behind a declaration.
use Rattle.std.proofs.Common.{◌≡◌, ◌-◌, ℕ, List, [], ◌∷◌, length, reverse, drop, refl, sym, ap, subst, ◌∙◌, Option}
use Rattle.std.proofs.Common.{Some}
use Rattle.std.specs.List.{list_any, slice_get}
use Rattle.std.specs.Option.{option_map}
use Rattle.hz_tree.specs.declared.scope.BindingKind.{BindingKind}
use Rattle.hz_tree.specs.declared.scope.BindingKind.TheVariants as binding
use Rattle.hz_tree.specs.declared.early.EarlyKind.{EarlyKind}
use Rattle.hz_tree.specs.declared.early.EarlyKind.TheVariants as early
use Rattle.hz_tree.specs.sources.EarlyErrors.{order_of_early}
use Rattle.hz_tree.specs.sources.Least.{lesser}
use Rattle.hz_tree.specs.tokens.Text.{Text}
use Rattle.hz_early.specs.declared.bindings.Bindings.{Bindings}
use Rattle.hz_early.specs.declared.bindings.OpenScope.{OpenScope}
use Rattle.hz_tree.specs.errors.Scopes.{Scope, scopes_of_var, occurs, declared, lexical_errors, errors_of_name}
use Rattle.hz_early.specs.Events.{Known, with_declaration}
use Rattle.hz_tree.specs.errors.Scopes.{EarlyError}
use Rattle.hz_early.specs.Stack.{marks_of, shown, AreNested, with_name, stored_errors, first_of}
use Rattle.hz_early.proofs.LeastLemmas.{IsFirstLeast, one_error, var_errors_first, lexical_errors_first}
use Rattle.hz_early.proofs.StackLemmas.{last_scope, shown_declare, errors_shown}

lexical_least : (name : Text) (at : ℕ) (scopes : List Scope) → IsFirstLeast at (lexical_errors name scopes)
lexical_least name at [] = refl
lexical_least name at (s ∷ outer) =
    lexical_errors_first at (occurs name s.lexical) (occurs name s.vars) (occurs name s.parameters)
    (occurs name s.caught)

first_least : (kind : BindingKind) (name : Text) (at : ℕ) (scopes : List Scope)
    → IsFirstLeast at (errors_of_name kind name scopes)
first_least binding.Var name at scopes =
    var_errors_first at (list_any (λ s. occurs name s.lexical) (scopes_of_var scopes))
    (list_any (λ s. occurs name s.caught) (scopes_of_var scopes))
first_least binding.Let name at scopes = lexical_least name at scopes
first_least binding.Const name at scopes = lexical_least name at scopes
first_least binding.BlockFunction name at scopes = lexical_least name at scopes
first_least binding.Parameter name at [] = refl
first_least binding.Parameter name at (s ∷ outer) = one_error at early.DuplicateParameter (occurs name s.parameters)
first_least binding.Caught name at [] = refl
first_least binding.Caught name at (s ∷ outer) = one_error at early.DuplicateLexical (occurs name s.caught)
first_least binding.Own name at scopes = refl
first_least binding.Activation name at scopes = refl

abbrev pub first_error : ℕ → List EarlyKind → Option EarlyError
first_error at errors = option_map (λ error. (error, at)) (first_of errors)

known_inside : (o : OpenScope) (os : List OpenScope) (names : Bindings) (least : Option EarlyError)
    (kind : BindingKind) (name : Text) (at : ℕ)
    → AreNested (o ∷ os) (marks_of names)
    → record {
      scopes = shown (o ∷ os) (with_name kind name names);
      least = lesser order_of_early least (first_error at (stored_errors kind name o names));
    }
    ≡ with_declaration kind name at (record { scopes = shown (o ∷ os) names; least = least })
known_inside o os names least kind name at nested =
    let scopes = shown (o ∷ os) names in
    let make : List Scope → Option EarlyError → Known = λ s l. record { scopes = s; least = l } in
    let error = first_error at (stored_errors kind name o names) in
    let told = ap (first_error at) (sym (errors_shown kind name o os names nested))
    ∙ sym (first_least kind name at scopes) in
    ap (λ s. make s (lesser order_of_early least error)) (shown_declare kind name o os names nested)
    ∙ ap (λ x. make (declared kind name scopes) (lesser order_of_early least x)) told

pub known_declare : (items : List OpenScope) (o : OpenScope) (names : Bindings) (least : Option EarlyError)
    (kind : BindingKind) (name : Text) (at : ℕ)
    → Some o ≡ slice_get items (length items - 1)
    → AreNested (reverse items) (marks_of names)
    → record {
      scopes = shown (reverse items) (with_name kind name names);
      least = lesser order_of_early least (first_error at (stored_errors kind name o names));
    }
    ≡ with_declaration kind name at (record { scopes = shown (reverse items) names; least = least })
known_declare items o names least kind name at last nested =
    let P : List OpenScope → Type 0 = λ os. AreNested os (marks_of names)
    → record {
      scopes = shown os (with_name kind name names);
      least = lesser order_of_early least (first_error at (stored_errors kind name o names));
    }
    ≡ with_declaration kind name at (record { scopes = shown os names; least = least }) in
    subst P (sym (last_scope items o last)) (known_inside o (drop 1 (reverse items)) names least kind name at) nested

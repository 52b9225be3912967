-- What declarations do to open scopes, and the errors that they make there.
use Rattle.std.proofs.Common.{◌≡◌, ℕ, Bool, true, false, ◌||◌, cond, List, [], ◌∷◌, ◌++◌, drop, refl, sym, ap}
use Rattle.std.proofs.Common.{◌∙◌, arith, eqb, ltb, append_assoc, Option}
use Rattle.std.proofs.lemmas.Bool.{eq-eqb, le-ltb}
use Rattle.std.specs.List.{list_any}
use Rattle.hz_tree.specs.declared.early.EarlyKind.TheVariants as early
use Rattle.hz_tree.specs.declared.scope.BindingKind.{BindingKind}
use Rattle.hz_tree.specs.declared.scope.BindingKind.TheVariants as binding
use Rattle.hz_tree.specs.sources.EarlyErrors.{order_of_early}
use Rattle.hz_tree.specs.sources.Least.{lesser, least_of}
use Rattle.hz_tree.specs.tokens.Text.{Text}
use Rattle.hz_tree.specs.errors.Declarations.{Declaration, is_var, vars_of, scope_errors}
use Rattle.hz_tree.specs.errors.Scopes.{Scope, holds_vars, scopes_of_var, occurs, declared, with_var, error_if}
use Rattle.hz_tree.specs.errors.Scopes.{errors_of_name, lexical_errors, parameter_errors, caught_errors, EarlyError}
use Rattle.hz_tree.specs.errors.Scopes.{errors_at}
use Rattle.hz_early.proofs.LeastLemmas.{lesser_assoc, least_of-append}
use Rattle.hz_errors.proofs.Orders.{lesser_comm, early_is_order}

-- ---- the least of errors of two lists

abbrev pub least : List EarlyError → Option EarlyError
least = least_of order_of_early

abbrev pub both : Option EarlyError → Option EarlyError → Option EarlyError
both = lesser order_of_early

pub least_append : (xs ys : List EarlyError) → least (xs ++ ys) ≡ both (least xs) (least ys)
least_append xs ys = least_of-append order_of_early xs ys

pub both_assoc : (x y z : Option EarlyError) → both (both x y) z ≡ both x (both y z)
both_assoc x y z = lesser_assoc order_of_early x y z

pub both_comm : (x y : Option EarlyError) → both x y ≡ both y x
both_comm x y = lesser_comm order_of_early early_is_order x y

pub both_middle : (a b c d : Option EarlyError) → both (both a b) (both c d) ≡ both (both a c) (both b d)
both_middle a b c d =
    both_assoc a b (both c d)
    ∙ ap (both a) (sym (both_assoc b c d) ∙ ap (λ x. both x d) (both_comm b c) ∙ both_assoc c b d)
    ∙ sym (both_assoc a c (both b d))

pub joined : (x x1 x2 y y1 y2 : List EarlyError)
    → least x ≡ both (least x1) (least x2) → least y ≡ both (least y1) (least y2)
    → least (x ++ y) ≡ both (least (x1 ++ y1)) (least (x2 ++ y2))
joined x x1 x2 y y1 y2 h i =
    least_append x y ∙ ap (λ a. both a (least y)) h ∙ ap (both (both (least x1) (least x2))) i
    ∙ both_middle (least x1) (least x2) (least y1) (least y2)
    ∙ ap (λ a. both a (both (least x2) (least y2))) (sym (least_append x1 y1))
    ∙ ap (both (least (x1 ++ y1))) (sym (least_append x2 y2))

pub joined_first : (x y y1 y2 : List EarlyError) → least y ≡ both (least y1) (least y2)
    → least (x ++ y) ≡ both (least (x ++ y1)) (least y2)
joined_first x y y1 y2 i =
    least_append x y ∙ ap (both (least x)) i ∙ sym (both_assoc (least x) (least y1) (least y2))
    ∙ ap (λ a. both a (least y2)) (sym (least_append x y1))

pub both_swapped : (x1 x2 y1 y2 : List EarlyError)
    → least ((x1 ++ y1) ++ (x2 ++ y2)) ≡ least ((x1 ++ x2) ++ (y1 ++ y2))
both_swapped x1 x2 y1 y2 =
    least_append (x1 ++ y1) (x2 ++ y2)
    ∙ ap (λ a. both a (least (x2 ++ y2))) (least_append x1 y1)
    ∙ ap (both (both (least x1) (least y1))) (least_append x2 y2)
    ∙ both_middle (least x1) (least y1) (least x2) (least y2)
    ∙ ap (λ a. both a (both (least y1) (least y2))) (sym (least_append x1 x2))
    ∙ ap (both (least (x1 ++ x2))) (sym (least_append y1 y2))
    ∙ sym (least_append (x1 ++ x2) (y1 ++ y2))

-- ---- declarations one after the other

abbrev pub declare_all : List Declaration → List Scope → List Scope
declare_all [] scopes = scopes
declare_all (d ∷ more) scopes = declare_all more (declared d.binding d.name scopes)

pub declare_append : (ds es : List Declaration) (scopes : List Scope)
    → declare_all (ds ++ es) scopes ≡ declare_all es (declare_all ds scopes)
declare_append [] es scopes = refl
declare_append (d ∷ ds) es scopes = declare_append ds es (declared d.binding d.name scopes)

pub errors_append : (ds es : List Declaration) (scopes : List Scope)
    → scope_errors scopes (ds ++ es) ≡ scope_errors scopes ds ++ scope_errors (declare_all ds scopes) es
errors_append [] es scopes = refl
errors_append (d ∷ ds) es scopes =
    ap (λ x. errors_at d.at (errors_of_name d.binding d.name scopes) ++ x)
    (errors_append ds es (declared d.binding d.name scopes))
    ∙ sym (append_assoc (errors_at d.at (errors_of_name d.binding d.name scopes))
    (scope_errors (declared d.binding d.name scopes) ds)
    (scope_errors (declare_all ds (declared d.binding d.name scopes)) es))

-- one more of those that pass a test
pub one_more : {A : Type 0} (t : Bool) (d : A) (xs ys zs : List A) → xs ≡ ys ++ zs
    → cond t (d ∷ xs) xs ≡ cond t (d ∷ ys) ys ++ zs
one_more true d xs ys zs h = ap (λ x. d ∷ x) h
one_more false d xs ys zs h = h

pub vars_append : (ds es : List Declaration) → vars_of (ds ++ es) ≡ vars_of ds ++ vars_of es
vars_append [] es = refl
vars_append (d ∷ ds) es =
    one_more (is_var d.binding) d (vars_of (ds ++ es)) (vars_of ds) (vars_of es) (vars_append ds es)

-- ---- a scope within a function: its vars are those of the scopes round it too

module _ (ds : List Declaration) where
  abbrev Inner : Type 0
  Inner = (b : Scope) (xs : List Scope) → holds_vars b.kind ≡ false
      → drop 1 (declare_all ds (b ∷ xs)) ≡ declare_all (vars_of ds) xs

  inner_step : (kind : BindingKind) (name : Text) (at : ℕ) (b : Scope) (xs : List Scope) → holds_vars b.kind ≡ false
      → Inner → drop 1 (declare_all ds (declared kind name (b ∷ xs)))
      ≡ declare_all (vars_of (record { binding = kind; name = name; at = at } ∷ ds)) xs
  inner_step binding.Var name at b xs h is =
      ap (λ t. drop 1 (declare_all ds (record b { vars = b.vars ++ name ∷ [] } ∷ cond t xs (with_var name xs)))) h
      ∙ is (record b { vars = b.vars ++ name ∷ [] }) (with_var name xs) h
  inner_step binding.Let name at b xs h is = is (record b { lexical = b.lexical ++ name ∷ [] }) xs h
  inner_step binding.Const name at b xs h is = is (record b { lexical = b.lexical ++ name ∷ [] }) xs h
  inner_step binding.BlockFunction name at b xs h is = is (record b { lexical = b.lexical ++ name ∷ [] }) xs h
  inner_step binding.Parameter name at b xs h is = is (record b { parameters = b.parameters ++ name ∷ [] }) xs h
  inner_step binding.Caught name at b xs h is = is (record b { caught = b.caught ++ name ∷ [] }) xs h
  inner_step binding.Own name at b xs h is = is b xs h
  inner_step binding.Activation name at b xs h is = is b xs h

pub inner_scopes : (ds : List Declaration) → Inner ds
inner_scopes [] b xs h = refl
inner_scopes (d ∷ ds) b xs h = inner_step ds d.binding d.name d.at b xs h (inner_scopes ds)

later : (at : ℕ) → ltb at at ≡ false
later at = le-ltb at at (omega arith)

same : (at : ℕ) → eqb at at ≡ true
same at = eq-eqb at at refl

abbrev clashes : ℕ → (lexical caught : Bool) → List EarlyError
clashes at lexical caught =
    errors_at at (error_if lexical early.LexicalVarClash ++ error_if caught early.CatchClash)

-- The errors of a var against one scope, and against those round it.
split : (at : ℕ) (a b c d : Bool)
    → least (clashes at (a || b) (c || d))
    ≡ both (least (clashes at (a || false) (c || false))) (least (clashes at b d))
split at true true true true = simp (later, same)
split at true true true false = simp (later, same)
split at true true false true = simp (later, same)
split at true true false false = simp (later, same)
split at true false true true = simp (later, same)
split at true false true false = simp (later, same)
split at true false false true = simp (later, same)
split at true false false false = refl
split at false true true true = simp (later, same)
split at false true true false = simp (later, same)
split at false true false true = simp (later, same)
split at false true false false = refl
split at false false true true = simp (later, same)
split at false false true false = refl
split at false false false true = refl
split at false false false false = refl

module _ (ds : List Declaration) where
  abbrev InnerErrors : Type 0
  InnerErrors = (b : Scope) (xs : List Scope) → holds_vars b.kind ≡ false
      → least (scope_errors (b ∷ xs) ds)
      ≡ both (least (scope_errors (b ∷ []) ds)) (least (scope_errors xs (vars_of ds)))

  rest_errors : (x : List EarlyError) (b : Scope) (xs : List Scope) → holds_vars b.kind ≡ false → InnerErrors
      → least (x ++ scope_errors (b ∷ xs) ds)
      ≡ both (least (x ++ scope_errors (b ∷ []) ds)) (least (scope_errors xs (vars_of ds)))
  rest_errors x b xs h is =
      joined_first x (scope_errors (b ∷ xs) ds) (scope_errors (b ∷ []) ds) (scope_errors xs (vars_of ds)) (is b xs h)

  var_rest : (x y z : List EarlyError) (name : Text) (b : Scope) (xs : List Scope) → holds_vars b.kind ≡ false
      → InnerErrors → least x ≡ both (least y) (least z)
      → least (x ++ scope_errors (b ∷ with_var name xs) ds)
      ≡ both (least (y ++ scope_errors (b ∷ []) ds)) (least (z ++ scope_errors (with_var name xs) (vars_of ds)))
  var_rest x y z name b xs h is i =
      joined x y z (scope_errors (b ∷ with_var name xs) ds) (scope_errors (b ∷ []) ds)
      (scope_errors (with_var name xs) (vars_of ds)) i (is b (with_var name xs) h)

  errors_step : (kind : BindingKind) (name : Text) (at : ℕ) (b : Scope) (xs : List Scope)
      → holds_vars b.kind ≡ false → InnerErrors
      → least (scope_errors (b ∷ xs) (record { binding = kind; name = name; at = at } ∷ ds))
      ≡ both (least (scope_errors (b ∷ []) (record { binding = kind; name = name; at = at } ∷ ds)))
      (least (scope_errors xs (vars_of (record { binding = kind; name = name; at = at } ∷ ds))))
  errors_step binding.Var name at b xs h is =
      let here : Bool = occurs name b.lexical in
      let caught : Bool = occurs name b.caught in
      let outer : Bool = list_any (λ s. occurs name s.lexical) (scopes_of_var xs) in
      let outer_caught : Bool = list_any (λ s. occurs name s.caught) (scopes_of_var xs) in
      rw h (var_rest (clashes at (here || outer) (caught || outer_caught))
      (clashes at (here || false) (caught || false)) (clashes at outer outer_caught) name
      (record b { vars = b.vars ++ name ∷ [] }) xs h is
      (split at here outer caught outer_caught))
  errors_step binding.Let name at b xs h is =
      rest_errors (errors_at at (lexical_errors name (b ∷ []))) (record b { lexical = b.lexical ++ name ∷ [] }) xs h is
  errors_step binding.Const name at b xs h is =
      rest_errors (errors_at at (lexical_errors name (b ∷ []))) (record b { lexical = b.lexical ++ name ∷ [] }) xs h is
  errors_step binding.BlockFunction name at b xs h is =
      rest_errors (errors_at at (lexical_errors name (b ∷ []))) (record b { lexical = b.lexical ++ name ∷ [] }) xs h is
  errors_step binding.Parameter name at b xs h is =
      rest_errors (errors_at at (parameter_errors name (b ∷ [])))
      (record b { parameters = b.parameters ++ name ∷ [] }) xs h is
  errors_step binding.Caught name at b xs h is =
      rest_errors (errors_at at (caught_errors name (b ∷ []))) (record b { caught = b.caught ++ name ∷ [] }) xs h is
  errors_step binding.Own name at b xs h is = is b xs h
  errors_step binding.Activation name at b xs h is = is b xs h

pub inner_errors : (ds : List Declaration) → InnerErrors ds
inner_errors [] b xs h = refl
inner_errors (d ∷ ds) b xs h = errors_step ds d.binding d.name d.at b xs h (inner_errors ds)

-- ---- the scope of a function: nothing goes on outwards

module _ (ds : List Declaration) where
  abbrev Top : Type 0
  Top = (b : Scope) (xs : List Scope) → holds_vars b.kind ≡ true → drop 1 (declare_all ds (b ∷ xs)) ≡ xs

  top_step : (kind : BindingKind) (name : Text) (b : Scope) (xs : List Scope) → holds_vars b.kind ≡ true
      → Top → drop 1 (declare_all ds (declared kind name (b ∷ xs))) ≡ xs
  top_step binding.Var name b xs h is =
      ap (λ t. drop 1 (declare_all ds (record b { vars = b.vars ++ name ∷ [] } ∷ cond t xs (with_var name xs)))) h
      ∙ is (record b { vars = b.vars ++ name ∷ [] }) xs h
  top_step binding.Let name b xs h is = is (record b { lexical = b.lexical ++ name ∷ [] }) xs h
  top_step binding.Const name b xs h is = is (record b { lexical = b.lexical ++ name ∷ [] }) xs h
  top_step binding.BlockFunction name b xs h is = is (record b { lexical = b.lexical ++ name ∷ [] }) xs h
  top_step binding.Parameter name b xs h is = is (record b { parameters = b.parameters ++ name ∷ [] }) xs h
  top_step binding.Caught name b xs h is = is (record b { caught = b.caught ++ name ∷ [] }) xs h
  top_step binding.Own name b xs h is = is b xs h
  top_step binding.Activation name b xs h is = is b xs h

  abbrev TopErrors : Type 0
  TopErrors = (b : Scope) (xs : List Scope) → holds_vars b.kind ≡ true
      → scope_errors (b ∷ xs) ds ≡ scope_errors (b ∷ []) ds

  top_errors_step : (kind : BindingKind) (name : Text) (at : ℕ) (b : Scope) (xs : List Scope)
      → holds_vars b.kind ≡ true → TopErrors
      → scope_errors (b ∷ xs) (record { binding = kind; name = name; at = at } ∷ ds)
      ≡ scope_errors (b ∷ []) (record { binding = kind; name = name; at = at } ∷ ds)
  top_errors_step binding.Var name at b xs h is =
      rw h (ap (λ x. errors_at at (error_if (occurs name b.lexical || false) early.LexicalVarClash
      ++ error_if (occurs name b.caught || false) early.CatchClash) ++ x)
      (is (record b { vars = b.vars ++ name ∷ [] }) xs h))
  top_errors_step binding.Let name at b xs h is =
      ap (λ x. errors_at at (errors_of_name binding.Let name (b ∷ [])) ++ x)
      (is (record b { lexical = b.lexical ++ name ∷ [] }) xs h)
  top_errors_step binding.Const name at b xs h is =
      ap (λ x. errors_at at (errors_of_name binding.Let name (b ∷ [])) ++ x)
      (is (record b { lexical = b.lexical ++ name ∷ [] }) xs h)
  top_errors_step binding.BlockFunction name at b xs h is =
      ap (λ x. errors_at at (errors_of_name binding.Let name (b ∷ [])) ++ x)
      (is (record b { lexical = b.lexical ++ name ∷ [] }) xs h)
  top_errors_step binding.Parameter name at b xs h is =
      ap (λ x. errors_at at (errors_of_name binding.Parameter name (b ∷ [])) ++ x)
      (is (record b { parameters = b.parameters ++ name ∷ [] }) xs h)
  top_errors_step binding.Caught name at b xs h is =
      ap (λ x. errors_at at (errors_of_name binding.Caught name (b ∷ [])) ++ x)
      (is (record b { caught = b.caught ++ name ∷ [] }) xs h)
  top_errors_step binding.Own name at b xs h is = is b xs h
  top_errors_step binding.Activation name at b xs h is = is b xs h

pub top_scopes : (ds : List Declaration) → Top ds
top_scopes [] b xs h = refl
top_scopes (d ∷ ds) b xs h = top_step ds d.binding d.name b xs h (top_scopes ds)

pub top_errors : (ds : List Declaration) → TopErrors ds
top_errors [] b xs h = refl
top_errors (d ∷ ds) b xs h = top_errors_step ds d.binding d.name d.at b xs h (top_errors ds)

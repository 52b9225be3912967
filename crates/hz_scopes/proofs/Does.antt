-- Events that do what a tree means: one after the other, and with events beside them that do nothing to what is known.
use Rattle.std.proofs.Common.{◌≡◌, ℕ, List, [], ◌∷◌, ◌++◌, length, Option, Some, None, refl, sym, ap, ◌∙◌, append-nil}
use Rattle.hz_tree.specs.declared.operator.DeclarationWord.{DeclarationWord}
use Rattle.hz_tree.specs.declared.operator.DeclarationWord.TheVariants as word
use Rattle.hz_tree.specs.declared.scope.BindingKind.{BindingKind}
use Rattle.hz_tree.specs.declared.scope.BindingKind.TheVariants as binding
use Rattle.hz_tree.specs.declared.scope.ScopeKind.{ScopeKind}
use Rattle.hz_tree.specs.declared.scope.ScopeKind.TheVariants as scope
use Rattle.hz_tree.specs.declared.signal.Jump.{Jump}
use Rattle.hz_tree.specs.declared.signal.NodeKind.{NodeKind}
use Rattle.hz_tree.specs.declared.signal.Role.TheVariants as role
use Rattle.hz_tree.specs.declared.signal.Signal.TheVariants as tell
use Rattle.hz_tree.specs.declared.tree.Bound.{Bound}
use Rattle.hz_tree.specs.declared.tree.FunctionForm.{FunctionForm}
use Rattle.hz_tree.specs.declared.tree.FunctionForm.TheVariants as form
use Rattle.hz_tree.specs.declared.tree.FunctionKind.{FunctionKind}
use Rattle.hz_tree.specs.declared.tree.Rest.{Rest}
use Rattle.hz_tree.specs.errors.Declarations.{rest_bound}
use Rattle.hz_tree.specs.grammar.Signals.{Event, Plain, Placed, Texted, Named}
use Rattle.hz_tree.specs.tokens.Text.{Text}
use Rattle.hz_tree.specs.trees.Events.{told_statement, told_operand, told_part, told_literal, told_scope, told_catch}
use Rattle.hz_tree.specs.trees.Events.{told_rest}
use Rattle.hz_tree.specs.trees.Events.{told_parameters, told_function, told_jump, end_of}
use Rattle.hz_tree.specs.trees.FunctionScopes.{FunctionScopes, Declared, Scoping, nothing, both, all_of, using}
use Rattle.hz_tree.specs.trees.FunctionScopes.{binding_of, in_scope}
use Rattle.hz_tree.specs.trees.FunctionScopes.{in_for, caught, this_name, target_name, parameters_of, scopes_of}
use Rattle.hz_tree.specs.trees.FunctionScopes.{FunctionsIn, no_functions, of_function, with_form}
use Rattle.hz_scopes.specs.State.{State, Known, Body, happens, after, in_body, begin_scope, end_scope, enter, close}
use Rattle.hz_scopes.specs.State.{innermost, use_name, declare, open_function, name_function}
use Rattle.hz_scopes.proofs.Acts.{acted, acted_body, acted_functions, acted_nothing, acted_both, acted_append, both_in}
use Rattle.hz_scopes.proofs.ScopeEnds.{begun_with, named, declares_one, declares, uses, scope_ends, scope_functions}
use Rattle.hz_scopes.proofs.FunctionEnds.{whole, nameless_ends, declared_ends, named_ends}

pub record Does (es : List Event) (x : Scoping) : Type 0 where
  pub known : (s : State) → (after s es).known ≡ acted x s.known

after_append : (s : State) (es fs : List Event) → after s (es ++ fs) ≡ after (after s es) fs
after_append s [] fs = refl
after_append s (e ∷ es) fs = after_append (happens s e) es fs

-- ---- one after the other

pub none : Does [] nothing
none = record { known = λ s. sym (acted_nothing s.known) }

pub then : {es fs : (List Event)} {x y : Scoping} → Does es x → Does fs y → Does (es ++ fs) (both x y)
then {es} {fs} {x} {y} h i = record {
  known = λ s.
      ap (λ t. t.known) (after_append s es fs) ∙ i.known (after s es) ∙ ap (acted y) (h.known s)
      ∙ acted_both x y s.known;
}

-- lists one after the other
pub more : (xs ys : List Scoping) {es fs : (List Event)} → Does es (all_of xs) → Does fs (all_of ys)
    → Does (es ++ fs) (all_of (xs ++ ys))
more xs ys {es} {fs} h i = record {
  known = λ s.
      ap (λ t. t.known) (after_append s es fs) ∙ i.known (after s es) ∙ ap (acted (all_of ys)) (h.known s)
      ∙ acted_append xs ys s.known;
}

pub one : {es : (List Event)} {x : Scoping} → Does es x → Does es (all_of (x ∷ []))
one {es} {x} h = record {
  known = λ s. h.known s ∙ sym (acted_nothing (acted x s.known)) ∙ acted_both x nothing s.known;
}

-- an event before or behind them that does nothing to what is known
pub behind : {e : Event} {es : (List Event)} {x : Scoping} → ((s : State) → (happens s e).known ≡ s.known)
    → Does es x → Does (e ∷ es) x
behind {e} {es} {x} q h = record { known = λ s. h.known (happens s e) ∙ ap (acted x) (q s) }

pub before : (e : Event) {es : (List Event)} {x : Scoping} → ((s : State) → (happens s e).known ≡ s.known)
    → Does es x → Does (es ++ e ∷ []) x
before e {es} {x} q h = record {
  known = λ s. ap (λ t. t.known) (after_append s es (e ∷ [])) ∙ q (after s es) ∙ h.known s;
}

-- ---- nodes

pub statement : {kind : NodeKind} {at : ℕ} {es : (List Event)} {x : Scoping} → Does es x
    → Does (told_statement kind at es) x
statement h = behind (λ s. refl) (before _ (λ s. refl) h)

pub operand : {at : ℕ} {es : (List Event)} {x : Scoping} → Does es x → Does (told_operand at es) x
operand h = behind (λ s. refl) (before _ (λ s. refl) h)

pub part : {at : ℕ} {es : (List Event)} {x : Scoping} → Does es x → Does (told_part at es) x
part h = behind (λ s. refl) h

pub literal : {at : ℕ} {es : (List Event)} {x : Scoping} → Does es x → Does (told_literal at es) x
literal h = behind (λ s. refl) (before _ (λ s. refl) h)

pub join : {es : (List Event)} {x : Scoping} → Does es x → Does (Plain tell.Join ∷ es) x
join h = behind (λ s. refl) h

pub joined : Does (Plain tell.Join ∷ []) nothing
joined = join none

pub jumps : (jump : Jump) (label : Option Bound) → Does (told_jump jump label) nothing
jumps jump None = behind (λ s. refl) none
jumps jump (Some label) = behind (λ s. refl) none

-- ---- names

-- one event that does this to the innermost function
in_one : {e : Event} {x : Scoping} (f : Body → Body) → ((s : State) → (happens s e).known ≡ (in_body f s).known)
    → ((body : Body) → f body ≡ acted_body x body) → x.functions ≡ no_functions → Does (e ∷ []) x
in_one {e} {x} f h i j = record {
  known = λ s.
      let k = s.known in
      let at : FunctionsIn → List FunctionScopes =
      λ fs. fs k.body.binds (innermost k.body).number (length k.body.listed) k.body.number (length k.functions) in
      h s ∙ ap (λ b. record { body = b; outer = k.outer; functions = k.functions }) (i k.body)
      ∙ ap (λ fs. record { body = acted_body x k.body; outer = k.outer; functions = fs })
      (sym (ap (λ fs. k.functions ++ at fs) j ∙ append-nil k.functions));
}

pub identifier : (at : ℕ) (name : Text) → Does (Named tell.Name at name ∷ []) (using name)
identifier at name = in_one (use_name name) (λ s. refl) (uses name) refl

pub shorthand : (name : Text) → Does (Texted tell.Use name ∷ []) (using name)
shorthand name = in_one (use_name name) (λ s. refl) (uses name) refl

pub this : (at : ℕ) → Does (Placed tell.This at ∷ []) (using this_name)
this at = in_one (use_name this_name) (λ s. refl) (uses this_name) refl

pub new_target : (at : ℕ) → Does (Placed tell.NewTarget at ∷ []) (using target_name)
new_target at = in_one (use_name target_name) (λ s. refl) (uses target_name) refl

-- a name that is declared by one event
declared : (kind : BindingKind) (name : Text) {e : Event}
    → ((s : State) → (happens s e).known ≡ (in_body (declare (named kind name)) s).known)
    → Does (e ∷ []) (declares_one (named kind name))
declared kind name h = in_one (declare (named kind name)) h (declares (named kind name)) refl

-- a var is used where it is declared
var_does : (name : Text) (body : Body)
    → use_name name (declare (named binding.Var name) body) ≡ acted_body (binding_of word.Var name) body
var_does name body =
    let d : Declared = named binding.Var name in
    uses name (declare d body) ∙ ap (acted_body (using name)) (declares d body)
    ∙ both_in (declares_one d) (using name) body.blocks body

pub bound : (word : DeclarationWord) (at : ℕ) (name : Text)
    → Does (Named (tell.Declare (role.Variable word)) at name ∷ []) (binding_of word name)
bound word.Var at name =
    in_one (λ body. use_name name (declare (named binding.Var name) body)) (λ s. refl) (var_does name) refl
bound word.Let at name = declared binding.Let name (λ s. refl)
bound word.Const at name = declared binding.Const name (λ s. refl)

rest_parameter : (rest : Option Rest)
    → Does (told_rest rest) (record nothing { declared = parameters_of (rest_bound rest) })
rest_parameter None = none
rest_parameter (Some rest) = behind (λ s. refl) (declared binding.Parameter rest.bound.name (λ s. refl))

pub parameters_do : (parameters : List Bound) (rest : Option Rest)
    → Does (told_parameters parameters rest)
    (record nothing { declared = parameters_of (parameters ++ rest_bound rest) })
parameters_do [] rest = rest_parameter rest
parameters_do (first ∷ more) rest =
    then (declared binding.Parameter first.name (λ s. refl)) (parameters_do more rest)

-- ---- scopes

module _ {es : (List Event)} {x : Scoping} (h : Does es x) where
  -- where a scope begins that declares these names itself
  scope_does : (kind : ScopeKind) (start end : ℕ) (first : List Declared) (k : Known) (s : State)
      → s.known ≡ record k { body = begun_with first kind start k.body }
      → (after s (es ++ Placed tell.EndScope end ∷ [])).known ≡ acted (in_scope kind start end first x) k
  scope_does kind start end first k s i =
      ap (λ t. t.known) (after_append s es (Placed tell.EndScope end ∷ []))
      ∙ ap (λ (k : Known). record k { body = end_scope end k.body }) (h.known s ∙ ap (acted x) i)
      ∙ ap (λ b. record {
        body = b;
        outer = k.outer;
        functions = acted_functions x (begun_with first kind start k.body) k.functions;
      }) (scope_ends kind start end first x k.body)
      ∙ ap (λ fs. record {
        body = acted_body (in_scope kind start end first x) k.body;
        outer = k.outer;
        functions = fs;
      })
      (scope_functions kind start end first x k.body k.functions)

  pub scope_here : {kind : ScopeKind} {start end : ℕ}
      → Does (Placed (tell.ScopeHere kind) start ∷ (es ++ Placed tell.EndScope end ∷ []))
      (in_scope kind start end [] x)
  scope_here {kind} {start} {end} = record {
    known = λ s. scope_does kind start end [] s.known (in_body (begin_scope kind start) s) refl;
  }

  block_does : (end : ℕ) (s : State)
      → (after (in_body (begin_scope scope.Block s.begun) s) (es ++ Placed tell.EndScope end ∷ [])).known
      ≡ acted (in_scope scope.Block s.begun end [] x) s.known
  block_does end s =
      scope_does scope.Block s.begun end [] s.known (in_body (begin_scope scope.Block s.begun) s) refl

  pub block : {kind : NodeKind} {at end : ℕ}
      → Does (told_statement kind at (told_scope (Some end) es)) (in_scope scope.Block at end [] x)
  block {kind} {at} {end} = record {
    known = λ s.
        let t : State = record s { begun = at } in
        ap (λ u. u.known) (after_append t (told_scope (Some end) es) (Plain (tell.End kind) ∷ [])) ∙ block_does end t;
  }

  pub loop : {kind : NodeKind} {at : ℕ} (end : Option ℕ)
      → Does (told_statement kind at (told_scope end es)) (in_for at end x)
  loop None = statement h
  loop (Some end) = block

pub handler : (at : ℕ) (name : Option Bound) (brace end : ℕ) {es : (List Event)} {x : Scoping} → Does es x
    → Does (told_catch at name brace es end) (in_scope scope.Catch at end (caught name) x)
handler at None brace end h = scope_here (statement h)
handler at (Some name) brace end h = record {
  known = λ s.
      scope_does (statement h) scope.Catch at end (caught (Some name)) s.known
      (in_body (λ body. declare (named binding.Caught name.name) (begin_scope scope.Catch at body)) s) refl;
}

-- ---- functions

closes : (form : FunctionForm) (end : ℕ) (s : State)
    → (after s (Plain tell.Join ∷ Placed tell.Close end ∷ end_of form)).known ≡ close end s.known
closes (form.Declaration bound) end s = refl
closes (form.Expression name) end s = refl
closes form.Arrow end s = refl
closes form.Method end s = refl

module _ (at end : ℕ) (kind : FunctionKind) (parameters : List Bound) (rest : Option Rest) {es : (List Event)}
    {x : Scoping} (h : Does es x) where
  abbrev all : List Bound
  all = parameters ++ rest_bound rest

  -- what is told of a function from where it is entered
  abbrev entered : FunctionForm → List Event
  entered form =
      Plain tell.Enter
      ∷ (told_parameters parameters rest ++ (es ++ Plain tell.Join ∷ Placed tell.Close end ∷ end_of form))

  enters : (form : FunctionForm) (s : State)
      → (after s (entered form)).known ≡ close end (acted (whole all x) (enter s.waiting s.known))
  enters form s =
      let t : State = happens s (Plain tell.Enter) in
      let u : State = after t (told_parameters parameters rest) in
      let ends : List Event = Plain tell.Join ∷ Placed tell.Close end ∷ end_of form in
      ap (λ v. v.known) (after_append t (told_parameters parameters rest) (es ++ ends) ∙ after_append u es ends)
      ∙ closes form end (after u es)
      ∙ ap (close end)
      (h.known u ∙ ap (acted x) ((parameters_do parameters rest).known t)
      ∙ acted_both (record nothing { declared = parameters_of all }) x t.known)

  pub function : (form : FunctionForm)
      → Does (told_function at end form kind parameters rest es)
      (with_form form at end
      (of_function (scopes_of scope.Function kind at end (parameters_of all) x) x.functions))
  function (form.Declaration bound) = record {
    known = λ s.
        enters (form.Declaration bound)
        (in_body (declare (named binding.BlockFunction bound.name)) (open_function kind at s))
        ∙ declared_ends kind at end all x bound s.known;
  }
  function (form.Expression None) = record {
    known = λ s. enters (form.Expression None) (open_function kind at s) ∙ nameless_ends kind at end all x s.known;
  }
  function (form.Expression (Some bound)) = record {
    known = λ s.
        enters (form.Expression (Some bound)) (name_function bound.name (open_function kind at s))
        ∙ named_ends kind at end all x bound s.known;
  }
  function form.Arrow = record {
    known = λ s. enters form.Arrow (open_function kind at s) ∙ nameless_ends kind at end all x s.known;
  }
  function form.Method = record {
    known = λ s. enters form.Method (open_function kind at s) ∙ nameless_ends kind at end all x s.known;
  }

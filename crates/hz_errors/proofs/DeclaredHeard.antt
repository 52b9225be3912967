-- What the events of a tree tell of declarations: that of its parts, and its own where it declares or opens a scope.
use Rattle.std.proofs.Common.{◌≡◌, ℕ, List, [], ◌∷◌, ◌++◌, map, Option, Some, None, refl, ap, sym, ◌∙◌, append_assoc}
use Rattle.std.proofs.Common.{append-nil, rules}
use Rattle.std.proofs.lemmas.List.{map-append}
use Rattle.hz_tree.specs.declared.operator.DeclarationWord.{DeclarationWord}
use Rattle.hz_tree.specs.declared.operator.DeclarationWord.TheVariants as word
use Rattle.hz_tree.specs.declared.scope.ScopeKind.TheVariants as scope
use Rattle.hz_tree.specs.declared.signal.Jump.{Jump}
use Rattle.hz_tree.specs.declared.signal.NodeKind.{NodeKind}
use Rattle.hz_tree.specs.declared.signal.NodeKind.TheVariants as kind
use Rattle.hz_tree.specs.declared.signal.Role.TheVariants as role
use Rattle.hz_tree.specs.declared.signal.Signal.{Signal}
use Rattle.hz_tree.specs.declared.signal.Signal.TheVariants as tell
use Rattle.hz_tree.specs.declared.tree.Bound.{Bound}
use Rattle.hz_tree.specs.declared.tree.FunctionForm.{FunctionForm}
use Rattle.hz_tree.specs.declared.tree.FunctionForm.TheVariants as form
use Rattle.hz_tree.specs.declared.tree.Rest.{Rest}
use Rattle.hz_tree.specs.declared.tree.Tree.TheOpen.{Tree-F}
use Rattle.hz_tree.specs.tokens.Text.{Text}
use Rattle.hz_tree.specs.grammar.Signals.{Event, Plain, Placed, Texted, Named, Written}
use Rattle.hz_tree.specs.trees.Events.{told_all, told_into, told_arguments, told_initial, told_name, told_rest}
use Rattle.hz_tree.specs.trees.Events.{told_parameters, told_form, end_of, told_scope, told_jump, told_bound}
use Rattle.hz_tree.specs.trees.Events.{told_comma, one_more, told_layer}
use Rattle.hz_tree.specs.trees.Places.{node, optional}
use Rattle.hz_errors.specs.Declarations.{Declared, happens, after}

abbrev pub heard_begin : NodeKind → ℕ → List Event
heard_begin kind.Body at = Placed (tell.Begin kind.Body) at ∷ []
heard_begin _ at = []

abbrev pub heard_one : Event → List Event
heard_one (Placed (tell.Begin kind) at) = heard_begin kind at
heard_one (Plain tell.Scope) = Plain tell.Scope ∷ []
heard_one (Placed (tell.ScopeHere kind) at) = Placed (tell.ScopeHere kind) at ∷ []
heard_one (Placed tell.EndScope end) = Placed tell.EndScope end ∷ []
heard_one (Plain tell.Enter) = Plain tell.Enter ∷ []
heard_one (Placed tell.Close end) = Placed tell.Close end ∷ []
heard_one (Named (tell.Declare role) at name) = Named (tell.Declare role) at name ∷ []
heard_one (Plain tell.Bare) = Plain tell.Bare ∷ []
heard_one _ = []

-- the events that speak of declarations and scopes
abbrev pub heard : List Event → List Event
heard [] = []
heard (e ∷ es) = heard_one e ++ heard es

pub heard_append : (es fs : List Event) → heard (es ++ fs) ≡ heard es ++ heard fs
heard_append [] fs = refl
heard_append (e ∷ es) fs =
    ap (λ us. heard_one e ++ us) (heard_append es fs) ∙ sym (append_assoc (heard_one e) (heard es) (heard fs))

-- ---- the others do nothing

after_begin : (kind : NodeKind) (at : ℕ) (es : List Event) (d : Declared)
    → after d (heard_begin kind at ++ es) ≡ after (happens d (Placed (tell.Begin kind) at)) es
after_begin kind.Body at es d = refl
after_begin _ at es d = refl

after_placed : (signal : Signal) (at : ℕ) (es : List Event) (d : Declared)
    → after d (heard_one (Placed signal at) ++ es) ≡ after (happens d (Placed signal at)) es
after_placed (tell.Begin kind) at es d = after_begin kind at es d
after_placed (tell.ScopeHere kind) at es d = refl
after_placed _ at es d = refl

after_plain : (signal : Signal) (es : List Event) (d : Declared)
    → after d (heard_one (Plain signal) ++ es) ≡ after (happens d (Plain signal)) es
after_plain tell.Bare es d = refl
after_plain _ es d = refl

after_named : (signal : Signal) (at : ℕ) (name : Text) (es : List Event) (d : Declared)
    → after d (heard_one (Named signal at name) ++ es) ≡ after (happens d (Named signal at name)) es
after_named (tell.Declare role) at name es d = refl
after_named _ at name es d = refl

after_one : (e : Event) (es : List Event) (d : Declared) → after d (heard_one e ++ es) ≡ after (happens d e) es
after_one (Plain signal) es d = after_plain signal es d
after_one (Placed signal at) es d = after_placed signal at es d
after_one (Texted signal text) es d = refl
after_one (Named signal at name) es d = after_named signal at name es d
after_one (Written signal at text octal) es d = refl

pub after_heard : (es : List Event) (d : Declared) → after d (heard es) ≡ after d es
after_heard [] d = refl
after_heard (e ∷ es) d = after_one e (heard es) d ∙ after_heard es (happens d e)

-- ---- lists

pub heard_all : (ess : List (List Event)) → heard (told_all ess) ≡ told_all (map heard ess)
heard_all [] = refl
heard_all (es ∷ ess) = heard_append es (told_all ess) ∙ ap (λ us. heard es ++ us) (heard_all ess)

heard_into : (ess : List (List Event)) → heard (told_into ess) ≡ told_all (map heard ess)
heard_into [] = refl
heard_into (es ∷ ess) =
    heard_append es (Plain tell.Join ∷ told_into ess) ∙ ap (λ us. heard es ++ us) (heard_into ess)

heard_arguments : (ess : List (List Event)) → heard (told_arguments ess) ≡ told_all (map heard ess)
heard_arguments [] = refl
heard_arguments (es ∷ ess) =
    heard_append es (Plain tell.Argument ∷ told_arguments ess) ∙ ap (λ us. heard es ++ us) (heard_arguments ess)

heard_comma : (ess : List (List Event)) → heard (told_comma ess) ≡ told_all (map heard ess)
heard_comma [] = refl
heard_comma (es ∷ ess) =
    heard_append es (told_into ess ++ one_more)
    ∙ ap (λ us. heard es ++ us) (heard_append (told_into ess) one_more ∙ append-nil _ ∙ heard_into ess)

told_all_append : (ess fss : List (List Event)) → told_all (ess ++ fss) ≡ told_all ess ++ told_all fss
told_all_append [] fss = refl
told_all_append (es ∷ ess) fss =
    ap (λ us. es ++ us) (told_all_append ess fss) ∙ sym (append_assoc es (told_all ess) (told_all fss))

-- ---- names, scopes and functions

abbrev pub initial_events : DeclarationWord → List (List Event) → List Event
initial_events word.Const [] = Plain tell.Bare ∷ []
initial_events word ess = told_all ess

heard_initial : (word : DeclarationWord) (ess : List (List Event))
    → heard (told_initial word ess) ≡ initial_events word (map heard ess)
heard_initial word.Const [] = refl
heard_initial word.Const (es ∷ ess) = heard_into (es ∷ ess)
heard_initial word.Let ess = heard_into ess
heard_initial word.Var ess = heard_into ess

heard_caught : (name : Option Bound) → heard (told_name role.Caught name) ≡ told_name role.Caught name
heard_caught None = refl
heard_caught (Some bound) = refl

heard_jump : (jump : Jump) (label : Option Bound) → heard (told_jump jump label) ≡ []
heard_jump jump None = refl
heard_jump jump (Some label) = refl

heard_scope : (end : Option ℕ) (es : List Event) → heard (told_scope end es) ≡ told_scope end (heard es)
heard_scope None es = refl
heard_scope (Some end) es = ap (λ us. Plain tell.Scope ∷ us) (heard_append es (Placed tell.EndScope end ∷ []))

abbrev pub rest_events : Option Rest → List Event
rest_events None = []
rest_events (Some rest) = told_bound role.RestParameter rest.bound

abbrev pub parameter_events : List Bound → Option Rest → List Event
parameter_events [] rest = rest_events rest
parameter_events (first ∷ more) rest = told_bound role.Parameter first ++ parameter_events more rest

heard_rest : (rest : Option Rest) → heard (told_rest rest) ≡ rest_events rest
heard_rest None = refl
heard_rest (Some rest) = refl

heard_parameters : (parameters : List Bound) (rest : Option Rest)
    → heard (told_parameters parameters rest) ≡ parameter_events parameters rest
heard_parameters [] rest = heard_rest rest
heard_parameters (first ∷ more) rest =
    ap (λ es. Named (tell.Declare role.Parameter) first.at first.name ∷ es) (heard_parameters more rest)

heard_form : (form : FunctionForm) → heard (told_form form) ≡ told_form form
heard_form (form.Declaration bound) = refl
heard_form (form.Expression None) = refl
heard_form (form.Expression (Some bound)) = refl
heard_form form.Arrow = refl
heard_form form.Method = refl

heard_end : (form : FunctionForm) → heard (end_of form) ≡ []
heard_end (form.Declaration bound) = refl
heard_end (form.Expression name) = refl
heard_end form.Arrow = refl
heard_end form.Method = refl

abbrev pub own_function : (end : ℕ) → FunctionForm → List Bound → Option Rest → (body : List Event) → List Event
own_function end form parameters rest body =
    told_form form
    ++ Plain tell.Enter ∷ (parameter_events parameters rest ++ (body ++ Placed tell.Close end ∷ []))

ruleset heard_laws = (
  heard_append,
  heard_all,
  heard_into,
  heard_arguments,
  heard_comma,
  heard_initial,
  heard_caught,
  heard_jump,
  heard_scope,
  told_all_append,
  map-append,
  append_assoc,
  append-nil,
)

abbrev pub heard_own : Tree-F (List Event) → List Event
heard_own (Tree-F.Script at items) = Placed (tell.Begin kind.Body) at ∷ told_all (map heard items)
heard_own (Tree-F.Body at items) = Placed (tell.Begin kind.Body) at ∷ told_all (map heard items)
heard_own (Tree-F.Function at end form kind parameters rest body) =
    own_function end form parameters rest (heard body)
heard_own (Tree-F.Bind at word name value) =
    Named (tell.Declare (role.Variable word)) at name ∷ initial_events word (map heard (optional value))
heard_own (Tree-F.Block at items end) = told_scope (Some end) (told_all (map heard items))
heard_own (Tree-F.Switch at value brace clauses end) =
    heard value
    ++ Placed (tell.ScopeHere scope.Block) brace ∷ (told_all (map heard clauses) ++ Placed tell.EndScope end ∷ [])
heard_own (Tree-F.Catch at bound brace items end) =
    Placed (tell.ScopeHere scope.Catch) at
    ∷ (told_name role.Caught bound ++ (told_all (map heard items) ++ Placed tell.EndScope end ∷ []))
heard_own (Tree-F.ForDeclared at word bound iteration over body end) =
    told_scope end (told_bound (role.Variable word) bound ++ (heard over ++ heard body))
heard_own (Tree-F.ForBinds at word binds test update body end) =
    told_scope end (told_all (map heard (binds ++ (optional test ++ (optional update ++ body ∷ [])))))
heard_own layer = told_all (map heard (node layer).children)

pub heard_layer : (y : Tree-F (List Event)) → heard (told_layer y) ≡ heard_own y
heard_layer (Tree-F.Function at end form kind parameters rest body) =
    simp (heard_append, heard_parameters, heard_form, heard_end)
heard_layer (Tree-F.Bind at word name value) =
    ap (λ es. Named (tell.Declare (role.Variable word)) at name ∷ es) (heard_initial word (optional value))
heard_layer _ = first_of (simp heard_laws, search rules)

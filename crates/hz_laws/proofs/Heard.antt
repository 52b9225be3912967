-- What the events of a tree tell of functions: those of its parts, and its own where it is a function.
use Rattle.std.proofs.Common.{◌≡◌, ℕ, List, [], ◌∷◌, ◌++◌, map, Option, Some, None, refl, ap, sym, ◌∙◌, append_assoc}
use Rattle.std.proofs.Common.{append-nil, rules}
use Rattle.std.proofs.lemmas.List.{map-append}
use Rattle.hz_tree.specs.declared.operator.DeclarationWord.{DeclarationWord}
use Rattle.hz_tree.specs.declared.operator.DeclarationWord.TheVariants as word
use Rattle.hz_tree.specs.declared.signal.Jump.{Jump}
use Rattle.hz_tree.specs.declared.signal.NodeKind.{NodeKind}
use Rattle.hz_tree.specs.declared.signal.Role.{Role}
use Rattle.hz_tree.specs.declared.signal.Role.TheVariants as role
use Rattle.hz_tree.specs.declared.signal.Signal.{Signal}
use Rattle.hz_tree.specs.declared.signal.Signal.TheVariants as tell
use Rattle.hz_tree.specs.declared.tree.Bound.{Bound}
use Rattle.hz_tree.specs.declared.tree.FunctionForm.{FunctionForm}
use Rattle.hz_tree.specs.declared.tree.FunctionForm.TheVariants as form
use Rattle.hz_tree.specs.declared.tree.FunctionKind.{FunctionKind}
use Rattle.hz_tree.specs.declared.tree.Rest.{Rest}
use Rattle.hz_tree.specs.declared.tree.Tree.TheOpen.{Tree-F}
use Rattle.hz_tree.specs.tokens.Text.{Text}
use Rattle.hz_tree.specs.grammar.Signals.{Event, Plain, Placed, Texted, Named, Written}
use Rattle.hz_tree.specs.trees.Drafts.{Draft, happens, built}
use Rattle.hz_tree.specs.trees.Events.{told_all, told_into, told_arguments, told_initial, told_name, told_rest}
use Rattle.hz_tree.specs.trees.Events.{told_parameters, told_form, end_of, node_of, told_scope, told_jump}
use Rattle.hz_tree.specs.trees.Events.{told_comma, one_more, told_layer}
use Rattle.hz_tree.specs.trees.Places.{node}

abbrev pub heard_one : Event → List Event
heard_one (Placed (tell.Open node kind) at) = Placed (tell.Open node kind) at ∷ []
heard_one (Named (tell.Declare role.Parameter) at name) = Named (tell.Declare role.Parameter) at name ∷ []
heard_one (Placed tell.Close end) = Placed tell.Close end ∷ []
heard_one _ = []

-- the events that the list of functions is built from
abbrev pub heard : List Event → List Event
heard [] = []
heard (e ∷ es) = heard_one e ++ heard es

heard_append : (es fs : List Event) → heard (es ++ fs) ≡ heard es ++ heard fs
heard_append [] fs = refl
heard_append (e ∷ es) fs =
    ap (λ us. heard_one e ++ us) (heard_append es fs) ∙ sym (append_assoc (heard_one e) (heard es) (heard fs))

-- ---- the others build nothing

placed_builds : (signal : Signal) (at : ℕ) (es : List Event) (d : Draft)
    → built d (heard_one (Placed signal at) ++ es) ≡ built (happens d (Placed signal at)) es
placed_builds signal at es d = elim signal as (λ signal.
    built d (heard_one (Placed signal at) ++ es) ≡ built (happens d (Placed signal at)) es)
    [ tell.Open node kind ↦ refl | tell.Close ↦ refl | _ ↦ refl ]

declared_builds : (role : Role) (at : ℕ) (name : Text) (es : List Event) (d : Draft)
    → built d (heard_one (Named (tell.Declare role) at name) ++ es)
    ≡ built (happens d (Named (tell.Declare role) at name)) es
declared_builds role.Parameter at name es d = refl
declared_builds _ at name es d = refl

named_builds : (signal : Signal) (at : ℕ) (name : Text) (es : List Event) (d : Draft)
    → built d (heard_one (Named signal at name) ++ es) ≡ built (happens d (Named signal at name)) es
named_builds (tell.Declare role) at name es d = declared_builds role at name es d
named_builds _ at name es d = refl

one_builds : (e : Event) (es : List Event) (d : Draft) → built d (heard_one e ++ es) ≡ built (happens d e) es
one_builds (Plain signal) es d = refl
one_builds (Placed signal at) es d = placed_builds signal at es d
one_builds (Texted signal text) es d = refl
one_builds (Named signal at name) es d = named_builds signal at name es d
one_builds (Written signal at text octal) es d = refl

pub heard_builds : (es : List Event) (d : Draft) → built d (heard es) ≡ built d es
heard_builds [] d = refl
heard_builds (e ∷ es) d = one_builds e (heard es) d ∙ heard_builds es (happens d e)

-- ---- lists

heard_all : (ess : List (List Event)) → heard (told_all ess) ≡ told_all (map heard ess)
heard_all [] = refl
heard_all (es ∷ ess) = heard_append es (told_all ess) ∙ ap (λ us. heard es ++ us) (heard_all ess)

heard_into : (ess : List (List Event)) → heard (told_into ess) ≡ told_all (map heard ess)
heard_into [] = refl
heard_into (es ∷ ess) =
    heard_append es (Plain tell.Join ∷ told_into ess) ∙ ap (λ us. heard es ++ us) (heard_into ess)

heard_arguments : (ess : List (List Event)) → heard (told_arguments ess) ≡ told_all (map heard ess)
heard_arguments [] = refl
heard_arguments (es ∷ ess) =
    heard_append es (Plain tell.Argument ∷ told_arguments ess) ∙ ap (λ us. heard es ++ us) (heard_arguments ess)

heard_comma : (ess : List (List Event)) → heard (told_comma ess) ≡ told_all (map heard ess)
heard_comma [] = refl
heard_comma (es ∷ ess) =
    heard_append es (told_into ess ++ one_more)
    ∙ ap (λ us. heard es ++ us) (heard_append (told_into ess) one_more ∙ append-nil _ ∙ heard_into ess)

heard_initial : (word : DeclarationWord) (ess : List (List Event))
    → heard (told_initial word ess) ≡ told_all (map heard ess)
heard_initial word.Const [] = refl
heard_initial word.Const (es ∷ ess) = heard_into (es ∷ ess)
heard_initial word.Let ess = heard_into ess
heard_initial word.Var ess = heard_into ess

told_all_append : (ess fss : List (List Event)) → told_all (ess ++ fss) ≡ told_all ess ++ told_all fss
told_all_append [] fss = refl
told_all_append (es ∷ ess) fss =
    ap (λ us. es ++ us) (told_all_append ess fss) ∙ sym (append_assoc es (told_all ess) (told_all fss))

-- ---- names and functions

heard_caught : (name : Option Bound) → heard (told_name role.Caught name) ≡ []
heard_caught None = refl
heard_caught (Some bound) = refl

heard_jump : (jump : Jump) (label : Option Bound) → heard (told_jump jump label) ≡ []
heard_jump jump None = refl
heard_jump jump (Some label) = refl

heard_scope : (end : Option ℕ) (es : List Event) → heard (told_scope end es) ≡ heard es
heard_scope None es = refl
heard_scope (Some end) es = heard_append es (Placed tell.EndScope end ∷ []) ∙ append-nil (heard es)

abbrev pub counted_events : List Bound → List Event
counted_events [] = []
counted_events (first ∷ more) = Named (tell.Declare role.Parameter) first.at first.name ∷ counted_events more

heard_rest : (rest : Option Rest) → heard (told_rest rest) ≡ []
heard_rest None = refl
heard_rest (Some rest) = refl

heard_parameters : (parameters : List Bound) (rest : Option Rest)
    → heard (told_parameters parameters rest) ≡ counted_events parameters
heard_parameters [] rest = heard_rest rest
heard_parameters (first ∷ more) rest =
    ap (λ es. Named (tell.Declare role.Parameter) first.at first.name ∷ es) (heard_parameters more rest)

heard_form : (form : FunctionForm) → heard (told_form form) ≡ []
heard_form (form.Declaration bound) = refl
heard_form (form.Expression None) = refl
heard_form (form.Expression (Some bound)) = refl
heard_form form.Arrow = refl
heard_form form.Method = refl

heard_end : (form : FunctionForm) → heard (end_of form) ≡ []
heard_end (form.Declaration bound) = refl
heard_end (form.Expression name) = refl
heard_end form.Arrow = refl
heard_end form.Method = refl

abbrev pub own_function : (at end : ℕ) → NodeKind → FunctionKind → List Bound → (body : List Event) → List Event
own_function at end node kind parameters body =
    Placed (tell.Open node kind) at ∷ (counted_events parameters ++ (body ++ Placed tell.Close end ∷ []))

ruleset heard_laws = (
  heard_append,
  heard_all,
  heard_into,
  heard_arguments,
  heard_comma,
  heard_initial,
  heard_caught,
  heard_jump,
  heard_scope,
  told_all_append,
  map-append,
  append_assoc,
  append-nil,
)

abbrev pub heard_own : Tree-F (List Event) → List Event
heard_own (Tree-F.Function at end form kind parameters rest body) =
    own_function at end (node_of form) kind parameters (heard body)
heard_own layer = told_all (map heard (node layer).children)

pub heard_layer : (y : Tree-F (List Event)) → heard (told_layer y) ≡ heard_own y
heard_layer (Tree-F.Function at end form kind parameters rest body) =
    simp (heard_append, heard_parameters, heard_form, heard_end, append_assoc, append-nil)
heard_layer _ = first_of (simp heard_laws, search rules)

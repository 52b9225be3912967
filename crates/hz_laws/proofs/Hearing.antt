-- What a part hears of the events of a tree, where it hears nothing of names, joins and places of scopes.
use Rattle.std.proofs.Common.{◌≡◌, ℕ, List, [], ◌∷◌, ◌++◌, map, Option, Some, None, refl, ap, sym, ◌∙◌, append_assoc}
use Rattle.std.proofs.Common.{append-nil}
use Rattle.std.proofs.lemmas.List.{map-append}
use Rattle.hz_tree.specs.declared.operator.DeclarationWord.{DeclarationWord}
use Rattle.hz_tree.specs.declared.operator.DeclarationWord.TheVariants as word
use Rattle.hz_tree.specs.declared.signal.NodeKind.TheVariants as kind
use Rattle.hz_tree.specs.declared.signal.NodeShape.TheVariants as shape
use Rattle.hz_tree.specs.declared.signal.Role.{Role}
use Rattle.hz_tree.specs.declared.signal.Role.TheVariants as role
use Rattle.hz_tree.specs.declared.signal.Signal.TheVariants as tell
use Rattle.hz_tree.specs.declared.tree.Bound.{Bound}
use Rattle.hz_tree.specs.declared.tree.FunctionForm.{FunctionForm}
use Rattle.hz_tree.specs.declared.tree.FunctionForm.TheVariants as form
use Rattle.hz_tree.specs.declared.tree.Rest.{Rest}
use Rattle.hz_tree.specs.tokens.Text.{Text}
use Rattle.hz_tree.specs.grammar.Signals.{Event, Plain, Placed, Named}
use Rattle.hz_tree.specs.trees.Events.{told_all, told_into, told_arguments, told_initial, told_name, told_rest}
use Rattle.hz_tree.specs.trees.Events.{told_parameters, told_form, end_of, told_scope, told_comma, one_more}

pub told_all_append : (ess fss : List (List Event)) → told_all (ess ++ fss) ≡ told_all ess ++ told_all fss
told_all_append [] fss = refl
told_all_append (es ∷ ess) fss =
    ap (λ us. es ++ us) (told_all_append ess fss) ∙ sym (append_assoc es (told_all ess) (told_all fss))

-- these events are not heard
pub record PassesOver (heard_one : Event → List Event) : Type 0 where
  pub join : heard_one (Plain tell.Join) ≡ []
  pub argument : heard_one (Plain tell.Argument) ≡ []
  pub node : heard_one (Plain (tell.Node shape.Other)) ≡ []
  pub bare : heard_one (Plain tell.Bare) ≡ []
  pub end_statement : heard_one (Plain (tell.End kind.Statement)) ≡ []
  pub end_scope : (end : ℕ) → heard_one (Placed tell.EndScope end) ≡ []
  pub scope : heard_one (Plain tell.Scope) ≡ []
  pub rest : (at : ℕ) → heard_one (Placed tell.Rest at) ≡ []
  pub name : (role : Role) (at : ℕ) (name : Text) → heard_one (Named (tell.Declare role) at name) ≡ []

module _ (heard_one : Event → List Event) where
  abbrev pub heard_by : List Event → List Event
  heard_by [] = []
  heard_by (e ∷ es) = heard_one e ++ heard_by es

  pub heard_append : (es fs : List Event) → heard_by (es ++ fs) ≡ heard_by es ++ heard_by fs
  heard_append [] fs = refl
  heard_append (e ∷ es) fs =
      ap (λ us. heard_one e ++ us) (heard_append es fs) ∙ sym (append_assoc (heard_one e) (heard_by es) (heard_by fs))

  pub heard_all : (ess : List (List Event)) → heard_by (told_all ess) ≡ told_all (map heard_by ess)
  heard_all [] = refl
  heard_all (es ∷ ess) = heard_append es (told_all ess) ∙ ap (λ us. heard_by es ++ us) (heard_all ess)

  module _ (over : PassesOver heard_one) where
    one_over : (e : Event) (es : List Event) → heard_one e ≡ [] → heard_by (e ∷ es) ≡ heard_by es
    one_over e es h = ap (λ us. us ++ heard_by es) h

    last_over : (es : List Event) (e : Event) → heard_one e ≡ [] → heard_by (es ++ e ∷ []) ≡ heard_by es
    last_over es e h =
        heard_append es (e ∷ []) ∙ ap (λ us. heard_by es ++ us) (one_over e [] h) ∙ append-nil (heard_by es)

    -- ---- lists

    pub heard_into : (ess : List (List Event)) → heard_by (told_into ess) ≡ told_all (map heard_by ess)
    heard_into [] = refl
    heard_into (es ∷ ess) =
        heard_append es (Plain tell.Join ∷ told_into ess)
        ∙ ap (λ us. heard_by es ++ us) (one_over (Plain tell.Join) (told_into ess) over.join ∙ heard_into ess)

    pub heard_arguments : (ess : List (List Event)) → heard_by (told_arguments ess) ≡ told_all (map heard_by ess)
    heard_arguments [] = refl
    heard_arguments (es ∷ ess) =
        heard_append es (Plain tell.Argument ∷ told_arguments ess)
        ∙ ap (λ us. heard_by es ++ us)
        (one_over (Plain tell.Argument) (told_arguments ess) over.argument ∙ heard_arguments ess)

    pub heard_comma : (ess : List (List Event)) → heard_by (told_comma ess) ≡ told_all (map heard_by ess)
    heard_comma [] = one_over (Plain (tell.Node shape.Other)) [] over.node
    heard_comma (es ∷ ess) =
        heard_append es (told_into ess ++ one_more)
        ∙ ap (λ us. heard_by es ++ us)
        (last_over (told_into ess) (Plain (tell.Node shape.Other)) over.node ∙ heard_into ess)

    pub heard_initial : (word : DeclarationWord) (ess : List (List Event))
        → heard_by (told_initial word ess) ≡ told_all (map heard_by ess)
    heard_initial word.Const [] = one_over (Plain tell.Bare) [] over.bare
    heard_initial word.Const (es ∷ ess) = heard_into (es ∷ ess)
    heard_initial word.Let ess = heard_into ess
    heard_initial word.Var ess = heard_into ess

    pub heard_scope : (end : Option ℕ) (es : List Event) → heard_by (told_scope end es) ≡ heard_by es
    heard_scope None es = refl
    heard_scope (Some end) es =
        one_over (Plain tell.Scope) (es ++ Placed tell.EndScope end ∷ []) over.scope
        ∙ last_over es (Placed tell.EndScope end) (over.end_scope end)

    -- ---- names and functions

    pub heard_name : (role : Role) (name : Option Bound) → heard_by (told_name role name) ≡ []
    heard_name role None = refl
    heard_name role (Some bound) = ap (λ us. us ++ []) (over.name role bound.at bound.name)

    heard_rest : (rest : Option Rest) → heard_by (told_rest rest) ≡ []
    heard_rest None = refl
    heard_rest (Some rest) =
        one_over (Placed tell.Rest rest.at) (told_name role.RestParameter (Some rest.bound)) (over.rest rest.at)
        ∙ heard_name role.RestParameter (Some rest.bound)

    pub heard_parameters : (parameters : List Bound) (rest : Option Rest)
        → heard_by (told_parameters parameters rest) ≡ []
    heard_parameters [] rest = heard_rest rest
    heard_parameters (first ∷ more) rest =
        one_over (Named (tell.Declare role.Parameter) first.at first.name) (told_parameters more rest)
        (over.name role.Parameter first.at first.name)
        ∙ heard_parameters more rest

    pub heard_form : (form : FunctionForm) → heard_by (told_form form) ≡ []
    heard_form (form.Declaration bound) = heard_name role.Function (Some bound)
    heard_form (form.Expression name) = heard_name role.Own name
    heard_form form.Arrow = refl
    heard_form form.Method = refl

    pub heard_end : (form : FunctionForm) → heard_by (end_of form) ≡ []
    heard_end (form.Declaration bound) = one_over (Plain (tell.End kind.Statement)) [] over.end_statement
    heard_end (form.Expression name) = one_over (Plain (tell.Node shape.Other)) [] over.node
    heard_end form.Arrow = one_over (Plain (tell.Node shape.Other)) [] over.node
    heard_end form.Method = refl

pub ruleset hearing_laws = (
  heard_append,
  heard_all,
  heard_into,
  heard_arguments,
  heard_comma,
  heard_initial,
  heard_name,
  heard_scope,
  heard_parameters,
  heard_form,
  heard_end,
  told_all_append,
  map-append,
  append_assoc,
  append-nil,
)

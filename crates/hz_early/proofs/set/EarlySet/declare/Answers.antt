use Rattle.std.proofs.Common.{◌≡◌, ◌-◌, ◌∙◌, List, Option, Some, ap, length, reverse, rules}
use Rattle.std.specs.List.{slice_get}
use Rattle.std.specs.Option.{option_map}
use Rattle.hz_tree.specs.sources.EarlyErrors.{order_of_early}
use Rattle.hz_tree.specs.sources.Least.{lesser}
use Rattle.hz_early.specs.declared.bindings.Bindings.{Bindings}
use Rattle.hz_early.specs.declared.bindings.OpenScope.{OpenScope}
use Rattle.hz_early.specs.Events.{Known, with_declaration}
use Rattle.hz_tree.specs.errors.Scopes.{EarlyError}
use Rattle.hz_early.specs.Stack.{shown, with_name}
use Rattle.hz_early.proofs.KnownLemmas.{known_declare}
use Rattle.hz_early.proofs.set.EarlySet.declare.Goals as goal

pub returns-clause-ok : goal.returns-clause-ok
returns-clause-ok c =
    let i = c.self.inside in
    let kind = c.args.kind in
    let name = c.args.name.now in
    let at = c.args.at in
    let o = c.in-Some.scope.now in
    let last : Some o ≡ slice_get i.scopes.items (length i.scopes.items - 1) =
    c.in-Some.ensures.value ∙ ap (λ (xs : List OpenScope). slice_get xs (length xs - 1)) c.deref.ensures.value in
    let make : Bindings → Option EarlyError → Known =
    λ names least. record { scopes = shown (reverse i.scopes.items) names; least = least } in
    let mapped : c.map.result ≡ option_map (λ error. (error, at)) c.error-error.result = search rules in
    ap (λ names. make names c.lesser-self-inside.result) c.in_ok-push.ensures.ok
    ∙ ap (make (with_name kind name i.names))
    (c.lesser-self-inside.ensures
    ∙ ap (lesser order_of_early i.least)
    (mapped ∙ ap (option_map (λ error. (error, at))) c.error-error.ensures))
    ∙ known_declare i.scopes.items o i.names i.least kind name at last c.self.invariant
    ∙ ap (with_declaration kind name at) c.self.view_is

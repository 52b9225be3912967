use Rattle.std.proofs.Common.{◌≡◌, ◌≤◌, Some, ap, length, sym, subst, ◌∙◌}
use Rattle.std.specs.List.{slice_get}
use Rattle.std.proofs.lemmas.Result.{IfOk-weaker}
use Rattle.hz_tree.specs.sources.Refusals.{functions as functions_in}
use Rattle.hz_middle.specs.Place.{beginning}
use Rattle.hz_parse.specs.Parsed.{Parsed}
use Rattle.hz_parse.proofs.SourceFunctions.{inner_parsed, inner_whole, script_parsed, script_whole, starts_in}
use Rattle.hz_parse.proofs.function.parse_function.Goals as goal

pub new-place-requires : goal.new-place-requires
new-place-requires g c =
    subst (λ s. c.function-function.result.now.start ≤ length s) (sym c.source.ensures)
    (starts_in c.args.index.now.source c.args.k c.function-function.result.now c.function-function.ensures)

pub parse_script-requires-clause-read : goal.parse_script-requires-clause-read
parse_script-requires-clause-read g c =
    script_whole c.args.index.now.source c.function-function.result.now c.new-place.result
    (subst (λ k. slice_get (functions_in c.args.index.now.source) k ≡ Some c.function-function.result.now) c.if-k-eq0.true
    c.function-function.ensures)
    (c.new-place.ensures ∙ ap (λ s. beginning s c.function-function.result.now.start) c.source.ensures)

pub parse_inner-requires-clause-read : goal.parse_inner-requires-clause-read
parse_inner-requires-clause-read g c =
    inner_whole c.args.index.now.source c.args.k c.function-function.result.now c.new-place.result c.function-function.ensures c.if-k-eq0.false
    (c.new-place.ensures ∙ ap (λ s. beginning s c.function-function.result.now.start) c.source.ensures)

pub returns-then-k-eq0 : goal.returns-then-k-eq0
returns-then-k-eq0 g c =
    IfOk-weaker c.parse_script.result _ _
    (λ tree read. subst (λ k. Parsed c.args.index.now.source k tree c.args.steps.now c.parse_script.new.steps)
    (sym c.if-k-eq0.true)
    (script_parsed c.args.index.now.source c.function-function.result.now c.new-place.result tree c.args.steps.now c.parse_script.new.steps
    (subst (λ k. slice_get (functions_in c.args.index.now.source) k ≡ Some c.function-function.result.now) c.if-k-eq0.true
    c.function-function.ensures)
    (c.new-place.ensures ∙ ap (λ s. beginning s c.function-function.result.now.start) c.source.ensures) read)) c.parse_script.ensures

pub returns : goal.returns
returns g c =
    IfOk-weaker c.parse_inner.result _ _
    (λ tree read. inner_parsed c.args.index.now.source c.args.k c.function-function.result.now c.new-place.result tree c.args.steps.now
    c.parse_inner.new.steps c.function-function.ensures c.if-k-eq0.false
    (c.new-place.ensures ∙ ap (λ s. beginning s c.function-function.result.now.start) c.source.ensures) read) c.parse_inner.ensures

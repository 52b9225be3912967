use Rattle.std.proofs.Common.{◌≡◌, ap, ◌∙◌, ℕ, ◌++◌, ◌∷◌, []}
use Rattle.hz_tree.specs.declared.index.FunctionInfo.{FunctionInfo}
use Rattle.hz_tree.specs.sources.Refusals.{functions}
use Rattle.hz_tree.specs.trees.FunctionTrees.{tokens_within}
use Rattle.hz_front_dump.proofs.Counted.{extents_next}
use Rattle.hz_front_dump.proofs.own.extents.Goals as goal

pub loop-k-preserved : goal.loop-k-preserved
loop-k-preserved c =
    let source = c.args.index.now.source in
    let f = c.function-info.result.now in
    let within : c.within.result ≡ tokens_within source f.start f.end =
    c.within.ensures ∙ ap (λ s. tokens_within s f.start f.end) c.requires in
    extents_next (λ (f : FunctionInfo). tokens_within source f.start f.end) (functions source) c.loop-k.k f
    c.loop-k.owns.items c.push.new.self.items c.function-info.ensures c.loop-k.invariant
    (c.in_ok-push.ensures.items ∙ ap (λ (n : ℕ). c.loop-k.owns.items ++ n ∷ []) within)

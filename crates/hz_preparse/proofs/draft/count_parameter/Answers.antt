use Rattle.std.proofs.Common.{ap}
use Rattle.hz_tree.specs.trees.Drafts.{counted}
use Rattle.hz_preparse.proofs.DraftLemmas.{changed_some, changed_none}
use Rattle.hz_preparse.proofs.draft.count_parameter.Goals as goal

pub returns-in-Some : goal.returns-in-Some
returns-in-Some c =
    let known = c.in-Some.known.now in
    changed_some c.args.number counted c.args.functions.now c.set.new.self known _ c.in-Some.ensures.value c.set.ensures
    (ap (λ n. record { start = known.start; end = known.end; kind = known.kind; length = n; parent = known.parent })
    c.saturating_add-length.ensures)

pub returns-in_default : goal.returns-in_default
returns-in_default c = changed_none c.args.number counted c.args.functions.now c.in_default.ensures.value

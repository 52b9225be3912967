use Rattle.std.proofs.Common.{refl}
use Rattle.hz_tree.specs.trees.Drafts.{ended}
use Rattle.hz_preparse.proofs.DraftLemmas.{changed_some, changed_none}
use Rattle.hz_preparse.proofs.draft.end_function.Goals as goal

pub returns-in-Some : goal.returns-in-Some
returns-in-Some c =
    changed_some c.args.number (ended c.args.end) c.args.functions.now c.set.new.self c.in-Some.known.now _
    c.in-Some.ensures.value c.set.ensures refl

pub returns-in_default : goal.returns-in_default
returns-in_default c = changed_none c.args.number (ended c.args.end) c.args.functions.now c.in_default.ensures.value

use Rattle.std.proofs.Common.{◌≡◌, ◌≤◌, ◌∙◌, ap, sym, subst, arith, take, get_or, length}
use Rattle.hz_errors.specs.Runs.{run_levels, lowered}
use Rattle.hz_errors.proofs.RunLemmas.{levels_below, same_below, within_below, levels_top, same_top, within_top}
use Rattle.hz_errors.proofs.entries.merge.Goals as goal

-- what stands in the list behind the call
written : (c : goal.After-truncate) → c.truncate.new.self.items
    ≡ take c.args.below.end (lowered c.args.top.len c.args.below.end c.args.top.end c.args.places.now.items)
written c = c.truncate.ensures.items ∙ ap (take c.args.below.end) c.lower.ensures

pub returns-then-top-below-clause-levels : goal.returns-then-top-below-clause-levels
returns-then-top-below-clause-levels c =
    let r = c.requires in
    ap (run_levels c.args.below.len c.args.below.end) (written c)
    ∙ levels_below c.args.places.now.items c.args.below c.args.top r.top_in r.top_len r.below_in r.below_len
    c.if-top-below.true

pub returns-then-top-below-clause-below : goal.returns-then-top-below-clause-below
returns-then-top-below-clause-below c k i =
    let r = c.requires in
    ap (λ xs. get_or xs k 0) (written c)
    ∙ same_below c.args.places.now.items c.args.below c.args.top r.top_in r.top_len r.below_in r.below_len
    c.if-top-below.true k i

pub returns-then-top-below-clause-within : goal.returns-then-top-below-clause-within
returns-then-top-below-clause-within c =
    let r = c.requires in
    subst (λ xs. c.args.below.end ≤ length xs) (sym (written c))
    (within_below c.args.places.now.items c.args.below c.args.top r.top_in r.top_len r.below_in r.below_len)

pub returns-else-top-below-clause-levels : goal.returns-else-top-below-clause-levels
returns-else-top-below-clause-levels c =
    let r = c.requires in
    ap (run_levels c.args.top.len c.args.top.end) c.lower-else-top-below.ensures
    ∙ levels_top c.args.places.now.items c.args.below c.args.top r.top_in r.top_len r.below_in r.below_len
    (omega (arith, c.if-top-below.false))

pub returns-else-top-below-clause-below : goal.returns-else-top-below-clause-below
returns-else-top-below-clause-below c k i =
    let r = c.requires in
    ap (λ xs. get_or xs k 0) c.lower-else-top-below.ensures
    ∙ same_top c.args.places.now.items c.args.below c.args.top r.top_in r.top_len r.below_in r.below_len
    (omega (arith, c.if-top-below.false)) k i

pub returns-else-top-below-clause-within : goal.returns-else-top-below-clause-within
returns-else-top-below-clause-within c =
    let r = c.requires in
    subst (λ xs. c.args.top.end ≤ length xs) (sym c.lower-else-top-below.ensures)
    (within_top c.args.places.now.items c.args.below c.args.top r.top_in r.top_len r.below_in r.below_len)

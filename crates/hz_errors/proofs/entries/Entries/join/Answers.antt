use Rattle.std.proofs.Common.{◌≡◌, ◌-◌, ◌∙◌, ap, sym, subst, length, reverse, drop, ◌∷◌, List, rules}
use Rattle.hz_errors.specs.declared.entries.Run.{Run}
use Rattle.hz_errors.specs.Levels.{joined_entries}
use Rattle.hz_errors.specs.Runs.{shown, AreStacked}
use Rattle.hz_errors.proofs.LastLemmas.{last_run, set_last_run}
use Rattle.hz_errors.proofs.RunLemmas.{shown_joined, stacked_below, reversed}
use Rattle.hz_errors.proofs.entries.Entries.join.Goals as goal

-- the runs below the two
abbrev rest : (c : goal.After-self-1) → List Run
rest c = drop 1 (reverse c.pop.new.self.items)

count : (c : goal.After-self-1) → c.len-count.result ≡ length c.pop.new.self.items
count c = search rules

all_runs : (c : goal.After-self-1)
    → reverse c.self.inside.runs.items ≡ c.in-Some.top ∷ c.index-below.result.now ∷ rest c
all_runs c =
    reversed c.pop.new.self.items c.self.inside.runs.items c.in-Some.top c.in-Some.ensures.items
    ∙ ap (λ runs. c.in-Some.top ∷ runs)
    (last_run c.pop.new.self.items c.len-count.result c.index-below.result.now (count c) c.if-count-gt0.true
    ∙ ap (λ run. run ∷ rest c) (sym c.index-below.ensures))

stack : (c : goal.After-self-1) → AreStacked (length c.self.inside.places.items)
    (c.in-Some.top ∷ c.index-below.result.now ∷ rest c)
stack c = subst (AreStacked (length c.self.inside.places.items)) (all_runs c) c.self.invariant

pub invariant_of-self : goal.invariant_of-self
invariant_of-self c =
    let run = c.merge.result in
    let below = c.index-below.result.now in
    let known = c.merge.ensures in
    subst (AreStacked (length c.merge.new.places.items))
    (sym (set_last_run c.pop.new.self.items c.len-count.result run (count c) c.if-count-gt0.true)) (
      known.within,
      known.len,
      stacked_below (rest c) (below.end - below.len) (run.end - run.len) known.start (stack c).2.2,
    )

pub returns-then-count-gt0 : goal.returns-then-count-gt0
returns-then-count-gt0 c =
    let places = c.self.inside.places.items in
    let known = c.merge.ensures in
    ap (λ runs. shown runs c.merge.new.places.items)
    (set_last_run c.pop.new.self.items c.len-count.result c.merge.result (count c) c.if-count-gt0.true)
    ∙ shown_joined places c.merge.new.places.items (rest c) c.index-below.result.now c.in-Some.top c.merge.result
    (stack c).2.2 known.at known.levels known.below
    ∙ ap (λ runs. joined_entries (shown runs places)) (sym (all_runs c))
    ∙ ap joined_entries c.self.view_is

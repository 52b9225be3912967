-- What a source prints and how it ends, by computing.
use Rattle.std.specs.Prelude.{ℕ, zero, suc, List, [], ◌∷◌, ◌++◌, codes}
use Rattle.hz_tree.specs.declared.nonterminal.Nonterminal.TheVariants as n
use Rattle.hz_tree.specs.declared.tree.Tree.{Tree}
use Rattle.hz_tree.specs.grammar.Look.{terminals}
use Rattle.hz_tree.specs.reading.Reading.{Reading, Got, Stuck, Deeper, reads}
use Rattle.hz_value.specs.Leaving.{name_of_left}
use Rattle.hz_value.specs.world.Descriptions.{describe}
use Rattle.hz_value.specs.world.World.{World}
use Rattle.hz_value.specs.system.System.{Event, Printed, Asked, Ending, Done, Uncaught, LeftFor, TurnsSpent, BadCode}
use Rattle.hz_value.specs.system.System.{State, Running, Ended, System}
use Rattle.hz_value.specs.system.Step.{system_step}
use Rattle.hz_ecma.specs.evaluator.Activations.{Activation}
use Rattle.hz_ecma.specs.evaluator.Steps.{Trees, tree_meaning}
use Rattle.hz_ecma.specs.runs.Entered.{entered_within}
use Rattle.hz_ecma.specs.runs.Outcomes.{tree_start}

-- at most n steps, and none behind the end
abbrev pub finish : Trees → ℕ → System Activation → System Activation
finish trees zero s = s
finish trees (suc n) s =
    elim s.state [
      | Running top below ↦ finish trees n (system_step (tree_meaning trees) s)
      | Ended e ↦ s
    ]

abbrev pub line_of : Event → List ℕ
line_of (Printed line) = line ++ 10 ∷ []
line_of Asked = []

abbrev pub lines_of : List Event → List ℕ
lines_of [] = []
lines_of (e ∷ es) = line_of e ++ lines_of es

abbrev pub ending_of : World → Ending → List ℕ
ending_of w Done = codes "done"
ending_of w (Uncaught v) = codes "uncaught " ++ describe w.store v
ending_of w (LeftFor reason) = codes "left " ++ name_of_left reason
ending_of w TurnsSpent = codes "turns spent"
ending_of w BadCode = codes "bad code"

abbrev pub state_of : World → State Activation → List ℕ
state_of w (Running top below) = codes "runs"
state_of w (Ended e) = ending_of w e

-- the lines that are printed, each with its newline, and the ending
abbrev pub told_of : System Activation → List ℕ
told_of s = lines_of s.events ++ state_of s.world s.state

abbrev pub run_trees : ℕ → Trees → List ℕ
run_trees turns trees = told_of (finish trees 2000 (tree_start trees [] turns))

abbrev pub run_read : ℕ → List (List ℕ) → Reading Tree → List ℕ
run_read turns vars (Got script rest) = run_trees turns (λ k. record { tree = script; vars = vars })
run_read turns vars (Stuck cause rest) = codes "refused"
run_read turns vars Deeper = codes "refused"

-- of a source with these `var` names, with so many turns
abbrev pub run_source : ℕ → List (List ℕ) → List ℕ → List ℕ
run_source turns vars source = run_read turns vars (reads n.Script (terminals source))

-- the mark at the end, and the functions that are entered within so many steps
abbrev pub mark_read : Reading Tree → ℕ
mark_read (Got script rest) =
    let trees : Trees = λ k. record { tree = script; vars = [] } in
    (finish trees 2000 (tree_start trees [] 100)).world.mark
mark_read (Stuck cause rest) = 0
mark_read Deeper = 0

abbrev pub mark_in : List ℕ → ℕ
mark_in source = mark_read (reads n.Script (terminals source))

abbrev pub entered_read : ℕ → Reading Tree → List ℕ
entered_read steps (Got script rest) =
    let trees : Trees = λ k. record { tree = script; vars = [] } in
    entered_within (λ a. a.function) (tree_meaning trees) steps (tree_start trees [] 100) []
entered_read steps (Stuck cause rest) = []
entered_read steps Deeper = []

abbrev pub entered_in : ℕ → List ℕ → List ℕ
entered_in steps source = entered_read steps (reads n.Script (terminals source))

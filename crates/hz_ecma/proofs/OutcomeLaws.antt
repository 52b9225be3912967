-- The run of a source has one outcome, and no run over trees ends as bad code.
use Rattle.std.proofs.Common.{◌≡◌, ◌≤◌, subst, ℕ, List}
use Rattle.hz_tree.specs.declared.nonterminal.Nonterminal.TheVariants.{Script as ScriptRow}
use Rattle.hz_tree.specs.declared.tree.Tree.{Tree}
use Rattle.hz_tree.specs.grammar.Look.{Terminal, terminals}
use Rattle.hz_tree.specs.reading.Reading.{Reading, Got, reads}
use Rattle.hz_tree.specs.tokens.Text.{Text}
use Rattle.hz_value.specs.world.World.{Line}
use Rattle.hz_value.specs.system.System.{Event, Ending, System}
use Rattle.hz_value.specs.system.Runs.{after}
use Rattle.hz_value.proofs.RunLaws.{one_outcome}
use Rattle.hz_value.proofs.TurnLaws.{turns_fall}
use Rattle.hz_ecma.specs.evaluator.Activations.{Activation}
use Rattle.hz_ecma.specs.evaluator.Steps.{Trees, tree_meaning}
use Rattle.hz_ecma.specs.runs.Outcomes.{Outcome, TreeEnds, script_alone, tree_start}
use Rattle.hz_ecma.proofs.StepLaws.{trees_take_turns}

same_tree : (r : Reading Tree) (tree tree1 : Tree) (rest rest1 : List Terminal) → r ≡ Got tree rest
    → r ≡ Got tree1 rest1 → tree ≡ tree1
same_tree r tree tree1 rest rest1 e e1 = (cc)

pub source_outcome : (source : Text) (lines : List Line) (turns : ℕ) (events events1 : List Event) (e e1 : Ending)
    → Outcome source lines turns events e → Outcome source lines turns events1 e1 → (events ≡ events1) × (e ≡ e1)
source_outcome source lines turns events events1 e e1 first second =
    one_outcome (tree_meaning (script_alone second.tree)) (tree_start (script_alone second.tree) lines turns) events
    events1 e e1
    (subst (λ t. TreeEnds (script_alone t) lines turns events e)
    (same_tree (reads ScriptRow (terminals source)) first.tree second.tree first.rest second.rest first.read
    second.read) first.ends)
    second.ends

pub run_turns : (trees : Trees) (n : ℕ) (s : System Activation)
    → (after (tree_meaning trees) n s).world.turns ≤ s.world.turns
run_turns trees n s = turns_fall (tree_meaning trees) (trees_take_turns trees) n s

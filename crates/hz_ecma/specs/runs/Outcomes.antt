-- The run of a source over its tree, and its outcome: the events and the ending.
use Rattle.std.specs.Prelude.{◌≡◌, ℕ, List, map, filter}
use Rattle.hz_tree.specs.declared.nonterminal.Nonterminal.TheVariants.{Script as ScriptRow}
use Rattle.hz_tree.specs.declared.tree.Tree.{Tree, out-Tree}
use Rattle.hz_tree.specs.grammar.Look.{Terminal, terminals}
use Rattle.hz_tree.specs.reading.Reading.{Got, reads}
use Rattle.hz_tree.specs.errors.Declarations.{at_top, is_var}
use Rattle.hz_tree.specs.errors.Sources.{script_declarations}
use Rattle.hz_tree.specs.tokens.Text.{Text}
use Rattle.hz_tree.specs.tokens.Values.{name_value}
use Rattle.hz_value.specs.world.World.{Line}
use Rattle.hz_value.specs.world.Start.{world0}
use Rattle.hz_value.specs.system.System.{System, Event, Ending}
use Rattle.hz_value.specs.system.Runs.{start, after, Ends}
use Rattle.hz_ecma.specs.evaluator.Activations.{Activation}
use Rattle.hz_ecma.specs.evaluator.Steps.{Trees, script_activation, tree_meaning}

-- the system at the start of a run, with these lines to read and so many turns
abbrev pub tree_start : Trees → List Line → ℕ → System Activation
tree_start trees lines turns = start (script_activation trees) (world0 lines turns)

-- the system after n steps
abbrev pub after_steps : Trees → List Line → ℕ → ℕ → System Activation
after_steps trees lines turns n = after (tree_meaning trees) n (tree_start trees lines turns)

abbrev pub TreeEnds : Trees → List Line → ℕ → List Event → Ending → Type 0
TreeEnds trees lines turns events ending = Ends (tree_meaning trees) (tree_start trees lines turns) events ending

-- ---- the outcome of a source

-- TopLevelVarDeclaredNames of the script (8.2.10)
abbrev pub var_names : Tree → List (List ℕ)
var_names script =
    map (λ d. name_value d.name) (filter (λ d. is_var d.binding) (map at_top (script_declarations (out-Tree script))))

-- the functions of a source without inner functions: its script alone
abbrev pub script_alone : Tree → Trees
script_alone script k = record { tree = script; vars = var_names script }

-- the run of this source ends so, behind these events
pub record Outcome (source : Text) (lines : List Line) (turns : ℕ)
    (events : List Event) (ending : Ending) : Type 0 where
  pub tree : Tree
  pub rest : List Terminal
  pub read : reads ScriptRow (terminals source) ≡ Got tree rest
  pub ends : TreeEnds (script_alone tree) lines turns events ending

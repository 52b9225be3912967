-- What stands between two places of the terminals: tokens, and functions one behind the other, with those within them.
use Rattle.std.specs.Prelude.{◌≡◌, ℕ, ◌+◌, ◌<◌, ◌≤◌, true, ◌⊎◌, List, [], ◌∷◌, ◌++◌, length, All}
use Rattle.hz_tree.specs.declared.class.Class.{Class}
use Rattle.hz_tree.specs.declared.tree.FunctionKind.TheVariants as kind
use Rattle.hz_tree.specs.declared.nonterminal.Nonterminal.{Nonterminal}
use Rattle.hz_tree.specs.grammar.Classes.{fits}
use Rattle.hz_tree.specs.grammar.Look.{Terminal, look, begins_arrow}
use Rattle.hz_tree.specs.grammar.Symbols.{Value}
use Rattle.hz_tree.specs.reading.Reading.{Got, place_ahead, end_behind}
use Rattle.hz_stands.specs.Nodes.{FunctionNode, nodes_of, value_nodes}
use Rattle.hz_own.specs.Owned.{taken, owns}

-- the function's extent is what is passed from `ts` to `rest`, and that is something
pub record Spans (f : FunctionNode) (ts rest : List Terminal) : Type 0 where
  pub start : f.at ≡ place_ahead ts
  pub end : f.end ≡ end_behind rest
  pub some : length rest < length ts

-- where the function is an arrow, the grammar sees here that one begins
abbrev pub SeenArrow : FunctionNode → List Terminal → Type 0
SeenArrow f ts = f.kind ≡ kind.Arrow → begins_arrow (look ts) ≡ true

-- From `ts` to `rest`, which is left of it, stand so many tokens outside of functions, and these functions.
pub data Stretch : (ts rest : List Terminal) → (own : ℕ) → List FunctionNode → Type 0 where
  nothing : (ts : List Terminal) → Stretch ts ts 0 []
  token : (wanted : Class) → (t : Terminal) → (ts : List Terminal) → fits wanted t.class ≡ true
      → Stretch (t ∷ ts) ts (taken wanted) []
  both : (ts mid rest : List Terminal) → (own more : ℕ) → (fs gs : List FunctionNode) → Stretch ts mid own fs
      → Stretch mid rest more gs → Stretch ts rest (own + more) (fs ++ gs)
  function : (ts rest : List Terminal) → (f : FunctionNode) → (inner : ℕ) → Spans f ts rest
      → SeenArrow f ts → Stretch ts rest inner (nodes_of f.body) → Stretch ts rest 0 (f ∷ nodes_of f.body)

-- The function stands between `ts` and `rest`.
pub record Inside (f : FunctionNode) (ts rest : List Terminal) : Type 0 where
  pub before : List Terminal
  pub own : List Terminal
  pub behind : List Terminal
  pub split : ts ≡ before ++ (own ++ (behind ++ rest))
  pub spans : Spans f (own ++ (behind ++ rest)) (behind ++ rest)
  pub arrow : SeenArrow f (own ++ (behind ++ rest))

-- what a reading passes: as many tokens as it is read with counts, and the functions in what it gives
pub record Passing (m : Nonterminal) (ts rest : List Terminal) (v : Value m) : Type 0 where
  pub own : ℕ
  pub counted : owns m ts ≡ Got own rest
  pub stretch : Stretch ts rest own (value_nodes m v)

-- each function ends at or before the start of a later one, or has it within
abbrev pub Nested : List FunctionNode → Type 0
Nested [] = Unit {0}
Nested (f ∷ fs) = (f.at < f.end) × All (λ g. (f.end ≤ g.at) ⊎ (g.end ≤ f.end)) fs × Nested fs

-- Arrows are told by what the grammar sees where they start.
use Rattle.std.specs.Prelude.{◌≡◌, true, List, ◌∷◌, ◌++◌}
use Rattle.hz_tree.specs.declared.index.FunctionInfo.{FunctionInfo}
use Rattle.hz_tree.specs.declared.tree.FunctionKind.TheVariants as kind
use Rattle.hz_tree.specs.grammar.Look.{Terminal, look, begins_arrow}

-- if it is an arrow, the terminal at its start begins one
abbrev pub ToldArrow : List Terminal → FunctionInfo → Type 0
ToldArrow ts info =
    info.kind ≡ kind.Arrow → (before after : List Terminal) (t : Terminal) → ts ≡ before ++ t ∷ after
    → t.token.at ≡ info.start → begins_arrow (look (t ∷ after)) ≡ true

-- The rows of properties, in which functions are left out for their numbers.
use Rattle.std.specs.Prelude.{Bool, List, [], ◌∷◌}
use Rattle.hz_tree.specs.declared.class.Class.{Class}
use Rattle.hz_tree.specs.declared.class.Class.TheVariants as k
use Rattle.hz_tree.specs.declared.index.FunctionInfo.{FunctionInfo}
use Rattle.hz_tree.specs.declared.look.Look.{Look}
use Rattle.hz_tree.specs.declared.nonterminal.Context.{Context}
use Rattle.hz_tree.specs.declared.nonterminal.Nonterminal.TheVariants as n
use Rattle.hz_tree.specs.declared.signal.NodeKind.TheVariants as node
use Rattle.hz_tree.specs.declared.signal.Signal.TheVariants as tell
use Rattle.hz_tree.specs.declared.symbol.Symbol.TheVariants.{Take, Read, Tell}
use Rattle.hz_tree.specs.declared.tree.Tree.TheVariants as t
use Rattle.hz_tree.specs.grammar.PropertyRows.{getter_row, key_rest_by, prop_by, property, setter_row}
use Rattle.hz_tree.specs.grammar.Symbols.{goes, Row}
use Rattle.hz_cuts.specs.Rows.{cut_by}
use Rattle.hz_cuts.specs.Skips.{getter_skip, method_skip, prop_skip, setter_skip}

-- a property that begins with a token of this class
abbrev pub prop_cut : List FunctionInfo → (c : Context) → Look → (one : Class) → Row (n.Prop c)
prop_cut functions c l one = cut_by (n.Prop c) (prop_by c l one) (prop_skip functions c one l.two)

abbrev pub getter_cut : List FunctionInfo → (c : Context) → Look → (keyed : Bool) → Row (n.Prop c)
getter_cut functions c l keyed = cut_by (n.Prop c) (getter_row c l keyed) (getter_skip functions c keyed)

abbrev pub setter_cut : List FunctionInfo → (c : Context) → Look → (keyed : Bool) → Row (n.Prop c)
setter_cut functions c l keyed = cut_by (n.Prop c) (setter_row c l keyed) (setter_skip functions c keyed)

-- what follows a key and begins with a token of this class
abbrev pub key_rest_cut : List FunctionInfo → (c : Context) → Look → (one : Class) → Row (n.KeyRest c)
key_rest_cut functions c l one = cut_by (n.KeyRest c) (key_rest_by c l one) (method_skip functions c one)

-- a name by itself
abbrev pub shorthand_row : (c : Context) → Row (n.Prop c)
shorthand_row c =
    goes (Tell (tell.Begin node.Part) ∷ Tell tell.Use ∷ Take k.Name ∷ Read n.ShorthandEnd ∷ [])
    (λ (begun, (used, _)). t.Shorthand begun.at used.text)

-- a key and what follows it
abbrev pub keyed_row : (c : Context) → Row (n.Prop c)
keyed_row c =
    goes (Tell (tell.Begin node.Part) ∷ Read (n.Key c) ∷ Read (n.KeyRest c) ∷ [])
    (λ (begun, (key, (more, _))). property begun key more)

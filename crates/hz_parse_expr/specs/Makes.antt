-- What rows of expressions make by cases.
use Rattle.std.specs.Prelude.{ℕ, Bool, true, false}
use Rattle.hz_tree.specs.declared.class.Class.{Class}
use Rattle.hz_tree.specs.declared.class.Class.TheVariants as k
use Rattle.hz_tree.specs.declared.look.Look.{Look}
use Rattle.hz_tree.specs.declared.tree.Tree.{Tree}
use Rattle.hz_tree.specs.declared.tree.Tree.TheVariants as t
use Rattle.hz_tree.specs.grammar.Classes.{begins_key}

-- a token with which a member or a call begins
abbrev pub begins_tail : Class → Bool
begins_tail k.Dot = true
begins_tail k.LeftBracket = true
begins_tail k.LeftParen = true
begins_tail k.OptionalDot = true
begins_tail _ = false

-- a property with its key: a method, or one with a value
abbrev pub keyed_tree : (is_method : Bool) → (at : ℕ) → (key value : Tree) → Tree
keyed_tree true at key value = t.Method at key value
keyed_tree false at key value = t.Property at key value

-- the property in hand is a getter, a setter or a generator
abbrev pub enters_by : (one two : Class) → Bool
enters_by k.Star two = true
enters_by k.Get two = begins_key two
enters_by k.Set two = begins_key two
enters_by _ two = false

abbrev pub enters_function : Look → Bool
enters_function l = enters_by l.one l.two

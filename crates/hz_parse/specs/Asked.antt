-- What is told of the arrow in view.
use Rattle.std.specs.Prelude.{◌≡◌, Bool, true, false}
use Rattle.hz_tree.specs.declared.look.Look.{Look}
use Rattle.hz_tree.specs.declared.nonterminal.Nonterminal.{Nonterminal}
use Rattle.hz_tree.specs.declared.nonterminal.Nonterminal.TheVariants as n
use Rattle.hz_tree.specs.grammar.Classes.{is_paren}
use Rattle.hz_tree.specs.grammar.Look.{begins_arrow}
use Rattle.hz_tree.specs.grammar.OperatorRows.{is_loosest}

-- the same two tokens, with another answer on the arrow
abbrev pub turned : Look → Bool → Look
turned l arrow = record l { arrow = arrow }

-- whether the nonterminal's row asks whether an arrow begins
abbrev pub asks : Nonterminal → Bool
asks (n.Operation loosest c) = is_loosest loosest
asks (n.Head c) = true
asks _ = false

-- Where the row asks, it is told whether an arrow begins; where no `(` stands ahead, it is told that none does.
pub record Told (m : Nonterminal) (l : Look) (arrow : Bool) : Type 0 where
  pub begins : asks m ≡ true → begins_arrow (turned l arrow) ≡ begins_arrow l
  pub paren : is_paren l.one ≡ false → arrow ≡ false

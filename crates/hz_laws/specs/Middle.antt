-- What a reader that begins in the middle of a source has to know of a reading.
use Rattle.std.specs.Prelude.{◌≡◌, Bool, true, false, List, [], ◌∷◌, ◌++◌}
use Rattle.hz_tree.specs.declared.nonterminal.Nonterminal.{Nonterminal}
use Rattle.hz_tree.specs.declared.nonterminal.Nonterminal.TheVariants as n
use Rattle.hz_tree.specs.grammar.Classes.{class_of}
use Rattle.hz_tree.specs.grammar.Look.{Terminal}
use Rattle.hz_tree.specs.tokens.Tokens.{braces}

-- each terminal is of the class of its token
abbrev pub Classed : List Terminal → Type 0
Classed [] = Unit {0}
Classed (x ∷ ts) = (x.class ≡ class_of x.token) × Classed ts

-- the braces that are open behind these terminals, where the others were open before them
abbrev pub braces_behind : List Terminal → List Bool → List Bool
braces_behind [] opened = opened
braces_behind (x ∷ ts) opened = braces_behind ts (braces x.token opened)

-- what stands behind a hole of a template, whose brace was opened before it
abbrev pub closes_hole : Nonterminal → Bool
closes_hole (n.TemplateRest c) = true
closes_hole _ = false

-- the brace that is open before it and not behind it
abbrev pub hole_by : (closes : Bool) → List Bool
hole_by true = true ∷ []
hole_by false = []

abbrev pub hole : Nonterminal → List Bool
hole m = hole_by (closes_hole m)

-- `rest` is left of the terminals, and behind those that were passed all braces are closed but for outer ones.
pub record Balances (inner : List Bool) (ts rest : List Terminal) : Type 0 where
  pub passed : List Terminal
  pub split : ts ≡ passed ++ rest
  pub closed : Classed passed → (outer : List Bool) → braces_behind passed (inner ++ outer) ≡ outer

-- the terminals, where no line ends before the first of them
abbrev pub unmarked : List Terminal → List Terminal
unmarked [] = []
unmarked (x ∷ ts) = record x { token = record x.token { newline = false } } ∷ ts

-- An expression or a function begins so: as a declaration, as an operand, at its parameters, or at its one parameter.
abbrev pub begins : Nonterminal → Bool
begins (n.Item c) = true
begins (n.Statement c) = true
begins (n.Block c) = true
begins (n.Expr c) = true
begins (n.Operation loosest c) = true
begins (n.Primary c) = true
begins n.Params = true
begins (n.Bound role) = true
begins _ = false

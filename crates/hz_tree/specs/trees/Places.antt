-- The place of a tree, which is that of its first token, and the trees in it.
use Rattle.std.specs.Prelude.{ℕ, List, [], ◌∷◌, ◌++◌, Option, Some, None}
use Rattle.hz_tree.specs.declared.tree.Tree.{Tree, out-Tree}
use Rattle.hz_tree.specs.declared.tree.Tree.TheOpen.{Tree-F}

pub record Node (A : Type 0) : Type 0 where
  pub at : ℕ
  pub children : List A  -- in the order of the tokens

abbrev pub optional : {A : Type 0} → Option A → List A
optional None = []
optional (Some child) = child ∷ []

abbrev pub node : {A : Type 0} → Tree-F A → Node A
node (Tree-F.Script at items) = record { at = at; children = items }
node (Tree-F.Function at end form kind parameters rest body) = record { at = at; children = body ∷ [] }
node (Tree-F.Inner at number form) = record { at = at; children = [] }
node (Tree-F.Body at items) = record { at = at; children = items }
node (Tree-F.Lexical at word binds) = record { at = at; children = binds }
node (Tree-F.Var at binds) = record { at = at; children = binds }
node (Tree-F.Bind at word name value) = record { at = at; children = optional value }
node (Tree-F.Block at items end) = record { at = at; children = items }
node (Tree-F.Empty at) = record { at = at; children = [] }
node (Tree-F.Debugger at) = record { at = at; children = [] }
node (Tree-F.If at test body other) = record { at = at; children = test ∷ body ∷ optional other }
node (Tree-F.DoWhile at body test) = record { at = at; children = body ∷ test ∷ [] }
node (Tree-F.While at test body) = record { at = at; children = test ∷ body ∷ [] }
node (Tree-F.ForDeclared at word bound iteration over body end) = record { at = at; children = over ∷ body ∷ [] }
node (Tree-F.ForBinds at word binds test update body end) =
    record { at = at; children = binds ++ (optional test ++ (optional update ++ body ∷ [])) }
node (Tree-F.ForLeft at target iteration over body) = record { at = at; children = target ∷ over ∷ body ∷ [] }
node (Tree-F.ForExpr at first test update body) =
    record { at = at; children = optional first ++ (optional test ++ (optional update ++ body ∷ [])) }
node (Tree-F.Continue at label) = record { at = at; children = [] }
node (Tree-F.Break at label) = record { at = at; children = [] }
node (Tree-F.Return at value) = record { at = at; children = optional value }
node (Tree-F.Throw at value) = record { at = at; children = value ∷ [] }
node (Tree-F.Switch at value brace clauses end) = record { at = at; children = value ∷ clauses }
node (Tree-F.Case at value items) = record { at = at; children = value ∷ items }
node (Tree-F.Default at items) = record { at = at; children = items }
node (Tree-F.Try at block handler finally) =
    record { at = at; children = block ∷ (optional handler ++ optional finally) }
node (Tree-F.Catch at bound brace items end) = record { at = at; children = items }
node (Tree-F.Label at name body) = record { at = at; children = body ∷ [] }
node (Tree-F.Expression at value) = record { at = at; children = value ∷ [] }
node (Tree-F.Comma at values) = record { at = at; children = values }
node (Tree-F.Assign at target operator value) = record { at = at; children = target ∷ value ∷ [] }
node (Tree-F.Yield at delegates value) = record { at = at; children = optional value }
node (Tree-F.Cond at test first second) = record { at = at; children = test ∷ first ∷ second ∷ [] }
node (Tree-F.Binary at left operator right) = record { at = at; children = left ∷ right ∷ [] }
node (Tree-F.Unary at operator operand) = record { at = at; children = operand ∷ [] }
node (Tree-F.Postfix at operand operator) = record { at = at; children = operand ∷ [] }
node (Tree-F.Left at head tails) = record { at = at; children = head ∷ tails }
node (Tree-F.NewTarget at) = record { at = at; children = [] }
node (Tree-F.New at callee members args) = record { at = at; children = callee ∷ (members ++ optional args) }
node (Tree-F.Dot at word) = record { at = at; children = [] }
node (Tree-F.Index at key) = record { at = at; children = key ∷ [] }
node (Tree-F.Args at values) = record { at = at; children = values }
node (Tree-F.Optional at tail) = record { at = at; children = tail ∷ [] }
node (Tree-F.Spread at value) = record { at = at; children = value ∷ [] }
node (Tree-F.This at) = record { at = at; children = [] }
node (Tree-F.Identifier at name) = record { at = at; children = [] }
node (Tree-F.Null at) = record { at = at; children = [] }
node (Tree-F.Truth at value) = record { at = at; children = [] }
node (Tree-F.Number at value) = record { at = at; children = [] }
node (Tree-F.OctalNumber at) = record { at = at; children = [] }
node (Tree-F.Text at written octal) = record { at = at; children = [] }
node (Tree-F.Parentheses at value) = record { at = at; children = value ∷ [] }
node (Tree-F.Template at parts holes) = record { at = at; children = holes }
node (Tree-F.Array at elements) = record { at = at; children = elements }
node (Tree-F.Hole at) = record { at = at; children = [] }
node (Tree-F.Object at props) = record { at = at; children = props }
node (Tree-F.Shorthand at name) = record { at = at; children = [] }
node (Tree-F.Property at key value) = record { at = at; children = key ∷ value ∷ [] }
node (Tree-F.Method at key function) = record { at = at; children = key ∷ function ∷ [] }
node (Tree-F.Getter at key function) = record { at = at; children = key ∷ function ∷ [] }
node (Tree-F.Setter at key function) = record { at = at; children = key ∷ function ∷ [] }
node (Tree-F.WordKey at word) = record { at = at; children = [] }
node (Tree-F.TextKey at written octal) = record { at = at; children = [] }
node (Tree-F.NumberKey at value) = record { at = at; children = [] }
node (Tree-F.OctalKey at) = record { at = at; children = [] }
node (Tree-F.ComputedKey at key) = record { at = at; children = key ∷ [] }

abbrev pub place : Tree → ℕ
place tree = (node (out-Tree tree)).at

-- the place of a tree's first token, from those of the trees in it
abbrev pub start : {A : Type 0} → (A → ℕ) → Tree-F A → ℕ
start at (Tree-F.Comma place (first ∷ more)) = at first
start at (Tree-F.Assign place target operator value) = at target
start at (Tree-F.Cond place test first second) = at test
start at (Tree-F.Binary place left operator right) = at left
start at (Tree-F.Postfix place operand operator) = at operand
start at (Tree-F.Left place head tails) = at head
start at layer = (node layer).at

-- What each symbol of the grammar gives, and the form of a row of its table.
use Rattle.std.specs.Prelude.{ℕ, Bool, true, false, List, [], ◌∷◌, Option}
use Rattle.hz_tree.specs.declared.outside.BadKind.{BadKind}
use Rattle.hz_tree.specs.declared.nonterminal.Context.{Context}
use Rattle.hz_tree.specs.declared.nonterminal.Nonterminal.{Nonterminal}
use Rattle.hz_tree.specs.declared.nonterminal.Nonterminal.TheVariants as n
use Rattle.hz_tree.specs.declared.operator.AssignOperator.{AssignOperator}
use Rattle.hz_tree.specs.declared.operator.BinaryOperator.{BinaryOperator}
use Rattle.hz_tree.specs.declared.operator.DeclarationWord.{DeclarationWord}
use Rattle.hz_tree.specs.declared.operator.Level.TheVariants as level
use Rattle.hz_tree.specs.declared.operator.UpdateOperator.{UpdateOperator}
use Rattle.hz_tree.specs.declared.operator.Iteration.{Iteration}
use Rattle.hz_tree.specs.declared.symbol.Symbol.{Symbol}
use Rattle.hz_tree.specs.declared.symbol.Symbol.TheVariants as s
use Rattle.hz_tree.specs.declared.tree.Bound.{Bound}
use Rattle.hz_tree.specs.declared.tree.Rest.{Rest}
use Rattle.hz_tree.specs.declared.tree.Tree.{Tree}
use Rattle.hz_tree.specs.tokens.Text.{Text}
use Rattle.hz_tree.specs.grammar.Look.{Terminal}
use Rattle.hz_tree.specs.grammar.Signals.{Told}

-- ---- rows, whatever the nonterminals give

-- what a symbol gives: a token, what a nonterminal gives, or what is told
abbrev pub Part : (Value : Nonterminal → Type 0) → Symbol → Type 0
Part Value (s.Take wanted) = Terminal
Part Value (s.Read nonterminal) = Value nonterminal
Part Value (s.Tell signal) = Told

abbrev pub Parts : (Value : Nonterminal → Type 0) → List Symbol → Type 0
Parts Value [] = Unit {0}
Parts Value (symbol ∷ more) = Part Value symbol × Parts Value more

-- A row for a nonterminal: a right-hand side, with what its parts make; or why no right-hand side begins here.
pub data RowOf (Value : Nonterminal → Type 0) (nonterminal : Nonterminal) : Type 0 where
  goes : (right : List Symbol) → (Parts Value right → Value nonterminal) → RowOf Value nonterminal
  refuses : BadKind → RowOf Value nonterminal

-- ---- the trees that the nonterminals give

-- what follows the key of a property: the value of a property, or a method
pub data AfterKey : Type 0 where
  has_value : Tree → AfterKey
  called : Tree → AfterKey

-- what follows the first name of a declaration in the head of a `for`
pub data AfterName : Type 0 where
  goes_over : Iteration → Tree → AfterName
  initialised : (value : Option Tree) → (more : List Tree) → (test update : Option Tree) → AfterName

-- an operator behind an operand, with its other operands
pub data Behind : Type 0 where
  updates : UpdateOperator → Behind
  joins : BinaryOperator → Tree → Behind
  chooses : (first second : Tree) → Behind
  assigns : AssignOperator → Tree → Behind

-- what stands behind the beginning of an operation
pub record AfterHead : Type 0 where
  pub tails : List Tree  -- members and calls
  pub operators : List Behind

-- what follows a left-hand side in the head of a `for`
pub data AfterLeft : Type 0 where
  target_of : Iteration → Tree → AfterLeft
  expression_of : List Behind → (more : List Tree) → (test update : Option Tree) → AfterLeft

-- what follows the `(` of a `for`; `end` is that of its scope
pub data AfterFor : Type 0 where
  declares : DeclarationWord → Bound → AfterName → (body : Tree) → (end : Option ℕ) → AfterFor
  begins_left : (left : Tree) → AfterLeft → (body : Tree) → AfterFor
  begins_expr : (first test update : Option Tree) → (body : Tree) → AfterFor

abbrev pub Value : Nonterminal → Type 0
Value n.Script = Tree
Value (n.Items c) = List Tree
Value (n.Item c) = Tree
Value (n.Statement c) = Tree
Value (n.Block c) = Tree
Value (n.Binds word c) = List Tree
Value (n.Bind word c) = Tree
Value (n.MoreBinds word c) = List Tree
Value (n.Initial word c) = Option Tree
Value (n.Bound role) = Bound
Value n.Semi = Unit {0}
Value n.LooseSemi = Unit {0}
Value (n.Else c) = Option Tree
Value (n.Label jump) = Option Bound
Value (n.ReturnValue c) = Option Tree
Value (n.ThrowValue c) = Tree
Value (n.Clauses c has_default) = List Tree
Value (n.Handlers c) = Option Tree × Option Tree
Value (n.CatchClause c) = Tree
Value n.CatchName = Option Bound
Value (n.Finally c) = Option Tree
Value n.ForOpen = Unit {0}
Value (n.Head c) = AfterFor
Value (n.DeclaredHead word c) = AfterName
Value (n.LeftHead c) = AfterLeft
Value (n.OptionalExpr c) = Option Tree
Value (n.Expr c) = Tree
Value (n.ExprRest listed c) = List Tree
Value (n.Operation loosest c) = Tree
Value (n.Tails tailed loosest c) = AfterHead
Value (n.Rests loosest tightest c) = List Behind
Value n.ArrowSign = Unit {0}
Value (n.ArrowBody c) = Tree
Value (n.YieldValue c) = Bool × Option Tree
Value (n.OptionalTail c) = Tree
Value n.Word = Terminal
Value (n.Members c) = List Tree
Value (n.NewArgs c) = Option Tree
Value (n.Args c) = Tree
Value (n.Arguments c) = List Tree
Value (n.MoreArguments c) = List Tree
Value (n.Argument c) = Tree
Value (n.Primary c) = Tree
Value (n.TemplateRest c) = List Text × List Tree
Value (n.Elements c) = List Tree
Value (n.MoreElements c) = List Tree
Value (n.Props c) = List Tree
Value (n.MoreProps c) = List Tree
Value (n.Prop c) = Tree
Value n.ShorthandEnd = Unit {0}
Value (n.KeyRest c) = AfterKey
Value (n.Key c) = Tree
Value n.OwnName = Option Bound
Value n.Params = List Bound × Option Rest
Value n.Parameters = List Bound × Option Rest
Value n.MoreParameters = List Bound × Option Rest
Value n.ParameterEnd = Unit {0}
Value (n.Body generator) = Tree

abbrev pub Row : Nonterminal → Type 0
Row nonterminal = RowOf Value nonterminal

-- an assignment expression
abbrev pub assignment : Context → Nonterminal
assignment c = n.Operation level.Assignment c

-- ---- contexts

abbrev pub of_script : Context
of_script = record { returns = false; yields = false; no_in = false }

-- the body of a function
abbrev pub of_body : (generator : Bool) → Context
of_body generator = record { returns = true; yields = generator; no_in = false }

-- within brackets
abbrev pub with_in : Context → Context
with_in c = record c { no_in = false }

-- in the head of a `for`
abbrev pub without_in : Context → Context
without_in c = record c { no_in = true }

-- the expression that is the body of an arrow
abbrev pub of_arrow : Context → Context
of_arrow c = record c { returns = true; yields = false }

-- Activations of trees: what is in hand, and what is still to do with its outcome.
use Rattle.std.specs.Prelude.{ℕ, Bool, List, [], ◌∷◌, Option}
use Rattle.hz_tree.specs.declared.operator.AssignOperator.{AssignOperator}
use Rattle.hz_tree.specs.declared.operator.BinaryOperator.{BinaryOperator}
use Rattle.hz_tree.specs.declared.operator.UnaryOperator.{UnaryOperator}
use Rattle.hz_tree.specs.declared.operator.UpdateOperator.{UpdateOperator}
use Rattle.hz_tree.specs.declared.tree.Tree.{Tree}
use Rattle.hz_tree.specs.tokens.Text.{Text}
use Rattle.hz_tree.specs.trees.Places.{place}
use Rattle.hz_value.specs.declared.values.Value.{Value}

-- an abrupt completion (ECMA-262, 6.2.4); a target is a label
pub data Way : Type 0 where
  Throwing : (value : Value) → Way
  Breaking : (target : Option Text) → Way
  Continuing : (target : Option Text) → Way
  Returning : (value : Value) → Way

-- an operator between two operands; `FusedQuotient` is `(a / b) | 0`
pub data Operation : Type 0 where
  Plain : (operator : BinaryOperator) → Operation
  FusedQuotient : Operation

-- what a reference (6.2.5) is for: it is assigned, updated (with the operator before it or behind it), or its type is
-- asked for
pub data Purpose : Type 0 where
  Assigned : (operator : AssignOperator) (right : Tree) → Purpose
  Updated : (operator : UpdateOperator) (before : Bool) → Purpose
  Typed : Purpose

-- a function of the source, or the script: its tree, and the names that its `var` and function declarations bind
-- (TopLevelVarDeclaredNames, 8.2.10), by their UTF-16 units
pub record FunctionTree : Type 0 where
  pub tree : Tree
  pub vars : List (List ℕ)

-- what a `for` repeats (14.7.4.3); `copies` tells that its bindings are made anew for each iteration
pub record ForLoop : Type 0 where
  pub labels : List Text
  pub copies : Bool
  pub test : Option Tree
  pub update : Option Tree
  pub body : Tree

-- what is in hand. A normal completion always has a value here: that of a statement is never looked at
pub data Hand : Type 0 where
  -- the script or another function, before its instantiation
  Enter : (function : FunctionTree) → Hand
  -- an expression, or a part of a declaration
  Eval : (tree : Tree) → Hand
  -- a statement, with the labels that stand directly before it (14.13.4)
  Exec : (labels : List Text) (statement : Tree) → Hand
  -- a tree that is to be a reference, for this use of it
  Refer : (purpose : Purpose) (target : Tree) → Hand
  -- what stands in parentheses as the left operand of `| 0`
  Enclosed : (inner left right : Tree) → Hand
  -- a completion
  Completed : (value : Value) → Hand
  Leaving : (way : Way) → Hand

-- what waits for the completion of what is in hand. A name is its UTF-16 units
pub data Frame : Type 0 where
  -- the activation's statement at this place, or its function
  Statement : (place : ℕ) → Frame
  -- ---- expressions
  -- what stands behind it in a comma expression or a declaration
  Values : (rest : List Tree) → Frame
  -- the parts of a template behind it and the holes between them, and the text before it
  Hole : (before : List ℕ) (parts : List Text) (holes : List Tree) → Frame
  -- the left operand, and the right one
  Left : (operation : Operation) (right : Tree) → Frame
  Right : (operation : Operation) (left : Value) → Frame
  -- the operand of a word or a sign
  Operand : (operator : UnaryOperator) → Frame
  -- the test of a conditional expression
  Conditional : (first second : Tree) → Frame
  -- the value of a name that is assigned
  AssignTo : (name : List ℕ) → Frame
  -- the value of a declaration
  Initialise : (name : List ℕ) → Frame
  -- what members and calls stand behind
  Tails : (tails : List Tree) → Frame
  -- an argument, with the callee, those before it and those behind it
  Argument : (callee : Value) (before : List Value) (rest : List Tree) → Frame
  -- ---- statements
  -- a statement of a list
  Items : (rest : List Tree) → Frame
  -- what runs in a scope of its own: behind it these records are in scope again
  Restore : (own : List ℕ) → Frame
  -- a loop or a switch as a whole (14.13.4), and what stands behind a label
  Breakable : Frame
  Labelled : (label : Text) → Frame
  Branch : (first : Tree) (other : Option Tree) → Frame
  WhileTest : (labels : List Text) (test body : Tree) → Frame
  WhileBody : (labels : List Text) (test body : Tree) → Frame
  DoBody : (labels : List Text) (body test : Tree) → Frame
  DoTest : (labels : List Text) (body test : Tree) → Frame
  ForFirst : (loop : ForLoop) → Frame
  ForTest : (loop : ForLoop) → Frame
  ForBody : (loop : ForLoop) → Frame
  ForUpdate : (loop : ForLoop) → Frame
  -- the value of a switch; the value of a clause, with the items from that clause on, and the clauses behind it
  SwitchValue : (place : ℕ) (clauses : List Tree) → Frame
  CaseValue : (input : Value) (items : List Tree) (rest clauses : List Tree) → Frame
  Thrown : Frame

-- `own` are the records that it made and that are in scope, the innermost first; `outer` are those of its closure.
-- The script has no callee
pub record Activation : Type 0 where
  pub function : ℕ
  pub callee : Option ℕ
  pub own : List ℕ
  pub outer : List ℕ
  pub hand : Hand
  pub frames : List Frame

-- the place of the innermost statement that waits
abbrev pub statement_in : List Frame → ℕ
statement_in [] = 0
statement_in (Statement place ∷ fs) = place
statement_in (f ∷ fs) = statement_in fs

-- the place of the statement in hand
abbrev pub statement_of : Hand → List Frame → ℕ
statement_of (Exec labels statement) fs = place statement
statement_of hand fs = statement_in fs

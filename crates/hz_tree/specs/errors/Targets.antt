-- What operators ask of their operands, and what literals and directives say (ECMA-262, 8.6.4, 11.2.1, 12.9, 13).
use Rattle.std.specs.Prelude.{ℕ, Bool, true, false, not, ◌&&◌, ◌||◌, if◌then◌else◌, List, [], ◌∷◌, ◌++◌, map, codes}
use Rattle.std.specs.Prelude.{Option, Some, None}
use Rattle.std.specs.Str.{bytes_eq}
use Rattle.hz_tree.specs.declared.early.EarlyKind.TheVariants as early
use Rattle.hz_tree.specs.declared.profile.ProfileKind.{ProfileKind}
use Rattle.hz_tree.specs.declared.profile.ProfileKind.TheVariants as profile
use Rattle.hz_tree.specs.declared.operator.UnaryOperator.{UnaryOperator}
use Rattle.hz_tree.specs.declared.operator.UnaryOperator.TheVariants as unary
use Rattle.hz_tree.specs.declared.tree.Rest.{Rest}
use Rattle.hz_tree.specs.declared.tree.Tree.{Tree, fold-Tree}
use Rattle.hz_tree.specs.declared.tree.Tree.TheOpen.{Tree-F}
use Rattle.hz_tree.specs.tokens.Text.{Text}
use Rattle.hz_tree.specs.grammar.Operators.{takes_pattern}
use Rattle.hz_tree.specs.trees.Places.{node, start}
use Rattle.hz_tree.specs.errors.Declarations.{is_eval}
use Rattle.hz_tree.specs.errors.Scopes.{EarlyError}
use Rattle.hz_tree.specs.tokens.Values.{text_value}

abbrev pub ProfileError : Type 0
ProfileError = ProfileKind × ℕ

-- ---- expressions

-- what an expression is for the operators round it, whether in parentheses or not
pub data Shape : Type 0 where
  a_name : (at : ℕ) → Text → Shape
  a_property : Shape
  a_chain : Shape  -- an optional chain (13.3)
  a_pattern : Shape  -- the literal of an array or an object
  a_text : (written : Text) → Shape
  another : Shape

pub record Operand : Type 0 where
  pub at : ℕ
  pub shape : Shape
  pub parenthesised : Bool

-- what stands behind an operand
pub data Tail : Type 0 where
  member : Tail
  call : Tail
  chained : Tail

-- a chain goes on up to the parentheses round it
abbrev pub is_open_chain : Operand → Bool
is_open_chain operand = elim operand.shape [ a_chain ↦ not operand.parenthesised | _ ↦ false ]

abbrev pub tailed_shape : Operand → Tail → Shape
tailed_shape operand member = if is_open_chain operand then a_chain else a_property
tailed_shape operand call = if is_open_chain operand then a_chain else another
tailed_shape operand chained = a_chain

abbrev pub plain : ℕ → Shape → Operand
plain at shape = record { at = at; shape = shape; parenthesised = false }

abbrev pub tailed_operand : Operand → List Tail → Operand
tailed_operand operand [] = operand
tailed_operand operand (tail ∷ more) = tailed_operand (plain operand.at (tailed_shape operand tail)) more

-- ---- errors

pub record Errors : Type 0 where
  pub early : List EarlyError
  pub profile : List ProfileError

abbrev pub no_errors : Errors
no_errors = record { early = []; profile = [] }

abbrev pub joined : Errors → Errors → Errors
joined a b = record { early = a.early ++ b.early; profile = a.profile ++ b.profile }

abbrev pub an_early : EarlyError → Errors
an_early e = record { early = e ∷ []; profile = [] }

abbrev pub a_profile : ProfileError → Errors
a_profile e = record { early = []; profile = e ∷ [] }

-- The target of an assignment (13.15.1), an update (13.4.1) or a `for` (14.7.5.1). `pattern` tells that a pattern could
-- stand there, which is left out of the language.
abbrev pub target_errors : (pattern : Bool) → Operand → Errors
target_errors pattern operand = elim operand.shape [
  | a_name at name ↦ if is_eval name then an_early (early.EvalOrArguments, at) else no_errors
  | a_property ↦ no_errors
  | a_pattern ↦
      if pattern && not operand.parenthesised then a_profile (profile.Pattern, operand.at)
      else an_early (early.Target, operand.at)
  | _ ↦ an_early (early.Target, operand.at)
]

-- 13.5.1.1
abbrev pub delete_errors : (at : ℕ) → Operand → Errors
delete_errors at operand = elim operand.shape [
  | a_name place name ↦ an_early (early.DeleteName, at)
  | _ ↦ no_errors
]

abbrev pub unary_errors : (at : ℕ) → UnaryOperator → Operand → Errors
unary_errors at unary.Delete operand = delete_errors at operand
unary_errors at unary.Increment operand = target_errors false operand
unary_errors at unary.Decrement operand = target_errors false operand
unary_errors at _ operand = no_errors

abbrev pub octal_errors : (octal : Bool) → (at : ℕ) → Errors
octal_errors octal at = if octal then an_early (early.LegacyOctal, at) else no_errors

abbrev pub is_proto : Text → Bool
is_proto name = bytes_eq (codes "__proto__") name

-- ---- directives (11.2.1)

-- in either quotes, and without escapes
abbrev pub is_use_strict : Text → Bool
is_use_strict written = bytes_eq (codes "\"use strict\"") written || bytes_eq (codes "'use strict'") written

pub record Directive : Type 0 where
  pub at : ℕ
  pub written : Text

abbrev pub directive_by : Operand → Option Directive
directive_by operand = elim operand.shape [
  | a_text written ↦ if operand.parenthesised then None else Some (record { at = operand.at; written = written })
  | _ ↦ None
]

-- those in front of the items
abbrev pub prologue : List (Option Directive) → List Directive
prologue [] = []
prologue (None ∷ items) = []
prologue (Some directive ∷ items) = directive ∷ prologue items

-- A function with a rest parameter does not say "use strict" (15.2.1).
abbrev pub strict_errors : List Directive → Errors
strict_errors [] = no_errors
strict_errors (d ∷ more) =
    joined (if is_use_strict d.written then an_early (early.UseStrictInBody, d.at) else no_errors) (strict_errors more)

abbrev pub body_errors : Option Rest → List Directive → Errors
body_errors None directives = no_errors
body_errors (Some rest) directives = strict_errors directives

-- ---- trees

pub record Meaning : Type 0 where
  pub operand : Operand
  pub tail : Tail
  pub proto : Bool  -- the key of a property says `__proto__`
  pub directive : Option Directive
  pub directives : List Directive  -- the prologue of a body
  pub errors : Errors

abbrev pub inside : List Meaning → Errors
inside [] = no_errors
inside (first ∷ more) = joined first.errors (inside more)

-- an expression
abbrev pub means : Operand → Errors → Meaning
means operand errors = record {
  operand = operand;
  tail = member;
  proto = false;
  directive = None;
  directives = [];
  errors = errors;
}

abbrev pub means_tail : ℕ → Tail → Errors → Meaning
means_tail at tail errors = record (means (plain at another) errors) { tail = tail }

abbrev pub means_key : ℕ → Text → Errors → Meaning
means_key at name errors = record (means (plain at another) errors) { proto = is_proto name }

abbrev pub means_body : ℕ → List Meaning → Meaning
means_body at items =
    record (means (plain at another) (inside items)) { directives = prologue (map (λ m. m.directive) items) }

abbrev pub meaning_layer : Tree-F Meaning → Meaning
meaning_layer (Tree-F.Script at items) = means_body at items
meaning_layer (Tree-F.Body at items) = means_body at items
meaning_layer (Tree-F.Function at end form kind parameters rest body) =
    means (plain at another) (joined body.errors (body_errors rest body.directives))
meaning_layer (Tree-F.Expression at value) =
    record (means (plain at another) value.errors) { directive = directive_by value.operand }
meaning_layer (Tree-F.ForLeft at target iteration over body) =
    means (plain at another)
    (joined target.errors (joined (target_errors true target.operand) (joined over.errors body.errors)))
meaning_layer (Tree-F.Assign at target operator value) =
    means (plain target.operand.at another)
    (joined target.errors (joined (target_errors (takes_pattern operator) target.operand) value.errors))
meaning_layer (Tree-F.Unary at operator operand) =
    means (plain at another) (joined operand.errors (unary_errors at operator operand.operand))
meaning_layer (Tree-F.Postfix at operand operator) =
    means (plain operand.operand.at another) (joined operand.errors (target_errors false operand.operand))
meaning_layer (Tree-F.Left at head tails) =
    means (tailed_operand head.operand (map (λ m. m.tail) tails)) (joined head.errors (inside tails))
meaning_layer (Tree-F.Dot at word) = means_tail at member no_errors
meaning_layer (Tree-F.Index at key) = means_tail at member key.errors
meaning_layer (Tree-F.Args at values) = means_tail at call (inside values)
meaning_layer (Tree-F.Optional at tail) = means_tail at chained tail.errors
meaning_layer (Tree-F.Identifier at name) = means (plain at (a_name at name)) no_errors
meaning_layer (Tree-F.OctalNumber at) = means (plain at another) (octal_errors true at)
meaning_layer (Tree-F.Text at written octal) = means (plain at (a_text written)) (octal_errors octal at)
meaning_layer (Tree-F.Parentheses at value) =
    means (record { at = at; shape = value.operand.shape; parenthesised = true }) value.errors
meaning_layer (Tree-F.Array at elements) = means (plain at a_pattern) (inside elements)
meaning_layer (Tree-F.Object at props) = means (plain at a_pattern) (inside props)
meaning_layer (Tree-F.Property at key value) =
    means (plain at another)
    (joined key.errors (joined (if key.proto then a_profile (profile.Proto, at) else no_errors) value.errors))
meaning_layer (Tree-F.WordKey at word) = means_key at word no_errors
meaning_layer (Tree-F.TextKey at written octal) = means_key at (text_value written) (octal_errors octal at)
meaning_layer (Tree-F.OctalKey at) = means (plain at another) (octal_errors true at)
meaning_layer layer =
    means (plain (start (λ m. m.operand.at) layer) another) (inside (node layer).children)

unfoldable pub meaning_of : Tree → Meaning
meaning_of = fold-Tree Meaning meaning_layer

-- What operators ask of their operands, and what literals and directives say, as the events of a reading tell it
-- (ECMA-262, 8.6.4, 11.2.1, 12.9, 13).
use Rattle.std.specs.Prelude.{ℕ, Bool, true, false, ◌&&◌, ◌||◌, if◌then◌else◌, List, [], ◌∷◌, drop, Option, Some, None}
use Rattle.hz_tree.specs.declared.early.EarlyKind.TheVariants as early
use Rattle.hz_tree.specs.declared.profile.ProfileKind.TheVariants as profile
use Rattle.hz_tree.specs.declared.operator.UnaryOperator.{UnaryOperator}
use Rattle.hz_tree.specs.declared.signal.NodeKind.{NodeKind}
use Rattle.hz_tree.specs.declared.signal.NodeKind.TheVariants as kind
use Rattle.hz_tree.specs.declared.signal.NodeShape.{NodeShape}
use Rattle.hz_tree.specs.declared.signal.NodeShape.TheVariants as shape
use Rattle.hz_tree.specs.declared.signal.Signal.TheVariants as tell
use Rattle.hz_tree.specs.tokens.Values.{text_value}
use Rattle.hz_tree.specs.grammar.Signals.{Event, Plain, Placed, Texted, Named, Written}
use Rattle.hz_tree.specs.sources.EarlyErrors.{order_of_early}
use Rattle.hz_tree.specs.sources.Kinds.{order_of_profile}
use Rattle.hz_tree.specs.errors.Targets.{is_use_strict}
use Rattle.hz_tree.specs.errors.Scopes.{EarlyError}
use Rattle.hz_tree.specs.errors.Targets.{ProfileError, Shape, a_name, a_pattern, a_text, another, Operand, Tail, member}
use Rattle.hz_tree.specs.errors.Targets.{call, chained, tailed_operand, plain, Errors, no_errors, an_early, a_profile}
use Rattle.hz_tree.specs.errors.Targets.{target_errors, unary_errors, octal_errors, is_proto, Directive, directive_by}
use Rattle.hz_errors.specs.declared.functions.Opened.{Opened}
use Rattle.hz_errors.specs.Found.{noted}

-- a node in hand, or an operand that is complete
pub record Entry : Type 0 where
  pub operand : Operand
  pub proto : Bool  -- it is a property whose key says `__proto__`

pub record Operands : Type 0 where
  pub entries : List Entry  -- the innermost first
  pub functions : List Opened  -- those that have not ended, the innermost first, with the script
  pub early : Option EarlyError  -- the least that was found
  pub profile : Option ProfileError

abbrev pub noting : Errors → Operands → Operands
noting errors s = record {
  entries = s.entries;
  functions = s.functions;
  early = noted order_of_early errors.early s.early;
  profile = noted order_of_profile errors.profile s.profile;
}

-- ---- entries

abbrev pub with_entries : List Entry → Operands → Operands
with_entries entries s =
    record { entries = entries; functions = s.functions; early = s.early; profile = s.profile }

abbrev pub pushed : Operand → Operands → Operands
pushed operand s = with_entries (record { operand = operand; proto = false } ∷ s.entries) s

abbrev pub popped : Operands → Operands
popped s = with_entries (drop 1 s.entries) s

abbrev pub first_of : List Entry → Option Entry
first_of [] = None
first_of (top ∷ below) = Some top

abbrev pub change_first : (Entry → Entry) → List Entry → List Entry
change_first f [] = []
change_first f (top ∷ below) = f top ∷ below

-- a change of the uppermost entry
abbrev pub changed : (Entry → Entry) → Operands → Operands
changed f s = with_entries (change_first f s.entries) s

abbrev pub as_shape : Shape → Entry → Entry
as_shape shape entry = record { operand = plain entry.operand.at shape; proto = entry.proto }

abbrev pub as_node : NodeShape → Entry → Entry
as_node shape.Other entry = as_shape another entry
as_node shape.Pattern entry = as_shape a_pattern entry
as_node shape.Same entry = entry

abbrev pub as_tailed : Tail → Entry → Entry
as_tailed tail entry = record { operand = tailed_operand entry.operand (tail ∷ []); proto = entry.proto }

abbrev pub as_marked : (proto : Bool) → Entry → Entry
as_marked proto entry = record { operand = entry.operand; proto = entry.proto || proto }

-- the parentheses round an expression of this shape
abbrev pub as_enclosing : Shape → Entry → Entry
as_enclosing shape entry =
    record { operand = record { at = entry.operand.at; shape = shape; parenthesised = true }; proto = entry.proto }

-- the uppermost entry goes into the parentheses that the one below it stands for
abbrev pub enclosed : List Entry → List Entry
enclosed [] = []
enclosed (top ∷ below) = change_first (as_enclosing top.operand.shape) below

-- ---- directives

abbrev pub with_functions : List Opened → Operands → Operands
with_functions functions s =
    record { entries = s.entries; functions = functions; early = s.early; profile = s.profile }

abbrev pub innermost_of : List Opened → Option Opened
innermost_of [] = None
innermost_of (innermost ∷ outer) = Some innermost

abbrev pub change_innermost : (Opened → Opened) → List Opened → List Opened
change_innermost f [] = []
change_innermost f (innermost ∷ outer) = f innermost ∷ outer

abbrev pub with_prologue : Bool → Opened → Opened
with_prologue prologue f = record { prologue = prologue; rest = f.rest; strict = f.strict }

abbrev pub with_rest : Opened → Opened
with_rest f = record { prologue = f.prologue; rest = true; strict = f.strict }

abbrev pub opening : Operands → Operands
opening s = with_functions (change_innermost (with_prologue true) s.functions) s

-- No directive follows.
abbrev pub closing : Operands → Operands
closing s = with_functions (change_innermost (with_prologue false) s.functions) s

abbrev pub with_directive : Directive → Opened → Opened
with_directive d f =
    record { prologue = f.prologue; rest = f.rest; strict = f.strict || (f.prologue && is_use_strict d.written) }

-- A function with a rest parameter does not say "use strict" (15.2.1).
abbrev pub directive_errors : Directive → List Opened → Errors
directive_errors d [] = no_errors
directive_errors d (f ∷ outer) =
    if f.prologue && (f.rest && is_use_strict d.written) then an_early (early.UseStrictInBody, d.at) else no_errors

-- a statement, which is this directive if it can be one
abbrev pub directing : Option Directive → Operands → Operands
directing None s = closing s
directing (Some d) s =
    noting (directive_errors d s.functions) (with_functions (change_innermost (with_directive d) s.functions) s)

-- ---- what is told of the uppermost entries

abbrev pub errors_of_first : (Entry → Errors) → List Entry → Errors
errors_of_first errors [] = no_errors
errors_of_first errors (top ∷ below) = errors top

abbrev pub proto_errors : Entry → Errors
proto_errors entry = if entry.proto then a_profile (profile.Proto, entry.operand.at) else no_errors

-- the place of the operator is that of the entry below its operand
abbrev pub place_below : List Entry → Option ℕ
place_below (top ∷ below ∷ more) = Some below.operand.at
place_below _ = None

abbrev pub operator_errors : UnaryOperator → List Entry → Errors
operator_errors operator [] = no_errors
operator_errors operator (top ∷ below) =
    elim (place_below (top ∷ below)) [ None ↦ no_errors | Some at ↦ unary_errors at operator top.operand ]

abbrev pub directing_by : List Entry → Operands → Operands
directing_by [] s = s
directing_by (top ∷ below) s = directing (directive_by top.operand) s

-- ---- events

-- a node of this kind begins
abbrev pub begins : NodeKind → Operands → Operands
begins kind.Statement s = closing s
begins kind.Loop s = closing s
begins kind.Switch s = closing s
begins kind.Label s = closing s
begins kind.Body s = opening s
begins _ s = s

abbrev pub begun_function : Opened
begun_function = record { prologue = false; rest = false; strict = false }

-- a function begins, as a node of this kind
abbrev pub opened : NodeKind → (at : ℕ) → Operands → Operands
opened node at s = pushed (plain at another) (with_functions (begun_function ∷ (begins node s).functions) s)

abbrev pub happens : Operands → Event → Operands
happens s (Placed (tell.Begin kind) at) = pushed (plain at another) (begins kind s)
happens s (Placed (tell.Open node kind) at) = opened node at s
happens s (Placed tell.Close end) = with_functions (drop 1 s.functions) s
happens s (Placed tell.Rest at) = with_functions (change_innermost with_rest s.functions) s
happens s (Plain (tell.End kind)) = popped s
happens s (Plain tell.Join) = popped s
happens s (Plain tell.Argument) = popped s
happens s (Plain (tell.Node shape)) = changed (as_node shape) s
happens s (Plain tell.Parentheses) = with_entries (enclosed s.entries) s
happens s (Named tell.Name at name) = pushed (plain at (a_name at name)) s
happens s (Placed tell.This at) = pushed (plain at another) s
happens s (Placed tell.NewTarget at) = pushed (plain at another) s
happens s (Placed tell.Literal at) = pushed (plain at another) s
happens s (Placed tell.Octal at) = noting (octal_errors true at) (pushed (plain at another) s)
happens s (Written tell.Text at written octal) = noting (octal_errors octal at) (pushed (plain at (a_text written)) s)
happens s (Plain (tell.Target pattern)) =
    noting (errors_of_first (λ top. target_errors pattern top.operand) s.entries) s
happens s (Plain (tell.Unary operator)) = noting (operator_errors operator s.entries) s
happens s (Plain tell.Directive) = directing_by s.entries s
happens s (Plain tell.Member) = changed (as_tailed member) s
happens s (Plain tell.Call) = changed (as_tailed call) s
happens s (Plain tell.Chain) = changed (as_tailed chained) s
happens s (Texted tell.WordKey word) = changed (as_marked (is_proto word)) s
happens s (Written tell.TextKey at written octal) =
    noting (octal_errors octal at) (changed (as_marked (is_proto (text_value written))) s)
happens s (Placed tell.OctalKey at) = noting (octal_errors true at) s
happens s (Plain tell.Valued) = noting (errors_of_first proto_errors s.entries) s
happens s _ = s

abbrev pub after : Operands → List Event → Operands
after s [] = s
after s (e ∷ more) = after (happens s e) more

-- the script alone
abbrev pub begun : Operands
begun = record { entries = []; functions = begun_function ∷ []; early = None; profile = None }

-- whether the script says "use strict"
abbrev pub says_strict : List Opened → Bool
says_strict [] = false
says_strict (f ∷ outer) = f.strict

abbrev pub is_strict : Operands → Bool
is_strict s = says_strict s.functions

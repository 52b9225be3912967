-- The labels that are open, and where jumps lead, told by the events of a source (ECMA-262, 8.3).
use Rattle.std.specs.Prelude.{ℕ, Bool, true, false, ◌+◌, ◌-◌, ◌||◌, nat_lt, if◌then◌else◌, List, [], ◌∷◌, ◌++◌, map}
use Rattle.std.specs.Prelude.{drop, Option, Some, None}
use Rattle.hz_tree.specs.declared.early.EarlyKind.{EarlyKind}
use Rattle.hz_tree.specs.declared.early.EarlyKind.TheVariants as early
use Rattle.hz_tree.specs.declared.signal.Jump.{Jump}
use Rattle.hz_tree.specs.declared.signal.Jump.TheVariants as jump
use Rattle.hz_tree.specs.declared.signal.NodeKind.{NodeKind}
use Rattle.hz_tree.specs.declared.signal.NodeKind.TheVariants as kind
use Rattle.hz_tree.specs.declared.signal.Signal.TheVariants as tell
use Rattle.hz_tree.specs.errors.Jumps.{bad_jump}
use Rattle.hz_tree.specs.errors.Scopes.{occurs}
use Rattle.hz_tree.specs.sources.EarlyErrors.{order_of_early}
use Rattle.hz_tree.specs.tokens.Text.{Text}
use Rattle.hz_tree.specs.grammar.Signals.{Event, Plain, Placed, Texted}
use Rattle.hz_errors.specs.Found.{noted}

-- a label whose statement has begun and has not ended
pub record OpenLabel : Type 0 where
  pub name : Text
  pub on_loop : Bool  -- that statement is a loop, with further labels before it or without

-- what is open in a function, or in the script outside of functions
pub record OpenBody : Type 0 where
  pub fresh : List Text  -- the labels whose statement has not begun, the innermost first
  pub labels : List OpenLabel  -- the labels round them, the innermost first
  pub loops : ℕ
  pub switches : ℕ

pub record Labelling : Type 0 where
  pub begun : ℕ  -- the place of the statement that began last
  pub body : OpenBody  -- of the innermost function
  pub outer : List OpenBody  -- of the functions round it, the innermost first
  pub least : Option (EarlyKind × ℕ)

abbrev pub nothing_open : OpenBody
nothing_open = record { fresh = []; labels = []; loops = 0; switches = 0 }

-- ---- where jumps lead

abbrev pub names : List OpenLabel → List Text
names labels = map (λ l. l.name) labels

abbrev pub loop_names : List OpenLabel → List Text
loop_names [] = []
loop_names (l ∷ outer) = if l.on_loop then l.name ∷ loop_names outer else loop_names outer

abbrev pub is_open : Text → OpenBody → Bool
is_open name body = occurs name (body.fresh ++ names body.labels)

-- 8.3.2 and 8.3.3: whether a jump with this label, or with none, leads somewhere
abbrev pub leads : Jump → Option Text → OpenBody → Bool
leads jump.Break None body = nat_lt 0 body.loops || nat_lt 0 body.switches
leads jump.Break (Some name) body = is_open name body
leads jump.Continue None body = nat_lt 0 body.loops
leads jump.Continue (Some name) body = occurs name (loop_names body.labels)

-- ---- events

abbrev pub labelled : (on_loop : Bool) → List Text → List OpenLabel
labelled on_loop fresh = map (λ name. record { name = name; on_loop = on_loop }) fresh

-- the statement of the fresh labels begins
abbrev pub settled : (on_loop : Bool) → OpenBody → OpenBody
settled on_loop body = record {
  fresh = [];
  labels = labelled on_loop body.fresh ++ body.labels;
  loops = body.loops;
  switches = body.switches;
}

abbrev pub in_loop : OpenBody → OpenBody
in_loop body = record body { loops = body.loops + 1 }

abbrev pub in_switch : OpenBody → OpenBody
in_switch body = record body { switches = body.switches + 1 }

-- a node begins
abbrev pub enters : NodeKind → (at : ℕ) → Labelling → Labelling
enters kind.Statement at s = record s { begun = at; body = settled false s.body }
enters kind.Expression at s = record s { begun = at; body = settled false s.body }
enters kind.Loop at s = record s { begun = at; body = in_loop (settled true s.body) }
enters kind.Switch at s = record s { begun = at; body = in_switch (settled false s.body) }
enters kind.Label at s = record s { begun = at }
enters _ at s = s

-- the innermost label ends
abbrev pub without_label : OpenBody → OpenBody
without_label body = elim body.fresh [
  | [] ↦ record body { labels = drop 1 body.labels }
  | name ∷ outer ↦ record body { fresh = outer }
]

-- a node ends
abbrev pub leaves : NodeKind → Labelling → Labelling
leaves kind.Loop s = record s { body = record s.body { loops = s.body.loops - 1 } }
leaves kind.Switch s = record s { body = record s.body { switches = s.body.switches - 1 } }
leaves kind.Label s = record s { body = without_label s.body }
leaves _ s = s

abbrev pub opens : Labelling → Labelling
opens s = record s { body = nothing_open; outer = settled false s.body ∷ s.outer }

abbrev pub closes : Labelling → Labelling
closes s = elim s.outer [ [] ↦ s | body ∷ outer ↦ record s { body = body; outer = outer } ]

-- 8.3.1: a label does not stand in a statement with the same label
abbrev pub labels : Text → Labelling → Labelling
labels name s = record s {
  body = record s.body { fresh = name ∷ s.body.fresh };
  least =
      if is_open name s.body then noted order_of_early ((early.DuplicateLabel, s.begun) ∷ []) s.least else s.least;
}

abbrev pub jumps : Jump → Option Text → Labelling → Labelling
jumps jump label s = record s {
  least =
      if leads jump label s.body then s.least else noted order_of_early ((bad_jump jump, s.begun) ∷ []) s.least;
}

abbrev pub happens : Labelling → Event → Labelling
happens s (Placed (tell.Begin kind) at) = enters kind at s
happens s (Plain (tell.End kind)) = leaves kind s
happens s (Placed (tell.Open node kind) at) = opens s
happens s (Placed tell.Close end) = closes s
happens s (Texted tell.Label name) = labels name s
happens s (Plain (tell.Jump jump)) = jumps jump None s
happens s (Texted (tell.JumpTo jump) name) = jumps jump (Some name) s
happens s _ = s

abbrev pub after : Labelling → List Event → Labelling
after s [] = s
after s (e ∷ more) = after (happens s e) more

abbrev pub begun : Labelling
begun = record { begun = 0; body = nothing_open; outer = []; least = None }

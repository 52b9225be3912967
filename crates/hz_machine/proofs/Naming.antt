-- Rows with names.
use Rattle.std.proofs.Common.{◌≡◌, ◌∙◌, ℕ, List, sym, ap, subst}
use Rattle.std.specs.Prelude.{Option, Some, Result}
use Rattle.hz_value.specs.declared.values.Value.{Value}
use Rattle.hz_value.specs.operators.Computed.{Computed, Gives, and_then}
use Rattle.hz_value.specs.operators.Contents.{Text}
use Rattle.hz_value.specs.world.Globals.{read_global, read_found, read_held, resolved}
use Rattle.hz_value.specs.world.World.{Line, type_of_resolved}
use Rattle.hz_value.specs.system.Acts.{Next}
use Rattle.hz_ops.specs.declared.tested.TextInto.{TextInto}
use Rattle.hz_ops.specs.declared.op.Operand.{Operand}
use Rattle.hz_ops.specs.code.Activations.{Program, Activation}
use Rattle.hz_ops.specs.code.Operands.{text_into}
use Rattle.hz_ops.specs.code.Effects.{tested_to, gives, gives_value}
use Rattle.hz_ops.specs.code.Rows.{text_row}
use Rattle.hz_machine.specs.declared.act.Act.{Act}
use Rattle.hz_machine.specs.declared.globals.Slot.{Slot}
use Rattle.hz_machine.specs.Kept.{KeptWorld, world_of}
use Rattle.hz_machine.specs.Known.{IsGlobal}
use Rattle.hz_machine.specs.Effects.{Follows}

-- a row whose operands and text are there does what is done with them
module _ (p : Program) (a : Activation) (old : KeptWorld) (os : List Operand) where
  pub text_rowed : {E : Type 0} (go : List Line → ℕ → List ℕ → Next Activation) (o : TextInto) (t : List ℕ)
      (result : Result Act E) (a1 : Activation) (new : KeptWorld) →
      text_into a.registers os ≡ Some o → p.text o.text ≡ Some t →
      Follows result a1 new (λ lines. go lines o.to t) →
      Follows result a1 new (λ lines. text_row (go lines) p a (world_of lines old) os)
  text_rowed go o t result a1 new there text h =
      subst (λ found. Follows result a1 new
      (λ lines. tested_to a (world_of lines old) found
      (λ o1. tested_to a (world_of lines old) (p.text o1.text) (λ t1. go lines o1.to t1)))) (sym there)
      (subst (λ found. Follows result a1 new
      (λ lines. tested_to a (world_of lines old) found (λ t1. go lines o.to t1))) (sym text) h)

-- a row whose operands are there does what is done with its text
module _ (p : Program) (a : Activation) (old : KeptWorld) (os : List Operand) where
  pub text_met : {E : Type 0} (go : List Line → ℕ → List ℕ → Next Activation) (o : TextInto)
      (result : Result Act E) (a1 : Activation) (new : KeptWorld) →
      text_into a.registers os ≡ Some o →
      Follows result a1 new (λ lines. tested_to a (world_of lines old) (p.text o.text) (λ t. go lines o.to t)) →
      Follows result a1 new (λ lines. text_row (go lines) p a (world_of lines old) os)
  text_met go o result a1 new there h =
      subst (λ found. Follows result a1 new
      (λ lines. tested_to a (world_of lines old) found
      (λ o1. tested_to a (world_of lines old) (p.text o1.text) (λ t1. go lines o1.to t1)))) (sym there) h

-- the same of its text
module _ (p : Program) (a : Activation) (old : KeptWorld) where
  pub with_text : {E : Type 0} (go : List Line → List ℕ → Next Activation) (id : ℕ) (t : List ℕ)
      (result : Result Act E) (a1 : Activation) (new : KeptWorld) → p.text id ≡ Some t →
      Follows result a1 new (λ lines. go lines t) →
      Follows result a1 new (λ lines. tested_to a (world_of lines old) (p.text id) (go lines))
  with_text go id t result a1 new text h =
      subst (λ found. Follows result a1 new (λ lines. tested_to a (world_of lines old) found (go lines))) (sym text) h

-- ---- what was met

module _ (p : Program) (a : Activation) (old : KeptWorld) (id next : ℕ) where
  -- a global that was met is read
  pub known_read : (slot : Slot) (to : ℕ) → IsGlobal p old id slot → (lines : List Line) (x : Next Activation) →
      ((name : List ℕ) → x ≡ gives_value next a (world_of lines old) to
      (and_then (read_held slot.value) (resolved name))) →
      x ≡ tested_to a (world_of lines old) (p.text id)
      (λ name. gives_value next a (world_of lines old) to (read_global old.globals name))
  known_read slot to known lines x h =
      h known.name
      ∙ ap (λ f. gives_value next a (world_of lines old) to (and_then (read_found known.name f) (resolved known.name)))
      (sym known.found)
      ∙ ap (λ f. tested_to a (world_of lines old) f
      (λ name. gives_value next a (world_of lines old) to (read_global old.globals name))) (sym known.there)

-- the type of a name that is resolved so
pub typed : {E : Type 0} (result : Result Act E) (a a1 : Activation) (old new : KeptWorld) (next to : ℕ)
    (found : Computed (Option Value)) (v : Option Value) → found ≡ Gives v →
    Follows result a1 new (λ lines. gives next a (world_of lines old) to (Gives (Text (type_of_resolved (world_of lines old) v)))) →
    Follows result a1 new
    (λ lines. gives next a (world_of lines old) to
    (and_then (and_then found (λ x. Gives (type_of_resolved (world_of lines old) x))) (λ t. Gives (Text t))))
typed result a a1 old new next to found v is h =
    subst (λ f. Follows result a1 new
    (λ lines. gives next a (world_of lines old) to
    (and_then (and_then f (λ x. Gives (type_of_resolved (world_of lines old) x))) (λ t. Gives (Text t))))) (sym is) h

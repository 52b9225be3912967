-- What comes of an operator without a result.
use Rattle.std.proofs.Common.{◌≡◌, ℕ, List, ap, ◌∙◌, sym}
use Rattle.std.specs.Prelude.{Result, Ok, Err, IfOk, Bool}
use Rattle.hz_value.specs.operators.Computed.{Computed, Gives, and_then}
use Rattle.hz_value.specs.operators.Contents.{Content, Boolean, Text}
use Rattle.hz_value.specs.world.World.{Line}
use Rattle.hz_operators.specs.declared.halt.Halt.{Halt}
use Rattle.hz_operators.specs.declared.halt.Halt.TheVariants as halt
use Rattle.hz_operators.specs.declared.halt.TextHalt.{TextHalt}
use Rattle.hz_operators.specs.declared.halt.TextHalt.TheVariants as text_halt
use Rattle.hz_operators.specs.Outcomes.{halted, Halted}
use Rattle.hz_ops.specs.code.Activations.{Activation}
use Rattle.hz_ops.specs.code.Effects.{gives}
use Rattle.hz_machine.specs.declared.act.Act.{Act}
use Rattle.hz_machine.specs.Frames.{next_of}
use Rattle.hz_machine.specs.Kept.{KeptWorld, world_of}
use Rattle.hz_machine.specs.Effects.{Follows, Stops, StopsText}

gives_stop : (act : Act) (cause : Halt) (old new : KeptWorld) (c : Computed Content) → c ≡ halted cause →
    Stops act cause old new → (next to : ℕ) (a : Activation) (lines : List Line) →
    next_of act a (world_of lines new) ≡ gives next a (world_of lines old) to c
gives_stop act halt.Symbol old new c e h next to a lines =
    h a lines ∙ ap (gives next a (world_of lines old) to) (sym e)
gives_stop act (halt.Leaves reason) old new c e h next to a lines =
    h a lines ∙ ap (gives next a (world_of lines old) to) (sym e)

gives_text_stop : (act : Act) (cause : TextHalt) (old new : KeptWorld) (c : Computed Content) → Halted cause c →
    StopsText act cause old new → (next to : ℕ) (a : Activation) (lines : List Line) →
    next_of act a (world_of lines new) ≡ gives next a (world_of lines old) to c
gives_text_stop act (text_halt.Halt cause) old new c e h next to a lines =
    gives_stop act cause old new c e h next to a lines
gives_text_stop act text_halt.Memory old new c e h next to a lines = absurd h

-- the act of an operator without a result is that of the row
module _ (old new : KeptWorld) where
  pub given : (cause : Halt) {E : Type 0} (result : Result Act E) (c : Computed Content) (next to : ℕ)
      (a : Activation) → c ≡ halted cause → IfOk result (λ act. Stops act cause old new) →
      Follows result a new (λ lines. gives next a (world_of lines old) to c)
  given cause (Ok act) c next to a e h = λ lines. gives_stop act cause old new c e h next to a lines
  given cause (Err m) c next to a e h = tt

  pub given_text : (cause : TextHalt) {E : Type 0} (result : Result Act E) (c : Computed Content) (next to : ℕ)
      (a : Activation) → Halted cause c → IfOk result (λ act. StopsText act cause old new) →
      Follows result a new (λ lines. gives next a (world_of lines old) to c)
  given_text cause (Ok act) c next to a e h = λ lines. gives_text_stop act cause old new c e h next to a lines
  given_text cause (Err m) c next to a e h = tt

pub boolean_halted : (cause : Halt) (c : Computed Bool) → c ≡ halted cause →
    and_then c (λ b. Gives (Boolean b)) ≡ halted cause
boolean_halted halt.Symbol c e = ap (λ x. and_then x (λ b. Gives (Boolean b))) e
boolean_halted (halt.Leaves reason) c e = ap (λ x. and_then x (λ b. Gives (Boolean b))) e

pub text_halted : (cause : TextHalt) (c : Computed (List ℕ)) → Halted cause c →
    Halted cause (and_then c (λ t. Gives (Text t)))
text_halted (text_halt.Halt halt.Symbol) c e = ap (λ x. and_then x (λ t. Gives (Text t))) e
text_halted (text_halt.Halt (halt.Leaves reason)) c e = ap (λ x. and_then x (λ t. Gives (Text t))) e
text_halted text_halt.Memory c e = tt

-- Steps of the machine are steps of the system.
use Rattle.std.proofs.Common.{◌≡◌, ℕ, zero, suc, List, [], ◌∷◌, map, refl, ap, ◌∙◌, sym, Some, None, Option, Vec, arith, Global}
use Rattle.std.specs.Prelude.{slice_index_or, option_map, Result, Ok, Err, IfOk}
use Rattle.hz_value.specs.declared.values.Value.{Value}
use Rattle.hz_value.specs.declared.values.Value.TheVariants as value
use Rattle.hz_value.specs.world.Objects.{Plain, blank}
use Rattle.hz_value.specs.world.World.{Line}
use Rattle.hz_value.specs.system.Acts.{next_map}
use Rattle.hz_value.specs.system.Routines.{RoutineActivation, entered, routine_step}
use Rattle.hz_value.specs.system.System as system
use Rattle.hz_value.specs.system.Step.{moved, call_to, frame_of, frame_for}
use Rattle.hz_ops.specs.code.Activations.{Program, Activation}
use Rattle.hz_ops.specs.code.Steps.{code_meaning, code_step}
use Rattle.hz_machine.specs.declared.act.Act.{Act}
use Rattle.hz_machine.specs.declared.act.Act.TheVariants as act
use Rattle.hz_machine.specs.declared.routine.RoutineAct.{RoutineAct}
use Rattle.hz_machine.specs.declared.errors.MadeError.{MadeError}
use Rattle.hz_machine.specs.declared.machine.Answer.{Answer}
use Rattle.hz_machine.specs.declared.machine.Status.TheVariants as status
use Rattle.hz_machine.specs.Errors.{object_of}
use Rattle.hz_machine.specs.Frames.{next_of}
use Rattle.hz_machine.specs.Kept.{KeptWorld, world_of}
use Rattle.hz_machine.specs.Routines.{next_of_routine}
use Rattle.hz_machine.specs.Machines.{RunState, machine_of, system_of, Steps, Acts, script_moved, routine_moved}
use Rattle.hz_machine.specs.Machines.{called, routine_number}

-- ---- steps

module _ (p : Program) (k : KeptWorld) (a : Activation) where
  pub script_steps : (k1 : KeptWorld) (a1 : Activation) (act : Act) (answer : Answer) (new : RunState) →
      ((lines : List Line) → next_of act a1 (world_of lines k1) ≡ code_step p a (world_of lines k)) →
      Acts (script_moved k1 a1 act) answer new → Steps p (machine_of k a None status.Running) answer new
  script_steps k1 a1 act answer new h acts = record {
    system = λ events lines.
        ap (λ n. moved (code_meaning p) (system_of events lines (machine_of k a None status.Running)) 0 []
        (next_map (system.Source system.Script) n)) (sym (h lines))
        ∙ acts.system p (system_of events lines (machine_of k a None status.Running)) lines;
    tells = acts.tells;
    fine = acts.fine;
    awake = acts.awake;
  }

  pub routine_steps : (r : RoutineActivation) (k1 : KeptWorld) (r1 : RoutineActivation) (act : RoutineAct)
      (answer : Answer) (new : RunState) →
      ((lines : List Line) → next_of_routine act r1 (world_of lines k1) ≡ routine_step 0 r (world_of lines k)) →
      Acts (routine_moved k1 a r1 act) answer new → Steps p (machine_of k a (Some r) status.Running) answer new
  routine_steps r k1 r1 act answer new h acts = record {
    system = λ events lines.
        ap (λ n. moved (code_meaning p) (system_of events lines (machine_of k a (Some r) status.Running)) 0
        (system.Source system.Script a ∷ []) (next_map (system.Routine system.Called) n)) (sym (h lines))
        ∙ acts.system p (system_of events lines (machine_of k a (Some r) status.Running)) lines;
    tells = acts.tells;
    fine = acts.fine;
    awake = acts.awake;
  }

-- ---- calls

-- an error cannot be called
no_frame_behind : (p : Program) (es : List MadeError) (n o : ℕ) (this : Value) (arguments : List Value) →
    frame_for (code_meaning p) (slice_index_or (map object_of es) n (blank None Plain)).kind o this arguments ≡ None
no_frame_behind p [] n o this arguments = refl
no_frame_behind p (e ∷ es) zero o this arguments = refl
no_frame_behind p (e ∷ es) (suc n) o this arguments = no_frame_behind p es n o this arguments

abbrev frame_called : Value → List Value → Option ℕ → Option (system.Frame Activation)
frame_called this arguments found = option_map (λ n. system.Routine system.Called (entered n (this ∷ arguments))) found

frame_at : (p : Program) (k : KeptWorld) (lines : List Line) (o : ℕ) (this : Value) (arguments : List Value) →
    frame_of (code_meaning p) (world_of lines k) (value.Object o) this arguments
    ≡ frame_called this arguments (routine_number (value.Object o))
frame_at p k lines zero this arguments = refl
frame_at p k lines (suc zero) this arguments = refl
frame_at p k lines (suc (suc zero)) this arguments = refl
frame_at p k lines (suc (suc (suc zero))) this arguments = refl
frame_at p k lines (suc (suc (suc (suc zero)))) this arguments = refl
frame_at p k lines (suc (suc (suc (suc (suc zero))))) this arguments = refl
frame_at p k lines (suc (suc (suc (suc (suc (suc zero)))))) this arguments = refl
frame_at p k lines (suc (suc (suc (suc (suc (suc (suc n))))))) this arguments =
    no_frame_behind p k.errors n (suc (suc (suc (suc (suc (suc (suc n))))))) this arguments
    ∙ sym (ap (frame_called this arguments) (let e :
    routine_number (value.Object (suc (suc (suc (suc (suc (suc (suc n)))))))) ≡ None = grind arith in e))

frame_is : (p : Program) (k : KeptWorld) (lines : List Line) (callee this : Value) (arguments : List Value) →
    frame_of (code_meaning p) (world_of lines k) callee this arguments
    ≡ frame_called this arguments (routine_number callee)
frame_is p k lines (value.Object o) this arguments = frame_at p k lines o this arguments
frame_is p k lines v this arguments = refl

pub call_acts : (k : KeptWorld) (a : Activation) (callee this : Value) (arguments : Vec Value Global)
    (answer : Answer) (new : RunState) → Acts (called k a this arguments.items (routine_number callee)) answer new →
    Acts (script_moved k a (act.Call callee this arguments)) answer new
call_acts k a callee this arguments answer new acts = record {
  system = λ p s lines.
      ap (call_to (code_meaning p) s 0 (system.Source system.Script a ∷ []) (world_of lines k))
      (frame_is p k lines callee this arguments.items) ∙ acts.system p s lines;
  tells = acts.tells;
  fine = acts.fine;
  awake = acts.awake;
}

-- ---- answers

-- what holds of an answer where there is one
pub on_ok : {A E : Type 0} {P Q : A → Type 0} (r : Result A E) → ((a : A) → P a → Q a) → IfOk r P → IfOk r Q
on_ok (Ok a) h p = h a p
on_ok (Err e) h p = tt

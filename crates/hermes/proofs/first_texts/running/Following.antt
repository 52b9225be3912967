-- A run of code, followed an instruction at a time, and what went out.
use Rattle.std.proofs.Common.{◌≡◌, ℕ, ◌+◌, List, [], ◌++◌, map, Err, refl, sym, ap, subst, ◌∙◌, append-nil}
use Rattle.hz_io.specs.Contents.{Told}
use Rattle.hz_ops.specs.Activations.{Module, Activation, entered, Act, Print, Return, Leave, Bad, Beyond, Next, Goes}
use Rattle.hz_ops.specs.Activations.{Does}
use Rattle.hz_ops.specs.Step.{cstep}
use Rattle.hz_ops.specs.Runs as run
use Rattle.hz_ops.specs.Runs.{State, System, Running, Ended, Done, LeftFor, BadCode, next_system, system_step, after}
use Rattle.hz_ops.specs.Runs.{start_of, Ends, IsBuilt}
use Rattle.hz_ops.proofs.Running.{after_more}
use Rattle.hermes.specs.declared.first.run.held.Held.{Held}
use Rattle.hermes.specs.declared.first.run.stop.FirstEnd.TheVariants as stop
use Rattle.hermes.specs.declared.first.run.stop.Stop.{Stop}
use Rattle.hermes.specs.declared.first.run.stop.Stop.TheVariants.{End, Unbuilt}
use Rattle.hermes.specs.Printing.{Prints, PrintsFront}
use Rattle.hermes.specs.first.Rows.{content_of, activation}
use Rattle.hermes.specs.first.Runs.{EndsWith, IsCut, Reached, Sent, StopsTo}
use Rattle.hermes.proofs.Outputs.{prints_nothing, prints_more, prints_front, prints_whole}

-- ---- steps

abbrev system : List (List ℕ) → State → System
system lines state = record { lines = lines; state = state }

-- the lines of a step come behind those that were there
on_lines : (lines : List (List ℕ)) (n : Next)
    → next_system lines n ≡ record { lines = lines ++ (next_system [] n).lines; state = (next_system [] n).state }
on_lines lines n = by_next n where
  kept : (state : State) → system lines state ≡ system (lines ++ []) state
  kept state = ap (λ ls. system ls state) (sym (append-nil lines))

  by_act : (a : Activation) (act : Act)
      → next_system lines (Does act a)
      ≡ record { lines = lines ++ (next_system [] (Does act a)).lines; state = (next_system [] (Does act a)).state }
  by_act a (Print line) = refl
  by_act a (Return x) = kept (Ended Done)
  by_act a (Leave reason) = kept (Ended (LeftFor reason))
  by_act a Bad = kept (Ended BadCode)
  by_act a Beyond = kept run.Unbuilt

  by_next : (k : Next) → next_system lines k
      ≡ record { lines = lines ++ (next_system [] k).lines; state = (next_system [] k).state }
  by_next (Goes a) = kept (Running a)
  by_next (Does act a) = by_act a act

-- ---- where the run stands

pub begun : (m : Module) (held : List Held) (out : Told) → map content_of held ≡ (entered m 0).registers
    → Reached m 0 held out out
begun m held out e = record {
  steps = 0;
  lines = [];
  here = ap (λ rs. record { lines = []; state = Running (record { function = 0; place = 0; registers = rs }) }) (sym e);
  told = prints_nothing out;
}

-- the system one step on
abbrev step_at : Module → ℕ → List Held → System
step_at m place held = next_system [] (cstep m (activation place held))

one_on : (m : Module) (place : ℕ) (held : List Held) (old now : Told) (r : Reached m place held old now)
    → after m (r.steps + 1) (start_of m)
    ≡ record { lines = r.lines ++ (step_at m place held).lines; state = (step_at m place held).state }
one_on m place held old now r = after_more m r.steps 1 (start_of m) ∙ ap (system_step m) r.here
    ∙ on_lines r.lines (cstep m (activation place held))

pub goes_on : (m : Module) (place next : ℕ) (held held2 : List Held) (old now new : Told) → Reached m place held old now
    → (step_at m place held).state ≡ Running (activation next held2) → Prints now new (step_at m place held).lines
    → Reached m next held2 old new
goes_on m place next held held2 old now new r state got = record {
  steps = r.steps + 1;
  lines = r.lines ++ (step_at m place held).lines;
  here = one_on m place held old now r
      ∙ ap (λ s. record { lines = r.lines ++ (step_at m place held).lines; state = s }) state;
  told = prints_more old now new r.lines (step_at m place held).lines r.told got;
}

pub ends_here : (m : Module) (place : ℕ) (held : List Held) (old now new : Told) (end : run.End)
    → Reached m place held old now
    → step_at m place held ≡ record { lines = []; state = Ended end } → Prints now new [] → EndsWith m old new end
ends_here m place held old now new end r is got = (
  r.lines ++ [],
  record {
    steps = r.steps + 1;
    ended = one_on m place held old now r ∙ ap (λ s. record { lines = r.lines ++ s.lines; state = s.state }) is;
  },
  prints_more old now new r.lines [] r.told got,
)

pub cut_here : (m : Module) (place : ℕ) (held : List Held) (old now new : Told) → Reached m place held old now
    → PrintsFront now new (step_at m place held).lines → IsCut m old new
cut_here m place held old now new r front = (
  r.steps + 1,
  subst (λ s. PrintsFront old new s.lines) (sym (one_on m place held old now r))
      (prints_front old now new r.lines (step_at m place held).lines r.told front),
)

pub cut_before : (m : Module) (place : ℕ) (held : List Held) (old now new : Told) → Reached m place held old now
    → Prints now new [] → IsCut m old new
cut_before m place held old now new r got =
    let all : Prints old new r.lines =
    subst (λ lines. Prints old new lines) (append-nil r.lines) (prints_more old now new r.lines [] r.told got) in (
      r.steps,
      subst (λ lines. PrintsFront old new lines) (sym (ap (λ s. s.lines) r.here))
          (prints_whole old new r.lines all),
    )

pub not_beyond : (m : Module) (place : ℕ) (held : List Held) (old now : Told) → IsBuilt m (start_of m)
    → Reached m place held old now
    → step_at m place held ≡ record { lines = []; state = run.Unbuilt } → ⊥
not_beyond m place held old now built r is =
    built.never (r.steps + 1) (ap (λ s. s.state) (one_on m place held old now r) ∙ ap (λ s. s.state) is)

-- the answer of the last instruction is that of the run
pub stops_here : (m : Module) (place : ℕ) (held held2 : List Held) (old now new : Told) (stop : Stop)
    → IsBuilt m (start_of m) → Reached m place held old now
    → Sent (step_at m place held) (Err stop) held2 now new → StopsTo m old new stop
stops_here m place held held2 old now new (End stop.Done) built r sent =
    ends_here m place held old now new Done r sent.0 sent.1
stops_here m place held held2 old now new (End (stop.Left reason)) built r sent =
    ends_here m place held old now new (LeftFor reason) r sent.0 sent.1
stops_here m place held held2 old now new (End stop.BadCode) built r sent =
    ends_here m place held old now new BadCode r sent.0 sent.1
stops_here m place held held2 old now new (End stop.WriteFault) built r sent = cut_here m place held old now new r sent
stops_here m place held held2 old now new (End stop.Memory) built r sent = cut_before m place held old now new r sent
stops_here m place held held2 old now new Unbuilt built r sent = not_beyond m place held old now built r sent

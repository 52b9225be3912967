-- Whole runs of code: the lines that they print, and how they end.
use Rattle.std.specs.Prelude.{◌≡◌, ℕ, zero, suc, List, [], ◌∷◌, ◌++◌}
use Rattle.hz_value.specs.declared.leaving.Left.{Left}
use Rattle.hz_ops.specs.Activations.{Module, Activation, entered, Act, Print, Return, Leave, Bad, Beyond, Next, Goes}
use Rattle.hz_ops.specs.Activations.{Does}
use Rattle.hz_ops.specs.Step.{cstep}

-- the script returned, the run was left for a reason, or it met bad code
pub data End : Type 0 where
  Done : End
  LeftFor : (reason : Left) → End
  BadCode : End

-- an activation runs, the run has ended, or it came to what the rows that there are so far do not say
pub data State : Type 0 where
  Running : (activation : Activation) → State
  Ended : (end : End) → State
  Unbuilt : State

-- the lines printed so far, in order, each of them in UTF-16 units
pub record System : Type 0 where
  pub lines : List (List ℕ)
  pub state : State

-- these lines are printed, and the activation runs
abbrev pub running : List (List ℕ) → Activation → System
running lines a = record { lines = lines; state = Running a }

-- the system does the act of an activation that then stands as given
abbrev pub acted : List (List ℕ) → Activation → Act → System
acted lines a (Print line) = running (lines ++ line ∷ []) a
acted lines a (Return x) = record { lines = lines; state = Ended Done }
acted lines a (Leave reason) = record { lines = lines; state = Ended (LeftFor reason) }
acted lines a Bad = record { lines = lines; state = Ended BadCode }
acted lines a Beyond = record { lines = lines; state = Unbuilt }

abbrev pub next_system : List (List ℕ) → Next → System
next_system lines (Goes a) = running lines a
next_system lines (Does act a) = acted lines a act

-- one step from a state in which these lines are printed; a run that has ended stays as it is
abbrev pub stepped : Module → List (List ℕ) → State → System
stepped m lines (Running a) = next_system lines (cstep m a)
stepped m lines (Ended end) = record { lines = lines; state = Ended end }
stepped m lines Unbuilt = record { lines = lines; state = Unbuilt }

abbrev pub system_step : Module → System → System
system_step m s = stepped m s.lines s.state

-- the system after n steps
abbrev pub after : Module → ℕ → System → System
after m zero s = s
after m (suc n) s = after m n (system_step m s)

-- nothing is printed yet, and the script is entered
abbrev pub start_of : Module → System
start_of m = running [] (entered m 0)

-- the run from s ends so, and has then printed these lines
pub record Ends (m : Module) (s : System) (lines : List (List ℕ)) (end : End) : Type 0 where
  pub steps : ℕ
  pub ended : after m steps s ≡ record { lines = lines; state = Ended end }

-- the run from s never comes to what the rows that there are so far do not say
pub record IsBuilt (m : Module) (s : System) : Type 0 where
  pub never : (n : ℕ) → (after m n s).state ≡ Unbuilt → ⊥

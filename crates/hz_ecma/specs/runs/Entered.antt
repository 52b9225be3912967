-- Which functions of a source a run enters.
use Rattle.std.specs.Prelude.{◌≡◌, ℕ, zero, suc, ◌==◌, if◌then◌else◌, List, [], ◌∷◌, ◌++◌, Option, Some, None}
use Rattle.std.specs.List.{list_any}
use Rattle.hz_value.specs.system.System.{Meaning, Frame, Source, Routine, State, Running, Ended, Ending, System}
use Rattle.hz_value.specs.system.Runs.{after}
use Rattle.hz_value.specs.system.Step.{system_step}

-- the function of the frame at the top, where `number` is the number of an activation's function
abbrev pub function_of : {A : Type 0} → (number : A → ℕ) → Frame A → Option ℕ
function_of number (Source role a) = Some (number a)
function_of number (Routine role r) = None

abbrev pub function_at_top : {A : Type 0} → (number : A → ℕ) → State A → Option ℕ
function_at_top number (Running top below) = function_of number top
function_at_top number (Ended e) = None

-- each function once, in the order in which they came
abbrev pub noted : List ℕ → Option ℕ → List ℕ
noted seen None = seen
noted seen (Some k) = if list_any (λ j. j == k) seen then seen else seen ++ k ∷ []

-- the functions whose activations stood at the top before each of n steps: one that is entered stands there next
abbrev pub entered_within : {A : Type 0} → (number : A → ℕ) → Meaning A → ℕ → System A → List ℕ → List ℕ
entered_within number m zero s seen = seen
entered_within number m (suc n) s seen =
    entered_within number m n (system_step m s) (noted seen (function_at_top number s.state))

-- the run from s, up to its end, enters these functions, in the order of first entry
pub record Enters {A : Type 0} (number : A → ℕ) (m : Meaning A) (s : System A) (functions : List ℕ) : Type 0 where
  pub steps : ℕ
  pub ending : Ending
  pub state : (after m steps s).state ≡ Ended ending
  pub are : entered_within number m steps s [] ≡ functions

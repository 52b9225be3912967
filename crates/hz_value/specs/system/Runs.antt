-- Whole runs: their events, and how they end.
use Rattle.std.specs.Prelude.{◌≡◌, ◌≤◌, ℕ, zero, suc, List, [], ◌++◌}
use Rattle.hz_value.specs.world.World.{World}
use Rattle.hz_value.specs.system.Acts.{Next, Goes, Does}
use Rattle.hz_value.specs.system.System.{Meaning, Source, Script, Event, Ending, Running, Ended, System}
use Rattle.hz_value.specs.system.Step.{system_step}

-- the script is entered in this world
abbrev pub start : {A : Type 0} → A → World → System A
start script w = record { world = w; events = []; suspended = []; state = Running (Source Script script) [] }

-- the system after n steps
abbrev pub after : {A : Type 0} → Meaning A → ℕ → System A → System A
after m zero s = s
after m (suc n) s = after m n (system_step m s)

-- the run from s ends so, behind these events
pub record Ends {A : Type 0} (m : Meaning A) (s : System A) (events : List Event) (ending : Ending) : Type 0 where
  pub steps : ℕ
  pub state : (after m steps s).state ≡ Ended ending
  pub events_then : (after m steps s).events ≡ events

-- ---- what holds of every run

-- the events of the second are those of the first, and perhaps more
pub record Continues {A : Type 0} (first second : System A) : Type 0 where
  pub more : List Event
  pub events : second.events ≡ first.events ++ more

abbrev pub world_behind : {A : Type 0} → Next A → World
world_behind (Goes a w) = w
world_behind (Does act a w) = w

-- no step of the source's functions leaves more turns than there were
pub record TakesTurns {A : Type 0} (m : Meaning A) : Type 0 where
  pub by : (a : A) (w : World) → (world_behind (m.step a w)).turns ≤ w.turns

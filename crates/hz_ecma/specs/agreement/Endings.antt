-- Runs that end alike: the one exactly where the other does, with the same events.
use Rattle.std.specs.Prelude.{◌≡◌, ℕ, ⊤}
use Rattle.hz_value.specs.system.System.{Meaning, Ending, Done, Uncaught, LeftFor, TurnsSpent, Ended, System}
use Rattle.hz_value.specs.system.Runs.{after}
use Rattle.hz_value.specs.world.Store.{Store}
use Rattle.hz_ecma.specs.agreement.Contents.{SameValue}
use Rattle.hz_ecma.specs.agreement.Layouts.{Layout}
use Rattle.hz_ecma.specs.agreement.Agreement.{Matching, Agree}

-- bad code is the same as nothing
abbrev pub SameEnding : Store → Store → Ending → Ending → Type 0
SameEnding s s1 Done Done = ⊤
SameEnding s s1 (Uncaught v) (Uncaught v1) = SameValue s s1 v v1
SameEnding s s1 (LeftFor reason) (LeftFor reason1) = reason ≡ reason1
SameEnding s s1 TurnsSpent TurnsSpent = ⊤
SameEnding s s1 e e1 = ⊥

-- both have ended so, behind the same events, in worlds that agree
pub record EndedAlike {A B : Type 0} (layout : Layout) (s : System A) (s1 : System B) : Type 0 where
  pub ending : Ending
  pub other_ending : Ending
  pub state : s.state ≡ Ended ending
  pub other_state : s1.state ≡ Ended other_ending
  pub same : SameEnding s.world.store s1.world.store ending other_ending
  pub events : s.events ≡ s1.events
  pub matching : Matching
  pub agree : Agree layout matching s.world s1.world

-- each of two runs ends where the other one does
pub record EndAlike {A B : Type 0} (layout : Layout) (m : Meaning A) (m1 : Meaning B)
    (s : System A) (s1 : System B) : Type 0 where
  pub to : (n : ℕ) (e : Ending) → (after m n s).state ≡ Ended e
      → (k : ℕ) × EndedAlike layout (after m n s) (after m1 k s1)
  pub from : (n : ℕ) (e : Ending) → (after m1 n s1).state ≡ Ended e
      → (k : ℕ) × EndedAlike layout (after m k s) (after m1 n s1)

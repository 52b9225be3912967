-- Steps and runs that mean something: none of trees is, or ends as, bad code.
use Rattle.std.specs.Prelude.{⊤}
use Rattle.hz_value.specs.system.Acts.{Act, Bad, Next, Goes, Does}
use Rattle.hz_value.specs.system.System.{Ending, BadCode, State, Running, Ended}

abbrev pub IsMeantAct : Act → Type 0
IsMeantAct Bad = ⊥
IsMeantAct act = ⊤

abbrev pub IsMeant : {A : Type 0} → Next A → Type 0
IsMeant (Goes a w) = ⊤
IsMeant (Does act a w) = IsMeantAct act

abbrev pub IsMeantEnding : Ending → Type 0
IsMeantEnding BadCode = ⊥
IsMeantEnding e = ⊤

abbrev pub IsMeantState : {A : Type 0} → State A → Type 0
IsMeantState (Running top below) = ⊤
IsMeantState (Ended e) = IsMeantEnding e

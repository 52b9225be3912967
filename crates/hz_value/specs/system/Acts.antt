-- What a step of an activation does, and what comes back to it.
use Rattle.std.specs.Prelude.{◌≡◌, ℕ, zero, suc, List, Option, ⊤}
use Rattle.hz_value.specs.declared.leaving.Left.{Left}
use Rattle.hz_value.specs.declared.values.Value.{Value}
use Rattle.hz_value.specs.operators.Messages.{Message}
use Rattle.hz_value.specs.operators.Computed.{Computed, Gives, Throws, Leaves}
use Rattle.hz_value.specs.world.World.{World}

-- what comes back to an activation that waits: a completion (ECMA-262, 6.2.4). `Returned` comes to a yield alone,
-- where its generator is to return (27.5.3.4)
pub data Reply : Type 0 where
  Normal : (value : Value) → Reply
  Thrown : (value : Value) → Reply
  Returned : (value : Value) → Reply

-- what an activation asks of the system
pub data Act : Type 0 where
  -- it calls a value (7.3.13)
  Call : (callee this : Value) (arguments : List Value) → Act
  -- it enters a routine: a conversion, an operator or an access to a property that may call functions
  Enter : (routine : ℕ) (values : List Value) → Act
  -- it ends, with its result or with a throw that it does not catch
  Return : (value : Value) → Act
  Throw : (value : Value) → Act
  -- it makes its generator, an object with this prototype, and waits in it (27.5.3.1)
  Start : (prototype : Option ℕ) → Act
  -- it yields from its generator (27.5.3.7)
  Yield : (value : Value) → Act
  -- it resumes the generator with this number by the reply (27.5.3.3, 27.5.3.4)
  Resume : (generator : ℕ) (reply : Reply) → Act
  -- it prints a line, in UTF-16 units and without its newline
  Print : (line : List ℕ) → Act
  -- it wants the next line of the input
  WantLine : Act
  -- it has taken a turn for the return to a loop's head, or a visit; it found no turn left
  Turn : Act
  Spent : Act
  -- it leaves the run
  Leave : (reason : Left) → Act
  -- its code means nothing
  Bad : Act

-- a completion of what was called or entered
abbrev pub IsCompletion : Reply → Type 0
IsCompletion (Returned v) = ⊥
IsCompletion c = ⊤

abbrev pub IsNormal : Reply → Type 0
IsNormal (Normal v) = ⊤
IsNormal c = ⊥

-- the replies that may come to an act: a generator that has not begun is resumed by `next` alone (27.5.3.4)
abbrev pub MayCome : Act → Reply → Type 0
MayCome (Call callee this arguments) c = IsCompletion c
MayCome (Enter routine values) c = IsCompletion c
MayCome (Resume generator reply) c = IsCompletion c
MayCome (Yield v) c = ⊤
MayCome (Start prototype) c = IsNormal c
MayCome WantLine c = IsNormal c
MayCome act c = ⊥

-- one step: the activation goes on, or it does an act; behind either it stands in the world as given
pub data Next (A : Type 0) : Type 0 where
  Goes : (activation : A) (world : World) → Next A
  Does : (act : Act) (activation : A) (world : World) → Next A

-- the same step of an activation that is seen as one of another kind
abbrev pub next_map : {A B : Type 0} → (A → B) → Next A → Next B
next_map see (Goes a w) = Goes (see a) w
next_map see (Does act a w) = Does act (see a) w

abbrev pub turned : {A : Type 0} → A → World → ℕ → Next A
turned a w zero = Does Spent a w
turned a w (suc n) = Does Turn a (record w { turns = n })

-- the return to a loop's head, or a visit: it takes a turn where one is left
abbrev pub take_turn : {A : Type 0} → A → World → Next A
take_turn a w = turned a w w.turns

-- what follows on a conversion or an operator: it goes on with the result, raises the error, or leaves the run
abbrev pub computed_to : {A T : Type 0} → A → World → (T → Next A) → (Message → Next A) → Computed T → Next A
computed_to a w go raise (Gives x) = go x
computed_to a w go raise (Throws m) = raise m
computed_to a w go raise (Leaves reason) = Does (Leave reason) a w

-- ---- the way to the next act

abbrev pub go_on : {A : Type 0} → (A → World → Next A) → Next A → Next A
go_on step (Goes a w) = step a w
go_on step (Does act a w) = Does act a w

-- n steps, or fewer up to an act
abbrev pub run : {A : Type 0} → (A → World → Next A) → ℕ → A → World → Next A
run step zero a w = Goes a w
run step (suc n) a w = go_on (run step n) (step a w)

-- the activation comes to this act, behind which it and the world stand as given
pub record Reaches (A : Type 0) (step : A → World → Next A)
    (a : A) (w : World) (act : Act) (a1 : A) (w1 : World) : Type 0 where
  pub steps : ℕ
  pub by : run step steps a w ≡ Does act a1 w1

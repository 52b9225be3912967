-- A world: all that a run works on but its activations.
use Rattle.std.specs.Prelude.{ℕ, suc, List, Option, Some, None, codes}
use Rattle.hz_value.specs.declared.values.Value.{Value}
use Rattle.hz_value.specs.operators.Messages.{Message}
use Rattle.hz_value.specs.operators.Contents.{Content}
use Rattle.hz_value.specs.operators.Computed.{Computed, Gives, and_then}
use Rattle.hz_value.specs.world.Store.{Store, content_of, value_of, with_content, type_name}
use Rattle.hz_value.specs.world.Errors.{with_error}
use Rattle.hz_value.specs.world.Globals.{Globals, resolve_global}
use Rattle.hz_value.specs.world.Records.{Record, Environment, Binding, put, put_name}

-- a line of the input: its UTF-16 units, or more bytes than a line may have
pub data Line : Type 0 where
  Units : (units : List ℕ) → Line
  TooLong : Line

-- Records and environments have the numbers below their counts. `lines` are those not read yet; `calls` counts the
-- active calls and resumed generators; `mark` is the place in the source of the statement that raised last
pub record World : Type 0 where
  pub store : Store
  pub globals : Globals
  pub records : ℕ → Record
  pub record_count : ℕ
  pub environments : ℕ → Environment
  pub environment_count : ℕ
  pub lines : List Line
  pub turns : ℕ
  pub calls : ℕ
  pub mark : ℕ

abbrev pub content : World → Value → Content
content w v = content_of w.store v

-- a value that is so is kept
abbrev pub keeping : Content → World → World
keeping c w = record w { store = with_content c w.store }

-- goes on with the value that is so, in the world that keeps it
abbrev pub kept_to : {T : Type 0} → World → (Value → World → T) → Content → T
kept_to w go c = go (value_of w.store c) (keeping c w)

-- a throw arises, or the run is left, at this place of the source
abbrev pub marked : ℕ → World → World
marked place w = record w { mark = place }

-- an error of the engine is made, and thrown at this place
abbrev pub raised : ℕ → Message → World → World
raised place m w = marked place (record w { store = with_error m w.store })

-- the result of `typeof` on a global name: `undefined` where the name cannot be resolved (13.5.3)
abbrev pub type_of_resolved : World → Option Value → List ℕ
type_of_resolved w None = codes "undefined"
type_of_resolved w (Some v) = type_name w.store v

abbrev pub type_of_global : World → List ℕ → Computed (List ℕ)
type_of_global w name = and_then (resolve_global w.globals name) (λ v. Gives (type_of_resolved w v))

-- ---- records (9.1.1.1)

-- the binding of a name in a record: None where it has no such name
abbrev pub binding : World → ℕ → List ℕ → Option Binding
binding w r name = (w.records r).bindings name

abbrev pub set_record : ℕ → Record → World → World
set_record r new w = record w { records = put w.records r new }

-- the record that is made gets the next number
abbrev pub with_record : Record → World → World
with_record new w = record w { records = put w.records w.record_count new; record_count = suc w.record_count }

-- InitializeBinding (9.1.1.1.4), and SetMutableBinding (9.1.1.1.5) where the binding is initialised
abbrev pub set_binding : ℕ → List ℕ → Binding → World → World
set_binding r name x w =
    set_record r (record (w.records r) { bindings = put_name (w.records r).bindings name (Some x) }) w

-- ---- environments of code

abbrev pub slot : World → ℕ → ℕ → Option Binding
slot w e i = (w.environments e).slots i

abbrev pub set_environment : ℕ → Environment → World → World
set_environment e new w = record w { environments = put w.environments e new }

abbrev pub with_environment : Environment → World → World
with_environment new w =
    record w { environments = put w.environments w.environment_count new; environment_count = suc w.environment_count }

abbrev pub set_slot : ℕ → ℕ → Binding → World → World
set_slot e i x w =
    set_environment e (record (w.environments e) { slots = put (w.environments e).slots i (Some x) }) w

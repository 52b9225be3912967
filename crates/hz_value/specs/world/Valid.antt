-- Which worlds can be: all numbers are live, no chain of prototypes runs in a circle, and arrays keep the rule on
-- their length (ECMA-262, 10.4.2).
use Rattle.std.specs.Prelude.{◌≡◌, ◌<◌, ℕ, zero, suc, true, false, Bool, List, length, Option, Some, None, slice_get}
use Rattle.std.specs.Prelude.{bytes_eq, codes, IfSome, All, ⊤}
use Rattle.std.specs.List.{IsDistinct}
use Rattle.hz_value.specs.declared.values.Value.{Value}
use Rattle.hz_value.specs.declared.values.Value.TheVariants as value
use Rattle.hz_value.specs.declared.values.Property.{Property}
use Rattle.hz_value.specs.declared.values.Property.TheVariants.{Data, Accessor}
use Rattle.hz_value.specs.world.Objects.{Object, Kind, Array, Function, Entries, length_name}
use Rattle.hz_value.specs.world.Store.{Store, text}
use Rattle.hz_value.specs.world.Records.{Binding}
use Rattle.hz_value.specs.world.World.{World}

-- ---- live numbers

abbrev pub IsLive : Store → Value → Type 0
IsLive s (value.Text n) = n < length s.texts
IsLive s (value.Symbol n) = n < length s.symbols
IsLive s (value.Object n) = n < length s.objects
IsLive s v = ⊤

abbrev pub IsLiveObject : Store → Option ℕ → Type 0
IsLiveObject s o = IfSome o (λ n. n < length s.objects)

abbrev pub IsLiveProperty : Store → Property → Type 0
IsLiveProperty s (Data v writable enumerable configurable) = IsLive s v
IsLiveProperty s (Accessor get set enumerable configurable) = IsLiveObject s get × IsLiveObject s set

-- each property is live, and each key is a number below this one
abbrev pub AreLive : Store → ℕ → Entries → Type 0
AreLive s n entries = All (λ e. (e.0 < n) × IsLiveProperty s e.1) entries

-- a binding that is there and initialised holds a live value
abbrev pub IsLiveBinding : Store → Option Binding → Type 0
IsLiveBinding s b = IfSome b (λ x. IfSome x (λ v. IsLive s v))

-- ---- chains of prototypes

abbrev pub ends_at : (Option ℕ → Bool) → Option Object → Bool
ends_at behind None = true
ends_at behind (Some o) = behind o.prototype

-- the chain from here ends within n objects
abbrev pub ends : ℕ → List Object → Option ℕ → Bool
ends n os None = true
ends zero os (Some o) = false
ends (suc n) os (Some o) = ends_at (λ p. ends n os p) (slice_get os o)

-- ---- the parts of a world

-- an array's elements lie below its length; what a function closes over is there
abbrev pub IsValidKind : World → Kind → Entries → Type 0
IsValidKind w (Array n writable) elements = All (λ e. e.0 < n) elements
IsValidKind w (Function closure) elements =
    All (λ r. r < w.record_count) closure.records × IfSome closure.environment (λ e. e < w.environment_count)
IsValidKind w kind elements = ⊤

pub record IsValidObject (w : World) (o : Object) : Type 0 where
  pub prototype : IsLiveObject w.store o.prototype
  pub kind : IsValidKind w o.kind o.elements
  pub elements : AreLive w.store 4294967295 o.elements
  pub names : AreLive w.store (length w.store.texts) o.names
  pub symbols : AreLive w.store (length w.store.symbols) o.symbols

pub record IsValid (w : World) : Type 0 where
  pub texts : IsDistinct bytes_eq w.store.texts
  pub length_text : text w.store length_name ≡ codes "length"
  pub symbols : All (λ d. IfSome d (λ n. n < length w.store.texts)) w.store.symbols
  pub objects : All (IsValidObject w) w.store.objects
  pub no_circle : (o : ℕ) → (n : ℕ) × (ends n w.store.objects (Some o) ≡ true)
  pub globals : All (λ g. IfSome (g.1).value (λ v. IsLive w.store v)) w.globals
  pub records : (r : ℕ) (name : List ℕ) → r < w.record_count → IsLiveBinding w.store ((w.records r).bindings name)
  pub slots : (e i : ℕ) → e < w.environment_count → IsLiveBinding w.store ((w.environments e).slots i)
  -- an environment is made in one that is there already
  pub parents : (e : ℕ) → e < w.environment_count → IfSome (w.environments e).parent (λ p. p < e)

-- The global record (ECMA-262, 9.1.1.4): built-ins, `var` names of the script, and names of its functions. Its
-- `let` and `const` stand in a record inside it.
use Rattle.std.specs.Prelude.{ℕ, Bool, true, ◌||◌, if◌then◌else◌, List, [], ◌∷◌, codes, Option, Some, None, bytes_eq}
use Rattle.std.specs.List.{list_any}
use Rattle.std.specs.Map.{lookup}
use Rattle.hz_value.specs.declared.leaving.Left.TheVariants as left
use Rattle.hz_value.specs.declared.values.Value.{Value}
use Rattle.hz_value.specs.declared.values.Value.TheVariants as value
use Rattle.hz_value.specs.operators.Messages.{NotDefined, IsConstant}
use Rattle.hz_value.specs.operators.Computed.{Computed, Gives, Throws, Leaves, and_then}

-- None stands for a value that is no safe integer: reading it leaves the run
pub record Global : Type 0 where
  pub value : Option Value
  pub writable : Bool

-- in the order of their creation, by their UTF-16 units
abbrev pub Globals : Type 0
Globals = List (List ℕ × Global)

-- built-ins of ECMA-262 that this project leaves out
abbrev pub missing_names : List (List ℕ)
missing_names =
    codes "globalThis" ∷ codes "eval" ∷ codes "isFinite" ∷ codes "isNaN" ∷ codes "parseFloat" ∷ codes "decodeURI"
    ∷ codes "decodeURIComponent" ∷ codes "encodeURI" ∷ codes "encodeURIComponent" ∷ codes "escape"
    ∷ codes "unescape" ∷ codes "AggregateError" ∷ codes "ArrayBuffer" ∷ codes "Atomics" ∷ codes "BigInt"
    ∷ codes "BigInt64Array" ∷ codes "BigUint64Array" ∷ codes "DataView" ∷ codes "Date" ∷ codes "EvalError"
    ∷ codes "FinalizationRegistry" ∷ codes "Float32Array" ∷ codes "Float64Array" ∷ codes "Int8Array"
    ∷ codes "Int16Array" ∷ codes "Int32Array" ∷ codes "Iterator" ∷ codes "JSON" ∷ codes "Map" ∷ codes "Promise"
    ∷ codes "Proxy" ∷ codes "Reflect" ∷ codes "RegExp" ∷ codes "Set" ∷ codes "SharedArrayBuffer"
    ∷ codes "Uint8Array" ∷ codes "Uint8ClampedArray" ∷ codes "Uint16Array" ∷ codes "Uint32Array"
    ∷ codes "URIError" ∷ codes "WeakMap" ∷ codes "WeakRef" ∷ codes "WeakSet" ∷ []

-- built-ins that this project has and that are still to be built
abbrev pub unbuilt_names : List (List ℕ)
unbuilt_names =
    codes "readline" ∷ codes "Object" ∷ codes "Function" ∷ codes "Array" ∷ codes "String" ∷ codes "Number"
    ∷ codes "Boolean" ∷ codes "Symbol" ∷ codes "Math" ∷ codes "Error" ∷ codes "TypeError" ∷ codes "RangeError"
    ∷ codes "ReferenceError" ∷ codes "SyntaxError" ∷ codes "parseInt" ∷ []

abbrev pub is_among : List ℕ → List (List ℕ) → Bool
is_among name names = list_any (bytes_eq name) names

-- ---- reading

-- a name that the record does not have
abbrev pub read_absent : List ℕ → Computed (Option Value)
read_absent name =
    if is_among name missing_names then Leaves left.Missing
    else if is_among name unbuilt_names then Leaves left.NotBuilt
    else Gives None

abbrev pub read_held : Option Value → Computed (Option Value)
read_held None = Leaves left.NotSafe
read_held (Some v) = Gives (Some v)

abbrev pub read_found : List ℕ → Option Global → Computed (Option Value)
read_found name None = read_absent name
read_found name (Some g) = read_held g.value

-- what the name stands for; None where it cannot be resolved
abbrev pub resolve_global : Globals → List ℕ → Computed (Option Value)
resolve_global gs name = read_found name (lookup (bytes_eq name) gs)

abbrev pub resolved : List ℕ → Option Value → Computed Value
resolved name None = Throws (NotDefined name)
resolved name (Some v) = Gives v

-- GetValue of a global name (6.2.5.5)
abbrev pub read_global : Globals → List ℕ → Computed Value
read_global gs name = and_then (resolve_global gs name) (resolved name)

-- ---- writing

abbrev pub ordinary : Value → Global
ordinary v = record { value = Some v; writable = true }

-- with the value under a name: one that is there keeps its place, a new one goes last
abbrev pub put_global : List ℕ → Value → Globals → Globals
put_global name v [] = (name, ordinary v) ∷ []
put_global name v (g ∷ gs) =
    if bytes_eq name g.0 then (g.0, ordinary v) ∷ gs else g ∷ put_global name v gs

-- a built-in that is left out can be written: it is an ordinary name from then on
abbrev pub write_absent : Globals → List ℕ → Value → Computed Globals
write_absent gs name v =
    if is_among name missing_names then Gives (put_global name v gs)
    else if is_among name unbuilt_names then Leaves left.NotBuilt
    else Throws (NotDefined name)

abbrev pub write_found : Globals → List ℕ → Value → Option Global → Computed Globals
write_found gs name v None = write_absent gs name v
write_found gs name v (Some g) =
    if g.writable then Gives (put_global name v gs) else Throws (IsConstant name)

-- PutValue of a global name in strict code (6.2.5.6)
abbrev pub write_global : Globals → List ℕ → Value → Computed Globals
write_global gs name v = write_found gs name v (lookup (bytes_eq name) gs)

abbrev pub declare_found : Globals → List ℕ → Option Global → Globals
declare_found gs name (Some g) = gs
declare_found gs name None =
    if is_among name missing_names || is_among name unbuilt_names then gs else put_global name value.Undefined gs

-- CreateGlobalVarBinding (9.1.1.4.17): a name that is there stays as it is, and so does a built-in that is left out
abbrev pub declare_global : List ℕ → Globals → Globals
declare_global name gs = declare_found gs name (lookup (bytes_eq name) gs)

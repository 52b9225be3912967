-- Activations of code.
use Rattle.std.specs.Prelude.{ℕ, Bool, List, [], Option, Some, None, replicate, slice_set}
use Rattle.hz_tree.specs.declared.tree.FunctionKind.{FunctionKind}
use Rattle.hz_value.specs.declared.values.Value.{Value}
use Rattle.hz_value.specs.declared.values.Value.TheVariants as value
use Rattle.hz_value.specs.system.Acts.{Reply}
use Rattle.hz_value.specs.system.System.{Invocation}
use Rattle.hz_ops.specs.declared.instr.Instr.{Instr}
use Rattle.hz_ops.specs.declared.held.Held.{Held}
use Rattle.hz_ops.specs.declared.held.Held.TheVariants as held

-- The code of a source. Its functions have the numbers below `count`; function 0 is the script. `length` is what the
-- function's property of this name says. A function that has no code yet is a stub. `registers` is how many registers
-- it has, `fetch` the instruction at a place, with its length in bytes, and `handler` the place at which a throw at a
-- place is caught; None in a stub, where no whole instruction stands, and where no handler holds that place. `text` is
-- the text with a number, as its UTF-16 units
pub record Program : Type 0 where
  pub count : ℕ
  pub kind : (function : ℕ) → FunctionKind
  pub length : (function : ℕ) → ℕ
  pub has_code : (function : ℕ) → Bool
  pub registers : (function : ℕ) → ℕ
  pub fetch : (function place : ℕ) → Option (Instr × ℕ)
  pub handler : (function place : ℕ) → Option ℕ
  pub text : (number : ℕ) → Option (List ℕ)

-- a function that runs: the place of the instruction in hand, in bytes, and what its registers hold. `environment` is
-- that of its closure; the script has none, and no callee. `reply` is what came back to the instruction in hand
pub record Activation : Type 0 where
  pub function : ℕ
  pub place : ℕ
  pub registers : List Held
  pub environment : Option ℕ
  pub this : Value
  pub arguments : List Value
  pub new_target : Value
  pub callee : Option ℕ
  pub reply : Option Reply

-- at entry each register holds undefined
abbrev pub fresh_registers : Program → (function : ℕ) → List Held
fresh_registers p function = replicate (p.registers function) (held.Value value.Undefined)

abbrev pub code_entered : Program → Invocation → Activation
code_entered p i = record {
  function = i.closure.function;
  place = 0;
  registers = fresh_registers p i.closure.function;
  environment = i.closure.environment;
  this = i.this;
  arguments = i.arguments;
  new_target = i.new_target;
  callee = Some i.callee;
  reply = None;
}

abbrev pub code_script : Program → Activation
code_script p = record {
  function = 0;
  place = 0;
  registers = fresh_registers p 0;
  environment = None;
  this = value.Undefined;
  arguments = [];
  new_target = value.Undefined;
  callee = None;
  reply = None;
}

-- goes on at this place
abbrev pub at : ℕ → Activation → Activation
at place a = record a { place = place; reply = None }

-- goes on at this place, with what register r then holds
abbrev pub written : ℕ → ℕ → Held → Activation → Activation
written place r h a = record a { place = place; registers = slice_set a.registers r h; reply = None }

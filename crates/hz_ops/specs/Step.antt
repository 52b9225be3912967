-- The meaning of an instruction: one row for each operation.
--
-- The operands are tested before anything else that a row does, those that it writes among them. A
-- register or text that is not there, an integer that is not safe, and a place where no whole
-- instruction stands are bad code.
use Rattle.std.specs.Prelude.{ℕ, ◌+◌, ℤ, List, [], ◌∷◌, length, take, drop, slice_get, nat_le, if◌then◌else◌, Option}
use Rattle.std.specs.Prelude.{Some, None, bytes_eq}
use Rattle.hz_value.specs.declared.leaving.Left.TheVariants as left
use Rattle.hz_value.specs.Numbers.{safe, sum_of, difference_of, product_of}
use Rattle.hz_ops.specs.declared.op.Op.{Op}
use Rattle.hz_ops.specs.declared.op.Op.TheVariants as op
use Rattle.hz_ops.specs.declared.op.Operand.{Operand}
use Rattle.hz_ops.specs.declared.op.Operand.TheVariants as operand
use Rattle.hz_ops.specs.declared.instr.Instr.{Instr}
use Rattle.hz_ops.specs.Coding.{decode_at}
use Rattle.hz_ops.specs.Contents.{Content, Undefined, Number, Text, print_name, print_object, is_print, line_of}
use Rattle.hz_ops.specs.Activations.{Module, code_of, Activation, written, Print, Return, Leave, Bad, Beyond, Next}
use Rattle.hz_ops.specs.Activations.{Goes, Does}

-- goes on with what was found, or is bad code
abbrev pub found_to : {T : Type 0} → Activation → (T → Next) → Option T → Next
found_to a go None = Does Bad a
found_to a go (Some x) = go x

-- goes on with what the register holds, or is bad code
abbrev pub held_to : ℕ → Activation → (Content → Next) → Next
held_to r a go = found_to a go (slice_get a.registers r)

-- ---- operands by their shapes

abbrev pub at_register : List Operand → Activation → (ℕ → Next) → Next
at_register (operand.Register r ∷ []) a go = go r
at_register os a go = Does Bad a

abbrev pub at_register_int : List Operand → Activation → (ℕ → ℤ → Next) → Next
at_register_int (operand.Register r ∷ operand.Int z ∷ []) a go = go r z
at_register_int os a go = Does Bad a

abbrev pub at_register_text : List Operand → Activation → (ℕ → ℕ → Next) → Next
at_register_text (operand.Register r ∷ operand.Text s ∷ []) a go = go r s
at_register_text os a go = Does Bad a

abbrev pub at_three_registers : List Operand → Activation → (ℕ → ℕ → ℕ → Next) → Next
at_three_registers (operand.Register r ∷ operand.Register x ∷ operand.Register y ∷ []) a go = go r x y
at_three_registers os a go = Does Bad a

abbrev pub at_call : List Operand → Activation → (ℕ → ℕ → ℕ → ℕ → ℕ → Next) → Next
at_call (operand.Register r ∷ operand.Register callee ∷ operand.Register this ∷ operand.Register first ∷ operand.Count
    n ∷ []) a go = go r callee this first n
at_call os a go = Does Bad a

-- ---- the rows: r is the register that is written, and `next` the place behind the instruction

-- LoadUndefined r
abbrev pub load_undefined : ℕ → Activation → ℕ → Next
load_undefined next a r = held_to r a (λ old. Goes (written next r Undefined a))

-- LoadInt r i: the integer, which has to be safe
abbrev pub load_int : ℕ → Activation → ℕ → ℤ → Next
load_int next a r i = held_to r a (λ old. found_to a (λ z. Goes (written next r (Number z) a)) (safe i))

-- LoadString r s: the text
abbrev pub load_string : Module → ℕ → Activation → ℕ → ℕ → Next
load_string m next a r s =
    held_to r a (λ old. found_to a (λ t. Goes (written next r (Text t) a)) (slice_get m.texts s))

-- the global of this name
abbrev pub global_to : ℕ → Activation → ℕ → List ℕ → Next
global_to next a r name =
    if bytes_eq name print_name then Goes (written next r print_object a) else Does Beyond a

-- LoadGlobal r s: the value of the global whose name is the text
abbrev pub load_global : Module → ℕ → Activation → ℕ → ℕ → Next
load_global m next a r s = held_to r a (λ old. found_to a (global_to next a r) (slice_get m.texts s))

-- goes on with the number, or leaves where the operator has none
abbrev pub number_to : ℕ → Activation → ℕ → Option ℤ → Next
number_to next a r None = Does (Leave left.NotSafe) a
number_to next a r (Some z) = Goes (written next r (Number z) a)

-- an operator on two numbers
abbrev pub on_numbers : (ℤ → ℤ → Option ℤ) → ℕ → Activation → ℕ → Content → Content → Next
on_numbers operator next a r (Number x) (Number y) = number_to next a r (operator x y)
on_numbers operator next a r x y = Does Beyond a

-- Add, Sub, Mul r x y
abbrev pub arithmetic : (ℤ → ℤ → Option ℤ) → ℕ → Activation → ℕ → ℕ → ℕ → Next
arithmetic operator next a r x y =
    held_to r a (λ old. held_to x a (λ u. held_to y a (λ v. on_numbers operator next a r u v)))

-- Return r
abbrev pub return_from : Activation → ℕ → Next
return_from a r = held_to r a (λ x. Does (Return x) a)

-- the contents of n registers in a row, where all of them are there
abbrev pub row_at : List Content → ℕ → ℕ → Option (List Content)
row_at registers first n =
    if nat_le (first + n) (length registers) then Some (take n (drop first registers)) else None

-- prints the line and gives undefined
abbrev pub line_to : ℕ → Activation → ℕ → Option (List ℕ) → Next
line_to next a r None = Does Beyond a
line_to next a r (Some line) = Does (Print line) (written next r Undefined a)

-- a call of this callee with these arguments
abbrev pub called_to : ℕ → Activation → ℕ → Content → List Content → Next
called_to next a r callee arguments =
    if is_print callee then line_to next a r (line_of arguments) else Does Beyond a

-- Call r callee this first n: the arguments are those of n registers in a row, from the first
abbrev pub call : ℕ → Activation → ℕ → ℕ → ℕ → ℕ → ℕ → Next
call next a r callee this first n =
    held_to r a
    (λ old. held_to callee a
    (λ function. held_to this a
    (λ receiver. held_to first a
    (λ argument. found_to a (called_to next a r function) (row_at a.registers first n)))))

-- ---- the step

-- the row of this operation, on these operands; those that are not here have their rows in `code/Rows`
abbrev pub row : Module → ℕ → Activation → List Operand → Op → Next
row m next a os op.LoadUndefined = at_register os a (load_undefined next a)
row m next a os op.LoadInt = at_register_int os a (load_int next a)
row m next a os op.LoadString = at_register_text os a (load_string m next a)
row m next a os op.LoadGlobal = at_register_text os a (load_global m next a)
row m next a os op.Add = at_three_registers os a (arithmetic sum_of next a)
row m next a os op.Sub = at_three_registers os a (arithmetic difference_of next a)
row m next a os op.Mul = at_three_registers os a (arithmetic product_of next a)
row m next a os op.Return = at_register os a (return_from a)
row m next a os op.Call = at_call os a (call next a)
row m next a os other = Does Beyond a

-- the step of an instruction of so many bytes
abbrev pub instruction_step : Module → Activation → Instr × ℕ → Next
instruction_step m a r = row m (a.place + r.1) a r.0.args.items r.0.op

-- one step of an activation
abbrev pub cstep : Module → Activation → Next
cstep m a = found_to a (instruction_step m a) (decode_at (code_of m a.function) a.place)

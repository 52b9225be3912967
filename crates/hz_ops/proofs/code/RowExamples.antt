-- Each row on code that is written out by hand.
use Rattle.std.proofs.Common.{◌≡◌, ℕ, ℤ, pos, negsuc, List, [], ◌∷◌, ◌++◌, codes, refl}
use Rattle.std.specs.Prelude.{map}
use Rattle.std.specs.Fmt.{digits}
use Rattle.hz_ops.specs.declared.op.Op.{Op}
use Rattle.hz_ops.specs.declared.op.Op.TheVariants as op
use Rattle.hz_ops.specs.declared.op.Operand.TheVariants.{Register, Text, Int, Jump}
use Rattle.hz_ops.specs.declared.instr.Instr.{Instr}
use Rattle.hz_ops.specs.Table.{op_at}
use Rattle.hz_ops.specs.Coding.{shortest_of}
use Rattle.hz_ops.proofs.code.Running.{load_int, one, two, three, with_text, jump, branch, call, printing, run_code}

-- ---- loads and moves

loads :
    map (λ o. run_code 9 (one o 2 ∷ printing)) (op.LoadUndefined ∷ op.LoadNull ∷ op.LoadTrue ∷ op.LoadFalse ∷ [])
    ≡ codes "undefined\ndone" ∷ codes "null\ndone" ∷ codes "true\ndone" ∷ codes "false\ndone" ∷ []
unfolding op_at
loads = refl

integer_and_text :
    run_code 9 (load_int 2 (negsuc 299) ∷ printing) ++ run_code 9 (with_text op.LoadString 2 2 ∷ printing)
    ≡ codes "-300\ndone12\ndone"
unfolding op_at digits
integer_and_text = refl

-- the empty mark is moved like a value
moves :
    run_code 9 (one op.LoadEmpty 0 ∷ two op.Move 1 0 ∷ with_text op.CheckInit 1 1 ∷ printing)
    ≡ codes "uncaught ReferenceError: x is not initialised"
unfolding op_at
moves = refl

-- ---- names

initialised : run_code 9 (load_int 2 (pos 1) ∷ with_text op.CheckInit 2 1 ∷ printing) ≡ codes "1\ndone"
unfolding op_at digits
initialised = refl

constant : run_code 9 (shortest_of op.ThrowConst (Text 1 ∷ []) ∷ printing) ≡ codes "uncaught TypeError: x is constant"
unfolding op_at
constant = refl

absent : run_code 9 (with_text op.LoadGlobal 2 1 ∷ printing) ≡ codes "uncaught ReferenceError: x is not defined"
unfolding op_at
absent = refl

types_of_names :
    run_code 9 (with_text op.TypeofGlobal 2 1 ∷ printing) ++ run_code 9 (with_text op.TypeofGlobal 2 0 ∷ printing)
    ≡ codes "undefined\ndonefunction\ndone"
unfolding op_at
types_of_names = refl

abbrev store : Instr
store = shortest_of op.StoreGlobal (Text 1 ∷ Register 2 ∷ [])

abbrev declare : Instr
declare = shortest_of op.DeclareGlobal (Text 1 ∷ [])

absent_is_not_written : run_code 9 (store ∷ printing) ≡ codes "uncaught ReferenceError: x is not defined"
unfolding op_at
absent_is_not_written = refl

declared_and_written :
    run_code 9 (declare ∷ load_int 2 (pos 4) ∷ store ∷ one op.LoadNull 2 ∷ with_text op.LoadGlobal 2 1 ∷ printing)
    ≡ codes "4\ndone"
unfolding op_at digits
declared_and_written = refl

-- ---- operators

abbrev on_7_and_2 : Op → List ℕ
on_7_and_2 o = run_code 9 (load_int 0 (pos 7) ∷ load_int 1 (pos 2) ∷ three o 2 0 1 ∷ printing)

arithmetic :
    map on_7_and_2 (op.Add ∷ op.Sub ∷ op.Mul ∷ op.Div ∷ op.Rem ∷ op.Pow ∷ op.Quot ∷ [])
    ≡ codes "9\ndone" ∷ codes "5\ndone" ∷ codes "14\ndone" ∷ codes "left NotSafe" ∷ codes "1\ndone"
    ∷ codes "49\ndone" ∷ codes "3\ndone" ∷ []
unfolding op_at digits
arithmetic = refl

bits :
    map on_7_and_2 (op.And ∷ op.Or ∷ op.Xor ∷ op.Shl ∷ op.Sar ∷ op.Shr ∷ [])
    ≡ codes "2\ndone" ∷ codes "7\ndone" ∷ codes "5\ndone" ∷ codes "28\ndone" ∷ codes "1\ndone" ∷ codes "1\ndone" ∷ []
unfolding op_at digits
bits = refl

comparisons :
    map on_7_and_2 (op.Equal ∷ op.StrictEqual ∷ op.Less ∷ op.LessEqual ∷ op.Greater ∷ op.GreaterEqual ∷ [])
    ≡ codes "false\ndone" ∷ codes "false\ndone" ∷ codes "false\ndone" ∷ codes "false\ndone" ∷ codes "true\ndone"
    ∷ codes "true\ndone" ∷ []
unfolding op_at
comparisons = refl

-- an object would become a primitive, but not where nothing is converted
objects_wait :
    map (λ o. run_code 9 (one op.LoadTrue 0 ∷ with_text op.LoadGlobal 1 0 ∷ three o 2 0 1 ∷ printing))
    (op.Equal ∷ op.StrictEqual ∷ op.Less ∷ [])
    ≡ codes "left NotBuilt" ∷ codes "false\ndone" ∷ codes "left NotBuilt" ∷ []
unfolding op_at
objects_wait = refl

texts_are_joined :
    run_code 9 (with_text op.LoadString 0 2 ∷ load_int 1 (pos 3) ∷ three op.Add 2 0 1 ∷ printing) ≡ codes "123\ndone"
unfolding op_at digits
texts_are_joined = refl

abbrev on_text : Op → List ℕ
on_text o = run_code 9 (with_text op.LoadString 0 2 ∷ two o 2 0 ∷ printing)

unary_rows :
    map on_text (op.Neg ∷ op.BitNot ∷ op.Not ∷ op.ToNumber ∷ op.Typeof ∷ op.Inc ∷ op.Dec ∷ op.ToText ∷ [])
    ≡ codes "-12\ndone" ∷ codes "-13\ndone" ∷ codes "false\ndone" ∷ codes "12\ndone" ∷ codes "string\ndone"
    ∷ codes "13\ndone" ∷ codes "11\ndone" ∷ codes "12\ndone" ∷ []
unfolding op_at digits
unary_rows = refl

-- ---- jumps: a jump forward takes no turn, and one to a place that is not behind its own takes one

skips : run_code 1 (jump (pos 6) ∷ load_int 2 (pos 1) ∷ printing) ≡ codes "undefined\ndone"
unfolding op_at
skips = refl

stays : run_code 3 (jump (pos 0) ∷ []) ≡ codes "turns spent"
unfolding op_at
stays = refl

-- what register 1 holds decides whether the load of 1 is skipped
abbrev skipping : Instr → Op → List ℕ
skipping load o = run_code 1 (load ∷ branch o 1 (pos 7) ∷ load_int 2 (pos 1) ∷ printing)

branches_on_null :
    map (skipping (one op.LoadNull 1)) (op.JumpTrue ∷ op.JumpFalse ∷ op.JumpNullish ∷ op.JumpUndefined ∷ [])
    ≡ codes "1\ndone" ∷ codes "undefined\ndone" ∷ codes "undefined\ndone" ∷ codes "1\ndone" ∷ []
unfolding op_at digits
branches_on_null = refl

branches_on_a_text :
    map (skipping (with_text op.LoadString 1 2)) (op.JumpTrue ∷ op.JumpFalse ∷ op.JumpNullish ∷ op.JumpUndefined ∷ [])
    ≡ codes "undefined\ndone" ∷ codes "1\ndone" ∷ codes "1\ndone" ∷ codes "1\ndone" ∷ []
unfolding op_at digits
branches_on_a_text = refl

branches_on_undefined : skipping (one op.LoadUndefined 1) op.JumpUndefined ≡ codes "undefined\ndone"
unfolding op_at digits
branches_on_undefined = refl

abbrev skipping_at : ℤ → List ℕ
skipping_at i =
    run_code 1
    (load_int 1 (pos 5) ∷ shortest_of op.JumpIs (Register 1 ∷ Int i ∷ Jump (pos 8) ∷ []) ∷ load_int 2 (pos 1) ∷ printing)

branches_on_a_number : skipping_at (pos 5) ++ skipping_at (pos 4) ≡ codes "undefined\ndone1\ndone"
unfolding op_at digits
branches_on_a_number = refl

-- counts down from 3: two jumps back, and a turn for the call
counts_down :
    map (λ turns. run_code turns (load_int 2 (pos 3) ∷ two op.Dec 2 2 ∷ branch op.JumpTrue 2 (negsuc 2) ∷ printing))
    (3 ∷ 2 ∷ 1 ∷ [])
    ≡ codes "0\ndone" ∷ codes "turns spent" ∷ codes "turns spent" ∷ []
unfolding op_at digits
counts_down = refl

-- ---- ways out

throws : run_code 9 (with_text op.LoadString 2 1 ∷ one op.Throw 2 ∷ []) ≡ codes "uncaught x"
unfolding op_at
throws = refl

calls_a_number : run_code 9 (load_int 3 (pos 1) ∷ call 2 3 4 5 0 ∷ []) ≡ codes "uncaught TypeError: value is not a function"
unfolding op_at
calls_a_number = refl

-- arguments stand in a row, and the result goes into the first register
prints_three :
    run_code 9 (load_int 0 (pos 1) ∷ one op.LoadNull 1 ∷ with_text op.LoadGlobal 5 0 ∷ call 2 5 4 0 3 ∷ printing)
    ≡ codes "1 null undefined\nundefined\ndone"
unfolding op_at digits
prints_three = refl

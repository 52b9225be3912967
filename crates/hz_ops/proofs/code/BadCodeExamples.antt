-- Each rule on bad code, on code that is written out by hand.
use Rattle.std.proofs.Common.{◌≡◌, ℕ, pos, negsuc, List, [], ◌∷◌, ◌++◌, codes, refl}
use Rattle.std.specs.Prelude.{map, replicate}
use Rattle.hz_ops.specs.declared.op.Op.TheVariants as op
use Rattle.hz_ops.specs.declared.op.Operand.TheVariants.{Register, Text, Int, Jump}
use Rattle.hz_ops.specs.declared.instr.Instr.{Instr}
use Rattle.hz_ops.specs.Table.{op_at}
use Rattle.hz_ops.specs.Coding.{shortest_of}
use Rattle.hz_ops.proofs.code.Running.{load_int, one, two, three, with_text, jump, branch, call, printing}
use Rattle.hz_ops.proofs.code.Running.{run_code, run_bytes}

abbrev are_bad : List (List Instr) → List (List ℕ)
are_bad scripts = map (run_code 9) scripts

-- a register that is not there: written, read, or one of a row of arguments; the first of none is tested too
registers :
    are_bad ((one op.LoadNull 6 ∷ []) ∷ (one op.Return 6 ∷ []) ∷ (two op.Move 0 6 ∷ []) ∷ (three op.Add 0 0 6 ∷ [])
    ∷ (call 0 1 2 4 3 ∷ []) ∷ (call 0 1 2 6 0 ∷ []) ∷ (branch op.JumpTrue 6 (pos 4) ∷ []) ∷ [])
    ≡ replicate 7 (codes "bad code")
unfolding op_at
registers = refl

-- a text that is not there
no_text :
    are_bad ((with_text op.LoadString 0 3 ∷ []) ∷ (with_text op.LoadGlobal 0 3 ∷ []) ∷ (with_text op.CheckInit 0 3 ∷ [])
    ∷ (shortest_of op.ThrowConst (Text 3 ∷ []) ∷ []) ∷ (shortest_of op.DeclareGlobal (Text 3 ∷ []) ∷ []) ∷ [])
    ≡ replicate 5 (codes "bad code")
unfolding op_at
no_text = refl

-- an integer that is not safe
no_safe_integer :
    are_bad ((load_int 0 (pos 9007199254740992) ∷ [])
    ∷ (shortest_of op.JumpIs (Register 0 ∷ Int (negsuc 9007199254740991) ∷ Jump (pos 4) ∷ []) ∷ []) ∷ [])
    ≡ replicate 2 (codes "bad code")
unfolding op_at
no_safe_integer = refl

-- the empty mark is no value
no_value :
    are_bad ((one op.LoadEmpty 0 ∷ one op.Return 0 ∷ []) ∷ (one op.LoadEmpty 0 ∷ two op.Not 1 0 ∷ [])
    ∷ (one op.LoadEmpty 1 ∷ three op.Add 0 0 1 ∷ []) ∷ (one op.LoadEmpty 1 ∷ call 0 3 3 0 2 ∷ [])
    ∷ (one op.LoadEmpty 0 ∷ branch op.JumpFalse 0 (pos 4) ∷ []) ∷ [])
    ≡ replicate 5 (codes "bad code")
unfolding op_at
no_value = refl

-- a place before 0, also where no turn is left; the jump is not tested where it is not taken
before_the_code :
    run_code 0 (jump (negsuc 0) ∷ []) ++ run_code 1 (branch op.JumpTrue 2 (negsuc 99) ∷ printing)
    ≡ codes "bad codeundefined\ndone"
unfolding op_at
before_the_code = refl

-- the end of the code, a place behind it that a jump leads to, a number that is no operation's, and an instruction
-- that is cut
no_instruction :
    map (run_bytes 0) ([] ∷ (1 ∷ 0 ∷ []) ∷ (58 ∷ 100 ∷ 0 ∷ []) ∷ (0 ∷ []) ∷ (9 ∷ 0 ∷ []) ∷ (6 ∷ 0 ∷ []) ∷ [])
    ≡ replicate 6 (codes "bad code")
unfolding op_at
no_instruction = refl

-- operands are tested before anything else: before an error of the row, before a reason to leave, and before a throw
first_of_all :
    are_bad ((with_text op.LoadGlobal 6 1 ∷ []) ∷ (three op.Sub 6 0 1 ∷ [])
    ∷ (shortest_of op.StoreGlobal (Text 1 ∷ Register 6 ∷ []) ∷ []) ∷ (load_int 0 (pos 1) ∷ call 6 0 1 2 0 ∷ []) ∷ [])
    ≡ replicate 4 (codes "bad code")
unfolding op_at
first_of_all = refl

-- The code of first texts: the instructions that each of its parts becomes, as bytes. Only the private steps
-- of the generator cite this; what the code does when it runs is said by `Saying`.
use Rattle.std.specs.Prelude.{ℕ, ◌+◌, List, [], ◌∷◌, ◌++◌, pos, codes, flat_map, length}
use Rattle.hz_ops.specs.declared.op.Op.{Op}
use Rattle.hz_ops.specs.declared.op.Op.TheVariants as op
use Rattle.hz_ops.specs.declared.op.Operand.{Operand}
use Rattle.hz_ops.specs.declared.op.Operand.TheVariants.{Register, Text, Int, Count}
use Rattle.hz_ops.specs.Coding.{spelling, shortest_of}
use Rattle.hermes.specs.declared.first.language.Sign.{Sign}
use Rattle.hermes.specs.declared.first.language.Sign.TheVariants.{Plus, Minus}
use Rattle.hermes.specs.declared.first.language.Term.{Term}
use Rattle.hermes.specs.declared.first.language.Addend.{Addend}
use Rattle.hermes.specs.declared.first.language.Sum.{Sum}
use Rattle.hermes.specs.declared.first.language.Argument.{Argument}
use Rattle.hermes.specs.declared.first.language.Argument.TheVariants as argument

-- The registers: the callee and later the call's result, `this`, the argument (where sums are added up),
-- a term, and a factor.
abbrev pub callee : ℕ
callee = 0

abbrev pub this : ℕ
this = 1

abbrev pub argument_register : ℕ
argument_register = 2

abbrev pub term : ℕ
term = 3

abbrev pub factor : ℕ
factor = 4

-- the bytes of an instruction in its shortest form
unfoldable pub bytes_of : Op → List Operand → List ℕ
bytes_of operation operands = spelling (shortest_of operation operands)

abbrev pub load_int : ℕ → ℕ → List ℕ
load_int to n = bytes_of op.LoadInt (Register to ∷ Int (pos n) ∷ [])

-- to = to operation from
abbrev pub combine : Op → ℕ → ℕ → List ℕ
combine operation to from = bytes_of operation (Register to ∷ Register to ∷ Register from ∷ [])

abbrev pub factor_code : ℕ → ℕ → List ℕ
factor_code to n = load_int factor n ++ combine op.Mul to factor

-- the product, in this register
abbrev pub term_code : ℕ → Term → List ℕ
term_code to t = load_int to t.first ++ flat_map (factor_code to) t.others

abbrev pub sign_operation : Sign → Op
sign_operation Plus = op.Add
sign_operation Minus = op.Sub

abbrev pub addend_code : Addend → List ℕ
addend_code a = term_code term a.term ++ combine (sign_operation a.sign) argument_register term

abbrev pub sum_code : Sum → List ℕ
sum_code s = term_code argument_register s.first ++ flat_map addend_code s.others

-- where the next text has this id
abbrev pub argument_code : ℕ → Argument → List ℕ
argument_code id (argument.Text text) = bytes_of op.LoadString (Register argument_register ∷ Text id ∷ [])
argument_code id (argument.Sum s) = sum_code s

abbrev pub opening_code : List ℕ
opening_code = bytes_of op.LoadGlobal (Register callee ∷ Text 0 ∷ []) ++ bytes_of op.LoadUndefined (Register this ∷ [])

abbrev pub closing_code : List ℕ
closing_code = bytes_of op.Call
    (Register callee ∷ Register callee ∷ Register this ∷ Register argument_register ∷ Count 1 ∷ [])

abbrev pub call_code : ℕ → Argument → List ℕ
call_code id a = opening_code ++ argument_code id a ++ closing_code

-- the texts that an argument adds
abbrev pub argument_texts : Argument → List (List ℕ)
argument_texts (argument.Text text) = text ∷ []
argument_texts (argument.Sum s) = []

abbrev pub calls_code : ℕ → List Argument → List ℕ
calls_code id [] = []
calls_code id (a ∷ calls) = call_code id a ++ calls_code (id + length (argument_texts a)) calls

abbrev pub end_code : List ℕ
end_code = bytes_of op.LoadUndefined (Register callee ∷ []) ++ bytes_of op.Return (Register callee ∷ [])

-- all code, where text 0 is `print`
abbrev pub script_code : List Argument → List ℕ
script_code calls = calls_code 1 calls ++ end_code

abbrev pub script_texts : List Argument → List (List ℕ)
script_texts calls = codes "print" ∷ flat_map argument_texts calls

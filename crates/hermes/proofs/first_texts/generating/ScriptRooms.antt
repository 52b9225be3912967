-- How many bytes the code of a first text takes at most, and how many texts it has of which lengths.
use Rattle.std.proofs.Common.{◌≡◌, ℕ, zero, suc, ◌+◌, ◌*◌, ◌<◌, ◌≤◌, true, List, [], ◌∷◌, ◌++◌, length, refl, ap, arith}
use Rattle.std.proofs.Common.{length-append, pos, lit≤}
use Rattle.std.specs.Prelude.{flat_map, All, codes, nat_le}
use Rattle.std.specs.List.{list_all, concat}
use Rattle.std.proofs.lemmas.List.Elements.{All-append}
use Rattle.std.proofs.lemmas.List.Folds.{concat-append}
use Rattle.hz_ops.specs.declared.op.Op.{Op}
use Rattle.hz_ops.specs.declared.op.Op.TheVariants as op
use Rattle.hz_ops.specs.declared.op.Operand.{Operand}
use Rattle.hz_ops.specs.declared.op.Operand.TheVariants.{Register, Text, Int, Count}
use Rattle.hz_ops.specs.Table.{kinds_of}
use Rattle.hz_ops.specs.Coding.{shortest_of}
use Rattle.hz_ops.proofs.Fitting.{both, bytes_at_most}
use Rattle.hermes.specs.declared.first.language.Sign.{Sign}
use Rattle.hermes.specs.declared.first.language.Sign.TheVariants.{Plus, Minus}
use Rattle.hermes.specs.declared.first.language.Term.{Term}
use Rattle.hermes.specs.declared.first.language.Addend.{Addend}
use Rattle.hermes.specs.declared.first.language.Argument.{Argument}
use Rattle.hermes.specs.declared.first.language.Argument.TheVariants as argument
use Rattle.hermes.specs.first.Texts.{is_text_byte, is_text, is_argument, addend_numbers, weight_of, weight}
use Rattle.hz_file.specs.Image.{IsShortText}
use Rattle.hermes.specs.first.Generated.{argument_register, term, factor, bytes_of, load_int, combine, factor_code}
use Rattle.hermes.specs.first.Generated.{term_code, addend_code, argument_code, opening_code, closing_code, call_code}
use Rattle.hermes.specs.first.Generated.{argument_texts, calls_code, end_code, script_code, script_texts}
use Rattle.hermes.specs.first.Generated.{sign_operation}

-- ---- weights

addends_heavier : (a : Addend) (addends : List Addend)
    → addend_numbers (a ∷ addends) ≡ 1 + length a.term.others + addend_numbers addends
addends_heavier a addends = refl

heavier : (a : Argument) (calls : List Argument) → weight (a ∷ calls) ≡ weight_of a + weight calls
heavier a calls = refl

nine_each : (a : Argument) → 9 ≤ weight_of a
nine_each (argument.Text text) = omega arith
nine_each (argument.Sum s) = omega arith

-- ---- code

-- an instruction has a first byte, and at most eight bytes for each operand
pub bytes_room : (operation : Op) (os : List Operand)
    → length (bytes_of operation os) ≤ 1 + 8 * length (kinds_of operation)
unfolding bytes_of
bytes_room operation os = omega (arith, bytes_at_most (shortest_of operation os).long (kinds_of operation) os)

pub some_bytes : (operation : Op) (os : List Operand) → 1 ≤ length (bytes_of operation os)
unfolding bytes_of
some_bytes operation os = omega arith

-- the operations on the generator's own registers are short
multiplies_in_term : length (combine op.Mul term factor) ≡ 4
unfolding bytes_of
multiplies_in_term = refl

multiplies_in_argument : length (combine op.Mul argument_register factor) ≡ 4
unfolding bytes_of
multiplies_in_argument = refl

add_room : (sign : Sign) → length (combine (sign_operation sign) argument_register term) ≡ 4
unfolding bytes_of
add_room Plus = refl
add_room Minus = refl

factors_room : (to : ℕ) (factors : List ℕ) → length (combine op.Mul to factor) ≡ 4
    → length (flat_map (factor_code to) factors) ≤ 22 * length factors
factors_room to [] short = lit≤ tt
factors_room to (n ∷ factors) short =
    omega (
      arith,
      length-append (load_int factor n ++ combine op.Mul to factor) (flat_map (factor_code to) factors),
      length-append (load_int factor n) (combine op.Mul to factor),
      bytes_room op.LoadInt (Register factor ∷ Int (pos n) ∷ []),
      short,
      factors_room to factors short,
    )

term_room : (to : ℕ) (t : Term) → length (combine op.Mul to factor) ≡ 4
    → length (term_code to t) ≤ 17 + 22 * length t.others
term_room to t short =
    omega (
      arith,
      length-append (load_int to t.first) (flat_map (factor_code to) t.others),
      bytes_room op.LoadInt (Register to ∷ Int (pos t.first) ∷ []),
      factors_room to t.others short,
    )

addends_room : (addends : List Addend) → length (flat_map addend_code addends) ≤ 22 * addend_numbers addends
addends_room [] = lit≤ tt
addends_room (a ∷ addends) =
    omega (
      arith,
      length-append (term_code term a.term ++ combine (sign_operation a.sign) argument_register term)
          (flat_map addend_code addends),
      length-append (term_code term a.term) (combine (sign_operation a.sign) argument_register term),
      term_room term a.term multiplies_in_term,
      add_room a.sign,
      addends_heavier a addends,
      addends_room addends,
    )

argument_room : (id : ℕ) (a : Argument) → length (argument_code id a) + 82 ≤ 11 * weight_of a
argument_room id (argument.Text text) =
    omega (arith, bytes_room op.LoadString (Register argument_register ∷ Text id ∷ []))
argument_room id (argument.Sum s) =
    omega (
      arith,
      length-append (term_code argument_register s.first) (flat_map addend_code s.others),
      term_room argument_register s.first multiplies_in_argument,
      addends_room s.others,
    )

opening_room : length opening_code ≤ 26
opening_room = omega (
  arith,
  length-append (bytes_of op.LoadGlobal (Register 0 ∷ Text 0 ∷ [])) (bytes_of op.LoadUndefined (Register 1 ∷ [])),
  bytes_room op.LoadGlobal (Register 0 ∷ Text 0 ∷ []),
  bytes_room op.LoadUndefined (Register 1 ∷ []),
)

call_room : (id : ℕ) (a : Argument) → length (call_code id a) ≤ 11 * weight_of a
call_room id a =
    omega (
      arith,
      length-append (opening_code ++ argument_code id a) closing_code,
      length-append opening_code (argument_code id a),
      opening_room,
      argument_room id a,
      bytes_room op.Call (Register 0 ∷ Register 0 ∷ Register 1 ∷ Register 2 ∷ Count 1 ∷ []),
    )

calls_room : (id : ℕ) (calls : List Argument) → length (calls_code id calls) ≤ 11 * weight calls
calls_room id [] = lit≤ tt
calls_room id (a ∷ calls) =
    omega (
      arith,
      length-append (call_code id a) (calls_code (id + length (argument_texts a)) calls),
      call_room id a,
      heavier a calls,
      calls_room (id + length (argument_texts a)) calls,
    )

pub script_room : (calls : List Argument) → length (script_code calls) ≤ 11 * weight calls + 18
script_room calls =
    omega (
      arith,
      length-append (calls_code 1 calls) end_code,
      length-append (bytes_of op.LoadUndefined (Register 0 ∷ [])) (bytes_of op.Return (Register 0 ∷ [])),
      calls_room 1 calls,
      bytes_room op.LoadUndefined (Register 0 ∷ []),
      bytes_room op.Return (Register 0 ∷ []),
    )

pub some_code : (calls : List Argument) → 1 ≤ length (script_code calls)
some_code calls =
    omega (
      arith,
      length-append (calls_code 1 calls) end_code,
      length-append (bytes_of op.LoadUndefined (Register 0 ∷ [])) (bytes_of op.Return (Register 0 ∷ [])),
      some_bytes op.Return (Register 0 ∷ []),
    )

-- ---- texts

-- each call weighs nine at least
pub calls_weight : (calls : List Argument) → 9 * length calls ≤ weight calls
calls_weight [] = lit≤ tt
calls_weight (a ∷ calls) = omega (arith, heavier a calls, nine_each a, calls_weight calls)

one_text : (a : Argument) → length (argument_texts a) ≤ 1
one_text (argument.Text text) = lit≤ tt
one_text (argument.Sum s) = lit≤ tt

pub texts_count : (calls : List Argument) → length (flat_map argument_texts calls) ≤ length calls
texts_count [] = lit≤ tt
texts_count (a ∷ calls) = omega
    (arith, length-append (argument_texts a) (flat_map argument_texts calls), one_text a, texts_count calls)

argument_units : (a : Argument) → length (concat (argument_texts a)) ≤ weight_of a
argument_units (argument.Text text) = omega (arith, length-append text [])
argument_units (argument.Sum s) = omega arith

pub texts_units : (calls : List Argument) → length (concat (flat_map argument_texts calls)) ≤ weight calls
texts_units [] = lit≤ tt
texts_units (a ∷ calls) =
    omega (
      arith,
      ap length (concat-append (argument_texts a) (flat_map argument_texts calls)),
      length-append (concat (argument_texts a)) (concat (flat_map argument_texts calls)),
      argument_units a,
      heavier a calls,
      texts_units calls,
    )

all_first : {X : Type 0} (P : X → Type 0) (x : X) (xs : List X) → P x → All P xs → All P (x ∷ xs)
all_first P x xs here others zero d within = here
all_first P x xs here others (suc k) d within = others k d (omega (arith, within))

all_of_none : {X : Type 0} (P : X → Type 0) → All P []
all_of_none P k d within = absurd (omega (arith, within))

text_byte_low : (b : ℕ) → is_text_byte b ≡ true → b < 128
text_byte_low b e = grind (arith, e)

text_low : (text : List ℕ) → list_all is_text_byte text ≡ true → All (λ unit. unit < 128) text
text_low [] e = all_of_none (λ unit. unit < 128)
text_low (b ∷ text) e =
    let here : (is_text_byte b ≡ true) × (list_all is_text_byte text ≡ true) =
    both (is_text_byte b) (list_all is_text_byte text) e in
    all_first (λ unit. unit < 128) b text (text_byte_low b here.0) (text_low text here.1)

text_short : (text : List ℕ) → is_text text ≡ true → IsShortText text
text_short text e =
    let here : (nat_le (length text) 254 ≡ true) × (list_all is_text_byte text ≡ true) =
    both (nat_le (length text) 254) (list_all is_text_byte text) e in
    let few : length text ≤ 254 = grind (arith, here.0) in
    (few, text_low text here.1)

argument_short : (a : Argument) → is_argument a ≡ true → All IsShortText (argument_texts a)
argument_short (argument.Text text) e = all_first IsShortText text [] (text_short text e) (all_of_none IsShortText)
argument_short (argument.Sum s) e = all_of_none IsShortText

texts_short : (calls : List Argument) → list_all is_argument calls ≡ true
    → All IsShortText (flat_map argument_texts calls)
texts_short [] e = all_of_none IsShortText
texts_short (a ∷ calls) e =
    let here : (is_argument a ≡ true) × (list_all is_argument calls ≡ true) =
    both (is_argument a) (list_all is_argument calls) e in
    All-append IsShortText (argument_texts a) (flat_map argument_texts calls) (argument_short a here.0)
    (texts_short calls here.1)

pub script_short : (calls : List Argument) → list_all is_argument calls ≡ true → All IsShortText (script_texts calls)
script_short calls e = all_first IsShortText (codes "print") (flat_map argument_texts calls)
    (text_short (codes "print") refl) (texts_short calls e)

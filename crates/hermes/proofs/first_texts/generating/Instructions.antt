-- Steps over the instructions that the generator writes.
use Rattle.std.proofs.Common.{◌≡◌, ℕ, ◌^◌, Bool, true, false, List, [], ◌∷◌, ◌++◌, length, refl, ap, ◌∙◌, sym, arith}
use Rattle.std.proofs.Common.{length-append, ℤ, pos}
use Rattle.std.specs.Prelude.{not, nat_lt, Option, Some, None, slice_get, slice_set, if◌then◌else◌}
use Rattle.hz_value.specs.declared.leaving.Left.TheVariants as left
use Rattle.hz_value.specs.Numbers.{safe}
use Rattle.hz_ops.specs.declared.op.Op.{Op}
use Rattle.hz_ops.specs.declared.op.Op.TheVariants as op
use Rattle.hz_ops.specs.declared.op.Operand.{Operand}
use Rattle.hz_ops.specs.declared.op.Operand.TheVariants.{Register, Text, Int}
use Rattle.hz_ops.specs.Table.{kinds_of}
use Rattle.hz_ops.specs.Coding.{operands_fit, fits_of, shortest_of}
use Rattle.hz_ops.specs.Contents.{Content, Undefined, Number, print_name, print_object, text_of}
use Rattle.hz_ops.specs.Contents as content
use Rattle.hz_ops.specs.Activations.{Module, Activation}
use Rattle.hz_ops.specs.Step.{row, cstep, number_to, arithmetic}
use Rattle.hz_ops.specs.Runs.{running}
use Rattle.hz_ops.proofs.Running.{goes_on, leaves, step_in_place}
use Rattle.hz_ops.proofs.Rows.{undefined_loaded, int_loaded, string_loaded, print_loaded, operated}
use Rattle.hermes.specs.first.Texts.{is_number}
use Rattle.hermes.specs.first.Generated.{bytes_of, load_int, combine}
use Rattle.hermes.proofs.first_texts.generating.Between.{at, Between, Leads, leads_by, Gives}

-- an instruction that fits the long form fits the form that it is written in
pub fits_shortest : (operation : Op) (os : List Operand) → operands_fit true (kinds_of operation) os ≡ true
    → fits_of (shortest_of operation os) ≡ true
fits_shortest operation os wide = go (operands_fit false (kinds_of operation) os) refl where
  go : (b : Bool) → operands_fit false (kinds_of operation) os ≡ b → operands_fit (not b) (kinds_of operation) os ≡ true
  go true e = e
  go false e = wide

-- the step over an instruction is its row
pub step_over : (m : Module) (before end : List ℕ) (operation : Op) (os : List Operand) (registers : List Content)
    → Between m before (bytes_of operation os) end → operands_fit true (kinds_of operation) os ≡ true
    → cstep m (at before registers) ≡ row m (length end) (at before registers) os operation
unfolding bytes_of
step_over m before end operation os registers b wide =
    step_in_place m (at before registers) before b.rest (shortest_of operation os) (fits_shortest operation os wide)
    (b.whole ∙ ap (λ e. e ++ b.rest) b.reach) refl
    ∙ ap (λ n. row m n (at before registers) os operation)
    (sym (length-append before (bytes_of operation os)) ∙ ap length (sym b.reach))

-- LoadUndefined
pub loads_undefined : (m : Module) (lines : List (List ℕ)) (before end : List ℕ) (registers : List Content) (r : ℕ)
    (old : Content) → Between m before (bytes_of op.LoadUndefined (Register r ∷ [])) end
    → operands_fit true (kinds_of op.LoadUndefined) (Register r ∷ []) ≡ true → slice_get registers r ≡ Some old
    → Leads m (running lines (at before registers)) (running lines (at end (slice_set registers r Undefined)))
loads_undefined m lines before end registers r old b wide is =
    leads_by m (running lines (at before registers)) (running lines (at end (slice_set registers r Undefined)))
    (goes_on m lines (at before registers) (at end (slice_set registers r Undefined))
    (step_over m before end op.LoadUndefined (Register r ∷ []) registers b wide
    ∙ undefined_loaded (length end) (at before registers) r old is))

-- LoadGlobal of `print`
pub loads_print : (m : Module) (lines : List (List ℕ)) (before end : List ℕ) (registers : List Content) (r s : ℕ)
    (old : Content) → Between m before (bytes_of op.LoadGlobal (Register r ∷ Text s ∷ [])) end
    → operands_fit true (kinds_of op.LoadGlobal) (Register r ∷ Text s ∷ []) ≡ true → slice_get registers r ≡ Some old
    → slice_get m.texts s ≡ Some print_name
    → Leads m (running lines (at before registers)) (running lines (at end (slice_set registers r print_object)))
loads_print m lines before end registers r s old b wide is name =
    leads_by m (running lines (at before registers)) (running lines (at end (slice_set registers r print_object)))
    (goes_on m lines (at before registers) (at end (slice_set registers r print_object))
    (step_over m before end op.LoadGlobal (Register r ∷ Text s ∷ []) registers b wide
    ∙ print_loaded m (length end) (at before registers) r s old is name))

-- LoadString
pub loads_text : (m : Module) (lines : List (List ℕ)) (before end : List ℕ) (registers : List Content) (r s : ℕ)
    (old : Content) (text : List ℕ) → Between m before (bytes_of op.LoadString (Register r ∷ Text s ∷ [])) end
    → operands_fit true (kinds_of op.LoadString) (Register r ∷ Text s ∷ []) ≡ true → slice_get registers r ≡ Some old
    → slice_get m.texts s ≡ Some text
    → Leads m (running lines (at before registers)) (running lines (at end (slice_set registers r (content.Text text))))
loads_text m lines before end registers r s old text b wide is there =
    leads_by m (running lines (at before registers))
    (running lines (at end (slice_set registers r (content.Text text))))
    (goes_on m lines (at before registers) (at end (slice_set registers r (content.Text text)))
    (step_over m before end op.LoadString (Register r ∷ Text s ∷ []) registers b wide
    ∙ string_loaded m (length end) (at before registers) r s old text is there))

-- a number of a first text is safe, and its instruction fits the long form
pub number_safe : (n : ℕ) → is_number n ≡ true → safe (pos n) ≡ Some (pos n)
number_safe n e = ap (λ b. if b then Some (pos n) else None) e

pub number_fits : (r n : ℕ) → nat_lt r (2 ^ 64) ≡ true → is_number n ≡ true
    → operands_fit true (kinds_of op.LoadInt) (Register r ∷ Int (pos n) ∷ []) ≡ true
number_fits r n low e = grind (arith, low, e)

-- LoadInt
pub loads_int : (m : Module) (lines : List (List ℕ)) (before end : List ℕ) (registers : List Content) (r n : ℕ)
    (old : Content) → Between m before (load_int r n) end → nat_lt r (2 ^ 64) ≡ true → is_number n ≡ true
    → slice_get registers r ≡ Some old
    → Leads m (running lines (at before registers)) (running lines (at end (slice_set registers r (Number (pos n)))))
loads_int m lines before end registers r n old b low small is =
    leads_by m (running lines (at before registers)) (running lines (at end (slice_set registers r (Number (pos n)))))
    (goes_on m lines (at before registers) (at end (slice_set registers r (Number (pos n))))
    (step_over m before end op.LoadInt (Register r ∷ Int (pos n) ∷ []) registers b (number_fits r n low small)
    ∙ int_loaded (length end) (at before registers) r old (pos n) is (number_safe n small)))

-- the row of this operation on three registers is this operator
pub record Operates (operation : Op) (operator : ℤ → ℤ → Option ℤ) : Type 0 where
  pub is_row : (m : Module) (next : ℕ) (a : Activation) (r x y : ℕ)
      → row m next a (Register r ∷ Register x ∷ Register y ∷ []) operation ≡ arithmetic operator next a r x y

-- Add, Sub and Mul, with the result in the register of the left number
pub combines : (m : Module) (lines : List (List ℕ)) (before end : List ℕ) (operation : Op) (operator : ℤ → ℤ → Option ℤ)
    (registers : List Content) (to from : ℕ) (u v : ℤ) → Operates operation operator
    → Between m before (combine operation to from) end
    → operands_fit true (kinds_of operation) (Register to ∷ Register to ∷ Register from ∷ []) ≡ true
    → slice_get registers to ≡ Some (Number u) → slice_get registers from ≡ Some (Number v)
    → Gives m lines (running lines (at before registers)) end (λ z after. after ≡ slice_set registers to (Number z))
    (operator u v)
combines m lines before end operation operator registers to from u v operates b wide left_is right_is =
    go (operator u v) refl where
      step : cstep m (at before registers) ≡ number_to (length end) (at before registers) to (operator u v)
      step =
          step_over m before end operation (Register to ∷ Register to ∷ Register from ∷ []) registers b wide
          ∙ operates.is_row m (length end) (at before registers) to to from
          ∙ operated operator (length end) (at before registers) to to from (Number u) u v left_is left_is right_is

      go : (o : Option ℤ) → operator u v ≡ o
          → Gives m lines (running lines (at before registers)) end
          (λ z after. after ≡ slice_set registers to (Number z)) o
      go None e = leaves m lines (at before registers) (at before registers) left.NotSafe
          (step ∙ ap (number_to (length end) (at before registers) to) e)
      go (Some z) e = record {
        registers = slice_set registers to (Number z);
        holds = refl;
        leads = leads_by m (running lines (at before registers))
            (running lines (at end (slice_set registers to (Number z))))
            (goes_on m lines (at before registers) (at end (slice_set registers to (Number z)))
            (step ∙ ap (number_to (length end) (at before registers) to) e));
      }

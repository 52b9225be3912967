-- Steps of code from facts on registers.
use Rattle.std.proofs.Common.{◌≡◌, ℕ, ℤ, ◌+◌, ◌-◌, ◌≤◌, take, drop, append-nil, arith, nat_le, ◌<◌, List, [], map}
use Rattle.std.proofs.Common.{length, None, Some, Result, Ok, Err, refl, sym, ap, ◌∙◌, subst}
use Rattle.std.specs.Prelude.{slice_get, slice_set, option_map, Bool, true, false, IsTrue, ◌↔◌, if◌then◌else◌, bytes_eq}
use Rattle.std.proofs.lemmas.Option.{slice_get-map, slice_get-get_or}
use Rattle.std.proofs.lemmas.List.{map-set, drop-map, take-map, length-map}
use Rattle.std.proofs.lemmas.Bool.Decides.{same_from_decides}
use Rattle.std.proofs.lemmas.Slice.Eq.{bytes_eq-Decides}
use Rattle.hz_value.specs.Numbers.{safe}
use Rattle.hz_ops.specs.Contents.{Content, print_name, print_object, line_of}
use Rattle.hz_ops.specs.Contents as content
use Rattle.hz_ops.specs.Activations.{Module, Activation, written, Next, Goes, Does, Bad, Beyond, Print}
use Rattle.hz_ops.specs.Step.{found_to, held_to, load_int, load_string, number_to, global_to, load_global, row_at}
use Rattle.hz_ops.specs.Step.{line_to}
use Rattle.hz_ops.specs.Runs.{next_system, Running}
use Rattle.hermes.specs.declared.first.run.held.Held.{Held}
use Rattle.hermes.specs.declared.first.run.held.Held.TheVariants.{Undefined, Number}
use Rattle.hermes.specs.declared.first.run.stop.Stop.{Stop}
use Rattle.hermes.specs.first.Rows.{content_of, activation, IsStep, Put, called, CallsPrint}
use Rattle.hermes.specs.Printing.{line_bytes, printed}
use Rattle.hermes.specs.declared.first.run.operands.CallOperands.{CallOperands}

-- what stands behind a step follows from what the step is
pub on_step : {T : Type 0} (n n' : Next) (result : Result T Stop) (a : Activation) → n ≡ n' → IsStep n' result a
    → IsStep n result a
on_step n n' result a e step = subst (λ k. IsStep k result a) (sym e) step

-- a register that is there is written
pub goes : (old : List Held) (r : ℕ) (x : Held) (place next : ℕ) → r < length old
    → held_to r (activation place old) (λ was. Goes (written next r (content_of x) (activation place old)))
    ≡ Goes (activation next (slice_set old r x))
goes old r x place next within =
    let a : Activation = activation place old in
    let go : Content → Next = λ was. Goes (written next r (content_of x) a) in
    let is : slice_get (map content_of old) r ≡ Some _ = slice_get-map content_of old r
    ∙ ap (λ o. option_map content_of o) (slice_get-get_or old r x within) in
    ap (found_to a go) is ∙ ap (λ rs. Goes (record { function = 0; place = next; registers = rs }))
    (sym (map-set content_of old r x))

-- a register that is not there is bad code
pub missing : (old : List Held) (r place : ℕ) (go : Content → Next) → slice_get old r ≡ None
    → held_to r (activation place old) go ≡ Does Bad (activation place old)
missing old r place go none =
    ap (found_to (activation place old) go) (slice_get-map content_of old r ∙ ap (λ o. option_map content_of o) none)

pub put_row : {T : Type 0} (n : Next) (old new : List Held) (r : ℕ) (x : Held) (place next : ℕ) (result : Result T Stop)
    → n ≡ held_to r (activation place old) (λ was. Goes (written next r (content_of x) (activation place old)))
    → Put old new r x result → IsStep n result (activation next new)
put_row n old new r x place next (Ok value) e p =
    on_step n (Goes (activation next new)) (Ok value) (activation next new)
    (e ∙ goes old r x place next p.0 ∙ ap (λ held. Goes (activation next held)) (sym p.1)) (refl, refl)
put_row {T = T} n old new r x place next (Err stop) e p =
    let bad : IsStep {T = T} (Does Bad (activation place old)) (Err stop) (activation next new) =
    subst (λ s. IsStep {T = T} (Does Bad (activation place old)) (Err s) (activation next new)) (sym p.1)
    (refl, refl) in
    on_step {T = T} n (Does Bad (activation place old)) (Err stop) (activation next new) (e ∙ missing old r place _ p.0)
    bad

-- the result of an operator is put into a register that is there
pub put_result : {T : Type 0} (old new : List Held) (r : ℕ) (z : ℤ) (place next : ℕ) (result : Result T Stop)
    → r < length old → Put old new r (Number z) result
    → IsStep (number_to next (activation place old) r (Some z)) result (activation next new)
put_result old new r z place next (Ok value) within p =
    let e : number_to next (activation place old) r (Some z) ≡ Goes (activation next new) =
    ap (λ rs. Goes (record { function = 0; place = next; registers = rs }))
    (sym (map-set content_of old r (Number z)) ∙ ap (map content_of) (sym p.1)) in
    on_step _ (Goes (activation next new)) (Ok value) (activation next new) e (refl, refl)
put_result old new r z place next (Err stop) within p =
    absurd (let e : None ≡ Some _ = sym p.0 ∙ slice_get-get_or old r (Number z) within in cc)

-- ---- rows whose other operand is found

pub int_found : (next : ℕ) (a : Activation) (r : ℕ) (i z : ℤ) → safe i ≡ Some z
    → load_int next a r i ≡ held_to r a (λ was. Goes (written next r (content.Number z) a))
int_found next a r i z e = ap (λ o. held_to r a (λ was. found_to a (λ k. Goes (written next r (content.Number k) a)) o))
    e

pub text_found : (m : Module) (next : ℕ) (a : Activation) (r s : ℕ) (text : List ℕ) → slice_get m.texts s ≡ Some text
    → load_string m next a r s ≡ held_to r a (λ was. Goes (written next r (content.Text text) a))
text_found m next a r s text e =
    ap (λ o. held_to r a (λ was. found_to a (λ t. Goes (written next r (content.Text t) a)) o)) e

-- ---- the global

-- goes on with what a register holds
pub present : (old : List Held) (r place : ℕ) (h : Held) (go : Content → Next) → slice_get old r ≡ Some h
    → held_to r (activation place old) go ≡ go (content_of h)
present old r place h go some =
    ap (found_to (activation place old) go) (slice_get-map content_of old r ∙ ap (λ o. option_map content_of o) some)

pub print_test : (test : Bool) (name : List ℕ) → (IsTrue test ↔ (name ≡ print_name)) → bytes_eq name print_name ≡ test
print_test test name decides =
    same_from_decides (bytes_eq name print_name) test (bytes_eq-Decides name print_name) decides

pub global_print : (m : Module) (next : ℕ) (a : Activation) (r s : ℕ) (name : List ℕ) → slice_get m.texts s ≡ Some name
    → bytes_eq name print_name ≡ true
    → load_global m next a r s ≡ held_to r a (λ was. Goes (written next r print_object a))
global_print m next a r s name e is =
    ap (λ o. held_to r a (λ was. found_to a (global_to next a r) o)) e
    ∙ ap (λ b. held_to r a (λ was. if b then Goes (written next r print_object a) else Does Beyond a)) is

pub global_other : (m : Module) (next place : ℕ) (old : List Held) (r s : ℕ) (h : Held) (name : List ℕ)
    → slice_get old r ≡ Some h → slice_get m.texts s ≡ Some name → bytes_eq name print_name ≡ false
    → load_global m next (activation place old) r s ≡ Does Beyond (activation place old)
global_other m next place old r s h name there e other =
    let a : Activation = activation place old in
    present old r place h (λ was. found_to a (global_to next a r) (slice_get m.texts s)) there
    ∙ ap (found_to a (global_to next a r)) e
    ∙ ap (λ b. if b then Goes (written next r print_object a) else Does Beyond a) other

-- ---- the call

pub row_found : (held : List Held) (first n : ℕ) → first + n ≤ length held
    → row_at (map content_of held) first n ≡ Some (map content_of (take (first + n - first) (drop first held)))
row_found held first n within =
    let test : nat_le (first + n) (length (map content_of held)) ≡ true = simp length-map (grind (arith, within)) in
    let count : first + n - first ≡ n = omega arith in
    ap (λ b. if b then Some (take n (drop first (map content_of held))) else None) test
    ∙ ap Some (ap (take n) (drop-map content_of first held) ∙ take-map content_of n (drop first held)
    ∙ ap (λ k. map content_of (take k (drop first held))) (sym count))

pub printed_row : (held new : List Held) (c : CallOperands) (arguments : List Held) (line bytes : List ℕ)
    (place next : ℕ)
    → CallsPrint held c arguments → line_of (map content_of arguments) ≡ Some line → bytes ≡ line_bytes line
    → new ≡ slice_set held c.result Undefined
    → (bytes ≡ printed (next_system [] (called place next held c)).lines)
    × (length (next_system [] (called place next held c)).lines ≡ 1)
    × ((next_system [] (called place next held c)).state ≡ Running (activation next new))
printed_row held new c arguments line bytes place next calls made spelled put =
    let a : Activation = activation place held in
    let e : called place next held c ≡ Does (Print line) (written next c.result content.Undefined a) =
    calls.1 place next ∙ ap (line_to next a c.result) made in (
      spelled ∙ sym (append-nil (line_bytes line)) ∙ sym (ap (λ n. printed (next_system [] n).lines) e),
      ap (λ n. length (next_system [] n).lines) e,
      ap (λ n. (next_system [] n).state) e
          ∙ ap (λ rs. Running (record { function = 0; place = next; registers = rs }))
          (sym (map-set content_of held c.result Undefined) ∙ ap (map content_of) (sym put)),
    )

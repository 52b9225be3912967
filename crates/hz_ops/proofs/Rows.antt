-- What each row does where its operands are there.
use Rattle.std.proofs.Common.{refl, ◌≡◌, ℕ, List, ap, ◌∙◌, ℤ}
use Rattle.std.specs.Prelude.{Option, Some, None, slice_get}
use Rattle.hz_value.specs.Numbers.{safe}
use Rattle.hz_ops.specs.Contents.{Content, Undefined, Number, Text, print_name, print_object, line_of}
use Rattle.hz_ops.specs.Activations.{Module, Activation, written, Print, Return, Bad, Next, Goes, Does}
use Rattle.hz_ops.specs.Step.{found_to, held_to, load_undefined, load_int, load_string, global_to, load_global}
use Rattle.hz_ops.specs.Step.{number_to, on_numbers, arithmetic, return_from, row_at, line_to, called_to, call}

-- goes on with what the register holds
pub held : (a : Activation) (r : ℕ) (x : Content) (go : Content → Next) → slice_get a.registers r ≡ Some x →
    held_to r a go ≡ go x
held a r x go e = ap (found_to a go) e

-- a register that is not there
pub not_held : (a : Activation) (r : ℕ) (go : Content → Next) → slice_get a.registers r ≡ None →
    held_to r a go ≡ Does Bad a
not_held a r go e = ap (found_to a go) e

-- a row is bad code where what comes behind an operand is so in each case
pub bad_behind : (a : Activation) (r : ℕ) (go : Content → Next) → ((x : Content) → go x ≡ Does Bad a) →
    held_to r a go ≡ Does Bad a
bad_behind a r go bad = by_found (slice_get a.registers r) where
  by_found : (found : Option Content) → found_to a go found ≡ Does Bad a
  by_found None = refl
  by_found (Some x) = bad x

pub bad_int : (next : ℕ) (a : Activation) (r : ℕ) (z : ℤ) → safe z ≡ None → load_int next a r z ≡ Does Bad a
bad_int next a r z unsafe = let load : ℤ → Next = λ y. Goes (written next r (Number y) a) in
    bad_behind a r (λ x. found_to a load (safe z)) (λ x. ap (found_to a load) unsafe)

pub undefined_loaded : (next : ℕ) (a : Activation) (r : ℕ) (old : Content) → slice_get a.registers r ≡ Some old →
    load_undefined next a r ≡ Goes (written next r Undefined a)
undefined_loaded next a r old e = held a r old (λ x. Goes (written next r Undefined a)) e

pub int_loaded : (next : ℕ) (a : Activation) (r : ℕ) (old : Content) (z : ℤ) → slice_get a.registers r ≡ Some old →
    safe z ≡ Some z → load_int next a r z ≡ Goes (written next r (Number z) a)
int_loaded next a r old z e is_safe =
    let load : ℤ → Next = λ y. Goes (written next r (Number y) a) in
    held a r old (λ x. found_to a load (safe z)) e ∙ ap (found_to a load) is_safe

pub returned : (a : Activation) (r : ℕ) (x : Content) → slice_get a.registers r ≡ Some x →
    return_from a r ≡ Does (Return x) a
returned a r x e = held a r x (λ y. Does (Return y) a) e

-- ---- rows with a text

module _ (m : Module) (next : ℕ) (a : Activation) (r s : ℕ) where
  pub bad_string : slice_get m.texts s ≡ None →
      load_string m next a r s ≡ Does Bad a
  bad_string missing = let load : List ℕ → Next = λ y. Goes (written next r (Text y) a) in
      bad_behind a r (λ x. found_to a load (slice_get m.texts s)) (λ x. ap (found_to a load) missing)

  pub bad_global : slice_get m.texts s ≡ None →
      load_global m next a r s ≡ Does Bad a
  bad_global missing =
      bad_behind a r (λ x. found_to a (global_to next a r) (slice_get m.texts s))
      (λ x. ap (found_to a (global_to next a r)) missing)

  pub string_loaded : (old : Content) (t : List ℕ) →
      slice_get a.registers r ≡ Some old → slice_get m.texts s ≡ Some t →
      load_string m next a r s ≡ Goes (written next r (Text t) a)
  string_loaded old t e text =
      let load : List ℕ → Next = λ y. Goes (written next r (Text y) a) in
      held a r old (λ x. found_to a load (slice_get m.texts s)) e ∙ ap (found_to a load) text

  pub print_loaded : (old : Content) →
      slice_get a.registers r ≡ Some old → slice_get m.texts s ≡ Some print_name →
      load_global m next a r s ≡ Goes (written next r print_object a)
  print_loaded old e text =
      held a r old (λ x. found_to a (global_to next a r) (slice_get m.texts s)) e
      ∙ ap (found_to a (global_to next a r)) text

-- ---- an operator

module _ (operator : ℤ → ℤ → Option ℤ) (next : ℕ) (a : Activation) (r x y : ℕ) where
  -- an operator, where one of its registers is not there
  pub bad_left : slice_get a.registers x ≡ None → arithmetic operator next a r x y ≡ Does Bad a
  bad_left missing =
      let last : Content → Content → Next = on_numbers operator next a r in
      bad_behind a r (λ w. held_to x a (λ p. held_to y a (λ q. last p q)))
      (λ w. not_held a x (λ p. held_to y a (λ q. last p q)) missing)

  pub bad_right : slice_get a.registers y ≡ None → arithmetic operator next a r x y ≡ Does Bad a
  bad_right missing =
      let last : Content → Content → Next = on_numbers operator next a r in
      bad_behind a r (λ w. held_to x a (λ p. held_to y a (λ q. last p q)))
      (λ w. bad_behind a x (λ p. held_to y a (λ q. last p q)) (λ p. not_held a y (λ q. last p q) missing))

  -- an operator on two numbers: what it gives is written, or the run is left
  pub operated : (old : Content) (u v : ℤ) →
      slice_get a.registers r ≡ Some old → slice_get a.registers x ≡ Some (Number u) →
      slice_get a.registers y ≡ Some (Number v) → arithmetic operator next a r x y ≡ number_to next a r (operator u v)
  operated old u v e left right =
      let last : Content → Content → Next = on_numbers operator next a r in
      held a r old (λ w. held_to x a (λ p. held_to y a (λ q. last p q))) e
      ∙ held a x (Number u) (λ p. held_to y a (λ q. last p q)) left
      ∙ held a y (Number v) (λ q. last (Number u) q) right

-- ---- a call

module _ (next : ℕ) (a : Activation) (r callee this first n : ℕ) (old receiver argument : Content) where
  -- a call of `print` whose arguments have texts
  pub printed : (arguments : List Content) (line : List ℕ) → slice_get a.registers r ≡ Some old →
      slice_get a.registers callee ≡ Some print_object → slice_get a.registers this ≡ Some receiver →
      slice_get a.registers first ≡ Some argument → row_at a.registers first n ≡ Some arguments →
      line_of arguments ≡ Some line → call next a r callee this first n ≡ Does (Print line) (written next r Undefined a)
  printed arguments line e function there begins are text =
      let last : Content → Next = λ f. found_to a (called_to next a r f) (row_at a.registers first n) in
      held a r old (λ w. held_to callee a (λ f. held_to this a (λ p. held_to first a (λ q. last f)))) e
      ∙ held a callee print_object (λ f. held_to this a (λ p. held_to first a (λ q. last f))) function
      ∙ held a this receiver (λ p. held_to first a (λ q. last print_object)) there
      ∙ held a first argument (λ q. last print_object) begins
      ∙ ap (found_to a (called_to next a r print_object)) are
      ∙ ap (line_to next a r) text

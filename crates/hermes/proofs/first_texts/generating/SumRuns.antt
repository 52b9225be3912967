-- Runs of the code of sums.
use Rattle.std.proofs.Common.{◌≡◌, ℕ, ◌^◌, true, ◌&&◌, List, [], ◌∷◌, ◌++◌, refl, ap, ◌∙◌, sym, subst, ℤ, pos}
use Rattle.std.specs.Prelude.{nat_lt, Some, slice_get, slice_set, flat_map, option_and_then}
use Rattle.std.specs.List.{list_all}
use Rattle.hz_value.specs.Numbers.{product_of}
use Rattle.hz_ops.specs.declared.op.Op.TheVariants as op
use Rattle.hz_ops.specs.declared.op.Operand.TheVariants.{Register}
use Rattle.hz_ops.specs.Table.{kinds_of}
use Rattle.hz_ops.specs.Coding.{operands_fit}
use Rattle.hz_ops.specs.Contents.{Content, Number}
use Rattle.hz_ops.specs.Activations.{Module}
use Rattle.hz_ops.specs.Runs.{running}
use Rattle.hz_ops.proofs.Fitting.{both}
use Rattle.hermes.specs.declared.first.language.Sign.{Sign}
use Rattle.hermes.specs.declared.first.language.Sign.TheVariants.{Plus, Minus}
use Rattle.hermes.specs.declared.first.language.Term.{Term}
use Rattle.hermes.specs.declared.first.language.Addend.{Addend}
use Rattle.hermes.specs.declared.first.language.Sum.{Sum}
use Rattle.hermes.specs.first.Texts.{is_number, is_term, is_addend, is_sum}
use Rattle.hermes.specs.first.Saying.{times, term_value, signed_sum, plus, sum_value}
use Rattle.hermes.specs.first.Generated.{argument_register, term, factor, load_int, combine, factor_code, term_code}
use Rattle.hermes.specs.first.Generated.{sign_operation, addend_code, sum_code}
use Rattle.hermes.proofs.first_texts.generating.Between.{at, Between, front_part, back_part, Leads, leads_over_none}
use Rattle.hermes.proofs.first_texts.generating.Between.{Gives, gives_behind, gives_next}
use Rattle.hermes.proofs.first_texts.generating.Instructions.{loads_int, Operates, combines}

-- the registers: callee, this, argument, term and factor
abbrev pub five : Content → Content → Content → Content → Content → List Content
five c t s p f = c ∷ t ∷ s ∷ p ∷ f ∷ []

-- ---- products

-- registers with a product in one of them and a factor in its own
pub record IsPlace (to : ℕ) (registers : Content → Content → List Content) : Type 0 where
  pub low : nat_lt to (2 ^ 64) ≡ true
  pub put : (p f x : Content) → slice_set (registers p f) to x ≡ registers x f
  pub got : (p f : Content) → slice_get (registers p f) to ≡ Some p
  pub put_factor : (p f x : Content) → slice_set (registers p f) factor x ≡ registers p x
  pub got_factor : (p f : Content) → slice_get (registers p f) factor ≡ Some f

pub record HoldsProduct (registers : Content → Content → List Content) (z : ℤ) (after : List Content) : Type 0 where
  pub factor_left : Content
  pub is : after ≡ registers (Number z) factor_left

pub multiplies : Operates op.Mul product_of
multiplies = record { is_row = λ m next a r x y. refl }

product_fits : (to : ℕ) → nat_lt to (2 ^ 64) ≡ true
    → operands_fit true (kinds_of op.Mul) (Register to ∷ Register to ∷ Register factor ∷ []) ≡ true
product_fits to low = ap (λ b. b && (b && true)) low

module _ (m : Module) (lines : List (List ℕ)) (to : ℕ) (registers : Content → Content → List Content)
    (place : IsPlace to registers) where
  pub factors_run : (factors : List ℕ) (z : ℤ) (f : Content) (before end : List ℕ) → list_all is_number factors ≡ true
      → Between m before (flat_map (factor_code to) factors) end
      → Gives m lines (running lines (at before (registers (Number z) f))) end (HoldsProduct registers)
      (times z factors)
  factors_run [] z f before end all b = record {
    registers = registers (Number z) f;
    holds = record { factor_left = f; is = refl };
    leads = leads_over_none m lines (registers (Number z) f) before end b;
  }
  factors_run (n ∷ factors) z f before end all b =
      let here : (is_number n ≡ true) × (list_all is_number factors ≡ true) =
      both (is_number n) (list_all is_number factors) all in
      let load : List ℕ = load_int factor n in
      let multiply : List ℕ = combine op.Mul to factor in
      let first : Between m before (load ++ multiply) (before ++ (load ++ multiply)) =
      front_part m before (load ++ multiply) (flat_map (factor_code to) factors) end b in
      let behind : Between m (before ++ (load ++ multiply)) (flat_map (factor_code to) factors) end =
      back_part m before (load ++ multiply) (flat_map (factor_code to) factors) end b in
      let loaded : List Content = registers (Number z) (Number (pos n)) in
      gives_behind m lines (running lines (at before (registers (Number z) f)))
      (running lines (at (before ++ load) loaded)) end (HoldsProduct registers) (times z (n ∷ factors))
      (let P : List Content → Type 0 =
      λ rs. Leads m (running lines (at before (registers (Number z) f))) (running lines (at (before ++ load) rs)) in
      subst P (place.put_factor (Number z) f (Number (pos n)))
      (loads_int m lines before (before ++ load) (registers (Number z) f) factor n f
      (front_part m before load multiply (before ++ (load ++ multiply)) first) refl here.0
      (place.got_factor (Number z) f)))
      (gives_next m lines (running lines (at (before ++ load) loaded)) (before ++ (load ++ multiply)) end
      (λ w after. after ≡ slice_set loaded to (Number w)) (HoldsProduct registers) (λ w. times w factors)
      (product_of z (pos n))
      (combines m lines (before ++ load) (before ++ (load ++ multiply)) op.Mul product_of loaded to factor z (pos n)
      multiplies (back_part m before load multiply (before ++ (load ++ multiply)) first) (product_fits to place.low)
      (place.got (Number z) (Number (pos n))) (place.got_factor (Number z) (Number (pos n))))
      (λ w after is.
      let P : List Content → Type 0 =
      λ rs. Gives m lines (running lines (at (before ++ (load ++ multiply)) rs)) end (HoldsProduct registers)
      (times w factors) in
      subst P (sym (is ∙ place.put (Number z) (Number (pos n)) (Number w)))
      (factors_run factors w (Number (pos n)) (before ++ (load ++ multiply)) end here.1 behind)))

  pub term_runs : (t : Term) (p f : Content) (before end : List ℕ) → is_term t ≡ true
      → Between m before (term_code to t) end
      → Gives m lines (running lines (at before (registers p f))) end (HoldsProduct registers) (term_value t)
  term_runs t p f before end all b =
      let here : (is_number t.first ≡ true) × (list_all is_number t.others ≡ true) =
      both (is_number t.first) (list_all is_number t.others) all in
      let load : List ℕ = load_int to t.first in
      gives_behind m lines (running lines (at before (registers p f)))
      (running lines (at (before ++ load) (registers (Number (pos t.first)) f))) end (HoldsProduct registers)
      (term_value t)
      (let P : List Content → Type 0 =
      λ rs. Leads m (running lines (at before (registers p f))) (running lines (at (before ++ load) rs)) in
      subst P (place.put p f (Number (pos t.first)))
      (loads_int m lines before (before ++ load) (registers p f) to t.first p
      (front_part m before load (flat_map (factor_code to) t.others) end b) place.low here.0 (place.got p f)))
      (factors_run t.others (pos t.first) f (before ++ load) end here.1
      (back_part m before load (flat_map (factor_code to) t.others) end b))

-- ---- sums

-- registers with a sum in the argument's, and these in front of it
pub record HoldsSum (c t : Content) (z : ℤ) (after : List Content) : Type 0 where
  pub term_left : Content
  pub factor_left : Content
  pub is : after ≡ five c t (Number z) term_left factor_left

pub in_term : (c t s : Content) → IsPlace term (λ p f. five c t s p f)
in_term c t s = record {
  low = refl;
  put = λ p f x. refl;
  got = λ p f. refl;
  put_factor = λ p f x. refl;
  got_factor = λ p f. refl;
}

pub in_argument : (c t p : Content) → IsPlace argument_register (λ s f. five c t s p f)
in_argument c t p = record {
  low = refl;
  put = λ s f x. refl;
  got = λ s f. refl;
  put_factor = λ s f x. refl;
  got_factor = λ s f. refl;
}

pub adds_signed : (sign : Sign) → Operates (sign_operation sign) (signed_sum sign)
adds_signed Plus = record { is_row = λ m next a r x y. refl }
adds_signed Minus = record { is_row = λ m next a r x y. refl }

sign_fits : (sign : Sign) → operands_fit true (kinds_of (sign_operation sign))
    (Register argument_register ∷ Register argument_register ∷ Register term ∷ []) ≡ true
sign_fits Plus = refl
sign_fits Minus = refl

module _ (m : Module) (lines : List (List ℕ)) (c t : Content) where
  pub addends_run : (addends : List Addend) (z : ℤ) (p f : Content) (before end : List ℕ)
      → list_all is_addend addends ≡ true → Between m before (flat_map addend_code addends) end
      → Gives m lines (running lines (at before (five c t (Number z) p f))) end (HoldsSum c t) (plus z addends)
  addends_run [] z p f before end all b = record {
    registers = five c t (Number z) p f;
    holds = record { term_left = p; factor_left = f; is = refl };
    leads = leads_over_none m lines (five c t (Number z) p f) before end b;
  }
  addends_run (a ∷ addends) z p f before end all b =
      let here : (is_addend a ≡ true) × (list_all is_addend addends ≡ true) =
      both (is_addend a) (list_all is_addend addends) all in
      let load : List ℕ = term_code term a.term in
      let add : List ℕ = combine (sign_operation a.sign) argument_register term in
      let first : Between m before (load ++ add) (before ++ (load ++ add)) =
      front_part m before (load ++ add) (flat_map addend_code addends) end b in
      let behind : Between m (before ++ (load ++ add)) (flat_map addend_code addends) end =
      back_part m before (load ++ add) (flat_map addend_code addends) end b in
      gives_next m lines (running lines (at before (five c t (Number z) p f))) (before ++ load) end
      (HoldsProduct (λ q g. five c t (Number z) q g)) (HoldsSum c t)
      (λ w. option_and_then (λ x. plus x addends) (signed_sum a.sign z w)) (term_value a.term)
      (term_runs m lines term (λ q g. five c t (Number z) q g) (in_term c t (Number z)) a.term p f before
      (before ++ load) here.0 (front_part m before load add (before ++ (load ++ add)) first))
      (λ w after held.
      let P : List Content → Type 0 =
      λ rs. Gives m lines (running lines (at (before ++ load) rs)) end (HoldsSum c t)
      (option_and_then (λ x. plus x addends) (signed_sum a.sign z w)) in
      let loaded : List Content = five c t (Number z) (Number w) held.factor_left in
      subst P (sym held.is)
      (gives_next m lines (running lines (at (before ++ load) loaded)) (before ++ (load ++ add)) end
      (λ x later. later ≡ slice_set loaded argument_register (Number x)) (HoldsSum c t) (λ x. plus x addends)
      (signed_sum a.sign z w)
      (combines m lines (before ++ load) (before ++ (load ++ add)) (sign_operation a.sign) (signed_sum a.sign) loaded
      argument_register term z w (adds_signed a.sign) (back_part m before load add (before ++ (load ++ add)) first)
      (sign_fits a.sign) refl refl)
      (λ x later is.
      let Q : List Content → Type 0 =
      λ rs. Gives m lines (running lines (at (before ++ (load ++ add)) rs)) end (HoldsSum c t) (plus x addends) in
      subst Q (sym is) (addends_run addends x (Number w) held.factor_left (before ++ (load ++ add)) end here.1
      behind))))

  pub sum_runs : (s : Sum) (old p f : Content) (before end : List ℕ) → is_sum s ≡ true
      → Between m before (sum_code s) end
      → Gives m lines (running lines (at before (five c t old p f))) end (HoldsSum c t) (sum_value s)
  sum_runs s old p f before end all b =
      let here : (is_term s.first ≡ true) × (list_all is_addend s.others ≡ true) =
      both (is_term s.first) (list_all is_addend s.others) all in
      let load : List ℕ = term_code argument_register s.first in
      gives_next m lines (running lines (at before (five c t old p f))) (before ++ load) end
      (HoldsProduct (λ q g. five c t q p g)) (HoldsSum c t) (λ z. plus z s.others) (term_value s.first)
      (term_runs m lines argument_register (λ q g. five c t q p g) (in_argument c t p) s.first old f before
      (before ++ load) here.0 (front_part m before load (flat_map addend_code s.others) end b))
      (λ z after held.
      let P : List Content → Type 0 =
      λ rs. Gives m lines (running lines (at (before ++ load) rs)) end (HoldsSum c t) (plus z s.others) in
      subst P (sym held.is) (addends_run s.others z p held.factor_left (before ++ load) end here.1
      (back_part m before load (flat_map addend_code s.others) end b)))

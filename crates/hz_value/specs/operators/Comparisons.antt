-- Comparisons (ECMA-262, 7.2, 13.10 and 13.11).
use Rattle.std.specs.Prelude.{ℕ, ℤ, pos, Bool, true, false, not, ◌||◌, ◌&&◌, ◌==◌, nat_lt, if◌then◌else◌, int_lt}
use Rattle.std.specs.Prelude.{List, [], ◌∷◌, bytes_eq}
use Rattle.std.specs.Bool.{beq}
use Rattle.std.specs.Ordering.{int_eq}
use Rattle.hz_value.specs.declared.leaving.Left.TheVariants as left
use Rattle.hz_value.specs.operators.Contents.{Content, Undefined, Null, Boolean, Number, Text, Symbol, Object}
use Rattle.hz_value.specs.operators.Computed.{Computed, Gives, Leaves, and_then}
use Rattle.hz_value.specs.operators.Conversions.{to_primitive, to_number}

-- ---- order (13.10)

-- the first text stands before the second, unit by unit
abbrev pub is_before : List ℕ → List ℕ → Bool
is_before us [] = false
is_before [] (v ∷ vs) = true
is_before (u ∷ us) (v ∷ vs) = nat_lt u v || (u == v && is_before us vs)

-- IsLessThan (7.2.12) from its step 3 on, where both are primitives: x becomes a number first
abbrev pub is_less : Content → Content → Computed Bool
is_less (Text s) (Text t) = Gives (is_before s t)
is_less x y = and_then (to_number x) (λ a. and_then (to_number y) (λ b. Gives (int_lt a b)))

-- both become primitives from left to right
abbrev pub with_primitives : (Content → Content → Computed Bool) → Content → Content → Computed Bool
with_primitives compare u v = and_then (to_primitive u) (λ p. and_then (to_primitive v) (λ q. compare p q))

abbrev pub negated : Computed Bool → Computed Bool
negated found = and_then found (λ b. Gives (not b))

-- `<`, `>`, `<=` and `>=`: of `>` and `<=` the right operand becomes a number first
abbrev pub less : Content → Content → Computed Bool
less = with_primitives (λ p q. is_less p q)

abbrev pub greater : Content → Content → Computed Bool
greater = with_primitives (λ p q. is_less q p)

abbrev pub less_or_equal : Content → Content → Computed Bool
less_or_equal = with_primitives (λ p q. negated (is_less q p))

abbrev pub greater_or_equal : Content → Content → Computed Bool
greater_or_equal = with_primitives (λ p q. negated (is_less p q))

-- ---- equality (13.11)

-- IsStrictlyEqual (7.2.14)
abbrev pub strictly_equal : Content → Content → Bool
strictly_equal Undefined Undefined = true
strictly_equal Null Null = true
strictly_equal (Boolean a) (Boolean b) = beq a b
strictly_equal (Number a) (Number b) = int_eq a b
strictly_equal (Text s) (Text t) = bytes_eq s t
strictly_equal (Symbol a) (Symbol b) = a == b
strictly_equal (Object a) (Object b) = a == b
strictly_equal u v = false

-- a number against what has another type
abbrev pub equal_to_number : ℤ → Content → Computed Bool
equal_to_number a (Number b) = Gives (int_eq a b)
equal_to_number a (Text t) = and_then (to_number (Text t)) (λ b. Gives (int_eq a b))
equal_to_number a (Object o) = Leaves left.NotBuilt
equal_to_number a v = Gives false

-- an object against a primitive: undefined and null are equal to none (7.2.13, steps 11 and 12)
abbrev pub equal_to_object : ℕ → Content → Computed Bool
equal_to_object a (Object b) = Gives (a == b)
equal_to_object a Undefined = Gives false
equal_to_object a Null = Gives false
equal_to_object a v = Leaves left.NotBuilt

-- a boolean counts as its number (7.2.13, steps 9 and 10)
abbrev pub number_for_boolean : Content → Content
number_for_boolean (Boolean b) = Number (if b then pos 1 else pos 0)
number_for_boolean u = u

-- values that are no booleans
abbrev pub equal_by_type : Content → Content → Computed Bool
equal_by_type Undefined Null = Gives true
equal_by_type Null Undefined = Gives true
equal_by_type (Number a) v = equal_to_number a v
equal_by_type u (Number b) = equal_to_number b u
equal_by_type (Object a) v = equal_to_object a v
equal_by_type u (Object b) = equal_to_object b u
equal_by_type u v = Gives (strictly_equal u v)

-- IsLooselyEqual (7.2.13)
abbrev pub loosely_equal : Content → Content → Computed Bool
loosely_equal u v = equal_by_type (number_for_boolean u) (number_for_boolean v)

-- Comparisons by order, by their names.
use Rattle.std.specs.Prelude.{Bool, int_lt}
use Rattle.hz_value.specs.operators.Contents.{Content}
use Rattle.hz_value.specs.operators.Computed.{Computed, Gives, and_then}
use Rattle.hz_value.specs.operators.Conversions.{to_number}
use Rattle.hz_value.specs.operators.Comparisons.{less, greater, less_or_equal, greater_or_equal, is_less, negated}
use Rattle.hz_operators.specs.declared.comparisons.Order.{Order}
use Rattle.hz_operators.specs.declared.comparisons.Order.TheVariants.{Less, LessOrEqual, Greater, GreaterOrEqual}

abbrev pub by_order : Order → Content → Content → Computed Bool
by_order Less u v = less u v
by_order LessOrEqual u v = less_or_equal u v
by_order Greater u v = greater u v
by_order GreaterOrEqual u v = greater_or_equal u v

-- the same of primitives
abbrev pub of_primitives : Order → Content → Content → Computed Bool
of_primitives Less p q = is_less p q
of_primitives LessOrEqual p q = negated (is_less q p)
of_primitives Greater p q = is_less q p
of_primitives GreaterOrEqual p q = negated (is_less p q)

-- the first becomes a number first
abbrev pub less_as_numbers : Content → Content → Computed Bool
less_as_numbers x y = and_then (to_number x) (λ a. and_then (to_number y) (λ b. Gives (int_lt a b)))

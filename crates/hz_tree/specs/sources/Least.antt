-- Of what stands against a source at several places, the first: the least by place, and at one place by kind.
-- Each is a kind and its place; `order` numbers the kinds.
use Rattle.std.specs.Prelude.{ℕ, Bool, ◌&&◌, ◌||◌, ◌==◌, nat_lt, if◌then◌else◌, List, [], ◌∷◌, Option, Some, None}

abbrev pub precedes : {K : Type 0} → (K → ℕ) → K × ℕ → K × ℕ → Bool
precedes order x y = nat_lt x.1 y.1 || (x.1 == y.1 && nat_lt (order x.0) (order y.0))

abbrev pub lesser : {K : Type 0} → (K → ℕ) → Option (K × ℕ) → Option (K × ℕ) → Option (K × ℕ)
lesser order None y = y
lesser order (Some x) None = Some x
lesser order (Some x) (Some y) = if precedes order y x then Some y else Some x

abbrev pub least_of : {K : Type 0} → (K → ℕ) → List (K × ℕ) → Option (K × ℕ)
least_of order [] = None
least_of order (x ∷ xs) = lesser order (Some x) (least_of order xs)

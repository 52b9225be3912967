-- Lists in layers: one list for each open scope. They are stored as one list with the places at which the layers start.
use Rattle.std.specs.Prelude.{◌≤◌, ℕ, List, [], ◌∷◌, ◌++◌, map, take, drop}

pub record Layers (X : Type 0) : Type 0 where
  pub inner : List X  -- of the innermost scope
  pub outer : List (List X)  -- of those round it, from there outwards

abbrev pub nothing : {X : Type 0} → Layers X
nothing = record { inner = []; outer = [] }

-- the list of the innermost of these, or none
abbrev pub innermost : {X : Type 0} → List (List X) → List X
innermost [] = []
innermost (xs ∷ outer) = xs

-- a scope begins
abbrev pub opened : {X : Type 0} → Layers X → Layers X
opened l = record { inner = []; outer = l.inner ∷ l.outer }

abbrev pub pushed : {X : Type 0} → X → Layers X → Layers X
pushed x l = record { inner = l.inner ++ x ∷ []; outer = l.outer }

-- a scope ends, and what belongs to it goes
abbrev pub closed : {X : Type 0} → Layers X → Layers X
closed l = record { inner = innermost l.outer; outer = drop 1 l.outer }

-- a scope ends, and what belongs to it goes to the one round it
abbrev pub joined : {X : Type 0} → Layers X → Layers X
joined l = record { inner = innermost l.outer ++ l.inner; outer = drop 1 l.outer }

abbrev pub each : {X Y : Type 0} → (List X → List Y) → Layers X → Layers Y
each f l = record { inner = f l.inner; outer = map f l.outer }

-- ---- as they are stored: the places from the innermost scope's outwards. The outermost layer starts at 0.

abbrev pub first_start : List ℕ → ℕ
first_start [] = 0
first_start (m ∷ starts) = m

abbrev pub around : {X : Type 0} → List ℕ → List X → List (List X)
around [] xs = []
around (m ∷ starts) xs = drop (first_start starts) (take m xs) ∷ around starts (take m xs)

abbrev pub layers_of : {X : Type 0} → List ℕ → List X → Layers X
layers_of starts xs = record { inner = drop (first_start starts) xs; outer = around starts xs }

-- layers start one behind the other, none behind `end`
abbrev pub AreNested : List ℕ → (end : ℕ) → Type 0
AreNested [] end = Unit {0}
AreNested (m ∷ starts) end = (m ≤ end) × AreNested starts m

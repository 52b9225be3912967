-- What stored layers show, step by step.
use Rattle.std.proofs.Common.{◌≡◌, ◌≤◌, ◌<◌, ◌-◌, ℕ, List, [], ◌∷◌, ◌++◌, length, take, drop, reverse, refl, sym}
use Rattle.std.proofs.Common.{ap, ◌∙◌, arith, Some, get_or}
use Rattle.std.specs.List.{slice_get}
use Rattle.std.proofs.lemmas.Option.{slice_get_within, slice_get-get_or}
use Rattle.std.proofs.lemmas.List.{get_or-reverse, length-reverse, take-append-le, drop-append-le, take-append-drop}
use Rattle.std.proofs.lemmas.List.{length-take-le, take-take, take_all, drop_all}
use Rattle.hz_scopes.specs.Layers.{Layers, opened, pushed, closed, joined, first_start, around}
use Rattle.hz_scopes.specs.Layers.{layers_of, AreNested}

-- the last place is that of the innermost layer
pub last_start : (places : List ℕ) (m : ℕ) → Some m ≡ slice_get places (length places - 1)
    → m ≡ first_start (reverse places)
last_start places m is =
    let within : length places - 1 < length places = slice_get_within places (length places - 1) m (sym is) in
    let one : 0 < length places = omega (arith, within) in
    let read : m ≡ get_or places (length places - 1) m = cc (is, slice_get-get_or places (length places - 1) m within)
    in
    let at_start : get_or places (length places - 1) m ≡ get_or (reverse places) 0 m =
    ap (λ k. get_or places k m) (omega arith) ∙ sym (get_or-reverse places 0 m one) in
    first (reverse places) m (omega (arith, one, length-reverse places)) (read ∙ at_start)
  where
    first : (starts : List ℕ) (m : ℕ) → 0 < length starts → m ≡ get_or starts 0 m → m ≡ first_start starts
    first [] m some is = absurd (omega (arith, some))
    first (n ∷ starts) m some is = is

pub start_within : (starts : List ℕ) (end : ℕ) → AreNested starts end → first_start starts ≤ end
start_within [] end nested = omega arith
start_within (m ∷ starts) end nested = nested.0

-- more at the end changes no layer but the innermost one
around_append : {X : Type 0} (starts : List ℕ) (xs ys : List X) → AreNested starts (length xs)
    → around starts (xs ++ ys) ≡ around starts xs
around_append [] xs ys nested = refl
around_append (m ∷ starts) xs ys nested =
    ap (λ zs. drop (first_start starts) zs ∷ around starts zs) (take-append-le m xs ys nested.0)

pub layers_push : {X : Type 0} (starts : List ℕ) (xs : List X) (x : X) → AreNested starts (length xs)
    → layers_of starts (xs ++ x ∷ []) ≡ pushed x (layers_of starts xs)
layers_push {X} starts xs x nested =
    let make : List X → List (List X) → Layers X = λ inner outer. record { inner = inner; outer = outer } in
    ap (λ inner. make inner (around starts (xs ++ x ∷ [])))
    (drop-append-le (first_start starts) xs (x ∷ []) (start_within starts (length xs) nested))
    ∙ ap (make (drop (first_start starts) xs ++ x ∷ [])) (around_append starts xs (x ∷ []) nested)

pub layers_open : {X : Type 0} (starts : List ℕ) (xs : List X)
    → layers_of (length xs ∷ starts) xs ≡ opened (layers_of starts xs)
layers_open {X} starts xs =
    let make : List X → List (List X) → Layers X = λ inner outer. record { inner = inner; outer = outer } in
    ap (λ inner. make inner (around (length xs ∷ starts) xs)) (drop_all (length xs) xs (omega arith))
    ∙ ap (λ zs. make [] (drop (first_start starts) zs ∷ around starts zs)) (take_all (length xs) xs (omega arith))

pub layers_close : {X : Type 0} (starts : List ℕ) (xs : List X)
    → layers_of (drop 1 starts) (take (first_start starts) xs) ≡ closed (layers_of starts xs)
layers_close [] xs = refl
layers_close (m ∷ starts) xs = refl

around_take : {X : Type 0} (starts : List ℕ) (m : ℕ) (xs : List X) → AreNested starts m
    → around starts (take m xs) ≡ around starts xs
around_take [] m xs nested = refl
around_take (k ∷ starts) m xs nested =
    ap (λ zs. drop (first_start starts) zs ∷ around starts zs) (take-take k m xs nested.0)

pub layers_join : {X : Type 0} (starts : List ℕ) (xs : List X) → AreNested starts (length xs)
    → layers_of (drop 1 starts) xs ≡ joined (layers_of starts xs)
layers_join [] xs nested = refl
layers_join {X} (m ∷ starts) xs nested =
    let make : List X → List (List X) → Layers X = λ inner outer. record { inner = inner; outer = outer } in
    let f = first_start starts in
    let short : f ≤ length (take m xs) =
    omega (arith, length-take-le m xs nested.0, start_within starts m nested.1) in
    ap (λ inner. make inner (around starts xs))
    (sym (sym (drop-append-le f (take m xs) (drop m xs) short) ∙ ap (drop f) (take-append-drop m xs)))
    ∙ ap (make (drop f (take m xs) ++ drop m xs)) (sym (around_take starts m xs nested.1))

pub nested_more : (starts : List ℕ) (m n : ℕ) → AreNested starts m → m ≤ n → AreNested starts n
nested_more [] m n nested h = tt
nested_more (k ∷ starts) m n nested h = (omega (arith, nested.0), nested.1)

pub nested_close : (starts : List ℕ) (n : ℕ) → AreNested starts n → AreNested (drop 1 starts) (first_start starts)
nested_close [] n nested = tt
nested_close (k ∷ starts) n nested = nested.1

pub nested_join : (starts : List ℕ) (n : ℕ) → AreNested starts n → AreNested (drop 1 starts) n
nested_join [] n nested = tt
nested_join (k ∷ starts) n nested = nested_more starts k n nested.1 nested.0

-- What uses show, step by step.
use Rattle.std.proofs.Common.{◌≡◌, ℕ, List, [], ◌∷◌, ◌++◌, length}
use Rattle.std.proofs.Common.{map, take, drop, refl, ap, ◌∙◌}
use Rattle.hz_scopes.specs.declared.uses.Use.{Use}
use Rattle.hz_tree.specs.trees.FunctionScopes.{Used}
use Rattle.hz_scopes.specs.Layers.{Layers, innermost, closed, joined, each, first_start, layers_of}
use Rattle.hz_scopes.specs.Layers.{AreNested}
use Rattle.hz_scopes.specs.Links.{left_of}
use Rattle.hz_scopes.proofs.LayersLemmas.{layers_close, layers_join}
use Rattle.hz_scopes.proofs.UsesLemmas.{left_append}

innermost_each : (xs : List (List Use)) → left_of (innermost xs) ≡ innermost (map left_of xs)
innermost_each [] = refl
innermost_each (x ∷ xs) = refl

drop_each : (xs : List (List Use)) → map left_of (drop 1 xs) ≡ drop 1 (map left_of xs)
drop_each [] = refl
drop_each (x ∷ xs) = refl

pub uses_join : (starts : List ℕ) (items : List Use) → AreNested starts (length items)
    → each left_of (layers_of (drop 1 starts) items) ≡ joined (each left_of (layers_of starts items))
uses_join starts items nested =
    let make : List Used → List (List Used) → Layers Used = λ inner outer. record { inner = inner; outer = outer } in
    let l = layers_of starts items in
    ap (each left_of) (layers_join starts items nested)
    ∙ ap (λ inner. make inner (map left_of (drop 1 l.outer)))
    (left_append (innermost l.outer) l.inner ∙ ap (λ us. us ++ left_of l.inner) (innermost_each l.outer))
    ∙ ap (make (innermost (map left_of l.outer) ++ left_of l.inner)) (drop_each l.outer)

pub uses_close : (starts : List ℕ) (items : List Use)
    → each left_of (layers_of (drop 1 starts) (take (first_start starts) items))
    ≡ closed (each left_of (layers_of starts items))
uses_close starts items =
    let make : List Used → List (List Used) → Layers Used = λ inner outer. record { inner = inner; outer = outer } in
    let l = layers_of starts items in
    ap (each left_of) (layers_close starts items)
    ∙ ap (λ inner. make inner (map left_of (drop 1 l.outer))) (innermost_each l.outer)
    ∙ ap (make (innermost (map left_of l.outer))) (drop_each l.outer)

-- What layers show of stored entries, step by step.
use Rattle.std.proofs.Common.{◌≡◌, ℕ, List, [], ◌∷◌, ◌++◌, length, map, take, drop, refl, sym, ap, ◌∙◌, arith}
use Rattle.std.proofs.Common.{◌||◌, length-append}
use Rattle.std.specs.Str.{bytes_eq}
use Rattle.std.proofs.lemmas.List.{map-append, length-map, length-take-le, take-map, drop-map}
use Rattle.hz_tree.specs.errors.Scopes.{occurs}
use Rattle.hz_tree.specs.tokens.Text.{Text}
use Rattle.hz_tree.specs.trees.FunctionScopes.{declares_name}
use Rattle.hz_scopes.specs.declared.declarations.Declaration.{Declaration}
use Rattle.hz_scopes.specs.Entries.{to_declared, declared_of, names_of}
use Rattle.hz_scopes.specs.Layers.{opened, pushed, closed, first_start, layers_of, AreNested}
use Rattle.hz_scopes.proofs.LayersLemmas.{start_within, layers_push, layers_open, layers_close, nested_more}
use Rattle.hz_scopes.proofs.LayersLemmas.{nested_close}

pub push_stored : {X Y : Type 0} (f : X → Y) (starts : List ℕ) (items : List X) (x : X)
    → AreNested starts (length items)
    → layers_of starts (map f (items ++ x ∷ [])) ≡ pushed (f x) (layers_of starts (map f items))
push_stored f starts items x nested =
    ap (layers_of starts) (map-append f items (x ∷ []))
    ∙ layers_push starts (map f items) (f x)
    (nested_more starts (length items) (length (map f items)) nested (omega (arith, length-map items f)))

pub open_stored : {X Y : Type 0} (f : X → Y) (starts : List ℕ) (items : List X)
    → layers_of (length items ∷ starts) (map f items) ≡ opened (layers_of starts (map f items))
open_stored f starts items =
    ap (λ n. layers_of (n ∷ starts) (map f items)) (sym (length-map items f)) ∙ layers_open starts (map f items)

pub close_stored : {X Y : Type 0} (f : X → Y) (starts : List ℕ) (items : List X)
    → layers_of (drop 1 starts) (map f (take (first_start starts) items)) ≡ closed (layers_of starts (map f items))
close_stored f starts items =
    ap (layers_of (drop 1 starts)) (sym (take-map f (first_start starts) items)) ∙ layers_close starts (map f items)

pub nested_push : {X : Type 0} (starts : List ℕ) (items : List X) (x : X)
    → AreNested starts (length items) → AreNested starts (length (items ++ x ∷ []))
nested_push starts items x nested =
    nested_more starts (length items) (length (items ++ x ∷ [])) nested (omega (arith, length-append items (x ∷ [])))

pub nested_taken : {X : Type 0} (starts : List ℕ) (items : List X)
    → AreNested starts (length items) → AreNested (drop 1 starts) (length (take (first_start starts) items))
nested_taken starts items nested =
    let short = start_within starts (length items) nested in
    nested_more (drop 1 starts) (first_start starts) (length (take (first_start starts) items))
    (nested_close starts (length items) nested) (omega (arith, length-take-le (first_start starts) items short))

declares_any : (name : Text) (ds : List Declaration) → declares_name name (declared_of ds) ≡ occurs name (names_of ds)
declares_any name [] = refl
declares_any name (d ∷ ds) = ap (λ b. bytes_eq d.name.now name || b) (declares_any name ds)

pub declares_stored : (name : Text) (starts : List ℕ) (items : List Declaration) (names : List Text)
    → names ≡ names_of items
    → occurs name (drop (first_start starts) names)
    ≡ declares_name name (drop (first_start starts) (declared_of items))
declares_stored name starts items names are =
    let m = first_start starts in
    ap (λ ns. occurs name (drop m ns)) are
    ∙ ap (occurs name) (drop-map (λ (d : Declaration). d.name.now) m items)
    ∙ sym (declares_any name (drop m items))
    ∙ ap (declares_name name) (sym (drop-map to_declared m items))

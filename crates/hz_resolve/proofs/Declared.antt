-- The first declarations of names, as they become known one after the other.
use Rattle.std.proofs.Common.{◌≡◌, ◌∙◌, ℕ, zero, suc, ◌+◌, Bool, true, false, ◌&&◌, cond, List, [], ◌∷◌, ◌++◌, length}
use Rattle.std.proofs.Common.{take}
use Rattle.std.proofs.Common.{Option, Some, None, refl, ap, sym, arith, add-one, ⊎_elim}
use Rattle.std.proofs.lemmas.Bool.{cases_Bool}
use Rattle.std.proofs.lemmas.List.{take_all}
use Rattle.std.specs.Cmp.Lexicographic.{bytes_decides}
use Rattle.std.specs.List.{slice_get}
use Rattle.std.specs.Option.{option_map, option_or, option_to_list, is_some}
use Rattle.std.specs.Str.{bytes_eq}
use Rattle.hz_tree.specs.declared.scope.BindingKind.{BindingKind}
use Rattle.hz_tree.specs.tokens.Text.{Text}
use Rattle.hz_tree.specs.trees.FunctionScopes.{ScopeName}
use Rattle.hz_tree.specs.trees.Layout.{is_declaration}
use Rattle.hz_resolve.specs.Numbered.{declaration_among}

-- a name is put in where none of its text is
pub put_in : (n : ScopeName) (other : Text) (places : Text → Option ℕ) (number : ℕ)
    → is_some n.binding ≡ true → is_some (places n.name) ≡ false
    → cond (bytes_eq n.name other) (Some number) (places other)
    ≡ option_or (places other) (cond (is_declaration other n) (Some number) None)
put_in n other places number b absent = here n.binding b (bytes_eq n.name other) refl
  where
    none : (o : Option ℕ) → is_some o ≡ false → Some number ≡ option_or o (Some number)
    none None h = refl
    none (Some n) h = cc

    same : (o : Option ℕ) → o ≡ option_or o None
    same None = refl
    same (Some n) = refl

    here : (k : Option BindingKind) → is_some k ≡ true → (t : Bool) → bytes_eq n.name other ≡ t
        → cond t (Some number) (places other)
        ≡ option_or (places other) (cond (t && elim k [ None ↦ false | Some binding ↦ true ]) (Some number) None)
    here None b t is = cc
    here (Some k) b true is =
        none (places other) (ap (λ m. is_some (places m)) (sym ((bytes_decides n.name other).0 is)) ∙ absent)
    here (Some k) b false is = same (places other)

pub among_more : (name : Text) (xs : List ScopeName) (x : ScopeName)
    → declaration_among name (xs ++ x ∷ [])
    ≡ option_or (declaration_among name xs) (cond (is_declaration name x) (Some (length xs)) None)
among_more name [] x = one (is_declaration name x)
  where
    one : (b : Bool) → cond b (Some 0) (option_map (λ (i : ℕ). suc i) None) ≡ cond b (Some 0) None
    one true = refl
    one false = refl
among_more name (y ∷ xs) x = one (is_declaration name y) (among_more name xs x)
  where
    after : (o : Option ℕ) (b : Bool) → option_map (λ (i : ℕ). suc i) (option_or o (cond b (Some (length xs)) None))
        ≡ option_or (option_map (λ (i : ℕ). suc i) o) (cond b (Some (suc (length xs))) None)
    after None true = refl
    after None false = refl
    after (Some n) b = refl

    one : (a : Bool) → declaration_among name (xs ++ x ∷ [])
        ≡ option_or (declaration_among name xs) (cond (is_declaration name x) (Some (length xs)) None)
        → cond a (Some 0) (option_map (λ (i : ℕ). suc i) (declaration_among name (xs ++ x ∷ [])))
        ≡ option_or (cond a (Some 0) (option_map (λ (i : ℕ). suc i) (declaration_among name xs)))
        (cond (is_declaration name x) (Some (suc (length xs))) None)
    one true h = refl
    one false h =
        ap (option_map (λ (i : ℕ). suc i)) h ∙ after (declaration_among name xs) (is_declaration name x)

pub take_next : {X : Type 0} (xs : List X) (i : ℕ)
    → take (suc i) xs ≡ take i xs ++ option_to_list (slice_get xs i)
take_next [] zero = refl
take_next [] (suc i) = refl
take_next (x ∷ xs) zero = refl
take_next (x ∷ xs) (suc i) = ap (λ more. x ∷ more) (take_next xs i)

pub take_found : {X : Type 0} (xs : List X) (i : ℕ) (x : X) → slice_get xs i ≡ Some x
    → take (i + 1) xs ≡ take i xs ++ x ∷ []
take_found xs i x e =
    ap (λ k. take k xs) (add-one i) ∙ take_next xs i ∙ ap (λ o. take i xs ++ option_to_list o) e

length-take_found : {X : Type 0} (xs : List X) (i : ℕ) (x : X) → slice_get xs i ≡ Some x → length (take i xs) ≡ i
length-take_found [] zero x e = refl
length-take_found [] (suc i) x e = cc
length-take_found (y ∷ xs) zero x e = refl
length-take_found (y ∷ xs) (suc i) x e = ap suc (length-take_found xs i x e)

-- one more name is known
pub known_step : (first i : ℕ) (names : List ScopeName) (n : ScopeName) (was now : Text → Option ℕ)
    → slice_get names i ≡ Some n
    → ((name : Text) → was name ≡ option_map (λ j. first + j) (declaration_among name (take i names)))
    → ((name : Text) → now name ≡ option_or (was name) (cond (is_declaration name n) (Some (first + i)) None))
    → (name : Text) → now name ≡ option_map (λ j. first + j) (declaration_among name (take (i + 1) names))
known_step first i names n was now at known step name =
    step name
    ∙ ap (λ o. option_or o (cond (is_declaration name n) (Some (first + i)) None)) (known name)
    ∙ moved (declaration_among name (take i names)) (is_declaration name n)
    ∙ ap (λ k. option_map (λ j. first + j)
    (option_or (declaration_among name (take i names)) (cond (is_declaration name n) (Some k) None)))
    (sym (length-take_found names i n at))
    ∙ ap (option_map (λ j. first + j))
    (sym (among_more name (take i names) n) ∙ ap (declaration_among name) (sym (take_found names i n at)))
  where
    moved : (o : Option ℕ) (b : Bool) → option_or (option_map (λ j. first + j) o) (cond b (Some (first + i)) None)
        ≡ option_map (λ j. first + j) (option_or o (cond b (Some i) None))
    moved None true = refl
    moved None false = refl
    moved (Some n) b = refl

pub known_all : (first : ℕ) (names : List ScopeName) (i : ℕ) (known : Text → Option ℕ) → length names ≡ i
    → ((name : Text) → known name ≡ option_map (λ j. first + j) (declaration_among name (take i names)))
    → (name : Text) → known name ≡ option_map (λ j. first + j) (declaration_among name names)
known_all first names i known long h name =
    h name ∙ ap (λ ns. option_map (λ j. first + j) (declaration_among name ns)) (take_all i names (omega (arith, long)))

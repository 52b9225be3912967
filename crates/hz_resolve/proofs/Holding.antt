-- The slots of a scope, as they are counted over the names of all scopes.
use Rattle.std.proofs.Common.{◌≡◌, ◌∙◌, ℕ, zero, suc, ◌+◌, ◌-◌, ◌≤◌, ◌<◌, Bool, true, false, not, ◌&&◌, ◌||◌, cond}
use Rattle.std.proofs.Common.{List, []}
use Rattle.std.proofs.Common.{◌∷◌, ◌++◌, map, take, length, Option, Some, None, refl, ap, sym, arith, nat_eq, nat_lt}
use Rattle.std.proofs.Common.{subst}
use Rattle.std.proofs.lemmas.Bool.{eq-eqb, lt-ltb, le-ltb, and_from}
use Rattle.std.proofs.lemmas.List.{take_all, length-map}
use Rattle.std.proofs.lemmas.Option.{same_Some, slice_get_within}
use Rattle.std.specs.Cmp.Lexicographic.{bytes_decides}
use Rattle.std.specs.List.{slice_get, list_any, filter}
use Rattle.std.specs.Option.{option_map_or, is_some}
use Rattle.std.specs.Str.{bytes_eq}
use Rattle.hz_tree.specs.declared.scope.BindingKind.{BindingKind}
use Rattle.hz_tree.specs.tokens.Text.{Text}
use Rattle.hz_tree.specs.trees.FunctionScopes.{ScopeName}
use Rattle.hz_tree.specs.trees.Layout.{PlacedScope, is_declaration, declares, declaring, found, is_own, is_global}
use Rattle.hz_tree.specs.trees.Layout.{takes}
use Rattle.hz_tree.specs.trees.Layout.{shares_function, from_scope, outwards, has_slot, slot_names, has_slots}
use Rattle.hz_resolve.specs.Numbered.{Numbered, numbered, Use, use_in, uses_in, uses_of}
use Rattle.hz_resolve.specs.Passes.{found_of, is_taken, is_global_use, has_slot_of, count_true, slot_tests}
use Rattle.hz_resolve.specs.Passes.{slots_before}
use Rattle.hz_resolve.specs.Passes.{has_slots_here}
use Rattle.hz_resolve.proofs.lemmas.Slots.{any_at}
use Rattle.hz_resolve.proofs.lemmas.Ways.{way_begins}
use Rattle.hz_resolve.proofs.Flat.{scope_is, counted_in}
use Rattle.hz_resolve.proofs.Sites.{Site, Matches, nowhere, somewhere, matches_use}
use Rattle.hz_resolve.proofs.Taken.{AreInPlace, taken_is}

-- a name that a scope declares is found there
pub found_home : (scopes : List PlacedScope) (name : Text) (s : PlacedScope) → slice_get scopes s.number ≡ Some s
    → declares name s ≡ true → found scopes name s ≡ Some s
found_home scopes name s there is =
    let rest = outwards (length scopes - 1) scopes s.around in
    ap (λ way. declaring name (cond (is_own name s) (filter (shares_function s) way) way)) (way_begins scopes s there)
    ∙ own (is_own name s) rest
  where
    first : (b : Bool) (rest more : List PlacedScope) → b ≡ true → declaring name (cond b (s ∷ rest) more) ≡ Some s
    first true rest more h = ap (λ d. cond d (Some s) (declaring name rest)) is
    first false rest more h = cc

    own : (b : Bool) (rest : List PlacedScope)
        → declaring name (cond b (filter (shares_function s) (s ∷ rest)) (s ∷ rest)) ≡ Some s
    own true rest =
        first (shares_function s s) (filter (shares_function s) rest) (filter (shares_function s) rest)
        (eq-eqb s.function s.function refl)
    own false rest = ap (λ d. cond d (Some s) (declaring name rest)) is

-- whether a name has a slot
pub slot_is : (scopes : List PlacedScope) → AreInPlace scopes → (g i : ℕ) (s : PlacedScope) (n : ScopeName)
    → slice_get scopes g ≡ Some s → slice_get s.names i ≡ Some n
    → has_slot_of scopes (use_in s n) ≡ has_slot scopes s n
unfolding has_slot_of
slot_is scopes in_place g i s n there at =
    by_binding n.binding refl
  where
    u : Use
    u = use_in s n

    same : bytes_eq n.name n.name ≡ true
    same = (bytes_decides n.name n.name).1 refl

    at_home : slice_get scopes s.number ≡ Some s
    at_home = ap (slice_get scopes) (in_place.number g s there) ∙ there

    taken : is_declaration n.name n ≡ true
        → option_map_or (is_taken scopes) (found_of scopes u) false ≡ list_any (takes scopes s n.name) scopes
    taken declared =
        elim (matches_use scopes s n) [
          | nowhere r f ↦
              let home = found_home scopes n.name s at_home (any_at (is_declaration n.name) s.names i n at declared) in
              absurd (cc (home, f))
          | somewhere p t r f site ↦
              let home = found_home scopes n.name s at_home (any_at (is_declaration n.name) s.names i n at declared) in
              let is : t ≡ s = same_Some t s (sym f ∙ home) in
              ap (λ o. option_map_or (is_taken scopes) o false) r
              ∙ taken_is scopes in_place n.name p s (subst (Site scopes n.name p) is site)
        ]

    by_binding : (k : Option BindingKind) → n.binding ≡ k
        → (is_some n.binding && (not (is_global_use u) && option_map_or (is_taken scopes) (found_of scopes u) false))
        ≡ (is_declaration n.name n && (not (is_global s n.binding) && list_any (takes scopes s n.name) scopes))
    by_binding None is =
        ap (λ k. is_some k && (not (is_global_use u) && option_map_or (is_taken scopes) (found_of scopes u) false)) is
        ∙ sym (ap (λ t. (t && elim n.binding [ None ↦ false | Some b ↦ true ])
        && (not (is_global s n.binding) && list_any (takes scopes s n.name) scopes)) same
        ∙ ap (λ (k : Option BindingKind). elim k [ None ↦ false | Some b ↦ true ]
        && (not (is_global s n.binding) && list_any (takes scopes s n.name) scopes)) is)
    by_binding (Some b) is =
        let declared : is_declaration n.name n ≡ true =
        and_from (bytes_eq n.name n.name) _ same
        (ap (λ (k : Option BindingKind). elim k [ None ↦ false | Some b ↦ true ]) is) in
        ap (λ k. is_some k && (not (is_global_use u) && option_map_or (is_taken scopes) (found_of scopes u) false)) is
        ∙ ap (λ t. not (is_global_use u) && t) (taken declared)
        ∙ ap (λ d. d && (not (is_global s n.binding) && list_any (takes scopes s n.name) scopes)) (sym declared)

map_same : {X Y : Type 0} (f g : X → Y) (xs : List X) → ((i : ℕ) (x : X) → slice_get xs i ≡ Some x → f x ≡ g x)
    → map f xs ≡ map g xs
map_same f g [] h = refl
map_same f g (x ∷ xs) h =
    ap (λ y. y ∷ map f xs) (h 0 x refl) ∙ ap (λ ys. g x ∷ ys) (map_same f g xs (λ i y e. h (suc i) y e))

pub map_twice : {X Y Z : Type 0} (f : Y → Z) (g : X → Y) (xs : List X) → map f (map g xs) ≡ map (λ x. f (g x)) xs
map_twice f g [] = refl
map_twice f g (x ∷ xs) = ap (λ ys. f (g x) ∷ ys) (map_twice f g xs)

pub tests_in : (scopes : List PlacedScope) → AreInPlace scopes → (g : ℕ) (s : PlacedScope)
    → slice_get scopes g ≡ Some s → map (has_slot_of scopes) (uses_in s) ≡ map (has_slot scopes s) s.names
tests_in scopes in_place g s there =
    map_twice (has_slot_of scopes) (use_in s) s.names
    ∙ map_same (λ (n : ScopeName). has_slot_of scopes (use_in s n)) (has_slot scopes s) s.names
    (λ i n at. slot_is scopes in_place g i s n there at)

-- how many slots come before a name of a scope
pub slots_at : (scopes : List PlacedScope) → AreInPlace scopes → (g i : ℕ) (s : Numbered)
    → slice_get (numbered 0 scopes) g ≡ Some s → i ≤ length s.scope.names
    → slots_before scopes (s.first + i)
    ≡ slots_before scopes s.first + count_true (take i (map (has_slot scopes s.scope) s.scope.names))
unfolding slots_before
slots_at scopes in_place g i s there h =
    counted_in scopes g i s (has_slot_of scopes) there h
    ∙ ap (λ tests. slots_before scopes s.first + count_true (take i tests))
    (tests_in scopes in_place g s.scope (scope_is scopes g s there))

abbrev is_any : List Text → Bool
is_any [] = false
is_any (name ∷ more) = true

some_pass : (p : ScopeName → Bool) (ns : List ScopeName) (a : ℕ)
    → nat_lt a (a + count_true (map p ns)) ≡ is_any (map (λ (n : ScopeName). n.name) (filter p ns))
some_pass p [] a = le-ltb a (a + 0) (omega arith)
some_pass p (n ∷ ns) a = here (p n) (some_pass p ns a)
  where
    here : (b : Bool)
        → nat_lt a (a + count_true (map p ns)) ≡ is_any (map (λ (n : ScopeName). n.name) (filter p ns))
        → nat_lt a (a + count_true (b ∷ map p ns))
        ≡ is_any (map (λ (n : ScopeName). n.name) (cond b (n ∷ filter p ns) (filter p ns)))
    here true rest = lt-ltb a (a + suc (count_true (map p ns))) (omega arith)
    here false rest = rest

pub has_slots_is : (scopes : List PlacedScope) → AreInPlace scopes → (g : ℕ) (s : Numbered)
    → slice_get (numbered 0 scopes) g ≡ Some s → has_slots_here scopes s ≡ has_slots scopes s.scope
has_slots_is scopes in_place g s there =
    let names = s.scope.names in
    let test = has_slot scopes s.scope in
    let all : take (length names) (map test names) ≡ map test names =
    take_all (length names) (map test names) (omega (arith, length-map names test)) in
    ap (λ n. nat_lt (slots_before scopes s.first) n)
    (slots_at scopes in_place g (length names) s there (omega arith)
    ∙ ap (λ tests. slots_before scopes s.first + count_true tests) all)
    ∙ some_pass test names (slots_before scopes s.first)

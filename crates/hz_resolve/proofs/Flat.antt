-- The names of one scope among those of all scopes.
use Rattle.std.proofs.Common.{◌≡◌, ◌∙◌, ℕ, zero, suc, ◌+◌, ◌≤◌, ◌<◌, Bool, true, false, List, [], ◌∷◌, ◌++◌, length}
use Rattle.std.proofs.Common.{map, take, Option, Some, None, refl, ap, sym, arith, append_assoc, append-nil, subst}
use Rattle.std.proofs.lemmas.List.{length-append, length-map, map-append, take-map}
use Rattle.std.proofs.lemmas.Option.{slice_get-map, slice_get_within}
use Rattle.std.specs.List.{slice_get}
use Rattle.std.specs.Option.{option_map}
use Rattle.hz_tree.specs.trees.FunctionScopes.{ScopeName}
use Rattle.hz_tree.specs.trees.Layout.{PlacedScope}
use Rattle.hz_resolve.specs.Numbered.{Numbered, numbered, Use, use_in, uses_in, uses_of, scopes_of, scope_at}
use Rattle.hz_resolve.specs.Numbered.{found_from}
use Rattle.hz_resolve.specs.Passes.{count_true, found_of, within_of}

-- where the names of a scope stand among those of all
pub record Split (scopes : List PlacedScope) (first : ℕ) (s : Numbered) : Type 0 where
  pub front : List Use
  pub behind : List Use
  pub all : uses_of scopes ≡ front ++ (uses_in s.scope ++ behind)
  pub at : s.first ≡ first + length front

pub split_at : (scopes : List PlacedScope) (first g : ℕ) (s : Numbered)
    → slice_get (numbered first scopes) g ≡ Some s → Split scopes first s
split_at [] first g s e = cc
split_at (p ∷ ps) first zero s e =
    let is : record { scope = p; first = first } ≡ s = cc in
    subst (Split (p ∷ ps) first) is (record { front = []; behind = uses_of ps; all = refl; at = omega arith })
split_at (p ∷ ps) first (suc g) s e =
    let rest = split_at ps (first + length p.names) g s e in
    let long = length-append (uses_in p) rest.front in
    let many = length-map p.names (use_in p) in
    record {
      front = uses_in p ++ rest.front;
      behind = rest.behind;
      all = ap (λ us. uses_in p ++ us) rest.all
          ∙ sym (append_assoc (uses_in p) rest.front (uses_in s.scope ++ rest.behind));
      at = omega (arith, rest.at, long, many);
    }

pub scopes_numbered : (first : ℕ) (scopes : List PlacedScope) → scopes_of (numbered first scopes) ≡ scopes
scopes_numbered first [] = refl
scopes_numbered first (s ∷ more) = ap (λ ss. s ∷ ss) (scopes_numbered (first + length s.names) more)

pub length-numbered : (first : ℕ) (scopes : List PlacedScope) → length (numbered first scopes) ≡ length scopes
length-numbered first [] = refl
length-numbered first (s ∷ more) = ap suc (length-numbered (first + length s.names) more)

-- a numbered scope is the one at its place
pub scope_is : (scopes : List PlacedScope) (g : ℕ) (s : Numbered)
    → slice_get (numbered 0 scopes) g ≡ Some s → slice_get scopes g ≡ Some s.scope
scope_is scopes g s e =
    ap (λ ss. slice_get ss g) (sym (scopes_numbered 0 scopes))
    ∙ slice_get-map (λ (s : Numbered). s.scope) (numbered 0 scopes) g ∙ ap (option_map (λ (s : Numbered). s.scope)) e

pub slice_get_behind : {X : Type 0} (xs ys : List X) (i : ℕ) → slice_get (xs ++ ys) (length xs + i) ≡ slice_get ys i
slice_get_behind [] ys i = let e : 0 + i ≡ i = omega arith in ap (slice_get ys) e
slice_get_behind (x ∷ xs) ys i =
    let e : suc (length xs) + i ≡ suc (length xs + i) = omega arith in
    ap (slice_get (x ∷ (xs ++ ys))) e ∙ slice_get_behind xs ys i

pub slice_get_front : {X : Type 0} (xs ys : List X) (i : ℕ) (x : X) → slice_get xs i ≡ Some x
    → slice_get (xs ++ ys) i ≡ Some x
slice_get_front [] ys i x e = cc
slice_get_front (y ∷ xs) ys zero x e = e
slice_get_front (y ∷ xs) ys (suc i) x e = slice_get_front xs ys i x e

take_behind : {X : Type 0} (xs ys : List X) (i : ℕ) → take (length xs + i) (xs ++ ys) ≡ xs ++ take i ys
take_behind [] ys i = let e : 0 + i ≡ i = omega arith in ap (λ k. take k ys) e
take_behind (x ∷ xs) ys i =
    let e : suc (length xs) + i ≡ suc (length xs + i) = omega arith in
    ap (λ k. take k (x ∷ (xs ++ ys))) e ∙ ap (λ zs. x ∷ zs) (take_behind xs ys i)

take_front : {X : Type 0} (xs ys : List X) (i : ℕ) → i ≤ length xs → take i (xs ++ ys) ≡ take i xs
take_front xs ys zero h = refl
take_front [] ys (suc i) h = absurd (omega (arith, h))
take_front (x ∷ xs) ys (suc i) h = ap (λ zs. x ∷ zs) (take_front xs ys i (omega (arith, h)))

-- the names of a scope lie among those of all
pub extent_inside : (scopes : List PlacedScope) (g : ℕ) (s : Numbered)
    → slice_get (numbered 0 scopes) g ≡ Some s → s.first + length s.scope.names ≤ length (uses_of scopes)
extent_inside scopes g s e =
    let split = split_at scopes 0 g s e in
    omega (
      arith,
      split.at,
      ap length split.all,
      length-append split.front (uses_in s.scope ++ split.behind),
      length-append (uses_in s.scope) split.behind,
      length-map s.scope.names (use_in s.scope),
    )

pub use_at : (scopes : List PlacedScope) (g i : ℕ) (s : Numbered) (n : ScopeName)
    → slice_get (numbered 0 scopes) g ≡ Some s → slice_get s.scope.names i ≡ Some n
    → slice_get (uses_of scopes) (s.first + i) ≡ Some (use_in s.scope n)
use_at scopes g i s n e is =
    let split = split_at scopes 0 g s e in
    let here : slice_get (uses_in s.scope) i ≡ Some (use_in s.scope n) =
    slice_get-map (use_in s.scope) s.scope.names i ∙ ap (option_map (use_in s.scope)) is in
    let there : s.first ≡ length split.front = omega (arith, split.at) in
    ap (λ us. slice_get us (s.first + i)) split.all
    ∙ ap (λ k. slice_get (split.front ++ (uses_in s.scope ++ split.behind)) (k + i)) there
    ∙ slice_get_behind split.front (uses_in s.scope ++ split.behind) i
    ∙ slice_get_front (uses_in s.scope) split.behind i (use_in s.scope n) here

pub count-append : (xs ys : List Bool) → count_true (xs ++ ys) ≡ count_true xs + count_true ys
count-append [] ys = omega arith
count-append (true ∷ xs) ys = omega (arith, count-append xs ys)
count-append (false ∷ xs) ys = count-append xs ys

-- how many names pass before a place of a scope
pub counted_in : (scopes : List PlacedScope) (g i : ℕ) (s : Numbered) (test : Use → Bool)
    → slice_get (numbered 0 scopes) g ≡ Some s → i ≤ length s.scope.names
    → count_true (take (s.first + i) (map test (uses_of scopes)))
    ≡ count_true (take s.first (map test (uses_of scopes))) + count_true (take i (map test (uses_in s.scope)))
counted_in scopes g i s test e h =
    let split = split_at scopes 0 g s e in
    let rest = uses_in s.scope ++ split.behind in
    let counts = λ (us : List Use). count_true (map test us) in
    let long : i ≤ length (uses_in s.scope) = omega (arith, h, length-map s.scope.names (use_in s.scope)) in
    let there : s.first ≡ length split.front = omega (arith, split.at) in
    let upto : (k : ℕ) → count_true (take k (map test (uses_of scopes)))
    ≡ counts (take k (split.front ++ rest)) =
    λ k. ap count_true (take-map test k (uses_of scopes)) ∙ ap (λ us. counts (take k us)) split.all in
    let more : counts (take (s.first + i) (split.front ++ rest))
    ≡ counts split.front + counts (take i (uses_in s.scope)) =
    ap (λ k. counts (take (k + i) (split.front ++ rest))) there
    ∙ ap counts (take_behind split.front rest i)
    ∙ ap (λ us. counts (split.front ++ us)) (take_front (uses_in s.scope) split.behind i long)
    ∙ ap count_true (map-append test split.front (take i (uses_in s.scope)))
    ∙ count-append (map test split.front) (map test (take i (uses_in s.scope))) in
    let ends : s.first ≡ length split.front + 0 = omega (arith, split.at) in
    let none : counts (take s.first (split.front ++ rest)) ≡ counts split.front =
    ap (λ k. counts (take k (split.front ++ rest))) ends
    ∙ ap counts (take_behind split.front rest 0)
    ∙ ap count_true (map-append test split.front [])
    ∙ ap count_true (append-nil (map test split.front)) in
    upto (s.first + i) ∙ more
    ∙ ap (λ n. n + counts (take i (uses_in s.scope))) (sym (upto s.first ∙ none))
    ∙ ap (λ bs. count_true (take s.first (map test (uses_of scopes))) + count_true bs)
    (sym (take-map test i (uses_in s.scope)))

-- a search in a numbered list
pub find_is : (scopes : List Numbered) (all : List PlacedScope) (u : Use)
    → scopes ≡ numbered 0 (scopes_of scopes) → scopes_of scopes ≡ all
    → found_from (within_of u) u.name (length scopes) scopes (Some u.scope) ≡ found_of all u
unfolding found_of
find_is scopes all u ordered are =
    ap (λ k. found_from (within_of u) u.name k scopes (Some u.scope))
    (sym (length-map scopes (λ (s : Numbered). s.scope)))
    ∙ ap (λ ss. found_from (within_of u) u.name (length (scopes_of scopes)) ss (Some u.scope)) ordered
    ∙ ap (λ ss. found_from (within_of u) u.name (length ss) (numbered 0 ss) (Some u.scope)) are

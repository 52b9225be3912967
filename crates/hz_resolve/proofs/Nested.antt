-- The places of names, function by function and scope by scope, are those of the layout.
use Rattle.std.proofs.Common.{◌≡◌, ◌∙◌, ℕ, zero, suc, ◌+◌, ◌-◌, ◌≤◌, ◌<◌, List, [], ◌∷◌, ◌++◌, map, take, drop, length}
use Rattle.std.proofs.Common.{Option, Some, None, refl, ap, sym, arith, append_assoc, Bool, true, false}
use Rattle.std.proofs.lemmas.List.{map-append, length-map, length-append}
use Rattle.std.proofs.lemmas.Option.{slice_get-map, slice_get_within}
use Rattle.std.specs.List.{slice_get, slice_range, flat_map}
use Rattle.std.specs.Option.{option_map, option_and_then, is_some}
use Rattle.hz_tree.specs.declared.place.Place.{Place}
use Rattle.hz_tree.specs.trees.FunctionScopes.{Scope, ScopeName, FunctionScopes}
use Rattle.hz_tree.specs.trees.Layout.{PlacedScope, all_scopes, scopes_from, placed_from, placed, first_scope}
use Rattle.hz_tree.specs.trees.Layout.{number_of}
use Rattle.hz_tree.specs.trees.Layout.{place_of, place_among, layout}
use Rattle.hz_resolve.specs.Laws.{HasScope, placed_at, number_at}
use Rattle.hz_resolve.specs.Places.{Places, place_at, ArePlacesOf}
use Rattle.hz_resolve.specs.Starts.{starts_of, function_starts, scope_starts, parts_of}
use Rattle.hz_resolve.proofs.lemmas.Listed.{place_listed}
use Rattle.hz_resolve.proofs.lemmas.Numbers.{stands, number_is_place}
use Rattle.hz_resolve.proofs.Building.{placed_many}
use Rattle.hz_resolve.proofs.Joined.{places_in}
use Rattle.hz_resolve.proofs.Standings.{known}
use Rattle.hz_resolve.proofs.Taken.{AreInPlace}

-- ---- parts

parts_more : {X Y : Type 0} (size : X → ℕ) (a b : ℕ) (xs : List X) (zs : List Y)
    → parts_of (a ∷ starts_of size b xs) zs ≡ slice_range zs a b ∷ parts_of (starts_of size b xs) zs
parts_more size a b [] zs = refl
parts_more size a b (x ∷ xs) zs = refl

range_at : {Y : Type 0} (front own rest : List Y) (a b : ℕ) → a ≡ length front → b ≡ length front + length own
    → slice_range (front ++ (own ++ rest)) a b ≡ own
range_at front own rest a b is end =
    let long : b - a ≡ length own = omega (arith, is, end) in
    ap (λ k. take k (drop a (front ++ (own ++ rest)))) long
    ∙ ap (λ k. take (length own) (drop k (front ++ (own ++ rest)))) is
    ∙ ap (take (length own)) (drop_front front (own ++ rest)) ∙ take_own own rest
  where
    drop_front : {Y : Type 0} (front more : List Y) → drop (length front) (front ++ more) ≡ more
    drop_front [] more = refl
    drop_front (y ∷ front) more = drop_front front more

    take_own : {Y : Type 0} (own rest : List Y) → take (length own) (own ++ rest) ≡ own
    take_own [] rest = refl
    take_own (y ∷ own) rest = ap (λ ys. y ∷ ys) (take_own own rest)

-- the parts of lists that stand one behind the other are the lists
pub parts_flat : {X Y : Type 0} (f : X → List Y) (size : X → ℕ) (start : ℕ) (front : List Y) (xs : List X)
    → ((x : X) → length (f x) ≡ size x) → start ≡ length front
    → parts_of (starts_of size start xs) (front ++ flat_map f xs) ≡ map f xs
parts_flat f size start front [] sizes is = refl
parts_flat f size start front (x ∷ xs) sizes is =
    let end : start + size x ≡ length front + length (f x) = omega (arith, is, sizes x) in
    let next : start + size x ≡ length (front ++ f x) = omega (arith, end, length-append front (f x)) in
    parts_more size start (start + size x) xs (front ++ (f x ++ flat_map f xs))
    ∙ ap (λ p. p ∷ parts_of (starts_of size (start + size x) xs) (front ++ (f x ++ flat_map f xs)))
    (range_at front (f x) (flat_map f xs) start (start + size x) is end)
    ∙ ap (λ zs. f x ∷ parts_of (starts_of size (start + size x) xs) zs) (sym (append_assoc front (f x) (flat_map f xs)))
    ∙ ap (λ ps. f x ∷ ps) (parts_flat f size (start + size x) (front ++ f x) xs sizes next)

-- an entry of a part
pub record InPart {X : Type 0} (starts : List ℕ) (xs : List X) (k : ℕ) (part : List X) : Type 0 where
  pub start : ℕ
  pub at : slice_get starts k ≡ Some start
  pub each : (i : ℕ) (x : X) → slice_get part i ≡ Some x → slice_get xs (start + i) ≡ Some x

in_range : {X : Type 0} (xs : List X) (a n i : ℕ) (x : X) → slice_get (take n (drop a xs)) i ≡ Some x
    → slice_get xs (a + i) ≡ Some x
in_range xs a n i x e = dropped a xs (taken n (drop a xs) i e)
  where
    taken : (n : ℕ) (ys : List _) (i : ℕ) → slice_get (take n ys) i ≡ Some x → slice_get ys i ≡ Some x
    taken zero ys i e = absurd (cc)
    taken (suc n) [] i e = absurd (cc)
    taken (suc n) (y ∷ ys) zero e = e
    taken (suc n) (y ∷ ys) (suc i) e = taken n ys i e

    dropped : (a : ℕ) (xs : List _) → slice_get (drop a xs) i ≡ Some x → slice_get xs (a + i) ≡ Some x
    dropped zero xs e = let z : 0 + i ≡ i = omega arith in ap (slice_get xs) z ∙ e
    dropped (suc a) [] e = absurd (cc)
    dropped (suc a) (y ∷ xs) e =
        let z : suc a + i ≡ suc (a + i) = omega arith in ap (slice_get (y ∷ xs)) z ∙ dropped a xs e

pub in_part : {X : Type 0} (starts : List ℕ) (xs : List X) (k : ℕ) (part : List X)
    → slice_get (parts_of starts xs) k ≡ Some part → InPart starts xs k part
in_part [] xs k part e = absurd (cc)
in_part (a ∷ []) xs k part e = absurd (cc)
in_part (a ∷ (b ∷ more)) xs zero part e =
    let is : slice_range xs a b ≡ part = cc in
    record { start = a; at = refl; each = λ i x at. in_range xs a (b - a) i x (ap (λ p. slice_get p i) is ∙ at) }
in_part (a ∷ (b ∷ more)) xs (suc k) part e =
    let rest = in_part (b ∷ more) xs k part e in
    record { start = rest.start; at = rest.at; each = rest.each }

-- a place that is there
pub record IsAt (functions scopes : List ℕ) (places : List Place) (k i n : ℕ) (found : Place) : Type 0 where
  pub is : place_at (parts_of functions (parts_of scopes places)) k i n ≡ Some found
  pub first : ℕ
  pub function : slice_get functions k ≡ Some first
  pub names : ℕ
  pub scope : slice_get scopes (first + i) ≡ Some names
  pub name : slice_get places (names + n) ≡ Some found

pub is_at : (functions scopes : List ℕ) (places : List Place) (k i n : ℕ) (found : Place)
    → place_at (parts_of functions (parts_of scopes places)) k i n ≡ Some found
    → IsAt functions scopes places k i n found
is_at functions scopes places k i n found whole =
    by_function (slice_get (parts_of functions (parts_of scopes places)) k) refl whole
  where
    by_scope : (f : List (List Place)) → slice_get (parts_of functions (parts_of scopes places)) k ≡ Some f
        → (o : Option (List Place)) → slice_get f i ≡ o
        → option_and_then (λ (s : List Place). slice_get s n) o ≡ Some found
        → IsAt functions scopes places k i n found
    by_scope f there None at e = absurd (cc)
    by_scope f there (Some s) at e =
        let outer = in_part functions (parts_of scopes places) k f there in
        let inner = in_part scopes places (outer.start + i) s (outer.each i s at) in
        record {
          is = whole;
          first = outer.start;
          function = outer.at;
          names = inner.start;
          scope = inner.at;
          name = inner.each n found e;
        }

    by_function : (o : Option (List (List Place))) → slice_get (parts_of functions (parts_of scopes places)) k ≡ o
        → option_and_then (λ (f : List (List Place)). option_and_then (λ (s : List Place). slice_get s n)
        (slice_get f i)) o
        ≡ Some found
        → IsAt functions scopes places k i n found
    by_function None there e = absurd (cc)
    by_function (Some f) there e = by_scope f there (slice_get f i) refl e

pub is_there : (functions scopes : List ℕ) (places : List Place) (k i n : ℕ)
    → is_some (place_at (parts_of functions (parts_of scopes places)) k i n) ≡ true
    → (found : Place) × IsAt functions scopes places k i n found
is_there functions scopes places k i n some =
    by_place (place_at (parts_of functions (parts_of scopes places)) k i n) refl some
  where
    by_place : (o : Option Place) → place_at (parts_of functions (parts_of scopes places)) k i n ≡ o → is_some o ≡ true
        → (found : Place) × IsAt functions scopes places k i n found
    by_place None e h = absurd (cc)
    by_place (Some found) e h = (found, is_at functions scopes places k i n found e)

-- ---- functions

groups : List FunctionScopes → (k first : ℕ) → List FunctionScopes → List (List PlacedScope)
groups fs k first [] = []
groups fs k first (g ∷ gs) =
    placed_from fs k first first g g.scopes ∷ groups fs (suc k) (first + length g.scopes) gs

flat_groups : (fs : List FunctionScopes) (k first : ℕ) (gs : List FunctionScopes) (h : PlacedScope → List Place)
    → flat_map (map h) (groups fs k first gs) ≡ map h (scopes_from fs k first gs)
unfolding groups
flat_groups fs k first [] h = refl
flat_groups fs k first (g ∷ gs) h =
    ap (λ ps. map h (placed_from fs k first first g g.scopes)
    ++ ps) (flat_groups fs (suc k) (first + length g.scopes) gs h)
    ∙ sym (map-append h (placed_from fs k first first g g.scopes) (scopes_from fs (suc k) (first + length g.scopes) gs))

group_starts : (fs : List FunctionScopes) (k first start : ℕ) (gs : List FunctionScopes)
    → starts_of (λ (f : FunctionScopes). length f.scopes) start gs
    ≡ starts_of (λ (g : List PlacedScope). length g) start (groups fs k first gs)
unfolding groups
group_starts fs k first start [] = refl
group_starts fs k first start (g ∷ gs) =
    ap (λ ns. start ∷ ns) (group_starts fs (suc k) (first + length g.scopes) (start + length g.scopes) gs)
    ∙ ap (λ n. start ∷ starts_of (λ (g : List PlacedScope). length g) (start + n)
    (groups fs (suc k) (first + length g.scopes) gs)) (sym (placed_many fs k first first g g.scopes))

group_at : (fs : List FunctionScopes) (k first : ℕ) (gs : List FunctionScopes) (j : ℕ)
    → slice_get (groups fs k first gs) j
    ≡ option_map (λ (f : FunctionScopes). placed_from fs (k + j) (first + first_scope gs j) (first + first_scope gs j) f
    f.scopes) (slice_get gs j)
unfolding groups
group_at fs k first [] j = refl
group_at fs k first (g ∷ gs) zero =
    let a : k ≡ k + 0 = omega arith in
    let b : first ≡ first + 0 = omega arith in
    ap (λ n. Some (placed_from fs n first first g g.scopes)) a
    ∙ ap (λ n. Some (placed_from fs (k + 0) n n g g.scopes)) b
group_at fs k first (g ∷ gs) (suc j) =
    let a : suc k + j ≡ k + suc j = omega arith in
    let b : (first + length g.scopes) + first_scope gs j ≡ first + (length g.scopes + first_scope gs j) = omega arith in
    group_at fs (suc k) (first + length g.scopes) gs j
    ∙ ap (λ n. option_map (λ (f : FunctionScopes). placed_from fs n ((first + length g.scopes) + first_scope gs j)
    ((first + length g.scopes) + first_scope gs j) f f.scopes) (slice_get gs j)) a
    ∙ ap (λ n. option_map (λ (f : FunctionScopes). placed_from fs (k + suc j) n n f f.scopes) (slice_get gs j)) b

placed_get : (fs : List FunctionScopes) (k first number : ℕ) (f : FunctionScopes) (scopes : List Scope) (i : ℕ)
    → slice_get (placed_from fs k first number f scopes) i
    ≡ option_map (placed fs k first (number + i) f) (slice_get scopes i)
placed_get fs k first number f [] i = refl
placed_get fs k first number f (s ∷ more) zero =
    let a : number ≡ number + 0 = omega arith in ap (λ n. Some (placed fs k first n f s)) a
placed_get fs k first number f (s ∷ more) (suc i) =
    let a : suc number + i ≡ number + suc i = omega arith in
    placed_get fs k first (suc number) f more i
    ∙ ap (λ n. option_map (placed fs k first n f) (slice_get more i)) a

-- ---- the layout

abbrev pub all_places : List FunctionScopes → List Place
all_places fs = flat_map (places_in (all_scopes fs)) (all_scopes fs)

nested : (fs : List FunctionScopes)
    → parts_of (function_starts fs) (parts_of (scope_starts (all_scopes fs)) (all_places fs))
    ≡ map (map (places_in (all_scopes fs))) (groups fs 0 0 fs)
nested fs =
    let scopes = all_scopes fs in
    let h = places_in scopes in
    ap (parts_of (function_starts fs))
    (parts_flat h (λ (s : PlacedScope). length s.names) 0 [] scopes
    (λ s. length-map s.names (λ (n : ScopeName). place_of scopes n.name s)) refl)
    ∙ ap (λ starts. parts_of starts (map h scopes)) (group_starts fs 0 0 0 fs)
    ∙ ap (parts_of (starts_of (λ (g : List PlacedScope). length g) 0 (groups fs 0 0 fs))) (sym
    (flat_groups fs 0 0 fs h))
    ∙ parts_flat (map h) (λ (g : List PlacedScope). length g) 0 [] (groups fs 0 0 fs) (λ g. length-map g h) refl

pub layout_is : (fs : List FunctionScopes) (k i n : ℕ)
    → place_at (parts_of (function_starts fs) (parts_of (scope_starts (all_scopes fs)) (all_places fs))) k i n
    ≡ layout fs k i n
unfolding layout
layout_is fs k i n =
    ap (λ ps. place_at ps k i n) (nested fs)
    ∙ ap (option_and_then (λ (f : List (List Place)). option_and_then (λ (s : List Place). slice_get s n)
    (slice_get f i)))
    (slice_get-map (map h) (groups fs 0 0 fs) k
    ∙ ap (option_map (map h)) (group_at fs 0 0 fs k)
    ∙ numbers (slice_get fs k))
    ∙ by_function (slice_get fs k) refl
  where
    scopes : List PlacedScope
    scopes = all_scopes fs

    h : PlacedScope → List Place
    h = places_in (all_scopes fs)

    own : FunctionScopes → List (List Place)
    own f = map (places_in (all_scopes fs)) (placed_from fs k (first_scope fs k) (first_scope fs k) f f.scopes)

    numbers : (o : Option FunctionScopes)
        → option_map (map (places_in (all_scopes fs)))
        (option_map (λ (f : FunctionScopes). placed_from fs (0 + k) (0 + first_scope fs k)
        (0 + first_scope fs k) f f.scopes) o)
        ≡ option_map own o
    numbers None = refl
    numbers (Some f) =
        let a : 0 + k ≡ k = omega arith in
        let b : 0 + first_scope fs k ≡ first_scope fs k = omega arith in
        ap (λ m. Some (map (places_in (all_scopes fs))
        (placed_from fs m (0 + first_scope fs k) (0 + first_scope fs k) f f.scopes))) a
        ∙ ap (λ m. Some (map (places_in (all_scopes fs)) (placed_from fs k m m f f.scopes))) b

    by_scope : (f : FunctionScopes) → slice_get fs k ≡ Some f → (o : Option Scope) → slice_get f.scopes i ≡ o
        → option_and_then (λ (s : List Place). slice_get s n)
        (option_map (places_in (all_scopes fs)) (option_map (placed fs k (first_scope fs k)
        (first_scope fs k + i) f) o))
        ≡ option_and_then (λ (s : Scope). option_and_then (place_among (all_scopes fs) n)
        (slice_get (all_scopes fs) (number_of fs (record { function = k; scope = i })))) o
    by_scope f there None at = refl
    by_scope f there (Some s) at =
        let p = placed_at fs k i f s in
        slice_get-map (λ (name : ScopeName). place_of (all_scopes fs) name.name p) p.names n
        ∙ sym (ap (option_and_then (place_among (all_scopes fs) n))
        (stands fs k i f s (record { function = there; scope = at })))

    by_function : (o : Option FunctionScopes) → slice_get fs k ≡ o
        → option_and_then (λ (f : List (List Place)). option_and_then (λ (s : List Place). slice_get s n)
        (slice_get f i))
        (option_map own o)
        ≡ option_and_then (λ (f : FunctionScopes). option_and_then (λ (s : Scope).
        option_and_then (place_among (all_scopes fs) n)
        (slice_get (all_scopes fs) (number_of fs (record { function = k; scope = i })))) (slice_get f.scopes i)) o
    by_function None there = refl
    by_function (Some f) there =
        ap (option_and_then (λ (s : List Place). slice_get s n))
        (slice_get-map (places_in (all_scopes fs)) (placed_from fs k (first_scope fs k) (first_scope fs k) f f.scopes) i
        ∙ ap (option_map (places_in (all_scopes fs)))
        (placed_get fs k (first_scope fs k) (first_scope fs k) f f.scopes i))
        ∙ by_scope f there (slice_get f.scopes i) refl

pub in_place : (fs : List FunctionScopes) → AreInPlace (all_scopes fs)
in_place fs = record { number = number_is_place fs }

-- a name that is there has a place
pub place_there : (fs : List FunctionScopes) (places : Places) (k i n : ℕ) (scopes : List Scope) (s : Scope)
    (x : ScopeName)
    → ArePlacesOf fs places
    → option_map (λ (f : FunctionScopes). f.scopes) (slice_get fs k) ≡ Some scopes
    → (slice_get scopes i ≡ Some s) × (slice_get s.names n ≡ Some x)
    → is_some (place_at places k i n) ≡ true
place_there fs places k i n scopes s x are at named =
    let f = known fs k scopes at in
    let scope : slice_get f.function.scopes i ≡ Some s = ap (λ ss. slice_get ss i) f.scopes_are ∙ named.0 in
    let is = are k i n
    ∙ place_listed fs k i n (placed_at fs k i f.function s) x (record {
      function = f.function;
      scope = s;
      has = record { function = f.there; scope = scope };
      placed = refl;
      name = named.1;
    }) in
    ap (λ (o : Option Place). is_some o) is

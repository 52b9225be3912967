-- A table of scopes as it is stored, and as it is shown.
use Rattle.std.proofs.Common.{◌≡◌, ℕ, ◌-◌, ◌≤◌, List, [], ◌∷◌, ◌++◌, length, map, take, drop, refl, ap, sym, ◌∙◌, arith}
use Rattle.std.proofs.Common.{Bool, Option, Some, None}
use Rattle.std.proofs.lemmas.List.{take-append-le, drop-append-le, length-drop, take_rest}
use Rattle.std.proofs.lemmas.List.{map-set, drop-map, take-map, drop_all, drop_at}
use Rattle.std.proofs.lemmas.Option.{slice_get-map}
use Rattle.std.specs.Option.{option_map}
use Rattle.std.proofs.lemmas.List.Elements.{All-head, All-tail, All-take, All-drop, All-weaker}
use Rattle.std.specs.List.{All, slice_get, slice_set}
use Rattle.hz_tree.specs.declared.scope.ScopeAt.{ScopeAt}
use Rattle.hz_tree.specs.trees.FunctionScopes.{ScopeName, FunctionScopes}
use Rattle.hz_index.specs.Table.{with_name, with_end}
use Rattle.hz_index.specs.Table.{with_function_end}
use Rattle.hz_index.specs.declared.flat.Part.{Part}
use Rattle.hz_index.specs.declared.flat.FlatScope.{FlatScope}
use Rattle.hz_index.specs.declared.flat.FlatFunction.{FlatFunction}
use Rattle.hz_index.specs.Flat.{part_of, around_of, shown_scope, shown_function, shown, IsWithin, HasNames, HasParts}
use Rattle.hz_index.specs.Flat.{IsFlat}
use Rattle.hz_index.specs.Flat.{with_names}

-- ---- more at the end of a list changes no part of it

part_more : {X : Type 0} (p : Part) (xs ys : List X) → IsWithin p (length xs) → part_of p (xs ++ ys) ≡ part_of p xs
part_more p xs ys h =
    ap (take (p.past - p.first)) (drop-append-le p.first xs ys (omega (arith, h.ordered, h.within)))
    ∙ take-append-le (p.past - p.first) (drop p.first xs) ys
    (omega (arith, h.ordered, h.within, length-drop p.first xs))

wider : (p : Part) (m n : ℕ) → m ≤ n → IsWithin p m → IsWithin p n
wider p m n l h = record { ordered = h.ordered; within = omega (arith, h.within) }

map_agree : {X Y : Type 0} (P : X → Type 0) (f g : X → Y) → ((x : X) → P x → f x ≡ g x) → (xs : List X) → All P xs
    → map f xs ≡ map g xs
map_agree P f g same [] h = refl
map_agree P f g same (x ∷ xs) h =
    ap (λ y. y ∷ map f xs) (same x (All-head P x xs h))
    ∙ ap (λ ys. g x ∷ ys) (map_agree P f g same xs (All-tail P x xs h))

scopes_more : (names more : List ScopeName) (scopes : List FlatScope) → All (HasNames (length names)) scopes
    → map (shown_scope (names ++ more)) scopes ≡ map (shown_scope names) scopes
scopes_more names more =
    map_agree (HasNames (length names)) (shown_scope (names ++ more)) (shown_scope names)
    (λ s h. ap (λ ns. record (shown_scope names s) { names = ns }) (part_more s.names names more h))

scopes_wider : (m n : ℕ) → m ≤ n → (scopes : List FlatScope) → All (HasNames m) scopes → All (HasNames n) scopes
scopes_wider m n l = All-weaker (HasNames m) (HasNames n) (λ s. wider s.names m n l)

functions_wider : (k m l n : ℕ) → k ≤ l → m ≤ n → (fs : List FlatFunction) → All (HasParts k m) fs
    → All (HasParts l n) fs
functions_wider k m l n h i =
    All-weaker (HasParts k m) (HasParts l n) (λ f p. (wider f.scopes k l h p.0, wider f.free m n i p.1))

functions_named : (names more : List ScopeName) (scopes : List FlatScope) (functions : List FlatFunction)
    → All (HasNames (length names)) scopes → All (HasParts (length scopes) (length names)) functions
    → map (shown_function (names ++ more) scopes) functions ≡ map (shown_function names scopes) functions
functions_named names more scopes functions h i =
    map_agree (HasParts (length scopes) (length names)) (shown_function (names ++ more) scopes)
    (shown_function names scopes) (λ f p.
    ap (λ ns. record (shown_function (names ++ more) scopes f) { free = map (λ n. n.name) ns })
    (part_more f.free names more p.1)
    ∙ ap (λ ss. record (shown_function names scopes f) { scopes = ss })
    (scopes_more names more (part_of f.scopes scopes)
    (All-take (HasNames (length names)) (f.scopes.past - f.scopes.first) (drop f.scopes.first scopes)
    (All-drop (HasNames (length names)) f.scopes.first scopes h)))) functions i

functions_more : (names : List ScopeName) (scopes more : List FlatScope) (settled : ℕ) (functions : List FlatFunction)
    → All (HasParts (length scopes) settled) functions
    → map (shown_function names (scopes ++ more)) functions ≡ map (shown_function names scopes) functions
functions_more names scopes more settled =
    map_agree (HasParts (length scopes) settled) (shown_function names (scopes ++ more)) (shown_function names scopes)
    (λ f p. ap (λ ss. record (shown_function names scopes f) { scopes = map (shown_scope names) ss })
    (part_more f.scopes scopes more p.0))

-- ---- calls

module _ (names : List ScopeName) (settled : ℕ) (scopes listed : List FlatScope) (functions : List FlatFunction)
    (flat : IsFlat names settled scopes listed functions) where
  pub name_shown : (n : ScopeName)
      → shown (names ++ n ∷ []) settled scopes listed functions
      ≡ with_name n (shown names settled scopes listed functions)
  name_shown n =
      let wide = scopes_wider settled (length names) flat.behind in
      ap (λ fs. record {
        functions = fs;
        listed = map (shown_scope (names ++ n ∷ [])) listed;
        pending = drop settled (names ++ n ∷ []);
      })
      (functions_named names (n ∷ []) scopes functions (wide scopes flat.of_scopes)
      (functions_wider (length scopes) settled (length scopes) (length names) (omega arith) flat.behind functions
      flat.of_functions))
      ∙ ap (λ ss. record {
        functions = map (shown_function names scopes) functions;
        listed = ss;
        pending = drop settled (names ++ n ∷ []);
      }) (scopes_more names (n ∷ []) listed (wide listed flat.of_listed))
      ∙ ap (λ ns. record {
        functions = map (shown_function names scopes) functions;
        listed = map (shown_scope names) listed;
        pending = ns;
      }) (drop-append-le settled names (n ∷ []) flat.behind)

  -- the names that came last
  abbrev last : Part
  last = record { first = settled; past = length names }

  scope_ended : (place end : ℕ) (o : Option FlatScope)
      → map (shown_scope names) (elim o [
        | None ↦ listed
        | Some s ↦ slice_set listed place (record s { end = end; names = last })
      ])
      ≡ elim (option_map (shown_scope names) o) [
        | None ↦ map (shown_scope names) listed
        | Some s ↦ slice_set (map (shown_scope names) listed) place (record s { end = end; names = drop settled names })
      ]
  scope_ended place end None = refl
  scope_ended place end (Some s) =
      map-set (shown_scope names) listed place
      (record s { end = end; names = record { first = settled; past = length names } })
      ∙ ap (λ ns. slice_set (map (shown_scope names) listed) place
      (record (shown_scope names s) { end = end; names = ns }))
      (take_rest names settled)

  pub end_shown : (place end past : ℕ) (ended : List FlatScope) → past ≡ length names
      → ended ≡ with_names place end (record { first = settled; past = past }) listed
      → shown names past scopes ended functions ≡ with_end place end (shown names settled scopes listed functions)
  end_shown place end past ended h e =
      ap (λ ss. shown names past scopes ss functions) e
      ∙ ap (λ n. shown names n scopes (with_names place end (record { first = settled; past = n }) listed) functions) h
      ∙ rw (drop_all (length names) names (omega arith), slice_get-map (shown_scope names) listed place)
      (ap (λ ss. record { functions = map (shown_function names scopes) functions; listed = ss; pending = [] })
      (scope_ended place end (slice_get listed place)))

  module _ (number from : ℕ) (at : ScopeAt) (binds : Bool) where
    unfoldable ended : FlatFunction
    ended = record {
      around = at;
      binds = binds;
      scopes = record { first = length scopes; past = length (scopes ++ drop from listed) };
      free = record { first = settled; past = length names };
    }

    -- the function that ends, as it is shown
    abbrev known : FunctionScopes
    known = record {
      around = around_of at;
      binds = binds;
      scopes = drop from (map (shown_scope names) listed);
      free = map (λ n. n.name) (drop settled names);
    }

    ended_shown : shown_function names (scopes ++ drop from listed) ended ≡ known
    unfolding ended
    ended_shown =
        ap (λ ss. record known {
          scopes = map (shown_scope names) ss;
          free = map (λ n. n.name) (part_of (record { first = settled; past = length names }) names);
        }) (take_rest (scopes ++ drop from listed) (length scopes)
        ∙ drop_at scopes (drop from listed) (length scopes) refl)
        ∙ ap (λ ss. record known {
          scopes = ss;
          free = map (λ n. n.name) (part_of (record { first = settled; past = length names }) names);
        }) (sym (drop-map (shown_scope names) from listed))
        ∙ ap (λ ns. record known { free = map (λ n. n.name) ns }) (take_rest names settled)

    functions_ended : map (shown_function names (scopes ++ drop from listed)) (slice_set functions number ended)
        ≡ slice_set (map (shown_function names scopes) functions) number known
    functions_ended =
        map-set (shown_function names (scopes ++ drop from listed)) functions number ended
        ∙ ap (λ f. slice_set (map (shown_function names (scopes ++ drop from listed)) functions) number f) ended_shown
        ∙ ap (λ fs. slice_set fs number known)
        (functions_more names scopes (drop from listed) settled functions flat.of_functions)

    pub function_end_shown : shown names (length names) (scopes ++ drop from listed) (take from listed)
        (slice_set functions number (record {
          around = at;
          binds = binds;
          scopes = record { first = length scopes; past = length (scopes ++ drop from listed) };
          free = record { first = settled; past = length names };
        }))
        ≡ with_function_end number from (around_of at) binds (shown names settled scopes listed functions)
    unfolding ended
    function_end_shown =
        ap (λ fs. record {
          functions = fs;
          listed = map (shown_scope names) (take from listed);
          pending = drop (length names) names;
        }) functions_ended
        ∙ ap (λ ss. record {
          functions = slice_set (map (shown_function names scopes) functions) number known;
          listed = ss;
          pending = drop (length names) names;
        }) (sym (take-map (shown_scope names) from listed))
        ∙ ap (λ ns. record {
          functions = slice_set (map (shown_function names scopes) functions) number known;
          listed = take from (map (shown_scope names) listed);
          pending = ns;
        }) (drop_all (length names) names (omega arith))

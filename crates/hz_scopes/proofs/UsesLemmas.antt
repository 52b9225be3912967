-- Where uses stand in a list that knows the last place of each name.
use Rattle.std.proofs.Common.{◌≡◌, ◌≤◌, ◌<◌, ◌+◌, ℕ, suc, Bool, true, false, not, ◌||◌, ◌&&◌, cond, List, [], ◌∷◌}
use Rattle.std.proofs.Common.{◌++◌, length, map, reverse, take, drop, refl, sym, ap, subst, ◌∙◌, arith, ⊎_elim, leb}
use Rattle.std.proofs.Common.{Option, Some, None, length-append}
use Rattle.std.specs.Str.{bytes_eq}
use Rattle.std.specs.List.{filter}
use Rattle.std.specs.Cmp.Lexicographic.{bytes_decides}
use Rattle.std.proofs.lemmas.Bool.{le-leb, lt-leb, cases_lt}
use Rattle.std.proofs.lemmas.Option.{slice_get_within, get_or_from_slice_get}
use Rattle.std.specs.List.{slice_get}
use Rattle.std.specs.Prelude.{nat_le}
use Rattle.std.proofs.lemmas.List.{reverse-append, map-append, drop-append-le, drop_all, length-reverse}
use Rattle.std.proofs.lemmas.List.{reverse-reverse, length-take-le, take-append-drop, take_more}
use Rattle.std.proofs.lemmas.List.Elements.{filter-append}
use Rattle.std.proofs.lemmas.List.Folds.{list_any-append}
use Rattle.hz_tree.specs.errors.Scopes.{occurs}
use Rattle.hz_tree.specs.tokens.Text.{Text}
use Rattle.hz_tree.specs.trees.FunctionScopes.{Used, each_name, with_name}
use Rattle.hz_scopes.specs.declared.uses.Use.{Use}
use Rattle.hz_scopes.specs.Links.{used_of, left_of, last_place, is_first, IsLinked, IsIndexed}

or_true : (b : Bool) → (b || true) ≡ true
or_true true = refl
or_true false = refl

or_false : (b : Bool) → (b || false) ≡ b
or_false true = refl
or_false false = refl

abbrev pub reaches : ℕ → Option ℕ → Bool
reaches m None = false
reaches m (Some place) = leb m place

abbrev pub names_left : List Use → List Text
names_left uses = map (λ u. u.name) (left_of uses)

pub left_append : (xs ys : List Use) → left_of (xs ++ ys) ≡ left_of xs ++ left_of ys
left_append xs ys =
    ap (map used_of) (filter-append (λ (u : Use). not u.taken) xs ys)
    ∙ map-append used_of (filter (λ u. not u.taken) xs) (filter (λ u. not u.taken) ys)

names_append : (xs ys : List Use) → names_left (xs ++ ys) ≡ names_left xs ++ names_left ys
names_append xs ys =
    ap (map (λ (u : Used). u.name)) (left_append xs ys)
    ∙ map-append (λ (u : Used). u.name) (left_of xs) (left_of ys)

-- all places are before the list's length
pub place_below : (name : Text) (p : ℕ) (es : List Use) → last_place name es ≡ Some p → p < length es
place_below name p [] is = absurd cc
place_below name p (e ∷ es) is =
    either (not e.taken && bytes_eq e.name.now name) (length es) (last_place name es) is (place_below name p es)
  where
    either : (b : Bool) (n : ℕ) (o : Option ℕ) → cond b (Some n) o ≡ Some p → (o ≡ Some p → p < n) → p < suc n
    either true n o is more = let e : n ≡ p = cc in omega (arith, e)
    either false n o is more = omega (arith, more is)

reaches-last_place : (name : Text) (m : ℕ) (es : List Use) → length es ≤ m → reaches m (last_place name es) ≡ false
reaches-last_place name m [] h = refl
reaches-last_place name m (e ∷ es) h =
    either (not e.taken && bytes_eq e.name.now name) (length es) (last_place name es) (omega arith)
    (reaches-last_place name m es (omega arith))
  where
    either : (b : Bool) (n : ℕ) (p : Option ℕ) → n < m → reaches m p ≡ false → reaches m (cond b (Some n) p) ≡ false
    either true n p h k = lt-leb m n h
    either false n p h k = k

occurs_last : (name : Text) (e : Use)
    → occurs name (names_left (e ∷ [])) ≡ (not e.taken && bytes_eq e.name.now name)
occurs_last name e = by_taken e.taken refl
  where
    by_taken : (b : Bool) → e.taken ≡ b
        → occurs name (names_left (e ∷ [])) ≡ (not e.taken && bytes_eq e.name.now name)
    by_taken true is = rw is refl
    by_taken false is = rw is (or_false (bytes_eq e.name.now name))

-- what the last place of a name says of the uses from some place on
pub occurs_from : (name : Text) (m : ℕ) (es : List Use)
    → occurs name (names_left (drop m (reverse es))) ≡ reaches m (last_place name es)
occurs_from name m [] = ap (λ us. occurs name (names_left us)) (drop_all m [] (omega arith))
occurs_from name m (e ∷ es) =
    let us = reverse es in
    let last = e ∷ [] in
    ap (λ us. occurs name (names_left (drop m us))) (reverse-append last es)
    ∙ ⊎_elim (λ (outside : length es < m).
    let long : length (us ++ last) ≤ m = omega (arith, length-append us last, length-reverse es) in
    ap (λ us. occurs name (names_left us)) (drop_all m (us ++ last) long)
    ∙ sym (reaches-last_place name m (e ∷ es) (omega arith)))
    (λ (inside : m ≤ length es).
    let short : m ≤ length us = omega (arith, length-reverse es) in
    ap (λ us. occurs name (names_left us)) (drop-append-le m us last short)
    ∙ ap (occurs name) (names_append (drop m us) last)
    ∙ list_any-append (λ other. bytes_eq other name) (names_left (drop m us)) (names_left last)
    ∙ ap (λ found. found || occurs name (names_left last)) (occurs_from name m es)
    ∙ ap (λ found. reaches m (last_place name es) || found) (occurs_last name e)
    ∙ either (length es) (not e.taken && bytes_eq e.name.now name) (last_place name es) inside)
    (cases_lt (length es) m)
  where
    either : (n : ℕ) (b : Bool) (p : Option ℕ) → m ≤ n → (reaches m p || b) ≡ reaches m (cond b (Some n) p)
    either n true p h = or_true (reaches m p) ∙ sym (le-leb m n h)
    either n false p h = or_false (reaches m p)

-- a use was added
pub indexed_push : (items more : List Use) (e : Use) (places after : Text → Option ℕ)
    → more ≡ items ++ e ∷ []
    → IsIndexed (reverse items) places
    → e.taken ≡ false
    → e.previous ≡ places e.name.now
    → ((name : Text) → after name ≡ cond (bytes_eq e.name.now name) (Some (length items)) (places name))
    → IsIndexed (reverse more) after
indexed_push items more e places after are was left previous updates =
    rw (are, reverse-append items (e ∷ []), left) (
      λ name. updates name
          ∙ ap (λ place. cond (bytes_eq e.name.now name) (Some (length items)) place) (was.0 name)
          ∙ ap (λ n. cond (bytes_eq e.name.now name) (Some n) (last_place name (reverse items)))
          (sym (length-reverse items)),
      (λ is. previous ∙ was.0 e.name.now, was.1),
    )

-- behind a use that goes the last of its name is the one before it
pub back : (e : Use) (es : List Use) → e.previous ≡ last_place e.name.now es → (name : Text) (b : Bool)
    → bytes_eq e.name.now name ≡ b
    → cond b e.previous (cond b (Some (length es)) (last_place name es)) ≡ last_place name es
back e es previous name true is = previous ∙ ap (λ n. last_place n es) ((bytes_decides e.name.now name).0 is)
back e es previous name false is = refl

-- the last use was dropped, which was not taken out
pub indexed_pop : (items fewer : List Use) (e : Use) (places after : Text → Option ℕ)
    → items ≡ fewer ++ e ∷ []
    → IsIndexed (reverse items) places
    → e.taken ≡ false
    → ((name : Text) → after name ≡ cond (bytes_eq e.name.now name) e.previous (places name))
    → IsIndexed (reverse fewer) after
indexed_pop items fewer e places after are was left updates =
    let es = reverse fewer in
    let begun : IsIndexed (e ∷ es) places = rw (are, reverse-append fewer (e ∷ [])) at was in
    let linked = begun.1.0 left in (
      λ name. updates name ∙ ap (λ place. cond (bytes_eq e.name.now name) e.previous place) (begun.0 name)
          ∙ ap (λ t. cond (bytes_eq e.name.now name) e.previous
          (cond (not t && bytes_eq e.name.now name) (Some (length es)) (last_place name es))) left
          ∙ back e es linked name (bytes_eq e.name.now name) refl,
      begun.1.1,
    )

-- the last use was dropped, which was taken out
pub indexed_pop_taken : (items fewer : List Use) (e : Use) (places : Text → Option ℕ)
    → items ≡ fewer ++ e ∷ []
    → IsIndexed (reverse items) places
    → e.taken ≡ true
    → IsIndexed (reverse fewer) places
indexed_pop_taken items fewer e places are was taken =
    let es = reverse fewer in
    let begun : IsIndexed (e ∷ es) places = rw (are, reverse-append fewer (e ∷ [])) at was in (
      λ name. begun.0 name
          ∙ ap (λ t. cond (not t && bytes_eq e.name.now name) (Some (length es)) (last_place name es)) taken,
      begun.1.1,
    )

-- the name of the last use has a place
pub last_has_place : (items fewer : List Use) (e : Use) (places : Text → Option ℕ)
    → items ≡ fewer ++ e ∷ []
    → IsIndexed (reverse items) places
    → e.taken ≡ false
    → places e.name.now ≡ None → ⊥
last_has_place items fewer e places are was left none =
    let es = reverse fewer in
    let begun : IsIndexed (e ∷ es) places = rw (are, reverse-append fewer (e ∷ [])) at was in
    let here : bytes_eq e.name.now e.name.now ≡ true = (bytes_decides e.name.now e.name.now).1 refl in
    let place = begun.0 e.name.now
    ∙ ap (λ t. cond (not t && bytes_eq e.name.now e.name.now) (Some (length es)) (last_place e.name.now es)) left
    ∙ ap (λ b. cond b (Some (length es)) (last_place e.name.now es)) here in
    cc (place, none)

-- the names of uses, each once
abbrev pub first_names : List Use → List Text
first_names uses = each_name [] (names_left uses)

each_append : (known xs ys : List Text) → each_name known (xs ++ ys) ≡ each_name (each_name known xs) ys
each_append known [] ys = refl
each_append known (x ∷ xs) ys = each_append (with_name known x) xs ys

-- each once, all of them are there
occurs_with : (known : List Text) (x name : Text)
    → occurs name (with_name known x) ≡ (occurs name known || bytes_eq x name)
occurs_with known x name = by_test (occurs x known) refl
  where
    there : (b : Bool) → bytes_eq x name ≡ b → occurs x known ≡ true → occurs name known ≡ (occurs name known || b)
    there true same is =
        let e = ap (λ n. occurs n known) (sym ((bytes_decides x name).0 same)) ∙ is in
        e ∙ sym (or_true (occurs name known))
    there false same is = sym (or_false (occurs name known))

    by_test : (b : Bool) → occurs x known ≡ b
        → occurs name (cond b known (known ++ x ∷ [])) ≡ (occurs name known || bytes_eq x name)
    by_test true is = there (bytes_eq x name) refl is
    by_test false is =
        list_any-append (λ other. bytes_eq other name) known (x ∷ [])
        ∙ ap (λ b. occurs name known || b) (or_false (bytes_eq x name))

occurs_each : (known xs : List Text) (name : Text)
    → occurs name (each_name known xs) ≡ (occurs name known || occurs name xs)
occurs_each known [] name = sym (or_false (occurs name known))
occurs_each known (x ∷ xs) name =
    occurs_each (with_name known x) xs name ∙ ap (λ b. b || occurs name xs) (occurs_with known x name)
    ∙ or_assoc (occurs name known) (bytes_eq x name) (occurs name xs)
  where
    or_assoc : (a b c : Bool) → ((a || b) || c) ≡ (a || (b || c))
    or_assoc true b c = refl
    or_assoc false b c = refl

linked_behind : (later before : List Use) → IsLinked (later ++ before) → IsLinked before
linked_behind [] before linked = linked
linked_behind (l ∷ later) before linked = linked_behind later before linked.1

-- one use more
pub names_step : (start i : ℕ) (items : List Use) (e : Use) (names : List Text)
    → (IsLinked (reverse items)) × (slice_get items i ≡ Some e) × (start ≤ i)
    → names ≡ first_names (drop start (take i items))
    → cond (is_first start e) (names ++ e.name.now ∷ []) names ≡ first_names (drop start (take (i + 1) items))
names_step start i items e names was are =
    let within : i < length items = slice_get_within items i e was.1 in
    let front = take i items in
    let long : length front ≡ i = length-take-le i items (omega (arith, within)) in
    let more : take (i + 1) items ≡ front ++ e ∷ [] = take_more items i e within ∙ ap (λ (x : Use). front ++ x ∷ [])
    (get_or_from_slice_get items i e e was.1) in
    let linked : IsLinked (e ∷ reverse front) =
    linked_behind (reverse (drop (i + 1) items)) (e ∷ reverse front)
    (subst IsLinked (ap reverse (sym (take-append-drop (i + 1) items)) ∙ reverse-append (take (i + 1) items) (drop (i
    + 1) items)
    ∙ ap (λ us. reverse (drop (i + 1) items) ++ us) (ap reverse more ∙ reverse-append front (e ∷ []))) was.0) in
    let found = ap (λ us. occurs e.name.now (names_left (drop start us))) (sym (reverse-reverse front))
    ∙ occurs_from e.name.now start (reverse front) in
    let known : occurs e.name.now names ≡ reaches start (last_place e.name.now (reverse front)) =
    ap (occurs e.name.now) are ∙ occurs_each [] (names_left (drop start front)) e.name.now ∙ found in
    let short : start ≤ length front = omega (arith, long, was.2) in
    by_taken e start names (last_place e.name.now (reverse front)) e.taken refl (linked.0) known
    ∙ ap (λ ns. each_name ns (names_left (e ∷ []))) are
    ∙ sym (each_append [] (names_left (drop start front)) (names_left (e ∷ [])))
    ∙ ap (each_name []) (sym (names_append (drop start front) (e ∷ [])))
    ∙ ap first_names (sym (drop-append-le start front (e ∷ []) short) ∙ ap (drop start) (sym more))
  where
    cond_not : (b : Bool) (x y : List Text) → cond (not b) x y ≡ cond b y x
    cond_not true x y = refl
    cond_not false x y = refl

    by_place : (start : ℕ) (names : List Text) (name : Text) (p : Option ℕ)
        → occurs name names ≡ reaches start p
        → cond (elim p [ None ↦ true | Some place ↦ not (nat_le start place) ]) (names ++ name ∷ []) names
        ≡ with_name names name
    by_place start names name None is = rw is refl
    by_place start names name (Some place) is = rw is (cond_not (leb start place) (names ++ name ∷ []) names)

    by_taken : (e : Use) (start : ℕ) (names : List Text) (p : Option ℕ) (t : Bool) → e.taken ≡ t
        → (e.taken ≡ false → e.previous ≡ p)
        → occurs e.name.now names ≡ reaches start p
        → cond (is_first start e) (names ++ e.name.now ∷ []) names ≡ each_name names (names_left (e ∷ []))
    by_taken e start names p true is linked known = rw is refl
    by_taken e start names p false is linked known =
        rw (is, linked is) (by_place start names e.name.now p known)

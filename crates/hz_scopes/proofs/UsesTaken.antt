-- A use is taken out.
use Rattle.std.proofs.Common.{◌≡◌, ◌≤◌, ◌<◌, ◌+◌, ◌-◌, ℕ, zero, suc, Bool, true, false, not, ◌||◌, ◌&&◌, cond, List, []}
use Rattle.std.proofs.Common.{◌∷◌, ◌++◌, length, map, reverse, get_or, take, drop, refl, sym, ap, subst, ◌∙◌, arith}
use Rattle.std.proofs.Common.{Option, Some, None, length-append, append_assoc}
use Rattle.std.proofs.Math.ListN.{set}
use Rattle.std.specs.Str.{bytes_eq}
use Rattle.std.specs.Cmp.Lexicographic.{bytes_decides}
use Rattle.std.proofs.lemmas.List.{reverse-append, length-reverse, set_split, take-set-le, length-take-le}
use Rattle.std.proofs.lemmas.List.{drop-set-add, get_or-drop, length-drop, reverse-reverse}
use Rattle.std.proofs.lemmas.List.Elements.{filter-append}
use Rattle.std.proofs.lemmas.List.Folds.{list_any-append}
use Rattle.hz_tree.specs.errors.Scopes.{occurs}
use Rattle.hz_tree.specs.tokens.Text.{Text}
use Rattle.hz_tree.specs.trees.FunctionScopes.{Used, used_within}
use Rattle.hz_scopes.specs.declared.uses.Use.{Use}
use Rattle.hz_scopes.specs.Layers.{Layers, each, first_start, around, layers_of}
use Rattle.hz_scopes.specs.Links.{used_of, left_of, without, last_place, IsLinked, IsIndexed, IsOneLess}
use Rattle.hz_scopes.specs.Links.{TakesOne}
use Rattle.hz_scopes.proofs.UsesLemmas.{left_append, place_below, back, names_left, occurs_from, reaches}

abbrev pub gone : Use → Use
gone u = record u { taken = true }

pub split : (items : List Use) (p : ℕ) (e : Use) → p < length items → e ≡ get_or items p e
    → items ≡ take p items ++ e ∷ drop (suc p) items
split [] p e h is = absurd (omega (arith, h))
split (x ∷ xs) zero e h is = ap (λ y. y ∷ xs) (sym is)
split (x ∷ xs) (suc p) e h is = ap (λ ys. x ∷ ys) (split xs p e (omega arith) is)

-- the use at the place of the last of its name
pub record IsLast (name : Text) (items : List Use) (p : ℕ) (e : Use) : Type 0 where
  pub within : p < length items
  pub read : e ≡ get_or items p e
  pub left : e.taken ≡ false
  pub named : e.name.now ≡ name

-- the last use of a name has this name, and was not taken out
is_at : (name : Text) (later : List Use) (e : Use) (before : List Use)
    → last_place name (later ++ e ∷ before) ≡ Some (length before) → (e.taken ≡ false) × (e.name.now ≡ name)
is_at name [] e before is = by_test e.taken (bytes_eq e.name.now name) refl refl is
  where
    by_test : (t b : Bool) → e.taken ≡ t → bytes_eq e.name.now name ≡ b
        → cond (not t && b) (Some (length before)) (last_place name before) ≡ Some (length before)
        → (e.taken ≡ false) × (e.name.now ≡ name)
    by_test false true left same is = (left, (bytes_decides e.name.now name).0 same)
    by_test false false left same is = absurd (omega (arith, place_below name (length before) before is))
    by_test true b left same is = absurd (omega (arith, place_below name (length before) before is))
is_at name (l ∷ later) e before is = by_test (not l.taken && bytes_eq l.name.now name) is (is_at name later e before)
  where
    by_test : (b : Bool)
        → cond b (Some (length (later ++ e ∷ before))) (last_place name (later ++ e ∷ before)) ≡ Some (length before)
        → (last_place name (later ++ e ∷ before) ≡ Some (length before) → (e.taken ≡ false) × (e.name.now ≡ name))
        → (e.taken ≡ false) × (e.name.now ≡ name)
    by_test true is more =
        let same : length (later ++ e ∷ before) ≡ length before = cc in
        absurd (omega (arith, same, length-append later (e ∷ before)))
    by_test false is more = more is

record IsRelinked (e : Use) (old new : List Use) : Type 0 where
  places : (q : Text) → last_place q new ≡ cond (bytes_eq e.name.now q) e.previous (last_place q old)
  linked : IsLinked new
  same : length new ≡ length old

swap : {X : Type 0} (x y : Bool) (a b c : X) → (y ≡ true → x ≡ false) → cond x a (cond y b c) ≡ cond y b (cond x a c)
swap true true a b c never = absurd cc (never refl)
swap true false a b c never = refl
swap false y a b c never = refl

-- a use that is not of the name stays linked
other_name : (q n : Text) (b : Bool) → bytes_eq n q ≡ b → bytes_eq q n ≡ false → b ≡ false
other_name q n false is other = refl
other_name q n true is other =
    let same : q ≡ n = sym ((bytes_decides n q).0 is) in
    let self = (bytes_decides q n).1 same in
    absurd cc

relink : (e : Use) (later before : List Use) → e.taken ≡ false
    → last_place e.name.now (later ++ e ∷ before) ≡ Some (length before)
    → IsLinked (later ++ e ∷ before)
    → IsRelinked e (later ++ e ∷ before) (later ++ gone e ∷ before)
relink e [] before left is linked =
    record {
      places = λ q. sym (back e before (linked.0 left) q (bytes_eq e.name.now q) refl)
          ∙ ap (λ t. cond (bytes_eq e.name.now q) e.previous
          (cond (not t && bytes_eq e.name.now q) (Some (length before)) (last_place q before))) (sym left);
      linked = (λ never. absurd cc, linked.1);
      same = refl;
    }
relink e (l ∷ later) before left is linked =
    by_test (not l.taken && bytes_eq l.name.now e.name.now) refl is (λ is. relink e later before left is linked.1)
  where
    unlike : (not l.taken && bytes_eq l.name.now e.name.now) ≡ false → l.taken ≡ false
        → bytes_eq e.name.now l.name.now ≡ false
    unlike test is =
        other_name l.name.now e.name.now (bytes_eq e.name.now l.name.now) refl
        (ap (λ t. not t && bytes_eq l.name.now e.name.now) (sym is) ∙ test)

    step : (not l.taken && bytes_eq l.name.now e.name.now) ≡ false
        → IsRelinked e (later ++ e ∷ before) (later ++ gone e ∷ before)
        → IsRelinked e (l ∷ later ++ e ∷ before) (l ∷ later ++ gone e ∷ before)
    step test more =
        record {
          places = λ q. let x = not l.taken && bytes_eq l.name.now q in
              ap (λ k. cond x (Some k) (last_place q (later ++ gone e ∷ before))) more.same
              ∙ ap (cond x (Some (length (later ++ e ∷ before)))) (more.places q)
              ∙ swap x (bytes_eq e.name.now q) (Some (length (later ++ e ∷ before))) e.previous
              (last_place q (later ++ e ∷ before))
              (λ is. ap (λ r. not l.taken && bytes_eq l.name.now r) (sym ((bytes_decides e.name.now q).0 is)) ∙ test);
          linked = (
            λ is. linked.0 is
                ∙ ap (λ b. cond b e.previous (last_place l.name.now (later ++ e ∷ before))) (sym (unlike test is))
                ∙ sym (more.places l.name.now),
            more.linked,
          );
          same = ap suc more.same;
        }

    by_test : (b : Bool) → (not l.taken && bytes_eq l.name.now e.name.now) ≡ b
        → cond b (Some (length (later ++ e ∷ before))) (last_place e.name.now (later ++ e ∷ before))
        ≡ Some (length before)
        → (last_place e.name.now (later ++ e ∷ before) ≡ Some (length before)
        → IsRelinked e (later ++ e ∷ before) (later ++ gone e ∷ before))
        → IsRelinked e (l ∷ later ++ e ∷ before) (l ∷ later ++ gone e ∷ before)
    by_test true test is more =
        let same : length (later ++ e ∷ before) ≡ length before = cc in
        absurd (omega (arith, same, length-append later (e ∷ before)))
    by_test false test is more = step test (more is)

turn : (front : List Use) (e : Use) (after : List Use)
    → reverse (front ++ e ∷ after) ≡ reverse after ++ e ∷ reverse front
turn front e after =
    reverse-append front (e ∷ after) ∙ ap (λ es. es ++ reverse front) (reverse-append (e ∷ []) after)
    ∙ append_assoc (reverse after) (e ∷ []) (reverse front)

turned : (items : List Use) (p : ℕ) (e : Use) → p < length items → e ≡ get_or items p e
    → reverse items ≡ reverse (drop (suc p) items) ++ e ∷ reverse (take p items)
turned items p e h is = ap reverse (split items p e h is) ∙ turn (take p items) e (drop (suc p) items)

set_turned : (items : List Use) (p : ℕ) (e : Use) → p < length items
    → reverse (set items p e) ≡ reverse (drop (suc p) items) ++ e ∷ reverse (take p items)
set_turned items p e h = ap reverse (set_split items p e h) ∙ turn (take p items) e (drop (suc p) items)

length_before : (items : List Use) (p : ℕ) → p < length items → length (reverse (take p items)) ≡ p
length_before items p h = omega (arith, length-reverse (take p items), length-take-le p items)

pub is_last : (name : Text) (items : List Use) (p : ℕ) (e : Use)
    → last_place name (reverse items) ≡ Some p → e ≡ get_or items p e → IsLast name items p e
is_last name items p e place read =
    let within : p < length items = omega (arith, place_below name p (reverse items) place, length-reverse items) in
    let before = length_before items p within in
    let at = is_at name (reverse (drop (suc p) items)) e (reverse (take p items))
    (ap (last_place name) (sym (turned items p e within read)) ∙ place ∙ ap Some (sym before)) in
    record { within = within; read = read; left = at.0; named = at.1 }

pub indexed_take : (name : Text) (items : List Use) (p : ℕ) (e : Use) (places after : Text → Option ℕ)
    → (IsIndexed (reverse items) places) × (places name ≡ Some p) × (e ≡ get_or items p e)
    → ((q : Text) → after q ≡ cond (bytes_eq e.name.now q) e.previous (places q))
    → IsIndexed (reverse (set items p (gone e))) after
indexed_take name items p e places after was updates =
    let indexed = was.0 in
    let last = is_last name items p e (sym (indexed.0 name) ∙ was.1) was.2 in
    let back_to_front = turned items p e last.within was.2 in
    let before = length_before items p last.within in
    let place : last_place e.name.now (reverse (drop (suc p) items) ++ e ∷ reverse (take p items))
    ≡ Some (length (reverse (take p items))) =
    ap (last_place e.name.now) (sym back_to_front) ∙ sym (indexed.0 e.name.now) ∙ ap places last.named ∙ was.1
    ∙ ap Some (sym before) in
    let linked = subst IsLinked back_to_front indexed.1 in
    let more = relink e (reverse (drop (suc p) items)) (reverse (take p items)) last.left place linked in
    rw (set_turned items p (gone e) last.within) (
      λ q. updates q ∙ ap (cond (bytes_eq e.name.now q) e.previous) (indexed.0 q ∙ ap (last_place q) back_to_front)
          ∙ sym (more.places q),
      more.linked,
    )

-- ---- what is shown

without_append : (name : Text) (xs ys : List Used) → without name (xs ++ ys) ≡ without name xs ++ without name ys
without_append name xs ys = filter-append (λ (u : Used). not (bytes_eq u.name name)) xs ys

within_append : (name : Text) (xs ys : List Used)
    → used_within (xs ++ ys) name ≡ (used_within xs name || used_within ys name)
within_append name xs ys = list_any-append (λ (u : Used). u.inner && bytes_eq u.name name) xs ys

or_swap : (a b c : Bool) → (a || (b || c)) ≡ (b || (a || c))
or_swap true true c = refl
or_swap true false c = refl
or_swap false b c = refl

left_one : (e : Use) → e.taken ≡ false → left_of (e ∷ []) ≡ used_of e ∷ []
left_one e left = ap (λ t. map used_of (cond (not t) (e ∷ []) [])) left

record IsShorter (name : Text) (inner : Bool) (old new : List Used) : Type 0 where
  others : without name new ≡ without name old
  found : (inner || used_within new name) ≡ used_within old name
  fewer : length new < length old

here_shorter : (name : Text) (e : Use) (xs : List Use) → e.taken ≡ false → e.name.now ≡ name
    → IsShorter name e.inner (left_of (e ∷ xs)) (left_of (gone e ∷ xs))
here_shorter name e xs left named =
    let same : bytes_eq e.name.now name ≡ true = (bytes_decides e.name.now name).1 named in
    let old : left_of (e ∷ xs) ≡ used_of e ∷ left_of xs =
    left_append (e ∷ []) xs ∙ ap (λ us. us ++ left_of xs) (left_one e left) in
    rw old record {
      others = ap (λ b. cond (not b) (used_of e ∷ without name (left_of xs)) (without name (left_of xs))) (sym same);
      found = ap (λ b. b || used_within (left_of xs) name)
          (sym (ap (λ b. e.inner && b) same ∙ and_true e.inner));
      fewer = omega arith;
    }
  where
    and_true : (b : Bool) → (b && true) ≡ b
    and_true true = refl
    and_true false = refl

shorter : (name : Text) (xs : List Use) (j : ℕ) (e : Use) → j < length xs → e ≡ get_or xs j e
    → (e.taken ≡ false) × (e.name.now ≡ name)
    → IsShorter name e.inner (left_of xs) (left_of (set xs j (gone e)))
shorter name [] j e h is last = absurd (omega (arith, h))
shorter name (x ∷ xs) zero e h is last =
    subst (λ y. IsShorter name e.inner (left_of (y ∷ xs)) (left_of (gone e ∷ xs))) is
    (here_shorter name e xs last.0 last.1)
shorter name (x ∷ xs) (suc j) e h is last =
    let more = shorter name xs j e (omega arith) is last in
    let one = left_of (x ∷ []) in
    let before = left_of xs in
    let after = left_of (set xs j (gone e)) in
    rw (left_append (x ∷ []) xs, left_append (x ∷ []) (set xs j (gone e))) record {
      others = without_append name one after ∙ ap (λ us. without name one ++ us) more.others
          ∙ sym (without_append name one before);
      found = ap (λ b. e.inner || b) (within_append name one after)
          ∙ or_swap e.inner (used_within one name) (used_within after name)
          ∙ ap (λ b. used_within one name || b) more.found ∙ sym (within_append name one before);
      fewer = omega (arith, length-append one after, length-append one before, more.fewer);
    }

around_set : (starts : List ℕ) (items : List Use) (p : ℕ) (e : Use) → first_start starts ≤ p
    → around starts (set items p e) ≡ around starts items
around_set [] items p e h = refl
around_set (m ∷ starts) items p e h =
    ap (λ zs. drop (first_start starts) zs ∷ around starts zs) (take-set-le m items p e h)

pub takes_one : (name : Text) (starts : List ℕ) (items : List Use) (p : ℕ) (e : Use)
    → IsLast name items p e → first_start starts ≤ p
    → IsOneLess name e.inner (each left_of (layers_of starts items))
    (each left_of (layers_of starts (set items p (gone e))))
takes_one name starts items p e last h =
    let m = first_start starts in
    let j = p - m in
    let there : p ≡ m + j = omega arith in
    let inside : j < length (drop m items) = omega (arith, length-drop m items, last.within) in
    let read : e ≡ get_or (drop m items) j e =
    last.read ∙ ap (λ k. get_or items k e) there ∙ sym (get_or-drop m items j e) in
    let moved : drop m (set items p (gone e)) ≡ set (drop m items) j (gone e) =
    ap (λ k. drop m (set items k (gone e))) there ∙ drop-set-add m items j (gone e) in
    let less = shorter name (drop m items) j e inside read (last.left, last.named) in
    let outer = ap (map left_of) (around_set starts items p (gone e) h) in
    rw moved record { others = less.others; found = less.found; fewer = less.fewer; outer = outer }

-- a name that is not used
pub not_used : (name : Text) (us : List Used) → occurs name (map (λ u. u.name) us) ≡ false
    → (without name us ≡ us) × (used_within us name ≡ false)
not_used name [] none = (refl, refl)
not_used name (u ∷ us) none =
    by_test (bytes_eq u.name name) refl none (not_used name us)
  where
    and_false : (b : Bool) → (b && false) ≡ false
    and_false true = refl
    and_false false = refl

    by_test : (b : Bool) → bytes_eq u.name name ≡ b → (b || occurs name (map (λ (u : Used). u.name) us)) ≡ false
        → (occurs name (map (λ (u : Used). u.name) us) ≡ false
        → (without name us ≡ us) × (used_within us name ≡ false))
        → (without name (u ∷ us) ≡ u ∷ us) × (used_within (u ∷ us) name ≡ false)
    by_test true is none rest = absurd cc
    by_test false is none rest =
        let more = rest none in
        rw is (ap (λ us. u ∷ us) more.0, ap (λ b. b || used_within us name) (and_false u.inner) ∙ more.1)

-- there is no use of the name from the start of the innermost layer on
pub none_left : (name : Text) (starts : List ℕ) (items : List Use)
    → reaches (first_start starts) (last_place name (reverse items)) ≡ false
    → let inner = left_of (drop (first_start starts) items) in
    (without name inner ≡ inner) × (used_within inner name ≡ false)
none_left name starts items none =
    let m = first_start starts in
    not_used name (left_of (drop m items))
    (ap (λ us. occurs name (names_left (drop m us))) (sym (reverse-reverse items))
    ∙ occurs_from name m (reverse items) ∙ none)

pub none_taken : (name : Text) (starts : List ℕ) (items : List Use) (l : Layers Used)
    → each left_of (layers_of starts items) ≡ l
    → reaches (first_start starts) (last_place name (reverse items)) ≡ false
    → TakesOne name None l l
none_taken name starts items l shown none =
    let none = none_left name starts items none in
    subst (λ l. TakesOne name None l l) shown (refl, none.0, none.1)

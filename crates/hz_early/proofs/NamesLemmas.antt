-- Where names stand in a list that knows the last place of each.
use Rattle.std.proofs.Common.{◌≡◌, ◌≤◌, ◌<◌, ℕ, Bool, true, false, ◌||◌, cond, List, [], ◌∷◌, ◌++◌, length, reverse}
use Rattle.std.proofs.Common.{drop, refl, sym, ap, ◌∙◌, arith, ⊎_elim}
use Rattle.std.proofs.Common.{leb, Option, Some, None}
use Rattle.std.specs.Str.{bytes_eq}
use Rattle.std.specs.Cmp.Lexicographic.{bytes_decides}
use Rattle.std.proofs.lemmas.Bool.{le-leb, lt-leb, cases_lt}
use Rattle.std.proofs.lemmas.List.{reverse-append, map-append, drop-append-le, drop_all, length-map, length-reverse}
use Rattle.std.proofs.lemmas.List.{length-append, reverse-reverse}
use Rattle.std.proofs.lemmas.List.Folds.{list_any-append}
use Rattle.hz_tree.specs.tokens.Text.{Text}
use Rattle.hz_early.specs.declared.names.Entry.{Entry}
use Rattle.hz_early.specs.Names.{names_of, last_place, IsIndexed}
use Rattle.hz_tree.specs.errors.Scopes.{occurs}

or_true : (b : Bool) → (b || true) ≡ true
or_true true = refl
or_true false = refl

or_false : (b : Bool) → (b || false) ≡ b
or_false true = refl
or_false false = refl

-- whether a place is no place before m
abbrev pub reaches : ℕ → Option ℕ → Bool
reaches m None = false
reaches m (Some place) = leb m place

pub names_of-push : (e : Entry) (es : List Entry)
    → names_of (reverse (e ∷ es)) ≡ names_of (reverse es) ++ e.name.now ∷ []
names_of-push e es =
    ap names_of (reverse-append (e ∷ []) es) ∙ map-append (λ (e : Entry). e.name.now) (reverse es) (e ∷ [])

length-names_of : (es : List Entry) → length (names_of (reverse es)) ≡ length es
length-names_of es = length-map (reverse es) (λ (e : Entry). e.name.now) ∙ length-reverse es

-- all places are before the list's length
reaches-last_place : (name : Text) (m : ℕ) (es : List Entry) → length es ≤ m → reaches m (last_place name es) ≡ false
reaches-last_place name m [] h = refl
reaches-last_place name m (e ∷ es) h =
    reaches_either m (bytes_eq e.name.now name) (length es) (last_place name es) (omega arith)
    (reaches-last_place name m es (omega arith))
  where
    reaches_either : (m : ℕ) (b : Bool) (n : ℕ) (p : Option ℕ) → n < m → reaches m p ≡ false
        → reaches m (cond b (Some n) p) ≡ false
    reaches_either m true n p h k = lt-leb m n h
    reaches_either m false n p h k = k

pub occurs_from : (name : Text) (m : ℕ) (es : List Entry)
    → occurs name (drop m (names_of (reverse es))) ≡ reaches m (last_place name es)
occurs_from name m [] = ap (occurs name) (drop_all m [] (omega arith))
occurs_from name m (e ∷ es) =
    let names = names_of (reverse es) in
    let last = e.name.now ∷ [] in
    ap (λ ns. occurs name (drop m ns)) (names_of-push e es)
    ∙ ⊎_elim (λ (outside : length es < m).
    let long : length (names ++ last) ≤ m = omega (arith, length-append names last, length-names_of es) in
    ap (occurs name) (drop_all m (names ++ last) long)
    ∙ sym (reaches-last_place name m (e ∷ es) (omega arith)))
    (λ (inside : m ≤ length es).
    let short : m ≤ length names = omega (arith, length-names_of es) in
    ap (occurs name) (drop-append-le m names last short)
    ∙ list_any-append (λ other. bytes_eq other name) (drop m names) last
    ∙ ap (λ found. found || occurs name last) (occurs_from name m es)
    ∙ either m (length es) (bytes_eq e.name.now name) (last_place name es) inside)
    (cases_lt (length es) m)
  where
    either : (m n : ℕ) (b : Bool) (p : Option ℕ) → m ≤ n → (reaches m p || (b || false)) ≡ reaches m (cond b (Some n) p)
    either m n true p h = or_true (reaches m p) ∙ sym (le-leb m n h)
    either m n false p h = or_false (reaches m p)

-- what the last place of a name says of the names from some place on
pub occurs_by_place : (name : Text) (m : ℕ) (items : List Entry) (names : List Text) (place : Option ℕ)
    → names_of items ≡ names
    → place ≡ last_place name (reverse items)
    → reaches m place ≡ occurs name (drop m names)
occurs_by_place name m items names place are is =
    ap (reaches m) is ∙ sym (occurs_from name m (reverse items))
    ∙ ap (λ (es : List Entry). occurs name (drop m (names_of es))) (reverse-reverse items)
    ∙ ap (λ ns. occurs name (drop m ns)) are

-- a name was added
pub indexed_push : (items more : List Entry) (e : Entry) (places after : Text → Option ℕ)
    → more ≡ items ++ e ∷ []
    → IsIndexed (reverse items) places
    → e.previous ≡ places e.name.now
    → ((name : Text) → after name ≡ cond (bytes_eq e.name.now name) (Some (length items)) (places name))
    → IsIndexed (reverse more) after
indexed_push items more e places after are was previous updates =
    rw (are, reverse-append items (e ∷ [])) (
      λ name. updates name
          ∙ ap (λ place. cond (bytes_eq e.name.now name) (Some (length items)) place) (was.0 name)
          ∙ ap (λ n. cond (bytes_eq e.name.now name) (Some n) (last_place name (reverse items)))
          (sym (length-reverse items)),
      (previous ∙ was.0 e.name.now, was.1),
    )

-- the last name was taken back
pub indexed_pop : (items fewer : List Entry) (e : Entry) (places after : Text → Option ℕ)
    → items ≡ fewer ++ e ∷ []
    → IsIndexed (reverse items) places
    → ((name : Text) → after name ≡ cond (bytes_eq e.name.now name) e.previous (places name))
    → IsIndexed (reverse fewer) after
indexed_pop items fewer e places after are was updates =
    let es = reverse fewer in
    let begun : IsIndexed (e ∷ es) places = rw (are, reverse-append fewer (e ∷ [])) at was in (
      λ name. updates name ∙ ap (λ place. cond (bytes_eq e.name.now name) e.previous place) (begun.0 name)
          ∙ back es begun.1.0 name (bytes_eq e.name.now name) refl,
      begun.1.1,
    )
  where
    back : (es : List Entry) → e.previous ≡ last_place e.name.now es → (name : Text) (b : Bool)
        → bytes_eq e.name.now name ≡ b
        → cond b e.previous (cond b (Some (length es)) (last_place name es)) ≡ last_place name es
    back es previous name true is = previous ∙ ap (λ n. last_place n es) ((bytes_decides e.name.now name).0 is)
    back es previous name false is = refl

-- the last entry's name has a place
pub last_has_place : (items fewer : List Entry) (e : Entry) (places : Text → Option ℕ)
    → items ≡ fewer ++ e ∷ []
    → IsIndexed (reverse items) places
    → places e.name.now ≡ None → ⊥
last_has_place items fewer e places are was none =
    let begun : IsIndexed (e ∷ reverse fewer) places = rw (are, reverse-append fewer (e ∷ [])) at was in
    let here : bytes_eq e.name.now e.name.now ≡ true = (bytes_decides e.name.now e.name.now).1 refl in
    let es = reverse fewer in
    let place = begun.0 e.name.now ∙ ap (λ b. cond b (Some (length es)) (last_place e.name.now es)) here in
    cc (place, none)

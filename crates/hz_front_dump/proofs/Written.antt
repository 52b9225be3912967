-- Lines that are written one behind the other.
use Rattle.std.proofs.Common.{◌≡◌, ℕ, ◌+◌, zero, suc, List, [], ◌∷◌, ◌++◌, take, Option, Some, None}
use Rattle.std.proofs.Common.{refl, ap, sym, ◌∙◌}
use Rattle.std.proofs.Common.{append-nil, append_assoc, add-one, arith, length, ◌≤◌}
use Rattle.std.proofs.lemmas.List.{take_all}
use Rattle.std.specs.List.{flat_map, enumerate_from, slice_get}
use Rattle.std.specs.Option.{option_to_list, option_map}
use Rattle.std.specs.Prelude.{codes}
use Rattle.std.specs.List.{slice_index_or, zip}
use Rattle.std.specs.Option.{option_zip}
use Rattle.std.proofs.lemmas.Slice.Zip.{length-zip}
use Rattle.hz_tree.specs.declared.index.FunctionInfo.{FunctionInfo}
use Rattle.hz_tree.specs.sources.Refusals.{functions, function_scopes}
use Rattle.hz_tree.specs.tokens.Text.{Text}
use Rattle.hz_tree.specs.trees.FunctionScopes.{Scope, FunctionScopes}
use Rattle.hz_tree.specs.declared.place.Place.{Place}
use Rattle.hz_tree.specs.trees.FunctionScopes.{ScopeName}
use Rattle.hz_tree.specs.trees.Layout.{layout}
use Rattle.hz_resolve.specs.Places.{Places, place_at, ArePlacesOf}
use Rattle.hz_resolve.proofs.Nested.{place_there}
use Rattle.hz_front_dump.specs.Dump.{function_line, free_line, scope_line, scope_lines, known_lines, function_lines}
use Rattle.hz_front_dump.specs.Dump.{dump_of}
use Rattle.hz_front_dump.specs.Dump.{name_line, binding_word, place_word, HaveScopes}
use Rattle.hz_tree.specs.trees.FunctionTrees.{own_tokens}
use Rattle.hz_front_dump.specs.Places.{HasOwn}

take_next : {X : Type 0} (xs : List X) (i : ℕ) → take (suc i) xs ≡ take i xs ++ option_to_list (slice_get xs i)
take_next [] zero = refl
take_next [] (suc i) = refl
take_next (x ∷ xs) zero = refl
take_next (x ∷ xs) (suc i) = ap (λ more. x ∷ more) (take_next xs i)

flat_map-append : {X : Type 0} (line : X → Text) (xs ys : List X)
    → flat_map line (xs ++ ys) ≡ flat_map line xs ++ flat_map line ys
flat_map-append line [] ys = refl
flat_map-append line (x ∷ xs) ys =
    ap (λ more. line x ++ more) (flat_map-append line xs ys)
    ∙ sym (append_assoc (line x) (flat_map line xs) (flat_map line ys))

-- the line of the next one comes behind the others
pub one_more : {X : Type 0} (line : X → Text) (xs : List X) (i : ℕ) (o : Option X) (start was now : Text)
    → was ≡ start ++ flat_map line (take i xs) → o ≡ slice_get xs i → now ≡ was ++ flat_map line (option_to_list o)
    → now ≡ start ++ flat_map line (take (i + 1) xs)
one_more line xs i o start was now h e k =
    k ∙ ap (λ w. w ++ flat_map line (option_to_list o)) h
    ∙ append_assoc start (flat_map line (take i xs)) (flat_map line (option_to_list o))
    ∙ ap (λ o. start ++ (flat_map line (take i xs) ++ flat_map line (option_to_list o))) e
    ∙ ap (λ w. start ++ w) (sym (flat_map-append line (take i xs) (option_to_list (slice_get xs i))))
    ∙ ap (λ ys. start ++ flat_map line ys) (sym (take_next xs i))
    ∙ ap (λ k. start ++ flat_map line (take k xs)) (sym (add-one i))

pub none_yet : {X : Type 0} (line : X → Text) (xs : List X) (start : Text) → start ≡ start ++ flat_map line (take 0 xs)
none_yet line xs start = sym (append-nil start)

slice_get-enumerate : {X : Type 0} (n : ℕ) (xs : List X) (i : ℕ)
    → slice_get (enumerate_from n xs) i ≡ option_map (λ x. (n + i, x)) (slice_get xs i)
slice_get-enumerate n [] i = refl
slice_get-enumerate n (x ∷ xs) zero = ap (λ k. Some (k, x)) (omega arith)
slice_get-enumerate n (x ∷ xs) (suc i) =
    slice_get-enumerate (n + 1) xs i ∙ ap (λ k. option_map (λ y. (k, y)) (slice_get xs i)) (omega arith)

one_numbered : {X : Type 0} (i : ℕ) (o : Option X)
    → enumerate_from i (option_to_list o) ≡ option_to_list (option_map (λ x. (i, x)) o)
one_numbered i None = refl
one_numbered i (Some x) = refl

from_zero : (i : ℕ) → i ≡ 0 + i
from_zero i = omega arith

-- the same where the lines have numbers
pub one_more_numbered : {X : Type 0} (line : ℕ × X → Text) (xs : List X) (i : ℕ) (o : Option X) (start was now : Text)
    → was ≡ start ++ flat_map line (take i (enumerate_from 0 xs)) → o ≡ slice_get xs i
    → now ≡ was ++ flat_map line (enumerate_from i (option_to_list o))
    → now ≡ start ++ flat_map line (take (i + 1) (enumerate_from 0 xs))
one_more_numbered line xs i o start was now h e k =
    one_more line (enumerate_from 0 xs) i (option_map (λ x. (i, x)) o) start was now h
    (ap (option_map (λ x. (i, x))) e ∙ ap (λ k. option_map (λ x. (k, x)) (slice_get xs i)) (from_zero i)
    ∙ sym (slice_get-enumerate 0 xs i))
    (k ∙ ap (λ ys. was ++ flat_map line ys) (one_numbered i o))

pub length-enumerate : {X : Type 0} (n : ℕ) (xs : List X) → length (enumerate_from n xs) ≡ length xs
length-enumerate n [] = refl
length-enumerate n (x ∷ xs) = ap suc (length-enumerate (n + 1) xs)

-- all lines are there
pub all_lines : {X : Type 0} (line : X → Text) (xs : List X) (i : ℕ) (start now : Text) → length xs ≤ i
    → now ≡ start ++ flat_map line (take i xs) → now ≡ start ++ flat_map line xs
all_lines line xs i start now h e = e ∙ ap (λ ys. start ++ flat_map line ys) (take_all i xs h)

past_end : {X : Type 0} (xs : List X) (i : ℕ) → slice_get xs i ≡ None → length xs ≤ i
past_end [] i e = omega arith
past_end (x ∷ xs) zero e = absurd (cc)
past_end (x ∷ xs) (suc i) e = omega (arith, past_end xs i e)

-- the same for one that is there, and where none is left
pub next_numbered : {X : Type 0} (line : ℕ × X → Text) (xs : List X) (i : ℕ) (x : X) (start was now : Text)
    → was ≡ start ++ flat_map line (take i (enumerate_from 0 xs)) → slice_get xs i ≡ Some x
    → now ≡ was ++ line (i, x)
    → now ≡ start ++ flat_map line (take (i + 1) (enumerate_from 0 xs))
next_numbered line xs i x start was now h e k =
    one_more_numbered line xs i (Some x) start was now h (sym e)
    (k ∙ ap (λ w. was ++ w) (sym (append-nil (line (i, x)))))

pub all_numbered : {X : Type 0} (line : ℕ × X → Text) (xs : List X) (i : ℕ) (start now : Text)
    → slice_get xs i ≡ None → now ≡ start ++ flat_map line (take i (enumerate_from 0 xs))
    → now ≡ start ++ flat_map line (enumerate_from 0 xs)
all_numbered line xs i start now e h =
    all_lines line (enumerate_from 0 xs) i start now (omega (arith, past_end xs i e, length-enumerate 0 xs)) h

-- a name with its place
pub name_text : (places : ℕ → Option Place) (n : ℕ) (x : ScopeName) (found : Place) → places n ≡ Some found
    → name_line (λ _. Some found) (0, x) ≡ name_line places (n, x)
name_text places n x found is =
    ap (λ (p : Option Place). codes "name " ++ (x.name ++ (codes " " ++ (binding_word x.binding ++ (codes " "
    ++ (place_word p ++ codes "\n")))))) (sym is)

-- ---- places

flat_same : {X : Type 0} (line other : X → Text) (xs : List X) → ((x : X) → line x ≡ other x)
    → flat_map line xs ≡ flat_map other xs
flat_same line other [] h = refl
flat_same line other (x ∷ xs) h =
    ap (λ w. w ++ flat_map line xs) (h x) ∙ ap (λ w. other x ++ w) (flat_same line other xs h)

pub same_places : (places others : ℕ → ℕ → Option Place) (scopes : List (ℕ × Scope))
    → ((i n : ℕ) → places i n ≡ others i n)
    → flat_map (scope_lines places) scopes ≡ flat_map (scope_lines others) scopes
same_places places others scopes h =
    flat_same (scope_lines places) (scope_lines others) scopes
    (λ s. ap (λ w. scope_line s.0 s.1 ++ w)
    (flat_same (name_line (places s.0)) (name_line (others s.0)) (enumerate_from 0 s.1.names)
    (λ x. ap (λ (p : Option Place). codes "name " ++ (x.1.name ++ (codes " " ++ (binding_word x.1.binding ++ (codes " "
    ++ (place_word p ++ codes "\n")))))) (h s.0 x.0))))

-- each name of a function of the source has a place
pub have_places : (source : Text) (k : ℕ) (scopes : List Scope) (places : Places)
    → ArePlacesOf (function_scopes source) places
    → option_map (λ (f : FunctionScopes). f.scopes) (slice_get (function_scopes source) k) ≡ Some scopes
    → HaveScopes (place_at places k) scopes
have_places source k scopes places are at = λ i s there n x named.
    place_there (function_scopes source) places k i n scopes s x are at (there, named)

-- ---- functions

slice_get-zip : {X Y : Type 0} (xs : List X) (ys : List Y) (k : ℕ)
    → slice_get (zip xs ys) k ≡ option_zip (slice_get xs k) (slice_get ys k)
slice_get-zip [] ys k = refl
slice_get-zip (x ∷ xs) [] k = none_right (slice_get (x ∷ xs) k)
  where
    none_right : {X Y : Type 0} (o : Option X) → ◌≡◌ {A = Option (X × Y)} None (option_zip o None)
    none_right None = refl
    none_right (Some x) = refl
slice_get-zip (x ∷ xs) (y ∷ ys) zero = refl
slice_get-zip (x ∷ xs) (y ∷ ys) (suc k) = slice_get-zip xs ys k

-- the lines of a function that is found, from its parts
pub lines_known : (places : ℕ → ℕ → Option Place) (k own : ℕ) (o : Option FunctionInfo)
    (p : Option FunctionScopes) (f : FunctionInfo)
    (free : List Text) (scopes : List Scope) → o ≡ Some f → option_map (λ s. s.free) p ≡ Some free
    → option_map (λ s. s.scopes) p ≡ Some scopes
    → flat_map (known_lines places own) (enumerate_from k (option_to_list (option_zip o p)))
    ≡ function_line k f own ++ (flat_map free_line free ++ flat_map (scope_lines places) (enumerate_from 0 scopes))
lines_known places k own o None f free scopes e h i = cc
lines_known places k own None (Some s) f free scopes e h i = cc
lines_known places k own (Some g) (Some s) f free scopes e h i =
    let same : g ≡ f = cc in
    let names : s.free ≡ free = cc in
    let listed : s.scopes ≡ scopes = cc in
    append-nil (known_lines places own (k, (g, s)))
    ∙ ap (λ g. known_lines places own (k, (g, s))) same
    ∙ ap (λ names. function_line k f own
    ++ (flat_map free_line names ++ flat_map (scope_lines places) (enumerate_from 0 s.scopes))) names
    ∙ ap (λ ss. function_line k f own ++ (flat_map free_line free
    ++ flat_map (scope_lines places) (enumerate_from 0 ss))) listed

-- the functions with their numbers
abbrev listed : Text → List (ℕ × (FunctionInfo × FunctionScopes))
listed source = enumerate_from 0 (zip (functions source) (function_scopes source))

-- with the tokens that are its own
own_lines : (source : Text) (k n : ℕ) (o : Option FunctionInfo) (p : Option FunctionScopes)
    → ((f : FunctionInfo) → o ≡ Some f → n ≡ own_tokens (functions source) source k f)
    → flat_map (known_lines (layout (function_scopes source) k) n) (enumerate_from k (option_to_list (option_zip o p)))
    ≡ flat_map (function_lines source) (enumerate_from k (option_to_list (option_zip o p)))
own_lines source k n None p h = refl
own_lines source k n (Some f) None h = refl
own_lines source k n (Some f) (Some s) h = ap (λ n. known_lines (layout (function_scopes source) k) n (k, (f, s))
    ++ []) (h f refl)

pub dump_next : (source : Text) (k n : ℕ) (owns : List ℕ) (start was now : Text)
    → HasOwn source (functions source) owns → n ≡ slice_index_or owns k 0
    → was ≡ start
    ++ flat_map (function_lines source) (take k (listed source))
    → now ≡ was ++ flat_map (known_lines (layout (function_scopes source) k) n) (enumerate_from k
    (option_to_list (option_zip (slice_get (functions source) k) (slice_get (function_scopes source) k))))
    → now ≡ start
    ++ flat_map (function_lines source) (take (k + 1) (listed source))
dump_next source k n owns start was now h e i j =
    let o = slice_get (functions source) k in
    let p = slice_get (function_scopes source) k in
    one_more_numbered (function_lines source) (zip (functions source) (function_scopes source)) k (option_zip o p)
    start was now i (sym (slice_get-zip (functions source) (function_scopes source) k))
    (j ∙ ap (λ w. was ++ w) (own_lines source k n o p (λ f is. e ∙ h.each k f is)))

pub dump_ends : (source : Text) (k : ℕ) (now : Text) → length (functions source) ≤ k
    → now ≡ flat_map (function_lines source) (take k (listed source))
    → now ≡ dump_of source
unfolding dump_of
dump_ends source k now h e =
    let all = zip (functions source) (function_scopes source) in
    e ∙ ap (flat_map (function_lines source)) (take_all k (enumerate_from 0 all)
    (omega (arith, h, length-enumerate 0 all, length-zip (functions source) (function_scopes source))))

pub ruleset lines_laws = (one_more, none_yet, all_lines)

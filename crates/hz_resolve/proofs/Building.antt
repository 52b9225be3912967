-- Scopes and names as they are put one behind the other.
use Rattle.std.proofs.Common.{◌≡◌, ◌∙◌, ℕ, zero, suc, ◌+◌, ◌≤◌, ◌<◌, List, [], ◌∷◌, ◌++◌, length, map, take}
use Rattle.std.proofs.Common.{append_assoc}
use Rattle.std.proofs.Common.{Option, Some, None, refl, ap, sym, arith, append-nil}
use Rattle.std.proofs.lemmas.List.{length-append, length-map, map-append, take-map}
use Rattle.std.proofs.lemmas.Option.{slice_get-map, same_Some}
use Rattle.std.specs.List.{slice_get, flat_map}
use Rattle.std.specs.Option.{option_map}
use Rattle.hz_tree.specs.trees.FunctionScopes.{Scope, ScopeName, FunctionScopes}
use Rattle.hz_tree.specs.trees.Layout.{PlacedScope, first_scope, placed_from, scopes_from, all_scopes}
use Rattle.hz_resolve.specs.declared.functions.PlacedFunction.{PlacedFunction}
use Rattle.hz_resolve.specs.Numbered.{Numbered, numbered, Use, use_in, uses_in, uses_of, scopes_of}
use Rattle.hz_resolve.specs.declared.name.Name.{Name}
use Rattle.hz_resolve.specs.Starts.{placed_function, placed_in, all_placed_in}
use Rattle.hz_resolve.specs.Views.{known_use}
use Rattle.hz_resolve.proofs.Declared.{take_found}
use Rattle.hz_resolve.proofs.Flat.{scopes_numbered}
use Rattle.hz_resolve.proofs.Parts.{total, total-append, first_is}

pub uses-append : (xs ys : List PlacedScope) → uses_of (xs ++ ys) ≡ uses_of xs ++ uses_of ys
uses-append [] ys = refl
uses-append (x ∷ xs) ys =
    ap (λ us. uses_in x ++ us) (uses-append xs ys) ∙ sym (append_assoc (uses_in x) (uses_of xs) (uses_of ys))

pub numbered-append : (first : ℕ) (xs ys : List PlacedScope)
    → numbered first (xs ++ ys) ≡ numbered first xs ++ numbered (first + length (uses_of xs)) ys
numbered-append first [] ys = let e : first ≡ first + 0 = omega arith in ap (λ n. numbered n ys) e
numbered-append first (x ∷ xs) ys =
    let e : (first + length x.names) + length (uses_of xs) ≡ first + length (uses_in x ++ uses_of xs) =
    omega (arith, length-append (uses_in x) (uses_of xs), length-map x.names (use_in x)) in
    let one : Numbered = record { scope = x; first = first } in
    ap (λ ss. one ∷ ss) (numbered-append (first + length x.names) xs ys)
    ∙ ap (λ n. one ∷ (numbered (first + length x.names) xs ++ numbered n ys)) e

length-take_found : {X : Type 0} (xs : List X) (i : ℕ) (x : X) → slice_get xs i ≡ Some x → length (take i xs) ≡ i
length-take_found [] zero x e = refl
length-take_found [] (suc i) x e = cc
length-take_found (y ∷ xs) zero x e = refl
length-take_found (y ∷ xs) (suc i) x e = ap suc (length-take_found xs i x e)

placed_more : (f : PlacedFunction) (number : ℕ) (xs : List Scope) (x : Scope)
    → all_placed_in f number (xs ++ x ∷ []) ≡ all_placed_in f number xs ++ placed_in f (number + length xs) x ∷ []
placed_more f number [] x = let e : number ≡ number + 0 = omega arith in ap (λ n. placed_in f n x ∷ []) e
placed_more f number (y ∷ xs) x =
    let e : suc number + length xs ≡ number + suc (length xs) = omega arith in
    ap (λ ss. placed_in f number y ∷ ss) (placed_more f (suc number) xs x)
    ∙ ap (λ n. placed_in f number y ∷ (all_placed_in f (suc number) xs ++ placed_in f n x ∷ [])) e

-- one scope more of a function
pub scopes_step : (f : PlacedFunction) (own : List Scope) (i next past : ℕ) (s : Scope) (start was : List Numbered)
    → slice_get own i ≡ Some s
    → was ≡ start ++ numbered next (all_placed_in f f.first (take i own))
    → past ≡ next + length (uses_of (all_placed_in f f.first (take i own)))
    → (was ++ record { scope = placed_in f (f.first + i) s; first = past } ∷ []
    ≡ start ++ numbered next (all_placed_in f f.first (take (i + 1) own)))
    × (past + length s.names ≡ next + length (uses_of (all_placed_in f f.first (take (i + 1) own))))
scopes_step f own i next past s start was at are is =
    let some = take i own in
    let before = all_placed_in f f.first some in
    let one = placed_in f (f.first + i) s in
    let long = length-take_found own i s at in
    let more : all_placed_in f f.first (take (i + 1) own) ≡ before ++ one ∷ [] =
    ap (all_placed_in f f.first) (take_found own i s at) ∙ placed_more f f.first some s
    ∙ ap (λ n. before ++ placed_in f (f.first + n) s ∷ []) long in
    let uses : length (uses_of (before ++ one ∷ [])) ≡ length (uses_of before) + length s.names =
    omega (
      arith,
      ap length (uses-append before (one ∷ [])),
      length-append (uses_of before) (uses_of (one ∷ [])),
      length-append (uses_in one) [],
      length-map s.names (use_in one),
    ) in (
      ap (λ ss. ss ++ record { scope = one; first = past } ∷ []) are
          ∙ append_assoc start (numbered next before) (record { scope = one; first = past } ∷ [])
          ∙ ap (λ n. start ++ (numbered next before ++ record { scope = one; first = n } ∷ [])) is
          ∙ ap (λ ss. start ++ ss) (sym (numbered-append next before (one ∷ [])))
          ∙ ap (λ ss. start ++ numbered next ss) (sym more),
      omega (arith, is, uses, ap (λ ss. length (uses_of ss)) more),
    )

pub placed_same : (fs : List FunctionScopes) (k number : ℕ) (f : FunctionScopes) (scopes : List Scope)
    → all_placed_in (placed_function fs k f) number scopes ≡ placed_from fs k (first_scope fs k) number f scopes
placed_same fs k number f [] = refl
placed_same fs k number f (s ∷ more) =
    ap (λ ss. placed_in (placed_function fs k f) number s ∷ ss) (placed_same fs k (suc number) f more)

scopes_more : (fs : List FunctionScopes) (k first : ℕ) (xs : List FunctionScopes) (f : FunctionScopes)
    → scopes_from fs k first (xs ++ f ∷ [])
    ≡ scopes_from fs k first xs
    ++ placed_from fs (k + length xs) (first + total (λ (g : FunctionScopes). length g.scopes) xs)
    (first + total (λ (g : FunctionScopes). length g.scopes) xs) f f.scopes
scopes_more fs k first [] f =
    let e : k ≡ k + 0 = omega arith in
    let d : first ≡ first + 0 = omega arith in
    append-nil (placed_from fs k first first f f.scopes)
    ∙ ap (λ n. placed_from fs n first first f f.scopes) e
    ∙ ap (λ n. placed_from fs (k + 0) n n f f.scopes) d
scopes_more fs k first (g ∷ xs) f =
    let size = λ (g : FunctionScopes). length g.scopes in
    let here = placed_from fs k first first g g.scopes in
    let next = first + length g.scopes in
    let e : suc k + length xs ≡ k + suc (length xs) = omega arith in
    let d : next + total size xs ≡ first + (length g.scopes + total size xs) = omega arith in
    ap (λ ss. here ++ ss) (scopes_more fs (suc k) next xs f)
    ∙ sym (append_assoc here (scopes_from fs (suc k) next xs)
    (placed_from fs (suc k + length xs) (next + total size xs) (next + total size xs) f f.scopes))
    ∙ ap (λ n. (here ++ scopes_from fs (suc k) next xs)
    ++ placed_from fs n (next + total size xs) (next + total size xs) f f.scopes) e
    ∙ ap (λ n. (here ++ scopes_from fs (suc k) next xs) ++ placed_from fs (k + suc (length xs)) n n f f.scopes) d

-- the scopes of one function more
pub functions_step : (fs : List FunctionScopes) (k : ℕ) (f : FunctionScopes) (next : ℕ) (was now : List Numbered)
    → slice_get fs k ≡ Some f
    → was ≡ numbered 0 (scopes_from fs 0 0 (take k fs))
    → next ≡ length (uses_of (scopes_from fs 0 0 (take k fs)))
    → now ≡ was ++ numbered next (all_placed_in (placed_function fs k f) (first_scope fs k) f.scopes)
    → (now ≡ numbered 0 (scopes_from fs 0 0 (take (k + 1) fs)))
    × (next + length (uses_of (all_placed_in (placed_function fs k f) (first_scope fs k) f.scopes))
    ≡ length (uses_of (scopes_from fs 0 0 (take (k + 1) fs))))
functions_step fs k f next was now at are is step =
    let size = λ (g : FunctionScopes). length g.scopes in
    let before = scopes_from fs 0 0 (take k fs) in
    let own = all_placed_in (placed_function fs k f) (first_scope fs k) f.scopes in
    let long : 0 + length (take k fs) ≡ k = omega (arith, length-take_found fs k f at) in
    let first : 0 + total size (take k fs) ≡ first_scope fs k = omega (arith, first_is fs k) in
    let more : scopes_from fs 0 0 (take (k + 1) fs) ≡ before ++ own =
    ap (scopes_from fs 0 0) (take_found fs k f at) ∙ scopes_more fs 0 0 (take k fs) f
    ∙ ap (λ n. before ++ placed_from fs n (0 + total size (take k fs)) (0 + total size (take k fs)) f f.scopes) long
    ∙ ap (λ n. before ++ placed_from fs k n n f f.scopes) first
    ∙ ap (λ ss. before ++ ss) (sym (placed_same fs k (first_scope fs k) f f.scopes)) in
    let place : next ≡ 0 + length (uses_of before) = omega (arith, is) in (
      step ∙ ap (λ ss. ss ++ numbered next own) are
          ∙ ap (λ n. numbered 0 before ++ numbered n own) place
          ∙ sym (numbered-append 0 before own) ∙ ap (numbered 0) (sym more),
      omega (
        arith,
        is,
        ap length (uses-append before own),
        length-append (uses_of before) (uses_of own),
        ap (λ ss. length (uses_of ss)) more,
      ),
    )

-- ---- names

pub names_step : (s : PlacedScope) (i : ℕ) (n : ScopeName) (start was : List Use)
    → slice_get s.names i ≡ Some n
    → was ≡ start ++ map (use_in s) (take i s.names)
    → was ++ use_in s n ∷ [] ≡ start ++ map (use_in s) (take (i + 1) s.names)
names_step s i n start was at are =
    let some = map (use_in s) (take i s.names) in
    ap (λ us. us ++ use_in s n ∷ []) are ∙ append_assoc start some (use_in s n ∷ [])
    ∙ ap (λ us. start ++ us) (sym (map-append (use_in s) (take i s.names) (n ∷ [])))
    ∙ ap (λ ns. start ++ map (use_in s) ns) (sym (take_found s.names i n at))

pub all_names_step : (scopes : List Numbered) (i : ℕ) (s : Numbered) (was : List Use)
    → slice_get scopes i ≡ Some s
    → was ≡ uses_of (scopes_of (take i scopes))
    → was ++ uses_in s.scope ≡ uses_of (scopes_of (take (i + 1) scopes))
all_names_step scopes i s was at are =
    let scope = λ (s : Numbered). s.scope in
    let some = scopes_of (take i scopes) in
    ap (λ us. us ++ uses_in s.scope) are
    ∙ ap (λ us. uses_of some ++ us) (sym (append-nil (uses_in s.scope)))
    ∙ sym (uses-append some (s.scope ∷ []))
    ∙ ap uses_of (sym (map-append scope (take i scopes) (s ∷ [])) ∙ ap (map scope) (sym (take_found scopes i s at)))

-- where the names of a scope start
pub first_of : (first : ℕ) (scopes : List PlacedScope) (g : ℕ) (s : Numbered)
    → slice_get (numbered first scopes) g ≡ Some s
    → s.first ≡ first + total (λ (s : PlacedScope). length s.names) (take g scopes)
first_of first [] g s e = cc
first_of first (p ∷ ps) zero s e =
    let is : first ≡ s.first = cc in
    omega (arith, is)
first_of first (p ∷ ps) (suc g) s e = omega (arith, first_of (first + length p.names) ps g s e)

pub past_end : {X : Type 0} (xs : List X) (i : ℕ) → slice_get xs i ≡ None → length xs ≤ i
past_end [] i e = omega arith
past_end (x ∷ xs) zero e = absurd (cc)
past_end (x ∷ xs) (suc i) e = omega (arith, past_end xs i e)

-- a name as it was read
pub record NameAt (s : PlacedScope) (i : ℕ) (n : Name) : Type 0 where
  pub name : ScopeName
  pub at : slice_get s.names i ≡ Some name
  pub known : known_use n ≡ use_in s name

pub name_there : (s : PlacedScope) (i : ℕ) (read : Option Name) (n : Name)
    → option_map known_use read ≡ option_map (use_in s) (slice_get s.names i) → read ≡ Some n → NameAt s i n
name_there s i read n is some = there (slice_get s.names i) refl (sym is ∙ ap (option_map known_use) some)
  where
    there : (o : Option ScopeName) → slice_get s.names i ≡ o → option_map (use_in s) o ≡ Some (known_use n)
        → NameAt s i n
    there None e h = absurd (cc)
    there (Some name) e h = record { name = name; at = e; known = same_Some (known_use n) (use_in s name) (sym h) }

pub no_name : (s : PlacedScope) (i : ℕ) (read : Option Name)
    → option_map known_use read ≡ option_map (use_in s) (slice_get s.names i) → read ≡ None → length s.names ≤ i
no_name s i read is none =
    let past : slice_get (map (use_in s) s.names) i ≡ None =
    slice_get-map (use_in s) s.names i ∙ sym is ∙ ap (option_map known_use) none in
    omega (arith, past_end (map (use_in s) s.names) i past, length-map s.names (use_in s))

pub placed_many : (fs : List FunctionScopes) (k first number : ℕ) (f : FunctionScopes) (scopes : List Scope)
    → length (placed_from fs k first number f scopes) ≡ length scopes
placed_many fs k first number f [] = refl
placed_many fs k first number f (s ∷ more) = ap suc (placed_many fs k first (suc number) f more)

scopes_many : (fs : List FunctionScopes) (k first : ℕ) (gs : List FunctionScopes)
    → length (scopes_from fs k first gs) ≡ total (λ (g : FunctionScopes). length g.scopes) gs
scopes_many fs k first [] = refl
scopes_many fs k first (g ∷ gs) =
    omega (
      arith,
      length-append (placed_from fs k first first g g.scopes) (scopes_from fs (suc k) (first + length g.scopes) gs),
      placed_many fs k first first g g.scopes,
      scopes_many fs (suc k) (first + length g.scopes) gs,
    )

pub scopes_total : (fs : List FunctionScopes)
    → length (all_scopes fs) ≡ total (λ (g : FunctionScopes). length g.scopes) fs
scopes_total fs = scopes_many fs 0 0 fs

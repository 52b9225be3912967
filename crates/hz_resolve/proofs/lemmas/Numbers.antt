-- The scopes of all functions stand in the order of their numbers.
use Rattle.std.proofs.Common.{◌≡◌, ◌+◌, ◌≤◌, ◌-◌, ℕ, zero, suc, List, [], ◌∷◌, length, Some, refl, sym, ap, ◌∙◌}
use Rattle.std.proofs.Common.{⊎_elim, subst, arith}
use Rattle.std.specs.List.{slice_get}
use Rattle.hz_tree.specs.trees.FunctionScopes.{Scope, FunctionScopes}
use Rattle.hz_tree.specs.trees.Layout.{PlacedScope, first_scope, placed, placed_from, scopes_from}
use Rattle.hz_tree.specs.trees.Layout.{all_scopes}
use Rattle.hz_resolve.specs.Laws.{HasScope, IsPlaced, number_at, placed_at}
use Rattle.hz_resolve.proofs.lemmas.Lists.{get_more, get_behind, get_either}

placed_same : (fs : List FunctionScopes) (f : FunctionScopes) (s : Scope) (k l a b m n : ℕ) → k ≡ l → a ≡ b → m ≡ n
    → placed fs k a m f s ≡ placed fs l b n f s
placed_same fs f s k l a b m n is_k is_a is_m =
    ap (λ z. placed fs z a m f s) is_k ∙ ap (λ z. placed fs l z m f s) is_a ∙ ap (λ z. placed fs l b z f s) is_m

-- ---- the scopes of one function

placed_length : (fs : List FunctionScopes) (k first number : ℕ) (f : FunctionScopes) (scopes : List Scope)
    → length (placed_from fs k first number f scopes) ≡ length scopes
placed_length fs k first number f [] = refl
placed_length fs k first number f (s ∷ more) = ap suc (placed_length fs k first (suc number) f more)

placed_get : (fs : List FunctionScopes) (k first number : ℕ) (f : FunctionScopes) (scopes : List Scope) (i : ℕ)
    (s : Scope)
    → slice_get scopes i ≡ Some s
    → slice_get (placed_from fs k first number f scopes) i ≡ Some (placed fs k first (number + i) f s)
placed_get fs k first number f [] i s is = absurd cc
placed_get fs k first number f (t ∷ more) zero s is =
    let same : t ≡ s = cc in
    ap (λ z. Some (placed fs k first number f z)) same
    ∙ ap Some (placed_same fs f s k k first first number (number + 0) refl refl (omega arith))
placed_get fs k first number f (t ∷ more) (suc i) s is =
    placed_get fs k first (suc number) f more i s is
    ∙ ap Some (placed_same fs f s k k first first (suc number + i) (number + suc i) refl refl (omega arith))

record OneOf (fs : List FunctionScopes) (k first number : ℕ) (f : FunctionScopes) (scopes : List Scope) (i : ℕ)
    (p : PlacedScope) : Type 0 where
  scope : Scope
  there : slice_get scopes i ≡ Some scope
  is : p ≡ placed fs k first (number + i) f scope

placed_each : (fs : List FunctionScopes) (k first number : ℕ) (f : FunctionScopes) (scopes : List Scope) (i : ℕ)
    (p : PlacedScope)
    → slice_get (placed_from fs k first number f scopes) i ≡ Some p
    → OneOf fs k first number f scopes i p
placed_each fs k first number f [] i p is = absurd cc
placed_each fs k first number f (t ∷ more) zero p is =
    let same : placed fs k first number f t ≡ p = cc in
    record {
      scope = t;
      there = refl;
      is = sym same ∙ placed_same fs f t k k first first number (number + 0) refl refl (omega arith);
    }
placed_each fs k first number f (t ∷ more) (suc i) p is =
    let rest = placed_each fs k first (suc number) f more i p is in
    record {
      scope = rest.scope;
      there = rest.there;
      is = rest.is
          ∙ placed_same fs f rest.scope k k first first (suc number + i) (number + suc i) refl refl (omega arith);
    }

-- ---- the scopes of functions from some on

get_from : (fs : List FunctionScopes) (j first : ℕ) (more : List FunctionScopes) (k i : ℕ) (f : FunctionScopes)
    (s : Scope)
    → HasScope more k i f s
    → slice_get (scopes_from fs j first more) (first_scope more k + i)
    ≡ Some (placed fs (j + k) (first + first_scope more k) (first + (first_scope more k + i)) f s)
get_from fs j first [] k i f s has = let never = has.function in absurd cc
get_from fs j first (g ∷ more) zero i f s has =
    let same : g ≡ f = let is = has.function in cc in
    let here : slice_get g.scopes i ≡ Some s =
    subst (λ (h : FunctionScopes). slice_get h.scopes i ≡ Some s) (sym same) has.scope in
    let number : 0 + i ≡ i = omega arith in
    ap (slice_get (scopes_from fs j first (g ∷ more))) number
    ∙ get_more (placed_from fs j first first g g.scopes) (scopes_from fs (suc j) (first + length g.scopes) more) i
    (placed fs j first (first + i) g s) (placed_get fs j first first g g.scopes i s here)
    ∙ ap (λ h. Some (placed fs j first (first + i) h s)) same
    ∙ ap Some (placed_same fs f s j (j + 0) first (first + 0) (first + i) (first + (0 + i)) (omega arith) (omega arith)
    (omega arith))
get_from fs j first (g ∷ more) (suc k) i f s has =
    let own = placed_from fs j first first g g.scopes in
    let next = first + length g.scopes in
    let behind : length g.scopes + first_scope more k + i ≡ length own + (first_scope more k + i) =
    omega (arith, placed_length fs j first first g g.scopes) in
    ap (slice_get (scopes_from fs j first (g ∷ more))) behind
    ∙ get_behind own (scopes_from fs (suc j) next more) (first_scope more k + i)
    ∙ get_from fs (suc j) next more k i f s (record { function = has.function; scope = has.scope })
    ∙ ap Some (placed_same fs f s (suc j + k) (j + suc k) (next + first_scope more k)
    (first + (length g.scopes + first_scope more k)) (next + (first_scope more k + i))
    (first + (length g.scopes + first_scope more k + i)) (omega arith) (omega arith) (omega arith))

record OneFrom (fs : List FunctionScopes) (j first : ℕ) (more : List FunctionScopes) (g : ℕ) (p : PlacedScope)
    : Type 0 where
  k : ℕ
  i : ℕ
  function : FunctionScopes
  scope : Scope
  has : HasScope more k i function scope
  number : g ≡ first_scope more k + i
  is : p ≡ placed fs (j + k) (first + first_scope more k) (first + (first_scope more k + i)) function scope

each_from : (fs : List FunctionScopes) (j first : ℕ) (more : List FunctionScopes) (g : ℕ) (p : PlacedScope)
    → slice_get (scopes_from fs j first more) g ≡ Some p
    → OneFrom fs j first more g p
each_from fs j first [] g p is = absurd cc
each_from fs j first (f ∷ more) g p is =
    let own = placed_from fs j first first f f.scopes in
    let next = first + length f.scopes in
    let long : length own ≡ length f.scopes = placed_length fs j first first f f.scopes in
    ⊎_elim
    (λ (here : slice_get own g ≡ Some p).
    let one = placed_each fs j first first f f.scopes g p here in
    record {
      k = 0;
      i = g;
      function = f;
      scope = one.scope;
      has = record { function = refl; scope = one.there };
      number = omega arith;
      is = one.is ∙ placed_same fs f one.scope j (j + 0) first (first + 0) (first + g) (first + (0 + g)) (omega arith)
          (omega arith) (omega arith);
    })
    (λ (later : (length own ≤ g) × (slice_get (scopes_from fs (suc j) next more) (g - length own) ≡ Some p)).
    let one = each_from fs (suc j) next more (g - length own) p later.1 in
    record {
      k = suc one.k;
      i = one.i;
      function = one.function;
      scope = one.scope;
      has = record { function = one.has.function; scope = one.has.scope };
      number = omega (arith, later.0, one.number, long);
      is = one.is
          ∙ placed_same fs one.function one.scope (suc j + one.k) (j + suc one.k) (next + first_scope more one.k)
          (first + (length f.scopes + first_scope more one.k)) (next + (first_scope more one.k + one.i))
          (first + (length f.scopes + first_scope more one.k + one.i)) (omega arith) (omega arith) (omega arith);
    })
    (get_either own (scopes_from fs (suc j) next more) g p is)

-- ---- all scopes

pub stands : (fs : List FunctionScopes) (k i : ℕ) (f : FunctionScopes) (s : Scope) → HasScope fs k i f s
    → slice_get (all_scopes fs) (number_at fs k i) ≡ Some (placed_at fs k i f s)
stands fs k i f s has =
    get_from fs 0 0 fs k i f s has
    ∙ ap Some (placed_same fs f s (0 + k) k (0 + first_scope fs k) (first_scope fs k) (0 + (first_scope fs k + i))
    (first_scope fs k + i) (omega arith) (omega arith) (omega arith))

pub is_placed : (fs : List FunctionScopes) (g : ℕ) (p : PlacedScope) → slice_get (all_scopes fs) g ≡ Some p
    → IsPlaced fs g p
is_placed fs g p is =
    let one = each_from fs 0 0 fs g p is in
    record {
      k = one.k;
      i = one.i;
      function = one.function;
      scope = one.scope;
      has = one.has;
      number = one.number;
      is = one.is
          ∙ placed_same fs one.function one.scope (0 + one.k) one.k (0 + first_scope fs one.k) (first_scope fs one.k)
          (0 + (first_scope fs one.k + one.i)) (first_scope fs one.k + one.i) (omega arith) (omega arith) (omega arith);
    }

-- a scope stands at the place of its number
pub number_is_place : (fs : List FunctionScopes) (g : ℕ) (p : PlacedScope) → slice_get (all_scopes fs) g ≡ Some p
    → p.number ≡ g
number_is_place fs g p is =
    let one = is_placed fs g p is in ap (λ (q : PlacedScope). q.number) one.is ∙ sym one.number

-- no two scopes have one number
pub one_number : (fs : List FunctionScopes) (k i l j : ℕ) (f g : FunctionScopes) (s t : Scope)
    → HasScope fs k i f s → HasScope fs l j g t → number_at fs k i ≡ number_at fs l j → (k ≡ l) × (i ≡ j)
one_number fs k i l j f g s t first second same =
    let is : Some (placed_at fs k i f s) ≡ Some (placed_at fs l j g t) =
    sym (stands fs k i f s first) ∙ ap (slice_get (all_scopes fs)) same ∙ stands fs l j g t second in
    let placed_same : placed_at fs k i f s ≡ placed_at fs l j g t = cc in
    let functions : k ≡ l = ap (λ (q : PlacedScope). q.function) placed_same in
    let firsts : first_scope fs k ≡ first_scope fs l = ap (first_scope fs) functions in
    (functions, omega (arith, same, firsts))

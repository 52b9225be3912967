-- The scopes outwards from one, and the first of them that declares a name.
use Rattle.std.proofs.Common.{◌≡◌, ◌<◌, ◌≤◌, ◌-◌, ℕ, zero, suc, Bool, true, false, cond, ◌==◌, List, []}
use Rattle.std.proofs.Common.{◌∷◌, ◌++◌, length}
use Rattle.std.proofs.Common.{Option, Some, None, refl, sym, ap, ◌∙◌, subst, ⊎_elim, arith}
use Rattle.std.specs.List.{slice_get, list_any, filter}
use Rattle.std.proofs.lemmas.Bool.{cases_lt, eqb-true, eqb-false, eq-eqb, ne_eqb, false≢true}
use Rattle.std.proofs.lemmas.Option.{slice_get_within}
use Rattle.hz_tree.specs.tokens.Text.{Text}
use Rattle.hz_tree.specs.trees.Layout.{PlacedScope, outwards, from_scope, is_own, shares_function, searched}
use Rattle.hz_tree.specs.trees.Layout.{declares, declaring}
use Rattle.hz_tree.specs.trees.Layout.{found, has_slots, hops_to}
use Rattle.hz_resolve.specs.LawsOfPlaces.{IsFound}

-- scopes that stand at their numbers, where numbers fall outwards and those of functions do not grow
pub record AreRegular (scopes : List PlacedScope) : Type 0 where
  pub numbers : (g : ℕ) (p : PlacedScope) → slice_get scopes g ≡ Some p → p.number ≡ g
  pub falls : (g r : ℕ) (p t : PlacedScope) → slice_get scopes g ≡ Some p → p.around ≡ Some r
      → slice_get scopes r ≡ Some t → t.function ≤ p.function
  pub descends : (g r : ℕ) (p : PlacedScope) → slice_get scopes g ≡ Some p → p.around ≡ Some r → r < g

-- ---- what stands on the way

abbrev Stands : List PlacedScope → PlacedScope → Type 0
Stands scopes s = slice_get scopes s.number ≡ Some s

abbrev AllStand : List PlacedScope → List PlacedScope → Type 0
AllStand scopes [] = Unit {0}
AllStand scopes (t ∷ more) = Stands scopes t × AllStand scopes more

abbrev AllFall : (k : ℕ) → List PlacedScope → Type 0
AllFall k [] = Unit {0}
AllFall k (t ∷ more) = (t.function ≤ k) × AllFall t.function more

outwards_stand : (scopes : List PlacedScope) (steps : ℕ) (number : Option ℕ) → AreRegular scopes
    → AllStand scopes (outwards steps scopes number)
outwards_stand scopes zero number regular = tt
outwards_stand scopes (suc n) None regular = tt
outwards_stand scopes (suc n) (Some g) regular =
    step (slice_get scopes g) refl (λ around. outwards_stand scopes n around regular)
  where
    step : (o : Option PlacedScope) → slice_get scopes g ≡ o
        → ((around : Option ℕ) → AllStand scopes (outwards n scopes around))
        → AllStand scopes (elim o [ None ↦ [] | Some s ↦ s ∷ outwards n scopes s.around ])
    step None is more = tt
    step (Some s) is more = (ap (slice_get scopes) (regular.numbers g s is) ∙ is, more s.around)

outwards_fall : (scopes : List PlacedScope) (steps k : ℕ) (number : Option ℕ) → AreRegular scopes
    → ((g : ℕ) (t : PlacedScope) → number ≡ Some g → slice_get scopes g ≡ Some t → t.function ≤ k)
    → AllFall k (outwards steps scopes number)
outwards_fall scopes zero k number regular h = tt
outwards_fall scopes (suc n) k None regular h = tt
outwards_fall scopes (suc n) k (Some g) regular h =
    step (slice_get scopes g) refl (λ m around. outwards_fall scopes n m around regular)
  where
    step : (o : Option PlacedScope) → slice_get scopes g ≡ o
        → ((m : ℕ) (around : Option ℕ)
        → ((g : ℕ) (t : PlacedScope) → around ≡ Some g → slice_get scopes g ≡ Some t → t.function ≤ m)
        → AllFall m (outwards n scopes around))
        → AllFall k (elim o [ None ↦ [] | Some s ↦ s ∷ outwards n scopes s.around ])
    step None is more = tt
    step (Some s) is more = (
      h g s refl is,
      more s.function s.around (λ r t around there. regular.falls g r s t is around there),
    )

-- ---- the first that declares the name

-- of the scopes `all` on the way, those in `some` are searched
pub record IsWay (scopes : List PlacedScope) (name : Text) (at : PlacedScope) (all some : List PlacedScope)
    : Type 0 where
  pub before : List PlacedScope
  pub behind : List PlacedScope
  pub are : all ≡ before ++ at ∷ behind
  pub there : slice_get scopes at.number ≡ Some at
  pub declared : declares name at ≡ true
  pub first : list_any (declares name) before ≡ false
  pub hops : hops_to scopes at some ≡ length (filter (has_slots scopes) before)

way_here : (scopes : List PlacedScope) (name : Text) (at : PlacedScope) (all some : List PlacedScope)
    → Stands scopes at → declares name at ≡ true
    → IsWay scopes name at (at ∷ all) (at ∷ some)
way_here scopes name at all some stands declared = record {
  before = [];
  behind = all;
  are = refl;
  there = stands;
  declared = declared;
  first = refl;
  hops = by_number (at.number == at.number) (eq-eqb at.number at.number refl);
}
  where
    by_number : (b : Bool) → b ≡ true
        → cond b 0 (cond (has_slots scopes at) (suc (hops_to scopes at some)) (hops_to scopes at some)) ≡ 0
    by_number true is = refl
    by_number false is = absurd cc

way_further : (scopes : List PlacedScope) (name : Text) (at t : PlacedScope) (all some : List PlacedScope)
    → Stands scopes t → declares name t ≡ false → IsWay scopes name at all some
    → IsWay scopes name at (t ∷ all) (t ∷ some)
way_further scopes name at t all some stands other way = record {
  before = t ∷ way.before;
  behind = way.behind;
  are = ap (λ ts. t ∷ ts) way.are;
  there = way.there;
  declared = way.declared;
  first = cc (other, way.first);
  hops = by_slots (t.number == at.number) (has_slots scopes t) (ne_eqb t.number at.number apart) way.hops;
}
  where
    apart : t.number ≡ at.number → ⊥
    apart same =
        let both : Some t ≡ Some at = sym stands ∙ ap (slice_get scopes) same ∙ way.there in
        let is : t ≡ at = cc in
        false≢true (sym other ∙ ap (declares name) is ∙ way.declared)

    by_slots : (b c : Bool) → b ≡ false → hops_to scopes at some ≡ length (filter (has_slots scopes) way.before)
        → cond b 0 (cond c (suc (hops_to scopes at some)) (hops_to scopes at some))
        ≡ length (cond c (t ∷ filter (has_slots scopes) way.before) (filter (has_slots scopes) way.before))
    by_slots true c is h = absurd cc
    by_slots false true is h = ap suc h
    by_slots false false is h = h

-- all scopes on the way are searched
all_searched : (scopes : List PlacedScope) (name : Text) (at : PlacedScope) (ts : List PlacedScope) → AllStand scopes ts
    → declaring name ts ≡ Some at
    → IsWay scopes name at ts ts
all_searched scopes name at [] stand is = absurd cc
all_searched scopes name at (t ∷ more) stand is =
    by_test (declares name t) refl is (all_searched scopes name at more stand.1)
  where
    by_test : (b : Bool) → declares name t ≡ b → cond b (Some t) (declaring name more) ≡ Some at
        → (declaring name more ≡ Some at → IsWay scopes name at more more)
        → IsWay scopes name at (t ∷ more) (t ∷ more)
    by_test true declared first rest =
        let same : t ≡ at = cc in
        subst (λ t. IsWay scopes name at (t ∷ more) (t ∷ more)) (sym same)
        (way_here scopes name at more more (subst (Stands scopes) same stand.0)
        (ap (declares name) (sym same) ∙ declared))
    by_test false other first rest = way_further scopes name at t more more stand.0 other (rest first)

abbrev of_function : (k : ℕ) → List PlacedScope → List PlacedScope
of_function k ts = filter (λ t. k == t.function) ts

none_below : (k m : ℕ) (ts : List PlacedScope) → AllFall m ts → m < k → of_function k ts ≡ []
none_below k m [] fall less = refl
none_below k m (t ∷ more) fall less =
    by_test (k == t.function) (ne_eqb k t.function (λ same. omega (arith, same, fall.0, less)))
    (none_below k t.function more fall.1 (omega (arith, fall.0, less)))
  where
    by_test : (b : Bool) → b ≡ false → of_function k more ≡ []
        → cond b (t ∷ of_function k more) (of_function k more) ≡ []
    by_test true is rest = absurd cc
    by_test false is rest = rest

below : (k m : ℕ) → m ≤ k → (k ≡ m → ⊥) → m < k
below k m less apart =
    ⊎_elim (λ (is : m < k). is) (λ (is : k ≤ m). absurd (apart (omega (arith, less, is)))) (cases_lt m k)

-- those of one function alone are searched
some_searched : (scopes : List PlacedScope) (name : Text) (k : ℕ) (at : PlacedScope) (ts : List PlacedScope)
    → AllStand scopes ts → AllFall k ts → declaring name (of_function k ts) ≡ Some at
    → IsWay scopes name at ts (of_function k ts) × (at.function ≡ k)
some_searched scopes name k at [] stand fall is = absurd cc
some_searched scopes name k at (t ∷ more) stand fall is =
    by_function (k == t.function) refl is (some_searched scopes name k at more stand.1)
  where
    by_test : (b : Bool) → declares name t ≡ b → t.function ≡ k
        → cond b (Some t) (declaring name (of_function k more)) ≡ Some at
        → (AllFall k more → declaring name (of_function k more) ≡ Some at
        → IsWay scopes name at more (of_function k more) × (at.function ≡ k))
        → IsWay scopes name at (t ∷ more) (t ∷ of_function k more) × (at.function ≡ k)
    by_test true declared own first rest =
        let same : t ≡ at = cc (first) in
        subst (λ t. IsWay scopes name at (t ∷ more) (t ∷ of_function k more) × (at.function ≡ k)) (sym same) (
          way_here scopes name at more (of_function k more) (subst (Stands scopes) same stand.0)
              (ap (declares name) (sym same) ∙ declared),
          ap (λ (t : PlacedScope). t.function) (sym same) ∙ own,
        )
    by_test false other own first rest =
        let fall_on : AllFall k more = subst (λ k. AllFall k more) own fall.1 in
        let way = rest fall_on first in
        (way_further scopes name at t more (of_function k more) stand.0 other way.0, way.1)

    by_function : (b : Bool) → (k == t.function) ≡ b
        → declaring name (cond b (t ∷ of_function k more) (of_function k more)) ≡ Some at
        → (AllFall k more → declaring name (of_function k more) ≡ Some at
        → IsWay scopes name at more (of_function k more) × (at.function ≡ k))
        → IsWay scopes name at (t ∷ more) (cond b (t ∷ of_function k more) (of_function k more)) × (at.function ≡ k)
    by_function true own first rest = by_test (declares name t) refl (sym (eqb-true k t.function own)) first rest
    by_function false other first rest =
        let less : t.function < k = below k t.function fall.0 (eqb-false k t.function other) in
        let never : None ≡ Some at =
        ap (declaring name) (sym (none_below k t.function more fall.1 less)) ∙ first in
        absurd cc

-- ---- the way from a scope

pub way_begins : (scopes : List PlacedScope) (s : PlacedScope) → slice_get scopes s.number ≡ Some s
    → from_scope scopes s ≡ s ∷ outwards (length scopes - 1) scopes s.around
way_begins scopes s is = by_length (length scopes) (slice_get_within scopes s.number s is)
  where
    by_length : (n : ℕ) → s.number < n
        → outwards n scopes (Some s.number) ≡ s ∷ outwards (n - 1) scopes s.around
    by_length zero less = absurd (omega (arith, less))
    by_length (suc n) less =
        let same : n ≡ suc n - 1 = omega arith in
        ap (λ (o : Option PlacedScope). elim o [ None ↦ [] | Some s ↦ s ∷ outwards n scopes s.around ]) is
        ∙ ap (λ m. s ∷ outwards m scopes s.around) same

pub found_way : (scopes : List PlacedScope) (name : Text) (s at : PlacedScope) → AreRegular scopes
    → slice_get scopes s.number ≡ Some s → found scopes name s ≡ Some at
    → IsWay scopes name at (from_scope scopes s) (searched scopes name s)
    × (is_own name s ≡ true → at.function ≡ s.function)
found_way scopes name s at regular there is = by_own (is_own name s) is
  where
    ways : AllStand scopes (from_scope scopes s)
    ways = outwards_stand scopes (length scopes) (Some s.number) regular

    falls : AllFall s.function (from_scope scopes s)
    falls = outwards_fall scopes (length scopes) s.function (Some s.number) regular (λ g t same got.
        let number : s.number ≡ g = cc (same) in
        let is : Some s ≡ Some t = sym there ∙ ap (slice_get scopes) number ∙ got in
        let one : s ≡ t = cc (is) in
        let function : t.function ≡ s.function = ap (λ (t : PlacedScope). t.function) (sym one) in
        omega (arith, function))

    by_own : (b : Bool)
        → declaring name (cond b (filter (shares_function s) (from_scope scopes s)) (from_scope scopes s)) ≡ Some at
        → IsWay scopes name at (from_scope scopes s)
        (cond b (filter (shares_function s) (from_scope scopes s)) (from_scope scopes s))
        × (b ≡ true → at.function ≡ s.function)
    by_own true first =
        let way = some_searched scopes name s.function at (from_scope scopes s) ways falls first in
        (way.0, λ own. way.1)
    by_own false first = (all_searched scopes name at (from_scope scopes s) ways first, λ own. absurd cc)

abbrev pub found_first : (scopes : List PlacedScope) (name : Text) (s at : PlacedScope)
    → IsWay scopes name at (from_scope scopes s) (searched scopes name s)
    → (is_own name s ≡ true → at.function ≡ s.function)
    → IsFound scopes name s at
found_first scopes name s at way own = record {
  before = way.before;
  behind = way.behind;
  way = way.are;
  there = way.there;
  declared = way.declared;
  first = way.first;
  own = own;
}

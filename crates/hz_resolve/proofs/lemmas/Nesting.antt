-- The scopes of a source nest: the one round each has a smaller number.
use Rattle.std.proofs.Common.{◌≡◌, ◌+◌, ◌<◌, ◌≤◌, ℕ, zero, suc, List, [], ◌∷◌, ◌++◌, length, Option, Some, None, refl}
use Rattle.std.proofs.Common.{sym, ap, ◌∙◌, subst, ◌⊎◌, inl, inr, ⊎_elim, arith, append_assoc, length-append}
use Rattle.std.specs.List.{slice_get}
use Rattle.std.specs.Option.{option_map}
use Rattle.std.proofs.lemmas.Bool.{cases_lt}
use Rattle.std.proofs.lemmas.Option.{slice_get_within}
use Rattle.hz_tree.specs.declared.nonterminal.Nonterminal.TheVariants as n
use Rattle.hz_tree.specs.declared.scope.ScopeAt.{ScopeAt}
use Rattle.hz_tree.specs.declared.tree.Tree.{Tree}
use Rattle.hz_tree.specs.grammar.Look.{terminals}
use Rattle.hz_tree.specs.reading.Reading.{Reading, Got, Stuck, Deeper, reads}
use Rattle.hz_tree.specs.sources.Refusals.{function_scopes, function_scopes_by}
use Rattle.hz_tree.specs.tokens.Text.{Text}
use Rattle.hz_tree.specs.trees.FunctionScopes.{Scope, FunctionScopes, function_scopes_of}
use Rattle.hz_tree.specs.trees.Layout.{PlacedScope, first_scope, number_of, around_scope, all_scopes}
use Rattle.hz_resolve.specs.Laws.{HasScope, IsPlaced, IsInside, HasParent, number_at, placed_at}
use Rattle.hz_resolve.specs.Laws.{FunctionsStand, HaveFirst, HaveParents}
use Rattle.hz_resolve.proofs.lemmas.Lists.{get_more, get_within}
use Rattle.hz_resolve.proofs.lemmas.Nested.{IsInner, AreInner, AreWhole, IsWithin, AreWithin}
use Rattle.hz_resolve.proofs.lemmas.Nested.{script_of, others_of, script_whole, others_within}
use Rattle.hz_resolve.proofs.lemmas.Numbers.{stands, is_placed}

-- ---- the functions of a source

-- function k of these stands in a scope of one before it
pub record IsBehind (fs : List FunctionScopes) (k : ℕ) (f : FunctionScopes) : Type 0 where
  pub at : ScopeAt
  pub is : f.around ≡ Some at
  pub before : at.function < k
  pub outer : FunctionScopes
  pub there : slice_get fs at.function ≡ Some outer
  pub scope : at.scope < length outer.scopes
  pub whole : AreWhole f.scopes

behind : (before more : List FunctionScopes) (k : ℕ) (f : FunctionScopes) → AreWithin before more
    → slice_get more k ≡ Some f
    → IsBehind (before ++ more) (length before + k) f
behind before [] k f h is = absurd cc
behind before (g ∷ more) zero f h is =
    let same : g ≡ f = cc in
    let within = subst (IsWithin before) same h.0 in
    let less : within.at.function < length before =
    slice_get_within before within.at.function within.outer within.there in
    record {
      at = within.at;
      is = within.is;
      before = omega (arith, less);
      outer = within.outer;
      there = get_more before (g ∷ more) within.at.function within.outer within.there;
      scope = within.scope;
      whole = within.whole;
    }
behind before (g ∷ more) (suc k) f h is =
    let rest : IsBehind (before ++ g ∷ [] ++ more) (length (before ++ g ∷ []) + k) f =
    behind (before ++ g ∷ []) more k f h.1 is in
    let number : length (before ++ g ∷ []) + k ≡ length before + suc k =
    omega (arith, length-append before (g ∷ [])) in
    subst (λ m. IsBehind (before ++ (g ∷ more)) m f) number
    (subst (λ fs. IsBehind fs (length (before ++ g ∷ []) + k) f) (append_assoc before (g ∷ []) more) rest)

-- the script alone stands in no scope
pub record OfScript (fs : List FunctionScopes) : Type 0 where
  pub script : (f : FunctionScopes) → slice_get fs 0 ≡ Some f → (f.around ≡ None) × AreWhole f.scopes
  pub others : (k : ℕ) (f : FunctionScopes) → slice_get fs (suc k) ≡ Some f → IsBehind fs (suc k) f

of_tree : (source : Text) (tree : Tree) → OfScript (function_scopes_of source tree)
unfolding function_scopes_of
of_tree source tree = record {
  script = λ f is.
      let same : script_of source tree ≡ f = cc in
      subst (λ (f : FunctionScopes). (f.around ≡ None) × AreWhole f.scopes) same (refl, script_whole source tree);
  others = λ k f is.
      let number : 1 + k ≡ suc k = omega arith in
      subst (λ m. IsBehind (script_of source tree ∷ others_of tree) m f) number
      (behind (script_of source tree ∷ []) (others_of tree) k f (others_within source tree) is);
}

of_reading : (source : Text) (r : Reading Tree) → OfScript (function_scopes_by source r)
of_reading source (Got tree ts) = of_tree source tree
of_reading source (Stuck cause ts) = record { script = λ f is. absurd cc; others = λ k f is. absurd cc }
of_reading source Deeper = record { script = λ f is. absurd cc; others = λ k f is. absurd cc }

pub ordered : (source : Text) → OfScript (function_scopes source)
unfolding function_scopes
ordered source = of_reading source (reads n.Script (terminals source))

-- ---- numbers of scopes

-- the scopes of a function stand before those of each function behind it
before_first : (fs : List FunctionScopes) (k l i : ℕ) (f : FunctionScopes) → slice_get fs k ≡ Some f
    → i < length f.scopes → k < l → first_scope fs k + i < first_scope fs l
before_first [] k l i f is within less = absurd cc
before_first (g ∷ fs) k zero i f is within less = absurd (omega (arith, less))
before_first (g ∷ fs) zero (suc l) i f is within less =
    let same : g ≡ f = cc in
    let long : length g.scopes ≡ length f.scopes = ap (λ (f : FunctionScopes). length f.scopes) same in
    omega (arith, long, within)
before_first (g ∷ fs) (suc k) (suc l) i f is within less =
    let rest : first_scope fs k + i < first_scope fs l = before_first fs k l i f is within (omega (arith, less)) in
    omega (arith, rest)

pub functions_ordered : (fs : List FunctionScopes) (g h : ℕ) (p q : PlacedScope)
    → slice_get (all_scopes fs) g ≡ Some p → slice_get (all_scopes fs) h ≡ Some q → g ≤ h → p.function ≤ q.function
functions_ordered fs g h p q is_p is_q less =
    let one = is_placed fs g p is_p in
    let other = is_placed fs h q is_q in
    let within : other.i < length other.function.scopes =
    slice_get_within other.function.scopes other.i other.scope other.has.scope in
    let k : p.function ≡ one.k = ap (λ (q : PlacedScope). q.function) one.is in
    let l : q.function ≡ other.k = ap (λ (q : PlacedScope). q.function) other.is in
    ⊎_elim
    (λ (bad : other.k < one.k).
    let first : first_scope fs other.k + other.i < first_scope fs one.k =
    before_first fs other.k one.k other.i other.function other.has.function within bad in
    absurd (omega (arith, first, less, one.number, other.number)))
    (λ (good : one.k ≤ other.k). omega (arith, k, l, good))
    (cases_lt other.k one.k)

-- ---- the scope round a scope

inner_at : (next i : ℕ) (scopes : List Scope) (s : Scope) → AreInner next scopes → slice_get scopes i ≡ Some s
    → IsInner (next + i) s
inner_at next i [] s h is = absurd cc
inner_at next zero (t ∷ more) s h is =
    let same : t ≡ s = cc in
    let number : next ≡ next + 0 = omega arith in
    subst (λ m. IsInner m s) number (subst (IsInner next) same h.0)
inner_at next (suc i) (t ∷ more) s h is =
    let number : suc next + i ≡ next + suc i = omega arith in
    subst (λ m. IsInner m s) number (inner_at (suc next) i more s h.1 is)

of_whole : (i : ℕ) (scopes : List Scope) (s : Scope) → AreWhole scopes → slice_get scopes i ≡ Some s
    → ((i ≡ 0) × (s.parent ≡ None)) ⊎ HasParent i s
of_whole zero scopes s whole is =
    let first : slice_get (whole.top ∷ whole.inner) 0 ≡ Some s = subst (λ ss. slice_get ss 0 ≡ Some s) whole.are is in
    let same : whole.top ≡ s = cc (first) in
    inl (refl, subst (λ (s : Scope). s.parent ≡ None) same whole.outermost)
of_whole (suc i) scopes s whole is =
    let later : slice_get whole.inner i ≡ Some s = subst (λ ss. slice_get ss (suc i) ≡ Some s) whole.are is in
    let inner : IsInner (1 + i) s = inner_at 1 i whole.inner s whole.nested later in
    inr (record { parent = inner.parent; is = inner.is; before = omega (arith, inner.before) })

around_none : (fs : List FunctionScopes) (first : ℕ) (f : FunctionScopes) (s : Scope) → s.parent ≡ None
    → around_scope fs first f s ≡ option_map (number_of fs) f.around
around_none fs first f s is =
    ap (λ (o : Option ℕ). elim o [ None ↦ option_map (number_of fs) f.around | Some parent ↦ Some (first + parent) ]) is

around_some : (fs : List FunctionScopes) (first : ℕ) (f : FunctionScopes) (s : Scope) (parent : ℕ)
    → s.parent ≡ Some parent
    → around_scope fs first f s ≡ Some (first + parent)
around_some fs first f s parent is =
    ap (λ (o : Option ℕ). elim o [ None ↦ option_map (number_of fs) f.around | Some parent ↦ Some (first + parent) ]) is

-- the scope round one that is not the first of its function
block_inside : (fs : List FunctionScopes) (k i : ℕ) (f : FunctionScopes) (s : Scope) → HasScope fs k i f s
    → HasParent i s
    → IsInside (all_scopes fs) (number_at fs k i) (placed_at fs k i f s)
block_inside fs k i f s has block =
    let within : i < length f.scopes = slice_get_within f.scopes i s has.scope in
    let less : block.parent < length f.scopes = omega (arith, within, block.before) in
    let outer = get_within f.scopes block.parent less in
    record {
      around = number_at fs k block.parent;
      is = around_some fs (first_scope fs k) f s block.parent block.is;
      before = omega (arith, block.before);
      outer = placed_at fs k block.parent f outer.0;
      there = stands fs k block.parent f outer.0 (record { function = has.function; scope = outer.1 });
      function = omega arith;
    }

-- the scope round the first scope of a function
first_inside : (fs : List FunctionScopes) (k : ℕ) (f : FunctionScopes) (s : Scope) → HasScope fs k 0 f s
    → s.parent ≡ None → IsBehind fs k f
    → IsInside (all_scopes fs) (number_at fs k 0) (placed_at fs k 0 f s)
first_inside fs k f s has none behind =
    let at = behind.at in
    let outer = get_within behind.outer.scopes at.scope behind.scope in
    let less : first_scope fs at.function + at.scope < first_scope fs k =
    before_first fs at.function k at.scope behind.outer behind.there behind.scope behind.before in
    record {
      around = number_of fs at;
      is = around_none fs (first_scope fs k) f s none ∙ ap (option_map (number_of fs)) behind.is;
      before = omega (arith, less);
      outer = placed_at fs at.function at.scope behind.outer outer.0;
      there = stands fs at.function at.scope behind.outer outer.0
          (record { function = behind.there; scope = outer.1 });
      function = omega (arith, behind.before);
    }

inside_at : (fs : List FunctionScopes) (k i : ℕ) (f : FunctionScopes) (s : Scope) → OfScript fs → HasScope fs k i f s
    → 0 < k + i
    → IsInside (all_scopes fs) (number_at fs k i) (placed_at fs k i f s)
inside_at fs zero i f s ordered has some = ⊎_elim
    (λ (top : (i ≡ 0) × (s.parent ≡ None)). absurd (omega (arith, some, top.0)))
    (λ (block : HasParent i s). block_inside fs 0 i f s has block)
    (of_whole i f.scopes s (ordered.script f has.function).1 has.scope)
inside_at fs (suc k) i f s ordered has some =
    let behind = ordered.others k f has.function in
    ⊎_elim
    (λ (top : (i ≡ 0) × (s.parent ≡ None)).
    subst (λ i. IsInside (all_scopes fs) (number_at fs (suc k) i) (placed_at fs (suc k) i f s)) (sym top.0)
    (first_inside fs (suc k) f s (record {
      function = has.function;
      scope = subst (λ i. slice_get f.scopes i ≡ Some s) top.0 has.scope;
    }) top.1 behind))
    (λ (block : HasParent i s). block_inside fs (suc k) i f s has block)
    (of_whole i f.scopes s behind.whole has.scope)

no_first : (fs : List FunctionScopes) → first_scope fs 0 ≡ 0
no_first [] = refl
no_first (f ∷ fs) = refl

-- of the numbers of scopes only that of the script's own is 0
some_number : (fs : List FunctionScopes) (k i : ℕ) → 0 < number_at fs k i → 0 < k + i
some_number fs zero i less = let none : first_scope fs 0 ≡ 0 = no_first fs in omega (arith, none, less)
some_number fs (suc k) i less = omega arith

pub scope_inside : (source : Text) (g : ℕ) (p : PlacedScope)
    → slice_get (all_scopes (function_scopes source)) g ≡ Some p
    → 0 < g
    → IsInside (all_scopes (function_scopes source)) g p
scope_inside source g p is some =
    let fs = function_scopes source in
    let one : IsPlaced fs g p = is_placed fs g p is in
    let less : 0 < number_at fs one.k one.i = subst (λ g. 0 < g) one.number some in
    subst (λ g. IsInside (all_scopes fs) g p) (sym one.number)
    (subst (IsInside (all_scopes fs) (number_at fs one.k one.i)) (sym one.is)
    (inside_at fs one.k one.i one.function one.scope (ordered source) one.has (some_number fs one.k one.i less)))

-- the script's own scope has none round it
first_at : (fs : List FunctionScopes) (k i : ℕ) (f : FunctionScopes) (s : Scope) → OfScript fs → HasScope fs k i f s
    → 0 ≡ number_at fs k i
    → (k ≡ 0) × (around_scope fs (first_scope fs k) f s ≡ None)
first_at fs zero zero f s ordered has is =
    let script = ordered.script f has.function in
    ⊎_elim
    (λ (top : (0 ≡ 0) × (s.parent ≡ None)).
    (refl, around_none fs (first_scope fs 0) f s top.1 ∙ ap (option_map (number_of fs)) script.0))
    (λ (block : HasParent 0 s). let never = block.before in absurd (omega arith))
    (of_whole 0 f.scopes s script.1 has.scope)
first_at fs zero (suc i) f s ordered has is = absurd (omega (arith, is))
first_at fs (suc k) i f s ordered has is =
    let inside = inside_at fs (suc k) i f s ordered has (omega arith) in
    absurd (omega (arith, is, inside.before))

pub script_outermost : (source : Text) (p : PlacedScope) → slice_get (all_scopes (function_scopes source)) 0 ≡ Some p
    → (p.function ≡ 0) × (p.around ≡ None)
script_outermost source p is =
    let fs = function_scopes source in
    let one = is_placed fs 0 p is in
    let first = first_at fs one.k one.i one.function one.scope (ordered source) one.has one.number in (
      ap (λ (q : PlacedScope). q.function) one.is ∙ first.0,
      ap (λ (q : PlacedScope). q.around) one.is ∙ first.1,
    )

-- ---- functions and their own scopes

pub functions_stand : (source : Text) → FunctionsStand (function_scopes source)
functions_stand source zero f is some = absurd (omega (arith, some))
functions_stand source (suc k) f is some =
    let behind = (ordered source).others k f is in
    let outer = get_within behind.outer.scopes behind.at.scope behind.scope in
    record {
      at = behind.at;
      is = behind.is;
      before = behind.before;
      outer = behind.outer;
      scope = outer.0;
      there = record { function = behind.there; scope = outer.1 };
    }

pub script_stands : (source : Text) (f : FunctionScopes) → slice_get (function_scopes source) 0 ≡ Some f
    → f.around ≡ None
script_stands source f is = ((ordered source).script f is).0

whole_at : (source : Text) (k : ℕ) (f : FunctionScopes) → slice_get (function_scopes source) k ≡ Some f
    → AreWhole f.scopes
whole_at source zero f is = ((ordered source).script f is).1
whole_at source (suc k) f is = ((ordered source).others k f is).whole

pub have_first : (source : Text) → HaveFirst (function_scopes source)
have_first source k f is =
    let whole = whole_at source k f is in
    record {
      scope = whole.top;
      there = ap (λ ss. slice_get ss 0) whole.are;
      outermost = whole.outermost;
    }

pub have_parents : (source : Text) → HaveParents (function_scopes source)
have_parents source k i f s has some = ⊎_elim
    (λ (top : (i ≡ 0) × (s.parent ≡ None)). absurd (omega (arith, some, top.0)))
    (λ (parent : HasParent i s). parent)
    (of_whole i f.scopes s (whole_at source k f has.function) has.scope)

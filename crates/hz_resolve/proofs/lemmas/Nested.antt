-- The scopes of a tree nest, and so do its functions.
use Rattle.std.proofs.Common.{◌≡◌, ◌+◌, ◌<◌, ◌≤◌, ℕ, suc, Bool, false, List, [], ◌∷◌, ◌++◌, length, map, Option}
use Rattle.std.proofs.Common.{Some, None, refl}
use Rattle.std.proofs.Common.{sym, ap, ◌∙◌, subst, arith, length-append, append_assoc, append-nil}
use Rattle.std.specs.List.{slice_get}
use Rattle.hz_tree.specs.declared.operator.DeclarationWord.{DeclarationWord}
use Rattle.hz_tree.specs.declared.operator.DeclarationWord.TheVariants as word
use Rattle.hz_tree.specs.declared.scope.ScopeAt.{ScopeAt}
use Rattle.hz_tree.specs.declared.scope.ScopeKind.{ScopeKind}
use Rattle.hz_tree.specs.declared.scope.ScopeKind.TheVariants as scope
use Rattle.hz_tree.specs.declared.tree.FunctionForm.{FunctionForm}
use Rattle.hz_tree.specs.declared.tree.FunctionForm.TheVariants as form
use Rattle.hz_tree.specs.declared.tree.FunctionKind.{FunctionKind}
use Rattle.hz_tree.specs.declared.tree.FunctionKind.TheVariants as kind
use Rattle.hz_tree.specs.declared.tree.Tree.{Tree, roll-Tree}
use Rattle.hz_tree.specs.declared.tree.Tree.TheOpen.{Tree-F}
use Rattle.hz_tree.specs.declared.tree.Tree.TheFolds.{fold-roll-Tree, ind-Tree, map-Tree}
use Rattle.hz_tree.specs.errors.Declarations.{rest_bound}
use Rattle.hz_tree.specs.tokens.Text.{Text}
use Rattle.hz_tree.specs.trees.FunctionScopes.{Scope, FunctionScopes, Scoping, Declared, nothing, both, all_of}
use Rattle.hz_tree.specs.trees.FunctionScopes.{in_scope}
use Rattle.hz_tree.specs.trees.FunctionScopes.{in_for, parameters_of, scopes_of, of_function, with_form, using}
use Rattle.hz_tree.specs.trees.FunctionScopes.{binding_of}
use Rattle.hz_tree.specs.trees.FunctionScopes.{scoping_layer, scoping_of}
use Rattle.hz_tree.specs.trees.Places.{node}
use Rattle.hz_laws.proofs.TreeLaws.{children_map}
use Rattle.hz_resolve.proofs.lemmas.Lists.{get_more, get_last}

-- ---- the scopes of one function

-- round the scope with the number `next` is one with a smaller number
pub record IsInner (next : ℕ) (s : Scope) : Type 0 where
  pub parent : ℕ
  pub is : s.parent ≡ Some parent
  pub before : parent < next

abbrev pub AreInner : (next : ℕ) → List Scope → Type 0
AreInner next [] = Unit {0}
AreInner next (s ∷ more) = IsInner next s × AreInner (suc next) more

inner_append : (xs ys : List Scope) (next : ℕ) → AreInner next xs → AreInner (next + length xs) ys
    → AreInner next (xs ++ ys)
inner_append [] ys next h i =
    let same : next + 0 ≡ next = omega arith in subst (λ n. AreInner n ys) same i
inner_append (x ∷ xs) ys next h i =
    let same : next + suc (length xs) ≡ suc next + length xs = omega arith in
    (h.0, inner_append xs ys (suc next) h.1 (subst (λ n. AreInner n ys) same i))

-- these are all scopes of a function
pub record AreWhole (scopes : List Scope) : Type 0 where
  pub top : Scope
  pub inner : List Scope
  pub are : scopes ≡ top ∷ inner
  pub outermost : top.parent ≡ None
  pub nested : AreInner 1 inner

-- ---- functions

-- the function stands in a scope of one of those before it
pub record IsWithin (before : List FunctionScopes) (f : FunctionScopes) : Type 0 where
  pub at : ScopeAt
  pub is : f.around ≡ Some at
  pub outer : FunctionScopes
  pub there : slice_get before at.function ≡ Some outer
  pub scope : at.scope < length outer.scopes
  pub whole : AreWhole f.scopes

abbrev pub AreWithin : (before : List FunctionScopes) → List FunctionScopes → Type 0
AreWithin before [] = Unit {0}
AreWithin before (f ∷ more) = IsWithin before f × AreWithin (before ++ f ∷ []) more

within_append : (before xs ys : List FunctionScopes) → AreWithin before xs → AreWithin (before ++ xs) ys
    → AreWithin before (xs ++ ys)
within_append before [] ys h i = subst (λ fs. AreWithin fs ys) (append-nil before) i
within_append before (x ∷ xs) ys h i =
    let same : before ++ (x ∷ xs) ≡ before ++ x ∷ [] ++ xs = sym (append_assoc before (x ∷ []) xs) in
    (h.0, within_append (before ++ x ∷ []) xs ys h.1 (subst (λ fs. AreWithin fs ys) same i))

-- the function with the number k is there, with scopes for those that begin with the number `next`
record HasRoom (before : List FunctionScopes) (around next k number many : ℕ) : Type 0 where
  outer : FunctionScopes
  there : slice_get before k ≡ Some outer
  fits : next + many ≤ length outer.scopes
  inside : around < next
  counted : number ≡ length before

record IsNested (x : Scoping) : Type 0 where
  scopes : (binds : Bool) (around next : ℕ) → around < next → AreInner next (x.scopes binds around next)
  functions : (before : List FunctionScopes) (binds : Bool) (around next k number : ℕ)
      → HasRoom before around next k number (length (x.scopes binds around next))
      → AreWithin before (x.functions binds around next k number)

-- ---- what a layer is made of

nested_nothing : IsNested nothing
nested_nothing = record {
  scopes = λ binds around next less. tt;
  functions = λ before binds around next k number room. tt;
}

nested_both : (x y : Scoping) → IsNested x → IsNested y → IsNested (both x y)
nested_both x y h i = record {
  scopes = λ binds around next less.
      let first = x.scopes binds around next in
      inner_append first (y.scopes binds around (next + length first)) next (h.scopes binds around next less)
      (i.scopes binds around (next + length first) (omega (arith, less)));
  functions = λ before binds around next k number room.
      let first = x.scopes binds around next in
      let second = y.scopes binds around (next + length first) in
      let functions = x.functions binds around next k number in
      let long : length (first ++ second) ≡ length first + length second = length-append first second in
      let fits : next + (length first + length second) ≤ length room.outer.scopes =
      subst (λ m. next + m ≤ length room.outer.scopes) long room.fits in
      within_append before functions (y.functions binds around (next + length first) k (number + length functions))
      (h.functions before binds around next k number (record {
        outer = room.outer;
        there = room.there;
        fits = omega (arith, fits);
        inside = room.inside;
        counted = room.counted;
      }))
      (i.functions (before ++ functions) binds around (next + length first) k (number + length functions) (record {
        outer = room.outer;
        there = get_more before functions k room.outer room.there;
        fits = omega (arith, fits);
        inside = omega (arith, room.inside);
        counted = omega (arith, room.counted, length-append before functions);
      }));
}

nested_scope : (kind : ScopeKind) (start end : ℕ) (first : List Declared) (within : Scoping) → IsNested within
    → IsNested (in_scope kind start end first within)
nested_scope kind start end first within h = record {
  scopes = λ binds around next less. (
    record { parent = around; is = refl; before = less },
    h.scopes binds next (suc next) (omega arith),
  );
  functions = λ before binds around next k number room.
      h.functions before binds next (suc next) k number (record {
        outer = room.outer;
        there = room.there;
        fits = omega (arith, room.fits);
        inside = omega arith;
        counted = room.counted;
      });
}

nested_function : (sort : ScopeKind) (kind : FunctionKind) (start end : ℕ) (parameters : List Declared) (body : Scoping)
    → IsNested body
    → IsNested (of_function (scopes_of sort kind start end parameters body) body.functions)
nested_function sort kind start end parameters body h = record {
  scopes = λ binds around next less. tt;
  functions = λ before binds around next k number room.
      let at : ScopeAt = record { function = k; scope = around } in
      let this = scopes_of sort kind start end parameters body (Some at) in
      let last : slice_get (before ++ this ∷ []) number ≡ Some this =
      ap (slice_get (before ++ this ∷ [])) room.counted ∙ get_last before this in (
        record {
          at = at;
          is = refl;
          outer = room.outer;
          there = room.there;
          scope = omega (arith, room.fits, room.inside);
          whole = record {
            top = _;
            inner = body.scopes this.binds 0 1;
            are = refl;
            outermost = refl;
            nested = h.scopes this.binds 0 1 (omega arith);
          };
        },
        h.functions (before ++ this ∷ []) this.binds 0 1 number (suc number) (record {
          outer = this;
          there = last;
          fits = omega arith;
          inside = omega arith;
          counted = omega (arith, room.counted, length-append before (this ∷ []));
        }),
      );
}

nested_form : (f : FunctionForm) (at end : ℕ) (function : Scoping) → IsNested function
    → IsNested (with_form f at end function)
nested_form (form.Declaration bound) at end function h = record { scopes = h.scopes; functions = h.functions }
nested_form (form.Expression (Some bound)) at end function h = nested_scope _ at end _ function h
nested_form (form.Expression None) at end function h = h
nested_form _ at end function h = h

nested_for : (at : ℕ) (end : Option ℕ) (within : Scoping) → IsNested within → IsNested (in_for at end within)
nested_for at None within h = h
nested_for at (Some end) within h = nested_scope _ at end _ within h

nested_using : (name : Text) → IsNested (using name)
nested_using name = record {
  scopes = λ binds around next less. tt;
  functions = λ before binds around next k number room. tt;
}

nested_binding : (w : DeclarationWord) (name : Text) → IsNested (binding_of w name)
nested_binding word.Var name = record {
  scopes = λ binds around next less. tt;
  functions = λ before binds around next k number room. tt;
}
nested_binding _ name = record {
  scopes = λ binds around next less. tt;
  functions = λ before binds around next k number room. tt;
}

-- ---- lists of trees

abbrev AreNested : List Scoping → Type 0
AreNested [] = Unit {0}
AreNested (x ∷ more) = IsNested x × AreNested more

nested_append : (xs ys : List Scoping) → AreNested xs → AreNested ys → AreNested (xs ++ ys)
nested_append [] ys h i = i
nested_append (x ∷ xs) ys h i = (h.0, nested_append xs ys h.1 i)

nested_all : (xs : List Scoping) → AreNested xs → IsNested (all_of xs)
nested_all [] h = nested_nothing
nested_all (x ∷ more) h = nested_both x (all_of more) h.0 (nested_all more h.1)

abbrev Proved : Type 0
Proved = (tree : Tree) × IsNested (scoping_of tree)

abbrev trees : List Proved → List Tree
trees = map (λ e. e.0)

abbrev meant : List Proved → List Scoping
meant ts = map scoping_of (trees ts)

abbrev mapped : Tree-F Proved → Tree-F Scoping
mapped y = map-Tree Tree Scoping scoping_of (map-Tree Proved Tree (λ e. e.0) y)

list : (ts : List Proved) → AreNested (meant ts)
list [] = tt
list (e ∷ more) = (e.1, list more)

abbrev options : Option Proved → List Scoping
options value = (node (mapped (Tree-F.Return 0 value))).children

option : (value : Option Proved) → AreNested (options value)
option None = tt
option (Some e) = (e.1, tt)

for_parts : (binds : List Proved) (test update : Option Proved) (body : Proved)
    → IsNested (all_of (meant binds ++ (options test ++ (options update ++ scoping_of body.0 ∷ []))))
for_parts binds test update body =
    let last : List Scoping = scoping_of body.0 ∷ [] in
    nested_all _
    (nested_append (meant binds) (options test ++ (options update ++ last)) (list binds)
    (nested_append (options test) (options update ++ last) (option test)
    (nested_append (options update) last (option update) (body.1, tt))))

children : (y : Tree-F Proved) → (node (mapped y)).children ≡ meant (node y).children
children y =
    children_map scoping_of (map-Tree Proved Tree (λ e. e.0) y) ∙ ap (map scoping_of) (children_map (λ e. e.0) y)

-- ---- all trees

layer : (y : Tree-F Proved) → IsNested (scoping_layer (mapped y))
layer (Tree-F.Function at end form kind parameters rest body) =
    let bound = parameters_of (parameters ++ rest_bound rest) in
    nested_form form at end _ (nested_function scope.Function kind at end bound (scoping_of body.0) body.1)
layer (Tree-F.Bind at word name value) =
    nested_both (binding_of word name) _ (nested_binding word name) (nested_all _ (option value))
layer (Tree-F.Block at items end) = nested_scope _ at end _ _ (nested_all _ (list items))
layer (Tree-F.Switch at value brace clauses end) =
    nested_both (scoping_of value.0) _ value.1 (nested_scope _ brace end _ _ (nested_all _ (list clauses)))
layer (Tree-F.Catch at bound brace items end) = nested_scope _ at end _ _ (nested_all _ (list items))
layer (Tree-F.ForDeclared at word bound iteration over body end) =
    nested_for at end _ (nested_both (binding_of word bound.name) _ (nested_binding word bound.name)
    (nested_both (scoping_of over.0) (scoping_of body.0) over.1 body.1))
layer (Tree-F.ForBinds at word binds test update body end) = nested_for at end _ (for_parts binds test update body)
layer (Tree-F.This at) = nested_using _
layer (Tree-F.NewTarget at) = nested_using _
layer (Tree-F.Identifier at name) = nested_using name
layer (Tree-F.Shorthand at name) = nested_using name
layer y = nested_all (node (mapped y)).children (subst AreNested (sym (children y)) (list (node y).children))

roll : (x : Tree-F Tree) → IsNested (scoping_layer (map-Tree Tree Scoping scoping_of x))
    → IsNested (scoping_of (roll-Tree x))
unfolding scoping_of
roll x h = subst IsNested (sym (fold-roll-Tree Scoping scoping_layer x)) h

nested : (tree : Tree) → IsNested (scoping_of tree)
nested =
    ind-Tree (λ tree. IsNested (scoping_of tree)) (λ x y is.
    subst (λ z. IsNested (scoping_of (roll-Tree z))) is (roll (map-Tree Proved Tree (λ e. e.0) y) (layer y)))

-- ---- the functions of a script

abbrev pub script_of : Text → Tree → FunctionScopes
script_of source tree = scopes_of scope.Script kind.Script 0 (length source) [] (scoping_of tree) None

abbrev pub others_of : Tree → List FunctionScopes
others_of tree = (scoping_of tree).functions false 0 1 0 1

pub script_whole : (source : Text) (tree : Tree) → AreWhole (script_of source tree).scopes
script_whole source tree = record {
  top = _;
  inner = (scoping_of tree).scopes false 0 1;
  are = refl;
  outermost = refl;
  nested = (nested tree).scopes false 0 1 (omega arith);
}

pub others_within : (source : Text) (tree : Tree) → AreWithin (script_of source tree ∷ []) (others_of tree)
others_within source tree = (nested tree).functions (script_of source tree ∷ []) false 0 1 0 1 (record {
  outer = script_of source tree;
  there = refl;
  fits = omega arith;
  inside = omega arith;
  counted = refl;
})

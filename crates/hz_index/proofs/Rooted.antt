-- Of the functions of a source the script alone stands in no scope.
use Rattle.std.proofs.Common.{◌≡◌, ℕ, zero, suc, ◌+◌, List, [], ◌∷◌, length, map, Option, Some, None, refl, ap, sym, ◌∙◌}
use Rattle.std.proofs.Common.{subst, false}
use Rattle.std.proofs.lemmas.List.Elements.{All-nil, All-cons, All-head, All-tail, All-append}
use Rattle.std.specs.Prelude.{◌↔◌}
use Rattle.std.specs.List.{All, slice_get}
use Rattle.std.specs.Option.{option_map}
use Rattle.hz_tree.specs.declared.index.FunctionInfo.{FunctionInfo}
use Rattle.hz_tree.specs.declared.nonterminal.Nonterminal.TheVariants as n
use Rattle.hz_tree.specs.declared.scope.ScopeAt.{ScopeAt}
use Rattle.hz_tree.specs.declared.tree.Tree.{Tree, roll-Tree}
use Rattle.hz_tree.specs.declared.tree.Tree.TheOpen.{Tree-F}
use Rattle.hz_tree.specs.declared.tree.Tree.TheFolds.{fold-roll-Tree, ind-Tree, map-Tree}
use Rattle.hz_tree.specs.grammar.Look.{terminals}
use Rattle.hz_tree.specs.reading.Reading.{Reading, Got, Stuck, Deeper, reads}
use Rattle.hz_tree.specs.sources.Refusals.{function_scopes, function_scopes_by}
use Rattle.hz_tree.specs.tokens.Text.{Text}
use Rattle.hz_tree.specs.trees.Functions.{Found, found_both, in_all, in_layer, found_in}
use Rattle.hz_tree.specs.trees.FunctionScopes.{FunctionScopes, scoping_of, function_scopes_of}
use Rattle.hz_tree.specs.trees.Places.{node}
use Rattle.hz_laws.proofs.TreeLaws.{children_map}
use Rattle.hz_index.specs.Standing.{Standing, of_info, of_scopes}
use Rattle.hz_index.proofs.Standing.{alike}

-- ---- the functions in a tree have parents

HasParent : FunctionInfo → Type 0
HasParent f = f.parent ≡ None → ⊥

record AreWithin (found : Found) : Type 0 where
  all : (parent next : ℕ) → All HasParent (found parent next)

within_both : (f g : Found) → AreWithin f → AreWithin g → AreWithin (found_both f g)
within_both f g h i = record {
  all = λ parent next.
      All-append HasParent (f parent next) (g parent (next + length (f parent next))) (h.all parent next)
      (i.all parent (next + length (f parent next)));
}

abbrev Proved : Type 0
Proved = (tree : Tree) × AreWithin (found_in tree)

abbrev trees : List Proved → List Tree
trees = map (λ e. e.0)

within_all : (ts : List Proved) → AreWithin (in_all (map found_in (trees ts)))
within_all [] = record { all = λ parent next. All-nil HasParent }
within_all (e ∷ more) = within_both _ _ e.1 (within_all more)

abbrev mapped : Tree-F Proved → Tree-F Found
mapped y = map-Tree Tree Found found_in (map-Tree Proved Tree (λ e. e.0) y)

children_twice : (y : Tree-F Proved) → (node (mapped y)).children ≡ map found_in (trees (node y).children)
children_twice y =
    children_map found_in (map-Tree Proved Tree (λ e. e.0) y) ∙ ap (map found_in) (children_map (λ e. e.0) y)

within_children : (y : Tree-F Proved) → AreWithin (in_all (node (mapped y)).children)
within_children y =
    subst (λ (found : List Found). AreWithin (in_all found)) (sym (children_twice y)) (within_all (node y).children)

parent_known : (f : FunctionInfo) (parent : ℕ) → f.parent ≡ Some parent → HasParent f
unfolding HasParent
parent_known f parent is none = cc

within_layer : (y : Tree-F Proved) → AreWithin (in_layer (mapped y))
within_layer (Tree-F.Function at end form kind parameters rest body) = record {
  all = λ parent next.
      All-cons HasParent _ _ (parent_known _ parent refl) (body.1.all next (suc next));
}
within_layer y = within_children y

within_roll : (x : Tree-F Tree) → AreWithin (in_layer (map-Tree Tree Found found_in x))
    → AreWithin (found_in (roll-Tree x))
unfolding found_in
within_roll x h = subst AreWithin (sym (fold-roll-Tree Found in_layer x)) h

within : (tree : Tree) → AreWithin (found_in tree)
within =
    ind-Tree (λ tree. AreWithin (found_in tree)) (λ x y is. subst (λ z. AreWithin (found_in (roll-Tree z))) is
    (within_roll (map-Tree Proved Tree (λ e. e.0) y) (within_layer y)))

-- ---- and stand in scopes

in_scope : (f : FunctionInfo) (s : FunctionScopes) (a : Option ScopeAt) → of_info f ≡ of_scopes s → HasParent f
    → Some s.around ≡ Some a → a ≡ None → ⊥
unfolding HasParent
in_scope f s a same has is none =
    let around : s.around ≡ None = cc in
    has (ap (λ (t : Standing). t.parent) same ∙ ap (option_map (λ (at : ScopeAt). at.function)) around)

stands : (fs : List FunctionInfo) (ss : List FunctionScopes) → map of_info fs ≡ map of_scopes ss → All HasParent fs
    → (k : ℕ) (a : Option ScopeAt) → option_map (λ s. s.around) (slice_get ss k) ≡ Some a → a ≡ None → ⊥
stands fs [] same all k a is none = cc
stands [] (s ∷ ss) same all k a is none = cc
stands (f ∷ fs) (s ∷ ss) same all zero a is none = in_scope f s a (cc) (All-head HasParent f fs all) is none
stands (f ∷ fs) (s ∷ ss) same all (suc k) a is none = stands fs ss (cc) (All-tail HasParent f fs all) k a is none

of_tree : (source : Text) (tree : Tree) (k : ℕ) (a : Option ScopeAt)
    → option_map (λ s. s.around) (slice_get (function_scopes_of source tree) k) ≡ Some a → (a ≡ None) ↔ (k ≡ 0)
unfolding function_scopes_of
of_tree source tree zero a is = (λ none. refl, λ first. cc)
of_tree source tree (suc k) a is = (
  λ none. absurd (stands (found_in tree 0 1) ((scoping_of tree).functions false 0 1 0 1)
      ((alike tree).same false 0 1 0 1) ((within tree).all 0 1) k a is none),
  λ first. absurd cc,
)

of_reading : (source : Text) (r : Reading Tree) (k : ℕ) (a : Option ScopeAt)
    → option_map (λ s. s.around) (slice_get (function_scopes_by source r) k) ≡ Some a → (a ≡ None) ↔ (k ≡ 0)
of_reading source (Got tree ts) k a is = of_tree source tree k a is
of_reading source (Stuck cause ts) k a is = absurd cc
of_reading source Deeper k a is = absurd cc

pub script_alone : (source : Text) (k : ℕ) (a : Option ScopeAt)
    → option_map (λ s. s.around) (slice_get (function_scopes source) k) ≡ Some a → (a ≡ None) ↔ (k ≡ 0)
unfolding function_scopes
script_alone source k a is = of_reading source (reads n.Script (terminals source)) k a is

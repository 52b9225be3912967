-- In each tree, the functions that stand in a function are the outermost ones in its body.
use Rattle.std.proofs.Common.{◌≡◌, ℕ, zero, suc, ◌+◌, ◌<◌, ◌≤◌, Bool, true, false, if◌then◌else◌, ◌==◌, List, []}
use Rattle.std.proofs.Common.{◌∷◌, ◌++◌, length, get_or, map, min, Some, refl, ap, sym, ◌∙◌, subst, arith}
use Rattle.std.specs.List.{sum_by}
use Rattle.std.proofs.lemmas.Bool.Decides.{nat_tests}
use Rattle.std.proofs.lemmas.List.Sums.{sum_by-cons}
use Rattle.hz_tree.specs.declared.index.FunctionInfo.{FunctionInfo}
use Rattle.hz_tree.specs.declared.tree.Tree.{Tree, roll-Tree}
use Rattle.hz_tree.specs.declared.tree.Tree.TheOpen.{Tree-F}
use Rattle.hz_tree.specs.declared.tree.Tree.TheFolds.{fold-roll-Tree, ind-Tree, map-Tree}
use Rattle.hz_tree.specs.tokens.Text.{Text}
use Rattle.hz_tree.specs.trees.Functions.{Found, in_all, in_function, in_layer, found_in}
use Rattle.hz_tree.specs.trees.FunctionTrees.{inner_tokens}
use Rattle.hz_tree.specs.trees.Places.{node}
use Rattle.hz_laws.proofs.TreeLaws.{children_map}
use Rattle.hz_stands.specs.Nodes.{FunctionNode, nodes_of, tree_nodes}
use Rattle.hz_stands.proofs.TreeNodes.{own_nodes, nodes_roll}
use Rattle.hz_own.proofs.Tally.{outermost, outer_past, tokens_of, outer_tokens}
use Rattle.hz_own.proofs.Parents.{standing_tokens, Fits, fits_none, fits_both}

-- ---- a function

module _ (source : Text) (f : FunctionNode) (count : ℕ) (body : Fits source (found_in f.body) (nodes_of f.body)) where
  abbrev info : (parent : ℕ) → FunctionInfo
  info parent =
      record { start = f.at; end = f.end; kind = f.kind; length = min count 255; parent = Some parent }

  abbrev found : Found
  found parent next = info parent ∷ found_in f.body next (suc next)

  abbrev inner : (parent k : ℕ) → ℕ
  inner parent k = inner_tokens source k (info parent)

  elsewhere : (parent k : ℕ) → (k ≡ parent → ⊥) → inner parent k ≡ 0
  elsewhere parent k h =
      ap (λ b. if b then tokens_of source f else 0) (differs (parent == k) refl)
    where
      differs : (b : Bool) → (parent == k) ≡ b → (parent == k) ≡ false
      differs false e = e
      differs true e = absurd (h (grind (arith, nat_tests)))

  there : (k : ℕ) → inner k k ≡ tokens_of source f
  there k = ap (λ b. if b then tokens_of source f else 0) (same (k == k) refl)
    where
      same : (b : Bool) → (k == k) ≡ b → (k == k) ≡ true
      same true e = e
      same false e = grind (arith, nat_tests)

  sum : (parent next k : ℕ) → standing_tokens source k (found parent next)
      ≡ inner parent k + standing_tokens source k (found_in f.body next (suc next))
  sum parent next k = sum_by-cons (inner_tokens source k) (info parent) (found_in f.body next (suc next))

  own_strangers : (parent next k : ℕ) → parent < next → (k ≡ parent → ⊥)
      → (next ≤ k → k < next + suc (length (nodes_of f.body)) → ⊥)
      → standing_tokens source k (found parent next) ≡ 0
  own_strangers parent next k h i o =
      let one : inner parent k ≡ 0 = elsewhere parent k i in
      let two : standing_tokens source k (found_in f.body next (suc next)) ≡ 0 =
      body.strangers next (suc next) k (omega arith) (λ e. o (omega (arith, e)) (omega (arith, e)))
      (λ p q. o (omega (arith, p)) (omega (arith, q))) in
      let all = sum parent next k in omega (arith, all, one, two)

  own_outer : (parent next : ℕ) → parent < next → (others : List FunctionNode)
      → standing_tokens source parent (found parent next) + outer_tokens source others
      ≡ outer_tokens source (f ∷ (nodes_of f.body ++ others))
  own_outer parent next h others =
      let one : inner parent parent ≡ tokens_of source f = there parent in
      let two : standing_tokens source parent (found_in f.body next (suc next)) ≡ 0 =
      body.strangers next (suc next) parent (omega arith) (λ e. omega (arith, e, h)) (λ p q. omega (arith, p, h)) in
      let all = sum parent next parent in
      let outer : outer_tokens source (f ∷ (nodes_of f.body ++ others))
      ≡ tokens_of source f + outer_tokens source others =
      ap (λ gs. sum_by (tokens_of source) (f ∷ gs)) (outer_past (nodes_of f.body) others)
      ∙ sum_by-cons (tokens_of source) f (outermost others) in
      omega (arith, all, one, two, outer)

  own_deeper : (parent next k j : ℕ) (d : FunctionNode) → parent < next → k ≡ next + j
      → j < suc (length (nodes_of f.body))
      → standing_tokens source k (found parent next)
      ≡ standing_tokens source k (found_in (get_or (f ∷ nodes_of f.body) j d).body k (suc k))
  own_deeper parent next k zero d h e i =
      let one : inner parent k ≡ 0 = elsewhere parent k (λ q. omega (arith, q, e, h)) in
      let all = sum parent next k in
      let same : next ≡ k = omega (arith, e) in
      let found : standing_tokens source k (found_in f.body next (suc next))
      ≡ standing_tokens source k (found_in f.body k (suc k)) =
      ap (λ z. standing_tokens source k (found_in f.body z (suc z))) same in
      omega (arith, all, one, found)
  own_deeper parent next k (suc j) d h e i =
      let one : inner parent k ≡ 0 = elsewhere parent k (λ q. omega (arith, q, e, h)) in
      let all = sum parent next k in
      let two = body.deeper next (suc next) k j d (omega arith) (omega (arith, e)) (omega (arith, i)) in
      omega (arith, all, one, two)

  fits_function : Fits source (in_function f.at f.end f.kind count (found_in f.body)) (f ∷ nodes_of f.body)
  fits_function = record {
    size = λ parent next. ap suc (body.size next (suc next));
    strangers = own_strangers;
    outer = own_outer;
    deeper = own_deeper;
  }

-- ---- trees

abbrev FitsTree : Text → Tree → Type 0
FitsTree source tree = Fits source (found_in tree) (nodes_of tree)

abbrev Proved : Text → Type 0
Proved source = (tree : Tree) × FitsTree source tree

abbrev trees : (source : Text) → List (Proved source) → List Tree
trees source = map (λ e. e.0)

abbrev layer : (source : Text) → Tree-F (Proved source) → Tree-F Tree
layer source y = map-Tree (Proved source) Tree (λ e. e.0) y

fits_all : (source : Text) (es : List (Proved source))
    → Fits source (in_all (map found_in (trees source es))) (tree_nodes (trees source es))
fits_all source [] = fits_none source
fits_all source (e ∷ more) =
    fits_both source (found_in e.0) (in_all (map found_in (trees source more))) (nodes_of e.0)
    (tree_nodes (trees source more)) e.1 (fits_all source more)

fits_layer : (source : Text) (y : Tree-F (Proved source))
    → Fits source (in_layer (map-Tree Tree Found found_in (layer source y))) (own_nodes (layer source y))
fits_layer source (Tree-F.Function at end form kind parameters rest body) =
    let f : FunctionNode = record {
      at = at;
      end = end;
      form = form;
      kind = kind;
      parameters = parameters;
      rest = rest;
      body = body.0;
    } in
    fits_function source f (length parameters) body.1
fits_layer source y =
    let found : map found_in (trees source (node y).children)
    ≡ (node (map-Tree Tree Found found_in (layer source y))).children =
    sym (children_map found_in (layer source y) ∙ ap (map found_in) (children_map (λ e. e.0) y)) in
    let same : trees source (node y).children ≡ (node (layer source y)).children =
    sym (children_map (λ e. e.0) y) in
    subst (λ ts. Fits source (in_all ts) (tree_nodes (node (layer source y)).children)) found
    (subst (λ ts. Fits source (in_all (map found_in (trees source (node y).children))) (tree_nodes ts)) same
    (fits_all source (node y).children))

fits_roll : (source : Text) (x : Tree-F Tree)
    → Fits source (in_layer (map-Tree Tree Found found_in x)) (own_nodes x) → FitsTree source (roll-Tree x)
unfolding found_in
fits_roll source x h =
    subst (λ found. Fits source found (nodes_of (roll-Tree x))) (sym (fold-roll-Tree Found in_layer x))
    (subst (Fits source (in_layer (map-Tree Tree Found found_in x))) (sym (nodes_roll x)) h)

-- In each tree, the functions that stand in a function are the outermost ones in its body.
pub fits_tree : (source : Text) (tree : Tree) → FitsTree source tree
fits_tree source =
    ind-Tree (FitsTree source) (λ x y is. subst (λ z. FitsTree source (roll-Tree z)) is
    (fits_roll source (layer source y) (fits_layer source y)))

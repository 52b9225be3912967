-- The draft that the events of a tree build has the functions of the tree.
use Rattle.std.proofs.Common.{◌≡◌, ℕ, ◌+◌, min, List, [], ◌∷◌, ◌++◌, length, map, Some, refl, subst, ap, sym, ◌∙◌}
use Rattle.std.proofs.Common.{append_assoc, append-nil, length-append, arith}
use Rattle.hz_tree.specs.declared.index.FunctionInfo.{FunctionInfo}
use Rattle.hz_tree.specs.declared.signal.NodeKind.{NodeKind}
use Rattle.hz_tree.specs.declared.signal.Signal.TheVariants as tell
use Rattle.hz_tree.specs.declared.tree.Bound.{Bound}
use Rattle.hz_tree.specs.declared.tree.FunctionKind.{FunctionKind}
use Rattle.hz_tree.specs.declared.tree.Tree.{Tree, roll-Tree}
use Rattle.hz_tree.specs.declared.tree.Tree.TheOpen.{Tree-F}
use Rattle.hz_tree.specs.declared.tree.Tree.TheFolds.{fold-roll-Tree, ind-Tree, map-Tree}
use Rattle.hz_tree.specs.tokens.Text.{Text}
use Rattle.hz_tree.specs.grammar.Signals.{Event, Placed}
use Rattle.hz_tree.specs.trees.Places.{node}
use Rattle.hz_tree.specs.trees.Events.{told_all, node_of, told_layer, events_of}
use Rattle.hz_tree.specs.trees.Functions.{Found, found_none, found_both, in_all, in_function, in_layer, found_in}
use Rattle.hz_tree.specs.trees.Functions.{functions_of}
use Rattle.hz_tree.specs.trees.Drafts.{Draft, change, counted, ended, happens, built, begun}
use Rattle.hz_laws.proofs.Heard.{heard, heard_builds, counted_events, own_function, heard_own, heard_layer}
use Rattle.hz_laws.proofs.TreeLaws.{children_map}

built_append : (d : Draft) (es fs : List Event) → built d (es ++ fs) ≡ built (built d es) fs
built_append d [] fs = refl
built_append d (e ∷ es) fs = built_append (happens d e) es fs

-- Within an open function of number k the events add these functions to a draft, and leave the same functions open.
record Tied (es : List Event) (found : Found) : Type 0 where
  builds : (fs : List FunctionInfo) (k : ℕ) (outer : List ℕ)
      → built (record { functions = fs; opened = k ∷ outer }) es
      ≡ record { functions = fs ++ found k (length fs); opened = k ∷ outer }

tied_none : Tied [] found_none
tied_none =
    record { builds = λ fs k outer. ap (λ x. record { functions = x; opened = k ∷ outer }) (sym (append-nil fs)) }

both_build : (es es' : List Event) (f g : Found) → Tied es f → Tied es' g
    → (fs : List FunctionInfo) (k : ℕ) (outer : List ℕ)
    → built (record { functions = fs; opened = k ∷ outer }) (es ++ es')
    ≡ record { functions = fs ++ found_both f g k (length fs); opened = k ∷ outer }
both_build es es' f g h i fs k outer =
    built_append (record { functions = fs; opened = k ∷ outer }) es es'
    ∙ ap (λ d. built d es') (h.builds fs k outer)
    ∙ i.builds (fs ++ f k (length fs)) k outer
    ∙ ap (λ x. record { functions = x; opened = k ∷ outer })
    (append_assoc fs (f k (length fs)) (g k (length (fs ++ f k (length fs))))
    ∙ ap (λ n. fs ++ (f k (length fs) ++ g k n)) (length-append fs (f k (length fs))))

tied_both : {es es' : (List Event)} {f g : Found} → Tied es f → Tied es' g → Tied (es ++ es') (found_both f g)
tied_both {es} {es'} {f} {g} h i = record { builds = both_build es es' f g h i }

change_at : (fs : List FunctionInfo) (f : FunctionInfo → FunctionInfo) (x : FunctionInfo) (more : List FunctionInfo)
    → change (length fs) f (fs ++ x ∷ more) ≡ fs ++ f x ∷ more
change_at [] f x more = refl
change_at (y ∷ fs) f x more = ap (λ xs. y ∷ xs) (change_at fs f x more)

count_all : (ps : List Bound) (fs : List FunctionInfo) (x : FunctionInfo) (outer : List ℕ) (m : ℕ)
    → x.length ≡ min m 255
    → built (record { functions = fs ++ x ∷ []; opened = length fs ∷ outer }) (counted_events ps)
    ≡ record { functions = fs ++ record x { length = min (m + length ps) 255 } ∷ []; opened = length fs ∷ outer }
count_all [] fs x outer m h =
    ap (λ n. record { functions = fs ++ record x { length = n } ∷ []; opened = length fs ∷ outer }) (omega (arith, h))
count_all (p ∷ ps) fs x outer m h =
    ap (λ xs. built (record { functions = xs; opened = length fs ∷ outer }) (counted_events ps))
    (change_at fs counted x [])
    ∙ count_all ps fs (counted x) outer (m + 1) (omega (arith, h))
    ∙ ap (λ n. record { functions = fs ++ record x { length = n } ∷ []; opened = length fs ∷ outer }) (omega arith)

module _ (start end : ℕ) (node : NodeKind) (kind : FunctionKind) (ps : List Bound) where
  function_builds : (body : List Event) (found : Found) → Tied body found
      → (fs : List FunctionInfo) (k : ℕ) (outer : List ℕ)
      → built (record { functions = fs; opened = k ∷ outer }) (own_function start end node kind ps body)
      ≡ record { functions = fs ++ in_function start end kind (length ps) found k (length fs); opened = k ∷ outer }
  function_builds body found h fs k outer =
      let new : FunctionInfo = record { start = start; end = start; kind = kind; length = 0; parent = Some k } in
      let full : FunctionInfo = record new { length = min (length ps) 255 } in
      let closing : List Event = Placed tell.Close end ∷ [] in
      let open_draft : Draft = record { functions = fs ++ new ∷ []; opened = length fs ∷ k ∷ outer } in
      built_append open_draft (counted_events ps) (body ++ closing)
      ∙ ap (λ d. built d (body ++ closing)) (count_all ps fs new (k ∷ outer) 0 refl
      ∙ ap (λ n. record { functions = fs ++ record new { length = n } ∷ []; opened = length fs ∷ k ∷ outer })
      (omega arith))
      ∙ built_append (record { functions = fs ++ full ∷ []; opened = length fs ∷ k ∷ outer }) body closing
      ∙ ap (λ d. built d closing) (h.builds (fs ++ full ∷ []) (length fs) (k ∷ outer))
      ∙ ap (λ xs. record { functions = xs; opened = k ∷ outer })
      (ap (change (length fs) (ended end)) (append_assoc fs (full ∷ []) (found (length fs) (length (fs ++ full ∷ []))))
      ∙ change_at fs (ended end) full (found (length fs) (length (fs ++ full ∷ [])))
      ∙ ap (λ n. fs ++ ended end full ∷ found (length fs) n) (length-append fs (full ∷ []) ∙ omega arith))

  tied_function : {body : (List Event)} {found : Found} → Tied body found
      → Tied (own_function start end node kind ps body) (in_function start end kind (length ps) found)
  tied_function {body} {found} h = record { builds = function_builds body found h }

-- ---- all trees

abbrev TiedTree : Tree → Type 0
TiedTree tree = Tied (heard (events_of tree)) (found_in tree)

abbrev Proved : Type 0
Proved = (tree : Tree) × TiedTree tree

abbrev trees : List Proved → List Tree
trees = map (λ e. e.0)

tied_all : (ts : List Proved)
    → Tied (told_all (map heard (map events_of (trees ts)))) (in_all (map found_in (trees ts)))
tied_all [] = tied_none
tied_all (e ∷ more) = tied_both e.1 (tied_all more)

children_twice : {A : Type 0} (f : Tree → A) (y : Tree-F Proved)
    → (node (map-Tree Tree A f (map-Tree Proved Tree (λ e. e.0) y))).children ≡ map f (trees (node y).children)
children_twice f y = children_map f (map-Tree Proved Tree (λ e. e.0) y) ∙ ap (map f) (children_map (λ e. e.0) y)

tied_children : (events : List (List Event)) (found : List Found) (y : Tree-F Proved)
    → events ≡ map events_of (trees (node y).children) → found ≡ map found_in (trees (node y).children)
    → Tied (told_all (map heard events)) (in_all found)
tied_children events found y h i = rw (h, i) (tied_all (node y).children)

tied_own : (y : Tree-F Proved)
    → Tied (heard_own (map-Tree Tree (List Event) events_of (map-Tree Proved Tree (λ e. e.0) y)))
    (in_layer (map-Tree Tree Found found_in (map-Tree Proved Tree (λ e. e.0) y)))
tied_own (Tree-F.Function at end form kind parameters rest body) =
    tied_function at end (node_of form) kind parameters body.1
tied_own y = tied_children _ _ y (children_twice events_of y) (children_twice found_in y)

tied_layer : (y : Tree-F Proved)
    → Tied (heard (told_layer (map-Tree Tree (List Event) events_of (map-Tree Proved Tree (λ e. e.0) y))))
    (in_layer (map-Tree Tree Found found_in (map-Tree Proved Tree (λ e. e.0) y)))
tied_layer y =
    subst (λ es. Tied es (in_layer (map-Tree Tree Found found_in (map-Tree Proved Tree (λ e. e.0) y))))
    (sym (heard_layer (map-Tree Tree (List Event) events_of (map-Tree Proved Tree (λ e. e.0) y)))) (tied_own y)

tied_roll : (x : Tree-F Tree) → Tied (heard (told_layer (map-Tree Tree (List Event) events_of x)))
    (in_layer (map-Tree Tree Found found_in x)) → TiedTree (roll-Tree x)
unfolding events_of found_in
tied_roll x h = record {
  builds = λ fs k outer.
      ap (λ es. built (record { functions = fs; opened = k ∷ outer }) (heard es))
      (fold-roll-Tree (List Event) told_layer x)
      ∙ h.builds fs k outer
      ∙ ap (λ found. record { functions = fs ++ found k (length fs); opened = k ∷ outer })
      (sym (fold-roll-Tree Found in_layer x));
}

tied : (tree : Tree) → TiedTree tree
tied =
    ind-Tree TiedTree (λ x y is. subst (λ z. TiedTree (roll-Tree z)) is
    (tied_roll (map-Tree Proved Tree (λ e. e.0) y) (tied_layer y)))

pub built_is : (source : Text) (tree : Tree)
    → built (begun source) (events_of tree) ≡ record { functions = functions_of source tree; opened = 0 ∷ [] }
unfolding functions_of
built_is source tree =
    sym (heard_builds (events_of tree) (begun source)) ∙ (tied tree).builds (begun source).functions 0 []

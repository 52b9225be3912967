-- The functions of a source and their scopes are as many, and tell the same of where each function stands.
use Rattle.std.proofs.Common.{◌≡◌, ℕ, suc, ◌+◌, Bool, false, List, [], ◌∷◌, ◌++◌, length, map, Option, Some, None, refl}
use Rattle.std.proofs.Common.{ap, sym, ◌∙◌, subst, append-nil, arith}
use Rattle.std.proofs.lemmas.List.{map-append, length-map}
use Rattle.hz_tree.specs.declared.index.FunctionInfo.{FunctionInfo}
use Rattle.hz_tree.specs.declared.nonterminal.Nonterminal.TheVariants as n
use Rattle.hz_tree.specs.declared.operator.DeclarationWord.{DeclarationWord}
use Rattle.hz_tree.specs.declared.operator.DeclarationWord.TheVariants as word
use Rattle.hz_tree.specs.declared.scope.ScopeKind.{ScopeKind}
use Rattle.hz_tree.specs.declared.scope.ScopeKind.TheVariants as scope
use Rattle.hz_tree.specs.declared.tree.FunctionForm.{FunctionForm}
use Rattle.hz_tree.specs.declared.tree.FunctionForm.TheVariants as form
use Rattle.hz_tree.specs.declared.tree.FunctionKind.{FunctionKind}
use Rattle.hz_tree.specs.declared.tree.Tree.{Tree, roll-Tree}
use Rattle.hz_tree.specs.declared.tree.Tree.TheOpen.{Tree-F}
use Rattle.hz_tree.specs.declared.tree.Tree.TheFolds.{fold-roll-Tree, ind-Tree, map-Tree}
use Rattle.hz_tree.specs.errors.Declarations.{rest_bound}
use Rattle.hz_tree.specs.grammar.Look.{terminals}
use Rattle.hz_tree.specs.reading.Reading.{Reading, Got, Stuck, Deeper, reads}
use Rattle.hz_tree.specs.sources.Refusals.{functions, functions_by, function_scopes, function_scopes_by}
use Rattle.hz_tree.specs.tokens.Text.{Text}
use Rattle.hz_tree.specs.trees.Functions.{Found, found_none, found_both, in_all, in_function, in_layer, found_in}
use Rattle.hz_tree.specs.trees.Functions.{functions_of}
use Rattle.hz_tree.specs.trees.FunctionScopes.{FunctionScopes, Declared, Scoping, nothing, both, all_of, in_scope}
use Rattle.hz_tree.specs.trees.FunctionScopes.{in_for}
use Rattle.hz_tree.specs.trees.FunctionScopes.{with_form, binding_of, scopes_of, of_function, parameters_of}
use Rattle.hz_tree.specs.trees.FunctionScopes.{scoping_layer}
use Rattle.hz_tree.specs.trees.FunctionScopes.{scoping_of, function_scopes_of}
use Rattle.hz_tree.specs.trees.Places.{node}
use Rattle.hz_laws.proofs.TreeLaws.{children_map}
use Rattle.hz_index.specs.Standing.{of_info, of_scopes}

-- these functions stand where those do whose scopes are told
pub record Alike (found : Found) (scoping : Scoping) : Type 0 where
  pub same : (binds : Bool) (around next parent number : ℕ)
      → map of_info (found parent number) ≡ map of_scopes (scoping.functions binds around next parent number)

as_long : (fs : List FunctionInfo) (ss : List FunctionScopes) → map of_info fs ≡ map of_scopes ss
    → length fs ≡ length ss
as_long fs ss h = sym (length-map fs of_info) ∙ ap length h ∙ length-map ss of_scopes

-- ---- one after the other

alike_nothing : Alike found_none nothing
alike_nothing = record { same = λ binds around next parent number. refl }

alike_both : (f g : Found) (s t : Scoping) → Alike f s → Alike g t → Alike (found_both f g) (both s t)
alike_both f g s t h i = record {
  same = λ binds around next parent number.
      let fs = f parent number in
      let ss = s.functions binds around next parent number in
      let behind = next + length (s.scopes binds around next) in
      let first = h.same binds around next parent number in
      map-append of_info fs (g parent (number + length fs))
      ∙ ap (λ xs. xs ++ map of_info (g parent (number + length fs))) first
      ∙ ap (λ n. map of_scopes ss ++ map of_info (g parent (number + n))) (as_long fs ss first)
      ∙ ap (λ xs. map of_scopes ss ++ xs) (i.same binds around behind parent (number + length ss))
      ∙ sym (map-append of_scopes ss (t.functions binds around behind parent (number + length ss)));
}

alike_last : (f : Found) (s : Scoping) → Alike f s → Alike (found_both f found_none) s
alike_last f s h = record {
  same = λ binds around next parent number.
      ap (map of_info) (append-nil (f parent number)) ∙ h.same binds around next parent number;
}

-- ---- what stands round them

alike_in : (f : Found) (s : Scoping) (kind : ScopeKind) (start end : ℕ) (first : List Declared) → Alike f s
    → Alike f (in_scope kind start end first s)
alike_in f s kind start end first h = record {
  same = λ binds around next parent number. h.same binds next (suc next) parent number;
}

alike_for : (f : Found) (s : Scoping) (at : ℕ) (end : Option ℕ) → Alike f s → Alike f (in_for at end s)
alike_for f s at None h = h
alike_for f s at (Some end) h = alike_in f s scope.Block at end [] h

-- a name that is declared before them
alike_bound : (f : Found) (s : Scoping) (w : DeclarationWord) (name : Text) → Alike f s
    → Alike f (both (binding_of w name) s)
alike_bound f s word.Var name h = record {
  same = λ binds around next parent number.
      h.same binds around (next + 0) parent number
      ∙ ap (λ n. map of_scopes (s.functions binds around (next + 0) parent n)) (omega arith);
}
alike_bound f s _ name h = record {
  same = λ binds around next parent number.
      h.same binds around (next + 0) parent number
      ∙ ap (λ n. map of_scopes (s.functions binds around (next + 0) parent n)) (omega arith);
}

alike_form : (f : Found) (s : Scoping) (form : FunctionForm) (at end : ℕ) → Alike f s
    → Alike f (with_form form at end s)
alike_form f s (form.Declaration bound) at end h = record { same = h.same }
alike_form f s (form.Expression (Some bound)) at end h = alike_in f s scope.Own at end _ h
alike_form f s (form.Expression None) at end h = h
alike_form f s form.Method at end h = h
alike_form f s _ at end h = h

alike_function : (f : Found) (s : Scoping) (kind : FunctionKind) (at end length : ℕ) (parameters : List Declared)
    → Alike f s
    → Alike (in_function at end kind length f)
    (of_function (scopes_of scope.Function kind at end parameters s) s.functions)
alike_function f s kind at end length parameters h = record {
  same = λ binds around next parent number.
      let this = scopes_of scope.Function kind at end parameters s
      (Some (record { function = parent; scope = around })) in
      ap (λ xs. of_scopes this ∷ xs) (h.same this.binds 0 1 number (suc number));
}

-- ---- all trees

abbrev pub AlikeTree : Tree → Type 0
AlikeTree tree = Alike (found_in tree) (scoping_of tree)

abbrev Proved : Type 0
Proved = (tree : Tree) × AlikeTree tree

abbrev trees : List Proved → List Tree
trees = map (λ e. e.0)

abbrev mapped : {A : Type 0} → (Tree → A) → Tree-F Proved → Tree-F A
mapped {A} f y = map-Tree Tree A f (map-Tree Proved Tree (λ e. e.0) y)

alike_all : (ts : List Proved) → Alike (in_all (map found_in (trees ts))) (all_of (map scoping_of (trees ts)))
alike_all [] = alike_nothing
alike_all (e ∷ more) = alike_both _ _ _ _ e.1 (alike_all more)

children_twice : {A : Type 0} (f : Tree → A) (y : Tree-F Proved)
    → (node (mapped f y)).children ≡ map f (trees (node y).children)
children_twice f y = children_map f (map-Tree Proved Tree (λ e. e.0) y) ∙ ap (map f) (children_map (λ e. e.0) y)

alike_listed : (found : List Found) (scopings : List Scoping) (y : Tree-F Proved)
    → found ≡ map found_in (trees (node y).children) → scopings ≡ map scoping_of (trees (node y).children)
    → Alike (in_all found) (all_of scopings)
alike_listed found scopings y h i = rw (h, i) (alike_all (node y).children)

alike_children : (y : Tree-F Proved)
    → Alike (in_all (node (mapped found_in y)).children) (all_of (node (mapped scoping_of y)).children)
alike_children y = alike_listed _ _ y (children_twice found_in y) (children_twice scoping_of y)

alike_layer : (y : Tree-F Proved) → Alike (in_layer (mapped found_in y)) (scoping_layer (mapped scoping_of y))
alike_layer (Tree-F.Function at end form kind parameters rest body) =
    alike_form _ _ form at end
    (alike_function _ _ kind at end (length parameters) (parameters_of (parameters ++ rest_bound rest)) body.1)
alike_layer (Tree-F.Bind at word name value) =
    alike_bound _ _ word name (alike_children (Tree-F.Bind at word name value))
alike_layer (Tree-F.Block at items end) = alike_in _ _ scope.Block at end [] (alike_all items)
alike_layer (Tree-F.Switch at value brace clauses end) =
    alike_both _ _ _ _ value.1 (alike_in _ _ scope.Block brace end [] (alike_all clauses))
alike_layer (Tree-F.Catch at bound brace items end) = alike_in _ _ scope.Catch at end _ (alike_all items)
alike_layer (Tree-F.ForDeclared at word bound iteration over body end) =
    alike_for _ _ at end (alike_bound _ _ word bound.name (alike_both _ _ _ _ over.1 (alike_last _ _ body.1)))
alike_layer (Tree-F.ForBinds at word binds test update body end) =
    alike_for _ _ at end (alike_children (Tree-F.ForBinds at word binds test update body end))
alike_layer (Tree-F.This at) = record { same = λ binds around next parent number. refl }
alike_layer (Tree-F.NewTarget at) = record { same = λ binds around next parent number. refl }
alike_layer (Tree-F.Identifier at name) = record { same = λ binds around next parent number. refl }
alike_layer (Tree-F.Shorthand at name) = record { same = λ binds around next parent number. refl }
alike_layer y = alike_children y

alike_roll : (x : Tree-F Tree)
    → Alike (in_layer (map-Tree Tree Found found_in x)) (scoping_layer (map-Tree Tree Scoping scoping_of x))
    → AlikeTree (roll-Tree x)
unfolding found_in scoping_of
alike_roll x h =
    subst (λ s. Alike (found_in (roll-Tree x)) s) (sym (fold-roll-Tree Scoping scoping_layer x))
    (subst (λ f. Alike f (scoping_layer (map-Tree Tree Scoping scoping_of x)))
    (sym (fold-roll-Tree Found in_layer x)) h)

pub alike : (tree : Tree) → AlikeTree tree
alike =
    ind-Tree AlikeTree (λ x y is. subst (λ z. AlikeTree (roll-Tree z)) is
    (alike_roll (map-Tree Proved Tree (λ e. e.0) y) (alike_layer y)))

of_tree : (source : Text) (tree : Tree)
    → map of_info (functions_of source tree) ≡ map of_scopes (function_scopes_of source tree)
unfolding functions_of function_scopes_of
of_tree source tree = ap (λ xs. record { parent = None; binds = false } ∷ xs) ((alike tree).same false 0 1 0 1)

of_reading : (source : Text) (r : Reading Tree)
    → map of_info (functions_by source r) ≡ map of_scopes (function_scopes_by source r)
of_reading source (Got tree ts) = of_tree source tree
of_reading source (Stuck cause ts) = refl
of_reading source Deeper = refl

pub stand_alike : (source : Text) → map of_info (functions source) ≡ map of_scopes (function_scopes source)
unfolding functions function_scopes
stand_alike source = of_reading source (reads n.Script (terminals source))

pub same_count : (source : Text) → length (functions source) ≡ length (function_scopes source)
same_count source = as_long (functions source) (function_scopes source) (stand_alike source)

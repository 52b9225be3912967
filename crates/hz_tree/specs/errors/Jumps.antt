-- Labels, and where jumps lead (ECMA-262, 8.3).
use Rattle.std.specs.Prelude.{ℕ, Bool, true, false, not, ◌&&◌, ◌||◌, if◌then◌else◌, List, [], ◌∷◌, ◌++◌, map}
use Rattle.std.specs.Prelude.{Option, Some, None}
use Rattle.std.specs.List.{list_any}
use Rattle.std.specs.Str.{bytes_eq}
use Rattle.hz_tree.specs.declared.early.EarlyKind.{EarlyKind}
use Rattle.hz_tree.specs.declared.early.EarlyKind.TheVariants as early
use Rattle.hz_tree.specs.declared.signal.Jump.{Jump}
use Rattle.hz_tree.specs.declared.signal.Jump.TheVariants as jump
use Rattle.hz_tree.specs.declared.tree.Bound.{Bound}
use Rattle.hz_tree.specs.declared.tree.Tree.{Tree, fold-Tree}
use Rattle.hz_tree.specs.declared.tree.Tree.TheOpen.{Tree-F}
use Rattle.hz_tree.specs.tokens.Text.{Text}
use Rattle.hz_tree.specs.trees.Places.{node}
use Rattle.hz_tree.specs.errors.Scopes.{EarlyError}

-- a break or continue that does not yet lead anywhere
pub record Leaving : Type 0 where
  pub jump : Jump
  pub label : Option Text
  pub at : ℕ

-- a label, and its place
pub record Labelled : Type 0 where
  pub name : Text
  pub at : ℕ

pub record Jumping : Type 0 where
  pub leaving : List Leaving
  pub labels : List Labelled  -- those set in the tree, outside of functions within
  pub loops : Bool  -- it is a loop, with labels before it or without
  pub errors : List EarlyError

abbrev pub still : Jumping
still = record { leaving = []; labels = []; loops = false; errors = [] }

abbrev pub beside : Jumping → Jumping → Jumping
beside a b = record {
  leaving = a.leaving ++ b.leaving;
  labels = a.labels ++ b.labels;
  loops = false;
  errors = a.errors ++ b.errors;
}

abbrev pub all_beside : List Jumping → Jumping
all_beside [] = still
all_beside (first ∷ more) = beside first (all_beside more)

-- ---- where jumps lead

abbrev pub is_break : Jump → Bool
is_break jump.Break = true
is_break jump.Continue = false

abbrev pub has_no_label : Leaving → Bool
has_no_label l = elim l.label [ None ↦ true | Some name ↦ false ]

abbrev pub has_label : Text → Leaving → Bool
has_label name l = elim l.label [ None ↦ false | Some other ↦ bytes_eq other name ]

-- those that the test does not hold of
abbrev pub without : (Leaving → Bool) → List Leaving → List Leaving
without test [] = []
without test (l ∷ more) = if test l then without test more else l ∷ without test more

abbrev pub in_loop : Jumping → Jumping
in_loop within = record within { leaving = without has_no_label within.leaving; loops = true }

abbrev pub in_switch : Jumping → Jumping
in_switch within = record within { leaving = without (λ l. is_break l.jump && has_no_label l) within.leaving }

-- a label leads a `break`, and on a loop a `continue` too
abbrev pub leads : Text → (loops : Bool) → Leaving → Bool
leads name loops l = has_label name l && (is_break l.jump || loops)

abbrev pub duplicates : Text → List Labelled → List EarlyError
duplicates name [] = []
duplicates name (l ∷ more) =
    if bytes_eq l.name name then (early.DuplicateLabel, l.at) ∷ duplicates name more else duplicates name more

-- 8.3.1: no statement of a label stands in another one of it
abbrev pub in_label : Text → (at : ℕ) → Jumping → Jumping
in_label name at within = record {
  leaving = without (leads name within.loops) within.leaving;
  labels = record { name = name; at = at } ∷ within.labels;
  loops = within.loops;
  errors = within.errors ++ duplicates name within.labels;
}

-- 8.3.2 and 8.3.3: at the end of a function each jump leads somewhere
abbrev pub bad_jump : Jump → EarlyKind
bad_jump jump.Break = early.BadBreak
bad_jump jump.Continue = early.BadContinue

abbrev pub leaving_errors : List Leaving → List EarlyError
leaving_errors leaving = map (λ l. (bad_jump l.jump, l.at)) leaving

abbrev pub in_whole : Jumping → Jumping
in_whole within = record still { errors = within.errors ++ leaving_errors within.leaving }

-- ---- trees

abbrev pub label_name : Option Bound → Option Text
label_name None = None
label_name (Some bound) = Some bound.name

abbrev pub one_jump : Jump → Option Bound → (at : ℕ) → Jumping
one_jump jump label at = record still { leaving = record { jump = jump; label = label_name label; at = at } ∷ [] }

abbrev pub jumping_layer : Tree-F Jumping → Jumping
jumping_layer (Tree-F.Script at items) = in_whole (all_beside items)
jumping_layer (Tree-F.Function at end form kind parameters rest body) = in_whole body
jumping_layer (Tree-F.Continue at label) = one_jump jump.Continue label at
jumping_layer (Tree-F.Break at label) = one_jump jump.Break label at
jumping_layer (Tree-F.DoWhile at body test) = in_loop (beside body test)
jumping_layer (Tree-F.While at test body) = in_loop (beside test body)
jumping_layer (Tree-F.ForDeclared at word bound iteration over body end) = in_loop (beside over body)
jumping_layer (Tree-F.ForBinds at word binds test update body end) =
    in_loop (all_beside (node (Tree-F.ForBinds at word binds test update body end)).children)
jumping_layer (Tree-F.ForLeft at target iteration over body) = in_loop (beside target (beside over body))
jumping_layer (Tree-F.ForExpr at first test update body) =
    in_loop (all_beside (node (Tree-F.ForExpr at first test update body)).children)
jumping_layer (Tree-F.Switch at value brace clauses end) = beside value (in_switch (all_beside clauses))
jumping_layer (Tree-F.Label at name body) = in_label name at body
jumping_layer layer = all_beside (node layer).children

unfoldable pub jumping_of : Tree → Jumping
jumping_of = fold-Tree Jumping jumping_layer

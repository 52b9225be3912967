-- How deep a tree nests, and how many parameters and arguments stand in it.
use Rattle.std.specs.Prelude.{ℕ, zero, suc, min, List, [], ◌∷◌, ◌++◌, map, drop, Option, Some, None}
use Rattle.hz_tree.specs.declared.limit.LimitKind.{LimitKind}
use Rattle.hz_tree.specs.declared.limit.LimitKind.TheVariants as limit
use Rattle.hz_tree.specs.declared.limit.TheConstants.{MAX_DEPTH, MAX_LISTED}
use Rattle.hz_tree.specs.declared.tree.Bound.{Bound}
use Rattle.hz_tree.specs.declared.tree.FunctionForm.{FunctionForm}
use Rattle.hz_tree.specs.declared.tree.FunctionForm.TheVariants as form
use Rattle.hz_tree.specs.declared.tree.Rest.{Rest}
use Rattle.hz_tree.specs.declared.tree.Tree.{Tree, fold-Tree}
use Rattle.hz_tree.specs.declared.tree.Tree.TheOpen.{Tree-F}
use Rattle.hz_tree.specs.trees.Places.{node, start}

-- a limit that is passed, and where
abbrev pub LimitError : Type 0
LimitError = LimitKind × ℕ

-- ---- levels: the least place of a node on each, the outermost first

abbrev pub least_each : List ℕ → List ℕ → List ℕ
least_each [] ys = ys
least_each (x ∷ xs) [] = x ∷ xs
least_each (x ∷ xs) (y ∷ ys) = min x y ∷ least_each xs ys

pub record Depths : Type 0 where
  pub start : ℕ
  pub levels : List ℕ
  pub errors : List LimitError

abbrev pub all_levels : List Depths → List ℕ
all_levels [] = []
all_levels (first ∷ more) = least_each first.levels (all_levels more)

abbrev pub all_errors : List Depths → List LimitError
all_errors [] = []
all_errors (first ∷ more) = first.errors ++ all_errors more

-- what is no statement and no expression, and has no level of its own
abbrev pub inner : ℕ → List Depths → Depths
inner at parts = record { start = at; levels = all_levels parts; errors = all_errors parts }

-- a statement or an expression
abbrev pub level : ℕ → List Depths → Depths
level at parts = record { start = at; levels = at ∷ all_levels parts; errors = all_errors parts }

-- ---- parameters and arguments

-- the most parameters of a function, and arguments of a call
abbrev pub max_listed : ℕ
max_listed = MAX_LISTED

-- the first one that is too many
abbrev pub first_error : LimitKind → List ℕ → List LimitError
first_error kind [] = []
first_error kind (at ∷ more) = (kind, at) ∷ []

abbrev pub past : LimitKind → List ℕ → List LimitError
past kind places = first_error kind (drop max_listed places)

abbrev pub rest_place : Option Rest → List ℕ
rest_place None = []
rest_place (Some rest) = rest.at ∷ []

abbrev pub with_parameters : List Bound → Option Rest → Depths → Depths
with_parameters parameters rest d =
    record d { errors = past limit.Parameters (map (λ b. b.at) parameters ++ rest_place rest) ++ d.errors }

-- ---- trees

-- the function of a method is none by itself
abbrev pub of_form : FunctionForm → ℕ → List Depths → Depths
of_form form.Method at parts = inner at parts
of_form _ at parts = level at parts

abbrev pub depths_layer : Tree-F Depths → Depths
depths_layer (Tree-F.Script at items) = inner at items
depths_layer (Tree-F.Function at end form kind parameters rest body) =
    with_parameters parameters rest (of_form form at (body ∷ []))
depths_layer (Tree-F.Inner at number form) = inner at []
depths_layer (Tree-F.Body at items) = inner at items
depths_layer (Tree-F.Bind at word name value) = inner at (node (Tree-F.Bind at word name value)).children
depths_layer (Tree-F.Case at value items) = inner at (value ∷ items)
depths_layer (Tree-F.Default at items) = inner at items
depths_layer (Tree-F.Catch at bound brace items end) = inner at (level brace items ∷ [])
depths_layer (Tree-F.Dot at word) = inner at []
depths_layer (Tree-F.Index at key) = inner at (key ∷ [])
depths_layer (Tree-F.Args at values) =
    let within = inner at values in
    record within { errors = past limit.Arguments (map (λ d. d.start) values) ++ within.errors }
depths_layer (Tree-F.Optional at tail) = inner at (tail ∷ [])
depths_layer (Tree-F.Spread at value) = inner at (value ∷ [])
depths_layer (Tree-F.Hole at) = inner at []
depths_layer (Tree-F.Shorthand at name) = inner at []
depths_layer (Tree-F.Property at key value) = inner at (key ∷ value ∷ [])
depths_layer (Tree-F.Method at key function) = inner at (key ∷ function ∷ [])
depths_layer (Tree-F.Getter at key function) = inner at (key ∷ function ∷ [])
depths_layer (Tree-F.Setter at key function) = inner at (key ∷ function ∷ [])
depths_layer (Tree-F.WordKey at word) = inner at []
depths_layer (Tree-F.TextKey at written octal) = inner at []
depths_layer (Tree-F.NumberKey at value) = inner at []
depths_layer (Tree-F.OctalKey at) = inner at []
depths_layer (Tree-F.ComputedKey at key) = inner at (key ∷ [])
depths_layer layer = level (start (λ d. d.start) layer) (node layer).children

unfoldable pub depths_of : Tree → Depths
depths_of = fold-Tree Depths depths_layer

-- the most levels
abbrev pub max_depth : ℕ
max_depth = MAX_DEPTH

abbrev pub deeper : List ℕ → List LimitError
deeper levels = map (λ at. (limit.Nesting, at)) (drop max_depth levels)

abbrev pub limit_errors : Tree → List LimitError
limit_errors script = let d = depths_of script in deeper d.levels ++ d.errors

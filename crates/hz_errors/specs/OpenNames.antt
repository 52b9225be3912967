-- The labels that are open in a function, as the program keeps them.
use Rattle.std.specs.Prelude.{◌≡◌, ℕ, ◌≤◌, Bool, List, [], ◌∷◌, ◌++◌, length, map, take, drop, reverse}
use Rattle.std.specs.Prelude.{Option, Some, None}
use Rattle.hz_tree.specs.tokens.Text.{Text}
use Rattle.hz_errors.specs.declared.open_labels.Label.{Label}
use Rattle.hz_errors.specs.Labels.{OpenLabel, labelled, loop_names}

-- as a function's `OpenBody` has them
pub record OpenNames : Type 0 where
  pub fresh : List Text
  pub labels : List OpenLabel

abbrev pub no_names : OpenNames
no_names = record { fresh = []; labels = [] }

-- a function without labels keeps none
abbrev pub names_in : Option OpenNames → OpenNames
names_in None = no_names
names_in (Some n) = n

abbrev pub settled_names : (on_loop : Bool) → OpenNames → OpenNames
settled_names on_loop n = record { fresh = []; labels = labelled on_loop n.fresh ++ n.labels }

abbrev pub without_name : OpenNames → OpenNames
without_name n = elim n.fresh [
  | [] ↦ record n { labels = drop 1 n.labels }
  | name ∷ outer ↦ record n { fresh = outer }
]

-- ---- what is stored: the outermost label first, and how many of the labels are not fresh

abbrev pub text_of : Label → Text
text_of label = label.name.now

abbrev pub shown : Label → OpenLabel
shown label = record { name = label.name.now; on_loop = label.on_loop }

abbrev pub fresh_of : ℕ → List Label → List Text
fresh_of settled labels = reverse (map text_of (drop settled labels))

abbrev pub labels_of : ℕ → List Label → List OpenLabel
labels_of settled labels = reverse (map shown (take settled labels))

-- the names of all labels, and of those on loops, can be looked up
pub record IsNamed (labels : List Label) (settled : ℕ) (names loops : List Text) : Type 0 where
  pub within : settled ≤ length labels
  pub of_all : names ≡ map text_of labels
  pub of_loops : reverse loops ≡ loop_names (labels_of settled labels)

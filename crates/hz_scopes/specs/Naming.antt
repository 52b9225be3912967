-- The names that go to the table where a scope or a function ends.
use Rattle.std.specs.Prelude.{Bool, true, false, not, ◌&&◌, List, [], ◌∷◌, ◌++◌, map, codes, Some, None}
use Rattle.std.specs.Str.{bytes_eq}
use Rattle.hz_index.specs.Table.{Table}
use Rattle.hz_tree.specs.errors.Scopes.{occurs}
use Rattle.hz_tree.specs.tokens.Text.{Text}
use Rattle.hz_scopes.specs.Links.{without}
use Rattle.hz_tree.specs.trees.FunctionScopes.{ScopeName, Declared, Used, declares_name, this_name, target_name}

abbrev pub arguments_name : Text
arguments_name = codes "arguments"

abbrev pub declared_names : List Declared → List ScopeName
declared_names declared = map (λ d. record { name = d.name; binding = Some d.binding }) declared

abbrev pub used_names : List Text → List ScopeName
used_names names = map (λ name. record { name = name; binding = None }) names

abbrev pub with_names : List ScopeName → Table → Table
with_names names t = record t { pending = t.pending ++ names }

-- A function that binds `this` and `new.target`, or `arguments`, does not list these where they are used.
abbrev pub is_shown : (binds arguments : Bool) → Text → Bool
is_shown binds arguments name =
    not (binds && occurs name (this_name ∷ target_name ∷ [])) && not (arguments && bytes_eq arguments_name name)

abbrev pub shows : (binds arguments : Bool) → List Declared → Text → Bool
shows binds arguments declared name = not (declares_name name declared) && is_shown binds arguments name

-- what is used of other names, in a function that binds these
abbrev pub without_bound : (binds : Bool) → List Used → List Used
without_bound false used = used
without_bound true used = without arguments_name (without target_name (without this_name used))

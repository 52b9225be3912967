-- The list of functions as it is built from the events of a source.
use Rattle.std.specs.Prelude.{ℕ, zero, suc, ◌+◌, min, List, [], ◌∷◌, ◌++◌, length, drop, Option, Some, None}
use Rattle.hz_tree.specs.declared.index.FunctionInfo.{FunctionInfo}
use Rattle.hz_tree.specs.declared.signal.Role.TheVariants as role
use Rattle.hz_tree.specs.declared.signal.Signal.TheVariants as tell
use Rattle.hz_tree.specs.declared.tree.FunctionKind.{FunctionKind}
use Rattle.hz_tree.specs.declared.tree.FunctionKind.TheVariants as kind
use Rattle.hz_tree.specs.tokens.Text.{Text}
use Rattle.hz_tree.specs.grammar.Signals.{Event, Placed, Named}

pub record Draft : Type 0 where
  pub functions : List FunctionInfo
  pub opened : List ℕ  -- the numbers of the functions that have not ended, the innermost first

abbrev pub innermost : List ℕ → Option ℕ
innermost [] = None
innermost (k ∷ outer) = Some k

abbrev pub change : ℕ → (FunctionInfo → FunctionInfo) → List FunctionInfo → List FunctionInfo
change k f [] = []
change zero f (x ∷ xs) = f x ∷ xs
change (suc k) f (x ∷ xs) = x ∷ change k f xs

abbrev pub change_innermost : List ℕ → (FunctionInfo → FunctionInfo) → List FunctionInfo → List FunctionInfo
change_innermost [] f xs = xs
change_innermost (k ∷ outer) f xs = change k f xs

abbrev pub counted : FunctionInfo → FunctionInfo
counted x = record x { length = min (x.length + 1) 255 }

abbrev pub ended : ℕ → FunctionInfo → FunctionInfo
ended end x = record x { end = end }

-- A function begins. Until it ends, its end is given as its start.
abbrev pub opens : FunctionKind → (at : ℕ) → Draft → Draft
opens kind at d =
    let new : FunctionInfo = record { start = at; end = at; kind = kind; length = 0; parent = innermost d.opened } in
    record { functions = d.functions ++ new ∷ []; opened = length d.functions ∷ d.opened }

-- the innermost function has one more parameter
abbrev pub counts : Draft → Draft
counts d = record { functions = change_innermost d.opened counted d.functions; opened = d.opened }

-- the innermost function ends
abbrev pub closes : (end : ℕ) → Draft → Draft
closes end d = record { functions = change_innermost d.opened (ended end) d.functions; opened = drop 1 d.opened }

abbrev pub happens : Draft → Event → Draft
happens d (Placed (tell.Open node kind) at) = opens kind at d
happens d (Named (tell.Declare role.Parameter) at name) = counts d
happens d (Placed tell.Close end) = closes end d
happens d _ = d

abbrev pub built : Draft → List Event → Draft
built d [] = d
built d (e ∷ more) = built (happens d e) more

-- the script alone
abbrev pub begun : Text → Draft
begun source =
    record {
      functions = record { start = 0; end = length source; kind = kind.Script; length = 0; parent = None } ∷ [];
      opened = 0 ∷ [];
    }

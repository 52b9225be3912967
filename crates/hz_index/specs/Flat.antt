-- A table of scopes as it is stored: one list of names, two of scopes and one of functions, with parts of the first
-- two by numbers.
use Rattle.std.specs.Prelude.{ℕ, ◌≤◌, ◌==◌, if◌then◌else◌, List, length, map, drop, slice_get, slice_set, slice_range}
use Rattle.std.specs.Prelude.{Option, Some, None}
use Rattle.std.specs.List.{All}
use Rattle.hz_tree.specs.declared.scope.ScopeAt.{ScopeAt}
use Rattle.hz_tree.specs.trees.FunctionScopes.{ScopeName, Scope, FunctionScopes}
use Rattle.hz_index.specs.Table.{Table}
use Rattle.hz_index.specs.declared.flat.Part.{Part}
use Rattle.hz_index.specs.declared.flat.FlatScope.{FlatScope}
use Rattle.hz_index.specs.declared.flat.FlatFunction.{FlatFunction}

-- ---- what is stored, as it is shown

abbrev pub part_of : {X : Type 0} → Part → List X → List X
part_of part xs = slice_range xs part.first part.past

-- the greatest number of 32 bits stands for no parent
abbrev pub parent_of : ℕ → Option ℕ
parent_of number = if number == 4294967295 then None else Some number

-- and for no function round one
abbrev pub around_of : ScopeAt → Option ScopeAt
around_of at = if at.function == 4294967295 then None else Some at

abbrev pub shown_scope : List ScopeName → FlatScope → Scope
shown_scope names s = record {
  kind = s.kind;
  start = s.start;
  end = s.end;
  parent = parent_of s.parent;
  names = part_of s.names names;
}

abbrev pub shown_function : List ScopeName → List FlatScope → FlatFunction → FunctionScopes
shown_function names scopes f = record {
  around = around_of f.around;
  binds = f.binds;
  scopes = map (shown_scope names) (part_of f.scopes scopes);
  free = map (λ n. n.name) (part_of f.free names);
}

-- the names from the number `settled` on belong to no scope and no function yet
abbrev pub shown : List ScopeName → (settled : ℕ) → (scopes listed : List FlatScope) → List FlatFunction → Table
shown names settled scopes listed functions = record {
  functions = map (shown_function names scopes) functions;
  listed = map (shown_scope names) listed;
  pending = drop settled names;
}

-- ---- parts lie within the lists

pub record IsWithin (part : Part) (end : ℕ) : Type 0 where
  pub ordered : part.first ≤ part.past
  pub within : part.past ≤ end

abbrev pub HasNames : (settled : ℕ) → FlatScope → Type 0
HasNames settled s = IsWithin s.names settled

abbrev pub HasParts : (scopes settled : ℕ) → FlatFunction → Type 0
HasParts scopes settled f = IsWithin f.scopes scopes × IsWithin f.free settled

pub record IsFlat (names : List ScopeName) (settled : ℕ) (scopes listed : List FlatScope)
    (functions : List FlatFunction) : Type 0 where
  pub behind : settled ≤ length names
  pub few_scopes : length scopes ≤ 4294967295
  pub few_functions : length functions ≤ 4294967295
  pub of_scopes : All (HasNames settled) scopes
  pub of_listed : All (HasNames settled) listed
  pub of_functions : All (HasParts (length scopes) settled) functions

-- ---- changes of what is stored

-- the scope at this place of those that are listed ends, and has these names
abbrev pub with_names : (place end : ℕ) → Part → List FlatScope → List FlatScope
with_names place end names listed = elim (slice_get listed place) [
  | None ↦ listed
  | Some s ↦ slice_set listed place (record s { end = end; names = names })
]

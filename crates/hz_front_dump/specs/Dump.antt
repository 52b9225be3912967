-- What is known of a source, as it is printed.
use Rattle.std.specs.Prelude.{◌≡◌, ℕ, List, ◌++◌, Option, Some, None, IsSome, codes, decimal, slice_get}
use Rattle.std.specs.List.{flat_map, zip, enumerate_from}
use Rattle.hz_tree.specs.declared.index.FunctionInfo.{FunctionInfo}
use Rattle.hz_tree.specs.declared.place.Place.{Place}
use Rattle.hz_tree.specs.declared.place.Place.TheVariants as place
use Rattle.hz_tree.specs.declared.scope.BindingKind.{BindingKind}
use Rattle.hz_tree.specs.declared.scope.BindingKind.TheVariants as binding
use Rattle.hz_tree.specs.declared.scope.ScopeKind.{ScopeKind}
use Rattle.hz_tree.specs.declared.scope.ScopeKind.TheVariants as scope
use Rattle.hz_tree.specs.declared.tree.FunctionKind.{FunctionKind}
use Rattle.hz_tree.specs.declared.tree.FunctionKind.TheVariants as kind
use Rattle.hz_tree.specs.declared.refusal.Refusal.{Refusal}
use Rattle.hz_tree.specs.sources.Shown.{text_of_refusal}
use Rattle.hz_tree.specs.sources.Refusals.{functions, function_scopes}
use Rattle.hz_tree.specs.tokens.Text.{Text}
use Rattle.hz_tree.specs.trees.FunctionScopes.{ScopeName, Scope, FunctionScopes}
use Rattle.hz_tree.specs.trees.FunctionTrees.{own_tokens}
use Rattle.hz_tree.specs.trees.Layout.{layout}

-- ---- words

abbrev pub kind_word : FunctionKind → Text
kind_word kind.Script = codes "script"
kind_word kind.Function = codes "function"
kind_word kind.Arrow = codes "arrow"
kind_word kind.Method = codes "method"
kind_word kind.Generator = codes "generator"

abbrev pub scope_word : ScopeKind → Text
scope_word scope.Script = codes "script"
scope_word scope.Function = codes "function"
scope_word scope.Own = codes "own"
scope_word scope.Block = codes "block"
scope_word scope.Catch = codes "catch"

abbrev pub binding_word : Option BindingKind → Text
binding_word None = codes "-"
binding_word (Some binding.Var) = codes "var"
binding_word (Some binding.Let) = codes "let"
binding_word (Some binding.Const) = codes "const"
binding_word (Some binding.BlockFunction) = codes "blockfunction"
binding_word (Some binding.Parameter) = codes "parameter"
binding_word (Some binding.Caught) = codes "caught"
binding_word (Some binding.Own) = codes "own"
binding_word (Some binding.Activation) = codes "activation"

abbrev pub parent_word : Option ℕ → Text
parent_word None = codes "-"
parent_word (Some parent) = decimal parent

abbrev pub place_word : Option Place → Text
place_word None = codes "-"
place_word (Some place.Register) = codes "register"
place_word (Some (place.Slot hops slot)) = codes "slot " ++ (decimal hops ++ (codes " " ++ decimal slot))
place_word (Some place.Global) = codes "global"

-- ---- lines

abbrev pub free_line : Text → Text
free_line name = codes "free " ++ (name ++ codes "\n")

-- the name with the number n of a scope, whose names have these places
abbrev pub name_line : (places : ℕ → Option Place) → ℕ × ScopeName → Text
name_line places (n, name) = codes "name " ++ (name.name ++ (codes " " ++ (binding_word name.binding ++ (codes " "
    ++ (place_word (places n) ++ codes "\n")))))

abbrev pub scope_line : ℕ → Scope → Text
scope_line i s = codes "scope " ++ (decimal i ++ (codes " " ++ (scope_word s.kind ++ (codes " " ++ (decimal s.start
    ++ (codes " " ++ (decimal s.end ++ (codes " " ++ (parent_word s.parent ++ codes "\n")))))))))

abbrev pub info_words : FunctionInfo → Text
info_words f = decimal f.start ++ (codes " " ++ (decimal f.end ++ (codes " " ++ (kind_word f.kind ++ (codes " "
    ++ (decimal f.length ++ (codes " " ++ parent_word f.parent)))))))

abbrev pub function_line : ℕ → FunctionInfo → (own : ℕ) → Text
function_line k f own = codes "function " ++ (decimal k ++ (codes " " ++ (info_words f ++ (codes " "
    ++ (decimal own ++ codes "\n")))))

-- ---- all lines

-- a scope of a function, whose names have these places
abbrev pub scope_lines : (places : ℕ → ℕ → Option Place) → ℕ × Scope → Text
scope_lines places (i, s) = scope_line i s ++ flat_map (name_line (places i)) (enumerate_from 0 s.names)

-- a function with so many tokens of its own
abbrev pub known_lines : (places : ℕ → ℕ → Option Place) → (own : ℕ) → ℕ × (FunctionInfo × FunctionScopes) → Text
known_lines places own (k, (f, s)) = function_line k f own
    ++ (flat_map free_line s.free ++ flat_map (scope_lines places) (enumerate_from 0 s.scopes))

abbrev pub function_lines : Text → ℕ × (FunctionInfo × FunctionScopes) → Text
function_lines source (k, (f, s)) =
    known_lines (layout (function_scopes source) k) (own_tokens (functions source) source k f) (k, (f, s))

-- ---- places

-- each name of a scope has a place
abbrev pub HaveNames : (places : ℕ → Option Place) → List ScopeName → Type 0
HaveNames places names = (n : ℕ) (x : ScopeName) → slice_get names n ≡ Some x → IsSome (places n)

abbrev pub HaveScopes : (places : ℕ → ℕ → Option Place) → List Scope → Type 0
HaveScopes places scopes = (i : ℕ) (s : Scope) → slice_get scopes i ≡ Some s → HaveNames (places i) s.names

-- the functions of a source that is not refused, with their free names and scopes
unfoldable pub dump_of : Text → Text
dump_of source = flat_map (function_lines source) (enumerate_from 0 (zip (functions source) (function_scopes source)))

abbrev pub refused_line : Refusal → Text
refused_line why = codes "refused: " ++ (text_of_refusal why ++ codes "\n")

-- Names and scopes that end do to the innermost function what the tree means of them.
use Rattle.std.proofs.Common.{◌≡◌, ℕ, List, [], ◌∷◌, ◌++◌, length, map, set, refl, sym, ap, ◌∙◌, append-nil}
use Rattle.std.proofs.Common.{Some}
use Rattle.hz_index.specs.Table.{unended}
use Rattle.hz_tree.specs.declared.scope.BindingKind.{BindingKind}
use Rattle.hz_tree.specs.declared.scope.BindingKind.TheVariants as binding
use Rattle.hz_tree.specs.declared.scope.ScopeKind.{ScopeKind}
use Rattle.hz_tree.specs.tokens.Text.{Text}
use Rattle.hz_tree.specs.trees.FunctionScopes.{Scope, FunctionScopes, FunctionsIn, Declared, Used, Scoping}
use Rattle.hz_tree.specs.trees.FunctionScopes.{each_declared, each_name}
use Rattle.hz_tree.specs.trees.FunctionScopes.{nothing, in_scope, own_scope, outside, lexical_of, at_top}
use Rattle.hz_tree.specs.trees.FunctionScopes.{using, scope_names}
use Rattle.hz_scopes.specs.State.{OpenScope, Body, innermost, declare, declaring, use_name, pass_on}
use Rattle.hz_scopes.specs.State.{open_scope, end_scope}
use Rattle.hz_scopes.proofs.Acts.{vars, lexicals, declaring_all, acted_in, acted_body, acted_functions, set_listed}
use Rattle.hz_scopes.proofs.Acts.{one_longer}

-- ---- names

abbrev pub declares_one : Declared → Scoping
declares_one d = record nothing { declared = d ∷ [] }

-- no more is listed or used
quiet : (body : Body) → body ≡ record body { listed = body.listed ++ [] }
quiet body = ap (λ l. record body { listed = l }) (sym (append-nil body.listed))

quiet_top : (body : Body) (top : OpenScope)
    → record body { top = top; blocks = [] }
    ≡ record body { listed = body.listed ++ []; top = record top { used = top.used ++ [] }; blocks = [] }
quiet_top body top = simp append-nil

quiet_block : (body : Body) (top s : OpenScope) (outer : List OpenScope)
    → record body { top = top; blocks = s ∷ outer }
    ≡ record body { listed = body.listed ++ []; top = top; blocks = record s { used = s.used ++ [] } ∷ outer }
quiet_block body top s outer = simp append-nil

abbrev pub named : BindingKind → Text → Declared
named kind name = record { binding = kind; name = name }

declares_in : (kind : BindingKind) (name : Text) (blocks : List OpenScope) (body : Body)
    → declare (named kind name) (record body { blocks = blocks })
    ≡ acted_in (declares_one (named kind name)) blocks body
declares_in binding.Var name [] body = quiet_top body (declaring (named binding.Var name) body.top)
declares_in binding.Var name (s ∷ outer) body =
    quiet_block body (declaring (named binding.Var name) body.top) s outer
declares_in kind name [] body = quiet_top body (declaring (at_top (named kind name)) body.top)
declares_in kind name (s ∷ outer) body = quiet_block body body.top (declaring (named kind name) s) outer

pub declares : (d : Declared) (body : Body) → declare d body ≡ acted_body (declares_one d) body
declares d body = declares_in d.binding d.name body.blocks body

uses_in : (name : Text) (blocks : List OpenScope) (body : Body)
    → use_name name (record body { blocks = blocks }) ≡ acted_in (using name) blocks body
uses_in name [] body = quiet (use_name name (record body { blocks = [] }))
uses_in name (s ∷ outer) body = quiet (use_name name (record body { blocks = s ∷ outer }))

pub uses : (name : Text) (body : Body) → use_name name body ≡ acted_body (using name) body
uses name body = uses_in name body.blocks body

passes_in : (used : List Used) (functions : FunctionsIn) (blocks : List OpenScope) (body : Body)
    → pass_on used (record body { blocks = blocks })
    ≡ acted_in (record nothing { used = used; functions = functions }) blocks body
passes_in used functions [] body = quiet (pass_on used (record body { blocks = [] }))
passes_in used functions (s ∷ outer) body = quiet (pass_on used (record body { blocks = s ∷ outer }))

pub passes : (used : List Used) (functions : FunctionsIn) (body : Body)
    → pass_on used body ≡ acted_body (record nothing { used = used; functions = functions }) body
passes used functions body = passes_in used functions body.blocks body

-- ---- scopes

-- a scope begins that declares these names itself
abbrev pub begun_with : List Declared → ScopeKind → (start : ℕ) → Body → Body
begun_with first kind start body = record body {
  listed = body.listed ++ unended kind start (Some (innermost body).number) ∷ [];
  blocks =
      record (open_scope (length body.listed) kind start (Some (innermost body).number)) { declared = first }
      ∷ body.blocks;
}

var_at_top : (kind : BindingKind) (name : Text) (ds : List Declared) → map at_top (vars ds) ≡ vars ds
    → map at_top (vars (named kind name ∷ ds)) ≡ vars (named kind name ∷ ds)
var_at_top binding.Var name ds h = ap (λ es. named binding.Var name ∷ es) h
var_at_top _ name ds h = h

vars_at_top : (ds : List Declared) → map at_top (vars ds) ≡ vars ds
vars_at_top [] = refl
vars_at_top (d ∷ ds) = var_at_top d.binding d.name ds (vars_at_top ds)

var_of_vars : (kind : BindingKind) (name : Text) (ds : List Declared) → vars (vars ds) ≡ vars ds
    → vars (vars (named kind name ∷ ds)) ≡ vars (named kind name ∷ ds)
var_of_vars binding.Var name ds h = ap (λ es. named binding.Var name ∷ es) h
var_of_vars _ name ds h = h

vars_of_vars : (ds : List Declared) → vars (vars ds) ≡ vars ds
vars_of_vars [] = refl
vars_of_vars (d ∷ ds) = var_of_vars d.binding d.name ds (vars_of_vars ds)

no_lexical_var : (kind : BindingKind) (name : Text) (ds : List Declared) → lexicals (vars ds) ≡ []
    → lexicals (vars (named kind name ∷ ds)) ≡ []
no_lexical_var binding.Var name ds h = h
no_lexical_var _ name ds h = h

no_lexical_vars : (ds : List Declared) → lexicals (vars ds) ≡ []
no_lexical_vars [] = refl
no_lexical_vars (d ∷ ds) = no_lexical_var d.binding d.name ds (no_lexical_vars ds)

module _ (kind : ScopeKind) (start end : ℕ) (first : List Declared) (x : Scoping) where
  abbrev passed : OpenScope → List Declared → OpenScope
  passed s ds = record s {
    declared = each_declared s.declared ds;
    used = s.used ++ outside (lexical_of first x) x.used;
  }

  abbrev scope_listed : Body → ℕ → Scope
  scope_listed body around = record {
    kind = kind;
    start = start;
    end = end;
    parent = Some around;
    names = scope_names body.binds (lexical_of first x) (each_name [] x.here);
  }

  listed_then : (around : ℕ) (body : Body) (top : OpenScope) (blocks : List OpenScope)
      → record body {
        listed = set ((body.listed ++ unended kind start (Some around) ∷ [])
            ++ x.scopes body.binds (length body.listed) (length (body.listed ++ unended kind start (Some around) ∷ [])))
            (length body.listed) (scope_listed body around);
        top = top;
        blocks = blocks;
      }
      ≡ record body {
        listed = body.listed ++ own_scope kind start end (lexical_of first x) x body.binds around (length body.listed);
        top = top;
        blocks = blocks;
      }
  listed_then around body top blocks =
      ap (λ l. record body { listed = l; top = top; blocks = blocks })
      (set_listed body.listed (unended kind start (Some around)) (scope_listed body around)
      (x.scopes body.binds (length body.listed)))

  scope_ends_in : (blocks : List OpenScope) (body : Body)
      → end_scope end (acted_body x (begun_with first kind start (record body { blocks = blocks })))
      ≡ acted_in (in_scope kind start end first x) blocks body
  scope_ends_in [] body =
      listed_then body.top.number body (passed body.top (vars x.declared)) []
      ∙ ap (λ ds. record body {
        listed =
            body.listed
            ++ own_scope kind start end (lexical_of first x) x body.binds body.top.number (length body.listed);
        top = passed body.top ds;
        blocks = [];
      }) (sym (vars_at_top x.declared))
  scope_ends_in (s ∷ outer) body =
      listed_then s.number body (declaring_all (vars x.declared) body.top) (passed s [] ∷ outer)
      ∙ ap (λ ds. record body {
        listed =
            body.listed
            ++ own_scope kind start end (lexical_of first x) x body.binds s.number (length body.listed);
        top = declaring_all ds body.top;
        blocks = passed s [] ∷ outer;
      }) (sym (vars_of_vars x.declared))
      ∙ ap (λ ds. record body {
        listed =
            body.listed
            ++ own_scope kind start end (lexical_of first x) x body.binds s.number (length body.listed);
        top = declaring_all (vars (vars x.declared)) body.top;
        blocks = passed s ds ∷ outer;
      }) (sym (no_lexical_vars x.declared))

  pub scope_ends : (body : Body)
      → end_scope end (acted_body x (begun_with first kind start body))
      ≡ acted_body (in_scope kind start end first x) body
  scope_ends body = scope_ends_in body.blocks body

  -- what stands in the scope stands in this one
  pub scope_functions : (body : Body) (fs : List FunctionScopes)
      → acted_functions x (begun_with first kind start body) fs
      ≡ acted_functions (in_scope kind start end first x) body fs
  scope_functions body fs =
      ap (λ next. fs ++ x.functions body.binds (length body.listed) next body.number (length fs))
      (one_longer body.listed (unended kind start (Some (innermost body).number)))

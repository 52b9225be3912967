-- A function that ends does what the tree means of it, by what its parameters and its body do.
use Rattle.std.proofs.Common.{◌≡◌, ℕ, suc, ◌+◌, true, false, List, [], ◌∷◌, ◌++◌, length, map, set, Option, Some, None}
use Rattle.std.proofs.Common.{refl, sym, ap, ◌∙◌, Bool, append-nil, arith}
use Rattle.std.proofs.lemmas.List.{map-append}
use Rattle.hz_index.specs.Table.{nothing_known}
use Rattle.hz_tree.specs.declared.scope.BindingKind.TheVariants as binding
use Rattle.hz_tree.specs.declared.scope.ScopeAt.{ScopeAt}
use Rattle.hz_tree.specs.declared.scope.ScopeKind.TheVariants as scope
use Rattle.hz_tree.specs.declared.tree.Bound.{Bound}
use Rattle.hz_tree.specs.declared.tree.FunctionForm.{FunctionForm}
use Rattle.hz_tree.specs.declared.tree.FunctionForm.TheVariants as form
use Rattle.hz_tree.specs.declared.tree.FunctionKind.{FunctionKind}
use Rattle.hz_tree.specs.trees.FunctionScopes.{FunctionScopes, Declared, Used, Scoping, each_declared, nothing, both}
use Rattle.hz_tree.specs.trees.FunctionScopes.{scopes_of, at_top, of_function, parameters_of, with_form}
use Rattle.hz_tree.specs.trees.FunctionScopes.{activation, binds_this, top_scope, free_names}
use Rattle.hz_scopes.specs.State.{Waiting, Known, enter, close, pass_on, end_named, of_body, declare}
use Rattle.hz_scopes.specs.State.{begin_scope, body_of, place_in}
use Rattle.hz_scopes.proofs.Acts.{acted_body, acted_functions, acted, acted_both, set_listed}
use Rattle.hz_scopes.proofs.ScopeEnds.{begun_with, named, declares_one, declares, passes, scope_ends, scope_functions}

parameters_at_top : (bounds : List Bound) → map at_top (parameters_of bounds) ≡ parameters_of bounds
parameters_at_top [] = refl
parameters_at_top (bound ∷ more) =
    ap (λ ds. named binding.Parameter bound.name ∷ ds) (parameters_at_top more)

-- these parameters, and what a body means
abbrev pub whole : List Bound → Scoping → Scoping
whole parameters body = both (record nothing { declared = parameters_of parameters }) body

module _ (kind : FunctionKind) (start end : ℕ) (parameters : List Bound) (body : Scoping) where
  abbrev scopes : Option ScopeAt → FunctionScopes
  scopes = scopes_of scope.Function kind start end (parameters_of parameters) body

  abbrev waits : ℕ → Bool → Waiting
  waits number named = record { number = number; start = start; kind = kind; named = named }

  -- what is known of the function where its scope declares these names
  abbrev scopes_with : Option ScopeAt → List Declared → FunctionScopes
  scopes_with around ds =
      let declared : List Declared = activation (binds_this kind) body.used ++ each_declared [] ds in
      record {
        around = around;
        binds = binds_this kind;
        scopes =
            top_scope scope.Function (binds_this kind) start end declared body.here
            ∷ body.scopes (binds_this kind) 0 1;
        free = free_names (binds_this kind) declared body.used;
      }

  body_ends : (number : ℕ) (named : Bool) (around : Option ScopeAt)
      → of_body end (acted_body (whole parameters body) (body_of scope.Function (waits number named) around))
      ≡ scopes around
  body_ends number named around =
      ap (scopes_with around)
      (map-append at_top (parameters_of parameters) body.declared
      ∙ ap (λ ds. ds ++ map at_top body.declared) (parameters_at_top parameters))

  abbrev free_in : FunctionScopes → List Used
  free_in f = map (λ name. record { name = name; inner = true }) f.free

  -- the functions in it, where it has the number `outer`
  abbrev within : (outer number : ℕ) → List FunctionScopes
  within outer number = body.functions (binds_this kind) 0 1 outer number

  abbrev meant : Scoping
  meant = of_function scopes body.functions

  -- the function that was the last to come is entered, and ends
  abbrev pub function_done : Bool → Known → Known
  function_done named k =
      close end (acted (whole parameters body)
      (enter (waits (length k.functions) named) (record k { functions = k.functions ++ nothing_known ∷ [] })))

  abbrev ended : Bool → Known → List FunctionScopes → Known
  ended named k fs = record { body = end_named named end (acted_body meant k.body); outer = k.outer; functions = fs }

  function_ends : (named : Bool) (k : Known)
      → function_done named k ≡ ended named k (acted_functions meant k.body k.functions)
  function_ends named k =
      let fs = k.functions in
      let around : Option ScopeAt = Some (place_in k.body) in
      let known : List FunctionScopes = fs ++ nothing_known ∷ [] in
      ap (λ f. record {
        body = end_named named end (pass_on (free_in f) k.body);
        outer = k.outer;
        functions = set (known ++ within (length fs) (length known + 0)) (length fs) f;
      }) (body_ends (length fs) named around)
      ∙ ap (λ b. record {
        body = end_named named end b;
        outer = k.outer;
        functions = set (known ++ within (length fs) (length known + 0)) (length fs) (scopes around);
      }) (passes (free_in (scopes None)) meant.functions k.body)
      ∙ ap (ended named k)
      (set_listed fs nothing_known (scopes around) (λ n. within (length fs) (n + 0))
      ∙ ap (λ n. fs ++ scopes around ∷ within (length fs) n) (omega arith))

  -- ---- with a name, and without

  abbrev means : FunctionForm → Scoping
  means form = with_form form start end meant

  pub nameless_ends : (k : Known) → function_done false k ≡ acted meant k
  nameless_ends k = function_ends false k

  pub declared_ends : (bound : Bound) (k : Known)
      → function_done false
      (record k { body = declare (named binding.BlockFunction bound.name) k.body })
      ≡ acted (means (form.Declaration bound)) k
  declared_ends bound k =
      let d : Declared = named binding.BlockFunction bound.name in
      nameless_ends (record k { body = declare d k.body })
      ∙ ap (λ b. acted meant (record k { body = b })) (declares d k.body)
      ∙ ap (λ fs. acted meant (record { body = acted_body (declares_one d) k.body; outer = k.outer; functions = fs }))
      (sym (append-nil k.functions))
      ∙ acted_both (declares_one d) meant k
      ∙ ap (λ n. record {
        body = acted_body (means (form.Declaration bound)) k.body;
        outer = k.outer;
        functions = k.functions ++ scopes (Some (place_in k.body)) ∷ within n (suc n);
      }) (omega arith)

  pub named_ends : (bound : Bound) (k : Known)
      → function_done true (record k {
        body = declare (named binding.Own bound.name) (begin_scope scope.Own start k.body);
      })
      ≡ acted (means (form.Expression (Some bound))) k
  named_ends bound k =
      let own : List Declared = named binding.Own bound.name ∷ [] in
      function_ends true (record k { body = begun_with own scope.Own start k.body })
      ∙ ap (λ b. record {
        body = b;
        outer = k.outer;
        functions = acted_functions meant (begun_with own scope.Own start k.body) k.functions;
      }) (scope_ends scope.Own start end own meant k.body)
      ∙ ap (λ fs. record {
        body = acted_body (means (form.Expression (Some bound))) k.body;
        outer = k.outer;
        functions = fs;
      })
      (scope_functions scope.Own start end own meant k.body k.functions)

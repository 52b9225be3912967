-- What events do to what is known of scopes, from what the tree means of which they are: names are declared and used in
-- the scopes that are open, and the scopes and functions in it come behind those that are known.
use Rattle.std.proofs.Common.{◌≡◌, ℕ, suc, List, [], ◌∷◌, ◌++◌, length, map, set, refl, sym, ap, ◌∙◌, arith}
use Rattle.std.proofs.Common.{append_assoc, append-nil}
use Rattle.std.proofs.Math.Seq.{set-append_seam}
use Rattle.std.proofs.lemmas.List.{map-append, length-append}
use Rattle.std.proofs.lemmas.List.Elements.{filter-append}
use Rattle.std.specs.List.{filter}
use Rattle.hz_tree.specs.errors.Declarations.{is_var}
use Rattle.hz_tree.specs.tokens.Text.{Text}
use Rattle.hz_tree.specs.trees.FunctionScopes.{FunctionScopes, Declared, Scoping, each_declared, each_name}
use Rattle.hz_tree.specs.trees.FunctionScopes.{with_declared, with_name}
use Rattle.hz_tree.specs.trees.FunctionScopes.{nothing, both, all_of, is_lexical, at_top}
use Rattle.hz_scopes.specs.State.{OpenScope, Body, Known, innermost}

-- ---- what is meant, done

abbrev pub vars : List Declared → List Declared
vars ds = filter (λ d. is_var d.binding) ds

abbrev pub lexicals : List Declared → List Declared
lexicals ds = filter is_lexical ds

abbrev pub declaring_all : List Declared → OpenScope → OpenScope
declaring_all ds s = record s { declared = each_declared s.declared ds }

abbrev pub acted_scope : List Declared → Scoping → OpenScope → OpenScope
acted_scope ds x s = record s {
  declared = each_declared s.declared ds;
  here = each_name s.here x.here;
  used = s.used ++ x.used;
}

-- in a function with these scopes open
abbrev pub acted_in : Scoping → List OpenScope → Body → Body
acted_in x [] body = record body {
  listed = body.listed ++ x.scopes body.binds body.top.number (length body.listed);
  top = acted_scope (map at_top x.declared) x body.top;
  blocks = [];
}
acted_in x (s ∷ outer) body = record body {
  listed = body.listed ++ x.scopes body.binds s.number (length body.listed);
  top = declaring_all (vars x.declared) body.top;
  blocks = acted_scope (lexicals x.declared) x s ∷ outer;
}

abbrev pub acted_body : Scoping → Body → Body
acted_body x body = acted_in x body.blocks body

-- behind these functions
abbrev pub acted_functions : Scoping → Body → List FunctionScopes → List FunctionScopes
acted_functions x body fs =
    fs ++ x.functions body.binds (innermost body).number (length body.listed) body.number (length fs)

abbrev pub acted : Scoping → Known → Known
acted x k = record {
  body = acted_body x k.body;
  outer = k.outer;
  functions = acted_functions x k.body k.functions;
}

-- ---- names one after the other

pub declared_append : (known xs ys : List Declared)
    → each_declared known (xs ++ ys) ≡ each_declared (each_declared known xs) ys
declared_append known [] ys = refl
declared_append known (x ∷ xs) ys = declared_append (with_declared known x) xs ys

pub name_append : (known xs ys : List Text) → each_name known (xs ++ ys) ≡ each_name (each_name known xs) ys
name_append known [] ys = refl
name_append known (x ∷ xs) ys = name_append (with_name known x) xs ys

-- ---- nothing, and one after the other

nothing_in : (blocks : List OpenScope) (body : Body) → acted_in nothing blocks body ≡ record body { blocks = blocks }
nothing_in [] body = simp append-nil
nothing_in (s ∷ outer) body = simp append-nil

pub acted_nothing : (k : Known) → acted nothing k ≡ k
acted_nothing k =
    ap (λ body. record { body = body; outer = k.outer; functions = k.functions ++ [] })
    (nothing_in k.body.blocks k.body)
    ∙ ap (λ fs. record { body = k.body; outer = k.outer; functions = fs }) (append-nil k.functions)

pub both_in : (x y : Scoping) (blocks : List OpenScope) (body : Body)
    → acted_body y (acted_in x blocks body) ≡ acted_in (both x y) blocks body
both_in x y [] body =
    simp (append_assoc, length-append, declared_append, name_append, map-append)
both_in x y (s ∷ outer) body =
    simp (append_assoc, length-append, declared_append, name_append, filter-append)

both_functions : (x y : Scoping) (blocks : List OpenScope) (body : Body) (fs : List FunctionScopes)
    → acted_functions y (acted_in x blocks body) (acted_functions x (record body { blocks = blocks }) fs)
    ≡ acted_functions (both x y) (record body { blocks = blocks }) fs
both_functions x y [] body fs = simp (append_assoc, length-append)
both_functions x y (s ∷ outer) body fs = simp (append_assoc, length-append)

pub acted_both : (x y : Scoping) (k : Known) → acted y (acted x k) ≡ acted (both x y) k
acted_both x y k =
    ap (λ body. record {
      body = body;
      outer = k.outer;
      functions = acted_functions y (acted_body x k.body) (acted_functions x k.body k.functions);
    }) (both_in x y k.body.blocks k.body)
    ∙ ap (λ fs. record { body = acted_body (both x y) k.body; outer = k.outer; functions = fs })
    (both_functions x y k.body.blocks k.body k.functions)

pub acted_append : (xs ys : List Scoping) (k : Known)
    → acted (all_of ys) (acted (all_of xs) k) ≡ acted (all_of (xs ++ ys)) k
acted_append [] ys k = ap (acted (all_of ys)) (acted_nothing k)
acted_append (x ∷ xs) ys k =
    ap (acted (all_of ys)) (sym (acted_both x (all_of xs) k)) ∙ acted_append xs ys (acted x k)
    ∙ acted_both x (all_of (xs ++ ys)) k

-- ---- what was listed gives way to what is known then

pub one_longer : {A : Type 0} (xs : List A) (x : A) → length (xs ++ x ∷ []) ≡ suc (length xs)
one_longer xs x = length-append xs (x ∷ []) ∙ omega arith

pub set_listed : {A : Type 0} (xs : List A) (x y : A) (more : ℕ → List A)
    → set ((xs ++ x ∷ []) ++ more (length (xs ++ x ∷ []))) (length xs) y ≡ xs ++ y ∷ more (suc (length xs))
set_listed xs x y more =
    ap (λ n. set ((xs ++ x ∷ []) ++ more n) (length xs) y) (one_longer xs x)
    ∙ ap (λ zs. set zs (length xs) y) (append_assoc xs (x ∷ []) (more (suc (length xs))))
    ∙ set-append_seam xs x (more (suc (length xs))) y

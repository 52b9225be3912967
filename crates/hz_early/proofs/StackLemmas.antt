-- What the stored scopes show, step by step.
use Rattle.std.proofs.Common.{◌≡◌, ◌≤◌, ◌<◌, ◌-◌, Some, get_or, reverse, ℕ, Bool, true, false, ◌||◌, cond, List, []}
use Rattle.std.proofs.Common.{◌∷◌, ◌++◌, length, take, drop, refl, sym, ap, ◌∙◌, arith}
use Rattle.std.proofs.lemmas.Option.{slice_get_within, slice_get-get_or}
use Rattle.std.specs.List.{slice_get}
use Rattle.std.proofs.lemmas.List.{get_or-reverse, length-reverse, take-append-le, drop-append-le, take-append-drop}
use Rattle.std.proofs.lemmas.List.{length-take-le}
use Rattle.std.proofs.lemmas.List.Folds.{list_any-append}
use Rattle.std.specs.List.{list_any}
use Rattle.std.specs.Str.{bytes_eq}
use Rattle.hz_tree.specs.declared.early.EarlyKind.TheVariants as early
use Rattle.hz_tree.specs.declared.scope.BindingKind.{BindingKind}
use Rattle.hz_tree.specs.declared.scope.BindingKind.TheVariants as binding
use Rattle.hz_tree.specs.tokens.Text.{Text}
use Rattle.hz_early.specs.declared.bindings.Bindings.{Bindings}
use Rattle.hz_early.specs.declared.bindings.Marks.{Marks}
use Rattle.hz_early.specs.declared.bindings.OpenScope.{OpenScope}
use Rattle.hz_tree.specs.errors.Scopes.{Scope, holds_vars, with_var, declared, occurs, scopes_of_var, error_if}
use Rattle.hz_tree.specs.errors.Scopes.{errors_of_name}
use Rattle.hz_early.specs.Stack.{marks_of, scope_of, names_outside, shown, IsWithin, AreNested, with_name}
use Rattle.hz_early.specs.Stack.{stored_errors}

within_refl : (a : Marks) → IsWithin a a
within_refl a =
    record { parameters = omega arith; caught = omega arith; lexical = omega arith; vars = omega arith }

within_trans : (a b c : Marks) → IsWithin a b → IsWithin b c → IsWithin a c
within_trans a b c ab bc =
    record {
      parameters = omega (arith, ab.parameters, bc.parameters);
      caught = omega (arith, ab.caught, bc.caught);
      lexical = omega (arith, ab.lexical, bc.lexical);
      vars = omega (arith, ab.vars, bc.vars);
    }

-- the last scope that is stored is the innermost one
pub last_scope : (items : List OpenScope) (o : OpenScope) → Some o ≡ slice_get items (length items - 1)
    → reverse items ≡ o ∷ drop 1 (reverse items)
last_scope items o is =
    let within : length items - 1 < length items = slice_get_within items (length items - 1) o (sym is) in
    let one : 0 < length items = omega (arith, within) in
    let read : o ≡ get_or items (length items - 1) o = cc (is, slice_get-get_or items (length items - 1) o within) in
    let at_start : get_or items (length items - 1) o ≡ get_or (reverse items) 0 o =
    ap (λ k. get_or items k o) (omega arith) ∙ sym (get_or-reverse items 0 o one) in
    first (reverse items) o (omega (arith, one, length-reverse items)) (read ∙ at_start)
  where
    first : (os : List OpenScope) (o : OpenScope) → 0 < length os → o ≡ get_or os 0 o → os ≡ o ∷ drop 1 os
    first [] o some is = absurd (omega (arith, some))
    first (p ∷ os) o some is = ap (λ q. q ∷ os) (sym is)

-- A name is declared.

vars_step : (b : Bool) (name : Text) (m : ℕ) (os : List OpenScope) (ps cs ls vs : List Text) → m ≤ length vs
    → (b ≡ false
    → shown os (record { parameters = ps; caught = cs; lexical = ls; vars = vs ++ name ∷ [] })
    ≡ with_var name (shown os (record { parameters = ps; caught = cs; lexical = ls; vars = vs })))
    → shown os
    (record { parameters = ps; caught = cs; lexical = ls; vars = cond b (take m (vs ++ name ∷ [])) (vs ++ name ∷ []) })
    ≡ cond b
    (shown os (record { parameters = ps; caught = cs; lexical = ls; vars = cond b (take m vs) vs }))
    (with_var name (shown os (record { parameters = ps; caught = cs; lexical = ls; vars = cond b (take m vs) vs })))
vars_step true name m os ps cs ls vs h further =
    ap (λ v. shown os (record { parameters = ps; caught = cs; lexical = ls; vars = v }))
    (take-append-le m vs (name ∷ []) h)
vars_step false name m os ps cs ls vs h further = further refl

-- no scope of the list has more vars than there are
shown_var : (name : Text) (os : List OpenScope) (names : Bindings) (end : Marks)
    → AreNested os end → end.vars ≤ length names.vars
    → shown os (with_name binding.Var name names) ≡ with_var name (shown os names)
shown_var name [] names end nested h = refl
shown_var name (o ∷ outer) names end nested h =
    let short : o.start.vars ≤ length names.vars = omega (arith, nested.0.vars) in
    let here = scope_of o names in
    let s : Scope = record here { vars = here.vars ++ name ∷ [] } in
    ap (λ vars. record here { vars = vars } ∷ shown outer (names_outside o (with_name binding.Var name names)))
    (drop-append-le o.start.vars names.vars (name ∷ []) short)
    ∙ ap (λ rest. s ∷ rest)
    (vars_step (holds_vars o.kind) name o.start.vars outer (take o.start.parameters names.parameters)
    (take o.start.caught names.caught) (take o.start.lexical names.lexical) names.vars short
    (λ goes_on. shown_var name outer
    (record (names_outside o names) { vars = names.vars }) o.start nested.2 short))

shown_lexical : (name : Text) (o : OpenScope) (os : List OpenScope) (names : Bindings)
    → AreNested (o ∷ os) (marks_of names)
    → shown (o ∷ os) (record names { lexical = names.lexical ++ name ∷ [] })
    ≡ record (scope_of o names) { lexical = drop o.start.lexical names.lexical ++ name ∷ [] }
    ∷ shown os (names_outside o names)
shown_lexical name o os names nested =
    let short : o.start.lexical ≤ length names.lexical = nested.0.lexical in
    rw (drop-append-le, take-append-le) refl

shown_parameter : (name : Text) (o : OpenScope) (os : List OpenScope) (names : Bindings)
    → AreNested (o ∷ os) (marks_of names)
    → shown (o ∷ os) (record names { parameters = names.parameters ++ name ∷ [] })
    ≡ record (scope_of o names) { parameters = drop o.start.parameters names.parameters ++ name ∷ [] }
    ∷ shown os (names_outside o names)
shown_parameter name o os names nested =
    let short : o.start.parameters ≤ length names.parameters = nested.0.parameters in
    rw (drop-append-le, take-append-le) refl

shown_caught : (name : Text) (o : OpenScope) (os : List OpenScope) (names : Bindings)
    → AreNested (o ∷ os) (marks_of names)
    → shown (o ∷ os) (record names { caught = names.caught ++ name ∷ [] })
    ≡ record (scope_of o names) { caught = drop o.start.caught names.caught ++ name ∷ [] }
    ∷ shown os (names_outside o names)
shown_caught name o os names nested =
    let short : o.start.caught ≤ length names.caught = nested.0.caught in
    rw (drop-append-le, take-append-le) refl

pub shown_declare : (kind : BindingKind) (name : Text) (o : OpenScope) (os : List OpenScope) (names : Bindings)
    → AreNested (o ∷ os) (marks_of names)
    → shown (o ∷ os) (with_name kind name names) ≡ declared kind name (shown (o ∷ os) names)
shown_declare binding.Var name o os names nested = shown_var name (o ∷ os) names (marks_of names) nested (omega arith)
shown_declare binding.Let name o os names nested = shown_lexical name o os names nested
shown_declare binding.Const name o os names nested = shown_lexical name o os names nested
shown_declare binding.BlockFunction name o os names nested = shown_lexical name o os names nested
shown_declare binding.Parameter name o os names nested = shown_parameter name o os names nested
shown_declare binding.Caught name o os names nested = shown_caught name o os names nested
shown_declare binding.Own name o os names nested = refl
shown_declare binding.Activation name o os names nested = refl

-- The errors of a name.

-- a function starts no later than the scopes in it
function_within : (o : OpenScope) (os : List OpenScope) (end : Marks)
    → AreNested (o ∷ os) end → IsWithin o.function o.start
function_within o [] end nested = rw nested.1 (within_refl o.start)
function_within o (p ∷ os) end nested =
    let outer = function_within p os o.start nested.2 in
    rw nested.1
    (either_within (holds_vars o.kind) o.start p.function
    (within_trans p.function p.start o.start outer nested.2.0))
  where
    either_within : (b : Bool) (a f : Marks) → IsWithin f a → IsWithin (cond b a f) a
    either_within true a f h = within_refl a
    either_within false a f h = h

or_false : (b : Bool) → (b || false) ≡ b
or_false true = refl
or_false false = refl

or_comm : (a b : Bool) → (a || b) ≡ (b || a)
or_comm true true = refl
or_comm true false = refl
or_comm false true = refl
or_comm false false = refl

-- one of the lists of names that a scope has, as it is stored and as it is shown
record Sort : Type 0 where
  mark : Marks → ℕ
  stored : Bindings → List Text
  listed : Scope → List Text
  outside : (o : OpenScope) (names : Bindings) → stored (names_outside o names) ≡ take (mark o.start) (stored names)
  inside : (o : OpenScope) (names : Bindings) → listed (scope_of o names) ≡ drop (mark o.start) (stored names)
  grows : (a b : Marks) → IsWithin a b → mark a ≤ mark b

abbrev lexical_sort : Sort
lexical_sort =
    record {
      mark = λ m. m.lexical;
      stored = λ names. names.lexical;
      listed = λ s. s.lexical;
      outside = λ o names. refl;
      inside = λ o names. refl;
      grows = λ a b h. h.lexical;
    }

abbrev caught_sort : Sort
caught_sort =
    record {
      mark = λ m. m.caught;
      stored = λ names. names.caught;
      listed = λ s. s.caught;
      outside = λ o names. refl;
      inside = λ o names. refl;
      grows = λ a b h. h.caught;
    }

split : (m f : ℕ) (xs : List Text) → f ≤ m → m ≤ length xs → drop f (take m xs) ++ drop m xs ≡ drop f xs
split m f xs fm h =
    let short : f ≤ length (take m xs) = omega (arith, length-take-le m xs h) in
    sym (drop-append-le f (take m xs) (drop m xs) short) ∙ ap (drop f) (take-append-drop m xs)

occurs_split : (name : Text) (m f : ℕ) (xs : List Text) → f ≤ m → m ≤ length xs
    → (occurs name (drop m xs) || occurs name (drop f (take m xs))) ≡ occurs name (drop f xs)
occurs_split name m f xs fm h =
    or_comm (occurs name (drop m xs)) (occurs name (drop f (take m xs)))
    ∙ sym (list_any-append (λ other. bytes_eq other name) (drop f (take m xs)) (drop m xs))
    ∙ ap (occurs name) (split m f xs fm h)

-- `here` is what the scope has, `there` what the scopes round it have that a var in it belongs to
join : (b here : Bool) (P : Scope → Bool) (outer : List Scope) (start function : Bool)
    → here ≡ start → (b ≡ false → (here || list_any P outer) ≡ function)
    → (here || list_any P (cond b [] outer)) ≡ cond b start function
join true here P outer start function own further = or_false here ∙ own
join false here P outer start function own further = further refl

among : (S : Sort) (name : Text) (b : Bool) (a f : Marks) (names : Bindings)
    → cond b (occurs name (drop (S.mark a) (S.stored names))) (occurs name (drop (S.mark f) (S.stored names)))
    ≡ occurs name (drop (S.mark (cond b a f)) (S.stored names))
among S name true a f names = refl
among S name false a f names = refl

no_more : (P : Scope → Bool) (b : Bool) → list_any P (cond b [] []) ≡ false
no_more P true = refl
no_more P false = refl

-- What the scopes that a var belongs to declare is what is stored from the start of its function on.
reached : (S : Sort) (name : Text) (o : OpenScope) (os : List OpenScope) (names : Bindings) (end : Marks)
    → AreNested (o ∷ os) end → S.mark end ≤ length (S.stored names)
    → list_any (λ s. occurs name (S.listed s)) (scopes_of_var (shown (o ∷ os) names))
    ≡ occurs name (drop (S.mark o.function) (S.stored names))
reached S name o [] names end nested h =
    let here = occurs name (S.listed (scope_of o names)) in
    let P : Scope → Bool = λ s. occurs name (S.listed s) in
    ap (λ rest. here || rest) (no_more P (holds_vars o.kind)) ∙ or_false here ∙ ap (occurs name) (S.inside o names)
    ∙ ap (λ (f : Marks). occurs name (drop (S.mark f) (S.stored names))) (sym nested.1)
reached S name o (p ∷ os) names end nested h =
    let here = occurs name (S.listed (scope_of o names)) in
    let P : Scope → Bool = λ s. occurs name (S.listed s) in
    let m = S.mark o.start in
    let xs = S.stored names in
    let short : m ≤ length xs = omega (arith, S.grows o.start end nested.0, h) in
    let taken_all : length (take m xs) ≡ m = length-take-le m xs short in
    let bound : m ≤ length (S.stored (names_outside o names)) = rw (S.outside o names) (omega (arith, taken_all)) in
    let inner : S.mark p.function ≤ m =
    S.grows p.function o.start
    (within_trans p.function p.start o.start (function_within p os o.start nested.2) nested.2.0) in
    let own = ap (occurs name) (S.inside o names) in
    let rest = scopes_of_var (shown (p ∷ os) (names_outside o names)) in
    join (holds_vars o.kind) here P rest (occurs name (drop m xs)) (occurs name (drop (S.mark p.function) xs)) own
    (λ goes_on. ap (λ found. found || list_any P rest) own
    ∙ ap (λ found. occurs name (drop m xs) || found)
    (reached S name p os (names_outside o names) o.start nested.2 bound
    ∙ ap (λ ys. occurs name (drop (S.mark p.function) ys)) (S.outside o names))
    ∙ occurs_split name m (S.mark p.function) xs inner short)
    ∙ among S name (holds_vars o.kind) o.start p.function names
    ∙ ap (λ (f : Marks). occurs name (drop (S.mark f) xs)) (sym nested.1)

pub errors_shown : (kind : BindingKind) (name : Text) (o : OpenScope) (os : List OpenScope) (names : Bindings)
    → AreNested (o ∷ os) (marks_of names)
    → errors_of_name kind name (shown (o ∷ os) names) ≡ stored_errors kind name o names
errors_shown binding.Var name o os names nested =
    let lexical = reached lexical_sort name o os names (marks_of names) nested (omega arith) in
    let caught = reached caught_sort name o os names (marks_of names) nested (omega arith) in
    ap (λ b. error_if b early.LexicalVarClash
    ++ error_if (list_any (λ s. occurs name s.caught) (scopes_of_var (shown (o ∷ os) names))) early.CatchClash) lexical
    ∙ ap (λ b. error_if (occurs name (drop o.function.lexical names.lexical)) early.LexicalVarClash
    ++ error_if b early.CatchClash) caught
errors_shown binding.Let name o os names nested = refl
errors_shown binding.Const name o os names nested = refl
errors_shown binding.BlockFunction name o os names nested = refl
errors_shown binding.Parameter name o os names nested = refl
errors_shown binding.Caught name o os names nested = refl
errors_shown binding.Own name o os names nested = refl
errors_shown binding.Activation name o os names nested = refl

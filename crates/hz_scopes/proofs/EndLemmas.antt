-- A function ends.
use Rattle.std.proofs.Common.{◌≡◌, ◌<◌, ◌+◌, ℕ, suc, true, List, [], ◌∷◌, ◌++◌, length, map, reverse, drop}
use Rattle.std.proofs.Common.{refl, sym, ap, subst, ◌∙◌, arith, None}
use Rattle.std.specs.Prelude.{slice_set}
use Rattle.hz_index.specs.Table.{Table, with_end}
use Rattle.hz_tree.specs.tokens.Text.{Text}
use Rattle.hz_tree.specs.trees.FunctionScopes.{Used, Scope, ScopeName, FunctionScopes, scope_names}
use Rattle.hz_scopes.specs.Layers.{Layers, closed, innermost, first_start, layers_of, AreNested}
use Rattle.hz_scopes.specs.State.{Body, Known, State, Waiting, pass_on, in_body, end_scope, close}
use Rattle.hz_scopes.specs.State.{of_body as ended_body}
use Rattle.hz_scopes.specs.Stored.{Held, held_by, body_of, bodies_of, outside_body, known_of, waiting_of, shown}
use Rattle.hz_scopes.specs.Stored.{head_of_body}
use Rattle.hz_scopes.specs.Stored.{IsKept, IsWhole, at_its_top, declared_by, free_of, with_top_end, with_body_end}
use Rattle.hz_scopes.specs.Stored.{with_known}
use Rattle.hz_scopes.specs.Stored.{leaves, BodiesAreListed}
use Rattle.hz_scopes.specs.declared.body.Block.{Block}
use Rattle.hz_scopes.specs.declared.body.OpenBody.{OpenBody}
use Rattle.hz_scopes.specs.declared.scopes.OpenScopes.{OpenScopes}
use Rattle.hz_scopes.proofs.KeptLemmas.{named_end, ends}
use Rattle.hz_scopes.proofs.LayersLemmas.{layers_close}
use Rattle.hz_scopes.proofs.StoredLemmas.{nested_taken}

pub length_bodies : (bodies : List OpenBody) (h : Held) → length (bodies_of bodies h) ≡ length bodies
length_bodies [] h = refl
length_bodies (b ∷ bodies) h = ap suc (length_bodies bodies (outside_body (reverse b.blocks.items) h))

-- the scope of the name ends last
pub named_close : (end begun : ℕ) (waiting : Waiting) (body : Body) (outer : List Body) (functions : List
    FunctionScopes)
    → 0 < length outer
    → body.named ≡ true
    → (let s : State = record {
      begun = begun;
      waiting = waiting;
      known = record { body = body; outer = outer; functions = functions };
    } in
    in_body (end_scope end) (with_known (leaves end) s) ≡ with_known (close end) s)
named_close end begun waiting body [] functions some named = absurd (omega (arith, some))
named_close end begun waiting body (b ∷ outer) functions some named = rw named refl

pub leaves_at_top : (end : ℕ) (k : Known) → 0 < length k.outer
    → leaves end (record k { body = at_its_top k.body }) ≡ leaves end k
leaves_at_top end k some = by_outer k.outer some
  where
    by_outer : (outer : List Body) → 0 < length outer
        → leaves end (record { body = at_its_top k.body; outer = outer; functions = k.functions })
        ≡ leaves end (record { body = k.body; outer = outer; functions = k.functions })
    by_outer [] some = absurd (omega (arith, some))
    by_outer (b ∷ outer) some = refl

abbrev inner_uses : List Text → List Used
inner_uses names = map (λ name. record { name = name; inner = true }) names

pass_shown : (o : OpenBody) (blocks : List Block) (outer : List OpenBody) (h : Held) (f : List FunctionScopes)
    (used : List Used)
    → known_of o blocks outer (record h { uses = record { inner = h.uses.inner ++ used; outer = h.uses.outer } }) f
    ≡ record (known_of o blocks outer h f) { body = pass_on used (body_of o blocks h) }
pass_shown o [] outer h f used = refl
pass_shown o (b ∷ blocks) outer h f used = refl

names_back : (names : List Text)
    → map (λ (n : ScopeName). n.name) (map (λ name. record { name = name; binding = None }) names) ≡ names
names_back [] = refl
names_back (name ∷ names) = ap (λ rest. name ∷ rest) (names_back names)

-- the table's list behind the end of the outermost scope
pub top_ends : (s : OpenScopes) (end : ℕ) → IsWhole s
    → (layers_of s.listed (with_top_end end s).listed ≡ record {
      inner = slice_set (layers_of s.listed s.table.listed).inner 0
          (named_end end (scope_names s.body.binds (declared_by s) s.here.inner) (head_of_body s.body));
      outer = (layers_of s.listed s.table.listed).outer;
    })
    × (length (with_top_end end s).listed ≡ length s.table.listed)
top_ends s end whole =
    let t : Table = record s.table { pending = scope_names s.body.binds (declared_by s) s.here.inner } in
    let e = ends s.listed 0 end (head_of_body s.body) t whole.kept.innermost.outermost in
    let m = first_start s.listed in
    let place : m ≡ m + 0 = omega arith in (
      ap (λ place. layers_of s.listed (with_end place end t).listed) place ∙ e.shown,
      ap (λ place. length (with_end place end t).listed) place ∙ e.same,
    )

body_ends : (s : OpenScopes) (end : ℕ) → IsWhole s
    → layers_of (drop 1 s.listed) (with_body_end end s).listed ≡ closed (layers_of s.listed s.table.listed)
body_ends s end whole =
    layers_close s.listed (with_top_end end s).listed
    ∙ ap (λ (l : Layers Scope). closed l) (top_ends s end whole).0

-- what the function round it is left with
abbrev pub held_behind : (end : ℕ) → OpenScopes → Held
held_behind end s = record {
  tops = closed s.tops;
  lexical = s.lexical;
  here = closed s.here;
  uses = record { inner = innermost s.uses.outer ++ inner_uses (free_of s); outer = drop 1 s.uses.outer };
  listed = layers_of (drop 1 s.listed) (with_body_end end s).listed;
}

pub functions_behind : (s : OpenScopes) (end : ℕ) → IsWhole s
    → (with_body_end end s).functions
    ≡ slice_set s.table.functions s.body.number (ended_body end (body_of s.body [] (held_by s)))
functions_behind s end whole =
    let make : List Scope → List Text → FunctionScopes =
    λ scopes free. record { around = s.body.around; binds = s.body.binds; scopes = scopes; free = free } in
    let set : FunctionScopes → List FunctionScopes = λ f. slice_set s.table.functions s.body.number f in
    let free = map (λ (n : ScopeName). n.name) (map (λ name. record { name = name; binding = None }) (free_of s)) in
    ap (λ (l : Layers Scope). set (make l.inner free)) (top_ends s end whole).0
    ∙ ap (λ names. set (make (slice_set (layers_of s.listed s.table.listed).inner 0
    (named_end end (scope_names s.body.binds (declared_by s) s.here.inner) (head_of_body s.body))) names))
    (names_back (free_of s))

pub left_shown : (s : OpenScopes) (o : OpenBody) (outer : List OpenBody) (end : ℕ)
    → reverse s.body.blocks.items ≡ []
    → reverse s.outer.items ≡ o ∷ outer
    → IsWhole s
    → record {
      begun = s.begun;
      waiting = waiting_of s.waiting;
      known = known_of o (reverse o.blocks.items) outer (held_behind end s) (with_body_end end s).functions;
    } ≡ with_known (leaves end) (shown s)
left_shown s o outer end none are whole =
    let make : Known → State = λ k. record { begun = s.begun; waiting = waiting_of s.waiting; known = k } in
    let blocks = reverse o.blocks.items in
    let h = held_by s in
    let inside = outside_body [] h in
    let used = inner_uses (free_of s) in
    let after : Held = record inside {
      uses = record { inner = inside.uses.inner ++ used; outer = inside.uses.outer };
    } in
    ap (λ (l : Layers Scope). make (known_of o blocks outer (record (held_behind end s) { listed = l })
    (with_body_end end s).functions)) (body_ends s end whole)
    ∙ ap (λ (f : List FunctionScopes). make (known_of o blocks outer after f)) (functions_behind s end whole)
    ∙ ap make (pass_shown o blocks outer inside
    (slice_set s.table.functions s.body.number (ended_body end (body_of s.body [] h))) used)
    ∙ ap (λ (os : List OpenBody). make (leaves end (known_of s.body [] os h s.table.functions))) (sym are)
    ∙ ap (λ (bs : List Block). make (leaves end (known_of s.body bs (reverse s.outer.items) h s.table.functions)))
    (sym none)

pub left_kept : (s : OpenScopes) (o : OpenBody) (outer : List OpenBody) (end : ℕ)
    → reverse s.outer.items ≡ o ∷ outer
    → IsWhole s
    → IsKept (head_of_body o) (reverse o.blocks.items) outer (layers_of (drop 1 s.listed) (with_body_end end s).listed)
left_kept s o outer end are whole =
    let l = layers_of s.listed s.table.listed in
    let others = subst (λ (os : List OpenBody). BodiesAreListed os (closed l)) are whole.kept.others in
    subst (λ (l : Layers Scope). IsKept (head_of_body o) (reverse o.blocks.items) outer l) (sym (body_ends s end whole))
    (record { innermost = others.0; others = others.1 })

pub left_nested : (s : OpenScopes) (end : ℕ) → IsWhole s
    → AreNested (drop 1 s.listed) (length (with_body_end end s).listed)
left_nested s end whole =
    nested_taken s.listed (with_top_end end s).listed
    (subst (AreNested s.listed) (sym (top_ends s end whole).1) whole.nested)

-- Each open scope stays listed under its number.
use Rattle.std.proofs.Common.{◌≡◌, ◌<◌, ◌≤◌, ◌+◌, ◌-◌, ℕ, zero, suc, List, [], ◌∷◌, ◌++◌, length, map}
use Rattle.std.proofs.Common.{reverse, refl, sym, ap, ◌∙◌, Option, Some, None, arith, drop, get_or}
use Rattle.std.specs.Prelude.{slice_set}
use Rattle.std.proofs.Math.ListN.{set}
use Rattle.std.specs.List.{slice_get}
use Rattle.std.specs.Option.{option_map}
use Rattle.std.proofs.lemmas.List.{map-append, length-map, reverse-append, get_or-reverse, length-reverse, drop-set-add}
use Rattle.std.proofs.lemmas.List.{take-set-le, length-set}
use Rattle.std.proofs.lemmas.Option.{slice_get_within, slice_get-get_or, slice_get-map}
use Rattle.hz_index.specs.Table.{Table, unended, with_end}
use Rattle.hz_tree.specs.trees.FunctionScopes.{Scope, ScopeName}
use Rattle.hz_scopes.specs.Layers.{Layers, pushed, first_start, around, layers_of}
use Rattle.hz_scopes.specs.Stored.{head, head_of_block, number_of, BlocksAreListed, IsKept}
use Rattle.hz_scopes.specs.declared.body.Block.{Block}
use Rattle.hz_scopes.specs.declared.body.OpenBody.{OpenBody}

-- the last of a list is the first of the list turned round
pub last_first : {X : Type 0} (items : List X) (x : X) → Some x ≡ slice_get items (length items - 1)
    → reverse items ≡ x ∷ drop 1 (reverse items)
last_first {X} items x is =
    let within : length items - 1 < length items = slice_get_within items (length items - 1) x (sym is) in
    let one : 0 < length items = omega (arith, within) in
    let read : x ≡ get_or items (length items - 1) x = cc (is, slice_get-get_or items (length items - 1) x within) in
    let at_start : get_or items (length items - 1) x ≡ get_or (reverse items) 0 x =
    ap (λ k. get_or items k x) (omega arith) ∙ sym (get_or-reverse items 0 x one) in
    first (reverse items) x (omega (arith, one, length-reverse items)) (read ∙ at_start)
  where
    first : (ys : List X) (x : X) → 0 < length ys → x ≡ get_or ys 0 x → ys ≡ x ∷ drop 1 ys
    first [] x some is = absurd (omega (arith, some))
    first (y ∷ ys) x some is = ap (λ z. z ∷ ys) (sym is)

pub last_number : (blocks : List Block) (b : Block) → Some b ≡ slice_get blocks (length blocks - 1)
    → b.number ≡ number_of (reverse blocks)
last_number blocks b is = ap number_of (sym (last_first blocks b is))

pub reverse_push : {X : Type 0} (items : List X) (x : X) → reverse (items ++ x ∷ []) ≡ x ∷ reverse items
reverse_push items x = reverse-append items (x ∷ [])

get_more : {X : Type 0} (xs : List X) (ys : List X) (i : ℕ) (x : X) → slice_get xs i ≡ Some x
    → slice_get (xs ++ ys) i ≡ Some x
get_more [] ys i x is = absurd cc
get_more (z ∷ xs) ys zero x is = is
get_more (z ∷ xs) ys (suc i) x is = get_more xs ys i x is

get_last : {X : Type 0} (xs : List X) (x : X) → slice_get (xs ++ x ∷ []) (length xs) ≡ Some x
get_last [] x = refl
get_last (z ∷ xs) x = get_last xs x

blocks_more : (blocks : List Block) (heads : List Scope) (h : Scope)
    → BlocksAreListed blocks heads → BlocksAreListed blocks (heads ++ h ∷ [])
blocks_more [] heads h listed = tt
blocks_more (b ∷ blocks) heads h listed =
    (get_more heads (h ∷ []) b.number (head_of_block b) listed.0, blocks_more blocks heads h listed.1)

-- a scope begins
pub begin_kept : (top : Scope) (blocks : List Block) (outer : List OpenBody) (l : Layers Scope) (new : Block)
    → new.number ≡ length l.inner
    → IsKept top blocks outer l
    → IsKept top (new ∷ blocks) outer (pushed (unended new.kind new.start (Some new.parent)) l)
begin_kept top blocks outer l new number kept =
    let heads = map head l.inner in
    let h = head_of_block new in
    let added : map head (l.inner ++ unended new.kind new.start (Some new.parent) ∷ []) ≡ heads ++ h ∷ [] =
    map-append head l.inner (unended new.kind new.start (Some new.parent) ∷ []) in
    let there : new.number ≡ length heads = number ∙ sym (length-map l.inner head) in
    record {
      innermost = rw added record {
        outermost = get_more heads (h ∷ []) 0 top kept.innermost.outermost;
        within = (
          ap (slice_get (heads ++ h ∷ [])) there ∙ get_last heads h,
          blocks_more blocks heads h kept.innermost.within,
        );
      };
      others = kept.others;
    }

-- ---- a scope ends

get_drop : {X : Type 0} (m : ℕ) (xs : List X) (i : ℕ) → slice_get xs (m + i) ≡ slice_get (drop m xs) i
get_drop zero xs i = ap (slice_get xs) (omega arith)
get_drop (suc m) [] i = refl
get_drop (suc m) (x ∷ xs) i =
    let next : suc m + i ≡ suc (m + i) = omega arith in ap (slice_get (x ∷ xs)) next ∙ get_drop m xs i

set_same : (xs : List Scope) (i : ℕ) (s : Scope) → slice_get (map head xs) i ≡ Some (head s)
    → map head (set xs i s) ≡ map head xs
set_same [] i s is = refl
set_same (x ∷ xs) zero s is =
    let same : head x ≡ head s = cc in ap (λ h. h ∷ map head xs) (sym same)
set_same (x ∷ xs) (suc i) s is = ap (λ hs. head x ∷ hs) (set_same xs i s is)

around_set : {X : Type 0} (starts : List ℕ) (items : List X) (p : ℕ) (x : X) → first_start starts ≤ p
    → around starts (set items p x) ≡ around starts items
around_set [] items p x h = refl
around_set (m ∷ starts) items p x h =
    ap (λ zs. drop (first_start starts) zs ∷ around starts zs) (take-set-le m items p x h)

-- the scope that ends, with the names that came last
abbrev pub named_end : (end : ℕ) → List ScopeName → (head : Scope) → Scope
named_end end names h = record { kind = h.kind; start = h.start; end = end; parent = h.parent; names = names }

pub record IsEnded (starts : List ℕ) (number end : ℕ) (h : Scope) (t : Table) : Type 0 where
  pub shown : layers_of starts (with_end (first_start starts + number) end t).listed ≡ record {
    inner = slice_set (layers_of starts t.listed).inner number (named_end end t.pending h);
    outer = (layers_of starts t.listed).outer;
  }
  pub same : length (with_end (first_start starts + number) end t).listed ≡ length t.listed

pub ends : (starts : List ℕ) (number end : ℕ) (h : Scope) (t : Table)
    → slice_get (map head (layers_of starts t.listed).inner) number ≡ Some h
    → IsEnded starts number end h t
ends starts number end h t there = by_scope (slice_get (drop (first_start starts) t.listed) number) refl
  where
    by_scope : (o : Option Scope) → slice_get (drop (first_start starts) t.listed) number ≡ o
        → IsEnded starts number end h t
    by_scope None is =
        let none = sym (slice_get-map head (drop (first_start starts) t.listed) number) ∙ there in
        let never = ap (option_map head) is in absurd cc
    by_scope (Some s) is =
        let m = first_start starts in
        let place = m + number in
        let inner = drop m t.listed in
        let v : Scope = record s { end = end; names = t.pending } in
        let got : slice_get t.listed place ≡ Some s = get_drop m t.listed number ∙ is in
        let mapped : Some (head s) ≡ Some h =
        ap (option_map head) (sym is) ∙ sym (slice_get-map head inner number) ∙ there in
        let same : head s ≡ h = cc in
        let listed : (with_end place end t).listed ≡ set t.listed place v =
        ap (λ (o : Option Scope). elim o [
          | None ↦ t.listed
          | Some s ↦ slice_set t.listed place (record s { end = end; names = t.pending })
        ]) got in
        let make : List Scope → List (List Scope) → Layers Scope =
        λ inner outer. record { inner = inner; outer = outer } in
        record {
          shown = ap (layers_of starts) listed
              ∙ ap (λ inner. make inner (around starts (set t.listed place v))) (drop-set-add m t.listed number v)
              ∙ ap (make (set inner number v)) (around_set starts t.listed place v (omega arith))
              ∙ ap (λ (h : Scope). make (set inner number (named_end end t.pending h)) (around starts t.listed)) same;
          same = ap length listed ∙ length-set t.listed place v;
        }

pub end_kept : (top : Scope) (b : Block) (blocks : List Block) (outer : List OpenBody) (l : Layers Scope) (s : Scope)
    → head s ≡ head_of_block b
    → IsKept top (b ∷ blocks) outer l
    → IsKept top blocks outer (record { inner = slice_set l.inner b.number s; outer = l.outer })
end_kept top b blocks outer l s is kept =
    let same = set_same l.inner b.number s (kept.innermost.within.0 ∙ ap Some (sym is)) in
    record {
      innermost = rw same record { outermost = kept.innermost.outermost; within = kept.innermost.within.1 };
      others = kept.others;
    }

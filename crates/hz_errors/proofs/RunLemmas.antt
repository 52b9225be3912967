-- Levels of entries in one list of places, as places change.
use Rattle.std.proofs.Common.{◌≡◌, ℕ, zero, suc, ◌+◌, ◌-◌, ◌<◌, ◌≤◌, min, List, [], ◌∷◌, ◌++◌, length, get_or, take}
use Rattle.std.proofs.Common.{◌⊎◌, inl, inr, refl, sym, ap, ◌∙◌, arith, reverse}
use Rattle.std.proofs.Math.ListN.{set}
use Rattle.std.proofs.lemmas.List.{get_or-set_same, get_or-set_other, length-set, get_or-take}
use Rattle.std.proofs.lemmas.List.{length-take, reverse-append, get_or_append_left}
use Rattle.std.proofs.Math.Seq.{get_or-append_seam}
use Rattle.hz_tree.specs.errors.Limits.{least_each}
use Rattle.hz_errors.specs.declared.entries.Run.{Run}
use Rattle.hz_errors.specs.Levels.{joined_entries, node_entries}
use Rattle.hz_errors.specs.Runs.{run_levels, shown, AreStacked, KeepsBelow, lowered}
use Rattle.hz_errors.proofs.LevelLists.{least_each-nil}

-- ---- places that are the same below some place

pub levels_same : (len end : ℕ) (places places' : List ℕ) → len ≤ end → KeepsBelow end places places'
    → run_levels len end places' ≡ run_levels len end places
levels_same zero end places places' h same = refl
levels_same (suc len) end places places' h same =
    ap (λ x. x ∷ run_levels len (end - 1) places') (same (end - 1) (omega arith))
    ∙ ap (λ xs. get_or places (end - 1) 0 ∷ xs)
    (levels_same len (end - 1) places places' (omega arith) (λ k i. same k (omega arith)))

pub shown_same : (runs : List Run) (limit : ℕ) (places places' : List ℕ) → AreStacked limit runs
    → KeepsBelow limit places places' → shown runs places' ≡ shown runs places
shown_same [] limit places places' h same = refl
shown_same (run ∷ below) limit places places' h same =
    ap (λ levels. record { at = run.at; levels = levels } ∷ shown below places')
    (levels_same run.len run.end places places' h.1 (λ k i. same k (omega arith)))
    ∙ ap (λ entries. record { at = run.at; levels = run_levels run.len run.end places } ∷ entries)
    (shown_same below (run.end - run.len) places places' h.2 (λ k i. same k (omega arith)))

pub stacked_below : (runs : List Run) (limit limit' : ℕ) → limit ≤ limit' → AreStacked limit runs
    → AreStacked limit' runs
stacked_below [] limit limit' i h = tt
stacked_below (run ∷ below) limit limit' i h = (omega arith, h.1, h.2)

-- ---- one place changes

levels_get : (len end k : ℕ) (places : List ℕ) → k < len
    → get_or (run_levels len end places) k 0 ≡ get_or places (end - 1 - k) 0
levels_get zero end k places h = absurd (omega arith)
levels_get (suc len) end zero places h = ap (λ n. get_or places n 0) (omega arith)
levels_get (suc len) end (suc k) places h =
    levels_get len (end - 1) k places (omega arith) ∙ ap (λ n. get_or places n 0) (omega arith)

pub length-levels : (len end : ℕ) (places : List ℕ) → length (run_levels len end places) ≡ len
length-levels zero end places = refl
length-levels (suc len) end places = ap suc (length-levels len (end - 1) places)

levels_set : (len end k v : ℕ) (places : List ℕ) → k < len → len ≤ end → end ≤ length places
    → run_levels len end (set places (end - 1 - k) v) ≡ set (run_levels len end places) k v
levels_set zero end k v places h i j = absurd (omega arith)
levels_set (suc len) end zero v places h i j =
    let place : end - 1 - 0 ≡ end - 1 = omega arith in
    ap (λ n. run_levels (suc len) end (set places n v)) place
    ∙ ap (λ x. x ∷ run_levels len (end - 1) (set places (end - 1) v))
    (get_or-set_same places (end - 1) v 0 (omega arith))
    ∙ ap (λ xs. v ∷ xs)
    (levels_same len (end - 1) places (set places (end - 1) v) (omega arith)
    (λ k i. get_or-set_other places (end - 1) k v 0 (omega arith)))
levels_set (suc len) end (suc k) v places h i j =
    let place : end - 1 - suc k ≡ end - 1 - 1 - k = omega arith in
    ap (λ x. x ∷ run_levels len (end - 1) (set places (end - 1 - suc k) v))
    (get_or-set_other places (end - 1 - suc k) (end - 1) v 0 (omega arith))
    ∙ ap (λ n. get_or places (end - 1) 0 ∷ run_levels len (end - 1) (set places n v)) place
    ∙ ap (λ xs. get_or places (end - 1) 0 ∷ xs)
    (levels_set len (end - 1) k v places (omega arith) (omega arith) (omega arith))

-- ---- lists of levels, one level more

pub least_each_comm : (xs ys : List ℕ) → least_each xs ys ≡ least_each ys xs
least_each_comm [] ys = sym (least_each-nil ys)
least_each_comm (x ∷ xs) [] = refl
least_each_comm (x ∷ xs) (y ∷ ys) =
    let first : min x y ≡ min y x = omega arith in
    ap (λ least. least ∷ least_each xs ys) first ∙ ap (λ rest. min y x ∷ rest) (least_each_comm xs ys)

-- a level that the shorter list does not have
level_past : (k end : ℕ) (xs places : List ℕ) → k < length xs
    → get_or (least_each xs (run_levels k end places)) k 0 ≡ get_or xs k 0
level_past k end [] places h = absurd (omega arith)
level_past zero end (x ∷ xs) places h = refl
level_past (suc k) end (x ∷ xs) places h = level_past k (end - 1) xs places (omega arith)

level_more : (k end : ℕ) (xs places : List ℕ) → k < length xs
    → least_each xs (run_levels (suc k) end places)
    ≡ set (least_each xs (run_levels k end places)) k (min (get_or xs k 0) (get_or places (end - 1 - k) 0))
level_more k end [] places h = absurd (omega arith)
level_more zero end (x ∷ xs) places h =
    let place : end - 1 ≡ end - 1 - 0 = omega arith in
    ap (λ rest. min x (get_or places (end - 1) 0) ∷ rest) (least_each-nil xs)
    ∙ ap (λ n. min x (get_or places n 0) ∷ xs) place
level_more (suc k) end (x ∷ xs) places h =
    let place : end - 1 - 1 - k ≡ end - 1 - suc k = omega arith in
    ap (λ rest. min x (get_or places (end - 1) 0) ∷ rest)
    (level_more k (end - 1) xs places (omega arith)
    ∙ ap
    (λ n. set (least_each xs (run_levels k (end - 1) places)) k (min (get_or xs k 0) (get_or places n 0))) place)

-- ---- places that are lowered

pub length-lowered : (count end other : ℕ) (places : List ℕ)
    → length (lowered count end other places) ≡ length places
length-lowered zero end other places = refl
length-lowered (suc count) end other places = length-set _ _ _ ∙ length-lowered count end other places

pub lowered_apart : (count end other k : ℕ) (places : List ℕ) → (end ≤ k) ⊎ (k + count < end)
    → count ≤ end → get_or (lowered count end other places) k 0 ≡ get_or places k 0
lowered_apart zero end other k places i h = refl
lowered_apart (suc count) end other k places (inl i) h =
    get_or-set_other (lowered count end other places) (end - 1 - count) k _ 0 (omega arith)
    ∙ lowered_apart count end other k places (inl i) (omega arith)
lowered_apart (suc count) end other k places (inr i) h =
    get_or-set_other (lowered count end other places) (end - 1 - count) k _ 0 (omega arith)
    ∙ lowered_apart count end other k places (inr (omega arith)) (omega arith)

-- Two entries of which one stands above the other
abbrev pub AreApart : (len end len' end' : ℕ) → Type 0
AreApart len end len' end' = (end + len' ≤ end') ⊎ (end' + len ≤ end)

fewer_apart : (len end count other : ℕ) → AreApart len end (suc count) other → AreApart len end count other
fewer_apart len end count other (inl h) = inl (omega arith)
fewer_apart len end count other (inr h) = inr h

next_apart : (len end count other : ℕ) → suc count ≤ len → suc count ≤ other → AreApart len end (suc count) other
    → (end ≤ other - 1 - count) ⊎ (other - 1 - count + count < end)
next_apart len end count other h i (inl j) = inl (omega arith)
next_apart len end count other h i (inr j) = inr (omega arith)

-- The levels of the longer entry are lowered to those of the shorter one.
pub lowered_levels : (count len end other : ℕ) (places : List ℕ) → count ≤ len → len ≤ end → end ≤ length places
    → count ≤ other → AreApart len end count other
    → run_levels len end (lowered count end other places)
    ≡ least_each (run_levels len end places) (run_levels count other places)
lowered_levels zero len end other places h i j k apart = sym (least_each-nil (run_levels len end places))
lowered_levels (suc count) len end other places h i j k apart =
    let own : List ℕ = run_levels len end places in
    let before : List ℕ = lowered count end other places in
    let known = lowered_levels count len end other places (omega arith) i j (omega arith)
    (fewer_apart len end count other apart) in
    let long : count < length own = omega (arith, length-levels len end places) in
    let upper : get_or before (end - 1 - count) 0 ≡ get_or own count 0 =
    sym (levels_get len end count before (omega arith)) ∙ ap (λ xs. get_or xs count 0) known
    ∙ level_past count other own places long in
    let lower : get_or before (other - 1 - count) 0 ≡ get_or places (other - 1 - count) 0 =
    lowered_apart count end other (other - 1 - count) places (next_apart len end count other h k apart) (omega arith) in
    levels_set len end count _ before (omega arith) i (omega (arith, length-lowered count end other places))
    ∙ ap
    (λ xs. set xs count (min (get_or before (end - 1 - count) 0) (get_or before (other - 1 - count) 0))) known
    ∙ ap
    (λ n. set (least_each own (run_levels count other places)) count (min n (get_or before (other - 1 - count) 0)))
    upper
    ∙ ap (λ n. set (least_each own (run_levels count other places)) count (min (get_or own count 0) n)) lower
    ∙ sym (level_more count other own places long)

-- ---- two entries that are one

module _ (places : List ℕ) (below top : Run) (top_in : top.end ≤ length places) (top_len : top.len ≤ top.end)
    (below_in : below.end ≤ top.end - top.len) (below_len : below.len ≤ below.end) where
  abbrev pub both_levels : List ℕ
  both_levels = least_each (run_levels below.len below.end places) (run_levels top.len top.end places)

  abbrev pub lowered_below : List ℕ
  lowered_below = lowered top.len below.end top.end places

  abbrev pub lowered_top : List ℕ
  lowered_top = lowered below.len top.end below.end places

  pub levels_below : top.len ≤ below.len → run_levels below.len below.end (take below.end lowered_below) ≡ both_levels
  levels_below h =
      levels_same below.len below.end lowered_below (take below.end lowered_below) below_len
      (λ k i. get_or-take below.end lowered_below k 0 i)
      ∙ lowered_levels top.len below.len below.end top.end places h below_len (omega arith) top_len (inl (omega arith))

  pub same_below : top.len ≤ below.len → KeepsBelow (below.end - below.len) places (take below.end lowered_below)
  same_below h k i =
      get_or-take below.end lowered_below k 0 (omega arith)
      ∙ lowered_apart top.len below.end top.end k places (inr (omega arith)) (omega arith)

  pub within_below : below.end ≤ length (take below.end lowered_below)
  within_below =
      let long : length lowered_below ≡ length places = length-lowered top.len below.end top.end places in
      omega (arith, length-take below.end lowered_below)

  pub within_top : top.end ≤ length lowered_top
  within_top = omega (arith, length-lowered below.len top.end below.end places)

  pub levels_top : below.len ≤ top.len → run_levels top.len top.end lowered_top ≡ both_levels
  levels_top h =
      lowered_levels below.len top.len top.end below.end places h top_len top_in below_len (inr (omega arith))
      ∙ least_each_comm (run_levels top.len top.end places) (run_levels below.len below.end places)

  pub same_top : below.len ≤ top.len → KeepsBelow (below.end - below.len) places lowered_top
  same_top h k i = lowered_apart below.len top.end below.end k places (inr (omega arith)) (omega arith)

-- ---- the list of entries

pub shown_joined : (places places' : List ℕ) (runs : List Run) (below top run : Run)
    → AreStacked (below.end - below.len) runs → run.at ≡ below.at
    → run_levels run.len run.end places'
    ≡ least_each (run_levels below.len below.end places) (run_levels top.len top.end places)
    → KeepsBelow (below.end - below.len) places places'
    → shown (run ∷ runs) places' ≡ joined_entries (shown (top ∷ below ∷ runs) places)
shown_joined places places' runs below top run h at levels same =
    ap (λ at. record { at = at; levels = run_levels run.len run.end places' } ∷ shown runs places') at
    ∙ ap (λ levels. record { at = below.at; levels = levels } ∷ shown runs places') levels
    ∙ ap
    (λ entries. record {
      at = below.at;
      levels = least_each (run_levels below.len below.end places) (run_levels top.len top.end places);
    } ∷ entries)
    (shown_same runs (below.end - below.len) places places' h same)

pub shown_node : (places : List ℕ) (runs : List Run) (run next : Run) → AreStacked (length places) (run ∷ runs)
    → next.at ≡ run.at → next.len ≡ run.len + 1 → next.end ≡ run.end + 1
    → shown (next ∷ runs) (take run.end places ++ run.at ∷ []) ≡ node_entries (shown (run ∷ runs) places)
shown_node places runs run next h at len end =
    let more : List ℕ = take run.end places ++ run.at ∷ [] in
    let long : length (take run.end places) ≡ run.end = length-take run.end places ∙ omega (arith, h.0) in
    let same : KeepsBelow run.end places more = λ k i.
    get_or_append_left (take run.end places) (run.at ∷ []) 0 k (omega arith) ∙ get_or-take run.end places k 0 i in
    let last : get_or more run.end 0 ≡ run.at =
    ap (λ n. get_or more n 0) (sym long) ∙ get_or-append_seam (take run.end places) run.at [] 0 in
    let place : next.end - 1 ≡ run.end = omega arith in
    let one : next.len ≡ suc run.len = omega arith in
    ap (λ n. record { at = n; levels = run_levels next.len next.end more } ∷ shown runs more) at
    ∙ ap (λ n. record { at = run.at; levels = run_levels n next.end more } ∷ shown runs more) one
    ∙ ap (λ n. record { at = run.at; levels = get_or more n 0 ∷ run_levels run.len n more } ∷ shown runs more) place
    ∙ ap (λ n. record { at = run.at; levels = n ∷ run_levels run.len run.end more } ∷ shown runs more) last
    ∙ ap (λ levels. record { at = run.at; levels = run.at ∷ levels } ∷ shown runs more)
    (levels_same run.len run.end places more h.1 same)
    ∙ ap (λ entries. record { at = run.at; levels = run.at ∷ run_levels run.len run.end places } ∷ entries)
    (shown_same runs (run.end - run.len) places more h.2 (λ k i. same k (omega arith)))

-- one more entry, of one node
pub shown_leaf : (places : List ℕ) (runs : List Run) (at end : ℕ) → AreStacked (length places) runs
    → end ≡ length places + 1
    → shown (record { at = at; len = 1; end = end } ∷ runs) (places ++ at ∷ [])
    ≡ record { at = at; levels = at ∷ [] } ∷ shown runs places
shown_leaf places runs at end h e =
    let more : List ℕ = places ++ at ∷ [] in
    let place : end - 1 ≡ length places = omega arith in
    let same : KeepsBelow (length places) places more = λ k i. get_or_append_left places (at ∷ []) 0 k i in
    ap (λ n. record { at = at; levels = get_or more n 0 ∷ [] } ∷ shown runs more) place
    ∙ ap (λ n. record { at = at; levels = n ∷ [] } ∷ shown runs more) (get_or-append_seam places at [] 0)
    ∙ ap (λ entries. record { at = at; levels = at ∷ [] } ∷ entries)
    (shown_same runs (length places) places more h same)

pub reversed : {A : Type 0} (xs ys : List A) (x : A) → ys ≡ xs ++ x ∷ [] → reverse ys ≡ x ∷ reverse xs
reversed xs ys x h = ap reverse h ∙ reverse-append xs (x ∷ [])

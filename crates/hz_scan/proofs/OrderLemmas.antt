-- Tokens lie one behind the other, and a scan may begin in the middle of them.
use Rattle.std.proofs.Common.{◌≡◌, ℕ, zero, suc, ◌+◌, ◌-◌, ◌≤◌, min, Bool, true, false, ◌&&◌, ◌||◌, if◌then◌else◌}
use Rattle.std.proofs.Common.{cond, ◌==◌, List, [], ◌∷◌, ◌++◌, length, take, drop, slice_range, codes, refl, ap, sym}
use Rattle.std.proofs.Common.{◌∙◌, subst, arith}
use Rattle.std.proofs.lemmas.List.{length-take, length-drop}
use Rattle.hz_tree.specs.tokens.Text.{Text, begins, joined, run}
use Rattle.hz_tree.specs.tokens.Spaces.{line_comment, space_part, gap}
use Rattle.hz_tree.specs.tokens.Tokens.{Lexeme, token, token_behind, is_last, braces, in_hole, tokens_to, tokens_from}
use Rattle.hz_tree.specs.tokens.Tokens.{tokens}
use Rattle.hz_scan.specs.State.{Lies}
use Rattle.hz_scan.specs.Order.{InOrder, end_of, braces_behind}
use Rattle.hz_scan.proofs.PlaceLemmas.{run_within, space_part-within, begins_two, line_comment-within}
use Rattle.hz_scan.proofs.PlaceLemmas.{token_behind-begins}
use Rattle.hz_scan.proofs.TokenLemmas.{tokens_law}

-- ---- order

gap_within : (is_start : Bool) (z : Text) → (gap is_start z).len ≤ length z
unfolding gap
gap_within is_start z =
    let comment = line_comment z in
    let more = run space_part (drop comment.len z) in
    elim (is_start && begins (codes "#!") z) as (λ t. (is_start && begins (codes "#!") z) ≡ t
    → (cond t (joined comment more) (run space_part z)).len ≤ length z) [
      | true ↦ λ e.
          let first : comment.len ≤ length z = line_comment-within z
          (begins_two 35 33 z (omega arith) (both_right is_start _ e)) in
          let later : more.len ≤ length (drop comment.len z) =
          run_within space_part space_part-within (drop comment.len z) in
          omega (arith, first, later, length-drop comment.len z)
      | false ↦ λ e. run_within space_part space_part-within z
    ] refl
  where
    both_right : (a b : Bool) → (a && b) ≡ true → b ≡ true
    both_right true b h = h
    both_right false b h = absurd (cc)

take_own : (n : ℕ) (z : Text) → take n z ≡ take (length (take n z)) z
take_own zero z = refl
take_own (suc n) [] = refl
take_own (suc n) (b ∷ z) = ap (λ y. b ∷ y) (take_own n z)

slice_own : (z : Text) (at len : ℕ) → slice_range z at (at + len)
    ≡ slice_range z at (at + length (slice_range z at (at + len)))
slice_own z at len =
    let here : (n : ℕ) → at + n - at ≡ n = λ n. omega arith in
    rw (here len, here (length (take len (drop at z)))) (take_own len (drop at z))

pub behind_lies : (hole : Bool) (source : Text) (place : ℕ) → place ≤ length source
    → Lies source place (token_behind hole source place)
unfolding token_behind
behind_lies hole source place h =
    let space = gap (place == 0) (drop place source) in
    let at = place + space.len in
    let front = token hole (space.marked || place == 0) (drop at source) in
    let within : space.len ≤ length (drop place source) = gap_within (place == 0) (drop place source) in
    let starts : at ≤ length source = omega (arith, within, length-drop place source) in
    let size : length (slice_range source at (at + front.len)) ≡ min (at + front.len - at) (length source - at) =
    simp (length-take, length-drop) in
    record { after = omega arith; inside = omega (arith, size, starts); slice = slice_own source at front.len }

in_order_to : (n : ℕ) (opened : List Bool) (source : Text) (place : ℕ) → place ≤ length source
    → InOrder source place (tokens_to n opened source place)
in_order_to zero opened source place h = tt
in_order_to (suc n) opened source place h =
    let t = token_behind (in_hole opened) source place in
    let lies : Lies source place t = behind_lies (in_hole opened) source place h in (
      lies,
      elim (is_last t.kind) as (λ b. InOrder source (end_of t)
          (if b then [] else tokens_to n (braces t opened) source (end_of t))) [
            | true ↦ tt
            | false ↦ in_order_to n (braces t opened) source (end_of t) lies.inside
          ],
    )

pub in_order : (source : Text) → InOrder source 0 (tokens source)
unfolding tokens_from
in_order source = in_order_to (suc (length source - 0)) [] source 0 (omega arith)

-- ---- from the middle

-- the tokens behind a place begin with this one
module _ (opened : List Bool) (source : Text) (place : ℕ) (t : Lexeme) (ts : List Lexeme)
    (from : tokens_from opened source place ≡ t ∷ ts) where
  abbrev u : Lexeme
  u = token_behind (in_hole opened) source place

  law : u ∷ (if is_last u.kind then [] else tokens_from (braces u opened) source (end_of u)) ≡ t ∷ ts
  law = sym (tokens_law opened source place) ∙ from

  same : u ≡ t
  same = cc (law)

  pub rest : (if is_last t.kind then [] else tokens_from (braces t opened) source (end_of t)) ≡ ts
  rest = rw same at (tail_same _ _ _ _ law)
    where
      tail_same : (a b : Lexeme) (ts us : List Lexeme) → a ∷ ts ≡ b ∷ us → ts ≡ us
      tail_same a b ts us h = cc (h)

  pub behind_first : is_last t.kind ≡ false → tokens_from (braces t opened) source (end_of t) ≡ ts
  behind_first more = rw more at rest

  pub at_first : begins (codes "-->") (drop t.at source) ≡ false → tokens_from opened source t.at
      ≡ record t { newline = false } ∷ ts
  at_first no_comment =
      let again : token_behind (in_hole opened) source t.at ≡ record t { newline = false }
      = subst (λ x. begins (codes "-->") (drop x.at source) ≡ false → token_behind (in_hole opened) source x.at
      ≡ record x { newline = false }) same (token_behind-begins (in_hole opened) source place) no_comment in
      tokens_law opened source t.at ∙ rw again (ap (λ more. record t { newline = false } ∷ more) rest)

not_nil : (before after : List Lexeme) (t : Lexeme) → [] ≡ before ++ t ∷ after → ⊥
not_nil [] after t h = cc (h)
not_nil (b ∷ before) after t h = cc (h)

-- a token of them stands behind a place
stands : (opened : List Bool) (source : Text) (place : ℕ) (before after : List Lexeme) (t : Lexeme)
    → tokens_from opened source place ≡ before ++ t ∷ after
    → (p : ℕ) × (tokens_from (braces_behind before opened) source p ≡ t ∷ after)
stands opened source place [] after t h = (place, h)
stands opened source place (b ∷ before) after t h =
    elim (is_last b.kind) as (λ l. is_last b.kind ≡ l → (p : ℕ)
    × (tokens_from (braces_behind before (braces b opened)) source p ≡ t ∷ after)) [
      | true ↦ λ e. absurd (not_nil before after t (rw e at (rest opened source place b (before ++ t ∷ after) h)))
      | false ↦ λ e. stands (braces b opened) source (end_of b) before after t
          (behind_first opened source place b (before ++ t ∷ after) h e)
    ] refl

braces_last : (before : List Lexeme) (t : Lexeme) (opened : List Bool) → braces_behind (before ++ t ∷ []) opened
    ≡ braces t (braces_behind before opened)
braces_last [] t opened = refl
braces_last (b ∷ before) t opened = braces_last before t (braces b opened)

pub behind_token : (source : Text) (before after : List Lexeme) (t : Lexeme) → tokens source ≡ before ++ t ∷ after
    → is_last t.kind ≡ false → tokens_from (braces_behind (before ++ t ∷ []) []) source (end_of t) ≡ after
behind_token source before after t h more =
    let here = stands [] source 0 before after t h in
    rw (braces_last before t []) (behind_first (braces_behind before []) source here.0 t after here.1 more)

pub at_token : (source : Text) (before after : List Lexeme) (t : Lexeme) → tokens source ≡ before ++ t ∷ after
    → begins (codes "-->") (drop t.at source) ≡ false
    → tokens_from (braces_behind before []) source t.at ≡ record t { newline = false } ∷ after
at_token source before after t h no_comment =
    let here = stands [] source 0 before after t h in
    at_first (braces_behind before []) source here.0 t after here.1 no_comment

-- ---- number

few_to : (n : ℕ) (opened : List Bool) (source : Text) (place : ℕ) → length (tokens_to n opened source place) ≤ n
few_to zero opened source place = omega arith
few_to (suc n) opened source place =
    let t = token_behind (in_hole opened) source place in
    elim (is_last t.kind) as (λ b. suc (length (if b then [] else tokens_to n (braces t opened) source (end_of t))) ≤
    suc n) [
      | true ↦ omega arith
      | false ↦ let more = few_to n (braces t opened) source (end_of t) in omega arith
    ]

-- each token but the last one has a byte
pub few : (source : Text) → length (tokens source) ≤ suc (length source)
unfolding tokens_from
few source = let all = few_to (suc (length source - 0)) [] source 0 in omega (arith, all)

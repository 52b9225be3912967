-- The tokens from a place at which a token begins are those from where the one before it ended.
use Rattle.std.proofs.Common.{◌≡◌, ℕ, zero, suc, ◌+◌, ◌-◌, ◌≤◌, Bool, true, false, ◌&&◌, ◌||◌, cond, if◌then◌else◌}
use Rattle.std.proofs.Common.{◌==◌, [], ◌∷◌, length, drop, slice_range, codes, add-zero, refl, ap, arith}
use Rattle.std.proofs.lemmas.List.{length-drop, drop-drop}
use Rattle.std.proofs.lemmas.Bool.Decides.{nat_tests}
use Rattle.hz_tree.specs.declared.front.Front.{Front}
use Rattle.hz_tree.specs.declared.front.Stretch.{Stretch}
use Rattle.hz_tree.specs.tokens.Text.{Text, begins, none, plain, joined, run_from, run}
use Rattle.hz_tree.specs.tokens.Characters.{code_point, char_len, is_white_space, is_line_terminator}
use Rattle.hz_tree.specs.tokens.Spaces.{line_part, line_comment, block_part, block_comment, blank, space_part, gap}
use Rattle.hz_tree.specs.tokens.Tokens.{Lexeme, token, token_behind}
use Rattle.hz_scan.proofs.TextLemmas.{is_zero, run_stops, run_goes}

-- ---- runs

-- each part lies inside its text
abbrev Within : (Text → Stretch) → Type 0
Within part = (z : Text) → (part z).len ≤ length z

run_from-end : (part : Text → Stretch) → Within part → (n : ℕ) (z : Text) → n ≤ length z
    → (part (drop (n + (run_from part n z).len) z)).len ≡ 0
run_from-end part within zero [] h = let none_there : (part []).len ≤ 0 = within [] in omega arith
run_from-end part within (suc n) [] h = absurd (omega arith)
run_from-end part within (suc n) (b ∷ z) h =
    let len = (run_from part n z).len in
    let e : suc n + len ≡ suc (n + len) = omega arith in
    rw e (run_from-end part within n z (omega arith))
run_from-end part within zero (b ∷ z) h =
    let p = part (b ∷ z) in
    let more = run_from part (p.len - 1) z in
    elim (p.len == 0) as (λ t. (p.len == 0) ≡ t → (part (drop (0 + (cond t none (joined p more)).len) (b ∷ z))).len
    ≡ 0) [
      | true ↦ λ e. grind (arith, nat_tests)
      | false ↦ λ e.
          let inside : p.len ≤ suc (length z) = within (b ∷ z) in
          let some : 1 ≤ p.len = grind (arith, nat_tests) in
          let sum : 0 + (p.len + more.len) ≡ suc ((p.len - 1) + more.len) = omega arith in
          rw sum (run_from-end part within (p.len - 1) z (omega arith))
    ] refl

pub run_end : (part : Text → Stretch) → Within part → (z : Text) → (part (drop (run part z).len z)).len ≡ 0
unfolding run
run_end part within z =
    let e : 0 + (run_from part 0 z).len ≡ (run_from part 0 z).len = omega arith in
    rw e at (run_from-end part within 0 z (omega arith))

run_from-within : (part : Text → Stretch) → Within part → (n : ℕ) (z : Text) → n ≤ length z
    → n + (run_from part n z).len ≤ length z
run_from-within part within zero [] h = omega arith
run_from-within part within (suc n) [] h = absurd (omega arith)
run_from-within part within (suc n) (b ∷ z) h = let so_far = run_from-within part within n z (omega arith) in
    omega arith
run_from-within part within zero (b ∷ z) h =
    let p = part (b ∷ z) in
    let more = run_from part (p.len - 1) z in
    elim (p.len == 0) as (λ t. (p.len == 0) ≡ t → 0 + (cond t none (joined p more)).len ≤ suc (length z)) [
      | true ↦ λ e. omega arith
      | false ↦ λ e.
          let inside : p.len ≤ suc (length z) = within (b ∷ z) in
          let some : 1 ≤ p.len = grind (arith, nat_tests) in
          let so_far : (p.len - 1) + more.len ≤ length z = run_from-within part within (p.len - 1) z (omega arith) in
          omega arith
    ] refl

pub run_within : (part : Text → Stretch) → Within part → (z : Text) → (run part z).len ≤ length z
unfolding run
run_within part within z = let all : 0 + (run_from part 0 z).len ≤ length z =
    run_from-within part within 0 z (omega arith) in omega arith

-- a run of no length has no part
pub run_none : (part : Text → Stretch) → Within part → (z : Text) → (run part z).len ≡ 0 → run part z ≡ none
run_none part within z h = elim ((part z).len == 0) as (λ t. ((part z).len == 0) ≡ t → run part z ≡ none) [
  | true ↦ λ e. run_stops part z (grind (arith, nat_tests))
  | false ↦ λ e.
      let some : 1 ≤ (part z).len = grind (arith, nat_tests) in
      let goes : (run part z).len ≡ (part z).len + (run part (drop (part z).len z)).len =
      ap (λ p. p.len) (run_goes part z some (within z)) in
      absurd (omega arith)
] refl

-- ---- spaces

-- both parts of a choice fit
fits_either : (test : Bool) (a b : Stretch) (n : ℕ) → (test ≡ true → a.len ≤ n) → (test ≡ false → b.len ≤ n)
    → (cond test a b).len ≤ n
fits_either test a b n p q =
    elim test as (λ t. (t ≡ true → a.len ≤ n) → (t ≡ false → b.len ≤ n) → (cond t a b).len ≤ n) [
      | true ↦
          λ p q. p refl
      | false ↦ λ p q. q refl
    ] p q

pub begins_two : (a b : ℕ) (z : Text) → 1 ≤ b → begins (a ∷ b ∷ []) z ≡ true → 2 ≤ length z
begins_two a b [] some h = absurd (grind (arith, nat_tests))
begins_two a b (c ∷ []) some h = absurd (grind (arith, nat_tests))
begins_two a b (c ∷ d ∷ z) some h = omega arith

char_within : (z : Text) → char_len z ≤ length z
unfolding char_len
char_within z = omega arith

line_part-within : Within line_part
unfolding line_part
line_part-within z = fits_either (is_line_terminator (code_point z)) none (plain (char_len z)) (length z)
    (λ _. omega arith) (λ _. char_within z)

block_part-within : Within block_part
unfolding block_part
block_part-within z =
    fits_either (begins (codes "*/") z) none (record { len = char_len z; marked = is_line_terminator (code_point z) })
    (length z) (λ _. omega arith) (λ _. char_within z)

pub line_comment-within : (z : Text) → 2 ≤ length z → (line_comment z).len ≤ length z
unfolding line_comment
line_comment-within z h =
    let body : (run line_part (drop 2 z)).len ≤ length (drop 2 z) = run_within line_part line_part-within (drop 2 z) in
    omega (arith, body, length-drop 2 z)

block_comment-within : (z : Text) → (block_comment z).len ≤ length z
unfolding block_comment
block_comment-within z =
    let body = run block_part (drop 2 z) in
    fits_either (begins (codes "*/") (drop (body.len + 2) z)) (record { len = body.len + 4; marked = body.marked })
    none (length z)
    (λ e. let two : 2 ≤ length (drop (body.len + 2) z) = begins_two 42 47 (drop (body.len + 2) z) (omega arith) e in
    omega (arith, length-drop (body.len + 2) z))
    (λ _. omega arith)

blank-within : (z : Text) → (blank z).len ≤ length z
unfolding blank
blank-within z =
    fits_either (is_white_space (code_point z)) (plain (char_len z))
    (if is_line_terminator (code_point z) then record { len = char_len z; marked = true } else none) (length z)
    (λ _. char_within z)
    (λ _. fits_either (is_line_terminator (code_point z)) (record { len = char_len z; marked = true }) none (length z)
    (λ _. char_within z) (λ _. omega arith))

pub space_part-within : Within space_part
unfolding space_part
space_part-within z =
    fits_either (begins (codes "//") z) (line_comment z) (if begins (codes "/*") z then block_comment z else blank z)
    (length z)
    (λ e. line_comment-within z (begins_two 47 47 z (omega arith) e))
    (λ _. fits_either (begins (codes "/*") z) (block_comment z) (blank z) (length z) (λ _. block_comment-within z)
    (λ _. blank-within z))

-- ---- what stands before a token

-- behind a gap stands no space
gap_end : (is_start : Bool) (z : Text) → (space_part (drop (gap is_start z).len z)).len ≡ 0
unfolding gap
gap_end is_start z =
    let comment = line_comment z in
    let more = run space_part (drop comment.len z) in
    elim (is_start && begins (codes "#!") z) as (λ t. (space_part
    (drop (cond t (joined comment more) (run space_part z)).len z)).len ≡ 0) [
      | true ↦ rw (← drop-drop more.len comment.len z) (run_end space_part space_part-within (drop comment.len z))
      | false ↦ run_end space_part space_part-within z
    ]

-- a gap of no length is none
gap_none : (is_start : Bool) (z : Text) → (gap is_start z).len ≡ 0 → gap is_start z ≡ none
unfolding gap line_comment
gap_none is_start z =
    let comment = plain ((run line_part (drop 2 z)).len + 2) in
    let more = run space_part (drop comment.len z) in
    elim (is_start && begins (codes "#!") z) as (λ t. (cond t (joined comment more) (run space_part z)).len ≡ 0
    → cond t (joined comment more) (run space_part z) ≡ none) [
      | true ↦ λ h. absurd (omega arith)
      | false ↦ λ h. run_none space_part space_part-within z h
    ]

-- where no space stands, and not at the source's start, there is no gap
no_gap : (z : Text) → (space_part z).len ≡ 0 → gap false z ≡ none
unfolding gap
no_gap z h = run_stops space_part z h

-- whether a token leads its line says nothing where no `-->` stands
same_token : (hole leads other_leads : Bool) (z : Text) → begins (codes "-->") z ≡ false → token hole leads z
    ≡ token hole other_leads z
unfolding token
same_token hole true true z h = refl
same_token hole true false z h = rw h refl
same_token hole false true z h = rw h refl
same_token hole false false z h = refl

-- where a token begins there is no gap
gap_at : (source : Text) (place : ℕ) → (let at = place + (gap (place == 0) (drop place source)).len in
    gap (at == 0) (drop at source) ≡ none)
gap_at source place =
    let g = gap (place == 0) (drop place source) in
    let at = place + g.len in
    elim (at == 0) as (λ t. (at == 0) ≡ t → gap t (drop at source) ≡ none) [
      | true ↦ λ e.
          let start : place ≡ 0 = grind (arith, nat_tests) in
          let empty : g.len ≡ 0 = grind (arith, nat_tests) in
          let same : at ≡ place = omega arith in
          let known : gap (place == 0) (drop place source) ≡ none = gap_none (place == 0) (drop place source) empty in
          let is_start : (place == 0) ≡ true = is_zero place start in
          rw same (rw is_start at known)
      | false ↦ λ e.
          let ends : (space_part (drop g.len (drop place source))).len ≡ 0 = gap_end (place == 0) (drop place source) in
          no_gap (drop at source) (rw (drop-drop g.len place source) at ends)
    ] refl

abbrev lexeme_of : Front → (at : ℕ) → Text → Lexeme
lexeme_of front at source = record {
  kind = front.kind;
  at = at;
  text =
      slice_range source at (at + front.len);
  newline = false;
}

-- The token from the place at which it begins is the one from where the token before it ended, but for its
-- newline mark, unless it would then be a `-->` that does not lead its line.
pub token_behind-begins : (hole : Bool) (source : Text) (place : ℕ)
    → begins (codes "-->") (drop (token_behind hole source place).at source) ≡ false
    → token_behind hole source (token_behind hole source place).at
    ≡ record (token_behind hole source place) { newline = false }
unfolding token_behind
token_behind-begins hole source place h =
    let g = gap (place == 0) (drop place source) in
    let at = place + g.len in
    rw (gap_at source place, add-zero at)
    (ap (λ front. lexeme_of front at source) (same_token hole (at == 0) (g.marked || place == 0) (drop at source) h))

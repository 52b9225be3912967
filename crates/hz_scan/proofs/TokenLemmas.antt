-- A token that is not the last one has a byte, and so the list of tokens needs no bound on its length.
use Rattle.std.proofs.Common.{◌≡◌, ℕ, zero, suc, ◌+◌, ◌-◌, ◌<◌, ◌≤◌, min, Bool, true, false, ◌||◌, ◌&&◌, cond}
use Rattle.std.proofs.Common.{if◌then◌else◌, ◌==◌, nat_lt, List, [], ◌∷◌, length, drop, slice_index, slice_range}
use Rattle.std.proofs.Common.{refl, ap, arith}
use Rattle.std.proofs.lemmas.List.{length-take, length-drop, drop_all}
use Rattle.std.proofs.lemmas.Bool.Decides.{nat_tests}
use Rattle.hz_tree.specs.declared.front.Front.{Front}
use Rattle.std.specs.Char.{is_ascii_digit}
use Rattle.hz_tree.specs.declared.outside.BadKind.{BadKind}
use Rattle.hz_tree.specs.declared.outside.BadKind.TheVariants.{Outside}
use Rattle.hz_tree.specs.declared.outside.OutsideKind.TheVariants.{NumberForm, HtmlComment}
use Rattle.hz_tree.specs.declared.token.TokenKind.{TokenKind}
use Rattle.hz_tree.specs.declared.token.TokenKind.TheVariants.{End}
use Rattle.hz_tree.specs.tokens.Text.{Text}
use Rattle.hz_tree.specs.tokens.Characters.{code_point, starts_name, char_len}
use Rattle.hz_tree.specs.tokens.Spaces.{gap}
use Rattle.hz_tree.specs.tokens.Names.{name}
use Rattle.hz_tree.specs.tokens.Numbers.{bad, literal, valued, non_decimal, decimal, number}
use Rattle.hz_tree.specs.tokens.Literals.{text, template}
use Rattle.hz_tree.specs.tokens.Tokens.{Lexeme, sign, other, is_html_comment, token, token_behind, is_last, braces}
use Rattle.hz_tree.specs.tokens.Tokens.{in_hole, tokens_to, tokens_from}

-- the token has a byte, unless it is the last one
record Moves (f : Front) : Type 0 where
  moves : is_last f.kind ≡ false → 1 ≤ f.len

either_moves : (test : Bool) (f g : Front) → Moves f → Moves g → Moves (cond test f g)
either_moves test f g a b = elim test as (λ t. Moves (cond t f g)) [ true ↦ a | false ↦ b ]

bad_moves : (cause : BadKind) → Moves (bad cause)
bad_moves cause = record { moves = λ e. cc }

some_moves : (kind : TokenKind) (len : ℕ) → 1 ≤ len → Moves (record { kind = kind; len = len })
some_moves kind len h = record { moves = λ _. h }

literal_moves : (kind : TokenKind) (len : ℕ) (z : Text) → 1 ≤ len → Moves (literal kind len z)
unfolding literal
literal_moves kind len z h = search (arith, either_moves, bad_moves, some_moves)

valued_moves : (value len : ℕ) (z : Text) → 1 ≤ len → Moves (valued value len z)
unfolding valued
valued_moves value len z h = search (arith, either_moves, bad_moves, literal_moves)

decimal_moves : (len : ℕ) (z : Text) → 1 ≤ len → Moves (decimal len z)
unfolding decimal
decimal_moves len z h = search (arith, either_moves, bad_moves, literal_moves)

number_moves : (z : Text) → Moves (number z)
unfolding number non_decimal
number_moves z = search (arith, either_moves, decimal_moves, literal_moves, valued_moves)

char_moves : (z : Text) → 1 ≤ length z → 1 ≤ char_len z
unfolding char_len
char_moves z h = grind (arith, nat_tests)

name_moves : (z : Text) → 1 ≤ length z → Moves (name z)
unfolding name
name_moves z h = some_moves _ _ (omega (arith, char_moves z h))

text_moves : (z : Text) → Moves (text z)
unfolding text
text_moves z = search (arith, either_moves, bad_moves, some_moves)

template_moves : (first : Bool) (z : Text) → Moves (template first z)
unfolding template
template_moves first z = search (arith, either_moves, bad_moves, some_moves)

sign_moves : (z : Text) → Moves (sign z)
unfolding sign
sign_moves z = record { moves = grind (arith, nat_tests) }

other_moves : (z : Text) → Moves (other z)
unfolding other
other_moves z = search (either_moves, bad_moves, sign_moves)

end_moves : Moves (record { kind = End; len = 0 })
end_moves = record { moves = λ e. cc }

either_known : (test : Bool) (f g : Front) → Moves f → (test ≡ false → Moves g) → Moves (cond test f g)
either_known test f g a b = elim test as (λ t. (t ≡ false → Moves g) → Moves (cond t f g)) [
  | true ↦ λ _. a
  | false ↦
      λ h. h refl
] b

not_empty : (z : Text) → (length z == 0) ≡ false → 1 ≤ length z
not_empty z h = grind (arith, nat_tests)

named_moves : (z : Text) → (length z == 0) ≡ false → Moves (name z)
named_moves z h = name_moves z (not_empty z h)

signs_moves : (hole leads : Bool) (z : Text)
    → Moves (if slice_index z 0 == 125 && hole then template false z
    else (if is_html_comment leads z then bad (Outside HtmlComment) else other z))
signs_moves hole leads z = search (either_moves, bad_moves, template_moves, other_moves)

literals_moves : (hole leads : Bool) (z : Text)
    → Moves (if slice_index z 0 == 46 && is_ascii_digit (slice_index z 1) then bad (Outside NumberForm)
    else (if slice_index z 0 == 34 || slice_index z 0 == 39 then text z
    else (if slice_index z 0 == 96 then template true z
    else (if slice_index z 0 == 125 && hole then template false z
    else (if is_html_comment leads z then bad (Outside HtmlComment) else other z)))))
literals_moves hole leads z = search (either_moves, bad_moves, text_moves, template_moves, signs_moves)

pub token_moves : (hole leads : Bool) (z : Text) → is_last (token hole leads z).kind ≡ false
    → 1 ≤ (token hole leads z).len
unfolding token
token_moves hole leads z =
    let all : Moves (token hole leads z) = either_known (length z == 0) _ _ end_moves (λ h.
    let named : Moves (name z) = named_moves z h in
    either_moves (starts_name (code_point z)) (name z) _ named
    (either_moves (is_ascii_digit (slice_index z 0)) (number z) _ (number_moves z) (literals_moves hole leads z))) in
    all.moves

token_nil : (hole leads : Bool) → is_last (token hole leads []).kind ≡ true
unfolding token
token_nil hole leads = refl

last_not : {b : Bool} → b ≡ false → b ≡ true → ⊥
last_not f t = cc (f, t)

at_inside : (hole leads : Bool) (source : Text) (at : ℕ) → is_last (token hole leads (drop at source)).kind ≡ false
    → at < length source
at_inside hole leads source at h = elim (nat_lt at (length source)) as (λ b. nat_lt at (length source) ≡ b
    → at < length source) [
      | true ↦ λ e. grind (arith, nat_tests)
      | false ↦ λ e.
          let beyond : length source ≤ at = grind (arith, nat_tests) in
          let nil : drop at source ≡ [] = drop_all at source beyond in
          let last : is_last (token hole leads []).kind ≡ false = rw nil at h in
          absurd (last_not last (token_nil hole leads))
    ] refl

either_same : (test : Bool) (a b : List Lexeme) → (test ≡ false → a ≡ b) → (if test then [] else a)
    ≡ (if test then [] else b)
either_same test a b same = elim test as (λ t. (t ≡ false → a ≡ b) → (if t then [] else a)
    ≡ (if t then [] else b)) [ true ↦ λ _. refl | false ↦ λ h. h refl ] same

-- a token that is not the last one lies inside the source, and the place behind it is a later one
pub token_behind_moves : (hole : Bool) (source : Text) (place : ℕ) → is_last (token_behind hole source place).kind
    ≡ false
    → (place < (token_behind hole source place).at + length (token_behind hole source place).text)
    × ((token_behind hole source place).at + length (token_behind hole source place).text ≤ length source)
unfolding token_behind
token_behind_moves hole source place h =
    let space = gap (place == 0) (drop place source) in
    let at = place + space.len in
    let front = token hole (space.marked || place == 0) (drop at source) in
    let some : 1 ≤ front.len = token_moves hole (space.marked || place == 0) (drop at source) h in
    let inside : at < length source = at_inside hole (space.marked || place == 0) source at h in
    let size : length (slice_range source at (at + front.len)) ≡ min (at + front.len - at) (length source - at) =
    simp (length-take, length-drop) in
    (omega arith, omega arith)

-- a token that is not the last one has a byte
pub some_text : (hole : Bool) (source : Text) (place : ℕ) → is_last (token_behind hole source place).kind ≡ false
    → 1 ≤ length (token_behind hole source place).text
unfolding token_behind
some_text hole source place h =
    let space = gap (place == 0) (drop place source) in
    let at = place + space.len in
    let front = token hole (space.marked || place == 0) (drop at source) in
    let some : 1 ≤ front.len = token_moves hole (space.marked || place == 0) (drop at source) h in
    let inside : at < length source = at_inside hole (space.marked || place == 0) source at h in
    let size : length (slice_range source at (at + front.len)) ≡ min (at + front.len - at) (length source - at) =
    simp (length-take, length-drop) in
    omega arith

tokens_more : (n m : ℕ) (opened : List Bool) (source : Text) (place : ℕ) → length source - place < n
    → length source - place < m
    → tokens_to n opened source place ≡ tokens_to m opened source place
tokens_more zero m opened source place h k = absurd (omega arith)
tokens_more (suc n) zero opened source place h k = absurd (omega arith)
tokens_more (suc n) (suc m) opened source place h k =
    let t = token_behind (in_hole opened) source place in
    let more : is_last t.kind ≡ false → tokens_to n (braces t opened) source (t.at + length t.text)
    ≡ tokens_to m (braces t opened) source (t.at + length t.text)
    = λ e. let moves = token_behind_moves (in_hole opened) source place e in
    tokens_more n m (braces t opened) source (t.at + length t.text) (omega arith) (omega arith) in
    ap (λ ts. t ∷ ts) (either_same (is_last t.kind) _ _ more)

-- The list of tokens behind a place: the next one, and unless it is the last one those behind it.
pub tokens_law : (opened : List Bool) (source : Text) (place : ℕ) → tokens_from opened source place
    ≡ (let t = token_behind (in_hole opened) source place in
    t ∷ (if is_last t.kind then [] else tokens_from (braces t opened) source (t.at + length t.text)))
unfolding tokens_from
tokens_law opened source place =
    let t = token_behind (in_hole opened) source place in
    let next = t.at + length t.text in
    let more : is_last t.kind ≡ false → tokens_to (length source - place) (braces t opened) source next
    ≡ tokens_to (suc (length source - next)) (braces t opened) source next
    = λ e. let moves = token_behind_moves (in_hole opened) source place e in
    tokens_more (length source - place) (suc (length source - next)) (braces t opened) source next (omega arith)
    (omega arith) in
    ap (λ ts. t ∷ ts) (either_same (is_last t.kind) _ _ more)

-- The token at the end of a source stands there, and nowhere else.
use Rattle.std.proofs.Common.{◌≡◌, ℕ, ◌+◌, ◌≤◌, Bool, true, false, ◌&&◌, ◌||◌, cond, if◌then◌else◌, ◌==◌}
use Rattle.std.proofs.Common.{length, drop, slice_index, refl, sym, ap, arith}
use Rattle.std.proofs.lemmas.List.{length-drop}
use Rattle.std.proofs.lemmas.Bool.Decides.{nat_tests}
use Rattle.std.specs.Char.{is_ascii_digit}
use Rattle.hz_tree.specs.declared.front.Front.{Front}
use Rattle.hz_tree.specs.declared.outside.BadKind.{BadKind}
use Rattle.hz_tree.specs.declared.outside.BadKind.TheVariants.{Outside}
use Rattle.hz_tree.specs.declared.outside.OutsideKind.TheVariants.{NumberForm, HtmlComment}
use Rattle.hz_tree.specs.declared.token.TokenKind.{TokenKind}
use Rattle.hz_tree.specs.declared.token.TokenKind.TheVariants.{Word, Name, End}
use Rattle.hz_tree.specs.tokens.Text.{Text}
use Rattle.hz_tree.specs.tokens.Characters.{code_point, starts_name}
use Rattle.hz_tree.specs.tokens.Spaces.{gap}
use Rattle.hz_tree.specs.tokens.Names.{name}
use Rattle.hz_tree.specs.tokens.Numbers.{bad, literal, valued, non_decimal, decimal, number}
use Rattle.hz_tree.specs.tokens.Literals.{text, template}
use Rattle.hz_tree.specs.tokens.Tokens.{sign, other, is_html_comment, token, token_behind}

abbrev is_end : TokenKind → Bool
is_end End = true
is_end kind = false

-- the token is not the end of the source
record Begins (f : Front) : Type 0 where
  begins : is_end f.kind ≡ false

either_begins : (test : Bool) (f g : Front) → Begins f → Begins g → Begins (cond test f g)
either_begins test f g a b = elim test as (λ t. Begins (cond t f g)) [ true ↦ a | false ↦ b ]

bad_begins : (cause : BadKind) → Begins (bad cause)
bad_begins cause = record { begins = refl }

some_begins : (kind : TokenKind) (len : ℕ) → is_end kind ≡ false → Begins (record { kind = kind; len = len })
some_begins kind len h = record { begins = h }

literal_begins : (kind : TokenKind) (len : ℕ) (z : Text) → is_end kind ≡ false → Begins (literal kind len z)
unfolding literal
literal_begins kind len z h = search (either_begins, bad_begins, some_begins)

valued_begins : (value len : ℕ) (z : Text) → Begins (valued value len z)
unfolding valued
valued_begins value len z = search (either_begins, bad_begins, literal_begins)

decimal_begins : (len : ℕ) (z : Text) → Begins (decimal len z)
unfolding decimal
decimal_begins len z = search (either_begins, bad_begins, literal_begins)

number_begins : (z : Text) → Begins (number z)
unfolding number non_decimal
number_begins z = search (either_begins, decimal_begins, literal_begins, valued_begins)

name_begins : (z : Text) → Begins (name z)
unfolding name
name_begins z = record { begins = named _ }
  where
    named : (test : Bool) → is_end (if test then Word else Name) ≡ false
    named true = refl
    named false = refl

text_begins : (z : Text) → Begins (text z)
unfolding text
text_begins z = search (either_begins, bad_begins, some_begins)

template_begins : (first : Bool) (z : Text) → Begins (template first z)
unfolding template
template_begins first z = search (either_begins, bad_begins, some_begins)

sign_begins : (z : Text) → Begins (sign z)
unfolding sign
sign_begins z = search (either_begins, bad_begins, some_begins)

other_begins : (z : Text) → Begins (other z)
unfolding other
other_begins z = search (either_begins, bad_begins, sign_begins)

signs_begin : (hole leads : Bool) (z : Text)
    → Begins (if slice_index z 0 == 125 && hole then template false z
    else (if is_html_comment leads z then bad (Outside HtmlComment) else other z))
signs_begin hole leads z = search (either_begins, bad_begins, template_begins, other_begins)

literals_begin : (hole leads : Bool) (z : Text)
    → Begins (if slice_index z 0 == 46 && is_ascii_digit (slice_index z 1) then bad (Outside NumberForm)
    else (if slice_index z 0 == 34 || slice_index z 0 == 39 then text z
    else (if slice_index z 0 == 96 then template true z
    else (if slice_index z 0 == 125 && hole then template false z
    else (if is_html_comment leads z then bad (Outside HtmlComment) else other z)))))
literals_begin hole leads z = search (either_begins, bad_begins, text_begins, template_begins, signs_begin)

named_begin : (hole leads : Bool) (z : Text)
    → Begins (if starts_name (code_point z) then name z
    else (if is_ascii_digit (slice_index z 0) then number z
    else (if slice_index z 0 == 46 && is_ascii_digit (slice_index z 1) then bad (Outside NumberForm)
    else (if slice_index z 0 == 34 || slice_index z 0 == 39 then text z
    else (if slice_index z 0 == 96 then template true z
    else (if slice_index z 0 == 125 && hole then template false z
    else (if is_html_comment leads z then bad (Outside HtmlComment) else other z)))))))
named_begin hole leads z = search (either_begins, name_begins, number_begins, literals_begin)

not_end : (kind : TokenKind) → kind ≡ End → is_end kind ≡ false → ⊥
not_end kind h e = cc (sym (ap is_end h), e)

either_end : (test : Bool) (f g : Front) (n : ℕ) → (test ≡ true → n ≡ 0) → Begins g → (cond test f g).kind ≡ End
    → n ≡ 0
either_end true f g n h b e = h refl
either_end false f g n h b e = absurd (not_end g.kind e b.begins)

token_end : (hole leads : Bool) (z : Text) → (token hole leads z).kind ≡ End → length z ≡ 0
unfolding token
token_end hole leads z h =
    either_end (length z == 0) _ _ (length z) (λ e. grind (arith, nat_tests)) (named_begin hole leads z) h

-- The token that is the end of a source stands at its end.
pub at_end : (hole : Bool) (source : Text) (place : ℕ) → (token_behind hole source place).kind ≡ End
    → length source ≤ (token_behind hole source place).at
unfolding token_behind
at_end hole source place h =
    let space = gap (place == 0) (drop place source) in
    let at = place + space.len in
    let none : length (drop at source) ≡ 0 = token_end hole _ (drop at source) h in
    omega (arith, none, length-drop at source)

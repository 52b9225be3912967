-- A token is the same whether a hole of a template is open or not, unless it begins with `}`.
use Rattle.std.proofs.Common.{◌≡◌, ℕ, ◌+◌, ◌-◌, Bool, true, false, ◌||◌, if◌then◌else◌, ◌==◌, ◌⊎◌, inl, inr}
use Rattle.std.proofs.Common.{[], ◌∷◌, length, drop, slice_index, slice_range, refl, ap, sym, ◌∙◌}
use Rattle.std.proofs.Common.{subst, arith}
use Rattle.std.proofs.lemmas.Bool.Decides.{nat_tests}
use Rattle.hz_tree.specs.declared.class.Class.TheVariants as k
use Rattle.hz_tree.specs.declared.front.Front.{Front}
use Rattle.hz_tree.specs.declared.outside.BadKind.TheVariants.{Syntax}
use Rattle.hz_tree.specs.declared.token.TokenKind.TheVariants.{Punct, Template}
use Rattle.hz_tree.specs.grammar.Classes.{class_by, class_of}
use Rattle.hz_tree.specs.reading.Reading.{has_octal}
use Rattle.hz_tree.specs.tokens.Literals.{template}
use Rattle.hz_tree.specs.tokens.Characters.{code_point, starts_name}
use Rattle.hz_tree.specs.tokens.Numbers.{bad}
use Rattle.hz_tree.specs.tokens.Punctuators.{punctuator_len, punctuator_of}
use Rattle.hz_tree.specs.tokens.Spaces.{gap}
use Rattle.hz_tree.specs.tokens.Text.{Text}
use Rattle.hz_tree.specs.tokens.Tokens.{Lexeme, sign, other, token, token_behind}
use Rattle.hz_alone.specs.Middle.{goes_on}

-- the token ends a hole, and is a `}` where none is open
pub record HoleFront (in_hole outside : Front) (z : Text) : Type 0 where
  pub rest : Text
  pub first : z ≡ 125 ∷ rest
  pub template_is : in_hole ≡ template false z
  pub brace_is : outside ≡ record { kind = Punct; len = 1 }

same_else : (leads : Bool) (z : Text) → (slice_index z 0 == 125) ≡ false → token true leads z ≡ token false leads z
unfolding token
same_else leads z h = rw h refl

not_empty : (rest : Text) → (length (125 ∷ rest) == 0) ≡ false
not_empty rest = grind (arith, nat_tests)

closing : (rest : Text) → starts_name (code_point (125 ∷ rest)) ≡ false
unfolding code_point starts_name
closing rest = refl

closing_template : (leads : Bool) (rest : Text) → token true leads (125 ∷ rest) ≡ template false (125 ∷ rest)
unfolding token
closing_template leads rest = rw (not_empty rest, closing rest) refl

closing_brace : (leads : Bool) (rest : Text) → token false leads (125 ∷ rest) ≡ record { kind = Punct; len = 1 }
unfolding token other sign punctuator_len punctuator_of
closing_brace true rest = rw (not_empty rest, closing rest) refl
closing_brace false rest = rw (not_empty rest, closing rest) refl

is_closing : (b : ℕ) → (b == 125) ≡ true → b ≡ 125
is_closing b h = grind (arith, nat_tests)

pub fronts : (leads : Bool) (z : Text)
    → (token true leads z ≡ token false leads z) ⊎ HoleFront (token true leads z) (token false leads z) z
fronts leads [] = inl (same_else leads [] refl)
fronts leads (b ∷ rest) = elim (b == 125) as (λ t. (b == 125) ≡ t
    → (token true leads (b ∷ rest) ≡ token false leads (b ∷ rest))
    ⊎ HoleFront (token true leads (b ∷ rest)) (token false leads (b ∷ rest)) (b ∷ rest)) [
      | false ↦ λ e. inl (same_else leads (b ∷ rest) e)
      | true ↦ λ e. inr (subst (λ c. HoleFront (token true leads (c ∷ rest)) (token false leads (c ∷ rest)) (c ∷ rest))
          (sym (is_closing b e)) (record {
            rest = rest;
            first = refl;
            template_is = closing_template leads rest;
            brace_is = closing_brace leads rest;
          }))
    ] refl

-- ---- tokens

-- a token ends a hole, and is the end of a block for a reader that does not know of the hole
pub record EndsToken (t u : Lexeme) : Type 0 where
  pub hole : goes_on (class_of t) ≡ true
  pub brace : class_of u ≡ k.RightBrace
  pub at : t.at ≡ u.at
  pub newline : t.newline ≡ u.newline
  pub octal : has_octal t.kind ≡ has_octal u.kind

record Goes (f : Front) : Type 0 where
  hole : (text : Text) → goes_on (class_by f.kind text) ≡ true
  octal : has_octal f.kind ≡ false

goes_if : (test : Bool) (a b : Front) → Goes a → Goes b → Goes (if test then a else b)
goes_if true a b h i = h
goes_if false a b h i = i

part_goes : (last : Bool) (len : ℕ) → Goes (record { kind = Template false last; len = len })
unfolding class_by
part_goes true len = record { hole = λ text. refl; octal = refl }
part_goes false len = record { hole = λ text. refl; octal = refl }

unfinished_goes : Goes (bad Syntax)
unfolding class_by
unfinished_goes = record { hole = λ text. refl; octal = refl }

template_goes : (z : Text) → Goes (template false z)
unfolding template
template_goes z = search (goes_if, part_goes, unfinished_goes)

brace_class : class_by Punct (125 ∷ []) ≡ k.RightBrace
unfolding class_by
brace_class = refl

one_byte : (source : Text) (at : ℕ) (rest : Text) → drop at source ≡ 125 ∷ rest
    → slice_range source at (at + 1) ≡ 125 ∷ []
one_byte source at rest h =
    let here : at + 1 - at ≡ 1 = omega arith in rw (here, h) refl

abbrev made : (source : Text) → (newline : Bool) → (at : ℕ) → Front → Lexeme
made source newline at front =
    record { kind = front.kind; at = at; text = slice_range source at (at + front.len); newline = newline }

part_by : (source : Text) (newline : Bool) (at : ℕ) (f g : Front) → (f ≡ g) ⊎ HoleFront f g (drop at source)
    → (made source newline at f ≡ made source newline at g)
    ⊎ EndsToken (made source newline at f) (made source newline at g)
part_by source newline at f g (inl same) = inl (ap (made source newline at) same)
part_by source newline at f g (inr ends) =
    let goes : Goes f = subst Goes (sym ends.template_is) (template_goes (drop at source)) in
    inr (record {
      hole = goes.hole (slice_range source at (at + f.len));
      brace =
          ap (λ x. class_by x.kind (slice_range source at (at + x.len))) ends.brace_is
          ∙ ap (class_by Punct) (one_byte source at ends.rest ends.first) ∙ brace_class;
      at = refl;
      newline = refl;
      octal = goes.octal ∙ sym (ap (λ x. has_octal x.kind) ends.brace_is);
    })

pub tokens_part : (source : Text) (place : ℕ)
    → (token_behind true source place ≡ token_behind false source place)
    ⊎ EndsToken (token_behind true source place) (token_behind false source place)
unfolding token_behind
tokens_part source place =
    let space = gap (place == 0) (drop place source) in
    let at = place + space.len in
    let leads = space.marked || place == 0 in
    part_by source space.marked at (token true leads (drop at source)) (token false leads (drop at source))
    (fronts leads (drop at source))

-- A token that is not the last one counts where it is taken.
use Rattle.std.proofs.Common.{◌≡◌, Bool, true, false, not, ◌&&◌, if◌then◌else◌, List, [], ◌∷◌, refl, ap, sym, ◌∙◌}
use Rattle.std.specs.Str.{bytes_eq}
use denote.Enum.Bare.{same_true}
use Rattle.hz_tree.specs.contracts.class.Class.{the_type as class_type}
use Rattle.hz_tree.specs.declared.class.Class.{Class}
use Rattle.hz_tree.specs.declared.class.Class.TheVariants as k
use Rattle.hz_tree.specs.declared.outside.BadKind.{BadKind}
use Rattle.hz_tree.specs.declared.outside.BadKind.TheVariants as bad
use Rattle.hz_tree.specs.declared.outside.OutsideKind.TheVariants as outside
use Rattle.hz_tree.specs.declared.token.TokenKind.{TokenKind}
use Rattle.hz_tree.specs.declared.token.TokenKind.TheVariants as token
use Rattle.hz_tree.specs.grammar.Classes.{names, words, signs, spelled, bad_class, class_by, same_class}
use Rattle.hz_tree.specs.grammar.Classes.{fits}
use Rattle.hz_tree.specs.tokens.Text.{Text}
use Rattle.hz_tree.specs.tokens.Tokens.{is_last}
use Rattle.hz_laws.proofs.Ranks.{and_left, and_right}
use Rattle.hz_own.specs.Owned.{taken}

abbrev is_end : Class → Bool
is_end k.End = true
is_end _ = false

abbrev none_ends : List (Text × Class) → Bool
none_ends [] = true
none_ends (x ∷ xs) = not (is_end x.1) && none_ends xs

negated : (a : Bool) → not a ≡ true → a ≡ false
negated true h = cc
negated false h = refl

spelled_class : (xs : List (Text × Class)) (other : Class) (text : Text) → none_ends xs ≡ true → is_end other ≡ false
    → is_end (spelled xs other text) ≡ false
spelled_class [] other text h i = i
spelled_class (x ∷ xs) other text h i =
    elim (bytes_eq x.0 text) as (λ b. is_end (if b then x.1 else spelled xs other text) ≡ false) [
      | true ↦ negated (is_end x.1) (and_left (not (is_end x.1)) (none_ends xs) h)
      | false ↦ spelled_class xs other text (and_right (not (is_end x.1)) (none_ends xs) h) i
    ]

class_goes_on : (kind : TokenKind) (text : Text) → is_last kind ≡ false → is_end (class_by kind text) ≡ false
unfolding class_by
class_goes_on token.Name text h = spelled_class names k.Name text refl refl
class_goes_on token.Word text h = spelled_class words k.Reserved text refl refl
class_goes_on token.Punct text h = spelled_class signs k.Malformed text refl refl
class_goes_on (token.Template true true) text h = refl
class_goes_on (token.Template true false) text h = refl
class_goes_on (token.Template false true) text h = refl
class_goes_on (token.Template false false) text h = refl
class_goes_on token.End text h = cc
class_goes_on (token.Bad cause) text h = cc
class_goes_on _ text h = refl

fits_end : (found : Class) → fits k.End found ≡ true → is_end found ≡ true
unfolding same_class
fits_end found h = ap is_end (sym (same_true class_type tt k.End found h))

true_false : (a : Bool) → a ≡ true → a ≡ false → ⊥
true_false a h i = cc

bad_class_goes_on : (cause : BadKind) → is_end (bad_class cause) ≡ false
bad_class_goes_on bad.Syntax = refl
bad_class_goes_on (bad.Outside outside.BigInt) = refl
bad_class_goes_on (bad.Outside _) = refl

end_kind : (kind : TokenKind) (text : Text) → is_end (class_by kind text) ≡ true → kind ≡ token.End
unfolding class_by
end_kind token.End text h = refl
end_kind (token.Bad cause) text h = absurd (true_false (is_end (bad_class cause)) h (bad_class_goes_on cause))
end_kind kind text h = absurd (true_false (is_end (class_by kind text)) h (class_goes_on kind text refl))

-- What is taken as the end of a source is the end of a source.
pub taken_as_end : (found : Class) (kind : TokenKind) (text : Text) → fits k.End found ≡ true
    → found ≡ class_by kind text → kind ≡ token.End
taken_as_end found kind text h same = end_kind kind text (ap is_end (sym same) ∙ fits_end found h)

-- A token that is not the last one counts where it is taken.
pub taken_one : (wanted found : Class) (kind : TokenKind) (text : Text) → fits wanted found ≡ true
    → found ≡ class_by kind text → is_last kind ≡ false → taken wanted ≡ 1
taken_one k.End found kind text h same more =
    absurd (true_false (is_last kind) (ap is_last (taken_as_end found kind text h same)) more)
taken_one _ found kind text h same more = refl

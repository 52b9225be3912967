-- How tokens change the braces that are open, and that right-hand sides close those that they open.
use Rattle.std.proofs.Common.{◌≡◌, ℕ, Bool, true, false, ◌&&◌, if◌then◌else◌, ◌==◌, List, [], ◌∷◌, drop}
use Rattle.std.proofs.Common.{slice_index, refl, ap, sym, ◌∙◌, subst}
use Rattle.std.specs.Str.{bytes_eq}
use Rattle.std.proofs.lemmas.Slice.Eq.{bytes_eq-Decides}
use denote.Enum.Bare.{same_true}
use Rattle.hz_tree.specs.contracts.class.Class.{the_type as class_type}
use Rattle.hz_tree.specs.declared.class.Class.{Class}
use Rattle.hz_tree.specs.declared.class.Class.TheVariants as k
use Rattle.hz_tree.specs.declared.nonterminal.Nonterminal.{Nonterminal}
use Rattle.hz_tree.specs.declared.outside.BadKind.{BadKind}
use Rattle.hz_tree.specs.declared.outside.BadKind.TheVariants as bad
use Rattle.hz_tree.specs.declared.outside.OutsideKind.TheVariants as outside
use Rattle.hz_tree.specs.declared.symbol.Symbol.{Symbol}
use Rattle.hz_tree.specs.declared.symbol.Symbol.TheVariants as s
use Rattle.hz_tree.specs.declared.token.TokenKind.{TokenKind}
use Rattle.hz_tree.specs.declared.token.TokenKind.TheVariants as kind
use Rattle.hz_tree.specs.grammar.Classes.{names, words, signs, spelled, bad_class, class_by, class_of, same_class}
use Rattle.hz_tree.specs.grammar.Classes.{is_name, fits}
use Rattle.hz_tree.specs.grammar.Table.{Step, pushes, fails}
use Rattle.hz_tree.specs.tokens.Text.{Text}
use Rattle.hz_tree.specs.tokens.Tokens.{Lexeme, braces, braces_by}
use Rattle.hz_laws.specs.Middle.{closes_hole, hole}
use Rattle.hz_laws.proofs.Ranks.{and_left, and_right}

pub data Change : Type 0 where
  keeps : Change
  opens : (hole : Bool) → Change
  closes : Change
  none : Change  -- no token begins here

abbrev pub changed : Change → List Bool → List Bool
changed keeps opened = opened
changed (opens hole) opened = hole ∷ opened
changed closes opened = drop 1 opened
changed none opened = opened

abbrev pub change : Class → Change
change k.LeftBrace = opens false
change k.RightBrace = closes
change k.TemplateHead = opens true
change k.TemplateTail = closes
change k.Malformed = none
change k.BigInt = none
change k.NumberForm = none
change k.PrivateName = none
change k.IdentifierEscape = none
change k.HtmlComment = none
change k.Character = none
change _ = keeps

abbrev pub is_token : Change → Bool
is_token none = false
is_token _ = true

-- ---- tokens change braces as their classes do

abbrev kind_change : TokenKind → ℕ → Change
kind_change kind.Punct first = if first == 123 then opens false else (if first == 125 then closes else keeps)
kind_change (kind.Template true false) first = opens true
kind_change (kind.Template false true) first = closes
kind_change _ first = keeps

punct_changes : (a b : Bool) (opened : List Bool)
    → (if a then false ∷ opened else (if b then drop 1 opened else opened))
    ≡ changed (if a then opens false else (if b then closes else keeps)) opened
punct_changes true b opened = refl
punct_changes false true opened = refl
punct_changes false false opened = refl

kind_changes : (of : TokenKind) (first : ℕ) (opened : List Bool)
    → braces_by of first opened ≡ changed (kind_change of first) opened
kind_changes kind.Punct first opened = punct_changes (first == 123) (first == 125) opened
kind_changes (kind.Template true true) first opened = refl
kind_changes (kind.Template true false) first opened = refl
kind_changes (kind.Template false true) first opened = refl
kind_changes (kind.Template false false) first opened = refl
kind_changes _ first opened = refl

abbrev same_change : Change → Change → Bool
same_change none _ = true
same_change keeps keeps = true
same_change (opens true) (opens true) = true
same_change (opens false) (opens false) = true
same_change closes closes = true
same_change _ _ = false

same_changed : (a b : Change) (opened : List Bool) → same_change a b ≡ true → is_token a ≡ true
    → changed b opened ≡ changed a opened
same_changed none b opened h t = cc
same_changed keeps keeps opened h t = refl
same_changed (opens true) (opens true) opened h t = refl
same_changed (opens false) (opens false) opened h t = refl
same_changed closes closes opened h t = refl
same_changed _ _ opened h t = cc

abbrev all_hold : (Text → Class → Bool) → List (Text × Class) → Bool
all_hold test [] = true
all_hold test (x ∷ xs) = test x.0 x.1 && all_hold test xs

spelled_holds : (test : Text → Class → Bool) (xs : List (Text × Class)) (other : Class) (text : Text)
    → all_hold test xs ≡ true → test text other ≡ true → test text (spelled xs other text) ≡ true
spelled_holds test [] other text h i = i
spelled_holds test (x ∷ xs) other text h i =
    elim (bytes_eq x.0 text) as (λ b. bytes_eq x.0 text ≡ b
    → test text (if b then x.1 else spelled xs other text) ≡ true) [
      | true ↦ λ e. subst (λ z. test z x.1 ≡ true) ((bytes_eq-Decides x.0 text).0 e)
          (and_left (test x.0 x.1) (all_hold test xs) h)
      | false ↦ λ e. spelled_holds test xs other text (and_right (test x.0 x.1) (all_hold test xs) h) i
    ] refl

abbrev alike : TokenKind → Text → Class → Bool
alike of text class = same_change (change class) (kind_change of (slice_index text 0))

bad_changes : (cause : BadKind) → change (bad_class cause) ≡ none
bad_changes bad.Syntax = refl
bad_changes (bad.Outside outside.BigInt) = refl
bad_changes (bad.Outside _) = refl

class_changes : (of : TokenKind) (text : Text) → alike of text (class_by of text) ≡ true
unfolding class_by
class_changes kind.Name text = spelled_holds (alike kind.Name) names k.Name text refl refl
class_changes kind.Word text = spelled_holds (alike kind.Word) words k.Reserved text refl refl
class_changes kind.Punct text = spelled_holds (alike kind.Punct) signs k.Malformed text refl refl
class_changes (kind.Template true true) text = refl
class_changes (kind.Template true false) text = refl
class_changes (kind.Template false true) text = refl
class_changes (kind.Template false false) text = refl
class_changes (kind.Bad cause) text = ap (λ c. same_change c keeps) (bad_changes cause)
class_changes _ text = refl

pub token_changes : (t : Lexeme) (opened : List Bool) → is_token (change (class_of t)) ≡ true
    → braces t opened ≡ changed (change (class_of t)) opened
token_changes t opened h =
    kind_changes t.kind (slice_index t.text 0) opened
    ∙ same_changed (change (class_of t)) (kind_change t.kind (slice_index t.text 0)) opened
    (class_changes t.kind t.text) h

name_keeps : (found : Class) → is_name found ≡ true → change found ≡ keeps
name_keeps k.Name h = refl
name_keeps k.LeftBrace h = cc
name_keeps k.RightBrace h = cc
name_keeps k.TemplateHead h = cc
name_keeps k.TemplateTail h = cc
name_keeps k.Malformed h = cc
name_keeps k.BigInt h = cc
name_keeps k.NumberForm h = cc
name_keeps k.PrivateName h = cc
name_keeps k.IdentifierEscape h = cc
name_keeps k.HtmlComment h = cc
name_keeps k.Character h = cc
name_keeps _ h = refl

pub fits_changes : (wanted found : Class) → fits wanted found ≡ true → change found ≡ change wanted
unfolding same_class
fits_changes k.Name found h = name_keeps found h
fits_changes wanted found h = ap change (sym (same_true class_type tt wanted found h))

-- ---- right-hand sides

abbrev pub after_change : Change → List Bool → (List Bool → Bool) → Bool
after_change keeps inner test = test inner
after_change (opens hole) inner test = test (hole ∷ inner)
after_change closes [] test = false
after_change closes (b ∷ inner) test = test inner
after_change none inner test = false

abbrev pub after_hole : (closed : Bool) → List Bool → (List Bool → Bool) → Bool
after_hole false inner test = test inner
after_hole true [] test = false
after_hole true (true ∷ inner) test = test inner
after_hole true (false ∷ inner) test = false

abbrev is_none : List Bool → Bool
is_none [] = true
is_none (b ∷ inner) = false

-- where these braces are open before it and no others, none is behind it
abbrev pub balanced : List Bool → List Symbol → Bool
balanced inner [] = is_none inner
balanced inner (s.Take wanted ∷ more) = after_change (change wanted) inner (λ now. balanced now more)
balanced inner (s.Read m ∷ more) = after_hole (closes_hole m) inner (λ now. balanced now more)
balanced inner (s.Tell signal ∷ more) = balanced inner more

abbrev pub is_balanced : Nonterminal → Step → Bool
is_balanced m (pushes right) = balanced (hole m) right
is_balanced m (fails cause) = true

-- The terminals that are left at a place: the next one, and those that are left behind it.
use Rattle.std.proofs.Common.{◌≡◌, ℕ, ◌+◌, Bool, true, false, if◌then◌else◌, List, [], ◌∷◌, Option, Some, None}
use Rattle.std.proofs.Common.{is_none, length, option_map, refl, ap, sym, ◌∙◌, subst}
use Rattle.hz_tree.specs.declared.class.Class.{Class}
use Rattle.hz_tree.specs.declared.token.Token.{Token}
use Rattle.hz_tree.specs.grammar.Classes.{class_of, fits}
use Rattle.hz_tree.specs.grammar.Look.{Terminal, look, stuck, terminals_from}
use Rattle.hz_tree.specs.declared.token.TokenKind.TheVariants as kind
use Rattle.hz_tree.specs.reading.Reading.{takes, Got, Stuck, place_ahead, text_ahead, end_behind}
use Rattle.hz_tree.specs.tokens.Text.{Text}
use Rattle.hz_tree.specs.tokens.Tokens.{Lexeme, lexeme, token_behind, tokens_from, is_last, in_hole, braces}
use Rattle.hz_scan.proofs.TokenLemmas.{tokens_law}
use Rattle.hz_middle.specs.Place.{Place, left, first, past, terminal, second, shown, kind_ahead}

abbrev some_or : Lexeme → Option Lexeme → Lexeme
some_or other None = other
some_or other (Some t) = t

tokens_by : (ended : Bool) (source : Text) (opened : List Bool) (at : ℕ) (t : Lexeme)
    → (if ended then None else Some (token_behind (in_hole opened) source at)) ≡ Some t
    → (if ended then [] else tokens_from opened source at)
    ≡ t ∷ (if is_last t.kind then [] else tokens_from (braces t opened) source (t.at + length t.text))
tokens_by true source opened at t h = cc
tokens_by false source opened at t h =
    subst (λ u. tokens_from opened source at
    ≡ u ∷ (if is_last u.kind then [] else tokens_from (braces u opened) source (u.at + length u.text)))
    (ap (some_or t) h) (tokens_law opened source at)

none_by : (ended : Bool) (source : Text) (opened : List Bool) (at : ℕ)
    → (if ended then None else Some (token_behind (in_hole opened) source at)) ≡ None
    → (if ended then [] else tokens_from opened source at) ≡ []
none_by true source opened at h = refl
none_by false source opened at h = cc

pub left_some : (p : Place) (t : Lexeme) → first p ≡ Some t → left p ≡ terminal p t ∷ left (past p t)
left_some p t h = ap (terminals_from p.at) (tokens_by p.ended p.source p.opened p.at t h)

pub left_none : (p : Place) → first p ≡ None → left p ≡ []
left_none p h = ap (terminals_from p.at) (none_by p.ended p.source p.opened p.at h)

pub eats : (p : Place) (t : Lexeme) (wanted : Class) → first p ≡ Some t → fits wanted (class_of t) ≡ true
    → takes wanted (left p) ≡ Got (terminal p t) (left (past p t))
eats p t wanted h fit =
    ap (takes wanted) (left_some p t h)
    ∙ ap (λ b. if b then Got (terminal p t) (left (past p t))
    else Stuck (stuck (look (terminal p t ∷ left (past p t)))) (terminal p t ∷ left (past p t))) fit

pub eats_not : (p : Place) (t : Lexeme) (wanted : Class) → first p ≡ Some t → fits wanted (class_of t) ≡ false
    → takes wanted (left p) ≡ Stuck (stuck (look (left p))) (left p)
eats_not p t wanted h fit =
    ap (takes wanted) (left_some p t h)
    ∙ ap (λ b. if b then Got (terminal p t) (left (past p t))
    else Stuck (stuck (look (terminal p t ∷ left (past p t)))) (terminal p t ∷ left (past p t))) fit
    ∙ ap (λ ts. Stuck (stuck (look ts)) ts) (sym (left_some p t h))

pub eats_none : (p : Place) (wanted : Class) → first p ≡ None
    → takes wanted (left p) ≡ Stuck (stuck (look (left p))) (left p)
eats_none p wanted h =
    ap (takes wanted) (left_none p h) ∙ ap (λ ts. Stuck (stuck (look ts)) ts) (sym (left_none p h))

-- none is left exactly behind the last token
pub ended_by : (two : Option Token) (last : Bool) (u : Lexeme)
    → option_map lexeme two ≡ (if last then None else Some u) → is_none two ≡ last
ended_by None true u h = refl
ended_by None false u h = cc
ended_by (Some t) true u h = cc
ended_by (Some t) false u h = refl

-- ---- what is in view

pub place_some : (p : Place) (t : Lexeme) → first p ≡ Some t → t.at ≡ place_ahead (left p)
place_some p t h = sym (ap place_ahead (left_some p t h))

pub place_none : (p : Place) → first p ≡ None → 0 ≡ place_ahead (left p)
place_none p h = sym (ap place_ahead (left_none p h))

pub text_some : (p : Place) (t : Lexeme) → first p ≡ Some t → t.text ≡ text_ahead (left p)
text_some p t h = sym (ap text_ahead (left_some p t h))

pub text_none : (p : Place) → first p ≡ None → [] ≡ text_ahead (left p)
text_none p h = sym (ap text_ahead (left_none p h))

pub kind_some : (p : Place) (t : Lexeme) → first p ≡ Some t → t.kind ≡ kind_ahead (left p)
kind_some p t h = sym (ap kind_ahead (left_some p t h))

pub kind_none : (p : Place) → first p ≡ None → kind.End ≡ kind_ahead (left p)
kind_none p h = sym (ap kind_ahead (left_none p h))

pub behind_some : (p : Place) (t : Lexeme) → first p ≡ Some t → p.at ≡ end_behind (left p)
behind_some p t h = sym (ap end_behind (left_some p t h))

pub behind_none : (p : Place) → first p ≡ None → 0 ≡ end_behind (left p)
behind_none p h = sym (ap end_behind (left_none p h))

-- the look of these terminals, where one knows its flag of arrows
abbrev Looks : List Terminal → (one two : Option Lexeme) → (arrow : Bool) → Type 0
Looks ts one two arrow = (look ts).arrow ≡ arrow → shown one two arrow ≡ look ts

looks_one : (p : Place) (t : Lexeme) (arrow : Bool) → Looks (terminal p t ∷ []) (Some t) None arrow
looks_one p t arrow h = ap (shown (Some t) None) (sym h)

looks_two : (p q : Place) (t u : Lexeme) (ts : List Terminal) (arrow : Bool)
    → Looks (terminal p t ∷ terminal q u ∷ ts) (Some t) (Some u) arrow
looks_two p q t u ts arrow h = ap (shown (Some t) (Some u)) (sym h)

looks_none : (arrow : Bool) → Looks [] None None arrow
looks_none arrow h = ap (shown None None) (sym h)

looks_behind : (p q : Place) (t : Lexeme) (two : Option Lexeme) (arrow : Bool) → first q ≡ two
    → Looks (terminal p t ∷ left q) (Some t) two arrow
looks_behind p q t None arrow e =
    subst (λ ts. Looks (terminal p t ∷ ts) (Some t) None arrow) (sym (left_none q e)) (looks_one p t arrow)
looks_behind p q t (Some u) arrow e =
    subst (λ ts. Looks (terminal p t ∷ ts) (Some t) (Some u) arrow) (sym (left_some q u e))
    (looks_two p q t u (left (past q u)) arrow)

looks_from : (p : Place) (one : Option Lexeme) (arrow : Bool) → first p ≡ one → Looks (left p) one (second p one) arrow
looks_from p None arrow e = subst (λ ts. Looks ts None None arrow) (sym (left_none p e)) (looks_none arrow)
looks_from p (Some t) arrow e =
    subst (λ ts. Looks ts (Some t) (first (past p t)) arrow) (sym (left_some p t e))
    (looks_behind p (past p t) t (first (past p t)) arrow refl)

pub looks : (p : Place) (one two : Option Lexeme) (arrow : Bool) → one ≡ first p → two ≡ second p one
    → (look (left p)).arrow ≡ arrow
    → shown one two arrow ≡ look (left p)
looks p one two arrow e f h = ap (λ o. shown one o arrow) f ∙ looks_from p one arrow (sym e) h

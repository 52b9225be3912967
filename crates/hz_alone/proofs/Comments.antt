-- No function begins with `-->`.
use Rattle.std.proofs.Common.{◌≡◌, ℕ, ◌+◌, ◌-◌, Bool, true, false, ◌&&◌, ◌||◌, if◌then◌else◌, ◌==◌, List, [], ◌∷◌}
use Rattle.std.proofs.Common.{◌++◌, length, drop, slice_range, codes, refl, ap, sym, ◌∙◌, subst, arith}
use Rattle.std.proofs.lemmas.Bool.Decides.{nat_tests}
use Rattle.hz_tree.specs.declared.class.Class.{Class}
use Rattle.hz_tree.specs.declared.class.Class.TheVariants as k
use Rattle.hz_tree.specs.declared.outside.BadKind.TheVariants.{Outside}
use Rattle.hz_tree.specs.declared.outside.OutsideKind.TheVariants.{HtmlComment}
use Rattle.hz_tree.specs.declared.token.TokenKind.TheVariants.{Punct}
use Rattle.hz_tree.specs.grammar.Classes.{class_by, class_of, is_name}
use Rattle.hz_tree.specs.tokens.Characters.{code_point, starts_name}
use Rattle.hz_tree.specs.tokens.Numbers.{bad}
use Rattle.hz_tree.specs.tokens.Punctuators.{punctuator_len, punctuator_of}
use Rattle.hz_tree.specs.tokens.Spaces.{gap}
use Rattle.hz_tree.specs.tokens.Text.{Text, begins}
use Rattle.hz_tree.specs.tokens.Tokens.{Lexeme, sign, other, token, token_behind, is_last, in_hole}
use Rattle.hz_tree.specs.tokens.Tokens.{braces}
use Rattle.hz_tree.specs.tokens.Tokens.{tokens, tokens_from}
use Rattle.hz_scan.proofs.TokenLemmas.{tokens_law}

-- the first token of a function is of such a class
abbrev pub starts : Class → Bool
starts k.Function = true
starts k.LeftParen = true
starts c = is_name c

-- ---- the token

dashes_fronts : (rest : Text) → (length (45 ∷ 45 ∷ 62 ∷ rest) == 0) ≡ false
dashes_fronts rest = grind (arith, nat_tests)

no_name : (rest : Text) → starts_name (code_point (45 ∷ rest)) ≡ false
unfolding code_point starts_name
no_name rest = refl

leading : (hole : Bool) (rest : Text) → token hole true (45 ∷ 45 ∷ 62 ∷ rest) ≡ bad (Outside HtmlComment)
unfolding token
leading hole rest = rw (dashes_fronts rest, no_name (45 ∷ 62 ∷ rest)) refl

within : (hole : Bool) (rest : Text) → token hole false (45 ∷ 45 ∷ 62 ∷ rest) ≡ record { kind = Punct; len = 2 }
unfolding token other sign punctuator_len punctuator_of
within hole rest = rw (dashes_fronts rest, no_name (45 ∷ 62 ∷ rest)) refl

two_bytes : (source : Text) (at : ℕ) (rest : Text) → drop at source ≡ 45 ∷ 45 ∷ 62 ∷ rest
    → slice_range source at (at + 2) ≡ 45 ∷ 45 ∷ []
two_bytes source at rest h = let here : at + 2 - at ≡ 2 = omega arith in rw (here, h) refl

minus_class : starts (class_by Punct (45 ∷ 45 ∷ [])) ≡ false
unfolding class_by
minus_class = refl

comment_class : (text : Text) → starts (class_by (bad (Outside HtmlComment)).kind text) ≡ false
unfolding class_by
comment_class text = refl

starts_none : (source : Text) (at : ℕ) (hole leads : Bool) (rest : Text) → drop at source ≡ 45 ∷ 45 ∷ 62 ∷ rest
    → starts (class_by (token hole leads (drop at source)).kind
    (slice_range source at (at + (token hole leads (drop at source)).len))) ≡ false
starts_none source at hole true rest h =
    ap (λ f. starts (class_by f.kind (slice_range source at (at + f.len)))) (ap (token hole true) h ∙ leading hole rest)
    ∙ comment_class (slice_range source at (at + (bad (Outside HtmlComment)).len))
starts_none source at hole false rest h =
    ap (λ f. starts (class_by f.kind (slice_range source at (at + f.len)))) (ap (token hole false) h ∙ within hole rest)
    ∙ ap (λ text. starts (class_by Punct text)) (two_bytes source at rest h) ∙ minus_class

-- ---- the text

record Dashes (z : Text) : Type 0 where
  rest : Text
  is : z ≡ 45 ∷ 45 ∷ 62 ∷ rest

and_both : (a b : Bool) → (a && b) ≡ true → (a ≡ true) × (b ≡ true)
and_both true b h = (refl, h)
and_both false b h = cc

byte_is : (a b : ℕ) → (a == b) ≡ true → a ≡ b
byte_is a b h = grind (arith, nat_tests)

three : (a b c : ℕ) (rest : Text) → a ≡ 45 → b ≡ 45 → c ≡ 62 → a ∷ b ∷ c ∷ rest ≡ 45 ∷ 45 ∷ 62 ∷ rest
three a b c rest h i j = rw (h, i, j) refl

dashes : (z : Text) → begins (codes "-->") z ≡ true → Dashes z
dashes [] h = cc
dashes (a ∷ []) h = let x = and_both (a == 45) _ h in cc x.1
dashes (a ∷ b ∷ []) h = let x = and_both (a == 45) _ h in let y = and_both (b == 45) _ x.1 in cc y.1
dashes (a ∷ b ∷ c ∷ rest) h =
    let x = and_both (a == 45) _ h in
    let y = and_both (b == 45) _ x.1 in
    let z = and_both (c == 62) _ y.1 in
    record { rest = rest; is = three a b c rest (byte_is a 45 x.0) (byte_is b 45 y.0) (byte_is c 62 z.0) }

behind_starts : (hole : Bool) (source : Text) (place : ℕ)
    → begins (codes "-->") (drop (token_behind hole source place).at source) ≡ true
    → starts (class_of (token_behind hole source place)) ≡ false
unfolding token_behind
behind_starts hole source place h =
    let space = gap (place == 0) (drop place source) in
    let at = place + space.len in
    let d : Dashes (drop at source) = dashes (drop at source) h in
    starts_none source at hole (space.marked || place == 0) d.rest d.is

-- ---- the tokens of a source

-- it stands behind a place
record Behind (source : Text) (t : Lexeme) : Type 0 where
  hole : Bool
  place : ℕ
  is : token_behind hole source place ≡ t

not_nil : (before after : List Lexeme) (t : Lexeme) → [] ≡ before ++ t ∷ after → ⊥
not_nil [] after t h = cc
not_nil (b ∷ before) after t h = cc

head_is : (a b : Lexeme) (ts us : List Lexeme) → a ∷ ts ≡ b ∷ us → a ≡ b
head_is a b ts us h = cc

tail_is : (a b : Lexeme) (ts us : List Lexeme) → a ∷ ts ≡ b ∷ us → ts ≡ us
tail_is a b ts us h = cc

ended_by : (last : Bool) (ts before after : List Lexeme) (t : Lexeme) → (if last then [] else ts) ≡ before ++ t ∷ after
    → ts ≡ before ++ t ∷ after
ended_by true ts before after t h = absurd (not_nil before after t h)
ended_by false ts before after t h = h

stands_behind : (before after : List Lexeme) (t : Lexeme) (opened : List Bool) (source : Text) (place : ℕ)
    → tokens_from opened source place ≡ before ++ t ∷ after → Behind source t
stands_behind [] after t opened source place h = record {
  hole = in_hole opened;
  place = place;
  is = head_is _ t _ after (sym (tokens_law opened source place) ∙ h);
}
stands_behind (b ∷ before) after t opened source place h =
    let u : Lexeme = token_behind (in_hole opened) source place in
    stands_behind before after t (braces u opened) source (u.at + length u.text)
    (ended_by (is_last u.kind) _ before after t (tail_is u b _ _ (sym (tokens_law opened source place) ∙ h)))

by_test : (test known : Bool) → (test ≡ true → known ≡ false) → known ≡ true → test ≡ false
by_test false known h i = refl
by_test true known h i = cc (h refl)

pub no_comment : (source : Text) (before after : List Lexeme) (t : Lexeme) → tokens source ≡ before ++ t ∷ after
    → starts (class_of t) ≡ true → begins (codes "-->") (drop t.at source) ≡ false
no_comment source before after t h s =
    let b : Behind source t = stands_behind before after t [] source 0 h in
    by_test (begins (codes "-->") (drop t.at source)) (starts (class_of t))
    (subst (λ u. begins (codes "-->") (drop u.at source) ≡ true → starts (class_of u) ≡ false) b.is
    (behind_starts b.hole source b.place)) s

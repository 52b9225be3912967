-- Tokens from the middle of a source: those of the source, up to the end of a hole that was open before.
use Rattle.std.proofs.Common.{◌≡◌, ℕ, zero, suc, ◌+◌, ◌-◌, Bool, true, false, if◌then◌else◌, ◌==◌, ◌⊎◌, inl, inr}
use Rattle.std.proofs.Common.{List, [], ◌∷◌, ◌++◌, length, drop, slice_index, Some, refl, ap, sym}
use Rattle.std.proofs.Common.{subst}
use Rattle.hz_tree.specs.declared.class.Bracket.{Bracket}
use Rattle.hz_tree.specs.declared.class.Bracket.TheVariants as bracket
use Rattle.hz_tree.specs.declared.class.Class.{Class}
use Rattle.hz_tree.specs.declared.class.Class.TheVariants as k
use Rattle.hz_tree.specs.declared.token.TokenKind.{TokenKind}
use Rattle.hz_tree.specs.declared.token.TokenKind.TheVariants as kind
use Rattle.hz_tree.specs.grammar.Classes.{class_of, bracketing, same_bracket, still_open}
use Rattle.hz_tree.specs.tokens.Text.{Text}
use Rattle.hz_tree.specs.tokens.Tokens.{Lexeme, token_behind, is_last, braces_by, in_hole, braces, tokens_to}
use Rattle.hz_tree.specs.tokens.Tokens.{tokens_from}
use Rattle.hz_laws.proofs.Braces.{change, changed, is_token, token_changes}
use Rattle.hz_alone.proofs.Fronts.{EndsToken, tokens_part}

-- ---- tokens

-- `us` is seen of `ts`, where these braces were opened since the beginning
abbrev pub Apart : (opened : List Bool) → (ts us : List Lexeme) → Type 0
Apart opened [] [] = Unit {0}
Apart opened (t ∷ ts) (u ∷ us) = ((t ≡ u) × Apart (braces t opened) ts us) ⊎ ((opened ≡ []) × EndsToken t u)
Apart opened _ _ = ⊥

-- braces of before stay behind those that were opened since
record Splits (t : Lexeme) (opened outer : List Bool) : Type 0 where
  pub others : List Bool
  split : braces t (opened ++ outer) ≡ braces t opened ++ others

drops : (opened outer : List Bool) → (others : List Bool) × (drop 1 (opened ++ outer) ≡ drop 1 opened ++ others)
drops [] outer = (drop 1 outer, refl)
drops (b ∷ opened) outer = (outer, refl)

punct_splits : (a b : Bool) (opened outer : List Bool)
    → (others : List Bool)
    × ((if a then false ∷ (opened ++ outer) else (if b then drop 1 (opened ++ outer) else opened ++ outer))
    ≡ (if a then false ∷ opened else (if b then drop 1 opened else opened)) ++ others)
punct_splits true b opened outer = (outer, refl)
punct_splits false true opened outer = drops opened outer
punct_splits false false opened outer = (outer, refl)

kind_splits : (of : TokenKind) (first : ℕ) (opened outer : List Bool)
    → (others : List Bool) × (braces_by of first (opened ++ outer) ≡ braces_by of first opened ++ others)
kind_splits kind.Punct first opened outer = punct_splits (first == 123) (first == 125) opened outer
kind_splits (kind.Template true true) first opened outer = (outer, refl)
kind_splits (kind.Template true false) first opened outer = (outer, refl)
kind_splits (kind.Template false true) first opened outer = drops opened outer
kind_splits (kind.Template false false) first opened outer = (outer, refl)
kind_splits _ first opened outer = (outer, refl)

splits : (t : Lexeme) (opened outer : List Bool) → Splits t opened outer
splits t opened outer =
    let all = kind_splits t.kind (slice_index t.text 0) opened outer in record { others = all.0; split = all.1 }

-- the first tokens are the same, or the first ends a hole
abbrev FirstApart : (opened : List Bool) → (t u : Lexeme) → Type 0
FirstApart opened t u = (t ≡ u) ⊎ ((opened ≡ []) × EndsToken t u)

hole_apart : (opened : List Bool) (t u : Lexeme) → opened ≡ [] → (t ≡ u) ⊎ EndsToken t u → FirstApart opened t u
hole_apart opened t u none (inl same) = inl same
hole_apart opened t u none (inr ends) = inr (none, ends)

in_apart : (hole : Bool) (source : Text) (place : ℕ)
    → FirstApart [] (token_behind hole source place) (token_behind false source place)
in_apart false source place = inl refl
in_apart true source place =
    hole_apart [] (token_behind true source place) (token_behind false source place) refl (tokens_part source place)

first_apart : (source : Text) (opened outer : List Bool) (place : ℕ)
    → FirstApart opened (token_behind (in_hole (opened ++ outer)) source place)
    (token_behind (in_hole opened) source place)
first_apart source (b ∷ opened) outer place = inl refl
first_apart source [] outer place = in_apart (in_hole outer) source place

-- the tokens behind one, of at most so many
abbrev behind : ℕ → Text → Lexeme → (opened : List Bool) → List Lexeme
behind n source t opened = if is_last t.kind then [] else tokens_to n opened source (t.at + length t.text)

ended_apart : (last : Bool) (opened : List Bool) (ts us : List Lexeme) → Apart opened ts us
    → Apart opened (if last then [] else ts) (if last then [] else us)
ended_apart true opened ts us h = tt
ended_apart false opened ts us h = h

cons_apart : (n : ℕ) (source : Text) (opened outer : List Bool) (t u : Lexeme) → FirstApart opened t u
    → Apart (braces t opened) (behind n source t (braces t (opened ++ outer))) (behind n source t (braces t opened))
    → Apart opened (t ∷ behind n source t (braces t (opened ++ outer))) (u ∷ behind n source u (braces u opened))
cons_apart n source opened outer t u (inl same) h =
    inl (
      same,
      subst (λ w. Apart (braces t opened) (behind n source t (braces t (opened ++ outer)))
          (behind n source w (braces w opened))) same h,
    )
cons_apart n source opened outer t u (inr ends) h = inr ends

split_apart : (n : ℕ) (source : Text) (opened outer : List Bool) (t : Lexeme)
    → ((others : List Bool) → Apart (braces t opened)
    (tokens_to n (braces t opened ++ others) source (t.at + length t.text))
    (tokens_to n (braces t opened) source (t.at + length t.text)))
    → Apart (braces t opened) (behind n source t (braces t (opened ++ outer))) (behind n source t (braces t opened))
split_apart n source opened outer t next =
    let s : Splits t opened outer = splits t opened outer in
    ended_apart (is_last t.kind) (braces t opened) _ _
    (subst (λ now. Apart (braces t opened) (tokens_to n now source (t.at + length t.text))
    (tokens_to n (braces t opened) source (t.at + length t.text))) (sym s.split) (next s.others))

apart_to : (n : ℕ) (source : Text) (opened outer : List Bool) (place : ℕ)
    → Apart opened (tokens_to n (opened ++ outer) source place) (tokens_to n opened source place)
apart_to zero source opened outer place = tt
apart_to (suc n) source opened outer place =
    let t : Lexeme = token_behind (in_hole (opened ++ outer)) source place in
    let u : Lexeme = token_behind (in_hole opened) source place in
    cons_apart n source opened outer t u (first_apart source opened outer place)
    (split_apart n source opened outer t
    (λ others. apart_to n source (braces t opened) others (t.at + length t.text)))

pub apart : (source : Text) (opened outer : List Bool) (place : ℕ)
    → Apart opened (tokens_from (opened ++ outer) source place) (tokens_from opened source place)
unfolding tokens_from
apart source opened outer place = apart_to (suc (length source - place)) source opened outer place

-- ---- brackets

-- the braces among brackets
abbrev pub braces_of : List Bracket → List Bool
braces_of [] = []
braces_of (bracket.Curly ∷ more) = false ∷ braces_of more
braces_of (bracket.Hole ∷ more) = true ∷ braces_of more
braces_of (_ ∷ more) = braces_of more

-- they were opened since the beginning
pub record Tracked (brackets : List Bracket) (opened : List Bool) : Type 0 where
  pub others : List Bool
  pub split : opened ≡ braces_of brackets ++ others

record Stepped (c : Class) (now : List Bracket) (opened : List Bool) : Type 0 where
  token : is_token (change c) ≡ true
  tracked : Tracked now (changed (change c) opened)

some_is : (a b : List Bracket) → Some a ≡ Some b → a ≡ b
some_is a b h = cc

kept : (c : Class) (b : Bracket) (bs now : List Bracket) (opened : List Bool) → is_token (change c) ≡ true
    → changed (change c) opened ≡ opened → Tracked (b ∷ bs) opened → Some (b ∷ bs) ≡ Some now → Stepped c now opened
kept c b bs now opened token same h e = record {
  token = token;
  tracked = subst (Tracked now) (sym same) (subst (λ x. Tracked x opened) (some_is (b ∷ bs) now e) h);
}

stepped : (c : Class) (b : Bracket) (bs now : List Bracket) (opened : List Bool) → Tracked (b ∷ bs) opened
    → still_open (bracketing c) b bs ≡ Some now → Stepped c now opened
unfolding same_bracket
stepped k.LeftParen b bs now opened h e = record {
  token = refl;
  tracked = subst (λ x. Tracked x opened) (some_is (bracket.Round ∷ b ∷ bs) now e)
      (record { others = h.others; split = h.split });
}
stepped k.LeftBracket b bs now opened h e = record {
  token = refl;
  tracked = subst (λ x. Tracked x opened) (some_is (bracket.Square ∷ b ∷ bs) now e)
      (record { others = h.others; split = h.split });
}
stepped k.LeftBrace b bs now opened h e = record {
  token = refl;
  tracked = subst (λ x. Tracked x (false ∷ opened)) (some_is (bracket.Curly ∷ b ∷ bs) now e)
      (record { others = h.others; split = ap (λ x. false ∷ x) h.split });
}
stepped k.TemplateHead b bs now opened h e = record {
  token = refl;
  tracked = subst (λ x. Tracked x (true ∷ opened)) (some_is (bracket.Hole ∷ b ∷ bs) now e)
      (record { others = h.others; split = ap (λ x. true ∷ x) h.split });
}
stepped k.RightParen bracket.Round bs now opened h e = record {
  token = refl;
  tracked = subst (λ x. Tracked x opened) (some_is bs now e) (record { others = h.others; split = h.split });
}
stepped k.RightParen _ bs now opened h e = cc
stepped k.RightBracket bracket.Square bs now opened h e = record {
  token = refl;
  tracked = subst (λ x. Tracked x opened) (some_is bs now e) (record { others = h.others; split = h.split });
}
stepped k.RightBracket _ bs now opened h e = cc
stepped k.RightBrace bracket.Curly bs now opened h e = record {
  token = refl;
  tracked = subst (λ x. Tracked x (drop 1 opened)) (some_is bs now e)
      (record { others = h.others; split = ap (drop 1) h.split });
}
stepped k.RightBrace _ bs now opened h e = cc
stepped k.TemplateTail bracket.Hole bs now opened h e = record {
  token = refl;
  tracked = subst (λ x. Tracked x (drop 1 opened)) (some_is bs now e)
      (record { others = h.others; split = ap (drop 1) h.split });
}
stepped k.TemplateTail _ bs now opened h e = cc
stepped k.TemplateMiddle bracket.Hole bs now opened h e =
    kept k.TemplateMiddle bracket.Hole bs now opened refl refl h e
stepped k.TemplateMiddle _ bs now opened h e = cc
stepped k.End b bs now opened h e = cc
stepped k.Malformed b bs now opened h e = cc
stepped k.BigInt b bs now opened h e = cc
stepped k.NumberForm b bs now opened h e = cc
stepped k.PrivateName b bs now opened h e = cc
stepped k.IdentifierEscape b bs now opened h e = cc
stepped k.HtmlComment b bs now opened h e = cc
stepped k.Character b bs now opened h e = cc
stepped c b bs now opened h e = kept c b bs now opened refl refl h e

pub token_tracked : (t : Lexeme) (b : Bracket) (bs now : List Bracket) (opened : List Bool) → Tracked (b ∷ bs) opened
    → still_open (bracketing (class_of t)) b bs ≡ Some now → Tracked now (braces t opened)
token_tracked t b bs now opened h e =
    let s : Stepped (class_of t) now opened = stepped (class_of t) b bs now opened h e in
    subst (Tracked now) (sym (token_changes t opened s.token)) s.tracked

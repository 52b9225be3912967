-- Terminals from the middle of a source: those of the source, up to the end of a hole that was open before.
use Rattle.std.proofs.Common.{◌≡◌, ℕ, ◌+◌, Bool, true, false, inl, inr, List, [], ◌∷◌, ◌++◌, length, map, Option}
use Rattle.std.proofs.Common.{Some, None, drop, codes, refl, ap, sym, ◌∙◌, subst}
use Rattle.hz_tree.specs.declared.class.Bracket.{Bracket}
use Rattle.hz_tree.specs.declared.class.Bracket.TheVariants as bracket
use Rattle.hz_tree.specs.declared.class.Class.{Class}
use Rattle.hz_tree.specs.declared.class.Class.TheVariants as k
use Rattle.hz_tree.specs.grammar.Classes.{class_of, is_arrow, bracketing, same_bracket, still_open}
use Rattle.hz_tree.specs.grammar.Look.{Terminal, arrow_behind, begins_parameters, terminals_from, terminals}
use Rattle.hz_tree.specs.tokens.Text.{Text, begins}
use Rattle.hz_tree.specs.tokens.Tokens.{Lexeme, braces, tokens, tokens_from}
use Rattle.hz_middle.specs.Place.{beginning, left}
use Rattle.hz_scan.specs.Order.{braces_behind}
use Rattle.hz_scan.proofs.OrderLemmas.{at_token}
use Rattle.hz_alone.specs.Middle.{goes_on, SeenAs, begun}
use Rattle.hz_alone.proofs.Lists.{Apart, apart, Tracked, braces_of, token_tracked}

-- ---- arrows

no_hole : (b : Bool) (bs others : List Bool) → [] ≡ b ∷ (bs ++ others) → ⊥
no_hole b bs others h = cc

hole_none : (c : Class) (b : Bracket) (bs : List Bracket) → goes_on c ≡ true → Tracked (b ∷ bs) []
    → still_open (bracketing c) b bs ≡ None
unfolding same_bracket
hole_none k.TemplateMiddle bracket.Hole bs g h = absurd (no_hole true (braces_of bs) h.others h.split)
hole_none k.TemplateTail bracket.Hole bs g h = absurd (no_hole true (braces_of bs) h.others h.split)
hole_none k.TemplateMiddle _ bs g h = refl
hole_none k.TemplateTail _ bs g h = refl
hole_none k.Malformed b bs g h = refl
hole_none _ b bs g h = cc

brace_none : (b : Bracket) (bs : List Bracket) → Tracked (b ∷ bs) []
    → still_open (bracketing k.RightBrace) b bs ≡ None
unfolding same_bracket
brace_none bracket.Curly bs h = absurd (no_hole false (braces_of bs) h.others h.split)
brace_none _ bs h = refl

pub goes_on_arrow : (c : Class) → goes_on c ≡ true → is_arrow c ≡ false
goes_on_arrow k.TemplateMiddle g = refl
goes_on_arrow k.TemplateTail g = refl
goes_on_arrow k.Malformed g = refl
goes_on_arrow _ g = cc

goes_on_parameters : (c : Class) (ts : List Lexeme) → goes_on c ≡ true → begins_parameters c ts ≡ false
goes_on_parameters k.TemplateMiddle ts g = refl
goes_on_parameters k.TemplateTail ts g = refl
goes_on_parameters k.Malformed ts g = refl
goes_on_parameters _ ts g = cc

-- what stands behind the first of the classes, where these brackets are open behind it
abbrev arrow_by : Option (List Bracket) → List Class → Bool
arrow_by None cs = false
arrow_by (Some now) cs = arrow_behind now cs

arrow_step : (b : Bracket) (bs : List Bracket) (c : Class) (cs : List Class)
    → arrow_behind (b ∷ bs) (c ∷ cs) ≡ arrow_by (still_open (bracketing c) b bs) cs
arrow_step b bs c cs = elim (still_open (bracketing c) b bs) as (λ o.
    elim o as (λ _. Bool) [ None ↦ false | Some now ↦ arrow_behind now cs ] ≡ arrow_by o cs)
    [ None ↦ refl | Some now ↦ refl ]

arrow_none : (b : Bracket) (bs : List Bracket) (c : Class) (cs : List Class) → still_open (bracketing c) b bs ≡ None
    → arrow_behind (b ∷ bs) (c ∷ cs) ≡ false
arrow_none b bs c cs h = arrow_step b bs c cs ∙ ap (λ o. arrow_by o cs) h

-- both walks go on alike
arrow_then : (o : Option (List Bracket)) (cs ds : List Class)
    → ((now : List Bracket) → o ≡ Some now → arrow_behind now cs ≡ arrow_behind now ds) → arrow_by o cs ≡ arrow_by o ds
arrow_then None cs ds h = refl
arrow_then (Some now) cs ds h = h now refl

arrow_same : (ts us : List Lexeme) (opened : List Bool) (bs : List Bracket) → Apart opened ts us → Tracked bs opened
    → arrow_behind bs (map class_of ts) ≡ arrow_behind bs (map class_of us)
arrow_same [] [] opened [] h i = refl
arrow_same [] [] opened (b ∷ bs) h i = refl
arrow_same [] (u ∷ us) opened bs h i = absurd h
arrow_same (t ∷ ts) [] opened bs h i = absurd h
arrow_same (t ∷ ts) (u ∷ us) opened [] (inl h) i = ap (λ x. is_arrow (class_of x)) h.0
arrow_same (t ∷ ts) (u ∷ us) opened [] (inr h) i =
    goes_on_arrow (class_of t) h.1.hole ∙ sym (ap is_arrow h.1.brace)
arrow_same (t ∷ ts) (u ∷ us) opened (b ∷ bs) (inl h) i =
    arrow_step b bs (class_of t) (map class_of ts)
    ∙ arrow_then (still_open (bracketing (class_of t)) b bs) (map class_of ts) (map class_of us)
    (λ now e. arrow_same ts us (braces t opened) now h.1 (token_tracked t b bs now opened i e))
    ∙ sym (arrow_step b bs (class_of t) (map class_of us))
    ∙ ap (λ x. arrow_behind (b ∷ bs) (class_of x ∷ map class_of us)) h.0
arrow_same (t ∷ ts) (u ∷ us) opened (b ∷ bs) (inr h) i =
    let tracked : Tracked (b ∷ bs) [] = subst (Tracked (b ∷ bs)) h.0 i in
    arrow_none b bs (class_of t) (map class_of ts) (hole_none (class_of t) b bs h.1.hole tracked)
    ∙ sym (ap (λ c. arrow_behind (b ∷ bs) (c ∷ map class_of us)) h.1.brace
    ∙ arrow_none b bs k.RightBrace (map class_of us) (brace_none b bs tracked))

parameters_same : (c : Class) (ts us : List Lexeme) (opened : List Bool) → Apart opened ts us
    → begins_parameters c ts ≡ begins_parameters c us
parameters_same k.LeftParen ts us opened h =
    arrow_same ts us opened (bracket.Round ∷ []) h (record { others = opened; split = refl })
parameters_same _ ts us opened h = refl

-- ---- terminals

abbrev pub term : ℕ → Lexeme → List Lexeme → Terminal
term behind t ts =
    record { token = t; class = class_of t; behind = behind; arrow = begins_parameters (class_of t) ts }

seen_then : (x : Terminal) (opened : List Bool) (ts us : List Terminal) → SeenAs (braces x.token opened) ts us
    → SeenAs opened (x ∷ ts) (x ∷ us)
seen_then x opened ts us (inl same) = inl (ap (λ s. x ∷ s) same)
seen_then x opened ts us (inr p) = inr (record {
  before = x ∷ p.before;
  ending = p.ending;
  more = p.more;
  brace = p.brace;
  others = p.others;
  source_is = ap (λ s. x ∷ s) p.source_is;
  seen_is = ap (λ s. x ∷ s) p.seen_is;
  ends = p.ends;
  closed = p.closed;
})

pub seen_terminals : (ts us : List Lexeme) (opened : List Bool) (behind : ℕ) → Apart opened ts us
    → SeenAs opened (terminals_from behind ts) (terminals_from behind us)
seen_terminals [] [] opened behind h = inl refl
seen_terminals [] (u ∷ us) opened behind h = absurd h
seen_terminals (t ∷ ts) [] opened behind h = absurd h
seen_terminals (t ∷ ts) (u ∷ us) opened behind (inl h) =
    subst (λ w. SeenAs opened (term behind t ts ∷ terminals_from (t.at + length t.text) ts)
    (term behind w us ∷ terminals_from (w.at + length w.text) us)) h.0
    (subst (λ x. SeenAs opened (term behind t ts ∷ terminals_from (t.at + length t.text) ts)
    (x ∷ terminals_from (t.at + length t.text) us))
    (ap (λ a. record { token = t; class = class_of t; behind = behind; arrow = a })
    (parameters_same (class_of t) ts us (braces t opened) h.1))
    (seen_then (term behind t ts) opened _ _
    (seen_terminals ts us (braces t opened) (t.at + length t.text) h.1)))
seen_terminals (t ∷ ts) (u ∷ us) opened behind (inr h) = inr (record {
  before = [];
  ending = term behind t ts;
  more = terminals_from (t.at + length t.text) ts;
  brace = term behind u us;
  others = terminals_from (u.at + length u.text) us;
  source_is = refl;
  seen_is = refl;
  ends = record {
    hole = h.1.hole;
    brace = h.1.brace;
    at = h.1.at;
    newline = h.1.newline;
    octal = h.1.octal;
    behind = refl;
    arrow =
        goes_on_parameters (class_of t) ts h.1.hole ∙ sym (ap (λ c. begins_parameters c us) h.1.brace);
  };
  closed = h.0;
})

-- ---- a place of a source

-- a terminal of these, with the tokens behind it
pub record Found (ts : List Lexeme) (x : Terminal) (rest : List Terminal) : Type 0 where
  pub before : List Lexeme
  pub after : List Lexeme
  pub split : ts ≡ before ++ x.token ∷ after
  pub here : x ≡ term x.behind x.token after
  pub rest_is : rest ≡ terminals_from (x.token.at + length x.token.text) after

tail_is : (x y : Terminal) (ts us : List Terminal) → x ∷ ts ≡ y ∷ us → ts ≡ us
tail_is x y ts us h = cc

head_is : (x y : Terminal) (ts us : List Terminal) → x ∷ ts ≡ y ∷ us → x ≡ y
head_is x y ts us h = cc

pub found : (passed : List Terminal) (behind : ℕ) (ts : List Lexeme) (x : Terminal) (rest : List Terminal)
    → terminals_from behind ts ≡ passed ++ x ∷ rest → Found ts x rest
found [] behind [] x rest h = cc
found (p ∷ passed) behind [] x rest h = cc
found [] behind (t ∷ ts) x rest h =
    subst (λ y. Found (t ∷ ts) y rest) (head_is (term behind t ts) x _ rest h)
    (record {
      before = [];
      after = ts;
      split = refl;
      here = refl;
      rest_is = sym (tail_is (term behind t ts) x _ rest h);
    })
found (p ∷ passed) behind (t ∷ ts) x rest h =
    let f : Found ts x rest = found passed (t.at + length t.text) ts x rest (tail_is (term behind t ts) p _ _ h) in
    (record {
      before = t ∷ f.before;
      after = f.after;
      split = ap (λ us. t ∷ us) f.split;
      here = f.here;
      rest_is = f.rest_is;
    })

abbrev begun_as : Lexeme → Terminal → Terminal
begun_as t y = record y { token = record t { newline = false }; behind = t.at }

begun_from : (x : Terminal) (rest : List Terminal) (after : List Lexeme) → x ≡ term x.behind x.token after
    → rest ≡ terminals_from (x.token.at + length x.token.text) after
    → begun (x ∷ rest) ≡ terminals_from x.token.at (record x.token { newline = false } ∷ after)
begun_from x rest after h i =
    ap {A = Terminal} (λ y. begun_as x.token y ∷ rest) h
    ∙ ap (λ ts. term x.token.at (record x.token { newline = false }) after ∷ ts) i

-- What a reader sees that begins at a token of a source.
pub seen_left : (source : Text) (passed rest : List Terminal) (x : Terminal) → terminals source ≡ passed ++ x ∷ rest
    → begins (codes "-->") (drop x.token.at source) ≡ false
    → SeenAs [] (begun (x ∷ rest)) (left (beginning source x.token.at))
unfolding terminals
seen_left source passed rest x h no_comment =
    let f : Found (tokens source) x rest = found passed 0 (tokens source) x rest h in
    let all : tokens_from (braces_behind f.before []) source x.token.at ≡ record x.token { newline = false } ∷ f.after =
    at_token source f.before f.after x.token f.split no_comment in
    subst (λ ts. SeenAs [] ts (left (beginning source x.token.at)))
    (sym (begun_from x rest f.after f.here f.rest_is ∙ ap (terminals_from x.token.at) (sym all)))
    (seen_terminals (tokens_from (braces_behind f.before []) source x.token.at) (tokens_from [] source x.token.at) []
    x.token.at (apart source [] (braces_behind f.before []) x.token.at))

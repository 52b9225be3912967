use Rattle.std.proofs.Common.{ℕ, ◌==◌, ◌||◌, Bool, false, ◌≡◌, slice_index, refl, sym, ◌∙◌, arith}
use Rattle.std.proofs.lemmas.Bool.Decides.{nat_tests}
use Rattle.hz_tree.specs.declared.class.Class.TheVariants as k
use Rattle.hz_tree.specs.grammar.Classes.{signs}
use Rattle.hz_scan.proofs.SpellingLemmas.{alike, none_alike}
use Rattle.hz_scan.proofs.signs.sign_class.Goals as goal

pub returns-in-123 : goal.returns-in-123
returns-in-123 c = c.only.ensures ∙ alike 123 signs k.Malformed c.args.text.now (sym c.byte.ensures.value ∙ c.in-123.is)

pub returns-in-125 : goal.returns-in-125
returns-in-125 c = c.only-in-125.ensures ∙ alike 125 signs k.Malformed c.args.text.now (sym c.byte.ensures.value
    ∙ c.in-125.is)

pub returns-in-40 : goal.returns-in-40
returns-in-40 c = c.only-in-40.ensures ∙ alike 40 signs k.Malformed c.args.text.now (sym c.byte.ensures.value
    ∙ c.in-40.is)

pub returns-in-41 : goal.returns-in-41
returns-in-41 c = c.only-in-41.ensures ∙ alike 41 signs k.Malformed c.args.text.now (sym c.byte.ensures.value
    ∙ c.in-41.is)

pub returns-in-91 : goal.returns-in-91
returns-in-91 c = c.only-in-91.ensures ∙ alike 91 signs k.Malformed c.args.text.now (sym c.byte.ensures.value
    ∙ c.in-91.is)

pub returns-in-93 : goal.returns-in-93
returns-in-93 c = c.only-in-93.ensures ∙ alike 93 signs k.Malformed c.args.text.now (sym c.byte.ensures.value
    ∙ c.in-93.is)

pub returns-in-46 : goal.returns-in-46
returns-in-46 c = c.dot.ensures ∙ alike 46 signs k.Malformed c.args.text.now (sym c.byte.ensures.value ∙ c.in-46.is)

pub returns-in-63 : goal.returns-in-63
returns-in-63 c = c.question.ensures ∙ alike 63 signs k.Malformed c.args.text.now (sym c.byte.ensures.value
    ∙ c.in-63.is)

pub returns-in-59 : goal.returns-in-59
returns-in-59 c = c.only-in-59.ensures ∙ alike 59 signs k.Malformed c.args.text.now (sym c.byte.ensures.value
    ∙ c.in-59.is)

pub returns-in-44 : goal.returns-in-44
returns-in-44 c = c.only-in-44.ensures ∙ alike 44 signs k.Malformed c.args.text.now (sym c.byte.ensures.value
    ∙ c.in-44.is)

pub returns-in-58 : goal.returns-in-58
returns-in-58 c = c.only-in-58.ensures ∙ alike 58 signs k.Malformed c.args.text.now (sym c.byte.ensures.value
    ∙ c.in-58.is)

pub returns-in-61 : goal.returns-in-61
returns-in-61 c = c.equals.ensures ∙ alike 61 signs k.Malformed c.args.text.now (sym c.byte.ensures.value ∙ c.in-61.is)

pub returns-in-60 : goal.returns-in-60
returns-in-60 c = c.less.ensures ∙ alike 60 signs k.Malformed c.args.text.now (sym c.byte.ensures.value ∙ c.in-60.is)

pub returns-in-62 : goal.returns-in-62
returns-in-62 c = c.greater.ensures ∙ alike 62 signs k.Malformed c.args.text.now (sym c.byte.ensures.value ∙ c.in-62.is)

pub returns-in-33 : goal.returns-in-33
returns-in-33 c = c.bang.ensures ∙ alike 33 signs k.Malformed c.args.text.now (sym c.byte.ensures.value ∙ c.in-33.is)

pub returns-in-43 : goal.returns-in-43
returns-in-43 c = c.plus.ensures ∙ alike 43 signs k.Malformed c.args.text.now (sym c.byte.ensures.value ∙ c.in-43.is)

pub returns-in-45 : goal.returns-in-45
returns-in-45 c = c.minus.ensures ∙ alike 45 signs k.Malformed c.args.text.now (sym c.byte.ensures.value ∙ c.in-45.is)

pub returns-in-42 : goal.returns-in-42
returns-in-42 c = c.star.ensures ∙ alike 42 signs k.Malformed c.args.text.now (sym c.byte.ensures.value ∙ c.in-42.is)

pub returns-in-47 : goal.returns-in-47
returns-in-47 c = c.slash.ensures ∙ alike 47 signs k.Malformed c.args.text.now (sym c.byte.ensures.value ∙ c.in-47.is)

pub returns-in-37 : goal.returns-in-37
returns-in-37 c = c.percent.ensures ∙ alike 37 signs k.Malformed c.args.text.now (sym c.byte.ensures.value ∙ c.in-37.is)

pub returns-in-38 : goal.returns-in-38
returns-in-38 c = c.ampersand.ensures ∙ alike 38 signs k.Malformed c.args.text.now (sym c.byte.ensures.value
    ∙ c.in-38.is)

pub returns-in-124 : goal.returns-in-124
returns-in-124 c = c.bar.ensures ∙ alike 124 signs k.Malformed c.args.text.now (sym c.byte.ensures.value ∙ c.in-124.is)

pub returns-in-94 : goal.returns-in-94
returns-in-94 c = c.caret.ensures ∙ alike 94 signs k.Malformed c.args.text.now (sym c.byte.ensures.value ∙ c.in-94.is)

pub returns-in-126 : goal.returns-in-126
returns-in-126 c = c.only-in-126.ensures ∙ alike 126 signs k.Malformed c.args.text.now (sym c.byte.ensures.value
    ∙ c.in-126.is)

abbrev is_initial : ℕ → Bool
is_initial w = w == 123 || w == 125 || w == 40 || w == 41 || w == 91 || w == 93 || w == 46 || w == 63 || w == 59 || w
    == 44 || w == 58 || w == 61 || w == 60 || w == 62 || w == 33 || w == 43 || w == 45 || w == 42 || w == 47 || w == 37
    || w == 38 || w == 124 || w == 94 || w == 126

pub returns-in_default : goal.returns-in_default
returns-in_default c =
    let outside : is_initial (slice_index c.args.text.now 0) ≡ false = grind (arith, nat_tests) in
    sym (none_alike is_initial signs k.Malformed c.args.text.now refl outside)

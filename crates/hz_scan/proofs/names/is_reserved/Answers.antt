use Rattle.std.proofs.Common.{◌≡◌, ℕ, ◌||◌, ◌==◌, false, Bool, List, slice_index, refl, sym, ◌∙◌, arith}
use Rattle.std.proofs.lemmas.Bool.Decides.{nat_tests}
use Rattle.hz_tree.specs.tokens.Names.{is_reserved, reserved_words}
use Rattle.hz_scan.proofs.WordLemmas.{alike, none_among}
use Rattle.hz_scan.proofs.names.is_reserved.Goals as goal

abbrev first : List ℕ → ℕ
first word = slice_index word 0

pub returns-in-98 : goal.returns-in-98
unfolding is_reserved reserved_words
returns-in-98 c = c.is_among.ensures ∙ alike first 98 reserved_words c.args.word.now (sym c.byte.ensures.value
    ∙ c.in-98.is)

pub returns-in-99 : goal.returns-in-99
unfolding is_reserved reserved_words
returns-in-99 c = c.is_among-in-99.ensures ∙ alike first 99 reserved_words c.args.word.now (sym c.byte.ensures.value
    ∙ c.in-99.is)

pub returns-in-100 : goal.returns-in-100
unfolding is_reserved reserved_words
returns-in-100 c = c.is_among-in-100.ensures ∙ alike first 100 reserved_words c.args.word.now (sym c.byte.ensures.value
    ∙ c.in-100.is)

pub returns-in-101 : goal.returns-in-101
unfolding is_reserved reserved_words
returns-in-101 c = c.is_among-in-101.ensures ∙ alike first 101 reserved_words c.args.word.now (sym c.byte.ensures.value
    ∙ c.in-101.is)

pub returns-in-102 : goal.returns-in-102
unfolding is_reserved reserved_words
returns-in-102 c = c.is_among-in-102.ensures ∙ alike first 102 reserved_words c.args.word.now (sym c.byte.ensures.value
    ∙ c.in-102.is)

pub returns-in-105 : goal.returns-in-105
unfolding is_reserved reserved_words
returns-in-105 c = c.is_among-in-105.ensures ∙ alike first 105 reserved_words c.args.word.now (sym c.byte.ensures.value
    ∙ c.in-105.is)

pub returns-in-108 : goal.returns-in-108
unfolding is_reserved reserved_words
returns-in-108 c = c.is_among-in-108.ensures ∙ alike first 108 reserved_words c.args.word.now (sym c.byte.ensures.value
    ∙ c.in-108.is)

pub returns-in-110 : goal.returns-in-110
unfolding is_reserved reserved_words
returns-in-110 c = c.is_among-in-110.ensures ∙ alike first 110 reserved_words c.args.word.now (sym c.byte.ensures.value
    ∙ c.in-110.is)

pub returns-in-112 : goal.returns-in-112
unfolding is_reserved reserved_words
returns-in-112 c = c.is_among-in-112.ensures ∙ alike first 112 reserved_words c.args.word.now (sym c.byte.ensures.value
    ∙ c.in-112.is)

pub returns-in-114 : goal.returns-in-114
unfolding is_reserved reserved_words
returns-in-114 c = c.is_among-in-114.ensures ∙ alike first 114 reserved_words c.args.word.now (sym c.byte.ensures.value
    ∙ c.in-114.is)

pub returns-in-115 : goal.returns-in-115
unfolding is_reserved reserved_words
returns-in-115 c = c.is_among-in-115.ensures ∙ alike first 115 reserved_words c.args.word.now (sym c.byte.ensures.value
    ∙ c.in-115.is)

pub returns-in-116 : goal.returns-in-116
unfolding is_reserved reserved_words
returns-in-116 c = c.is_among-in-116.ensures ∙ alike first 116 reserved_words c.args.word.now (sym c.byte.ensures.value
    ∙ c.in-116.is)

pub returns-in-118 : goal.returns-in-118
unfolding is_reserved reserved_words
returns-in-118 c = c.is_among-in-118.ensures ∙ alike first 118 reserved_words c.args.word.now (sym c.byte.ensures.value
    ∙ c.in-118.is)

pub returns-in-119 : goal.returns-in-119
unfolding is_reserved reserved_words
returns-in-119 c = c.is_among-in-119.ensures ∙ alike first 119 reserved_words c.args.word.now (sym c.byte.ensures.value
    ∙ c.in-119.is)

pub returns-in-121 : goal.returns-in-121
unfolding is_reserved reserved_words
returns-in-121 c = c.is_among-in-121.ensures ∙ alike first 121 reserved_words c.args.word.now (sym c.byte.ensures.value
    ∙ c.in-121.is)

abbrev is_initial : ℕ → Bool
is_initial w = w == 98 || w == 99 || w == 100 || w == 101 || w == 102 || w == 105 || w == 108 || w == 110 || w == 112
    || w == 114 || w == 115 || w == 116 || w == 118 || w == 119 || w == 121

pub returns-in_default : goal.returns-in_default
unfolding is_reserved reserved_words
returns-in_default c =
    let outside : is_initial (first c.args.word.now) ≡ false = grind (arith, nat_tests) in
    sym (none_among (λ w. is_initial (first w)) reserved_words c.args.word.now refl outside)

use Rattle.std.proofs.Common.{ℕ, ◌==◌, ◌||◌, Bool, false, ◌≡◌, slice_index, refl, sym, ◌∙◌, arith}
use Rattle.std.proofs.lemmas.Bool.Decides.{nat_tests}
use Rattle.hz_tree.specs.declared.class.Class.TheVariants as k
use Rattle.hz_tree.specs.grammar.Classes.{words}
use Rattle.hz_scan.proofs.SpellingLemmas.{alike, none_alike}
use Rattle.hz_scan.proofs.words.word_class.Goals as goal

pub returns-in-98 : goal.returns-in-98
returns-in-98 c = c.in_b.ensures ∙ alike 98 words k.Reserved c.args.text.now (sym c.byte.ensures.value ∙ c.in-98.is)

pub returns-in-99 : goal.returns-in-99
returns-in-99 c = c.in_c.ensures ∙ alike 99 words k.Reserved c.args.text.now (sym c.byte.ensures.value ∙ c.in-99.is)

pub returns-in-100 : goal.returns-in-100
returns-in-100 c = c.in_d.ensures ∙ alike 100 words k.Reserved c.args.text.now (sym c.byte.ensures.value ∙ c.in-100.is)

pub returns-in-101 : goal.returns-in-101
returns-in-101 c = c.in_e.ensures ∙ alike 101 words k.Reserved c.args.text.now (sym c.byte.ensures.value ∙ c.in-101.is)

pub returns-in-102 : goal.returns-in-102
returns-in-102 c = c.in_f.ensures ∙ alike 102 words k.Reserved c.args.text.now (sym c.byte.ensures.value ∙ c.in-102.is)

pub returns-in-105 : goal.returns-in-105
returns-in-105 c = c.in_i.ensures ∙ alike 105 words k.Reserved c.args.text.now (sym c.byte.ensures.value ∙ c.in-105.is)

pub returns-in-108 : goal.returns-in-108
returns-in-108 c = c.in_l.ensures ∙ alike 108 words k.Reserved c.args.text.now (sym c.byte.ensures.value ∙ c.in-108.is)

pub returns-in-110 : goal.returns-in-110
returns-in-110 c = c.in_n.ensures ∙ alike 110 words k.Reserved c.args.text.now (sym c.byte.ensures.value ∙ c.in-110.is)

pub returns-in-114 : goal.returns-in-114
returns-in-114 c = c.in_r.ensures ∙ alike 114 words k.Reserved c.args.text.now (sym c.byte.ensures.value ∙ c.in-114.is)

pub returns-in-115 : goal.returns-in-115
returns-in-115 c = c.in_s.ensures ∙ alike 115 words k.Reserved c.args.text.now (sym c.byte.ensures.value ∙ c.in-115.is)

pub returns-in-116 : goal.returns-in-116
returns-in-116 c = c.in_t.ensures ∙ alike 116 words k.Reserved c.args.text.now (sym c.byte.ensures.value ∙ c.in-116.is)

pub returns-in-118 : goal.returns-in-118
returns-in-118 c = c.in_v.ensures ∙ alike 118 words k.Reserved c.args.text.now (sym c.byte.ensures.value ∙ c.in-118.is)

pub returns-in-119 : goal.returns-in-119
returns-in-119 c = c.in_w.ensures ∙ alike 119 words k.Reserved c.args.text.now (sym c.byte.ensures.value ∙ c.in-119.is)

pub returns-in-121 : goal.returns-in-121
returns-in-121 c = c.in_y.ensures ∙ alike 121 words k.Reserved c.args.text.now (sym c.byte.ensures.value ∙ c.in-121.is)

abbrev is_initial : ℕ → Bool
is_initial w = w == 98 || w == 99 || w == 100 || w == 101 || w == 102 || w == 105 || w == 108 || w == 110 || w == 114
    || w == 115 || w == 116 || w == 118 || w == 119 || w == 121

pub returns-in_default : goal.returns-in_default
returns-in_default c =
    let outside : is_initial (slice_index c.args.text.now 0) ≡ false = grind (arith, nat_tests) in
    sym (none_alike is_initial words k.Reserved c.args.text.now refl outside)

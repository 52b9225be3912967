use Rattle.std.proofs.Common.{◌∙◌, ap, sym, ◌∷◌, drop, arith}
use Rattle.std.proofs.lemmas.List.{take_rest}
use Rattle.std.specs.Char.Utf16.{utf16_lossy_chars}
use Rattle.hermes.proofs.Characters.{last_unit, unit_in_front, pair_in_front}
use Rattle.hermes.proofs.telling.next_char.Goals as goal

pub returns-in-len1-clause-char : goal.returns-in-len1-clause-char
returns-in-len1-clause-char c =
    let units = c.args.units.now in
    rw (take_rest units 1)
    (last_unit units (omega arith) ∙ ap (λ x. x ∷ utf16_lossy_chars (drop 1 units)) (sym c.lone_char.ensures))

pub returns-then-is_pair-clause-char : goal.returns-then-is_pair-clause-char
returns-then-is_pair-clause-char c =
    let units = c.args.units.now in
    rw (take_rest units 2)
    (pair_in_front units (omega arith) (sym c.is_pair.ensures ∙ c.if-is_pair.true)
    ∙ ap (λ x. x ∷ utf16_lossy_chars (drop 2 units)) (sym c.pair_char.ensures))

pub returns-else-is_pair-clause-char : goal.returns-else-is_pair-clause-char
returns-else-is_pair-clause-char c =
    let units = c.args.units.now in
    rw (take_rest units 1)
    (unit_in_front units (omega arith) (sym c.is_pair.ensures ∙ c.if-is_pair.false)
    ∙ ap (λ x. x ∷ utf16_lossy_chars (drop 1 units)) (sym c.lone_char-else-is_pair.ensures))

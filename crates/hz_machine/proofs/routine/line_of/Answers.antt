use Rattle.std.proofs.Common.{rules, ◌≡◌, ◌∙◌, sym, ap, ◌∷◌, ◌-◌, take, drop, length, arith}
use Rattle.std.specs.List.{join_with_byte}
use Rattle.hz_value.specs.operators.Conversions.{to_text}
use Rattle.hz_value.specs.world.Store.{content_of}
use Rattle.hz_value.specs.system.Routines.{text_or_empty}
use Rattle.hz_machine.specs.Kept.{store_of}
use Rattle.hz_machine.specs.Routines.{texts_of}
use Rattle.hz_machine.proofs.Lines.{first_and_rest, begun}
use Rattle.hz_machine.proofs.routine.line_of.Goals as goal

pub loop-value-init : goal.loop-value-init
loop-value-init c =
    let whole : c.args.arguments.now
    ≡ c.first-item.result ∷ take (length c.args.arguments.now - 1) (drop 1 c.args.arguments.now) =
    first_and_rest c.args.arguments.now c.first-item.result (omega arith) c.first-item.is in
    let line : c.push_or_nothing.new.line.items
    ≡ text_or_empty (to_text (content_of (store_of c.args.kept.now) c.first-item.result)) = search rules in
    begun (λ v. text_or_empty (to_text (content_of (store_of c.args.kept.now) v))) c.first-item.result
    (take (length c.args.arguments.now - 1) (drop 1 c.args.arguments.now)) c.push_or_nothing.new.line.items line
    ∙ ap (λ vs. join_with_byte 32 (texts_of (store_of c.args.kept.now) vs)) (sym whole)

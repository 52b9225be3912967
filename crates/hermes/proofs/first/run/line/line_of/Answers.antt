use Rattle.std.proofs.Common.{rules, ◌≡◌, [], ◌∷◌, ◌++◌, map, ◌-◌, length}
use Rattle.hz_ops.specs.Contents.{text_of, line_of}
use Rattle.hermes.specs.first.Rows.{content_of}
use Rattle.std.proofs.Common.{take, drop, ap, sym, ◌∙◌, arith, option_map, Some}
use Rattle.hermes.proofs.first_texts.running.Lines.{first_and_rest, begun}
use Rattle.hermes.proofs.first.run.line.line_of.Goals as goal

-- src/first/run/line.rt:58:5
pub loop-argument-init : goal.loop-argument-init
loop-argument-init c =
    let whole : c.args.arguments.now
    ≡ c.first-item.result ∷ take (length c.args.arguments.now - 1) (drop 1 c.args.arguments.now) =
    first_and_rest c.args.arguments.now c.first-item.result (omega arith) c.first-item.is in
    let e : option_map (λ t. [] ++ t) (text_of (content_of c.first-item.result)) ≡ Some c.push_text.new.line.items =
    search rules in
    begun c.first-item.result (take (length c.args.arguments.now - 1) (drop 1 c.args.arguments.now))
    c.push_text.new.line.items e
    ∙ ap (λ held. line_of (map content_of held)) (sym whole)

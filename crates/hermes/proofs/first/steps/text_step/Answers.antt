use Rattle.std.proofs.Common.{List, ℕ, [], ◌∷◌, ◌++◌, arith, refl, ap, ◌∙◌, inl}
use Rattle.hermes.specs.declared.first.language.Argument.TheVariants as argument
use Rattle.hermes.proofs.first_texts.reading.Steps.{text_closes, text_stops, text_step_at}
use Rattle.hermes.proofs.first.steps.text_step.Goals as goal

pub returns-then-byte-eq34 : goal.returns-then-byte-eq34
returns-then-byte-eq34 c = (
  tt,
  text_closes c.args.source.now c.args.start c.args.at c.args.calls.now c.push.new.self c.requires.valid.0
      c.requires.valid.1 c.requires.place c.if-byte-eq34.true
      (c.in_ok-push.ensures.ok ∙ ap (λ (t : List ℕ). c.args.calls.now ++ argument.Text t ∷ []) c.new.ensures),
)

pub returns-then-at-start-ge-MAX_TEXT : goal.returns-then-at-start-ge-MAX_TEXT
returns-then-at-start-ge-MAX_TEXT c = (
  refl,
  text_stops c.args.source.now c.args.start c.args.at c.args.calls.now c.requires.valid.0 c.requires.place
      c.if-byte-eq34.false (inl c.if-at-start-ge-MAX_TEXT.true),
)

pub returns : goal.returns
returns c =
    text_step_at c.args.source.now c.args.start c.args.at c.args.calls.now c.stands_in_text.result c.advance.result
    c.requires.valid.0 (omega arith) c.requires.place
    c.if-byte-eq34.false c.stands_in_text.ensures c.advance.ensures

use Rattle.std.proofs.Common.{ap, ◌∙◌, reverse, map}
use Rattle.hz_tree.specs.grammar.Classes.{class_of}
use Rattle.hz_tree.specs.tokens.Tokens.{tokens}
use Rattle.hz_scan.proofs.OrderLemmas.{in_order}
use Rattle.hz_cursor.specs.Cursor.{Keeps}
use Rattle.hz_cursor.specs.Marks.{answers}
use Rattle.hz_cursor.specs.Stored.{first_two}
use Rattle.hz_cursor.proofs.ArrowLemmas.{answers_all}
use Rattle.hz_cursor.proofs.CursorLemmas.{begins, all_left}
use Rattle.hz_cursor.proofs.cursor.Cursor.new.Goals as goal

pub invariant_of-result : goal.invariant_of-result
invariant_of-result c =
    let source = c.args.source.now in
    let kept = c.into_parts-tokens.result.0.items in
    let long = reverse c.into_parts-tokens.result.1.items in
    let flags = reverse c.in_ok-arrows.arrows.items in
    let keeps : Keeps source 0 kept long flags (tokens source) = record {
      kept_are = c.into_parts-tokens.ensures.tokens ∙ c.in_ok-store.ensures.tokens;
      long_are = c.into_parts-tokens.ensures.long ∙ c.in_ok-store.ensures.long;
      flags_are = c.in_ok-arrows.ensures ∙ ap (λ marks. (answers marks).0) c.in_ok-store.ensures.marks
          ∙ answers_all (map class_of (tokens source));
      order = in_order source;
    } in
    begins source kept long flags c.first_two-look.result c.requires keeps
    (c.first_two-look.ensures ∙ ap (λ ts. first_two ts flags) c.rest.ensures)

pub returns : goal.returns
returns c = all_left c.args.source.now

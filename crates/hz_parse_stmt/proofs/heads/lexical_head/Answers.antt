use Rattle.std.proofs.Common.{◌∙◌, Some, ap}
use Rattle.hz_tree.specs.grammar.HeadRows.{lexical_head_row}
use Rattle.hz_parts.specs.declared.heads.AfterFor.TheVariants as after_for
use Rattle.hz_parts.specs.declared.parts.Seen.{Seen}
use Rattle.hz_parts.specs.Values.{push_after_for, push_after_name, push_name, push_seen, push_tree}
use Rattle.hz_parts.specs.Values.{seen_token, seen_told, shown_name}
use Rattle.hz_parse_expr.proofs.RowLaws.{made_of, same_token, without_token}
use Rattle.hz_parse_stmt.proofs.heads.lexical_head.Goals as goal

pub returns : goal.returns
returns c =
    λ context one. made_of (lexical_head_row c.args.word one context) _ c.declares.result c.args.parts.now
    c.declares.new.parts c.declares.ensures
    (λ h parts below e.
    let first = seen_token parts.1.0 in
    let bound = parts.1.1.0 in
    let after = shown_name parts.1.1.1.0 in
    let last = seen_token parts.1.1.1.1.0 in
    let body = parts.1.1.1.1.1.0 in
    let ended = seen_told parts.1.1.1.1.1.1.0 in
    let rest = push_tree body (push_seen last (push_after_name after (push_name (Some bound) (push_seen first below))))
    in
    h first last bound after body below
    (without_token c.in-Some.ended ended c.pop.new.self c.args.parts.now rest c.in-Some.ensures e)
    ∙ ap (λ (token : Seen). push_after_for (after_for.Declares c.args.word bound after body (Some token.behind)) below)
    (same_token c.in-Some.ended ended c.pop.new.self c.args.parts.now rest c.in-Some.ensures e))

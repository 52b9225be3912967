use Rattle.std.proofs.Common.{◌∙◌, ap, map, codes, string_bytes}
use Rattle.std.specs.List.{join_by}
use Rattle.std.proofs.lemmas.Result.{IfOk-weaker}
use Rattle.std.proofs.lemmas.Option.{slice_get-get_or}
use Rattle.hz_tree.specs.tokens.Tokens.{lexeme}
use Rattle.hz_front_cases.specs.Answers.{separated, token_word}
use Rattle.hz_front_cases.proofs.Separated.{all_words, map_twice, one_more_word}
use Rattle.hz_front_cases.proofs.tokens.token_words.Goals as goal

pub loop-token-preserved : goal.loop-token-preserved
loop-token-preserved c =
    let all = c.args.all.now in
    let at = c.loop-token.token-index in
    ap (map string_bytes) c.in_ok-push.ensures.items
    ∙ one_more_word (λ t. token_word (lexeme t)) c.loop-token.words.items c.in_ok-token_word.field-0 all at _
    c.loop-token.invariant (slice_get-get_or all at _ c.loop-token-test.true) c.in_ok-token_word.ensures

pub returns : goal.returns
returns c =
    let all = c.args.all.now in
    IfOk-weaker c.join.result _ _
    (λ text is. is ∙ ap (join_by string_bytes (codes " ")) c.deref.ensures.value
    ∙ all_words (λ t. token_word (lexeme t)) (codes " ") c.loop-token.words.items all c.loop-token.token-index
    c.loop-token.invariant c.loop-token-test.false
    ∙ ap (separated (codes " ")) (map_twice token_word lexeme all))
    c.join.ensures.ok

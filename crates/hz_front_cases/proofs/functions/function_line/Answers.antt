use Rattle.std.proofs.Common.{arith, ◌≡◌, ◌≤◌, ◌∙◌, ap, length, map, codes, string_bytes}
use Rattle.std.specs.List.{join_by}
use Rattle.std.proofs.lemmas.Result.{IfOk-weaker}
use Rattle.hz_tree.specs.sources.Refusals.{functions}
use Rattle.hz_front_cases.specs.Answers.{function_word}
use Rattle.hz_front_cases.proofs.Separated.{all_words, one_more_word}
use Rattle.hz_front_cases.proofs.functions.function_line.Goals as goal

pub loop-k-preserved : goal.loop-k-preserved
loop-k-preserved c =
    let all = functions c.args.index.now.source in
    ap (map string_bytes) c.in_ok-push.ensures.items
    ∙ one_more_word function_word c.loop-k.words.items c.in_ok-function_word.field-0 all c.loop-k.k
    c.function.result.now c.loop-k.invariant c.function.ensures c.in_ok-function_word.ensures

pub returns : goal.returns
returns c =
    let all = functions c.args.index.now.source in
    let count : c.count-k-end.result ≡ length all = c.count-k-end.ensures in
    let ends : c.count-k-end.result ≤ c.loop-k.k = c.loop-k-test.false in
    IfOk-weaker c.join.result _ _
    (λ text is. is ∙ ap (join_by string_bytes (codes ", ")) c.deref.ensures.value
    ∙ all_words function_word (codes ", ") c.loop-k.words.items all c.loop-k.k
    c.loop-k.invariant (omega (arith, count, ends)))
    c.join.ensures.ok

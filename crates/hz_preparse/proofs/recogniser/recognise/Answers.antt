use Rattle.std.proofs.Common.{◌≡◌, suc, ap, sym, ◌∙◌, arith, [], ◌∷◌}
use Rattle.std.proofs.lemmas.Result.{err_from_is_err_and}
use Rattle.hz_tree.specs.declared.nonterminal.Nonterminal.TheVariants as n
use Rattle.hz_tree.specs.declared.symbol.Symbol.TheVariants as s
use Rattle.hz_tree.specs.reading.Stack.{ends, work}
use Rattle.hz_laws.proofs.StackLaws.{ends_none}
use Rattle.hz_preparse.specs.Outcome.{outcome}
use Rattle.hz_preparse.proofs.Whole.{answers_same}
use Rattle.hz_preparse.proofs.recogniser.recognise.Goals as goal

pub loop-symbol-init : goal.loop-symbol-init
loop-symbol-init c = ap (λ xs. outcome c.args.heard (ends xs c.args.cursor.now)) (c.in_ok-begin.ensures
    ∙ ap (λ xs. s.Read n.Script ∷ xs) c.new-stack.ensures)

pub loop-symbol-smaller : goal.loop-symbol-smaller
loop-symbol-smaller c =
    let less : work (c.in-Some.symbol ∷ c.pop.new.self) c.loop-symbol.cursor
    ≡ suc (work c.step.new.stack c.step.new.cursor) = c.in_ok-step.ensures.less in
    let popped : work c.loop-symbol.stack c.loop-symbol.cursor
    ≡ work (c.in-Some.symbol ∷ c.pop.new.self) c.loop-symbol.cursor =
    ap (λ xs. work xs c.loop-symbol.cursor) c.in-Some.ensures in
    omega (arith, less, popped)

pub loop-symbol-preserved : goal.loop-symbol-preserved
loop-symbol-preserved c =
    c.in_ok-step.ensures.same
    ∙ ap (λ xs. outcome c.loop-symbol.heard (ends xs c.loop-symbol.cursor)) (sym c.in-Some.ensures)
    ∙ c.loop-symbol.invariant

pub returns-in_err-step : goal.returns-in_err-step
returns-in_err-step c =
    let p = err_from_is_err_and c.from_residual-in_err-step.result c.from_residual-in_err-step.ensures.1 in
    rw (p.1, p.2)
    (answers_same (outcome c.loop-symbol.heard (ends (c.in-Some.symbol ∷ c.pop.new.self) c.loop-symbol.cursor))
    (outcome c.args.heard (ends (s.Read n.Script ∷ []) c.args.cursor.now)) c.in_err-step.field-0.0 c.in_err-step.ensures
    (ap (λ xs. outcome c.loop-symbol.heard (ends xs c.loop-symbol.cursor)) (sym c.in-Some.ensures)
    ∙ c.loop-symbol.invariant))

pub returns : goal.returns
returns c =
    sym c.loop-symbol.invariant
    ∙ ap (λ xs. outcome c.loop-symbol.heard (ends xs c.loop-symbol.cursor)) c.in_default.ensures.0
    ∙ ap (outcome c.loop-symbol.heard) (ends_none c.loop-symbol.cursor)

use Rattle.std.proofs.Common.{◌∙◌, sym}
use Rattle.std.proofs.lemmas.Result.{err_from_is_err_and}
use Rattle.hz_preparse.proofs.Whole.{read_ok, read_scopes, read_err}
use Rattle.hz_preparse.proofs.index.index_of.Goals as goal

pub returns-in_err-heard : goal.returns-in_err-heard
returns-in_err-heard c =
    let p = err_from_is_err_and c.from_residual-in_err-heard.result c.from_residual-in_err-heard.ensures.1 in
    rw (p.1, p.2)
    (read_err c.args.source.now c.in_ok-cursor.cursor c.in_ok-begun.begun c.requires c.in_ok-cursor.ensures
    c.in_ok-begun.ensures c.in_err-heard.field-0.0 c.in_err-heard.ensures c.args.strict)

pub returns-in-Some : goal.returns-in-Some
returns-in-Some c =
    let read = read_ok c.args.source.now c.in_ok-cursor.cursor c.in_ok-begun.begun c.requires c.in_ok-cursor.ensures
    c.in_ok-begun.ensures c.in_ok-heard.heard c.in_ok-heard.ensures c.args.strict in
    read.0 ∙ sym c.refusal.ensures ∙ c.in-Some.is

pub finish-requires-clause-accepted : goal.finish-requires-clause-accepted
finish-requires-clause-accepted c =
    let read = read_ok c.args.source.now c.in_ok-cursor.cursor c.in_ok-begun.begun c.requires c.in_ok-cursor.ensures
    c.in_ok-begun.ensures c.in_ok-heard.heard c.in_ok-heard.ensures c.args.strict in
    read.0 ∙ sym c.refusal.ensures ∙ c.in-None.is

pub finish-requires-clause-functions : goal.finish-requires-clause-functions
finish-requires-clause-functions c =
    (read_ok c.args.source.now c.in_ok-cursor.cursor c.in_ok-begun.begun c.requires c.in_ok-cursor.ensures
    c.in_ok-begun.ensures c.in_ok-heard.heard c.in_ok-heard.ensures c.args.strict).1

pub finish-requires-clause-scopes : goal.finish-requires-clause-scopes
finish-requires-clause-scopes c =
    read_scopes c.args.source.now c.in_ok-cursor.cursor c.in_ok-begun.begun c.requires c.in_ok-cursor.ensures
    c.in_ok-begun.ensures c.in_ok-heard.heard c.in_ok-heard.ensures c.args.strict
    (finish-requires-clause-accepted c)

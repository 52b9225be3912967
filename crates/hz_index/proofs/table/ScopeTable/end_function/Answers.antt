use Rattle.std.proofs.Common.{◌≡◌, ◌++◌, ◌∙◌, ap, drop, min, length, rules}
use Rattle.std.proofs.lemmas.List.{take_rest, drop_min}
use Rattle.hz_index.specs.Flat.{around_of}
use Rattle.hz_index.specs.Table.{with_function_end}
use Rattle.hz_index.proofs.FlatLemmas.{function_end_shown}
use Rattle.hz_index.proofs.table.ScopeTable.end_function.Goals as goal

pub returns : goal.returns
returns c =
    let i = c.self.inside in
    let first : c.min-first.result ≡ min c.args.from (length i.listed.items) = search rules in
    let all : c.settle.new.scopes.items ≡ i.scopes.items ++ drop c.args.from i.listed.items =
    c.in_ok-scopes.ensures.ok
    ∙ ap (λ ss. i.scopes.items ++ ss) (take_rest c.deref.result.now c.min-first.result
    ∙ rw (c.deref.ensures.value, first) (drop_min c.args.from i.listed.items)) in
    rw (c.truncate.ensures.items, c.set_function.ensures, c.in_ok-scopes.ensures.part, all, c.len.ensures)
    (function_end_shown i.names i.settled i.scopes.items i.listed.items i.functions.items c.self.invariant
    c.args.number c.args.from c.in_ok-around.around c.args.binds
    ∙ ap (with_function_end c.args.number c.args.from (around_of c.in_ok-around.around) c.args.binds) c.self.view_is
    ∙ ap (λ around. with_function_end c.args.number c.args.from around c.args.binds c.args.self.now)
    c.in_ok-around.ensures)

use Rattle.std.proofs.Common.{◌≡◌, ◌∙◌, ap, sym, arith, length, ◌<◌}
use Rattle.hz_index.proofs.Standing.{same_count}
use Rattle.hz_tree.specs.sources.Refusals.{function_scopes}
use Rattle.hz_tree.specs.trees.FunctionScopes.{FunctionScopes}
use Rattle.hz_resolve.proofs.Parts.{length-starts, function_start}
use Rattle.hz_resolve.proofs.Standings.{placed_is}
use Rattle.hz_resolve.proofs.functions.placed_function.Goals as goal

pub bounds-starts-k : goal.bounds-starts-k
bounds-starts-k c =
    let source = c.args.index.now.source in
    omega (
      arith,
      c.requires.there,
      same_count source,
      ap length c.requires.starts,
      length-starts (λ (f : FunctionScopes). length f.scopes) 0 (function_scopes source),
    )

pub returns : goal.returns
returns c =
    let source = c.args.index.now.source in
    let fs = function_scopes source in
    let there : c.args.k < length fs = omega (arith, c.requires.there, same_count source) in
    placed_is fs c.args.k _ c.binds.result c.in_ok-number_around.field-0 c.binds.ensures c.in_ok-number_around.ensures
    (function_start fs c.args.starts.now c.args.k c.requires.starts there)

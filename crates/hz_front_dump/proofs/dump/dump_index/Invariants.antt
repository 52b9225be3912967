use Rattle.std.proofs.Common.{◌≡◌, ◌++◌, [], take}
use Rattle.std.specs.List.{flat_map, enumerate_from, zip}
use Rattle.hz_tree.specs.sources.Refusals.{functions, function_scopes}
use Rattle.hz_front_dump.specs.Dump.{function_lines}
use Rattle.hz_front_dump.proofs.dump.dump_index.Given as goal

abbrev pub invariant-loop-k : goal.invariant-loop-k
invariant-loop-k l =
    l.text.items ≡ [] ++ flat_map (function_lines l.index.source)
    (take l.k (enumerate_from 0 (zip (functions l.index.source) (function_scopes l.index.source))))

use Rattle.std.proofs.Common.{◌≡◌, [], ◌∷◌}
use Rattle.hz_tree.specs.declared.nonterminal.Nonterminal.TheVariants as n
use Rattle.hz_tree.specs.declared.symbol.Symbol.TheVariants as s
use Rattle.hz_tree.specs.reading.Stack.{ends, work}
use Rattle.hz_preparse.specs.Outcome.{outcome}
use Rattle.hz_preparse.proofs.recogniser.recognise.Given as goal

abbrev pub invariant-loop-symbol : goal.invariant-loop-symbol
invariant-loop-symbol l = outcome l.heard (ends l.stack l.cursor)
    ≡ outcome l.fn.heard (ends (s.Read n.Script ∷ []) l.fn.cursor)

abbrev pub decreases-loop-symbol : goal.decreases-loop-symbol
decreases-loop-symbol l = work l.stack l.cursor

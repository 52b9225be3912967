use Rattle.std.proofs.Common.{◌≡◌, take, map, string_bytes}
use Rattle.hz_tree.specs.sources.Refusals.{functions}
use Rattle.hz_front_cases.specs.Answers.{function_word}
use Rattle.hz_front_cases.proofs.functions.function_line.Given as goal

abbrev pub invariant-loop-k : goal.invariant-loop-k
invariant-loop-k l = map string_bytes l.words.items ≡ map function_word (take l.k (functions l.index.source))

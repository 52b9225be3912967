use Rattle.std.proofs.Common.{◌≡◌, ◌++◌, take, length}
use Rattle.std.specs.Prelude.{flat_map}
use Rattle.hermes.specs.first.Generated.{calls_code, argument_texts}
use Rattle.hermes.proofs.first.generate.calls.push_calls.Given as goal

abbrev pub invariant-loop-argument : goal.invariant-loop-argument
invariant-loop-argument l = record {
  code : l.code.items ≡ l.initial.code.items ++ calls_code (length l.initial.texts) (take l.argument-index l.calls);
  texts : l.texts ≡ l.initial.texts ++ flat_map argument_texts (take l.argument-index l.calls);
}

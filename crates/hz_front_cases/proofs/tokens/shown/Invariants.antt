use Rattle.std.proofs.Common.{◌≡◌, take, string_bytes}
use Rattle.hz_front_cases.specs.Answers.{shown}
use Rattle.hz_front_cases.proofs.tokens.shown.Given as goal

abbrev pub invariant-loop-byte : goal.invariant-loop-byte
invariant-loop-byte l = string_bytes l.made ≡ shown (take l.byte-index l.text)

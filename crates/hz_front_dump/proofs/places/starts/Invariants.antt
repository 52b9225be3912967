use Rattle.std.proofs.Common.{◌≡◌, ◌+◌, length, take}
use Rattle.hz_tree.specs.tokens.Tokens.{tokens}
use Rattle.hz_front_dump.specs.Places.{HasStarts}
use Rattle.hz_front_dump.proofs.places.starts.Given as goal

abbrev pub invariant-loop-token : goal.invariant-loop-token
invariant-loop-token l =
    (length l.starts.items ≡ length l.source + 1) × HasStarts (take l.token-index (tokens l.source)) l.starts.items

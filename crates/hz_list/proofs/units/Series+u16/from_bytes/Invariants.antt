use Rattle.std.proofs.Common.{◌≡◌, take}
use Rattle.hz_list.proofs.units.Series+u16.from_bytes.Given as goal

-- one unit for each byte so far
abbrev pub invariant-loop-byte : goal.invariant-loop-byte
invariant-loop-byte l = l.units.items ≡ take l.byte-index l.bytes

use Rattle.std.proofs.Common.{◌≡◌, ◌+◌, ◌-◌, ◌≤◌, length, drop}
use Rattle.std.specs.Char.{is_ascii_digit}
use Rattle.std.specs.List.{prefix_len}
use Rattle.hz_scan.proofs.numbers.ascii_digits.Given as goal

abbrev pub invariant-loop-len : goal.invariant-loop-len
invariant-loop-len l =
    (l.len + prefix_len is_ascii_digit (drop l.len l.z) ≡ prefix_len is_ascii_digit l.z) × (l.len ≤ length l.z)

abbrev pub decreases-loop-len : goal.decreases-loop-len
decreases-loop-len l = length l.z - l.len

use Rattle.std.proofs.Common.{◌≡◌, ◌+◌, ◌*◌, ◌-◌}
use Rattle.hz_file.specs.Layout.{string_count, strings_at, entries_from}
use Rattle.hz_file.specs.Rules.{first_long_text, entries_rule}
use Rattle.hz_file.proofs.rules.texts.entries_fault.Given as goal

abbrev pub invariant-loop-id : goal.invariant-loop-id
invariant-loop-id l =
    let at = strings_at l.bytes + 4 * l.id in
    first_long_text at (entries_from (string_count l.bytes - l.id) at l.bytes) ≡ entries_rule l.bytes

use Rattle.std.proofs.Common.{◌≡◌, ◌+◌, ◌*◌, ◌-◌, ◌≤◌}
use Rattle.hz_file.specs.Layout.{string_count, strings_at, storage_length, entries_from}
use Rattle.hz_file.specs.Rules.{first_faulty_text, texts_rule}
use Rattle.hz_file.proofs.rules.texts.texts_fault.Given as goal

abbrev pub invariant-loop-id : goal.invariant-loop-id
invariant-loop-id l =
    let at = strings_at l.bytes + 4 * l.id in
    (l.next ≤ storage_length l.bytes)
    × (first_faulty_text l.bytes at l.next (entries_from (string_count l.bytes - l.id) at l.bytes) ≡ texts_rule l.bytes)

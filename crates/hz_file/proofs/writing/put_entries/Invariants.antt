use Rattle.std.proofs.Common.{◌≡◌, ◌++◌, ◌+◌, length, drop}
use Rattle.std.specs.List.{concat}
use Rattle.hz_file.specs.Image.{numbers, entry_words}
use Rattle.hz_file.proofs.writing.put_entries.Given as goal

abbrev pub invariant-loop-text : goal.invariant-loop-text
invariant-loop-text l =
    (l.place + length (concat (drop l.text-index l.texts)) ≡ length (concat l.texts))
    × (l.bytes.items ++ numbers 4 (entry_words l.place (drop l.text-index l.texts))
    ≡ l.initial.bytes.items ++ numbers 4 (entry_words 0 l.texts))

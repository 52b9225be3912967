use Rattle.std.proofs.Common.{◌+◌, ◌*◌, ◌-◌, ◌∙◌, sym, arith}
use Rattle.hz_file.specs.Layout.{strings_at, string_count}
use Rattle.hz_file.proofs.Walking.{IsEntry, long_more, long_stop, long_end}
use Rattle.hz_file.proofs.rules.texts.entries_fault.Goals as goal

pub loop-id-preserved : goal.loop-id-preserved
loop-id-preserved c =
    let bytes = c.args.bytes.now in
    let id = c.loop-id.id in
    let here = strings_at bytes + 4 * id in
    let left = string_count bytes - (id + 1) in
    let entry : IsEntry bytes (string_count bytes - id) left here (strings_at bytes + 4 * (id + 1)) c.at.result.word =
    record { less = omega arith; next = omega arith; is = grind arith } in
    sym (long_more entry (omega arith)) ∙ c.loop-id.invariant

pub returns : goal.returns
returns c =
    let bytes = c.args.bytes.now in
    let id = c.loop-id.id in
    sym (long_end bytes (string_count bytes - id) (strings_at bytes + 4 * id) (omega arith)) ∙ c.loop-id.invariant

pub returns-then-units-ge255 : goal.returns-then-units-ge255
returns-then-units-ge255 c =
    let bytes = c.args.bytes.now in
    let at = strings_at bytes + 4 * c.loop-id.id in
    let left = string_count bytes - c.loop-id.id in
    let stopped = long_stop bytes left at c.at.result.word (omega arith) (grind arith) (omega arith) in
    rw c.strings_at-strings.ensures (sym stopped ∙ c.loop-id.invariant)

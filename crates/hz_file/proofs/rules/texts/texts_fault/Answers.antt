use Rattle.std.proofs.Common.{◌+◌, ◌*◌, ◌-◌, ◌∙◌, sym, arith}
use Rattle.hz_file.specs.Layout.{strings_at, string_count}
use Rattle.hz_file.proofs.Walking.{IsEntry, kept_fits, faulty_more, faulty_stop, faulty_end}
use Rattle.hz_file.proofs.rules.texts.texts_fault.Goals as goal

pub loop-id-preserved : goal.loop-id-preserved
loop-id-preserved c =
    let bytes = c.args.bytes.now in
    let id = c.loop-id.id in
    let next = c.loop-id.next in
    let kept = sym c.is_text_entry.ensures ∙ c.if-not-is_text_entry.false in
    let here = strings_at bytes + 4 * id in
    let left = string_count bytes - (id + 1) in
    let word = c.at-entry.result.word in
    let entry : IsEntry bytes (string_count bytes - id) left here (strings_at bytes + 4 * (id + 1)) word =
    record { less = omega arith; next = omega arith; is = grind arith } in (
      rw (← c.size-next.ensures) at (kept_fits bytes next word kept).1,
      sym (faulty_more next (next + c.size-next.result) entry (omega arith) kept) ∙ c.loop-id.invariant.1,
    )

pub returns : goal.returns
returns c =
    let bytes = c.args.bytes.now in
    let left = string_count bytes - c.loop-id.id in
    let walked = faulty_end bytes left (strings_at bytes + 4 * c.loop-id.id) c.loop-id.next (omega arith) in
    c.unless.ensures ∙ rw (c.u64_at.ensures, c.storage_at.ensures) (sym walked ∙ c.loop-id.invariant.1)

pub returns-then-not-is_text_entry : goal.returns-then-not-is_text_entry
returns-then-not-is_text_entry c =
    let bytes = c.args.bytes.now in
    let at = strings_at bytes + 4 * c.loop-id.id in
    let left = string_count bytes - c.loop-id.id in
    let stray = sym c.is_text_entry.ensures ∙ c.if-not-is_text_entry.true in
    let stopped = faulty_stop bytes left at c.loop-id.next c.at-entry.result.word (omega arith) (grind arith) stray in
    rw c.strings_at-strings.ensures (sym stopped ∙ c.loop-id.invariant.1)

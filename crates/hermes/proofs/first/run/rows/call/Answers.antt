use Rattle.std.proofs.Common.{◌≡◌, rules, Some, map}
use Rattle.std.specs.Prelude.{slice_set, string_bytes}
use Rattle.hz_ops.specs.Contents.{line_of}
use Rattle.hermes.specs.Printing.{line_bytes}
use Rattle.hermes.specs.declared.first.run.held.Held.TheVariants.{Undefined}
use Rattle.hermes.specs.first.Rows.{content_of, CallsPrint}
use Rattle.hermes.proofs.first_texts.running.Rows.{printed_row}
use Rattle.hermes.proofs.first.run.rows.call.Goals as goal

pub returns : goal.returns
returns c = λ place next.
    let calls : CallsPrint c.args.registers.now c.args.call c.in_ok-arguments.field-0.now = search rules in
    let made : line_of (map content_of c.in_ok-arguments.field-0.now) ≡ Some c.in_ok-line.line.items = search rules in
    let spelled : string_bytes c.in_ok-bytes.bytes ≡ line_bytes c.in_ok-line.line.items = search rules in
    let put : c.put.new.registers ≡ slice_set c.args.registers.now c.args.call.result Undefined = search rules in
    printed_row c.args.registers.now c.put.new.registers c.args.call c.in_ok-arguments.field-0.now
    c.in_ok-line.line.items (string_bytes c.in_ok-bytes.bytes) place next calls made spelled put

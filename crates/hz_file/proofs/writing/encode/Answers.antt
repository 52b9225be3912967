use Rattle.std.proofs.Common.{◌≡◌, ◌∙◌, ap}
use Rattle.sha1.specs.Sha1.{sha1}
use Rattle.hz_file.specs.Image.{Program, program, body}
use Rattle.hz_file.proofs.Body.{body_is, image_is}
use Rattle.hz_file.proofs.writing.encode.Goals as goal

pub returns : goal.returns
returns c =
    let p : Program = program c.args.strict c.args.source.now c.args.texts.now c.args.registers c.args.code.now in
    let front : c.put-2.new.bytes.items ≡ body p =
    rw (
      c.in_ok-put-2.ensures,
      c.in_ok-put.ensures,
      c.in_ok-put_storage.ensures,
      c.in_ok-put_entries.ensures,
      c.in_ok-put_function_header.ensures,
      c.in_ok-put_header.ensures,
      c.in_ok-bytes.ensures.items,
      c.len.ensures,
      c.len-2.ensures,
      c.units_in-storage.ensures,
    ) (body_is p) in
    image_is p c.put-2.new.bytes.items c.digest-footer.result c.put-3.new.bytes.items front
    (c.digest-footer.ensures ∙ ap sha1 c.deref.ensures.value) c.in_ok-put-3.ensures

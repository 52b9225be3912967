use Rattle.std.proofs.Common.{◌≡◌, ◌∙◌, ap, sym, Some, arith}
use Rattle.std.specs.BTreeMap.{get_by_text}
use Rattle.std.specs.Option.{option_map}
use Rattle.std.proofs.lemmas.Map.Text.{text_keys}
use Rattle.hz_io.proofs.FileEntries.{file_in_entries}
use Rattle.hz_io.proofs.mem_files.put_bytes.Goals as goal

pub returns-clause-others : goal.returns-clause-others
returns-clause-others c = λ q other.
    let same : get_by_text c.insert.new.self q ≡ get_by_text c.args.files.now q = grind (arith, text_keys) in
    file_in_entries c.insert.new.self.entries q ∙ ap (option_map (λ v. v.items)) same
    ∙ sym (file_in_entries c.args.files.now.entries q)

pub returns-clause-bytes : goal.returns-clause-bytes
returns-clause-bytes c =
    let there : get_by_text c.insert.new.self c.args.name.now ≡ Some c.in_ok-value.value = grind (arith, text_keys) in
    file_in_entries c.insert.new.self.entries c.args.name.now ∙ ap (option_map (λ v. v.items)) there
    ∙ ap Some c.in_ok-value.ensures.items

-- The entries of operands as the code keeps them.
use Rattle.std.specs.Prelude.{List, map, reverse}
use Rattle.hz_tree.specs.errors.Targets.{Shape, a_name, a_property, a_chain, a_pattern, a_text, another, Operand}
use Rattle.hz_errors.specs.declared.operand_entries.Entry.{Entry as Kept}
use Rattle.hz_errors.specs.declared.operand_entries.KeptShape.{KeptShape}
use Rattle.hz_errors.specs.declared.operand_entries.KeptShape.TheVariants as kept
use Rattle.hz_errors.specs.Operands.{Entry}

abbrev pub shape_seen : KeptShape → Shape
shape_seen (kept.Name at name) = a_name at name.now
shape_seen kept.Property = a_property
shape_seen kept.Chain = a_chain
shape_seen kept.Pattern = a_pattern
shape_seen (kept.Text written) = a_text written.now
shape_seen kept.Other = another

abbrev pub operand_seen : Kept → Operand
operand_seen e = record { at = e.at; shape = shape_seen e.shape; parenthesised = e.parenthesised }

abbrev pub entry_seen : Kept → Entry
entry_seen e = record { operand = operand_seen e; proto = e.proto }

-- the last entry that was kept is the uppermost
abbrev pub entries_seen : List Kept → List Entry
entries_seen entries = map entry_seen (reverse entries)

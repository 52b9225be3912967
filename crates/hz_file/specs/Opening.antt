-- The first rule of a file that fails, with its place.
use Rattle.std.specs.Prelude.{ℕ, List, Option, Some, None}
use Rattle.hz_file.specs.declared.malformed.Malformed.{Malformed}
use Rattle.hz_file.specs.declared.malformed.TheConstants.{SIZE_RULE, EDITION_RULE, ZERO_RULE, LENGTH_RULE}
use Rattle.hz_file.specs.declared.malformed.TheConstants.{SECTIONS_RULE, FUNCTIONS_RULE, CODE_RULE, ENTRIES_RULE}
use Rattle.hz_file.specs.declared.malformed.TheConstants.{TEXTS_RULE, FOOTER_RULE}
use Rattle.hz_file.specs.Rules.{size_rule, edition_rule, zero_rule, length_rule, sections_rule, functions_rule}
use Rattle.hz_file.specs.Rules.{code_rule, entries_rule, texts_rule, footer_rule}

-- this rule's fault, or else the first of the others
abbrev pub fails : ℕ → Option ℕ → Option Malformed → Option Malformed
fails n None others = others
fails n (Some place) others = Some (record { rule = n; at = place })

unfoldable pub rule : List ℕ → Option Malformed
rule bytes =
    fails SIZE_RULE (size_rule bytes) (fails EDITION_RULE (edition_rule bytes) (fails ZERO_RULE (zero_rule bytes)
    (fails LENGTH_RULE (length_rule bytes) (fails SECTIONS_RULE (sections_rule bytes)
    (fails FUNCTIONS_RULE (functions_rule bytes) (fails CODE_RULE (code_rule bytes)
    (fails ENTRIES_RULE (entries_rule bytes) (fails TEXTS_RULE (texts_rule bytes)
    (fails FOOTER_RULE (footer_rule bytes) None)))))))))

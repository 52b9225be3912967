-- The table of statuses: the code that the process ends with, and the line on standard error.
use Rattle.std.specs.Prelude.{ℕ, List, [], ◌∷◌, ◌++◌, codes, decimal}
use Rattle.hz_tree.specs.sources.Shown.{text_of_refusal}
use Rattle.hz_value.specs.Leaving.{name_of_left}
use Rattle.hermes.specs.declared.status.Status.{Status}
use Rattle.hermes.specs.declared.status.Status.TheVariants.{Done, Uncaught, Usage, Refused, Left, ReadFault, WriteFault}
use Rattle.hermes.specs.declared.status.Status.TheVariants.{Memory}
use Rattle.hermes.specs.Printing.{line_bytes}

abbrev pub code_of : Status → ℕ
code_of Done = 0
code_of (Uncaught description) = 1
code_of (Usage word) = 2
code_of (Refused refusal) = 3
code_of (Left reason) = 5
code_of ReadFault = 7
code_of WriteFault = 8
code_of Memory = 70

-- the line of bytes with its newline (10), or nothing
abbrev pub line_of : Status → List ℕ
line_of Done = []
line_of (Uncaught description) = codes "Uncaught " ++ line_bytes description
line_of (Usage word) = codes "usage error at word " ++ decimal word ++ 10 ∷ []
line_of (Refused refusal) = codes "refused: " ++ text_of_refusal refusal ++ 10 ∷ []
line_of (Left reason) = codes "left: " ++ name_of_left reason ++ 10 ∷ []
line_of ReadFault = codes "read fault" ++ 10 ∷ []
line_of WriteFault = codes "write fault" ++ 10 ∷ []
line_of Memory = codes "out of memory" ++ 10 ∷ []

-- what stands in that line behind its front: a description, which may have any length, with the newline
abbrev pub behind_front : Status → List ℕ
behind_front (Uncaught description) = line_bytes description
behind_front status = []

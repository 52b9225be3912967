-- What is printed of a reason for leaving a run.
use Rattle.std.specs.Prelude.{ℕ, List, codes}
use Rattle.hz_value.specs.declared.leaving.Left.{Left}
use Rattle.hz_value.specs.declared.leaving.Left.TheVariants.{NotSafe, Missing, Wrapper, ZeroSign, CaseMapping}
use Rattle.hz_value.specs.declared.leaving.Left.TheVariants.{TooDeep, LongLine, NotBuilt}

-- the bytes of the reason's name
abbrev pub name_of_left : Left → List ℕ
name_of_left NotSafe = codes "NotSafe"
name_of_left Missing = codes "Missing"
name_of_left Wrapper = codes "Wrapper"
name_of_left ZeroSign = codes "ZeroSign"
name_of_left CaseMapping = codes "CaseMapping"
name_of_left TooDeep = codes "TooDeep"
name_of_left LongLine = codes "LongLine"
name_of_left NotBuilt = codes "NotBuilt"

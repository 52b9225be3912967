-- Whether a function has code.
use Rattle.std.specs.Prelude.{Bool, true, false}
use Rattle.hz_machine.specs.declared.code.Entry.{Entry}
use Rattle.hz_machine.specs.declared.code.Entry.TheVariants.{Stub, Code}

abbrev pub entry_of : Bool → Entry
entry_of true = Code
entry_of false = Stub

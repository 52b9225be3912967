-- A file's code as a module of code.
use Rattle.std.specs.Prelude.{[], map}
use Rattle.std.specs.Option.{unwrap_or}
use Rattle.hz_file.specs.Module as file
use Rattle.hz_ops.specs.Activations as code

-- a stub has no code
abbrev pub function_code : file.ModuleFunction → code.FunctionCode
function_code f = record { code = unwrap_or f.code []; registers = f.registers }

-- the functions and texts of a file, as the meaning of code reads them
abbrev pub code_module : file.Module → code.Module
code_module m = record { functions = map function_code m.functions; texts = m.texts }

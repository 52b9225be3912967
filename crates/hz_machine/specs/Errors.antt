-- Errors that the machine makes.
use Rattle.hz_value.specs.operators.Messages as message
use Rattle.hz_value.specs.world.Objects.{Object}
use Rattle.hz_value.specs.world.Errors.{error_object}
use Rattle.hz_machine.specs.declared.errors.ErrorKind.{ErrorKind}
use Rattle.hz_machine.specs.declared.errors.ErrorKind.TheVariants.{TypeError, ReferenceError}
use Rattle.hz_machine.specs.declared.errors.MadeError.{MadeError}
use Rattle.hz_machine.specs.declared.errors.Cause.{Cause}
use Rattle.hz_machine.specs.declared.errors.Cause.TheVariants as cause

abbrev pub message_of : Cause → message.Message
message_of (cause.NotDefined name) = message.NotDefined name.now
message_of (cause.NotInitialised name) = message.NotInitialised name.now
message_of (cause.IsConstant name) = message.IsConstant name.now
message_of cause.NotFunction = message.NotFunction
message_of cause.SymbolConversion = message.SymbolConversion

abbrev pub kind_of : Cause → ErrorKind
kind_of (cause.NotDefined name) = ReferenceError
kind_of (cause.NotInitialised name) = ReferenceError
kind_of c = TypeError

abbrev pub error_kind : ErrorKind → message.ErrorKind
error_kind TypeError = message.TypeError
error_kind ReferenceError = message.ReferenceError

abbrev pub object_of : MadeError → Object
object_of e = error_object (error_kind e.kind) e.text

-- The errors that the engine throws by itself: their kinds (ECMA-262, 20.5.5) and messages.
-- The texts of the messages are this project's own.
use Rattle.std.specs.Prelude.{ℕ, List, ◌++◌, codes}

-- which of the NativeErrors it is
pub data ErrorKind : Type 0 where
  TypeError : ErrorKind
  RangeError : ErrorKind
  ReferenceError : ErrorKind

-- a message by its cause; a name is its UTF-16 units
pub data Message : Type 0 where
  -- a name that cannot be resolved is read or assigned
  NotDefined : (name : List ℕ) → Message
  -- a binding is used before its declaration
  NotInitialised : (name : List ℕ) → Message
  -- a constant or a read-only global is assigned
  IsConstant : (name : List ℕ) → Message
  -- the callee is no function
  NotFunction : Message
  -- what stands behind `new` is no constructor
  NotConstructor : Message
  -- undefined or null where an object is needed
  NoProperties : Message
  -- a refused write, delete or definition
  NotWritten : Message
  NotDeleted : Message
  NotDefinable : Message
  -- no method gives an iterator
  NotIterable : Message
  -- the result of an iterator or a generator
  ResultNotObject : Message
  -- a generator that runs is called
  GeneratorRuns : Message
  -- ToPrimitive gets no primitive
  NoPrimitive : Message
  -- a symbol becomes a text or a number
  SymbolConversion : Message
  -- the length of an array
  ArrayLength : Message
  -- another argument of a built-in that is out of range
  OutOfRange : Message
  -- `this` of a built-in
  WrongReceiver : Message
  -- the right side of `in` or `instanceof`
  OperandNotObject : Message
  -- `reduce` of an empty array
  ReducesNothing : Message
  -- a refused change of a prototype
  PrototypeFixed : Message
  -- `callee` of `arguments`
  NotRead : Message
  -- another argument of a built-in that is no object
  ArgumentNotObject : Message
  -- `yield*` throws into an iterator without `throw`
  DelegateNoThrow : Message

abbrev pub kind_of : Message → ErrorKind
kind_of (NotDefined name) = ReferenceError
kind_of (NotInitialised name) = ReferenceError
kind_of ArrayLength = RangeError
kind_of OutOfRange = RangeError
kind_of message = TypeError

-- the message as UTF-16 units
abbrev pub text_of : Message → List ℕ
text_of (NotDefined name) = name ++ codes " is not defined"
text_of (NotInitialised name) = name ++ codes " is not initialised"
text_of (IsConstant name) = name ++ codes " is constant"
text_of NotFunction = codes "value is not a function"
text_of NotConstructor = codes "value is not a constructor"
text_of NoProperties = codes "value has no properties"
text_of NotWritten = codes "property cannot be written"
text_of NotDeleted = codes "property cannot be deleted"
text_of NotDefinable = codes "property cannot be defined"
text_of NotIterable = codes "value is not iterable"
text_of ResultNotObject = codes "result is not an object"
text_of GeneratorRuns = codes "generator is running"
text_of NoPrimitive = codes "object cannot become a primitive"
text_of SymbolConversion = codes "symbol cannot be converted"
text_of ArrayLength = codes "invalid array length"
text_of OutOfRange = codes "argument out of range"
text_of WrongReceiver = codes "receiver has the wrong kind"
text_of OperandNotObject = codes "operand is not an object"
text_of ReducesNothing = codes "reduce of an empty array"
text_of PrototypeFixed = codes "prototype cannot be set"
text_of NotRead = codes "property cannot be read"
text_of ArgumentNotObject = codes "argument is not an object"
text_of DelegateNoThrow = codes "delegate has no throw"

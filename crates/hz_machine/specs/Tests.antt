-- What a jump asks of a value.
use Rattle.std.specs.Prelude.{Bool, not}
use Rattle.hz_value.specs.operators.Contents.{Content}
use Rattle.hz_value.specs.operators.Conversions.{to_boolean}
use Rattle.hz_ops.specs.code.Effects.{is_nullish, is_undefined}
use Rattle.hz_machine.specs.declared.rows.jumps.Test.{Test}
use Rattle.hz_machine.specs.declared.rows.jumps.Test.TheVariants as test

abbrev pub test_of : Test → Content → Bool
test_of test.True u = to_boolean u
test_of test.False u = not (to_boolean u)
test_of test.Nullish u = is_nullish u
test_of test.Undefined u = is_undefined u

use Rattle.std.proofs.Common.{◌≡◌, ◌≤◌, true, take}
use Rattle.std.specs.Str.Parse.{digits_value}
use Rattle.hz_list.specs.declared.limits.TheConstants.{MAX_SAFE}
use Rattle.hz_value.specs.NumberTexts.{are_digits}
use Rattle.hz_value.proofs.number_texts.natural.Given as goal

-- the units so far are digits, and write the value
abbrev pub invariant-loop-unit : goal.invariant-loop-unit
invariant-loop-unit l = record {
  digits : are_digits l.radix (take l.unit-index l.digits) ≡ true;
  value : l.value ≡ digits_value l.radix (take l.unit-index l.digits);
  bound : l.value ≤ MAX_SAFE;
}

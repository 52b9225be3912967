-- 32 bits are safe.
use Rattle.std.proofs.Common.{◌≡◌, ◌≤◌, ℤ, pos, negsuc, arith}
use Rattle.std.specs.Prelude.{Some, unsigned_abs, neg_ℤ}
use Rattle.hz_value.specs.Numbers.{safe, IsSafe}

pub small_is_safe : (z : ℤ) → unsigned_abs z ≤ 4294967296 → safe z ≡ Some z
small_is_safe z small = grind (arith, small)

pub negated_is_safe : (z : ℤ) → IsSafe z → safe (neg_ℤ z) ≡ Some (neg_ℤ z)
negated_is_safe (pos n) h = grind (arith, h)
negated_is_safe (negsuc n) h = grind (arith, h)

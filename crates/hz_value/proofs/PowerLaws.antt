use Rattle.std.proofs.Common.{◌≡◌, ℕ, zero, suc, ◌^◌, ◌<◌, ◌≤◌, refl, arith}
use Rattle.std.proofs.Math.Nat.{pow-suc, pow-le-pow_right, pow-le-pow_left}
use Rattle.hz_list.specs.declared.limits.TheConstants.{MAX_SAFE}

pub one_pow : (n : ℕ) → 1 ^ n ≡ 1
one_pow zero = refl
one_pow (suc n) = omega (arith, pow-suc 1 n, one_pow n)

pub zero_pow : (n : ℕ) → 0 < n → 0 ^ n ≡ 0
zero_pow zero positive = absurd (omega arith)
zero_pow (suc n) positive = omega (arith, pow-suc 0 n)

-- a base above 1 with an exponent above 60 has a power that is not safe
pub large_pow : (m n : ℕ) → 2 ≤ m → 60 < n → MAX_SAFE < m ^ n
large_pow m n base exponent =
    let two : 2 ^ 53 ≤ 2 ^ n = pow-le-pow_right {n = 2} (omega arith) {i = 53} {j = n} (omega arith) in
    omega (arith, two, pow-le-pow_left base n)

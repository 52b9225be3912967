-- Bytes that are written one piece behind the other are found at their places.
use Rattle.std.proofs.Common.{◌≡◌, ◌<◌, ℕ, zero, suc, ◌+◌, ◌*◌, ◌^◌, List, [], ◌∷◌, ◌++◌, length, drop, get_or, refl}
use Rattle.std.proofs.Common.{arith, append_assoc, length-append}
use Rattle.std.specs.List.{concat}
use Rattle.std.proofs.Math.Seq.{drop-append-add}
use Rattle.std.proofs.lemmas.List.{take_at}
use Rattle.byteorder.specs.Numbers.{little_number-reads_back, length-bytes_low_first}
use Rattle.sha1.specs.Sha1.{sha1, digest_bytes}
use Rattle.hz_file.specs.Layout.{field, part}
use Rattle.hz_file.specs.Image.{number}

pub length_number : (n x : ℕ) → length (number n x) ≡ n
unfolding number
length_number n x = length-bytes_low_first 0 n x

length_digest : (h : List ℕ) (n : ℕ) → length (digest_bytes h n) ≡ 4 * n
unfolding digest_bytes
length_digest h zero = refl
length_digest h (suc n) = omega (arith, length-append {A = ℕ}, length_digest h n)

pub length_sha1 : (m : List ℕ) → length (sha1 m) ≡ 20
unfolding sha1
length_sha1 m = length_digest _ 5

-- where piece i begins
abbrev pub place : ℕ → List (List ℕ) → ℕ
place i [] = 0
place zero (x ∷ xs) = 0
place (suc i) (x ∷ xs) = length x + place i xs

pub piece_found : (ps : List (List ℕ)) (i : ℕ) (rest : List ℕ) → i < length ps →
    drop (place i ps) (concat ps ++ rest) ≡ get_or ps i [] ++ (concat (drop (suc i) ps) ++ rest)
piece_found [] i rest within = absurd (omega arith)
piece_found (x ∷ xs) zero rest within = append_assoc x (concat xs) rest
piece_found (x ∷ xs) (suc i) rest within =
    rw (append_assoc x (concat xs) rest, drop-append-add x (concat xs ++ rest) (place i xs))
    (piece_found xs i rest (omega arith))

-- the length of all pieces is the place behind them
pub length_concat : (ps : List (List ℕ)) → length (concat ps) ≡ place (length ps) ps
length_concat [] = refl
length_concat (x ∷ xs) = omega (arith, length-append x (concat xs), length_concat xs)

-- ---- pieces, and what is behind them

module _ (ps : List (List ℕ)) (rest : List ℕ) where
  -- a number that is a piece is read back at its place
  pub number_found : (i n x at : ℕ) → i < length ps → get_or ps i [] ≡ number n x → x < 256 ^ n → at ≡ place i ps →
      field n (concat ps ++ rest) at ≡ x
  unfolding field number
  number_found i n x at within is fits here =
      rw (here, piece_found ps i rest within, is) (little_number-reads_back n x (concat (drop (suc i) ps) ++ rest) fits)

  -- the bytes of a piece are found at its place
  pub part_found : (i at n : ℕ) → i < length ps → at ≡ place i ps → length (get_or ps i []) ≡ n →
      part (concat ps ++ rest) at n ≡ get_or ps i []
  part_found i at n within here size =
      rw (here, piece_found ps i rest within) (take_at (get_or ps i []) _ n size)

  -- the bytes from the place of a piece on
  pub drop_found : (i at : ℕ) → i < length ps → at ≡ place i ps →
      drop at (concat ps ++ rest) ≡ get_or ps i [] ++ (concat (drop (suc i) ps) ++ rest)
  drop_found i at within here = rw here (piece_found ps i rest within)

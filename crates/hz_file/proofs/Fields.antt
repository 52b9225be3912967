-- The fields of a written file are read back.
use Rattle.std.proofs.Common.{◌≡◌, ℕ, suc, ◌+◌, ◌*◌, List, [], ◌∷◌, length, refl, ◌∙◌, ap, arith, length-append}
use Rattle.std.specs.List.{concat}
use Rattle.std.proofs.lemmas.List.{length-replicate}
use Rattle.std.specs.Prelude.{if◌then◌else◌}
use Rattle.sha1.specs.Sha1.{sha1}
use Rattle.hz_file.specs.Layout.{field, part}
use Rattle.hz_file.specs.Image.{number, zeros, Program, IsSmall, pieces, image, body, size_of, numbers, entry_words}
use Rattle.hz_file.proofs.Pieces.{length_number, length_sha1, place, number_found, part_found, length_concat}

-- the places of the pieces
pub record Places (p : Program) : Type 0 where
  pub count : length (pieces p) ≡ 26
  pub edition : place 1 (pieces p) ≡ 8
  pub flag : place 2 (pieces p) ≡ 12
  pub size : place 3 (pieces p) ≡ 16
  pub zeros_44 : place 5 (pieces p) ≡ 44
  pub functions : place 6 (pieces p) ≡ 48
  pub texts : place 7 (pieces p) ≡ 56
  pub overflows : place 8 (pieces p) ≡ 64
  pub handlers : place 9 (pieces p) ≡ 72
  pub large : place 10 (pieces p) ≡ 80
  pub code_length : place 11 (pieces p) ≡ 88
  pub storage_length : place 12 (pieces p) ≡ 96
  pub source_length : place 13 (pieces p) ≡ 104
  pub zeros_112 : place 14 (pieces p) ≡ 112
  pub kind : place 15 (pieces p) ≡ 128
  pub registers : place 16 (pieces p) ≡ 130
  pub code_place : place 17 (pieces p) ≡ 132
  pub code_size : place 18 (pieces p) ≡ 136
  pub zero : place 19 (pieces p) ≡ 138
  pub first_handler : place 20 (pieces p) ≡ 140
  pub handler_count : place 21 (pieces p) ≡ 142
  pub entries : place 22 (pieces p) ≡ 144
  pub storage : place 23 (pieces p) ≡ 144 + 4 * length p.texts
  pub code : place 24 (pieces p) ≡ 144 + 4 * length p.texts + length (concat p.texts)
  pub source : place 25 (pieces p) ≡ 144 + 4 * length p.texts + length (concat p.texts) + length p.code
  pub end : place 26 (pieces p) + 20 ≡ size_of p

length_zeros : (n : ℕ) → length (zeros n) ≡ n
unfolding zeros
length_zeros n = length-replicate n 0

length_numbers : (n : ℕ) (xs : List ℕ) → length (numbers n xs) ≡ n * length xs
length_numbers n [] = omega arith
length_numbers n (x ∷ xs) =
    grind (arith, length-append (number n x) (numbers n xs), length_number n x, length_numbers n xs)

length_entry_words : (at : ℕ) (texts : List (List ℕ)) → length (entry_words at texts) ≡ length texts
length_entry_words at [] = refl
length_entry_words at (t ∷ ts) = ap suc (length_entry_words (at + length t) ts)

length_entries : (p : Program) → length (numbers 4 (entry_words 0 p.texts)) ≡ 4 * length p.texts
length_entries p = length_numbers 4 (entry_words 0 p.texts) ∙ ap (λ (n : ℕ). 4 * n) (length_entry_words 0 p.texts)

pub places : (p : Program) → Places p
unfolding pieces number zeros
places p =
    let hash = length_sha1 p.source in
    record {
      count = refl;
      edition = refl;
      flag = refl;
      size = refl;
      zeros_44 = omega arith;
      functions = omega arith;
      texts = omega arith;
      overflows = omega arith;
      handlers = omega arith;
      large = omega arith;
      code_length = omega arith;
      storage_length = omega arith;
      source_length = omega arith;
      zeros_112 = omega arith;
      kind = omega arith;
      registers = omega arith;
      code_place = omega arith;
      code_size = omega arith;
      zero = omega arith;
      first_handler = omega arith;
      handler_count = omega arith;
      entries = omega arith;
      storage = omega (arith, length_entries p);
      code = omega (arith, length_entries p);
      source = omega (arith, length_entries p);
      end = omega (arith, length_entries p);
    }

-- what stands in the header, and where the sections do
pub record Fields (p : Program) : Type 0 where
  pub whole : length (image p) ≡ size_of p
  pub edition : field 4 (image p) 8 ≡ 1
  pub size : field 8 (image p) 16 ≡ size_of p
  pub functions : field 8 (image p) 48 ≡ 1
  pub texts : field 8 (image p) 56 ≡ length p.texts
  pub overflows : field 8 (image p) 64 ≡ 0
  pub handlers : field 8 (image p) 72 ≡ 0
  pub large : field 8 (image p) 80 ≡ 0
  pub code_length : field 8 (image p) 88 ≡ length p.code
  pub storage_length : field 8 (image p) 96 ≡ length (concat p.texts)
  pub source_length : field 8 (image p) 104 ≡ length p.source
  pub registers : field 2 (image p) 130 ≡ p.registers
  pub code_place : field 4 (image p) 132 ≡ 0
  pub code_size : field 2 (image p) 136 ≡ length p.code
  pub zero : field 2 (image p) 138 ≡ 0
  pub handler_count : field 2 (image p) 142 ≡ 0
  pub zeros_44 : part (image p) 44 4 ≡ zeros 4
  pub zeros_112 : part (image p) 112 16 ≡ zeros 16
  pub kind : part (image p) 128 2 ≡ 1 ∷ 0 ∷ []
  pub flag : part (image p) 12 4 ≡ number 4 (if p.strict then 1 else 0)
  pub code : part (image p) (144 + 4 * length p.texts + length (concat p.texts)) (length p.code) ≡ p.code
  pub source : part (image p) (144 + 4 * length p.texts + length (concat p.texts) + length p.code) (length p.source)
      ≡ p.source

pub fields : (p : Program) → IsSmall p → Fields p
unfolding image
fields p small =
    let hash = length_sha1 (body p) in
    let at = places p in
    let total = length_concat (pieces p) in
    let reads = number_found (pieces p) (sha1 (body p)) in
    let stands = part_found (pieces p) (sha1 (body p)) in
    record {
      whole = omega (arith, length-append (body p) (sha1 (body p)), rw at.count at total);
      edition = reads 1 4 1 8 (omega arith) (unfold pieces in refl) (omega arith) (omega arith);
      size = reads 3 8 (size_of p) 16 (omega arith) (unfold pieces in refl) (omega arith) (omega arith);
      functions = reads 6 8 1 48 (omega arith) (unfold pieces in refl) (omega arith) (omega arith);
      texts = reads 7 8 (length p.texts) 56 (omega arith) (unfold pieces in refl) (omega arith) (omega arith);
      overflows = reads 8 8 0 64 (omega arith) (unfold pieces in refl) (omega arith) (omega arith);
      handlers = reads 9 8 0 72 (omega arith) (unfold pieces in refl) (omega arith) (omega arith);
      large = reads 10 8 0 80 (omega arith) (unfold pieces in refl) (omega arith) (omega arith);
      code_length = reads 11 8 (length p.code) 88 (omega arith) (unfold pieces in refl) (omega arith) (omega arith);
      storage_length =
          reads 12 8 (length (concat p.texts)) 96 (omega arith) (unfold pieces in refl) (omega arith) (omega arith);
      source_length =
          reads 13 8 (length p.source) 104 (omega arith) (unfold pieces in refl) (omega arith) (omega arith);
      registers = reads 16 2 p.registers 130 (omega arith) (unfold pieces in refl) (omega arith) (omega arith);
      code_place = reads 17 4 0 132 (omega arith) (unfold pieces in refl) (omega arith) (omega arith);
      code_size = reads 18 2 (length p.code) 136 (omega arith) (unfold pieces in refl) (omega arith) (omega arith);
      zero = reads 19 2 0 138 (omega arith) (unfold pieces in refl) (omega arith) (omega arith);
      handler_count = reads 21 2 0 142 (omega arith) (unfold pieces in refl) (omega arith) (omega arith);
      zeros_44 = stands 5 44 4 (omega arith) (omega arith) (unfold pieces in length_zeros 4) ∙ unfold pieces in refl;
      zeros_112 = stands 14 112 16 (omega arith) (omega arith) (unfold pieces in length_zeros 16) ∙ unfold pieces in
          refl;
      kind = stands 15 128 2 (omega arith) (omega arith) (unfold pieces in refl) ∙ unfold pieces in refl;
      flag = stands 2 12 4 (omega arith) (omega arith) (unfold pieces in length_number 4 _) ∙ unfold pieces in refl;
      code =
          stands 24 (144 + 4 * length p.texts + length (concat p.texts)) (length p.code) (omega arith) (omega arith)
          (unfold pieces in refl) ∙ unfold pieces in refl;
      source =
          stands 25 (144 + 4 * length p.texts + length (concat p.texts) + length p.code) (length p.source)
          (omega arith) (omega arith) (unfold pieces in refl) ∙ unfold pieces in refl;
    }

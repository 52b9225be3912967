-- A written file breaks no rule, and holds what was written.
use Rattle.std.proofs.Common.{◌≡◌, ◌≤◌, ◌<◌, ℕ, zero, suc, ◌+◌, ◌*◌, ◌-◌, ◌/◌, ◌%◌, Bool, true, false, not}
use Rattle.std.proofs.Common.{List, [], ◌∷◌, ◌++◌, length, drop, map, get_or, slice_index, Option, None, nat_le}
use Rattle.std.proofs.Common.{nat_eq, refl, sym, ◌∙◌, ap, arith, length-append}
use Rattle.std.specs.Prelude.{if◌then◌else◌}
use Rattle.std.specs.List.{concat}
use Rattle.std.specs.Option.{option_or}
use Rattle.std.proofs.lemmas.List.{take_at, drop_at, get_or-take, get_or-drop}
use Rattle.sha1.specs.Sha1.{sha1}
use Rattle.hz_file.specs.Layout.{HasMagic, part, function_count, strings_at, storage_at, code_at, source_at}
use Rattle.hz_file.specs.Layout.{footer_at, code_length, has_code, is_large, kind_number, code_place, code_size}
use Rattle.hz_file.specs.Layout.{entries, strict_flag}
use Rattle.hz_file.specs.Module.{module_of, text_of, functions_from, source_bytes, code_bytes}
use Rattle.hz_file.specs.Opening.{rule}
use Rattle.hz_file.specs.Rules.{size_rule, edition_rule, zero_rule, length_rule, sections_rule, functions_rule}
use Rattle.hz_file.specs.Rules.{code_rule, entries_rule, texts_rule, footer_rule, unless, first_nonzero}
use Rattle.hz_file.specs.Rules.{first_difference, is_header}
use Rattle.hz_file.specs.Image.{Program, IsSmall, number, zeros, numbers, entry_words, pieces, body, image}
use Rattle.hz_file.specs.Image.{script_module}
use Rattle.hz_file.proofs.Conjunctions.{and_true}
use Rattle.hz_file.proofs.Pieces.{drop_found, length_sha1}
use Rattle.hz_file.proofs.Fields.{fields, places}
use Rattle.hz_file.proofs.Storage.{entries_found, none_long, none_faulty, texts_found}

pub has_magic : (p : Program) → HasMagic (image p)
unfolding image pieces number zeros
has_magic p = refl

kept : (test : Bool) (at : ℕ) → test ≡ true → unless test at ≡ None
kept test at is = rw is refl

neither : (a b : Option ℕ) → a ≡ None → b ≡ None → option_or a b ≡ None
neither a b p q = rw (p, q) refl

equal : (m n : ℕ) → m ≡ n → nat_eq m n ≡ true
equal m n e = grind (arith, e)

atmost : (m n : ℕ) → m ≤ n → nat_le m n ≡ true
atmost m n h = grind (arith, h)

size_kept : (p : Program) → IsSmall p → size_rule (image p) ≡ None
size_kept p small =
    let whole = (fields p small).whole in
    kept _ (length (image p)) (and_true _ _ (atmost 148 (length (image p)) (omega arith))
    (atmost (length (image p)) 1099511627776 (omega arith)))

edition_kept : (p : Program) → IsSmall p → edition_rule (image p) ≡ None
edition_kept p small = kept _ 8 (equal _ 1 (fields p small).edition)

length_kept : (p : Program) → IsSmall p → length_rule (image p) ≡ None
length_kept p small = let f = fields p small in kept _ 16 (equal _ _ (f.size ∙ sym f.whole))

-- the flags, byte by byte
flag_low : (s : Bool) → (if s then 1 else 0) % 256 ≡ (if s then 1 else 0)
flag_low true = refl
flag_low false = refl

flag_byte : (p : Program) → slice_index (image p) 12 ≡ (if p.strict then 1 else 0)
unfolding image pieces number zeros
flag_byte p = flag_low p.strict

flag_small : (s : Bool) → nat_le (if s then 1 else 0) 1 ≡ true
flag_small true = refl
flag_small false = refl

flag_high : (s : Bool) → let flag : ℕ = if s then 1 else 0 in
    first_nonzero 13 (flag / 256 % 256 ∷ flag / 65536 % 256 ∷ flag / 16777216 % 256 ∷ []) ≡ None
unfolding first_nonzero
flag_high true = refl
flag_high false = refl

flag_rest : (p : Program) → first_nonzero 13 (part (image p) 13 3) ≡ None
unfolding image pieces number zeros
flag_rest p = flag_high p.strict

nonzero_zeros : (at n : ℕ) → first_nonzero at (zeros n) ≡ None
unfolding first_nonzero zeros
nonzero_zeros at zero = refl
nonzero_zeros at (suc n) = nonzero_zeros (at + 1) n

zero_kept : (p : Program) → IsSmall p → zero_rule (image p) ≡ None
zero_kept p small =
    let f = fields p small in
    let flag : unless (nat_le (slice_index (image p) 12) 1) 12 ≡ None =
    kept _ 12 (rw (flag_byte p) (flag_small p.strict)) in
    let behind_hash : first_nonzero 44 (part (image p) 44 4) ≡ None = rw f.zeros_44 (nonzero_zeros 44 4) in
    let at_end : first_nonzero 112 (part (image p) 112 16) ≡ None = rw f.zeros_112 (nonzero_zeros 112 16) in
    neither _ _ flag (neither _ _ (flag_rest p) (neither _ _ behind_hash at_end))

sections_kept : (p : Program) → IsSmall p → sections_rule (image p) ≡ None
sections_kept p small =
    let f = fields p small in
    let filled : footer_at (image p) + 20 ≡ length (image p) = omega (arith, f) in
    kept _ 48 (and_true _ _ (and_true _ _ (and_true _ _ (equal _ _ filled) (equal _ 0 f.overflows))
    (equal _ 0 f.handlers)) (equal _ 0 f.large))

header_byte : (p : Program) → IsSmall p → (i : ℕ) → i < 2 → slice_index (image p) (128 + i) ≡ get_or (1 ∷ 0 ∷ []) i 0
header_byte p small i within =
    let two = (fields p small).kind in
    sym (get_or-drop 128 (image p) i 0) ∙ sym (get_or-take 2 (drop 128 (image p)) i 0 within)
    ∙ ap (λ (bytes : List ℕ). get_or bytes i 0) two

functions_kept : (p : Program) → IsSmall p → functions_rule (image p) ≡ None
functions_kept p small =
    let f = fields p small in
    let first : slice_index (image p) 128 ≡ 1 = header_byte p small 0 (omega arith) in
    let there : has_code (image p) 128 ≡ true = rw first refl in
    let small_one : not (is_large (image p) 128) ≡ true = rw first refl in
    let script : nat_eq (kind_number (image p) 128) 0 ≡ true = rw first refl in
    neither _ _ (kept _ 48 (equal _ 1 f.functions))
    (kept _ 128 (and_true (is_header (image p) 128) _
    (and_true _ _ (and_true _ _ (and_true _ _ there small_one) (equal _ 0 f.zero)) (equal _ 0 f.handler_count))
    script))

code_kept : (p : Program) → IsSmall p → code_rule (image p) ≡ None
code_kept p small =
    let f = fields p small in
    let some : 0 < code_size (image p) 128 = omega arith in
    let within : code_place (image p) 128 + code_size (image p) 128 ≤ code_length (image p) = omega arith in
    kept _ 128 (and_true _ _ (grind (arith, some)) (atmost _ _ within))

-- what stands from the entries on, and from the storage on
from_entries : (p : Program) → drop 144 (image p)
    ≡ numbers 4 (entry_words 0 p.texts) ++ (concat (drop 23 (pieces p)) ++ sha1 (body p))
unfolding image
from_entries p =
    let at = places p in
    let piece : get_or (pieces p) 22 [] ≡ numbers 4 (entry_words 0 p.texts) = unfold pieces in refl in
    drop_found (pieces p) (sha1 (body p)) 22 144 (omega arith) (omega arith)
    ∙ ap (λ (xs : List ℕ). xs ++ (concat (drop 23 (pieces p)) ++ sha1 (body p))) piece

from_storage : (p : Program) → drop (144 + 4 * length p.texts) (image p)
    ≡ concat p.texts ++ (concat (drop 24 (pieces p)) ++ sha1 (body p))
unfolding image
from_storage p =
    let at = places p in
    let piece : get_or (pieces p) 23 [] ≡ concat p.texts = unfold pieces in refl in
    drop_found (pieces p) (sha1 (body p)) 23 (144 + 4 * length p.texts) (omega arith) (omega arith)
    ∙ ap (λ (xs : List ℕ). xs ++ (concat (drop 24 (pieces p)) ++ sha1 (body p))) piece

-- where the entries and the texts stand
record Found (p : Program) : Type 0 where
  strings : strings_at (image p) ≡ 144
  storage : storage_at (image p) ≡ 144 + 4 * length p.texts
  entries_are : entries (image p) ≡ entry_words 0 p.texts
  rest : List ℕ
  texts_are : drop (storage_at (image p) + 0) (image p) ≡ concat p.texts ++ rest

found : (p : Program) → IsSmall p → Found p
found p small =
    let f = fields p small in
    let strings : strings_at (image p) ≡ 144 = omega arith in
    let storage : storage_at (image p) ≡ 144 + 4 * length p.texts = omega arith in
    let start : storage_at (image p) + 0 ≡ 144 + 4 * length p.texts = omega arith in
    record {
      strings = strings;
      storage = storage;
      entries_are =
          rw (f.texts, strings) (entries_found (image p) 144 0 p.texts _ (from_entries p) small.short
          (omega (arith, small.storage)));
      rest = concat (drop 24 (pieces p)) ++ sha1 (body p);
      texts_are = rw start (from_storage p);
    }

entries_kept : (p : Program) → IsSmall p → entries_rule (image p) ≡ None
entries_kept p small =
    let s = found p small in
    rw s.entries_are (none_long _ 0 p.texts small.short (omega (arith, small.storage)))

texts_kept : (p : Program) → IsSmall p → texts_rule (image p) ≡ None
texts_kept p small =
    let s = found p small in
    let f = fields p small in
    rw s.entries_are (none_faulty (image p) _ 0 p.texts s.rest s.texts_are small.short (omega (arith, small.storage))
    (omega (arith, f.storage_length)))

no_difference : (at : ℕ) (xs : List ℕ) → first_difference at xs xs ≡ None
unfolding first_difference
no_difference at [] = refl
no_difference at (x ∷ xs) = let same = equal x x refl in rw same (no_difference (at + 1) xs)

footer_kept : (p : Program) → IsSmall p → footer_rule (image p) ≡ None
unfolding image
footer_kept p small =
    let hash = length_sha1 (body p) in
    let lengths = length-append (body p) (sha1 (body p)) in
    let end : length (body p ++ sha1 (body p)) - 20 ≡ length (body p) = omega arith in
    rw (end, take_at (body p) (sha1 (body p)) _ refl, drop_at (body p) (sha1 (body p)) _ refl)
    (no_difference _ (sha1 (body p)))

pub breaks_none : (p : Program) → IsSmall p → rule (image p) ≡ None
unfolding rule
breaks_none p small =
    rw (
      size_kept p small,
      edition_kept p small,
      zero_kept p small,
      length_kept p small,
      sections_kept p small,
      functions_kept p small,
      code_kept p small,
      entries_kept p small,
      texts_kept p small,
      footer_kept p small,
    ) refl

flag_is : (s : Bool) → nat_eq ((if s then 1 else 0) % 2) 1 ≡ s
flag_is true = refl
flag_is false = refl

strict_held : (p : Program) → strict_flag (image p) ≡ p.strict
strict_held p = rw (flag_byte p) (flag_is p.strict)

source_held : (p : Program) → IsSmall p → source_bytes (image p) ≡ p.source
source_held p small =
    let f = fields p small in
    let at : source_at (image p) ≡ 144 + 4 * length p.texts + length (concat p.texts) + length p.code = omega arith in
    rw (at, f.source_length) f.source

code_held : (p : Program) → IsSmall p → code_bytes (image p) 128 ≡ p.code
code_held p small =
    let f = fields p small in
    let at : code_at (image p) + code_place (image p) 128 ≡ 144 + 4 * length p.texts + length (concat p.texts) =
    omega arith in
    rw (at, f.code_size) f.code

functions_held : (p : Program) → IsSmall p →
    functions_from (function_count (image p)) 128 (image p) ≡ (script_module p).functions
functions_held p small =
    let f = fields p small in
    let first : slice_index (image p) 128 ≡ 1 = header_byte p small 0 (omega arith) in
    let second : slice_index (image p) 129 ≡ 0 = header_byte p small 1 (omega arith) in
    let code = code_held p small in
    rw (f.functions, code, f.registers, second, first) refl

texts_held : (p : Program) → IsSmall p → map (text_of (image p)) (entries (image p)) ≡ p.texts
texts_held p small =
    let s = found p small in
    rw s.entries_are (texts_found (image p) 0 p.texts s.rest s.texts_are small.short (omega (arith, small.storage)))

pub holds_written : (p : Program) → IsSmall p → module_of (image p) ≡ script_module p
unfolding module_of
holds_written p small =
    let strict = strict_held p in
    let source = source_held p small in
    let functions = functions_held p small in
    let texts = texts_held p small in
    rw (strict, source, functions, texts) refl

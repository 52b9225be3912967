-- What holds of the bytes of a file that breaks no rule.
use Rattle.std.proofs.Common.{◌≡◌, ◌≤◌, ◌<◌, ℕ, zero, suc, ◌+◌, ◌*◌, Bool, true, false, cond, nat_eq, nat_lt}
use Rattle.std.proofs.Common.{List, ◌∷◌, length, Option, Some, None, refl, arith}
use Rattle.std.specs.Option.{option_or}
use Rattle.hz_file.specs.declared.malformed.Malformed.{Malformed}
use Rattle.hz_file.specs.Layout.{Fills, field, function_count, string_count, strings_at, storage_length, code_length}
use Rattle.hz_file.specs.Layout.{footer_at, has_code, kind_number, code_place, code_size, entries_from, entry_place}
use Rattle.hz_file.specs.Layout.{entry_size}
use Rattle.hz_file.specs.Opening.{rule, fails}
use Rattle.hz_file.specs.Rules.{size_rule, edition_rule, zero_rule, length_rule, sections_rule, functions_rule}
use Rattle.hz_file.specs.Rules.{code_rule, entries_rule, texts_rule, unless, first_faulty_text, is_text_entry}
use Rattle.hz_file.specs.Rules.{is_header}
use Rattle.hz_file.proofs.Conjunctions.{and_parts}
use Rattle.hz_file.proofs.Walking.{kept_fits}

pub record Sound (bytes : List ℕ) : Type 0 where
  pub fills : Fills bytes
  pub one : function_count bytes ≡ 1
  pub code_there : has_code bytes 128 ≡ true
  pub script : kind_number bytes 128 ≡ 0
  pub code_within : code_place bytes 128 + code_size bytes 128 ≤ code_length bytes
  pub texts_within : (i : ℕ) → i < string_count bytes → let e = field 4 bytes (strings_at bytes + 4 * i) in
      entry_place e + entry_size e ≤ storage_length bytes

pub none_of : (n : ℕ) (fault : Option ℕ) (others : Option Malformed) → fails n fault others ≡ None →
    (fault ≡ None) × (others ≡ None)
none_of n None others e = (refl, e)
none_of n (Some place) others e = cc

unless_none : (test : Bool) (at : ℕ) → unless test at ≡ None → test ≡ true
unless_none true at e = refl
unless_none false at e = cc

or_none : (a b : Option ℕ) → option_or a b ≡ None → (a ≡ None) × (b ≡ None)
or_none None b e = (refl, e)
or_none (Some at) b e = cc

cond_none : (b : Bool) (x : Option ℕ) (at : ℕ) → cond b x (Some at) ≡ None → (b ≡ true) × (x ≡ None)
cond_none true x at e = (refl, e)
cond_none false x at e = cc

kept_step : (bytes : List ℕ) (at next e : ℕ) (es : List ℕ) → first_faulty_text bytes at next (e ∷ es) ≡ None →
    (is_text_entry bytes next e ≡ true) × (first_faulty_text bytes (at + 4) (next + entry_size e) es ≡ None)
unfolding first_faulty_text
kept_step bytes at next e es holds = cond_none (is_text_entry bytes next e) _ at holds

-- each text of a walk that ends well lies in the storage
texts_hold : (bytes : List ℕ) (n at next i : ℕ) → first_faulty_text bytes at next (entries_from n at bytes) ≡ None →
    i < n → let e = field 4 bytes (at + 4 * i) in entry_place e + entry_size e ≤ storage_length bytes
texts_hold bytes zero at next i holds within = absurd (omega arith)
texts_hold bytes (suc n) at next zero holds within =
    let step = kept_step bytes at next (field 4 bytes at) (entries_from n (at + 4) bytes) holds in
    let fits = kept_fits bytes next (field 4 bytes at) step.0 in
    let same : at + 0 ≡ at = omega arith in
    rw (same, fits.0) fits.1
texts_hold bytes (suc n) at next (suc i) holds within =
    let step = kept_step bytes at next (field 4 bytes at) (entries_from n (at + 4) bytes) holds in
    let same : at + 4 * suc i ≡ at + 4 + 4 * i = omega arith in
    rw same (texts_hold bytes n (at + 4) (next + entry_size (field 4 bytes at)) i step.1 (omega arith))

size_holds : (bytes : List ℕ) → size_rule bytes ≡ None → 148 ≤ length bytes
size_holds bytes holds = let test = unless_none _ (length bytes) holds in grind (arith, test)

sections_hold : (bytes : List ℕ) → sections_rule bytes ≡ None → footer_at bytes + 20 ≡ length bytes
sections_hold bytes holds =
    let all = unless_none _ 48 holds in
    let test = and_parts (nat_eq (footer_at bytes + 20) (length bytes)) _ (and_parts _ _ (and_parts _ _ all).0).0 in
    grind (arith, test.0)

count_holds : (bytes : List ℕ) → functions_rule bytes ≡ None → function_count bytes ≡ 1
count_holds bytes holds =
    let test = unless_none (nat_eq (function_count bytes) 1) 48 (or_none _ _ holds).0 in
    grind (arith, test)

header_holds : (bytes : List ℕ) → functions_rule bytes ≡ None →
    (has_code bytes 128 ≡ true) × (kind_number bytes 128 ≡ 0)
header_holds bytes holds =
    let test =
    and_parts (is_header bytes 128) _
    (unless_none _ 128 (or_none (unless (nat_eq (function_count bytes) 1) 48) _ holds).1) in
    let header = (and_parts (has_code bytes 128) _ (and_parts _ _ (and_parts _ _ test.0).0).0).0 in
    let kind = test.1 in
    (header, grind (arith, kind))

code_holds : (bytes : List ℕ) → code_rule bytes ≡ None → code_place bytes 128 + code_size bytes 128 ≤ code_length bytes
code_holds bytes holds =
    let test = (and_parts (nat_lt 0 (code_size bytes 128)) _ (unless_none _ 128 holds)).1 in
    grind (arith, test)

pub sound : (bytes : List ℕ) → rule bytes ≡ None → Sound bytes
unfolding rule
sound bytes holds =
    let r1 = none_of 1 (size_rule bytes) _ holds in
    let r2 = none_of 2 (edition_rule bytes) _ r1.1 in
    let r3 = none_of 3 (zero_rule bytes) _ r2.1 in
    let r4 = none_of 4 (length_rule bytes) _ r3.1 in
    let r5 = none_of 5 (sections_rule bytes) _ r4.1 in
    let r6 = none_of 6 (functions_rule bytes) _ r5.1 in
    let r8 = none_of 8 (code_rule bytes) _ r6.1 in
    let r10 = none_of 10 (entries_rule bytes) _ r8.1 in
    let r11 = none_of 11 (texts_rule bytes) _ r10.1 in
    let header = header_holds bytes r6.0 in
    record {
      fills = (size_holds bytes r1.0, sections_hold bytes r5.0);
      one = count_holds bytes r6.0;
      code_there = header.0;
      script = header.1;
      code_within = code_holds bytes r8.0;
      texts_within = λ i within. texts_hold bytes _ _ 0 i r11.0 within;
    }

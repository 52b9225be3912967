-- Texts that are written one behind the other keep the rules, and are shown again.
use Rattle.std.proofs.Common.{◌≡◌, ◌≤◌, ◌<◌, ℕ, ◌+◌, ◌*◌, ◌^◌, ◌%◌, true, false, List, [], ◌∷◌, ◌++◌, length}
use Rattle.std.proofs.Common.{drop, map, None, nat_lt, nat_le, nat_eq, refl, sym, ◌∙◌, ap, arith, append_assoc}
use Rattle.std.proofs.Common.{length-append}
use Rattle.std.specs.List.{concat, All, list_all}
use Rattle.std.proofs.lemmas.List.{take_at, drop_at, drop-drop}
use Rattle.std.proofs.lemmas.List.Elements.{All-head, All-tail}
use Rattle.hz_file.specs.Layout.{field, entries_from, entry_is_wide, entry_place, entry_units, entry_size, text_bytes}
use Rattle.hz_file.specs.Layout.{storage_at, storage_length}
use Rattle.hz_file.specs.Module.{text_of}
use Rattle.hz_file.specs.Rules.{first_long_text, first_faulty_text, is_text_entry, is_placed, has_its_width}
use Rattle.hz_file.specs.Rules.{is_ascii_unit}
use Rattle.hz_file.specs.Image.{number, numbers, entry_words, IsShortText}
use Rattle.hz_file.proofs.Conjunctions.{and_true}
use Rattle.hz_file.proofs.Pieces.{length_number}
use Rattle.byteorder.specs.Numbers.{little_number-reads_back}

pub record IsWord (at n e : ℕ) : Type 0 where
  pub wide : entry_is_wide e ≡ false
  pub place : entry_place e ≡ at
  pub units : entry_units e ≡ n
  pub size : entry_size e ≡ n
  pub fits : e < 256 ^ 4

pub is_word : (at n e : ℕ) → e ≡ 2 * at + 16777216 * n → at < 8388608 → n ≤ 254 → IsWord at n e
is_word at n e is near short =
    let even : e % 2 ≡ 0 = omega arith in
    let wide : entry_is_wide e ≡ false = grind (arith, even) in
    let units : entry_units e ≡ n = omega arith in
    record {
      wide = wide;
      place = omega arith;
      units = units;
      size = rw wide units;
      fits = omega arith;
    }

narrow_text : (t : List ℕ) → All (λ unit. unit < 128) t → list_all is_ascii_unit t ≡ true
narrow_text [] all = refl
narrow_text (x ∷ xs) all =
    let first = All-head (λ (unit : ℕ). unit < 128) x xs all in
    let rest = narrow_text xs (All-tail (λ (unit : ℕ). unit < 128) x xs all) in
    grind (arith, first, rest)

field_here : (n x at : ℕ) (bytes rest : List ℕ) → drop at bytes ≡ number n x ++ rest → x < 256 ^ n →
    field n bytes at ≡ x
unfolding field number
field_here n x at bytes rest here fits = rw here (little_number-reads_back n x rest fits)

drop_behind : (at n : ℕ) (bytes xs rest : List ℕ) → drop at bytes ≡ xs ++ rest → length xs ≡ n →
    drop (at + n) bytes ≡ rest
drop_behind at n bytes xs rest here size = sym (drop-drop n at bytes) ∙ ap (drop n) here ∙ drop_at xs rest n size

-- what the first of some texts says, and what is left for the others
record First (place : ℕ) (t : List ℕ) (ts : List (List ℕ)) : Type 0 where
  is : IsWord place (length t) (2 * place + 16777216 * length t)
  narrow : All (λ unit. unit < 128) t
  others : All IsShortText ts
  sum : length (concat (t ∷ ts)) ≡ length t + length (concat ts)
  total : place + length t + length (concat ts) ≤ 8388607

first : (place : ℕ) (t : List ℕ) (ts : List (List ℕ)) → All IsShortText (t ∷ ts) →
    place + length (concat (t ∷ ts)) ≤ 8388607 → First place t ts
first place t ts short total =
    let text = All-head IsShortText t ts short in
    let sum = length-append t (concat ts) in
    record {
      is = is_word place (length t) _ refl (omega arith) text.0;
      narrow = text.1;
      others = All-tail IsShortText t ts short;
      sum = sum;
      total = omega arith;
    }

pub none_long : (at place : ℕ) (texts : List (List ℕ)) → All IsShortText texts →
    place + length (concat texts) ≤ 8388607 → first_long_text at (entry_words place texts) ≡ None
unfolding first_long_text
none_long at place [] short total = refl
none_long at place (t ∷ ts) short total =
    let f = first place t ts short total in
    let text = All-head IsShortText t ts short in
    let units = f.is.units in
    let few : nat_lt (entry_units (2 * place + 16777216 * length t)) 255 ≡ true = rw units (grind (arith, text.0)) in
    rw few (none_long (at + 4) (place + length t) ts f.others f.total)

-- ---- the texts of some bytes

module _ (bytes : List ℕ) where
  text_here : (place e : ℕ) (t rest : List ℕ) → IsWord place (length t) e →
      drop (storage_at bytes + place) bytes ≡ t ++ rest → text_bytes bytes e ≡ t
  text_here place e t rest is here = rw (is.place, is.size, here) (take_at t rest (length t) refl)

  kept_is : (place e : ℕ) (t rest : List ℕ) → IsWord place (length t) e →
      drop (storage_at bytes + place) bytes ≡ t ++ rest → All (λ unit. unit < 128) t →
      place + length t ≤ storage_length bytes → is_text_entry bytes place e ≡ true
  kept_is place e t rest is here narrow fits =
      let at : entry_place e ≡ place = is.place in
      let size : entry_size e ≡ length t = is.size in
      let same : nat_eq place place ≡ true = grind arith in
      let within : nat_le (place + length t) (storage_length bytes) ≡ true = grind (arith, fits) in
      let placed : is_placed bytes place e ≡ true = rw (at, size) (and_true _ _ same within) in
      let text : has_its_width (entry_is_wide e) (text_bytes bytes e) ≡ true =
      rw (text_here place e t rest is here, is.wide) (narrow_text t narrow) in
      and_true (is_placed bytes place e) _ placed text

  -- the words are read back as entries
  pub entries_found : (at place : ℕ) (texts : List (List ℕ)) (rest : List ℕ) →
      drop at bytes ≡ numbers 4 (entry_words place texts) ++ rest → All IsShortText texts →
      place + length (concat texts) ≤ 8388607 → entries_from (length texts) at bytes ≡ entry_words place texts
  entries_found at place [] rest here short total = refl
  entries_found at place (t ∷ ts) rest here short total =
      let f = first place t ts short total in
      let e : ℕ = 2 * place + 16777216 * length t in
      let more : List ℕ = numbers 4 (entry_words (place + length t) ts) in
      let split : drop at bytes ≡ number 4 e ++ (more ++ rest) = here ∙ append_assoc (number 4 e) more rest in
      let is = field_here 4 e at bytes (more ++ rest) split f.is.fits in
      let behind = drop_behind at 4 bytes (number 4 e) (more ++ rest) split (length_number 4 e) in
      let again = entries_found (at + 4) (place + length t) ts rest behind f.others f.total in
      rw (is, again) refl

  pub none_faulty : (at place : ℕ) (texts : List (List ℕ)) (rest : List ℕ) →
      drop (storage_at bytes + place) bytes ≡ concat texts ++ rest → All IsShortText texts →
      place + length (concat texts) ≤ 8388607 → storage_length bytes ≡ place + length (concat texts) →
      first_faulty_text bytes at place (entry_words place texts) ≡ None
  unfolding first_faulty_text
  none_faulty at place [] rest here short total all =
      let full : nat_eq place (storage_length bytes) ≡ true = grind (arith, all) in
      rw full refl
  none_faulty at place (t ∷ ts) rest here short total all =
      let f = first place t ts short total in
      let split : drop (storage_at bytes + place) bytes ≡ t ++ (concat ts ++ rest) =
      here ∙ append_assoc t (concat ts) rest in
      let kept = kept_is place _ t (concat ts ++ rest) f.is split f.narrow (omega (arith, f.sum)) in
      let same : storage_at bytes + (place + length t) ≡ storage_at bytes + place + length t = omega arith in
      let behind : drop (storage_at bytes + (place + length t)) bytes ≡ concat ts ++ rest =
      rw same (drop_behind _ (length t) bytes t (concat ts ++ rest) split refl) in
      let again = none_faulty (at + 4) (place + length t) ts rest behind f.others f.total (omega (arith, f.sum)) in
      rw (kept, f.is.size) again

  pub texts_found : (place : ℕ) (texts : List (List ℕ)) (rest : List ℕ) →
      drop (storage_at bytes + place) bytes ≡ concat texts ++ rest → All IsShortText texts →
      place + length (concat texts) ≤ 8388607 → map (text_of bytes) (entry_words place texts) ≡ texts
  texts_found place [] rest here short total = refl
  texts_found place (t ∷ ts) rest here short total =
      let f = first place t ts short total in
      let split : drop (storage_at bytes + place) bytes ≡ t ++ (concat ts ++ rest) =
      here ∙ append_assoc t (concat ts) rest in
      let text = text_here place _ t (concat ts ++ rest) f.is split in
      let same : storage_at bytes + (place + length t) ≡ storage_at bytes + place + length t = omega arith in
      let behind : drop (storage_at bytes + (place + length t)) bytes ≡ concat ts ++ rest =
      rw same (drop_behind _ (length t) bytes t (concat ts ++ rest) split refl) in
      let again = texts_found (place + length t) ts rest behind f.others f.total in
      rw (text, f.is.wide, again) refl

-- The units of string literals.
use Rattle.std.proofs.Common.{◌≡◌, ℕ, zero, suc, ◌+◌, ◌-◌, ◌/◌, ◌<◌, ◌≤◌, min, Bool, true, false, if◌then◌else◌, List}
use Rattle.std.proofs.Common.{[]}
use Rattle.std.proofs.Common.{◌∷◌, ◌++◌, length, take, drop, Option, Some, None, refl, ap, sym, ◌∙◌, arith, nat_lt}
use Rattle.std.specs.Prelude.{◌==◌, ◌&&◌, slice_index}
use Rattle.std.proofs.lemmas.Bool.Decides.{nat_tests}
use Rattle.hz_tree.specs.tokens.Text.{Text}
use Rattle.std.specs.Char.{is_ascii_hexdigit}
use Rattle.std.specs.List.{prefix_len}
use Rattle.std.specs.Str.{bytes_eq}
use Rattle.hz_tree.specs.tokens.Characters.{char_len, code_point, is_line_terminator}
use Rattle.hz_tree.specs.tokens.Numbers.{value_of}
use Rattle.hz_tree.specs.tokens.Values.{units_of, Meant, meant, single_escape, unicode_meant, escape_meant, part_meant}
use Rattle.hz_tree.specs.tokens.Values.{meant_from}
use Rattle.hz_scan.specs.Values.{low_unit, wanted_behind}

large : (c : ℕ) → nat_lt c 0x10000 ≡ false → 0x10000 ≤ c
large c h = grind (arith, nat_tests)

low_units_by : (c : ℕ) (b : Bool) → nat_lt c 0x10000 ≡ b → Some (min c 256) ≡ low_unit (units_of c)
low_units_by c true h = rw h refl
low_units_by c false h =
    let past : 0x10000 ≤ c = large c h in
    let two : min c 256 ≡ min (0xD800 + (c - 0x10000) / 0x400) 256 = omega arith in
    rw h (ap Some two)

pub low_units : (c : ℕ) → Some (min c 256) ≡ low_unit (units_of c)
low_units c = low_units_by c (nat_lt c 0x10000) refl

-- ---- a part whose first unit is a byte has no other one

abbrev pub IsLow : List ℕ → Type 0
IsLow units = (u : ℕ) → Some u ≡ low_unit units → u < 256 → units ≡ u ∷ []

abbrev or_zero : Option ℕ → ℕ
or_zero None = 0
or_zero (Some u) = u

some_nothing : (xs : List ℕ) → Some xs ≡ None → ⊥
some_nothing xs h = cc

abbrev or_nothing : Option (List ℕ) → List ℕ
or_nothing None = []
or_nothing (Some xs) = xs

some_none : (u : ℕ) → Some u ≡ None → ⊥
some_none u h = cc

low_none : IsLow []
low_none u h i = absurd (some_none u h)

low_one : (v : ℕ) → IsLow (v ∷ [])
low_one v u h i =
    let same : u ≡ min v 256 = ap or_zero h in
    ap (λ x. x ∷ []) (omega (arith, same))

low_point_by : (c : ℕ) (b : Bool) → nat_lt c 0x10000 ≡ b → IsLow (units_of c)
low_point_by c true e = rw e (low_one c)
low_point_by c false e =
    rw e (λ u h i.
    let same : u ≡ min (0xD800 + (c - 0x10000) / 0x400) 256 = ap or_zero h in absurd (omega (arith, same)))

low_point : (c : ℕ) → IsLow (units_of c)
low_point c = low_point_by c (nat_lt c 0x10000) refl

low_if : (b : Bool) (xs ys : List ℕ) → IsLow xs → IsLow ys → IsLow (if b then xs else ys)
low_if true xs ys h i = h
low_if false xs ys h i = i

meant_if : (b : Bool) (m n : Meant) → IsLow m.units → IsLow n.units → IsLow (if b then m else n).units
meant_if true m n h i = h
meant_if false m n h i = i

single_low : (c : ℕ) → IsLow (single_escape c)
single_low c =
    low_if (c == 98) (8 ∷ []) _ (low_one 8)
    (low_if (c == 116) (9 ∷ []) _ (low_one 9)
    (low_if (c == 110) (10 ∷ []) _ (low_one 10)
    (low_if (c == 118) (11 ∷ []) _ (low_one 11)
    (low_if (c == 102) (12 ∷ []) _ (low_one 12)
    (low_if (c == 114) (13 ∷ []) _ (low_one 13)
    (low_if (c == 48) (0 ∷ []) _ (low_one 0)
    (low_if (is_line_terminator c) [] (units_of c) low_none (low_point c))))))))

unicode_low : (z : Text) → IsLow (unicode_meant z).units
unicode_low z =
    let len : ℕ = prefix_len is_ascii_hexdigit (drop 3 z) in
    meant_if (slice_index z 2 == 123) (meant (units_of (value_of 16 (take len (drop 3 z)))) (len + 4))
    (meant (value_of 16 (take 4 (drop 2 z)) ∷ []) 6) (low_point (value_of 16 (take len (drop 3 z))))
    (low_one (value_of 16 (take 4 (drop 2 z))))

escape_low : (z : Text) → IsLow (escape_meant z).units
escape_low z =
    let other : Meant = meant (single_escape (code_point (drop 1 z))) (1 + char_len (drop 1 z)) in
    let line : Meant = if slice_index z 1 == 13 && slice_index z 2 == 10 then meant [] 3 else other in
    let unicode : Meant = if slice_index z 1 == 117 then unicode_meant z else line in
    meant_if (slice_index z 1 == 120) (meant (value_of 16 (take 2 (drop 2 z)) ∷ []) 4) unicode
    (low_one (value_of 16 (take 2 (drop 2 z))))
    (meant_if (slice_index z 1 == 117) (unicode_meant z) line (unicode_low z)
    (meant_if (slice_index z 1 == 13 && slice_index z 2 == 10) (meant [] 3) other low_none
    (single_low (code_point (drop 1 z)))))

pub part_low : (z : Text) → IsLow (part_meant z).units
part_low z =
    meant_if (slice_index z 0 == 92) (escape_meant z) (meant (units_of (code_point z)) (char_len z)) (escape_low z)
    (low_point (code_point z))

-- ---- one part more

meant_drop : (n : ℕ) (z : Text) → meant_from part_meant n z ≡ meant_from part_meant 0 (drop n z)
meant_drop zero [] = refl
meant_drop (suc n) [] = refl
meant_drop zero (b ∷ z) = refl
meant_drop (suc n) (b ∷ z) = meant_drop n z

drop_more : (n : ℕ) (b : ℕ) (z : Text) → 1 ≤ n → drop (n - 1) z ≡ drop n (b ∷ z)
drop_more zero b z h = absurd (omega arith)
drop_more (suc n) b z h = let e : suc n - 1 ≡ n = omega arith in ap (λ k. drop k z) e

pub meant_step : (z : Text) → 1 ≤ length z → 1 ≤ (part_meant z).len
    → meant_from part_meant 0 z ≡ (part_meant z).units ++ meant_from part_meant 0 (drop (part_meant z).len z)
meant_step [] h i = absurd (omega arith)
meant_step (b ∷ z) h i =
    ap (λ r. (part_meant (b ∷ z)).units ++ r)
    (meant_drop ((part_meant (b ∷ z)).len - 1) z
    ∙ ap (meant_from part_meant 0) (drop_more (part_meant (b ∷ z)).len b z i))

-- ---- what is wanted

same_unit : (b u : ℕ) → (nat_lt (min u 256) 256 && b == min u 256) ≡ true → b ≡ u
same_unit b u h = grind (arith, nat_tests)

small_unit : (b u : ℕ) → (nat_lt (min u 256) 256 && b == min u 256) ≡ true → u < 256
small_unit b u h = grind (arith, nat_tests)

same_test : (b u : ℕ) → (b == u) ≡ true → b < 256 → (nat_lt (min u 256) 256 && b == min u 256) ≡ true
same_test b u h i = grind (arith, nat_tests)

equal : (b u : ℕ) → b ≡ u → (b == u) ≡ true
equal b u h = grind (arith, nat_tests)

stops_by : (b u : ℕ) (more others : List ℕ) (same : Bool) → (b == u) ≡ same → b < 256
    → wanted_behind (b ∷ more) (Some (min u 256)) ≡ None
    → false ≡ bytes_eq (b ∷ more) (u ∷ others)
stops_by b u more others true e small h =
    absurd (some_nothing more (sym (ap (λ c. if c then Some more else None) (same_test b u e small)) ∙ h))
stops_by b u more others false e small h = sym (ap (λ c. c && bytes_eq more others) e)

pub stops : (wanted units others : List ℕ) → slice_index wanted 0 < 256 → None ≡ wanted_behind wanted (low_unit units)
    → false ≡ bytes_eq wanted (units ++ others)
stops wanted [] others small h = absurd (some_nothing wanted (sym h))
stops [] (u ∷ us) others small h = refl
stops (b ∷ more) (u ∷ us) others small h = stops_by b u more (us ++ others) (b == u) refl small (sym h)

goes_by : (b u : ℕ) (wanted more us others : List ℕ) (same : Bool)
    → (nat_lt (min u 256) 256 && b == min u 256) ≡ same
    → Some more ≡ (if same then Some wanted else None)
    → IsLow (u ∷ us)
    → bytes_eq more others ≡ bytes_eq (b ∷ wanted) ((u ∷ us) ++ others)
goes_by b u wanted more us others false e h low = absurd (some_nothing more h)
goes_by b u wanted more us others true e h low =
    let small : u < 256 = small_unit b u e in
    let first : u ≡ min u 256 = omega arith in
    let same : (b == u) ≡ true = equal b u (same_unit b u e) in
    ap (λ xs. bytes_eq (or_nothing xs) others) h
    ∙ sym (ap (λ c. c && bytes_eq wanted others) same)
    ∙ ap (λ units. bytes_eq (b ∷ wanted) (units ++ others)) (sym (low u (ap Some first) small))

pub goes : (wanted more units others : List ℕ) → Some more ≡ wanted_behind wanted (low_unit units) → IsLow units
    → bytes_eq more others ≡ bytes_eq wanted (units ++ others)
goes wanted more [] others h low = ap (λ xs. bytes_eq (or_nothing xs) others) h
goes [] more (u ∷ us) others h low = absurd (some_nothing more h)
goes (b ∷ wanted) more (u ∷ us) others h low =
    goes_by b u wanted more us others (nat_lt (min u 256) 256 && b == min u 256) refl h low

-- The bytes of a first text are ASCII.
use Rattle.std.proofs.Common.{◌≡◌, ℕ, zero, suc, nat_lt, ◌<◌, Bool, true, false, ◌&&◌, List, [], ◌∷◌, ◌++◌, flat_map}
use Rattle.std.proofs.Common.{codes, decimal, inl, inr, refl, sym, subst, arith, All}
use Rattle.std.specs.Str.{IsAscii}
use Rattle.std.specs.List.{list_all}
use Rattle.std.proofs.lemmas.Str.{IsAscii-append}
use Rattle.std.proofs.lemmas.Fmt.{IsAscii-decimal}
use Rattle.std.proofs.lemmas.List.{get_or_default}
use Rattle.hermes.specs.declared.first.language.Sign.{Sign}
use Rattle.hermes.specs.declared.first.language.Sign.TheVariants.{Plus, Minus}
use Rattle.hermes.specs.declared.first.language.Term.{Term}
use Rattle.hermes.specs.declared.first.language.Addend.{Addend}
use Rattle.hermes.specs.declared.first.language.Argument.{Argument}
use Rattle.hermes.specs.declared.first.language.Argument.TheVariants as argument
use Rattle.hermes.specs.first.Texts.{directive, sign_byte, factor_tokens, term_tokens, addend_tokens, argument_tokens}
use Rattle.hermes.specs.first.Texts.{call_tokens, first_tokens, is_blank, Spaced, is_number, is_text_byte, is_term}
use Rattle.hermes.specs.first.Texts.{is_addend, is_argument, Spells, IsFirst}

abbrev pub AreAscii : List (List ℕ) → Type 0
AreAscii [] = Unit {0}
AreAscii (t ∷ ts) = IsAscii t × AreAscii ts

nil_ascii : IsAscii []
nil_ascii i = grind arith

cons_ascii : (b : ℕ) (bs : List ℕ) → b < 128 → IsAscii bs → IsAscii (b ∷ bs)
cons_ascii b bs h hs zero = h
cons_ascii b bs h hs (suc i) = hs i

both_ascii : (ts us : List (List ℕ)) → AreAscii ts → AreAscii us → AreAscii (ts ++ us)
both_ascii [] us a b = b
both_ascii (t ∷ ts) us a b = (a.0, both_ascii ts us a.1 b)

one_ascii : (b : ℕ) → b < 128 → IsAscii (b ∷ [])
one_ascii b h = cons_ascii b [] h nil_ascii

both_true : (a b : Bool) → (a && b) ≡ true → (a ≡ true) × (b ≡ true)
both_true true true e = (refl, refl)
both_true true false e = cc
both_true false b e = cc

number_ascii : (n : ℕ) → is_number n ≡ true → IsAscii (decimal n)
number_ascii n h = IsAscii-decimal n (grind (arith, h))

factors_ascii : (ns : List ℕ) → list_all is_number ns ≡ true → AreAscii (flat_map factor_tokens ns)
factors_ascii [] h = tt
factors_ascii (n ∷ ns) h =
    let p = both_true (is_number n) (list_all is_number ns) h in
    (one_ascii 42 (omega arith), (number_ascii n p.0, factors_ascii ns p.1))

term_ascii : (t : Term) → is_term t ≡ true → AreAscii (term_tokens t)
term_ascii t h =
    let p = both_true (is_number t.first) (list_all is_number t.others) h in
    (number_ascii t.first p.0, factors_ascii t.others p.1)

sign_ascii : (s : Sign) → IsAscii (sign_byte s ∷ [])
sign_ascii Plus = one_ascii 43 (omega arith)
sign_ascii Minus = one_ascii 45 (omega arith)

addends_ascii : (xs : List Addend) → list_all is_addend xs ≡ true → AreAscii (flat_map addend_tokens xs)
addends_ascii [] h = tt
addends_ascii (a ∷ xs) h =
    let p = both_true (is_addend a) (list_all is_addend xs) h in
    both_ascii (addend_tokens a) (flat_map addend_tokens xs) (sign_ascii a.sign, term_ascii a.term p.0)
    (addends_ascii xs p.1)

bytes_ascii : (bs : List ℕ) → list_all is_text_byte bs ≡ true → IsAscii bs
bytes_ascii [] h = nil_ascii
bytes_ascii (b ∷ bs) h =
    let p = both_true (is_text_byte b) (list_all is_text_byte bs) h in
    let low : b < 128 = grind (arith, p.0) in
    cons_ascii b bs low (bytes_ascii bs p.1)

blanks_ascii : (bs : List ℕ) → list_all is_blank bs ≡ true → IsAscii bs
blanks_ascii [] h = nil_ascii
blanks_ascii (b ∷ bs) h =
    let p = both_true (is_blank b) (list_all is_blank bs) h in
    let low : b < 128 = grind (arith, p.0) in
    cons_ascii b bs low (blanks_ascii bs p.1)

argument_ascii : (a : Argument) → is_argument a ≡ true → AreAscii (argument_tokens a)
argument_ascii (argument.Text text) h =
    let p = both_true _ (list_all is_text_byte text) h in (
      cons_ascii 34 (text ++ 34 ∷ []) (omega arith)
          (IsAscii-append text (34 ∷ []) (bytes_ascii text p.1) (one_ascii 34 (omega arith))),
      tt,
    )
argument_ascii (argument.Sum s) h =
    let p = both_true (is_term s.first) (list_all is_addend s.others) h in
    both_ascii (term_tokens s.first) (flat_map addend_tokens s.others) (term_ascii s.first p.0)
    (addends_ascii s.others p.1)

tested_ascii : (bs : List ℕ) → list_all (λ b. nat_lt b 128) bs ≡ true → IsAscii bs
tested_ascii [] h = nil_ascii
tested_ascii (b ∷ bs) h =
    let p = both_true (nat_lt b 128) (list_all (λ b. nat_lt b 128) bs) h in
    cons_ascii b bs (grind (arith, p.0)) (tested_ascii bs p.1)

word_ascii : IsAscii (codes "print")
word_ascii = tested_ascii (codes "print") refl

calls_ascii : (calls : List Argument) → list_all is_argument calls ≡ true → AreAscii (flat_map call_tokens calls)
calls_ascii [] h = tt
calls_ascii (a ∷ calls) h =
    let p = both_true (is_argument a) (list_all is_argument calls) h in
    both_ascii (call_tokens a) (flat_map call_tokens calls) (
      word_ascii,
      (
        one_ascii 40 (omega arith),
        both_ascii (argument_tokens a) ((41 ∷ []) ∷ (59 ∷ []) ∷ []) (argument_ascii a p.0)
            (one_ascii 41 (omega arith), (one_ascii 59 (omega arith), tt)),
      ),
    )
    (calls_ascii calls p.1)

spaced_ascii : (tokens : List (List ℕ)) (bytes : List ℕ) → AreAscii tokens → Spaced tokens bytes → IsAscii bytes
spaced_ascii [] bytes a s = subst IsAscii (sym s) nil_ascii
spaced_ascii (t ∷ ts) bytes a (blanks, rest, e, b, s) =
    subst IsAscii (sym e) (IsAscii-append t (blanks ++ rest) a.0
    (IsAscii-append blanks rest (blanks_ascii blanks b) (spaced_ascii ts rest a.1 s)))

directive_ascii : IsAscii directive
directive_ascii = tested_ascii directive refl

spelled_ascii : (strict : Bool) (calls : List Argument) (bytes : List ℕ) → AreAscii (flat_map call_tokens calls)
    → Spells strict calls bytes → IsAscii bytes
spelled_ascii strict calls bytes a (inl s) = spaced_ascii (first_tokens calls) bytes (directive_ascii, a) s
spelled_ascii strict calls bytes a (inr s) = spaced_ascii (flat_map call_tokens calls) bytes a s.1

pub first_ascii : (strict : Bool) (calls : List Argument) (bytes : List ℕ) → IsFirst strict calls bytes → IsAscii bytes
first_ascii strict calls bytes f = spelled_ascii strict calls bytes (calls_ascii calls f.parts) f.spelled

-- as the writer of files asks it
pub first_below : (strict : Bool) (calls : List Argument) (bytes : List ℕ) → IsFirst strict calls bytes
    → All (λ byte. byte < 128) bytes
first_below strict calls bytes f =
    λ k d below. rw (get_or_default bytes k d 0 below) (first_ascii strict calls bytes f k)

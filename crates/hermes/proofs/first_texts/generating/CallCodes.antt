-- The code of calls, one call after the other.
use Rattle.std.proofs.Common.{◌≡◌, ℕ, ◌+◌, ◌<◌, List, [], ◌∷◌, ◌++◌, length, take, get_or, ap, ◌∙◌, sym, arith}
use Rattle.std.proofs.Common.{append_assoc, append-nil, length-append}
use Rattle.std.specs.Prelude.{flat_map, codes}
use Rattle.std.proofs.lemmas.List.{take_more, flat_map_more}
use Rattle.hermes.specs.declared.first.language.Argument.{Argument}
use Rattle.hermes.specs.first.Generated.{call_code, argument_texts, calls_code, end_code, script_code, script_texts}

pub calls_code-append : (id : ℕ) (xs ys : List Argument)
    → calls_code id (xs ++ ys) ≡ calls_code id xs ++ calls_code (id + length (flat_map argument_texts xs)) ys
calls_code-append id [] ys = ap (λ n. calls_code n ys) (omega arith)
calls_code-append id (x ∷ xs) ys =
    let next : ℕ = id + length (argument_texts x) in
    let last : next + length (flat_map argument_texts xs)
    ≡ id + length (argument_texts x ++ flat_map argument_texts xs) =
    omega (arith, length-append (argument_texts x) (flat_map argument_texts xs)) in
    ap (λ code. call_code id x ++ code) (calls_code-append next xs ys)
    ∙ sym (append_assoc (call_code id x) (calls_code next xs)
    (calls_code (next + length (flat_map argument_texts xs)) ys))
    ∙ ap (λ n. call_code id x ++ calls_code next xs ++ calls_code n ys) last

-- the code of one call more
pub one_more : (id now i : ℕ) (calls : List Argument) (a : Argument) (initial code code' : List ℕ) → i < length calls
    → a ≡ get_or calls i a → now ≡ id + length (flat_map argument_texts (take i calls))
    → code ≡ initial ++ calls_code id (take i calls) → code' ≡ code ++ call_code now a
    → code' ≡ initial ++ calls_code id (take (i + 1) calls)
one_more id now i calls a initial code code' within is now_is code_is more =
    let front : List Argument = take i calls in
    let next : ℕ = id + length (flat_map argument_texts front) in
    let whole : calls_code id (take (i + 1) calls) ≡ calls_code id front ++ (call_code next a ++ []) =
    ap (calls_code id) (take_more calls i a within ∙ ap (λ x. front ++ x ∷ []) (sym is))
    ∙ calls_code-append id front (a ∷ []) in
    more
    ∙ ap (λ n. code ++ call_code n a) now_is
    ∙ ap (λ c. c ++ call_code next a) code_is
    ∙ append_assoc initial (calls_code id front) (call_code next a)
    ∙ ap (λ c. initial ++ c) (ap (λ c. calls_code id front ++ c) (sym (append-nil (call_code next a))) ∙ sym whole)

-- the texts of one call more
pub one_more_text : (i : ℕ) (calls : List Argument) (a : Argument) (initial texts texts' : List (List ℕ))
    → i < length calls → a ≡ get_or calls i a → texts ≡ initial ++ flat_map argument_texts (take i calls)
    → texts' ≡ texts ++ argument_texts a → texts' ≡ initial ++ flat_map argument_texts (take (i + 1) calls)
one_more_text i calls a initial texts texts' within is texts_are more =
    more ∙ ap (λ ts. ts ++ argument_texts a) texts_are ∙ flat_map_more argument_texts initial (take i calls) a
    ∙ ap (λ xs. initial ++ flat_map argument_texts xs)
    (ap (λ x. take i calls ++ x ∷ []) is ∙ sym (take_more calls i a within))

-- the texts and the code of a script, as they are put together
pub texts_made : (none one all : List (List ℕ)) (name : List ℕ) (given calls : List Argument) → none ≡ []
    → name ≡ codes "print" → one ≡ none ++ name ∷ [] → given ≡ calls → all ≡ one ++ flat_map argument_texts given
    → all ≡ script_texts calls
texts_made none one all name given calls none_is name_is one_is given_is all_are =
    all_are
    ∙ ap (λ ts. ts ++ flat_map argument_texts given)
    (one_is ∙ ap (λ ts. ts ++ name ∷ []) none_is ∙ ap (λ t. t ∷ []) name_is)
    ∙ ap (λ xs. codes "print" ∷ flat_map argument_texts xs) given_is

pub code_made : (none one : List (List ℕ)) (name empty code whole : List ℕ) (given calls : List Argument) → none ≡ []
    → one ≡ none ++ name ∷ [] → empty ≡ [] → given ≡ calls → code ≡ empty ++ calls_code (length one) given
    → whole ≡ code ++ end_code → whole ≡ script_code calls
code_made none one name empty code whole given calls none_is one_is empty_is given_is code_is whole_is =
    whole_is
    ∙ ap (λ c. c ++ end_code)
    (code_is
    ∙ ap (λ c. c ++ calls_code (length one) given) empty_is
    ∙ ap (λ ts. calls_code (length ts) given) (one_is ∙ ap (λ ts. ts ++ name ∷ []) none_is)
    ∙ ap (calls_code 1) given_is)

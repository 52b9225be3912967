-- A printed line, made an argument at a time.
use Rattle.std.proofs.Common.{◌≡◌, ℕ, List, [], ◌∷◌, ◌++◌, Option, None, Some, refl, sym, ap, ◌∙◌, append_assoc}
use Rattle.std.proofs.Common.{append-nil, map, ◌+◌, ◌-◌, ◌<◌, ◌≤◌, length, take, drop, get_or, arith}
use Rattle.std.specs.Prelude.{option_map, slice_get}
use Rattle.std.proofs.lemmas.List.{take_more, take_all}
use Rattle.std.proofs.lemmas.Option.{slice_get_within, get_or_from_slice_get}
use Rattle.std.specs.Option.{option_and_then}
use Rattle.std.specs.List.{join_with_byte}
use Rattle.hz_ops.specs.Contents.{Content, text_of, texts_of, line_of}
use Rattle.hermes.specs.declared.first.run.held.Held.{Held}
use Rattle.hermes.specs.first.Rows.{content_of}

-- the text of what comes behind other arguments, with a space before each
abbrev pub behind : List Content → Option (List ℕ)
behind [] = Some []
behind (x ∷ xs) = option_and_then (λ t. option_map (λ more. 32 ∷ (t ++ more)) (behind xs)) (text_of x)

abbrev pub with_front : List ℕ → Option (List ℕ) → Option (List ℕ)
with_front front o = option_map (λ more. front ++ more) o

-- the first argument, and the others behind it
line_from : (x : Content) (xs : List Content)
    → line_of (x ∷ xs) ≡ option_and_then (λ t. with_front t (behind xs)) (text_of x)
line_from x xs = by_text (text_of x) where
  joined : (t : List ℕ) (xs : List Content)
      → option_map (join_with_byte 32) (option_map (λ ts. t ∷ ts) (texts_of xs)) ≡ with_front t (behind xs)
  joined t [] = ap Some (sym (append-nil t))
  joined t (y ∷ ys) = by_next (text_of y) (λ t2. joined t2 ys) where
    by_rest : (t2 : List ℕ) (a : Option (List (List ℕ))) (b : Option (List ℕ))
        → option_map (join_with_byte 32) (option_map (λ ts. t2 ∷ ts) a) ≡ with_front t2 b
        → option_map (join_with_byte 32) (option_map (λ ts. t ∷ ts) (option_map (λ ts. t2 ∷ ts) a))
        ≡ with_front t (option_map (λ more. 32 ∷ (t2 ++ more)) b)
    by_rest t2 None None e = refl
    by_rest t2 None (Some more) e = cc
    by_rest t2 (Some ts) None e = cc
    by_rest t2 (Some ts) (Some more) e = ap (option_map (λ l. t ++ (32 ∷ l))) e

    by_next : (o : Option (List ℕ))
        → ((t2 : List ℕ) → option_map (join_with_byte 32) (option_map (λ ts. t2 ∷ ts) (texts_of ys))
        ≡ with_front t2 (behind ys))
        → option_map (join_with_byte 32)
        (option_map (λ ts. t ∷ ts) (option_and_then (λ u. option_map (λ ts. u ∷ ts) (texts_of ys)) o))
        ≡ with_front t (option_and_then (λ u. option_map (λ more. 32 ∷ (u ++ more)) (behind ys)) o)
    by_next None rest = refl
    by_next (Some t2) rest = by_rest t2 (texts_of ys) (behind ys) (rest t2)

  by_text : (o : Option (List ℕ))
      → option_map (join_with_byte 32) (option_and_then (λ t. option_map (λ ts. t ∷ ts) (texts_of xs)) o)
      ≡ option_and_then (λ t. with_front t (behind xs)) o
  by_text None = refl
  by_text (Some t) = joined t xs

pub begun : (first : Held) (rest : List Held) (line : List ℕ)
    → option_map (λ t. [] ++ t) (text_of (content_of first)) ≡ Some line
    → with_front line (behind (map content_of rest)) ≡ line_of (map content_of (first ∷ rest))
begun first rest line e = go (text_of (content_of first)) e
    ∙ sym (line_from (content_of first) (map content_of rest)) where
      go : (o : Option (List ℕ)) → option_map (λ t. [] ++ t) o ≡ Some line
          → with_front line (behind (map content_of rest))
          ≡ option_and_then (λ t. with_front t (behind (map content_of rest))) o
      go None is = cc
      go (Some t) is = ap (λ l. with_front l (behind (map content_of rest))) (let same : Some t ≡ Some line = is in cc)

pub begun_without : (first : Held) (rest : List Held) → text_of (content_of first) ≡ None
    → line_of (map content_of (first ∷ rest)) ≡ None
begun_without first rest e = line_from (content_of first) (map content_of rest)
    ∙ ap (option_and_then (λ t. with_front t (behind (map content_of rest)))) e

pub one_more : (line new : List ℕ) (x : Held) (xs : List Held)
    → option_map (λ t. (line ++ 32 ∷ []) ++ t) (text_of (content_of x)) ≡ Some new
    → with_front new (behind (map content_of xs)) ≡ with_front line (behind (map content_of (x ∷ xs)))
one_more line new x xs e = go (text_of (content_of x)) (behind (map content_of xs)) e where
  go : (o b : Option (List ℕ)) → option_map (λ t. (line ++ 32 ∷ []) ++ t) o ≡ Some new
      → with_front new b ≡ with_front line (option_and_then (λ t. option_map (λ more. 32 ∷ (t ++ more)) b) o)
  go None b is = cc
  go (Some t) None is = refl
  go (Some t) (Some more) is =
      let same : (line ++ 32 ∷ []) ++ t ≡ new = cc in
      ap Some (ap (λ l. l ++ more) (sym same) ∙ append_assoc (line ++ 32 ∷ []) t more
      ∙ append_assoc line (32 ∷ []) (t ++ more))

pub without_one : (line : List ℕ) (x : Held) (xs : List Held) → text_of (content_of x) ≡ None
    → with_front line (behind (map content_of (x ∷ xs))) ≡ None
without_one line x xs e = ap
    (λ o. with_front line (option_and_then (λ t. option_map (λ more. 32 ∷ (t ++ more)) (behind (map content_of xs))) o))
    e

-- ---- lists

pub take_one : (xs : List ℕ) (i x : ℕ) → slice_get xs i ≡ Some x → take (i + 1) xs ≡ take i xs ++ x ∷ []
take_one xs i x e =
    let within : i < length xs = slice_get_within xs i x e in
    take_more xs i x within ∙ ap (λ y. take i xs ++ y ∷ []) (get_or_from_slice_get xs i x x e)

pub first_and_rest : (xs : List Held) (x : Held) → 1 ≤ length xs → x ≡ get_or xs 0 x
    → xs ≡ x ∷ take (length xs - 1) (drop 1 xs)
first_and_rest [] x some is = absurd (omega arith)
first_and_rest (y ∷ ys) x some is =
    let count : length (y ∷ ys) - 1 ≡ length ys = omega arith in
    ap (λ z. z ∷ ys) (sym is) ∙ ap (λ t. x ∷ t)
    (sym (ap (λ n. take n ys) count ∙ take_all (length ys) ys (omega arith)))

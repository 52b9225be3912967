-- Tokens counted by where they begin.
use Rattle.std.proofs.Common.{◌≡◌, ℕ, ◌+◌, ◌-◌, ◌<◌, ◌≤◌, zero, suc, List, [], ◌∷◌, ◌++◌, map, take}
use Rattle.std.proofs.Common.{length, get_or, set}
use Rattle.std.proofs.Common.{◌&&◌, cond, refl, ap, sym, ◌∙◌, arith}
use Rattle.std.proofs.Common.{Some, ◌⊎◌, inl, inr}
use Rattle.std.specs.Prelude.{nat_le, nat_lt, ◌==◌}
use Rattle.std.specs.List.{count_by, sum_by, slice_get}
use Rattle.std.proofs.lemmas.Bool.Decides.{nat_tests}
use Rattle.std.proofs.Common.{min, replicate, subst}
use Rattle.std.proofs.lemmas.List.{get_or_read, length-map, length-take, get_or-replicate, length-replicate}
use Rattle.std.proofs.lemmas.List.{get_or-map, length-set, length-append, get_or_append_left, get_or_at}
use Rattle.std.proofs.lemmas.List.{take_more, map-append}
use Rattle.std.proofs.lemmas.Option.{slice_get_within, get_or_from_slice_get}
use Rattle.std.proofs.lemmas.List.Sums.{sum_by-cons, count_by-le-length, sum_by_push, sum_by_more}
use Rattle.hz_tree.specs.tokens.Text.{Text}
use Rattle.hz_tree.specs.tokens.Tokens.{Lexeme, lexeme, tokens}
use Rattle.hz_tree.specs.declared.token.Token.{Token}
use Rattle.hz_tree.specs.declared.index.FunctionInfo.{FunctionInfo}
use Rattle.hz_tree.specs.sources.Refusals.{functions}
use Rattle.hz_scan.specs.Order.{InOrder, end_of}
use Rattle.hz_scan.proofs.OrderLemmas.{in_order, few}
use Rattle.hz_tree.specs.trees.FunctionTrees.{tokens_within, inner_tokens}
use Rattle.hz_front_dump.specs.Places.{begin_at, begin_before, HasStarts, HasBefore, HasOwn}

-- ---- tokens before a place

one_next : (a p : ℕ) → cond (nat_lt a (p + 1)) 1 0 ≡ cond (nat_lt a p) 1 0 + cond (a == p) 1 0
one_next a p = grind (arith, nat_tests)

pub before_next : (p : ℕ) (ts : List Lexeme) → begin_before (p + 1) ts ≡ begin_before p ts + begin_at p ts
before_next p [] = refl
before_next p (t ∷ ts) =
    let a = sum_by-cons (λ (t : Lexeme). cond (nat_lt t.at (p + 1)) 1 0) t ts in
    let b = sum_by-cons (λ (t : Lexeme). cond (nat_lt t.at p) 1 0) t ts in
    let c = sum_by-cons (λ (t : Lexeme). cond (t.at == p) 1 0) t ts in
    omega (arith, a, b, c, one_next t.at p, before_next p ts)

one_none : (a : ℕ) → ◌≡◌ {A = ℕ} (cond (nat_lt a 0) 1 0) 0
one_none a = grind (arith, nat_tests)

pub before_none : (ts : List Lexeme) → begin_before 0 ts ≡ 0
before_none [] = refl
before_none (t ∷ ts) = omega (
  arith,
  sum_by-cons (λ (t : Lexeme). cond (nat_lt t.at 0) 1 0) t ts,
  one_none t.at,
  before_none ts,
)

-- ---- tokens in a part

one_within : (a start end : ℕ) → start ≤ end
    → cond (nat_le start a && nat_lt a end) 1 0 + cond (nat_lt a start) 1 0 ≡ cond (nat_lt a end) 1 0
one_within a start end h = grind (arith, nat_tests)

one_outside : (a start end : ℕ) → end ≤ start → ◌≡◌ {A = ℕ} (cond (nat_le start a && nat_lt a end) 1 0) 0
one_outside a start end h = grind (arith, nat_tests)

one_later : (a start end : ℕ) → end ≤ start → cond (nat_lt a end) 1 0 ≤ cond (nat_lt a start) 1 0
one_later a start end h = grind (arith, nat_tests)

abbrev within : (start end : ℕ) → List Lexeme → ℕ
within start end ts = count_by (λ t. nat_le start t.at && nat_lt t.at end) ts

within_cons : (start end : ℕ) (t : Lexeme) (ts : List Lexeme)
    → within start end (t ∷ ts) ≡ cond (nat_le start t.at && nat_lt t.at end) 1 0 + within start end ts
within_cons start end = sum_by-cons (λ (t : Lexeme). cond (nat_le start t.at && nat_lt t.at end) 1 0)

before_cons : (p : ℕ) (t : Lexeme) (ts : List Lexeme)
    → begin_before p (t ∷ ts) ≡ cond (nat_lt t.at p) 1 0 + begin_before p ts
before_cons p = sum_by-cons (λ (t : Lexeme). cond (nat_lt t.at p) 1 0)

within_both : (start end : ℕ) (ts : List Lexeme) → start ≤ end
    → within start end ts + begin_before start ts ≡ begin_before end ts
within_both start end [] h = refl
within_both start end (t ∷ ts) h = omega (
  arith,
  within_cons start end t ts,
  before_cons start t ts,
  before_cons end t ts,
  one_within t.at start end h,
  within_both start end ts h,
)

outside : (start end : ℕ) (ts : List Lexeme) → end ≤ start
    → (within start end ts ≡ 0) × (begin_before end ts ≤ begin_before start ts)
outside start end [] h = (refl, omega arith)
outside start end (t ∷ ts) h =
    let more = outside start end ts h in (
      omega (arith, within_cons start end t ts, one_outside t.at start end h, more.0),
      omega (arith, before_cons start t ts, before_cons end t ts, one_later t.at start end h, more.1),
    )

either : (a b : ℕ) → (a ≤ b) ⊎ (b ≤ a)
either a b = grind arith

within_is : (start end : ℕ) (ts : List Lexeme)
    → begin_before end ts - begin_before start ts ≡ within start end ts
within_is start end ts = elim (either start end) [
  | inl h ↦ omega (arith, within_both start end ts h)
  | inr h ↦ omega (arith, (outside start end ts h).0, (outside start end ts h).1)
]

pub within_source : (source : Text) (start end : ℕ)
    → begin_before end (tokens source) - begin_before start (tokens source) ≡ tokens_within source start end
unfolding tokens_within
within_source source start end = within_is start end (tokens source)

-- ---- tokens lie in the source

one_inside : (a p : ℕ) → a < p → ◌≡◌ {A = ℕ} (cond (nat_lt a p) 1 0) 1
one_inside a p h = grind (arith, nat_tests)

all_before : (source : Text) (q p : ℕ) (ts : List Lexeme) → InOrder source q ts → length source < p
    → begin_before p ts ≡ length ts
all_before source q p [] h l = refl
all_before source q p (t ∷ ts) h l =
    before_cons p t ts ∙ omega (
      arith,
      one_inside t.at p (omega (arith, h.0.inside)),
      all_before source (end_of t) p ts h.1 l,
    )

-- behind the end all have begun
pub before_last : (source : Text) (p : ℕ) → length source < p
    → begin_before (length source + 1) (tokens source) ≡ begin_before p (tokens source)
before_last source p h =
    all_before source 0 (length source + 1) (tokens source) (in_order source) (omega arith)
    ∙ sym (all_before source 0 p (tokens source) (in_order source) h)

-- ---- what the program counts

pub read_before : (source : Text) (before : List ℕ) (place last n : ℕ)
    → HasBefore (tokens source) (length source + 1) before → last ≡ length source + 1
    → n ≡ get_or before (min place last) n → n ≡ begin_before place (tokens source)
read_before source before place last n h e k = elim (either place (length source)) [
  | inl l ↦
      let same : min place last ≡ place = omega arith in
      let read : n ≡ get_or before place n = k ∙ ap (λ i. get_or before i n) same in
      get_or_read before place n (omega (arith, h.long)) read 0 ∙ h.each place (omega arith)
  | inr l ↦ behind_end (either place (length source + 1))
] where
  behind_end : (place ≤ length source + 1) ⊎ (length source + 1 ≤ place) → n ≡ begin_before place (tokens source)
  behind_end (inl l) =
      let same : min place last ≡ place = omega arith in
      let read : n ≡ get_or before place n = k ∙ ap (λ i. get_or before i n) same in
      get_or_read before place n (omega (arith, h.long)) read 0 ∙ h.each place l
  behind_end (inr l) =
      let same : min place last ≡ length source + 1 = omega arith in
      let read : n ≡ get_or before (length source + 1) n = k ∙ ap (λ i. get_or before i n) same in
      get_or_read before (length source + 1) n (omega (arith, h.long)) read 0
      ∙ h.each (length source + 1) (omega arith) ∙ before_last source place (omega arith)

lies_inside : (source : Text) (q : ℕ) (ts : List Lexeme) (i : ℕ) (d : Lexeme) → InOrder source q ts → i < length ts
    → (get_or ts i d).at ≤ length source
lies_inside source q [] i d h l = absurd (omega arith)
lies_inside source q (t ∷ ts) zero d h l = omega (arith, h.0.inside)
lies_inside source q (t ∷ ts) (suc i) d h l = lies_inside source (end_of t) ts i d h.1 (omega arith)

same_test : (a b : ℕ) → ◌≡◌ {A = ℕ} (cond (a == b) 1 0) (cond (suc a == suc b) 1 0)
same_test a b = grind (arith, nat_tests)

other_test : (a : ℕ) → (◌≡◌ {A = ℕ} (cond (suc a == 0) 1 0) 0) × (◌≡◌ {A = ℕ} (cond (0 == suc a) 1 0) 0)
other_test a = (grind (arith, nat_tests), grind (arith, nat_tests))

none_more : (x n : ℕ) → n ≡ 0 → x ≡ x + n
none_more x n h = omega (arith, h)

set_counts : (starts : List ℕ) (at n place : ℕ) → at < length starts → n ≡ get_or starts at 0
    → get_or (set starts at (n + 1)) place 0 ≡ get_or starts place 0 + cond (at == place) 1 0
set_counts [] at n place l e = absurd (omega arith)
set_counts (x ∷ starts) zero n zero l e = ap (λ m. m + 1) e
set_counts (x ∷ starts) zero n (suc place) l e =
    none_more (get_or starts place 0) (cond (0 == suc place) 1 0) (other_test place).1
set_counts (x ∷ starts) (suc at) n zero l e =
    none_more x (cond (suc at == 0) 1 0) (other_test at).0
set_counts (x ∷ starts) (suc at) n (suc place) l e =
    set_counts starts at n place (omega arith) e ∙ ap (λ m. get_or starts place 0 + m) (same_test at place)

module _ (source : Text) (all : List Token) (is : map lexeme all ≡ tokens source) (i : ℕ) (d : Token)
    (inside : i < length all) where
  token_read : get_or (tokens source) i (lexeme d) ≡ lexeme (get_or all i d)
  token_read = ap (λ ts. get_or ts i (lexeme d)) (sym is) ∙ get_or-map lexeme all i d (lexeme d) inside

  token_within : i < length (tokens source)
  token_within = omega (arith, ap length is, length-map all lexeme)

  pub token_lies : (get_or all i d).at ≤ length source
  token_lies =
      subst (λ (x : Lexeme). x.at ≤ length source) token_read
      (lies_inside source 0 (tokens source) i (lexeme d) (in_order source) token_within)

  at_next : (place : ℕ) → begin_at place (take (i + 1) (tokens source))
      ≡ begin_at place (take i (tokens source)) + cond ((get_or all i d).at == place) 1 0
  at_next place =
      sum_by_more (λ (t : Lexeme). cond (t.at == place) 1 0) (tokens source) i (lexeme d) token_within
      ∙ ap (λ (x : Lexeme). begin_at place (take i (tokens source)) + cond (x.at == place) 1 0) token_read

  pub starts_next : (starts : List ℕ) (n : ℕ) → HasStarts (take i (tokens source)) starts
      → (get_or all i d).at < length starts → n ≡ get_or starts (get_or all i d).at 0
      → HasStarts (take (i + 1) (tokens source)) (set starts (get_or all i d).at (n + 1))
  starts_next starts n h l e = record {
    each = λ place k.
        set_counts starts (get_or all i d).at n place l e
        ∙ ap (λ m. m + cond ((get_or all i d).at == place) 1 0)
        (h.each place (omega (arith, k, length-set {A = ℕ})))
        ∙ sym (at_next place);
  }

pub starts_few : (source : Text) (i place : ℕ) (starts : List ℕ) → HasStarts (take i (tokens source)) starts
    → place < length starts → get_or starts place 0 ≤ suc (length source)
starts_few source i place starts h l = omega (
  arith,
  h.each place l,
  count_by-le-length (λ (t : Lexeme). t.at == place) (take i (tokens source)),
  length-take i (tokens source),
  few source,
)

pub starts_none : (source : Text) (n : ℕ) → HasStarts (take 0 (tokens source)) (replicate n 0)
starts_none source n = record {
  each = λ place h. get_or-replicate n place 0 0 (omega (arith, h, length-replicate {A = ℕ} n 0));
}

le_next : (place i : ℕ) → place ≤ i + 1 → (place ≤ i) ⊎ (place ≡ i + 1)
le_next place i h = grind arith

pub sums_next : (ts : List Lexeme) (i total n : ℕ) (before : List ℕ) → HasBefore ts i before
    → total ≡ begin_before i ts → n ≡ begin_at i ts → HasBefore ts (i + 1) (before ++ (total + n) ∷ [])
sums_next ts i total n before h e k = record {
  long = omega (arith, length-append {A = ℕ} before ((total + n) ∷ []), h.long);
  each = λ place l. next place (le_next place i l);
} where
  next : (place : ℕ) → (place ≤ i) ⊎ (place ≡ i + 1)
      → get_or (before ++ (total + n) ∷ []) place 0 ≡ begin_before place ts
  next place (inl l) =
      get_or_append_left before ((total + n) ∷ []) 0 place (omega (arith, h.long)) ∙ h.each place l
  next place (inr l) =
      get_or_at before (total + n) [] 0 place (omega (arith, h.long)) ∙ omega (arith, e, k, before_next i ts)
      ∙ ap (λ p. begin_before p ts) (sym l)

pub before_few : (source : Text) (place : ℕ) → begin_before place (tokens source) ≤ suc (length source)
before_few source place =
    omega (arith, count_by-le-length (λ (t : Lexeme). nat_lt t.at place) (tokens source), few source)

pub sums_none : (ts : List Lexeme) → HasBefore ts 0 (0 ∷ [])
sums_none ts = record { long = refl; each = λ place h. first place (omega (arith, h)) }
  where
    first : (place : ℕ) → place ≡ 0 → get_or (0 ∷ []) place 0 ≡ begin_before place ts
    first place e = rw e (sym (before_none ts))

-- ---- functions

take_found : {X : Type 0} (xs : List X) (k : ℕ) (x : X) → slice_get xs k ≡ Some x
    → take (k + 1) xs ≡ take k xs ++ x ∷ []
take_found xs k x e =
    take_more xs k x (slice_get_within xs k x e)
    ∙ ap (λ y. take k xs ++ y ∷ []) (get_or_from_slice_get xs k x x e)

pub extents_next : {X : Type 0} (g : X → ℕ) (xs : List X) (k : ℕ) (x : X) (was now : List ℕ)
    → slice_get xs k ≡ Some x → was ≡ map g (take k xs) → now ≡ was ++ g x ∷ [] → now ≡ map g (take (k + 1) xs)
extents_next g xs k x was now e h i =
    i ∙ ap (λ ns. ns ++ g x ∷ []) h
    ∙ sym (ap (map g) (take_found xs k x e) ∙ map-append g (take k xs) (x ∷ []))

less : (a b c d : ℕ) → a ≡ b - c → a - d ≡ b - (c + d)
less a b c d h = omega (arith, h)

pub own_next : (source : Text) (k : ℕ) (g : FunctionInfo) (owns now : List ℕ)
    → HasOwn source (take k (functions source)) owns → slice_get (functions source) k ≡ Some g
    → length now ≡ length owns
    → ((j : ℕ) → j < length owns → get_or now j 0 ≡ get_or owns j 0 - inner_tokens source j g)
    → HasOwn source (take (k + 1) (functions source)) now
own_next source k g owns now h e l each = record {
  long = l ∙ h.long;
  each = λ j f is.
      each j (omega (arith, h.long, slice_get_within (functions source) j f is))
      ∙ less (get_or owns j 0) (tokens_within source f.start f.end)
      (sum_by (inner_tokens source j) (take k (functions source))) (inner_tokens source j g) (h.each j f is)
      ∙ ap (λ n. tokens_within source f.start f.end - n)
      (sym (ap (sum_by (inner_tokens source j)) (take_found (functions source) k g e)
      ∙ sum_by_push (inner_tokens source j) (take k (functions source)) g));
}

less_none : (n : ℕ) → n ≡ n - 0
less_none n = omega arith

pub own_begun : (source : Text) (owns : List ℕ)
    → owns ≡ map (λ f. tokens_within source f.start f.end) (functions source) → HasOwn source [] owns
own_begun source owns h = record {
  long = ap length h ∙ length-map (functions source) (λ f. tokens_within source f.start f.end);
  each = λ k f is.
      ap (λ ns. get_or ns k 0) h
      ∙ get_or-map (λ f. tokens_within source f.start f.end) (functions source) k f 0
      (slice_get_within (functions source) k f is)
      ∙ ap (λ f. tokens_within source f.start f.end) (get_or_from_slice_get (functions source) k f f is)
      ∙ less_none (tokens_within source f.start f.end);
}

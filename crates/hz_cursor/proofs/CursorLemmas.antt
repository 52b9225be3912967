-- What a cursor keeps of the tokens that are left.
use Rattle.std.proofs.Common.{◌≡◌, ℕ, zero, suc, ◌+◌, ◌-◌, ◌≤◌, nat_lt, inl, inr, Some, None, Bool, true, false}
use Rattle.std.proofs.Common.{if◌then◌else◌, List, [], ◌∷◌, ◌++◌, drop, length, map, refl, ap, sym, ◌∙◌}
use Rattle.std.proofs.Common.{append_assoc, arith}
use Rattle.std.proofs.Math.Seq.{drop-cons}
use Rattle.std.proofs.lemmas.List.{drop_all}
use Rattle.std.proofs.lemmas.Option.{slice_get_within, slice_get_cases, get_or_from_slice_get}
use Rattle.std.specs.List.{slice_get}
use Rattle.hz_tree.specs.declared.class.Class.{Class}
use Rattle.hz_tree.specs.declared.class.Bracket.TheVariants.{Round}
use Rattle.hz_tree.specs.grammar.Classes.{class_of, is_paren, fits}
use Rattle.hz_tree.specs.grammar.Look.{arrow_behind, begins_parameters, Terminal, look, stuck, terminals}
use Rattle.hz_tree.specs.grammar.Look.{terminals_from}
use Rattle.hz_tree.specs.declared.look.Look.{Look}
use Rattle.hz_tree.specs.reading.Reading.{takes, has_octal, Got, Stuck}
use Rattle.hz_tree.specs.sources.Refusals.{max_length}
use Rattle.hz_tree.specs.tokens.Text.{Text}
use Rattle.hz_tree.specs.tokens.Tokens.{Lexeme, tokens}
use Rattle.hz_scan.specs.Order.{end_of}
use Rattle.hz_scan.specs.State.{Lies}
use Rattle.hz_scan.proofs.LookLemmas.{has_arrow, one_seen, two_seen}
use Rattle.hz_cursor.specs.declared.stored.Stored.{Stored}
use Rattle.hz_cursor.specs.Arrows.{arrows}
use Rattle.hz_cursor.specs.Cursor.{left, Keeps, IsCursor}
use Rattle.hz_cursor.specs.Marks.{first_or_false}
use Rattle.hz_cursor.specs.Stored.{shortened, long_of, full, past_full, stored_as, stored, longs, first_two}
use Rattle.hz_cursor.specs.Stored.{gap_of, len_of, long_behind, flags_behind, Taken}

-- ---- the next two

-- the flag that comes first is that of the first `(`
first_flag : (p a : Bool) (behind more : List Bool) → p ≡ true → first_or_false (if p then a ∷ behind else more) ≡ a
first_flag true a behind more paren = refl
first_flag false a behind more paren = cc

second_flag : (p q a b : Bool) (more : List Bool) → p ≡ false → q ≡ true
    → first_or_false (if p then a ∷ (if q then b ∷ more else more) else (if q then b ∷ more else more)) ≡ b
second_flag true q a b more none paren = cc
second_flag false q a b more none paren = first_flag q b more more paren

pub look_left : (end : ℕ) (ts : List Lexeme) → first_two (stored end ts) (arrows (map class_of ts))
    ≡ look (terminals_from end ts)
look_left end [] = refl
look_left end (t ∷ []) = one_seen end t _ (first_flag (is_paren (class_of t)) (has_arrow []) [] [])
look_left end (t ∷ u ∷ ts) =
    let p = is_paren (class_of t) in
    let q = is_paren (class_of u) in
    let more = arrows (map class_of ts) in
    two_seen end t u ts _ (
      first_flag p (has_arrow (u ∷ ts)) (arrows (map class_of (u ∷ ts))) (arrows (map class_of (u ∷ ts))),
      second_flag p q (has_arrow (u ∷ ts)) (has_arrow ts) more,
    )

-- ---- numbers in a byte

full_is : (n : ℕ) (more : List ℕ) → full (shortened n) (long_of n ++ more) ≡ n
full_is n more =
    elim (nat_lt n 255) as (λ t. nat_lt n 255 ≡ t
    → full (if t then n else 255) ((if t then [] else n ∷ []) ++ more) ≡ n) [
      | true ↦ λ e. rw e refl
      | false ↦ λ e. refl
    ] refl

past_full_is : (n : ℕ) (more : List ℕ) → past_full (shortened n) (long_of n ++ more) ≡ more
past_full_is n more =
    elim (nat_lt n 255) as (λ t. nat_lt n 255 ≡ t
    → past_full (if t then n else 255) ((if t then [] else n ∷ []) ++ more) ≡ more) [
      | true ↦ λ e. rw e refl
      | false ↦ λ e. refl
    ] refl

-- ---- behind the next token

flags_left : (paren arrow : Bool) (more : List Bool)
    → (if paren then drop 1 (if paren then arrow ∷ more else more) else (if paren then arrow ∷ more else more)) ≡ more
flags_left true arrow more = refl
flags_left false arrow more = refl

-- ---- a place in a list

at_some : {A : Type 0} (xs : List A) (n : ℕ) (x : A) → slice_get xs n ≡ Some x → drop n xs ≡ x ∷ drop (suc n) xs
at_some xs n x h = drop-cons xs n x (slice_get_within xs n x h)
    ∙ ap (λ y. y ∷ drop (suc n) xs) (get_or_from_slice_get xs n x x h)

at_none : {A : Type 0} (xs : List A) (n : ℕ) → slice_get xs n ≡ None → drop n xs ≡ []
at_none xs n h = elim (slice_get_cases xs n).1 [
  | inl some ↦ let clash : Some some.0 ≡ None = sym some.2 ∙ h in absurd (cc (clash))
  | inr past ↦ drop_all n xs past.0
]

drop_suc : {A : Type 0} (n : ℕ) (xs : List A) (x : A) (rest : List A) → drop n xs ≡ x ∷ rest → drop (suc n) xs ≡ rest
drop_suc zero [] x rest h = cc (h)
drop_suc zero (y ∷ xs) x rest h = cc (h)
drop_suc (suc n) [] x rest h = cc (h)
drop_suc (suc n) (y ∷ xs) x rest h = drop_suc n xs x rest h

drop_next : {A : Type 0} (n : ℕ) (xs : List A) (x : A) (rest : List A) → drop n xs ≡ x ∷ rest → drop (n + 1) xs ≡ rest
drop_next n xs x rest h = let on : n + 1 ≡ suc n = omega arith in rw on (drop_suc n xs x rest h)

-- ---- the next token and those behind it

-- what a cursor that keeps this of the next token knows of the terminals
pub record Ahead (one : Stored) (end : ℕ) (long : List ℕ) (ts : List Terminal) : Type 0 where
  pub first : Terminal
  pub rest : List Terminal
  pub is : ts ≡ first ∷ rest
  pub class_is : first.class ≡ one.class
  pub place_is : first.token.at ≡ end + gap_of one long
  pub octal_is : has_octal first.token.kind ≡ one.octal
  pub len_is : length first.token.text ≡ len_of one long
  pub end_is : first.behind ≡ end

pub record Passed (source : Text) (taken end : ℕ) (kept : List Stored) (one : Stored) (long : List ℕ)
    (flags : List Bool) : Type 0 where
  pub ahead : Ahead one end long (left source taken end)
  pub rest_is : left source (taken + 1) (end + (gap_of one long + len_of one long)) ≡ ahead.rest
  pub keeps : Keeps source (end + (gap_of one long + len_of one long)) (drop (taken + 1) kept) (long_behind one long)
      (flags_behind one flags)
      (drop (taken + 1) (tokens source))
  pub inside : end + (gap_of one long + len_of one long) ≤ length source
  pub lies : Lies source end ahead.first.token
  pub within : taken + 1 ≤ length kept

module _ {source : Text} {taken end : ℕ} {kept : List Stored} {long : List ℕ} {flags : List Bool} {seen : Look}
    (cursor : IsCursor source taken end kept long flags seen) where
  pub none_left : slice_get kept taken ≡ None → left source taken end ≡ []
  none_left h = go (drop taken (tokens source)) (rw (at_none kept taken h) at cursor.keeps)
    where
      go : (ts : List Lexeme) → Keeps source end [] long flags ts → terminals_from end ts ≡ []
      go [] keeps = refl
      go (t ∷ ts) keeps = cc (keeps.kept_are)

  pub passed : (one : Stored) → slice_get kept taken ≡ Some one → Passed source taken end kept one long flags
  passed one h = go (drop taken (tokens source)) refl (rw (at_some kept taken one h) at cursor.keeps)
    where
      go : (ts : List Lexeme) → drop taken (tokens source) ≡ ts
          → Keeps source end (one ∷ drop (suc taken) kept) long flags ts
          → Passed source taken end kept one long flags
      go [] is keeps = cc (keeps.kept_are)
      go (t ∷ ts) is keeps =
          let kept_is : one ≡ stored_as (class_of t) end t = cc (keeps.kept_are) in
          let more_is : drop (suc taken) kept ≡ stored (end_of t) ts = cc (keeps.kept_are) in
          let rest = long_of (length t.text) ++ longs (end_of t) ts in
          let all : long ≡ long_of (t.at - end) ++ rest
          = keeps.long_are ∙ append_assoc (long_of (t.at - end)) (long_of (length t.text)) (longs (end_of t) ts) in
          let gap_is : gap_of one long ≡ t.at - end = rw (kept_is, all) (full_is (t.at - end) rest) in
          let len_is : len_of one long ≡ length t.text
          = rw (kept_is, all, past_full_is (t.at - end) rest) (full_is (length t.text) (longs (end_of t) ts)) in
          let long_is : long_behind one long ≡ longs (end_of t) ts
          = rw (kept_is, all, past_full_is (t.at - end) rest) (past_full_is (length t.text) (longs (end_of t) ts)) in
          let class_is : one.class ≡ class_of t = ap (λ x. x.class) kept_is in
          let flags_are : flags_behind one flags ≡ arrows (map class_of ts)
          = rw (class_is, keeps.flags_are) (flags_left (is_paren (class_of t))
          (arrow_behind (Round ∷ []) (map class_of ts)) (arrows (map class_of ts))) in
          let after : end ≤ t.at = keeps.order.0.after in
          let end_is : end + (gap_of one long + len_of one long) ≡ end_of t =
          rw (gap_is, len_is) (omega (arith, after)) in
          let tokens_are : drop (taken + 1) (tokens source) ≡ ts = drop_next taken (tokens source) t ts is in
          let kept_behind : drop (taken + 1) kept ≡ stored (end_of t) ts
          = drop_next taken kept one (stored (end_of t) ts) (at_some kept taken one h
          ∙ ap (λ more. one ∷ more) more_is) in
          record {
            ahead = record {
              first = record { token = t; class = class_of t; behind = end; arrow = begins_parameters (class_of t) ts };
              rest = terminals_from (end_of t) ts;
              is = ap (terminals_from end) is;
              class_is = sym class_is;
              place_is = rw gap_is (omega (arith, after));
              octal_is = sym (ap (λ x. x.octal) kept_is);
              len_is = sym len_is;
              end_is = refl;
            };
            rest_is = rw (end_is, tokens_are) refl;
            keeps = rw (end_is, tokens_are, kept_behind, long_is, flags_are) (record {
              kept_are = refl;
              long_are = refl;
              flags_are = refl;
              order = keeps.order.1;
            });
            inside = rw end_is keeps.order.0.inside;
            lies = keeps.order.0;
            within = let inside = slice_get_within kept taken one h in omega (arith, inside);
          }

-- ---- a cursor

seen_left : (source : Text) (end : ℕ) (kept : List Stored) (long : List ℕ) (flags : List Bool) (ts : List Lexeme)
    → Keeps source end kept long flags ts → first_two kept flags ≡ look (terminals_from end ts)
seen_left source end kept long flags ts keeps = rw (keeps.kept_are, keeps.flags_are) (look_left end ts)

module _ {source : Text} {taken end : ℕ} {kept : List Stored} {long : List ℕ} {flags : List Bool} {seen : Look}
    (cursor : IsCursor source taken end kept long flags seen) (one : Stored) (h : slice_get kept taken ≡ Some one) where
  p : Passed source taken end kept one long flags
  p = passed cursor one h

  pub one_more : taken + 1 ≤ length kept
  one_more = p.within

  pub eats_not : (wanted : Class) → fits wanted one.class ≡ false
      → takes wanted (left source taken end) ≡ Stuck (stuck (look (left source taken end))) (left source taken end)
  eats_not wanted fit =
      let found : fits wanted p.ahead.first.class ≡ false = rw p.ahead.class_is fit in
      rw p.ahead.is (rw found refl)

  module _ {gap len : ℕ} {long' : List ℕ} {flags' : List Bool} (t : Taken one long flags gap len long' flags') where
    pub ends_inside : end + (gap + len) ≤ max_length
    ends_inside =
        let inside = p.inside in
        let short = cursor.short in
        rw (t.gap_is, t.len_is) (omega (arith, inside, short))

    pub goes_on : (seen' : Look) → seen' ≡ first_two (drop (taken + 1) kept) flags'
        → IsCursor source (taken + 1) (end + (gap + len)) kept long' flags' seen'
    goes_on seen' is = rw (is, t.gap_is, t.len_is, t.long_is, t.flags_are) (record {
      keeps = p.keeps;
      within = p.within;
      short = cursor.short;
      seen_is = seen_left source _ _ _ _ _ p.keeps;
    })

    pub eats : (wanted : Class) → fits wanted one.class ≡ true
        → (x : Terminal) × (takes wanted (left source taken end) ≡ Got x (left source (taken + 1) (end + (gap + len))))
    eats wanted fit =
        let q = passed cursor one h in
        let rest_is : left source (taken + 1) (end + (gap + len)) ≡ q.ahead.rest = rw (t.gap_is, t.len_is) q.rest_is in
        let found : fits wanted q.ahead.first.class ≡ true = rw q.ahead.class_is fit in
        (q.ahead.first, rw (rest_is, q.ahead.is) (rw found refl))

pub begins : (source : Text) (kept : List Stored) (long : List ℕ) (flags : List Bool) (seen : Look)
    → length source ≤ max_length → Keeps source 0 kept long flags (tokens source)
    → seen ≡ first_two kept flags → IsCursor source 0 0 kept long flags seen
begins source kept long flags seen short keeps seen_is = record {
  keeps = keeps;
  within = omega arith;
  short = short;
  seen_is = seen_is ∙ seen_left source 0 kept long flags (tokens source) keeps;
}

pub all_left : (source : Text) → left source 0 0 ≡ terminals source
unfolding terminals
all_left source = refl

-- What symbols lead to, one behind the other, where no function is entered among them.
use Rattle.std.proofs.Common.{◌≡◌, ℕ, ◌+◌, Bool, true, false, not, ◌||◌, List, [], ◌∷◌, ◌++◌, All}
use Rattle.std.proofs.Common.{refl, ap, sym, ◌∙◌, subst, arith}
use Rattle.std.proofs.lemmas.List.Elements.{All-cons, All-head, All-nil, All-tail}
use Rattle.hz_tree.specs.declared.index.FunctionInfo.{FunctionInfo}
use Rattle.hz_tree.specs.declared.signal.Signal.{Signal}
use Rattle.hz_tree.specs.declared.signal.Signal.TheVariants as tell
use Rattle.hz_tree.specs.declared.symbol.Symbol.{Symbol}
use Rattle.hz_tree.specs.declared.symbol.Symbol.TheVariants as s
use Rattle.hz_tree.specs.grammar.Look.{Terminal}
use Rattle.hz_tree.specs.grammar.Symbols.{Parts, Value}
use Rattle.hz_tree.specs.reading.Reading.{Got, read_all, reads, told_ahead}
use Rattle.hz_laws.proofs.Balance.{got_rest}
use Rattle.hz_cuts.specs.Cuts.{cut_parts, cut_value}
use Rattle.hz_cuts.specs.Rows.{all_plain, is_close, is_enter, some_symbol}
use Rattle.hz_stands.specs.Nodes.{FunctionNode, value_nodes, part_nodes}
use Rattle.hz_parts.specs.declared.mark.Mark.{Mark}
use Rattle.hz_parts.specs.declared.parts.Parts.{Parts as Stacks}
use Rattle.hz_parts.specs.Values.{push_parts, push_seen, push_told, push_value, seen_token}
use Rattle.hz_parse.specs.Leads.{calm, is_mark, is_named, no_marks, unmarked, opened_last, Either, Leads}
use Rattle.hz_own.specs.Owned.{Owned, counted_from, open_behind, owns, taken, unless_open}
use Rattle.hz_parse.proofs.Ends.{one_ending, same_end}
use Rattle.hz_parse.proofs.Even.{and_first, and_second}
use Rattle.hz_parse.proofs.Split.{Cons, cons, got_value}

pub or_first : (a b : Bool) → (a || b) ≡ false → a ≡ false
or_first true b h = cc
or_first false b h = refl

pub or_second : (a b : Bool) → (a || b) ≡ false → b ≡ false
or_second true b h = cc
or_second false b h = h

is_false : (b : Bool) → not b ≡ true → b ≡ false
is_false true h = cc
is_false false h = refl

pub all_first : (P : FunctionNode → Type 0) (xs ys : List FunctionNode) → All P (xs ++ ys) → All P xs
all_first P [] ys h = All-nil P
all_first P (x ∷ xs) ys h =
    All-cons P x xs (All-head P x (xs ++ ys) h) (all_first P xs ys (All-tail P x (xs ++ ys) h))

pub all_second : (P : FunctionNode → Type 0) (xs ys : List FunctionNode) → All P (xs ++ ys) → All P ys
all_second P [] ys h = h
all_second P (x ∷ xs) ys h = all_second P xs ys (All-tail P x (xs ++ ys) h)

pub to_right : (b : Bool) (A B : Type 0) → b ≡ false → Either b A B → B
to_right true A B h x = cc
to_right false A B h x = x

pub from_right : (b : Bool) (A B : Type 0) → b ≡ false → B → Either b A B
from_right true A B h x = cc
from_right false A B h x = x

-- ---- readings that agree

-- a tree and a number of own tokens are read, each of which is known
pub record Both (right : List Symbol) (ts rest : List Terminal) (vs : Parts Value right) (cs : Parts Owned right)
    : Type 0 where
  pub trees : read_all reads right ts ≡ Got vs rest
  pub counts : read_all owns right ts ≡ Got cs rest

pub record Next (x : Symbol) (xs : List Symbol) (ts rest : List Terminal) (vs : Parts Value (x ∷ xs))
    (cs : Parts Owned (x ∷ xs)) : Type 0 where
  pub value : Cons reads x xs ts vs rest
  pub count : Cons owns x xs ts cs rest
  pub same : count.mid ≡ value.mid
  pub others : Both xs value.mid rest vs.1 cs.1

pub next : (x : Symbol) (xs : List Symbol) (ts rest : List Terminal) (vs : Parts Value (x ∷ xs))
    (cs : Parts Owned (x ∷ xs)) → Both (x ∷ xs) ts rest vs cs → Next x xs ts rest vs cs
next x xs ts rest vs cs h =
    let a : Cons reads x xs ts vs rest = cons reads x xs ts vs rest h.trees in
    let b : Cons owns x xs ts cs rest = cons owns x xs ts cs rest h.counts in
    let e : b.mid ≡ a.mid = sym (same_end vs.0 cs.0 _ _ a.mid b.mid (one_ending x ts) a.first b.first) in
    record {
      value = a;
      count = b;
      same = e;
      others = record { trees = a.others; counts = ap (read_all owns xs) (sym e) ∙ b.others };
    }

sum_later : (own one more others : ℕ) → own ≡ (one + more) + others → own ≡ one + (more + others)
sum_later own one more others h = omega (arith, h)

no_more : (own others : ℕ) → own ≡ 0 + others → own ≡ others
no_more own others h = omega (arith, h)

-- what is told is what stands ahead, and nothing is taken
tell_both : (signal : Signal) (xs : List Symbol) (ts rest : List Terminal) (vs : Parts Value (s.Tell signal ∷ xs))
    (cs : Parts Owned (s.Tell signal ∷ xs)) → Both (s.Tell signal ∷ xs) ts rest vs cs → Both xs ts rest vs.1 cs.1
tell_both signal xs ts rest vs cs b =
    let one : Next (s.Tell signal) xs ts rest vs cs = next (s.Tell signal) xs ts rest vs cs b in
    subst (λ us. Both xs us rest vs.1 cs.1)
    (sym (got_rest (told_ahead ts) vs.0 ts one.value.mid one.value.first)) one.others

tell_same : (signal : Signal) (xs : List Symbol) (ts rest : List Terminal) (vs : Parts Value (s.Tell signal ∷ xs))
    (cs : Parts Owned (s.Tell signal ∷ xs)) → Both (s.Tell signal ∷ xs) ts rest vs cs → vs.0 ≡ told_ahead ts
tell_same signal xs ts rest vs cs b =
    let one : Next (s.Tell signal) xs ts rest vs cs = next (s.Tell signal) xs ts rest vs cs b in
    sym (got_value (told_ahead ts) vs.0 ts one.value.mid one.value.first)

later_marks : (x : Symbol) (xs : List Symbol) → no_marks (x ∷ xs) ≡ true → no_marks xs ≡ true
later_marks x xs h = and_second (unmarked x) (no_marks xs) h

later_enter : (x : Symbol) (xs : List Symbol) → some_symbol is_enter (x ∷ xs) ≡ false
    → some_symbol is_enter xs ≡ false
later_enter x xs h = or_second (is_enter x) (some_symbol is_enter xs) h

-- ---- what they lead to

module _ (functions : List FunctionInfo) (Known : FunctionNode → Type 0)
    (End : List Terminal → Stacks → Type 0) where
  pub leads_plain : (opened : Bool) (right more : List Symbol) (marks : List Mark) (ts rest : List Terminal)
      (vs : Parts Value right) (cs : Parts Owned right) (p : Stacks) (own others : ℕ) → no_marks right ≡ true
      → some_symbol is_enter right ≡ false → calm opened right ≡ true → Both right ts rest vs cs
      → All Known (part_nodes right vs) → own ≡ counted_from opened right cs + others
      → Leads functions Known End false (opened_last opened right) more marks rest
      (push_parts false right (cut_parts functions right vs) p) others
      → Leads functions Known End false opened (right ++ more) marks ts p own
  leads_plain opened [] more marks ts rest vs cs p own others u e c b known counted l =
      subst (λ us. Leads functions Known End false opened more marks us p own) (sym (got_rest tt vs ts rest b.trees))
      (subst (λ k. Leads functions Known End false opened more marks rest p k) (sym (no_more own others counted)) l)
  leads_plain opened (s.Take wanted ∷ xs) more marks ts rest vs cs p own others u e c b known counted l =
      let one : Next (s.Take wanted) xs ts rest vs cs = next (s.Take wanted) xs ts rest vs cs b in
      let left : ℕ = counted_from opened xs cs.1 + others in
      from_right (is_mark wanted) _ _ (is_false (is_mark wanted) (and_first (not (is_mark wanted)) (no_marks xs) u))
      (record {
        token = vs.0;
        rest = one.value.mid;
        others = left;
        got = one.value.first;
        counted = sum_later own (unless_open opened (taken wanted)) (counted_from opened xs cs.1) others counted;
        goes_on = leads_plain opened xs more marks one.value.mid rest vs.1 cs.1 (push_seen (seen_token vs.0) p) left
            others (later_marks (s.Take wanted) xs u) (later_enter (s.Take wanted) xs e) c one.others known refl l;
      })
  leads_plain opened (s.Read m ∷ xs) more marks ts rest vs cs p own others u e c b known counted l =
      let one : Next (s.Read m) xs ts rest vs cs = next (s.Read m) xs ts rest vs cs b in
      let left : ℕ = counted_from opened xs cs.1 + others in
      record {
        value = vs.0;
        tokens = cs.0;
        rest = one.value.mid;
        others = left;
        read = one.value.first;
        owned = one.count.first ∙ ap (Got cs.0) one.same;
        known = all_first Known (value_nodes m vs.0) (part_nodes xs vs.1) known;
        named = and_first (not opened || is_named m) (calm opened xs) c;
        counted = sum_later own (unless_open opened cs.0) (counted_from opened xs cs.1) others counted;
        goes_on = leads_plain opened xs more marks one.value.mid rest vs.1 cs.1
            (push_value m (cut_value functions m vs.0) p) left others (later_marks (s.Read m) xs u)
            (later_enter (s.Read m) xs e) (and_second (not opened || is_named m) (calm opened xs) c) one.others
            (all_second Known (value_nodes m vs.0) (part_nodes xs vs.1) known) refl l;
      }
  leads_plain opened (s.Tell tell.Enter ∷ xs) more marks ts rest vs cs p own others u e c b known counted l = cc
  leads_plain opened (s.Tell signal ∷ xs) more marks ts rest vs cs p own others u e c b known counted l =
      leads_plain (open_behind signal opened) xs more marks ts rest vs.1 cs.1 (push_told signal (told_ahead ts) p) own
      others (later_marks (s.Tell signal) xs u) (later_enter (s.Tell signal) xs e) c
      (tell_both signal xs ts rest vs cs b) known counted
      (subst (λ t. Leads functions Known End false (opened_last (open_behind signal opened) xs) more marks rest
      (push_parts false xs (cut_parts functions xs vs.1) (push_told signal t p)) others)
      (tell_same signal xs ts rest vs cs b) l)

  pub leads_inside : (opened : Bool) (middle more : List Symbol) (marks : List Mark) (ts : List Terminal) (p : Stacks)
      (own : ℕ) → some_symbol is_close middle ≡ false → Leads functions Known End false false more marks ts p own
      → Leads functions Known End true opened (middle ++ s.Tell tell.Close ∷ more) marks ts p own
  leads_inside opened [] more marks ts p own h l = l
  leads_inside opened (s.Take wanted ∷ xs) more marks ts p own h l = leads_inside opened xs more marks ts p own h l
  leads_inside opened (s.Read m ∷ xs) more marks ts p own h l = leads_inside opened xs more marks ts p own h l
  leads_inside opened (s.Tell tell.Close ∷ xs) more marks ts p own h l = cc
  leads_inside opened (s.Tell signal ∷ xs) more marks ts p own h l =
      leads_inside (open_behind signal opened) xs more marks ts p own h l

  -- and back
  pub inside_leads : (opened : Bool) (middle more : List Symbol) (marks : List Mark) (ts : List Terminal) (p : Stacks)
      (own : ℕ) → some_symbol is_close middle ≡ false
      → Leads functions Known End true opened (middle ++ s.Tell tell.Close ∷ more) marks ts p own
      → Leads functions Known End false false more marks ts p own
  inside_leads opened [] more marks ts p own h l = l
  inside_leads opened (s.Take wanted ∷ xs) more marks ts p own h l = inside_leads opened xs more marks ts p own h l
  inside_leads opened (s.Read m ∷ xs) more marks ts p own h l = inside_leads opened xs more marks ts p own h l
  inside_leads opened (s.Tell tell.Close ∷ xs) more marks ts p own h l = cc
  inside_leads opened (s.Tell signal ∷ xs) more marks ts p own h l =
      inside_leads (open_behind signal opened) xs more marks ts p own h l

  pub leads_back : (back more : List Symbol) (marks : List Mark) (ts : List Terminal) (p : Stacks) (own : ℕ)
      → all_plain back ≡ true → Leads functions Known End false false more marks ts p own
      → Leads functions Known End false false (back ++ more) marks ts p own
  leads_back [] more marks ts p own h l = l
  leads_back (s.Take wanted ∷ xs) more marks ts p own h l = cc
  leads_back (s.Read m ∷ xs) more marks ts p own h l = cc
  leads_back (s.Tell tell.Join ∷ xs) more marks ts p own h l = leads_back xs more marks ts p own h l
  leads_back (s.Tell (tell.Node shape) ∷ xs) more marks ts p own h l = leads_back xs more marks ts p own h l
  leads_back (s.Tell (tell.End node) ∷ xs) more marks ts p own h l = leads_back xs more marks ts p own h l
  leads_back (s.Tell _ ∷ xs) more marks ts p own h l = cc

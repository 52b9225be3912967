-- The answers of all marks are those of the definition.
use Rattle.std.proofs.Common.{◌≡◌, Bool, true, false, if◌then◌else◌, ◌&&◌, Some, None, rules, List, [], ◌∷◌, ◌++◌}
use Rattle.std.proofs.Common.{refl, ap, sym, ◌∙◌}
use Rattle.std.proofs.lemmas.List.{append-nil}
use denote.Enum.Bare.{same_true}
use Rattle.hz_tree.specs.contracts.class.Bracket.{the_type as bracket_type}
use Rattle.hz_tree.specs.declared.class.Class.{Class}
use Rattle.hz_tree.specs.declared.class.Class.TheVariants as k
use Rattle.hz_tree.specs.declared.class.Bracket.{Bracket}
use Rattle.hz_tree.specs.declared.class.Bracket.TheVariants.{Round, Square, Curly, Hole}
use Rattle.hz_tree.specs.declared.class.Bracketing.{Bracketing}
use Rattle.hz_tree.specs.declared.class.Bracketing.TheVariants as does
use Rattle.hz_tree.specs.grammar.Classes.{bracketing, still_open, same_bracket, is_paren, is_arrow}
use Rattle.hz_tree.specs.grammar.Look.{arrow_behind}
use Rattle.hz_cursor.specs.declared.mark.Mark.{Mark}
use Rattle.hz_cursor.specs.Arrows.{arrows}
use Rattle.hz_cursor.specs.Marks.{answers, answered, dropped, marks_at, open_behind, closes_round, is_round_bracket}
use Rattle.hz_cursor.specs.Marks.{marks_from}

-- ---- a test for each `(` that is open

abbrev add : Bracket → Bool → List Bool → List Bool
add Round answer more = answer ∷ more
add b answer more = more

-- for each `(` among open brackets, the test of the brackets from the innermost to it
abbrev each : (List Bracket → Bool) → List Bracket → List Bool
each test [] = []
each test (b ∷ opened) = add b (test (b ∷ [])) (each (λ p. test (b ∷ p)) opened)

each_same : (test other : List Bracket → Bool) (opened : List Bracket)
    → ((b : Bracket) (p : List Bracket) → test (b ∷ p) ≡ other (b ∷ p)) → each test opened ≡ each other opened
each_same test other [] same = refl
each_same test other (b ∷ opened) same =
    rw (same b [], each_same (λ p. test (b ∷ p)) (λ p. other (b ∷ p)) opened (λ c p. same b (c ∷ p))) refl

-- and where the innermost one is this
each_same_in : (test other : List Bracket → Bool) (b : Bracket) (opened : List Bracket)
    → ((p : List Bracket) → test (b ∷ p) ≡ other (b ∷ p)) → each test (b ∷ opened) ≡ each other (b ∷ opened)
each_same_in test other b opened same =
    rw (same [], each_same (λ p. test (b ∷ p)) (λ p. other (b ∷ p)) opened (λ c p. same (c ∷ p))) refl

-- ---- marks in front of others

abbrev pending : (closed arrow : Bool) → List Bool
pending false arrow = []
pending true arrow = arrow ∷ []

answered_answers : (closed arrow : Bool) (ms : List Mark)
    → answers (answered closed arrow ++ ms) ≡ ((answers ms).0, pending closed arrow ++ (answers ms).1)
answered_answers false arrow ms = refl
answered_answers true arrow ms = refl

dropped_answers : (opened : List Bracket) (ms : List Mark)
    → answers (dropped opened ++ ms) ≡ ((answers ms).0, each (λ p. false) opened ++ (answers ms).1)
dropped_answers [] ms = refl
dropped_answers (Round ∷ opened) ms = rw (dropped_answers opened ms) refl
dropped_answers (Square ∷ opened) ms = dropped_answers opened ms
dropped_answers (Curly ∷ opened) ms = dropped_answers opened ms
dropped_answers (Hole ∷ opened) ms = dropped_answers opened ms

-- ---- one token

-- `arrow_behind` behind a token that does this
abbrev behind_by : Bracketing → List Class → List Bracket → Bool
behind_by d cs [] = false
behind_by d cs (b ∷ opened) = elim (still_open d b opened) [ None ↦ false | Some now ↦ arrow_behind now cs ]

abbrev opens_round : Bracketing → Bool
opens_round (does.Opens Round) = true
opens_round _ = false

paren_opens : (c : Class) → is_paren c ≡ opens_round (bracketing c)
paren_opens c = elim c as (λ x. is_paren x ≡ opens_round (bracketing x)) [ k.LeftParen ↦ refl | _ ↦ refl ]

abbrev arrows_by : Bracketing → List Class → List Bool
arrows_by d cs = if opens_round d then arrow_behind (Round ∷ []) cs ∷ arrows cs else arrows cs

-- the marks say what the definition says of these tokens
abbrev Right : (closed : Bool) (opened : List Bracket) (cs : List Class) (ms : List Mark) → Type 0
Right closed opened cs ms =
    answers ms ≡ (arrows cs, pending closed (arrow_behind [] cs) ++ each (λ p. arrow_behind p cs) opened)

-- and of these tokens behind one that does this
abbrev RightBehind : Bracketing → (opened : List Bracket) (cs : List Class) (ms : List Mark) → Type 0
RightBehind d opened cs ms = answers ms ≡ (arrows_by d cs, each (behind_by d cs) opened)

with_second : (a b : List Bool) (flags : List Bool) → a ≡ b → (let p : List Bool × List Bool = (flags, a) in p)
    ≡ (flags, b)
with_second a b flags e = ap (λ x. (flags, x)) e

-- a token that leaves all open for good
lost : (d : Bracketing) (e : Bracket) (others : List Bracket) (cs : List Class) (ms : List Mark)
    → ((p : List Bracket) → behind_by d cs (e ∷ p) ≡ false) → answers ms ≡ (arrows cs, [])
    → answers (dropped (e ∷ others) ++ ms) ≡ (arrows cs, each (behind_by d cs) (e ∷ others))
lost d e others cs ms all_false h =
    let falses : each (λ p. false) (e ∷ others) ≡ each (behind_by d cs) (e ∷ others)
    = sym (each_same_in (behind_by d cs) (λ p. false) e others all_false) in
    dropped_answers (e ∷ others) ms ∙ rw (h, append-nil, falses) refl

same_is : (b e : Bracket) → same_bracket b e ≡ true → b ≡ e
unfolding same_bracket
same_is b e h = same_true bracket_type (search rules) b e h

add_pending : (b : Bracket) (answer : Bool) (more : List Bool) → add b answer more
    ≡ pending (is_round_bracket b) answer ++ more
add_pending Round answer more = refl
add_pending Square answer more = refl
add_pending Curly answer more = refl
add_pending Hole answer more = refl

closes_same : (b e : Bracket) (others : List Bracket) (cs : List Class) → same_bracket b e ≡ true
    → pending (is_round_bracket b) (arrow_behind [] cs) ++ each (λ p. arrow_behind p cs) others
    ≡ each (behind_by (does.Closes b) cs) (e ∷ others)
closes_same b e others cs same =
    let test : (p : List Bracket) → behind_by (does.Closes b) cs (e ∷ p) ≡ arrow_behind p cs =
    λ p. rw (same, behind_by) refl in
    let rest : each (λ p. behind_by (does.Closes b) cs (e ∷ p)) others ≡ each (λ p. arrow_behind p cs) others
    = each_same (λ p. behind_by (does.Closes b) cs (e ∷ p)) (λ p. arrow_behind p cs) others (λ c p. test (c ∷ p)) in
    rw (test [], rest, ← (same_is b e same)) (sym (add_pending b (arrow_behind [] cs)
    (each (λ p. arrow_behind p cs) others)))

closes : (b e : Bracket) (others : List Bracket) (cs : List Class) (ms : List Mark)
    → Right (closes_round (does.Closes b) (e ∷ others)) (open_behind (does.Closes b) (e ∷ others)) cs ms
    → RightBehind (does.Closes b) (e ∷ others) cs (marks_at (does.Closes b) (e ∷ others) ++ ms)
closes b e others cs ms h =
    elim (same_bracket b e) as (λ t. same_bracket b e ≡ t
    → Right (t && is_round_bracket b) (if t then others else []) cs ms
    → RightBehind (does.Closes b) (e ∷ others) cs ((if t then [] else dropped (e ∷ others)) ++ ms)) [
      | true ↦ λ same h. h ∙ with_second _ _ (arrows cs) (closes_same b e others cs same)
      | false ↦ λ other h. lost (does.Closes b) e others cs ms (λ p. rw (other, behind_by) refl) h
    ] refl h

reopens : (e : Bracket) (others : List Bracket) (cs : List Class) (ms : List Mark)
    → Right false (open_behind does.Reopens (e ∷ others)) cs ms
    → RightBehind does.Reopens (e ∷ others) cs (marks_at does.Reopens (e ∷ others) ++ ms)
reopens e others cs ms h =
    elim (same_bracket Hole e) as (λ t. same_bracket Hole e ≡ t
    → Right false (if t then (e ∷ others) else []) cs ms
    → RightBehind does.Reopens (e ∷ others) cs ((if t then [] else dropped (e ∷ others)) ++ ms)) [
      | true ↦ λ same h. h ∙ with_second _ _ (arrows cs)
          (sym (each_same_in (behind_by does.Reopens cs) (λ p. arrow_behind p cs) e others
          (λ p. rw (same, behind_by) refl)))
      | false ↦ λ other h. lost does.Reopens e others cs ms (λ p. rw (other, behind_by) refl) h
    ] refl h

opens_other : (b : Bracket) (opened : List Bracket) (cs : List Class)
    → each (λ p. arrow_behind (b ∷ p) cs) opened ≡ each (behind_by (does.Opens b) cs) opened
opens_other b opened cs = each_same (λ p. arrow_behind (b ∷ p) cs) (behind_by (does.Opens b) cs) opened (λ c p. refl)

step : (d : Bracketing) (opened : List Bracket) (cs : List Class) (ms : List Mark)
    → Right (closes_round d opened) (open_behind d opened) cs ms → RightBehind d opened cs (marks_at d opened ++ ms)
step (does.Opens Round) opened cs ms h =
    rw h (with_second _ _ (arrow_behind (Round ∷ []) cs ∷ arrows cs) (opens_other Round opened cs))
step (does.Opens Square) opened cs ms h = h ∙ with_second _ _ (arrows cs) (opens_other Square opened cs)
step (does.Opens Curly) opened cs ms h = h ∙ with_second _ _ (arrows cs) (opens_other Curly opened cs)
step (does.Opens Hole) opened cs ms h = h ∙ with_second _ _ (arrows cs) (opens_other Hole opened cs)
step (does.Closes b) [] cs ms h = h
step (does.Closes b) (e ∷ others) cs ms h = closes b e others cs ms h
step does.Reopens [] cs ms h = h
step does.Reopens (e ∷ others) cs ms h = reopens e others cs ms h
step does.Ends [] cs ms h = h
step does.Ends (e ∷ others) cs ms h = lost does.Ends e others cs ms (λ p. refl) h
step does.Keeps opened cs ms h =
    h ∙ with_second _ _ (arrows cs) (each_same (λ p. arrow_behind p cs) (behind_by does.Keeps cs) opened (λ c p. refl))

-- ---- all tokens

right : (cs : List Class) (closed : Bool) (opened : List Bracket) → Right closed opened cs (marks_from closed opened cs)
right [] closed opened =
    let none : answers (dropped opened) ≡ ([], each (λ p. false) opened)
    = rw (append-nil, append-nil) at (dropped_answers opened []) in
    answered_answers closed false (dropped opened) ∙ rw none refl
right (c ∷ cs) closed opened =
    let d = bracketing c in
    let ms = marks_from (closes_round d opened) (open_behind d opened) cs in
    let after : RightBehind d opened cs (marks_at d opened ++ ms) =
    step d opened cs ms (right cs (closes_round d opened) (open_behind d opened)) in
    let tests : each (behind_by d cs) opened ≡ each (λ p. arrow_behind p (c ∷ cs)) opened
    = each_same (behind_by d cs) (λ p. arrow_behind p (c ∷ cs)) opened (λ b p. refl) in
    answered_answers closed (is_arrow c) (marks_at d opened ++ ms) ∙ rw (after, paren_opens c, tests) refl

pub answers_all : (cs : List Class) → (answers (marks_from false [] cs)).0 ≡ arrows cs
answers_all cs = ap (λ p. p.0) (right cs false [])

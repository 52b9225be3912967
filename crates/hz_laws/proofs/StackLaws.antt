-- What a stack of symbols makes of the tokens, symbol by symbol.
use Rattle.std.proofs.Common.{◌≡◌, true, false, if◌then◌else◌, List, [], ◌∷◌, ◌++◌, refl, ap, sym, ◌∙◌, append_assoc}
use Rattle.std.proofs.Common.{append-nil}
use Rattle.hz_tree.specs.declared.class.Class.{Class}
use Rattle.hz_tree.specs.declared.outside.BadKind.{BadKind}
use Rattle.hz_tree.specs.declared.outside.BadKind.TheVariants as bad
use Rattle.hz_tree.specs.declared.nonterminal.Nonterminal.{Nonterminal}
use Rattle.hz_tree.specs.declared.signal.Signal.{Signal}
use Rattle.hz_tree.specs.declared.symbol.Symbol.{Symbol}
use Rattle.hz_tree.specs.declared.symbol.Symbol.TheVariants as s
use Rattle.hz_tree.specs.grammar.Classes.{fits}
use Rattle.hz_tree.specs.grammar.Look.{Terminal, look, stuck}
use Rattle.hz_tree.specs.grammar.Signals.{Event, event}
use Rattle.hz_tree.specs.grammar.Symbols.{Part, Parts, RowOf, goes, refuses}
use Rattle.hz_tree.specs.grammar.Table.{row, Step, pushes, fails, step_of, step}
use Rattle.hz_tree.specs.reading.Reading.{Reading, Got, Stuck, Deeper, and_then, told_ahead, read_one}
use Rattle.hz_tree.specs.reading.Reading.{read_all, by_row, Events, told, telling}
use Rattle.hz_tree.specs.reading.Reading.{tells}
use Rattle.hz_tree.specs.reading.Stack.{Verdict, Through, At, Lost, verdict, ends, before}
use Rattle.hz_laws.proofs.ReadingLaws.{tells_law}

-- ---- one symbol after the other

abbrev follow : Verdict → (List Terminal → Verdict) → Verdict
follow (Through events rest) next = before events (next rest)
follow (At cause ts) next = At cause ts
follow Lost next = Lost

abbrev told_one : (symbol : Symbol) → Part Events symbol → List Event
told_one (s.Take wanted) part = []
told_one (s.Read m) part = part
told_one (s.Tell signal) part = event signal part ∷ []

abbrev pub verdict_one : (symbol : Symbol) → Reading (Part Events symbol) → Verdict
verdict_one symbol (Got part rest) = Through (told_one symbol part) rest
verdict_one symbol (Stuck cause ts) = At cause ts
verdict_one symbol Deeper = Lost

told_cons : (x : Symbol) (xs : List Symbol) (v : Part Events x) (vs : Parts Events xs)
    → told (x ∷ xs) (v, vs) ≡ told_one x v ++ told xs vs
told_cons (s.Take wanted) xs v vs = refl
told_cons (s.Read m) xs v vs = refl
told_cons (s.Tell signal) xs v vs = refl

cons_got : (x : Symbol) (xs : List Symbol) (v : Part Events x) (r : Reading (Parts Events xs))
    → verdict (x ∷ xs) (and_then r (λ vs end. Got (v, vs) end)) ≡ before (told_one x v) (verdict xs r)
cons_got x xs v (Got vs end) = ap (λ es. Through es end) (told_cons x xs v vs)
cons_got x xs v (Stuck cause ts) = refl
cons_got x xs v Deeper = refl

cons_verdict : (x : Symbol) (xs : List Symbol) (r : Reading (Part Events x))
    → verdict (x ∷ xs) (and_then r (λ v rest. and_then (read_all tells xs rest) (λ vs end. Got (v, vs) end)))
    ≡ follow (verdict_one x r) (λ rest. verdict xs (read_all tells xs rest))
cons_verdict x xs (Got v rest) = cons_got x xs v (read_all tells xs rest)
cons_verdict x xs (Stuck cause ts) = refl
cons_verdict x xs Deeper = refl

pub ends_cons : (x : Symbol) (xs : List Symbol) (ts : List Terminal)
    → ends (x ∷ xs) ts ≡ follow (verdict_one x (read_one tells x ts)) (ends xs)
unfolding ends
ends_cons x xs ts = cons_verdict x xs (read_one tells x ts)

-- ---- lists of symbols

pub before_none : (v : Verdict) → before [] v ≡ v
before_none (Through events rest) = refl
before_none (At cause ts) = refl
before_none Lost = refl

pub before_before : (es fs : List Event) (v : Verdict) → before es (before fs v) ≡ before (es ++ fs) v
before_before es fs (Through gs rest) = ap (λ x. Through x rest) (sym (append_assoc es fs gs))
before_before es fs (At cause ts) = refl
before_before es fs Lost = refl

follow_same : (v : Verdict) (f g : List Terminal → Verdict) → ((rest : List Terminal) → f rest ≡ g rest)
    → follow v f ≡ follow v g
follow_same (Through events rest) f g h = ap (before events) (h rest)
follow_same (At cause ts) f g h = refl
follow_same Lost f g h = refl

follow_before : (es : List Event) (v : Verdict) (g : List Terminal → Verdict)
    → follow (before es v) g ≡ before es (follow v g)
follow_before es (Through fs rest) g = sym (before_before es fs (g rest))
follow_before es (At cause ts) g = refl
follow_before es Lost g = refl

follow_follow : (v : Verdict) (f g : List Terminal → Verdict)
    → follow (follow v f) g ≡ follow v (λ rest. follow (f rest) g)
follow_follow (Through es rest) f g = follow_before es (f rest) g
follow_follow (At cause ts) f g = refl
follow_follow Lost f g = refl

pub ends_append : (xs ys : List Symbol) (ts : List Terminal) → ends (xs ++ ys) ts ≡ follow (ends xs ts) (ends ys)
unfolding ends
ends_append [] ys ts = sym (before_none (ends ys ts))
ends_append (x ∷ xs) ys ts =
    ends_cons x (xs ++ ys) ts
    ∙ follow_same (verdict_one x (read_one tells x ts)) (ends (xs ++ ys)) (λ rest. follow (ends xs rest) (ends ys))
    (ends_append xs ys)
    ∙ sym (follow_follow (verdict_one x (read_one tells x ts)) (ends xs) (ends ys))
    ∙ ap (λ v. follow v (ends ys)) (sym (ends_cons x xs ts))

-- ---- nonterminals

row_verdict : (m : Nonterminal) (right : List Symbol) (r : Reading (Parts Events right))
    → verdict_one (s.Read m) (and_then r (λ vs rest. Got (told right vs) rest)) ≡ verdict right r
row_verdict m right (Got vs rest) = refl
row_verdict m right (Stuck cause ts) = refl
row_verdict m right Deeper = refl

abbrev right_of : Step → List Symbol
right_of (pushes right) = right
right_of (fails cause) = []

abbrev cause_of : Step → BadKind
cause_of (pushes right) = bad.Syntax
cause_of (fails cause) = cause

pub row_pushes : {Value : Nonterminal → Type 0} (m : Nonterminal) (r : RowOf Value m) (right : List Symbol)
    (ts : List Terminal) → step_of r ≡ pushes right
    → verdict_one (s.Read m) (by_row tells m (telling r) ts) ≡ ends right ts
unfolding ends
row_pushes m (goes right' make) right ts h =
    row_verdict m right' (read_all tells right' ts) ∙ ap (λ xs. ends xs ts) (ap right_of h)
row_pushes m (refuses cause) right ts h = cc

row_fails : {Value : Nonterminal → Type 0} (m : Nonterminal) (r : RowOf Value m) (cause : BadKind) (ts : List Terminal)
    → step_of r ≡ fails cause
    → verdict_one (s.Read m) (by_row tells m (telling r) ts) ≡ At cause ts
row_fails m (goes right make) cause ts h = cc
row_fails m (refuses cause') cause ts h = ap (λ c. At c ts) (ap cause_of h)

pub ends_pushes : (m : Nonterminal) (right xs : List Symbol) (ts : List Terminal) → step m (look ts) ≡ pushes right
    → ends (s.Read m ∷ xs) ts ≡ ends (right ++ xs) ts
ends_pushes m right xs ts h =
    ends_cons (s.Read m) xs ts
    ∙ ap (λ v. follow v (ends xs)) (ap (verdict_one (s.Read m)) (tells_law m ts)
    ∙ row_pushes m (row m (look ts)) right ts h)
    ∙ sym (ends_append right xs ts)

pub ends_fails : (m : Nonterminal) (cause : BadKind) (xs : List Symbol) (ts : List Terminal)
    → step m (look ts) ≡ fails cause
    → ends (s.Read m ∷ xs) ts ≡ At cause ts
ends_fails m cause xs ts h =
    ends_cons (s.Read m) xs ts
    ∙ ap (λ v. follow v (ends xs)) (ap (verdict_one (s.Read m)) (tells_law m ts)
    ∙ row_fails m (row m (look ts)) cause ts h)

-- ---- tokens

pub ends_take : (wanted : Class) (xs : List Symbol) (x : Terminal) (ts : List Terminal) → fits wanted x.class ≡ true
    → ends (s.Take wanted ∷ xs) (x ∷ ts) ≡ ends xs ts
ends_take wanted xs x ts h =
    ends_cons (s.Take wanted) xs (x ∷ ts)
    ∙ ap (λ t. follow (verdict_one (s.Take wanted) (if t then Got x ts else Stuck (stuck (look (x ∷ ts))) (x ∷ ts)))
    (ends xs)) h
    ∙ before_none (ends xs ts)

pub ends_other : (wanted : Class) (xs : List Symbol) (x : Terminal) (ts : List Terminal) → fits wanted x.class ≡ false
    → ends (s.Take wanted ∷ xs) (x ∷ ts) ≡ At (stuck (look (x ∷ ts))) (x ∷ ts)
ends_other wanted xs x ts h =
    ends_cons (s.Take wanted) xs (x ∷ ts)
    ∙ ap (λ t. follow (verdict_one (s.Take wanted) (if t then Got x ts else Stuck (stuck (look (x ∷ ts))) (x ∷ ts)))
    (ends xs)) h

pub ends_no_token : (wanted : Class) (xs : List Symbol) → ends (s.Take wanted ∷ xs) [] ≡ At bad.Syntax []
ends_no_token wanted xs = ends_cons (s.Take wanted) xs []

-- ---- symbols that take no token

pub ends_tell : (signal : Signal) (xs : List Symbol) (ts : List Terminal)
    → ends (s.Tell signal ∷ xs) ts ≡ before (event signal (told_ahead ts) ∷ []) (ends xs ts)
ends_tell signal xs ts = ends_cons (s.Tell signal) xs ts

-- ---- the beginning and the end

pub ends_none : (ts : List Terminal) → ends [] ts ≡ Through [] ts
unfolding ends
ends_none ts = refl

follow_nothing : (v : Verdict) → follow v (λ rest. Through [] rest) ≡ v
follow_nothing (Through events rest) = ap (λ es. Through es rest) (append-nil events)
follow_nothing (At cause ts) = refl
follow_nothing Lost = refl

pub ends_whole : (m : Nonterminal) (ts : List Terminal) → ends (s.Read m ∷ []) ts ≡ verdict_one (s.Read m) (tells m ts)
unfolding ends
ends_whole m ts = ends_cons (s.Read m) [] ts ∙ follow_nothing (verdict_one (s.Read m) (tells m ts))

-- What is left to do for a stack of symbols falls with each turn.
use Rattle.std.proofs.Common.{◌≡◌, ℕ, suc, ◌+◌, ◌<◌, true, false, not, if◌then◌else◌, List, [], ◌∷◌}
use Rattle.std.proofs.Common.{◌++◌, refl, ap, ◌∙◌, arith}
use Rattle.hz_tree.specs.declared.class.Class.{Class}
use Rattle.hz_tree.specs.declared.nonterminal.Nonterminal.{Nonterminal}
use Rattle.hz_tree.specs.declared.signal.Signal.{Signal}
use Rattle.hz_tree.specs.declared.signal.Signal.TheVariants as tell
use Rattle.hz_tree.specs.declared.symbol.Symbol.{Symbol}
use Rattle.hz_tree.specs.declared.symbol.Symbol.TheVariants as s
use Rattle.hz_tree.specs.grammar.Look.{Terminal, look}
use Rattle.hz_tree.specs.grammar.Symbols.{Parts, Value}
use Rattle.hz_tree.specs.grammar.Table.{pushes, step}
use Rattle.hz_tree.specs.reading.Reading.{Got, read_all, reads, takes}
use Rattle.hz_tree.specs.reading.Stack.{Verdict, Through, At, Lost, ends, verdict, work}
use Rattle.hz_laws.proofs.MoveLaws.{work_append, work_pushes, work_take, work_tell}
use Rattle.hz_parts.specs.declared.mark.Mark.{Mark}
use Rattle.hz_parse.specs.Leads.{is_mark, mark_symbol, no_marks, unmarked}
use Rattle.hz_parse.specs.Turns.{bare, measure}
use Rattle.hz_parse.proofs.Ends.{Tells, read_tells}
use Rattle.hz_parse.proofs.Even.{Takes, takes_got, and_first, and_second}

bare_next : (x : Symbol) (xs : List Symbol) → unmarked x ≡ true → bare (x ∷ xs) ≡ x ∷ bare xs
bare_next x xs h = ap (λ b. if b then x ∷ bare xs else bare xs) h

bare_first : (right xs : List Symbol) → no_marks right ≡ true → bare (right ++ xs) ≡ right ++ bare xs
bare_first [] xs h = refl
bare_first (x ∷ right) xs h =
    bare_next x (right ++ xs) (and_first (unmarked x) (no_marks right) h)
    ∙ ap (λ ys. x ∷ ys) (bare_first right xs (and_second (unmarked x) (no_marks right) h))

pub pushed_less : (m : Nonterminal) (right xs : List Symbol) (mark : Mark) (marks : List Mark) (ts : List Terminal)
    → no_marks right ≡ true → step m (look ts) ≡ pushes right
    → measure (right ++ mark_symbol ∷ xs) (mark ∷ marks) ts < measure (s.Read m ∷ xs) marks ts
pushed_less m right xs mark marks ts u h =
    let one : work (s.Read m ∷ bare xs) ts ≡ suc (work (right ++ bare xs) ts) = work_pushes m right (bare xs) ts h in
    let two : work (bare (right ++ mark_symbol ∷ xs)) ts ≡ work (right ++ bare xs) ts =
    ap (λ ys. work ys ts) (bare_first right (mark_symbol ∷ xs) u) in
    omega (arith, one, two)

pub taken_less : (wanted : Class) (x : Terminal) (xs : List Symbol) (marks : List Mark) (ts rest : List Terminal)
    → is_mark wanted ≡ false → takes wanted ts ≡ Got x rest
    → measure xs marks rest < measure (s.Take wanted ∷ xs) marks ts
taken_less wanted x xs marks ts rest some h =
    let t : Takes wanted ts x rest = takes_got wanted ts x rest h in
    let one : work (s.Take wanted ∷ bare xs) (x ∷ rest) ≡ suc (work (bare xs) rest) =
    work_take wanted (bare xs) x rest t.fitting in
    let two : work (bare (s.Take wanted ∷ xs)) ts ≡ work (s.Take wanted ∷ bare xs) (x ∷ rest) =
    ap (λ us. work (bare (s.Take wanted ∷ xs)) us) t.split
    ∙ ap (λ ys. work ys (x ∷ rest)) (bare_next (s.Take wanted) xs (ap not some)) in
    omega (arith, one, two)

pub told_less : (signal : Signal) (xs : List Symbol) (marks : List Mark) (ts : List Terminal)
    → measure xs marks ts < measure (s.Tell signal ∷ xs) marks ts
told_less signal xs marks ts =
    let one : work (s.Tell signal ∷ bare xs) ts ≡ suc (work (bare xs) ts) = work_tell signal (bare xs) ts in
    omega (arith, one)

pub made_less : (mark : Mark) (xs : List Symbol) (marks : List Mark) (ts : List Terminal)
    → measure xs marks ts < measure (mark_symbol ∷ xs) (mark ∷ marks) ts
made_less mark xs marks ts = omega arith

abbrev if_through : Verdict → (List Terminal → ℕ) → ℕ
if_through (Through events rest) next = next rest
if_through (At cause ts) next = 0
if_through Lost next = 0

through_work : (middle xs : List Symbol) (ts rest : List Terminal) → Tells middle ts rest
    → if_through (ends middle ts) (work xs) ≡ work xs rest
unfolding ends
through_work middle xs ts rest t = ap (λ r. if_through (verdict middle r) (work xs)) t.told

pub skipped_less : (more middle behind : List Symbol) (marks : List Mark) (ts rest : List Terminal)
    (vs : Parts Value middle) → more ≡ middle ++ s.Tell tell.Close ∷ behind → no_marks middle ≡ true
    → read_all reads middle ts ≡ Got vs rest
    → measure behind marks rest < measure (s.Tell tell.Enter ∷ more) marks ts
skipped_less more middle behind marks ts rest vs e u h =
    let close : List Symbol = s.Tell tell.Close ∷ bare behind in
    let one : work (s.Tell tell.Enter ∷ bare more) ts ≡ suc (work (bare more) ts) =
    work_tell tell.Enter (bare more) ts in
    let two : work (bare more) ts ≡ work (middle ++ close) ts =
    ap (λ ys. work ys ts) (ap bare e ∙ bare_first middle (s.Tell tell.Close ∷ behind) u) in
    let three : work (middle ++ close) ts ≡ work middle ts + if_through (ends middle ts) (work close) =
    work_append middle close ts in
    let four : if_through (ends middle ts) (work close) ≡ work close rest =
    through_work middle close ts rest (read_tells middle ts rest vs h) in
    let five : work close rest ≡ suc (work (bare behind) rest) = work_tell tell.Close (bare behind) rest in
    omega (arith, one, two, three, four, five)

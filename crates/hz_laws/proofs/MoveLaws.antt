-- The moves that a stack of symbols takes: one less with each symbol that leaves it.
use Rattle.std.proofs.Common.{◌≡◌, ℕ, zero, suc, ◌+◌, ◌*◌, ◌<◌, ◌≤◌, Bool, true, if◌then◌else◌, List, [], ◌∷◌, ◌++◌}
use Rattle.std.proofs.Common.{length, refl, ap, sym, ◌∙◌, arith}
use Rattle.hz_tree.specs.declared.class.Class.{Class}
use Rattle.hz_tree.specs.declared.nonterminal.Nonterminal.{Nonterminal}
use Rattle.hz_tree.specs.declared.symbol.Symbol.{Symbol}
use Rattle.hz_tree.specs.declared.symbol.Symbol.TheVariants as s
use Rattle.hz_tree.specs.declared.signal.Signal.{Signal}
use Rattle.hz_tree.specs.grammar.Classes.{fits}
use Rattle.hz_tree.specs.grammar.Look.{Terminal, look, stuck}
use Rattle.hz_tree.specs.grammar.Symbols.{Part, Parts, RowOf, goes, refuses}
use Rattle.hz_tree.specs.grammar.Table.{row, Step, pushes, fails, step_of, step}
use Rattle.hz_tree.specs.reading.Reading.{Reading, Got, Stuck, Deeper, and_then, Reader, read_one, read_all, by_row}
use Rattle.hz_tree.specs.reading.Reading.{reads_to, reads_by, enough, Events, telling, event_row, tells}
use Rattle.hz_tree.specs.grammar.Signals.{Event}
use Rattle.hz_tree.specs.reading.Stack.{Verdict, Through, At, Lost, verdict, ends, before, if_got, moves_one, moves_all}
use Rattle.hz_tree.specs.reading.Stack.{moves_row, moves_to, moves, work}
use Rattle.hz_laws.proofs.Ranks.{rank, eats, eats_symbol, rank_small}
use Rattle.hz_laws.proofs.Depth.{count, Within, one_within, shrinks, Ends, ends_first, reaches, agrees, agree_one}
use Rattle.hz_laws.proofs.Depth.{same_depth}
use Rattle.hz_laws.proofs.ReadingLaws.{events_fine, tells_ends, tells_law, same_one}
use Rattle.hz_laws.proofs.StackLaws.{verdict_one, row_pushes}

-- ---- more depth changes nothing

got_agrees : {A B : Type 0} (r r' : Reading A) (g : A → List Terminal → Reading B) (f f' : List Terminal → ℕ) → r' ≡ r
    → Ends (and_then r g)
    → ((v : A) (rest : List Terminal) → Ends (g v rest) → f' rest ≡ f rest) → if_got r' f' ≡ if_got r f
got_agrees (Got v rest) r' g f f' e ends h = ap (λ y. if_got y f') e ∙ h v rest ends
got_agrees (Stuck cause ts) r' g f f' e ends h = ap (λ y. if_got y f') e
got_agrees Deeper r' g f f' e ends h = ap (λ y. if_got y f') e

module _ (reads reads' : Reader Events) (t t' : Nonterminal → List Terminal → ℕ)
    (agree : (m : Nonterminal) (us : List Terminal) → Ends (reads m us) → reads' m us ≡ reads m us)
    (moved : (m : Nonterminal) (us : List Terminal) → Ends (reads m us) → t' m us ≡ t m us) where
  moved_one : (symbol : Symbol) (us : List Terminal) → Ends (read_one reads symbol us)
      → moves_one t' symbol us ≡ moves_one t symbol us
  moved_one (s.Take wanted) us h = refl
  moved_one (s.Read m) us h = ap suc (moved m us h)
  moved_one (s.Tell signal) us h = refl

  moved_all : (right : List Symbol) (us : List Terminal) → Ends (read_all reads right us)
      → moves_all t' reads' right us ≡ moves_all t reads right us
  moved_all [] us h = refl
  moved_all (symbol ∷ more) us h =
      let first : Ends (read_one reads symbol us) = ends_first (read_one reads symbol us) _ h in
      let one : moves_one t' symbol us ≡ moves_one t symbol us = moved_one symbol us first in
      let rest : if_got (read_one reads' symbol us) (moves_all t' reads' more)
      ≡ if_got (read_one reads symbol us) (moves_all t reads more) =
      got_agrees (read_one reads symbol us) (read_one reads' symbol us)
      (λ v rest. and_then {B = Part Events symbol × Parts Events more} (read_all reads more rest)
      (λ vs end. Got (v, vs) end))
      (moves_all t reads more) (moves_all t' reads' more)
      (agree_one reads reads' agree symbol us first) h
      (λ v rest ends. moved_all more rest (ends_first (read_all reads more rest) _ ends)) in
      ap (λ x. x + if_got (read_one reads' symbol us) (moves_all t' reads' more)) one
      ∙ ap (λ x. moves_one t symbol us + x) rest

  moved_row : (m : Nonterminal) (r : RowOf Events m) (us : List Terminal) → Ends (by_row reads m r us)
      → moves_row t' reads' m r us ≡ moves_row t reads m r us
  moved_row m (goes right make) us h = moved_all right us (ends_first (read_all reads right us) _ h)
  moved_row m (refuses cause) us h = refl

moves_agree : (d : ℕ) (m : Nonterminal) (ts : List Terminal) → Ends (reads_to event_row d m ts)
    → moves_to (suc d) m ts ≡ moves_to d m ts
unfolding moves_to reads_to
moves_agree zero m ts h = absurd h
moves_agree (suc d) m ts h =
    moved_row (reads_to event_row d) (reads_to event_row (suc d)) (moves_to d) (moves_to (suc d)) (agrees event_row d)
    (moves_agree d)
    m (event_row m (look ts)) ts h

moves_more : (k d e : ℕ) (m : Nonterminal) (ts : List Terminal) → e ≡ k + d → 16 * length ts + rank m < d
    → moves_to e m ts ≡ moves_to d m ts
moves_more zero d e m ts sum h = ap (λ x. moves_to x m ts) (omega arith)
moves_more (suc k) d e m ts sum h =
    ap (λ x. moves_to x m ts) (omega arith)
    ∙ moves_agree (k + d) m ts (reaches event_row events_fine (k + d) m ts (omega arith))
    ∙ moves_more k d (k + d) m ts refl h

moves_same : (d e : ℕ) (m : Nonterminal) (ts : List Terminal) → 16 * length ts + rank m < d
    → 16 * length ts + rank m < e → moves_to d m ts ≡ moves_to e m ts
moves_same d e m ts h i = sym (moves_more e d (e + d) m ts refl h) ∙ moves_more d e (e + d) m ts (omega arith) i

-- ---- the moves of a row

got_same : {A : Type 0} (a : Bool) (bound : ℕ) (r r' : Reading A) (f f' : List Terminal → ℕ) → r ≡ r' → Within a bound r
    → ((v : A) (rest : List Terminal) → count a + length rest ≤ bound → f rest ≡ f' rest) → if_got r f ≡ if_got r' f'
got_same a bound (Got v rest) r' f f' e w h = h v rest w ∙ ap (λ y. if_got y f') e
got_same a bound (Stuck cause ts) r' f f' e w h = ap (λ y. if_got y f') e
got_same a bound Deeper r' f f' e w h = ap (λ y. if_got y f') e

module _ (reads reads' : Reader Events) (t t' : Nonterminal → List Terminal → ℕ) (bound : ℕ)
    (shorter : (m : Nonterminal) (us : List Terminal) → Within (eats m) (length us) (reads m us))
    (same : (m : Nonterminal) (us : List Terminal) → length us ≤ bound → reads m us ≡ reads' m us)
    (moved : (m : Nonterminal) (us : List Terminal) → length us ≤ bound → t m us ≡ t' m us) where
  equal_one : (symbol : Symbol) (us : List Terminal) → length us ≤ bound
      → moves_one t symbol us ≡ moves_one t' symbol us
  equal_one (s.Take wanted) us h = refl
  equal_one (s.Read m) us h = ap suc (moved m us h)
  equal_one (s.Tell signal) us h = refl

  equal_all : (right : List Symbol) (us : List Terminal) → length us ≤ bound
      → moves_all t reads right us ≡ moves_all t' reads' right us
  equal_all [] us h = refl
  equal_all (symbol ∷ more) us h =
      let rest : if_got (read_one reads symbol us) (moves_all t reads more)
      ≡ if_got (read_one reads' symbol us) (moves_all t' reads' more) =
      got_same (eats_symbol symbol) (length us) (read_one reads symbol us) (read_one reads' symbol us)
      (moves_all t reads more) (moves_all t' reads' more)
      (same_one reads reads' bound shorter same symbol us h) (one_within reads shorter symbol us)
      (λ v rest w. equal_all more rest (omega arith)) in
      ap (λ x. x + if_got (read_one reads symbol us) (moves_all t reads more)) (equal_one symbol us h)
      ∙ ap (λ x. moves_one t' symbol us + x) rest

  equal_row : (m : Nonterminal) (r : RowOf Events m) (us : List Terminal) → length us ≤ bound
      → moves_row t reads m r us ≡ moves_row t' reads' m r us
  equal_row m (goes right make) us h = equal_all right us h
  equal_row m (refuses cause) us h = refl

moves_law : (m : Nonterminal) (ts : List Terminal) → moves m ts ≡ moves_row moves tells m (event_row m (look ts)) ts
unfolding moves moves_to reads_by
moves_law m ts =
    sym (moves_agree (enough ts) m ts (tells_ends m ts))
    ∙ equal_row (reads_to event_row (enough ts)) tells (moves_to (enough ts)) moves (length ts)
    (shrinks event_row events_fine (enough ts))
    (λ n us h. same_depth event_row (enough ts) (enough us) n us
    (reaches event_row events_fine (enough ts) n us (omega (arith, rank_small n))) (tells_ends n us))
    (λ n us h. moves_same (enough ts) (enough us) n us (omega (arith, rank_small n)) (omega (arith, rank_small n)))
    m (event_row m (look ts)) ts (omega arith)

-- ---- lists of symbols

abbrev if_through : Verdict → (List Terminal → ℕ) → ℕ
if_through (Through events rest) next = next rest
if_through (At cause ts) next = 0
if_through Lost next = 0

through_before : (es : List Event) (v : Verdict) (f : List Terminal → ℕ) → if_through (before es v) f ≡ if_through v f
through_before es (Through fs rest) f = refl
through_before es (At cause ts) f = refl
through_before es Lost f = refl

got_through : (x : Symbol) (xs : List Symbol) (r : Reading (Part Events x)) (f : List Terminal → ℕ)
    → if_got r (λ rest. if_through (verdict xs (read_all tells xs rest)) f)
    ≡ if_through (verdict (x ∷ xs) (and_then r
    (λ v rest. and_then (read_all tells xs rest) (λ vs end. Got (v, vs) end)))) f
got_through x xs (Got v rest) f = go (read_all tells xs rest)
  where
    go : (r : Reading (Parts Events xs)) → if_through (verdict xs r) f
        ≡ if_through (verdict (x ∷ xs) (and_then r (λ vs end. Got (v, vs) end))) f
    go (Got vs end) = refl
    go (Stuck cause ts) = refl
    go Deeper = refl
got_through x xs (Stuck cause ts) f = refl
got_through x xs Deeper f = refl

got_sum : {A : Type 0} (r : Reading A) (f g h : List Terminal → ℕ)
    → ((rest : List Terminal) → f rest ≡ g rest + h rest) → if_got r f ≡ if_got r g + if_got r h
got_sum (Got v rest) f g h e = e rest
got_sum (Stuck cause ts) f g h e = omega arith
got_sum Deeper f g h e = omega arith

pub work_append : (xs ys : List Symbol) (ts : List Terminal)
    → work (xs ++ ys) ts ≡ work xs ts + if_through (ends xs ts) (work ys)
unfolding work ends
work_append [] ys ts = omega arith
work_append (x ∷ xs) ys ts =
    let rest : if_got (read_one tells x ts) (moves_all moves tells (xs ++ ys))
    ≡ if_got (read_one tells x ts) (moves_all moves tells xs) + if_got (read_one tells x ts)
    (λ rest. if_through (ends xs rest) (work ys)) =
    got_sum (read_one tells x ts) (moves_all moves tells (xs ++ ys)) (moves_all moves tells xs)
    (λ rest. if_through (ends xs rest) (work ys)) (work_append xs ys) in
    let last : if_got (read_one tells x ts) (λ rest. if_through (ends xs rest) (work ys))
    ≡ if_through (ends (x ∷ xs) ts) (work ys) =
    got_through x xs (read_one tells x ts) (work ys) in
    omega (arith, rest, last)

-- ---- one moved

got_is_through : (m : Nonterminal) (r : Reading (List Event)) (f : List Terminal → ℕ)
    → if_got r f ≡ if_through (verdict_one (s.Read m) r) f
got_is_through m (Got es rest) f = refl
got_is_through m (Stuck cause ts) f = refl
got_is_through m Deeper f = refl

abbrev right_of : Step → List Symbol
right_of (pushes right) = right
right_of (fails cause) = []

row_moves : {Value : Nonterminal → Type 0} (m : Nonterminal) (r : RowOf Value m) (right : List Symbol)
    (ts : List Terminal) → step_of r ≡ pushes right
    → moves_row moves tells m (telling r) ts ≡ work right ts
unfolding work
row_moves m (goes right' make) right ts h = ap (λ xs. work xs ts) (ap right_of h)
row_moves m (refuses cause) right ts h = cc

pub work_pushes : (m : Nonterminal) (right xs : List Symbol) (ts : List Terminal) → step m (look ts) ≡ pushes right
    → work (s.Read m ∷ xs) ts ≡ suc (work (right ++ xs) ts)
unfolding work
work_pushes m right xs ts h =
    let own : moves m ts ≡ work right ts = moves_law m ts ∙ row_moves m (row m (look ts)) right ts h in
    let behind : if_got (tells m ts) (work xs) ≡ if_through (ends right ts) (work xs) =
    got_is_through m (tells m ts) (work xs)
    ∙ ap (λ v. if_through v (work xs)) (ap (verdict_one (s.Read m)) (tells_law m ts)
    ∙ row_pushes m (row m (look ts)) right ts h) in
    omega (arith, own, behind, work_append right xs ts)

pub work_take : (wanted : Class) (xs : List Symbol) (x : Terminal) (ts : List Terminal) → fits wanted x.class ≡ true
    → work (s.Take wanted ∷ xs) (x ∷ ts) ≡ suc (work xs ts)
unfolding work
work_take wanted xs x ts h =
    ap (λ t. 1 + if_got (if t then Got x ts else Stuck (stuck (look (x ∷ ts))) (x ∷ ts)) (work xs)) h ∙ omega arith

pub work_tell : (signal : Signal) (xs : List Symbol) (ts : List Terminal)
    → work (s.Tell signal ∷ xs) ts ≡ suc (work xs ts)
unfolding work
work_tell signal xs ts = omega arith

-- The reading without its bound on the depth: what the table's row for the next tokens says.
use Rattle.std.proofs.Common.{◌≡◌, ℕ, ◌+◌, ◌≤◌, Bool, List, [], ◌∷◌, length, refl, ap, sym, ◌∙◌, arith}
use Rattle.hz_tree.specs.declared.nonterminal.Nonterminal.{Nonterminal}
use Rattle.hz_tree.specs.declared.symbol.Symbol.{Symbol}
use Rattle.hz_tree.specs.declared.symbol.Symbol.TheVariants as s
use Rattle.hz_tree.specs.grammar.Look.{Terminal, look}
use Rattle.hz_tree.specs.grammar.Symbols.{RowOf, goes, refuses}
use Rattle.hz_tree.specs.grammar.Table.{row, step_of}
use Rattle.hz_tree.specs.reading.Reading.{Reading, Got, Stuck, Deeper, and_then, Reader, Table, read_one, read_all}
use Rattle.hz_tree.specs.reading.Reading.{by_row, reads_to, reads_by, enough, reads, telling, event_row, tells}
use Rattle.hz_laws.proofs.Ranks.{eats, eats_symbol, is_fine, rank_small}
use Rattle.hz_laws.proofs.Depth.{Fine, count, Within, one_within, shrinks, Ends, reaches, agrees, same_depth}
use Rattle.hz_laws.proofs.RowLaws.{rows_fine}

-- the reader and the bounded one give the same where both are asked
same_within : {A B : Type 0} (a : Bool) (bound : ℕ) (r r' : Reading A) (f f' : A → List Terminal → Reading B) → r ≡ r'
    → Within a bound r
    → ((v : A) (rest : List Terminal) → count a + length rest ≤ bound → f v rest ≡ f' v rest)
    → and_then r f ≡ and_then r' f'
same_within a bound (Got v rest) r' f f' e w h = h v rest w ∙ ap (λ y. and_then y f') e
same_within a bound (Stuck cause ts) r' f f' e w h = ap (λ y. and_then y f') e
same_within a bound Deeper r' f f' e w h = ap (λ y. and_then y f') e

module _ {Value : Nonterminal → Type 0} (reads reads' : Reader Value) (bound : ℕ)
    (shorter : (m : Nonterminal) (us : List Terminal) → Within (eats m) (length us) (reads m us))
    (same : (m : Nonterminal) (us : List Terminal) → length us ≤ bound → reads m us ≡ reads' m us) where
  pub same_one : (symbol : Symbol) (us : List Terminal) → length us ≤ bound
      → read_one reads symbol us ≡ read_one reads' symbol us
  same_one (s.Take wanted) us h = refl
  same_one (s.Read m) us h = same m us h
  same_one (s.Tell signal) us h = refl

  same_all : (right : List Symbol) (us : List Terminal) → length us ≤ bound
      → read_all reads right us ≡ read_all reads' right us
  same_all [] us h = refl
  same_all (symbol ∷ more) us h =
      same_within (eats_symbol symbol) (length us) (read_one reads symbol us) (read_one reads' symbol us)
      (λ v rest. and_then (read_all reads more rest) (λ vs end. Got (v, vs) end))
      (λ v rest. and_then (read_all reads' more rest) (λ vs end. Got (v, vs) end))
      (same_one symbol us h) (one_within reads shorter symbol us)
      (λ v rest w. ap (λ y. and_then y (λ vs end. Got (v, vs) end)) (same_all more rest (omega arith)))

  same_row : (m : Nonterminal) (r : RowOf Value m) (us : List Terminal) → length us ≤ bound
      → by_row reads m r us ≡ by_row reads' m r us
  same_row m (goes right make) us h = ap (λ y. and_then y (λ vs rest. Got (make vs) rest)) (same_all right us h)
  same_row m (refuses cause) us h = refl

pub by_ends : {Value : Nonterminal → Type 0} (table : Table Value) → Fine table
    → (m : Nonterminal) (ts : List Terminal) → Ends (reads_by table m ts)
unfolding reads_by
by_ends table fine m ts = reaches table fine (enough ts) m ts (omega (arith, rank_small m))

pub by_law : {Value : Nonterminal → Type 0} (table : Table Value) → Fine table
    → (m : Nonterminal) (ts : List Terminal) → reads_by table m ts ≡ by_row (reads_by table) m (table m (look ts)) ts
unfolding reads_by reads_to
by_law table fine m ts =
    sym (agrees table (enough ts) m ts (by_ends table fine m ts))
    ∙ same_row (reads_to table (enough ts)) (reads_by table) (length ts) (shrinks table fine (enough ts))
    (λ n us h. same_depth table (enough ts) (enough us) n us
    (reaches table fine (enough ts) n us (omega (arith, rank_small n))) (by_ends table fine n us))
    m (table m (look ts)) ts (omega arith)

pub by_shorter : {Value : Nonterminal → Type 0} (table : Table Value) → Fine table
    → (m : Nonterminal) (ts : List Terminal) → Within (eats m) (length ts) (reads_by table m ts)
unfolding reads_by
by_shorter table fine m ts = shrinks table fine (enough ts) m ts

-- ---- the grammar

pub reads_ends : (m : Nonterminal) (ts : List Terminal) → Ends (reads m ts)
reads_ends = by_ends row rows_fine

pub reads_law : (m : Nonterminal) (ts : List Terminal) → reads m ts ≡ by_row reads m (row m (look ts)) ts
reads_law = by_law row rows_fine

pub reads_shorter : (m : Nonterminal) (ts : List Terminal) → Within (eats m) (length ts) (reads m ts)
reads_shorter = by_shorter row rows_fine

-- ---- its events

step_telling : {Value : Nonterminal → Type 0} {m : Nonterminal} (r : RowOf Value m) → step_of (telling r) ≡ step_of r
step_telling (goes right make) = refl
step_telling (refuses cause) = refl

pub events_fine : Fine event_row
events_fine m l = ap (is_fine m) (step_telling (row m l)) ∙ rows_fine m l

pub tells_ends : (m : Nonterminal) (ts : List Terminal) → Ends (tells m ts)
tells_ends = by_ends event_row events_fine

pub tells_law : (m : Nonterminal) (ts : List Terminal) → tells m ts ≡ by_row tells m (event_row m (look ts)) ts
tells_law = by_law event_row events_fine

not_deeper : {A : Type 0} (r : Reading A) → Ends r → r ≡ Deeper → ⊥
not_deeper (Got v rest) h e = cc
not_deeper (Stuck cause ts) h e = cc
not_deeper Deeper h e = h

pub reads_not_deeper : (m : Nonterminal) (ts : List Terminal) → reads m ts ≡ Deeper → ⊥
reads_not_deeper m ts = not_deeper (reads m ts) (reads_ends m ts)

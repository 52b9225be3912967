-- The bound on the depth is never met, and the reading is what the table says without a bound.
use Rattle.std.proofs.Common.{◌≡◌, ℕ, zero, suc, ◌+◌, ◌*◌, ◌<◌, ◌≤◌, Bool, true, false, not, ◌&&◌, ◌||◌, if◌then◌else◌}
use Rattle.std.proofs.Common.{nat_lt, List, [], ◌∷◌, length, refl, ap, sym, ◌∙◌, subst, arith}
use Rattle.std.proofs.lemmas.Bool.Decides.{nat_tests}
use Rattle.hz_tree.specs.declared.class.Class.{Class}
use Rattle.hz_tree.specs.declared.nonterminal.Nonterminal.{Nonterminal}
use Rattle.hz_tree.specs.declared.symbol.Symbol.{Symbol}
use Rattle.hz_tree.specs.declared.symbol.Symbol.TheVariants as s
use Rattle.hz_tree.specs.declared.look.Look.{Look}
use Rattle.hz_tree.specs.grammar.Classes.{fits}
use Rattle.hz_tree.specs.grammar.Look.{Terminal, look, stuck}
use Rattle.hz_tree.specs.grammar.Symbols.{RowOf, goes, refuses}
use Rattle.hz_tree.specs.grammar.Table.{step_of}
use Rattle.hz_tree.specs.reading.Reading.{Reading, Got, Stuck, Deeper, and_then, takes, Reader, Table, read_one}
use Rattle.hz_tree.specs.reading.Reading.{read_all, by_row, reads_to}
use Rattle.hz_laws.proofs.Ranks.{rank, eats, eats_symbol, eats_all, falls, is_fine, rank_small}

-- all rows of a table let ranks fall
abbrev pub Fine : {Value : Nonterminal → Type 0} → Table Value → Type 0
Fine table = (nonterminal : Nonterminal) (l : Look) → is_fine nonterminal (step_of (table nonterminal l)) ≡ true

-- ---- what is left is shorter

abbrev pub count : Bool → ℕ
count true = 1
count false = 0

-- what is left has at most `bound` tokens, or fewer where `eaten`
abbrev pub Within : {A : Type 0} → (eaten : Bool) → (bound : ℕ) → Reading A → Type 0
Within eaten bound (Got a rest) = count eaten + length rest ≤ bound
Within eaten bound (Stuck cause ts) = Unit {0}
Within eaten bound Deeper = Unit {0}

count_or : (a b : Bool) (k m bound : ℕ) → count a + m ≤ bound → count b + k ≤ m → count (a || b) + k ≤ bound
count_or true b k m bound h w = omega arith
count_or false b k m bound h w = omega arith

widen : {A : Type 0} (a b : Bool) (m bound : ℕ) (r : Reading A) → count a + m ≤ bound → Within b m r
    → Within (a || b) bound r
widen a b m bound (Got v rest) h w = count_or a b (length rest) m bound h w
widen a b m bound (Stuck cause ts) h w = tt
widen a b m bound Deeper h w = tt

within_then : {A B : Type 0} (a b : Bool) (bound : ℕ) (r : Reading A) (next : A → List Terminal → Reading B)
    → Within a bound r → ((v : A) (rest : List Terminal) → Within b (length rest) (next v rest))
    → Within (a || b) bound (and_then r next)
within_then a b bound (Got v rest) next w f = widen a b (length rest) bound (next v rest) w (f v rest)
within_then a b bound (Stuck cause ts) next w f = tt
within_then a b bound Deeper next w f = tt

within_map : {A B : Type 0} (f : A → B) (e : Bool) (bound : ℕ) (r : Reading A)
    → Within e bound r → Within e bound (and_then {B = B} r (λ v rest. Got (f v) rest))
within_map f e bound (Got v rest) w = w
within_map f e bound (Stuck cause ts) w = tt
within_map f e bound Deeper w = tt

takes_within : (wanted : Class) (ts : List Terminal) → Within true (length ts) (takes wanted ts)
takes_within wanted [] = tt
takes_within wanted (x ∷ ts) =
    elim (fits wanted x.class) as (λ t. Within true (length (x ∷ ts))
    (if t then Got x ts else Stuck (stuck (look (x ∷ ts))) (x ∷ ts))) [ true ↦ omega arith | false ↦ tt ]

pub one_within : {Value : Nonterminal → Type 0} (reads : Reader Value)
    → ((m : Nonterminal) (us : List Terminal) → Within (eats m) (length us) (reads m us))
    → (symbol : Symbol) (ts : List Terminal) → Within (eats_symbol symbol) (length ts) (read_one reads symbol ts)
one_within reads shorter (s.Take wanted) ts = takes_within wanted ts
one_within reads shorter (s.Read m) ts = shorter m ts
one_within reads shorter (s.Tell signal) ts = omega arith

pub all_within : {Value : Nonterminal → Type 0} (reads : Reader Value)
    → ((m : Nonterminal) (us : List Terminal) → Within (eats m) (length us) (reads m us))
    → (right : List Symbol) (ts : List Terminal) → Within (eats_all right) (length ts) (read_all reads right ts)
all_within reads shorter [] ts = omega arith
all_within reads shorter (symbol ∷ more) ts =
    within_then (eats_symbol symbol) (eats_all more) (length ts) (read_one reads symbol ts) _
    (one_within reads shorter symbol ts)
    (λ v rest. within_map (λ vs. (v, vs)) (eats_all more) (length rest) (read_all reads more rest)
    (all_within reads shorter more rest))

loosen : {A : Type 0} (a b : Bool) (m : ℕ) (r : Reading A) → (not a || b) ≡ true → Within b m r → Within a m r
loosen a b m (Stuck cause ts) h w = tt
loosen a b m Deeper h w = tt
loosen true true m (Got v rest) h w = w
loosen true false m (Got v rest) h w = cc
loosen false b m (Got v rest) h w = omega arith

and_left : (a b : Bool) → (a && b) ≡ true → a ≡ true
and_left true b h = refl
and_left false b h = h

and_right : (a b : Bool) → (a && b) ≡ true → b ≡ true
and_right true b h = h
and_right false b h = cc

row_within : {Value : Nonterminal → Type 0} (reads : Reader Value)
    → ((m : Nonterminal) (us : List Terminal) → Within (eats m) (length us) (reads m us))
    → (m : Nonterminal) (r : RowOf Value m) → is_fine m (step_of r) ≡ true → (ts : List Terminal)
    → Within (eats m) (length ts) (by_row reads m r ts)
row_within reads shorter m (goes right make) fine ts =
    within_map make (eats m) (length ts) (read_all reads right ts)
    (loosen (eats m) (eats_all right) (length ts) (read_all reads right ts)
    (and_right (falls (rank m) right) (not (eats m) || eats_all right) fine) (all_within reads shorter right ts))
row_within reads shorter m (refuses cause) fine ts = tt

pub shrinks : {Value : Nonterminal → Type 0} (table : Table Value) → Fine table
    → (d : ℕ) (m : Nonterminal) (ts : List Terminal) → Within (eats m) (length ts) (reads_to table d m ts)
unfolding reads_to
shrinks table fine zero m ts = tt
shrinks table fine (suc d) m ts =
    row_within (reads_to table d) (shrinks table fine d) m (table m (look ts)) (fine m (look ts)) ts

-- ---- the depth is enough

abbrev pub Ends : {A : Type 0} → Reading A → Type 0
Ends (Got a rest) = Unit {0}
Ends (Stuck cause ts) = Unit {0}
Ends Deeper = ⊥

ends_map : {A B : Type 0} (f : A → B) (r : Reading A) → Ends r → Ends (and_then {B = B} r (λ v rest. Got (f v) rest))
ends_map f (Got v rest) h = tt
ends_map f (Stuck cause ts) h = tt
ends_map f Deeper h = h

ends_then : {A B : Type 0} (a : Bool) (bound : ℕ) (r : Reading A) (next : A → List Terminal → Reading B)
    → Within a bound r → Ends r → ((v : A) (rest : List Terminal) → count a + length rest ≤ bound → Ends (next v rest))
    → Ends (and_then r next)
ends_then a bound (Got v rest) next w h f = f v rest w
ends_then a bound (Stuck cause ts) next w h f = tt
ends_then a bound Deeper next w h f = h

pub ends_first : {A B : Type 0} (r : Reading A) (next : A → List Terminal → Reading B) → Ends (and_then r next) → Ends r
ends_first (Got v rest) next h = tt
ends_first (Stuck cause ts) next h = tt
ends_first Deeper next h = h

takes_ends : (wanted : Class) (ts : List Terminal) → Ends (takes wanted ts)
takes_ends wanted [] = tt
takes_ends wanted (x ∷ ts) =
    elim (fits wanted x.class) as (λ t. Ends (if t then Got x ts else Stuck (stuck (look (x ∷ ts))) (x ∷ ts))) [
      | true ↦
          tt
      | false ↦ tt
    ]

module _ {Value : Nonterminal → Type 0} (reads : Reader Value) (d : ℕ)
    (shorter : (m : Nonterminal) (us : List Terminal) → Within (eats m) (length us) (reads m us))
    (reached : (m : Nonterminal) (us : List Terminal) → 16 * length us + rank m < d → Ends (reads m us)) where
  free_one : (symbol : Symbol) (us : List Terminal) → 16 * length us + 16 ≤ d → Ends (read_one reads symbol us)
  free_one (s.Take wanted) us h = takes_ends wanted us
  free_one (s.Read m) us h = reached m us (omega (arith, rank_small m))
  free_one (s.Tell signal) us h = tt

  free : (right : List Symbol) (us : List Terminal) → 16 * length us + 16 ≤ d → Ends (read_all reads right us)
  free [] us h = tt
  free (symbol ∷ more) us h =
      ends_then (eats_symbol symbol) (length us) (read_one reads symbol us) _ (one_within reads shorter symbol us)
      (free_one symbol us h)
      (λ v rest w. ends_map (λ vs. (v, vs)) (read_all reads more rest) (free more rest (omega arith)))

  led_rest : (limit : ℕ) (e : Bool) (more : List Symbol) (us rest : List Terminal) → (e || falls limit more) ≡ true
      → 16 * length us + limit ≤ d → count e + length rest ≤ length us
      → (falls limit more ≡ true → 16 * length rest + limit ≤ d → Ends (read_all reads more rest))
      → Ends (read_all reads more rest)
  led_rest limit true more us rest f h w led = free more rest (omega arith)
  led_rest limit false more us rest f h w led = led f (omega arith)

  led : (limit : ℕ) (right : List Symbol) (us : List Terminal) → falls limit right ≡ true → 16 * length us + limit ≤ d
      → Ends (read_all reads right us)
  led limit [] us f h = tt
  led limit (s.Take wanted ∷ more) us f h =
      ends_then true (length us) (takes wanted us) _ (takes_within wanted us) (takes_ends wanted us)
      (λ v rest w. ends_map (λ vs. (v, vs)) (read_all reads more rest) (free more rest (omega arith)))
  led limit (s.Read m ∷ more) us f h =
      let below : rank m < limit = grind (
        arith,
        nat_tests,
        and_left (nat_lt (rank m) limit)
            (eats m || falls limit more) f,
      ) in
      ends_then (eats m) (length us) (reads m us) _ (shorter m us) (reached m us (omega arith))
      (λ v rest w. ends_map (λ vs. (v, vs)) (read_all reads more rest)
      (led_rest limit (eats m) more us rest (and_right (nat_lt (rank m) limit) (eats m || falls limit more) f) h w
      (led limit more rest)))
  led limit (s.Tell signal ∷ more) us f h = ends_map _ (read_all reads more us) (led limit more us f h)

  row_ends : (m : Nonterminal) (r : RowOf Value m) → is_fine m (step_of r) ≡ true → (ts : List Terminal)
      → 16 * length ts + rank m ≤ d → Ends (by_row reads m r ts)
  row_ends m (goes right make) fine ts h =
      ends_map make (read_all reads right ts)
      (led (rank m) right ts (and_left (falls (rank m) right) (not (eats m) || eats_all right) fine) h)
  row_ends m (refuses cause) fine ts h = tt

pub reaches : {Value : Nonterminal → Type 0} (table : Table Value) → Fine table
    → (d : ℕ) (m : Nonterminal) (ts : List Terminal) → 16 * length ts + rank m < d → Ends (reads_to table d m ts)
unfolding reads_to
reaches table fine zero m ts h = omega arith
reaches table fine (suc d) m ts h =
    row_ends (reads_to table d) d (shrinks table fine d) (reaches table fine d) m (table m (look ts))
    (fine m (look ts)) ts (omega arith)

-- ---- more depth changes nothing

same_then : {A B : Type 0} (r r' : Reading A) (f f' : A → List Terminal → Reading B) → r' ≡ r
    → ((v : A) (rest : List Terminal) → Ends (f v rest) → f' v rest ≡ f v rest) → Ends (and_then r f)
    → and_then r' f' ≡ and_then r f
same_then (Got v rest) r' f f' e h ends = ap (λ y. and_then y f') e ∙ h v rest ends
same_then (Stuck cause ts) r' f f' e h ends = ap (λ y. and_then y f') e
same_then Deeper r' f f' e h ends = ap (λ y. and_then y f') e

module _ {Value : Nonterminal → Type 0} (reads reads' : Reader Value)
    (agree : (m : Nonterminal) (us : List Terminal) → Ends (reads m us) → reads' m us ≡ reads m us) where
  pub agree_one : (symbol : Symbol) (us : List Terminal) → Ends (read_one reads symbol us)
      → read_one reads' symbol us ≡ read_one reads symbol us
  agree_one (s.Take wanted) us h = refl
  agree_one (s.Read m) us h = agree m us h
  agree_one (s.Tell signal) us h = refl

  pub agree_all : (right : List Symbol) (us : List Terminal) → Ends (read_all reads right us)
      → read_all reads' right us ≡ read_all reads right us
  agree_all [] us h = refl
  agree_all (symbol ∷ more) us h =
      same_then (read_one reads symbol us) (read_one reads' symbol us)
      (λ v rest. and_then (read_all reads more rest) (λ vs end. Got (v, vs) end))
      (λ v rest. and_then (read_all reads' more rest) (λ vs end. Got (v, vs) end))
      (agree_one symbol us (ends_first (read_one reads symbol us) _ h))
      (λ v rest ends. ap (λ y. and_then y (λ vs end. Got (v, vs) end))
      (agree_all more rest (ends_first (read_all reads more rest) _ ends)))
      h

  agree_row : (m : Nonterminal) (r : RowOf Value m) (ts : List Terminal) → Ends (by_row reads m r ts)
      → by_row reads' m r ts ≡ by_row reads m r ts
  agree_row m (goes right make) ts h =
      ap (λ y. and_then y (λ vs rest. Got (make vs) rest))
      (agree_all right ts (ends_first (read_all reads right ts) _ h))
  agree_row m (refuses cause) ts h = refl

pub agrees : {Value : Nonterminal → Type 0} (table : Table Value)
    → (d : ℕ) (m : Nonterminal) (ts : List Terminal) → Ends (reads_to table d m ts)
    → reads_to table (suc d) m ts ≡ reads_to table d m ts
unfolding reads_to
agrees table zero m ts h = absurd h
agrees table (suc d) m ts h =
    agree_row (reads_to table d) (reads_to table (suc d)) (agrees table d) m (table m (look ts)) ts h

agrees_more : {Value : Nonterminal → Type 0} (table : Table Value)
    → (k d e : ℕ) (m : Nonterminal) (ts : List Terminal) → e ≡ k + d → Ends (reads_to table d m ts)
    → reads_to table e m ts ≡ reads_to table d m ts
agrees_more table zero d e m ts sum h = ap (λ x. reads_to table x m ts) (omega arith)
agrees_more table (suc k) d e m ts sum h =
    let before : reads_to table (k + d) m ts ≡ reads_to table d m ts = agrees_more table k d (k + d) m ts refl h in
    ap (λ x. reads_to table x m ts) (omega arith) ∙ agrees table (k + d) m ts (subst Ends (sym before) h) ∙ before

pub same_depth : {Value : Nonterminal → Type 0} (table : Table Value)
    → (d e : ℕ) (m : Nonterminal) (ts : List Terminal) → Ends (reads_to table d m ts) → Ends (reads_to table e m ts)
    → reads_to table d m ts ≡ reads_to table e m ts
same_depth table d e m ts h h' =
    sym (agrees_more table e d (e + d) m ts refl h) ∙ agrees_more table d e (e + d) m ts (omega arith) h'

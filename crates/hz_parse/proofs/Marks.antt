-- No row names the symbol that stands for a mark.
use Rattle.std.proofs.Common.{◌≡◌, Bool, true, false, not, ◌&&◌, List, [], ◌∷◌, refl}
use Rattle.hz_tree.specs.declared.class.Class.{Class}
use Rattle.hz_tree.specs.declared.class.Class.TheVariants as k
use Rattle.hz_tree.specs.declared.look.Look.{Look}
use Rattle.hz_tree.specs.declared.nonterminal.Nonterminal.{Nonterminal}
use Rattle.hz_tree.specs.declared.symbol.Symbol.{Symbol}
use Rattle.hz_tree.specs.declared.symbol.Symbol.TheVariants as s
use Rattle.hz_tree.specs.grammar.Symbols.{Row, goes, refuses}
use Rattle.hz_tree.specs.grammar.Table.{row, step_of}
use Rattle.hz_laws.specs.Middle.{closes_hole, hole}
use Rattle.hz_laws.proofs.Braces.{Change, keeps, opens, closes, none, change, after_change, after_hole, balanced}
use Rattle.hz_laws.proofs.Braces.{is_balanced}
use Rattle.hz_laws.proofs.RowLaws.{rows_balanced}
use Rattle.hz_parse.specs.Leads.{is_mark, no_marks}

-- ---- a row of which the braces are even names none

no_mark : (wanted : Class) (inner : List Bool) (test : List Bool → Bool)
    → after_change (change wanted) inner test ≡ true → is_mark wanted ≡ false
no_mark k.Malformed inner test h = cc
no_mark _ inner test h = refl

record Tested (inner : List Bool) (test : List Bool → Bool) : Type 0 where
  now : List Bool
  tested : test now ≡ true

after_token : (made : Change) (inner : List Bool) (test : List Bool → Bool) → after_change made inner test ≡ true
    → Tested inner test
after_token keeps inner test h = record { now = inner; tested = h }
after_token (opens b) inner test h = record { now = b ∷ inner; tested = h }
after_token closes [] test h = cc
after_token closes (b ∷ inner) test h = record { now = inner; tested = h }
after_token none inner test h = cc

after_read : (closed : Bool) (inner : List Bool) (test : List Bool → Bool) → after_hole closed inner test ≡ true
    → Tested inner test
after_read false inner test h = record { now = inner; tested = h }
after_read true [] test h = cc
after_read true (true ∷ inner) test h = record { now = inner; tested = h }
after_read true (false ∷ inner) test h = cc

both_true : (a b : Bool) → a ≡ false → b ≡ true → (not a && b) ≡ true
both_true true b h i = cc
both_true false b h i = i

balanced_unmarked : (right : List Symbol) (inner : List Bool) → balanced inner right ≡ true → no_marks right ≡ true
balanced_unmarked [] inner h = refl
balanced_unmarked (s.Take wanted ∷ xs) inner h =
    let t : Tested inner (λ now. balanced now xs) =
    after_token (change wanted) inner (λ now. balanced now xs) h in
    both_true (is_mark wanted) (no_marks xs) (no_mark wanted inner (λ now. balanced now xs) h)
    (balanced_unmarked xs t.now t.tested)
balanced_unmarked (s.Read m ∷ xs) inner h =
    let t : Tested inner (λ now. balanced now xs) =
    after_read (closes_hole m) inner (λ now. balanced now xs) h in
    balanced_unmarked xs t.now t.tested
balanced_unmarked (s.Tell signal ∷ xs) inner h = balanced_unmarked xs inner h

abbrev pub row_unmarked : {m : Nonterminal} → Row m → Type 0
row_unmarked (goes right make) = no_marks right ≡ true
row_unmarked (refuses cause) = Unit {0}

unmarked_row : (m : Nonterminal) (r : Row m) → is_balanced m (step_of r) ≡ true → row_unmarked r
unmarked_row m (goes right make) h = balanced_unmarked right (hole m) h
unmarked_row m (refuses cause) h = tt

pub rows_unmarked : (m : Nonterminal) (l : Look) → row_unmarked (row m l)
rows_unmarked m l = unmarked_row m (row m l) (rows_balanced m l)

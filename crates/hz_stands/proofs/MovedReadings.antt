-- What is read in a head is read so outside of heads, where no `in` stands behind it.
use Rattle.std.proofs.Common.{◌≡◌, ℕ, zero, suc, Bool, true, false, ◌&&◌, List, [], ◌∷◌, refl, ap, sym}
use Rattle.std.proofs.Common.{◌∙◌, subst}
use Rattle.hz_tree.specs.declared.nonterminal.Nonterminal.{Nonterminal}
use Rattle.hz_tree.specs.declared.nonterminal.Nonterminal.TheVariants as n
use Rattle.hz_tree.specs.declared.symbol.Symbol.{Symbol}
use Rattle.hz_tree.specs.declared.symbol.Symbol.TheVariants as s
use Rattle.hz_tree.specs.grammar.Classes.{is_in}
use Rattle.hz_tree.specs.grammar.Look.{Terminal, look}
use Rattle.hz_tree.specs.grammar.Symbols.{Parts, Value, Row, goes, refuses}
use Rattle.hz_tree.specs.grammar.Table.{row}
use Rattle.hz_tree.specs.reading.Reading.{Got, and_then, Reader, read_one, read_all, by_row, reads_to}
use Rattle.hz_tree.specs.reading.Reading.{reads_by, enough, reads}
use Rattle.hz_laws.proofs.Balance.{Then, then_got, got_rest}
use Rattle.hz_laws.proofs.ReadingLaws.{reads_law}
use Rattle.hz_stands.specs.Heads.{in_head, in_ahead, settled, placed, anywhere, anywhere_value}
use Rattle.hz_stands.proofs.Ahead.{passes_in, passes}
use Rattle.hz_stands.proofs.MovedRows.{moved_symbol, moved, moved_part, moved_parts, Moves, MovesRow, MovesAt}
use Rattle.hz_stands.proofs.MovedRows.{rows_move}
use Rattle.hz_stands.proofs.Settled.{NoneBehind, behind_settled, settled_in_head, settled_guards, first_settled}
use Rattle.hz_stands.proofs.Settled.{others_guarded}
use Rattle.hz_stands.proofs.SettledExpressions.{guards, Settles}
use Rattle.hz_stands.proofs.SettledRows.{as_placed, rows_settle}
use Rattle.hz_stands.proofs.Several.{value_of, Cons, cons_got, cons_makes, all_same, to_reads}

-- ---- outside of heads

-- what is read is read so outside of heads
abbrev Moving : Nonterminal → Type 0
Moving m =
    (ts rest : List Terminal) (v : Value m) → reads m ts ≡ Got v rest
    → reads (anywhere m) ts ≡ Got (anywhere_value m v) rest

stays_placed : (m : Nonterminal) → Moving (placed false m)
stays_placed n.Script ts rest v h = h
stays_placed _ ts rest v h = h

stays : (m : Nonterminal) → in_head m ≡ false → Moving m
stays m e = as_placed false Moving m e (stays_placed m)

-- ---- in a head

look_in : (ts : List Terminal) → in_ahead ts ≡ is_in (look ts).one
look_in [] = refl
look_in (x ∷ []) = refl
look_in (x ∷ y ∷ ts) = refl

-- what takes nothing before `in` is not settled there
in_not_ahead : (m : Nonterminal) (ts rest : List Terminal) (v : Value m) → reads m ts ≡ Got v rest
    → in_ahead rest ≡ false → (passes_in m && is_in (look ts).one) ≡ false
in_not_ahead m ts rest v is none =
    elim (passes_in m) as (λ b. passes_in m ≡ b → (b && is_in (look ts).one) ≡ false) [
      | false ↦ λ p. refl
      | true ↦ λ p.
          elim (in_ahead ts) as (λ b. in_ahead ts ≡ b → is_in (look ts).one ≡ false) [
            | false ↦ λ e. sym (look_in ts) ∙ e
            | true ↦ λ e.
                absurd (false_true (sym none ∙ ap in_ahead (sym (passes m ts rest v p e is)) ∙ e))
          ] refl
    ] refl
  where
    false_true : false ≡ true → ⊥
    false_true h = cc

module _ (trees : Reader Value)
    (same : (m : Nonterminal) (ts rest : List Terminal) (v : Value m) → trees m ts ≡ Got v rest
    → reads m ts ≡ Got v rest)
    (moving : (m : Nonterminal) (ts rest : List Terminal) (v : Value m) → settled m rest ≡ true
    → trees m ts ≡ Got v rest
    → reads (anywhere m) ts ≡ Got (anywhere_value m v) rest) where
  one_moves : (x : Symbol) (more : List Symbol) (ts mid rest : List Terminal) (p : Parts Value (x ∷ more))
      (behind : Bool) → guards behind (x ∷ more) ≡ true → NoneBehind behind rest → read_one trees x ts ≡ Got p.0 mid
      → read_all reads more mid ≡ Got p.1 rest → read_one reads (moved_symbol x) ts ≡ Got (moved_part x p.0) mid
  one_moves (s.Take wanted) more ts mid rest p behind h none is others = is
  one_moves (s.Read m) more ts mid rest p behind h none is others =
      moving m ts mid p.0 (first_settled m more mid rest p.1 behind h none others) is
  one_moves (s.Tell signal) more ts mid rest p behind h none is others = is

  all_move : (right : List Symbol) (ts rest : List Terminal) (p : Parts Value right) (behind : Bool)
      → guards behind right ≡ true → NoneBehind behind rest → read_all trees right ts ≡ Got p rest
      → read_all reads (moved right) ts ≡ Got (moved_parts right p) rest
  all_move [] ts rest p behind h none is = is
  all_move (x ∷ more) ts rest p behind h none is =
      let c : Cons trees x more ts p rest = cons_got trees x more ts p rest is in
      cons_makes (moved_symbol x) (moved more) ts c.mid rest (moved_part x p.0) (moved_parts more p.1)
      (one_moves x more ts c.mid rest p behind h none c.first (all_same trees same more c.mid rest p.1 c.others))
      (all_move more c.mid rest p.1 behind (others_guarded x more behind h) none c.others)

  goes_moves : (m : Nonterminal) (right : List Symbol) (make : Parts Value right → Value m) (other : Row (anywhere m))
      (ts rest : List Terminal) (v : Value m) → Moves m right make other → guards (in_head m) right ≡ true
      → NoneBehind (in_head m) rest → by_row trees m (goes right make) ts ≡ Got v rest
      → by_row reads (anywhere m) other ts ≡ Got (anywhere_value m v) rest
  goes_moves m right make other ts rest v h g none is =
      let all : Then (read_all trees right ts) (λ vs end. Got (make vs) end) v rest =
      then_got (read_all trees right ts) (λ vs end. Got (make vs) end) v rest is in
      let got : read_all trees right ts ≡ Got all.first rest =
      all.got ∙ ap (Got all.first) (got_rest (make all.first) v all.mid rest all.goes_on) in
      ap (λ r. by_row reads (anywhere m) r ts) h.same
      ∙ ap (λ r. and_then r (λ vs end. Got (h.makes vs) end))
      (all_move right ts rest all.first (in_head m) g none got)
      ∙ ap (λ w. Got w rest) (h.made all.first)
      ∙ ap (λ w. Got (anywhere_value m w) rest) (ap (value_of v) all.goes_on)

  row_moves : (m : Nonterminal) (r : Row m) (other : Row (anywhere m)) (ts rest : List Terminal) (v : Value m)
      → MovesRow m r other
      → ((right : List Symbol) (make : Parts Value right → Value m) → r ≡ goes right make
      → guards (in_head m) right ≡ true)
      → NoneBehind (in_head m) rest → by_row trees m r ts ≡ Got v rest
      → by_row reads (anywhere m) other ts ≡ Got (anywhere_value m v) rest
  row_moves m (goes right make) other ts rest v h g none is =
      goes_moves m right make other ts rest v h (g right make refl) none is
  row_moves m (refuses cause) other ts rest v h g none is = cc

  moves_once : (m : Nonterminal) (ts rest : List Terminal) (v : Value m) → settled m rest ≡ true
      → by_row trees m (row m (look ts)) ts ≡ Got v rest → reads m ts ≡ Got v rest
      → reads (anywhere m) ts ≡ Got (anywhere_value m v) rest
  moves_once m ts rest v h is got =
      elim (in_head m) as (λ b. in_head m ≡ b → reads (anywhere m) ts ≡ Got (anywhere_value m v) rest) [
        | false ↦ λ e. stays m e ts rest v got
        | true ↦ λ e.
            let none : in_ahead rest ≡ false = behind_settled m rest h e in
            let other : MovesRow m (row m (look ts)) (row (anywhere m) (look ts)) =
            as_placed true (λ x. MovesAt x (look ts)) m e (rows_move m (look ts) (settled_in_head m rest h e))
            (in_not_ahead m ts rest v got none) in
            reads_law (anywhere m) ts
            ∙ row_moves m (row m (look ts)) (row (anywhere m) (look ts)) ts rest v other
            (λ right make same.
            settled_guards m right make rest h (subst (Settles m) same (rows_settle m (look ts))))
            (behind_settled m rest h) is
      ] refl

-- ---- readings

moved_to : (d : ℕ) (m : Nonterminal) (ts rest : List Terminal) (v : Value m) → settled m rest ≡ true
    → reads_to row d m ts ≡ Got v rest → reads (anywhere m) ts ≡ Got (anywhere_value m v) rest
unfolding reads_to
moved_to zero m ts rest v h is = cc
moved_to (suc d) m ts rest v h is =
    moves_once (reads_to row d) (to_reads d) (moved_to d) m ts rest v h is (to_reads (suc d) m ts rest v is)

-- What is read of a head is read outside of heads, with the same value, where no `in` stands behind it.
pub read_anywhere : (m : Nonterminal) (ts rest : List Terminal) (v : Value m) → settled m rest ≡ true
    → reads m ts ≡ Got v rest → reads (anywhere m) ts ≡ Got (anywhere_value m v) rest
unfolding reads_by
read_anywhere m ts rest v h is = moved_to (enough ts) m ts rest v h is

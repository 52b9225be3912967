-- A reading that counts own tokens ends where the reading of trees ends.
use Rattle.std.proofs.Common.{◌≡◌, ℕ, zero, suc, List, [], ◌∷◌, refl, ap, sym, ◌∙◌}
use Rattle.hz_tree.specs.declared.nonterminal.Nonterminal.{Nonterminal}
use Rattle.hz_tree.specs.declared.symbol.Symbol.{Symbol}
use Rattle.hz_tree.specs.declared.symbol.Symbol.TheVariants as s
use Rattle.hz_tree.specs.grammar.Look.{Terminal, look}
use Rattle.hz_tree.specs.grammar.Symbols.{Parts, RowOf, goes, refuses, Value}
use Rattle.hz_tree.specs.grammar.Table.{row}
use Rattle.hz_tree.specs.reading.Reading.{Reading, Got, Stuck, Deeper, and_then, Reader, read_one, read_all}
use Rattle.hz_tree.specs.reading.Reading.{by_row, reads_to, reads_by, enough, reads, Events, tells}
use Rattle.hz_laws.proofs.RowLaws.{tells_tree}
use Rattle.hz_laws.proofs.Told.{tell_reading}
use Rattle.hz_own.specs.Owned.{Owned, counting, own_row, owns}

-- where a reading ends, whatever it gives
abbrev ending : {A : Type 0} → Reading A → Reading (Unit {0})
ending (Got v ts) = Got tt ts
ending (Stuck cause ts) = Stuck cause ts
ending Deeper = Deeper

then_ends : {A B C D : Type 0} (r : Reading A) (r' : Reading B) (f : A → List Terminal → Reading C)
    (g : B → List Terminal → Reading D) → ending r ≡ ending r'
    → ((v : A) (w : B) (ts : List Terminal) → ending (f v ts) ≡ ending (g w ts))
    → ending (and_then r f) ≡ ending (and_then r' g)
then_ends (Got v ts) (Got w us) f g e h = h v w ts ∙ ap (λ xs. ending (g w xs)) (ends_at v w ts us e)
  where
    ends_at : {A B : Type 0} (v : A) (w : B) (ts us : List Terminal)
        → ending (Got v ts) ≡ ending (Got w us) → ts ≡ us
    ends_at v w ts us e = cc
then_ends (Got v ts) (Stuck cause us) f g e h = cc
then_ends (Got v ts) Deeper f g e h = cc
then_ends (Stuck cause ts) (Got w us) f g e h = cc
then_ends (Stuck cause ts) (Stuck why us) f g e h = e
then_ends (Stuck cause ts) Deeper f g e h = cc
then_ends Deeper (Got w us) f g e h = cc
then_ends Deeper (Stuck cause us) f g e h = cc
then_ends Deeper Deeper f g e h = refl

module _ {V : Nonterminal → Type 0} (trees : Reader Value) (counts : Reader V)
    (same : (m : Nonterminal) (ts : List Terminal) → ending (trees m ts) ≡ ending (counts m ts)) where
  one_ends : (x : Symbol) (ts : List Terminal) → ending (read_one trees x ts) ≡ ending (read_one counts x ts)
  one_ends (s.Take wanted) ts = refl
  one_ends (s.Read m) ts = same m ts
  one_ends (s.Tell signal) ts = refl

  all_ends : (xs : List Symbol) (ts : List Terminal) → ending (read_all trees xs ts) ≡ ending (read_all counts xs ts)
  all_ends [] ts = refl
  all_ends (x ∷ xs) ts =
      then_ends (read_one trees x ts) (read_one counts x ts) _ _ (one_ends x ts)
      (λ v w us. then_ends (read_all trees xs us) (read_all counts xs us) _ _ (all_ends xs us) (λ vs ws end. refl))

module _ (trees : Reader Value) (counts : Reader Owned)
    (same : (m : Nonterminal) (ts : List Terminal) → ending (trees m ts) ≡ ending (counts m ts)) where
  row_ends : (m : Nonterminal) (r : RowOf Value m) (ts : List Terminal)
      → ending (by_row trees m r ts) ≡ ending (by_row counts m (counting r) ts)
  row_ends m (goes right make) ts =
      then_ends (read_all trees right ts) (read_all counts right ts) _ _ (all_ends trees counts same right ts) (λ vs ws end. refl)
  row_ends m (refuses cause) ts = refl

to_ends : (d : ℕ) (m : Nonterminal) (ts : List Terminal)
    → ending (reads_to row d m ts) ≡ ending (reads_to own_row d m ts)
unfolding reads_to
to_ends zero m ts = refl
to_ends (suc d) m ts = row_ends (reads_to row d) (reads_to own_row d) (to_ends d) m (row m (look ts)) ts

pub reading_ends : (m : Nonterminal) (ts : List Terminal) → ending (reads m ts) ≡ ending (owns m ts)
unfolding reads_by
reading_ends m ts = to_ends (enough ts) m ts

pub one_ending : (x : Symbol) (ts : List Terminal) → ending (read_one reads x ts) ≡ ending (read_one owns x ts)
one_ending = one_ends reads owns reading_ends

pub all_ending : (xs : List Symbol) (ts : List Terminal) → ending (read_all reads xs ts) ≡ ending (read_all owns xs ts)
all_ending = all_ends reads owns reading_ends

pub same_end : {A B : Type 0} (v : A) (w : B) (r : Reading A) (r' : Reading B) (ts us : List Terminal)
    → ending r ≡ ending r' → r ≡ Got v ts → r' ≡ Got w us → ts ≡ us
same_end v w r r' ts us e h i = ended v w ts us (ap ending (sym h) ∙ e ∙ ap ending i)
  where
    ended : {A B : Type 0} (v : A) (w : B) (ts us : List Terminal)
        → ending (Got v ts) ≡ ending (Got w us) → ts ≡ us
    ended v w ts us e = cc

-- ---- what is told

told_ends : (m : Nonterminal) (r : Reading (Value m)) → ending r ≡ ending (tell_reading m r)
told_ends m (Got v ts) = refl
told_ends m (Stuck cause ts) = refl
told_ends m Deeper = refl

telling_ends : (m : Nonterminal) (ts : List Terminal) → ending (reads m ts) ≡ ending (tells m ts)
telling_ends m ts = told_ends m (reads m ts) ∙ ap ending (sym (tells_tree m ts))

-- something is told up to where the reading ends
pub record Tells (xs : List Symbol) (ts rest : List Terminal) : Type 0 where
  pub events : Parts Events xs
  pub told : read_all tells xs ts ≡ Got events rest

got_end : {A : Type 0} (xs : List Symbol) (v : A) (r : Reading (Parts Events xs)) (rest : List Terminal)
    → ending (Got v rest) ≡ ending r → (events : Parts Events xs) × (r ≡ Got events rest)
got_end xs v (Got events ts) rest h = (events, ap (Got events) (sym (ended v events rest ts h)))
  where
    ended : {A B : Type 0} (v : A) (w : B) (ts us : List Terminal)
        → ending (Got v ts) ≡ ending (Got w us) → ts ≡ us
    ended v w ts us e = cc
got_end xs v (Stuck cause ts) rest h = cc
got_end xs v Deeper rest h = cc

pub read_tells : (xs : List Symbol) (ts rest : List Terminal) (vs : Parts Value xs)
    → read_all reads xs ts ≡ Got vs rest → Tells xs ts rest
read_tells xs ts rest vs h =
    let g = got_end xs vs (read_all tells xs ts) rest
    (ap ending (sym h) ∙ all_ends reads tells telling_ends xs ts) in
    record { events = g.0; told = g.1 }

-- What is read where a function stands is read by a reader that begins there.
use Rattle.std.proofs.Common.{◌≡◌, ℕ, Bool, true, false, inl, inr, List, [], ◌∷◌, ◌++◌, Option, Some, None, drop}
use Rattle.std.proofs.Common.{codes, refl, ap, sym, ◌∙◌, subst}
use Rattle.std.specs.Option.{option_and_then}
use Rattle.hz_tree.specs.declared.symbol.Symbol.{Symbol}
use Rattle.hz_tree.specs.grammar.Look.{Terminal, terminals}
use Rattle.hz_tree.specs.grammar.Symbols.{Parts, Value}
use Rattle.hz_tree.specs.reading.Reading.{Got, read_all, reads, end_behind}
use Rattle.hz_tree.specs.tokens.Text.{Text, begins}
use Rattle.hz_tree.specs.tokens.Tokens.{braces, tokens}
use Rattle.hz_middle.specs.Place.{beginning, left}
use Rattle.hz_laws.specs.Middle.{Classed, braces_behind}
use Rattle.hz_laws.proofs.Balance.{terminals_classed}
use Rattle.hz_alone.specs.Middle.{goes_on, Parted, SeenAs, begun, opens, untold, ReadsAlike}
use Rattle.hz_own.specs.Owned.{Owned, counted, owns}
use Rattle.hz_alone.proofs.Begun.{Begins, symbols_begin}
use Rattle.hz_alone.proofs.BegunCounts.{CountsBegun, symbols_counted_begin}
use Rattle.hz_alone.proofs.Readings.{symbols_same, symbols_counted}
use Rattle.hz_alone.proofs.Terminals.{seen_left}
use Rattle.hz_alone.proofs.Walking.{step, walked, Walking, symbols_walk, braces_are, goes_on_ends}
use Rattle.hz_alone.specs.Walks.{walk, walks_all}

-- ---- what is read ends before the hole does

record Reached (passed before : List Terminal) : Type 0 where
  mid : List Terminal
  split : before ≡ passed ++ mid
  closed : braces_behind mid [] ≡ []

none_some : (a : List Bool) → None ≡ Some a → ⊥
none_some a h = cc

some_is : (a b : List Bool) → Some a ≡ Some b → a ≡ b
some_is a b h = cc

head_is : (x y : Terminal) (ts us : List Terminal) → x ∷ ts ≡ y ∷ us → x ≡ y
head_is x y ts us h = cc

tail_is : (x y : Terminal) (ts us : List Terminal) → x ∷ ts ≡ y ∷ us → ts ≡ us
tail_is x y ts us h = cc

-- it is not passed
stopped : (p : Terminal) (ps : List Terminal) (inner : List Bool) → goes_on p.class ≡ true → inner ≡ []
    → walked (p ∷ ps) inner ≡ Some [] → ⊥
stopped p ps inner g none h =
    none_some [] (sym (ap (option_and_then (walked ps)) (ap (step (walk p.class)) none ∙ goes_on_ends p.class g)) ∙ h)

-- a token is passed, and others behind it
record Passes (p : Terminal) (ps : List Terminal) (inner : List Bool) : Type 0 where
  now : List Bool
  first : step (walk p.class) inner ≡ Some now
  others : walked ps now ≡ Some []

passes_by : (p : Terminal) (ps : List Terminal) (inner : List Bool) (o : Option (List Bool))
    → step (walk p.class) inner ≡ o → option_and_then (walked ps) o ≡ Some [] → Passes p ps inner
passes_by p ps inner None e h = absurd (none_some [] h)
passes_by p ps inner (Some now) e h = record { now = now; first = e; others = h }

reached_then : (p : Terminal) (ps bs : List Terminal) → Reached ps bs → Reached (p ∷ ps) (p ∷ bs)
reached_then p ps bs r = record { mid = r.mid; split = ap (λ us. p ∷ us) r.split; closed = r.closed }

reached : (passed before rest more : List Terminal) (e : Terminal) (inner : List Bool) → Classed passed
    → passed ++ rest ≡ before ++ e ∷ more → walked passed inner ≡ Some [] → braces_behind before inner ≡ []
    → goes_on e.class ≡ true → Reached passed before
reached [] before rest more e inner c h w b g = record {
  mid = before;
  split = refl;
  closed = ap (braces_behind before) (sym (some_is inner [] w)) ∙ b;
}
reached (p ∷ ps) [] rest more e inner c h w b g =
    absurd (stopped p ps inner (ap (λ x. goes_on x.class) (head_is p e _ more h) ∙ g) b w)
reached (p ∷ ps) (q ∷ bs) rest more e inner c h w b g =
    let o : Passes p ps inner = passes_by p ps inner (step (walk p.class) inner) refl w in
    let same : p ≡ q = head_is p q _ _ h in
    let now : braces q.token inner ≡ o.now =
    ap (λ x. braces x.token inner) (sym same) ∙ braces_are p inner o.now c.0 o.first in
    subst (λ x. Reached (p ∷ ps) (x ∷ bs)) same
    (reached_then p ps bs
    (reached ps bs rest more e o.now c.1 (tail_is p q _ _ h) o.others (ap (braces_behind bs) (sym now) ∙ b) g))

classed_first : (ps qs : List Terminal) → Classed (ps ++ qs) → Classed ps
classed_first [] qs h = tt
classed_first (p ∷ ps) qs h = (h.0, classed_first ps qs h.1)

classed_second : (ps qs : List Terminal) → Classed (ps ++ qs) → Classed qs
classed_second [] qs h = h
classed_second (p ∷ ps) qs h = classed_second ps qs h.1

-- ---- readings

end_by : (before more others rest seen : List Terminal) (e f : Terminal) → e.behind ≡ f.behind
    → rest ≡ before ++ e ∷ more → seen ≡ before ++ f ∷ others → end_behind seen ≡ end_behind rest
end_by [] more others rest seen e f same h i = ap end_behind i ∙ sym same ∙ sym (ap end_behind h)
end_by (b ∷ before) more others rest seen e f same h i = ap end_behind i ∙ sym (ap end_behind h)

end_same : (rest seen : List Terminal) → SeenAs [] rest seen → end_behind seen ≡ end_behind rest
end_same rest seen (inl same) = sym (ap end_behind same)
end_same rest seen (inr p) =
    end_by p.before p.more p.others rest seen p.ending p.brace p.ends.behind p.source_is p.seen_is

-- What is read of the source's terminals is read of what is seen, with the same counts, up to the same place.
record Leaves (right : List Symbol) (ts seen rest : List Terminal) : Type 0 where
  left : List Terminal
  behind : SeenAs [] rest left
  trees : (parts : Parts Value right) → read_all reads right ts ≡ Got parts rest
      → read_all reads right seen ≡ Got parts left
  counts : (counts : Parts Owned right) → read_all owns right ts ≡ Got counts rest
      → read_all owns right seen ≡ Got counts left

-- It is left before the hole ends.
record Before (ts seen rest : List Terminal) (p : Parted [] ts seen) : Type 0 where
  mid : List Terminal
  rest_is : rest ≡ mid ++ p.ending ∷ p.more
  closed : braces_behind mid [] ≡ []

before_hole : (right : List Symbol) (ts seen rest : List Terminal) (parts : Parts Value right)
    → walks_all [] right ≡ true → Classed ts → read_all reads right ts ≡ Got parts rest → (p : Parted [] ts seen)
    → Before ts seen rest p
before_hole right ts seen rest parts walks classed h p =
    let w : Walking [] ts rest = symbols_walk right ts parts rest walks h in
    let r : Reached w.passed p.before =
    reached w.passed p.before rest p.more p.ending [] (classed_first w.passed rest (subst Classed w.split classed))
    (sym w.split ∙ p.source_is) (w.closed []) p.closed p.ends.hole in
    record {
      mid = r.mid;
      rest_is =
          left_is w.passed rest r.mid (p.ending ∷ p.more)
          (sym w.split ∙ p.source_is ∙ ap (λ us. us ++ p.ending ∷ p.more) r.split);
      closed = r.closed;
    }
  where
    left_is : (passed rest mid others : List Terminal) → passed ++ rest ≡ (passed ++ mid) ++ others
        → rest ≡ mid ++ others
    left_is [] rest mid others e = e
    left_is (x ∷ passed) rest mid others e = left_is passed rest mid others (tail_is x x _ _ e)

parted_leaves : (right : List Symbol) (ts seen rest : List Terminal) → untold right ≡ true → (p : Parted [] ts seen)
    → Before ts seen rest p → Leaves right ts seen rest
parted_leaves right ts seen rest none p b =
    record {
      left = b.mid ++ p.brace ∷ p.others;
      behind = inr (record {
        before = b.mid;
        ending = p.ending;
        more = p.more;
        brace = p.brace;
        others = p.others;
        source_is = b.rest_is;
        seen_is = refl;
        ends = p.ends;
        closed = b.closed;
      });
      trees = λ vs got.
          ap (read_all reads right) p.seen_is
          ∙ symbols_same p.ending p.brace p.more p.others p.ends right p.before b.mid vs none
          (ap (read_all reads right) (sym p.source_is) ∙ got ∙ ap (Got vs) b.rest_is);
      counts = λ vs got.
          ap (read_all owns right) p.seen_is
          ∙ symbols_counted p.ending p.brace p.more p.others p.ends right p.before b.mid vs none
          (ap (read_all owns right) (sym p.source_is) ∙ got ∙ ap (Got vs) b.rest_is);
    }

leaves : (right : List Symbol) (ts seen rest : List Terminal) (parts : Parts Value right) → untold right ≡ true
    → walks_all [] right ≡ true → Classed ts → read_all reads right ts ≡ Got parts rest → SeenAs [] ts seen
    → Leaves right ts seen rest
leaves right ts seen rest parts none walks classed h (inl same) = record {
  left = rest;
  behind = inl refl;
  trees = λ vs got. ap (read_all reads right) (sym same) ∙ got;
  counts = λ vs got. ap (read_all owns right) (sym same) ∙ got;
}
leaves right ts seen rest parts none walks classed h (inr p) =
    parted_leaves right ts seen rest none p (before_hole right ts seen rest parts walks classed h p)

begun_classed : (x : Terminal) (rest : List Terminal) → Classed (x ∷ rest) → Classed (begun (x ∷ rest))
begun_classed x rest h = (h.0, h.1)

source_classed : (source : Text) (passed behind : List Terminal) (x : Terminal)
    → terminals source ≡ passed ++ x ∷ behind → Classed (begun (x ∷ behind))
unfolding terminals
source_classed source passed behind x split =
    begun_classed x behind
    (classed_second passed (x ∷ behind) (subst Classed split (terminals_classed (tokens source) 0)))

-- what a reader finds that begins at a token of a source, where symbols are read
record There (source : Text) (right : List Symbol) (parts : Parts Value right) (ts rest : List Terminal) (at : ℕ)
    : Type 0 where
  alone : Begins right parts rest (begun ts)
  leaving : Leaves right (begun ts) (left (beginning source at)) rest

there : (source : Text) (passed behind rest : List Terminal) (x : Terminal) (right : List Symbol)
    (parts : Parts Value right) → terminals source ≡ passed ++ x ∷ behind
    → begins (codes "-->") (drop x.token.at source) ≡ false → opens right ≡ true → untold right ≡ true
    → walks_all [] right ≡ true → read_all reads right (x ∷ behind) ≡ Got parts rest
    → There source right parts (x ∷ behind) rest x.token.at
there source passed behind rest x right parts split comment o none walks h =
    let b : Begins right parts rest (begun (x ∷ behind)) = symbols_begin right x behind rest parts o h in
    record {
      alone = b;
      leaving =
          leaves right (begun (x ∷ behind)) (left (beginning source x.token.at)) rest b.others none walks
          (source_classed source passed behind x split) b.read (seen_left source passed behind x split comment);
    }

-- What is read there ends before the hole does in which it begins.
pub ends_before : (source : Text) (passed behind rest seen : List Terminal) (x : Terminal) (right : List Symbol)
    (parts : Parts Value right) → terminals source ≡ passed ++ x ∷ behind → opens right ≡ true
    → walks_all [] right ≡ true → read_all reads right (x ∷ behind) ≡ Got parts rest
    → (p : Parted [] (begun (x ∷ behind)) seen) → (mid : List Terminal) × (rest ≡ mid ++ p.ending ∷ p.more)
ends_before source passed behind rest seen x right parts split o walks h p =
    let b : Begins right parts rest (begun (x ∷ behind)) = symbols_begin right x behind rest parts o h in
    let e : Before (begun (x ∷ behind)) seen rest p =
    before_hole right (begun (x ∷ behind)) seen rest b.others walks (source_classed source passed behind x split)
    b.read p in
    (e.mid, e.rest_is)

-- Where symbols are read in the middle of a source, a reader that begins there reads the same.
pub reads_there : (source : Text) (passed behind rest : List Terminal) (x : Terminal) (right : List Symbol)
    (parts : Parts Value right) → terminals source ≡ passed ++ x ∷ behind
    → begins (codes "-->") (drop x.token.at source) ≡ false → opens right ≡ true → untold right ≡ true
    → walks_all [] right ≡ true → read_all reads right (x ∷ behind) ≡ Got parts rest
    → ReadsAlike right parts rest (left (beginning source x.token.at))
reads_there source passed behind rest x right parts split comment o none walks h =
    let t : There source right parts (x ∷ behind) rest x.token.at =
    there source passed behind rest x right parts split comment o none walks h in
    record {
      others = t.alone.others;
      left = t.leaving.left;
      read = t.leaving.trees t.alone.others t.alone.read;
      same = t.alone.same;
      behind = t.leaving.behind;
      end = end_same rest t.leaving.left t.leaving.behind;
    }

-- trees and counts are read up to the same place
pub record CountsAlike (right : List Symbol) (counts : Parts Owned right) (seen : List Terminal) : Type 0 where
  pub trees : Parts Value right
  pub others : Parts Owned right
  pub left : List Terminal
  pub read : read_all reads right seen ≡ Got trees left
  pub read_counts : read_all owns right seen ≡ Got others left
  pub same : counted right others ≡ counted right counts

-- It counts as much.
pub counts_there : (source : Text) (passed behind rest : List Terminal) (x : Terminal) (right : List Symbol)
    (parts : Parts Value right) (counts : Parts Owned right) → terminals source ≡ passed ++ x ∷ behind
    → begins (codes "-->") (drop x.token.at source) ≡ false → opens right ≡ true → untold right ≡ true
    → walks_all [] right ≡ true → read_all reads right (x ∷ behind) ≡ Got parts rest
    → read_all owns right (x ∷ behind) ≡ Got counts rest
    → CountsAlike right counts (left (beginning source x.token.at))
counts_there source passed behind rest x right parts counts split comment o none walks h i =
    let t : There source right parts (x ∷ behind) rest x.token.at =
    there source passed behind rest x right parts split comment o none walks h in
    let c : CountsBegun right counts rest (begun (x ∷ behind)) = symbols_counted_begin right x behind rest counts o i in
    record {
      trees = t.alone.others;
      others = c.others;
      left = t.leaving.left;
      read = t.leaving.trees t.alone.others t.alone.read;
      read_counts = t.leaving.counts c.others c.read;
      same = c.same;
    }

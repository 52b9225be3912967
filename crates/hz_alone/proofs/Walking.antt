-- A reading ends no brace and no hole that was open before it, and goes on with no template that it did not begin.
use Rattle.std.proofs.Common.{◌≡◌, ℕ, zero, suc, Bool, true, false, if◌then◌else◌, List, [], ◌∷◌, ◌++◌, Option, Some}
use Rattle.std.proofs.Common.{None}
use Rattle.std.proofs.Common.{refl, ap, sym, ◌∙◌, subst, append_assoc}
use Rattle.std.specs.Option.{option_and_then}
use denote.Enum.Bare.{same_true}
use Rattle.hz_tree.specs.contracts.class.Class.{the_type as class_type}
use Rattle.hz_tree.specs.declared.class.Class.{Class}
use Rattle.hz_tree.specs.declared.class.Class.TheVariants as k
use Rattle.hz_tree.specs.declared.nonterminal.Nonterminal.{Nonterminal}
use Rattle.hz_tree.specs.declared.symbol.Symbol.{Symbol}
use Rattle.hz_tree.specs.declared.symbol.Symbol.TheVariants as s
use Rattle.hz_tree.specs.grammar.Classes.{fits, is_name, same_class, class_of}
use Rattle.hz_tree.specs.grammar.Look.{Terminal, look, stuck}
use Rattle.hz_tree.specs.grammar.Symbols.{Parts, Value, Row, goes, refuses}
use Rattle.hz_tree.specs.grammar.Table.{row, step_of}
use Rattle.hz_tree.specs.reading.Reading.{Got, Stuck, takes, Reader, read_all, by_row, reads_to, reads_by, enough}
use Rattle.hz_tree.specs.reading.Reading.{reads}
use Rattle.hz_tree.specs.tokens.Tokens.{braces}
use Rattle.hz_laws.specs.Middle.{closes_hole, hole_by, hole}
use Rattle.hz_laws.proofs.Balance.{Then, then_got, got_rest}
use Rattle.hz_laws.proofs.Braces.{change, changed, is_token, token_changes}
use Rattle.hz_alone.specs.Middle.{goes_on}
use Rattle.hz_alone.specs.Walks.{Walk, stays, begins, ends, reopens, stops, walk, after_walk, after_hole, is_none}
use Rattle.hz_alone.specs.Walks.{walks_all}
use Rattle.hz_alone.proofs.Walks.{is_walked, rows_walk}

-- ---- tokens

-- what is open behind a token, where it can stand
abbrev pub step : Walk → List Bool → Option (List Bool)
step stays inner = Some inner
step (begins hole) inner = Some (hole ∷ inner)
step ends [] = None
step ends (b ∷ inner) = Some inner
step reopens [] = None
step reopens (b ∷ inner) = Some (b ∷ inner)
step stops inner = None

abbrev pub walked : List Terminal → List Bool → Option (List Bool)
walked [] inner = Some inner
walked (x ∷ ts) inner = option_and_then (walked ts) (step (walk x.class) inner)

then_walked : (ps qs : List Terminal) (o : Option (List Bool))
    → ((inner : List Bool) → walked (ps ++ qs) inner ≡ option_and_then (walked qs) (walked ps inner))
    → option_and_then (walked (ps ++ qs)) o ≡ option_and_then (walked qs) (option_and_then (walked ps) o)
then_walked ps qs None h = refl
then_walked ps qs (Some inner) h = h inner

walked_append : (ps qs : List Terminal) (inner : List Bool)
    → walked (ps ++ qs) inner ≡ option_and_then (walked qs) (walked ps inner)
walked_append [] qs inner = refl
walked_append (p ∷ ps) qs inner = then_walked ps qs (step (walk p.class) inner) (walked_append ps qs)

-- `rest` is left, and behind what was passed nothing is open of these or of what was opened on the way
pub record Walking (inner : List Bool) (ts rest : List Terminal) : Type 0 where
  pub passed : List Terminal
  pub split : ts ≡ passed ++ rest
  pub closed : (outer : List Bool) → walked passed (inner ++ outer) ≡ Some outer

-- ---- one symbol

record Moves (made : Walk) (inner : List Bool) (test : List Bool → Bool) : Type 0 where
  now : List Bool
  tested : test now ≡ true
  moved : (outer : List Bool) → step made (inner ++ outer) ≡ Some (now ++ outer)

moves : (made : Walk) (inner : List Bool) (test : List Bool → Bool) → after_walk made inner test ≡ true
    → Moves made inner test
moves stays inner test h = record { now = inner; tested = h; moved = λ outer. refl }
moves (begins hole) inner test h = record { now = hole ∷ inner; tested = h; moved = λ outer. refl }
moves ends [] test h = cc
moves ends (b ∷ inner) test h = record { now = inner; tested = h; moved = λ outer. refl }
moves reopens [] test h = cc
moves reopens (b ∷ inner) test h = record { now = b ∷ inner; tested = h; moved = λ outer. refl }
moves stops inner test h = cc

name_walks : (found : Class) → is_name found ≡ true → walk found ≡ stays
name_walks k.Name h = refl
name_walks k.LeftBrace h = cc
name_walks k.RightBrace h = cc
name_walks k.TemplateHead h = cc
name_walks k.TemplateMiddle h = cc
name_walks k.TemplateTail h = cc
name_walks k.Malformed h = cc
name_walks k.BigInt h = cc
name_walks k.NumberForm h = cc
name_walks k.PrivateName h = cc
name_walks k.IdentifierEscape h = cc
name_walks k.HtmlComment h = cc
name_walks k.Character h = cc
name_walks _ h = refl

fits_walks : (wanted found : Class) → fits wanted found ≡ true → walk found ≡ walk wanted
unfolding same_class
fits_walks k.Name found h = name_walks found h
fits_walks wanted found h = ap walk (sym (same_true class_type tt wanted found h))

record Takes (wanted : Class) (ts : List Terminal) (x : Terminal) (rest : List Terminal) : Type 0 where
  split : ts ≡ x ∷ rest
  walks : walk x.class ≡ walk wanted

takes_got : (wanted : Class) (ts : List Terminal) (x : Terminal) (rest : List Terminal) → takes wanted ts ≡ Got x rest
    → Takes wanted ts x rest
takes_got wanted [] x rest h = cc
takes_got wanted (y ∷ ts) x rest h =
    elim (fits wanted y.class) as (λ b. fits wanted y.class ≡ b
    → (if b then Got y ts else Stuck (stuck (look (y ∷ ts))) (y ∷ ts)) ≡ Got x rest → Takes wanted (y ∷ ts) x rest) [
      | true ↦ λ e got. subst (λ z. Takes wanted (y ∷ ts) z rest) (first_same y x ts rest got) (record {
        split = ap (λ us. y ∷ us) (got_rest y x ts rest got);
        walks = fits_walks wanted y.class e;
      })
      | false ↦ λ e got. cc
    ] refl h
  where
    first_same : (y x : Terminal) (ts rest : List Terminal) → Got y ts ≡ Got x rest → y ≡ x
    first_same y x ts rest got = cc

record Holes (closes : Bool) (inner : List Bool) (test : List Bool → Bool) : Type 0 where
  now : List Bool
  tested : test now ≡ true
  split : inner ≡ hole_by closes ++ now

holes : (closes : Bool) (inner : List Bool) (test : List Bool → Bool) → after_hole closes inner test ≡ true
    → Holes closes inner test
holes false inner test h = record { now = inner; tested = h; split = refl }
holes true [] test h = cc
holes true (true ∷ inner) test h = record { now = inner; tested = h; split = refl }
holes true (false ∷ inner) test h = cc

none_walks : (inner : List Bool) (ts : List Terminal) → is_none inner ≡ true → Walking inner ts ts
none_walks [] ts h = record { passed = []; split = refl; closed = λ outer. refl }
none_walks (b ∷ inner) ts h = cc

token_walks : (wanted : Class) (inner : List Bool) (test : List Bool → Bool) (x : Terminal)
    (ts mid rest : List Terminal) (m : Moves (walk wanted) inner test) → Takes wanted ts x mid
    → Walking m.now mid rest → Walking inner ts rest
token_walks wanted inner test x ts mid rest m t w = record {
  passed = x ∷ w.passed;
  split = t.split ∙ ap (λ us. x ∷ us) w.split;
  closed = λ outer.
      ap (λ made. option_and_then (walked w.passed) (step made (inner ++ outer))) t.walks
      ∙ ap (option_and_then (walked w.passed)) (m.moved outer) ∙ w.closed outer;
}

tree_walks : (closes : Bool) (inner : List Bool) (test : List Bool → Bool) (ts mid rest : List Terminal)
    (h : Holes closes inner test) → Walking (hole_by closes) ts mid → Walking h.now mid rest → Walking inner ts rest
tree_walks closes inner test ts mid rest h v w = record {
  passed = v.passed ++ w.passed;
  split = v.split ∙ ap (λ us. v.passed ++ us) w.split ∙ sym (append_assoc v.passed w.passed rest);
  closed = λ outer.
      walked_append v.passed w.passed (inner ++ outer)
      ∙ ap (λ i. option_and_then (walked w.passed) (walked v.passed (i ++ outer))) h.split
      ∙ ap (λ i. option_and_then (walked w.passed) (walked v.passed i)) (append_assoc (hole_by closes) h.now outer)
      ∙ ap (option_and_then (walked w.passed)) (v.closed (h.now ++ outer)) ∙ w.closed outer;
}

-- ---- readings

module _ (trees : Reader Value)
    (walking : (m : Nonterminal) (ts : List Terminal) (v : Value m) (rest : List Terminal) → trees m ts ≡ Got v rest
    → Walking (hole m) ts rest) where
  all_walking : (right : List Symbol) (inner : List Bool) (ts : List Terminal) (vs : Parts Value right)
      (rest : List Terminal) → walks_all inner right ≡ true → read_all trees right ts ≡ Got vs rest
      → Walking inner ts rest
  all_walking [] inner ts vs rest h is =
      subst (Walking inner ts) (got_rest tt vs ts rest is) (none_walks inner ts h)
  all_walking (s.Take wanted ∷ more) inner ts vs rest h is =
      let one : Then (takes wanted ts) _ vs rest = then_got (takes wanted ts) _ vs rest is in
      let others : Then (read_all trees more one.mid) _ vs rest =
      then_got (read_all trees more one.mid) _ vs rest one.goes_on in
      let m : Moves (walk wanted) inner (λ now. walks_all now more) =
      moves (walk wanted) inner (λ now. walks_all now more) h in
      token_walks wanted inner (λ now. walks_all now more) one.first ts one.mid rest m
      (takes_got wanted ts one.first one.mid one.got)
      (all_walking more m.now one.mid others.first rest m.tested
      (others.got ∙ ap (Got others.first) (got_rest _ vs others.mid rest others.goes_on)))
  all_walking (s.Read m ∷ more) inner ts vs rest h is =
      let one : Then (trees m ts) _ vs rest = then_got (trees m ts) _ vs rest is in
      let others : Then (read_all trees more one.mid) _ vs rest =
      then_got (read_all trees more one.mid) _ vs rest one.goes_on in
      let o : Holes (closes_hole m) inner (λ now. walks_all now more) =
      holes (closes_hole m) inner (λ now. walks_all now more) h in
      tree_walks (closes_hole m) inner (λ now. walks_all now more) ts one.mid rest o
      (walking m ts one.first one.mid one.got)
      (all_walking more o.now one.mid others.first rest o.tested
      (others.got ∙ ap (Got others.first) (got_rest _ vs others.mid rest others.goes_on)))
  all_walking (s.Tell signal ∷ more) inner ts vs rest h is =
      let others : Then (read_all trees more ts) _ vs rest = then_got (read_all trees more ts) _ vs rest is in
      all_walking more inner ts others.first rest h
      (others.got ∙ ap (Got others.first) (got_rest _ vs others.mid rest others.goes_on))

  row_walking : (m : Nonterminal) (r : Row m) (ts : List Terminal) (v : Value m) (rest : List Terminal)
      → is_walked m (step_of r) ≡ true → by_row trees m r ts ≡ Got v rest → Walking (hole m) ts rest
  row_walking m (goes right make) ts v rest h is =
      let all : Then (read_all trees right ts) (λ vs end. Got (make vs) end) v rest =
      then_got (read_all trees right ts) (λ vs end. Got (make vs) end) v rest is in
      all_walking right (hole m) ts all.first rest h
      (all.got ∙ ap (Got all.first) (got_rest (make all.first) v all.mid rest all.goes_on))
  row_walking m (refuses cause) ts v rest h is = cc

walking_to : (d : ℕ) (m : Nonterminal) (ts : List Terminal) (v : Value m) (rest : List Terminal)
    → reads_to row d m ts ≡ Got v rest → Walking (hole m) ts rest
unfolding reads_to
walking_to zero m ts v rest is = cc
walking_to (suc d) m ts v rest is =
    row_walking (reads_to row d) (walking_to d) m (row m (look ts)) ts v rest (rows_walk m (look ts)) is

reading_walks : (m : Nonterminal) (ts : List Terminal) (v : Value m) (rest : List Terminal) → reads m ts ≡ Got v rest
    → Walking (hole m) ts rest
unfolding reads_by
reading_walks m ts v rest is = walking_to (enough ts) m ts v rest is

-- symbols that close what they open
pub symbols_walk : (right : List Symbol) (ts : List Terminal) (vs : Parts Value right) (rest : List Terminal)
    → walks_all [] right ≡ true → read_all reads right ts ≡ Got vs rest → Walking [] ts rest
symbols_walk right ts vs rest h is = all_walking reads reading_walks right [] ts vs rest h is

-- ---- the end of a hole that was open before is not passed

record Alike (c : Class) (inner now : List Bool) : Type 0 where
  token : is_token (change c) ≡ true
  same : changed (change c) inner ≡ now

some_is : (a b : List Bool) → Some a ≡ Some b → a ≡ b
some_is a b h = cc

alike : (c : Class) (inner now : List Bool) → step (walk c) inner ≡ Some now → Alike c inner now
alike k.LeftBrace inner now h = record { token = refl; same = some_is (false ∷ inner) now h }
alike k.TemplateHead inner now h = record { token = refl; same = some_is (true ∷ inner) now h }
alike k.RightBrace [] now h = cc
alike k.RightBrace (b ∷ inner) now h = record { token = refl; same = some_is inner now h }
alike k.TemplateTail [] now h = cc
alike k.TemplateTail (b ∷ inner) now h = record { token = refl; same = some_is inner now h }
alike k.TemplateMiddle [] now h = cc
alike k.TemplateMiddle (b ∷ inner) now h = record { token = refl; same = some_is (b ∷ inner) now h }
alike k.Malformed inner now h = cc
alike k.BigInt inner now h = cc
alike k.NumberForm inner now h = cc
alike k.PrivateName inner now h = cc
alike k.IdentifierEscape inner now h = cc
alike k.HtmlComment inner now h = cc
alike k.Character inner now h = cc
alike c inner now h = record { token = refl; same = some_is inner now h }

pub goes_on_ends : (c : Class) → goes_on c ≡ true → step (walk c) [] ≡ None
goes_on_ends k.TemplateMiddle g = refl
goes_on_ends k.TemplateTail g = refl
goes_on_ends k.Malformed g = refl
goes_on_ends _ g = cc

pub braces_are : (x : Terminal) (inner now : List Bool) → x.class ≡ class_of x.token
    → step (walk x.class) inner ≡ Some now → braces x.token inner ≡ now
braces_are x inner now same h =
    let a : Alike (class_of x.token) inner now =
    alike (class_of x.token) inner now (ap (λ c. step (walk c) inner) (sym same) ∙ h) in
    token_changes x.token inner a.token ∙ a.same

-- The number of the function that starts at a place, in a list of functions that start one behind the other.
use Rattle.std.proofs.Common.{◌≡◌, ℕ, zero, suc, ◌<◌, ◌≤◌, Bool, true, false, nat_lt, List, [], ◌∷◌, map, filter, length}
use Rattle.std.proofs.Common.{cond, Some, refl, ap, sym, ◌∙◌, subst, arith}
use Rattle.std.specs.List.{slice_get}
use Rattle.std.proofs.lemmas.Bool.Decides.{nat_tests}
use Rattle.hz_tree.specs.declared.index.FunctionInfo.{FunctionInfo}
use Rattle.hz_tree.specs.declared.nonterminal.Nonterminal.TheVariants as n
use Rattle.hz_tree.specs.declared.tree.Tree.{Tree}
use Rattle.hz_tree.specs.grammar.Look.{terminals}
use Rattle.hz_tree.specs.reading.Reading.{Reading, Got, Stuck, Deeper, reads}
use Rattle.hz_tree.specs.sources.Refusals.{functions_by, functions}
use Rattle.hz_tree.specs.tokens.Text.{Text}
use Rattle.hz_tree.specs.trees.Functions.{functions_of}
use Rattle.hz_tree.specs.trees.FunctionTrees.{number_at}
use Rattle.hz_stands.specs.Nodes.{Extent, FunctionNode, extent_of_info, extent_of_node, nodes_of, script_extent}
use Rattle.hz_stands.proofs.Trees.{extents_are}
use Rattle.hz_own.specs.Known.{Rises, node_starts}
use Rattle.hz_own.proofs.Rise.{nodes_rise}

-- ---- functions start one behind the other

abbrev pub others_start : List FunctionInfo → List ℕ
others_start [] = []
others_start (script ∷ others) = map (λ f. f.start) others

abbrev starts_of : List Extent → List ℕ
starts_of extents = map (λ e. e.start) extents

info_starts : (fs : List FunctionInfo) → starts_of (map extent_of_info fs) ≡ map (λ f. f.start) fs
info_starts [] = refl
info_starts (f ∷ fs) = ap (λ xs. f.start ∷ xs) (info_starts fs)

nodes_start : (fs : List FunctionNode) → starts_of (map extent_of_node fs) ≡ node_starts fs
nodes_start [] = refl
nodes_start (f ∷ fs) = ap (λ xs. f.at ∷ xs) (nodes_start fs)

abbrev tail_of : List Extent → List Extent
tail_of [] = []
tail_of (e ∷ es) = es

same_starts : (fs : List FunctionInfo) (first : Extent) (nodes : List FunctionNode)
    → map extent_of_info fs ≡ first ∷ map extent_of_node nodes → others_start fs ≡ node_starts nodes
same_starts [] first nodes h = cc
same_starts (f ∷ fs) first nodes h = sym (info_starts fs) ∙ ap (λ es. starts_of (tail_of es)) h ∙ nodes_start nodes

by_rise : (source : Text) (r : Reading Tree) → reads n.Script (terminals source) ≡ r
    → Rises 0 (others_start (functions_by source r))
by_rise source (Got script rest) is =
    subst (Rises 0)
    (sym (same_starts (functions_of source script) (script_extent source) (nodes_of script) (extents_are source script)))
    (nodes_rise source script rest is)
by_rise source (Stuck cause ts) is = tt
by_rise source Deeper is = tt

pub others_rise : (source : Text) → Rises 0 (others_start (functions source))
unfolding functions
others_rise source = by_rise source (reads n.Script (terminals source)) refl

-- ---- how many start before a place

abbrev before : ℕ → List FunctionInfo → ℕ
before place fs = length (filter (λ f. nat_lt f.start place) fs)

-- what is known of the function at a place of the list
pub record Side (place k : ℕ) (f : FunctionInfo) (count : ℕ) : Type 0 where
  pub below : f.start < place → k < count
  pub above : (f.start < place → ⊥) → count ≤ k

none_before : (place from : ℕ) (fs : List FunctionInfo) → place ≤ from → Rises from (map (λ f. f.start) fs)
    → before place fs ≡ 0
none_before place from [] h r = refl
none_before place from (f ∷ fs) h r =
    let first : from ≤ f.start = r.0 in
    let no : nat_lt f.start place ≡ false = grind (arith, nat_tests) in
    ap (λ b. length (cond b (f ∷ filter (λ g. nat_lt g.start place) fs) (filter (λ g. nat_lt g.start place) fs))) no
    ∙ none_before place (suc f.start) fs (omega (arith, first)) r.1

later : (place k : ℕ) (g : FunctionInfo) (gs : List FunctionInfo) (f : FunctionInfo)
    → Rises (suc g.start) (map (λ x. x.start) gs) → (b : Bool) → nat_lt g.start place ≡ b
    → Side place k f (before place gs) → Side place (suc k) f (before place (g ∷ gs))
later place k g gs f r true e s =
    let count : before place (g ∷ gs) ≡ suc (before place gs) =
    ap (λ b. length (cond b (g ∷ filter (λ x. nat_lt x.start place) gs) (filter (λ x. nat_lt x.start place) gs))) e in
    record {
      below = λ less. (let i = s.below less in omega (arith, count, i));
      above = λ no. (let i = s.above no in omega (arith, count, i));
    }
later place k g gs f r false e s =
    let late : place ≤ g.start = grind (arith, nat_tests, e) in
    let none : before place gs ≡ 0 = none_before place (suc g.start) gs (omega (arith, late)) r in
    let count : before place (g ∷ gs) ≡ before place gs =
    ap (λ b. length (cond b (g ∷ filter (λ x. nat_lt x.start place) gs) (filter (λ x. nat_lt x.start place) gs))) e in
    record {
      below = λ less. (let i = s.below less in omega (arith, count, none, i));
      above = λ no. omega (arith, count, none);
    }

-- a list in line: what starts before a place stands in front
pub side : (place from k : ℕ) (fs : List FunctionInfo) (f : FunctionInfo) → Rises from (map (λ g. g.start) fs)
    → slice_get fs k ≡ Some f → Side place k f (before place fs)
side place from k [] f r h = cc
side place from zero (g ∷ gs) f r h =
    let same : g ≡ f = cc in
    elim (nat_lt g.start place) as (λ b. nat_lt g.start place ≡ b → Side place 0 f (before place (g ∷ gs))) [
      | true ↦ λ e.
          let count : before place (g ∷ gs) ≡ suc (before place gs) =
          ap (λ b. length (cond b (g ∷ filter (λ x. nat_lt x.start place) gs) (filter (λ x. nat_lt x.start place) gs)))
          e in
          let starts : g.start < place = grind (arith, nat_tests, e) in
          record {
            below = λ less. omega (arith, count);
            above = λ no. absurd (no (subst (λ x. x.start < place) same starts));
          }
      | false ↦ λ e.
          let late : place ≤ g.start = grind (arith, nat_tests, e) in
          let count : before place (g ∷ gs) ≡ 0 =
          none_before place g.start (g ∷ gs) late (omega arith, r.1) in
          record {
            below = λ less. absurd (omega (arith, late, subst (λ x. x.start < place) (sym same) less));
            above = λ no. omega (arith, count);
          }
    ] refl
side place from (suc k) (g ∷ gs) f r h = later place k g gs f r.1 (nat_lt g.start place) refl
    (side place (suc g.start) k gs f r.1 h)

-- ---- halving

-- the number of a place, where the list is this
pub record Halved (place : ℕ) (fs : List FunctionInfo) (middle : ℕ) (f : FunctionInfo) : Type 0 where
  pub below : f.start < place → middle < number_at fs place
  pub above : (f.start < place → ⊥) → number_at fs place ≤ middle

pub halved : (source : Text) (place middle : ℕ) (f : FunctionInfo) → 1 ≤ middle
    → slice_get (functions source) middle ≡ Some f → Halved place (functions source) middle f
halved source place middle f some h = by_list place (functions source) (others_rise source) middle f some h
  where
    by_list : (place : ℕ) (fs : List FunctionInfo) → Rises 0 (others_start fs) → (middle : ℕ) (f : FunctionInfo)
        → 1 ≤ middle → slice_get fs middle ≡ Some f → Halved place fs middle f
    by_list place [] r middle f some h = cc
    by_list place (script ∷ others) r zero f some h = absurd (omega arith)
    by_list place (script ∷ others) r (suc k) f some h =
        let s = side place 0 k others f r h in
        record {
          below = λ less. (let i = s.below less in omega (arith, i));
          above = λ no. (let i = s.above no in omega (arith, i));
        }

-- it is at most the length, and 0 alone where the list is empty
pub number_bounds : (place : ℕ) (fs : List FunctionInfo)
    → (number_at fs place ≤ length fs) × ((1 ≤ length fs → 1 ≤ number_at fs place))
number_bounds place [] = (omega arith, λ h. absurd (omega arith))
number_bounds place (script ∷ others) =
    (omega (arith, filter_most (λ f. nat_lt f.start place) others), λ h. omega arith)
  where
    filter_most : (test : FunctionInfo → Bool) (xs : List FunctionInfo) → length (filter test xs) ≤ length xs
    filter_most test [] = omega arith
    filter_most test (x ∷ xs) =
        elim (test x) as (λ b. length (cond b (x ∷ filter test xs) (filter test xs)) ≤ suc (length xs)) [
          | true ↦ omega (arith, filter_most test xs)
          | false ↦ omega (arith, filter_most test xs)
        ]

-- between what two places of the list the number lies
pub record Between (fs : List FunctionInfo) (place low high : ℕ) : Type 0 where
  pub reached : low ≤ number_at fs place
  pub bounded : number_at fs place ≤ high
  pub inside : high ≤ length fs
  pub some : low < high → 1 ≤ low

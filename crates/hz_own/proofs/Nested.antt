-- The functions of a source nest: a later one begins at or behind the end of an earlier one, or ends in it.
use Rattle.std.proofs.Common.{◌≡◌, ℕ, ◌<◌, ◌≤◌, ◌⊎◌, inl, inr, List, [], ◌∷◌, ◌++◌, length, All, refl, ap, sym, ◌∙◌}
use Rattle.std.proofs.Common.{subst, append_assoc, arith}
use Rattle.std.proofs.lemmas.List.Elements.{All-append, All-head, All-tail, All-weaker}
use Rattle.hz_tree.specs.declared.nonterminal.Nonterminal.TheVariants as n
use Rattle.hz_tree.specs.declared.tree.Tree.{Tree}
use Rattle.hz_tree.specs.grammar.Look.{Terminal, terminals}
use Rattle.hz_tree.specs.reading.Reading.{Got, reads, place_ahead, end_behind}
use Rattle.hz_tree.specs.tokens.Text.{Text}
use Rattle.hz_stands.specs.Nodes.{FunctionNode, nodes_of}
use Rattle.hz_stands.proofs.Several.{Suffix}
use Rattle.hz_own.specs.Lined.{Lined}
use Rattle.hz_own.specs.Stretch.{Spans, Stretch, nothing, token, both, function, Inside, Nested}
use Rattle.hz_own.proofs.Lines.{terminals_lined}
use Rattle.hz_own.proofs.Nests.{stretch_suffix, stretch_inside, passing, reading_inside}
use Rattle.hz_own.proofs.Scripts.{ScriptRead, script_read}
use Rattle.hz_own.proofs.Windows.{lined_behind, later, each_before}

-- the terminals from here on are some of the source's, and others follow
pub record Source (source : Text) (ts : List Terminal) : Type 0 where
  pub before : List Terminal
  pub split : terminals source ≡ before ++ ts

suffix_source : (source : Text) (ts mid : List Terminal) → Suffix ts mid → Source source ts → Source source mid
suffix_source source ts mid u h = record {
  before = h.before ++ u.passed;
  split = h.split ∙ ap (λ us. h.before ++ us) u.split ∙ sym (append_assoc h.before u.passed mid);
}

source_lined : (source : Text) (t : Terminal) (ts : List Terminal) → Source source (t ∷ ts)
    → Lined source t.behind (t ∷ ts)
source_lined source t ts h =
    lined_behind source 0 h.before t ts (subst (Lined source 0) h.split (terminals_lined source))

-- ---- places of terminals

start_grows : (source : Text) (xs : List Terminal) (y : Terminal) (ys : List Terminal)
    → Source source (xs ++ y ∷ ys) → place_ahead (xs ++ y ∷ ys) ≤ y.token.at
start_grows source [] y ys h = omega arith
start_grows source (x ∷ xs) y ys h =
    let all : Lined source x.behind (x ∷ (xs ++ y ∷ ys)) = source_lined source x (xs ++ y ∷ ys) h in
    let before : x.token.at < y.behind = (each_before source x.behind (x ∷ xs) y ys all).0.0 in
    let from : Lined source y.behind (y ∷ ys) = lined_behind source x.behind (x ∷ xs) y ys all in
    let behind : y.behind ≤ y.token.at = from.0.lies.after in
    omega (arith, before, behind)

end_grows : (source : Text) (xs : List Terminal) (y : Terminal) (ys : List Terminal)
    → Source source (xs ++ y ∷ ys) → end_behind (xs ++ y ∷ ys) ≤ y.behind
end_grows source [] y ys h = omega arith
end_grows source (x ∷ xs) y ys h = later source x.behind (x ∷ xs) y ys (source_lined source x (xs ++ y ∷ ys) h)

-- ---- a function between two places

pub record Between (low high : ℕ) (f : FunctionNode) : Type 0 where
  pub start : low ≤ f.at
  pub some : f.at < f.end
  pub end : f.end ≤ high

ends_later : (source : Text) (t : Terminal) (own behind : List Terminal) (r : Terminal) (more : List Terminal)
    → Source source (t ∷ (own ++ (behind ++ r ∷ more))) → t.token.at < end_behind (behind ++ r ∷ more)
ends_later source t own [] r more h =
    (each_before source t.behind (t ∷ own) r more (source_lined source t (own ++ r ∷ more) h)).0.0
ends_later source t own (b ∷ behind) r more h =
    (each_before source t.behind (t ∷ own) b (behind ++ r ∷ more)
    (source_lined source t (own ++ b ∷ (behind ++ r ∷ more)) h)).0.0

between_own : (source : Text) (before own behind : List Terminal) (r : Terminal) (more : List Terminal)
    (f : FunctionNode) → Source source (before ++ (own ++ (behind ++ r ∷ more)))
    → Spans f (own ++ (behind ++ r ∷ more)) (behind ++ r ∷ more)
    → Between (place_ahead (before ++ (own ++ (behind ++ r ∷ more)))) r.behind f
between_own source before [] behind r more f h spans =
    absurd (let some : length (behind ++ r ∷ more) < length (behind ++ r ∷ more) = spans.some in omega arith)
between_own source before (t ∷ own) behind r more f h spans =
    let left = behind ++ r ∷ more in
    let from : Source source (t ∷ (own ++ left)) =
    suffix_source source (before ++ (t ∷ (own ++ left))) (t ∷ (own ++ left))
    (record { passed = before; split = refl }) h in
    let behind_own : Source source left =
    suffix_source source (t ∷ (own ++ left)) left (record { passed = t ∷ own; split = refl }) from in
    let start : f.at ≡ t.token.at = spans.start in
    let end : f.end ≡ end_behind left = spans.end in
    let first = start_grows source before t (own ++ left) h in
    let some = ends_later source t own behind r more from in
    let last = end_grows source behind r more behind_own in
    record {
      start = omega (arith, first, start);
      some = omega (arith, some, start, end);
      end = omega (arith, last, end);
    }

-- a function that stands between two places of a source
pub between : (source : Text) (f : FunctionNode) (ts : List Terminal) (r : Terminal) (more : List Terminal)
    → Source source ts → Inside f ts (r ∷ more) → Between (place_ahead ts) r.behind f
between source f ts r more h i =
    subst (λ us. Between (place_ahead us) r.behind f) (sym i.split)
    (between_own source i.before i.own i.behind r more f (subst (Source source) i.split h) i.spans)

all_between : (source : Text) (r : Terminal) (more : List Terminal) {ts : List Terminal} {own : ℕ}
    {fs : List FunctionNode} → Stretch ts (r ∷ more) own fs → Source source ts
    → All (Between (place_ahead ts) r.behind) fs
all_between source r more {ts = ts} a h = λ k d within. between source _ ts r more h (stretch_inside a k d within)

-- ---- several functions

nested_append : (fs gs : List FunctionNode) (place : ℕ) → Nested fs → Nested gs → All (λ f. f.end ≤ place) fs
    → All (λ g. place ≤ g.at) gs → Nested (fs ++ gs)
nested_append [] gs place a b h i = b
nested_append (f ∷ fs) gs place a b h i =
    let first : f.end ≤ place = All-head (λ g. g.end ≤ place) f fs h in (
      a.0,
      All-append (λ g. (f.end ≤ g.at) ⊎ (g.end ≤ f.end)) fs gs a.1
          (All-weaker (λ g. place ≤ g.at) (λ g. (f.end ≤ g.at) ⊎ (g.end ≤ f.end))
          (λ g j. inl (omega (arith, first, j))) gs i),
      nested_append fs gs place a.2 b (All-tail (λ g. g.end ≤ place) f fs h) i,
    )

-- terminals of which there is one
record Begun (ts : List Terminal) : Type 0 where
  first : Terminal
  others : List Terminal
  same : ts ≡ first ∷ others

begun : (xs : List Terminal) (y : Terminal) (ys ts : List Terminal) → ts ≡ xs ++ y ∷ ys → Begun ts
begun [] y ys ts h = record { first = y; others = ys; same = h }
begun (x ∷ xs) y ys ts h = record { first = x; others = xs ++ y ∷ ys; same = h }

-- the functions in a stretch nest, where a terminal follows
stretch_nests : (source : Text) {ts rest : List Terminal} {own : ℕ} {fs : List FunctionNode} → Stretch ts rest own fs
    → Source source ts → (r : Terminal) (more : List Terminal) → rest ≡ r ∷ more → Nested fs
stretch_nests source (nothing ts) h r more e = tt
stretch_nests source (token wanted t ts fit) h r more e = tt
stretch_nests source (both ts mid rest own later fs gs a b) h r more e =
    let u : Suffix mid rest = stretch_suffix b in
    let m : Begun mid = begun u.passed r more mid (u.split ∙ ap (λ us. u.passed ++ us) e) in
    let from : Source source mid = suffix_source source ts mid (stretch_suffix a) h in
    let line : Lined source m.first.behind (m.first ∷ m.others) =
    source_lined source m.first m.others (subst (Source source) m.same from) in
    let gap : m.first.behind ≤ m.first.token.at = line.0.lies.after in
    let start : place_ahead mid ≡ m.first.token.at = ap place_ahead m.same in
    let one : All (Between (place_ahead ts) m.first.behind) fs =
    all_between source m.first m.others (subst (λ us. Stretch ts us own fs) m.same a) h in
    let two : All (Between (place_ahead mid) r.behind) gs =
    all_between source r more (subst (λ us. Stretch mid us later gs) e b) from in
    nested_append fs gs m.first.behind (stretch_nests source a h m.first m.others m.same)
    (stretch_nests source b from r more e)
    (All-weaker (Between (place_ahead ts) m.first.behind) (λ f. f.end ≤ m.first.behind) (λ f j. j.end) fs one)
    (All-weaker (Between (place_ahead mid) r.behind) (λ g. m.first.behind ≤ g.at)
    (λ g j. let low : place_ahead mid ≤ g.at = j.start in omega (arith, low, start, gap)) gs two)
stretch_nests source (function ts rest f inner spans arrow a) h r more e =
    let all : All (Between (place_ahead ts) r.behind) (f ∷ nodes_of f.body) =
    all_between source r more
    (subst (λ us. Stretch ts us 0 (f ∷ nodes_of f.body)) e (function ts rest f inner spans arrow a)) h in
    let end : f.end ≡ r.behind = spans.end ∙ ap end_behind e in (
      (All-head (Between (place_ahead ts) r.behind) f (nodes_of f.body) all).some,
      All-weaker (Between (place_ahead ts) r.behind) (λ g. (f.end ≤ g.at) ⊎ (g.end ≤ f.end))
          (λ g j. inr (let last : g.end ≤ r.behind = j.end in omega (arith, last, end))) (nodes_of f.body)
          (All-tail (Between (place_ahead ts) r.behind) f (nodes_of f.body) all),
      stretch_nests source a h r more e,
    )

-- The functions of a script nest.
pub script_nests : (source : Text) (script : Tree) (rest : List Terminal)
    → reads n.Script (terminals source) ≡ Got script rest → Nested (nodes_of script)
script_nests source script rest is =
    let r : ScriptRead (terminals source) rest script = script_read (terminals source) rest script is in
    stretch_nests source r.stretch (record { before = []; split = refl }) r.last rest refl

pub ruleset nest_laws = (passing, reading_inside, script_nests)

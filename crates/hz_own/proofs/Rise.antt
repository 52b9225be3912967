-- The functions in a tree that is read from a source start one behind the other, and so their numbers are their places
-- in the list of functions.
use Rattle.std.proofs.Common.{◌≡◌, ℕ, zero, suc, ◌<◌, ◌≤◌, true, false, cond, nat_lt, inl, inr, List, [], ◌∷◌}
use Rattle.std.proofs.Common.{◌++◌, length, get_or, map, Some, None, All, refl, ap, sym, ◌∙◌, subst, arith}
use Rattle.std.specs.List.{filter, slice_get}
use Rattle.std.proofs.lemmas.Bool.Decides.{nat_tests}
use Rattle.std.proofs.lemmas.List.{get_or-map, length-map}
use Rattle.std.proofs.lemmas.Option.{slice_get-get_or}
use Rattle.hz_tree.specs.declared.index.FunctionInfo.{FunctionInfo}
use Rattle.hz_tree.specs.declared.nonterminal.Nonterminal.TheVariants as n
use Rattle.hz_tree.specs.declared.tree.Tree.{Tree}
use Rattle.hz_tree.specs.grammar.Look.{Terminal, terminals}
use Rattle.hz_tree.specs.reading.Reading.{Got, reads}
use Rattle.hz_tree.specs.tokens.Text.{Text}
use Rattle.hz_tree.specs.trees.Events.{events_of}
use Rattle.hz_tree.specs.trees.Functions.{found_in, functions_of}
use Rattle.hz_tree.specs.trees.FunctionTrees.{number_at}
use Rattle.hz_laws.proofs.Starts.{Among, Passes, places, starts, function_starts}
use Rattle.hz_scan.specs.Order.{end_of}
use Rattle.hz_stands.specs.Nodes.{FunctionNode, nodes_of, extent_of_info, extent_of_node}
use Rattle.hz_stands.proofs.Trees.{extents_are}
use Rattle.hz_own.specs.Known.{Rises, node_starts, Known}
use Rattle.hz_own.specs.Lined.{Lined}
use Rattle.hz_own.proofs.Lines.{terminals_lined}

-- ---- places that rise

sooner : (a b : ℕ) (xs : List ℕ) → a ≤ b → Rises b xs → Rises a xs
sooner a b [] h i = tt
sooner a b (x ∷ xs) h i = (let first : b ≤ x = i.0 in omega (arith, first), i.1)

abbrev terminal_places : List Terminal → List ℕ
terminal_places ts = map (λ x. x.token.at) ts

lined_rises : (source : Text) (place : ℕ) (ts : List Terminal) → Lined source place ts
    → Rises place (terminal_places ts)
lined_rises source place [] h = tt
lined_rises source place (t ∷ []) h = (h.0.lies.after, tt)
lined_rises source place (t ∷ u ∷ ts) h =
    let some : 1 ≤ length t.token.text = h.0.goes_on.1 in (
      h.0.lies.after,
      sooner (suc t.token.at) (end_of t.token) (terminal_places (u ∷ ts)) (omega (arith, some))
          (lined_rises source (end_of t.token) (u ∷ ts) h.1),
    )

front_rises : (from : ℕ) (ts us : List Terminal) → Rises from (terminal_places (ts ++ us))
    → Rises from (terminal_places ts)
front_rises from [] us h = tt
front_rises from (t ∷ ts) us h = (h.0, front_rises (suc t.token.at) ts us h.1)

among_rises : (from : ℕ) (ps : List ℕ) (ts : List Terminal) → Rises from (terminal_places ts) → Among ps ts
    → Rises from ps
among_rises from ps [] h i = subst (λ qs. Rises from qs) (sym i) tt
among_rises from ps (t ∷ ts) h (inl i) =
    let first : from ≤ t.token.at = h.0 in
    sooner from (suc t.token.at) ps (omega (arith, first)) (among_rises (suc t.token.at) ps ts h.1 i)
among_rises from ps (t ∷ ts) h (inr (qs, (e, i))) =
    subst (λ rs. Rises from rs) (sym e) (h.0, among_rises (suc t.token.at) qs ts h.1 i)

passes_rises : (ts rest : List Terminal) (ps : List ℕ) → Rises 0 (terminal_places ts) → Passes ts ps rest → Rises 0 ps
passes_rises ts rest ps h i =
    among_rises 0 ps i.passed
    (front_rises 0 i.passed rest (subst (λ us. Rises 0 (terminal_places us)) i.split h)) i.among

-- ---- the functions in a tree

tail_same : {A : Type 0} (a b : A) (ps qs : List A) → a ∷ ps ≡ b ∷ qs → ps ≡ qs
tail_same a b ps qs h = cc (h)

-- the entries of the functions in a script
abbrev pub entries : Tree → List FunctionInfo
entries script = found_in script 0 1

entries_rise : (source : Text) (script : Tree) (rest : List Terminal) → reads n.Script (terminals source)
    ≡ Got script rest → Rises 0 (starts (entries script))
unfolding functions_of
entries_rise source script rest is =
    let told = function_starts source (terminals source) script rest is in
    let same : starts (entries script) ≡ places (events_of script) = tail_same 0 0 _ _ told.0 in
    subst (λ ps. Rises 0 ps) (sym same)
    (passes_rises (terminals source) rest (places (events_of script))
    (lined_rises source 0 (terminals source) (terminals_lined source)) told.1)

pub entries_are : (source : Text) (script : Tree)
    → map extent_of_info (entries script) ≡ map extent_of_node (nodes_of script)
unfolding functions_of
entries_are source script = tail_same _ _ _ _ (extents_are source script)

starts_extents : (xs : List FunctionInfo) → starts xs ≡ map (λ e. e.start) (map extent_of_info xs)
starts_extents [] = refl
starts_extents (x ∷ xs) = ap (λ ps. x.start ∷ ps) (starts_extents xs)

nodes_extents : (fs : List FunctionNode) → node_starts fs ≡ map (λ e. e.start) (map extent_of_node fs)
nodes_extents [] = refl
nodes_extents (f ∷ fs) = ap (λ ps. f.at ∷ ps) (nodes_extents fs)

same_starts : (source : Text) (script : Tree) → starts (entries script) ≡ node_starts (nodes_of script)
same_starts source script =
    starts_extents (entries script) ∙ ap (map (λ e. e.start)) (entries_are source script)
    ∙ sym (nodes_extents (nodes_of script))

-- The functions in a script start one behind the other.
pub nodes_rise : (source : Text) (script : Tree) (rest : List Terminal) → reads n.Script (terminals source)
    ≡ Got script rest → Rises 0 (node_starts (nodes_of script))
nodes_rise source script rest is =
    subst (λ ps. Rises 0 ps) (same_starts source script) (entries_rise source script rest is)

-- ---- numbers

above : (from : ℕ) (xs : List FunctionInfo) (k : ℕ) (d : FunctionInfo) → Rises from (starts xs) → k < length xs
    → from ≤ (get_or xs k d).start
above from [] k d h i = absurd (omega arith)
above from (x ∷ xs) zero d h i = h.0
above from (x ∷ xs) (suc k) d h i =
    let first : from ≤ x.start = h.0 in
    let more : suc x.start ≤ (get_or xs k d).start = above (suc x.start) xs k d h.1 (omega arith) in
    omega (arith, first, more)

abbrev before : (place : ℕ) → List FunctionInfo → List FunctionInfo
before place xs = filter (λ f. nat_lt f.start place) xs

none_before : (place from : ℕ) (xs : List FunctionInfo) → Rises from (starts xs) → place ≤ from
    → length (before place xs) ≡ 0
none_before place from [] h i = refl
none_before place from (x ∷ xs) h i =
    let first : from ≤ x.start = h.0 in
    let no : nat_lt x.start place ≡ false = grind (arith, nat_tests) in
    ap (λ b. length (cond b (x ∷ before place xs) (before place xs))) no
    ∙ none_before place (suc x.start) xs h.1 (omega (arith, first))

count_before : (from : ℕ) (xs : List FunctionInfo) (k : ℕ) (d : FunctionInfo) → Rises from (starts xs) → k < length xs
    → length (before (get_or xs k d).start xs) ≡ k
count_before from [] k d h i = absurd (omega arith)
count_before from (x ∷ xs) zero d h i = none_before x.start x.start (x ∷ xs) ((omega arith, h.1)) (omega arith)
count_before from (x ∷ xs) (suc k) d h i =
    let place = (get_or xs k d).start in
    let more : suc x.start ≤ place = above (suc x.start) xs k d h.1 (omega arith) in
    let yes : nat_lt x.start place ≡ true = grind (arith, nat_tests) in
    ap (λ b. length (cond b (x ∷ before place xs) (before place xs))) yes
    ∙ ap suc (count_before (suc x.start) xs k d h.1 (omega arith))

-- ---- entries

-- what the entry at a place has of the function there
pub record Entry (script : Tree) (k : ℕ) (f : FunctionNode) : Type 0 where
  pub info : FunctionInfo
  pub found : get_or (entries script) k info ≡ info
  pub within : k < length (entries script)
  pub same : extent_of_info info ≡ extent_of_node f

pub entry : (source : Text) (script : Tree) (k : ℕ) (d : FunctionNode) → k < length (nodes_of script)
    → Entry script k (get_or (nodes_of script) k d)
entry source script k d h =
    let size : length (map extent_of_info (entries script)) ≡ length (map extent_of_node (nodes_of script)) =
    ap length (entries_are source script) in
    let within : k < length (entries script) =
    omega (arith, size, length-map (entries script) extent_of_info, length-map (nodes_of script) extent_of_node) in
    let e : FunctionInfo = other d in
    let info = get_or (entries script) k e in
    record {
      info = info;
      found = same_default (entries script) k info e within;
      within = within;
      same =
          sym (get_or-map extent_of_info (entries script) k e (extent_of_node d) within)
          ∙ ap (λ xs. get_or xs k (extent_of_node d)) (entries_are source script)
          ∙ get_or-map extent_of_node (nodes_of script) k d (extent_of_node d) h;
    }
  where
    other : FunctionNode → FunctionInfo
    other f = record { start = f.at; end = f.end; kind = f.kind; length = 0; parent = None }

    same_default : (xs : List FunctionInfo) (k : ℕ) (a b : FunctionInfo) → k < length xs → get_or xs k a ≡ get_or xs k b
    same_default [] k a b h = absurd (omega arith)
    same_default (x ∷ xs) zero a b h = refl
    same_default (x ∷ xs) (suc k) a b h = same_default xs k a b (omega arith)

-- the number of the function at a place of the list
pub number_is : (source : Text) (script : Tree) (rest : List Terminal) (k : ℕ) (d : FunctionNode)
    → reads n.Script (terminals source) ≡ Got script rest → k < length (nodes_of script)
    → number_at (functions_of source script) (get_or (nodes_of script) k d).at ≡ suc k
unfolding functions_of
number_is source script rest k d is h =
    let e = entry source script k d h in
    ap (λ p. suc (length (before p (entries script)))) (sym (ap (λ x. x.start) e.same))
    ∙ ap (λ i. suc (length (before i.start (entries script)))) (sym e.found)
    ∙ ap suc (count_before 0 (entries script) k e.info (entries_rise source script rest is) e.within)

-- Each function in a script is known by its number.
pub nodes_known : (source : Text) (script : Tree) (rest : List Terminal)
    → reads n.Script (terminals source) ≡ Got script rest
    → All (Known (functions_of source script)) (nodes_of script)
unfolding functions_of
nodes_known source script rest is k d h =
    let e = entry source script k d h in
    record {
      info = e.info;
      found =
          ap (slice_get (functions_of source script)) (number_is source script rest k d is h)
          ∙ slice_get-get_or (entries script) k e.info e.within ∙ ap Some e.found;
      start = ap (λ x. x.start) e.same;
      end = ap (λ x. x.end) e.same;
      kind = ap (λ x. x.kind) e.same;
    }

-- Arrows are told by what the grammar sees where they start.
use Rattle.std.proofs.Common.{◌≡◌, ℕ, ◌<◌, ◌≤◌, true, List, [], ◌∷◌, ◌++◌, length, get_or, map, None, All, ap, sym, ◌∙◌}
use Rattle.std.proofs.Common.{subst, arith}
use Rattle.std.proofs.lemmas.List.{get_or-map, length-map}
use Rattle.std.proofs.lemmas.List.Elements.{All-cons}
use Rattle.hz_tree.specs.declared.index.FunctionInfo.{FunctionInfo}
use Rattle.hz_tree.specs.declared.nonterminal.Nonterminal.TheVariants as n
use Rattle.hz_tree.specs.declared.tree.FunctionForm.TheVariants as form
use Rattle.hz_tree.specs.declared.tree.Tree.{Tree}
use Rattle.hz_tree.specs.grammar.Look.{Terminal, look, begins_arrow, terminals}
use Rattle.hz_tree.specs.reading.Reading.{Got, reads, place_ahead}
use Rattle.hz_tree.specs.tokens.Text.{Text}
use Rattle.hz_tree.specs.trees.Functions.{functions_of}
use Rattle.hz_scan.specs.Order.{end_of}
use Rattle.hz_stands.specs.Nodes.{FunctionNode, nodes_of, extent_of_info, extent_of_node}
use Rattle.hz_own.specs.Arrows.{ToldArrow}
use Rattle.hz_own.specs.Lined.{Lined}
use Rattle.hz_own.specs.OwnCounts.{script_info}
use Rattle.hz_own.specs.Stretch.{Inside}
use Rattle.hz_own.proofs.Lines.{terminals_lined}
use Rattle.hz_own.proofs.Nests.{stretch_inside}
use Rattle.hz_own.proofs.OwnReadings.{OwnedBy, reading_owned}
use Rattle.hz_own.proofs.Rise.{entries, entries_are}
use Rattle.hz_own.proofs.Windows.{lined_behind, each_before}

-- ---- a place tells its terminal

first_sooner : (source : Text) (place : ℕ) (x : Terminal) (xs : List Terminal) (y : Terminal) (ys : List Terminal)
    → Lined source place (x ∷ (xs ++ y ∷ ys)) → x.token.at < y.token.at
first_sooner source place x xs y ys h =
    let before : x.token.at < y.behind = (each_before source place (x ∷ xs) y ys h).0.0 in
    let from : Lined source y.behind (y ∷ ys) = lined_behind source place (x ∷ xs) y ys h in
    let behind : y.behind ≤ y.token.at = from.0.lies.after in
    omega (arith, before, behind)

first_same : (x y : Terminal) (xs ys : List Terminal) → x ∷ xs ≡ y ∷ ys → x ≡ y
first_same x y xs ys h = cc

rest_same : (x y : Terminal) (xs ys : List Terminal) → x ∷ xs ≡ y ∷ ys → xs ≡ ys
rest_same x y xs ys h = cc

one_suffix : (source : Text) (place : ℕ) (xs ys : List Terminal) (t u : Terminal) (ts us : List Terminal)
    → Lined source place (xs ++ t ∷ ts) → xs ++ t ∷ ts ≡ ys ++ u ∷ us → t.token.at ≡ u.token.at → t ∷ ts ≡ u ∷ us
one_suffix source place [] [] t u ts us h same at = same
one_suffix source place [] (y ∷ ys) t u ts us h same at =
    let sooner : y.token.at < u.token.at =
    first_sooner source place y ys u us (subst (Lined source place) same h) in
    let first : t.token.at ≡ y.token.at = ap (λ x. x.token.at) (first_same t y ts (ys ++ u ∷ us) same) in
    absurd (omega (arith, sooner, first, at))
one_suffix source place (x ∷ xs) [] t u ts us h same at =
    let sooner : x.token.at < t.token.at = first_sooner source place x xs t ts h in
    let first : x.token.at ≡ u.token.at = ap (λ y. y.token.at) (first_same x u (xs ++ t ∷ ts) us same) in
    absurd (omega (arith, sooner, first, at))
one_suffix source place (x ∷ xs) (y ∷ ys) t u ts us h same at =
    one_suffix source (end_of x.token) xs ys t u ts us h.1
    (rest_same x y (xs ++ t ∷ ts) (ys ++ u ∷ us) same) at

-- ---- functions

seen_at : (source : Text) (before from : List Terminal) (at : ℕ) (after : List Terminal) (t : Terminal)
    (front : List Terminal) → terminals source ≡ before ++ from → 1 ≤ length from → at ≡ place_ahead from
    → begins_arrow (look from) ≡ true → terminals source ≡ front ++ t ∷ after → t.token.at ≡ at
    → begins_arrow (look (t ∷ after)) ≡ true
seen_at source before [] at after t front split some start seen here same = absurd (omega arith)
seen_at source before (u ∷ us) at after t front split some start seen here same =
    subst (λ ts. begins_arrow (look ts) ≡ true)
    (one_suffix source 0 before front u t us after (subst (Lined source 0) split (terminals_lined source))
    (sym split ∙ here) (sym (same ∙ start)))
    seen

node_told : (source : Text) (rest : List Terminal) (f : FunctionNode) (info : FunctionInfo)
    → Inside f (terminals source) rest → info.start ≡ f.at → info.kind ≡ f.kind
    → ToldArrow (terminals source) info
node_told source rest f info h start kind is before after t here same =
    let some : length (h.behind ++ rest) < length (h.own ++ (h.behind ++ rest)) = h.spans.some in
    seen_at source h.before (h.own ++ (h.behind ++ rest)) info.start after t before h.split (omega (arith, some))
    (start ∙ h.spans.start) (h.arrow (sym kind ∙ is)) here same

any_node : Tree → FunctionInfo → FunctionNode
any_node script info = record {
  at = info.start;
  end = info.end;
  form = form.Arrow;
  kind = info.kind;
  parameters = [];
  rest = None;
  body = script;
}

-- Wherever among the terminals of a source an arrow starts, the grammar sees that one begins.
pub arrows_told : (source : Text) (script : Tree) (rest : List Terminal)
    → reads n.Script (terminals source) ≡ Got script rest
    → All (ToldArrow (terminals source)) (functions_of source script)
unfolding functions_of
arrows_told source script rest is =
    All-cons (ToldArrow (terminals source)) (script_info source) (entries script) (λ e. cc)
    (λ k d within.
    let o : OwnedBy _ n.Script (terminals source) script rest =
    reading_owned n.Script (terminals source) rest script is in
    let size : length (map extent_of_info (entries script)) ≡ length (map extent_of_node (nodes_of script)) =
    ap length (entries_are source script) in
    let inner : k < length (nodes_of script) =
    omega (
      arith,
      within,
      size,
      length-map (entries script) extent_of_info,
      length-map (nodes_of script) extent_of_node,
    ) in
    let e : FunctionNode = any_node script d in
    let info : FunctionInfo = get_or (entries script) k d in
    let f : FunctionNode = get_or (nodes_of script) k e in
    let same : extent_of_info info ≡ extent_of_node f =
    sym (get_or-map extent_of_info (entries script) k d (extent_of_node e) within)
    ∙ ap (λ xs. get_or xs k (extent_of_node e)) (entries_are source script)
    ∙ get_or-map extent_of_node (nodes_of script) k e (extent_of_node e) inner in
    node_told source rest f info (stretch_inside o.stretch k e inner) (ap (λ x. x.start) same)
    (ap (λ x. x.kind) same))

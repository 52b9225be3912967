-- A function that stands among the terminals of a source is read with counts of the tokens that are its own.
use Rattle.std.proofs.Common.{◌≡◌, ℕ, suc, ◌+◌, ◌-◌, ◌<◌, ◌≤◌, true, false, List, [], ◌∷◌, ◌++◌, length}
use Rattle.std.proofs.Common.{get_or, All, refl, ap, sym, ◌∙◌, subst, arith}
use Rattle.std.proofs.lemmas.List.{length-append}
use Rattle.std.proofs.lemmas.List.Sums.{sum_by-cons}
use Rattle.hz_tree.specs.declared.nonterminal.Nonterminal.TheVariants as n
use Rattle.hz_tree.specs.declared.token.TokenKind.TheVariants.{End}
use Rattle.hz_tree.specs.declared.tree.Tree.{Tree}
use Rattle.hz_tree.specs.grammar.Look.{Terminal, terminals}
use Rattle.hz_tree.specs.reading.Reading.{Got, reads, end_behind}
use Rattle.hz_tree.specs.tokens.Text.{Text}
use Rattle.hz_tree.specs.tokens.Tokens.{is_last}
use Rattle.hz_tree.specs.trees.Functions.{found_in, functions_of}
use Rattle.hz_tree.specs.trees.FunctionTrees.{inner_tokens, tokens_within, own_tokens, number_at}
use Rattle.hz_scan.specs.Order.{end_of}
use Rattle.hz_cuts.specs.Rows.{some_symbol}
use Rattle.hz_stands.specs.Nodes.{FunctionNode, nodes_of, part_nodes}
use Rattle.hz_stands.specs.Stands.{Shape, declared, expressed, arrowed, method, getter, setter, written, Standing}
use Rattle.hz_stands.proofs.Opening.{is_open}
use Rattle.hz_stands.proofs.Several.{Suffix}
use Rattle.hz_own.specs.Known.{Known}
use Rattle.hz_own.specs.Lined.{Lined}
use Rattle.hz_own.specs.OwnCounts.{script_info, OwnCounted}
use Rattle.hz_own.specs.Owned.{counted, owns}
use Rattle.hz_own.specs.Stretch.{Spans, Stretch, Inside}
use Rattle.hz_own.proofs.Counts.{summed, counted_plain}
use Rattle.hz_own.proofs.Lines.{terminals_lined}
use Rattle.hz_own.proofs.Nested.{between}
use Rattle.hz_own.proofs.Nests.{stretch_suffix, stretch_inside}
use Rattle.hz_own.proofs.OwnReadings.{AllOwned, symbols_owned}
use Rattle.hz_own.proofs.OwnRows.{written_nodes, passed_some}
use Rattle.hz_own.proofs.Parents.{standing_tokens}
use Rattle.hz_own.proofs.Rise.{entries, nodes_known, number_is}
use Rattle.hz_own.proofs.Scripts.{ScriptRead, script_read}
use Rattle.hz_own.proofs.Taken.{taken_as_end}
use Rattle.hz_own.proofs.Tally.{tokens_of, outer_tokens, span, stretch_tally}
use Rattle.hz_own.proofs.TreeParents.{fits_tree}
use Rattle.hz_own.proofs.Windows.{each_map, lined_behind, each_before, each_behind, here, here_append}
use Rattle.hz_own.proofs.Windows.{all_within, none_behind, within_here}

-- ---- a function

written_opens : (shape : Shape) → some_symbol is_open (written shape).symbols ≡ false
written_opens (declared true) = refl
written_opens (declared false) = refl
written_opens (expressed true) = refl
written_opens (expressed false) = refl
written_opens (arrowed c true) = refl
written_opens (arrowed c false) = refl
written_opens (method true) = refl
written_opens (method false) = refl
written_opens getter = refl
written_opens setter = refl

-- what is read with counts where the function stands
record Standing_counts (source : Text) (f : FunctionNode) (h : Standing f (terminals source)) : Type 0 where
  owned : AllOwned owns (written h.shape).symbols h.from h.parts h.left
  same : counted (written h.shape).symbols owned.parts + outer_tokens source (nodes_of f.body ++ [])
      ≡ tokens_of source f

some_left : (f : FunctionNode) (left : List Terminal) → 0 < f.end → f.end ≡ end_behind left → 1 ≤ length left
some_left f [] h e = absurd (omega (arith, h, e))
some_left f (r ∷ more) h e = omega arith

standing_counts : (source : Text) (f : FunctionNode) (h : Standing f (terminals source)) → 0 < f.end
    → Standing_counts source f h
standing_counts source f h some =
    let symbols = (written h.shape).symbols in
    let a : AllOwned owns symbols h.from h.parts h.left = symbols_owned symbols h.from h.left h.parts h.read in
    let left : 1 ≤ length h.left = some_left f h.left some h.end in
    let nodes : part_nodes symbols h.parts ≡ nodes_of f.body =
    written_nodes h.shape h.parts ∙ ap (λ g. nodes_of g.body) (sym h.given) in
    let stretch : Stretch h.from h.left (summed symbols a.parts) (nodes_of f.body) =
    subst (Stretch h.from h.left (summed symbols a.parts)) nodes a.stretch in
    let spans : Spans f h.from h.left =
    record { start = h.start; end = h.end; some = passed_some h.shape h.from h.left h.parts h.read } in
    let all : tokens_of source f + length h.left ≡ length h.from =
    span source h.passed h.from h.left f h.split left (stretch_suffix stretch) spans in
    let tally : summed symbols a.parts + outer_tokens source (nodes_of f.body ++ []) + length h.left
    ≡ length h.from + outer_tokens source [] =
    stretch_tally source h.passed stretch h.split left [] in
    let plain : counted symbols a.parts ≡ summed symbols a.parts =
    counted_plain symbols a.parts (written_opens h.shape) in
    record { owned = a; same = omega (arith, all, tally, plain) }

-- ---- numbers

-- what stands in the function with this number is what its body has outermost
standing_in : (source : Text) (script : Tree) (j : ℕ) (d : FunctionNode) → j < length (nodes_of script)
    → standing_tokens source (suc j) (functions_of source script)
    ≡ outer_tokens source (nodes_of (get_or (nodes_of script) j d).body ++ [])
unfolding functions_of
standing_in source script j d h =
    let k = suc j in
    let f = get_or (nodes_of script) j d in
    let whole : standing_tokens source k (functions_of source script) ≡ 0 + standing_tokens source k (entries script) =
    sum_by-cons (inner_tokens source k) (script_info source) (entries script) in
    let deeper : standing_tokens source k (entries script) ≡ standing_tokens source k (found_in f.body k (suc k)) =
    (fits_tree source script).deeper 0 1 k j d (omega arith) (omega arith) h in
    let outer : standing_tokens source k (found_in f.body k (suc k)) + outer_tokens source []
    ≡ outer_tokens source (nodes_of f.body ++ []) =
    (fits_tree source f.body).outer k (suc k) (omega arith) [] in
    omega (arith, whole, deeper, outer)

standing_in_script : (source : Text) (script : Tree) → standing_tokens source 0 (functions_of source script)
    ≡ outer_tokens source (nodes_of script ++ [])
unfolding functions_of
standing_in_script source script =
    let whole : standing_tokens source 0 (functions_of source script) ≡ 0 + standing_tokens source 0 (entries script) =
    sum_by-cons (inner_tokens source 0) (script_info source) (entries script) in
    let outer : standing_tokens source 0 (entries script) + outer_tokens source []
    ≡ outer_tokens source (nodes_of script ++ []) =
    (fits_tree source script).outer 0 1 (omega arith) [] in
    omega (arith, whole, outer)

-- Each function in a script is read with counts of its own tokens.
pub functions_counted : (source : Text) (script : Tree) (rest : List Terminal)
    → reads n.Script (terminals source) ≡ Got script rest
    → All (λ f. (h : Standing f (terminals source)) → OwnCounted (functions_of source script) source f h)
    (nodes_of script)
functions_counted source script rest is j d within h =
    let f = get_or (nodes_of script) j d in
    let functions = functions_of source script in
    let r : ScriptRead (terminals source) rest script = script_read (terminals source) rest script is in
    let inside : Inside f (terminals source) (r.last ∷ rest) = stretch_inside r.stretch j d within in
    let ends : f.at < f.end =
    (between source f (terminals source) r.last rest (record { before = []; split = refl }) inside).some in
    let c : Standing_counts source f h = standing_counts source f h (omega (arith, ends)) in
    let known : Known functions f = nodes_known source script rest is j d within in
    let number : number_at functions f.at ≡ suc j = number_is source script rest j d is within in
    let standing = standing_in source script j d within in
    let extent : tokens_within source known.info.start known.info.end ≡ tokens_of source f =
    ap (λ p. tokens_within source p known.info.end) known.start ∙ ap (tokens_within source f.at) known.end in
    let counted_here : counted (written h.shape).symbols c.owned.parts
    ≡ tokens_within source known.info.start known.info.end - standing_tokens source (suc j) functions =
    let same = c.same in omega (arith, same, standing, extent) in
    record {
      info = known.info;
      found = known.found;
      counts = c.owned.parts;
      read = c.owned.read;
      same =
          counted_here
          ∙ ap (λ k. tokens_within source known.info.start known.info.end - standing_tokens source k functions)
          (sym number);
    }

-- ---- the script

-- all tokens but the end of the source lie in its extent
whole_source : (source : Text) (passed : List Terminal) (last : Terminal) (rest : List Terminal)
    → terminals source ≡ passed ++ last ∷ rest → last.token.kind ≡ End
    → tokens_within source 0 (length source) ≡ length passed
whole_source source passed last rest same ends =
    let size = length source in
    let all : Lined source 0 (passed ++ last ∷ rest) = subst (Lined source 0) same (terminals_lined source) in
    let from : Lined source last.behind (last ∷ rest) = lined_behind source 0 passed last rest all in
    let there : last.token.at ≡ size = from.0.ends ends in
    let first : last.behind ≤ last.token.at = from.0.lies.after in
    let inside : here 0 size passed ≡ length passed =
    all_within 0 size passed
    (each_map (λ x. (x.token.at < last.behind) × (is_last x.token.kind ≡ false))
    (λ x. (0 ≤ x.token.at) × (x.token.at < size))
    (λ x h. let i : x.token.at < last.behind = h.0 in (omega arith, omega (arith, i, there, first))) passed
    (each_before source 0 passed last rest all)) in
    let behind : here 0 size (last ∷ rest) ≡ 0 =
    none_behind 0 size (last ∷ rest) (
      omega (arith, there),
      each_map (λ x. end_of last.token ≤ x.token.at) (λ x. size ≤ x.token.at)
          (λ x i. omega (arith, i, there)) rest (each_behind source (end_of last.token) rest from.1),
    ) in
    let parts = here_append 0 size passed (last ∷ rest) in
    within_here source 0 size ∙ ap (here 0 size) same ∙ omega (arith, parts, inside, behind)

-- The script is read with the count of its own tokens.
pub script_counted : (source : Text) (script : Tree) (rest : List Terminal)
    → reads n.Script (terminals source) ≡ Got script rest
    → owns n.Script (terminals source)
    ≡ Got (own_tokens (functions_of source script) source 0 (script_info source)) rest
script_counted source script rest is =
    let r : ScriptRead (terminals source) rest script = script_read (terminals source) rest script is in
    let u : Suffix (terminals source) (r.last ∷ rest) = stretch_suffix r.stretch in
    let from : Lined source r.last.behind (r.last ∷ rest) =
    lined_behind source 0 u.passed r.last rest (subst (Lined source 0) u.split (terminals_lined source)) in
    let ends = taken_as_end r.last.class r.last.token.kind r.last.token.text r.ends from.0.class in
    let whole : tokens_within source 0 (length source) ≡ length u.passed =
    whole_source source u.passed r.last rest u.split ends in
    let tally : r.count + outer_tokens source (nodes_of script ++ []) + length (r.last ∷ rest)
    ≡ length (terminals source) + outer_tokens source [] =
    stretch_tally source [] r.stretch refl (omega arith) [] in
    let size : length (terminals source) ≡ length u.passed + length (r.last ∷ rest) =
    ap length u.split ∙ length-append u.passed (r.last ∷ rest) in
    let standing = standing_in_script source script in
    let same : r.count
    ≡ tokens_within source 0 (length source) - standing_tokens source 0 (functions_of source script) =
    omega (arith, whole, tally, size, standing) in
    r.counts ∙ ap (λ k. Got k rest) same

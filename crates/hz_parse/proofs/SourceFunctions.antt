-- The tree of each function of a source, by its number, and what its reader comes to.
use Rattle.std.proofs.Common.{◌≡◌, ◌≢◌, ℕ, zero, suc, ◌+◌, ◌<◌, ◌≤◌, List, [], ◌∷◌, length, Some, None, get_or}
use Rattle.std.proofs.Common.{map, refl, ap, sym, ◌∙◌, subst, arith}
use Rattle.std.specs.List.{slice_get}
use Rattle.std.specs.Option.{option_map}
use Rattle.std.proofs.lemmas.List.{length-map}
use Rattle.std.proofs.lemmas.Option.{slice_get-get_or, slice_get-map, slice_get_within}
use Rattle.hz_tree.specs.declared.function_tree.FunctionTree.{FunctionTree}
use Rattle.hz_tree.specs.declared.index.FunctionInfo.{FunctionInfo}
use Rattle.hz_tree.specs.declared.nonterminal.Nonterminal.TheVariants as n
use Rattle.hz_tree.specs.declared.tree.FunctionForm.TheVariants as form
use Rattle.hz_tree.specs.declared.tree.FunctionKind.TheVariants as kind
use Rattle.hz_tree.specs.declared.tree.Tree.{Tree}
use Rattle.hz_tree.specs.grammar.Look.{Terminal, terminals}
use Rattle.hz_tree.specs.reading.Reading.{Deeper, Got, Reading, Stuck, reads}
use Rattle.hz_tree.specs.sources.Refusals.{functions as functions_in, functions_by}
use Rattle.hz_tree.specs.tokens.Text.{Text}
use Rattle.hz_tree.specs.trees.Functions.{functions_of}
use Rattle.hz_tree.specs.trees.FunctionTrees.{own_tokens}
use Rattle.hz_middle.specs.Place.{Place, beginning, left}
use Rattle.hz_stands.specs.Nodes.{FunctionNode, extent_of_info, extent_of_node, function_tree_of, nodes_of, script_tree}
use Rattle.hz_stands.specs.Plain.{StandingPlain}
use Rattle.hz_stands.specs.Stands.{written}
use Rattle.hz_stands.proofs.PlainReadings.{functions_stand_plainly}
use Rattle.hz_stands.proofs.Trees.{extents_are, trees_are}
use Rattle.hz_own.specs.Known.{Known}
use Rattle.hz_own.specs.OwnCounts.{script_info}
use Rattle.hz_own.proofs.Nested.{script_nests}
use Rattle.hz_own.proofs.Rise.{nodes_known, number_is}
use Rattle.hz_alone.specs.Functions.{ReadAlone}
use Rattle.hz_alone.proofs.ArrowsAlone.{all_told}
use Rattle.hz_alone.proofs.Functions.{all_alone}
use Rattle.hz_alone.proofs.OwnAlone.{all_counted}
use Rattle.hz_alone.proofs.Scripts.{all_seen, script_found}
use Rattle.hz_alone.proofs.Within.{all_known}
use Rattle.hz_parse.specs.Parsed.{Parsed, Reads, ReadsScript, script_symbols, symbols_by, trees_by, trees_in}
use Rattle.hz_parse.specs.Whole.{Whole}
use Rattle.hz_parse.proofs.InnerFunctions.{Alone, Inner, inner_read, same_entry, some_each, starts_inside}
use Rattle.hz_parse.proofs.ScriptAlone.{ScriptAlone, script_alone}

-- ---- a source with functions is read as a script

record ScriptOf (source : Text) : Type 0 where
  script : Tree
  rest : List Terminal
  is : reads n.Script (terminals source) ≡ Got script rest

script_of_source : (source : Text) (k : ℕ) (info : FunctionInfo) → slice_get (functions_in source) k ≡ Some info
    → ScriptOf source
unfolding functions_in
script_of_source source k info h = by_reading (reads n.Script (terminals source)) refl h
  where
    by_reading : (r : Reading Tree) → reads n.Script (terminals source) ≡ r
        → slice_get (functions_by source r) k ≡ Some info → ScriptOf source
    by_reading (Got script rest) is h = record { script = script; rest = rest; is = is }
    by_reading (Stuck cause ts) is h = cc
    by_reading Deeper is h = cc

functions_are : (source : Text) (s : ScriptOf source) → functions_in source ≡ functions_of source s.script
unfolding functions_in
functions_are source s = ap (functions_by source) s.is

trees_in_are : (source : Text) (s : ScriptOf source)
    → trees_in source ≡ script_tree (functions_of source s.script) s.script
    ∷ map (function_tree_of (functions_of source s.script)) (nodes_of s.script)
unfolding trees_in
trees_in_are source s = ap (trees_by source) s.is ∙ trees_are (functions_of source s.script) s.script

-- ---- the functions in the script

nobody : Tree → FunctionNode
nobody script =
    record {
      at = 0;
      end = 0;
      form = form.Arrow;
      kind = kind.Arrow;
      parameters = [];
      rest = None;
      body = script;
    }

abbrev node_at : Tree → ℕ → FunctionNode
node_at script j = get_or (nodes_of script) j (nobody script)

node_within : (source : Text) (script : Tree) (j : ℕ) (info : FunctionInfo)
    → slice_get (functions_of source script) (suc j) ≡ Some info → j < length (nodes_of script)
node_within source script j info h =
    let size : length (functions_of source script) ≡ suc (length (nodes_of script)) =
    sym (length-map (functions_of source script) extent_of_info) ∙ ap length (extents_are source script)
    ∙ ap suc (length-map (nodes_of script) extent_of_node) in
    let within : suc j < length (functions_of source script) =
    slice_get_within (functions_of source script) (suc j) info h in
    omega (arith, size, within)

known_alone : (source : Text) (s : ScriptOf source) (j : ℕ) (info : FunctionInfo) → j < length (nodes_of s.script)
    → slice_get (functions_of source s.script) (suc j) ≡ Some info
    → Alone (functions_of source s.script) source (suc j) info (node_at s.script j)
known_alone source s j info within found =
    let read : ReadAlone source (node_at s.script j) =
    all_alone source s.script s.rest s.is j (nobody s.script) within in
    record {
      number = number_is source s.script s.rest j (nobody s.script) s.is within;
      found = found;
      some =
          some_each (nodes_of s.script) (script_nests source s.script s.rest s.is) j (nobody s.script) within;
      read = read;
      known = all_known source s.script s.rest s.is j (nobody s.script) within;
      own = all_counted source s.script s.rest s.is j (nobody s.script) within read;
      told = all_told source s.script s.rest s.is j (nobody s.script) within;
    }

-- the function with a number, and its tree
record Numbered (functions : List FunctionInfo) (source : Text) (k : ℕ) (info : FunctionInfo) : Type 0 where
  tree : FunctionTree
  found : slice_get (trees_in source) k ≡ Some tree
  inside : info.start ≤ length source
  inner : Inner functions source k info tree info.start info.kind

numbered_of : (source : Text) (s : ScriptOf source) (j : ℕ) (info : FunctionInfo)
    → slice_get (functions_of source s.script) (suc j) ≡ Some info
    → Numbered (functions_of source s.script) source (suc j) info
numbered_of source s j info h =
    let functions = functions_of source s.script in
    let within : j < length (nodes_of s.script) = node_within source s.script j info h in
    let f : FunctionNode = node_at s.script j in
    let alone : Alone functions source (suc j) info f = known_alone source s j info within h in
    let known : Known functions f = nodes_known source s.script s.rest s.is j (nobody s.script) within in
    let same : known.info ≡ info =
    same_entry known.info info (sym known.found ∙ ap (slice_get functions) alone.number ∙ h) in
    let start : info.start ≡ f.at = ap (λ i. i.start) (sym same) ∙ known.start in
    let kinds : info.kind ≡ f.kind = ap (λ i. i.kind) (sym same) ∙ known.kind in
    let stands : StandingPlain f (terminals source) =
    functions_stand_plainly n.Script (terminals source) s.rest s.script refl s.is j (nobody s.script) within in
    record {
      tree = function_tree_of functions f;
      found =
          ap (λ trees. slice_get trees (suc j)) (trees_in_are source s)
          ∙ slice_get-map (function_tree_of functions) (nodes_of s.script) j
          ∙ ap (option_map (function_tree_of functions)) (slice_get-get_or (nodes_of s.script) j (nobody s.script)
          within);
      inside = subst (λ at. at ≤ length source) (sym start) (starts_inside source f stands);
      inner = inner_read functions source (suc j) info f alone start kinds;
    }

numbered_in : (source : Text) (k : ℕ) (info : FunctionInfo) → slice_get (functions_in source) k ≡ Some info
    → k ≢ 0 → Numbered (functions_in source) source k info
numbered_in source zero info h inner = absurd (inner refl)
numbered_in source (suc j) info h inner =
    let s : ScriptOf source = script_of_source source (suc j) info h in
    subst (λ fs. Numbered fs source (suc j) info) (sym (functions_are source s))
    (numbered_of source s j info (ap (λ fs. slice_get fs (suc j)) (sym (functions_are source s)) ∙ h))

-- ---- the script

record ScriptNumbered (functions : List FunctionInfo) (source : Text) (info : FunctionInfo) : Type 0 where
  script : Tree
  found : slice_get (trees_in source) 0 ≡ Some (script_tree functions script)
  is : info ≡ script_info source
  alone : ScriptAlone functions source script

script_in : (source : Text) (info : FunctionInfo) → slice_get (functions_in source) 0 ≡ Some info
    → ScriptNumbered (functions_in source) source info
script_in source info h =
    let s : ScriptOf source = script_of_source source 0 info h in
    subst (λ fs. ScriptNumbered fs source info) (sym (functions_are source s)) (record {
      script = s.script;
      found = ap (λ trees. slice_get trees 0) (trees_in_are source s);
      is =
          same_entry info (script_info source)
          (sym h ∙ ap (λ fs. slice_get fs 0) (functions_are source s) ∙ script_found source s.script);
      alone =
          script_alone source s.script s.rest s.is
          (ap (reads n.Script) (all_seen source) ∙ s.is);
    })

-- ---- where a function starts

pub starts_in : (source : Text) (k : ℕ) (info : FunctionInfo) → slice_get (functions_in source) k ≡ Some info
    → info.start ≤ length source
starts_in source zero info h =
    let n : ScriptNumbered (functions_in source) source info = script_in source info h in
    let start : info.start ≡ 0 = ap (λ i. i.start) n.is in
    omega (arith, start)
starts_in source (suc j) info h = (numbered_in source (suc j) info h (λ e. omega (arith, e))).inside

-- ---- what the calls read, and what they give

steps_taken : (source : Text) (k : ℕ) (info : FunctionInfo) (own before after : ℕ)
    → slice_get (functions_in source) k ≡ Some info → own ≡ own_tokens (functions_in source) source k info
    → after ≡ before + own
    → option_map (λ i. before + own_tokens (functions_in source) source k i) (slice_get (functions_in source) k)
    ≡ Some after
steps_taken source k info own before after found owned is =
    ap (option_map (λ i. before + own_tokens (functions_in source) source k i)) found
    ∙ ap (λ m. Some (before + m)) (sym owned) ∙ ap Some (sym is)

pub inner_whole : (source : Text) (k : ℕ) (info : FunctionInfo) (p : Place)
    → slice_get (functions_in source) k ≡ Some info → k ≢ 0 → p ≡ beginning source info.start
    → Whole (functions_in source) (written (symbols_by info.kind (left p))).symbols (left p)
inner_whole source k info p h inner is =
    subst (λ q. Whole (functions_in source) (written (symbols_by info.kind (left q))).symbols (left q)) (sym is)
    (numbered_in source k info h inner).inner.whole

pub inner_parsed : (source : Text) (k : ℕ) (info : FunctionInfo) (p : Place) (tree : FunctionTree) (before after : ℕ)
    → slice_get (functions_in source) k ≡ Some info → k ≢ 0 → p ≡ beginning source info.start
    → Reads (functions_in source) k info.kind (left p) tree before after (symbols_by info.kind (left p))
    → Parsed source k tree before after
inner_parsed source k info p tree before after h inner is read =
    let m : Numbered (functions_in source) source k info = numbered_in source k info h inner in
    let at_start : Reads (functions_in source) k info.kind (left (beginning source info.start)) tree before after
    (symbols_by info.kind (left (beginning source info.start))) =
    subst (λ q. Reads (functions_in source) k info.kind (left q) tree before after (symbols_by info.kind (left q))) is
    read in
    let done = at_start m.inner.whole in
    record {
      found = m.found ∙ ap Some (sym (done.0 ∙ m.inner.given));
      steps = steps_taken source k info _ before after h m.inner.own done.1;
    }

pub script_whole : (source : Text) (info : FunctionInfo) (p : Place)
    → slice_get (functions_in source) 0 ≡ Some info → p ≡ beginning source info.start
    → Whole (functions_in source) script_symbols (left p)
script_whole source info p h is =
    let m : ScriptNumbered (functions_in source) source info = script_in source info h in
    subst (λ q. Whole (functions_in source) script_symbols (left q))
    (sym (is ∙ ap (λ i. beginning source i.start) m.is)) m.alone.whole

pub script_parsed : (source : Text) (info : FunctionInfo) (p : Place) (tree : FunctionTree) (before after : ℕ)
    → slice_get (functions_in source) 0 ≡ Some info → p ≡ beginning source info.start
    → ReadsScript (functions_in source) (left p) tree before after → Parsed source 0 tree before after
script_parsed source info p tree before after h is read =
    let m : ScriptNumbered (functions_in source) source info = script_in source info h in
    let at_start : ReadsScript (functions_in source) (left (beginning source 0)) tree before after =
    subst (λ q. ReadsScript (functions_in source) (left q) tree before after)
    (is ∙ ap (λ i. beginning source i.start) m.is) read in
    let done = at_start m.alone.whole in
    record {
      found = m.found ∙ ap Some (sym (done.0 ∙ m.alone.given));
      steps =
          steps_taken source 0 info _ before after h
          (m.alone.own ∙ ap (own_tokens (functions_in source) source 0) (sym m.is)) done.1;
    }

-- The script is read from the start of a source: this gives its tree, and takes its own tokens.
use Rattle.std.proofs.Common.{◌≡◌, ◌≢◌, ℕ, List, [], ◌∷◌, ◌++◌, All, refl, ap, sym, ◌∙◌, subst}
use Rattle.std.proofs.Common.{arith}
use Rattle.hz_tree.specs.declared.class.Class.TheVariants as k
use Rattle.hz_tree.specs.declared.index.FunctionInfo.{FunctionInfo}
use Rattle.hz_tree.specs.declared.nonterminal.Nonterminal.TheVariants as n
use Rattle.hz_tree.specs.declared.signal.NodeKind.TheVariants as node
use Rattle.hz_tree.specs.declared.signal.Signal.TheVariants as tell
use Rattle.hz_tree.specs.declared.symbol.Symbol.{Symbol}
use Rattle.hz_tree.specs.declared.symbol.Symbol.TheVariants as s
use Rattle.hz_tree.specs.declared.tree.Tree.{Tree, the_lemmas}
use Rattle.hz_tree.specs.declared.tree.Tree.TheVariants as t
use Rattle.hz_tree.specs.grammar.Look.{Terminal, look, terminals}
use Rattle.hz_tree.specs.grammar.Symbols.{Parts, Value, of_script}
use Rattle.hz_tree.specs.reading.Reading.{Got, and_then, end_behind, read_all, reads, takes, told_ahead}
use Rattle.hz_tree.specs.tokens.Text.{Text}
use Rattle.hz_tree.specs.trees.Functions.{functions_of}
use Rattle.hz_tree.specs.trees.FunctionTrees.{own_tokens}
use Rattle.hz_laws.proofs.Balance.{Then, then_got, got_rest}
use Rattle.hz_laws.proofs.ReadingLaws.{reads_law}
use Rattle.hz_cuts.specs.Cuts.{cut_tree}
use Rattle.hz_cuts.proofs.TreeCuts.{cut_out}
use Rattle.hz_middle.specs.Place.{beginning, left}
use Rattle.hz_stands.specs.Nodes.{nodes_of, script_tree, tree_nodes}
use Rattle.hz_stands.proofs.RowNodes.{rows_nodes}
use Rattle.hz_stands.proofs.Several.{value_of, Cons, cons_got}
use Rattle.hz_own.specs.Known.{Known}
use Rattle.hz_own.specs.OwnCounts.{script_info}
use Rattle.hz_own.specs.Owned.{Owned, counted, owns}
use Rattle.hz_own.proofs.Counts.{Heard, cons_reads, heard}
use Rattle.hz_own.proofs.OwnReadings.{OwnedBy, reading_owned}
use Rattle.hz_own.proofs.Rise.{nodes_known}
use Rattle.hz_alone.proofs.Scripts.{counted_alone, told_alone}
use Rattle.hz_parse.specs.Parsed.{script_of, script_symbols}
use Rattle.hz_parse.specs.Whole.{Whole}
use Rattle.hz_alone.proofs.Readings.{owns_law}

abbrev behind_begin : List Symbol
behind_begin = s.Read (n.Items of_script) ∷ s.Take k.End ∷ []

abbrev right : List Symbol
right = s.Tell (tell.Begin node.Body) ∷ behind_begin

-- ---- what a script is read as

record ItemsRead (ts rest : List Terminal) (script : Tree) : Type 0 where
  parts : Parts Value script_symbols
  counts : Parts Owned script_symbols
  mid : List Terminal
  read : read_all reads script_symbols ts ≡ Got parts mid
  owned : read_all owns script_symbols ts ≡ Got counts mid
  some : mid ≢ []
  made : script ≡ t.Script parts.0.at parts.1.0
  nodes : nodes_of script ≡ tree_nodes parts.1.0 ++ []
  own : owns n.Script ts ≡ Got (counted script_symbols counts) rest

takes_some : (ts rest : List Terminal) (x : Terminal) → takes k.End ts ≡ Got x rest → ts ≢ []
takes_some [] rest x h = λ e. cc
takes_some (y ∷ ts) rest x h = λ e. cc

items_parts : (ts rest : List Terminal) (p : Parts Value right) → read_all reads right ts ≡ Got p rest
    → (tree : Tree) → tree ≡ t.Script p.0.at p.1.0 → nodes_of tree ≡ tree_nodes p.1.0 ++ [] → ItemsRead ts rest tree
items_parts ts rest p h tree made nodes =
    let a : Heard reads behind_begin ts p.0 p.1 rest = heard reads (tell.Begin node.Body) behind_begin ts rest p h in
    let b : Cons reads (s.Read (n.Items of_script)) (s.Take k.End ∷ []) ts p.1 rest =
    cons_got reads (s.Read (n.Items of_script)) (s.Take k.End ∷ []) ts p.1 rest a.others in
    let c : Cons reads (s.Take k.End) [] b.mid p.1.1 rest =
    cons_got reads (s.Take k.End) [] b.mid p.1.1 rest b.others in
    let taken : takes k.End b.mid ≡ Got p.1.1.0 rest =
    c.first ∙ ap (Got p.1.1.0) (got_rest tt tt c.mid rest c.others) in
    let o : OwnedBy (owns (n.Items of_script) ts) (n.Items of_script) ts p.1.0 b.mid =
    reading_owned (n.Items of_script) ts b.mid p.1.0 b.first in
    let counts : Parts Owned right = (told_ahead ts, (o.count, (p.1.1.0, tt))) in
    let all : read_all owns right ts ≡ Got counts rest =
    cons_reads owns (s.Tell (tell.Begin node.Body)) behind_begin ts ts rest (told_ahead ts) counts.1 refl
    (cons_reads owns (s.Read (n.Items of_script)) (s.Take k.End ∷ []) ts b.mid rest o.count counts.1.1 o.read
    (cons_reads owns (s.Take k.End) [] b.mid rest rest p.1.1.0 tt taken refl)) in
    let number : counted right counts ≡ o.count = omega arith in
    let fewer : counted script_symbols (told_ahead ts, (o.count, tt)) ≡ o.count = omega arith in
    record {
      parts = (p.0, (p.1.0, tt));
      counts = (told_ahead ts, (o.count, tt));
      mid = b.mid;
      read =
          cons_reads reads (s.Tell (tell.Begin node.Body)) (s.Read (n.Items of_script) ∷ []) ts ts b.mid p.0
          (p.1.0, tt) (ap (λ told. Got told ts) (sym a.here))
          (cons_reads reads (s.Read (n.Items of_script)) [] ts b.mid b.mid p.1.0 tt b.first refl);
      owned =
          cons_reads owns (s.Tell (tell.Begin node.Body)) (s.Read (n.Items of_script) ∷ []) ts ts b.mid (told_ahead ts)
          (o.count, tt) refl (cons_reads owns (s.Read (n.Items of_script)) [] ts b.mid b.mid o.count tt o.read refl);
      some = takes_some b.mid rest p.1.1.0 taken;
      made = made;
      nodes = nodes;
      own =
          owns_law n.Script ts
          ∙ ap (λ r. and_then r (λ vs end. Got (counted right vs) end)) all
          ∙ ap (λ m. Got m rest) (number ∙ sym fewer);
    }

items_read : (ts rest : List Terminal) (script : Tree) → reads n.Script ts ≡ Got script rest → ItemsRead ts rest script
items_read ts rest script is =
    let all : Then (read_all reads right ts) _ script rest =
    then_got (read_all reads right ts) _ script rest (sym (reads_law n.Script ts) ∙ is) in
    let same : t.Script all.first.0.at all.first.1.0 ≡ script = ap (value_of script) all.goes_on in
    subst (ItemsRead ts rest) same
    (items_parts ts rest all.first (all.got ∙ ap (Got all.first) (got_rest _ script all.mid rest all.goes_on)) _ refl
    (rows_nodes n.Script (look ts) all.first))

-- ---- the script of a source

same_count : (a b : ℕ) (ts us : List Terminal) → Got a ts ≡ Got b us → a ≡ b
same_count a b ts us h = ap (value_of a) h

-- What the reader of a source reads from its start is known, and gives the script's tree.
pub record ScriptAlone (functions : List FunctionInfo) (source : Text) (script : Tree) : Type 0 where
  pub whole : Whole functions script_symbols (left (beginning source 0))
  pub given : script_of functions whole.parts ≡ script_tree functions script
  pub own : counted script_symbols whole.counts ≡ own_tokens functions source 0 (script_info source)

pub script_alone : (source : Text) (script : Tree) (rest : List Terminal)
    → reads n.Script (terminals source) ≡ Got script rest → reads n.Script (left (beginning source 0)) ≡ Got script rest
    → ScriptAlone (functions_of source script) source script
script_alone source script rest is there =
    let functions = functions_of source script in
    let r : ItemsRead (left (beginning source 0)) rest script =
    items_read (left (beginning source 0)) rest script there in
    record {
      whole = record {
        parts = r.parts;
        counts = r.counts;
        rest = r.mid;
        read = r.read;
        owned = r.owned;
        known = subst (All (Known functions)) r.nodes (nodes_known source script rest is);
        told = told_alone source script rest (end_behind r.mid) is;
        some = r.some;
      };
      given =
          ap (λ body. record (script_tree functions script) { body = body })
          (sym (ap (cut_tree functions) r.made ∙ cut_out functions _ ∙ simp the_lemmas));
      own =
          same_count (counted script_symbols r.counts) (own_tokens functions source 0 (script_info source)) rest rest
          (sym r.own ∙ counted_alone source script rest is);
    }

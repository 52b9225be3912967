-- What a script is read as: items, and the end of the source.
use Rattle.std.proofs.Common.{◌≡◌, ℕ, true, false, if◌then◌else◌, List, [], ◌∷◌, ◌++◌, refl, ap, sym, ◌∙◌}
use Rattle.std.proofs.Common.{subst, append-nil, arith}
use Rattle.hz_tree.specs.declared.class.Class.{Class}
use Rattle.hz_tree.specs.declared.class.Class.TheVariants as k
use Rattle.hz_tree.specs.declared.nonterminal.Nonterminal.{Nonterminal}
use Rattle.hz_tree.specs.declared.nonterminal.Nonterminal.TheVariants as n
use Rattle.hz_tree.specs.declared.signal.NodeKind.TheVariants as node
use Rattle.hz_tree.specs.declared.signal.Signal.TheVariants as tell
use Rattle.hz_tree.specs.declared.symbol.Symbol.{Symbol}
use Rattle.hz_tree.specs.declared.symbol.Symbol.TheVariants as s
use Rattle.hz_tree.specs.declared.tree.Tree.{Tree}
use Rattle.hz_tree.specs.grammar.Classes.{fits}
use Rattle.hz_tree.specs.grammar.Look.{Terminal, look, stuck}
use Rattle.hz_tree.specs.grammar.Symbols.{RowOf, Parts, Value, goes, refuses, of_script}
use Rattle.hz_tree.specs.grammar.Table.{row, step_of}
use Rattle.hz_tree.specs.reading.Reading.{Got, Stuck, and_then, takes, read_all, reads, told_ahead}
use Rattle.hz_laws.proofs.Balance.{Then, then_got, got_rest}
use Rattle.hz_laws.proofs.Depth.{Fine}
use Rattle.hz_laws.proofs.Ranks.{is_fine}
use Rattle.hz_laws.proofs.ReadingLaws.{reads_law, by_law}
use Rattle.hz_laws.proofs.RowLaws.{rows_fine}
use Rattle.hz_stands.specs.Nodes.{nodes_of, tree_nodes}
use Rattle.hz_stands.proofs.RowNodes.{rows_nodes}
use Rattle.hz_stands.proofs.Several.{value_of, Cons, cons_got}
use Rattle.hz_own.specs.Owned.{Owned, counted, counting, own_row, owns}
use Rattle.hz_own.specs.Stretch.{Stretch}
use Rattle.hz_own.proofs.Counts.{cons_reads, Heard, heard}
use Rattle.hz_own.proofs.OwnReadings.{OwnedBy, reading_owned}

-- ---- the table of counts

step_counting : {V : Nonterminal → Type 0} {m : Nonterminal} (r : RowOf V m) → step_of (counting r) ≡ step_of r
step_counting (goes right make) = refl
step_counting (refuses cause) = refl

own_fine : Fine own_row
own_fine m l = ap (is_fine m) (step_counting (row m l)) ∙ rows_fine m l

-- ---- the end of the source

record Taken (wanted : Class) (ts : List Terminal) (x : Terminal) (rest : List Terminal) : Type 0 where
  split : ts ≡ x ∷ rest
  fitting : fits wanted x.class ≡ true

took : (wanted : Class) (ts : List Terminal) (x : Terminal) (rest : List Terminal) → takes wanted ts ≡ Got x rest
    → Taken wanted ts x rest
took wanted [] x rest h = cc
took wanted (y ∷ ts) x rest h =
    elim (fits wanted y.class) as (λ b. fits wanted y.class ≡ b
    → (if b then Got y ts else Stuck (stuck (look (y ∷ ts))) (y ∷ ts)) ≡ Got x rest → Taken wanted (y ∷ ts) x rest) [
      | true ↦ λ e got. record {
        split = cc;
        fitting = subst (λ z. fits wanted z.class ≡ true) (ap (value_of y) got) e;
      }
      | false ↦ λ e got. cc
    ] refl h

-- ---- a script

abbrev behind_begin : List Symbol
behind_begin = s.Read (n.Items of_script) ∷ s.Take k.End ∷ []

abbrev right : List Symbol
right = s.Tell (tell.Begin node.Body) ∷ behind_begin

pub record ScriptRead (ts rest : List Terminal) (script : Tree) : Type 0 where
  pub count : ℕ
  pub last : Terminal
  pub stretch : Stretch ts (last ∷ rest) count (nodes_of script)
  pub ends : fits k.End last.class ≡ true
  pub counts : owns n.Script ts ≡ Got count rest

script_parts : (ts rest : List Terminal) (p : Parts Value right) → read_all reads right ts ≡ Got p rest
    → (tree : Tree) → nodes_of tree ≡ tree_nodes p.1.0 ++ [] → ScriptRead ts rest tree
script_parts ts rest p h tree nodes =
    let a : Heard reads behind_begin ts p.0 p.1 rest = heard reads (tell.Begin node.Body) behind_begin ts rest p h in
    let b : Cons reads (s.Read (n.Items of_script)) (s.Take k.End ∷ []) ts p.1 rest =
    cons_got reads (s.Read (n.Items of_script)) (s.Take k.End ∷ []) ts p.1 rest a.others in
    let c : Cons reads (s.Take k.End) [] b.mid p.1.1 rest =
    cons_got reads (s.Take k.End) [] b.mid p.1.1 rest b.others in
    let left : c.mid ≡ rest = got_rest tt tt c.mid rest c.others in
    let taken : takes k.End b.mid ≡ Got p.1.1.0 rest = c.first ∙ ap (Got p.1.1.0) left in
    let e : Taken k.End b.mid p.1.1.0 rest = took k.End b.mid p.1.1.0 rest taken in
    let o : OwnedBy (owns (n.Items of_script) ts) (n.Items of_script) ts p.1.0 b.mid =
    reading_owned (n.Items of_script) ts b.mid p.1.0 b.first in
    let counts : Parts Owned right = (told_ahead ts, (o.count, (p.1.1.0, tt))) in
    let all : read_all owns right ts ≡ Got counts rest =
    cons_reads owns (s.Tell (tell.Begin node.Body)) behind_begin ts ts rest (told_ahead ts) counts.1 refl
    (cons_reads owns (s.Read (n.Items of_script)) (s.Take k.End ∷ []) ts b.mid rest o.count counts.1.1 o.read
    (cons_reads owns (s.Take k.End) [] b.mid rest rest p.1.1.0 tt taken refl)) in
    let number : counted right counts ≡ o.count = omega arith in
    record {
      count = o.count;
      last = p.1.1.0;
      stretch =
          subst (λ us. Stretch ts us o.count (nodes_of tree)) e.split
          (subst (Stretch ts b.mid o.count) (sym (nodes ∙ append-nil (tree_nodes p.1.0))) o.stretch);
      ends = e.fitting;
      counts =
          by_law own_row own_fine n.Script ts
          ∙ ap (λ r. and_then r (λ vs end. Got (counted right vs) end)) all
          ∙ ap (λ m. Got m rest) number;
    }

-- A script is read as items, up to the end of the source; with counts, what counts are the items' tokens.
pub script_read : (ts rest : List Terminal) (script : Tree) → reads n.Script ts ≡ Got script rest
    → ScriptRead ts rest script
script_read ts rest script is =
    let all : Then (read_all reads right ts) _ script rest =
    then_got (read_all reads right ts) _ script rest (sym (reads_law n.Script ts) ∙ is) in
    let same = ap (value_of script) all.goes_on in
    subst (ScriptRead ts rest) same
    (script_parts ts rest all.first (all.got ∙ ap (Got all.first) (got_rest _ script all.mid rest all.goes_on)) _
    (rows_nodes n.Script (look ts) all.first))

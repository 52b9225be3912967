-- A function that is read alone is read with counts of as many tokens as are its own.
use Rattle.std.proofs.Common.{◌≡◌, ℕ, List, All, refl, ap, sym, ◌∙◌, subst}
use Rattle.hz_tree.specs.declared.index.FunctionInfo.{FunctionInfo}
use Rattle.hz_tree.specs.declared.nonterminal.Nonterminal.TheVariants as n
use Rattle.hz_tree.specs.declared.tree.Tree.{Tree}
use Rattle.hz_tree.specs.grammar.Look.{Terminal, look, terminals}
use Rattle.hz_tree.specs.grammar.Symbols.{Parts, Value}
use Rattle.hz_tree.specs.reading.Reading.{Got, read_all, reads}
use Rattle.hz_tree.specs.tokens.Text.{Text}
use Rattle.hz_tree.specs.trees.Functions.{functions_of}
use Rattle.hz_tree.specs.trees.FunctionTrees.{number_at, own_tokens}
use Rattle.hz_middle.specs.Place.{beginning, left}
use Rattle.hz_laws.proofs.Balance.{got_rest}
use Rattle.hz_stands.proofs.PlainReadings.{functions_stand_plainly}
use Rattle.hz_stands.proofs.PlainShapes.{shapes_told}
use Rattle.hz_stands.specs.Nodes.{FunctionNode, nodes_of}
use Rattle.hz_stands.specs.Plain.{StandingPlain, shape_by}
use Rattle.hz_stands.specs.Stands.{Shape, written, Standing}
use Rattle.hz_own.proofs.OwnTokens.{functions_counted}
use Rattle.hz_own.specs.OwnCounts.{OwnCounted}
use Rattle.hz_own.specs.Owned.{Owned, counted, owns}
use Rattle.hz_alone.specs.Alone.{OwnAlone}
use Rattle.hz_alone.specs.Functions.{ReadAlone}
use Rattle.hz_alone.proofs.Functions.{Beginning, begins_there, Fit, shapes_fit}
use Rattle.hz_alone.proofs.Places.{CountsAlike, counts_there}

-- trees, and counts of so many tokens, are read in the shape's way, up to the same place
record Counts (seen : List Terminal) (own : ℕ) (shape : Shape) : Type 0 where
  trees : Parts Value (written shape).symbols
  counts : Parts Owned (written shape).symbols
  left : List Terminal
  read : read_all reads (written shape).symbols seen ≡ Got trees left
  read_counts : read_all owns (written shape).symbols seen ≡ Got counts left
  same : counted (written shape).symbols counts ≡ own

standing_counts : (functions : List FunctionInfo) (source : Text) (f : FunctionNode)
    (s : Standing f (terminals source)) (o : OwnCounted functions source f s)
    → Counts (left (beginning source f.at)) (own_tokens functions source (number_at functions f.at) o.info) s.shape
standing_counts functions source f s o =
    let symbols = (written s.shape).symbols in
    let own = own_tokens functions source (number_at functions f.at) o.info in
    let b : Beginning source f s = begins_there source f s in
    let fit : Fit s.shape = shapes_fit s.shape in
    let c : CountsAlike symbols o.counts (left (beginning source b.first.token.at)) =
    counts_there source s.passed b.others s.left b.first symbols s.parts o.counts b.split b.comment
    fit.opening fit.silent fit.walking (sym (ap (read_all reads symbols) b.from) ∙ s.read)
    (sym (ap (read_all owns symbols) b.from) ∙ o.read) in
    subst (λ place. Counts (left (beginning source place)) own s.shape) (sym b.at)
    (record {
      trees = c.trees;
      counts = c.others;
      left = c.left;
      read = c.read;
      read_counts = c.read_counts;
      same = c.same ∙ o.same;
    })

-- There is one way in which a function is read alone.
shape_same : (source : Text) (f : FunctionNode) (h : StandingPlain f (terminals source)) (a : ReadAlone source f)
    (own : ℕ) → Counts (left (beginning source f.at)) own h.standing.shape → h.standing.shape ≡ a.shape
shape_same source f h a own c =
    shapes_told h.standing.shape (left (beginning source f.at)) c.left c.trees h.plain c.read
    ∙ ap (λ kind. shape_by kind (look (left (beginning source f.at))).one) (sym h.standing.kind) ∙ sym a.told

own_alone : (functions : List FunctionInfo) (source : Text) (f : FunctionNode)
    (h : StandingPlain f (terminals source)) → OwnCounted functions source f h.standing → (a : ReadAlone source f)
    → OwnAlone functions source f a
own_alone functions source f h o a =
    let own = own_tokens functions source (number_at functions f.at) o.info in
    let here : Counts (left (beginning source f.at)) own h.standing.shape =
    standing_counts functions source f h.standing o in
    let c : Counts (left (beginning source f.at)) own a.shape =
    subst (Counts (left (beginning source f.at)) own) (shape_same source f h a own here) here in
    let ends : c.left ≡ a.rest = got_rest c.trees a.parts c.left a.rest (sym c.read ∙ a.read) in
    record {
      info = o.info;
      found = o.found;
      counts = c.counts;
      read = c.read_counts ∙ ap (Got c.counts) ends;
      same = c.same;
    }

pub all_counted : (source : Text) (script : Tree) (rest : List Terminal)
    → reads n.Script (terminals source) ≡ Got script rest
    → All (λ f. (a : ReadAlone source f) → OwnAlone (functions_of source script) source f a) (nodes_of script)
all_counted source script rest is k d within a =
    let h : StandingPlain _ (terminals source) =
    functions_stand_plainly n.Script (terminals source) rest script refl is k d within in
    own_alone (functions_of source script) source _ h
    (functions_counted source script rest is k d within h.standing) a

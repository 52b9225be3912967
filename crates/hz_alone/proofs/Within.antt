-- The functions in a function of a script are functions of the script.
use Rattle.std.proofs.Common.{◌≡◌, ℕ, List, [], ◌∷◌, ◌++◌, All, ap, sym, ◌∙◌, subst}
use Rattle.std.proofs.lemmas.List.Elements.{All-nil, All-cons, All-head, All-tail, All-append, All-weaker}
use Rattle.hz_tree.specs.declared.index.FunctionInfo.{FunctionInfo}
use Rattle.hz_tree.specs.declared.nonterminal.Nonterminal.TheVariants as n
use Rattle.hz_tree.specs.declared.tree.Tree.{Tree}
use Rattle.hz_tree.specs.grammar.Look.{Terminal, terminals}
use Rattle.hz_tree.specs.reading.Reading.{Got, reads}
use Rattle.hz_tree.specs.tokens.Text.{Text}
use Rattle.hz_tree.specs.trees.Functions.{functions_of}
use Rattle.hz_stands.specs.Nodes.{FunctionNode, nodes_of, part_nodes}
use Rattle.hz_stands.specs.Stands.{written}
use Rattle.hz_own.specs.Known.{Known}
use Rattle.hz_own.specs.Stretch.{Stretch, nothing, token, both, function, Passing}
use Rattle.hz_own.proofs.Nests.{passing}
use Rattle.hz_own.proofs.OwnRows.{written_nodes}
use Rattle.hz_own.proofs.Rise.{nodes_known}
use Rattle.hz_alone.specs.Alone.{KnownWithin}
use Rattle.hz_alone.specs.Functions.{ReadAlone}

all_front : (P : FunctionNode → Type 0) (fs gs : List FunctionNode) → All P (fs ++ gs) → All P fs
all_front P [] gs h = All-nil P
all_front P (f ∷ fs) gs h =
    All-cons P f fs (All-head P f (fs ++ gs) h) (all_front P fs gs (All-tail P f (fs ++ gs) h))

all_back : (P : FunctionNode → Type 0) (fs gs : List FunctionNode) → All P (fs ++ gs) → All P gs
all_back P [] gs h = h
all_back P (f ∷ fs) gs h = all_back P fs gs (All-tail P f (fs ++ gs) h)

-- what is true of all functions in a stretch is true of those in each of them
nests : (P : FunctionNode → Type 0) {ts rest : List Terminal} {own : ℕ} {fs : List FunctionNode}
    → Stretch ts rest own fs → All P fs → All (λ f. All P (nodes_of f.body)) fs
nests P (nothing ts) h = All-nil (λ f. All P (nodes_of f.body))
nests P (token wanted t ts fits) h = All-nil (λ f. All P (nodes_of f.body))
nests P (both ts mid rest own more fs gs a b) h =
    All-append (λ f. All P (nodes_of f.body)) fs gs (nests P a (all_front P fs gs h)) (nests P b (all_back P fs gs h))
nests P (function ts rest f inner spans arrow a) h =
    let within : All P (nodes_of f.body) = All-tail P f (nodes_of f.body) h in
    All-cons (λ g. All P (nodes_of g.body)) f (nodes_of f.body) within (nests P a within)

known_within : (functions : List FunctionInfo) (source : Text) (f : FunctionNode)
    → All (Known functions) (nodes_of f.body) → KnownWithin functions source f
known_within functions source f h = record { known = known }
  where
    known : (a : ReadAlone source f) → All (Known functions) (part_nodes (written a.shape).symbols a.parts)
    known a =
        subst (All (Known functions))
        (ap (λ g. nodes_of g.body) a.given ∙ sym (written_nodes a.shape a.parts)) h

pub all_known : (source : Text) (script : Tree) (rest : List Terminal)
    → reads n.Script (terminals source) ≡ Got script rest
    → All (KnownWithin (functions_of source script) source) (nodes_of script)
all_known source script rest is =
    let functions = functions_of source script in
    let p : Passing n.Script (terminals source) rest script = passing n.Script (terminals source) rest script is in
    All-weaker (λ f. All (Known functions) (nodes_of f.body)) (KnownWithin functions source)
    (known_within functions source) (nodes_of script)
    (nests (Known functions) p.stretch (nodes_known source script rest is))

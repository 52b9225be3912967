-- A reader that begins at the start of a source sees all of it.
use Rattle.std.proofs.Common.{◌≡◌, ℕ, List, All, Some, refl, sym, subst}
use Rattle.std.specs.List.{slice_get}
use Rattle.std.proofs.lemmas.List.Elements.{All-weaker}
use Rattle.hz_tree.specs.declared.nonterminal.Nonterminal.TheVariants as n
use Rattle.hz_tree.specs.declared.tree.Tree.{Tree}
use Rattle.hz_tree.specs.grammar.Look.{Terminal, terminals}
use Rattle.hz_tree.specs.reading.Reading.{Got, reads}
use Rattle.hz_tree.specs.tokens.Text.{Text}
use Rattle.hz_tree.specs.trees.Functions.{functions_of}
use Rattle.hz_tree.specs.trees.FunctionTrees.{own_tokens}
use Rattle.hz_middle.specs.Place.{beginning, left}
use Rattle.hz_own.specs.Arrows.{ToldArrow}
use Rattle.hz_own.specs.OwnCounts.{script_info}
use Rattle.hz_own.specs.Owned.{owns}
use Rattle.hz_own.proofs.Arrows.{arrows_told}
use Rattle.hz_own.proofs.OwnTokens.{script_counted}
use Rattle.hz_alone.specs.Alone.{ToldBefore}

pub all_seen : (source : Text) → left (beginning source 0) ≡ terminals source
unfolding terminals
all_seen source = refl

pub script_found : (source : Text) (script : Tree)
    → slice_get (functions_of source script) 0 ≡ Some (script_info source)
unfolding functions_of
script_found source script = refl

pub counted_alone : (source : Text) (script : Tree) (rest : List Terminal)
    → reads n.Script (terminals source) ≡ Got script rest
    → owns n.Script (left (beginning source 0))
    ≡ Got (own_tokens (functions_of source script) source 0 (script_info source)) rest
counted_alone source script rest is =
    subst (λ ts. owns n.Script ts ≡ Got (own_tokens (functions_of source script) source 0 (script_info source)) rest)
    (sym (all_seen source)) (script_counted source script rest is)

pub told_alone : (source : Text) (script : Tree) (rest : List Terminal) (end : ℕ)
    → reads n.Script (terminals source) ≡ Got script rest
    → All (ToldBefore (left (beginning source 0)) end) (functions_of source script)
told_alone source script rest end is =
    subst (λ ts. All (ToldBefore ts end) (functions_of source script)) (sym (all_seen source))
    (All-weaker (ToldArrow (terminals source)) (ToldBefore (terminals source) end)
    (λ info told arrow before after t split at inside. told arrow before after t split at)
    (functions_of source script) (arrows_told source script rest is))

-- What the verdict on a whole source says of its refusal and of its functions.
use Rattle.std.proofs.Common.{◌≡◌, Bool, List, [], ◌∷◌, Some, refl, ap, sym, ◌∙◌}
use Rattle.hz_tree.specs.declared.outside.BadKind.{BadKind}
use Rattle.hz_tree.specs.declared.nonterminal.Nonterminal.TheVariants as n
use Rattle.hz_tree.specs.declared.symbol.Symbol.TheVariants as s
use Rattle.hz_tree.specs.declared.tree.Tree.{Tree}
use Rattle.hz_tree.specs.tokens.Text.{Text}
use Rattle.hz_tree.specs.grammar.Look.{Terminal}
use Rattle.hz_tree.specs.grammar.Signals.{Event}
use Rattle.hz_tree.specs.reading.Reading.{Reading, Got, Stuck, Deeper, place_ahead, reads}
use Rattle.hz_tree.specs.reading.Stack.{Verdict, Through, At, Lost, ends}
use Rattle.hz_tree.specs.trees.Events.{events_of}
use Rattle.hz_tree.specs.trees.Drafts.{built, begun}
use Rattle.hz_tree.specs.sources.Refusals.{refusal_at, refusal_by, functions_by}
use Rattle.hz_laws.proofs.Told.{tell_reading}
use Rattle.hz_laws.proofs.RowLaws.{tells_tree}
use Rattle.hz_laws.proofs.StackLaws.{verdict_one, ends_whole}
use Rattle.hz_laws.proofs.Tied.{built_is}

-- the verdict on a source, from its reading
abbrev verdict_of : Reading Tree → Verdict
verdict_of (Got tree rest) = Through (events_of tree) rest
verdict_of (Stuck cause ts) = At cause ts
verdict_of Deeper = Lost

verdict_told : (r : Reading Tree) → verdict_one (s.Read n.Script) (tell_reading n.Script r) ≡ verdict_of r
verdict_told (Got tree rest) = refl
verdict_told (Stuck cause ts) = refl
verdict_told Deeper = refl

pub ends_script : (ts : List Terminal) → ends (s.Read n.Script ∷ []) ts ≡ verdict_of (reads n.Script ts)
ends_script ts =
    ends_whole n.Script ts ∙ ap (verdict_one (s.Read n.Script)) (tells_tree n.Script ts)
    ∙ verdict_told (reads n.Script ts)

stuck_from : (r : Reading Tree) (cause : BadKind) (us : List Terminal) → verdict_of r ≡ At cause us → r ≡ Stuck cause us
stuck_from (Got tree rest) cause us h = cc
stuck_from (Stuck cause' ts) cause us h = cc
stuck_from Deeper cause us h = cc

-- The source is refused where the symbols are stuck.
pub stuck_refuses : (ts : List Terminal) (cause : BadKind) (us : List Terminal) (strict : Bool)
    → ends (s.Read n.Script ∷ []) ts ≡ At cause us
    → refusal_by strict (reads n.Script ts) ≡ Some (refusal_at cause (place_ahead us))
stuck_refuses ts cause us strict h =
    ap (refusal_by strict) (stuck_from (reads n.Script ts) cause us (sym (ends_script ts) ∙ h))

functions_from : (source : Text) (r : Reading Tree) (es : List Event) (rest : List Terminal)
    → verdict_of r ≡ Through es rest
    → functions_by source r ≡ (built (begun source) es).functions
functions_from source (Got tree ts) es rest h =
    let same : events_of tree ≡ es = cc in
    ap (λ d. d.functions) (sym (built_is source tree) ∙ ap (built (begun source)) same)
functions_from source (Stuck cause ts) es rest h = cc
functions_from source Deeper es rest h = cc

-- The functions of a source that is read are those that its events build.
pub through_functions : (source : Text) (ts : List Terminal) (es : List Event) (rest : List Terminal)
    → ends (s.Read n.Script ∷ []) ts ≡ Through es rest
    → functions_by source (reads n.Script ts) ≡ (built (begun source) es).functions
through_functions source ts es rest h = functions_from source (reads n.Script ts) es rest (sym (ends_script ts) ∙ h)

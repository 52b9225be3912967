-- What comes of a whole source.
use Rattle.std.proofs.Common.{◌≡◌, Bool, true, false, nat_lt, ◌==◌, List, [], ◌∷◌, length, Some, None}
use Rattle.std.proofs.Common.{Err, refl, ap, sym, ◌∙◌, arith, subst}
use Rattle.std.specs.Str.Lossy.{utf8_valid_len}
use Rattle.hz_tree.specs.declared.nonterminal.Nonterminal.TheVariants as n
use Rattle.hz_tree.specs.declared.refusal.Refusal.{Refusal}
use Rattle.hz_tree.specs.declared.symbol.Symbol.TheVariants as s
use Rattle.hz_tree.specs.declared.tree.Tree.{Tree}
use Rattle.hz_tree.specs.errors.Limits.{limit_errors}
use Rattle.hz_tree.specs.tokens.Text.{Text}
use Rattle.hz_tree.specs.trees.Drafts as drafts
use Rattle.hz_tree.specs.trees.Events.{events_of}
use Rattle.hz_tree.specs.grammar.Look.{Terminal, terminals}
use Rattle.hz_tree.specs.grammar.Signals.{Event}
use Rattle.hz_tree.specs.reading.Reading.{Reading, Got, Stuck, Deeper, reads, place_ahead}
use Rattle.hz_tree.specs.sources.Refusals.{max_length, refusal_at, refusal_by, refusal_of, functions}
use Rattle.hz_tree.specs.sources.Refusals.{function_scopes_by, function_scopes}
use Rattle.hz_tree.specs.reading.Stack.{Verdict, Through, At, Lost, ends}
use Rattle.hz_laws.proofs.Answers.{ends_script, stuck_refuses, through_functions}
use Rattle.hz_laws.proofs.RowLaws.{script_fits}
use Rattle.hz_errors.specs.Errors.{refusal_found}
use Rattle.hz_errors.specs.Errors as errors
use Rattle.hz_errors.proofs.ErrorsLaw.{refusal_same}
use Rattle.hz_scopes.specs.Depth.{all_heard}
use Rattle.hz_scopes.specs.State.{State, finished}
use Rattle.hz_scopes.specs.State as states
use Rattle.hz_scopes.proofs.KeptLaw.{source_kept}
use Rattle.hz_scopes.proofs.ScopesLaw.{scopes_found}
use Rattle.hz_preparse.proofs.NoLimit.{no_limit}
use Rattle.hz_preparse.specs.declared.fault.PreFault.{PreFault}
use Rattle.hz_preparse.specs.declared.fault.PreFault.TheVariants.{Refused, Memory}
use Rattle.hz_preparse.specs.Heard.{Heard, begun, happens, after}
use Rattle.hz_preparse.specs.Outcome.{Outcome, done, refused, outcome, Answers, IsText, Kept, Reads}

pub answers_same : (o whole : Outcome) (fault : PreFault) → Answers o (Err fault) → o ≡ whole →
    Answers whole (Err fault)
answers_same o whole fault h e = subst (λ o. Answers o (Err fault)) e h

-- ---- a text's refusal is that of its reading

refusal_text : (source : Text) (strict : Bool) → IsText source → refusal_of source strict
    ≡ refusal_by strict (reads n.Script (terminals source))
unfolding refusal_of
refusal_text source strict h =
    let short : nat_lt max_length (length source) ≡ false = grind (arith, h.short) in
    let whole : (utf8_valid_len source == length source) ≡ true = grind (arith, h.whole) in
    rw (short, whole) refl

-- ---- what is heard

draft_heard : (es : List Event) (h : Heard) → (after h es).draft ≡ drafts.built h.draft es
draft_heard [] h = refl
draft_heard (e ∷ es) h = draft_heard es (happens h e)

scopes_heard : (es : List Event) (h : Heard) → (after h es).scopes ≡ all_heard h.scopes es
scopes_heard [] h = refl
scopes_heard (e ∷ es) h = scopes_heard es (happens h e)

errors_heard : (es : List Event) (h : Heard) → (after h es).errors ≡ errors.after h.errors es
errors_heard [] h = refl
errors_heard (e ∷ es) h = errors_heard es (happens h e)

-- what is heard of a source that is read: its functions, and why it is refused if it is
pub record Whole (source : Text) (h : Heard) : Type 0 where
  pub functions_are : h.draft.functions ≡ functions source
  pub refusal_is : (strict : Bool) → refusal_by strict (reads n.Script (terminals source))
      ≡ refusal_found strict h.errors
  pub scopes_are : (strict : Bool) → refusal_by strict (reads n.Script (terminals source)) ≡ None
      → Kept source h.scopes

-- ---- the recogniser's answer

got_functions : (source : Text) (h : Heard) (tree : Tree) (rest : List Terminal)
    → ends (s.Read n.Script ∷ []) (terminals source) ≡ Through (events_of tree) rest
    → after (begun source) (events_of tree) ≡ h → h.draft.functions ≡ functions source
unfolding functions
got_functions source h tree rest verdict built_it =
    ap (λ (h : Heard). h.draft.functions) (sym built_it)
    ∙ ap (λ (d : drafts.Draft). d.functions) (draft_heard (events_of tree) (begun source))
    ∙ sym (through_functions source (terminals source) (events_of tree) rest verdict)

got_refusal : (source : Text) (h : Heard) (tree : Tree) (rest : List Terminal)
    → reads n.Script (terminals source) ≡ Got tree rest → after (begun source) (events_of tree) ≡ h
    → (strict : Bool) → refusal_by strict (reads n.Script (terminals source)) ≡ refusal_found strict h.errors
got_refusal source h tree rest read built_it strict =
    ap (refusal_by strict) read
    ∙ sym (refusal_same tree (script_fits (terminals source) rest tree read) strict)
    ∙ ap (refusal_found strict) (sym (errors_heard (events_of tree) (begun source)))
    ∙ ap (λ (h : Heard). refusal_found strict h.errors) built_it

got_scopes : (source : Text) (h : Heard) (tree : Tree) (rest : List Terminal)
    → reads n.Script (terminals source) ≡ Got tree rest → after (begun source) (events_of tree) ≡ h
    → (strict : Bool) → refusal_by strict (reads n.Script (terminals source)) ≡ None → Kept source h.scopes
unfolding function_scopes
got_scopes source h tree rest read built_it strict none =
    let few : limit_errors tree ≡ [] = no_limit strict tree (ap (refusal_by strict) (sym read) ∙ none) in record {
      state = states.after states.begun (events_of tree);
      is =
          ap (λ (h : Heard). h.scopes) (sym built_it)
          ∙ scopes_heard (events_of tree) (begun source)
          ∙ source_kept tree (script_fits (terminals source) rest tree read) few;
      says = scopes_found source tree ∙ ap (function_scopes_by source) (sym read);
    }

done_reads : (source : Text) (h : Heard) (r : Reading Tree) → r ≡ reads n.Script (terminals source)
    → outcome (begun source) (ends (s.Read n.Script ∷ []) (terminals source)) ≡ done h → Whole source h
done_reads source h (Got tree rest) e o =
    let verdict : ends (s.Read n.Script ∷ []) (terminals source) ≡ Through (events_of tree) rest =
    rw (← e) at (ends_script (terminals source)) in
    let is : outcome (begun source) (Through (events_of tree) rest) ≡ done h =
    ap (outcome (begun source)) (sym verdict) ∙ o in
    let built_it : after (begun source) (events_of tree) ≡ h = cc in record {
      functions_are = got_functions source h tree rest verdict built_it;
      refusal_is = got_refusal source h tree rest (sym e) built_it;
      scopes_are = got_scopes source h tree rest (sym e) built_it;
    }
done_reads source h (Stuck cause ts) e o =
    let verdict : ends (s.Read n.Script ∷ []) (terminals source) ≡ At cause ts =
    rw (← e) at (ends_script (terminals source)) in
    let is : outcome (begun source) (At cause ts) ≡ done h = ap (outcome (begun source)) (sym verdict) ∙ o in cc
done_reads source h Deeper e o =
    let verdict : ends (s.Read n.Script ∷ []) (terminals source) ≡ Lost =
    rw (← e) at (ends_script (terminals source)) in
    let is : outcome (begun source) Lost ≡ done h = ap (outcome (begun source)) (sym verdict) ∙ o in cc

stuck_refuses_it : (source : Text) (why : Refusal) (strict : Bool) (v : Verdict) → v
    ≡ ends (s.Read n.Script ∷ []) (terminals source)
    → outcome (begun source) (ends (s.Read n.Script ∷ []) (terminals source)) ≡ refused why
    → refusal_by strict (reads n.Script (terminals source)) ≡ Some why
stuck_refuses_it source why strict (Through events rest) e h =
    let is : outcome (begun source) (Through events rest) ≡ refused why = ap (outcome (begun source)) e ∙ h in cc
stuck_refuses_it source why strict (At cause ts) e h =
    let is : outcome (begun source) (At cause ts) ≡ refused why = ap (outcome (begun source)) e ∙ h in
    let same : refusal_at cause (place_ahead ts) ≡ why = cc in
    stuck_refuses (terminals source) cause ts strict (sym e) ∙ ap Some same
stuck_refuses_it source why strict Lost e h =
    let is : outcome (begun source) Lost ≡ refused why = ap (outcome (begun source)) e ∙ h in cc

-- the recogniser's answers, for a text
module _ (source : Text) (cursor : List Terminal) (begins : Heard) (text : IsText source)
    (at_start : cursor ≡ terminals source) (begun_so : begins ≡ begun source) where
  from_start : outcome begins (ends (s.Read n.Script ∷ []) cursor)
      ≡ outcome (begun source) (ends (s.Read n.Script ∷ []) (terminals source))
  from_start =
      ap (λ ts. outcome begins (ends (s.Read n.Script ∷ []) ts)) at_start
      ∙ ap (λ h. outcome h (ends (s.Read n.Script ∷ []) (terminals source))) begun_so

  whole : (h : Heard) → outcome begins (ends (s.Read n.Script ∷ []) cursor) ≡ done h → Whole source h
  whole h o = done_reads source h (reads n.Script (terminals source)) refl (sym from_start ∙ o)

  pub read_ok : (h : Heard) → outcome begins (ends (s.Read n.Script ∷ []) cursor) ≡ done h → (strict : Bool)
      → (refusal_of source strict ≡ refusal_found strict h.errors) × (h.draft.functions ≡ functions source)
  read_ok h o strict =
      (refusal_text source strict text ∙ (whole h o).refusal_is strict, (whole h o).functions_are)

  pub read_scopes : (h : Heard) → outcome begins (ends (s.Read n.Script ∷ []) cursor) ≡ done h → (strict : Bool)
      → refusal_of source strict ≡ None → Kept source h.scopes
  read_scopes h o strict none =
      (whole h o).scopes_are strict (sym (refusal_text source strict text) ∙ none)

  pub read_err : (fault : PreFault) → Answers (outcome begins (ends (s.Read n.Script ∷ []) cursor)) (Err fault)
      → (strict : Bool) → Reads source strict (Err fault)
  read_err (Refused why) o strict =
      refusal_text source strict text
      ∙ stuck_refuses_it source why strict (ends (s.Read n.Script ∷ []) (terminals source)) refl (sym from_start ∙ o)
  read_err Memory o strict = tt

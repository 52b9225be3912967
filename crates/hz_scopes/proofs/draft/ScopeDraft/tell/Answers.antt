use Rattle.std.proofs.Common.{◌∙◌, ap, sym, refl, cond, length, true, Option, Some, None}
use Rattle.std.specs.Box.{box_value}
use Rattle.std.specs.Option.{option_map}
use Rattle.std.specs.Prelude.{nat_le}
use Rattle.hz_tree.specs.errors.Limits.{max_depth}
use Rattle.hz_tree.specs.grammar.Signals.{event}
use Rattle.hz_scopes.specs.Depth.{heard}
use Rattle.hz_scopes.specs.State.{State, happens}
use Rattle.hz_scopes.specs.Stored.{shown, happening}
use Rattle.hz_scopes.specs.declared.scopes.OpenScopes.{OpenScopes}
use Rattle.std.proofs.lemmas.Result.{err_from_is_err_and}
use Rattle.hz_scopes.proofs.DepthLemmas.{heard_kept}
use Rattle.hz_scopes.proofs.draft.ScopeDraft.tell.Goals as goal

pub returns-in_err-tell-clause-ok : goal.returns-in_err-tell-clause-ok
returns-in_err-tell-clause-ok c =
    let p = err_from_is_err_and c.from_residual.result c.from_residual.ensures.1 in rw p.1 tt

pub as_deep-requires : goal.as_deep-requires
as_deep-requires c = (c.in_ok-tell.ensures true).whole

pub returns-clause-ok : goal.returns-clause-ok
returns-clause-ok c octal =
    let s = shown (box_value c.in-Some.scopes) in
    let e = event c.args.signal (record {
      at = c.args.at;
      text = c.args.text.now;
      octal = octal;
      behind = c.args.behind;
    }) in
    let keep : State → Option State = λ s. cond (nat_le (length s.known.outer) max_depth) (Some s) None in
    c.as_deep.ensures.same ∙ ap keep (c.in_ok-tell.ensures octal).to
    ∙ ap (λ (x : OpenScopes). keep (happening e (shown x))) c.deref_mut.ensures.value
    ∙ sym (heard_kept s e (nat_le (length (happens s e).known.outer) max_depth) refl)
    ∙ ap (λ (o : Option State). heard o e) (ap (option_map (λ b. shown (box_value b))) c.in-Some.ensures.value ∙ c.self.view_is)

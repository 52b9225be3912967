use Rattle.std.proofs.Common.{◌≡◌, ◌<◌, ◌∙◌, ◌∷◌, ◌++◌, List, ℕ, true, ap, sym, refl, subst, map, drop, length, reverse}
use Rattle.std.proofs.Common.{arith, Bor}
use Rattle.std.proofs.lemmas.List.{length-reverse}
use Rattle.hz_scopes.specs.Entries.{texts_of}
use Rattle.hz_scopes.specs.Layers.{Layers, closed}
use Rattle.hz_scopes.specs.State.{State}
use Rattle.hz_scopes.specs.Stored.{Goes, shown, leaves, with_known, with_body_end, free_uses, free_of, outside_body}
use Rattle.hz_scopes.specs.Stored.{held_by}
use Rattle.hz_scopes.specs.declared.scopes.OpenScopes.{OpenScopes}
use Rattle.hz_tree.specs.tokens.Text.{Text}
use Rattle.hz_tree.specs.trees.FunctionScopes.{Used}
use Rattle.hz_scopes.proofs.EndLemmas.{length_bodies, leaves_at_top, left_shown, left_kept, left_nested}
use Rattle.hz_scopes.proofs.KeptLemmas.{reverse_push}
use Rattle.hz_scopes.proofs.scopes.OpenScopes.end_innermost.Goals as goal

pub returns : goal.returns
returns c =
    let end = c.args.end in
    let s = c.args.self.now in
    let one = c.drop_blocks.new.self in
    let whole = c.drop_blocks.ensures.gone.whole in
    let two = c.end_body.new.self in
    let three = c.leave.new.self in
    let known : two ≡ record one {
      table = with_body_end end one;
      uses = record { inner = free_uses one; outer = one.uses.outer };
    } = c.in_ok-free.ensures.known in
    let left : three ≡ record one {
      body = three.body;
      outer = three.outer;
      table = with_body_end end one;
      tops = closed one.tops;
      here = closed one.here;
      uses = closed one.uses;
      listed = drop 1 one.listed;
    } =
    c.leave.ensures.left ∙ ap (λ (s : OpenScopes). record s {
      body = three.body;
      outer = three.outer;
      tops = closed s.tops;
      here = closed s.here;
      uses = closed s.uses;
      listed = drop 1 s.listed;
    }) known in
    let add : List Text → Layers Used → Layers Used =
    λ names u. record u { inner = u.inner ++ map (λ name. record { name = name; inner = true }) names } in
    let uses : c.use_free.new.uses ≡ add (free_of one) (closed one.uses) =
    c.in_ok-use_free.ensures
    ∙ ap (λ (s : OpenScopes). add (texts_of c.deref.result.now) s.uses) left
    ∙ ap (λ (names : List (Bor (List ℕ))). add (texts_of names) (closed one.uses)) c.deref.ensures.value
    ∙ ap (λ (names : List Text). add names (closed one.uses)) c.in_ok-free.ensures.free in
    let made = ap (λ (s : OpenScopes). record s { uses = c.use_free.new.uses }) left
    ∙ ap (λ (u : Layers Used). record one {
      body = three.body;
      outer = three.outer;
      table = with_body_end end one;
      tops = closed one.tops;
      here = closed one.here;
      uses = u;
      listed = drop 1 one.listed;
    }) uses in
    let are : reverse one.outer.items ≡ three.body ∷ reverse three.outer.items =
    ap (λ (s : OpenScopes). reverse s.outer.items) (sym known) ∙ ap reverse c.leave.ensures.popped
    ∙ reverse_push three.outer.items three.body in
    let none = ap reverse c.drop_blocks.ensures.none in
    let some : 0 < length (shown s).known.outer =
    omega (
      arith,
      length_bodies (reverse s.outer.items) (outside_body (reverse s.body.blocks.items) (held_by s)),
      length-reverse s.outer.items,
      c.requires.within,
    ) in
    subst (λ (n : OpenScopes). Goes (with_known (leaves end)) s n) (sym made) (record {
      to = left_shown one three.body (reverse three.outer.items) end none are whole
          ∙ ap (λ (s : State). with_known (leaves end) s) c.drop_blocks.ensures.gone.to
          ∙ ap (λ k. record (shown s) { known = k }) (leaves_at_top end (shown s).known some);
      whole = record {
        pending = refl;
        nested = left_nested one end whole;
        kept = left_kept one three.body (reverse three.outer.items) end are whole;
      };
    })

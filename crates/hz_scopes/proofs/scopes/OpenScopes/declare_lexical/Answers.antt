use Rattle.std.proofs.Common.{◌≡◌, ◌<◌, ◌∙◌, ap, sym, length, reverse, arith}
use Rattle.std.proofs.lemmas.List.{length-reverse}
use Rattle.hz_scopes.specs.State.{Known, State}
use Rattle.hz_tree.specs.trees.FunctionScopes.{Declared}
use Rattle.hz_scopes.specs.Stored.{held_by, waiting_of}
use Rattle.std.specs.Vec.{vec_len}
use borrow.Author.Tests.{eqb-true, eqb-false}
use Rattle.hz_scopes.proofs.ShownLemmas.{top_shown, within_shown}
use Rattle.hz_scopes.proofs.scopes.OpenScopes.declare_lexical.Goals as goal

pub returns-in_ok-declare : goal.returns-in_ok-declare
returns-in_ok-declare c =
    let s = c.args.self.now in
    let d : Declared = record { binding = c.args.binding; name = c.args.name.now } in
    let blocks = s.body.blocks.items in
    let make : Known → State = λ k. record { begun = s.begun; waiting = waiting_of s.waiting; known = k } in
    let same = eqb-true (vec_len s.body.blocks) 0 (sym c.is_empty.ensures ∙ c.if-is_empty.true) in
    let none : length (reverse blocks) ≡ 0 = omega (arith, length-reverse blocks, same) in
    let shows = top_shown s.body (reverse blocks) (reverse s.outer.items) (held_by s) s.table.functions d none in
    record {
      to = rw (c.in_ok-declare.ensures, sym (c.at_top.ensures c.args.name.now)) (ap make shows);
      whole = record { pending = c.requires.pending; nested = c.requires.nested; kept = c.requires.kept };
    }

pub returns-in_ok-declare-2 : goal.returns-in_ok-declare-2
returns-in_ok-declare-2 c =
    let s = c.args.self.now in
    let d : Declared = record { binding = c.args.binding; name = c.args.name.now } in
    let blocks = s.body.blocks.items in
    let make : Known → State = λ k. record { begun = s.begun; waiting = waiting_of s.waiting; known = k } in
    let other = eqb-false (vec_len s.body.blocks) 0 (sym c.is_empty.ensures ∙ c.if-is_empty.false) in
    let some : 0 < length (reverse blocks) = omega (arith, length-reverse blocks, other) in
    let shows = within_shown s.body (reverse blocks) (reverse s.outer.items) (held_by s) s.table.functions d some in
    record {
      to = rw c.in_ok-declare-2.ensures (ap make shows);
      whole = record { pending = c.requires.pending; nested = c.requires.nested; kept = c.requires.kept };
    }

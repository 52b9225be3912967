use Rattle.std.proofs.Common.{◌∙◌, ◌++◌, ◌≤◌, ap, sym, append_assoc, arith, length}
use Rattle.std.specs.List.{enumerate_from, flat_map}
use Rattle.std.specs.Option.{option_map}
use Rattle.hz_index.specs.Views.{known_scope}
use Rattle.hz_tree.specs.tokens.Text.{Text}
use Rattle.hz_resolve.specs.Places.{place_at}
use Rattle.hz_front_dump.specs.Dump.{scope_line, scope_lines, name_line}
use Rattle.hz_front_dump.proofs.Written.{next_numbered, all_lines, length-enumerate}
use Rattle.hz_front_dump.proofs.scopes.push_scopes.Goals as goal

pub push_names-requires : goal.push_names-requires
push_names-requires c =
    c.requires c.loop-i.i (known_scope c.in-Some.scope)
    (sym c.get.ensures ∙ ap (option_map known_scope) c.in-Some.is)

pub loop-i-preserved : goal.loop-i-preserved
loop-i-preserved c =
    let places = place_at c.args.layout.now c.args.k in
    let i = c.loop-i.i in
    let s = known_scope c.in-Some.scope in
    let was = c.loop-i.text.items in
    let names = flat_map (name_line (places i)) (enumerate_from 0 s.names) in
    next_numbered (scope_lines places) c.args.scopes.now i s c.args.text.now.items was c.push_names.new.text.items
    c.loop-i.invariant (sym c.get.ensures ∙ ap (option_map known_scope) c.in-Some.is)
    (c.in_ok-push_names.ensures ∙ ap (λ (w : Text). w ++ names) c.in_ok-push_scope_line.ensures
    ∙ append_assoc was (scope_line i s) names)

pub returns : goal.returns
returns c =
    let all = enumerate_from 0 c.args.scopes.now in
    let ends : length all ≤ c.loop-i.i =
    omega (arith, length-enumerate 0 c.args.scopes.now, c.len-i-end.ensures, c.loop-i-test.false) in
    all_lines (scope_lines (place_at c.args.layout.now c.args.k)) all c.loop-i.i c.args.text.now.items c.loop-i.text.items ends c.loop-i.invariant

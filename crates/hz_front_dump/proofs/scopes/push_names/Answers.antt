use Rattle.std.proofs.Common.{◌∙◌, ◌++◌, ap, sym, ◌≤◌, arith, length}
use Rattle.std.specs.List.{enumerate_from}
use Rattle.std.specs.Option.{option_map}
use Rattle.hz_index.specs.Names.{known_name}
use Rattle.hz_resolve.specs.Places.{place_at}
use Rattle.hz_front_dump.specs.Dump.{name_line}
use Rattle.hz_front_dump.proofs.Written.{next_numbered, all_lines, length-enumerate, name_text}
use Rattle.hz_front_dump.proofs.scopes.push_names.Goals as goal

pub place_of-requires : goal.place_of-requires
place_of-requires c =
    c.requires c.loop-n.n (known_name c.in-Some.name) (sym c.get.ensures ∙ ap (option_map known_name) c.in-Some.is)

pub loop-n-preserved : goal.loop-n-preserved
loop-n-preserved c =
    let places = place_at c.args.layout.now c.args.k c.args.i in
    let n = c.loop-n.n in
    let x = known_name c.in-Some.name in
    next_numbered (name_line places) c.args.names.now n x c.args.text.now.items c.loop-n.text.items
    c.push_name.new.text.items c.loop-n.invariant (sym c.get.ensures ∙ ap (option_map known_name) c.in-Some.is)
    (c.in_ok-push_name.ensures
    ∙ ap (λ w. c.loop-n.text.items ++ w)
    (name_text places n x c.in_ok-place.place c.in_ok-place.ensures))

pub returns : goal.returns
returns c =
    let all = enumerate_from 0 c.args.names.now in
    let ends : length all ≤ c.loop-n.n =
    omega (arith, length-enumerate 0 c.args.names.now, c.len-n-end.ensures, c.loop-n-test.false) in
    all_lines (name_line (place_at c.args.layout.now c.args.k c.args.i)) all c.loop-n.n c.args.text.now.items c.loop-n.text.items ends c.loop-n.invariant

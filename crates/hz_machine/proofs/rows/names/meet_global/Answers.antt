use Rattle.std.proofs.Common.{rules, ◌≡◌, ◌∙◌, sym, ap, subst, option_map}
use Rattle.hz_value.specs.world.Globals.{read_global}
use Rattle.hz_ops.specs.code.Effects.{gives_value}
use Rattle.hz_machine.specs.Effects.{Follows}
use Rattle.hz_machine.specs.Kept.{world_of}
use Rattle.hz_machine.proofs.Naming.{with_text}
use Rattle.hz_machine.proofs.rows.names.meet_global.Goals as goal

pub returns : goal.returns
returns g c =
    let same : c.note_global.new.kept ≡ c.args.kept.now = search rules in
    with_text (g.C.Code.program c.args.code.now) c.args.frame.now c.args.kept.now
    (λ lines name. gives_value c.args.next c.args.frame.now (world_of lines c.args.kept.now) c.args.o.now.to
    (read_global c.args.kept.now.globals name))
    c.args.o.now.text c.in-Some.name.items c.read_global.result c.read_global.new.frame c.read_global.new.kept
    (sym c.in_ok-name.ensures ∙ ap (option_map (λ t. t.items)) c.in-Some.is)
    (subst (λ name. Follows c.read_global.result c.read_global.new.frame c.read_global.new.kept
    (λ lines. gives_value c.args.next c.args.frame.now (world_of lines c.args.kept.now) c.args.o.now.to
    (read_global c.args.kept.now.globals name))) c.as_slice-2.ensures.value
    (subst (λ k. Follows c.read_global.result c.read_global.new.frame c.read_global.new.kept
    (λ lines. gives_value c.args.next c.args.frame.now (world_of lines k) c.args.o.now.to
    (read_global k.globals c.as_slice-2.result.now))) same c.read_global.ensures))

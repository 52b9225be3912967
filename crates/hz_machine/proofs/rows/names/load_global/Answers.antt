use Rattle.std.proofs.Common.{◌∙◌, sym, ap, Ok}
use Rattle.hz_value.specs.world.Globals.{read_global}
use Rattle.hz_ops.specs.code.Effects.{gives_value}
use Rattle.hz_ops.specs.code.Operands.{text_into}
use Rattle.hz_machine.specs.Frames.{next_of}
use Rattle.hz_machine.specs.Kept.{world_of}
use Rattle.hz_machine.proofs.Naming.{text_met, known_read}
use Rattle.hz_machine.proofs.rows.names.load_global.Goals as goal

pub returns : goal.returns
returns g c =
    text_met (g.C.Code.program c.args.code.now) c.args.frame.now c.args.kept.now c.args.operands.now {E = Unit {0}}
    (λ lines r name. gives_value c.args.next c.args.frame.now (world_of lines c.args.kept.now) r
    (read_global c.args.kept.now.globals name))
    c.in-Some.o (Ok c.give_global.result) c.give_global.new.frame c.args.kept.now
    (ap (λ hs. text_into hs c.args.operands.now) (sym c.held.ensures) ∙ sym c.text_into.ensures ∙ c.in-Some.is)
    (λ lines. known_read (g.C.Code.program c.args.code.now) c.args.frame.now c.args.kept.now c.in-Some.o.text
    c.args.next c.in-Some-known_global.slot c.in-Some.o.to c.in-Some-known_global.ensures lines
    (next_of c.give_global.result c.give_global.new.frame (world_of lines c.args.kept.now))
    (λ name. c.give_global.ensures lines name))

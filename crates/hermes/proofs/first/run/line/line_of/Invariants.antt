use Rattle.std.proofs.Common.{◌≡◌, map, drop}
use Rattle.hz_ops.specs.Contents.{line_of}
use Rattle.hermes.specs.first.Rows.{content_of}
use Rattle.hermes.proofs.first_texts.running.Lines.{with_front, behind}
use Rattle.hermes.proofs.first.run.line.line_of.Given as goal

abbrev pub invariant-loop-argument : goal.invariant-loop-argument
invariant-loop-argument l = with_front l.line.items (behind (map content_of (drop l.argument-index l.rest)))
    ≡ line_of (map content_of l.fn.arguments)

use Rattle.std.proofs.Common.{rules, ◌≡◌, Some}
use Rattle.hz_machine.proofs.rows.names.known_writable.Goals as goal

pub returns-then-slot : goal.returns-then-slot
returns-then-slot g c =
    let there : (g.C.Code.program c.args.code.now).text c.args.id ≡ Some c.in_ok-name.name.now = search rules in
    record {
      name = c.in_ok-name.name.now;
      slot = c.in_ok-slot.slot;
      there = there;
      at = search rules;
      found = search rules;
      writable = c.if-slot.true;
    }

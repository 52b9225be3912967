-- The script's activation as the machine keeps it, and what a step of it asks for.
use Rattle.std.specs.Prelude.{ℕ, List, [], Option, None, option_map}
use Rattle.hz_value.specs.declared.values.Value.TheVariants as value
use Rattle.hz_value.specs.world.World.{World}
use Rattle.hz_value.specs.system.Acts as act
use Rattle.hz_ops.specs.declared.held.Held.{Held}
use Rattle.hz_ops.specs.code.Activations.{Activation}
use Rattle.hz_machine.specs.declared.act.Act.{Act}
use Rattle.hz_machine.specs.declared.act.Act.TheVariants.{Go, Call, Return, Throw, Turn, Spent, Leave, Bad}
use Rattle.hz_machine.specs.declared.frame.Reply.{Reply}
use Rattle.hz_machine.specs.declared.frame.Reply.TheVariants.{Normal, Thrown}

abbrev pub reply_of : Reply → act.Reply
reply_of (Normal v) = act.Normal v
reply_of (Thrown v) = act.Thrown v

abbrev pub activation : ℕ → List Held → Option Reply → Activation
activation place registers reply = record {
  function = 0;
  place = place;
  registers = registers;
  environment = None;
  this = value.Undefined;
  arguments = [];
  new_target = value.Undefined;
  callee = None;
  reply = option_map reply_of reply;
}

-- the step that asks for this, behind which the activation and the world stand as given
abbrev pub next_of : Act → Activation → World → act.Next Activation
next_of Go a w = act.Goes a w
next_of (Call callee this arguments) a w = act.Does (act.Call callee this arguments.items) a w
next_of (Return v) a w = act.Does (act.Return v) a w
next_of (Throw v) a w = act.Does (act.Throw v) a w
next_of Turn a w = act.Does act.Turn a w
next_of Spent a w = act.Does act.Spent a w
next_of (Leave reason) a w = act.Does (act.Leave reason) a w
next_of Bad a w = act.Does act.Bad a w

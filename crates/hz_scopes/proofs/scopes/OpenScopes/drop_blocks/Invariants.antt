use Rattle.std.proofs.Common.{◌≡◌, length}
use Rattle.hz_scopes.specs.State.{in_body}
use Rattle.hz_scopes.specs.Stored.{shown, at_its_top, IsWhole}
use Rattle.hz_scopes.proofs.scopes.OpenScopes.drop_blocks.Given as goal

abbrev pub invariant-loop-self : goal.invariant-loop-self
invariant-loop-self l = record {
  top : in_body at_its_top (shown l.self) ≡ in_body at_its_top (shown l.initial.self);
  whole : IsWhole l.self;
  outer : l.self.outer ≡ l.initial.self.outer;
}

abbrev pub decreases-loop-self : goal.decreases-loop-self
decreases-loop-self l = length l.self.body.blocks.items

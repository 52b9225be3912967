use Rattle.std.proofs.Common.{◌≡◌, take, length, reverse}
use Rattle.std.specs.HashMap.{get_by}
use Rattle.std.specs.Str.{bytes_eq}
use Rattle.hz_scopes.specs.Links.{IsIndexed}
use Rattle.hz_scopes.proofs.uses.truncate.Given as goal

abbrev pub invariant-loop-entries : goal.invariant-loop-entries
invariant-loop-entries l = record {
  fewer : take l.len l.entries.items ≡ take l.len l.initial.entries.items;
  indexed : IsIndexed (reverse l.entries.items) (λ name. get_by (λ k. bytes_eq name k.now) l.last);
}

abbrev pub decreases-loop-entries : goal.decreases-loop-entries
decreases-loop-entries l = length l.entries.items

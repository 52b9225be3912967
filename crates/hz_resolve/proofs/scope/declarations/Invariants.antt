use Rattle.std.proofs.Common.{◌≡◌, ◌+◌, ◌-◌, ℕ, List, length, take, option_map}
use Rattle.std.specs.HashMap.{get_by}
use Rattle.std.specs.Str.{bytes_eq}
use Rattle.hz_resolve.specs.Numbered.{declaration_among}
use Rattle.hz_resolve.proofs.scope.declarations.Given as goal

abbrev pub decreases-loop-name : goal.decreases-loop-name
decreases-loop-name l = length l.names - l.i

abbrev pub invariant-loop-name : goal.invariant-loop-name
invariant-loop-name l = (name : List ℕ) → get_by (λ k. bytes_eq name k.now) l.declared
    ≡ option_map (λ j. l.first + j) (declaration_among name (take l.i l.names))

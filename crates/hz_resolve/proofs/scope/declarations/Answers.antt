use Rattle.std.proofs.Common.{◌≡◌, ◌∙◌, Some, sym, ap, rules, option_map}
use Rattle.std.specs.HashMap.{get_by}
use Rattle.std.specs.Str.{bytes_eq}
use Rattle.hz_index.specs.Names.{known_name}
use Rattle.hz_resolve.proofs.Declared.{known_step}
use Rattle.hz_resolve.proofs.scope.declarations.Goals as goal

pub loop-name-preserved : goal.loop-name-preserved
loop-name-preserved c =
    known_step c.args.first c.loop-name.i c.args.names.now (known_name c.in-Some.name)
    (λ q. get_by (λ k. bytes_eq q k.now) c.loop-name.declared)
    (λ q. get_by (λ k. bytes_eq q k.now) c.declare.new.declared)
    (sym c.get.ensures ∙ ap (option_map known_name) c.in-Some.is) c.loop-name.invariant c.in_ok-declare.ensures

use Rattle.std.proofs.Common.{◌≡◌, ◌∙◌, Some, sym, ap, Bool, true, false, not, ◌&&◌, rules}
use Rattle.std.proofs.lemmas.Map.Text.{hash_map_updates_str}
use Rattle.std.specs.HashMap.{get_by}
use Rattle.std.specs.Str.{bytes_eq}
use Rattle.std.specs.Option.{is_some}
use Rattle.hz_index.specs.Names.{known_name}
use Rattle.hz_resolve.proofs.Declared.{put_in}
use Rattle.hz_resolve.proofs.scope.declare.Goals as goal

pub returns-in_ok-insert : goal.returns-in_ok-insert
returns-in_ok-insert c = λ other.
    hash_map_updates_str c.args.name.now.name.now c.args.declared.now c.insert.new.self (Some c.args.number)
    c.in_ok-insert.ensures.updates other
    ∙ put_in (known_name c.args.name.now) other (λ q. get_by (λ k. bytes_eq q k.now) c.args.declared.now)
    c.args.number (search rules) (search rules)

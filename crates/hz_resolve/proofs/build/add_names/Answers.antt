use Rattle.std.proofs.Common.{◌≡◌, ◌∙◌, ap, sym, arith, ◌++◌, ◌∷◌, [], List, map, Some, length, ◌≤◌}
use Rattle.std.proofs.lemmas.List.{map-append, take_all}
use Rattle.hz_tree.specs.trees.FunctionScopes.{ScopeName}
use Rattle.hz_resolve.specs.Numbered.{Use, use_in}
use Rattle.hz_resolve.specs.Views.{known_use}
use Rattle.hz_resolve.specs.declared.name.Name.{Name}
use Rattle.hz_resolve.proofs.Building.{names_step, name_there, no_name}
use Rattle.hz_resolve.proofs.build.add_names.Goals as goal

pub loop-name-preserved : goal.loop-name-preserved
loop-name-preserved c =
    let s = c.args.scope.now.scope in
    let there = name_there s c.loop-name.i c.name.result c.in-Some.name c.name.ensures c.in-Some.is in
    ap (map known_use) c.in_ok-push.ensures.items
    ∙ map-append known_use c.loop-name.names.items (c.in-Some.name ∷ [])
    ∙ ap (λ (u : Use). map known_use c.loop-name.names.items ++ u ∷ []) there.known
    ∙ names_step s c.loop-name.i there.name (map known_use c.args.names.now.items)
    (map known_use c.loop-name.names.items) there.at c.loop-name.invariant

pub returns : goal.returns
returns c =
    let s = c.args.scope.now.scope in
    let all : length s.names ≤ c.loop-name.i = no_name s c.loop-name.i c.name.result c.name.ensures c.in_default.is in
    c.loop-name.invariant
    ∙ ap (λ (ns : List ScopeName). map known_use c.args.names.now.items ++ map (use_in s) ns)
    (take_all c.loop-name.i s.names all)

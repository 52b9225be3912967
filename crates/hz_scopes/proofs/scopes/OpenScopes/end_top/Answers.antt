use Rattle.std.proofs.Common.{◌≡◌, ◌∙◌, ◌&&◌, ◌++◌, ap, List, ℕ, Bool}
use Rattle.std.specs.List.{filter}
use Rattle.hz_index.specs.Table.{Table, with_end}
use Rattle.hz_scopes.specs.Layers.{Layers, first_start}
use Rattle.hz_scopes.specs.Naming.{declared_names, used_names, with_names, shows, arguments_name}
use Rattle.hz_scopes.specs.Stored.{declared_by, free_uses, with_top_end}
use Rattle.hz_scopes.specs.declared.scopes.OpenScopes.{OpenScopes}
use Rattle.hz_tree.specs.trees.FunctionScopes.{Used, ScopeName, outside, scope_names, activation, used_within}
use Rattle.hz_scopes.proofs.NamingLemmas.{top_names, free_left}
use Rattle.hz_scopes.proofs.scopes.OpenScopes.end_top.Goals as goal

pub returns : goal.returns
returns c =
    let s = c.args.self.now in
    let binds = s.body.binds in
    let used = s.uses.inner in
    let declared = s.tops.inner in
    let here = s.here.inner in
    let bound = declared_names (activation binds used) in
    let make : Table → Layers Used → OpenScopes = λ t u. record s { table = t; uses = u } in
    let test = shows binds (binds && used_within used arguments_name) declared in
    let table : c.add_here.new.table ≡ record s.table { pending = scope_names binds (declared_by s) here } =
    c.in_ok-add_here.ensures
    ∙ ap (λ (a : Bool). with_names (used_names (filter (shows binds a declared) here)) c.add_declared.new.table)
    c.in_ok-arguments.ensures.arguments
    ∙ ap (with_names (used_names (filter test here)))
    (c.in_ok-add_declared.ensures.named ∙ ap (with_names (declared_names declared)) c.in_ok-arguments.ensures.named)
    ∙ ap (λ (known : List ScopeName). record s.table {
      pending = ((known ++ bound) ++ declared_names declared) ++ used_names (filter test here);
    }) c.requires.pending
    ∙ ap (λ (known : List ScopeName). record s.table { pending = known }) (top_names binds used declared here) in
    let last : c.end_scope.new.self ≡ with_top_end c.args.end s =
    c.end_scope.ensures ∙ ap (λ (place : ℕ). with_end place c.args.end c.add_here.new.table) c.innermost.ensures
    ∙ ap (with_end (first_start s.listed) c.args.end) table in
    let uses : c.add_declared.new.uses ≡ record s.uses { inner = free_uses s } =
    c.in_ok-add_declared.ensures.taken
    ∙ ap (λ (u : Layers Used). record u { inner = outside declared u.inner }) c.in_ok-arguments.ensures.taken
    ∙ ap (λ (inner : List Used). record s.uses { inner = inner }) (free_left binds used declared) in
    ap (λ (t : Table). make t c.add_declared.new.uses) last ∙ ap (make (with_top_end c.args.end s)) uses

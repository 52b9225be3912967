use Rattle.std.proofs.Common.{◌≡◌, take}
use Rattle.hz_tree.specs.trees.FunctionScopes.{outside}
use Rattle.hz_scopes.specs.Naming.{declared_names, with_names}
use Rattle.hz_scopes.proofs.naming.add_declared.Given as goal

abbrev pub invariant-loop-place : goal.invariant-loop-place
invariant-loop-place l = record {
  named : l.table ≡ with_names (declared_names (take l.place l.declared.inner)) l.initial.table;
  taken : l.uses ≡ record l.initial.uses { inner = outside (take l.place l.declared.inner) l.initial.uses.inner };
}

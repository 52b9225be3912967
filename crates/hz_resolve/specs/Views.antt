-- A name as the code keeps it.
use Rattle.hz_resolve.specs.Numbered.{Use}
use Rattle.hz_resolve.specs.declared.name.Name.{Name}

abbrev pub known_use : Name → Use
known_use n = record {
  name = n.text.now;
  binding = n.binding;
  scope = n.scope;
  function = n.function;
  own = n.own;
}

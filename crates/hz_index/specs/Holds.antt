-- What an index knows of its source.
use Rattle.std.specs.Prelude.{◌≡◌, Bool, List, None}
use Rattle.hz_tree.specs.declared.index.FunctionInfo.{FunctionInfo}
use Rattle.hz_tree.specs.sources.Refusals.{refusal_of, functions as functions_in, function_scopes}
use Rattle.hz_tree.specs.tokens.Text.{Text}
use Rattle.hz_index.specs.Table.{Table}

pub record Holds (source : Text) (strict : Bool) (functions : List FunctionInfo) (table : Table) : Type 0 where
  pub accepted : refusal_of source strict ≡ None
  pub functions_known : functions ≡ functions_in source
  pub scopes_known : table.functions ≡ function_scopes source

-- What is known of a source behind some of its events.
use Rattle.std.specs.Prelude.{List, [], ◌∷◌, Option, Some}
use Rattle.hz_tree.specs.grammar.Signals.{Event}
use Rattle.hz_tree.specs.tokens.Text.{Text}
use Rattle.hz_tree.specs.trees.Drafts.{Draft}
use Rattle.hz_tree.specs.trees.Drafts as drafts
use Rattle.hz_errors.specs.Errors.{Errors}
use Rattle.hz_errors.specs.Errors as errors
use Rattle.hz_scopes.specs.Depth as depth
use Rattle.hz_scopes.specs.State.{State}
use Rattle.hz_scopes.specs.State as scopes

-- the functions, what is known of their scopes where that is kept, and the errors
pub record Heard : Type 0 where
  pub draft : Draft
  pub scopes : Option State
  pub errors : Errors

abbrev pub begun : Text → Heard
begun source = record { draft = drafts.begun source; scopes = Some scopes.begun; errors = errors.begun }

abbrev pub happens : Heard → Event → Heard
happens h e = record {
  draft = drafts.happens h.draft e;
  scopes = depth.heard h.scopes e;
  errors = errors.happens h.errors e;
}

abbrev pub after : Heard → List Event → Heard
after h [] = h
after h (e ∷ more) = after (happens h e) more

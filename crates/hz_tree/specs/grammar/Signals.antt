-- What the grammar tells between two tokens.
use Rattle.std.specs.Prelude.{ℕ, Bool}
use Rattle.hz_tree.specs.declared.signal.Signal.{Signal}
use Rattle.hz_tree.specs.declared.signal.Signal.TheVariants as tell
use Rattle.hz_tree.specs.tokens.Text.{Text}

-- what stands where a signal is told
pub record Told : Type 0 where
  pub at : ℕ  -- the place of the next token
  pub text : Text  -- and its text
  pub octal : Bool  -- it is a string literal with a legacy octal escape
  pub behind : ℕ  -- the place at which the token before it ends

-- a signal with what is told beside it
pub data Event : Type 0 where
  Plain : Signal → Event
  Placed : Signal → (at : ℕ) → Event
  Texted : Signal → Text → Event
  Named : Signal → (at : ℕ) → Text → Event
  Written : Signal → (at : ℕ) → Text → (octal : Bool) → Event

abbrev pub event : Signal → Told → Event
event (tell.Begin kind) told = Placed (tell.Begin kind) told.at
event tell.Name told = Named tell.Name told.at told.text
event tell.This told = Placed tell.This told.at
event tell.NewTarget told = Placed tell.NewTarget told.at
event tell.Literal told = Placed tell.Literal told.at
event tell.Octal told = Placed tell.Octal told.at
event tell.Text told = Written tell.Text told.at told.text told.octal
event (tell.Declare role) told = Named (tell.Declare role) told.at told.text
event tell.Rest told = Placed tell.Rest told.at
event tell.Use told = Texted tell.Use told.text
event (tell.ScopeHere kind) told = Placed (tell.ScopeHere kind) told.at
event tell.EndScope told = Placed tell.EndScope told.behind
event (tell.Open node kind) told = Placed (tell.Open node kind) told.at
event tell.Close told = Placed tell.Close told.behind
event tell.Label told = Texted tell.Label told.text
event (tell.JumpTo jump) told = Texted (tell.JumpTo jump) told.text
event tell.WordKey told = Texted tell.WordKey told.text
event tell.TextKey told = Written tell.TextKey told.at told.text told.octal
event tell.OctalKey told = Placed tell.OctalKey told.at
event signal told = Plain signal

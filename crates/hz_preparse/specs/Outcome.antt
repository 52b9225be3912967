-- What comes of a source.
use Rattle.std.specs.Prelude.{◌≡◌, ◌≤◌, Bool, length, Option, Some, None, Result, Ok, Err}
use Rattle.std.specs.Str.Lossy.{utf8_valid_len}
use Rattle.hz_tree.specs.declared.refusal.Refusal.{Refusal}
use Rattle.hz_tree.specs.tokens.Text.{Text}
use Rattle.hz_tree.specs.reading.Reading.{place_ahead}
use Rattle.hz_tree.specs.sources.Refusals.{Accepted, max_length, refusal_at, refusal_of, function_scopes}
use Rattle.hz_tree.specs.reading.Stack.{Verdict, Through, At, Lost}
use Rattle.hz_scopes.specs.State.{State, finished}
use Rattle.hz_preparse.specs.Heard.{Heard, after}
use Rattle.hz_preparse.specs.declared.fault.PreFault.{PreFault}
use Rattle.hz_preparse.specs.declared.fault.PreFault.TheVariants.{Refused, Memory}

-- a refusal is the reason for which the source is refused; memory may be wanting always
abbrev pub Refuses : (why : Option Refusal) → PreFault → Type 0
Refuses why (Refused refusal) = why ≡ Some refusal
Refuses why Memory = Unit {0}

-- ---- a reading without its tree

pub data Outcome : Type 0 where
  done : Heard → Outcome
  refused : Refusal → Outcome
  nothing : Outcome  -- this does not arise

-- the verdict on what is left to read, where the tokens before it told this
abbrev pub outcome : Heard → Verdict → Outcome
outcome h (Through events rest) = done (after h events)
outcome h (At cause ts) = refused (refusal_at cause (place_ahead ts))
outcome h Lost = nothing

abbrev pub Answers : Outcome → Result Heard PreFault → Type 0
Answers o (Ok heard) = o ≡ done heard
Answers o (Err (Refused refusal)) = o ≡ refused refusal
Answers o (Err Memory) = Unit {0}

-- ---- parts of a source's refusal

-- short enough, and in UTF-8
pub record IsText (source : Text) : Type 0 where
  pub short : length source ≤ max_length
  pub whole : utf8_valid_len source ≡ length source

-- what is known of scopes is kept, and is what the source says
pub record Kept (source : Text) (scopes : Option State) : Type 0 where
  pub state : State
  pub is : scopes ≡ Some state
  pub says : finished (length source) state ≡ function_scopes source

-- the index of a text that is not refused, or the refusal
abbrev pub Reads : Text → (strict : Bool) → Result Accepted PreFault → Type 0
Reads source strict (Ok index) =
    (refusal_of source strict ≡ None) × (index ≡ record { source = source; strict = strict })
Reads source strict (Err (Refused refusal)) = refusal_of source strict ≡ Some refusal
Reads source strict (Err Memory) = Unit {0}

-- What the answers of a conversion or an operator say.
use Rattle.std.specs.Prelude.{◌≡◌, ℕ, List, ◌++◌, Result, Ok, Err, ⊤}
use Rattle.hz_value.specs.operators.Contents as content
use Rattle.hz_value.specs.operators.Computed.{Computed, Gives, Throws, Leaves}
use Rattle.hz_value.specs.operators.Messages.{SymbolConversion}
use Rattle.hz_operators.specs.declared.contents.Content.{Content}
use Rattle.hz_operators.specs.declared.contents.Content.TheVariants.{Undefined, Null, Boolean, Number, Text, Symbol}
use Rattle.hz_operators.specs.declared.contents.Content.TheVariants.{Object}
use Rattle.hz_operators.specs.declared.halt.Halt.{Halt}
use Rattle.hz_operators.specs.declared.halt.Halt.TheVariants as halt
use Rattle.hz_operators.specs.declared.halt.TextHalt.{TextHalt}
use Rattle.hz_operators.specs.declared.halt.TextHalt.TheVariants as text_halt

-- a content that is held
abbrev pub content_of : Content → content.Content
content_of Undefined = content.Undefined
content_of Null = content.Null
content_of (Boolean b) = content.Boolean b
content_of (Number z) = content.Number z
content_of (Text units) = content.Text units.now
content_of (Symbol n) = content.Symbol n
content_of (Object n) = content.Object n

-- what is computed where there is no result for this cause
abbrev pub halted : {T : Type 0} → Halt → Computed T
halted halt.Symbol = Throws SymbolConversion
halted (halt.Leaves reason) = Leaves reason

-- the result, seen so, is what is computed
abbrev pub Means : {S T : Type 0} → (S → T) → Result S Halt → Computed T → Type 0
Means see (Ok x) found = found ≡ Gives (see x)
Means see (Err cause) found = found ≡ halted cause

-- the cause is what is computed; want of memory says nothing
abbrev pub Halted : {T : Type 0} → TextHalt → Computed T → Type 0
Halted (text_halt.Halt cause) found = found ≡ halted cause
Halted text_halt.Memory found = ⊤

-- the result, seen so, is what is computed, where memory does not run out
abbrev pub MeansText : {S T : Type 0} → (S → T) → Result S TextHalt → Computed T → Type 0
MeansText see (Ok x) found = found ≡ Gives (see x)
MeansText see (Err cause) found = Halted cause found

-- the text that is computed is put behind what was there
abbrev pub MeansPushed : List ℕ → List ℕ → Result (Unit {0}) TextHalt → Computed (List ℕ) → Type 0
MeansPushed old new (Ok done) found = (t : List ℕ) × (found ≡ Gives t) × (new ≡ old ++ t)
MeansPushed old new (Err cause) found = Halted cause found

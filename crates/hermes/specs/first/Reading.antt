-- What the reader of first texts has still to come, at each of its states. Only its private steps cite this.
use Rattle.std.specs.Prelude.{◌≡◌, ℕ, ◌+◌, ◌≤◌, Bool, IsTrue, List, [], ◌∷◌, ◌++◌, length, decimal, flat_map, map}
use Rattle.std.specs.Prelude.{slice_range, take, ◌==◌, Option, Some, None, false, Result, Ok, Err}
use Rattle.std.specs.List.{list_all}
use Rattle.hermes.specs.first.Texts.{sign_byte, argument_tokens, call_tokens, Spaced, is_number, is_text_byte}
use Rattle.hermes.specs.first.Texts.{is_argument, IsFirst, IsOnly, IsStuck}
use Rattle.hermes.specs.declared.first.language.Sign.TheVariants.{Plus}
use Rattle.hermes.specs.declared.first.language.Addend.{Addend}
use Rattle.hermes.specs.declared.first.language.Sum.{Sum}
use Rattle.hermes.specs.declared.first.language.Argument.{Argument}
use Rattle.hermes.specs.declared.first.language.Argument.TheVariants as argument
use Rattle.hermes.specs.declared.first.state.Operator.{Operator}
use Rattle.hermes.specs.declared.first.state.Operator.TheVariants as operator
use Rattle.hermes.specs.declared.first.state.Next.{Next}
use Rattle.hermes.specs.declared.first.state.Next.TheVariants as next
use Rattle.hermes.specs.declared.first.state.State.{State}
use Rattle.hermes.specs.declared.first.state.State.TheVariants as state
use Rattle.hermes.specs.declared.first.language.FirstFault.{FirstFault}
use Rattle.hermes.specs.declared.first.language.FirstFault.TheVariants as fault

-- A sum as the list of its numbers, each with the operator in front of it. The first has a plus there.
abbrev pub Step : Type 0
Step = Operator × ℕ

abbrev pub times : ℕ → Step
times n = (operator.Times, n)

abbrev pub addend_steps : Addend → List Step
addend_steps a = (operator.Sign a.sign, a.term.first) ∷ map times a.term.others

abbrev pub later_steps : Sum → List Step
later_steps s = map times s.first.others ++ flat_map addend_steps s.others

abbrev pub steps_of : Sum → List Step
steps_of s = (operator.Sign Plus, s.first.first) ∷ later_steps s

-- The numbers that are read, with the one whose value is given.
abbrev pub steps_with : Option (Sum × Operator) → ℕ → List Step
steps_with None n = (operator.Sign Plus, n) ∷ []
steps_with (Some (s, op)) n = steps_of s ++ (op, n) ∷ []

abbrev pub operator_byte : Operator → ℕ
operator_byte (operator.Sign sign) = sign_byte sign
operator_byte operator.Times = 42

abbrev pub operator_token : Operator → List ℕ
operator_token op = operator_byte op ∷ []

abbrev pub step_tokens : Step → List (List ℕ)
step_tokens u = operator_token u.0 ∷ decimal u.1 ∷ []

abbrev pub is_step : Step → Bool
is_step u = is_number u.1

-- These tokens lead from the calls that are read to all calls: behind a call, before `;`, and before `)`.
abbrev pub FollowCall : List Argument → List (List ℕ) → List Argument → Type 0
FollowCall done tokens calls =
    (more : List Argument) × (calls ≡ done ++ more) × IsTrue (list_all is_argument more)
    × (tokens ≡ flat_map call_tokens more)

abbrev pub FollowEnd : List Argument → List (List ℕ) → List Argument → Type 0
FollowEnd done tokens calls = (rest : List (List ℕ)) × (tokens ≡ (59 ∷ []) ∷ rest) × FollowCall done rest calls

abbrev pub FollowClose : List Argument → List (List ℕ) → List Argument → Type 0
FollowClose done tokens calls = (rest : List (List ℕ)) × (tokens ≡ (41 ∷ []) ∷ rest) × FollowEnd done rest calls

-- Behind the numbers of a sum.
abbrev pub FollowSum : List Step → List Argument → List (List ℕ) → List Argument → Type 0
FollowSum steps done tokens calls =
    (s : Sum) × (more : List Step) × (rest : List (List ℕ))
    × (steps_of s ≡ steps ++ more) × IsTrue (list_all is_step more)
    × (tokens ≡ flat_map step_tokens more ++ rest) × FollowClose (done ++ argument.Sum s ∷ []) rest calls

-- Before a number of a sum.
abbrev pub FollowNumber : Sum → Operator → List Argument → List (List ℕ) → List Argument → Type 0
FollowNumber s op done tokens calls =
    (n : ℕ) × (rest : List (List ℕ)) × IsTrue (is_number n) × (tokens ≡ decimal n ∷ rest)
    × FollowSum (steps_of s ++ (op, n) ∷ []) done rest calls

abbrev pub FollowArgument : List Argument → List (List ℕ) → List Argument → Type 0
FollowArgument done tokens calls =
    (a : Argument) × (rest : List (List ℕ)) × IsTrue (is_argument a) × (tokens ≡ argument_tokens a ++ rest)
    × FollowClose (done ++ a ∷ []) rest calls

abbrev pub FollowOpen : List Argument → List (List ℕ) → List Argument → Type 0
FollowOpen done tokens calls = (rest : List (List ℕ)) × (tokens ≡ (40 ∷ []) ∷ rest) × FollowArgument done rest calls

abbrev pub Follow : Next → List Argument → List (List ℕ) → List Argument → Type 0
Follow next.Call done tokens calls = FollowCall done tokens calls
Follow next.Open done tokens calls = FollowOpen done tokens calls
Follow next.Argument done tokens calls = FollowArgument done tokens calls
Follow next.Close done tokens calls = FollowClose done tokens calls
Follow next.End done tokens calls = FollowEnd done tokens calls
Follow (next.Operator s) done tokens calls = FollowSum (steps_of s) done tokens calls
Follow (next.Number s op) done tokens calls = FollowNumber s op done tokens calls

-- In a token of which `part` is still to come.
abbrev pub RestToken : List ℕ → Next → List Argument → List ℕ → List Argument → Type 0
RestToken part after done bytes calls =
    (tokens : List (List ℕ)) × Follow after done tokens calls × Spaced (part ∷ tokens) bytes

-- In a text of which these bytes are read.
abbrev pub RestText : List ℕ → List Argument → List ℕ → List Argument → Type 0
RestText text done bytes calls =
    (more : List ℕ) × (tokens : List (List ℕ)) × (length text + length more ≤ 254) × IsTrue (list_all is_text_byte more)
    × FollowClose (done ++ argument.Text (text ++ more) ∷ []) tokens calls × Spaced ((more ++ 34 ∷ []) ∷ tokens) bytes

-- In a number whose digits so far have this value.
abbrev pub RestNumber : Option (Sum × Operator) → ℕ → List Argument → List ℕ → List Argument → Type 0
RestNumber before value done bytes calls =
    (n : ℕ) × (more : List ℕ) × (tokens : List (List ℕ)) × IsTrue (is_number n) × (decimal n ≡ decimal value ++ more)
    × FollowSum (steps_with before n) done tokens calls × Spaced (more ∷ tokens) bytes

-- These bytes complete what is read: the first `at` bytes of the source, with the calls in `done`, so that they give
-- these calls.
abbrev pub Rest : List ℕ → ℕ → State → List Argument → List ℕ → List Argument → Type 0
Rest source at (state.Token part after) done bytes calls = RestToken part.now after done bytes calls
Rest source at (state.Text start) done bytes calls = RestText (slice_range source start at) done bytes calls
Rest source at (state.Number before value) done bytes calls = RestNumber before value done bytes calls

-- The bytes are a whole text with these calls.
abbrev pub Whole : Bool → List ℕ → List Argument → Type 0
Whole strict bytes calls = IsFirst strict calls bytes

-- Over the byte b: what completes the new state completes the old one behind b, and nothing else does.
pub record Moves (old new : List ℕ → List Argument → Type 0) (b : ℕ) : Type 0 where
  pub on : (r : List ℕ) (calls : List Argument) → old (b ∷ r) calls → new r calls
  pub back : (r : List ℕ) (calls : List Argument) → new r calls → old (b ∷ r) calls

-- Nothing that begins with the byte b completes the state.
abbrev pub Halts : (List ℕ → List Argument → Type 0) → ℕ → Type 0
Halts old b = (r : List ℕ) (calls : List Argument) → old (b ∷ r) calls → ⊥

-- What holds at each state: a text begins in what is read, and a number is not too large.
abbrev pub IsState : ℕ → State → Type 0
IsState at (state.Token part after) = Unit {0}
IsState at (state.Text start) = (start ≤ at) × (at ≤ start + 254)
IsState at (state.Number before value) = IsTrue (is_number value)

-- What a step over the byte b gives, at the place `at`, where `old` says what was still to come.
abbrev pub Stepped : (List ℕ → List Argument → Type 0) → List ℕ → ℕ → ℕ → List Argument → Result State FirstFault
    → Type 0
Stepped old source at b done (Ok new) = IsState (at + 1) new × Moves old (Rest source (at + 1) new done) b
Stepped old source at b done (Err (fault.NotYet n)) = (n ≡ at) × Halts old b
Stepped old source at b done (Err fault.Memory) = Unit {0}

-- The state says what is still to come behind the first `at` bytes.
pub record IsRead (strict : Bool) (source : List ℕ) (at : ℕ) (now : State) (done : List Argument) : Type 0 where
  pub valid : IsState at now
  pub on : (r : List ℕ) (calls : List Argument) → IsFirst strict calls (take at source ++ r)
      → Rest source at now done r calls
  pub back : (r : List ℕ) (calls : List Argument) → Rest source at now done r calls
      → IsFirst strict calls (take at source ++ r)

-- Behind a call, where the text may end.
abbrev pub is_between : State → Bool
is_between (state.Token part next.Call) = length part.now == 0
is_between other = false

-- What reading a source gives: its calls, and there are no others; or the place where it stops beginning a first text.
abbrev pub Reads : Bool → List ℕ → Result (List Argument) FirstFault → Type 0
Reads strict source (Ok found) = IsFirst strict found source × IsOnly strict found source
Reads strict source (Err (fault.NotYet at)) = IsStuck strict source at
Reads strict source (Err fault.Memory) = Unit {0}

-- One step of the recogniser.
use Rattle.std.specs.Prelude.{◌≡◌, suc, List, ◌∷◌, ◌++◌, Result, Ok, Err}
use Rattle.hz_tree.specs.declared.class.Class.{Class}
use Rattle.hz_tree.specs.declared.nonterminal.Nonterminal.{Nonterminal}
use Rattle.hz_tree.specs.declared.nonterminal.Nonterminal.TheVariants as n
use Rattle.hz_tree.specs.declared.outside.BadKind.{BadKind}
use Rattle.hz_tree.specs.declared.symbol.Symbol.{Symbol}
use Rattle.hz_tree.specs.declared.symbol.Symbol.TheVariants as s
use Rattle.hz_tree.specs.grammar.Table.{pushes, fails, step}
use Rattle.hz_tree.specs.grammar.Look.{Terminal, look}
use Rattle.hz_tree.specs.reading.Reading.{Got, Stuck, takes, place_ahead}
use Rattle.hz_tree.specs.sources.Refusals.{refusal_at}
use Rattle.hz_tree.specs.reading.Stack.{ends, work}
use Rattle.hz_preparse.specs.declared.fault.PreFault.{PreFault}
use Rattle.hz_preparse.specs.declared.fault.PreFault.TheVariants.{Refused, Memory}
use Rattle.hz_preparse.specs.Heard.{Heard}
use Rattle.hz_preparse.specs.Outcome.{outcome, Answers}

abbrev pub Done : Type 0
Done = Result (Unit {0}) PreFault

-- the script lies on the stack
abbrev pub Begins : Done → (old new : List Symbol) → Type 0
Begins (Ok done) old new = new ≡ s.Read n.Script ∷ old
Begins (Err (Refused refusal)) old new = ⊥
Begins (Err Memory) old new = Unit {0}

-- the grammar takes the next token for one of the class, or is stuck there
abbrev pub TakesToken : (wanted : Class) → (old : List Terminal) → Done → (new : List Terminal) → Type 0
TakesToken wanted old (Ok done) new = (x : Terminal) × (takes wanted old ≡ Got x new)
TakesToken wanted old (Err (Refused refusal)) new =
    (cause : BadKind) × ((takes wanted old ≡ Stuck cause old) × (refusal ≡ refusal_at cause (place_ahead old)))
TakesToken wanted old (Err Memory) new = Unit {0}

-- a right-hand side lies on the stack, or none begins with the next tokens
abbrev pub Expands : Nonterminal → List Terminal → (old : List Symbol) → Done → (new : List Symbol) → Type 0
Expands m ts old (Ok done) new = (right : List Symbol) × ((step m (look ts) ≡ pushes right) × (new ≡ right ++ old))
Expands m ts old (Err (Refused refusal)) new =
    (cause : BadKind) × ((step m (look ts) ≡ fails cause) × (refusal ≡ refusal_at cause (place_ahead ts)))
Expands m ts old (Err Memory) new = Unit {0}

-- the outcome stays the same, and one step less is left
pub record Goes (stack : List Symbol) (ts : List Terminal) (d : Heard) (stack' : List Symbol) (ts' : List Terminal)
    (d' : Heard) : Type 0 where
  pub same : outcome d' (ends stack' ts') ≡ outcome d (ends stack ts)
  pub less : work stack ts ≡ suc (work stack' ts')

abbrev pub StepsPast : Symbol → (stack : List Symbol) → List Terminal → Heard → Done → (stack' : List Symbol)
    → List Terminal → Heard → Type 0
StepsPast symbol stack ts d (Ok done) stack' ts' d' = Goes (symbol ∷ stack) ts d stack' ts' d'
StepsPast symbol stack ts d (Err fault) stack' ts' d' = Answers (outcome d (ends (symbol ∷ stack) ts)) (Err fault)

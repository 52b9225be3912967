-- What rows make, where what they depend on is known.
use Rattle.std.proofs.Common.{◌≡◌, Bool, true, false, if◌then◌else◌, List, ◌∷◌, drop, Result}
use Rattle.std.proofs.Common.{Ok, Err}
use Rattle.std.proofs.Common.{OnOk, ap, sym, subst, ◌∙◌}
use Rattle.hz_list.specs.declared.out_of_memory.Memory.{Memory}
use Rattle.hz_tree.specs.declared.class.Class.{Class}
use Rattle.hz_tree.specs.declared.index.FunctionInfo.{FunctionInfo}
use Rattle.hz_tree.specs.declared.look.Look.{Look}
use Rattle.hz_tree.specs.declared.nonterminal.Nonterminal.{Nonterminal}
use Rattle.hz_tree.specs.declared.outside.BadKind.{BadKind}
use Rattle.hz_tree.specs.grammar.Symbols.{refuses, Row}
use Rattle.hz_cuts.specs.Rows.{cut_row}
use Rattle.hz_parts.specs.declared.parts.Parts.{Parts as Stacks}
use Rattle.hz_parts.specs.declared.parts.Seen.{Seen}
use Rattle.hz_parts.specs.Makes.{Makes, MakesRow}
use Rattle.hz_parts.specs.Values.{push_seen}

-- ---- what a helper puts in the place of parts

pub made_of : {m : Nonterminal} (row : Row m) (P : Type 0) (r : Result (Unit {0}) Memory) (old new : Stacks)
    → OnOk r P → (P → MakesRow m row old new) → Makes m row r old new
made_of row P (Ok done) old new h made = made h
made_of row P (Err memory) old new h made = tt

-- the stacks without the token that was uppermost
pub without_token : (token top : Seen) (seen : List Seen) (old below : Stacks) → old.seen ≡ token ∷ seen
    → old ≡ push_seen top below → record old { seen = seen } ≡ below
without_token token top seen old below e whole =
    let same : token ∷ seen ≡ top ∷ below.seen = sym e ∙ ap (λ (s : Stacks). s.seen) whole in
    ap (λ (left : List Seen). record old { seen = drop 1 left }) same
    ∙ ap (λ (s : Stacks). record s { seen = below.seen }) whole

pub same_token : (token top : Seen) (seen : List Seen) (old below : Stacks) → old.seen ≡ token ∷ seen
    → old ≡ push_seen top below → token ≡ top
same_token token top seen old below e whole =
    let same : token ∷ seen ≡ top ∷ below.seen = sym e ∙ ap (λ (s : Stacks). s.seen) whole in cc

-- ---- a nonterminal that is known

pub row_made : (functions : List FunctionInfo) (m known : Nonterminal) (l : Look) (r : Result (Unit {0}) Memory)
    (old new : Stacks) → m ≡ known → Makes known (cut_row functions known l) r old new
    → Makes m (cut_row functions m l) r old new
row_made functions m known l r old new e h = subst (λ x. Makes x (cut_row functions x l) r old new) (sym e) h

-- ---- a class that is known

pub made_by : {m : Nonterminal} (row : Class → Row m) (one known : Class) (r : Result (Unit {0}) Memory)
    (old new : Stacks) → one ≡ known → Makes m (row known) r old new → Makes m (row one) r old new
made_by {m} row one known r old new e h = subst (λ x. Makes m (row x) r old new) (sym e) h

-- ---- the outcome of a test, behind one by which a row is refused

pub first_made : {m : Nonterminal} (refused chosen : Bool) (cause : BadKind) (first second : Row m)
    (r : Result (Unit {0}) Memory) (old new : Stacks) → chosen ≡ true → Makes m first r old new
    → Makes m (if refused then refuses cause else (if chosen then first else second)) r old new
first_made true chosen cause first second (Ok done) old new e h = tt
first_made true chosen cause first second (Err memory) old new e h = tt
first_made false true cause first second r old new e h = h
first_made false false cause first second r old new e h = absurd (cc)

pub second_made : {m : Nonterminal} (refused chosen : Bool) (cause : BadKind) (first second : Row m)
    (r : Result (Unit {0}) Memory) (old new : Stacks) → chosen ≡ false → Makes m second r old new
    → Makes m (if refused then refuses cause else (if chosen then first else second)) r old new
second_made true chosen cause first second (Ok done) old new e h = tt
second_made true chosen cause first second (Err memory) old new e h = tt
second_made false true cause first second r old new e h = absurd (cc)
second_made false false cause first second r old new e h = h

-- What the rows of parameters make, whatever class their token has.
use Rattle.std.proofs.Common.{◌≡◌, ◌≢◌, List, ◌∷◌, Option, Some, Result, Ok, Err, OnOk, refl, ap, ◌∙◌}
use Rattle.hz_list.specs.declared.out_of_memory.Memory.{Memory}
use Rattle.hz_tree.specs.declared.class.Class.{Class}
use Rattle.hz_tree.specs.declared.class.Class.TheVariants as k
use Rattle.hz_tree.specs.declared.nonterminal.Nonterminal.TheVariants as n
use Rattle.hz_tree.specs.declared.tree.Bound.{Bound}
use Rattle.hz_tree.specs.grammar.FunctionRows.{parameter_end_row, parameters_row}
use Rattle.hz_parts.specs.declared.parts.Parts.{Parts as Stacks}
use Rattle.hz_parts.specs.Makes.{Makes}

-- what puts the uppermost name before the uppermost parameters
abbrev First : (old new : Stacks) → Type 0
First old new =
    (bound : Bound) (names : List (Option Bound)) (more : List Bound) (others : List (List Bound))
    → old.names ≡ Some bound ∷ names → old.bounds ≡ more ∷ others
    → new ≡ record old { names = names; bounds = (bound ∷ more) ∷ others }

pub first_parameter : (one : Class) (r : Result (Unit {0}) Memory) (old new : Stacks)
    → one ≢ k.RightParen → one ≢ k.Ellipsis → OnOk r (First old new)
    → Makes n.Parameters (parameters_row one) r old new
first_parameter k.RightParen r old new differs other h = absurd (differs refl)
first_parameter k.Ellipsis r old new differs other h = absurd (other refl)
first_parameter _ (Ok done) old new differs other h =
    λ parts below e.
    let bound = parts.0 in
    let more = parts.1.0.0 in
    h bound below.names more below.bounds (ap (λ (s : Stacks). s.names) e) (ap (λ (s : Stacks). s.bounds) e)
    ∙ ap (λ (s : Stacks). record s { names = below.names; bounds = (bound ∷ more) ∷ below.bounds }) e
first_parameter _ (Err memory) old new differs other h = tt

-- nothing stands behind a parameter
pub end_made : (one : Class) (old : Stacks) → Makes n.ParameterEnd (parameter_end_row one) (Ok tt) old old
end_made k.Assign old = tt
end_made _ old = λ parts below e. e

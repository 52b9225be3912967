-- What rows make for all classes of tokens that they do not name.
use Rattle.std.proofs.Common.{◌≡◌, ◌≢◌, List, ◌∷◌, Result, Ok, Err, OnOk, refl, ap, ◌∙◌}
use Rattle.hz_list.specs.declared.out_of_memory.Memory.{Memory}
use Rattle.hz_tree.specs.declared.class.Class.{Class}
use Rattle.hz_tree.specs.declared.class.Class.TheVariants as k
use Rattle.hz_tree.specs.declared.nonterminal.Context.{Context}
use Rattle.hz_tree.specs.declared.nonterminal.Nonterminal.TheVariants as n
use Rattle.hz_tree.specs.declared.tree.Tree.{Tree}
use Rattle.hz_tree.specs.grammar.PrimaryRows.{arguments_row, elements_row}
use Rattle.hz_tree.specs.grammar.PropertyRows.{props_row}
use Rattle.hz_parts.specs.declared.parts.Parts.{Parts as Stacks}
use Rattle.hz_parts.specs.Makes.{Makes}
use Rattle.hz_parts.specs.Values.{push_list, push_tree}

-- what puts the uppermost tree before the uppermost list
abbrev First : (old new : Stacks) → Type 0
First old new =
    (first : Tree) (more trees : List Tree) (lists : List (List Tree)) → old.trees ≡ first ∷ trees
    → old.lists ≡ more ∷ lists → new ≡ record old { trees = trees; lists = (first ∷ more) ∷ lists }

pub item_made : (first : Tree) (more : List Tree) (old new below : Stacks) → First old new
    → old ≡ push_list more (push_tree first below) → new ≡ push_list (first ∷ more) below
item_made first more old new below h e =
    h first more below.trees below.lists (ap (λ (s : Stacks). s.trees) e) (ap (λ (s : Stacks). s.lists) e)
    ∙ ap (λ (s : Stacks). record s { trees = below.trees; lists = (first ∷ more) ∷ below.lists }) e

pub first_argument : (c : Context) (one : Class) (r : Result (Unit {0}) Memory) (old new : Stacks)
    → one ≢ k.RightParen → OnOk r (First old new) → Makes (n.Arguments c) (arguments_row c one) r old new
first_argument c k.RightParen r old new differs h = absurd (differs refl)
first_argument c _ (Ok done) old new differs h =
    λ parts below e. item_made parts.0 parts.1.1.0 old new below h e
first_argument c _ (Err memory) old new differs h = tt

pub first_element : (c : Context) (one : Class) (r : Result (Unit {0}) Memory) (old new : Stacks)
    → one ≢ k.RightBracket → one ≢ k.Comma → OnOk r (First old new)
    → Makes (n.Elements c) (elements_row c one) r old new
first_element c k.RightBracket r old new differs other h = absurd (differs refl)
first_element c k.Comma r old new differs other h = absurd (other refl)
first_element c _ (Ok done) old new differs other h =
    λ parts below e. item_made parts.0 parts.1.1.0 old new below h e
first_element c _ (Err memory) old new differs other h = tt

pub first_prop : (c : Context) (one : Class) (r : Result (Unit {0}) Memory) (old new : Stacks)
    → one ≢ k.RightBrace → OnOk r (First old new) → Makes (n.Props c) (props_row c one) r old new
first_prop c k.RightBrace r old new differs h = absurd (differs refl)
first_prop c _ (Ok done) old new differs h =
    λ parts below e. item_made parts.0 parts.1.1.0 old new below h e
first_prop c _ (Err memory) old new differs h = tt

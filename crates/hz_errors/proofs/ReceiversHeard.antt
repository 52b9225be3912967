-- What the events of a tree tell of receivers: what those of its parts tell, and of `this`, `new.target` and functions.
use Rattle.std.proofs.Common.{◌≡◌, ℕ, List, [], ◌∷◌, ◌++◌, map, Some, None, refl, ◌∙◌, rules}
use Rattle.hz_tree.specs.declared.signal.NodeKind.{NodeKind}
use Rattle.hz_tree.specs.declared.signal.Signal.{Signal}
use Rattle.hz_tree.specs.declared.signal.Signal.TheVariants as tell
use Rattle.hz_tree.specs.declared.tree.FunctionKind.{FunctionKind}
use Rattle.hz_tree.specs.declared.tree.Tree.TheOpen.{Tree-F}
use Rattle.hz_tree.specs.grammar.Signals.{Event, Plain, Placed, Texted, Named, Written}
use Rattle.hz_tree.specs.trees.Events.{told_all, node_of, told_layer}
use Rattle.hz_tree.specs.trees.Places.{node}
use Rattle.hz_errors.specs.Receivers.{Receiving, happens, after}
use Rattle.hz_laws.proofs.Hearing.{PassesOver, heard_by, hearing_laws}

abbrev pub heard_one : Event → List Event
heard_one (Placed (tell.Open node kind) at) = Placed (tell.Open node kind) at ∷ []
heard_one (Placed tell.Close end) = Placed tell.Close end ∷ []
heard_one (Placed tell.This at) = Placed tell.This at ∷ []
heard_one (Placed tell.NewTarget at) = Placed tell.NewTarget at ∷ []
heard_one _ = []

-- the events that tell of receivers
abbrev pub heard : List Event → List Event
heard = heard_by heard_one

-- ---- the others do nothing

placed_heard : (signal : Signal) (at : ℕ) (es : List Event) (r : Receiving)
    → after r (heard_one (Placed signal at) ++ es) ≡ after (happens r (Placed signal at)) es
placed_heard signal at es r = elim signal as (λ signal.
    after r (heard_one (Placed signal at) ++ es) ≡ after (happens r (Placed signal at)) es)
    [ tell.Open node kind ↦ refl | tell.Close ↦ refl | tell.This ↦ refl | tell.NewTarget ↦ refl | _ ↦ refl ]

one_heard : (e : Event) (es : List Event) (r : Receiving) → after r (heard_one e ++ es) ≡ after (happens r e) es
one_heard (Plain signal) es r = refl
one_heard (Placed signal at) es r = placed_heard signal at es r
one_heard (Texted signal text) es r = refl
one_heard (Named signal at name) es r = refl
one_heard (Written signal at text octal) es r = refl

pub after_heard : (es : List Event) (r : Receiving) → after r (heard es) ≡ after r es
after_heard [] r = refl
after_heard (e ∷ es) r = one_heard e (heard es) r ∙ after_heard es (happens r e)

-- ---- trees

passed_over : PassesOver heard_one
passed_over = record {
  join = refl;
  argument = refl;
  node = refl;
  bare = refl;
  end_statement = refl;
  end_scope = λ end. refl;
  scope = refl;
  rest = λ at. refl;
  name = λ role at name. refl;
}

abbrev pub own_function : (at end : ℕ) → NodeKind → FunctionKind → (body : List Event) → List Event
own_function at end node kind body = Placed (tell.Open node kind) at ∷ (body ++ Placed tell.Close end ∷ [])

abbrev pub heard_own : Tree-F (List Event) → List Event
heard_own (Tree-F.Function at end form kind parameters rest body) =
    own_function at end (node_of form) kind (heard body)
heard_own (Tree-F.This at) = Placed tell.This at ∷ []
heard_own (Tree-F.NewTarget at) = Placed tell.NewTarget at ∷ []
heard_own layer = told_all (map heard (node layer).children)

pub heard_layer : (y : Tree-F (List Event)) → heard (told_layer y) ≡ heard_own y
heard_layer (Tree-F.Continue at None) = refl
heard_layer (Tree-F.Continue at (Some label)) = refl
heard_layer (Tree-F.Break at None) = refl
heard_layer (Tree-F.Break at (Some label)) = refl
heard_layer _ = let over : PassesOver heard_one = passed_over in first_of (simp hearing_laws, search rules)

-- What the events of a tree tell of labels and jumps: what its parts tell, and where statements begin and end.
use Rattle.std.proofs.Common.{◌≡◌, ℕ, List, [], ◌∷◌, ◌++◌, map, Some, None, refl, ◌∙◌, rules}
use Rattle.hz_tree.specs.declared.signal.Jump.TheVariants as jump
use Rattle.hz_tree.specs.declared.signal.NodeKind.{NodeKind}
use Rattle.hz_tree.specs.declared.signal.NodeKind.TheVariants as kind
use Rattle.hz_tree.specs.declared.signal.Signal.{Signal}
use Rattle.hz_tree.specs.declared.signal.Signal.TheVariants as tell
use Rattle.hz_tree.specs.declared.tree.FunctionKind.{FunctionKind}
use Rattle.hz_tree.specs.declared.tree.Tree.TheOpen.{Tree-F}
use Rattle.hz_tree.specs.tokens.Text.{Text}
use Rattle.hz_tree.specs.grammar.Signals.{Event, Plain, Placed, Texted, Named, Written}
use Rattle.hz_tree.specs.trees.Events.{told_all, node_of, told_jump, told_layer}
use Rattle.hz_tree.specs.trees.Places.{node}
use Rattle.hz_errors.specs.Labels.{Labelling, happens, after}
use Rattle.hz_laws.proofs.Hearing.{PassesOver, heard_by, hearing_laws}

-- whether the beginning and the end of a node tell of labels and jumps
abbrev pub placed_kind : NodeKind → (at : ℕ) → List Event
placed_kind kind.Operand at = []
placed_kind kind.Part at = []
placed_kind kind.Body at = []
placed_kind kind at = Placed (tell.Begin kind) at ∷ []

abbrev pub ended_kind : NodeKind → List Event
ended_kind kind.Loop = Plain (tell.End kind.Loop) ∷ []
ended_kind kind.Switch = Plain (tell.End kind.Switch) ∷ []
ended_kind kind.Label = Plain (tell.End kind.Label) ∷ []
ended_kind _ = []

abbrev pub heard_one : Event → List Event
heard_one (Placed (tell.Begin kind) at) = placed_kind kind at
heard_one (Plain (tell.End kind)) = ended_kind kind
heard_one (Placed (tell.Open node kind) at) = Placed (tell.Open node kind) at ∷ []
heard_one (Placed tell.Close end) = Placed tell.Close end ∷ []
heard_one (Texted tell.Label name) = Texted tell.Label name ∷ []
heard_one (Plain (tell.Jump jump)) = Plain (tell.Jump jump) ∷ []
heard_one (Texted (tell.JumpTo jump) name) = Texted (tell.JumpTo jump) name ∷ []
heard_one _ = []

-- the events that tell of labels and jumps
abbrev pub heard : List Event → List Event
heard = heard_by heard_one

-- ---- the others do nothing

begin_heard : (kind : NodeKind) (at : ℕ) (es : List Event) (s : Labelling)
    → after s (placed_kind kind at ++ es) ≡ after (happens s (Placed (tell.Begin kind) at)) es
begin_heard kind.Operand at es s = refl
begin_heard _ at es s = refl

end_heard : (kind : NodeKind) (es : List Event) (s : Labelling)
    → after s (ended_kind kind ++ es) ≡ after (happens s (Plain (tell.End kind))) es
end_heard kind.Loop es s = refl
end_heard _ es s = refl

placed_heard : (signal : Signal) (at : ℕ) (es : List Event) (s : Labelling)
    → after s (heard_one (Placed signal at) ++ es) ≡ after (happens s (Placed signal at)) es
placed_heard (tell.Begin kind) at es s = begin_heard kind at es s
placed_heard _ at es s = refl

plain_heard : (signal : Signal) (es : List Event) (s : Labelling)
    → after s (heard_one (Plain signal) ++ es) ≡ after (happens s (Plain signal)) es
plain_heard (tell.End kind) es s = end_heard kind es s
plain_heard _ es s = refl

texted_heard : (signal : Signal) (text : Text) (es : List Event) (s : Labelling)
    → after s (heard_one (Texted signal text) ++ es) ≡ after (happens s (Texted signal text)) es
texted_heard tell.Label text es s = refl
texted_heard _ text es s = refl

one_heard : (e : Event) (es : List Event) (s : Labelling) → after s (heard_one e ++ es) ≡ after (happens s e) es
one_heard (Plain signal) es s = plain_heard signal es s
one_heard (Placed signal at) es s = placed_heard signal at es s
one_heard (Texted signal text) es s = texted_heard signal text es s
one_heard (Named signal at name) es s = refl
one_heard (Written signal at text octal) es s = refl

pub after_heard : (es : List Event) (s : Labelling) → after s (heard es) ≡ after s es
after_heard [] s = refl
after_heard (e ∷ es) s = one_heard e (heard es) s ∙ after_heard es (happens s e)

-- ---- trees

passed_over : PassesOver heard_one
passed_over = record {
  join = refl;
  argument = refl;
  node = refl;
  bare = refl;
  end_statement = refl;
  end_scope = λ end. refl;
  scope = refl;
  rest = λ at. refl;
  name = λ role at name. refl;
}

abbrev pub own_function : (at end : ℕ) → NodeKind → FunctionKind → (body : List Event) → List Event
own_function at end node kind body = Placed (tell.Open node kind) at ∷ (body ++ Placed tell.Close end ∷ [])

-- where the statement of a tree begins and ends
abbrev pub begins : {A : Type 0} → Tree-F A → List Event
begins (Tree-F.Lexical at word binds) = Placed (tell.Begin kind.Statement) at ∷ []
begins (Tree-F.Var at binds) = Placed (tell.Begin kind.Statement) at ∷ []
begins (Tree-F.Block at items end) = Placed (tell.Begin kind.Statement) at ∷ []
begins (Tree-F.Empty at) = Placed (tell.Begin kind.Statement) at ∷ []
begins (Tree-F.Debugger at) = Placed (tell.Begin kind.Statement) at ∷ []
begins (Tree-F.If at test body other) = Placed (tell.Begin kind.Statement) at ∷ []
begins (Tree-F.Return at value) = Placed (tell.Begin kind.Statement) at ∷ []
begins (Tree-F.Throw at value) = Placed (tell.Begin kind.Statement) at ∷ []
begins (Tree-F.Try at block handler finally) = Placed (tell.Begin kind.Statement) at ∷ []
begins (Tree-F.Catch at bound brace items end) = Placed (tell.Begin kind.Statement) brace ∷ []
begins (Tree-F.Expression at value) = Placed (tell.Begin kind.Expression) at ∷ []
begins _ = []

abbrev pub loop_events : (at : ℕ) → (within : List Event) → List Event
loop_events at within = Placed (tell.Begin kind.Loop) at ∷ (within ++ Plain (tell.End kind.Loop) ∷ [])

abbrev pub heard_own : Tree-F (List Event) → List Event
heard_own (Tree-F.Function at end form kind parameters rest body) =
    own_function at end (node_of form) kind (heard body)
heard_own (Tree-F.DoWhile at body test) = loop_events at (heard body ++ heard test)
heard_own (Tree-F.While at test body) = loop_events at (heard test ++ heard body)
heard_own (Tree-F.ForDeclared at word bound iteration over body end) = loop_events at (heard over ++ heard body)
heard_own (Tree-F.ForLeft at target iteration over body) =
    loop_events at (heard target ++ (heard over ++ heard body))
heard_own (Tree-F.ForBinds at word binds test update body end) =
    loop_events at (told_all (map heard (node (Tree-F.ForBinds at word binds test update body end)).children))
heard_own (Tree-F.ForExpr at first test update body) =
    loop_events at (told_all (map heard (node (Tree-F.ForExpr at first test update body)).children))
heard_own (Tree-F.Switch at value brace clauses end) =
    Placed (tell.Begin kind.Switch) at
    ∷ ((heard value ++ told_all (map heard clauses)) ++ Plain (tell.End kind.Switch) ∷ [])
heard_own (Tree-F.Label at name body) =
    Placed (tell.Begin kind.Label) at ∷ Texted tell.Label name ∷ (heard body ++ Plain (tell.End kind.Label) ∷ [])
heard_own (Tree-F.Continue at label) = Placed (tell.Begin kind.Statement) at ∷ told_jump jump.Continue label
heard_own (Tree-F.Break at label) = Placed (tell.Begin kind.Statement) at ∷ told_jump jump.Break label
heard_own layer = begins layer ++ told_all (map heard (node layer).children)

pub heard_layer : (y : Tree-F (List Event)) → heard (told_layer y) ≡ heard_own y
heard_layer (Tree-F.Continue at None) = refl
heard_layer (Tree-F.Continue at (Some label)) = refl
heard_layer (Tree-F.Break at None) = refl
heard_layer (Tree-F.Break at (Some label)) = refl
heard_layer _ = let over : PassesOver heard_one = passed_over in first_of (simp hearing_laws, search rules)

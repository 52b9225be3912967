-- The events of a reading are those of its tree, where each row makes what tells what its parts tell.
use Rattle.std.proofs.Common.{◌≡◌, ℕ, zero, suc, Bool, true, false, List, [], ◌∷◌, ◌++◌, map, Option}
use Rattle.std.proofs.Common.{refl, ap, sym, ◌∙◌}
use Rattle.hz_tree.specs.declared.class.Class.{Class}
use Rattle.hz_tree.specs.declared.nonterminal.Nonterminal.{Nonterminal}
use Rattle.hz_tree.specs.declared.nonterminal.Nonterminal.TheVariants as n
use Rattle.hz_tree.specs.declared.operator.DeclarationWord.{DeclarationWord}
use Rattle.hz_tree.specs.declared.signal.NodeShape.TheVariants as shape
use Rattle.hz_tree.specs.declared.signal.Role.TheVariants as role
use Rattle.hz_tree.specs.declared.signal.Signal.TheVariants as tell
use Rattle.hz_tree.specs.declared.symbol.Symbol.{Symbol}
use Rattle.hz_tree.specs.declared.symbol.Symbol.TheVariants as s
use Rattle.hz_tree.specs.declared.tree.Tree.{Tree}
use Rattle.hz_tree.specs.declared.look.Look.{Look}
use Rattle.hz_tree.specs.grammar.Look.{Terminal, look}
use Rattle.hz_tree.specs.grammar.Operators.{takes_pattern}
use Rattle.hz_tree.specs.grammar.Signals.{Event, Plain}
use Rattle.hz_tree.specs.grammar.Symbols.{Part, Parts, goes, refuses, Value, Row, AfterKey, has_value, called}
use Rattle.hz_tree.specs.grammar.Symbols.{AfterName, goes_over, initialised, AfterLeft, target_of, expression_of}
use Rattle.hz_tree.specs.grammar.Symbols.{AfterFor, declares, begins_left, begins_expr, AfterHead}
use Rattle.hz_tree.specs.grammar.Symbols.{Behind, updates, joins, chooses, assigns}
use Rattle.hz_tree.specs.grammar.Table.{row}
use Rattle.hz_tree.specs.reading.Reading.{Reading, Got, Stuck, Deeper, and_then, takes, Reader, read_one, read_all}
use Rattle.hz_tree.specs.reading.Reading.{by_row, reads_to, reads_by, enough, Events, told, telling, event_row}
use Rattle.hz_tree.specs.reading.Reading.{reads, tells}
use Rattle.hz_tree.specs.trees.Places.{optional}
use Rattle.hz_tree.specs.trees.Events.{told_into, told_arguments, told_initial, told_parameters, told_bound, told_name}
use Rattle.hz_tree.specs.trees.Events.{told_scope, told_jump, told_joined, one_more, events_of}
use Rattle.hz_laws.proofs.TreeLaws.{told_trees}

-- ---- the events of what nonterminals give

abbrev pub into_trees : List Tree → List Event
into_trees trees = told_into (map events_of trees)

abbrev pub argument_trees : List Tree → List Event
argument_trees trees = told_arguments (map events_of trees)

abbrev pub told_option : Option Tree → List Event
told_option tree = told_trees (optional tree)

abbrev pub into_option : Option Tree → List Event
into_option tree = into_trees (optional tree)

abbrev pub told_after_key : AfterKey → List Event
told_after_key (has_value tree) = Plain tell.Valued ∷ (events_of tree ++ Plain tell.Join ∷ [])
told_after_key (called tree) = events_of tree ++ Plain tell.Join ∷ []

abbrev pub told_value_of : DeclarationWord → Option Tree → List Event
told_value_of word value = told_initial word (map events_of (optional value))

abbrev pub told_after_name : DeclarationWord → AfterName → List Event
told_after_name word (goes_over iteration tree) = events_of tree ++ Plain tell.Join ∷ []
told_after_name word (initialised value more test update) =
    told_value_of word value ++ (told_trees more ++ (into_option test ++ into_option update))

abbrev pub told_behind : Behind → List Event
told_behind (updates operator) = Plain (tell.Target false) ∷ one_more
told_behind (joins operator right) = told_joined (events_of right)
told_behind (chooses first second) = events_of first ++ Plain tell.Join ∷ told_joined (events_of second)
told_behind (assigns operator value) =
    Plain (tell.Target (takes_pattern operator)) ∷ told_joined (events_of value)

abbrev pub told_operators : List Behind → List Event
told_operators [] = []
told_operators (first ∷ more) = told_behind first ++ told_operators more

-- an operand with members and calls is one node more
abbrev pub same_after : (tailed : Bool) → List Tree → List Event
same_after tailed (first ∷ more) = Plain (tell.Node shape.Same) ∷ []
same_after true [] = Plain (tell.Node shape.Same) ∷ []
same_after false [] = []

abbrev pub told_after_head : (tailed : Bool) → AfterHead → List Event
told_after_head tailed after =
    told_trees after.tails ++ (same_after tailed after.tails ++ told_operators after.operators)

-- a list of expressions is one node more
abbrev pub end_listed : (listed : Bool) → List Tree → List Event
end_listed listed (first ∷ more) = one_more
end_listed true [] = one_more
end_listed false [] = []

abbrev pub told_listed : (listed : Bool) → List Tree → List Event
told_listed listed more = into_trees more ++ end_listed listed more

abbrev pub told_after_left : AfterLeft → List Event
told_after_left (target_of iteration tree) =
    Plain (tell.Target true) ∷ Plain tell.Join ∷ (events_of tree ++ Plain tell.Join ∷ [])
told_after_left (expression_of operators more test update) =
    told_operators operators
    ++ (told_listed false more ++ Plain tell.Join ∷ (into_option test ++ into_option update))

abbrev pub told_after_for : AfterFor → List Event
told_after_for (declares word bound after body end) =
    told_scope end (told_bound (role.Variable word) bound ++ (told_after_name word after ++ events_of body))
told_after_for (begins_left left after body) = events_of left ++ (told_after_left after ++ events_of body)
told_after_for (begins_expr first test update body) =
    into_option first ++ (into_option test ++ (into_option update ++ events_of body))

abbrev pub told_value : (m : Nonterminal) → Value m → List Event
told_value n.Script v = events_of v
told_value (n.Items c) v = told_trees v
told_value (n.Item c) v = events_of v
told_value (n.Statement c) v = events_of v
told_value (n.Block c) v = events_of v
told_value (n.Binds word c) v = told_trees v
told_value (n.Bind word c) v = events_of v
told_value (n.MoreBinds word c) v = told_trees v
told_value (n.Initial word c) v = told_value_of word v
told_value (n.Bound role) v = told_bound role v
told_value n.Semi v = []
told_value n.LooseSemi v = []
told_value (n.Else c) v = told_option v
told_value (n.Label jump) v = told_jump jump v
told_value (n.ReturnValue c) v = into_option v
told_value (n.ThrowValue c) v = events_of v ++ Plain tell.Join ∷ []
told_value (n.Clauses c has_default) v = told_trees v
told_value (n.Handlers c) v = told_option v.0 ++ told_option v.1
told_value (n.CatchClause c) v = events_of v
told_value n.CatchName v = told_name role.Caught v
told_value (n.Finally c) v = told_option v
told_value n.ForOpen v = []
told_value (n.Head c) v = told_after_for v
told_value (n.DeclaredHead word c) v = told_after_name word v
told_value (n.LeftHead c) v = told_after_left v
told_value (n.OptionalExpr c) v = into_option v
told_value (n.Expr c) v = events_of v
told_value (n.ExprRest listed c) v = told_listed listed v
told_value (n.Operation loosest c) v = events_of v
told_value (n.Tails tailed loosest c) v = told_after_head tailed v
told_value (n.Rests loosest tightest c) v = told_operators v
told_value n.ArrowSign v = []
told_value (n.ArrowBody c) v = events_of v
told_value (n.YieldValue c) v = into_option v.1
told_value (n.OptionalTail c) v = events_of v
told_value n.Word v = []
told_value (n.Members c) v = told_trees v
told_value (n.NewArgs c) v = told_option v
told_value (n.Args c) v = events_of v
told_value (n.Arguments c) v = argument_trees v
told_value (n.MoreArguments c) v = argument_trees v
told_value (n.Argument c) v = events_of v
told_value (n.Primary c) v = events_of v
told_value (n.TemplateRest c) v = into_trees v.1
told_value (n.Elements c) v = into_trees v
told_value (n.MoreElements c) v = into_trees v
told_value (n.Props c) v = into_trees v
told_value (n.MoreProps c) v = into_trees v
told_value (n.Prop c) v = events_of v
told_value n.ShorthandEnd v = []
told_value (n.KeyRest c) v = told_after_key v
told_value (n.Key c) v = events_of v
told_value n.OwnName v = told_name role.Own v
told_value n.Params v = told_parameters v.0 v.1
told_value n.Parameters v = told_parameters v.0 v.1
told_value n.MoreParameters v = told_parameters v.0 v.1
told_value n.ParameterEnd v = []
told_value (n.Body generator) v = events_of v

abbrev pub told_parts : (right : List Symbol) → Parts Value right → Parts Events right
told_parts [] parts = tt
told_parts (s.Take wanted ∷ more) parts = (parts.0, told_parts more parts.1)
told_parts (s.Read m ∷ more) parts = (told_value m parts.0, told_parts more parts.1)
told_parts (s.Tell signal ∷ more) parts = (parts.0, told_parts more parts.1)

abbrev no_events : List Event
no_events = []

-- what a row makes tells what its parts tell
abbrev pub TellsRow : (m : Nonterminal) → Row m → Type 0
TellsRow m (goes right make) = (p : Parts Value right) → told_value m (make p) ≡ told right (told_parts right p)
TellsRow m (refuses cause) = Unit {0} → no_events ≡ []

-- ---- readings

abbrev pub tell_reading : (m : Nonterminal) → Reading (Value m) → Reading (List Event)
tell_reading m (Got v rest) = Got (told_value m v) rest
tell_reading m (Stuck cause ts) = Stuck cause ts
tell_reading m Deeper = Deeper

abbrev tell_parts : (right : List Symbol) → Reading (Parts Value right) → Reading (Parts Events right)
tell_parts right (Got vs rest) = Got (told_parts right vs) rest
tell_parts right (Stuck cause ts) = Stuck cause ts
tell_parts right Deeper = Deeper

abbrev told_part : (symbol : Symbol) → Part Value symbol → Part Events symbol
told_part (s.Take wanted) part = part
told_part (s.Read m) part = told_value m part
told_part (s.Tell signal) part = part

abbrev tell_part : (symbol : Symbol) → Reading (Part Value symbol) → Reading (Part Events symbol)
tell_part symbol (Got v rest) = Got (told_part symbol v) rest
tell_part symbol (Stuck cause ts) = Stuck cause ts
tell_part symbol Deeper = Deeper

tell_token : (wanted : Class) (r : Reading Terminal) → r ≡ tell_part (s.Take wanted) r
tell_token wanted (Got v rest) = refl
tell_token wanted (Stuck cause ts) = refl
tell_token wanted Deeper = refl

tell_read : (m : Nonterminal) (r : Reading (Value m)) → tell_reading m r ≡ tell_part (s.Read m) r
tell_read m (Got v rest) = refl
tell_read m (Stuck cause ts) = refl
tell_read m Deeper = refl

parts_cons : (x : Symbol) (xs : List Symbol) (v : Part Value x) (vs : Parts Value xs)
    → told_parts (x ∷ xs) (v, vs) ≡ (told_part x v, told_parts xs vs)
parts_cons (s.Take wanted) xs v vs = refl
parts_cons (s.Read m) xs v vs = refl
parts_cons (s.Tell signal) xs v vs = refl

tell_cons : (x : Symbol) (xs : List Symbol) (v : Part Value x) (r : Reading (Parts Value xs))
    → and_then (tell_parts xs r) (λ vs end. Got (told_part x v, vs) end)
    ≡ tell_parts (x ∷ xs) (and_then r (λ vs end. Got (v, vs) end))
tell_cons x xs v (Got vs end) = ap (λ y. Got y end) (sym (parts_cons x xs v vs))
tell_cons x xs v (Stuck cause ts) = refl
tell_cons x xs v Deeper = refl

module _ (reads_trees : Reader Value) (reads_events : Reader Events)
    (same : (m : Nonterminal) (ts : List Terminal) → reads_events m ts ≡ tell_reading m (reads_trees m ts)) where
  tell_one : (x : Symbol) (ts : List Terminal) → read_one reads_events x ts ≡ tell_part x (read_one reads_trees x ts)
  tell_one (s.Take wanted) ts = tell_token wanted (takes wanted ts)
  tell_one (s.Read m) ts = same m ts ∙ tell_read m (reads_trees m ts)
  tell_one (s.Tell signal) ts = refl

  tell_then : (x : Symbol) (xs : List Symbol) (r : Reading (Part Value x))
      → ((ts : List Terminal) → read_all reads_events xs ts ≡ tell_parts xs (read_all reads_trees xs ts))
      → and_then (tell_part x r) (λ v rest. and_then (read_all reads_events xs rest) (λ vs end. Got (v, vs) end))
      ≡ tell_parts (x ∷ xs) (and_then r (λ v rest. and_then (read_all reads_trees xs rest) (λ vs end. Got (v, vs) end)))
  tell_then x xs (Got v rest) h =
      ap (λ y. and_then y (λ vs end. Got (told_part x v, vs) end)) (h rest)
      ∙ tell_cons x xs v (read_all reads_trees xs rest)
  tell_then x xs (Stuck cause ts) h = refl
  tell_then x xs Deeper h = refl

  tell_all : (xs : List Symbol) (ts : List Terminal)
      → read_all reads_events xs ts ≡ tell_parts xs (read_all reads_trees xs ts)
  tell_all [] ts = refl
  tell_all (x ∷ xs) ts =
      ap (λ y. and_then y (λ v rest. and_then (read_all reads_events xs rest) (λ vs end. Got (v, vs) end)))
      (tell_one x ts)
      ∙ tell_then x xs (read_one reads_trees x ts) (tell_all xs)

  tell_made : (m : Nonterminal) (right : List Symbol) (make : Parts Value right → Value m)
      (r : Reading (Parts Value right))
      → ((p : Parts Value right) → told_value m (make p) ≡ told right (told_parts right p))
      → and_then (tell_parts right r) (λ vs rest. Got (told right vs) rest)
      ≡ tell_reading m (and_then r (λ vs rest. Got (make vs) rest))
  tell_made m right make (Got vs rest) h = ap (λ y. Got y rest) (sym (h vs))
  tell_made m right make (Stuck cause ts) h = refl
  tell_made m right make Deeper h = refl

  tell_row : (m : Nonterminal) (r : Row m) (ts : List Terminal) → TellsRow m r
      → by_row reads_events m (telling r) ts ≡ tell_reading m (by_row reads_trees m r ts)
  tell_row m (goes right make) ts h =
      ap (λ y. and_then y (λ vs rest. Got (told right vs) rest)) (tell_all right ts)
      ∙ tell_made m right make (read_all reads_trees right ts) h
  tell_row m (refuses cause) ts h = refl

pub tells_to : ((m : Nonterminal) (l : Look) → TellsRow m (row m l)) → (d : ℕ) (m : Nonterminal) (ts : List Terminal)
    → reads_to event_row d m ts ≡ tell_reading m (reads_to row d m ts)
unfolding reads_to
tells_to said zero m ts = refl
tells_to said (suc d) m ts =
    tell_row (reads_to row d) (reads_to event_row d) (tells_to said d) m (row m (look ts)) ts (said m (look ts))

-- Where every row makes what tells what its parts tell, the events of a reading are those of what it gives.
pub tells_by : ((m : Nonterminal) (l : Look) → TellsRow m (row m l)) → (m : Nonterminal) (ts : List Terminal)
    → tells m ts ≡ tell_reading m (reads m ts)
unfolding reads_by
tells_by said m ts = tells_to said (enough ts) m ts

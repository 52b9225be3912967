-- What the events of a tree do to the state of operands, by the sort of the tree.
use Rattle.std.proofs.Common.{◌≡◌, ℕ, Bool, true, List, [], ◌∷◌, Option, map, ap, sym}
use Rattle.std.proofs.Common.{◌∙◌}
use Rattle.std.specs.List.{list_any}
use Rattle.hz_tree.specs.declared.signal.Signal.TheVariants as tell
use Rattle.hz_tree.specs.declared.signal.NodeKind.TheVariants as kind
use Rattle.hz_tree.specs.declared.tree.Tree.{Tree}
use Rattle.hz_tree.specs.grammar.Signals.{Event, Placed}
use Rattle.hz_tree.specs.sources.EarlyErrors.{order_of_early}
use Rattle.hz_tree.specs.sources.Kinds.{order_of_profile}
use Rattle.hz_tree.specs.sources.Least.{least_of}
use Rattle.hz_tree.specs.errors.Targets.{is_use_strict}
use Rattle.hz_tree.specs.trees.Events.{told_all, told_into, told_arguments, events_of}
use Rattle.hz_tree.specs.errors.Targets.{Errors, no_errors, joined, inside, Meaning, means_body, meaning_of, another}
use Rattle.hz_tree.specs.errors.Targets.{plain, prologue, Directive}
use Rattle.hz_laws.specs.Sorts.{Sort, script, statement, bind, clause, handler, expression, element, property, method}
use Rattle.hz_laws.specs.Sorts.{body, key, tail, Fits, all_fit, is_script, is_statement, is_bind, is_clause, is_handler}
use Rattle.hz_laws.specs.Sorts.{is_expression, is_element, is_property, is_method, is_body, is_key, is_tail, fits_of}
use Rattle.hz_laws.proofs.Ranks.{false_true, and_left, and_right}
use Rattle.hz_errors.specs.declared.functions.Opened.{Opened}
use Rattle.hz_errors.specs.Operands.{Operands, noting, pushed, popped, with_functions, with_prologue}
use Rattle.hz_errors.specs.Operands.{closing, directing, after, begun, begun_function, is_strict}
use Rattle.hz_errors.proofs.OperandSteps.{after_append, noting_none, noting_twice, noting_swapped, joined_none, Frame}
use Rattle.hz_errors.proofs.OperandSteps.{closed}
use Rattle.hz_errors.proofs.OperandSteps.{any, Over, over_none, over_both, over_join, over_argument, over_closed}
use Rattle.hz_errors.proofs.OperandSteps.{Part, Pushes}
use Rattle.hz_errors.proofs.OperandSteps.{part_of, Marks, Tails}
use Rattle.hz_errors.proofs.DirectiveSteps.{Directs, over_directs, directing_all, directing_all_noting, rest_errors}
use Rattle.hz_errors.proofs.DirectiveSteps.{rest_none, directed, prologue_told, dropped, dropped_closing}
use Rattle.hz_errors.proofs.DirectiveSteps.{strict_closing}

-- ---- sorts

-- the script
pub record Tells (es : List Event) (x : Meaning) : Type 0 where
  pub early : (after begun es).early ≡ least_of order_of_early x.errors.early
  pub profile : (after begun es).profile ≡ least_of order_of_profile x.errors.profile
  pub strict : is_strict (after begun es) ≡ list_any (λ d. is_use_strict d.written) x.directives

pub record Operates (es : List Event) (x : Meaning) : Type 0 where
  pub pushes : Pushes es x.operand x.errors
  pub undirected : x.directives ≡ []

-- the body of a function, to the function's end
abbrev pub Fills : List Event → Meaning → Type 0
Fills es x =
    (f : Opened) (outer : List Opened) (s : Operands)
    → dropped (popped (after (with_functions (f ∷ outer) s) es))
    ≡ noting (joined x.errors (rest_errors f.rest x.directives)) (with_functions outer s)

abbrev pub Acts : Sort → List Event → Meaning → Type 0
Acts script es x = Tells es x
Acts statement es x = Directs es x.directive x.errors
Acts bind es x = Over any es x.errors
Acts clause es x = Over closed es x.errors
Acts handler es x = Over closed es x.errors
Acts expression es x = Operates es x
Acts element es x = Part es x.errors
Acts property es x = Part es x.errors
Acts method es x = Part es x.errors
Acts body es x = Fills es x
Acts key es x = Marks es x.proto x.errors
Acts tail es x = Tails es x.tail x.errors

abbrev pub Sorted : List Event → Meaning → Fits → Type 0
Sorted es x fits = (wanted : Sort) → fits wanted ≡ true → Acts wanted es x

abbrev pub SortedTree : Tree → Type 0
SortedTree tree = Sorted (events_of tree) (meaning_of tree) (fits_of tree)

-- ---- where one sort alone is wanted

abbrev pub IsSort : (Sort → Bool) → Sort → Type 0
IsSort test sort =
    (wanted : Sort) (es : List Event) (x : Meaning) → test wanted ≡ true → Acts sort es x → Acts wanted es x

pub as_script : IsSort is_script script
as_script script es x h acts = acts
as_script _ es x h acts = absurd (false_true h)

pub as_statement : IsSort is_statement statement
as_statement statement es x h acts = acts
as_statement _ es x h acts = absurd (false_true h)

pub as_bind : IsSort is_bind bind
as_bind bind es x h acts = acts
as_bind _ es x h acts = absurd (false_true h)

pub as_clause : IsSort is_clause clause
as_clause clause es x h acts = acts
as_clause _ es x h acts = absurd (false_true h)

pub as_handler : IsSort is_handler handler
as_handler handler es x h acts = acts
as_handler _ es x h acts = absurd (false_true h)

pub as_element : IsSort is_element element
as_element element es x h acts = acts
as_element _ es x h acts = absurd (false_true h)

pub as_property : IsSort is_property property
as_property property es x h acts = acts
as_property _ es x h acts = absurd (false_true h)

pub as_method : IsSort is_method method
as_method method es x h acts = acts
as_method _ es x h acts = absurd (false_true h)

pub as_body : IsSort is_body body
as_body body es x h acts = acts
as_body _ es x h acts = absurd (false_true h)

pub as_key : IsSort is_key key
as_key key es x h acts = acts
as_key _ es x h acts = absurd (false_true h)

pub as_tail : IsSort is_tail tail
as_tail tail es x h acts = acts
as_tail _ es x h acts = absurd (false_true h)

-- ---- an expression as a body

fills_operand : (es : List Event) (x : Meaning) → Operates es x → Fills es x
fills_operand es x h f outer s =
    ap (λ t. dropped (popped t)) (h.pushes (with_functions (f ∷ outer) s))
    ∙ ap (λ e. noting e (with_functions outer s))
    (sym (joined_none x.errors) ∙ ap (joined x.errors) (sym (rest_none f.rest)))
    ∙ ap (λ ds. noting (joined x.errors (rest_errors f.rest ds)) (with_functions outer s)) (sym h.undirected)

pub as_expression : IsSort is_expression expression
as_expression expression es x h acts = acts
as_expression element es x h acts = part_of es x.operand x.errors acts.pushes
as_expression body es x h acts = fills_operand es x acts
as_expression _ es x h acts = absurd (false_true h)

-- ---- lists of trees

abbrev pub Proved : Type 0
Proved = (tree : Tree) × SortedTree tree

abbrev pub trees : List Proved → List Tree
trees = map (λ e. e.0)

abbrev pub events_in : List Proved → List (List Event)
events_in es = map events_of (trees es)

abbrev pub meanings_in : List Proved → List Meaning
meanings_in es = map meaning_of (trees es)

abbrev pub AllFit : Sort → List Proved → Type 0
AllFit wanted es = all_fit wanted (map fits_of (trees es)) ≡ true

-- a tree of this sort finds errors alone
abbrev pub FindsAlone : Frame → Sort → Type 0
FindsAlone frame wanted =
    (e : Proved) → fits_of e.0 wanted ≡ true → Over frame (events_of e.0) (meaning_of e.0).errors

pub over_all : (frame : Frame) (wanted : Sort) → FindsAlone frame wanted → (es : List Proved) → AllFit wanted es
    → Over frame (told_all (events_in es)) (inside (meanings_in es))
over_all frame wanted finds [] h = over_none frame
over_all frame wanted finds (e ∷ more) h =
    over_both frame (events_of e.0) (told_all (events_in more)) (meaning_of e.0).errors (inside (meanings_in more))
    (finds e (and_left (fits_of e.0 wanted) (all_fit wanted (map fits_of (trees more))) h))
    (over_all frame wanted finds more (and_right (fits_of e.0 wanted) (all_fit wanted (map fits_of (trees more))) h))

-- a tree of this sort leaves an entry
abbrev pub FindsPart : Sort → Type 0
FindsPart wanted = (e : Proved) → fits_of e.0 wanted ≡ true → Part (events_of e.0) (meaning_of e.0).errors

pub over_into : (frame : Frame) (wanted : Sort) → FindsPart wanted → (es : List Proved) → AllFit wanted es
    → Over frame (told_into (events_in es)) (inside (meanings_in es))
over_into frame wanted finds [] h = over_none frame
over_into frame wanted finds (e ∷ more) h =
    over_join frame (events_of e.0) (told_into (events_in more)) (meaning_of e.0).errors (inside (meanings_in more))
    (finds e (and_left (fits_of e.0 wanted) (all_fit wanted (map fits_of (trees more))) h))
    (over_into frame wanted finds more (and_right (fits_of e.0 wanted) (all_fit wanted (map fits_of (trees more))) h))

pub over_arguments : (frame : Frame) (wanted : Sort) → FindsPart wanted → (es : List Proved) → AllFit wanted es
    → Over frame (told_arguments (events_in es)) (inside (meanings_in es))
over_arguments frame wanted finds [] h = over_none frame
over_arguments frame wanted finds (e ∷ more) h =
    over_argument frame (events_of e.0) (told_arguments (events_in more)) (meaning_of e.0).errors
    (inside (meanings_in more))
    (finds e (and_left (fits_of e.0 wanted) (all_fit wanted (map fits_of (trees more))) h))
    (over_arguments frame wanted finds more
    (and_right (fits_of e.0 wanted) (all_fit wanted (map fits_of (trees more))) h))

pub statement_alone : FindsAlone closed statement
statement_alone e h =
    over_directs (events_of e.0) (meaning_of e.0).directive (meaning_of e.0).errors (e.1 statement h)

pub bind_alone : FindsAlone closed bind
bind_alone e h = over_closed (events_of e.0) (meaning_of e.0).errors (e.1 bind h)

pub clause_alone : FindsAlone closed clause
clause_alone e h = e.1 clause h

pub handler_alone : FindsAlone closed handler
handler_alone e h = e.1 handler h

pub expression_part : FindsPart expression
expression_part e h =
    part_of (events_of e.0) (meaning_of e.0).operand (meaning_of e.0).errors (e.1 expression h).pushes

pub element_part : FindsPart element
element_part e h = e.1 element h

pub property_part : FindsPart property
property_part e h = e.1 property h

-- ---- the items of a body

abbrev pub directives_in : List Proved → List (Option Directive)
directives_in es = map (λ m. m.directive) (meanings_in es)

items_told : (es : List Proved) → AllFit statement es → (s : Operands)
    → after s (told_all (events_in es)) ≡ noting (inside (meanings_in es)) (directing_all (directives_in es) s)
items_told [] h s = sym (noting_none s)
items_told (e ∷ more) h s =
    let own : Errors = (meaning_of e.0).errors in
    let others : Errors = inside (meanings_in more) in
    after_append s (events_of e.0) (told_all (events_in more))
    ∙ ap (λ t. after t (told_all (events_in more)))
    (e.1 statement (and_left (fits_of e.0 statement) (all_fit statement (map fits_of (trees more))) h) s)
    ∙ items_told more (and_right (fits_of e.0 statement) (all_fit statement (map fits_of (trees more))) h)
    (noting own (directing (meaning_of e.0).directive s))
    ∙ ap (noting others) (directing_all_noting (directives_in more) own (directing (meaning_of e.0).directive s))
    ∙ noting_twice own others (directing_all (directives_in more) (directing (meaning_of e.0).directive s))

module _ (at : ℕ) (es : List Proved) (h : AllFit statement es) where
  pub fills_items : Fills (Placed (tell.Begin kind.Body) at ∷ told_all (events_in es)) (means_body at (meanings_in es))
  fills_items f outer s =
      let inner : Operands = pushed (plain at another) s in
      let found : Errors = inside (meanings_in es) in
      let own : Errors = rest_errors f.rest (prologue (directives_in es)) in
      let start : Operands = with_functions (with_prologue true f ∷ outer) inner in
      ap (λ t. dropped (popped t)) (items_told es h start)
      ∙ ap (λ t. noting found (popped t)) (dropped_closing (directing_all (directives_in es) start))
      ∙ ap (λ t. noting found (popped (dropped t))) (prologue_told (directives_in es) f outer inner)
      ∙ noting_swapped own found (with_functions outer s)
      ∙ noting_twice found own (with_functions outer s)

  script_told : closing (after begun (Placed (tell.Begin kind.Body) at ∷ told_all (events_in es)))
      ≡ noting (inside (meanings_in es))
      (noting no_errors
      (with_functions (directed begun_function (prologue (directives_in es)) ∷ []) (pushed (plain at another) begun)))
  script_told =
      let inner : Operands = pushed (plain at another) begun in
      ap closing (items_told es h (with_functions (with_prologue true begun_function ∷ []) inner))
      ∙ ap (noting (inside (meanings_in es))) (prologue_told (directives_in es) begun_function [] inner)

  pub tells_items : Tells (Placed (tell.Begin kind.Body) at ∷ told_all (events_in es)) (means_body at (meanings_in es))
  tells_items = record {
    early = ap (λ s. s.early) script_told;
    profile = ap (λ s. s.profile) script_told;
    strict =
        strict_closing (after begun (Placed (tell.Begin kind.Body) at ∷ told_all (events_in es)))
        ∙ ap is_strict script_told;
  }

-- What the events of tails, keys, properties, functions and statements of expressions do to the state of operands.
use Rattle.std.proofs.Common.{◌≡◌, ℕ, Bool, true, ◌&&◌, ◌||◌, if◌then◌else◌, List, [], ◌∷◌, ◌++◌, Option}
use Rattle.std.proofs.Common.{Some, None, refl, ap, ◌∙◌}
use Rattle.hz_tree.specs.declared.profile.ProfileKind.TheVariants as profile
use Rattle.hz_tree.specs.declared.signal.NodeKind.TheVariants as kind
use Rattle.hz_tree.specs.declared.signal.Signal.TheVariants as tell
use Rattle.hz_tree.specs.declared.tree.Bound.{Bound}
use Rattle.hz_tree.specs.declared.tree.FunctionForm.{FunctionForm}
use Rattle.hz_tree.specs.declared.tree.FunctionForm.TheVariants as form
use Rattle.hz_tree.specs.declared.tree.FunctionKind.{FunctionKind}
use Rattle.hz_tree.specs.declared.tree.Rest.{Rest}
use Rattle.hz_tree.specs.grammar.Signals.{Event, Plain, Placed}
use Rattle.hz_tree.specs.trees.Events.{told_part, told_form, told_parameters, told_function, node_of, end_of, events_of}
use Rattle.hz_tree.specs.errors.Targets.{Operand, member, call, chained, Errors, no_errors, joined, inside, Meaning}
use Rattle.hz_tree.specs.errors.Targets.{meaning_of, means, means_tail, plain, another, a_profile, Directive}
use Rattle.hz_tree.specs.errors.Targets.{directive_by}
use Rattle.hz_tree.specs.errors.Targets.{body_errors}
use Rattle.hz_laws.specs.Sorts.{Sort, statement, expression, element, property, method, body, key, tail, is_element}
use Rattle.hz_laws.specs.Sorts.{is_property, fits_of}
use Rattle.hz_laws.proofs.Ranks.{false_true, and_left, and_right}
use Rattle.hz_errors.specs.declared.functions.Opened.{Opened}
use Rattle.hz_errors.specs.Operands.{Operands, noting, begins, begun_function, pushed, popped, changed, as_tailed}
use Rattle.hz_errors.specs.Operands.{as_marked, directing, directive_errors, with_directive, with_functions, with_rest}
use Rattle.hz_errors.specs.Operands.{change_innermost, after}
use Rattle.hz_errors.proofs.OperandSteps.{after_append, noting_twice, noting_swapped, any, Over, over_join, over_none}
use Rattle.hz_errors.proofs.OperandSteps.{changed_twice, marks_none}
use Rattle.hz_errors.proofs.DirectiveSteps.{rest_errors}
use Rattle.hz_errors.proofs.OperandSorts.{IsSort, Proved, expression_part}
use Rattle.hz_errors.proofs.OperandPieces.{Piece, Whole}

-- ---- members and calls

abbrev pub index_tail : (at : ℕ) → Proved → Whole tail
index_tail at inner = record {
  needs = fits_of inner.0 expression;
  events = events_of inner.0 ++ Plain tell.Join ∷ Plain tell.Member ∷ [];
  meaning = means_tail at member (meaning_of inner.0).errors;
  acts = λ h s.
      after_append s (events_of inner.0) (Plain tell.Join ∷ Plain tell.Member ∷ [])
      ∙ ap (changed (as_tailed member)) (expression_part inner h s);
}

abbrev pub call_tail : (at : ℕ) → Piece any → Whole tail
call_tail at values = record {
  needs = values.needs;
  events = Plain tell.Arguments ∷ (values.events ++ Plain tell.Call ∷ []);
  meaning = means_tail at call (inside values.meanings);
  acts = λ h s.
      after_append s values.events (Plain tell.Call ∷ []) ∙ ap (changed (as_tailed call)) (values.over h s);
}

abbrev pub optional_tail : (at : ℕ) → Proved → Whole tail
optional_tail at inner =
    let x : Meaning = meaning_of inner.0 in
    record {
      needs = fits_of inner.0 tail;
      events = events_of inner.0 ++ Plain tell.Chain ∷ [];
      meaning = means_tail at chained x.errors;
      acts = λ h s.
          after_append s (events_of inner.0) (Plain tell.Chain ∷ [])
          ∙ ap (changed (as_tailed chained)) (inner.1 tail h s)
          ∙ ap (noting x.errors) (changed_twice (as_tailed chained) (as_tailed x.tail) s);
    }

-- ---- keys

abbrev pub plain_key : (at : ℕ) (es : List Event) (a : Errors) → Over any es a → Whole key
plain_key at es a h = record {
  needs = true;
  events = es;
  meaning = means (plain at another) a;
  acts = λ i. marks_none es a h;
}

abbrev pub computed_key : (at : ℕ) → Proved → Whole key
computed_key at inner =
    let x : Meaning = meaning_of inner.0 in
    record {
      needs = fits_of inner.0 expression;
      events = events_of inner.0 ++ Plain tell.Join ∷ [];
      meaning = means (plain at another) (joined x.errors no_errors);
      acts = λ h.
          marks_none (events_of inner.0 ++ Plain tell.Join ∷ []) (joined x.errors no_errors)
          (over_join any (events_of inner.0) [] x.errors no_errors (expression_part inner h) (over_none any));
    }

-- ---- parts of expressions

abbrev pub is_part : Sort → Bool
is_part wanted = is_element wanted || is_property wanted

pub as_part : IsSort is_part element
as_part element es x h acts = acts
as_part property es x h acts = acts
as_part _ es x h acts = absurd (false_true h)

abbrev pub part_node : (at : ℕ) → Piece any → Whole element
part_node at p = record {
  needs = p.needs;
  events = told_part at p.events;
  meaning = means (plain at another) (inside p.meanings);
  acts = λ h s. ap popped (p.over h (pushed (plain at another) s));
}

abbrev pub shorthand_node : (at : ℕ) → Piece any → Whole property
shorthand_node at p = record {
  needs = p.needs;
  events = told_part at p.events;
  meaning = means (plain at another) (inside p.meanings);
  acts = λ h s. ap popped (p.over h (pushed (plain at another) s));
}

abbrev proto_at : (proto : Bool) → (at : ℕ) → Errors
proto_at proto at = if proto then a_profile (profile.Proto, at) else no_errors

abbrev pub property_node : (at : ℕ) → (named value : Proved) → Whole property
property_node at named value =
    let k : Meaning = meaning_of named.0 in
    let v : Meaning = meaning_of value.0 in
    let behind : List Event = events_of value.0 ++ Plain tell.Join ∷ [] in
    record {
      needs = fits_of named.0 key && fits_of value.0 expression;
      events = told_part at (events_of named.0 ++ Plain tell.Valued ∷ behind);
      meaning = means (plain at another) (joined k.errors (joined (proto_at k.proto at) v.errors));
      acts = λ h s.
          let start : Operands = pushed (plain at another) s in
          let marked : Operands = changed (as_marked k.proto) start in
          let found : Operands = noting (proto_at k.proto at) (noting k.errors marked) in
          ap popped
          (after_append start (events_of named.0) (Plain tell.Valued ∷ behind)
          ∙ ap (λ t. after t (Plain tell.Valued ∷ behind))
          (named.1 key (and_left (fits_of named.0 key) (fits_of value.0 expression) h) start)
          ∙ after_append found (events_of value.0) (Plain tell.Join ∷ [])
          ∙ expression_part value (and_right (fits_of named.0 key) (fits_of value.0 expression) h) found)
          ∙ noting_twice (proto_at k.proto at) v.errors (noting k.errors s)
          ∙ noting_twice k.errors (joined (proto_at k.proto at) v.errors) s;
    }

abbrev pub method_node : (at : ℕ) → (named function : Proved) → Whole property
method_node at named function =
    let k : Meaning = meaning_of named.0 in
    let f : Meaning = meaning_of function.0 in
    let behind : List Event = events_of function.0 ++ Plain tell.Join ∷ [] in
    record {
      needs = fits_of named.0 key && fits_of function.0 method;
      events = told_part at (events_of named.0 ++ behind);
      meaning = means (plain at another) (joined k.errors (joined f.errors no_errors));
      acts = λ h s.
          let start : Operands = pushed (plain at another) s in
          let marked : Operands = changed (as_marked k.proto) start in
          ap popped
          (after_append start (events_of named.0) behind
          ∙ ap (λ t. after t behind)
          (named.1 key (and_left (fits_of named.0 key) (fits_of function.0 method) h) start)
          ∙ over_join any (events_of function.0) [] f.errors no_errors
          (function.1 method (and_right (fits_of named.0 key) (fits_of function.0 method) h)) (over_none any)
          (noting k.errors marked))
          ∙ noting_twice k.errors (joined f.errors no_errors) s;
    }

-- ---- the statement of an expression

pub directs_expression : (directive : Option Directive) (a : Errors) (operand : Operand) (at : ℕ) (s : Operands)
    → popped (popped (directing directive (noting a (pushed operand (pushed (plain at another) s)))))
    ≡ noting a (directing directive s)
directs_expression None a operand at s = refl
directs_expression (Some d) a operand at s =
    noting_swapped a (directive_errors d s.functions)
    (with_functions (change_innermost (with_directive d) s.functions) s)

abbrev pub expression_node : (at : ℕ) → Proved → Whole statement
expression_node at value =
    let x : Meaning = meaning_of value.0 in
    let behind : List Event = Plain tell.Directive ∷ Plain tell.Join ∷ Plain (tell.End kind.Statement) ∷ [] in
    record {
      needs = fits_of value.0 expression;
      events = Placed (tell.Begin kind.Expression) at ∷ (events_of value.0 ++ behind);
      meaning = record (means (plain at another) x.errors) { directive = directive_by x.operand };
      acts = λ h s.
          after_append (pushed (plain at another) s) (events_of value.0) behind
          ∙ ap (λ t. after t behind) ((value.1 expression h).pushes (pushed (plain at another) s))
          ∙ directs_expression (directive_by x.operand) x.errors x.operand at s;
    }

-- ---- functions

form_told : (form : FunctionForm) (s : Operands) (more : List Event)
    → after s (told_form form ++ Plain tell.Enter ∷ more) ≡ after s more
form_told (form.Declaration bound) s more = refl
form_told (form.Expression None) s more = refl
form_told (form.Expression (Some bound)) s more = refl
form_told form.Arrow s more = refl
form_told form.Method s more = refl

abbrev rested : Option Rest → Opened → Opened
rested None f = f
rested (Some rest) f = with_rest f

parameters_told : (parameters : List Bound) (rest : Option Rest) (f : Opened) (outer : List Opened) (s : Operands)
    (more : List Event)
    → after (with_functions (f ∷ outer) s) (told_parameters parameters rest ++ more)
    ≡ after (with_functions (rested rest f ∷ outer) s) more
parameters_told [] None f outer s more = refl
parameters_told [] (Some rest) f outer s more = refl
parameters_told (first ∷ others) rest f outer s more = parameters_told others rest f outer s more

rested_errors : (rest : Option Rest) (directives : List Directive)
    → rest_errors (rested rest begun_function).rest directives ≡ body_errors rest directives
rested_errors None directives = refl
rested_errors (Some rest) directives = refl

outer_begins : (form : FunctionForm) (at : ℕ) (s : Operands)
    → with_functions (begins (node_of form) s).functions (pushed (plain at another) s)
    ≡ pushed (plain at another) (begins (node_of form) s)
outer_begins (form.Declaration bound) at s = refl
outer_begins (form.Expression name) at s = refl
outer_begins form.Arrow at s = refl
outer_begins form.Method at s = refl

module _ (at end : ℕ) (form : FunctionForm) (kind : FunctionKind) (parameters : List Bound) (rest : Option Rest)
    (inner : Proved) where
  abbrev pub function_errors : Errors
  function_errors = joined (meaning_of inner.0).errors (body_errors rest (meaning_of inner.0).directives)

  abbrev function_events : List Event
  function_events = told_function at end form kind parameters rest (events_of inner.0)

  pub body_told : fits_of inner.0 body ≡ true → (s : Operands)
      → after s function_events
      ≡ after (noting function_errors (pushed (plain at another) (begins (node_of form) s))) (end_of form)
  body_told h s =
      let x : Meaning = meaning_of inner.0 in
      let outer : List Opened = (begins (node_of form) s).functions in
      let start : Operands = pushed (plain at another) s in
      let f : Opened = rested rest begun_function in
      let behind : List Event = Plain tell.Join ∷ Placed tell.Close end ∷ end_of form in
      form_told form (with_functions (begun_function ∷ outer) start)
      (told_parameters parameters rest ++ (events_of inner.0 ++ behind))
      ∙ parameters_told parameters rest begun_function outer start (events_of inner.0 ++ behind)
      ∙ after_append (with_functions (f ∷ outer) start) (events_of inner.0) behind
      ∙ ap (λ t. after t (end_of form))
      (inner.1 body h f outer start
      ∙ ap (λ e. noting (joined x.errors e) (with_functions outer start)) (rested_errors rest x.directives)
      ∙ ap (noting function_errors) (outer_begins form at s))

  abbrev function_meaning : Meaning
  function_meaning = means (plain at another) function_errors

module _ (at end : ℕ) (kind : FunctionKind) (parameters : List Bound) (rest : Option Rest) (inner : Proved) where
  abbrev pub declaration_node : Bound → Whole statement
  declaration_node bound = record {
    needs = fits_of inner.0 body;
    events = told_function at end (form.Declaration bound) kind parameters rest (events_of inner.0);
    meaning =
        means (plain at another)
        (joined (meaning_of inner.0).errors (body_errors rest (meaning_of inner.0).directives));
    acts = λ h. body_told at end (form.Declaration bound) kind parameters rest inner h;
  }

  abbrev pub function_node : Option Bound → Whole expression
  function_node name = record {
    needs = fits_of inner.0 body;
    events = told_function at end (form.Expression name) kind parameters rest (events_of inner.0);
    meaning =
        means (plain at another)
        (joined (meaning_of inner.0).errors (body_errors rest (meaning_of inner.0).directives));
    acts = λ h. record {
      pushes = body_told at end (form.Expression name) kind parameters rest inner h;
      undirected = refl;
    };
  }

  abbrev pub arrow_node : Whole expression
  arrow_node = record {
    needs = fits_of inner.0 body;
    events = told_function at end form.Arrow kind parameters rest (events_of inner.0);
    meaning =
        means (plain at another)
        (joined (meaning_of inner.0).errors (body_errors rest (meaning_of inner.0).directives));
    acts = λ h. record {
      pushes = body_told at end form.Arrow kind parameters rest inner h;
      undirected = refl;
    };
  }

  abbrev pub method_function : Whole method
  method_function = record {
    needs = fits_of inner.0 body;
    events = told_function at end form.Method kind parameters rest (events_of inner.0);
    meaning =
        means (plain at another)
        (joined (meaning_of inner.0).errors (body_errors rest (meaning_of inner.0).directives));
    acts = λ h s. ap popped (body_told at end form.Method kind parameters rest inner h s);
  }

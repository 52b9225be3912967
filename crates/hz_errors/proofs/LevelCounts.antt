-- The parameters of a function and the arguments of a call, as their events count them.
use Rattle.std.proofs.Common.{◌≡◌, ℕ, zero, suc, ◌+◌, ◌==◌, Bool, false, List, [], ◌∷◌, ◌++◌, map, drop, Option}
use Rattle.std.proofs.Common.{Some, None, refl, sym, ap, ◌∙◌, arith, append-nil, min}
use Rattle.std.proofs.lemmas.Bool.{ne_eqb}
use Rattle.hz_tree.specs.declared.tree.Tree.TheOpen.{Tree-F}
use Rattle.hz_tree.specs.declared.limit.LimitKind.{LimitKind}
use Rattle.hz_tree.specs.declared.limit.LimitKind.TheVariants as limit
use Rattle.hz_tree.specs.declared.signal.Signal.TheVariants as tell
use Rattle.hz_tree.specs.declared.tree.Bound.{Bound}
use Rattle.hz_tree.specs.declared.tree.FunctionForm.{FunctionForm}
use Rattle.hz_tree.specs.declared.tree.FunctionForm.TheVariants as form
use Rattle.hz_tree.specs.declared.tree.FunctionKind.{FunctionKind}
use Rattle.hz_tree.specs.declared.tree.Rest.{Rest}
use Rattle.hz_tree.specs.errors.Limits.{LimitError, Depths, all_levels, all_errors, inner}
use Rattle.hz_tree.specs.errors.Limits.{max_listed, first_error, past, rest_place, with_parameters, depths_layer}
use Rattle.hz_tree.specs.grammar.Signals.{Event, Plain, Placed}
use Rattle.hz_tree.specs.sources.Kinds.{order_of_limit}
use Rattle.hz_tree.specs.trees.Events.{told_arguments, told_parameters, told_form, told_function, end_of}
use Rattle.hz_errors.specs.Found.{noted}
use Rattle.hz_errors.specs.Levels.{Entry, State, with_levels, count_errors, closed, after}
use Rattle.hz_errors.proofs.LevelLists.{least_each-nil}
use Rattle.hz_errors.proofs.LevelActs.{after_append, Puts, Adds, ChangesNothing, put, state_of, same_state}
use Rattle.hz_errors.proofs.LevelActs.{with_levels_none, with_levels_twice, noted_more, noted_commutes, joined_put}
use Rattle.hz_errors.proofs.Orders.{limit_is_order, noted_none}

-- ---- the errors of a list, from those of its members

-- what the next one makes, behind so many
abbrev pub error_at : LimitKind → (count at : ℕ) → List LimitError
error_at kind count at = count_errors kind at (count ∷ [])

abbrev pub one_more : ℕ → ℕ
one_more count = min (count + 1) 255

abbrev pub errors_from : LimitKind → (count : ℕ) → (places : List ℕ) → List LimitError
errors_from kind count [] = []
errors_from kind count (at ∷ more) = error_at kind count at ++ errors_from kind (one_more count) more

abbrev pub count_after : (count : ℕ) → (places : List ℕ) → ℕ
count_after count [] = count
count_after count (at ∷ more) = count_after (one_more count) more

errors_full : (kind : LimitKind) (places : List ℕ) → errors_from kind 255 places ≡ []
errors_full kind [] = refl
errors_full kind (at ∷ more) = errors_full kind more

no_error : (kind : LimitKind) (count at : ℕ) (full : Bool) → (count == max_listed) ≡ full → full ≡ false
    → error_at kind count at ≡ []
no_error kind count at full h i = rw (h, i)

errors_left : (kind : LimitKind) (left count : ℕ) (places : List ℕ) → count + left ≡ 254
    → errors_from kind count places ≡ first_error kind (drop left places)
errors_left kind zero count [] h = refl
errors_left kind zero count (at ∷ more) h =
    let full : count ≡ 254 = omega arith in rw full (ap (λ rest. (kind, at) ∷ rest) (errors_full kind more))
errors_left kind (suc left) count [] h = refl
errors_left kind (suc left) count (at ∷ more) h =
    let next : one_more count ≡ suc count = omega arith in
    ap (λ errors. errors ++ errors_from kind (one_more count) more)
    (no_error kind count at (count == max_listed) refl (ne_eqb count 254 (omega arith)))
    ∙ errors_left kind left (one_more count) more (omega (arith, next))

pub errors_past : (kind : LimitKind) (places : List ℕ) → errors_from kind 0 places ≡ past kind places
errors_past kind places = errors_left kind 254 0 places refl

-- ---- notes in any order

-- the errors of one more argument and of those behind it
noted_argument : (own told more within : List LimitError) (least : Option LimitError)
    → noted order_of_limit (told ++ within) (noted order_of_limit own (noted order_of_limit more least))
    ≡ noted order_of_limit ((own ++ told) ++ (more ++ within)) least
noted_argument own told more within least =
    let note : List LimitError → Option LimitError → Option LimitError = noted order_of_limit in
    sym (noted_more told within (note own (note more least)))
    ∙ ap (note within)
    (noted_more own told (note more least) ∙ noted_commutes more (own ++ told) least)
    ∙ noted_more more within (note (own ++ told) least)
    ∙ noted_more (own ++ told) (more ++ within) least

-- ---- arguments

-- each list of events is an entry of its own
abbrev pub AllPut : List (List Event) → List Depths → Type 0
AllPut [] [] = Unit {0}
AllPut (es ∷ more) (d ∷ ds) = Puts es d × AllPut more ds
AllPut _ _ = ⊥

abbrev starts : List Depths → List ℕ
starts ds = map (λ d. d.start) ds

arguments_act : (ess : List (List Event)) (ds : List Depths) → AllPut ess ds
    → (entries : List Entry) (count : ℕ) (outer : List ℕ) (least : Option LimitError)
    → after (state_of entries (count ∷ outer) least) (told_arguments ess)
    ≡ state_of (with_levels (all_levels ds) entries) (count_after count (starts ds) ∷ outer)
    (noted order_of_limit (errors_from limit.Arguments count (starts ds) ++ all_errors ds) least)
arguments_act [] [] h entries count outer least =
    same_state (count ∷ outer) (sym (with_levels_none entries)) (sym (noted_none order_of_limit limit_is_order least))
arguments_act [] (d ∷ ds) h entries count outer least = absurd h
arguments_act (es ∷ more) [] h entries count outer least = absurd h
arguments_act (es ∷ more) (d ∷ ds) h entries count outer least =
    let note : List LimitError → Option LimitError → Option LimitError = noted order_of_limit in
    let own : List LimitError = error_at limit.Arguments count d.start in
    after_append (state_of entries (count ∷ outer) least) es (Plain tell.Argument ∷ told_arguments more)
    ∙ ap (λ s. after s (Plain tell.Argument ∷ told_arguments more)) (h.0.acts (state_of entries (count ∷ outer) least))
    ∙ arguments_act more ds h.1 (with_levels d.levels entries) (one_more count) outer (note own (note d.errors least))
    ∙ same_state (count_after count (starts (d ∷ ds)) ∷ outer) (with_levels_twice d.levels (all_levels ds) entries)
    (noted_argument own (errors_from limit.Arguments (one_more count) (starts ds)) d.errors (all_errors ds) least)

pub arguments : (at : ℕ) (ess : List (List Event)) (ds : List Depths) → AllPut ess ds
    → Adds (Plain tell.Arguments ∷ (told_arguments ess ++ Plain tell.Call ∷ []))
    (depths_layer (Tree-F.Args at ds) ∷ [])
arguments at ess ds h = record {
  acts = λ s.
      after_append _ (told_arguments ess) (Plain tell.Call ∷ [])
      ∙ ap closed (arguments_act ess ds h s.entries 0 s.counts s.least)
      ∙ same_state s.counts (ap (λ levels. with_levels levels s.entries) (sym (least_each-nil (all_levels ds))))
      (ap (λ errors. noted order_of_limit (errors ++ all_errors ds) s.least)
      (errors_past limit.Arguments (starts ds))
      ∙ ap (λ errors. noted order_of_limit errors s.least)
      (sym (append-nil (past limit.Arguments (starts ds) ++ all_errors ds))));
}

-- ---- parameters

abbrev parameter_places : List Bound → Option Rest → List ℕ
parameter_places parameters rest = map (λ b. b.at) parameters ++ rest_place rest

parameters_act : (parameters : List Bound) (rest : Option Rest)
    (entries : List Entry) (count : ℕ) (outer : List ℕ) (least : Option LimitError)
    → after (state_of entries (count ∷ outer) least) (told_parameters parameters rest)
    ≡ state_of entries (count_after count (parameter_places parameters rest) ∷ outer)
    (noted order_of_limit (errors_from limit.Parameters count (parameter_places parameters rest)) least)
parameters_act [] None entries count outer least =
    same_state (count ∷ outer) refl (sym (noted_none order_of_limit limit_is_order least))
parameters_act [] (Some rest) entries count outer least =
    same_state (one_more count ∷ outer) refl
    (ap (λ errors. noted order_of_limit errors least) (sym (append-nil (error_at limit.Parameters count rest.at))))
parameters_act (first ∷ more) rest entries count outer least =
    let own : List LimitError = error_at limit.Parameters count first.at in
    parameters_act more rest entries (one_more count) outer (noted order_of_limit own least)
    ∙ same_state (count_after (one_more count) (parameter_places more rest) ∷ outer) refl
    (noted_more own (errors_from limit.Parameters (one_more count) (parameter_places more rest)) least)

-- ---- functions

form_quiet : (form : FunctionForm) → ChangesNothing (told_form form)
form_quiet (form.Declaration bound) = record { keeps = λ s. refl }
form_quiet (form.Expression None) = record { keeps = λ s. refl }
form_quiet (form.Expression (Some bound)) = record { keeps = λ s. refl }
form_quiet form.Arrow = record { keeps = λ s. refl }
form_quiet form.Method = record { keeps = λ s. refl }

module _ (at end : ℕ) (form : FunctionForm) (kind : FunctionKind) (parameters : List Bound) (rest : Option Rest) where
  function_acts : (es : List Event) (d : Depths) → Puts es d → (s : State)
      → after s (told_function at end form kind parameters rest es)
      ≡ after (put (with_parameters parameters rest (inner at (d ∷ []))) s) (end_of form)
  function_acts es d h s =
      let places : List ℕ = parameter_places parameters rest in
      let own : List LimitError = errors_from limit.Parameters 0 places in
      let ending : List Event = Plain tell.Join ∷ Placed tell.Close end ∷ end_of form in
      let entries : List Entry = record { at = at; levels = [] } ∷ s.entries in
      let least : Option LimitError = noted order_of_limit own s.least in
      let open_state : State = state_of entries (0 ∷ s.counts) s.least in
      let full : State = state_of entries (count_after 0 places ∷ s.counts) least in
      after_append open_state (told_form form) (Plain tell.Enter ∷ (told_parameters parameters rest ++ (es ++ ending)))
      ∙ ap (λ s. after s (told_parameters parameters rest ++ (es ++ ending))) ((form_quiet form).keeps open_state)
      ∙ after_append open_state (told_parameters parameters rest) (es ++ ending)
      ∙ ap (λ s. after s (es ++ ending)) (parameters_act parameters rest entries 0 s.counts s.least)
      ∙ after_append full es ending
      ∙ ap (λ s. after s ending) (h.acts full)
      ∙ ap (λ s. after s (end_of form))
      (same_state s.counts
      (ap (λ levels. record { at = at; levels = levels } ∷ s.entries) (sym (least_each-nil d.levels)))
      (ap (noted order_of_limit d.errors) (ap (λ errors. noted order_of_limit errors s.least)
      (errors_past limit.Parameters places))
      ∙ noted_more (past limit.Parameters places) d.errors s.least
      ∙ ap (λ errors. noted order_of_limit (past limit.Parameters places ++ errors) s.least)
      (sym (append-nil d.errors))))

pub method_puts : (at end : ℕ) (kind : FunctionKind) (parameters : List Bound) (rest : Option Rest)
    {es : (List Event)} {d : Depths} → Puts es d
    → Puts (told_function at end form.Method kind parameters rest es)
    (depths_layer (Tree-F.Function at end form.Method kind parameters rest d))
method_puts at end kind parameters rest {es} {d} h = record {
  acts = function_acts at end form.Method kind parameters rest es d h;
}

pub arrow_puts : (at end : ℕ) (kind : FunctionKind) (parameters : List Bound) (rest : Option Rest)
    {es : (List Event)} {d : Depths} → Puts es d
    → Puts (told_function at end form.Arrow kind parameters rest es)
    (depths_layer (Tree-F.Function at end form.Arrow kind parameters rest d))
arrow_puts at end kind parameters rest {es} {d} h = record {
  acts = function_acts at end form.Arrow kind parameters rest es d h;
}

pub expression_puts : (at end : ℕ) (name : Option Bound) (kind : FunctionKind) (parameters : List Bound)
    (rest : Option Rest) {es : (List Event)} {d : Depths} → Puts es d
    → Puts (told_function at end (form.Expression name) kind parameters rest es)
    (depths_layer (Tree-F.Function at end (form.Expression name) kind parameters rest d))
expression_puts at end name kind parameters rest {es} {d} h = record {
  acts = function_acts at end (form.Expression name) kind parameters rest es d h;
}

pub declaration_adds : (at end : ℕ) (name : Bound) (kind : FunctionKind) (parameters : List Bound)
    (rest : Option Rest) {es : (List Event)} {d : Depths} → Puts es d
    → Adds (told_function at end (form.Declaration name) kind parameters rest es)
    (depths_layer (Tree-F.Function at end (form.Declaration name) kind parameters rest d) ∷ [])
declaration_adds at end name kind parameters rest {es} {d} h = record {
  acts = λ s. function_acts at end (form.Declaration name) kind parameters rest es d h s
      ∙ joined_put (depths_layer (Tree-F.Function at end (form.Declaration name) kind parameters rest d)) s;
}

-- What lists of events do to the state of levels, from what their parts do.
use Rattle.std.proofs.Common.{◌≡◌, ℕ, List, [], ◌∷◌, ◌++◌, refl, sym, ap, ◌∙◌, append-nil, Option}
use Rattle.hz_tree.specs.declared.signal.NodeKind.{NodeKind}
use Rattle.hz_tree.specs.declared.signal.NodeShape.{NodeShape}
use Rattle.hz_tree.specs.declared.signal.Signal.TheVariants as tell
use Rattle.hz_tree.specs.errors.Limits.{LimitError, least_each, Depths, all_levels, all_errors, inner, level}
use Rattle.hz_tree.specs.grammar.Signals.{Event, Plain, Placed}
use Rattle.hz_tree.specs.sources.Kinds.{order_of_limit}
use Rattle.hz_errors.specs.Found.{noted}
use Rattle.hz_errors.specs.Levels.{Entry, State, with_levels, pushed, joined, one_node, happens, after}
use Rattle.hz_errors.proofs.LevelLists.{least_each-nil, least_each_assoc, all_levels-append, all_errors-append}
use Rattle.hz_errors.proofs.Orders.{limit_is_order, noted_twice, noted_swapped, noted_none}

pub after_append : (s : State) (es fs : List Event) → after s (es ++ fs) ≡ after (after s es) fs
after_append s [] fs = refl
after_append s (e ∷ es) fs = after_append (happens s e) es fs

-- ---- trees that go into the uppermost entry, and one that is an entry of its own

abbrev pub added : List Depths → State → State
added ds s =
    record {
      entries = with_levels (all_levels ds) s.entries;
      counts = s.counts;
      least = noted order_of_limit (all_errors ds) s.least;
    }

abbrev pub put : Depths → State → State
put d s =
    record {
      entries = record { at = d.start; levels = d.levels } ∷ s.entries;
      counts = s.counts;
      least = noted order_of_limit d.errors s.least;
    }

pub record Adds (es : List Event) (ds : List Depths) : Type 0 where
  pub acts : (s : State) → after s es ≡ added ds s

pub record Puts (es : List Event) (d : Depths) : Type 0 where
  pub acts : (s : State) → after s es ≡ put d s

-- these trees go into the uppermost entry, which is one node more by them
pub record Ends (es : List Event) (ds : List Depths) : Type 0 where
  pub acts : (s : State) → after s es ≡ one_node (added ds s)

-- ---- the state

abbrev pub state_of : List Entry → List ℕ → Option LimitError → State
state_of entries counts least = record { entries = entries; counts = counts; least = least }

pub same_state : {entries entries' : List Entry} {least least' : Option LimitError} (counts : List ℕ)
    → entries ≡ entries' → least ≡ least' → state_of entries counts least ≡ state_of entries' counts least'
same_state {entries} {entries'} {least} {least'} counts h i =
    ap (λ entries. state_of entries counts least) h ∙ ap (λ least. state_of entries' counts least) i

pub with_levels_none : (entries : List Entry) → with_levels [] entries ≡ entries
with_levels_none [] = refl
with_levels_none (entry ∷ below) =
    ap (λ levels. record { at = entry.at; levels = levels } ∷ below) (least_each-nil entry.levels)

pub with_levels_twice : (xs ys : List ℕ) (entries : List Entry)
    → with_levels ys (with_levels xs entries) ≡ with_levels (least_each xs ys) entries
with_levels_twice xs ys [] = refl
with_levels_twice xs ys (entry ∷ below) =
    ap (λ levels. record { at = entry.at; levels = levels } ∷ below) (least_each_assoc entry.levels xs ys)

pub noted_more : (xs ys : List LimitError) (least : Option LimitError)
    → noted order_of_limit ys (noted order_of_limit xs least) ≡ noted order_of_limit (xs ++ ys) least
noted_more = noted_twice order_of_limit limit_is_order

pub noted_commutes : (xs ys : List LimitError) (least : Option LimitError)
    → noted order_of_limit ys (noted order_of_limit xs least) ≡ noted order_of_limit xs (noted order_of_limit ys least)
noted_commutes xs ys least =
    noted_more xs ys least ∙ noted_swapped order_of_limit limit_is_order xs ys least ∙ sym (noted_more ys xs least)

added_none : (s : State) → added [] s ≡ s
added_none s =
    same_state s.counts (with_levels_none s.entries) (noted_none order_of_limit limit_is_order s.least)

added_twice : (ds ds' : List Depths) (s : State) → added ds' (added ds s) ≡ added (ds ++ ds') s
added_twice ds ds' s =
    same_state s.counts
    (with_levels_twice (all_levels ds) (all_levels ds') s.entries
    ∙ ap (λ levels. with_levels levels s.entries) (sym (all_levels-append ds ds')))
    (noted_more (all_errors ds) (all_errors ds') s.least
    ∙ ap (λ errors. noted order_of_limit errors s.least) (sym (all_errors-append ds ds')))

pub joined_put : (d : Depths) (s : State) → joined (put d s) ≡ added (d ∷ []) s
joined_put d s =
    same_state s.counts (ap (λ levels. with_levels levels s.entries) (sym (least_each-nil d.levels)))
    (ap (λ errors. noted order_of_limit errors s.least) (sym (append-nil d.errors)))

-- ---- trees that go into the uppermost entry

pub adds_none : Adds [] []
adds_none = record { acts = λ s. sym (added_none s) }

pub adds_both : {es fs : (List Event)} {ds ds' : List Depths} → Adds es ds → Adds fs ds' → Adds (es ++ fs) (ds ++ ds')
adds_both {es} {fs} {ds} {ds'} h i = record {
  acts = λ s. after_append s es fs ∙ ap (λ s. after s fs) (h.acts s) ∙ i.acts (added ds s) ∙ added_twice ds ds' s;
}

-- the uppermost entry is joined, and then more follows
pub record JoinsFirst (es more : List Event) : Type 0 where
  pub joins : (s : State) → after s es ≡ after (joined s) more

pub record ChangesNothing (es : List Event) : Type 0 where
  pub keeps : (s : State) → after s es ≡ s

put_joined : {es fs more : (List Event)} {d : Depths} → Puts es d → JoinsFirst fs more → (s : State)
    → after s (es ++ fs) ≡ after (added (d ∷ []) s) more
put_joined {es} {fs} {more} {d} h i s =
    after_append s es fs ∙ ap (λ s. after s fs) (h.acts s) ∙ i.joins (put d s) ∙ ap (λ s. after s more) (joined_put d s)

pub adds_put : {es fs more : (List Event)} {d : Depths} {ds : List Depths} → Puts es d → JoinsFirst fs more
    → Adds more ds → Adds (es ++ fs) (d ∷ ds)
adds_put {es} {fs} {more} {d} {ds} h i j = record {
  acts = λ s. put_joined h i s ∙ j.acts (added (d ∷ []) s) ∙ added_twice (d ∷ []) ds s;
}

-- before them an event that changes nothing
pub adds_quiet : (e : Event) → ((s : State) → happens s e ≡ s) → {es : (List Event)} {ds : List Depths} → Adds es ds
    → Adds (e ∷ es) ds
adds_quiet e i {es} {ds} h = record { acts = λ s. ap (λ s. after s es) (i s) ∙ h.acts s }

pub ends_quiet : (e : Event) → ((s : State) → happens s e ≡ s) → {es : (List Event)} {ds : List Depths} → Ends es ds
    → Ends (e ∷ es) ds
ends_quiet e i {es} {ds} h = record { acts = λ s. ap (λ s. after s es) (i s) ∙ h.acts s }

-- behind them events that change nothing
pub adds_then : {es fs : (List Event)} {ds : List Depths} → Adds es ds → ChangesNothing fs
    → Adds (es ++ fs) ds
adds_then {es} {fs} {ds} h i = record {
  acts = λ s. after_append s es fs ∙ ap (λ s. after s fs) (h.acts s) ∙ i.keeps (added ds s);
}

pub statement : (at : ℕ) (kind ends : NodeKind) {es : (List Event)} {ds : List Depths} → Adds es ds
    → Adds (Placed (tell.Begin kind) at ∷ (es ++ Plain (tell.End ends) ∷ [])) (level at ds ∷ [])
statement at kind ends {es} {ds} h = record {
  acts = λ s. after_append _ es (Plain (tell.End ends) ∷ []) ∙ ap (λ s. joined (one_node s)) (h.acts _)
      ∙ joined_put (level at ds) s;
}

-- a statement that is an expression
pub expression_adds : (at : ℕ) (kind ends : NodeKind) {es : (List Event)} {d : Depths} → Puts es d
    → Adds (Placed (tell.Begin kind) at ∷ (es ++ Plain tell.Directive ∷ Plain tell.Join ∷ Plain (tell.End ends) ∷ []))
    (level at (d ∷ []) ∷ [])
expression_adds at kind ends {es} {d} h = record {
  acts = λ s. put_joined h (joins_behind (Plain (tell.End ends) ∷ [])) _ ∙ joined_put (level at (d ∷ [])) s;
}
  where
    joins_behind : (more : List Event) → JoinsFirst (Plain tell.Directive ∷ Plain tell.Join ∷ more) more
    joins_behind more = record { joins = λ s. refl }

-- what is no statement itself
pub inner_adds : (at : ℕ) {es : (List Event)} {ds : List Depths} → Adds es ds → Adds es (inner at ds ∷ [])
inner_adds at {es} {ds} h = record {
  acts = λ s. h.acts s
      ∙ same_state s.counts (ap (λ levels. with_levels levels s.entries) (sym (least_each-nil (all_levels ds))))
      (ap (λ errors. noted order_of_limit errors s.least) (sym (append-nil (all_errors ds))));
}

-- ---- trees that end a node

pub ends_with : (shape : NodeShape) {es : (List Event)} {ds : List Depths} → Adds es ds
    → Ends (es ++ Plain (tell.Node shape) ∷ []) ds
ends_with shape {es} {ds} h = record {
  acts = λ s. after_append s es (Plain (tell.Node shape) ∷ []) ∙ ap one_node (h.acts s);
}

pub ends_node : (shape : NodeShape) → Ends (Plain (tell.Node shape) ∷ []) []
ends_node shape = ends_with shape adds_none

pub ends_put : {es fs more : (List Event)} {d : Depths} {ds : List Depths} → Puts es d → JoinsFirst fs more
    → Ends more ds → Ends (es ++ fs) (d ∷ ds)
ends_put {es} {fs} {more} {d} {ds} h i j = record {
  acts = λ s. put_joined h i s ∙ j.acts (added (d ∷ []) s) ∙ ap one_node (added_twice (d ∷ []) ds s);
}

pub ends_parentheses : {es : (List Event)} {d : Depths} → Puts es d
    → Ends (es ++ Plain tell.Parentheses ∷ []) (d ∷ [])
ends_parentheses {es} {d} h = record {
  acts = λ s. after_append s es (Plain tell.Parentheses ∷ []) ∙ ap (λ s. one_node (joined s)) (h.acts s)
      ∙ ap one_node (joined_put d s);
}

-- ---- trees that are entries

pub leaf : (at : ℕ) (es : List Event) → ((s : State) → after s es ≡ pushed at (at ∷ []) s) → Puts es (level at [])
leaf at es h = record {
  acts = λ s. h s ∙ same_state s.counts refl (sym (noted_none order_of_limit limit_is_order s.least));
}

pub part : (at : ℕ) (kind : NodeKind) {es : (List Event)} {ds : List Depths} → Adds es ds
    → Puts (Placed (tell.Begin kind) at ∷ es) (inner at ds)
part at kind h = record { acts = λ s. h.acts _ }

pub operand : (at : ℕ) (kind : NodeKind) {es : (List Event)} {ds : List Depths} → Ends es ds
    → Puts (Placed (tell.Begin kind) at ∷ es) (level at ds)
operand at kind h = record { acts = λ s. h.acts _ }

pub grows : {es fs : (List Event)} {d : Depths} {ds : List Depths} → Puts es d → Ends fs ds
    → Puts (es ++ fs) (level d.start (d ∷ ds))
grows {es} {fs} {d} {ds} h i = record {
  acts = λ s. after_append s es fs ∙ ap (λ s. after s fs) (h.acts s) ∙ i.acts (put d s)
      ∙ ap
      (λ least. state_of (record { at = d.start; levels = d.start ∷ least_each d.levels (all_levels ds) } ∷ s.entries)
      s.counts least)
      (noted_more d.errors (all_errors ds) s.least);
}

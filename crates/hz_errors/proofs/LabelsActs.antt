-- What the events of labels and jumps do.
use Rattle.std.proofs.Common.{◌≡◌, ℕ, ◌+◌, ◌-◌, Bool, true, false, cond, List, [], ◌∷◌, ◌++◌, Option, Some, None}
use Rattle.std.proofs.Common.{refl, ap, sym, ◌∙◌, arith, subst}
use Rattle.hz_tree.specs.declared.early.EarlyKind.TheVariants as early
use Rattle.hz_tree.specs.declared.signal.Jump.{Jump}
use Rattle.hz_tree.specs.declared.signal.NodeKind.{NodeKind}
use Rattle.hz_tree.specs.declared.signal.NodeKind.TheVariants as kind
use Rattle.hz_tree.specs.declared.signal.Signal.TheVariants as tell
use Rattle.hz_tree.specs.declared.tree.Bound.{Bound}
use Rattle.hz_tree.specs.declared.tree.FunctionKind.{FunctionKind}
use Rattle.hz_tree.specs.tokens.Text.{Text}
use Rattle.hz_tree.specs.grammar.Signals.{Event, Plain, Placed, Texted}
use Rattle.hz_tree.specs.trees.Events.{told_jump}
use Rattle.hz_tree.specs.errors.Jumps as meant
use Rattle.hz_tree.specs.errors.Jumps.{Leaving, Jumping, still, beside, in_label, in_whole, label_name, one_jump}
use Rattle.hz_tree.specs.errors.Jumps.{bad_jump, leaving_errors}
use Rattle.hz_tree.specs.errors.Scopes.{occurs}
use Rattle.hz_errors.specs.Labels.{OpenBody, Labelling, nothing_open, names, is_open, leads, labelled, settled}
use Rattle.hz_errors.specs.Labels.{in_loop, in_switch, without_label, opens, closes, labels, happens, after}
use Rattle.hz_errors.proofs.LabelsFound.{Least, both, least, both_assoc, both_none, found, found_beside}
use Rattle.hz_errors.proofs.LabelsFound.{found_in_loop, found_in_switch, found_whole, open_errors}
use Rattle.hz_errors.proofs.LabelsNamed.{within, found_in_label}

after_append : (s : Labelling) (es fs : List Event) → after s (es ++ fs) ≡ after (after s es) fs
after_append s [] fs = refl
after_append s (e ∷ es) fs = after_append (happens s e) es fs

-- From one state to another: this is open in the innermost function then, and what this means is found in it.
pub record Does (s t : Labelling) (body : OpenBody) (x : Jumping) : Type 0 where
  pub open_then : t.body ≡ body
  pub outer : t.outer ≡ s.outer
  pub errors : t.least ≡ both s.least (found body x)

-- Events within a statement: where no label is fresh, what is open stays.
pub record Within (es : List Event) (x : Jumping) : Type 0 where
  pub act : (s : Labelling) → s.body.fresh ≡ [] → Does s (after s es) s.body x

-- Events of a whole statement: it is that of the fresh labels.
pub record Settles (es : List Event) (x : Jumping) : Type 0 where
  pub act : (s : Labelling) → Does s (after s es) (settled x.loops s.body) x

settled_same : (b : Bool) (body : OpenBody) → body.fresh ≡ [] → settled b body ≡ body
settled_same b body h =
    ap (λ names. record {
      fresh = [];
      labels = labelled b names ++ body.labels;
      loops = body.loops;
      switches = body.switches;
    }) h
    ∙ ap (λ names. record {
      fresh = names;
      labels = body.labels;
      loops = body.loops;
      switches = body.switches;
    }) (sym h)

pub settles_within : (es : List Event) (x : Jumping) → Settles es x → Within es x
settles_within es x h = record {
  act = λ s f.
      subst (λ body. Does s (after s es) body x) (settled_same x.loops s.body f) (h.act s);
}

-- ---- parts

pub within_none : Within [] still
within_none = record {
  act = λ s f. record { open_then = refl; outer = refl; errors = sym (both_none s.least) };
}

does_both : (s t u : Labelling) (body : OpenBody) (x y : Jumping) → Does s t body x → Does t u t.body y
    → Does s u body (beside x y)
does_both s t u body x y d e = record {
  open_then = e.open_then ∙ d.open_then;
  outer = e.outer ∙ d.outer;
  errors =
      e.errors ∙ ap (λ b. both t.least (found b y)) d.open_then ∙ ap (λ l. both l (found body y)) d.errors
      ∙ both_assoc s.least (found body x) (found body y) ∙ ap (both s.least) (sym (found_beside body x y));
}

pub within_both : (es fs : List Event) (x y : Jumping) → Within es x → Within fs y → Within (es ++ fs) (beside x y)
within_both es fs x y h i = record {
  act = λ s f.
      let d = h.act s f in
      subst (λ u. Does s u s.body (beside x y)) (sym (after_append s es fs))
      (does_both s (after s es) (after (after s es) fs) s.body x y d
      (i.act (after s es) (ap (λ b. b.fresh) d.open_then ∙ f)));
}

-- ---- statements

-- the statement of the fresh labels begins at this place
abbrev begun_at : (at : ℕ) → (body : OpenBody) → Labelling → Labelling
begun_at at body s = record { begun = at; body = body; outer = s.outer; least = s.least }

statement_does : (at : ℕ) (es : List Event) (x : Jumping) → Within es x → x.loops ≡ false → (s : Labelling)
    → Does s (after (begun_at at (settled false s.body) s) es) (settled x.loops s.body) x
statement_does at es x h i s =
    let d = h.act (begun_at at (settled false s.body) s) refl in
    subst (λ b. Does s (after (begun_at at (settled false s.body) s) es) (settled b s.body) x) (sym i)
    (record { open_then = d.open_then; outer = d.outer; errors = d.errors })

pub statement_settles : (at : ℕ) (es : List Event) (x : Jumping) → Within es x → x.loops ≡ false
    → Settles (Placed (tell.Begin kind.Statement) at ∷ es) x
statement_settles at es x h i = record { act = λ s. statement_does at es x h i s }

pub expression_settles : (at : ℕ) (es : List Event) (x : Jumping) → Within es x → x.loops ≡ false
    → Settles (Placed (tell.Begin kind.Expression) at ∷ es) x
expression_settles at es x h i = record { act = λ s. statement_does at es x h i s }

jump_errors : (jump : Jump) (label : Option Text) (at : ℕ) (b : Bool) (known : Least)
    → cond b known (both known (least ((bad_jump jump, at) ∷ [])))
    ≡ both known (both None (both (least (leaving_errors
    (cond b [] (record { jump = jump; label = label; at = at } ∷ [])))) None))
jump_errors jump label at true known = sym (both_none known)
jump_errors jump label at false known = refl

pub jump_settles : (at : ℕ) (jump : Jump) (label : Option Bound)
    → Settles (Placed (tell.Begin kind.Statement) at ∷ told_jump jump label) (one_jump jump label at)
jump_settles at jump None = record {
  act = λ s. record {
    open_then = refl;
    outer = refl;
    errors = jump_errors jump None at (leads jump None (settled false s.body)) s.least;
  };
}
jump_settles at jump (Some label) = record {
  act = λ s. record {
    open_then = refl;
    outer = refl;
    errors = jump_errors jump (Some label.name) at (leads jump (Some label.name) (settled false s.body)) s.least;
  };
}

-- ---- loops and switches

one_less : (n : ℕ) → n + 1 - 1 ≡ n
one_less n = omega arith

abbrev with_loops : OpenBody → ℕ → OpenBody
with_loops body n = record { fresh = body.fresh; labels = body.labels; loops = n; switches = body.switches }

abbrev with_switches : OpenBody → ℕ → OpenBody
with_switches body n = record { fresh = body.fresh; labels = body.labels; loops = body.loops; switches = n }

loop_does : (at : ℕ) (es : List Event) (x : Jumping) → Within es x → (s : Labelling)
    → Does s (happens (after (begun_at at (in_loop (settled true s.body)) s) es) (Plain (tell.End kind.Loop)))
    (settled true s.body) (meant.in_loop x)
loop_does at es x h s =
    let d = h.act (begun_at at (in_loop (settled true s.body)) s) refl in
    record {
      open_then =
          ap (λ body. with_loops body (body.loops - 1)) d.open_then
          ∙ ap (with_loops (settled true s.body)) (one_less s.body.loops);
      outer = d.outer;
      errors = d.errors ∙ ap (both s.least) (found_in_loop (settled true s.body) x);
    }

pub loop_settles : (at : ℕ) (es : List Event) (x : Jumping) → Within es x
    → Settles (Placed (tell.Begin kind.Loop) at ∷ (es ++ Plain (tell.End kind.Loop) ∷ [])) (meant.in_loop x)
loop_settles at es x h = record {
  act = λ s.
      subst (λ t. Does s t (settled true s.body) (meant.in_loop x))
      (sym (after_append (begun_at at (in_loop (settled true s.body)) s) es (Plain (tell.End kind.Loop) ∷ [])))
      (loop_does at es x h s);
}

switch_does : (at : ℕ) (es : List Event) (x y : Jumping) → Within es (beside x y) → x.leaving ≡ [] → (s : Labelling)
    → Does s (happens (after (begun_at at (in_switch (settled false s.body)) s) es) (Plain (tell.End kind.Switch)))
    (settled false s.body) (beside x (meant.in_switch y))
switch_does at es x y h i s =
    let d = h.act (begun_at at (in_switch (settled false s.body)) s) refl in
    record {
      open_then =
          ap (λ body. with_switches body (body.switches - 1)) d.open_then
          ∙ ap (with_switches (settled false s.body)) (one_less s.body.switches);
      outer = d.outer;
      errors = d.errors ∙ ap (both s.least) (found_in_switch (settled false s.body) x y i);
    }

pub switch_settles : (at : ℕ) (es : List Event) (x y : Jumping) → Within es (beside x y) → x.leaving ≡ []
    → Settles (Placed (tell.Begin kind.Switch) at ∷ (es ++ Plain (tell.End kind.Switch) ∷ []))
    (beside x (meant.in_switch y))
switch_settles at es x y h i = record {
  act = λ s.
      subst (λ t. Does s t (settled false s.body) (beside x (meant.in_switch y)))
      (sym (after_append (begun_at at (in_switch (settled false s.body)) s) es (Plain (tell.End kind.Switch) ∷ [])))
      (switch_does at es x y h i s);
}

-- ---- labels

names_settled : (b : Bool) (fresh : List Text) (body : OpenBody)
    → names (labelled b fresh ++ body.labels) ≡ fresh ++ names body.labels
names_settled b [] body = refl
names_settled b (name ∷ fresh) body = ap (λ ns. name ∷ ns) (names_settled b fresh body)

abbrev label_errors : Text → (at : ℕ) → OpenBody → Least
label_errors name at body = least (open_errors body (record { name = name; at = at } ∷ []))

label_least : (at : ℕ) (b : Bool) (known : Least)
    → cond b (both known (Some (early.DuplicateLabel, at))) known
    ≡ both known (least (cond b ((early.DuplicateLabel, at) ∷ []) []))
label_least at true known = refl
label_least at false known = sym (both_none known)

label_found : (name : Text) (at : ℕ) (b : Bool) (s : Labelling)
    → (labels name (begun_at at s.body s)).least ≡ both s.least (label_errors name at (settled b s.body))
label_found name at b s =
    label_least at (is_open name s.body) s.least
    ∙ ap (λ ns. both s.least (least (cond (occurs name ns) ((early.DuplicateLabel, at) ∷ []) [])))
    (sym (names_settled b s.body.fresh s.body))

label_does : (at : ℕ) (name : Text) (es : List Event) (x : Jumping) → Settles es x → (s : Labelling)
    → Does s (happens (after (labels name (begun_at at s.body s)) es) (Plain (tell.End kind.Label)))
    (settled x.loops s.body) (in_label name at x)
label_does at name es x h s =
    let d = h.act (labels name (begun_at at s.body s)) in
    record {
      open_then = ap without_label d.open_then;
      outer = d.outer;
      errors =
          d.errors
          ∙ ap (λ l. both l (found (within name x.loops s.body) x)) (label_found name at x.loops s)
          ∙ both_assoc s.least (label_errors name at (settled x.loops s.body)) (found (within name x.loops s.body) x)
          ∙ ap (both s.least) (found_in_label name at s.body x);
    }

pub label_settles : (at : ℕ) (name : Text) (es : List Event) (x : Jumping) → Settles es x
    → Settles (Placed (tell.Begin kind.Label) at ∷ Texted tell.Label name
    ∷ (es ++ Plain (tell.End kind.Label) ∷ [])) (in_label name at x)
label_settles at name es x h = record {
  act = λ s.
      subst (λ t. Does s t (settled x.loops s.body) (in_label name at x))
      (sym (after_append (labels name (begun_at at s.body s)) es (Plain (tell.End kind.Label) ∷ [])))
      (label_does at name es x h s);
}

-- ---- functions

abbrev with_outer : Labelling → List OpenBody → Labelling
with_outer t outer = closes (record { begun = t.begun; body = t.body; outer = outer; least = t.least })

function_does : (end : ℕ) (es : List Event) (x : Jumping) → Within es x → (s : Labelling)
    → Does s (happens (after (opens s) es) (Placed tell.Close end)) (settled false s.body) (in_whole x)
function_does end es x h s =
    let d = h.act (opens s) refl in
    let t = after (opens s) es in
    record {
      open_then = ap (λ outer. (with_outer t outer).body) d.outer;
      outer = ap (λ outer. (with_outer t outer).outer) d.outer;
      errors =
          ap (λ outer. (with_outer t outer).least) d.outer ∙ d.errors
          ∙ ap (both s.least) (found_whole (settled false s.body) x);
    }

pub function_settles : (at end : ℕ) (node : NodeKind) (kind : FunctionKind) (es : List Event) (x : Jumping)
    → Within es x → Settles (Placed (tell.Open node kind) at ∷ (es ++ Placed tell.Close end ∷ [])) (in_whole x)
function_settles at end node kind es x h = record {
  act = λ s.
      subst (λ t. Does s t (settled false s.body) (in_whole x))
      (sym (after_append (opens s) es (Placed tell.Close end ∷ []))) (function_does end es x h s);
}

-- the script, outside of functions
pub record Whole (es : List Event) (x : Jumping) : Type 0 where
  pub found_there : (s : Labelling) → s.body ≡ nothing_open → (after s es).least ≡ both s.least (least x.errors)

pub within_whole : (es : List Event) (x : Jumping) → Within es x → Whole es (in_whole x)
within_whole es x h = record {
  found_there = λ s e.
      (h.act s (ap (λ b. b.fresh) e)).errors
      ∙ ap (λ b. both s.least (found b x)) e
      ∙ ap (both s.least) (found_whole nothing_open x ∙ both_none (least (in_whole x).errors));
}

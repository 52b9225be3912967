-- Lists of events with the trees that they come from, put together as the events of a tree are.
use Rattle.std.proofs.Common.{◌≡◌, ℕ, Bool, true, ◌&&◌, List, [], ◌∷◌, ◌++◌, map, Option, Some, None, refl, ap}
use Rattle.std.proofs.Common.{sym, ◌∙◌, append_assoc}
use Rattle.hz_tree.specs.declared.operator.DeclarationWord.{DeclarationWord}
use Rattle.hz_tree.specs.declared.operator.DeclarationWord.TheVariants as word
use Rattle.hz_tree.specs.declared.signal.Jump.{Jump}
use Rattle.hz_tree.specs.declared.signal.NodeKind.{NodeKind}
use Rattle.hz_tree.specs.declared.signal.Signal.TheVariants as tell
use Rattle.hz_tree.specs.declared.tree.Bound.{Bound}
use Rattle.hz_tree.specs.grammar.Signals.{Event, Plain, Placed}
use Rattle.hz_tree.specs.trees.Events.{told_all, told_into, told_arguments, told_initial, told_statement, told_scope}
use Rattle.hz_tree.specs.trees.Events.{told_jump, events_of}
use Rattle.hz_tree.specs.errors.Targets.{Errors, joined, inside, Meaning, meaning_of, means, plain, another}
use Rattle.hz_laws.specs.Sorts.{Sort, statement, expression, element, all_fit, fits_of}
use Rattle.hz_laws.proofs.Ranks.{and_left, and_right}
use Rattle.hz_errors.specs.Operands.{Operands, noting, begins, closing, pushed, popped, happens, after}
use Rattle.hz_errors.proofs.OperandSteps.{after_append, Frame, closed, framed, Over, over_none, over_both, over_join}
use Rattle.hz_errors.proofs.OperandSteps.{over_last, over_before}
use Rattle.hz_errors.proofs.DirectiveSteps.{Directs, over_directs}
use Rattle.hz_errors.proofs.OperandSorts.{Acts, IsSort, Proved, trees, events_in, meanings_in, FindsAlone, FindsPart}
use Rattle.hz_errors.proofs.OperandSorts.{over_all, over_into, over_arguments, expression_part, element_part}

-- events that find the errors of these trees alone, where they fit
pub record Piece (frame : Frame) : Type 0 where
  pub needs : Bool
  pub events : List Event
  pub meanings : List Meaning
  pub over : needs ≡ true → Over frame events (inside meanings)

pub inside_append : (ms ns : List Meaning) → inside (ms ++ ns) ≡ joined (inside ms) (inside ns)
inside_append [] ns = refl
inside_append (m ∷ ms) ns =
    ap (joined m.errors) (inside_append ms ns)
    ∙ ap (λ e. record { early = e; profile = m.errors.profile ++ ((inside ms).profile ++ (inside ns).profile) })
    (sym (append_assoc m.errors.early (inside ms).early (inside ns).early))
    ∙ ap (λ p. record { early = (m.errors.early ++ (inside ms).early) ++ (inside ns).early; profile = p })
    (sym (append_assoc m.errors.profile (inside ms).profile (inside ns).profile))

module _ (frame : Frame) where
  abbrev pub nothing : Piece frame
  nothing = record { needs = true; events = []; meanings = []; over = λ h. over_none frame }

  abbrev pub one : (wanted : Sort) → FindsAlone frame wanted → Proved → Piece frame
  one wanted finds e = record {
    needs = fits_of e.0 wanted;
    events = events_of e.0;
    meanings = meaning_of e.0 ∷ [];
    over = λ h. over_last frame (events_of e.0) (meaning_of e.0).errors (finds e h);
  }

  abbrev pub all_of : (wanted : Sort) → FindsAlone frame wanted → List Proved → Piece frame
  all_of wanted finds es = record {
    needs = all_fit wanted (map fits_of (trees es));
    events = told_all (events_in es);
    meanings = meanings_in es;
    over = over_all frame wanted finds es;
  }

  abbrev pub all_into : (wanted : Sort) → FindsPart wanted → List Proved → Piece frame
  all_into wanted finds es = record {
    needs = all_fit wanted (map fits_of (trees es));
    events = told_into (events_in es);
    meanings = meanings_in es;
    over = over_into frame wanted finds es;
  }

  abbrev pub all_arguments : List Proved → Piece frame
  all_arguments es = record {
    needs = all_fit element (map fits_of (trees es));
    events = told_arguments (events_in es);
    meanings = meanings_in es;
    over = over_arguments frame element element_part es;
  }

  abbrev pub both : Piece frame → Piece frame → Piece frame
  both p q = record {
    needs = p.needs && q.needs;
    events = p.events ++ q.events;
    meanings = p.meanings ++ q.meanings;
    over = λ h s.
        over_both frame p.events q.events (inside p.meanings) (inside q.meanings)
        (p.over (and_left p.needs q.needs h))
        (q.over (and_right p.needs q.needs h)) s
        ∙ ap (λ e. noting e (framed frame s)) (sym (inside_append p.meanings q.meanings));
  }

  abbrev pub join : Proved → Piece frame → Piece frame
  join e q = record {
    needs = fits_of e.0 expression && q.needs;
    events = events_of e.0 ++ Plain tell.Join ∷ q.events;
    meanings = meaning_of e.0 ∷ q.meanings;
    over = λ h.
        over_join frame (events_of e.0) q.events (meaning_of e.0).errors (inside q.meanings)
        (expression_part e (and_left (fits_of e.0 expression) q.needs h))
        (q.over (and_right (fits_of e.0 expression) q.needs h));
  }

  abbrev pub join_last : (wanted : Sort) → FindsPart wanted → Proved → Piece frame
  join_last wanted finds e = record {
    needs = fits_of e.0 wanted;
    events = events_of e.0 ++ Plain tell.Join ∷ [];
    meanings = meaning_of e.0 ∷ [];
    over = λ h.
        over_join frame (events_of e.0) [] (meaning_of e.0).errors (inside []) (finds e h) (over_none frame);
  }

  -- with an event that is not heard
  abbrev pub behind : (e : Event) → ((s : Operands) → happens s e ≡ s) → Piece frame → Piece frame
  behind e unheard p = record {
    needs = p.needs;
    events = e ∷ p.events;
    meanings = p.meanings;
    over = λ h s. ap (λ t. after t p.events) (unheard (framed frame s)) ∙ p.over h s;
  }

  abbrev pub before : Piece frame → (e : Event) → ((s : Operands) → happens s e ≡ s) → Piece frame
  before p e unheard = record {
    needs = p.needs;
    events = p.events ++ e ∷ [];
    meanings = p.meanings;
    over = λ h. over_before frame p.events e (inside p.meanings) unheard (p.over h);
  }

  pub scope_over : (end : Option ℕ) (p : Piece frame) → p.needs ≡ true
      → Over frame (told_scope end p.events) (inside p.meanings)
  scope_over None p h = p.over h
  scope_over (Some end) p h =
      over_before frame p.events (Placed tell.EndScope end) (inside p.meanings) (λ s. refl) (p.over h)

  abbrev pub scope : (end : Option ℕ) → Piece frame → Piece frame
  scope end p = record {
    needs = p.needs;
    events = told_scope end p.events;
    meanings = p.meanings;
    over = scope_over end p;
  }

  pub jump_over : (jump : Jump) (label : Option Bound) → Over frame (told_jump jump label) (inside [])
  jump_over jump None = over_none frame
  jump_over jump (Some label) = over_none frame

  abbrev pub jumps : Jump → Option Bound → Piece frame
  jumps jump label =
      record { needs = true; events = told_jump jump label; meanings = []; over = λ h. jump_over jump label }

  pub initial_over : (word : DeclarationWord) (es : List Proved) → all_fit expression (map fits_of (trees es)) ≡ true
      → Over frame (told_initial word (events_in es)) (inside (meanings_in es))
  initial_over word.Const [] h = over_none frame
  initial_over word.Const (e ∷ es) h = over_into frame expression expression_part (e ∷ es) h
  initial_over word.Let es h = over_into frame expression expression_part es h
  initial_over word.Var es h = over_into frame expression expression_part es h

  abbrev pub initial : DeclarationWord → List Proved → Piece frame
  initial word es = record {
    needs = all_fit expression (map fits_of (trees es));
    events = told_initial word (events_in es);
    meanings = meanings_in es;
    over = initial_over word es;
  }

-- ---- statements

pub node_directs : (kind : NodeKind) (at : ℕ) (within : List Event) (a : Errors)
    → ((s : Operands) → begins kind s ≡ closing s)
    → Over closed within a
    → Directs (told_statement kind at within) None a
node_directs kind at within a closes h s =
    ap (λ t. after (pushed (plain at another) t) (within ++ Plain (tell.End kind) ∷ [])) (closes s)
    ∙ after_append (closing (pushed (plain at another) s)) within (Plain (tell.End kind) ∷ [])
    ∙ ap popped (h (pushed (plain at another) s))

-- a statement in another
abbrev pub within : (kind : NodeKind) → (at : ℕ) → ((s : Operands) → begins kind s ≡ closing s) → Piece closed
    → Piece closed
within kind at closes p = record {
  needs = p.needs;
  events = told_statement kind at p.events;
  meanings = p.meanings;
  over = λ h.
      over_directs (told_statement kind at p.events) None (inside p.meanings)
      (node_directs kind at p.events (inside p.meanings) closes (p.over h));
}

-- ---- trees

pub record Whole (sort : Sort) : Type 0 where
  pub needs : Bool
  pub events : List Event
  pub meaning : Meaning
  pub acts : needs ≡ true → Acts sort events meaning

abbrev pub node : (kind : NodeKind) → (at : ℕ) → ((s : Operands) → begins kind s ≡ closing s) → Piece closed
    → Whole statement
node kind at closes p = record {
  needs = p.needs;
  events = told_statement kind at p.events;
  meaning = means (plain at another) (inside p.meanings);
  acts = λ h. node_directs kind at p.events (inside p.meanings) closes (p.over h);
}

module _ (sort : Sort) (test : Sort → Bool) (is : IsSort test sort) where
  pub stands : (wanted : Sort) (w : Whole sort) → (test wanted && w.needs) ≡ true → Acts wanted w.events w.meaning
  stands wanted w h =
      is wanted w.events w.meaning (and_left (test wanted) w.needs h) (w.acts (and_right (test wanted) w.needs h))

  pub stands_alone : (wanted : Sort) (w : Whole sort) → w.needs ≡ true → test wanted ≡ true
      → Acts wanted w.events w.meaning
  stands_alone wanted w i h = is wanted w.events w.meaning h (w.acts i)

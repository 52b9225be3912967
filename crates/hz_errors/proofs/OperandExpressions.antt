-- What the events of expressions and of their parts do to the state of operands.
use Rattle.std.proofs.Common.{◌≡◌, ℕ, Bool, true, false, ◌&&◌, List, [], ◌∷◌, ◌++◌, map}
use Rattle.std.proofs.Common.{refl, ap, sym, ◌∙◌, append_assoc}
use Rattle.hz_tree.specs.declared.operator.UnaryOperator.{UnaryOperator}
use Rattle.hz_tree.specs.declared.signal.NodeKind.TheVariants as kind
use Rattle.hz_tree.specs.declared.signal.NodeShape.TheVariants as shape
use Rattle.hz_tree.specs.declared.signal.Signal.TheVariants as tell
use Rattle.hz_tree.specs.grammar.Signals.{Event, Plain, Placed}
use Rattle.hz_tree.specs.trees.Events.{told_all, told_operand, told_literal, told_joined, one_more, events_of}
use Rattle.hz_tree.specs.errors.Targets.{Operand, Errors, no_errors, joined, inside, Meaning, meaning_of, means}
use Rattle.hz_tree.specs.errors.Targets.{plain, another, a_pattern, target_errors, unary_errors, tailed_operand}
use Rattle.hz_laws.specs.Sorts.{expression, tail, all_fit}
use Rattle.hz_laws.specs.Sorts.{fits_of}
use Rattle.hz_laws.proofs.Ranks.{and_left, and_right}
use Rattle.hz_errors.specs.Operands.{Operands, noting, pushed, changed, as_node, after}
use Rattle.hz_errors.proofs.OperandSteps.{after_append, noting_none, noting_twice, any, over_none, Part, Pushes}
use Rattle.hz_errors.proofs.OperandSteps.{Ends, Resets, ends_none, resets_over, ends_reset, ends_join}
use Rattle.hz_errors.proofs.OperandSteps.{resets_both, operator_pushes, resets_tail}
use Rattle.hz_errors.proofs.OperandSorts.{Proved, trees, events_in, meanings_in}
use Rattle.hz_errors.proofs.OperandSorts.{expression_part}
use Rattle.hz_errors.proofs.OperandPieces.{Piece, Whole, inside_append}

-- ---- the end of a node

pub record Ending : Type 0 where
  pub needs : Bool
  pub events : List Event
  pub meanings : List Meaning
  pub ends : needs ≡ true → Ends events (inside meanings)

abbrev pub end_now : Ending
end_now = record { needs = true; events = one_more; meanings = []; ends = λ h. ends_none }

abbrev pub end_join : Proved → Ending → Ending
end_join e q = record {
  needs = fits_of e.0 expression && q.needs;
  events = events_of e.0 ++ Plain tell.Join ∷ q.events;
  meanings = meaning_of e.0 ∷ q.meanings;
  ends = λ h.
      ends_join (events_of e.0) q.events (meaning_of e.0).errors (inside q.meanings)
      (expression_part e (and_left (fits_of e.0 expression) q.needs h))
      (q.ends (and_right (fits_of e.0 expression) q.needs h));
}

abbrev pub end_joined : Proved → Ending
end_joined e = record {
  needs = fits_of e.0 expression;
  events = told_joined (events_of e.0);
  meanings = meaning_of e.0 ∷ [];
  ends = λ h.
      ends_join (events_of e.0) one_more (meaning_of e.0).errors no_errors (expression_part e h) ends_none;
}

abbrev pub end_piece : Piece any → Ending
end_piece p = record {
  needs = p.needs;
  events = p.events ++ one_more;
  meanings = p.meanings;
  ends = λ h. ends_reset p.events (inside p.meanings) (resets_over p.events (inside p.meanings) (p.over h));
}

-- ---- calls and members on the node in hand

tail_resets : (e : Proved) → fits_of e.0 tail ≡ true → Resets (events_of e.0) (meaning_of e.0).errors
tail_resets e h = resets_tail (events_of e.0) (meaning_of e.0).tail (meaning_of e.0).errors (e.1 tail h)

tails_reset : (es : List Proved) → all_fit tail (map fits_of (trees es)) ≡ true
    → Resets (told_all (events_in es)) (inside (meanings_in es))
tails_reset [] h = resets_over [] no_errors (over_none any)
tails_reset (e ∷ more) h =
    resets_both (events_of e.0) (told_all (events_in more)) (meaning_of e.0).errors (inside (meanings_in more))
    (tail_resets e (and_left (fits_of e.0 tail) (all_fit tail (map fits_of (trees more))) h))
    (tails_reset more (and_right (fits_of e.0 tail) (all_fit tail (map fits_of (trees more))) h))

pub joined_resets : (es rest : List Event) (a b : Errors) → Part es a → Resets rest b
    → Resets (es ++ Plain tell.Join ∷ rest) (joined a b)
joined_resets es rest a b h i s =
    ap (changed (as_node shape.Other)) (after_append s es (Plain tell.Join ∷ rest))
    ∙ ap (λ t. changed (as_node shape.Other) (after t rest)) (h s)
    ∙ i (noting a s)
    ∙ noting_twice a b (changed (as_node shape.Other) s)

module _ (callee : Proved) (members arguments : List Proved) where
  abbrev tails_fit : Bool
  tails_fit = all_fit tail (map fits_of (trees members)) && all_fit tail (map fits_of (trees arguments))

  pub tails_new : tails_fit ≡ true
      → Resets (told_all (events_in members) ++ told_all (events_in arguments))
      (inside (meanings_in members ++ meanings_in arguments))
  tails_new h s =
      resets_both (told_all (events_in members)) (told_all (events_in arguments)) (inside (meanings_in members))
      (inside (meanings_in arguments))
      (tails_reset members
      (and_left (all_fit tail (map fits_of (trees members))) (all_fit tail (map fits_of (trees arguments))) h))
      (tails_reset arguments
      (and_right (all_fit tail (map fits_of (trees members))) (all_fit tail (map fits_of (trees arguments))) h)) s
      ∙ ap (λ e. noting e (changed (as_node shape.Other) s))
      (sym (inside_append (meanings_in members) (meanings_in arguments)))

  abbrev pub end_new : Ending
  end_new = record {
    needs = fits_of callee.0 expression && tails_fit;
    events =
        (events_of callee.0
        ++ Plain tell.Join ∷ (told_all (events_in members) ++ told_all (events_in arguments))) ++ one_more;
    meanings = meaning_of callee.0 ∷ (meanings_in members ++ meanings_in arguments);
    ends = λ h.
        ends_reset
        (events_of callee.0 ++ Plain tell.Join ∷ (told_all (events_in members) ++ told_all (events_in arguments)))
        (joined (meaning_of callee.0).errors (inside (meanings_in members ++ meanings_in arguments)))
        (joined_resets (events_of callee.0) (told_all (events_in members) ++ told_all (events_in arguments))
        (meaning_of callee.0).errors (inside (meanings_in members ++ meanings_in arguments))
        (expression_part callee (and_left (fits_of callee.0 expression) tails_fit h))
        (tails_new (and_right (fits_of callee.0 expression) tails_fit h)));
  }

-- ---- expressions

abbrev pub leaf : (es : List Event) (operand : Operand) (a : Errors) → Pushes es operand a → Whole expression
leaf es operand a h = record {
  needs = true;
  events = es;
  meaning = means operand a;
  acts = λ i. record { pushes = h; undirected = refl };
}

abbrev pub operand_node : ℕ → Ending → Whole expression
operand_node at e = record {
  needs = e.needs;
  events = Placed (tell.Begin kind.Operand) at ∷ e.events;
  meaning = means (plain at another) (inside e.meanings);
  acts = λ h. record { pushes = λ s. e.ends h (pushed (plain at another) s); undirected = refl };
}

abbrev pub literal_node : ℕ → Piece any → Whole expression
literal_node at p = record {
  needs = p.needs;
  events = told_literal at p.events;
  meaning = means (plain at a_pattern) (inside p.meanings);
  acts = λ h. record {
    pushes = λ s.
        after_append (pushed (plain at another) s) p.events (Plain (tell.Node shape.Pattern) ∷ [])
        ∙ ap (changed (as_node shape.Pattern)) (p.over h (pushed (plain at another) s));
    undirected = refl;
  };
}

abbrev pub operator_node : Proved → Ending → Whole expression
operator_node left e = record {
  needs = fits_of left.0 expression && e.needs;
  events = events_of left.0 ++ e.events;
  meaning =
      means (plain (meaning_of left.0).operand.at another) (joined (meaning_of left.0).errors (inside e.meanings));
  acts = λ h. record {
    pushes =
        operator_pushes (events_of left.0) e.events (meaning_of left.0).operand (meaning_of left.0).errors
        (inside e.meanings) (left.1 expression (and_left (fits_of left.0 expression) e.needs h)).pushes
        (e.ends (and_right (fits_of left.0 expression) e.needs h));
    undirected = refl;
  };
}

-- a target with an ending behind it
pub target_ends : (pattern : Bool) (es rest : List Event) (operand : Operand) (a b : Errors) → Pushes es operand a
    → Ends rest b
    → Pushes (es ++ Plain (tell.Target pattern) ∷ rest) (plain operand.at another)
    (joined a (joined (target_errors pattern operand) b))
target_ends pattern es rest operand a b h i s =
    let found : Errors = target_errors pattern operand in
    let made : Operands = pushed (plain operand.at another) s in
    after_append s es (Plain (tell.Target pattern) ∷ rest)
    ∙ ap (λ t. after t (Plain (tell.Target pattern) ∷ rest)) (h s)
    ∙ i (noting found (noting a (pushed operand s)))
    ∙ noting_twice found b (noting a made)
    ∙ noting_twice a (joined found b) made

abbrev pub assign_node : (pattern : Bool) → Proved → Proved → Whole expression
assign_node pattern target value =
    let x : Meaning = meaning_of target.0 in
    record {
      needs = fits_of target.0 expression && fits_of value.0 expression;
      events = events_of target.0 ++ Plain (tell.Target pattern) ∷ told_joined (events_of value.0);
      meaning =
          means (plain x.operand.at another)
          (joined x.errors (joined (target_errors pattern x.operand) (meaning_of value.0).errors));
      acts = λ h. record {
        pushes = λ s.
            target_ends pattern (events_of target.0) (told_joined (events_of value.0)) x.operand x.errors
            (meaning_of value.0).errors
            (target.1 expression (and_left (fits_of target.0 expression) (fits_of value.0 expression) h)).pushes
            (λ t.
            after_append t (events_of value.0) (Plain tell.Join ∷ one_more)
            ∙ ap (changed (as_node shape.Other))
            (expression_part value (and_right (fits_of target.0 expression) (fits_of value.0 expression) h) t)) s;
        undirected = refl;
      };
    }

abbrev pub postfix_node : Proved → Whole expression
postfix_node operand =
    let x : Meaning = meaning_of operand.0 in
    record {
      needs = fits_of operand.0 expression;
      events = events_of operand.0 ++ Plain (tell.Target false) ∷ one_more;
      meaning = means (plain x.operand.at another) (joined x.errors (target_errors false x.operand));
      acts = λ h. record {
        pushes = λ s.
            after_append s (events_of operand.0) (Plain (tell.Target false) ∷ one_more)
            ∙ ap (λ t. after t (Plain (tell.Target false) ∷ one_more)) ((operand.1 expression h).pushes s)
            ∙ noting_twice x.errors (target_errors false x.operand) (pushed (plain x.operand.at another) s);
        undirected = refl;
      };
    }

abbrev pub unary_node : (at : ℕ) → UnaryOperator → Proved → Whole expression
unary_node at operator operand =
    let x : Meaning = meaning_of operand.0 in
    let behind : List Event = Plain (tell.Unary operator) ∷ Plain tell.Join ∷ [] in
    record {
      needs = fits_of operand.0 expression;
      events = told_operand at (events_of operand.0 ++ behind);
      meaning = means (plain at another) (joined x.errors (unary_errors at operator x.operand));
      acts = λ h. record {
        pushes = λ s.
            ap (after (pushed (plain at another) s)) (append_assoc (events_of operand.0) behind one_more)
            ∙ after_append (pushed (plain at another) s) (events_of operand.0) (behind ++ one_more)
            ∙ ap (λ t. after t (behind ++ one_more))
            ((operand.1 expression h).pushes (pushed (plain at another) s))
            ∙ noting_twice x.errors (unary_errors at operator x.operand) (pushed (plain at another) s);
        undirected = refl;
      };
    }

abbrev pub parentheses_node : (at : ℕ) → Proved → Whole expression
parentheses_node at value =
    let x : Meaning = meaning_of value.0 in
    record {
      needs = fits_of value.0 expression;
      events = Placed (tell.Begin kind.Operand) at ∷ (events_of value.0 ++ Plain tell.Parentheses ∷ []);
      meaning = means (record { at = at; shape = x.operand.shape; parenthesised = true }) x.errors;
      acts = λ h. record {
        pushes = λ s.
            after_append (pushed (plain at another) s) (events_of value.0) (Plain tell.Parentheses ∷ [])
            ∙ ap (λ t. after t (Plain tell.Parentheses ∷ []))
            ((value.1 expression h).pushes (pushed (plain at another) s));
        undirected = refl;
      };
    }

-- ---- members and calls

abbrev behind_same : List Proved → List Event
behind_same tails = told_all (events_in tails) ++ Plain (tell.Node shape.Same) ∷ []

pub tails_push : (tails : List Proved) → all_fit tail (map fits_of (trees tails)) ≡ true
    → (operand : Operand) (s : Operands)
    → after (pushed operand s) (behind_same tails)
    ≡ noting (inside (meanings_in tails)) (pushed (tailed_operand operand (map (λ m. m.tail) (meanings_in tails))) s)
tails_push [] h operand s = sym (noting_none (pushed operand s))
tails_push (e ∷ more) h operand s =
    let x : Meaning = meaning_of e.0 in
    let next : Operand = tailed_operand operand (x.tail ∷ []) in
    ap (after (pushed operand s))
    (append_assoc (events_of e.0) (told_all (events_in more)) (Plain (tell.Node shape.Same) ∷ []))
    ∙ after_append (pushed operand s) (events_of e.0) (behind_same more)
    ∙ ap (λ t. after t (behind_same more))
    (e.1 tail (and_left (fits_of e.0 tail) (all_fit tail (map fits_of (trees more))) h) (pushed operand s))
    ∙ tails_push more (and_right (fits_of e.0 tail) (all_fit tail (map fits_of (trees more))) h) next
    (noting x.errors s)
    ∙ noting_twice x.errors (inside (meanings_in more))
    (pushed (tailed_operand next (map (λ m. m.tail) (meanings_in more))) s)

abbrev pub left_node : Proved → List Proved → Whole expression
left_node head tails =
    let x : Meaning = meaning_of head.0 in
    let fit : Bool = all_fit tail (map fits_of (trees tails)) in
    let full : Operand = tailed_operand x.operand (map (λ m. m.tail) (meanings_in tails)) in
    record {
      needs = fits_of head.0 expression && fit;
      events = events_of head.0 ++ behind_same tails;
      meaning = means full (joined x.errors (inside (meanings_in tails)));
      acts = λ h. record {
        pushes = λ s.
            after_append s (events_of head.0) (behind_same tails)
            ∙ ap (λ t. after t (behind_same tails))
            ((head.1 expression (and_left (fits_of head.0 expression) fit h)).pushes s)
            ∙ tails_push tails (and_right (fits_of head.0 expression) fit h) x.operand (noting x.errors s)
            ∙ noting_twice x.errors (inside (meanings_in tails)) (pushed full s);
        undirected = refl;
      };
    }

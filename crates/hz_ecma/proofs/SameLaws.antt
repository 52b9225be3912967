-- What holds of doing the same: a step of either side may be taken away, and fewer acts may be asked for.
use Rattle.std.proofs.Common.{◌≡◌, arith, ap, ◌∙◌, ℕ, zero, suc, List}
use Rattle.hz_value.specs.world.World.{World}
use Rattle.hz_value.specs.system.Acts.{Act, Print, Turn}
use Rattle.hz_value.specs.system.Acts.{Next, Goes, go_on, run, Reaches}
use Rattle.hz_value.specs.system.System.{Meaning}
use Rattle.hz_ecma.specs.evaluator.Activations.{Activation}
use Rattle.hz_ecma.specs.evaluator.Steps.{tree_step}
use Rattle.hz_ecma.specs.agreement.Layouts.{Layout}
use Rattle.hz_ecma.specs.agreement.Agreement.{Matching, IsLarger}
use Rattle.hz_ecma.specs.agreement.Replies.{Later, IsQuiet}
use Rattle.hz_ecma.specs.agreement.Same.{Relation, Behind, Same, Simulates}

-- ---- what stays

pub later_trans : (w w1 w2 : World) → Later w w1 → Later w1 w2 → Later w w2
later_trans w w1 w2 h k = record {
  texts = λ n lt. k.texts n (omega (arith, lt, h.text_count)) ∙ h.texts n lt;
  text_count = omega (arith, h.text_count, k.text_count);
  symbols = omega (arith, h.symbols, k.symbols);
  objects = omega (arith, h.objects, k.objects);
  arrays = λ o lt is. k.arrays o (omega (arith, lt, h.objects)) (h.arrays o lt is);
  record_count = omega (arith, h.record_count, k.record_count);
  scopes = λ r lt. k.scopes r (omega (arith, lt, h.record_count)) ∙ h.scopes r lt;
  names = λ r name lt. k.names r name (omega (arith, lt, h.record_count)) ∙ h.names r name lt;
  environment_count = omega (arith, h.environment_count, k.environment_count);
  parents = λ e lt. k.parents e (omega (arith, lt, h.environment_count)) ∙ h.parents e lt;
  slots = λ e i lt. k.slots e i (omega (arith, lt, h.environment_count)) ∙ h.slots e i lt;
}

pub quiet_trans : (layout : Layout) (own own1 own2 : List ℕ) (w w1 w2 : World) → Later w w1
    → IsQuiet layout own w own1 w1 → IsQuiet layout own1 w1 own2 w2 → IsQuiet layout own w own2 w2
quiet_trans layout own own1 own2 w w1 w2 later h k = record {
  keeps = λ r lt out name slot.
      k.keeps r (omega (arith, lt, later.record_count)) (λ c. out (h.new r lt c)) name
      (ap (λ s. layout.slot s name) (later.scopes r lt) ∙ slot) ∙ h.keeps r lt out name slot;
  new = λ r lt c. h.new r lt (k.new r (omega (arith, lt, later.record_count)) c);
  live = λ are. k.live (h.live are);
}

larger_trans : (m m1 m2 : Matching) → IsLarger m m1 → IsLarger m1 m2 → IsLarger m m2
larger_trans m m1 m2 h k = record { has = λ r e is. k.has r e (h.has r e is) }

reaches_later : (A : Type 0) (step : A → World → Next A) (a a1 a2 : A) (w w1 w2 : World) (act : Act)
    → step a w ≡ Goes a1 w1 → Reaches A step a1 w1 act a2 w2 → Reaches A step a w act a2 w2
reaches_later A step a a1 a2 w w1 w2 act e h = record {
  steps = suc h.steps;
  by = ap (λ next. go_on (run step h.steps) next) e ∙ h.by;
}

module _ (T : Type 0) (other : Meaning T) (layout : Layout) where
  -- a step of the tree's side
  pub tree_goes : (n : ℕ) (m : Matching) (a a1 : Activation) (w w1 : World) (t : T) (v : World)
      → tree_step a w ≡ Goes a1 w1 → Later w w1 → IsQuiet layout a.own w a1.own w1
      → Simulates T other layout n m a1 w1 t v → Simulates T other layout n m a w t v
  tree_goes zero m a a1 w w1 t v e later quiet h = record { is = tt }
  tree_goes (suc n) m a a1 w w1 t v e later quiet h = record {
    is = record {
      act = h.is.act;
      other_act = h.is.other_act;
      matching = h.is.matching;
      tree_then = h.is.tree_then;
      tree_world = h.is.tree_world;
      other_then = h.is.other_then;
      other_world = h.is.other_world;
      tree = reaches_later Activation tree_step a a1 h.is.tree_then w w1 h.is.tree_world h.is.act e h.is.tree;
      code = h.is.code;
      same = h.is.same;
      larger = h.is.larger;
      agree = h.is.agree;
      later = later_trans w w1 h.is.tree_world later h.is.later;
      later_other = h.is.later_other;
      quiet = quiet_trans layout a.own a1.own h.is.tree_then.own w w1 h.is.tree_world later quiet h.is.quiet;
      behind = h.is.behind;
    };
  }

  -- a step of the other side
  pub other_goes : (n : ℕ) (m : Matching) (a : Activation) (w : World) (t t1 : T) (v v1 : World)
      → other.step t v ≡ Goes t1 v1 → Later v v1
      → Simulates T other layout n m a w t1 v1 → Simulates T other layout n m a w t v
  other_goes zero m a w t t1 v v1 e later h = record { is = tt }
  other_goes (suc n) m a w t t1 v v1 e later h = record {
    is = record {
      act = h.is.act;
      other_act = h.is.other_act;
      matching = h.is.matching;
      tree_then = h.is.tree_then;
      tree_world = h.is.tree_world;
      other_then = h.is.other_then;
      other_world = h.is.other_world;
      tree = h.is.tree;
      code = reaches_later T other.step t t1 h.is.other_then v v1 h.is.other_world h.is.other_act e h.is.code;
      same = h.is.same;
      larger = h.is.larger;
      agree = h.is.agree;
      later = h.is.later;
      later_other = later_trans v v1 h.is.other_world later h.is.later_other;
      quiet = h.is.quiet;
      behind = h.is.behind;
    };
  }

  -- from a matching that is larger
  pub matched_more : (n : ℕ) (m m1 : Matching) (a : Activation) (w : World) (t : T) (v : World) → IsLarger m m1
      → Simulates T other layout n m1 a w t v → Simulates T other layout n m a w t v
  matched_more zero m m1 a w t v larger h = record { is = tt }
  matched_more (suc n) m m1 a w t v larger h = record {
    is = record {
      act = h.is.act;
      other_act = h.is.other_act;
      matching = h.is.matching;
      tree_then = h.is.tree_then;
      tree_world = h.is.tree_world;
      other_then = h.is.other_then;
      other_world = h.is.other_world;
      tree = h.is.tree;
      code = h.is.code;
      same = h.is.same;
      larger = larger_trans m m1 h.is.matching larger h.is.larger;
      agree = h.is.agree;
      later = h.is.later;
      later_other = h.is.later_other;
      quiet = h.is.quiet;
      behind = h.is.behind;
    };
  }

  behind_fewer : (next next1 : Relation T) (act : Act) (m : Matching) (a : Activation) (w : World) (t : T) (v : World)
      → ((m1 : Matching) (a1 : Activation) (w1 : World) (t1 : T) (v1 : World) → next m1 a1 w1 t1 v1
      → next1 m1 a1 w1 t1 v1)
      → Behind T other layout next act m a w t v → Behind T other layout next1 act m a w t v
  behind_fewer next next1 (Print line) m a w t v go h = go m a w t v h
  behind_fewer next next1 Turn m a w t v go h = go m a w t v h
  behind_fewer next next1 act m a w t v go h =
      λ c c1 m2 w2 w3 may same allowed. go _ _ _ _ _ (h c c1 m2 w2 w3 may same allowed)

  fewer_is : (n : ℕ) (m : Matching) (a : Activation) (w : World) (t : T) (v : World)
      → Same T other layout (suc n) m a w t v → Same T other layout n m a w t v
  fewer_is zero m a w t v h = tt
  fewer_is (suc n) m a w t v h = record {
    act = h.act;
    other_act = h.other_act;
    matching = h.matching;
    tree_then = h.tree_then;
    tree_world = h.tree_world;
    other_then = h.other_then;
    other_world = h.other_world;
    tree = h.tree;
    code = h.code;
    same = h.same;
    larger = h.larger;
    agree = h.agree;
    later = h.later;
    later_other = h.later_other;
    quiet = h.quiet;
    behind = behind_fewer (Same T other layout (suc n)) (Same T other layout n) h.act h.matching h.tree_then
        h.tree_world h.other_then h.other_world (λ m1 a1 w1 t1 v1 k. fewer_is n m1 a1 w1 t1 v1 k) h.behind;
  }

  -- for one act fewer
  pub fewer : (n : ℕ) (m : Matching) (a : Activation) (w : World) (t : T) (v : World)
      → Simulates T other layout (suc n) m a w t v → Simulates T other layout n m a w t v
  fewer n m a w t v h = record { is = fewer_is n m a w t v h.is }

-- What the system does to two worlds that agree between an act and its reply.
use Rattle.std.proofs.Common.{◌≡◌, ◌≤◌, ◌<◌, arith, refl, ap, ◌∙◌, ℕ, nat_lt, Bool, true, false, List, []}
use Rattle.std.proofs.lemmas.Bool.{ltb-true, ltb-false}
use Rattle.std.specs.Prelude.{Contains}
use Rattle.hz_value.specs.operators.Messages.{Message}
use Rattle.hz_value.specs.world.Records.{Record}
use Rattle.hz_value.specs.world.World.{World, raised}
use Rattle.hz_ecma.specs.agreement.Agreement.{Matching, IsLarger, Agree}
use Rattle.hz_ecma.specs.agreement.Layouts.{Layout}
use Rattle.hz_ecma.specs.agreement.Replies.{Later, Keeps, IsQuiet}
use Rattle.hz_ecma.proofs.AgreeLaws.{counting, agree_counts}
use Rattle.hz_ecma.proofs.ErrorLaws.{agree_raised, later_raised}
use Rattle.hz_ecma.proofs.SameLaws.{later_trans}

-- from the worlds w and w1 to the worlds w2 and w3
pub record Onward (layout : Layout) (m : Matching) (w w1 w2 w3 : World) : Type 0 where
  pub agree : Agree layout m w2 w3
  pub later : Later w w2
  pub later_other : Later w1 w3
  pub turns : w2.turns ≤ w.turns
  pub records : w2.records ≡ w.records

later_counting : (w : World) (turns calls mark : ℕ) → Later w (counting w turns calls mark)
later_counting w turns calls mark = record {
  texts = λ n lt. refl;
  text_count = omega arith;
  symbols = omega arith;
  objects = omega arith;
  arrays = λ o lt is. is;
  record_count = omega arith;
  scopes = λ r lt. refl;
  names = λ r name lt. refl;
  environment_count = omega arith;
  parents = λ e lt. refl;
  slots = λ e i lt. refl;
}

pub later_same : (w : World) → Later w w
later_same w = later_counting w w.turns w.calls w.mark

pub quiet_same : (layout : Layout) (own : List ℕ) (w : World) → IsQuiet layout own w own w
quiet_same layout own w =
    record { keeps = λ r lt out name slot. refl; new = λ r lt is. is; live = λ are. are }

module _ (layout : Layout) (m : Matching) (w w1 : World) where
  pub onward_counts : (turns turns1 calls calls1 mark mark1 : ℕ) → Agree layout m w w1 → turns ≡ turns1
      → calls ≡ calls1 → turns ≤ w.turns
      → Onward layout m w w1 (counting w turns calls mark) (counting w1 turns1 calls1 mark1)
  onward_counts turns turns1 calls calls1 mark mark1 h same_turns same_calls le = record {
    agree = agree_counts layout m w w1 turns turns1 calls calls1 mark mark1 same_turns same_calls h;
    later = later_counting w turns calls mark;
    later_other = later_counting w1 turns1 calls1 mark1;
    turns = le;
    records = refl;
  }

  pub onward_raised : (message : Message) (place place1 : ℕ) → Agree layout m w w1
      → Onward layout m w w1 (raised place message w) (raised place1 message w1)
  onward_raised message place place1 h = record {
    agree = agree_raised layout m w w1 message place place1 h;
    later = later_raised w message place;
    later_other = later_raised w1 message place1;
    turns = omega arith;
    records = refl;
  }

  -- it stays
  pub onward_same : Agree layout m w w1 → Onward layout m w w1 w w1
  onward_same h =
      onward_counts w.turns w1.turns w.calls w1.calls w.mark w1.mark h h.turns h.calls (omega arith)

  pub onward_trans : (w2 w3 w4 w5 : World) → Onward layout m w w1 w2 w3 → Onward layout m w2 w3 w4 w5
      → Onward layout m w w1 w4 w5
  onward_trans w2 w3 w4 w5 h k = record {
    agree = k.agree;
    later = later_trans w w2 w4 h.later k.later;
    later_other = later_trans w1 w3 w5 h.later_other k.later_other;
    turns = omega (arith, h.turns, k.turns);
    records = k.records ∙ h.records;
  }

-- ---- what waits

-- the same from one matching to a larger one; the records below `low` keep what has no slot
pub record Grown (layout : Layout) (low : ℕ) (m : Matching) (w w1 : World) (m2 : Matching) (w2 w3 : World)
    : Type 0 where
  pub below : low ≤ w.record_count
  pub larger : IsLarger m m2
  pub agree : Agree layout m2 w2 w3
  pub later : Later w w2
  pub later_other : Later w1 w3
  pub turns : w2.turns ≤ w.turns
  pub keeps : (r : ℕ) → r < low → Keeps layout w w2 r

pub grown_onward : (layout : Layout) (low : ℕ) (m : Matching) (w w1 w2 w3 : World) → low ≤ w.record_count
    → Onward layout m w w1 w2 w3 → Grown layout low m w w1 m w2 w3
grown_onward layout low m w w1 w2 w3 le h = record {
  below = le;
  larger = record { has = λ r e is. is };
  agree = h.agree;
  later = h.later;
  later_other = h.later_other;
  turns = h.turns;
  keeps = λ r lt name slot. ap {A = ℕ → Record} (λ rs. (rs r).bindings name) h.records;
}

pub grown_less : (layout : Layout) (low low1 : ℕ) (m m2 : Matching) (w w1 w2 w3 : World) → low ≤ low1
    → Grown layout low1 m w w1 m2 w2 w3 → Grown layout low m w w1 m2 w2 w3
grown_less layout low low1 m m2 w w1 w2 w3 le h = record {
  below = omega (arith, le, h.below);
  larger = h.larger;
  agree = h.agree;
  later = h.later;
  later_other = h.later_other;
  turns = h.turns;
  keeps = λ r lt. h.keeps r (omega (arith, lt, le));
}

pub grown_trans : (layout : Layout) (low : ℕ) (m m2 m4 : Matching) (w w1 w2 w3 w4 w5 : World)
    → Grown layout low m w w1 m2 w2 w3 → Grown layout low m2 w2 w3 m4 w4 w5 → Grown layout low m w w1 m4 w4 w5
grown_trans layout low m m2 m4 w w1 w2 w3 w4 w5 h k = record {
  below = h.below;
  larger = record { has = λ r e is. k.larger.has r e (h.larger.has r e is) };
  agree = k.agree;
  later = later_trans w w2 w4 h.later k.later;
  later_other = later_trans w1 w3 w5 h.later_other k.later_other;
  turns = omega (arith, h.turns, k.turns);
  keeps = λ r lt name slot.
      k.keeps r lt name (ap (λ s. layout.slot s name) (h.later.scopes r (omega (arith, lt, h.below))) ∙ slot)
      ∙ h.keeps r lt name slot;
}

-- ---- the activation at the top

-- its own records, none below `low`, are live
pub record Owns (low : ℕ) (w : World) (own : List ℕ) : Type 0 where
  pub low_is_live : low ≤ w.record_count
  pub above : (r : ℕ) → Contains own r → low ≤ r
  pub live : (r : ℕ) → Contains own r → r < w.record_count

pub owns_nothing : (low : ℕ) (w : World) → low ≤ w.record_count → Owns low w []
owns_nothing low w le = record {
  low_is_live = le;
  above = λ r is. absurd (omega (arith, is.1));
  live = λ r is. absurd (omega (arith, is.1));
}

module _ (layout : Layout) (low : ℕ) (own own2 : List ℕ) (w w2 : World) (h : Owns low w own) (later : Later w w2)
    (quiet : IsQuiet layout own w own2 w2) where
  above_then : (b : Bool) (r : ℕ) → nat_lt r w.record_count ≡ b → Contains own2 r → low ≤ r
  above_then true r e is = h.above r (quiet.new r (ltb-true r w.record_count e) is)
  above_then false r e is = omega (arith, ltb-false r w.record_count e, h.low_is_live)

  -- at its act
  pub owns_then : Owns low w2 own2
  owns_then = record {
    low_is_live = omega (arith, h.low_is_live, later.record_count);
    above = λ r is. above_then (nat_lt r w.record_count) r refl is;
    live = quiet.live h.live;
  }

  pub grown_then : (m m2 : Matching) (w1 w3 : World) → IsLarger m m2 → Agree layout m2 w2 w3 → Later w1 w3
      → w2.turns ≤ w.turns → Grown layout low m w w1 m2 w2 w3
  grown_then m m2 w1 w3 larger agree later_other turns = record {
    below = h.low_is_live;
    larger = larger;
    agree = agree;
    later = later;
    later_other = later_other;
    turns = turns;
    keeps = λ r lt.
        quiet.keeps r (omega (arith, lt, h.low_is_live)) (λ is. absurd (omega (arith, lt, h.above r is)));
  }

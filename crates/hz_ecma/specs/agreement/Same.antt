-- Code does the same as a tree for so many acts, whatever replies come.
use Rattle.std.specs.Prelude.{ℕ, zero, suc, ⊤}
use Rattle.hz_value.specs.world.World.{World}
use Rattle.hz_value.specs.system.Acts.{Reply, Act, Print, Turn, Reaches, MayCome}
use Rattle.hz_value.specs.system.System.{Meaning}
use Rattle.hz_ecma.specs.evaluator.Activations.{Activation}
use Rattle.hz_ecma.specs.evaluator.Steps.{tree_step, tree_answered}
use Rattle.hz_ecma.specs.agreement.Layouts.{Layout}
use Rattle.hz_ecma.specs.agreement.Agreement.{Matching, IsLarger, Agree}
use Rattle.hz_ecma.specs.agreement.Replies.{SameReply, SameAct, Allowed, IsQuiet, Later}

-- a relation of an activation of a tree in its world, and of another one in its own
abbrev pub Relation : Type 0 → Type 1
Relation T = Matching → Activation → World → T → World → Type 0

-- the same holds again behind each reply that is allowed
abbrev pub Replies : (T : Type 0) → Meaning T → Layout → Relation T → Act → Relation T
Replies T other layout next act m a w t w1 =
    (c c1 : Reply) (m2 : Matching) (w2 w3 : World) → MayCome act c → SameReply w2.store w3.store c c1
    → Allowed layout a.own m w w1 m2 w2 w3 → next m2 (tree_answered a c) w2 (other.answered t c1) w3

-- behind a line that is printed, and behind a turn, both go on at once
abbrev pub Behind : (T : Type 0) → Meaning T → Layout → Relation T → Act → Relation T
Behind T other layout next (Print line) m a w t w1 = next m a w t w1
Behind T other layout next Turn m a w t w1 = next m a w t w1
Behind T other layout next act m a w t w1 = Replies T other layout next act m a w t w1

-- both come to the same act, which is not bad code, in worlds that agree by a matching at least as large
pub record Meet (T : Type 0) (other : Meaning T) (layout : Layout) (next : Relation T)
    (m : Matching) (a : Activation) (w : World) (t : T) (w1 : World) : Type 0 where
  pub act : Act
  pub other_act : Act
  pub matching : Matching
  pub tree_then : Activation
  pub tree_world : World
  pub other_then : T
  pub other_world : World
  pub tree : Reaches Activation tree_step a w act tree_then tree_world
  pub code : Reaches T other.step t w1 other_act other_then other_world
  pub same : SameAct tree_world.store other_world.store act other_act
  pub larger : IsLarger m matching
  pub agree : Agree layout matching tree_world other_world
  pub later : Later w tree_world
  pub later_other : Later w1 other_world
  pub quiet : IsQuiet layout a.own w tree_then.own tree_world
  pub behind : Behind T other layout next act matching tree_then tree_world other_then other_world

-- for n acts
abbrev pub Same : (T : Type 0) → Meaning T → Layout → ℕ → Relation T
Same T other layout zero m a w t w1 = ⊤
Same T other layout (suc n) m a w t w1 = Meet T other layout (Same T other layout n) m a w t w1

-- the same as a record
pub record Simulates (T : Type 0) (other : Meaning T) (layout : Layout) (n : ℕ)
    (m : Matching) (a : Activation) (w : World) (t : T) (w1 : World) : Type 0 where
  pub is : Same T other layout n m a w t w1

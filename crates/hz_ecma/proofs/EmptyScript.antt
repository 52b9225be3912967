-- Correct code exists: a script without statements, and code that returns at once.
use Rattle.std.proofs.Common.{◌≡◌, arith, refl, ap, ℕ, zero, suc, List, [], ◌∷◌, None}
use Rattle.hz_tree.specs.declared.tree.Tree.{Tree, out-Tree}
use Rattle.hz_tree.specs.declared.tree.Tree.TheOpen.{Tree-F}
use Rattle.hz_value.specs.declared.values.Value.TheVariants as value
use Rattle.hz_value.specs.system.Acts.{Return, Does}
use Rattle.hz_value.specs.system.System.{Meaning}
use Rattle.hz_value.specs.world.World.{World, with_record}
use Rattle.hz_ecma.specs.agreement.Agreement.{Matching, Agree}
use Rattle.hz_ecma.specs.agreement.Correct.{CorrectSource}
use Rattle.hz_ecma.specs.agreement.Layouts.{Layout}
use Rattle.hz_ecma.specs.agreement.Same.{Simulates}
use Rattle.hz_ecma.specs.evaluator.Activations.{Activation, Completed, Frame, Statement}
use Rattle.hz_ecma.specs.evaluator.Scopes.{record_of}
use Rattle.hz_ecma.specs.evaluator.Statements.{enter}
use Rattle.hz_ecma.specs.evaluator.Steps.{Trees, script_activation}
use Rattle.hz_ecma.proofs.RecordLaws.{agree_record, later_record, quiet_record}
use Rattle.hz_ecma.proofs.OnwardLaws.{later_same, quiet_same}
use Rattle.hz_ecma.proofs.SameLaws.{tree_goes}

-- its activation is a number, which means nothing
abbrev returning : Meaning ℕ
returning = record {
  step = λ t w. Does (Return value.Undefined) t w;
  answered = λ t c. t;
  enter = λ i. 0;
  statement = λ t. 0;
}

module _ (script : Tree) (at : ℕ) (is : out-Tree script ≡ Tree-F.Script at []) (layout : Layout) where
  abbrev trees : Trees
  trees k = record { tree = script; vars = [] }

  -- behind the making of its record
  abbrev behind : World → List Frame → Activation
  behind w fs = record {
    function = 0;
    callee = None;
    own = w.record_count ∷ [];
    outer = [];
    hand = Completed value.Undefined;
    frames = fs;
  }

  abbrev world : World → World
  world w = with_record (record_of 0 0 []) w

  meets : (n : ℕ) (m : Matching) (w w1 : World) → Agree layout m (world w) w1
      → Simulates ℕ returning layout n m (behind w []) (world w) 0 w1
  meets zero m w w1 h = record { is = tt }
  meets (suc n) m w w1 h = record {
    is = record {
      act = Return value.Undefined;
      other_act = Return value.Undefined;
      matching = m;
      tree_then = behind w [];
      tree_world = world w;
      other_then = 0;
      other_world = w1;
      tree = record { steps = 1; by = refl };
      code = record { steps = 1; by = refl };
      same = record { live = tt; live_other = tt; content = refl };
      larger = record { has = λ r e k. k };
      agree = h;
      later = later_same (world w);
      later_other = later_same w1;
      quiet = quiet_same layout (w.record_count ∷ []) (world w);
      behind = λ c c1 m2 w2 w3 may. absurd may;
    };
  }

  pub empty_is_correct : CorrectSource ℕ returning layout trees 1 0
  empty_is_correct = record {
    of_script = record {
      by = λ n m w w1 h.
          tree_goes ℕ returning layout n m (script_activation trees) (behind w (Statement 0 ∷ [])) w (world w) 0 w1
          (ap (λ layer. enter [] layer (script_activation trees) w) is) (later_record w (record_of 0 0 []))
          (quiet_record w (record_of 0 0 []) layout [])
          (tree_goes ℕ returning layout n m (behind w (Statement 0 ∷ [])) (behind w []) (world w) (world w) 0 w1 refl
          (later_same (world w)) (quiet_same layout (w.record_count ∷ []) (world w))
          (meets n m w w1 (agree_record layout m w w1 (record_of 0 0 []) (λ name. tt) h)));
    };
    of_functions = λ k above below. absurd (omega (arith, above, below));
  }

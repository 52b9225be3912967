-- Code between two places, and runs that go on from one place to another.
use Rattle.std.proofs.Common.{◌≡◌, ℕ, List, [], ◌++◌, length, refl, ap, ◌∙◌, sym, append_assoc, append-nil, ℤ}
use Rattle.std.specs.Prelude.{Option, Some, None, option_and_then}
use Rattle.hz_value.specs.declared.leaving.Left.TheVariants as left
use Rattle.hz_ops.specs.Contents.{Content}
use Rattle.hz_ops.specs.Activations.{Module, code_of, Activation}
use Rattle.hz_ops.specs.Runs.{End, LeftFor, System, running, system_step, after, Ends}
use Rattle.hz_ops.proofs.Running.{step_before}

-- the script stands behind these bytes
abbrev pub at : List ℕ → List Content → Activation
at before registers = record { function = 0; place = length before; registers = registers }

-- this code stands between two places of the script, each of them given by the bytes in front of it
pub record Between (m : Module) (before code end : List ℕ) : Type 0 where
  pub rest : List ℕ
  pub whole : code_of m 0 ≡ end ++ rest
  pub reach : end ≡ before ++ code

pub front_part : (m : Module) (before x y end : List ℕ) → Between m before (x ++ y) end
    → Between m before x (before ++ x)
front_part m before x y end b = record {
  rest = y ++ b.rest;
  whole = b.whole ∙ ap (λ e. e ++ b.rest) (b.reach ∙ sym (append_assoc before x y))
      ∙ append_assoc (before ++ x) y b.rest;
  reach = refl;
}

pub back_part : (m : Module) (before x y end : List ℕ) → Between m before (x ++ y) end → Between m (before ++ x) y end
back_part m before x y end b = record {
  rest = b.rest;
  whole = b.whole;
  reach = b.reach ∙ sym (append_assoc before x y);
}

pub same_code : (m : Module) (before x y end : List ℕ) → x ≡ y → Between m before x end → Between m before y end
same_code m before x y end e b = record { rest = b.rest; whole = b.whole; reach = b.reach ∙ ap (λ c. before ++ c) e }

-- as the run from the second state ends, so ends the run from the first
pub record Leads (m : Module) (s s' : System) : Type 0 where
  pub by : (lines : List (List ℕ)) (end : End) → Ends m s' lines end → Ends m s lines end

pub leads_on : (m : Module) (s s' s'' : System) → Leads m s s' → Leads m s' s'' → Leads m s s''
leads_on m s s' s'' first second = record { by = λ lines end ends. first.by lines end (second.by lines end ends) }

pub leads_by : (m : Module) (s s' : System) → system_step m s ≡ s' → Leads m s s'
leads_by m s s' e = record { by = λ lines end ends. step_before m s s' lines end e ends }

pub leads_same : (m : Module) (s s' : System) → s ≡ s' → Leads m s s'
leads_same m s s' e = record {
  by =
      λ lines end ends. record { steps = ends.steps; ended = ap (after m ends.steps) e ∙ ends.ended };
}

-- nothing stands between
pub leads_over_none : (m : Module) (lines : List (List ℕ)) (registers : List Content) (before end : List ℕ)
    → Between m before [] end → Leads m (running lines (at before registers)) (running lines (at end registers))
leads_over_none m lines registers before end b =
    let State : List ℕ → System = λ e. running lines (at e registers) in
    leads_same m (State before) (State end) (ap State (sym (b.reach ∙ append-nil before)))

-- registers of which something holds, at the end of code that the run comes to
pub record Came (m : Module) (lines : List (List ℕ)) (s : System) (end : List ℕ) (Holds : List Content → Type 0) : Type
    0 where
  pub registers : List Content
  pub holds : Holds registers
  pub leads : Leads m s (running lines (at end registers))

-- where there is a number, the run comes to the end of the code with registers that hold it; else it is left
abbrev pub Gives : Module → List (List ℕ) → System → List ℕ → (ℤ → List Content → Type 0) → Option ℤ → Type 0
Gives m lines s end Holds None = Ends m s lines (LeftFor left.NotSafe)
Gives m lines s end Holds (Some z) = Came m lines s end (Holds z)

pub gives_behind : (m : Module) (lines : List (List ℕ)) (s s' : System) (end : List ℕ)
    (Holds : ℤ → List Content → Type 0) (o : Option ℤ) → Leads m s s' → Gives m lines s' end Holds o
    → Gives m lines s end Holds o
gives_behind m lines s s' end Holds None leads gives = leads.by lines (LeftFor left.NotSafe) gives
gives_behind m lines s s' end Holds (Some z) leads gives = record {
  registers = gives.registers;
  holds = gives.holds;
  leads = leads_on m s s' (running lines (at end gives.registers)) leads gives.leads;
}

pub gives_next : (m : Module) (lines : List (List ℕ)) (s : System) (middle end : List ℕ)
    (Middle Holds : ℤ → List Content → Type 0) (f : ℤ → Option ℤ) (o : Option ℤ) → Gives m lines s middle Middle o
    → ((z : ℤ) (registers : List Content) → Middle z registers
    → Gives m lines (running lines (at middle registers)) end Holds (f z))
    → Gives m lines s end Holds (option_and_then f o)
gives_next m lines s middle end Middle Holds f None first next = first
gives_next m lines s middle end Middle Holds f (Some z) first next =
    gives_behind m lines s (running lines (at middle first.registers)) end Holds (f z) first.leads
    (next z first.registers first.holds)

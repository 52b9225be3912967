-- Runs of code, a step at a time.
use Rattle.std.proofs.Common.{◌≡◌, ℕ, zero, suc, ◌+◌, List, [], ◌∷◌, ◌++◌, length, drop, refl, ap, ◌∙◌, sym}
use Rattle.std.proofs.Common.{append_assoc, append-nil, zero-add, suc-add, add_comm, true}
use Rattle.std.specs.Prelude.{Some, None}
use Rattle.hz_value.specs.declared.leaving.Left.{Left}
use Rattle.hz_ops.specs.Contents.{Content}
use Rattle.std.proofs.Math.Seq.{drop-append_seam}
use Rattle.hz_ops.specs.declared.instr.Instr.{Instr}
use Rattle.hz_ops.specs.Coding.{decode_at, front, spelling, spellings, fits_of}
use Rattle.hz_ops.specs.Activations.{Module, code_of, Activation, Act, Print, Return, Leave, Bad, Beyond, Next, Goes}
use Rattle.hz_ops.specs.Activations.{Does}
use Rattle.hz_ops.specs.Step.{cstep, row, found_to, instruction_step}
use Rattle.hz_ops.specs.Runs.{End, Done, LeftFor, BadCode, running, State, Running, Ended, Unbuilt, System, acted}
use Rattle.hz_ops.specs.Runs.{next_system, stepped, system_step, after, Ends, IsBuilt}
use Rattle.hz_ops.proofs.RoundTrip.{read_again}

-- ---- a step taken away, and put in front

pub step_before : (m : Module) (s s' : System) (lines : List (List ℕ)) (end : End) → system_step m s ≡ s' →
    Ends m s' lines end → Ends m s lines end
step_before m s s' lines end e rest = record {
  steps = suc rest.steps;
  ended = ap (after m rest.steps) e ∙ rest.ended;
}

-- an ended run stays as it is
pub ended_stays : (m : Module) (n : ℕ) (lines : List (List ℕ)) (end : End) →
    after m n (record { lines = lines; state = Ended end }) ≡ record { lines = lines; state = Ended end }
ended_stays m zero lines end = refl
ended_stays m (suc n) lines end = ended_stays m n lines end

pub step_behind : (m : Module) (s s' : System) (lines : List (List ℕ)) (end : End) → system_step m s ≡ s' →
    Ends m s lines end → Ends m s' lines end
step_behind m s s' lines end e whole = go whole.steps whole.ended where
  go : (n : ℕ) → after m n s ≡ record { lines = lines; state = Ended end } → Ends m s' lines end
  go zero is = record { steps = zero; ended = sym e ∙ ap (system_step m) is }
  go (suc n) is = record { steps = n; ended = sym (ap (after m n) e) ∙ is }

-- a run that has ended ends so
pub at_end : (m : Module) (lines : List (List ℕ)) (end : End) →
    Ends m (record { lines = lines; state = Ended end }) lines end
at_end m lines end = record { steps = 0; ended = refl }

-- ---- one end

-- what is after n steps is after n more
pub after_more : (m : Module) (n k : ℕ) (s : System) → after m (n + k) s ≡ after m k (after m n s)
after_more m zero k s = ap (λ j. after m j s) (zero-add k)
after_more m (suc n) k s = ap (λ j. after m j s) (suc-add n k) ∙ after_more m n k (system_step m s)

pub one_end : (m : Module) (s : System) (lines lines' : List (List ℕ)) (end end' : End) → Ends m s lines end →
    Ends m s lines' end' → (lines ≡ lines') × (end ≡ end')
one_end m s lines lines' end end' one other =
    let first : after m (one.steps + other.steps) s ≡ record { lines = lines; state = Ended end } =
    after_more m one.steps other.steps s ∙ ap (after m other.steps) one.ended
    ∙ ended_stays m other.steps lines end in
    let second : after m (one.steps + other.steps) s ≡ record { lines = lines'; state = Ended end' } =
    ap (λ n. after m n s) (add_comm one.steps other.steps) ∙ after_more m other.steps one.steps s
    ∙ ap (after m one.steps) other.ended ∙ ended_stays m one.steps lines' end' in
    let ends : Ended end ≡ Ended end' = ap (λ x. x.state) (sym first ∙ second) in
    (ap (λ x. x.lines) (sym first ∙ second), (cc))

-- ---- lines only grow

pub record Grown (before now : List (List ℕ)) : Type 0 where
  pub more : List (List ℕ)
  pub grown : now ≡ before ++ more

pub step_grows : (m : Module) (s : System) → Grown s.lines (system_step m s).lines
step_grows m s = by_state s.state where
  same : Grown s.lines s.lines
  same = record { more = []; grown = sym (append-nil s.lines) }

  by_act : (a : Activation) (act : Act) → Grown s.lines (acted s.lines a act).lines
  by_act a (Print line) = record { more = line ∷ []; grown = refl }
  by_act a (Return x) = same
  by_act a (Leave reason) = same
  by_act a Bad = same
  by_act a Beyond = same

  by_next : (next : Next) → Grown s.lines (next_system s.lines next).lines
  by_next (Goes a) = same
  by_next (Does act a) = by_act a act

  by_state : (state : State) → Grown s.lines (stepped m s.lines state).lines
  by_state (Running a) = by_next (cstep m a)
  by_state (Ended end) = same
  by_state Unbuilt = same

pub lines_grow : (m : Module) (n : ℕ) (s : System) → Grown s.lines (after m n s).lines
lines_grow m zero s = record { more = []; grown = sym (append-nil s.lines) }
lines_grow m (suc n) s =
    let first : Grown s.lines (system_step m s).lines = step_grows m s in
    let rest : Grown (system_step m s).lines (after m n (system_step m s)).lines = lines_grow m n (system_step m s) in
    record {
      more = first.more ++ rest.more;
      grown = rest.grown ∙ ap (λ xs. xs ++ rest.more) first.grown ∙ append_assoc s.lines first.more rest.more;
    }

-- the lines at the end begin with those that were printed
pub ends_grown : (m : Module) (s : System) (lines : List (List ℕ)) (end : End) → Ends m s lines end →
    Grown s.lines lines
ends_grown m s lines end e =
    let grown : Grown s.lines (after m e.steps s).lines = lines_grow m e.steps s in
    let all : (after m e.steps s).lines ≡ lines = ap (λ x. x.lines) e.ended in
    record { more = grown.more; grown = sym all ∙ grown.grown }

-- ---- what the rows say

pub built_on : (m : Module) (s s' : System) → system_step m s ≡ s' → IsBuilt m s → IsBuilt m s'
built_on m s s' e built = record { never = λ n is. built.never (suc n) (ap (λ x. (after m n x).state) e ∙ is) }

-- a run that is built is not at what the rows do not say
pub built_here : (m : Module) (s : System) → IsBuilt m s → s.state ≡ Unbuilt → ⊥
built_here m s built is = built.never 0 is

-- what came to what the rows do not say stays there
pub unbuilt_stays : (m : Module) (k : ℕ) (s : System) → s.state ≡ Unbuilt → (after m k s).state ≡ Unbuilt
unbuilt_stays m zero s is = is
unbuilt_stays m (suc k) s is = unbuilt_stays m k (system_step m s) (ap (λ x. (stepped m s.lines x).state) is)

-- a run that ends never comes to what the rows do not say
pub ended_is_built : (m : Module) (s : System) (lines : List (List ℕ)) (end : End) → Ends m s lines end → IsBuilt m s
ended_is_built m s lines end e = record {
  never = λ n is.
      let stuck : (after m (n + e.steps) s).state ≡ Unbuilt =
      ap (λ x. x.state) (after_more m n e.steps s) ∙ unbuilt_stays m e.steps (after m n s) is in
      let over : (after m (n + e.steps) s).state ≡ Ended end =
      ap (λ k. (after m k s).state) (add_comm n e.steps)
      ∙ ap (λ x. x.state) (after_more m e.steps n s ∙ ap (after m n) e.ended ∙ ended_stays m n lines end) in
      absurd (let clash : Unbuilt ≡ Ended end = sym stuck ∙ over in cc);
}

-- ---- a step of a running activation, by what it does

pub goes_on : (m : Module) (lines : List (List ℕ)) (a a' : Activation) → cstep m a ≡ Goes a' →
    system_step m (running lines a) ≡ running lines a'
goes_on m lines a a' e = ap (next_system lines) e

pub prints : (m : Module) (lines : List (List ℕ)) (a a' : Activation) (line : List ℕ) →
    cstep m a ≡ Does (Print line) a' → system_step m (running lines a) ≡ running (lines ++ line ∷ []) a'
prints m lines a a' line e = ap (next_system lines) e

pub returns : (m : Module) (lines : List (List ℕ)) (a a' : Activation) (x : Content) →
    cstep m a ≡ Does (Return x) a' → Ends m (running lines a) lines Done
returns m lines a a' x e = record { steps = 1; ended = ap (next_system lines) e }

pub leaves : (m : Module) (lines : List (List ℕ)) (a a' : Activation) (reason : Left) →
    cstep m a ≡ Does (Leave reason) a' → Ends m (running lines a) lines (LeftFor reason)
leaves m lines a a' reason e = record { steps = 1; ended = ap (next_system lines) e }

pub is_bad : (m : Module) (lines : List (List ℕ)) (a a' : Activation) → cstep m a ≡ Does Bad a' →
    Ends m (running lines a) lines BadCode
is_bad m lines a a' e = record { steps = 1; ended = ap (next_system lines) e }

-- a run that is built does not go beyond the rows
pub not_beyond : (m : Module) (lines : List (List ℕ)) (a a' : Activation) → IsBuilt m (running lines a) →
    cstep m a ≡ Does Beyond a' → ⊥
not_beyond m lines a a' built e = built.never 1 (ap (λ x. (next_system lines x).state) e)

-- ---- instructions behind other code

-- the instruction is read where it stands, whatever is in front and behind
pub read_in_place : (before rest : List ℕ) (i : Instr) → fits_of i ≡ true →
    decode_at (before ++ spelling i ++ rest) (length before) ≡ Some (i, length (spelling i))
read_in_place before rest i fits =
    ap front (ap (drop (length before)) (append_assoc before (spelling i) rest)
    ∙ drop-append_seam before (spelling i ++ rest)) ∙ read_again i rest fits

-- the same in a row of instructions
pub spellings-append : (xs ys : List Instr) → spellings (xs ++ ys) ≡ spellings xs ++ spellings ys
spellings-append [] ys = refl
spellings-append (x ∷ xs) ys =
    ap (λ bytes. spelling x ++ bytes) (spellings-append xs ys)
    ∙ sym (append_assoc (spelling x) (spellings xs) (spellings ys))

-- ---- the step at an instruction

-- the step where an instruction was read
pub step_decoded : (m : Module) (a : Activation) (i : Instr) (n : ℕ) →
    decode_at (code_of m a.function) a.place ≡ Some (i, n) → cstep m a ≡ row m (a.place + n) a i.args.items i.op
step_decoded m a i n e = ap (found_to a (instruction_step m a)) e

-- the step where no whole instruction stands
pub step_undecoded : (m : Module) (a : Activation) → decode_at (code_of m a.function) a.place ≡ None →
    cstep m a ≡ Does Bad a
step_undecoded m a e = ap (found_to a (instruction_step m a)) e

-- the step at an instruction that stands behind other code
pub step_in_place : (m : Module) (a : Activation) (before rest : List ℕ) (i : Instr) → fits_of i ≡ true →
    code_of m a.function ≡ before ++ spelling i ++ rest → a.place ≡ length before →
    cstep m a ≡ row m (length before + length (spelling i)) a i.args.items i.op
step_in_place m a before rest i fits code place =
    ap (found_to a (instruction_step m a))
    (ap (λ bytes. decode_at bytes a.place) code ∙ ap (decode_at (before ++ spelling i ++ rest)) place
    ∙ read_in_place before rest i fits)
    ∙ ap (λ p. row m (p + length (spelling i)) a i.args.items i.op) place

-- Agreement of two worlds: that of a tree, and that of code.
use Rattle.std.specs.Prelude.{◌≡◌, ◌<◌, ◌≤◌, length, ℕ, false, List, [], ◌∷◌, Option, Some, None, slice_get, ⊤}
use Rattle.hz_value.specs.world.Objects.{Kind, Function}
use Rattle.hz_value.specs.world.Records.{Scope}
use Rattle.hz_value.specs.world.Start.{objects0, texts0, store0}
use Rattle.hz_value.specs.world.Store.{Store, object, text}
use Rattle.hz_value.specs.world.Valid.{IsValid}
use Rattle.hz_value.specs.world.World.{World}
use Rattle.hz_ecma.specs.agreement.Contents.{binding_content, objects_content, symbols_content, globals_content}
use Rattle.hz_ecma.specs.agreement.Layouts.{Layout}

-- ---- matchings

-- pairs of a record, which is the tree's, and of an environment, which is the code's
abbrev pub Matching : Type 0
Matching = List (ℕ × ℕ)

abbrev pub Matched : Matching → ℕ → ℕ → Type 0
Matched m r e = (k : ℕ) × (slice_get m k ≡ Some (r, e))

pub record IsLarger (m m1 : Matching) : Type 0 where
  pub has : (r e : ℕ) → Matched m r e → Matched m1 r e

-- ---- chains

-- where the scope has slots, its record is matched with the environment, in whose parent the rest stands
abbrev pub Passes : Matching → World → Option ℕ → (Option ℕ → Type 0) → ℕ → Option ℕ → Type 0
Passes m w1 None rest r e = rest e
Passes m w1 (Some n) rest r e = (k : ℕ) × (e ≡ Some k) × Matched m r k × rest (w1.environments k).parent

-- the record was made later than those further out
pub record Link (layout : Layout) (m : Matching) (w w1 : World) (rest : ℕ → Option ℕ → Type 0)
    (s : Scope) (r top : ℕ) (e : Option ℕ) : Type 0 where
  pub live : r < top
  pub scope : (w.records r).scope ≡ s
  pub absent : (name : List ℕ) → layout.declares s name ≡ false → (w.records r).bindings name ≡ None
  pub next : Passes m w1 (layout.count s) (rest r) r e

-- the records, all below `top`, and the environment stand for the scopes; the innermost of each comes first
abbrev pub Stands : Layout → Matching → World → World → List Scope → List ℕ → ℕ → Option ℕ → Type 0
Stands layout m w w1 [] [] top e = ⊤
Stands layout m w w1 (s ∷ ss) (r ∷ rs) top e =
    Link layout m w w1 (λ below e1. Stands layout m w w1 ss rs below e1) s r top e
Stands layout m w w1 ss rs top e = ⊥

-- ---- agreement

-- a record and its environment: each name with a slot is bound to what that slot holds
pub record SameBindings (layout : Layout) (w w1 : World) (r e : ℕ) : Type 0 where
  pub live : r < w.record_count
  pub live_environment : e < w1.environment_count
  pub slots : (n : ℕ) × (layout.count (w.records r).scope ≡ Some n)
  pub same : (name : List ℕ) (i : ℕ) → layout.slot (w.records r).scope name ≡ Some i
      → binding_content w.store ((w.records r).bindings name)
      ≡ binding_content w1.store ((w1.environments e).slots i)

-- what the same function closes over on both sides
abbrev pub SameClosures : Layout → Matching → World → World → Kind → Kind → Type 0
SameClosures layout m w w1 (Function c) (Function c1) =
    Stands layout m w w1 (layout.around c.function) c.records w.record_count c1.environment
SameClosures layout m w w1 kind kind1 = ⊤

-- the objects and the texts of the start are there: errors of the engine need some of them
pub record HasStart (s : Store) : Type 0 where
  pub objects : length objects0 ≤ length s.objects
  pub text_count : length texts0 ≤ length s.texts
  pub texts : (n : ℕ) → n < length texts0 → text s n ≡ text store0 n

-- marks are not compared
pub record Agree (layout : Layout) (m : Matching) (w w1 : World) : Type 0 where
  pub valid : IsValid w
  pub valid_other : IsValid w1
  pub start : HasStart w.store
  pub start_other : HasStart w1.store
  pub pairs : (r e : ℕ) → Matched m r e → SameBindings layout w w1 r e
  pub one_environment : (r e e1 : ℕ) → Matched m r e → Matched m r e1 → e ≡ e1
  pub one_record : (r r1 e : ℕ) → Matched m r e → Matched m r1 e → r ≡ r1
  pub objects : objects_content w.store ≡ objects_content w1.store
  pub closures : (o : ℕ) → SameClosures layout m w w1 (object w.store o).kind (object w1.store o).kind
  pub symbols : symbols_content w.store ≡ symbols_content w1.store
  pub globals : globals_content w.store w.globals ≡ globals_content w1.store w1.globals
  pub lines : w.lines ≡ w1.lines
  pub turns : w.turns ≡ w1.turns
  pub calls : w.calls ≡ w1.calls

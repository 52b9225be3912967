-- Acts and replies that are the same on both sides, and what an activation may rely on when it gets a reply.
use Rattle.std.specs.Prelude.{◌≡◌, ◌≤◌, ◌<◌, ℕ, Bool, true, false, List, length, None, is_some, Contains, ⊤}
use Rattle.hz_value.specs.world.Objects.{Kind, Array}
use Rattle.hz_value.specs.world.Store.{Store, text, object}
use Rattle.hz_value.specs.world.Valid.{IsLiveObject}
use Rattle.hz_value.specs.world.World.{World, binding, slot}
use Rattle.hz_value.specs.system.Acts.{Reply, Normal, Thrown, Returned, Act, Call, Enter, Return, Throw, Start, Yield}
use Rattle.hz_value.specs.system.Acts.{Resume, Print, WantLine, Turn, Spent, Leave}
use Rattle.hz_ecma.specs.agreement.Contents.{SameValue, SameValues}
use Rattle.hz_ecma.specs.agreement.Layouts.{Layout}
use Rattle.hz_ecma.specs.agreement.Agreement.{Matching, IsLarger, Agree}

-- ---- the same

abbrev pub SameReply : Store → Store → Reply → Reply → Type 0
SameReply s s1 (Normal v) (Normal v1) = SameValue s s1 v v1
SameReply s s1 (Thrown v) (Thrown v1) = SameValue s s1 v v1
SameReply s s1 (Returned v) (Returned v1) = SameValue s s1 v v1
SameReply s s1 c c1 = ⊥

-- bad code is the same as nothing
abbrev pub SameAct : Store → Store → Act → Act → Type 0
SameAct s s1 (Call f this vs) (Call f1 this1 vs1) =
    SameValue s s1 f f1 × SameValue s s1 this this1 × SameValues s s1 vs vs1
SameAct s s1 (Enter routine vs) (Enter routine1 vs1) = (routine ≡ routine1) × SameValues s s1 vs vs1
SameAct s s1 (Return v) (Return v1) = SameValue s s1 v v1
SameAct s s1 (Throw v) (Throw v1) = SameValue s s1 v v1
SameAct s s1 (Start prototype) (Start prototype1) = (prototype ≡ prototype1) × IsLiveObject s prototype
SameAct s s1 (Yield v) (Yield v1) = SameValue s s1 v v1
SameAct s s1 (Resume g c) (Resume g1 c1) = (g ≡ g1) × (g < length s.objects) × SameReply s s1 c c1
SameAct s s1 (Print line) (Print line1) = line ≡ line1
SameAct s s1 WantLine WantLine = ⊤
SameAct s s1 Turn Turn = ⊤
SameAct s s1 Spent Spent = ⊤
SameAct s s1 (Leave reason) (Leave reason1) = reason ≡ reason1
SameAct s s1 act act1 = ⊥

-- ---- what stays

abbrev pub is_array : Kind → Bool
is_array (Array n writable) = true
is_array kind = false

-- All that was there is there still. A text keeps its units, an array stays an array, a record keeps its scope and its
-- names, an environment its parent and its slots.
pub record Later (w w2 : World) : Type 0 where
  pub texts : (n : ℕ) → n < length w.store.texts → text w2.store n ≡ text w.store n
  pub text_count : length w.store.texts ≤ length w2.store.texts
  pub symbols : length w.store.symbols ≤ length w2.store.symbols
  pub objects : length w.store.objects ≤ length w2.store.objects
  pub arrays : (o : ℕ) → o < length w.store.objects → is_array (object w.store o).kind ≡ true
      → is_array (object w2.store o).kind ≡ true
  pub record_count : w.record_count ≤ w2.record_count
  pub scopes : (r : ℕ) → r < w.record_count → (w2.records r).scope ≡ (w.records r).scope
  pub names : (r : ℕ) (name : List ℕ) → r < w.record_count
      → is_some (binding w2 r name) ≡ is_some (binding w r name)
  pub environment_count : w.environment_count ≤ w2.environment_count
  pub parents : (e : ℕ) → e < w.environment_count → (w2.environments e).parent ≡ (w.environments e).parent
  pub slots : (e i : ℕ) → e < w.environment_count → is_some (slot w2 e i) ≡ is_some (slot w e i)

-- the bindings without a slot of a record are as they were
abbrev pub Keeps : Layout → World → World → ℕ → Type 0
Keeps layout w w2 r =
    (name : List ℕ) → layout.slot (w.records r).scope name ≡ None → binding w2 r name ≡ binding w r name

-- A reply that the activation with these own records may get in the worlds w2 and w3, where it did its act in the
-- worlds w and w1. No more turns are left than there were.
pub record Allowed (layout : Layout) (own : List ℕ) (m : Matching) (w w1 : World)
    (m2 : Matching) (w2 w3 : World) : Type 0 where
  pub larger : IsLarger m m2
  pub agree : Agree layout m2 w2 w3
  pub later : Later w w2
  pub later_other : Later w1 w3
  pub turns : w2.turns ≤ w.turns
  pub keeps : (r : ℕ) → Contains own r → Keeps layout w w2 r

-- From one act to the next: a record that was there and is none of the activation's own keeps its bindings without a
-- slot; each own record in scope at the next act was one before or is new; and where all were live, all are.
pub record IsQuiet (layout : Layout) (own : List ℕ) (w : World) (own2 : List ℕ) (w2 : World) : Type 0 where
  pub keeps : (r : ℕ) → r < w.record_count → (Contains own r → ⊥) → Keeps layout w w2 r
  pub new : (r : ℕ) → r < w.record_count → Contains own2 r → Contains own r
  pub live : ((r : ℕ) → Contains own r → r < w.record_count) → (r : ℕ) → Contains own2 r → r < w2.record_count

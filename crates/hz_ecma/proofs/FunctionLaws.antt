-- Which functions of the source there are: an error of the engine is none.
use Rattle.std.proofs.Common.{◌≡◌, ◌<◌, ℕ, zero, suc, List, [], ◌∷◌, ◌++◌, None, slice_index_or}
use Rattle.hz_value.specs.operators.Messages.{Message}
use Rattle.hz_value.specs.world.Errors.{with_error}
use Rattle.hz_value.specs.world.Objects.{Object, Kind, Plain, Function, Closure, blank}
use Rattle.hz_value.specs.world.World.{World}
use Rattle.hz_ecma.proofs.ErrorLaws.{new_of}

abbrev pub kind_at : List Object → ℕ → Kind
kind_at objects o = (slice_index_or objects o (blank None Plain)).kind

-- each function among the second objects is one among the first
pub record NoneMade (objects objects1 : List Object) : Type 0 where
  pub by : (o : ℕ) (c : Closure) → kind_at objects1 o ≡ Function c → kind_at objects o ≡ Function c

pub none_made : (objects : List Object) → NoneMade objects objects
none_made objects = record { by = λ o c e. e }

pub none_made_trans : (first second third : List Object) → NoneMade first second → NoneMade second third
    → NoneMade first third
none_made_trans first second third h k = record { by = λ o c e. h.by o c (k.by o c e) }

with_error_made : (objects : List Object) (m : Message) (w : World) (o : ℕ) (c : Closure)
    → kind_at (objects ++ new_of m w.store ∷ []) o ≡ Function c → kind_at objects o ≡ Function c
with_error_made [] m w zero c e = absurd (cc)
with_error_made [] m w (suc o) c e = e
with_error_made (x ∷ objects) m w zero c e = e
with_error_made (x ∷ objects) m w (suc o) c e = with_error_made objects m w o c e

pub none_made_raised : (w : World) (m : Message) → NoneMade w.store.objects (with_error m w.store).objects
none_made_raised w m = record { by = with_error_made w.store.objects m w }

-- each is one of this many, and none is the script
pub record AreKnown (count : ℕ) (objects : List Object) : Type 0 where
  pub by : (o : ℕ) (c : Closure) → kind_at objects o ≡ Function c → (0 < c.function) × (c.function < count)

pub known_later : (count : ℕ) (objects objects1 : List Object) → AreKnown count objects → NoneMade objects objects1
    → AreKnown count objects1
known_later count objects objects1 h k = record { by = λ o c e. h.by o c (k.by o c e) }

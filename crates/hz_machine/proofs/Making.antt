-- The making of an error.
use Rattle.std.proofs.Common.{◌≡◌, ℕ, ◌+◌, List, [], ◌∷◌, ◌++◌, map, length, refl, ap, ◌∙◌, sym, arith}
use Rattle.std.proofs.Common.{length-append, zero, suc, false, ◌==◌, ◌||◌, None}
use Rattle.std.proofs.lemmas.List.{length-map}
use Rattle.hz_value.specs.declared.values.Value.TheVariants as value
use Rattle.hz_value.specs.world.Errors.{new_error}
use Rattle.std.specs.Prelude.{slice_index_or}
use Rattle.hz_value.specs.world.Objects.{Object, Plain, blank}
use Rattle.hz_value.specs.world.Start.{objects0}
use Rattle.hz_value.specs.world.Store.{object, is_function}
use Rattle.hz_value.specs.world.World.{World, Line, raised}
use Rattle.hz_machine.specs.declared.errors.MadeError.{MadeError}
use Rattle.hz_machine.specs.declared.errors.Cause.{Cause}
use Rattle.hz_machine.specs.declared.errors.Cause.TheVariants as cause
use Rattle.hz_machine.specs.Errors.{object_of, message_of}
use Rattle.hz_machine.specs.Kept.{KeptWorld, store_of, world_of, made, with_made}

-- the world with these texts and objects in place of its own
abbrev keeping : List Line → KeptWorld → List (List ℕ) → List Object → World
keeping lines k texts objects =
    record (world_of lines k) { store = record { texts = texts; symbols = []; objects = objects } }

objects_behind : (es : List MadeError) (e : MadeError) →
    objects0 ++ map object_of (es ++ e ∷ []) ≡ (objects0 ++ map object_of es) ++ object_of e ∷ []
objects_behind [] e = refl
objects_behind (x ∷ es) e = ap (λ os. objects0 ++ object_of x ∷ os) (behind es) where
  behind : (xs : List MadeError) → map object_of (xs ++ e ∷ []) ≡ map object_of xs ++ object_of e ∷ []
  behind [] = refl
  behind (y ∷ ys) = ap (λ os. object_of y ∷ os) (behind ys)

pub raised_is : (c : Cause) (k : KeptWorld) (lines : List Line) →
    world_of lines (with_made c k) ≡ raised 0 (message_of c) (world_of lines k)
raised_is c k lines = by c where
  by : (c1 : Cause) → world_of lines (with_made c1 k) ≡ raised 0 (message_of c1) (world_of lines k)
  by (cause.NotDefined name) = ap (keeping lines k _) (objects_behind k.errors (made (cause.NotDefined name) k))
  by (cause.NotInitialised name) = ap (keeping lines k _) (objects_behind k.errors (made (cause.NotInitialised name) k))
  by (cause.IsConstant name) = ap (keeping lines k _) (objects_behind k.errors (made (cause.IsConstant name) k))
  by cause.NotFunction = ap (keeping lines k _) (objects_behind k.errors (made cause.NotFunction k))
  by cause.SymbolConversion = ap (keeping lines k _) (objects_behind k.errors (made cause.SymbolConversion k))

pub error_is : (k : KeptWorld) → new_error (store_of k) ≡ value.Object (7 + length k.errors)
error_is k = ap value.Object (let e : length (objects0 ++ map object_of k.errors) ≡ 7 + length k.errors =
    omega (arith, length-append objects0 (map object_of k.errors), length-map k.errors object_of) in e)

no_function_behind : (es : List MadeError) (n : ℕ) → is_function (slice_index_or (map object_of es) n (blank None Plain)).kind ≡ false
no_function_behind [] n = refl
no_function_behind (e ∷ es) zero = refl
no_function_behind (e ∷ es) (suc n) = no_function_behind es n

-- of the objects that there are, the second and the seventh can be called
pub callable : (k : KeptWorld) (o : ℕ) → is_function (object (store_of k) o).kind ≡ (o == 1 || o == 6)
callable k zero = refl
callable k (suc zero) = refl
callable k (suc (suc zero)) = refl
callable k (suc (suc (suc zero))) = refl
callable k (suc (suc (suc (suc zero)))) = refl
callable k (suc (suc (suc (suc (suc zero))))) = refl
callable k (suc (suc (suc (suc (suc (suc zero)))))) = refl
callable k (suc (suc (suc (suc (suc (suc (suc n))))))) =
    no_function_behind k.errors n
    ∙ sym (let e : (suc (suc (suc (suc (suc (suc (suc n)))))) == 1 || suc (suc (suc (suc (suc (suc (suc n)))))) == 6) ≡ false =
    grind arith in e)

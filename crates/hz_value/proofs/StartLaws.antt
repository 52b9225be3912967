-- The world at the start of a run is a valid one.
use Rattle.std.proofs.Common.{rules, ◌≡◌, ◌<◌, ℕ, zero, suc, true, List, [], ◌∷◌, length, slice_index_or, Some, None}
use Rattle.std.proofs.Common.{pos, refl, sym, subst, arith}
use Rattle.std.specs.Prelude.{All, bytes_eq, IfSome}
use Rattle.std.specs.List.{IsDistinct}
use Rattle.hz_value.specs.declared.values.Property.{Property}
use Rattle.hz_value.specs.declared.values.Value.TheVariants as value
use Rattle.hz_value.specs.world.Objects.{Object, Plain, blank, length_name}
use Rattle.hz_value.specs.world.Errors.{name_name, message_name, hidden_property}
use Rattle.hz_value.specs.world.Globals.{Global}
use Rattle.hz_value.specs.world.World.{World, Line}
use Rattle.hz_value.specs.world.Start.{world0, store0, texts0, objects0, globals0, built_in, error_prototype}
use Rattle.hz_value.specs.world.Start.{function_property, print_routine, function_prototype_routine}
use Rattle.hz_value.specs.world.Valid.{IsValid, IsValidObject, IsLiveObject, IsLive, IsLiveProperty, IsValidKind}
use Rattle.hz_value.specs.world.Valid.{AreLive, ends}

none : {X : Type 0} (P : X → Type 0) → All P []
none P k d h = absurd (omega arith)

more : {X : Type 0} (P : X → Type 0) (x : X) (xs : List X) → P x → All P xs → All P (x ∷ xs)
more P x xs p ps zero d h = p
more P x xs p ps (suc k) d h = ps k d (omega arith)

chains_end : (o : ℕ) → ends 4 objects0 (Some o) ≡ true
chains_end zero = refl
chains_end (suc zero) = refl
chains_end (suc (suc zero)) = refl
chains_end (suc (suc (suc zero))) = refl
chains_end (suc (suc (suc (suc zero)))) = refl
chains_end (suc (suc (suc (suc (suc zero))))) = refl
chains_end (suc (suc (suc (suc (suc (suc zero)))))) = refl
chains_end (suc (suc (suc (suc (suc (suc (suc o))))))) = refl

texts_differ : IsDistinct bytes_eq texts0
unfolding IsDistinct
texts_differ = search rules

-- an object whose properties are these, of a world whose texts and objects are those of the start
two_names : (w : World) (o : Object) (e e1 : ℕ × Property) → o.elements ≡ [] → o.symbols ≡ [] → o.names ≡ e ∷ e1 ∷ []
    → IsLiveObject w.store o.prototype → IsValidKind w o.kind []
    → (e.0 < length w.store.texts) × IsLiveProperty w.store e.1
    → (e1.0 < length w.store.texts) × IsLiveProperty w.store e1.1 → IsValidObject w o
two_names w o e e1 no_elements no_symbols names prototype kind first second = record {
  prototype = prototype;
  kind = subst (λ es. IsValidKind w o.kind es) (sym no_elements) kind;
  elements = subst (λ es. AreLive w.store 4294967295 es) (sym no_elements)
      (none (λ x. (x.0 < 4294967295) × IsLiveProperty w.store x.1));
  names = subst (λ es. AreLive w.store (length w.store.texts) es) (sym names)
      (more (λ x. (x.0 < length w.store.texts) × IsLiveProperty w.store x.1) e (e1 ∷ []) first
      (more (λ x. (x.0 < length w.store.texts) × IsLiveProperty w.store x.1) e1 [] second
      (none (λ x. (x.0 < length w.store.texts) × IsLiveProperty w.store x.1))));
  symbols = subst (λ es. AreLive w.store (length w.store.symbols) es) (sym no_symbols)
      (none (λ x. (x.0 < length w.store.symbols) × IsLiveProperty w.store x.1));
}

error_valid : (w : World) (behind name : ℕ) → behind < length w.store.objects → 3 < length w.store.texts
    → name < length w.store.texts → IsValidObject w (error_prototype behind name)
error_valid w behind name lives texts named =
    two_names w (error_prototype behind name) (name_name, hidden_property (value.Text name))
    (message_name, hidden_property (value.Text 3)) refl refl refl lives tt (omega (arith, texts), named)
    (omega (arith, texts), texts)

function_valid : (w : World) (o : Object) (name : ℕ) → o.elements ≡ [] → o.symbols ≡ []
    → o.names
    ≡ (length_name, function_property (value.Num (pos 0))) ∷ (name_name, function_property (value.Text name)) ∷ []
    → IsLiveObject w.store o.prototype → IsValidKind w o.kind [] → 3 < length w.store.texts
    → name < length w.store.texts → IsValidObject w o
function_valid w o name no_elements no_symbols names prototype kind texts named =
    two_names w o (length_name, function_property (value.Num (pos 0))) (name_name, function_property (value.Text name))
    no_elements no_symbols names prototype kind (omega (arith, texts), tt) (omega (arith, texts), named)

blank_valid : (w : World) → IsValidObject w (blank None Plain)
blank_valid w = record {
  prototype = tt;
  kind = tt;
  elements = none (λ x. (x.0 < 4294967295) × IsLiveProperty w.store x.1);
  names = none (λ x. (x.0 < length w.store.texts) × IsLiveProperty w.store x.1);
  symbols = none (λ x. (x.0 < length w.store.symbols) × IsLiveProperty w.store x.1);
}

text_there : (w : World) → w.store ≡ store0 → (n : ℕ) → n < 9 → n < length w.store.texts
text_there w is n h = subst (λ s. n < length s.texts) (sym is) h

object_there : (w : World) → w.store ≡ store0 → (n : ℕ) → n < 7 → n < length w.store.objects
object_there w is n h = subst (λ s. n < length s.objects) (sym is) h

error_there : (w : World) → w.store ≡ store0 → (behind name : ℕ) → behind < 7 → name < 9
    → IsValidObject w (error_prototype behind name)
error_there w is behind name lives named =
    error_valid w behind name (object_there w is behind lives) (text_there w is 3 (omega arith))
    (text_there w is name named)

valid_objects : (w : World) → w.store ≡ store0
    → (k : ℕ) (d : Object) → k < length objects0 → IsValidObject w (slice_index_or objects0 k d)
valid_objects w is zero d h = blank_valid w
valid_objects w is (suc zero) d h =
    function_valid w (record (built_in function_prototype_routine 3) { prototype = Some 0 }) 3 refl refl refl
    (object_there w is 0 (omega arith)) tt (text_there w is 3 (omega arith)) (text_there w is 3 (omega arith))
valid_objects w is (suc (suc zero)) d h = error_there w is 0 4 (omega arith) (omega arith)
valid_objects w is (suc (suc (suc zero))) d h = error_there w is 2 5 (omega arith) (omega arith)
valid_objects w is (suc (suc (suc (suc zero)))) d h = error_there w is 2 6 (omega arith) (omega arith)
valid_objects w is (suc (suc (suc (suc (suc zero))))) d h = error_there w is 2 7 (omega arith) (omega arith)
valid_objects w is (suc (suc (suc (suc (suc (suc zero)))))) d h =
    function_valid w (built_in print_routine 8) 8 refl refl refl
    (object_there w is 1 (omega arith)) tt (text_there w is 3 (omega arith)) (text_there w is 8 (omega arith))
valid_objects w is (suc (suc (suc (suc (suc (suc (suc k))))))) d h = absurd (omega (arith, h))

valid_globals : (k : ℕ) (d : List ℕ × Global) → k < length globals0
    → IfSome ((slice_index_or globals0 k d).1).value (λ v. IsLive store0 v)
valid_globals zero d h = omega arith
valid_globals (suc zero) d h = tt
valid_globals (suc (suc zero)) d h = tt
valid_globals (suc (suc (suc zero))) d h = tt
valid_globals (suc (suc (suc (suc k)))) d h = absurd (omega (arith, h))

pub world0_valid : (lines : List Line) (turns : ℕ) → IsValid (world0 lines turns)
world0_valid lines turns = record {
  texts = texts_differ;
  length_text = refl;
  symbols = none (λ d. IfSome d (λ n. n < length texts0));
  objects = valid_objects (world0 lines turns) refl;
  no_circle = λ o. (4, chains_end o);
  globals = valid_globals;
  records = λ r name h. absurd (omega (arith, h));
  slots = λ e i h. absurd (omega (arith, h));
  parents = λ e h. absurd (omega (arith, h));
}

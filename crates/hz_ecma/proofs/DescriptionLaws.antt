-- Values that are the same in worlds that agree are described alike.
use Rattle.std.proofs.Common.{◌≡◌, ◌<◌, arith, refl, sym, ap, subst, ◌∙◌, ℕ, zero, suc, ◌==◌, nat_lt, Bool, true, false}
use Rattle.std.proofs.Common.{cond, if◌then◌else◌, List, [], ◌∷◌, ◌++◌, map, length, codes, Option, Some, None}
use Rattle.std.proofs.Common.{slice_index_or}
use Rattle.std.proofs.Math.ListN.{get_or-map}
use Rattle.std.proofs.lemmas.Bool.{ltb-true, ltb-false}
use Rattle.std.proofs.lemmas.Map.Made.{AllPairs-from_IsDistinct}
use Rattle.std.proofs.lemmas.Slice.Eq.{bytes_eq-Decides}
use Rattle.std.specs.Bool.{one_answer}
use Rattle.std.specs.Cmp.{unsigned_Decides}
use Rattle.std.specs.List.{IsDistinct}
use Rattle.std.specs.Map.{lookup}
use Rattle.std.specs.Option.{option_or}
use Rattle.std.specs.Prelude.{All, bytes_eq, nat_eq, option_map, slice_get, unwrap_or}
use Rattle.hz_value.specs.declared.values.Key.TheVariants as key
use Rattle.hz_value.specs.declared.values.Property.{Property}
use Rattle.hz_value.specs.declared.values.Property.TheVariants.{Data, Accessor}
use Rattle.hz_value.specs.declared.values.Value.{Value}
use Rattle.hz_value.specs.declared.values.Value.TheVariants as value
use Rattle.hz_value.specs.operators.Contents.{Text}
use Rattle.hz_value.specs.world.Descriptions.{describe, error_description, object_description, shown, text_held}
use Rattle.hz_value.specs.world.Descriptions.{with_message, symbol_description}
use Rattle.hz_value.specs.world.Errors.{name_name, message_name}
use Rattle.hz_value.specs.world.Objects.{Entries, Object, Kind, Plain, Array, Error, Function, BuiltIn, Generator}
use Rattle.hz_value.specs.world.Objects.{own, own_name, length_name, length_property}
use Rattle.hz_value.specs.world.Store.{Store, text, object, content_of, found, found_in, found_within}
use Rattle.hz_value.specs.world.Valid.{AreLive, IsValidObject}
use Rattle.hz_value.specs.world.World.{World}
use Rattle.hz_ecma.specs.agreement.Agreement.{Matching, Agree}
use Rattle.hz_ecma.specs.agreement.Contents.{SameValue, PropertyContent, DataContent, property_content}
use Rattle.hz_ecma.specs.agreement.Contents.{names_content, ObjectContent, object_content, kind_content}
use Rattle.hz_ecma.specs.agreement.Layouts.{Layout}
use Rattle.hz_ecma.proofs.ErrorLaws.{same_count}
use Rattle.hz_ecma.proofs.SystemLaws.{same_kind}

-- ---- properties by name

-- texts that stand once have one number each
one_number : (ts : List (List ℕ)) → IsDistinct bytes_eq ts → (n k : ℕ) → n < length ts → k < length ts
    → slice_index_or ts n [] ≡ slice_index_or ts k [] → n ≡ k
one_number ts h n k ln lk e = by_order (nat_lt n k) (nat_lt k n) refl refl
  where
    apart : (i j : ℕ) → i < j → j < length ts → slice_index_or ts i [] ≡ slice_index_or ts j [] → ⊥
    apart i j lt below same = AllPairs-from_IsDistinct bytes_eq-Decides ts h i j [] lt below same

    by_order : (b b1 : Bool) → nat_lt n k ≡ b → nat_lt k n ≡ b1 → n ≡ k
    by_order true b1 e1 e2 = absurd (apart n k (ltb-true n k e1) lk e)
    by_order false true e1 e2 = absurd (apart k n (ltb-true k n e2) ln (sym e))
    by_order false false e1 e2 = omega (arith, ltb-false n k e1, ltb-false k n e2)

same_test : (s : Store) → IsDistinct bytes_eq s.texts → (n k : ℕ) → n < length s.texts → k < length s.texts
    → nat_eq n k ≡ bytes_eq (text s n) (text s k)
same_test s h n k ln lk =
    one_answer (nat_eq n k) (bytes_eq (text s n) (text s k)) (unsigned_Decides n k) (
      λ e. one_number s.texts h n k ln lk ((bytes_eq-Decides (text s n) (text s k)).0 e),
      λ e. (bytes_eq-Decides (text s n) (text s k)).1 (ap (text s) e),
    )

chosen : (s : Store) (b b1 : Bool) (p : Property) (rest : Option Property) (rest1 : Option PropertyContent) → b ≡ b1
    → option_map (property_content s) rest ≡ rest1
    → option_map (property_content s) (cond b (Some p) rest) ≡ cond b1 (Some (property_content s p)) rest1
chosen s true true p rest rest1 e h = refl
chosen s false false p rest rest1 e h = h
chosen s true false p rest rest1 e h = absurd (cc)
chosen s false true p rest rest1 e h = absurd (cc)

-- a property is found by its name's number as by its name
by_name : (s : Store) → IsDistinct bytes_eq s.texts → (n : ℕ) → n < length s.texts → (es : Entries)
    → AreLive s (length s.texts) es
    → option_map (property_content s) (lookup (nat_eq n) es) ≡ lookup (bytes_eq (text s n)) (names_content s es)
by_name s h n ln [] live = refl
by_name s h n ln (e ∷ es) live =
    chosen s (nat_eq n e.0) (bytes_eq (text s n) (text s e.0)) e.1 (lookup (nat_eq n) es)
    (lookup (bytes_eq (text s n)) (names_content s es)) (same_test s h n e.0 ln (live 0 e (omega arith)).0)
    (by_name s h n ln es (λ k d lt. live (suc k) d (omega (arith, lt))))

own_is : (kind : Kind) (names : Entries) (k : ℕ) → (k == length_name) ≡ false
    → own_name kind names k ≡ lookup (nat_eq k) names
own_is (Array n writable) names k e =
    ap (λ b. if b then Some (length_property n writable) else lookup (nat_eq k) names) e
own_is Plain names k e = refl
own_is Error names k e = refl
own_is (Function c) names k e = refl
own_is (BuiltIn routine) names k e = refl
own_is (Generator state n) names k e = refl

-- ---- along the prototypes

object_at : {X : Type 0} (P : X → Type 0) (xs : List X) (k : ℕ) (x : X) → All P xs → slice_get xs k ≡ Some x → P x
object_at P [] k x h e = absurd (cc)
object_at P (y ∷ ys) zero x h e = let same : y ≡ x = (cc) in subst P same (h 0 y (omega arith))
object_at P (y ∷ ys) (suc k) x h e = object_at P ys k x (λ i d lt. h (suc i) d (omega (arith, lt))) e

get_map : {X Y : Type 0} (f : X → Y) (xs : List X) (k : ℕ) → slice_get (map f xs) k ≡ option_map f (slice_get xs k)
get_map f [] k = refl
get_map f (x ∷ xs) zero = refl
get_map f (x ∷ xs) (suc k) = get_map f xs k

either : (s : Store) (p q : Option Property)
    → option_map (property_content s) (option_or p q)
    ≡ option_or (option_map (property_content s) p) (option_map (property_content s) q)
either s None q = refl
either s (Some p) q = refl

module _ (layout : Layout) (m : Matching) (w w1 : World) (h : Agree layout m w w1) (k : ℕ) (named : k < 9)
    (other : (k == length_name) ≡ false) where
  same_name : text w.store k ≡ text w1.store k
  same_name = h.start.texts k (omega (arith, named)) ∙ sym (h.start_other.texts k (omega (arith, named)))

  same_own : (o o1 : Object) → IsValidObject w o → IsValidObject w1 o1
      → object_content w.store o ≡ object_content w1.store o1
      → option_map (property_content w.store) (own o (key.Name k))
      ≡ option_map (property_content w1.store) (own o1 (key.Name k))
  same_own o o1 v v1 e =
      ap (option_map (property_content w.store)) (own_is o.kind o.names k other)
      ∙ by_name w.store h.valid.texts k (omega (arith, named, h.start.text_count)) o.names v.names
      ∙ ap (λ es. lookup (bytes_eq (text w.store k)) es) (ap {A = ObjectContent} (λ c. c.names) e)
      ∙ ap (λ t. lookup (bytes_eq t) (names_content w1.store o1.names)) same_name
      ∙ sym (by_name w1.store h.valid_other.texts k (omega (arith, named, h.start_other.text_count)) o1.names v1.names)
      ∙ sym (ap (option_map (property_content w1.store)) (own_is o1.kind o1.names k other))

  Same : Option Property → Option Property → Type 0
  Same p p1 = option_map (property_content w.store) p ≡ option_map (property_content w1.store) p1

  same_in : (y y1 : Option Object) (x : ℕ) (behind behind1 : Option ℕ → Option Property)
      → slice_get w.store.objects x ≡ y → slice_get w1.store.objects x ≡ y1
      → option_map (object_content w.store) y ≡ option_map (object_content w1.store) y1
      → ((q : Option ℕ) → Same (behind q) (behind1 q))
      → Same (found_in behind y (key.Name k)) (found_in behind1 y1 (key.Name k))
  unfolding Same
  same_in None None x behind behind1 e e1 same more = refl
  same_in (Some o) (Some o1) x behind behind1 e e1 same more =
      let alike : object_content w.store o ≡ object_content w1.store o1 = (cc) in
      let prototypes : o.prototype ≡ o1.prototype = ap {A = ObjectContent} (λ c. c.prototype) alike in
      either w.store (own o (key.Name k)) (behind o.prototype)
      ∙ ap (λ p. option_or p (option_map (property_content w.store) (behind o.prototype)))
      (same_own o o1 (object_at (IsValidObject w) w.store.objects x o h.valid.objects e)
      (object_at (IsValidObject w1) w1.store.objects x o1 h.valid_other.objects e1) alike)
      ∙ ap (λ p. option_or (option_map (property_content w1.store) (own o1 (key.Name k))) p)
      (more o.prototype ∙ ap (λ q. option_map (property_content w1.store) (behind1 q)) prototypes)
      ∙ sym (either w1.store (own o1 (key.Name k)) (behind1 o1.prototype))
  same_in None (Some o1) x behind behind1 e e1 same more = absurd (cc)
  same_in (Some o) None x behind behind1 e e1 same more = absurd (cc)

  same_within : (n : ℕ) (o : Option ℕ)
      → Same (found_within n w.store.objects o (key.Name k)) (found_within n w1.store.objects o (key.Name k))
  unfolding Same
  same_within zero o = refl
  same_within (suc n) None = refl
  same_within (suc n) (Some x) =
      same_in (slice_get w.store.objects x) (slice_get w1.store.objects x) x
      (λ q. found_within n w.store.objects q (key.Name k)) (λ q. found_within n w1.store.objects q (key.Name k)) refl
      refl
      (sym (get_map (object_content w.store) w.store.objects x) ∙ ap (λ os. slice_get os x) h.objects
      ∙ get_map (object_content w1.store) w1.store.objects x)
      (λ q. same_within n q)

  same_held : (p p1 : Option Property) → Same p p1 → text_held w.store p ≡ text_held w1.store p1
  unfolding Same
  same_held p p1 e = held_is w.store p ∙ ap held e ∙ sym (held_is w1.store p1)
    where
      held : Option PropertyContent → Option (List ℕ)
      held (Some (DataContent (Text t) writable enumerable configurable)) = Some t
      held c = None

      held_is : (s : Store) (q : Option Property) → text_held s q ≡ held (option_map (property_content s) q)
      held_is s None = refl
      held_is s (Some (Accessor get set enumerable configurable)) = refl
      held_is s (Some (Data (value.Text n) writable enumerable configurable)) = refl
      held_is s (Some (Data value.Undefined writable enumerable configurable)) = refl
      held_is s (Some (Data value.Null writable enumerable configurable)) = refl
      held_is s (Some (Data (value.Bool b) writable enumerable configurable)) = refl
      held_is s (Some (Data (value.Num z) writable enumerable configurable)) = refl
      held_is s (Some (Data (value.Symbol n) writable enumerable configurable)) = refl
      held_is s (Some (Data (value.Object n) writable enumerable configurable)) = refl

  same_shown : (o : ℕ) → shown w.store o k ≡ shown w1.store o k
  same_shown o =
      same_held (found w.store o (key.Name k)) (found w1.store o (key.Name k))
      (subst (λ n. Same (found w.store o (key.Name k)) (found_within n w1.store.objects (Some o) (key.Name k)))
      (same_count layout m w w1 h) (same_within (length w.store.objects) (Some o)))

-- ---- descriptions

module _ (layout : Layout) (m : Matching) (w w1 : World) (h : Agree layout m w w1) where
  same_error_description : (o : ℕ) → error_description w.store o ≡ error_description w1.store o
  same_error_description o =
      ap (λ t. with_message (unwrap_or t (codes "Error")) (unwrap_or (shown w.store o message_name) []))
      (same_shown layout m w w1 h name_name (omega arith) refl o)
      ∙ ap (λ t. with_message (unwrap_or (shown w1.store o name_name) (codes "Error")) (unwrap_or t []))
      (same_shown layout m w w1 h message_name (omega arith) refl o)

  same_object : (o : ℕ) (kind kind1 : Kind) → kind_content kind ≡ kind_content kind1
      → object_description w.store o kind ≡ object_description w1.store o kind1
  same_object o Error Error e = same_error_description o
  same_object o (Function c) (Function c1) e = refl
  same_object o (BuiltIn routine) (BuiltIn routine1) e = refl
  same_object o Error kind1 e = absurd (cc)
  same_object o (Function c) kind1 e = absurd (cc)
  same_object o (BuiltIn routine) kind1 e = absurd (cc)
  same_object o kind Error e = absurd (cc)
  same_object o kind (Function c1) e = absurd (cc)
  same_object o kind (BuiltIn routine1) e = absurd (cc)
  same_object o kind kind1 e = refl

  same_symbol : (n : ℕ)
      → symbol_description w.store (slice_index_or w.store.symbols n None)
      ≡ symbol_description w1.store (slice_index_or w1.store.symbols n None)
  same_symbol n =
      is w.store (slice_index_or w.store.symbols n None)
      ∙ ap (λ d. unwrap_or d [])
      (sym (get_or-map (option_map (text w.store)) w.store.symbols n None)
      ∙ ap (λ ds. slice_index_or ds n None) h.symbols
      ∙ get_or-map (option_map (text w1.store)) w1.store.symbols n None)
      ∙ sym (is w1.store (slice_index_or w1.store.symbols n None))
    where
      is : (s : Store) (d : Option ℕ) → symbol_description s d ≡ unwrap_or (option_map (text s) d) []
      is s None = refl
      is s (Some n) = refl

  same_content : (v v1 : Value) → content_of w.store v ≡ content_of w1.store v1
      → describe w.store v ≡ describe w1.store v1
  same_content (value.Object o) (value.Object o1) e =
      let is : o ≡ o1 = (cc) in
      subst (λ x. object_description w.store o (object w.store o).kind
      ≡ object_description w1.store x (object w1.store x).kind) is
      (same_object o (object w.store o).kind (object w1.store o).kind (same_kind layout m w w1 o h))
  same_content (value.Symbol n) (value.Symbol n1) e =
      let is : n ≡ n1 = (cc) in
      ap (λ d. codes "Symbol(" ++ d ++ codes ")")
      (same_symbol n ∙ ap (λ x. symbol_description w1.store (slice_index_or w1.store.symbols x None)) is)
  same_content (value.Text n) (value.Text n1) e = (cc)
  same_content (value.Num z) (value.Num z1) e = let is : z ≡ z1 = (cc) in ap (λ x. describe w1.store (value.Num x)) is
  same_content (value.Bool b) (value.Bool b1) e =
      let is : b ≡ b1 = (cc) in ap (λ x. describe w1.store (value.Bool x)) is
  same_content value.Undefined value.Undefined e = refl
  same_content value.Null value.Null e = refl
  same_content v v1 e = absurd (cc)

pub same_description : (layout : Layout) (m : Matching) (w w1 : World) (v v1 : Value) → Agree layout m w w1
    → SameValue w.store w1.store v v1 → describe w.store v ≡ describe w1.store v1
same_description layout m w w1 v v1 h same = same_content layout m w w1 h v v1 same.content

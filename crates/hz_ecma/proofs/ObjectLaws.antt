-- A valid world with one object more is valid, where that object is.
use Rattle.std.proofs.Common.{◌≡◌, ◌<◌, ◌≤◌, arith, refl, sym, ap, subst, ◌∙◌, ℕ, zero, suc, Bool, true, false, nat_lt}
use Rattle.std.proofs.Common.{◌+◌, List, [], ◌∷◌, ◌++◌, length, Option, Some, None}
use Rattle.std.proofs.lemmas.Bool.{ltb-true, ltb-false}
use Rattle.std.proofs.lemmas.List.{length_push}
use Rattle.std.proofs.lemmas.List.Elements.{All-push}
use Rattle.std.proofs.lemmas.Option.{slice_get_past, unwrap_or-slice_get}
use Rattle.std.specs.Prelude.{IfSome, All, slice_get, unwrap_or}
use Rattle.hz_value.specs.declared.values.Value.{Value}
use Rattle.hz_value.specs.declared.values.Value.TheVariants as value
use Rattle.hz_value.specs.declared.values.Property.{Property}
use Rattle.hz_value.specs.declared.values.Property.TheVariants.{Data, Accessor}
use Rattle.hz_value.specs.world.Objects.{Object, Entries}
use Rattle.hz_value.specs.world.Records.{Binding}
use Rattle.hz_value.specs.world.Store.{Store, with_object}
use Rattle.hz_value.specs.world.Valid.{IsLive, IsLiveObject, IsLiveProperty, IsLiveBinding, AreLive, IsValidObject}
use Rattle.hz_value.specs.world.Valid.{IsValid, ends, ends_at}
use Rattle.hz_value.specs.world.World.{World}

-- ---- what is live

module _ (s : Store) (new : Object) where
  more : length (s.objects ++ new ∷ []) ≡ length s.objects + 1
  more = length_push s.objects new

  reference_more : (d : Option ℕ) → IsLiveObject s d → IsLiveObject (with_object new s) d
  reference_more None h = tt
  reference_more (Some n) h = omega (arith, h, more)

  live_more : (v : Value) → IsLive s v → IsLive (with_object new s) v
  live_more (value.Object n) h = omega (arith, h, more)
  live_more value.Undefined h = tt
  live_more value.Null h = tt
  live_more (value.Bool b) h = tt
  live_more (value.Num z) h = tt
  live_more (value.Symbol n) h = h
  live_more (value.Text n) h = h

  property_more : (p : Property) → IsLiveProperty s p → IsLiveProperty (with_object new s) p
  property_more (Data v writable enumerable configurable) h = live_more v h
  property_more (Accessor get set enumerable configurable) h = (reference_more get h.0, reference_more set h.1)

  entries_more : (n : ℕ) (es : Entries) → AreLive s n es → AreLive (with_object new s) n es
  entries_more n es h = λ k d lt. ((h k d lt).0, property_more _ (h k d lt).1)

  held_more : (v : Option Value) → IfSome v (λ x. IsLive s x) → IfSome v (λ x. IsLive (with_object new s) x)
  held_more None h = tt
  held_more (Some v) h = live_more v h

  binding_more : (b : Option Binding) → IsLiveBinding s b → IsLiveBinding (with_object new s) b
  binding_more None h = tt
  binding_more (Some x) h = held_more x h

abbrev pub with_new : Object → World → World
with_new new w = record w { store = with_object new w.store }

object_more : (w : World) (new o : Object) → IsValidObject w o → IsValidObject (with_new new w) o
object_more w new o h = record {
  prototype = reference_more w.store new o.prototype h.prototype;
  kind = h.kind;
  elements = entries_more w.store new 4294967295 o.elements h.elements;
  names = entries_more w.store new (length w.store.texts) o.names h.names;
  symbols = entries_more w.store new (length w.store.symbols) o.symbols h.symbols;
}

-- ---- chains of prototypes

same_get : (os : List Object) (new : Object) (p : ℕ) → p < length os → slice_get (os ++ new ∷ []) p ≡ slice_get os p
same_get [] new p lt = absurd (omega (arith, lt))
same_get (o ∷ os) new zero lt = refl
same_get (o ∷ os) new (suc p) lt = same_get os new p (omega (arith, lt))

last_get : (os : List Object) (new : Object) → slice_get (os ++ new ∷ []) (length os) ≡ Some new
last_get [] new = refl
last_get (o ∷ os) new = last_get os new

chain_at : (old later : Option ℕ → Bool) (y : Option Object)
    → ((o : Object) → y ≡ Some o → old o.prototype ≡ true → later o.prototype ≡ true)
    → ends_at old y ≡ true → ends_at later y ≡ true
chain_at old later None go h = refl
chain_at old later (Some o) go h = go o refl h

chain_more : (os : List Object) (new : Object) → All (λ o. IfSome o.prototype (λ p. p < length os)) os → (n : ℕ)
    (x : Option ℕ) → IfSome x (λ p. p < length os) → ends n os x ≡ true → ends n (os ++ new ∷ []) x ≡ true
chain_more os new live zero None lt h = refl
chain_more os new live (suc n) None lt h = refl
chain_more os new live zero (Some p) lt h = absurd (cc)
chain_more os new live (suc n) (Some p) lt h =
    subst (λ y. ends_at (λ q. ends n (os ++ new ∷ []) q) y ≡ true) (sym (same_get os new p lt))
    (chain_at (λ q. ends n os q) (λ q. ends n (os ++ new ∷ []) q) (slice_get os p)
    (λ o e k. chain_more os new live n o.prototype
    (subst (λ y. IfSome y.prototype (λ q. q < length os))
    (sym (unwrap_or-slice_get os p o) ∙ ap (λ y. unwrap_or y o) e) (live p o lt)) k) h)

Chain : List Object → Option ℕ → Type 0
Chain os x = (n : ℕ) × (ends n os x ≡ true)

module _ (w : World) (new : Object) (valid : IsValid w) where
  live_prototypes : All (λ o. IfSome o.prototype (λ p. p < length w.store.objects)) w.store.objects
  live_prototypes = λ k d lt. (valid.objects k d lt).prototype

  chain_of : (x : Option ℕ) → IsLiveObject w.store x → Chain (w.store.objects ++ new ∷ []) x
  unfolding Chain
  chain_of None lt = (0, refl)
  chain_of (Some p) lt = (
    (valid.no_circle p).0,
    chain_more w.store.objects new live_prototypes (valid.no_circle p).0 (Some p) lt
        (valid.no_circle p).1,
  )

  chain_behind : (y : Option Object) (x : ℕ) → slice_get (w.store.objects ++ new ∷ []) x ≡ y
      → ((o : Object) → y ≡ Some o → Chain (w.store.objects ++ new ∷ []) o.prototype)
      → Chain (w.store.objects ++ new ∷ []) (Some x)
  unfolding Chain
  chain_behind None x e go =
      (1, subst (λ y. ends_at (λ q. ends 0 (w.store.objects ++ new ∷ []) q) y ≡ true) (sym e) refl)
  chain_behind (Some o) x e go = (
    suc (go o refl).0,
    subst (λ y. ends_at (λ q. ends (go o refl).0 (w.store.objects ++ new ∷ []) q) y ≡ true) (sym e) (go o refl).1,
  )

  past_last : (b : Bool) (x : ℕ) → nat_lt (length w.store.objects) x ≡ b → length w.store.objects ≤ x
      → IsLiveObject w.store new.prototype → Chain (w.store.objects ++ new ∷ []) (Some x)
  past_last true x e le live =
      chain_behind None x
      (slice_get_past (w.store.objects ++ new ∷ []) x
      (omega (arith, length_push w.store.objects new, ltb-true (length w.store.objects) x e)))
      (λ o h. absurd (cc))
  past_last false x e le live =
      chain_behind (Some new) x
      (ap (λ k. slice_get (w.store.objects ++ new ∷ []) k) (last_is x e le) ∙ last_get w.store.objects new)
      (λ o h. subst (λ y. Chain (w.store.objects ++ new ∷ []) y) (same_new o h) (chain_of new.prototype live))
    where
      last_is : (k : ℕ) → nat_lt (length w.store.objects) k ≡ false → length w.store.objects ≤ k
          → k ≡ length w.store.objects
      last_is k h g = omega (arith, ltb-false (length w.store.objects) k h, g)

      same_new : (o : Object) → Some new ≡ Some o → new.prototype ≡ o.prototype
      same_new o h = let e : new ≡ o = (cc) in ap {A = Object} (λ y. y.prototype) e

  chains : (b : Bool) (x : ℕ) → nat_lt x (length w.store.objects) ≡ b → IsLiveObject w.store new.prototype
      → Chain (w.store.objects ++ new ∷ []) (Some x)
  chains true x e live = chain_of (Some x) (ltb-true x (length w.store.objects) e)
  chains false x e live =
      past_last (nat_lt (length w.store.objects) x) x refl (ltb-false x (length w.store.objects) e) live

  -- the world with the new object
  pub valid_object : IsValidObject (with_new new w) new → IsLiveObject w.store new.prototype → IsValid (with_new new w)
  unfolding Chain
  valid_object h live = record {
    texts = valid.texts;
    length_text = valid.length_text;
    symbols = valid.symbols;
    objects = All-push (IsValidObject (with_new new w)) w.store.objects new
        (λ k d lt. object_more w new _ (valid.objects k d lt)) h;
    no_circle = λ x. chains (nat_lt x (length w.store.objects)) x refl live;
    globals = λ k d lt. held_more w.store new _ (valid.globals k d lt);
    records = λ r name lt. binding_more w.store new _ (valid.records r name lt);
    slots = λ e i lt. binding_more w.store new _ (valid.slots e i lt);
    parents = valid.parents;
  }

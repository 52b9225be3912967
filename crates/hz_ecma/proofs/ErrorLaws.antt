-- Worlds agree still where an error of the engine is raised in both.
use Rattle.std.proofs.Common.{◌≡◌, ◌<◌, ◌+◌, arith, refl, sym, ap, ◌∙◌, ℕ, zero, suc, Bool, true, false, not}
use Rattle.std.proofs.Common.{◌||◌, cond, if◌then◌else◌, List, [], ◌∷◌, ◌++◌, length, Some, None}
use Rattle.std.proofs.Common.{slice_index_or}
use Rattle.std.proofs.Math.ListN.{get_or-append}
use Rattle.std.proofs.Math.Seq.{get_or-append_seam}
use Rattle.std.proofs.lemmas.List.{map-append, length-map, length_push}
use Rattle.std.proofs.lemmas.Slice.Eq.{bytes_eq-Decides}
use Rattle.std.specs.List.{list_any, position_or_len}
use Rattle.std.specs.Prelude.{All, bytes_eq}
use Rattle.hz_value.specs.operators.Contents.{Text}
use Rattle.hz_value.specs.operators.Contents as content
use Rattle.hz_value.specs.operators.Messages.{Message, ErrorKind, TypeError, RangeError, ReferenceError, kind_of}
use Rattle.hz_value.specs.operators.Messages.{text_of}
use Rattle.hz_value.specs.world.Errors.{error_object, with_error, prototype_of}
use Rattle.hz_value.specs.world.Objects.{Object, Kind, Plain, blank}
use Rattle.hz_value.specs.world.Start.{store0}
use Rattle.hz_value.specs.world.Store.{Store, text, number_of, with_text}
use Rattle.hz_value.specs.world.Valid.{IsValid, IsLiveProperty}
use Rattle.hz_value.specs.world.World.{World, keeping, raised}
use Rattle.hz_ecma.specs.agreement.Agreement.{Matching, SameClosures, HasStart, Agree}
use Rattle.hz_ecma.specs.agreement.Contents.{DataContent, ErrorContent, ObjectContent, object_content, objects_content}
use Rattle.hz_ecma.specs.agreement.Layouts.{Layout}
use Rattle.hz_ecma.specs.agreement.Replies.{Later, is_array}
use Rattle.hz_ecma.proofs.AgreeLaws.{agree_counts}
use Rattle.hz_ecma.proofs.ContentLaws.{Grows, grows_text, objects_stay, symbols_stay, globals_stay}
use Rattle.hz_ecma.proofs.ObjectLaws.{valid_object}
use Rattle.hz_ecma.proofs.StoreLaws.{in_store, agree_store}
use Rattle.hz_ecma.proofs.TextLaws.{texts_more, start_text, valid_text}

-- ---- a text that is kept

found_at : (t x : List ℕ) (xs : List (List ℕ)) (b : Bool) → (b ≡ true → t ≡ x)
    → (list_any (bytes_eq t) xs ≡ true → slice_index_or xs (position_or_len (bytes_eq t) xs) [] ≡ t)
    → (b || list_any (bytes_eq t) xs) ≡ true
    → slice_index_or (x ∷ xs) (cond (not b) (1 + position_or_len (bytes_eq t) xs) 0) [] ≡ t
found_at t x xs true same rest h = sym (same refl)
found_at t x xs false same rest h =
    let e : 1 + position_or_len (bytes_eq t) xs ≡ suc (position_or_len (bytes_eq t) xs) = omega arith in
    ap (λ k. slice_index_or (x ∷ xs) k []) e ∙ rest h

found : (t : List ℕ) (ts : List (List ℕ)) → list_any (bytes_eq t) ts ≡ true
    → slice_index_or ts (position_or_len (bytes_eq t) ts) [] ≡ t
found t [] h = absurd (cc)
found t (x ∷ xs) h = found_at t x xs (bytes_eq t x) (bytes_eq-Decides t x).0 (λ k. found t xs k) h

below_at : (t : List ℕ) (xs : List (List ℕ)) (b : Bool)
    → (list_any (bytes_eq t) xs ≡ true → position_or_len (bytes_eq t) xs < length xs)
    → (b || list_any (bytes_eq t) xs) ≡ true
    → cond (not b) (1 + position_or_len (bytes_eq t) xs) 0 < suc (length xs)
below_at t xs true rest h = omega arith
below_at t xs false rest h = omega (arith, rest h)

below : (t : List ℕ) (ts : List (List ℕ)) → list_any (bytes_eq t) ts ≡ true
    → position_or_len (bytes_eq t) ts < length ts
below t [] h = absurd (cc)
below t (x ∷ xs) h = below_at t xs (bytes_eq t x) (λ k. below t xs k) h

past_at : (t : List ℕ) (xs : List (List ℕ)) (b : Bool)
    → (list_any (bytes_eq t) xs ≡ false → position_or_len (bytes_eq t) xs ≡ length xs)
    → (b || list_any (bytes_eq t) xs) ≡ false → cond (not b) (1 + position_or_len (bytes_eq t) xs) 0 ≡ suc (length xs)
past_at t xs true rest h = absurd (cc)
past_at t xs false rest h = omega (arith, rest h)

past : (t : List ℕ) (ts : List (List ℕ)) → list_any (bytes_eq t) ts ≡ false
    → position_or_len (bytes_eq t) ts ≡ length ts
past t [] h = refl
past t (x ∷ xs) h = past_at t xs (bytes_eq t x) (λ k. past t xs k) h

kept_if : (t : List ℕ) (ts : List (List ℕ)) (b : Bool) → list_any (bytes_eq t) ts ≡ b
    → slice_index_or (if b then ts else ts ++ t ∷ []) (number_of ts t) [] ≡ t
kept_if t ts true e = found t ts e
kept_if t ts false e =
    ap (λ k. slice_index_or (ts ++ t ∷ []) k []) (past t ts e) ∙ get_or-append_seam ts t [] []

live_if : (t : List ℕ) (ts : List (List ℕ)) (b : Bool) → list_any (bytes_eq t) ts ≡ b
    → number_of ts t < length (if b then ts else ts ++ t ∷ [])
live_if t ts true e = below t ts e
live_if t ts false e = omega (arith, past t ts e, length_push ts t)

-- the text with this number is the one that is kept
pub text_kept : (s : Store) (t : List ℕ) → text (with_text t s) (number_of s.texts t) ≡ t
text_kept s t = kept_if t s.texts (list_any (bytes_eq t) s.texts) refl

pub text_live : (s : Store) (t : List ℕ) → number_of s.texts t < length (with_text t s).texts
text_live s t = live_if t s.texts (list_any (bytes_eq t) s.texts) refl

-- ---- an object more

-- what holds of the kinds of objects under the same numbers holds still with one object more on both sides
pub appended : (P : Kind → Kind → Type 0) (os os1 : List Object) (new new1 : Object) → length os ≡ length os1
    → ((o : ℕ) → P (slice_index_or os o (blank None Plain)).kind (slice_index_or os1 o (blank None Plain)).kind)
    → P new.kind new1.kind → (o : ℕ)
    → P (slice_index_or (os ++ new ∷ []) o (blank None Plain)).kind
    (slice_index_or (os1 ++ new1 ∷ []) o (blank None Plain)).kind
appended P [] [] new new1 e h k zero = k
appended P [] [] new new1 e h k (suc o) = h (suc o)
appended P (x ∷ os) (x1 ∷ os1) new new1 e h k zero = h zero
appended P (x ∷ os) (x1 ∷ os1) new new1 e h k (suc o) =
    appended P os os1 new new1 (omega (arith, e)) (λ n. h (suc n)) k o
appended P [] (x1 ∷ os1) new new1 e h k o = absurd (omega (arith, e))
appended P (x ∷ os) [] new new1 e h k o = absurd (omega (arith, e))

one : {X : Type 0} (P : X → Type 0) (x : X) → P x → All P (x ∷ [])
one P x p zero d lt = p
one P x p (suc k) d lt = absurd (omega (arith, lt))

-- ---- an error more

abbrev pub new_of : Message → Store → Object
new_of m s = error_object (kind_of m) (number_of s.texts (text_of m))

prototype_below : (k : ErrorKind) → prototype_of k < 7
prototype_below TypeError = omega arith
prototype_below RangeError = omega arith
prototype_below ReferenceError = omega arith

grows_error : (m : Message) (s : Store) → Grows s (with_error m s)
grows_error m s = record { texts = λ n lt. (grows_text (text_of m) s).texts n lt }

start_error : (m : Message) (s : Store) → HasStart s → HasStart (with_error m s)
start_error m s h = record {
  objects = omega (arith, h.objects, length_push s.objects (new_of m s));
  text_count = (start_text s (text_of m) h).text_count;
  texts = (start_text s (text_of m) h).texts;
}

valid_error : (m : Message) (w : World) → HasStart w.store → IsValid w → IsValid (in_store (with_error m w.store) w)
valid_error m w start valid =
    valid_object (keeping (Text (text_of m)) w) (new_of m w.store) (valid_text w (text_of m) start valid)
    (record {
      prototype = omega (
        arith,
        prototype_below (kind_of m),
        start.objects,
        length_push w.store.objects
            (new_of m w.store),
      );
      kind = tt;
      elements = λ k d lt. absurd (omega (arith, lt));
      names = one (λ e. (e.0 < length (with_text (text_of m) w.store).texts)
          × IsLiveProperty (with_error m w.store) e.1) _
          (omega (arith, (start_text w.store (text_of m) start).text_count), text_live w.store (text_of m));
      symbols = λ k d lt. absurd (omega (arith, lt));
    })
    (omega (arith, prototype_below (kind_of m), start.objects))

abbrev content_by : ErrorKind → (name message : List ℕ) → ObjectContent
content_by k name message = record {
  prototype = Some (prototype_of k);
  kind = ErrorContent;
  extensible = true;
  elements = [];
  names = (name, DataContent (content.Text message) true false true) ∷ [];
  symbols = [];
}

new_content : (m : Message) (s : Store) → HasStart s
    → object_content (with_error m s) (new_of m s) ≡ content_by (kind_of m) (text store0 2) (text_of m)
new_content m s h =
    ap (λ t. content_by (kind_of m) t (text (with_error m s) (number_of s.texts (text_of m))))
    ((start_text s (text_of m) h).texts 2 (omega arith))
    ∙ ap (λ t. content_by (kind_of m) (text store0 2) t) (text_kept s (text_of m))

objects_error : (m : Message) (w : World) → HasStart w.store → IsValid w
    → objects_content (with_error m w.store)
    ≡ objects_content w.store ++ content_by (kind_of m) (text store0 2) (text_of m) ∷ []
objects_error m w start valid =
    map-append (object_content (with_error m w.store)) w.store.objects (new_of m w.store ∷ [])
    ∙ ap (λ os. os ++ object_content (with_error m w.store) (new_of m w.store) ∷ [])
    (objects_stay w (with_error m w.store) (grows_error m w.store) valid)
    ∙ ap (λ c. objects_content w.store ++ c ∷ []) (new_content m w.store start)

-- both have as many objects
pub same_count : (layout : Layout) (m : Matching) (w w1 : World) → Agree layout m w w1
    → length w.store.objects ≡ length w1.store.objects
same_count layout m w w1 h =
    sym (length-map w.store.objects (object_content w.store)) ∙ ap (λ os. length os) h.objects
    ∙ length-map w1.store.objects (object_content w1.store)

agree_error : (layout : Layout) (m : Matching) (w w1 : World) (message : Message) → Agree layout m w w1
    → Agree layout m (in_store (with_error message w.store) w) (in_store (with_error message w1.store) w1)
agree_error layout m w w1 message h =
    agree_store layout m w w1 (with_error message w.store) (with_error message w1.store) h
    (grows_error message w.store) (grows_error message w1.store) (valid_error message w h.start h.valid)
    (valid_error message w1 h.start_other h.valid_other) (start_error message w.store h.start)
    (start_error message w1.store h.start_other)
    (objects_error message w h.start h.valid
    ∙ ap (λ os. os ++ content_by (kind_of message) (text store0 2) (text_of message) ∷ []) h.objects
    ∙ sym (objects_error message w1 h.start_other h.valid_other))
    (appended (SameClosures layout m w w1) w.store.objects w1.store.objects (new_of message w.store)
    (new_of message w1.store) (same_count layout m w w1 h) h.closures tt)
    (symbols_stay w (with_error message w.store) (grows_error message w.store) h.valid ∙ h.symbols
    ∙ sym (symbols_stay w1 (with_error message w1.store) (grows_error message w1.store) h.valid_other))
    (globals_stay w (with_error message w.store) (grows_error message w.store) h.valid ∙ h.globals
    ∙ sym (globals_stay w1 (with_error message w1.store) (grows_error message w1.store) h.valid_other))

-- both raise an error of this message, each at a place of its own
pub agree_raised : (layout : Layout) (m : Matching) (w w1 : World) (message : Message) (place place1 : ℕ)
    → Agree layout m w w1 → Agree layout m (raised place message w) (raised place1 message w1)
agree_raised layout m w w1 message place place1 h =
    agree_counts layout m (in_store (with_error message w.store) w) (in_store (with_error message w1.store) w1)
    w.turns w1.turns w.calls w1.calls place place1 h.turns h.calls (agree_error layout m w w1 message h)

pub later_raised : (w : World) (message : Message) (place : ℕ) → Later w (raised place message w)
later_raised w message place = record {
  texts = (grows_error message w.store).texts;
  text_count = texts_more (list_any (bytes_eq (text_of message)) w.store.texts) w.store.texts (text_of message);
  symbols = omega arith;
  objects = omega (arith, length_push w.store.objects (new_of message w.store));
  arrays = λ o lt is.
      ap {A = Object} (λ x. is_array x.kind)
      (get_or-append w.store.objects (new_of message w.store ∷ []) (blank None Plain) o lt)
      ∙ is;
  record_count = omega arith;
  scopes = λ r lt. refl;
  names = λ r name lt. refl;
  environment_count = omega arith;
  parents = λ e lt. refl;
  slots = λ e i lt. refl;
}

-- What is told of objects.
use Rattle.std.proofs.Common.{◌≡◌, ℕ, zero, suc, List, [], ◌∷◌, ◌++◌, map, refl, ap, ◌∙◌, sym, Some, None, Option, length, arith}
use Rattle.std.specs.Prelude.{codes, slice_get, slice_index_or, unwrap_or}
use Rattle.hz_value.specs.declared.values.Value.TheVariants as value
use Rattle.hz_value.specs.declared.values.Key.TheVariants as key
use Rattle.hz_value.specs.world.Objects.{Object, Error, Plain, blank}
use Rattle.hz_value.specs.world.Errors.{hidden_property, name_name, message_name}
use Rattle.hz_value.specs.world.Store.{object, found, found_in, found_within}
use Rattle.hz_value.specs.world.Start.{objects0}
use Rattle.hz_value.specs.world.Descriptions.{object_description, text_held, with_message}
use Rattle.hz_machine.specs.declared.errors.ErrorKind.{ErrorKind}
use Rattle.hz_machine.specs.declared.errors.ErrorKind.TheVariants.{TypeError, ReferenceError}
use Rattle.hz_machine.specs.declared.errors.MadeError.{MadeError}
use Rattle.hz_machine.specs.Errors.{object_of}
use Rattle.hz_machine.specs.Kept.{KeptWorld, store_of}
use Rattle.hz_machine.specs.Descriptions.{name_number, error_text, told_error, described}

-- an error among the objects
pub record At (es : List MadeError) (n : ℕ) (e : MadeError) : Type 0 where
  pub get : slice_get (map object_of es) n ≡ Some (object_of e)
  pub index : slice_index_or (map object_of es) n (blank None Plain) ≡ object_of e

error_there : (es : List MadeError) (n : ℕ) (e : MadeError) → slice_get es n ≡ Some e → At es n e
error_there [] n e is = cc
error_there (x ∷ es) zero e is = let same : x ≡ e = cc in
    record { get = ap (λ y. Some (object_of y)) same; index = ap object_of same }
error_there (x ∷ es) (suc n) e is =
    record { get = (error_there es n e is).get; index = (error_there es n e is).index }

none_there : (es : List MadeError) (n : ℕ) → slice_get es n ≡ None →
    slice_index_or (map object_of es) n (blank None Plain) ≡ blank None Plain
none_there [] n is = refl
none_there (x ∷ es) zero is = cc
none_there (x ∷ es) (suc n) is = none_there es n is

-- what is found of an error: its message, and the name of its prototype
module _ (es : List MadeError) (m : ℕ) where
  abbrev os : List Object
  os = objects0 ++ map object_of es

  name_found : (kind : ErrorKind) (t : ℕ) →
      found_in (λ p. found_within (suc m) os p (key.Name name_name)) (Some (object_of (record { kind = kind; text = t })))
      (key.Name name_name) ≡ Some (hidden_property (value.Text (name_number kind)))
  name_found TypeError t = refl
  name_found ReferenceError t = refl

  message_found : (kind : ErrorKind) (t : ℕ) →
      found_in (λ p. found_within (suc m) os p (key.Name message_name))
      (Some (object_of (record { kind = kind; text = t }))) (key.Name message_name)
      ≡ Some (hidden_property (value.Text t))
  message_found TypeError t = refl
  message_found ReferenceError t = refl

error_described : (k : KeptWorld) (n : ℕ) (e : MadeError) → slice_get k.errors n ≡ Some e →
    object_description (store_of k) (suc (suc (suc (suc (suc (suc (suc n))))))) Error ≡ error_text (store_of k) e
error_described k n e is =
    let there : At k.errors n e = error_there k.errors n e is in
    let o : ℕ = suc (suc (suc (suc (suc (suc (suc n)))))) in
    let m : ℕ = suc (suc (suc (suc (suc (length (map object_of k.errors)))))) in
    let all : List Object = objects0 ++ map object_of k.errors in
    let name : found (store_of k) o (key.Name name_name) ≡ Some (hidden_property (value.Text (name_number e.kind))) =
    ap (λ x. found_in (λ p. found_within (suc m) all p (key.Name name_name)) x (key.Name name_name)) there.get
    ∙ name_found k.errors m e.kind e.text in
    let message : found (store_of k) o (key.Name message_name) ≡ Some (hidden_property (value.Text e.text)) =
    ap (λ x. found_in (λ p. found_within (suc m) all p (key.Name message_name)) x (key.Name message_name)) there.get
    ∙ message_found k.errors m e.kind e.text in
    ap (λ x. with_message (unwrap_or (text_held (store_of k) x) (codes "Error"))
    (unwrap_or (text_held (store_of k) (found (store_of k) o (key.Name message_name))) [])) name
    ∙ ap (λ x. with_message (unwrap_or (text_held (store_of k) (Some (hidden_property (value.Text (name_number e.kind)))))
    (codes "Error")) (unwrap_or (text_held (store_of k) x) [])) message

pub object_described : (k : KeptWorld) (o : ℕ) →
    object_description (store_of k) o (object (store_of k) o).kind ≡ described k o
object_described k zero = refl
object_described k (suc zero) = refl
object_described k (suc (suc zero)) = refl
object_described k (suc (suc (suc zero))) = refl
object_described k (suc (suc (suc (suc zero)))) = refl
object_described k (suc (suc (suc (suc (suc zero))))) = refl
object_described k (suc (suc (suc (suc (suc (suc zero)))))) = refl
object_described k (suc (suc (suc (suc (suc (suc (suc n))))))) = by (slice_get k.errors n) refl where
  told : described k (suc (suc (suc (suc (suc (suc (suc n))))))) ≡ told_error (store_of k) (slice_get k.errors n)
  told = grind arith

  by : (found : Option MadeError) → slice_get k.errors n ≡ found →
      object_description (store_of k) (suc (suc (suc (suc (suc (suc (suc n)))))))
      (object (store_of k) (suc (suc (suc (suc (suc (suc (suc n)))))))).kind
      ≡ described k (suc (suc (suc (suc (suc (suc (suc n)))))))
  by None is = ap (λ x. object_description (store_of k) (suc (suc (suc (suc (suc (suc (suc n))))))) x.kind)
      (none_there k.errors n is) ∙ sym (told ∙ ap (told_error (store_of k)) is)
  by (Some e) is = ap (λ x. object_description (store_of k) (suc (suc (suc (suc (suc (suc (suc n))))))) x.kind)
      (error_there k.errors n e is).index ∙ error_described k n e is
      ∙ sym (told ∙ ap (told_error (store_of k)) is)

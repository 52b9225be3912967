-- Bytes that go out piece by piece.
use Rattle.std.proofs.Common.{◌≡◌, ◌∙◌, ℕ, zero, suc, ◌+◌, List, [], ◌∷◌, ◌++◌, length, take, Option, None, Some, Result, Ok}
use Rattle.std.proofs.Common.{Err, refl, sym, ap, subst, append_assoc, append-nil}
use Rattle.std.proofs.Math.Seq.{take-append-add}
use Rattle.std.specs.Prelude.{IsErr}
use Rattle.std.specs.Io.KnownBytes.{Appends}
use Rattle.hz_io.specs.Causes.{Rose}
use Rattle.hermes.proofs.Streams.{appends_more}
use Rattle.hermes.specs.Effects.{Sends}
use Rattle.hermes.specs.Printing.{AppendsPrefix}

appends_nothing : (o : Option (List ℕ)) → Appends o o []
appends_nothing None = tt
appends_nothing (Some x) = sym (append-nil x)

-- a front of a piece is a front of what begins with it
front_of_piece : (k : ℕ) (piece rest : List ℕ) → (n : ℕ) × (take n (piece ++ rest) ≡ take k piece)
front_of_piece zero [] rest = (0, refl)
front_of_piece (suc k) [] rest = (0, refl)
front_of_piece zero (b ∷ piece) rest = (0, refl)
front_of_piece (suc k) (b ∷ piece) rest =
    let more = front_of_piece k piece rest in (suc more.0, ap (λ bs. b ∷ bs) more.1)

-- some of the bytes went out, and these are left
pub record SentBefore (old new : Option (List ℕ)) (before now : ℕ) (rest whole : List ℕ) : Type 0 where
  pub sent : List ℕ
  pub appends : Appends old new sent
  pub same : now ≡ before
  pub parts : sent ++ rest ≡ whole

pub sent_nothing : (o : Option (List ℕ)) (n : ℕ) (whole : List ℕ) → SentBefore o o n n whole whole
sent_nothing o n whole = record { sent = []; appends = appends_nothing o; same = refl; parts = refl }

module _ (a b : Option (List ℕ)) (m n : ℕ) where
  -- nothing is left
  pub sent_all : (whole : List ℕ) → SentBefore a b m n [] whole → Appends a b whole × (n ≡ m)
  sent_all whole sent = (
    subst (λ bytes. Appends a b bytes) (sym (append-nil sent.sent) ∙ sent.parts) sent.appends,
    sent.same,
  )

module _ (a b c : Option (List ℕ)) (m n k : ℕ) where
  -- a piece more
  pub sent_more : (piece rest whole : List ℕ) → SentBefore a b m n (piece ++ rest) whole
      → Appends b c piece → k ≡ n → SentBefore a c m k rest whole
  sent_more piece rest whole sent more same = record {
    sent = sent.sent ++ piece;
    appends = appends_more a b c sent.sent piece sent.appends more;
    same = same ∙ sent.same;
    parts = append_assoc sent.sent piece rest ∙ sent.parts;
  }

  -- what is left goes out, or not
  pub sends_behind : {T E : Type 0} (r : Result T E) (rest whole : List ℕ) → SentBefore a b m n rest whole
      → Sends b c n k rest r → Sends a c m k whole r
  sends_behind (Ok done) rest whole sent more = (
    subst (λ bytes. Appends a c bytes) sent.parts (appends_more a b c sent.sent rest sent.appends more.0),
    more.1 ∙ sent.same,
  )
  sends_behind (Err fault) rest whole sent more = (
    front (sent.sent) more.0.0 more.0.1 sent.appends sent.parts,
    subst (λ count. Rose count k) sent.same more.1,
  ) where
    front : (before : List ℕ) (at : ℕ) → Appends b c (take at rest) → Appends a b before → before ++ rest ≡ whole
        → AppendsPrefix a c whole
    front before at later earlier parts = (
      length before + at,
      subst (λ bytes. Appends a c bytes)
          (sym (take-append-add before rest at) ∙ ap (take (length before + at)) parts)
          (appends_more a b c before (take at rest) earlier later),
    )

  -- a piece does not go out whole
  pub sends_front : {T E : Type 0} (r : Result T E) (piece rest whole : List ℕ) → IsErr r
      → SentBefore a b m n (piece ++ rest) whole → AppendsPrefix b c piece × Rose n k → Sends a c m k whole r
  sends_front (Ok done) piece rest whole failed sent more = cc
  sends_front {T = T} (Err fault) piece rest whole failed sent more =
      let part = front_of_piece more.0.0 piece rest in
      sends_behind {T = T} (Err fault) (piece ++ rest) whole sent (
        (part.0, subst (λ bytes. Appends b c bytes) (sym part.1) more.0.1),
        more.1,
      )

module _ (a b c : Option (List ℕ)) (m n k : ℕ) (piece rest whole : List ℕ) where
  -- a piece, and what stands behind it
  pub sends_two : {T E : Type 0} (r : Result T E) → whole ≡ piece ++ rest → Appends a b piece → n ≡ m → Sends b c n k rest r
      → Sends a c m k whole r
  sends_two r parts first same more =
      sends_behind a b c m n k r rest whole (record { sent = piece; appends = first; same = same; parts = sym parts }) more

  -- the piece does not go out whole
  pub sends_first : {T E : Type 0} (r : Result T E) → IsErr r → whole ≡ piece ++ rest
      → AppendsPrefix a b piece × Rose m n → Sends a b m n whole r
  sends_first r failed parts more =
      sends_front a a b m m n r piece rest whole failed
      (subst (λ bytes. SentBefore a a m m bytes whole) parts (sent_nothing a m whole)) more

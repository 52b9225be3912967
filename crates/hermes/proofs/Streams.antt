-- Known bytes of a stream, over one call after the other.
use Rattle.std.proofs.Common.{◌≡◌, ◌∙◌, ℕ, ◌+◌, List, ◌++◌, take, drop, Option, None, Some, Result, Ok, Err, sym, ap}
use Rattle.std.proofs.Common.{subst, append_assoc, arith}
use Rattle.std.proofs.lemmas.List.{take-take, drop-take, take-append-drop}
use Rattle.std.specs.Io.KnownBytes.{Appends, Keeps, ReadConsumes, WriteAppends}

pub appends_more : (a b c : Option (List ℕ)) (bs cs : List ℕ) → Appends a b bs → Appends b c cs → Appends a c (bs ++ cs)
appends_more None b c bs cs p q = tt
appends_more (Some x) None c bs cs p q = absurd p
appends_more (Some x) (Some y) None bs cs p q = absurd q
appends_more (Some x) (Some y) (Some z) bs cs p q = q ∙ ap (λ l. l ++ cs) p ∙ append_assoc x bs cs

-- a longer front
pub appends_at : (a b c : Option (List ℕ)) (bytes : List ℕ) (at n : ℕ) → Appends a b (take at bytes)
    → Appends b c (take n (drop at bytes)) → Appends a c (take (at + n) bytes)
appends_at a b c bytes at n p q =
    let long : List ℕ = take (at + n) bytes in
    let front : take at long ≡ take at bytes = take-take at (at + n) bytes (omega arith) in
    let rest : drop at long ≡ take n (drop at bytes) = drop-take at n bytes in
    let whole : take at bytes ++ take n (drop at bytes) ≡ long =
    ap (λ x. x ++ take n (drop at bytes)) (sym front) ∙ ap (λ x. take at long ++ x) (sym rest)
    ∙ take-append-drop at long in
    subst (λ bs. Appends a c bs) whole (appends_more a b c (take at bytes) (take n (drop at bytes)) p q)

pub appends_kept : (a b c : Option (List ℕ)) (bs : List ℕ) → Appends a b bs → Keeps b c → Appends a c bs
appends_kept None b c bs p q = tt
appends_kept (Some x) None c bs p q = absurd p
appends_kept (Some x) (Some y) None bs p q = absurd q
appends_kept (Some x) (Some y) (Some z) bs p q = q ∙ p

pub keeps_more : (a b c : Option (List ℕ)) → Keeps a b → Keeps b c → Keeps a c
keeps_more None b c p q = tt
keeps_more (Some x) None c p q = absurd p
keeps_more (Some x) (Some y) None p q = absurd q
keeps_more (Some x) (Some y) (Some z) p q = q ∙ p

-- a read behind calls that took nothing
pub reads_kept : {E : Type 0} (a b c : Option (List ℕ)) (r : Result ℕ E) (buf : List ℕ) → Keeps a b
    → ReadConsumes b c r buf → ReadConsumes a c r buf
reads_kept None b c (Ok n) buf p q = (tt, q.1)
reads_kept None b c (Err e) buf p q = tt
reads_kept (Some x) None c r buf p q = absurd p
reads_kept {E = E} (Some x) (Some y) c r buf p q =
    subst (λ v. ReadConsumes {E = E} (Some v) c r buf) p q

-- a write behind calls that wrote nothing
pub writes_kept : {E : Type 0} (a b c : Option (List ℕ)) (r : Result ℕ E) (buf : List ℕ) → Keeps a b
    → WriteAppends b c r buf → WriteAppends a c r buf
writes_kept None b c (Ok n) buf p q = tt
writes_kept None b c (Err e) buf p q = tt
writes_kept (Some x) None c r buf p q = absurd p
writes_kept {E = E} (Some x) (Some y) c r buf p q =
    subst (λ v. WriteAppends {E = E} (Some v) c r buf) p q

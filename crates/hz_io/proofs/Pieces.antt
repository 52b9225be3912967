use Rattle.std.proofs.Common.{◌≡◌, ◌+◌, ℕ, List, ◌++◌, length, take, drop, sym}
use Rattle.std.proofs.Math.Seq.{take-append_seam}
use Rattle.std.proofs.lemmas.List.{take-append-drop, drop-drop}

-- what was left is the piece that was copied to the front of a buffer and what is left now
pub piece_and_rest : (bytes copied behind : List ℕ) (place count : ℕ) → copied ≡ take count (drop place bytes)
    → length copied ≡ count → drop place bytes ≡ take count (copied ++ behind) ++ drop (place + count) bytes
piece_and_rest bytes copied behind place count is fits =
    let front : take count (copied ++ behind) ≡ copied = rw (← fits) (take-append_seam copied behind) in
    rw (front, is, ← drop-drop count place bytes) (sym (take-append-drop count (drop place bytes)))

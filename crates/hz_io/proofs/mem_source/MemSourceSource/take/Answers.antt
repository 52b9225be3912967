use Rattle.std.proofs.Common.{arith}
use Rattle.std.proofs.lemmas.List.{drop_all, length-take}
use Rattle.hz_io.proofs.Pieces.{piece_and_rest}
use Rattle.hz_io.proofs.mem_source.MemSourceSource.take.Goals as goal

pub returns-clause-bytes : goal.returns-clause-bytes
returns-clause-bytes c = (
  grind (arith, piece_and_rest, length-take, c.copy_from_slice.ensures.after),
  λ none some. grind (arith, drop_all),
)

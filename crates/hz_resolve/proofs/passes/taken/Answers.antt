use Rattle.std.proofs.Common.{◌≡◌, ◌∙◌, ap, sym, arith, length, ℕ, Option, None, ◌≤◌, get_or}
use Rattle.std.specs.List.{slice_get}
use Rattle.hz_resolve.specs.Numbered.{uses_of}
use Rattle.hz_resolve.specs.Passes.{found_of}
use Rattle.hz_resolve.proofs.Mapped.{taken_next, taken_all, mapped_at, use_there}
use Rattle.hz_resolve.proofs.passes.taken.Goals as goal

pub loop-number-preserved : goal.loop-number-preserved
loop-number-preserved c =
    let table = c.args.table.now in
    let k = c.loop-number.number in
    let there = use_there (uses_of table) k (omega (arith, c.len-number-end.ensures, c.loop-number-test.true)) in
    let found = mapped_at (found_of table) (uses_of table) c.args.found.now k there.0 None c.requires there.1 in
    record {
      long = c.mark.ensures.long ∙ c.loop-number.invariant.long;
      each = λ q h.
          taken_next table k q there.0 (get_or c.args.found.now k None) c.outer.result c.loop-number.taken.items
          c.mark.new.taken.items there.1 found c.outer.ensures.value (c.loop-number.invariant.each q h)
          (c.mark.ensures.each q (omega (arith, h, c.loop-number.invariant.long)));
    }

pub returns-clause-each : goal.returns-clause-each
returns-clause-each c = λ q h.
    let table = c.args.table.now in
    let all : length (uses_of table) ≤ c.loop-number.number =
    omega (arith, c.len-number-end.ensures, c.loop-number-test.false) in
    taken_all table c.loop-number.number q (slice_get c.loop-number.taken.items q) all
    (c.loop-number.invariant.each q h)

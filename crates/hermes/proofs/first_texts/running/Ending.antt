-- A run of code that ends: it has one end, and what a cut run gave out is a front of all that it prints.
use Rattle.std.proofs.Common.{◌≡◌, ℕ, List, ◌++◌, length, take, sym, ap, subst, ◌∙◌, add_comm}
use Rattle.std.proofs.Math.Seq.{take-append_seam}
use Rattle.hz_io.specs.Contents.{Told}
use Rattle.hz_ops.specs.Activations.{Module}
use Rattle.hz_ops.specs.Runs as run
use Rattle.hz_ops.specs.Runs.{State, System, Ended, Unbuilt, End, after, start_of, Ends, IsBuilt}
use Rattle.hz_ops.proofs.Running.{after_more, ended_stays, one_end, Grown, lines_grow}
use Rattle.hermes.specs.declared.first.run.stop.FirstEnd.{FirstEnd}
use Rattle.hermes.specs.declared.first.run.stop.FirstEnd.TheVariants as answer
use Rattle.hermes.specs.Printing.{Prints, PrintsFront, PrintsSome}
use Rattle.hermes.specs.first.Runs.{EndsWith, IsCut, RunsTo, Agrees}

-- however many steps are taken before, the run has ended after those that it takes to its end
ended_after : (m : Module) (n : ℕ) (s : System) (lines : List (List ℕ)) (end : End) (e : Ends m s lines end)
    → after m e.steps (after m n s) ≡ record { lines = lines; state = Ended end }
ended_after m n s lines end e =
    sym (after_more m n e.steps s) ∙ ap (λ k. after m k s) (add_comm n e.steps) ∙ after_more m e.steps n s
    ∙ ap (after m n) e.ended ∙ ended_stays m n lines end

-- what a cut run gave out is a front of the first lines among all that the run prints
cut_at_end : (m : Module) (old new : Told) (lines : List (List ℕ)) (end : End) → Ends m (start_of m) lines end
    → IsCut m old new → PrintsSome old new lines
cut_at_end m old new lines end e cut =
    let now : List (List ℕ) = (after m cut.0 (start_of m)).lines in
    let grown : Grown now (after m e.steps (after m cut.0 (start_of m))).lines =
    lines_grow m e.steps (after m cut.0 (start_of m)) in
    let all : lines ≡ now ++ grown.more = sym (ap (λ s. s.lines) (ended_after m cut.0 (start_of m) lines end e))
    ∙ grown.grown in
    let first : take (length now) lines ≡ now = ap (take (length now)) all ∙ take-append_seam now grown.more in
    (length now, subst (λ ls. PrintsFront old new ls) (sym first) cut.1)

ends_alike : (m : Module) (old new : Told) (lines : List (List ℕ)) (end end2 : End) → Ends m (start_of m) lines end
    → EndsWith m old new end2 → (end ≡ end2) × Prints old new lines
ends_alike m old new lines end end2 e told =
    let same = one_end m (start_of m) lines told.0 end end2 e told.1 in
    (same.1, subst (λ ls. Prints old new ls) (sym same.0) told.2)

pub agrees : (m : Module) (old new : Told) (result : FirstEnd) (lines : List (List ℕ)) (end : End)
    → Ends m (start_of m) lines end → RunsTo m old new result → Agrees lines end old new result
agrees m old new answer.Done lines end e told = ends_alike m old new lines end run.Done e told
agrees m old new (answer.Left reason) lines end e told = ends_alike m old new lines end (run.LeftFor reason) e told
agrees m old new answer.BadCode lines end e told = ends_alike m old new lines end run.BadCode e told
agrees m old new answer.WriteFault lines end e told = cut_at_end m old new lines end e told
agrees m old new answer.Memory lines end e told = cut_at_end m old new lines end e told

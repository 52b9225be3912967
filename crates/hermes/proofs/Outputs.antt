-- What a stream tells, over one put after the other.
use Rattle.std.proofs.Common.{◌≡◌, ◌∙◌, ℕ, ◌+◌, List, [], ◌∷◌, ◌++◌, length, take, Option, None, Some, refl, sym}
use Rattle.std.proofs.Common.{ap, subst, append_assoc, append-nil, arith}
use Rattle.std.proofs.lemmas.List.{length-append, take_all}
use Rattle.std.proofs.Math.Seq.{take-append-add}
use Rattle.std.specs.Io.KnownBytes.{Appends}
use Rattle.hz_io.specs.Contents.{Told, CountsMore, Gets}
use Rattle.hermes.proofs.Streams.{appends_more}
use Rattle.hermes.specs.Printing.{printed, line_bytes, Prints, PrintsFront}

pub printed_more : (lines more : List (List ℕ)) → printed (lines ++ more) ≡ printed lines ++ printed more
printed_more [] more = refl
printed_more (line ∷ lines) more =
    ap (λ bytes. line_bytes line ++ bytes) (printed_more lines more)
    ∙ sym (append_assoc (line_bytes line) (printed lines) (printed more))

counts_more : (a b c : Option ℕ) (m n : ℕ) → CountsMore a b m → CountsMore b c n → CountsMore a c (m + n)
counts_more None b c m n p q = tt
counts_more (Some x) None c m n p q = absurd p
counts_more (Some x) (Some y) None m n p q = absurd q
counts_more (Some x) (Some y) (Some z) m n p q = omega (arith, p, q)

gets_more : (a b c : Told) (bs cs : List ℕ) (m n : ℕ) → Gets a b bs m → Gets b c cs n → Gets a c (bs ++ cs) (m + n)
gets_more a b c bs cs m n p q = record {
  got = appends_more a.got b.got c.got bs cs p.got q.got;
  puts = counts_more a.puts b.puts c.puts m n p.puts q.puts;
}

-- a stream that nothing was done to
pub prints_nothing : (t : Told) → Prints t t []
prints_nothing t = record { got = no_bytes t.got; puts = no_puts t.puts } where
  no_bytes : (o : Option (List ℕ)) → Appends o o []
  no_bytes None = tt
  no_bytes (Some x) = sym (append-nil x)

  no_puts : (o : Option ℕ) → CountsMore o o 0
  no_puts None = tt
  no_puts (Some x) = omega arith

pub prints_more : (a b c : Told) (lines more : List (List ℕ)) → Prints a b lines → Prints b c more
    → Prints a c (lines ++ more)
prints_more a b c lines more p q =
    subst (λ n. Gets a c (printed (lines ++ more)) n) (sym (length-append lines more))
    (subst (λ bytes. Gets a c bytes (length lines + length more)) (sym (printed_more lines more))
    (gets_more a b c (printed lines) (printed more) (length lines) (length more) p q))

pub prints_front : (a b c : Told) (lines more : List (List ℕ)) → Prints a b lines → PrintsFront b c more
    → PrintsFront a c (lines ++ more)
prints_front a b c lines more p (k, q) = (
  length (printed lines) + k,
  subst (λ n. Gets a c (take (length (printed lines) + k) (printed (lines ++ more))) n) (sym (length-append lines more))
      (subst (λ bytes. Gets a c bytes (length lines + length more))
      (sym (ap (take (length (printed lines) + k)) (printed_more lines more)
      ∙ take-append-add (printed lines) (printed more) k))
      (gets_more a b c (printed lines) (take k (printed more)) (length lines) (length more) p q)),
)

-- all of the lines are a front of them
pub prints_whole : (a b : Told) (lines : List (List ℕ)) → Prints a b lines → PrintsFront a b lines
prints_whole a b lines p = (
  length (printed lines),
  subst (λ bytes. Gets a b bytes (length lines)) (sym (take_all (length (printed lines)) (printed lines) (omega arith)))
      p,
)

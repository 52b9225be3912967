-- One step of the pass over the tokens.
use Rattle.std.proofs.Common.{◌≡◌, false, List, [], ◌∷◌, ◌++◌, map, refl, sym, ◌∙◌}
use Rattle.std.proofs.Common.{append_assoc}
use Rattle.hz_tree.specs.declared.class.Class.{Class}
use Rattle.hz_tree.specs.tokens.Text.{Text}
use Rattle.hz_tree.specs.grammar.Classes.{class_of}
use Rattle.hz_tree.specs.tokens.Tokens.{Lexeme, tokens}
use Rattle.hz_scan.specs.Order.{InOrder, end_of}
use Rattle.hz_scan.proofs.OrderLemmas.{in_order}
use Rattle.hz_cursor.specs.Marks.{marks_from}
use Rattle.hz_cursor.specs.Stored.{Kept, stored_as, long_in, stored, longs, with_token}
use Rattle.hz_cursor.specs.Tally.{Tallied, followed}

-- what is known of the tokens so far, and what is to come of those that are left
pub record Underway (source : Text) (kept : Kept) (tally : Tallied) (ts : List Lexeme) : Type 0 where
  pub tokens_are : kept.tokens ++ stored kept.end ts ≡ stored 0 (tokens source)
  pub long_are : kept.long ++ longs kept.end ts ≡ longs 0 (tokens source)
  pub marks_are : tally.marks ++ marks_from tally.closed tally.opened (map class_of ts)
      ≡ marks_from false [] (map class_of (tokens source))
  pub order : InOrder source kept.end ts

pub begins : (source : Text) (ts : List Lexeme) → ts ≡ tokens source
    → Underway source (record { tokens = []; long = []; end = 0 }) (record { closed = false; opened = []; marks = [] })
    ts
begins source ts is = rw is (record { tokens_are = refl; long_are = refl; marks_are = refl; order = in_order source })

follows : (c : Class) (tally : Tallied) (cs : List Class)
    → tally.marks ++ marks_from tally.closed tally.opened (c ∷ cs)
    ≡ (followed c tally).marks ++ marks_from (followed c tally).closed (followed c tally).opened cs
follows c tally cs = simp append_assoc

pub goes_on : (source : Text) (kept : Kept) (tally : Tallied) (t : Lexeme) (ts : List Lexeme)
    → Underway source kept tally (t ∷ ts)
    → Underway source (with_token (class_of t) t kept) (followed (class_of t) tally) ts
goes_on source kept tally t ts under = record {
  tokens_are = append_assoc kept.tokens (stored_as (class_of t) kept.end t ∷ []) (stored (end_of t) ts)
      ∙ under.tokens_are;
  long_are = append_assoc kept.long (long_in kept.end t) (longs (end_of t) ts) ∙ under.long_are;
  marks_are = sym (follows (class_of t) tally (map class_of ts)) ∙ under.marks_are;
  order = under.order.1;
}

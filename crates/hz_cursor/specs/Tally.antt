-- The marks of tokens, one token after the other.
use Rattle.std.specs.Prelude.{Bool, List, ◌++◌}
use Rattle.hz_tree.specs.declared.class.Class.{Class}
use Rattle.hz_tree.specs.declared.class.Bracket.{Bracket}
use Rattle.hz_tree.specs.declared.class.Bracketing.{Bracketing}
use Rattle.hz_tree.specs.grammar.Classes.{bracketing, is_arrow}
use Rattle.hz_cursor.specs.declared.mark.Mark.{Mark}
use Rattle.hz_cursor.specs.Marks.{answered, marks_at, open_behind, closes_round}

pub record Tallied : Type 0 where
  pub closed : Bool  -- the last token is a `)` that closed its `(`
  pub opened : List Bracket  -- the innermost first
  pub marks : List Mark

-- with what a `)` before a token has waited for
abbrev pub closed_before : (arrow : Bool) → Tallied → Tallied
closed_before arrow t = record t { marks = t.marks ++ answered t.closed arrow }

abbrev pub with_bracket : Bracketing → Tallied → Tallied
with_bracket b t =
    record { closed = closes_round b t.opened; opened = open_behind b t.opened; marks = t.marks ++ marks_at b t.opened }

-- behind a token of the class
abbrev pub followed : Class → Tallied → Tallied
followed c t = with_bracket (bracketing c) (closed_before (is_arrow c) t)

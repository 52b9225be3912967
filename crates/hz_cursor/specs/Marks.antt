-- The parentheses of a source, and what stands behind each, from left to right.
use Rattle.std.specs.Prelude.{Bool, true, false, ◌&&◌, if◌then◌else◌, List, [], ◌∷◌, ◌++◌, drop}
use Rattle.hz_tree.specs.declared.class.Class.{Class}
use Rattle.hz_tree.specs.declared.class.Bracket.{Bracket}
use Rattle.hz_tree.specs.declared.class.Bracket.TheVariants.{Round, Hole}
use Rattle.hz_tree.specs.declared.class.Bracketing.{Bracketing}
use Rattle.hz_tree.specs.declared.class.Bracketing.TheVariants as does
use Rattle.hz_tree.specs.grammar.Classes.{bracketing, same_bracket, is_arrow}
use Rattle.hz_cursor.specs.declared.mark.Mark.{Mark}
use Rattle.hz_cursor.specs.declared.mark.Mark.TheVariants.{Opens, Closes}

-- ---- marks of tokens

-- the mark of a `)` that closed its `(`, once the token behind it is known
abbrev pub answered : (closed : Bool) → (arrow : Bool) → List Mark
answered false arrow = []
answered true arrow = Closes arrow ∷ []

-- each `(` among brackets that stay open for good
abbrev pub dropped : List Bracket → List Mark
dropped [] = []
dropped (Round ∷ more) = Closes false ∷ dropped more
dropped (b ∷ more) = dropped more

abbrev pub is_round_bracket : Bracket → Bool
is_round_bracket Round = true
is_round_bracket _ = false

abbrev pub opened_mark : Bracket → List Mark
opened_mark Round = Opens ∷ []
opened_mark _ = []

abbrev pub innermost_is : Bracket → List Bracket → Bool
innermost_is b [] = false
innermost_is b (innermost ∷ others) = same_bracket b innermost

-- The marks of a token where these brackets are open, the innermost first.
abbrev pub marks_at : Bracketing → List Bracket → List Mark
marks_at (does.Opens b) opened = opened_mark b
marks_at (does.Closes b) opened = if innermost_is b opened then [] else dropped opened
marks_at does.Reopens opened = if innermost_is Hole opened then [] else dropped opened
marks_at does.Ends opened = dropped opened
marks_at does.Keeps opened = []

-- the brackets that are open behind it
abbrev pub open_behind : Bracketing → List Bracket → List Bracket
open_behind (does.Opens b) opened = b ∷ opened
open_behind (does.Closes b) opened = if innermost_is b opened then drop 1 opened else []
open_behind does.Reopens opened = if innermost_is Hole opened then opened else []
open_behind does.Ends opened = []
open_behind does.Keeps opened = opened

-- whether it is a `)` that closes its `(`
abbrev pub closes_round : Bracketing → List Bracket → Bool
closes_round (does.Closes b) opened = innermost_is b opened && is_round_bracket b
closes_round _ opened = false

-- The marks of these tokens, where the token before them closed a `(` or not, and these brackets are open.
abbrev pub marks_from : (closed : Bool) → (opened : List Bracket) → List Class → List Mark
marks_from closed opened [] = answered closed false ++ dropped opened
marks_from closed opened (c ∷ cs) =
    answered closed (is_arrow c)
    ++ (marks_at (bracketing c) opened
    ++ marks_from (closes_round (bracketing c) opened) (open_behind (bracketing c) opened) cs)

-- ---- answers of marks

abbrev pub first_or_false : List Bool → Bool
first_or_false [] = false
first_or_false (answer ∷ more) = answer

-- The answer for each `(` that these marks open, and for each one that they close and do not open.
abbrev pub answers : List Mark → List Bool × List Bool
answers [] = ([], [])
answers (Opens ∷ more) = (first_or_false (answers more).1 ∷ (answers more).0, drop 1 (answers more).1)
answers (Closes arrow ∷ more) = ((answers more).0, arrow ∷ (answers more).1)

-- What separates tokens: white space, line terminators and comments (ECMA-262, 12.2 to 12.5).
use Rattle.std.specs.Prelude.{◌+◌, Bool, true, ◌&&◌, if◌then◌else◌, drop, codes}
use Rattle.hz_tree.specs.declared.front.Stretch.{Stretch}
use Rattle.hz_tree.specs.tokens.Text.{Text, begins, none, plain, joined, run}
use Rattle.hz_tree.specs.tokens.Characters.{code_point, char_len, is_white_space, is_line_terminator}

-- a character of a comment that ends with its line
unfoldable pub line_part : Text → Stretch
line_part z = if is_line_terminator (code_point z) then none else plain (char_len z)

-- From `//` or `#!` up to the line's end (SingleLineComment and HashbangComment).
unfoldable pub line_comment : Text → Stretch
line_comment z = plain ((run line_part (drop 2 z)).len + 2)

-- a character of a comment that ends with `*/`, marked where it ends a line
unfoldable pub block_part : Text → Stretch
block_part z =
    if begins (codes "*/") z then none else record { len = char_len z; marked = is_line_terminator (code_point z) }

-- From `/*` to `*/` (MultiLineComment), marked where a line ends in it; none where it is unfinished.
unfoldable pub block_comment : Text → Stretch
block_comment z =
    let body = run block_part (drop 2 z) in
    if begins (codes "*/") (drop (body.len + 2) z) then record { len = body.len + 4; marked = body.marked } else none

-- white space or a line terminator, which is marked
unfoldable pub blank : Text → Stretch
blank z =
    if is_white_space (code_point z) then plain (char_len z)
    else (if is_line_terminator (code_point z) then record { len = char_len z; marked = true } else none)

-- white space, a line terminator or a comment, marked where a line ends in it
unfoldable pub space_part : Text → Stretch
space_part z =
    if begins (codes "//") z then line_comment z
    else (if begins (codes "/*") z then block_comment z else blank z)

-- All that stands before the next token. At the source's start it may begin with a comment `#!`.
unfoldable pub gap : (is_start : Bool) → Text → Stretch
gap is_start z =
    if is_start && begins (codes "#!") z
    then (let comment = line_comment z in joined comment (run space_part (drop comment.len z)))
    else run space_part z

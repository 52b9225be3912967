-- The words of the command line. A word is a list of bytes.
use Rattle.std.specs.Prelude.{ℕ, ◌+◌, Bool, true, false, not, ◌&&◌, ◌||◌, ◌==◌, List, [], ◌∷◌, if◌then◌else◌, Option}
use Rattle.std.specs.Prelude.{Some, None, bytes_eq, codes}

abbrev pub is_run : List ℕ → Bool
is_run word = bytes_eq word (codes "run")

abbrev pub is_strict_option : List ℕ → Bool
is_strict_option word = bytes_eq word (codes "-strict")

abbrev pub is_dashes : List ℕ → Bool
is_dashes word = bytes_eq word (codes "--")

-- a file's name is not empty
abbrev pub is_name : List ℕ → Bool
is_name [] = false
is_name (b ∷ name) = true

-- where no `--` stands before it, it does not begin with `-` (45) either
abbrev pub is_plain_name : List ℕ → Bool
is_plain_name [] = false
is_plain_name (b ∷ name) = not (b == 45)

-- the words behind the options: the name of a file, and maybe `--` before it
abbrev pub is_file_part : List (List ℕ) → Bool
is_file_part (name ∷ []) = is_plain_name name
is_file_part (dashes ∷ name ∷ []) = is_dashes dashes && is_name name
is_file_part words = false

-- such words begin with these
abbrev pub begins_file_part : List (List ℕ) → Bool
begins_file_part [] = true
begins_file_part (word ∷ []) = is_dashes word || is_plain_name word
begins_file_part words = is_file_part words

-- whether the option stands first
abbrev pub has_option : List (List ℕ) → Bool
has_option [] = false
has_option (word ∷ words) = is_strict_option word

abbrev pub behind_option : List (List ℕ) → List (List ℕ)
behind_option [] = []
behind_option (word ∷ words) = if is_strict_option word then words else word ∷ words

-- the words are a command: `run`, maybe `-strict`, and the file
abbrev pub is_command : List (List ℕ) → Bool
is_command [] = false
is_command (word ∷ words) = is_run word && is_file_part (behind_option words)

-- a command begins with the words
abbrev pub begins_command : List (List ℕ) → Bool
begins_command [] = true
begins_command (word ∷ words) = is_run word && begins_file_part (behind_option words)

-- the number of words up to which they pass a test of how words begin
abbrev pub stop_of : (List (List ℕ) → Bool) → List (List ℕ) → ℕ
stop_of begins [] = 0
stop_of begins (word ∷ words) = if begins (word ∷ []) then 1 + stop_of (λ more. begins (word ∷ more)) words else 0

-- Where the words are no command: the number of the first word with which they begin none, or how many words
-- there are where all of them begin one.
abbrev pub usage_fault : List (List ℕ) → Option ℕ
usage_fault words = if is_command words then None else Some (stop_of begins_command words)

-- the file that the words behind the options name
abbrev pub name_of : List (List ℕ) → List ℕ
name_of (name ∷ []) = name
name_of (dashes ∷ name ∷ words) = name
name_of [] = []

-- the file that a command names
abbrev pub file_of : List (List ℕ) → List ℕ
file_of [] = []
file_of (word ∷ words) = name_of (behind_option words)

-- whether a command has the option `-strict`
abbrev pub strict_of : List (List ℕ) → Bool
strict_of [] = false
strict_of (word ∷ words) = has_option words

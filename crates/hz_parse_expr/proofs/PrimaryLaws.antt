-- What the rows of primary expressions make, where the token that they begin with is known.
use Rattle.std.proofs.Common.{◌≡◌, ◌≢◌, Bool, true, false, ◌&&◌, ◌||◌, not, if◌then◌else◌, List, None, Result}
use Rattle.std.proofs.Common.{Ok, Err, refl, sym, subst}
use Rattle.hz_list.specs.declared.out_of_memory.Memory.{Memory}
use Rattle.hz_tree.specs.declared.class.Class.{Class}
use Rattle.hz_tree.specs.declared.class.Class.TheVariants as k
use Rattle.hz_tree.specs.declared.index.FunctionInfo.{FunctionInfo}
use Rattle.hz_tree.specs.declared.look.Look.{Look}
use Rattle.hz_tree.specs.declared.nonterminal.Context.{Context}
use Rattle.hz_tree.specs.declared.nonterminal.Nonterminal.{Nonterminal}
use Rattle.hz_tree.specs.declared.nonterminal.Nonterminal.TheVariants as n
use Rattle.hz_tree.specs.declared.outside.BadKind.{BadKind}
use Rattle.hz_tree.specs.declared.outside.BadKind.TheVariants as bad
use Rattle.hz_tree.specs.declared.outside.OutsideKind.TheVariants as outside
use Rattle.hz_tree.specs.grammar.Look.{is_async}
use Rattle.hz_tree.specs.grammar.PrimaryRows.{primary_by, word_row}
use Rattle.hz_tree.specs.grammar.Classes.{is_word, is_async_word, is_function, is_name, is_paren}
use Rattle.hz_tree.specs.grammar.Symbols.{refuses, Row}
use Rattle.hz_cuts.specs.Rows.{cut_by, cut_row}
use Rattle.hz_cuts.specs.Skips.{primary_skip}
use Rattle.hz_parts.specs.declared.parts.Parts.{Parts as Stacks}
use Rattle.hz_parts.specs.Makes.{Makes}
use Rattle.hz_parse_expr.specs.Functions.{expressed}

-- ---- rows that are refused

refused_made : (m : Nonterminal) (cause : BadKind) (r : Result (Unit {0}) Memory) (old new : Stacks)
    → Makes m (refuses cause) r old new
refused_made m cause (Ok done) old new = tt
refused_made m cause (Err memory) old new = tt

-- a row that is refused where the test fails
pub tested_made : {m : Nonterminal} (chosen : Bool) (row : Row m) (cause : BadKind) (r : Result (Unit {0}) Memory)
    (old new : Stacks) → Makes m row r old new → Makes m (if chosen then row else refuses cause) r old new
tested_made {m} true row cause r old new h = h
tested_made {m} false row cause r old new h = refused_made m cause r old new

-- the word stands there already
pub word_made : (l : Look) (old : Stacks) → Makes n.Word (word_row l) (Ok tt) old old
word_made l old = tested_made (is_word l.one) _ _ (Ok tt) old old (λ parts below e. e)

-- ---- functions

pub function_made : (functions : List FunctionInfo) (c : Context) (two : Class) (r : Result (Unit {0}) Memory)
    (old new : Stacks) → two ≢ k.Star → Makes (n.Primary c) (expressed functions c k.Name) r old new
    → Makes (n.Primary c) (expressed functions c two) r old new
function_made functions c k.Star r old new differs h = absurd (differs refl)
function_made functions c _ r old new differs h = h

-- the row of a primary expression, by its first token
abbrev cut_primary : List FunctionInfo → (c : Context) → Look → Class → Row (n.Primary c)
cut_primary functions c l one =
    let refused =
    is_async_word one
    && (not l.two_newline && (is_function l.two || (is_name l.two || (is_paren l.two && l.arrow)))) in
    cut_by (n.Primary c) (if refused then refuses (bad.Outside outside.Async) else primary_by c l one)
    (if refused then None else primary_skip functions c one l.two)

-- a function expression
pub expressed_made : (functions : List FunctionInfo) (c : Context) (l : Look) (r : Result (Unit {0}) Memory)
    (old new : Stacks) → l.one ≡ k.Function → Makes (n.Primary c) (expressed functions c l.two) r old new
    → Makes (n.Primary c) (cut_row functions (n.Primary c) l) r old new
expressed_made functions c l r old new e h =
    subst (λ one. Makes (n.Primary c) (cut_primary functions c l one) r old new) (sym e) h

unskipped_made : (functions : List FunctionInfo) (c : Context) (l : Look) (refused : Bool) (one : Class)
    (r : Result (Unit {0}) Memory) (old new : Stacks) → one ≢ k.Function
    → Makes (n.Primary c) (primary_by c l one) r old new
    → Makes (n.Primary c)
    (cut_by (n.Primary c) (if refused then refuses (bad.Outside outside.Async) else primary_by c l one)
    (if refused then None else primary_skip functions c one l.two)) r old new
unskipped_made functions c l true one r old new differs h =
    refused_made (n.Primary c) (bad.Outside outside.Async) r old new
unskipped_made functions c l false k.Function r old new differs h = absurd (differs refl)
unskipped_made functions c l false _ r old new differs h = h

-- any other primary expression
pub primary_made : (functions : List FunctionInfo) (c : Context) (l : Look) (r : Result (Unit {0}) Memory)
    (old new : Stacks) → l.one ≢ k.Function → Makes (n.Primary c) (primary_by c l l.one) r old new
    → Makes (n.Primary c) (cut_row functions (n.Primary c) l) r old new
primary_made functions c l r old new differs h = unskipped_made functions c l (is_async l) l.one r old new differs h

-- What the rows of properties make, where what they depend on is known.
use Rattle.std.proofs.Common.{◌≡◌, ◌≢◌, Bool, true, false, if◌then◌else◌, List, Option, None, Result, Ok, Err}
use Rattle.std.proofs.Common.{refl, sym, subst}
use Rattle.hz_list.specs.declared.out_of_memory.Memory.{Memory}
use Rattle.hz_tree.specs.declared.class.Class.{Class}
use Rattle.hz_tree.specs.declared.class.Class.TheVariants as k
use Rattle.hz_tree.specs.declared.index.FunctionInfo.{FunctionInfo}
use Rattle.hz_tree.specs.declared.look.Look.{Look}
use Rattle.hz_tree.specs.declared.nonterminal.Context.{Context}
use Rattle.hz_tree.specs.declared.nonterminal.Nonterminal.{Nonterminal}
use Rattle.hz_tree.specs.declared.nonterminal.Nonterminal.TheVariants as n
use Rattle.hz_tree.specs.declared.outside.BadKind.{BadKind}
use Rattle.hz_tree.specs.declared.outside.BadKind.TheVariants as bad
use Rattle.hz_tree.specs.declared.outside.OutsideKind.TheVariants as outside
use Rattle.hz_tree.specs.grammar.Look.{is_async}
use Rattle.hz_tree.specs.grammar.PropertyRows.{key_by, plain_prop_row, prop_by, shorthand_end_row}
use Rattle.hz_tree.specs.grammar.Symbols.{refuses, Row}
use Rattle.hz_cuts.specs.Rows.{cut_by, cut_row}
use Rattle.hz_cuts.specs.Skips.{prop_skip, Skip}
use Rattle.hz_parts.specs.declared.parts.Parts.{Parts as Stacks}
use Rattle.hz_parts.specs.Makes.{Makes}
use Rattle.hz_parse_expr.specs.Properties.{getter_cut, key_rest_cut, prop_cut, setter_cut}
use Rattle.hz_parse_expr.proofs.RowLaws.{made_by}

-- a row that may be refused, with no function then
unrefused_made : {m : Nonterminal} (refused : Bool) (cause : BadKind) (row : Row m) (skip : Option (Skip m))
    (r : Result (Unit {0}) Memory) (old new : Stacks) → Makes m (cut_by m row skip) r old new
    → Makes m (cut_by m (if refused then refuses cause else row) (if refused then None else skip)) r old new
unrefused_made true cause row skip (Ok done) old new h = tt
unrefused_made true cause row skip (Err memory) old new h = tt
unrefused_made false cause row skip r old new h = h

-- ---- one property

pub prop_made : (functions : List FunctionInfo) (c : Context) (l : Look) (known : Class)
    (r : Result (Unit {0}) Memory) (old new : Stacks) → l.one ≡ known
    → Makes (n.Prop c) (prop_cut functions c l known) r old new
    → Makes (n.Prop c) (cut_row functions (n.Prop c) l) r old new
prop_made functions c l known r old new e h =
    unrefused_made (is_async l) (bad.Outside outside.Async) (prop_by c l l.one) (prop_skip functions c l.one l.two) r old
    new (made_by (prop_cut functions c l) l.one known r old new e h)

plain_by : (functions : List FunctionInfo) (c : Context) (l : Look) (one : Class) (r : Result (Unit {0}) Memory)
    (old new : Stacks) → one ≢ k.Ellipsis → one ≢ k.Star → one ≢ k.Get → one ≢ k.Set
    → Makes (n.Prop c) (plain_prop_row c l) r old new → Makes (n.Prop c) (prop_cut functions c l one) r old new
plain_by functions c l k.Ellipsis r old new dots star get set h = absurd (dots refl)
plain_by functions c l k.Star r old new dots star get set h = absurd (star refl)
plain_by functions c l k.Get r old new dots star get set h = absurd (get refl)
plain_by functions c l k.Set r old new dots star get set h = absurd (set refl)
plain_by functions c l _ r old new dots star get set h = h

pub plain_made : (functions : List FunctionInfo) (c : Context) (l : Look) (r : Result (Unit {0}) Memory)
    (old new : Stacks) → l.one ≢ k.Ellipsis → l.one ≢ k.Star → l.one ≢ k.Get → l.one ≢ k.Set
    → Makes (n.Prop c) (plain_prop_row c l) r old new
    → Makes (n.Prop c) (cut_row functions (n.Prop c) l) r old new
plain_made functions c l r old new dots star get set h =
    prop_made functions c l l.one r old new refl
    (plain_by functions c l l.one r old new dots star get set h)

pub getter_made : (functions : List FunctionInfo) (c : Context) (l : Look) (keyed known : Bool)
    (r : Result (Unit {0}) Memory) (old new : Stacks) → keyed ≡ known
    → Makes (n.Prop c) (getter_cut functions c l known) r old new
    → Makes (n.Prop c) (getter_cut functions c l keyed) r old new
getter_made functions c l keyed known r old new e h =
    subst (λ b. Makes (n.Prop c) (getter_cut functions c l b) r old new) (sym e) h

pub setter_made : (functions : List FunctionInfo) (c : Context) (l : Look) (keyed known : Bool)
    (r : Result (Unit {0}) Memory) (old new : Stacks) → keyed ≡ known
    → Makes (n.Prop c) (setter_cut functions c l known) r old new
    → Makes (n.Prop c) (setter_cut functions c l keyed) r old new
setter_made functions c l keyed known r old new e h =
    subst (λ b. Makes (n.Prop c) (setter_cut functions c l b) r old new) (sym e) h

-- ---- what follows a key

-- nothing else does
pub no_rest_made : (functions : List FunctionInfo) (c : Context) (l : Look) (one : Class) (old : Stacks)
    → one ≢ k.Colon → one ≢ k.LeftParen → Makes (n.KeyRest c) (key_rest_cut functions c l one) (Ok tt) old old
no_rest_made functions c l k.Colon old colon paren = absurd (colon refl)
no_rest_made functions c l k.LeftParen old colon paren = absurd (paren refl)
no_rest_made functions c l _ old colon paren = tt

-- ---- a word as a key

pub word_made : (c : Context) (l : Look) (one : Class) (r : Result (Unit {0}) Memory) (old new : Stacks)
    → one ≢ k.Text → one ≢ k.Number → one ≢ k.OctalNumber → one ≢ k.LeftBracket
    → Makes (n.Key c) (key_by c l k.Name) r old new → Makes (n.Key c) (key_by c l one) r old new
word_made c l k.Text r old new text number octal bracket h = absurd (text refl)
word_made c l k.Number r old new text number octal bracket h = absurd (number refl)
word_made c l k.OctalNumber r old new text number octal bracket h = absurd (octal refl)
word_made c l k.LeftBracket r old new text number octal bracket h = absurd (bracket refl)
word_made c l _ r old new text number octal bracket h = h

-- nothing stands behind a name by itself
pub shorthand_end_made : (one : Class) (old : Stacks)
    → Makes n.ShorthandEnd (shorthand_end_row one) (Ok tt) old old
shorthand_end_made k.Assign old = tt
shorthand_end_made _ old = λ parts below e. e

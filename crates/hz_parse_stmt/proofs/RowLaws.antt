-- What rows make, where what they depend on is known.
use Rattle.std.proofs.Common.{◌≡◌, ◌≢◌, Bool, true, false, if◌then◌else◌, List, ◌∷◌, drop, Option, None, Result}
use Rattle.std.proofs.Common.{Ok, Err}
use Rattle.std.proofs.Common.{OnOk, refl, ap, sym, subst, ◌∙◌}
use Rattle.hz_list.specs.declared.out_of_memory.Memory.{Memory}
use Rattle.hz_tree.specs.declared.class.Class.{Class}
use Rattle.hz_tree.specs.declared.class.Class.TheVariants as k
use Rattle.hz_tree.specs.declared.index.FunctionInfo.{FunctionInfo}
use Rattle.hz_tree.specs.declared.look.Look.{Look}
use Rattle.hz_tree.specs.declared.nonterminal.Context.{Context}
use Rattle.hz_tree.specs.declared.nonterminal.Nonterminal.{Nonterminal}
use Rattle.hz_tree.specs.declared.nonterminal.Nonterminal.TheVariants as n
use Rattle.hz_tree.specs.declared.operator.DeclarationWord.{DeclarationWord}
use Rattle.hz_tree.specs.declared.operator.DeclarationWord.TheVariants as word
use Rattle.hz_tree.specs.declared.outside.BadKind.{BadKind}
use Rattle.hz_tree.specs.grammar.StatementRows.{clauses_row, initial_row, no_value, throw_value_by}
use Rattle.hz_tree.specs.grammar.Symbols.{refuses, Row}
use Rattle.hz_cuts.specs.Rows.{cut_row}
use Rattle.hz_parts.specs.declared.parts.Parts.{Parts as Stacks}
use Rattle.hz_parts.specs.declared.parts.Seen.{Seen}
use Rattle.hz_parts.specs.Makes.{Makes, MakesRow}
use Rattle.hz_parts.specs.Values.{push_option, push_seen}
use Rattle.hz_parse_expr.proofs.RowLaws.{made_by}
use Rattle.hz_parse_stmt.specs.Items.{declared}

-- the value that is thrown stands there already
pub thrown_made : (c : Context) (l : Look) (newline : Bool) (old : Stacks)
    → Makes (n.ThrowValue c) (throw_value_by c l newline) (Ok tt) old old
thrown_made c l true old = tt
thrown_made c l false old = λ parts below e. e

-- the same of the clauses of a switch, where it is known whether a `default` came before
pub clauses_made_by : (c : Context) (has_default before : Bool) (one known : Class) (r : Result (Unit {0}) Memory)
    (old new : Stacks) → has_default ≡ before → one ≡ known
    → Makes (n.Clauses c before) (clauses_row c before known) r old new
    → Makes (n.Clauses c has_default) (clauses_row c has_default one) r old new
clauses_made_by c has_default before one known r old new e class h =
    subst (λ b. Makes (n.Clauses c b) (clauses_row c b one) r old new) (sym e)
    (made_by (clauses_row c before) one known r old new class h)

-- ---- a function

pub function_made : (functions : List FunctionInfo) (c : Context) (two : Class) (r : Result (Unit {0}) Memory)
    (old new : Stacks) → two ≢ k.Star → Makes (n.Item c) (declared functions c k.Name) r old new
    → Makes (n.Item c) (declared functions c two) r old new
function_made functions c k.Star r old new differs h = absurd (differs refl)
function_made functions c _ r old new differs h = h

-- ---- a name without a value

no_value_made : (word : DeclarationWord) (c : Context) (r : Result (Unit {0}) Memory) (old new : Stacks)
    → OnOk r (new ≡ push_option None old) → Makes (n.Initial word c) (no_value word c) r old new
no_value_made word.Var c (Ok done) old new h = λ parts below e. h ∙ ap (push_option None) e
no_value_made word.Let c (Ok done) old new h = λ parts below e. h ∙ ap (push_option None) e
no_value_made word.Const c (Ok done) old new h = λ parts below e. h ∙ ap (push_option None) e
no_value_made word.Var c (Err memory) old new h = tt
no_value_made word.Let c (Err memory) old new h = tt
no_value_made word.Const c (Err memory) old new h = tt

pub no_initial_made : (word : DeclarationWord) (c : Context) (one : Class) (r : Result (Unit {0}) Memory)
    (old new : Stacks) → one ≢ k.Assign → OnOk r (new ≡ push_option None old)
    → Makes (n.Initial word c) (initial_row word c one) r old new
no_initial_made word c k.Assign r old new differs h = absurd (differs refl)
no_initial_made word c _ r old new differs h = no_value_made word c r old new h

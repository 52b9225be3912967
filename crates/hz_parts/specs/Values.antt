-- How the parts of rows stand in stacks, and what the nonterminals put there.
use Rattle.std.specs.Prelude.{ℕ, Bool, true, false, List, [], ◌∷◌, map, Option, Some}
use Rattle.hz_tree.specs.declared.nonterminal.Nonterminal.{Nonterminal}
use Rattle.hz_tree.specs.declared.nonterminal.Nonterminal.TheVariants as n
use Rattle.hz_tree.specs.declared.signal.Signal.{Signal}
use Rattle.hz_tree.specs.declared.signal.Signal.TheVariants as tell
use Rattle.hz_tree.specs.declared.symbol.Symbol.{Symbol}
use Rattle.hz_tree.specs.declared.symbol.Symbol.TheVariants as s
use Rattle.hz_tree.specs.declared.tree.Bound.{Bound}
use Rattle.hz_tree.specs.declared.tree.Rest.{Rest}
use Rattle.hz_tree.specs.declared.tree.Tree.{Tree}
use Rattle.hz_tree.specs.grammar.Look.{Terminal}
use Rattle.hz_tree.specs.grammar.PrimaryRows.{number_value}
use Rattle.hz_tree.specs.grammar.Signals.{Told}
use Rattle.hz_tree.specs.grammar.Symbols as grammar
use Rattle.hz_tree.specs.grammar.Symbols.{AfterKey, has_value, called, Part, Parts, Value}
use Rattle.hz_tree.specs.tokens.Text.{Text}
use Rattle.hz_parts.specs.declared.heads.AfterFor.{AfterFor}
use Rattle.hz_parts.specs.declared.heads.AfterFor.TheVariants as after_for
use Rattle.hz_parts.specs.declared.heads.AfterLeft.{AfterLeft}
use Rattle.hz_parts.specs.declared.heads.AfterLeft.TheVariants as after_left
use Rattle.hz_parts.specs.declared.heads.AfterName.{AfterName}
use Rattle.hz_parts.specs.declared.heads.AfterName.TheVariants as after_name
use Rattle.hz_parts.specs.declared.parts.Behind.{Behind}
use Rattle.hz_parts.specs.declared.parts.Behind.TheVariants as behind
use Rattle.hz_parts.specs.declared.parts.Parts.{Parts as Stacks}
use Rattle.hz_parts.specs.declared.parts.Seen.{Seen}

abbrev pub nothing : Stacks
nothing = record {
  seen = [];
  opened = [];
  trees = [];
  lists = [];
  options = [];
  flags = [];
  behind = [];
  texts = [];
  names = [];
  bounds = [];
  rests = [];
  after_names = [];
  after_lefts = [];
  after_fors = [];
}

-- ---- one more part

abbrev pub push_seen : Seen → Stacks → Stacks
push_seen x p = record p { seen = x ∷ p.seen }

abbrev pub push_opened : ℕ → Stacks → Stacks
push_opened x p = record p { opened = x ∷ p.opened }

abbrev pub push_tree : Tree → Stacks → Stacks
push_tree x p = record p { trees = x ∷ p.trees }

abbrev pub push_list : List Tree → Stacks → Stacks
push_list x p = record p { lists = x ∷ p.lists }

abbrev pub push_option : Option Tree → Stacks → Stacks
push_option x p = record p { options = x ∷ p.options }

abbrev pub push_flag : Bool → Stacks → Stacks
push_flag x p = record p { flags = x ∷ p.flags }

abbrev pub push_behind : List Behind → Stacks → Stacks
push_behind x p = record p { behind = x ∷ p.behind }

abbrev pub push_texts : List Text → Stacks → Stacks
push_texts x p = record p { texts = x ∷ p.texts }

abbrev pub push_name : Option Bound → Stacks → Stacks
push_name x p = record p { names = x ∷ p.names }

abbrev pub push_bounds : List Bound → Stacks → Stacks
push_bounds x p = record p { bounds = x ∷ p.bounds }

abbrev pub push_rest : Option Rest → Stacks → Stacks
push_rest x p = record p { rests = x ∷ p.rests }

abbrev pub push_after_name : AfterName → Stacks → Stacks
push_after_name x p = record p { after_names = x ∷ p.after_names }

abbrev pub push_after_left : AfterLeft → Stacks → Stacks
push_after_left x p = record p { after_lefts = x ∷ p.after_lefts }

abbrev pub push_after_for : AfterFor → Stacks → Stacks
push_after_for x p = record p { after_fors = x ∷ p.after_fors }

-- ---- tokens, and what is told

abbrev pub seen_token : Terminal → Seen
seen_token x =
    record {
      at = x.token.at;
      text = x.token.text;
      number = number_value x.token.kind;
      octal = false;
      behind = 0;
    }

abbrev pub seen_told : Told → Seen
seen_told told =
    record { at = told.at; text = told.text; number = 0; octal = told.octal; behind = told.behind }

-- a signal beside which something is told that a row makes use of, but for the one that opens a function
abbrev pub is_seen : Signal → Bool
is_seen (tell.Begin kind) = true
is_seen tell.Name = true
is_seen tell.This = true
is_seen tell.NewTarget = true
is_seen tell.Literal = true
is_seen tell.Octal = true
is_seen tell.Text = true
is_seen (tell.Declare role) = true
is_seen tell.Rest = true
is_seen tell.Use = true
is_seen (tell.ScopeHere kind) = true
is_seen tell.EndScope = true
is_seen tell.Label = true
is_seen (tell.JumpTo jump) = true
is_seen tell.WordKey = true
is_seen tell.TextKey = true
is_seen tell.OctalKey = true
is_seen _ = false

abbrev pub push_told : Signal → Told → Stacks → Stacks
push_told (tell.Open node kind) told p = push_opened told.at p
push_told signal told p = elim (is_seen signal) [ true ↦ push_seen (seen_told told) p | false ↦ p ]

-- ---- what nonterminals give

abbrev pub shown : grammar.Behind → Behind
shown (grammar.updates operator) = behind.Updates operator
shown (grammar.joins operator right) = behind.Joins operator right
shown (grammar.chooses first second) = behind.Chooses first second
shown (grammar.assigns operator value) = behind.Assigns operator value

abbrev pub shown_name : grammar.AfterName → AfterName
shown_name (grammar.goes_over iteration over) = after_name.GoesOver iteration over
shown_name (grammar.initialised value more test update) = after_name.Initialised value more test update

abbrev pub shown_left : grammar.AfterLeft → AfterLeft
shown_left (grammar.target_of iteration over) = after_left.TargetOf iteration over
shown_left (grammar.expression_of operators more test update) =
    after_left.ExpressionOf (map shown operators) more test update

abbrev pub shown_for : grammar.AfterFor → AfterFor
shown_for (grammar.declares word bound after body end) = after_for.Declares word bound (shown_name after) body end
shown_for (grammar.begins_left left after body) = after_for.BeginsLeft left (shown_left after) body
shown_for (grammar.begins_expr first test update body) = after_for.BeginsExpr first test update body

abbrev pub push_after_key : AfterKey → Stacks → Stacks
push_after_key (has_value value) p = push_flag false (push_tree value p)
push_after_key (called function) p = push_flag true (push_tree function p)

abbrev pub push_params : List Bound × Option Rest → Stacks → Stacks
push_params params p = push_bounds params.0 (push_rest params.1 p)

abbrev pub push_value : (m : Nonterminal) → Value m → Stacks → Stacks
push_value n.Script tree p = push_tree tree p
push_value (n.Items c) trees p = push_list trees p
push_value (n.Item c) tree p = push_tree tree p
push_value (n.Statement c) tree p = push_tree tree p
push_value (n.Block c) tree p = push_tree tree p
push_value (n.Binds word c) trees p = push_list trees p
push_value (n.Bind word c) tree p = push_tree tree p
push_value (n.MoreBinds word c) trees p = push_list trees p
push_value (n.Initial word c) tree p = push_option tree p
push_value (n.Bound role) bound p = push_name (Some bound) p
push_value n.Semi done p = p
push_value n.LooseSemi done p = p
push_value (n.Else c) tree p = push_option tree p
push_value (n.Label jump) label p = push_name label p
push_value (n.ReturnValue c) tree p = push_option tree p
push_value (n.ThrowValue c) tree p = push_tree tree p
push_value (n.Clauses c has_default) trees p = push_list trees p
push_value (n.Handlers c) handlers p = push_option handlers.0 (push_option handlers.1 p)
push_value (n.CatchClause c) tree p = push_tree tree p
push_value n.CatchName name p = push_name name p
push_value (n.Finally c) tree p = push_option tree p
push_value n.ForOpen done p = p
push_value (n.Head c) after p = push_after_for (shown_for after) p
push_value (n.DeclaredHead word c) after p = push_after_name (shown_name after) p
push_value (n.LeftHead c) after p = push_after_left (shown_left after) p
push_value (n.OptionalExpr c) tree p = push_option tree p
push_value (n.Expr c) tree p = push_tree tree p
push_value (n.ExprRest listed c) trees p = push_list trees p
push_value (n.Operation loosest c) tree p = push_tree tree p
push_value (n.Tails tailed loosest c) after p = push_behind (map shown after.operators) (push_list after.tails p)
push_value (n.Rests loosest tightest c) operators p = push_behind (map shown operators) p
push_value n.ArrowSign done p = p
push_value (n.ArrowBody c) tree p = push_tree tree p
push_value (n.YieldValue c) value p = push_flag value.0 (push_option value.1 p)
push_value (n.Primary c) tree p = push_tree tree p
push_value (n.OptionalTail c) tree p = push_tree tree p
push_value n.Word word p = push_seen (seen_token word) p
push_value (n.Members c) trees p = push_list trees p
push_value (n.NewArgs c) tree p = push_option tree p
push_value (n.Args c) tree p = push_tree tree p
push_value (n.Arguments c) trees p = push_list trees p
push_value (n.MoreArguments c) trees p = push_list trees p
push_value (n.Argument c) tree p = push_tree tree p
push_value (n.TemplateRest c) rest p = push_texts rest.0 (push_list rest.1 p)
push_value (n.Elements c) trees p = push_list trees p
push_value (n.MoreElements c) trees p = push_list trees p
push_value (n.Props c) trees p = push_list trees p
push_value (n.MoreProps c) trees p = push_list trees p
push_value (n.Prop c) tree p = push_tree tree p
push_value n.ShorthandEnd done p = p
push_value (n.KeyRest c) after p = push_after_key after p
push_value (n.Key c) tree p = push_tree tree p
push_value n.OwnName name p = push_name name p
push_value n.Params params p = push_params params p
push_value n.Parameters params p = push_params params p
push_value n.MoreParameters params p = push_params params p
push_value n.ParameterEnd done p = p
push_value (n.Body generator) tree p = push_tree tree p

-- ---- the parts of a row

abbrev pub push_part : (symbol : Symbol) → Part Value symbol → Stacks → Stacks
push_part (s.Take wanted) x p = push_seen (seen_token x) p
push_part (s.Read m) v p = push_value m v p
push_part (s.Tell signal) told p = push_told signal told p

abbrev pub after_tell : (inside : Bool) → Signal → Bool
after_tell inside tell.Enter = true
after_tell inside tell.Close = false
after_tell inside _ = inside

-- Whether a reader that skips functions is inside of one behind this symbol.
abbrev pub after : (inside : Bool) → Symbol → Bool
after inside (s.Take wanted) = inside
after inside (s.Read m) = inside
after inside (s.Tell signal) = after_tell inside signal

abbrev pub push_outside : (inside : Bool) → (symbol : Symbol) → Part Value symbol → Stacks → Stacks
push_outside true symbol v p = p
push_outside false symbol v p = push_part symbol v p

-- the parts that are not inside of a function
abbrev pub push_parts : (inside : Bool) → (right : List Symbol) → Parts Value right → Stacks → Stacks
push_parts inside [] parts p = p
push_parts inside (symbol ∷ more) parts p =
    push_parts (after inside symbol) more parts.1 (push_outside inside symbol parts.0 p)

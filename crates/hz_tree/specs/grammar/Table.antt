-- The grammar: one row for a nonterminal and the tokens in hand. It is the language of ECMA-262's strict scripts
-- without the parts that `OutsideKind` lists; those are refused by name where they begin. The rows are in the files
-- below.
use Rattle.std.specs.Prelude.{List}
use Rattle.hz_tree.specs.declared.outside.BadKind.{BadKind}
use Rattle.hz_tree.specs.declared.nonterminal.Nonterminal.{Nonterminal}
use Rattle.hz_tree.specs.declared.nonterminal.Nonterminal.TheVariants as n
use Rattle.hz_tree.specs.declared.symbol.Symbol.{Symbol}
use Rattle.hz_tree.specs.declared.look.Look.{Look}
use Rattle.hz_tree.specs.grammar.Symbols.{RowOf, goes, refuses, Row}
use Rattle.hz_tree.specs.grammar.ExpressionRows.{expr_row, expr_rest_row, arrow_sign_row, arrow_body_row}
use Rattle.hz_tree.specs.grammar.ExpressionRows.{yield_value_row}
use Rattle.hz_tree.specs.grammar.HeadRows.{for_open_row, head_row, declared_head_row, left_head_row, optional_expr_row}
use Rattle.hz_tree.specs.grammar.FunctionRows.{own_name_row, params_row, parameters_row, more_parameters_row}
use Rattle.hz_tree.specs.grammar.FunctionRows.{parameter_end_row, body_row}
use Rattle.hz_tree.specs.grammar.OperatorRows.{operation_row, tails_row, rests_row}
use Rattle.hz_tree.specs.grammar.PrimaryRows.{optional_tail_row, word_row, members_row, new_args_row, args_row}
use Rattle.hz_tree.specs.grammar.PrimaryRows.{arguments_row, more_arguments_row, argument_row, primary_row}
use Rattle.hz_tree.specs.grammar.PrimaryRows.{template_rest_row, elements_row, more_elements_row}
use Rattle.hz_tree.specs.grammar.PropertyRows.{props_row, more_props_row, prop_row, shorthand_end_row, key_rest_row}
use Rattle.hz_tree.specs.grammar.PropertyRows.{key_row}
use Rattle.hz_tree.specs.grammar.StatementRows.{script_row, items_row, item_row, statement_row, block_row, binds_row}
use Rattle.hz_tree.specs.grammar.StatementRows.{bind_row, more_binds_row, initial_row, bound_row, semi_row}
use Rattle.hz_tree.specs.grammar.StatementRows.{loose_semi_row, else_row, label_row, return_value_row}
use Rattle.hz_tree.specs.grammar.StatementRows.{throw_value_row, clauses_row, handlers_row, catch_clause_row}
use Rattle.hz_tree.specs.grammar.StatementRows.{catch_name_row, finally_row}

abbrev pub row : (nonterminal : Nonterminal) → Look → Row nonterminal
row n.Script l = script_row
row (n.Items c) l = items_row c l.one
row (n.Item c) l = item_row c l.one l.two
row (n.Statement c) l = statement_row c l
row (n.Block c) l = block_row c
row (n.Binds word c) l = binds_row word c
row (n.Bind word c) l = bind_row word c
row (n.MoreBinds word c) l = more_binds_row word c l.one
row (n.Initial word c) l = initial_row word c l.one
row (n.Bound role) l = bound_row role l
row n.Semi l = semi_row l
row n.LooseSemi l = loose_semi_row l.one
row (n.Else c) l = else_row c l.one
row (n.Label jump) l = label_row jump l
row (n.ReturnValue c) l = return_value_row c l
row (n.ThrowValue c) l = throw_value_row c l
row (n.Clauses c has_default) l = clauses_row c has_default l.one
row (n.Handlers c) l = handlers_row c l
row (n.CatchClause c) l = catch_clause_row c
row n.CatchName l = catch_name_row l.one
row (n.Finally c) l = finally_row c l.one
row n.ForOpen l = for_open_row l.one
row (n.Head c) l = head_row c l
row (n.DeclaredHead word c) l = declared_head_row word c l.one
row (n.LeftHead c) l = left_head_row c l.one
row (n.OptionalExpr c) l = optional_expr_row c l.one
row (n.Expr c) l = expr_row c
row (n.ExprRest listed c) l = expr_rest_row listed c l.one
row (n.Operation loosest c) l = operation_row loosest c l
row (n.Tails tailed loosest c) l = tails_row tailed loosest c l
row (n.Rests loosest tightest c) l = rests_row loosest tightest c l
row n.ArrowSign l = arrow_sign_row l
row (n.ArrowBody c) l = arrow_body_row c l.one
row (n.YieldValue c) l = yield_value_row c l
row (n.OptionalTail c) l = optional_tail_row c l.one
row n.Word l = word_row l
row (n.Members c) l = members_row c l.one
row (n.NewArgs c) l = new_args_row c l.one
row (n.Args c) l = args_row c
row (n.Arguments c) l = arguments_row c l.one
row (n.MoreArguments c) l = more_arguments_row c l.one
row (n.Argument c) l = argument_row c l.one
row (n.Primary c) l = primary_row c l
row (n.TemplateRest c) l = template_rest_row c l
row (n.Elements c) l = elements_row c l.one
row (n.MoreElements c) l = more_elements_row c l.one
row (n.Props c) l = props_row c l.one
row (n.MoreProps c) l = more_props_row c l.one
row (n.Prop c) l = prop_row c l
row n.ShorthandEnd l = shorthand_end_row l.one
row (n.KeyRest c) l = key_rest_row c l
row (n.Key c) l = key_row c l
row n.OwnName l = own_name_row l.one
row n.Params l = params_row
row n.Parameters l = parameters_row l.one
row n.MoreParameters l = more_parameters_row l.one
row n.ParameterEnd l = parameter_end_row l.one
row (n.Body generator) l = body_row generator

-- ---- a row without what it makes

pub data Step : Type 0 where
  pushes : List Symbol → Step
  fails : BadKind → Step

abbrev pub step_of : {Value : Nonterminal → Type 0} {nonterminal : Nonterminal} → RowOf Value nonterminal → Step
step_of (goes right make) = pushes right
step_of (refuses cause) = fails cause

-- what the row of a nonterminal pushes
abbrev pub step : Nonterminal → Look → Step
step nonterminal l = step_of (row nonterminal l)

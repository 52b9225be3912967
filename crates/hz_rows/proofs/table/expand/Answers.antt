use Rattle.hz_rows.proofs.Rows.{pushed_at}
use Rattle.hz_rows.proofs.table.expand.Goals as goal

pub returns-in-Script : goal.returns-in-Script
returns-in-Script c = pushed_at _ _ _ _ _ _ c.in-Script.is c.script_row.ensures

pub returns-in-Items : goal.returns-in-Items
returns-in-Items c = pushed_at _ _ _ _ _ _ c.in-Items.is c.items_row.ensures

pub returns-in-Item : goal.returns-in-Item
returns-in-Item c = pushed_at _ _ _ _ _ _ c.in-Item.is c.item_row.ensures

pub returns-in-Statement : goal.returns-in-Statement
returns-in-Statement c = pushed_at _ _ _ _ _ _ c.in-Statement.is c.statement_row.ensures

pub returns-in-Block : goal.returns-in-Block
returns-in-Block c = pushed_at _ _ _ _ _ _ c.in-Block.is c.block_row.ensures

pub returns-in-Binds : goal.returns-in-Binds
returns-in-Binds c = pushed_at _ _ _ _ _ _ c.in-Binds.is c.binds_row.ensures

pub returns-in-Bind : goal.returns-in-Bind
returns-in-Bind c = pushed_at _ _ _ _ _ _ c.in-Bind.is c.bind_row.ensures

pub returns-in-MoreBinds : goal.returns-in-MoreBinds
returns-in-MoreBinds c = pushed_at _ _ _ _ _ _ c.in-MoreBinds.is c.more_binds_row.ensures

pub returns-in-Initial : goal.returns-in-Initial
returns-in-Initial c = pushed_at _ _ _ _ _ _ c.in-Initial.is c.initial_row.ensures

pub returns-in-Bound : goal.returns-in-Bound
returns-in-Bound c = pushed_at _ _ _ _ _ _ c.in-Bound.is c.bound_row.ensures

pub returns-in-Semi : goal.returns-in-Semi
returns-in-Semi c = pushed_at _ _ _ _ _ _ c.in-Semi.is c.semi_row.ensures

pub returns-in-LooseSemi : goal.returns-in-LooseSemi
returns-in-LooseSemi c = pushed_at _ _ _ _ _ _ c.in-LooseSemi.is c.loose_semi_row.ensures

pub returns-in-Else : goal.returns-in-Else
returns-in-Else c = pushed_at _ _ _ _ _ _ c.in-Else.is c.else_row.ensures

pub returns-in-Label : goal.returns-in-Label
returns-in-Label c = pushed_at _ _ _ _ _ _ c.in-Label.is c.label_row.ensures

pub returns-in-ReturnValue : goal.returns-in-ReturnValue
returns-in-ReturnValue c = pushed_at _ _ _ _ _ _ c.in-ReturnValue.is c.return_value_row.ensures

pub returns-in-ThrowValue : goal.returns-in-ThrowValue
returns-in-ThrowValue c = pushed_at _ _ _ _ _ _ c.in-ThrowValue.is c.throw_value_row.ensures

pub returns-in-Clauses : goal.returns-in-Clauses
returns-in-Clauses c = pushed_at _ _ _ _ _ _ c.in-Clauses.is c.clauses_row.ensures

pub returns-in-Handlers : goal.returns-in-Handlers
returns-in-Handlers c = pushed_at _ _ _ _ _ _ c.in-Handlers.is c.handlers_row.ensures

pub returns-in-CatchClause : goal.returns-in-CatchClause
returns-in-CatchClause c = pushed_at _ _ _ _ _ _ c.in-CatchClause.is c.catch_clause_row.ensures

pub returns-in-CatchName : goal.returns-in-CatchName
returns-in-CatchName c = pushed_at _ _ _ _ _ _ c.in-CatchName.is c.catch_name_row.ensures

pub returns-in-Finally : goal.returns-in-Finally
returns-in-Finally c = pushed_at _ _ _ _ _ _ c.in-Finally.is c.finally_row.ensures

pub returns-in-ForOpen : goal.returns-in-ForOpen
returns-in-ForOpen c = pushed_at _ _ _ _ _ _ c.in-ForOpen.is c.for_open_row.ensures

pub returns-in-Head : goal.returns-in-Head
returns-in-Head c = pushed_at _ _ _ _ _ _ c.in-Head.is c.head_row.ensures

pub returns-in-DeclaredHead : goal.returns-in-DeclaredHead
returns-in-DeclaredHead c = pushed_at _ _ _ _ _ _ c.in-DeclaredHead.is c.declared_head_row.ensures

pub returns-in-LeftHead : goal.returns-in-LeftHead
returns-in-LeftHead c = pushed_at _ _ _ _ _ _ c.in-LeftHead.is c.left_head_row.ensures

pub returns-in-OptionalExpr : goal.returns-in-OptionalExpr
returns-in-OptionalExpr c = pushed_at _ _ _ _ _ _ c.in-OptionalExpr.is c.optional_expr_row.ensures

pub returns-in-Expr : goal.returns-in-Expr
returns-in-Expr c = pushed_at _ _ _ _ _ _ c.in-Expr.is c.expr_row.ensures

pub returns-in-ExprRest : goal.returns-in-ExprRest
returns-in-ExprRest c = pushed_at _ _ _ _ _ _ c.in-ExprRest.is c.expr_rest_row.ensures

pub returns-in-Operation : goal.returns-in-Operation
returns-in-Operation c = pushed_at _ _ _ _ _ _ c.in-Operation.is c.operation_row.ensures

pub returns-in-Tails : goal.returns-in-Tails
returns-in-Tails c = pushed_at _ _ _ _ _ _ c.in-Tails.is c.tails_row.ensures

pub returns-in-Rests : goal.returns-in-Rests
returns-in-Rests c = pushed_at _ _ _ _ _ _ c.in-Rests.is c.rests_row.ensures

pub returns-in-ArrowSign : goal.returns-in-ArrowSign
returns-in-ArrowSign c = pushed_at _ _ _ _ _ _ c.in-ArrowSign.is c.arrow_sign_row.ensures

pub returns-in-ArrowBody : goal.returns-in-ArrowBody
returns-in-ArrowBody c = pushed_at _ _ _ _ _ _ c.in-ArrowBody.is c.arrow_body_row.ensures

pub returns-in-YieldValue : goal.returns-in-YieldValue
returns-in-YieldValue c = pushed_at _ _ _ _ _ _ c.in-YieldValue.is c.yield_value_row.ensures

pub returns-in-OptionalTail : goal.returns-in-OptionalTail
returns-in-OptionalTail c = pushed_at _ _ _ _ _ _ c.in-OptionalTail.is c.optional_tail_row.ensures

pub returns-in-Word : goal.returns-in-Word
returns-in-Word c = pushed_at _ _ _ _ _ _ c.in-Word.is c.word_row.ensures

pub returns-in-Members : goal.returns-in-Members
returns-in-Members c = pushed_at _ _ _ _ _ _ c.in-Members.is c.members_row.ensures

pub returns-in-NewArgs : goal.returns-in-NewArgs
returns-in-NewArgs c = pushed_at _ _ _ _ _ _ c.in-NewArgs.is c.new_args_row.ensures

pub returns-in-Args : goal.returns-in-Args
returns-in-Args c = pushed_at _ _ _ _ _ _ c.in-Args.is c.args_row.ensures

pub returns-in-Arguments : goal.returns-in-Arguments
returns-in-Arguments c = pushed_at _ _ _ _ _ _ c.in-Arguments.is c.arguments_row.ensures

pub returns-in-MoreArguments : goal.returns-in-MoreArguments
returns-in-MoreArguments c = pushed_at _ _ _ _ _ _ c.in-MoreArguments.is c.more_arguments_row.ensures

pub returns-in-Argument : goal.returns-in-Argument
returns-in-Argument c = pushed_at _ _ _ _ _ _ c.in-Argument.is c.argument_row.ensures

pub returns-in-Primary : goal.returns-in-Primary
returns-in-Primary c = pushed_at _ _ _ _ _ _ c.in-Primary.is c.primary_row.ensures

pub returns-in-TemplateRest : goal.returns-in-TemplateRest
returns-in-TemplateRest c = pushed_at _ _ _ _ _ _ c.in-TemplateRest.is c.template_rest_row.ensures

pub returns-in-Elements : goal.returns-in-Elements
returns-in-Elements c = pushed_at _ _ _ _ _ _ c.in-Elements.is c.elements_row.ensures

pub returns-in-MoreElements : goal.returns-in-MoreElements
returns-in-MoreElements c = pushed_at _ _ _ _ _ _ c.in-MoreElements.is c.more_elements_row.ensures

pub returns-in-Props : goal.returns-in-Props
returns-in-Props c = pushed_at _ _ _ _ _ _ c.in-Props.is c.props_row.ensures

pub returns-in-MoreProps : goal.returns-in-MoreProps
returns-in-MoreProps c = pushed_at _ _ _ _ _ _ c.in-MoreProps.is c.more_props_row.ensures

pub returns-in-Prop : goal.returns-in-Prop
returns-in-Prop c = pushed_at _ _ _ _ _ _ c.in-Prop.is c.prop_row.ensures

pub returns-in-ShorthandEnd : goal.returns-in-ShorthandEnd
returns-in-ShorthandEnd c = pushed_at _ _ _ _ _ _ c.in-ShorthandEnd.is c.shorthand_end_row.ensures

pub returns-in-KeyRest : goal.returns-in-KeyRest
returns-in-KeyRest c = pushed_at _ _ _ _ _ _ c.in-KeyRest.is c.key_rest_row.ensures

pub returns-in-Key : goal.returns-in-Key
returns-in-Key c = pushed_at _ _ _ _ _ _ c.in-Key.is c.key_row.ensures

pub returns-in-OwnName : goal.returns-in-OwnName
returns-in-OwnName c = pushed_at _ _ _ _ _ _ c.in-OwnName.is c.own_name_row.ensures

pub returns-in-Params : goal.returns-in-Params
returns-in-Params c = pushed_at _ _ _ _ _ _ c.in-Params.is c.params_row.ensures

pub returns-in-Parameters : goal.returns-in-Parameters
returns-in-Parameters c = pushed_at _ _ _ _ _ _ c.in-Parameters.is c.parameters_row.ensures

pub returns-in-MoreParameters : goal.returns-in-MoreParameters
returns-in-MoreParameters c = pushed_at _ _ _ _ _ _ c.in-MoreParameters.is c.more_parameters_row.ensures

pub returns-in-ParameterEnd : goal.returns-in-ParameterEnd
returns-in-ParameterEnd c = pushed_at _ _ _ _ _ _ c.in-ParameterEnd.is c.parameter_end_row.ensures

pub returns-in-Body : goal.returns-in-Body
returns-in-Body c = pushed_at _ _ _ _ _ _ c.in-Body.is c.body_row.ensures

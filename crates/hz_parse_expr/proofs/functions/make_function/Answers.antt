use Rattle.std.proofs.Common.{Ok}
use Rattle.hz_tree.specs.declared.nonterminal.Nonterminal.TheVariants as n
use Rattle.hz_parse_expr.proofs.ParameterLaws.{end_made}
use Rattle.hz_parse_expr.proofs.RowLaws.{row_made}
use Rattle.hz_parse_expr.proofs.functions.make_function.Goals as goal

pub returns-in-Bound : goal.returns-in-Bound
returns-in-Bound c =
    λ functions. row_made functions c.args.mark.nonterminal (n.Bound c.in-Bound.field-0) c.args.mark.look
    c.bound.result c.args.parts.now c.bound.new.parts c.in-Bound.is (c.bound.ensures c.in-Bound.field-0)

pub returns-in-OwnName : goal.returns-in-OwnName
returns-in-OwnName c =
    λ functions. row_made functions c.args.mark.nonterminal n.OwnName c.args.mark.look c.own_name.result
    c.args.parts.now c.own_name.new.parts c.in-OwnName.is c.own_name.ensures

pub returns-in-Params : goal.returns-in-Params
returns-in-Params c =
    λ functions. row_made functions c.args.mark.nonterminal n.Params c.args.mark.look c.params.result
    c.args.parts.now c.params.new.parts c.in-Params.is c.params.ensures

pub returns-in-Parameters : goal.returns-in-Parameters
returns-in-Parameters c =
    λ functions. row_made functions c.args.mark.nonterminal n.Parameters c.args.mark.look c.parameters.result
    c.args.parts.now c.parameters.new.parts c.in-Parameters.is c.parameters.ensures

pub returns-in-MoreParameters : goal.returns-in-MoreParameters
returns-in-MoreParameters c =
    λ functions. row_made functions c.args.mark.nonterminal n.MoreParameters c.args.mark.look
    c.more_parameters.result c.args.parts.now c.more_parameters.new.parts c.in-MoreParameters.is
    c.more_parameters.ensures

pub returns-in-ParameterEnd : goal.returns-in-ParameterEnd
returns-in-ParameterEnd c =
    λ functions. row_made functions c.args.mark.nonterminal n.ParameterEnd c.args.mark.look (Ok tt)
    c.args.parts.now c.args.parts.now c.in-ParameterEnd.is (end_made c.args.mark.look.one c.args.parts.now)

pub returns-in-Body : goal.returns-in-Body
returns-in-Body c =
    λ functions. row_made functions c.args.mark.nonterminal (n.Body c.in-Body.field-0) c.args.mark.look
    c.body.result c.args.parts.now c.body.new.parts c.in-Body.is (c.body.ensures c.in-Body.field-0)

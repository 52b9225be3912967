use Rattle.std.proofs.Common.{rules}
use Rattle.hz_tree.specs.declared.class.Class.TheVariants as k
use Rattle.hz_tree.specs.grammar.StatementRows.{statement_by}
use Rattle.hz_parse_expr.proofs.RowLaws.{made_by}
use Rattle.hz_parse_stmt.proofs.statements.unlabelled.Goals as goal

pub returns-in-Var : goal.returns-in-Var
returns-in-Var c =
    λ context look. made_by (statement_by context look) c.args.one k.Var c.var_statement.result c.args.parts.now
    c.var_statement.new.parts c.in-Var.is (c.var_statement.ensures context look)

pub returns-in-Semicolon : goal.returns-in-Semicolon
returns-in-Semicolon c =
    λ context look. made_by (statement_by context look) c.args.one k.Semicolon c.empty_statement.result c.args.parts.now
    c.empty_statement.new.parts c.in-Semicolon.is (c.empty_statement.ensures context look)

pub returns-in-Debugger : goal.returns-in-Debugger
returns-in-Debugger c =
    λ context look. made_by (statement_by context look) c.args.one k.Debugger c.debugger_statement.result c.args.parts.now
    c.debugger_statement.new.parts c.in-Debugger.is (c.debugger_statement.ensures context look)

pub returns-in-If : goal.returns-in-If
returns-in-If c =
    λ context look. made_by (statement_by context look) c.args.one k.If c.if_statement.result c.args.parts.now
    c.if_statement.new.parts c.in-If.is (c.if_statement.ensures context look)

pub returns-in-Do : goal.returns-in-Do
returns-in-Do c =
    λ context look. made_by (statement_by context look) c.args.one k.Do c.do_statement.result c.args.parts.now
    c.do_statement.new.parts c.in-Do.is (c.do_statement.ensures context look)

pub returns-in-While : goal.returns-in-While
returns-in-While c =
    λ context look. made_by (statement_by context look) c.args.one k.While c.while_statement.result c.args.parts.now
    c.while_statement.new.parts c.in-While.is (c.while_statement.ensures context look)

pub returns-in-For : goal.returns-in-For
returns-in-For c =
    λ context look. made_by (statement_by context look) c.args.one k.For c.for_statement.result c.args.parts.now
    c.for_statement.new.parts c.in-For.is (c.for_statement.ensures context look)

pub returns-in-Continue : goal.returns-in-Continue
returns-in-Continue c =
    λ context look. made_by (statement_by context look) c.args.one k.Continue c.continue_statement.result c.args.parts.now
    c.continue_statement.new.parts c.in-Continue.is (c.continue_statement.ensures context look)

pub returns-in-Break : goal.returns-in-Break
returns-in-Break c =
    λ context look. made_by (statement_by context look) c.args.one k.Break c.break_statement.result c.args.parts.now
    c.break_statement.new.parts c.in-Break.is (c.break_statement.ensures context look)

pub returns-in-Throw : goal.returns-in-Throw
returns-in-Throw c =
    λ context look. made_by (statement_by context look) c.args.one k.Throw c.throw_statement.result c.args.parts.now
    c.throw_statement.new.parts c.in-Throw.is (c.throw_statement.ensures context look)

pub returns-in-Try : goal.returns-in-Try
returns-in-Try c =
    λ context look. made_by (statement_by context look) c.args.one k.Try c.try_statement.result c.args.parts.now
    c.try_statement.new.parts c.in-Try.is (c.try_statement.ensures context look)

pub returns-in-Switch : goal.returns-in-Switch
returns-in-Switch c =
    λ context look. made_by (statement_by context look) c.args.one k.Switch c.switch_statement.result c.args.parts.now
    c.switch_statement.new.parts c.in-Switch.is (c.switch_statement.ensures context)

pub returns-in_default : goal.returns-in_default
returns-in_default c = λ context look. let h = c.expression_statement.ensures context look in search rules

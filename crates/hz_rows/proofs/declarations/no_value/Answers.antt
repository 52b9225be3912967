use Rattle.std.proofs.Common.{refl}
use Rattle.hz_tree.specs.declared.operator.DeclarationWord.TheVariants as word
use Rattle.hz_tree.specs.grammar.Table.{step_of}
use Rattle.hz_tree.specs.grammar.StatementRows as row
use Rattle.hz_rows.proofs.Rows.{pushed_by}
use Rattle.hz_rows.proofs.declarations.no_value.Goals as goal

pub returns-in-Const : goal.returns-in-Const
returns-in-Const c context =
    pushed_by (λ declared. step_of (row.no_value declared context)) c.args.word word.Const _ _ _ c.in-Const.is
    c.push.ensures

pub returns-in-Var : goal.returns-in-Var
returns-in-Var c context =
    pushed_by (λ declared. step_of (row.no_value declared context)) c.args.word word.Var _ _ _ c.in-Var.is refl

pub returns-in-Let : goal.returns-in-Let
returns-in-Let c context =
    pushed_by (λ declared. step_of (row.no_value declared context)) c.args.word word.Let _ _ _ c.in-Let.is refl

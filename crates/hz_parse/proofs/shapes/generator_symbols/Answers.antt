use Rattle.std.proofs.Common.{ap, sym}
use Rattle.hz_tree.specs.grammar.Classes.{is_function}
use Rattle.hz_stands.specs.Plain.{generator_by}
use Rattle.hz_stands.specs.Stands.{written}
use Rattle.hz_parse.proofs.FunctionShapes.{no_word}
use Rattle.hz_parse.proofs.shapes.generator_symbols.Goals as goal

pub returns-in-Function : goal.returns-in-Function
returns-in-Function c = ap (λ one. (written (generator_by (is_function one))).symbols) (sym c.in-Function.is)

pub returns-in_default : goal.returns-in_default
returns-in_default c = ap (λ b. (written (generator_by b)).symbols) (sym (no_word c.args.first c.in_default.not-Function))

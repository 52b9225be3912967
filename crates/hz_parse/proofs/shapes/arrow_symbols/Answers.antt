use Rattle.std.proofs.Common.{ap, false, sym}
use Rattle.hz_tree.specs.grammar.Classes.{is_paren}
use Rattle.hz_tree.specs.grammar.Symbols.{of_body}
use Rattle.hz_stands.specs.Stands.{arrowed, written}
use Rattle.hz_parse.proofs.FunctionShapes.{no_paren}
use Rattle.hz_parse.proofs.shapes.arrow_symbols.Goals as goal

pub returns-in-LeftParen : goal.returns-in-LeftParen
returns-in-LeftParen c = ap (λ one. (written (arrowed (of_body false) (is_paren one))).symbols) (sym c.in-LeftParen.is)

pub returns-in_default : goal.returns-in_default
returns-in_default c = ap (λ b. (written (arrowed (of_body false) b)).symbols) (sym (no_paren c.args.first c.in_default.not-LeftParen))

use Rattle.std.proofs.Common.{map}
use Rattle.hz_tree.specs.declared.class.Class.TheVariants as k
use Rattle.hz_tree.specs.grammar.OperatorRows.{tails_by}
use Rattle.hz_parts.specs.Values.{push_behind, shown}
use Rattle.hz_parse_expr.proofs.MakesLaws.{item_made}
use Rattle.hz_parse_expr.proofs.OperationLaws.{tails_end_made}
use Rattle.hz_parse_expr.proofs.RowLaws.{made_by, made_of}
use Rattle.hz_parse_expr.proofs.operations.tails.tails.Goals as goal

pub returns-in-Dot : goal.returns-in-Dot
returns-in-Dot c =
    made_by (tails_by c.args.tailed c.args.loosest c.args.context c.args.look) c.args.look.one k.Dot
    c.word_member.result c.args.parts.now c.word_member.new.parts c.in-Dot.is
    (c.word_member.ensures c.args.tailed c.args.loosest c.args.context c.args.look)

pub returns-in-LeftBracket : goal.returns-in-LeftBracket
returns-in-LeftBracket c =
    made_by (tails_by c.args.tailed c.args.loosest c.args.context c.args.look) c.args.look.one k.LeftBracket
    c.key_member.result c.args.parts.now c.key_member.new.parts c.in-LeftBracket.is
    (c.key_member.ensures c.args.tailed c.args.loosest c.args.context c.args.look)

pub returns-in-LeftParen : goal.returns-in-LeftParen
returns-in-LeftParen c =
    let row = tails_by c.args.tailed c.args.loosest c.args.context c.args.look in
    made_by row c.args.look.one k.LeftParen c.first_item.result c.args.parts.now c.first_item.new.parts
    c.in-LeftParen.is
    (made_of (row k.LeftParen) _ c.first_item.result c.args.parts.now c.first_item.new.parts c.first_item.ensures
    (λ h parts below. item_made parts.0 parts.1.0.tails c.args.parts.now c.first_item.new.parts
    (push_behind (map shown parts.1.0.operators) below) h))

pub returns-in-OptionalDot : goal.returns-in-OptionalDot
returns-in-OptionalDot c =
    made_by (tails_by c.args.tailed c.args.loosest c.args.context c.args.look) c.args.look.one k.OptionalDot
    c.chain.result c.args.parts.now c.chain.new.parts c.in-OptionalDot.is
    (c.chain.ensures c.args.tailed c.args.loosest c.args.context c.args.look)

pub returns-in_default : goal.returns-in_default
returns-in_default c =
    tails_end_made c.args.tailed c.args.loosest c.args.context c.args.look c.args.look.one c.tails_end.result
    c.args.parts.now c.tails_end.new.parts c.in_default.not-Dot c.in_default.not-LeftBracket
    c.in_default.not-LeftParen c.in_default.not-OptionalDot c.tails_end.ensures

use Rattle.hz_tree.specs.declared.class.Class.TheVariants as k
use Rattle.hz_tree.specs.grammar.PropertyRows.{key_by}
use Rattle.hz_parse_expr.proofs.PropertyLaws.{word_made}
use Rattle.hz_parse_expr.proofs.RowLaws.{made_by}
use Rattle.hz_parse_expr.proofs.properties.keys.key.Goals as goal

pub returns-in-Text : goal.returns-in-Text
returns-in-Text c =
    λ context look. made_by (key_by context look) c.args.one k.Text c.text_key.result c.args.parts.now
    c.text_key.new.parts c.in-Text.is (c.text_key.ensures context look)

pub returns-in-Number : goal.returns-in-Number
returns-in-Number c =
    λ context look. made_by (key_by context look) c.args.one k.Number c.number_key.result c.args.parts.now
    c.number_key.new.parts c.in-Number.is (c.number_key.ensures context look)

pub returns-in-OctalNumber : goal.returns-in-OctalNumber
returns-in-OctalNumber c =
    λ context look. made_by (key_by context look) c.args.one k.OctalNumber c.octal_key.result c.args.parts.now
    c.octal_key.new.parts c.in-OctalNumber.is (c.octal_key.ensures context look)

pub returns-in-LeftBracket : goal.returns-in-LeftBracket
returns-in-LeftBracket c =
    λ context look. made_by (key_by context look) c.args.one k.LeftBracket c.computed_key.result c.args.parts.now
    c.computed_key.new.parts c.in-LeftBracket.is (c.computed_key.ensures context look)

pub returns-in_default : goal.returns-in_default
returns-in_default c =
    λ context look. word_made context look c.args.one c.word_key.result c.args.parts.now c.word_key.new.parts
    c.in_default.not-Text c.in_default.not-Number c.in_default.not-OctalNumber c.in_default.not-LeftBracket
    (c.word_key.ensures context look)

use Rattle.hz_tree.specs.declared.class.Class.TheVariants as k
use Rattle.hz_tree.specs.grammar.PrimaryRows.{primary_by}
use Rattle.hz_parse_expr.proofs.RowLaws.{made_by}
use Rattle.hz_parse_expr.proofs.primaries.primary.without_function.Goals as goal

pub returns-in-This : goal.returns-in-This
returns-in-This c =
    λ context. made_by (primary_by context c.args.look) c.args.look.one k.This c.this.result c.args.parts.now
    c.this.new.parts c.in-This.is (c.this.ensures context c.args.look)

pub returns-in-Null : goal.returns-in-Null
returns-in-Null c =
    λ context. made_by (primary_by context c.args.look) c.args.look.one k.Null c.null.result c.args.parts.now
    c.null.new.parts c.in-Null.is (c.null.ensures context c.args.look)

pub returns-in-Number : goal.returns-in-Number
returns-in-Number c =
    λ context. made_by (primary_by context c.args.look) c.args.look.one k.Number c.number.result c.args.parts.now
    c.number.new.parts c.in-Number.is (c.number.ensures context c.args.look)

pub returns-in-OctalNumber : goal.returns-in-OctalNumber
returns-in-OctalNumber c =
    λ context. made_by (primary_by context c.args.look) c.args.look.one k.OctalNumber c.octal_number.result c.args.parts.now
    c.octal_number.new.parts c.in-OctalNumber.is (c.octal_number.ensures context c.args.look)

pub returns-in-Text : goal.returns-in-Text
returns-in-Text c =
    λ context. made_by (primary_by context c.args.look) c.args.look.one k.Text c.text.result c.args.parts.now
    c.text.new.parts c.in-Text.is (c.text.ensures context c.args.look)

pub returns-in-LeftParen : goal.returns-in-LeftParen
returns-in-LeftParen c =
    λ context. made_by (primary_by context c.args.look) c.args.look.one k.LeftParen c.parentheses.result c.args.parts.now
    c.parentheses.new.parts c.in-LeftParen.is (c.parentheses.ensures context c.args.look)

pub returns-in-LeftBracket : goal.returns-in-LeftBracket
returns-in-LeftBracket c =
    λ context. made_by (primary_by context c.args.look) c.args.look.one k.LeftBracket c.array.result c.args.parts.now
    c.array.new.parts c.in-LeftBracket.is (c.array.ensures context c.args.look)

pub returns-in-LeftBrace : goal.returns-in-LeftBrace
returns-in-LeftBrace c =
    λ context. made_by (primary_by context c.args.look) c.args.look.one k.LeftBrace c.object.result c.args.parts.now
    c.object.new.parts c.in-LeftBrace.is (c.object.ensures context c.args.look)

pub returns-in-TemplateWhole : goal.returns-in-TemplateWhole
returns-in-TemplateWhole c =
    λ context. made_by (primary_by context c.args.look) c.args.look.one k.TemplateWhole c.whole.result c.args.parts.now
    c.whole.new.parts c.in-TemplateWhole.is (c.whole.ensures context c.args.look)

pub returns-in-TemplateHead : goal.returns-in-TemplateHead
returns-in-TemplateHead c =
    λ context. made_by (primary_by context c.args.look) c.args.look.one k.TemplateHead c.with_holes.result c.args.parts.now
    c.with_holes.new.parts c.in-TemplateHead.is (c.with_holes.ensures context c.args.look)

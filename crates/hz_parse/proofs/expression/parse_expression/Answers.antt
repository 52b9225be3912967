use Rattle.std.proofs.Common.{◌≢◌, [], ap, sym, subst, ◌∙◌}
use Rattle.hz_tree.specs.sources.Refusals.{functions as functions_in}
use Rattle.hz_middle.specs.Place.{left}
use Rattle.hz_parse.specs.Given.{ReadsParts}
use Rattle.hz_parse.specs.Parsed as spec
use Rattle.hz_parse.specs.Parsed.{ReadsTree}
use Rattle.hz_parse.proofs.Expressions.{expression_read, made_trees}
use Rattle.hz_parse.proofs.InnerFunctions.{same_entry}
use Rattle.hz_parse.proofs.expression.parse_expression.Goals as goal

pub tree_of-requires : goal.tree_of-requires
tree_of-requires g c =
    let read : ReadsParts (functions_in c.args.index.now.source) (spec.expression c.args.whole (spec.context_in c.function.result.now.kind c.args.no_in)).symbols
    (left c.args.cursor.now) (left c.read_symbols.new.place) c.in_ok-parts.parts c.args.steps.now
    c.read_symbols.new.steps =
    subst (λ right. ReadsParts (functions_in c.args.index.now.source) right (left c.args.cursor.now)
    (left c.read_symbols.new.place) c.in_ok-parts.parts c.args.steps.now c.read_symbols.new.steps)
    (c.expression.ensures ∙ ap (λ x. (spec.expression c.args.whole x).symbols) c.context_in-context.ensures) c.in_ok-parts.ensures in
    let w = c.requires.stands c.function.result.now c.function.ensures in
    subst (λ trees. trees ≢ [])
    (sym (ap (λ p. p.trees) (read w).1.0 ∙ made_trees (functions_in c.args.index.now.source) c.args.whole (spec.context_in c.function.result.now.kind c.args.no_in) (left c.args.cursor.now) w))
    (λ e. cc)

pub returns : goal.returns
returns g c =
    λ info found.
    subst (λ i. ReadsTree (functions_in c.args.index.now.source) (spec.expression c.args.whole (spec.context_in i.kind c.args.no_in))
    (left c.args.cursor.now) (left c.read_symbols.new.place) c.tree_of.result c.args.steps.now
    c.read_symbols.new.steps) (same_entry c.function.result.now info (sym c.function.ensures ∙ found))
    (expression_read (functions_in c.args.index.now.source) c.args.whole (spec.context_in c.function.result.now.kind c.args.no_in) (left c.args.cursor.now)
    (left c.read_symbols.new.place) c.in_ok-parts.parts c.tree_of.result c.args.steps.now
    c.read_symbols.new.steps
    (subst (λ right. ReadsParts (functions_in c.args.index.now.source) right (left c.args.cursor.now)
    (left c.read_symbols.new.place) c.in_ok-parts.parts c.args.steps.now c.read_symbols.new.steps)
    (c.expression.ensures ∙ ap (λ x. (spec.expression c.args.whole x).symbols) c.context_in-context.ensures) c.in_ok-parts.ensures) c.tree_of.ensures)

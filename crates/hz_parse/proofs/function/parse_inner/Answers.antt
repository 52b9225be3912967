use Rattle.std.proofs.Common.{ap, subst, ◌∙◌, ◌≡◌, List, Option}
use Rattle.std.proofs.lemmas.Result.{IfOk-weaker}
use Rattle.hz_tree.specs.declared.tree.Bound.{Bound}
use Rattle.hz_tree.specs.declared.tree.Rest.{Rest}
use Rattle.hz_tree.specs.declared.tree.Tree.{Tree}
use Rattle.hz_tree.specs.grammar.Look.{look}
use Rattle.hz_tree.specs.sources.Refusals.{functions as functions_in}
use Rattle.hz_middle.specs.Place.{left}
use Rattle.hz_stands.specs.Plain.{shape_by}
use Rattle.hz_stands.specs.Stands.{written}
use Rattle.hz_parse.specs.Given as spec
use Rattle.hz_parse.specs.Given.{Gives, ReadsParts, function_tree}
use Rattle.hz_parse.specs.Parsed.{symbols_by}
use Rattle.hz_parse.proofs.FunctionShapes.{shape_read, shape_some, told_plain}
use Rattle.hz_parse.proofs.function.parse_inner.Goals as goal

pub function_of-requires : goal.function_of-requires
function_of-requires g c =
    shape_some (functions_in c.args.index.now.source) (left c.args.place.now) (left c.read_symbols.new.place)
    (symbols_by c.args.kind (left c.args.place.now)) c.in_ok-parts.parts c.args.steps.now c.read_symbols.new.steps
    c.has_one_name-one_name.result
    (c.has_one_name-one_name.ensures
    ∙ ap (λ l. spec.has_one_name (shape_by c.args.kind l.one)) c.look-first.ensures)
    (told_plain c.args.kind (look (left c.args.place.now)).one)
    (subst (λ right. ReadsParts (functions_in c.args.index.now.source) right (left c.args.place.now) (left c.read_symbols.new.place)
    c.in_ok-parts.parts c.args.steps.now c.read_symbols.new.steps)
    (c.symbols_of-right.ensures ∙ ap (λ l. (written (shape_by c.args.kind l.one)).symbols) c.look-first.ensures)
    c.in_ok-parts.ensures) c.requires.read

pub returns : goal.returns
returns g c =
    IfOk-weaker c.function_of.result _ _
    (λ tree h. shape_read (functions_in c.args.index.now.source) c.args.number c.args.kind (left c.args.place.now)
    (left c.read_symbols.new.place) (symbols_by c.args.kind (left c.args.place.now))
    c.in_ok-parts.parts c.args.steps.now c.read_symbols.new.steps tree
    (told_plain c.args.kind (look (left c.args.place.now)).one)
    (subst (λ right. ReadsParts (functions_in c.args.index.now.source) right (left c.args.place.now) (left c.read_symbols.new.place)
    c.in_ok-parts.parts c.args.steps.now c.read_symbols.new.steps)
    (c.symbols_of-right.ensures ∙ ap (λ l. (written (shape_by c.args.kind l.one)).symbols) c.look-first.ensures) c.in_ok-parts.ensures)
    (subst (λ b. (bounds : List Bound) (collected : Option Rest) (body : Tree)
    → Gives b c.in_ok-parts.parts bounds collected body
    → tree ≡ function_tree c.args.number c.args.kind bounds collected body)
    (c.has_one_name-one_name.ensures ∙ ap (λ l. spec.has_one_name (shape_by c.args.kind l.one)) c.look-first.ensures) h)) c.function_of.ensures

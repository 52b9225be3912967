use Rattle.std.proofs.Common.{◌≡◌, ◌≤◌, length, ap, sym, ◌∙◌, subst, arith}
use Rattle.hz_tree.specs.reading.Reading.{end_behind}
use Rattle.hz_tree.specs.sources.Refusals.{functions as functions_in}
use Rattle.hz_cuts.specs.Rows.{is_close, left_at_close, some_symbol}
use Rattle.hz_cuts.proofs.Left.{middle_left}
use Rattle.hz_middle.specs.Place.{left}
use Rattle.hz_parse.proofs.Behind.{end_found, passed, rest_inside, some_close}
use Rattle.hz_parse.proofs.passing.pass.Goals as goal

pub skip-requires : goal.skip-requires
skip-requires c =
    let s = c.requires.here.3 in
    let end : c.end.result ≡ end_behind s.rest =
    end_found (functions_in c.args.numbers.now.index.now.source) c.args.symbols.now (left c.args.place.now)
    c.requires.here.0 c.args.opened c.number_at-number.result c.end.result _ c.requires.here.2
    c.number_at-number.ensures c.end.ensures s in
    omega (arith, end, rest_inside c.args.place.now s.rest c.requires.inside s.passed s.goes_on)

pub drop_to_close-requires : goal.drop_to_close-requires
drop_to_close-requires c =
    let s = c.requires.here.3 in
    ap (some_symbol is_close) s.split ∙ some_close s.middle s.behind

pub returns : goal.returns
returns c = λ p others e s.
    let end : c.end.result ≡ end_behind s.rest =
    end_found (functions_in c.args.numbers.now.index.now.source) c.args.symbols.now (left c.args.place.now)
    p c.args.opened c.number_at-number.result c.end.result _ e
    c.number_at-number.ensures c.end.ensures s in (
      ap left c.skip.ensures ∙ passed c.args.place.now s.rest c.end.result s.passed s.goes_on end,
      (
        ap (λ p. p.source) c.skip.ensures,
        (
          subst (λ p. p.at ≤ length c.args.place.now.source) (sym c.skip.ensures)
              (omega (arith, end, rest_inside c.args.place.now s.rest c.requires.inside s.passed s.goes_on)),
          c.drop_to_close.ensures ∙ ap left_at_close s.split ∙ middle_left s.middle s.behind s.within,
        ),
      ),
    )

use Rattle.std.proofs.Common.{◌≡◌, true, false, Some, option_map, refl, ap, sym, ◌∙◌}
use Rattle.hz_tree.specs.grammar.Classes.{class_of, fits}
use Rattle.hz_tree.specs.reading.Reading.{Got}
use Rattle.hz_tree.specs.tokens.Tokens.{lexeme}
use Rattle.hz_middle.specs.Place.{first, left, terminal}
use Rattle.hz_middle.proofs.PlaceLaws.{eats, eats_not}
use Rattle.hz_middle.proofs.middle.Middle.eat.Goals as goal

pub returns-in_ok-take-in-Some : goal.returns-in_ok-take-in-Some
returns-in_ok-take-in-Some c =
    let p = c.args.self.now in
    let t = lexeme c.in-Some.one in
    let known : first p ≡ Some t = sym c.next.ensures.token ∙ ap (option_map lexeme) c.in-Some.is in
    let fitting : fits c.args.wanted (class_of t) ≡ true =
    ap (fits c.args.wanted) (sym c.class_of.ensures) ∙ sym c.fits.ensures ∙ c.if-fits.true in
    record {
      token = t;
      next = known;
      moved = c.in_ok-take-in-Some.ensures.ok;
      taken =
          eats p t c.args.wanted known fitting
          ∙ ap (λ q. Got (terminal p t) (left q)) (sym c.in_ok-take-in-Some.ensures.ok);
    }

pub returns-in_default : goal.returns-in_default
returns-in_default c =
    let p = c.args.self.now in
    let t = lexeme c.in-Some.one in
    let known : first p ≡ Some t = sym c.next.ensures.token ∙ ap (option_map lexeme) c.in-Some.is in
    let other : fits c.args.wanted (class_of t) ≡ false =
    ap (fits c.args.wanted) (sym c.class_of.ensures) ∙ sym c.fits.ensures ∙ c.if-fits.false in
    (eats_not p t c.args.wanted known other, refl)

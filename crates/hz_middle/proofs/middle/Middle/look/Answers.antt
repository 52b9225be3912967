use Rattle.std.proofs.Common.{◌≡◌, option_map, ap, refl, ◌∙◌, subst}
use Rattle.hz_tree.specs.declared.look.Look.{Look}
use Rattle.hz_tree.specs.grammar.Look.{look}
use Rattle.hz_tree.specs.tokens.Tokens.{lexeme}
use Rattle.hz_middle.specs.Place.{left, place_of, shown}
use Rattle.hz_middle.proofs.PlaceLaws.{looks}
use Rattle.hz_middle.proofs.middle.Middle.look.Goals as goal

pub returns : goal.returns
returns c =
    let s = c.self.inside in
    let one = option_map lexeme s.one in
    let two = option_map lexeme s.two in
    let own = (look (left c.args.self.now)).arrow in
    let same : shown one two own ≡ look (left c.args.self.now) =
    subst (λ p. (look (left p)).arrow ≡ own → shown one two own ≡ look (left p)) c.self.view_is
    (looks (place_of s.source.now s.braces s.at s.one) one two own c.self.invariant.one_is c.self.invariant.two_is) refl
    in c.shown.ensures ∙ ap (λ (l : Look). record l { arrow = c.args.arrow }) same

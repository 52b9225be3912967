use Rattle.std.proofs.Common.{◌∙◌, ap, Ok, subst}
use Rattle.hz_middle.specs.Place.{Eats}
use Rattle.hz_parts.specs.Values.{push_seen}
use Rattle.hz_parse.proofs.Tokens.{Leaves, on_ok, took}
use Rattle.hz_parse.proofs.token.take.Goals as goal

pub returns : goal.returns
returns g c = on_ok c.push.result c.push.ensures (λ pushed x rest got.
    let t : Leaves c.args.place.now c.eat.new.self x rest =
    took c.args.wanted c.args.place.now c.eat.new.self x rest c.requires.inside
    (subst (λ b. Eats c.args.wanted c.args.place.now c.eat.new.self (Ok b)) c.if-not-branch.false c.in_ok-eat.ensures) got
    in (
      t.behind,
      (
        t.source,
        (
          t.inside,
          (
            ap (λ seen. record c.args.parts.now { seen = seen }) pushed
                ∙ ap (λ first. push_seen first c.args.parts.now) (c.token_ahead-seen.ensures x rest t.ahead),
            c.count.ensures,
          ),
        ),
      ),
    ))

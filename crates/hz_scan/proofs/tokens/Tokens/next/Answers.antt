use Rattle.std.proofs.Common.{◌≡◌, true, false, refl, sym, ◌∙◌, arith}
use Rattle.std.proofs.lemmas.Grind.{common_steps}
use Rattle.hz_tree.specs.tokens.Tokens.{lexeme, is_last, tokens_from}
use Rattle.hz_scan.proofs.TokenLemmas.{tokens_law}
use Rattle.hz_scan.proofs.tokens.Tokens.next.Goals as goal
use Rattle.hz_scan.proofs.tokens.Tokens.next.Goals.{then-not-is_last+in_ok-follow, else-not-is_last}

pub returns-clause-ok : goal.returns-clause-ok
returns-clause-ok c =
    let inside = c.self.inside in
    let t = lexeme c.next_token-token.result in
    let all : c.args.self.now ≡ tokens_from inside.braces inside.source.now inside.place = sym c.self.view_is
    ∙ rw c.if-self.false refl in
    let law = tokens_law inside.braces inside.source.now inside.place in
    elim c.if-not-is_last.branch [
      | then-not-is_last+in_ok-follow w ↦
          let flag = w.if-not-is_last.true in
          let more : is_last t.kind ≡ false = grind (arith, common_steps) in
          all ∙ law ∙ rw (
            ← c.in_hole.ensures,
            ← c.next_token-token.ensures.token,
            more,
            w.self-is,
            w.in_ok-follow.ensures.ok,
          ) refl
      | else-not-is_last w ↦
          let flag = w.if-not-is_last.false in
          let last : is_last t.kind ≡ true = grind (arith, common_steps) in
          all ∙ law ∙ rw (← c.in_hole.ensures, ← c.next_token-token.ensures.token, last, w.self-is) refl
    ]

use Rattle.std.proofs.Common.{◌≡◌, ◌+◌, ◌<◌, length, get_or, map, arith, false, [], ◌∙◌}
use Rattle.std.proofs.lemmas.List.{length-set, get_or_read}
use Rattle.hz_tree.specs.declared.token.Token.{Token}
use Rattle.hz_tree.specs.declared.token.TokenKind.TheVariants.{Name}
use Rattle.hz_tree.specs.tokens.Tokens.{lexeme, tokens}
use Rattle.hz_front_dump.proofs.Counted.{token_lies, starts_next, starts_few}
use Rattle.hz_front_dump.proofs.places.starts.Goals as goal

abbrev no_token : Token
no_token = record { kind = Name; at = 0; text = record { ref_ptr = (0, 0); now = [] }; newline = false }

pub index_mut-requires : goal.index_mut-requires
index_mut-requires c =
    let all = c.deref-token-items.result.now in
    let is : map lexeme all ≡ tokens c.args.source.now = rw c.deref-token-items.ensures.value c.in_ok-tokens.ensures in
    let i = c.loop-token.token-index in
    let lies = token_lies c.args.source.now all is i no_token c.loop-token-test.true in
    omega (arith, lies, c.loop-token.invariant.0)

pub overflow_add-index_mut : goal.overflow_add-index_mut
overflow_add-index_mut c =
    let all = c.deref-token-items.result.now in
    let is : map lexeme all ≡ tokens c.args.source.now = rw c.deref-token-items.ensures.value c.in_ok-tokens.ensures in
    let i = c.loop-token.token-index in
    let lies = token_lies c.args.source.now all is i no_token c.loop-token-test.true in
    let at = (get_or all i no_token).at in
    let inside : at < length c.loop-token.starts.items = omega (arith, lies, c.loop-token.invariant.0) in
    let read = get_or_read c.loop-token.starts.items at c.index_mut.result.now inside c.index_mut.ensures.value 0 in
    let few = starts_few c.args.source.now i at c.loop-token.starts.items c.loop-token.invariant.1
    inside in
    omega (arith, few, read, c.loop-token.invariant.0)

pub loop-token-preserved : goal.loop-token-preserved
loop-token-preserved c =
    let all = c.deref-token-items.result.now in
    let is : map lexeme all ≡ tokens c.args.source.now = rw c.deref-token-items.ensures.value c.in_ok-tokens.ensures in
    let i = c.loop-token.token-index in
    let lies = token_lies c.args.source.now all is i no_token c.loop-token-test.true in
    let at = (get_or all i no_token).at in
    let inside : at < length c.loop-token.starts.items = omega (arith, lies, c.loop-token.invariant.0) in
    let read = get_or_read c.loop-token.starts.items at c.index_mut.result.now inside c.index_mut.ensures.value 0 in (
      length-set c.loop-token.starts.items at (c.index_mut.result.now + 1) ∙ c.loop-token.invariant.0,
      starts_next c.args.source.now all is i no_token c.loop-token-test.true c.loop-token.starts.items
          c.index_mut.result.now c.loop-token.invariant.1 inside read,
    )

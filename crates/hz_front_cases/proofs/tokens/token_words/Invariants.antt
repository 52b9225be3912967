use Rattle.std.proofs.Common.{◌≡◌, take, map, string_bytes}
use Rattle.hz_tree.specs.tokens.Tokens.{lexeme}
use Rattle.hz_front_cases.specs.Answers.{token_word}
use Rattle.hz_front_cases.proofs.tokens.token_words.Given as goal

abbrev pub invariant-loop-token : goal.invariant-loop-token
invariant-loop-token l = map string_bytes l.words.items ≡ map (λ t. token_word (lexeme t)) (take l.token-index l.all)

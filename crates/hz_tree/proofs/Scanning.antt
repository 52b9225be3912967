-- All that the tokens of a source are computed with, under one name: a proof that computes tokens unfolds `scanning`.
use Rattle.std.proofs.Common.{ℕ}
use Rattle.hz_tree.specs.tokens.Text.{run}
use Rattle.hz_tree.specs.tokens.Characters.{code_point, char_len, is_white_space, is_line_terminator, starts_name}
use Rattle.hz_tree.specs.tokens.Characters.{continues_name}
use Rattle.hz_tree.specs.tokens.Spaces.{line_part, line_comment, block_part, block_comment, blank, space_part, gap}
use Rattle.hz_tree.specs.tokens.Names.{reserved_words, is_reserved, name_part, name}
use Rattle.hz_tree.specs.tokens.Numbers.{digit_part, digits_len, value_of, radix_of, literal, valued, non_decimal}
use Rattle.hz_tree.specs.tokens.Numbers.{decimal, number}
use Rattle.hz_tree.specs.tokens.Literals.{braced_escape, unicode_escape, escape_len, is_octal_escape, text_part, text}
use Rattle.hz_tree.specs.tokens.Literals.{template_part, template}
use Rattle.hz_tree.specs.tokens.Punctuators.{punctuator_of, punctuator_len}
use Rattle.hz_tree.specs.tokens.Tokens.{sign, other, token, token_behind, tokens_from}

unfoldable pub scanning : ℕ
unfolding tokens_from token_behind gap blank space_part line_comment line_part block_comment block_part run code_point
    char_len is_white_space is_line_terminator token starts_name name name_part continues_name is_reserved
    reserved_words number decimal non_decimal value_of digits_len digit_part radix_of literal valued text text_part
    escape_len unicode_escape braced_escape is_octal_escape template template_part other sign punctuator_len
    punctuator_of
scanning = 0

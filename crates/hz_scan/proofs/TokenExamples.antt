-- The definition of tokens, computed on short sources.
use Rattle.std.proofs.Common.{◌≡◌, ℕ, List, [], ◌∷◌, ◌++◌, map, codes, true, false, refl}
use Rattle.hz_tree.specs.declared.outside.BadKind.TheVariants.{Syntax, Outside}
use Rattle.hz_tree.specs.declared.outside.OutsideKind.TheVariants.{BigInt, NumberForm, PrivateName, IdentifierEscape}
use Rattle.hz_tree.specs.declared.outside.OutsideKind.TheVariants.{HtmlComment}
use Rattle.hz_tree.specs.declared.token.TokenKind.TheVariants.{Name, Word, Punct, Number, Text, OctalNumber, Template}
use Rattle.hz_tree.specs.declared.token.TokenKind.TheVariants.{End, Bad}
use Rattle.hz_tree.specs.tokens.Tokens.{Lexeme, tokens}
use Rattle.hz_tree.proofs.Scanning.{scanning}

-- each source has these tokens, as far as a function sees them
abbrev Have : {A : Type 0} → (Lexeme → A) → List (List ℕ × List A) → Type 0
Have seen [] = Unit {0}
Have seen (row ∷ rows) = (map seen (tokens row.0) ≡ row.1) × Have seen rows

kinds : Have (λ t. t.kind) (
    (codes "let a = 1 + 0x1F;", Word ∷ Name ∷ Punct ∷ Number 1 ∷ Punct ∷ Number 31 ∷ Punct ∷ End ∷ [])
    ∷ (codes "a /* b", Name ∷ Bad Syntax ∷ [])
    ∷ (codes "a-->b" ++ 10 ∷ codes "/**/-->", Name ∷ Punct ∷ Punct ∷ Name ∷ Bad (Outside HtmlComment) ∷ [])
    ∷ (codes "#!a" ++ 10 ∷ codes "b #", Name ∷ Bad (Outside PrivateName) ∷ [])
    ∷ (codes "1_0 0b101 0o17 07", Number 10 ∷ Number 5 ∷ Number 15 ∷ OctalNumber ∷ End ∷ [])
    ∷ (codes "9007199254740991", Number 9007199254740991 ∷ End ∷ [])
    ∷ (codes "9007199254740992n", Bad (Outside NumberForm) ∷ [])
    ∷ (codes "a=1n", Name ∷ Punct ∷ Bad (Outside BigInt) ∷ [])
    ∷ (codes "a?.5:1", Name ∷ Punct ∷ Bad (Outside NumberForm) ∷ [])
    ∷ (codes "'a' " ++ 34 ∷ 92 ∷ codes "x41" ++ 92 ∷ codes "01" ++ 34 ∷ [], Text false ∷ Text true ∷ End ∷ [])
    ∷ (codes "'a" ++ 10 ∷ codes "'", Bad Syntax ∷ [])
    ∷ (
      codes "`a${{}}b${`c`}d`",
      Template true false ∷ Punct ∷ Punct ∷ Template false false ∷ Template true true ∷
          Template false true ∷ End ∷ [],
    )
    ∷ (codes "a" ++ 92 ∷ codes "u0061", Name ∷ Bad (Outside IdentifierEscape) ∷ [])
    ∷ [])
unfolding scanning
kinds = (refl, (refl, (refl, (refl, (refl, (refl, (refl, (refl, (refl, (refl, (refl, (refl, (refl, tt)))))))))))))

places : Have (λ t. t.at) (
    (codes "let a = 1 + 0x1F;", 0 ∷ 4 ∷ 6 ∷ 8 ∷ 10 ∷ 12 ∷ 16 ∷ 17 ∷ [])
    ∷ (codes "a/*b*/c//d", 0 ∷ 6 ∷ 10 ∷ [])
    ∷ (0xC2 ∷ 0xA0 ∷ 0xE2 ∷ 0x80 ∷ 0x8A ∷ 0xEF ∷ 0xBB ∷ 0xBF ∷ codes "a", 8 ∷ 9 ∷ [])
    ∷ (codes "a <<!--b", 0 ∷ 2 ∷ 4 ∷ 5 ∷ 7 ∷ 8 ∷ [])
    ∷ (codes "a>>>>=b", 0 ∷ 1 ∷ 4 ∷ 6 ∷ 7 ∷ [])
    ∷ [])
unfolding scanning
places = (refl, (refl, (refl, (refl, (refl, tt)))))

newlines : Have (λ t. t.newline) ((
  codes "a" ++ 10 ∷ codes "b" ++ 13 ∷ 10 ∷ codes "/*" ++ 10 ∷ codes "*/c/*" ++ 0xE2 ∷ 0x80 ∷ 0xA8 ∷ codes "*/d e",
  false ∷ true ∷ true ∷ true ∷ false ∷ false ∷ [],
)
    ∷ (codes "a /**/ b", false ∷ false ∷ false ∷ [])
    ∷ [])
unfolding scanning
newlines = (refl, (refl, tt))

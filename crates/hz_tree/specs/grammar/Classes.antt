-- The classes of tokens that the grammar tells apart.
use Rattle.std.specs.Prelude.{Bool, true, false, if◌then◌else◌, List, [], ◌∷◌, codes, Option, Some, None}
use Rattle.std.specs.Str.{bytes_eq}
use denote.Enum.Bare.{sameb}
use Rattle.hz_tree.specs.contracts.class.Class.{the_type as class_type}
use Rattle.hz_tree.specs.contracts.class.Bracket.{the_type as bracket_type}
use Rattle.hz_tree.specs.declared.class.Class.{Class}
use Rattle.hz_tree.specs.declared.class.Class.TheVariants as k
use Rattle.hz_tree.specs.declared.class.Bracket.{Bracket}
use Rattle.hz_tree.specs.declared.class.Bracket.TheVariants as bracket
use Rattle.hz_tree.specs.declared.class.Bracketing.{Bracketing}
use Rattle.hz_tree.specs.declared.class.Bracketing.TheVariants as does
use Rattle.hz_tree.specs.declared.outside.BadKind.{BadKind}
use Rattle.hz_tree.specs.declared.outside.BadKind.TheVariants as bad
use Rattle.hz_tree.specs.declared.outside.OutsideKind.TheVariants as outside
use Rattle.hz_tree.specs.declared.token.TokenKind.{TokenKind}
use Rattle.hz_tree.specs.declared.token.TokenKind.TheVariants as token
use Rattle.hz_tree.specs.tokens.Text.{Text}
use Rattle.hz_tree.specs.tokens.Tokens.{Lexeme}

-- ---- the class of a token

-- names that a rule spells out
abbrev pub names : List (Text × Class)
names =
    (codes "async", k.Async) ∷ (codes "await", k.Await) ∷ (codes "get", k.Get) ∷ (codes "of", k.Of)
    ∷ (codes "set", k.Set) ∷ (codes "target", k.Target) ∷ []

-- reserved words that a rule spells out
abbrev pub words : List (Text × Class)
words =
    (codes "break", k.Break) ∷ (codes "case", k.Case) ∷ (codes "catch", k.Catch) ∷ (codes "class", k.Class)
    ∷ (codes "const", k.Const) ∷ (codes "continue", k.Continue) ∷ (codes "debugger", k.Debugger)
    ∷ (codes "default", k.Default) ∷ (codes "delete", k.Delete) ∷ (codes "do", k.Do) ∷ (codes "else", k.Else)
    ∷ (codes "export", k.Export) ∷ (codes "false", k.False) ∷ (codes "finally", k.Finally) ∷ (codes "for", k.For)
    ∷ (codes "function", k.Function) ∷ (codes "if", k.If) ∷ (codes "import", k.Import) ∷ (codes "in", k.In)
    ∷ (codes "instanceof", k.InstanceOf) ∷ (codes "let", k.Let) ∷ (codes "new", k.New) ∷ (codes "null", k.Null)
    ∷ (codes "return", k.Return) ∷ (codes "super", k.Super) ∷ (codes "switch", k.Switch) ∷ (codes "this", k.This)
    ∷ (codes "throw", k.Throw) ∷ (codes "true", k.True) ∷ (codes "try", k.Try) ∷ (codes "typeof", k.TypeOf)
    ∷ (codes "var", k.Var) ∷ (codes "void", k.Void) ∷ (codes "while", k.While) ∷ (codes "with", k.With)
    ∷ (codes "yield", k.Yield) ∷ []

-- all punctuators
abbrev pub signs : List (Text × Class)
signs =
    (codes "{", k.LeftBrace) ∷ (codes "}", k.RightBrace) ∷ (codes "(", k.LeftParen) ∷ (codes ")", k.RightParen)
    ∷ (codes "[", k.LeftBracket) ∷ (codes "]", k.RightBracket) ∷ (codes ".", k.Dot) ∷ (codes "?.", k.OptionalDot)
    ∷ (codes "...", k.Ellipsis) ∷ (codes ";", k.Semicolon) ∷ (codes ",", k.Comma) ∷ (codes "?", k.Question)
    ∷ (codes ":", k.Colon) ∷ (codes "=>", k.Arrow)
    ∷ (codes "<", k.Less) ∷ (codes ">", k.Greater) ∷ (codes "<=", k.LessEqual) ∷ (codes ">=", k.GreaterEqual)
    ∷ (codes "==", k.Equal) ∷ (codes "!=", k.NotEqual) ∷ (codes "===", k.StrictEqual) ∷ (codes "!==", k.StrictNotEqual)
    ∷ (codes "+", k.Plus) ∷ (codes "-", k.Minus) ∷ (codes "*", k.Star) ∷ (codes "/", k.Slash) ∷ (codes "%", k.Percent)
    ∷ (codes "**", k.StarStar) ∷ (codes "++", k.PlusPlus) ∷ (codes "--", k.MinusMinus) ∷ (codes "<<", k.ShiftLeft)
    ∷ (codes ">>", k.ShiftRight) ∷ (codes ">>>", k.ShiftRightZero) ∷ (codes "&", k.And) ∷ (codes "|", k.Or)
    ∷ (codes "^", k.Xor) ∷ (codes "!", k.Not) ∷ (codes "~", k.Tilde) ∷ (codes "&&", k.AndAnd) ∷ (codes "||", k.OrOr)
    ∷ (codes "??", k.Nullish)
    ∷ (codes "=", k.Assign) ∷ (codes "+=", k.PlusAssign) ∷ (codes "-=", k.MinusAssign) ∷ (codes "*=", k.StarAssign)
    ∷ (codes "/=", k.SlashAssign) ∷ (codes "%=", k.PercentAssign) ∷ (codes "**=", k.StarStarAssign)
    ∷ (codes "<<=", k.ShiftLeftAssign) ∷ (codes ">>=", k.ShiftRightAssign) ∷ (codes ">>>=", k.ShiftRightZeroAssign)
    ∷ (codes "&=", k.AndAssign) ∷ (codes "|=", k.OrAssign) ∷ (codes "^=", k.XorAssign) ∷ (codes "&&=", k.AndAndAssign)
    ∷ (codes "||=", k.OrOrAssign) ∷ (codes "??=", k.NullishAssign) ∷ []

-- what the list has for the text, or else `other`
abbrev pub spelled : List (Text × Class) → (other : Class) → Text → Class
spelled [] other text = other
spelled (s ∷ more) other text = if bytes_eq s.0 text then s.1 else spelled more other text

abbrev pub bad_class : BadKind → Class
bad_class (bad.Outside outside.BigInt) = k.BigInt
bad_class (bad.Outside outside.NumberForm) = k.NumberForm
bad_class (bad.Outside outside.PrivateName) = k.PrivateName
bad_class (bad.Outside outside.IdentifierEscape) = k.IdentifierEscape
bad_class (bad.Outside outside.HtmlComment) = k.HtmlComment
bad_class (bad.Outside outside.Character) = k.Character
bad_class _ = k.Malformed

unfoldable pub class_by : TokenKind → Text → Class
class_by token.Name text = spelled names k.Name text
class_by token.Word text = spelled words k.Reserved text
class_by token.Punct text = spelled signs k.Malformed text
class_by (token.Number value) text = k.Number
class_by token.OctalNumber text = k.OctalNumber
class_by (token.Text octal) text = k.Text
class_by (token.Template true true) text = k.TemplateWhole
class_by (token.Template true false) text = k.TemplateHead
class_by (token.Template false false) text = k.TemplateMiddle
class_by (token.Template false true) text = k.TemplateTail
class_by token.End text = k.End
class_by (token.Bad kind) text = bad_class kind

abbrev pub class_of : Lexeme → Class
class_of t = class_by t.kind t.text

-- ---- tests of one class

unfoldable pub same_class : Class → Class → Bool
same_class a b = sameb class_type a b

abbrev pub is_name : Class → Bool
is_name k.Name = true
is_name k.Async = true
is_name k.Await = true
is_name k.Get = true
is_name k.Of = true
is_name k.Set = true
is_name k.Target = true
is_name _ = false

abbrev pub is_reserved_word : Class → Bool
is_reserved_word k.Break = true
is_reserved_word k.Case = true
is_reserved_word k.Catch = true
is_reserved_word k.Class = true
is_reserved_word k.Const = true
is_reserved_word k.Continue = true
is_reserved_word k.Debugger = true
is_reserved_word k.Default = true
is_reserved_word k.Delete = true
is_reserved_word k.Do = true
is_reserved_word k.Else = true
is_reserved_word k.Export = true
is_reserved_word k.False = true
is_reserved_word k.Finally = true
is_reserved_word k.For = true
is_reserved_word k.Function = true
is_reserved_word k.If = true
is_reserved_word k.Import = true
is_reserved_word k.In = true
is_reserved_word k.InstanceOf = true
is_reserved_word k.Let = true
is_reserved_word k.New = true
is_reserved_word k.Null = true
is_reserved_word k.Return = true
is_reserved_word k.Super = true
is_reserved_word k.Switch = true
is_reserved_word k.This = true
is_reserved_word k.Throw = true
is_reserved_word k.True = true
is_reserved_word k.Try = true
is_reserved_word k.TypeOf = true
is_reserved_word k.Var = true
is_reserved_word k.Void = true
is_reserved_word k.While = true
is_reserved_word k.With = true
is_reserved_word k.Yield = true
is_reserved_word k.Reserved = true
is_reserved_word _ = false

-- IdentifierName (ECMA-262, 12.7): a name or any reserved word
abbrev pub is_word : Class → Bool
is_word c = if is_name c then true else is_reserved_word c

abbrev pub is_colon : Class → Bool
is_colon k.Colon = true
is_colon _ = false

abbrev pub is_in : Class → Bool
is_in k.In = true
is_in _ = false

abbrev pub is_of : Class → Bool
is_of k.Of = true
is_of _ = false

abbrev pub is_yield : Class → Bool
is_yield k.Yield = true
is_yield _ = false

abbrev pub begins_key : Class → Bool
begins_key k.Text = true
begins_key k.Number = true
begins_key k.OctalNumber = true
begins_key k.LeftBracket = true
begins_key c = is_word c

abbrev pub is_arrow : Class → Bool
is_arrow k.Arrow = true
is_arrow _ = false

abbrev pub is_function : Class → Bool
is_function k.Function = true
is_function _ = false

abbrev pub is_paren : Class → Bool
is_paren k.LeftParen = true
is_paren _ = false

abbrev pub is_async_word : Class → Bool
is_async_word k.Async = true
is_async_word _ = false

-- a token of the class `found` stands where the grammar wants one of the class `wanted`
abbrev pub fits : (wanted found : Class) → Bool
fits k.Name found = is_name found
fits wanted found = same_class wanted found

-- ---- brackets

abbrev pub bracketing : Class → Bracketing
bracketing k.LeftParen = does.Opens bracket.Round
bracketing k.RightParen = does.Closes bracket.Round
bracketing k.LeftBracket = does.Opens bracket.Square
bracketing k.RightBracket = does.Closes bracket.Square
bracketing k.LeftBrace = does.Opens bracket.Curly
bracketing k.RightBrace = does.Closes bracket.Curly
bracketing k.TemplateHead = does.Opens bracket.Hole
bracketing k.TemplateMiddle = does.Reopens
bracketing k.TemplateTail = does.Closes bracket.Hole
bracketing k.End = does.Ends
bracketing k.Malformed = does.Ends
bracketing k.BigInt = does.Ends
bracketing k.NumberForm = does.Ends
bracketing k.PrivateName = does.Ends
bracketing k.IdentifierEscape = does.Ends
bracketing k.HtmlComment = does.Ends
bracketing k.Character = does.Ends
bracketing _ = does.Keeps

unfoldable pub same_bracket : Bracket → Bracket → Bool
same_bracket a b = sameb bracket_type a b

-- The brackets that are open behind a token, where `innermost` and `others` were open before it, the inner ones first.
-- None where the token closes another bracket than the innermost one, or is the last token.
abbrev pub still_open : Bracketing → (innermost : Bracket) → (others : List Bracket) → Option (List Bracket)
still_open (does.Opens b) innermost others = Some (b ∷ innermost ∷ others)
still_open (does.Closes b) innermost others = if same_bracket b innermost then Some others else None
still_open does.Reopens innermost others =
    if same_bracket bracket.Hole innermost then Some (innermost ∷ others) else None
still_open does.Ends innermost others = None
still_open does.Keeps innermost others = Some (innermost ∷ others)

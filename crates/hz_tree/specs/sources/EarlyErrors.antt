-- The kinds of early errors as they are printed, and their order.
use Rattle.std.specs.Prelude.{ℕ, codes}
use Rattle.hz_tree.specs.declared.early.EarlyKind.{EarlyKind}
use Rattle.hz_tree.specs.declared.early.EarlyKind.TheVariants as early
use Rattle.hz_tree.specs.tokens.Text.{Text}

abbrev pub name_of_early : EarlyKind → Text
name_of_early early.Target = codes "Target"
name_of_early early.EvalOrArguments = codes "EvalOrArguments"
name_of_early early.DuplicateLexical = codes "DuplicateLexical"
name_of_early early.LexicalVarClash = codes "LexicalVarClash"
name_of_early early.DuplicateParameter = codes "DuplicateParameter"
name_of_early early.ConstWithoutValue = codes "ConstWithoutValue"
name_of_early early.BadBreak = codes "BadBreak"
name_of_early early.BadContinue = codes "BadContinue"
name_of_early early.DuplicateLabel = codes "DuplicateLabel"
name_of_early early.DeleteName = codes "DeleteName"
name_of_early early.LegacyOctal = codes "LegacyOctal"
name_of_early early.NewTarget = codes "NewTarget"
name_of_early early.YieldInParameters = codes "YieldInParameters"
name_of_early early.UseStrictInBody = codes "UseStrictInBody"
name_of_early early.ParameterClash = codes "ParameterClash"
name_of_early early.CatchClash = codes "CatchClash"

-- of several errors at one place, the one of the least number is told
abbrev pub order_of_early : EarlyKind → ℕ
order_of_early early.Target = 0
order_of_early early.EvalOrArguments = 1
order_of_early early.DuplicateLexical = 2
order_of_early early.LexicalVarClash = 3
order_of_early early.DuplicateParameter = 4
order_of_early early.ConstWithoutValue = 5
order_of_early early.BadBreak = 6
order_of_early early.BadContinue = 7
order_of_early early.DuplicateLabel = 8
order_of_early early.DeleteName = 9
order_of_early early.LegacyOctal = 10
order_of_early early.NewTarget = 11
order_of_early early.YieldInParameters = 12
order_of_early early.UseStrictInBody = 13
order_of_early early.ParameterClash = 14
order_of_early early.CatchClash = 15

-- The rules of the profile and the limits as they are printed, and their order.
use Rattle.std.specs.Prelude.{ℕ, codes}
use Rattle.hz_tree.specs.declared.limit.LimitKind.{LimitKind}
use Rattle.hz_tree.specs.declared.limit.LimitKind.TheVariants as limit
use Rattle.hz_tree.specs.declared.profile.ProfileKind.{ProfileKind}
use Rattle.hz_tree.specs.declared.profile.ProfileKind.TheVariants as profile
use Rattle.hz_tree.specs.tokens.Text.{Text}

abbrev pub name_of_profile : ProfileKind → Text
name_of_profile profile.ScriptThis = codes "ScriptThis"
name_of_profile profile.Proto = codes "Proto"
name_of_profile profile.GlobalName = codes "GlobalName"
name_of_profile profile.Pattern = codes "Pattern"

-- of several at one place, the one of the least number is told
abbrev pub order_of_profile : ProfileKind → ℕ
order_of_profile profile.ScriptThis = 0
order_of_profile profile.Proto = 1
order_of_profile profile.GlobalName = 2
order_of_profile profile.Pattern = 3

abbrev pub name_of_limit : LimitKind → Text
name_of_limit limit.Nesting = codes "Nesting"
name_of_limit limit.Parameters = codes "Parameters"
name_of_limit limit.Arguments = codes "Arguments"

abbrev pub order_of_limit : LimitKind → ℕ
order_of_limit limit.Nesting = 0
order_of_limit limit.Parameters = 1
order_of_limit limit.Arguments = 2

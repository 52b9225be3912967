-- Refusals as they are printed.
use Rattle.std.specs.Prelude.{◌++◌, codes, decimal}
use Rattle.hz_tree.specs.declared.outside.OutsideKind.{OutsideKind}
use Rattle.hz_tree.specs.declared.outside.OutsideKind.TheVariants as outside
use Rattle.hz_tree.specs.declared.refusal.Refusal.{Refusal}
use Rattle.hz_tree.specs.declared.refusal.Refusal.TheVariants as refusal
use Rattle.hz_tree.specs.sources.EarlyErrors.{name_of_early}
use Rattle.hz_tree.specs.sources.Kinds.{name_of_profile, name_of_limit}
use Rattle.hz_tree.specs.tokens.Text.{Text}

abbrev pub name_of_kind : OutsideKind → Text
name_of_kind outside.Class = codes "Class"
name_of_kind outside.Async = codes "Async"
name_of_kind outside.Module = codes "Module"
name_of_kind outside.With = codes "With"
name_of_kind outside.RegExp = codes "RegExp"
name_of_kind outside.BigInt = codes "BigInt"
name_of_kind outside.NumberForm = codes "NumberForm"
name_of_kind outside.TaggedTemplate = codes "TaggedTemplate"
name_of_kind outside.Pattern = codes "Pattern"
name_of_kind outside.DefaultParameter = codes "DefaultParameter"
name_of_kind outside.Super = codes "Super"
name_of_kind outside.PrivateName = codes "PrivateName"
name_of_kind outside.IdentifierEscape = codes "IdentifierEscape"
name_of_kind outside.HtmlComment = codes "HtmlComment"
name_of_kind outside.Character = codes "Character"

-- the kind of refusal, and its place where it has one
abbrev pub text_of_refusal : Refusal → Text
text_of_refusal refusal.TooLong = codes "TooLong"
text_of_refusal (refusal.NotUtf8 at) = codes "NotUtf8 at " ++ decimal at
text_of_refusal (refusal.Syntax at) = codes "Syntax at " ++ decimal at
text_of_refusal (refusal.Outside kind at) = codes "Outside(" ++ (name_of_kind kind ++ (codes ") at " ++ decimal at))
text_of_refusal refusal.Sloppy = codes "Sloppy"
text_of_refusal (refusal.Early kind at) = codes "Early(" ++ (name_of_early kind ++ (codes ") at " ++ decimal at))
text_of_refusal (refusal.Profile kind at) =
    codes "Profile(" ++ (name_of_profile kind ++ (codes ") at " ++ decimal at))
text_of_refusal (refusal.Limit kind at) = codes "Limit(" ++ (name_of_limit kind ++ (codes ") at " ++ decimal at))
text_of_refusal (refusal.NotYet at) = codes "NotYet at " ++ decimal at

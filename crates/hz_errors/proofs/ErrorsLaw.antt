-- What the events of a script tell of its refusal is what its tree says.
use Rattle.std.proofs.Common.{◌≡◌, Bool, true, List, [], ◌∷◌, ◌++◌, map, refl, ap, sym}
use Rattle.std.proofs.Common.{◌∙◌}
use Rattle.hz_tree.specs.declared.early.EarlyKind.TheVariants as early
use Rattle.hz_tree.specs.declared.profile.ProfileKind.TheVariants as profile
use Rattle.hz_tree.specs.declared.tree.Tree.{Tree, out-Tree}
use Rattle.hz_tree.specs.errors.Declarations.{declaring_of}
use Rattle.hz_tree.specs.errors.Jumps.{jumping_of}
use Rattle.hz_tree.specs.errors.Receivers.{receiving_of}
use Rattle.hz_tree.specs.errors.Scopes.{EarlyError}
use Rattle.hz_tree.specs.errors.Sources.{early_errors, profile_errors, global_errors, script_declarations}
use Rattle.hz_tree.specs.errors.Targets.{ProfileError, meaning_of}
use Rattle.hz_tree.specs.grammar.Signals.{Event}
use Rattle.hz_tree.specs.sources.EarlyErrors.{order_of_early}
use Rattle.hz_tree.specs.sources.Kinds.{order_of_profile}
use Rattle.hz_tree.specs.sources.Least.{lesser, least_of}
use Rattle.hz_tree.specs.sources.Refusals.{refusal_in}
use Rattle.hz_tree.specs.trees.Events.{events_of}
use Rattle.hz_early.proofs.LeastLemmas.{least_of-append}
use Rattle.hz_laws.specs.Sorts.{script, fits_of}
use Rattle.hz_errors.specs.Errors.{Errors, happens, after, begun, early_found, profile_found, refusal_found}
use Rattle.hz_errors.specs.Declarations as declarations
use Rattle.hz_errors.specs.Labels as labels
use Rattle.hz_errors.specs.Levels as levels
use Rattle.hz_errors.specs.Operands as operands
use Rattle.hz_errors.specs.Receivers as receivers
use Rattle.hz_errors.proofs.DeclarationLaws.{early_declared, globals_declared}
use Rattle.hz_errors.proofs.LabelsLaw.{labels_least}
use Rattle.hz_errors.proofs.LevelLaw.{least_of_levels}
use Rattle.hz_errors.proofs.OperandLaw as operand_law
use Rattle.hz_errors.proofs.ReceiversLaw.{early_is, profile_is}

-- each part goes on by itself
abbrev apart : Errors → List Event → Errors
apart s es = record {
  declarations = declarations.after s.declarations es;
  labels = labels.after s.labels es;
  levels = levels.after s.levels es;
  operands = operands.after s.operands es;
  receivers = receivers.after s.receivers es;
}

after_apart : (es : List Event) (s : Errors) → after s es ≡ apart s es
after_apart [] s = refl
after_apart (e ∷ es) s = after_apart es (happens s e)

least_of_four : (a b c d : List EarlyError)
    → least_of order_of_early (a ++ (b ++ (c ++ d)))
    ≡ lesser order_of_early (least_of order_of_early a) (lesser order_of_early (least_of order_of_early b)
    (lesser order_of_early (least_of order_of_early c) (least_of order_of_early d)))
least_of_four a b c d =
    least_of-append order_of_early a (b ++ (c ++ d))
    ∙ ap (lesser order_of_early (least_of order_of_early a))
    (least_of-append order_of_early b (c ++ d)
    ∙ ap (lesser order_of_early (least_of order_of_early b)) (least_of-append order_of_early c d))

least_of_three : (a b c : List ProfileError)
    → least_of order_of_profile (a ++ (b ++ c))
    ≡ lesser order_of_profile (least_of order_of_profile a)
    (lesser order_of_profile (least_of order_of_profile b) (least_of order_of_profile c))
least_of_three a b c =
    least_of-append order_of_profile a (b ++ c)
    ∙ ap (lesser order_of_profile (least_of order_of_profile a)) (least_of-append order_of_profile b c)

module _ (tree : Tree) (fits : fits_of tree script ≡ true) where
  early_same : early_found (apart begun (events_of tree)) ≡ least_of order_of_early (early_errors tree)
  early_same =
      rw (early_declared tree fits, operand_law.early_of_operands tree fits, labels_least tree fits, early_is tree)
      (sym (least_of_four (declaring_of tree).errors (meaning_of tree).errors.early (jumping_of tree).errors
      (map (λ at. (early.NewTarget, at)) (receiving_of tree).target_at)))

  profile_same : profile_found (apart begun (events_of tree)) ≡ least_of order_of_profile (profile_errors tree)
  profile_same =
      rw (operand_law.profile_of_operands tree fits, profile_is tree, globals_declared tree fits)
      (sym (least_of_three (meaning_of tree).errors.profile
      (map (λ at. (profile.ScriptThis, at)) (receiving_of tree).this_at)
      (global_errors (script_declarations (out-Tree tree)))))

  pub refusal_same : (strict : Bool) → refusal_found strict (after begun (events_of tree)) ≡ refusal_in strict tree
  refusal_same strict =
      ap (refusal_found strict) (after_apart (events_of tree) begun)
      ∙ rw (early_same, profile_same, least_of_levels tree fits, operand_law.strict_of_operands tree fits) refl

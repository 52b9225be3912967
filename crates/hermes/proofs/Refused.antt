-- What the language refuses is never what is only not built yet.
use Rattle.std.proofs.Common.{◌≡◌, ℕ, List, Option, Some, None, Bool, true, false, ◌||◌, if◌then◌else◌}
use Rattle.hz_tree.specs.declared.outside.BadKind.{BadKind}
use Rattle.hz_tree.specs.declared.outside.BadKind.TheVariants as bad
use Rattle.hz_tree.specs.declared.refusal.Refusal.{Refusal}
use Rattle.hz_tree.specs.declared.refusal.Refusal.TheVariants as refusal
use Rattle.hz_tree.specs.declared.nonterminal.Nonterminal.TheVariants as n
use Rattle.hz_tree.specs.declared.tree.Tree.{Tree}
use Rattle.hz_tree.specs.grammar.Look.{terminals}
use Rattle.hz_tree.specs.reading.Reading.{Reading, Got, Stuck, Deeper, reads}
use Rattle.hz_tree.specs.errors.Limits.{LimitError, limit_errors}
use Rattle.hz_tree.specs.errors.Scopes.{EarlyError}
use Rattle.hz_tree.specs.errors.Sources.{early_errors, profile_errors}
use Rattle.hz_tree.specs.errors.Targets.{ProfileError}
use Rattle.hz_tree.specs.sources.EarlyErrors.{order_of_early}
use Rattle.hz_tree.specs.sources.Kinds.{order_of_limit, order_of_profile}
use Rattle.hz_tree.specs.sources.Least.{least_of}
use Rattle.hz_tree.specs.sources.Refusals.{refusal_at, refusal_by, refusal_of, first_refusal, is_strict}
use Rattle.hermes.specs.Outcomes.{IsRefusedFor}

first_never : (early : Option EarlyError) (profile : Option ProfileError) (limit : Option LimitError) (at : ℕ)
    → first_refusal early profile limit ≡ Some (refusal.NotYet at) → ⊥
first_never (Some error) profile limit at e = cc
first_never None (Some error) limit at e = cc
first_never None None (Some error) at e = cc
first_never None None None at e = cc

sloppy_or : (b : Bool) (r : Option Refusal) (at : ℕ) → (r ≡ Some (refusal.NotYet at) → ⊥)
    → (if b then r else Some refusal.Sloppy) ≡ Some (refusal.NotYet at) → ⊥
sloppy_or true r at h e = h e
sloppy_or false r at h e = cc

stuck_at : (cause : BadKind) (place at : ℕ) → Some (refusal_at cause place) ≡ Some (refusal.NotYet at) → ⊥
stuck_at bad.Syntax place at e = cc
stuck_at (bad.Outside kind) place at e = cc

by_reading : (strict : Bool) (r : Reading Tree) (at : ℕ) → refusal_by strict r ≡ Some (refusal.NotYet at) → ⊥
by_reading strict (Got tree ts) at e =
    let early = least_of order_of_early (early_errors tree) in
    let profile = least_of order_of_profile (profile_errors tree) in
    let limit = least_of order_of_limit (limit_errors tree) in
    sloppy_or (strict || is_strict tree) (first_refusal early profile limit) at (first_never early profile limit at) e
by_reading strict (Stuck cause ts) at e = stuck_at cause _ at e
by_reading strict Deeper at e = cc

by_text : (long broken : Bool) (r : Option Refusal) (place at : ℕ) → (r ≡ Some (refusal.NotYet at) → ⊥)
    → (if long then Some refusal.TooLong else (if broken then Some (refusal.NotUtf8 place) else r))
    ≡ Some (refusal.NotYet at) → ⊥
by_text true broken r place at h e = cc
by_text false true r place at h e = cc
by_text false false r place at h e = h e

never : (strict : Bool) (source : List ℕ) (at : ℕ) → refusal_of source strict ≡ Some (refusal.NotYet at) → ⊥
unfolding refusal_of
never strict source at e = by_text _ _ (refusal_by strict (reads n.Script (terminals source))) _ at
    (by_reading strict (reads n.Script (terminals source)) at) e

-- a refusal of the language is one of the source
pub by_language : (strict : Bool) (source : List ℕ) (why : Refusal) → refusal_of source strict ≡ Some why
    → IsRefusedFor strict source why
by_language strict source refusal.TooLong e = e
by_language strict source (refusal.NotUtf8 at) e = e
by_language strict source (refusal.Syntax at) e = e
by_language strict source (refusal.Outside kind at) e = e
by_language strict source refusal.Sloppy e = e
by_language strict source (refusal.Early kind at) e = e
by_language strict source (refusal.Profile kind at) e = e
by_language strict source (refusal.Limit kind at) e = e
by_language strict source (refusal.NotYet at) e = absurd (never strict source at e)

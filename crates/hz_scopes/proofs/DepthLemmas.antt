-- How many functions are open behind an event.
use Rattle.std.proofs.Common.{◌≡◌, ◌-◌, ℕ, List, [], ◌∷◌, length, refl, ap, sym, ◌∙◌, arith, cond, Bool, Some, None}
use Rattle.hz_tree.specs.declared.operator.DeclarationWord.TheVariants as word
use Rattle.hz_tree.specs.declared.signal.Role.{Role}
use Rattle.hz_tree.specs.declared.signal.Role.TheVariants as role
use Rattle.hz_tree.specs.declared.signal.Signal.TheVariants as tell
use Rattle.hz_tree.specs.grammar.Signals.{Event, Plain, Placed, Texted, Named, Written}
use Rattle.hz_tree.specs.tokens.Text.{Text}
use Rattle.hz_scopes.specs.State.{State, Body, Known, bind, happens, close}
use Rattle.hz_scopes.specs.Depth.{open_behind, heard}
use Rattle.hz_tree.specs.errors.Limits.{max_depth}
use Rattle.std.specs.Prelude.{nat_le}

bind_outer : (r : Role) (name : Text) (s : State) → (bind r name s).known.outer ≡ s.known.outer
bind_outer (role.Variable word.Var) name s = refl
bind_outer (role.Variable word.Let) name s = refl
bind_outer (role.Variable word.Const) name s = refl
bind_outer role.Function name s = refl
bind_outer role.Parameter name s = refl
bind_outer role.RestParameter name s = refl
bind_outer role.Caught name s = refl
bind_outer role.Own name s = refl

close_outer : (end : ℕ) (k : Known) → length (close end k).outer ≡ length k.outer - 1
close_outer end k = by_outer k.outer
  where
    by_outer : (outer : List Body)
        → length (close end (record { body = k.body; outer = outer; functions = k.functions })).outer ≡ length outer - 1
    by_outer [] = refl
    by_outer (b ∷ outer) = omega arith

pub open_after : (s : State) (e : Event) → length (happens s e).known.outer ≡ open_behind (length s.known.outer) e
open_after s (Plain tell.Enter) = refl
open_after s (Plain tell.Scope) = refl
open_after s (Plain signal) = refl
open_after s (Placed (tell.Open node kind) at) = refl
open_after s (Placed tell.Close end) = close_outer end s.known
open_after s (Placed signal at) = refl
open_after s (Texted tell.Use name) = refl
open_after s (Texted signal name) = refl
open_after s (Named (tell.Declare r) at name) = ap length (bind_outer r name s)
open_after s (Named signal at name) = refl
open_after s (Written signal at text octal) = refl

-- what is kept behind an event
pub heard_kept : (s : State) (e : Event) (b : Bool)
    → nat_le (length (happens s e).known.outer) max_depth ≡ b
    → heard (Some s) e ≡ cond b (Some (happens s e)) None
heard_kept s e b is =
    ap (λ n. cond (nat_le n max_depth) (Some (happens s e)) None) (sym (open_after s e))
    ∙ ap (λ b. cond b (Some (happens s e)) None) is

-- What is known behind the events of a source is kept, where functions stand no deeper than the limit.
use Rattle.std.proofs.Common.{◌≡◌, ℕ, ◌-◌, nat_le, true, cond, List, [], ◌∷◌, length, Some, None, refl, ap, ◌∙◌, arith}
use Rattle.hz_tree.specs.declared.operator.DeclarationWord.TheVariants as word
use Rattle.hz_tree.specs.declared.signal.Role.{Role}
use Rattle.hz_tree.specs.declared.signal.Role.TheVariants as role
use Rattle.hz_tree.specs.declared.signal.Signal.{Signal}
use Rattle.hz_tree.specs.declared.signal.Signal.TheVariants as tell
use Rattle.hz_tree.specs.declared.tree.Tree.{Tree}
use Rattle.hz_tree.specs.errors.Limits.{limit_errors, max_depth}
use Rattle.hz_tree.specs.grammar.Signals.{Event, Plain, Placed, Texted, Named, Written}
use Rattle.hz_tree.specs.tokens.Text.{Text}
use Rattle.hz_tree.specs.trees.Events.{events_of}
use Rattle.hz_tree.specs.trees.FunctionScopes.{FunctionScopes}
use Rattle.hz_laws.specs.Sorts.{script, fits_of}
use Rattle.hz_laws.proofs.Ranks.{and_left, and_right}
use Rattle.hz_scopes.specs.State.{Body, State, begun, bind, close, happens, after}
use Rattle.hz_scopes.specs.Depth.{open_behind, is_shallow, all_heard}
use Rattle.hz_scopes.proofs.DepthLaw.{shallow_source}

abbrev count : State → ℕ
count s = length s.known.outer

close_count : (end : ℕ) (body : Body) (outer : List Body) (functions : List FunctionScopes)
    → length (close end (record { body = body; outer = outer; functions = functions })).outer ≡ length outer - 1
close_count end body [] functions = omega arith
close_count end body (next ∷ outer) functions = omega arith

bind_count : (role : Role) (name : Text) (s : State) → count (bind role name s) ≡ count s
bind_count (role.Variable word.Var) name s = refl
bind_count (role.Variable word.Let) name s = refl
bind_count (role.Variable word.Const) name s = refl
bind_count _ name s = refl

plain_count : (signal : Signal) (s : State) → count (happens s (Plain signal)) ≡ open_behind (count s) (Plain signal)
plain_count tell.Enter s = refl
plain_count tell.Scope s = refl
plain_count _ s = refl

placed_count : (signal : Signal) (at : ℕ) (s : State)
    → count (happens s (Placed signal at)) ≡ open_behind (count s) (Placed signal at)
placed_count tell.Close at s = close_count at s.known.body s.known.outer s.known.functions
placed_count _ at s = refl

texted_count : (signal : Signal) (text : Text) (s : State) → count (happens s (Texted signal text)) ≡ count s
texted_count tell.Use text s = refl
texted_count _ text s = refl

named_count : (signal : Signal) (at : ℕ) (name : Text) (s : State) → count (happens s (Named signal at name)) ≡ count s
named_count (tell.Declare role) at name s = bind_count role name s
named_count _ at name s = refl

count_behind : (e : Event) (s : State) → count (happens s e) ≡ open_behind (count s) e
count_behind (Plain signal) s = plain_count signal s
count_behind (Placed signal at) s = placed_count signal at s
count_behind (Texted signal text) s = texted_count signal text s
count_behind (Named signal at name) s = named_count signal at name s
count_behind (Written signal at text octal) s = refl

kept : (es : List Event) (s : State) → is_shallow (count s) es ≡ true → all_heard (Some s) es ≡ Some (after s es)
kept [] s h = refl
kept (e ∷ es) s h =
    let small : nat_le (open_behind (count s) e) max_depth ≡ true = and_left _ _ h in
    let more : is_shallow (count (happens s e)) es ≡ true =
    ap (λ n. is_shallow n es) (count_behind e s) ∙ and_right (nat_le (open_behind (count s) e) max_depth) _ h in
    ap (λ b. all_heard (cond b (Some (happens s e)) None) es) small ∙ kept es (happens s e) more

pub source_kept : (tree : Tree) → fits_of tree script ≡ true → limit_errors tree ≡ []
    → all_heard (Some begun) (events_of tree) ≡ Some (after begun (events_of tree))
source_kept tree fits none = kept (events_of tree) begun (shallow_source tree fits none)

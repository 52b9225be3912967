-- What lists of events do to the state of operands, from what their parts do.
use Rattle.std.proofs.Common.{◌≡◌, Bool, true, false, ◌||◌, List, [], ◌∷◌, ◌++◌, refl, ap, sym, ◌∙◌}
use Rattle.std.proofs.Common.{append-nil}
use Rattle.hz_tree.specs.declared.signal.NodeShape.TheVariants as shape
use Rattle.hz_tree.specs.declared.signal.Signal.TheVariants as tell
use Rattle.hz_tree.specs.grammar.Signals.{Event, Plain}
use Rattle.hz_tree.specs.sources.EarlyErrors.{order_of_early}
use Rattle.hz_tree.specs.sources.Kinds.{order_of_profile}
use Rattle.hz_tree.specs.trees.Events.{one_more}
use Rattle.hz_tree.specs.errors.Targets.{Operand, Tail, Errors, no_errors, joined, plain, another}
use Rattle.hz_errors.specs.Operands.{Entry, Operands, noting, pushed, popped, changed, change_first, as_node, as_tailed}
use Rattle.hz_errors.specs.Operands.{as_marked, closing, happens, after, with_entries}
use Rattle.hz_errors.proofs.Orders.{noted_twice, noted_swapped, noted_none, early_is_order, profile_is_order}

pub after_append : (s : Operands) (es fs : List Event) → after s (es ++ fs) ≡ after (after s es) fs
after_append s [] fs = refl
after_append s (e ∷ es) fs = after_append (happens s e) es fs

-- ---- errors

pub noting_twice : (a b : Errors) (s : Operands) → noting b (noting a s) ≡ noting (joined a b) s
noting_twice a b s =
    ap (λ e. record (noting b (noting a s)) { early = e })
    (noted_twice order_of_early early_is_order a.early b.early s.early)
    ∙ ap (λ p. record (noting (joined a b) s) { profile = p })
    (noted_twice order_of_profile profile_is_order a.profile b.profile s.profile)

pub noting_none : (s : Operands) → noting no_errors s ≡ s
noting_none s =
    ap (λ e. record (noting no_errors s) { early = e }) (noted_none order_of_early early_is_order s.early)
    ∙ ap (λ p. record s { profile = p }) (noted_none order_of_profile profile_is_order s.profile)

noting_other : (a b : Errors) (s : Operands) → noting (joined a b) s ≡ noting (joined b a) s
noting_other a b s =
    ap (λ e. record (noting (joined a b) s) { early = e })
    (noted_swapped order_of_early early_is_order a.early b.early s.early)
    ∙ ap (λ p. record (noting (joined b a) s) { profile = p })
    (noted_swapped order_of_profile profile_is_order a.profile b.profile s.profile)

pub noting_swapped : (a b : Errors) (s : Operands) → noting b (noting a s) ≡ noting a (noting b s)
noting_swapped a b s = noting_twice a b s ∙ noting_other a b s ∙ sym (noting_twice b a s)

pub joined_none : (a : Errors) → joined a no_errors ≡ a
joined_none a =
    ap (λ e. record (joined a no_errors) { early = e }) (append-nil a.early)
    ∙ ap (λ p. record a { profile = p }) (append-nil a.profile)

-- ---- events within a statement, or within an expression

-- No directive can come, or one can.
pub data Frame : Type 0 where
  closed : Frame
  any : Frame

abbrev pub framed : Frame → Operands → Operands
framed closed s = closing s
framed any s = s

framed_noting : (frame : Frame) (a : Errors) (s : Operands) → noting a (framed frame s) ≡ framed frame (noting a s)
framed_noting closed a s = refl
framed_noting any a s = refl

-- these events find errors alone
abbrev pub Over : Frame → List Event → Errors → Type 0
Over frame es errors = (s : Operands) → after (framed frame s) es ≡ noting errors (framed frame s)

-- and leave an entry that goes into the one below
abbrev pub Part : List Event → Errors → Type 0
Part es errors = (s : Operands) → popped (after s es) ≡ noting errors s

abbrev pub Pushes : List Event → Operand → Errors → Type 0
Pushes es operand errors = (s : Operands) → after s es ≡ noting errors (pushed operand s)

pub part_of : (es : List Event) (operand : Operand) (errors : Errors) → Pushes es operand errors → Part es errors
part_of es operand errors h s = ap popped (h s)

pub over_none : (frame : Frame) → Over frame [] no_errors
over_none frame s = sym (noting_none (framed frame s))

-- events behind others
over_next : (frame : Frame) (rest : List Event) (a b : Errors) → Over frame rest b → (s t : Operands)
    → t ≡ noting a (framed frame s)
    → after t rest ≡ noting (joined a b) (framed frame s)
over_next frame rest a b h s t is =
    ap (λ t. after t rest) (is ∙ framed_noting frame a s)
    ∙ h (noting a s)
    ∙ ap (noting b) (sym (framed_noting frame a s))
    ∙ noting_twice a b (framed frame s)

pub over_both : (frame : Frame) (es rest : List Event) (a b : Errors) → Over frame es a → Over frame rest b
    → Over frame (es ++ rest) (joined a b)
over_both frame es rest a b h i s =
    after_append (framed frame s) es rest ∙ over_next frame rest a b i s (after (framed frame s) es) (h s)

pub over_join : (frame : Frame) (es rest : List Event) (a b : Errors) → Part es a → Over frame rest b
    → Over frame (es ++ Plain tell.Join ∷ rest) (joined a b)
over_join frame es rest a b h i s =
    after_append (framed frame s) es (Plain tell.Join ∷ rest)
    ∙ over_next frame rest a b i s (popped (after (framed frame s) es)) (h (framed frame s))

pub over_argument : (frame : Frame) (es rest : List Event) (a b : Errors) → Part es a → Over frame rest b
    → Over frame (es ++ Plain tell.Argument ∷ rest) (joined a b)
over_argument frame es rest a b h i s =
    after_append (framed frame s) es (Plain tell.Argument ∷ rest)
    ∙ over_next frame rest a b i s (popped (after (framed frame s) es)) (h (framed frame s))

-- the last of several
pub over_last : (frame : Frame) (es : List Event) (a : Errors) → Over frame es a → Over frame es (joined a no_errors)
over_last frame es a h s = h s ∙ ap (λ e. noting e (framed frame s)) (sym (joined_none a))

pub over_closed : (es : List Event) (a : Errors) → Over any es a → Over closed es a
over_closed es a h s = h (closing s)

-- an event behind them that is not heard
pub over_before : (frame : Frame) (es : List Event) (e : Event) (a : Errors) → ((s : Operands) → happens s e ≡ s)
    → Over frame es a
    → Over frame (es ++ e ∷ []) a
over_before frame es e a unheard h s =
    after_append (framed frame s) es (e ∷ []) ∙ unheard (after (framed frame s) es) ∙ h s

-- ---- operands

-- these events find errors, and make another node of the uppermost entry
abbrev pub Ends : List Event → Errors → Type 0
Ends es errors = (s : Operands) → after s es ≡ noting errors (changed (as_node shape.Other) s)

-- and so do these with the end of the node behind them
abbrev pub Resets : List Event → Errors → Type 0
Resets es errors =
    (s : Operands) → changed (as_node shape.Other) (after s es) ≡ noting errors (changed (as_node shape.Other) s)

pub ends_none : Ends one_more no_errors
ends_none s = sym (noting_none (changed (as_node shape.Other) s))

pub resets_over : (es : List Event) (a : Errors) → Over any es a → Resets es a
resets_over es a h s = ap (changed (as_node shape.Other)) (h s)

pub ends_reset : (es : List Event) (a : Errors) → Resets es a → Ends (es ++ one_more) a
ends_reset es a h s = after_append s es one_more ∙ h s

pub ends_join : (es rest : List Event) (a b : Errors) → Part es a → Ends rest b
    → Ends (es ++ Plain tell.Join ∷ rest) (joined a b)
ends_join es rest a b h i s =
    after_append s es (Plain tell.Join ∷ rest)
    ∙ ap (λ t. after t rest) (h s)
    ∙ i (noting a s)
    ∙ noting_twice a b (changed (as_node shape.Other) s)

pub resets_both : (es rest : List Event) (a b : Errors) → Resets es a → Resets rest b → Resets (es ++ rest) (joined a b)
resets_both es rest a b h i s =
    ap (changed (as_node shape.Other)) (after_append s es rest)
    ∙ i (after s es)
    ∙ ap (noting b) (h s)
    ∙ noting_twice a b (changed (as_node shape.Other) s)

pub resets_last : (es : List Event) (a : Errors) → Resets es a → Resets es (joined a no_errors)
resets_last es a h s = h s ∙ ap (λ e. noting e (changed (as_node shape.Other) s)) (sym (joined_none a))

pub operator_pushes : (es rest : List Event) (operand : Operand) (a b : Errors) → Pushes es operand a → Ends rest b
    → Pushes (es ++ rest) (plain operand.at another) (joined a b)
operator_pushes es rest operand a b h i s =
    after_append s es rest
    ∙ ap (λ t. after t rest) (h s)
    ∙ i (noting a (pushed operand s))
    ∙ noting_twice a b (pushed (plain operand.at another) s)

-- ---- changes of the uppermost entry

pub change_twice : (f g : Entry → Entry) (entries : List Entry)
    → change_first f (change_first g entries) ≡ change_first (λ e. f (g e)) entries
change_twice f g [] = refl
change_twice f g (top ∷ below) = refl

pub changed_twice : (f g : Entry → Entry) (s : Operands) → changed f (changed g s) ≡ changed (λ e. f (g e)) s
changed_twice f g s = ap (λ entries. with_entries entries s) (change_twice f g s.entries)

abbrev pub Tails : List Event → Tail → Errors → Type 0
Tails es tail errors = (s : Operands) → after s es ≡ noting errors (changed (as_tailed tail) s)

pub resets_tail : (es : List Event) (tail : Tail) (a : Errors) → Tails es tail a → Resets es a
resets_tail es tail a h s =
    ap (changed (as_node shape.Other)) (h s)
    ∙ ap (noting a) (changed_twice (as_node shape.Other) (as_tailed tail) s)

abbrev pub Marks : List Event → Bool → Errors → Type 0
Marks es proto errors = (s : Operands) → after s es ≡ noting errors (changed (as_marked proto) s)

pub unmarked : (proto : Bool) → proto ≡ (proto || false)
unmarked true = refl
unmarked false = refl

mark_none : (entries : List Entry) → entries ≡ change_first (as_marked false) entries
mark_none [] = refl
mark_none (top ∷ below) = ap (λ proto. record top { proto = proto } ∷ below) (unmarked top.proto)

-- a key that does not say `__proto__`
pub marks_none : (es : List Event) (a : Errors) → Over any es a → Marks es false a
marks_none es a h s = h s ∙ ap (λ entries. noting a (with_entries entries s)) (mark_none s.entries)

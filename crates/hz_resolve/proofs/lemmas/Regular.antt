-- The scopes of a source stand at their numbers, and these fall outwards.
use Rattle.std.proofs.Common.{◌≡◌, ℕ, zero, suc, List, Some, None, sym, ap, ◌∙◌, arith}
use Rattle.std.specs.List.{slice_get}
use Rattle.hz_tree.specs.sources.Refusals.{function_scopes}
use Rattle.hz_tree.specs.tokens.Text.{Text}
use Rattle.hz_tree.specs.trees.Layout.{PlacedScope, all_scopes}
use Rattle.hz_resolve.specs.Laws.{IsInside}
use Rattle.hz_resolve.proofs.lemmas.Nesting.{scope_inside, script_outermost}
use Rattle.hz_resolve.proofs.lemmas.Numbers.{number_is_place}
use Rattle.hz_resolve.proofs.lemmas.Ways.{AreRegular}

inside : (source : Text) (g r : ℕ) (p : PlacedScope) → slice_get (all_scopes (function_scopes source)) g ≡ Some p
    → p.around ≡ Some r
    → IsInside (all_scopes (function_scopes source)) g p
inside source zero r p is around =
    let none : p.around ≡ None = (script_outermost source p is).1 in
    let never : None ≡ Some r = sym none ∙ around in
    absurd cc
inside source (suc g) r p is around = scope_inside source (suc g) p is (omega arith)

same_around : (scopes : List PlacedScope) (g r : ℕ) (p : PlacedScope) → p.around ≡ Some r → (is : IsInside scopes g p)
    → is.around ≡ r
same_around scopes g r p around is = let both : Some is.around ≡ Some r = sym is.is ∙ around in cc

pub regular : (source : Text) → AreRegular (all_scopes (function_scopes source))
regular source =
    let scopes = all_scopes (function_scopes source) in
    record {
      numbers = number_is_place (function_scopes source);
      falls = λ g r p t is around outer.
          let one = inside source g r p is around in
          let both : Some one.outer ≡ Some t =
          sym one.there ∙ ap (slice_get scopes) (same_around scopes g r p around one) ∙ outer in
          let same : one.outer ≡ t = cc (both) in
          let function : one.outer.function ≡ t.function = ap (λ (t : PlacedScope). t.function) same in
          omega (arith, one.function, function);
      descends = λ g r p is around.
          let one = inside source g r p is around in
          omega (arith, one.before, same_around scopes g r p around one);
    }

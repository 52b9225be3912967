use Rattle.std.proofs.Common.{◌≡◌, ◌∙◌, refl, sym, ap, Some, None, length, map, option_map}
use Rattle.std.specs.Bool.{Decides}
use Rattle.std.specs.Prelude.{slice_get}
use Rattle.std.proofs.lemmas.Bool.Decides.{Decides-eqb}
use Rattle.std.proofs.lemmas.Option.{slice_get_read, slice_get_past, slice_get-map, same_Some, none-some}
use Rattle.std.proofs.lemmas.Slice.Eq.{slice_eq-Decides}
use Rattle.hz_machine_tests.proofs.script.ScriptCode.is_string.Goals as goal

pub returns-in-Some : goal.returns-in-Some
returns-in-Some c =
    let k = c.in-Some.ensures.lookup in
    let there : slice_get (map (λ t. t.items) c.args.self.now.texts.items) c.args.id ≡ Some c.in-Some.text.now.items =
    slice_get-map (λ t. t.items) c.args.self.now.texts.items c.args.id
    ∙ ap (option_map (λ t. t.items))
    (ap (λ ts. slice_get ts c.args.id) (sym c.deref.ensures.value)
    ∙ slice_get_read c.deref.result.now (length c.deref.result.now) c.args.id c.in-Some.text.now refl k.3.0 k.1) in
    let same : Decides c.eq.result (c.as_slice.result.now ≡ c.args.units.now) =
    slice_eq-Decides Decides-eqb c.as_slice.result.now c.args.units.now c.eq.result c.eq.ensures in (
      λ is. there ∙ ap Some (sym c.as_slice.ensures.value ∙ same.0 is),
      λ e. same.1 (c.as_slice.ensures.value ∙ same_Some c.in-Some.text.now.items c.args.units.now (sym there ∙ e)),
    )

pub returns-in-None : goal.returns-in-None
returns-in-None c =
    let none : slice_get (map (λ t. t.items) c.args.self.now.texts.items) c.args.id ≡ None =
    slice_get-map (λ t. t.items) c.args.self.now.texts.items c.args.id
    ∙ ap (option_map (λ t. t.items))
    (ap (λ ts. slice_get ts c.args.id) (sym c.deref.ensures.value)
    ∙ slice_get_past c.deref.result.now c.args.id c.in-None.ensures.lookup.3) in
    (λ is. cc, λ e. absurd (none-some c.args.units.now (sym none ∙ e)))

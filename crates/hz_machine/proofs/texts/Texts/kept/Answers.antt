use Rattle.std.proofs.Common.{◌≡◌, ◌∙◌, refl, sym, ap, Some, length}
use Rattle.std.specs.Prelude.{slice_get}
use Rattle.std.proofs.lemmas.Option.{slice_get_read}
use Rattle.hz_value.specs.world.Store.{number_of, interned}
use Rattle.hz_machine.proofs.Known.{numbered, stays}
use Rattle.hz_machine.proofs.texts.Texts.kept.Goals as goal

pub returns-clause-number : goal.returns-clause-number
returns-clause-number c =
    let there : slice_get c.self.inside.texts.keys c.args.number ≡ Some c.in_ok-text.text.now =
    ap (λ ks. slice_get ks c.args.number) (sym c.as_slice.ensures.keys)
    ∙ slice_get_read c.as_slice.result.now (length c.as_slice.result.now) c.args.number c.in_ok-text.text.now refl
    c.in_ok-text.ensures.lookup.3.0 c.in_ok-text.ensures.lookup.1 in
    ap (λ t. number_of c.args.self.now t) c.as_slice-2.ensures.value
    ∙ ap (λ ts. number_of ts c.in_ok-text.text.now.items) (sym c.self.view_is)
    ∙ numbered c.self.inside.texts.keys c.args.number c.in_ok-text.text.now c.as_slice.ensures.unique there

pub returns-clause-kept : goal.returns-clause-kept
returns-clause-kept c =
    let there : slice_get c.self.inside.texts.keys c.args.number ≡ Some c.in_ok-text.text.now =
    ap (λ ks. slice_get ks c.args.number) (sym c.as_slice.ensures.keys)
    ∙ slice_get_read c.as_slice.result.now (length c.as_slice.result.now) c.args.number c.in_ok-text.text.now refl
    c.in_ok-text.ensures.lookup.3.0 c.in_ok-text.ensures.lookup.1 in
    ap (λ t. interned c.args.self.now t) c.as_slice-2.ensures.value
    ∙ ap (λ ts. interned ts c.in_ok-text.text.now.items) (sym c.self.view_is)
    ∙ stays c.self.inside.texts.keys c.args.number c.in_ok-text.text.now there ∙ c.self.view_is

use Rattle.std.proofs.Common.{◌∙◌, ap, sym, subst, List, ℕ, Option, reverse, arith}
use Rattle.std.specs.HashMap.{get_by}
use Rattle.std.specs.Prelude.{slice_set}
use Rattle.std.specs.Str.{bytes_eq}
use Rattle.std.proofs.lemmas.Bool.{lt-leb}
use Rattle.std.proofs.lemmas.List.{length-reverse, length-set}
use Rattle.hz_scopes.specs.Layers.{first_start, layers_of, each}
use Rattle.hz_scopes.specs.Links.{left_of, IsOneLess}
use Rattle.hz_scopes.proofs.UsesLemmas.{reaches, place_below}
use Rattle.hz_scopes.proofs.UsesTaken.{gone, is_last, indexed_take, takes_one, none_taken}
use Rattle.hz_scopes.proofs.uses.Uses.take_one.Goals as goal

pub returns-in-None : goal.returns-in-None
returns-in-None c =
    let i = c.self.inside in
    let name = c.args.name.now in
    none_taken name i.starts i.entries.items c.args.self.now c.self.view_is
    (ap (reaches (first_start i.starts)) (sym (c.in-None.ensures.value ∙ c.self.invariant.0.0 name)))

pub returns-then-place-innermost : goal.returns-then-place-innermost
returns-then-place-innermost c =
    let i = c.self.inside in
    let name = c.args.name.now in
    let place = c.in-Some.place.now in
    none_taken name i.starts i.entries.items c.args.self.now c.self.view_is
    (ap (reaches (first_start i.starts)) (sym (c.in-Some.ensures.value ∙ c.self.invariant.0.0 name))
    ∙ lt-leb (first_start i.starts) place (omega (arith, c.innermost.ensures, c.if-place-innermost.true)))

pub index-entry-requires : goal.index-entry-requires
index-entry-requires c =
    let items = c.self.inside.entries.items in
    let name = c.args.name.now in
    omega (
      arith,
      place_below name c.in-Some.place.now (reverse items)
          (sym (c.in-Some.ensures.value ∙ c.self.invariant.0.0 name)),
      length-reverse items,
    )

pub index_mut-requires : goal.index_mut-requires
index_mut-requires c =
    let items = c.self.inside.entries.items in
    let name = c.args.name.now in
    omega (
      arith,
      place_below name c.in-Some.place.now (reverse items)
          (sym (c.in-Some.ensures.value ∙ c.self.invariant.0.0 name)),
      length-reverse items,
    )

pub take_back-requires : goal.take_back-requires
take_back-requires c =
    let i = c.self.inside in
    let name = c.args.name.now in
    let some = c.in-Some.ensures.value in
    let last = is_last name i.entries.items c.in-Some.place.now c.index-entry.result.now
    (sym (some ∙ c.self.invariant.0.0 name)) c.index-entry.ensures in
    let places : List ℕ → Option ℕ = λ q. get_by (λ k. bytes_eq q k.now) i.last in
    λ none. let at = ap places last.named in cc (none, some, at)

pub invariant_of-self : goal.invariant_of-self
invariant_of-self c =
    let i = c.self.inside in
    let place = c.in-Some.place.now in
    let e = c.index-entry.result.now in (
      indexed_take c.args.name.now i.entries.items place e
          (λ q. get_by (λ k. bytes_eq q k.now) i.last) (λ q. get_by (λ k. bytes_eq q k.now) c.take_back.new.last)
          (c.self.invariant.0, sym c.in-Some.ensures.value, c.index-entry.ensures) c.take_back.ensures,
      rw (length-set i.entries.items place (gone e)) c.self.invariant.1,
    )

pub returns : goal.returns
returns c =
    let i = c.self.inside in
    let items = i.entries.items in
    let name = c.args.name.now in
    let place = c.in-Some.place.now in
    let e = c.index-entry.result.now in
    let last = is_last name items place e (sym (c.in-Some.ensures.value ∙ c.self.invariant.0.0 name))
    c.index-entry.ensures in
    subst (λ l. IsOneLess name e.inner l (each left_of (layers_of i.starts (slice_set items place (gone e)))))
    c.self.view_is (takes_one name i.starts items place e last (omega (
      arith,
      c.innermost.ensures,
      c.if-place-innermost.false,
    )))

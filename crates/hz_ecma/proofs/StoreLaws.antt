-- Worlds agree still where the store of each has grown, and both keep the same.
use Rattle.std.proofs.Common.{◌≡◌, refl, sym, ap, ◌∙◌, ℕ, Option, Some, None}
use Rattle.std.specs.Prelude.{IfSome}
use Rattle.hz_value.specs.world.Records.{Binding}
use Rattle.hz_value.specs.world.Store.{Store, object}
use Rattle.hz_value.specs.world.Valid.{IsLive, IsLiveBinding, IsValid}
use Rattle.hz_value.specs.world.World.{World}
use Rattle.hz_ecma.specs.agreement.Contents.{binding_content, objects_content, symbols_content, globals_content}
use Rattle.hz_ecma.specs.agreement.Layouts.{Layout}
use Rattle.hz_ecma.specs.agreement.Agreement.{Matching, SameBindings, SameClosures, HasStart, Agree}
use Rattle.hz_ecma.proofs.ContentLaws.{Grows, content_stays}
use Rattle.hz_ecma.proofs.ScopeLaws.{scopes_same, closures_later}

abbrev pub in_store : Store → World → World
in_store s w = record w { store = s }

held_stays : (s s1 : Store) → Grows s s1 → (x : Binding) → IfSome x (λ v. IsLive s v)
    → binding_content s1 (Some x) ≡ binding_content s (Some x)
held_stays s s1 g None live = refl
held_stays s s1 g (Some v) live = ap (λ c. Some (Some c)) (content_stays s s1 g v live)

binding_stays : (s s1 : Store) → Grows s s1 → (b : Option Binding) → IsLiveBinding s b
    → binding_content s1 b ≡ binding_content s b
binding_stays s s1 g None live = refl
binding_stays s s1 g (Some x) live = held_stays s s1 g x live

module _ (layout : Layout) (m : Matching) (w w1 : World) (s s1 : Store) (h : Agree layout m w w1)
    (grows : Grows w.store s) (grows_other : Grows w1.store s1) where
  bindings_store : (r e : ℕ) → SameBindings layout w w1 r e
      → SameBindings layout (in_store s w) (in_store s1 w1) r e
  bindings_store r e is = record {
    live = is.live;
    live_environment = is.live_environment;
    slots = is.slots;
    same = λ name i at.
        binding_stays w.store s grows _ (h.valid.records r name is.live) ∙ is.same name i at
        ∙ sym (binding_stays w1.store s1 grows_other _ (h.valid_other.slots e i is.live_environment));
  }

  -- the texts that were there have their units still
  pub agree_store : IsValid (in_store s w) → IsValid (in_store s1 w1) → HasStart s → HasStart s1
      → objects_content s ≡ objects_content s1
      → ((o : ℕ) → SameClosures layout m w w1 (object s o).kind (object s1 o).kind)
      → symbols_content s ≡ symbols_content s1
      → globals_content s w.globals ≡ globals_content s1 w1.globals
      → Agree layout m (in_store s w) (in_store s1 w1)
  agree_store valid valid_other start start_other objects closures symbols globals = record {
    valid = valid;
    valid_other = valid_other;
    start = start;
    start_other = start_other;
    pairs = λ r e is. bindings_store r e (h.pairs r e is);
    one_environment = h.one_environment;
    one_record = h.one_record;
    objects = objects;
    closures = λ o.
        closures_later layout m m w w1 (in_store s w) (in_store s1 w1)
        (scopes_same m w w1 (in_store s w) (in_store s1 w1) (λ r e is. (h.pairs r e is).live_environment) refl refl
        refl)
        _ _ (closures o);
    symbols = symbols;
    globals = globals;
    lines = h.lines;
    turns = h.turns;
    calls = h.calls;
  }

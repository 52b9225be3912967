use Rattle.std.proofs.Common.{◌≡◌, ◌∙◌, ap, sym, refl, subst, length, List, ◌∷◌, reverse, Some, arith}
use Rattle.std.proofs.lemmas.List.{length-drop}
use Rattle.hz_index.specs.Table.{Table, unended}
use Rattle.hz_scopes.specs.Layers.{Layers, first_start, layers_of, pushed, AreNested}
use Rattle.hz_scopes.specs.State.{Known, State}
use Rattle.hz_scopes.specs.Stored.{Held, held_by, waiting_of, known_of, head_of_body, number_of, IsKept}
use Rattle.hz_tree.specs.trees.FunctionScopes.{FunctionScopes, Scope}
use Rattle.hz_scopes.specs.declared.body.Block.{Block}
use Rattle.hz_scopes.proofs.KeptLemmas.{begin_kept, reverse_push}
use Rattle.hz_scopes.proofs.LayersLemmas.{layers_push}
use Rattle.hz_scopes.proofs.ShownLemmas.{begin_shown, within_block}
use Rattle.hz_scopes.proofs.StoredLemmas.{nested_push}
use Rattle.hz_scopes.proofs.scopes.OpenScopes.begin_scope.Goals as goal

pub returns : goal.returns
returns c =
    let s = c.args.self.now in
    let blocks = s.body.blocks.items in
    let new : Block = record {
      number = c.in_ok-number.number;
      kind = c.args.kind;
      start = c.args.start;
      parent = c.innermost_number-parent.result;
    } in
    let make : Known → State = λ k. record { begun = s.begun; waiting = waiting_of s.waiting; known = k } in
    let scope = unended c.args.kind c.args.start (Some new.parent) in
    let number : new.number ≡ length (layers_of s.listed s.table.listed).inner =
    omega (
      arith,
      c.in_ok-number.ensures,
      c.listed.ensures,
      c.innermost.ensures,
      length-drop (first_start s.listed)
          s.table.listed,
    ) in
    let shows = begin_shown s.body (reverse blocks) (reverse s.outer.items) (held_by s) s.table.functions new number
    (c.innermost_number-parent.ensures ∙ ap (λ (bs : List Block). number_of (reverse bs)) c.deref.ensures.value) in
    let turned = ap reverse c.in_ok-push.ensures.items ∙ reverse_push blocks new in
    let layers = ap (layers_of s.listed) (ap (λ (t : Table). t.listed) c.in_ok-list_scope.ensures)
    ∙ layers_push s.listed s.table.listed scope c.requires.nested in
    let outer = reverse s.outer.items in
    let state : List Block → Held → List FunctionScopes → State =
    λ bs h f. record { begun = s.begun; waiting = waiting_of s.waiting; known = known_of s.body bs outer h f } in
    let h : Held = record {
      tops = s.tops;
      lexical = c.open.new.self;
      here = c.open-2.new.self;
      uses = c.open-3.new.self;
      listed = layers_of s.listed c.list_scope.new.self.listed;
    } in
    let held : h ≡ within_block new (held_by s) =
    rw (layers, c.in_ok-open-3.ensures, c.in_ok-open-2.ensures, c.in_ok-open.ensures) refl in
    let f = c.list_scope.new.self.functions in
    record {
      to = ap (λ (bs : List Block). state bs h f) turned ∙ ap (λ (h : Held). state (new ∷ reverse blocks) h f) held
          ∙ ap (λ (t : Table). state (new ∷ reverse blocks) (within_block new (held_by s)) t.functions)
          c.in_ok-list_scope.ensures
          ∙ ap make shows;
      whole = record {
        pending = ap (λ (t : Table). t.pending) c.in_ok-list_scope.ensures ∙ c.requires.pending;
        nested = subst (λ (t : Table). AreNested s.listed (length t.listed)) (sym c.in_ok-list_scope.ensures)
            (nested_push s.listed s.table.listed scope c.requires.nested);
        kept = subst (λ (l : Layers Scope). IsKept (head_of_body s.body) (reverse c.push.new.self.items) outer l)
            (sym layers)
            (subst (λ (bs : List Block). IsKept (head_of_body s.body) bs outer (pushed scope (layers_of s.listed
            s.table.listed)))
            (sym turned) (begin_kept (head_of_body s.body) (reverse blocks) outer
            (layers_of s.listed s.table.listed) new number c.requires.kept));
      };
    }

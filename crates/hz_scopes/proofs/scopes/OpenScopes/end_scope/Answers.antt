use Rattle.std.proofs.Common.{◌≡◌, ◌∙◌, ap, sym, refl, List, ◌∷◌, ◌++◌, ℕ, length, reverse, subst, false, ◌+◌}
use Rattle.std.specs.List.{filter}
use Rattle.hz_index.specs.Table.{Table, with_end}
use Rattle.hz_scopes.specs.Layers.{Layers, first_start, layers_of, AreNested}
use Rattle.hz_scopes.specs.Naming.{declared_names, used_names, with_names, shows}
use Rattle.hz_scopes.specs.State.{Known, State, in_body, end_scope}
use Rattle.hz_scopes.specs.Stored.{Held, held_by, waiting_of, head_of_body, head_of_block, known_of, IsKept}
use Rattle.hz_scopes.specs.declared.body.Block.{Block}
use Rattle.hz_tree.specs.trees.FunctionScopes.{FunctionScopes, Scope, ScopeName, scope_names}
use Rattle.hz_scopes.proofs.KeptLemmas.{named_end, ends, end_kept, reverse_push}
use Rattle.hz_scopes.proofs.NamingLemmas.{block_names}
use Rattle.hz_scopes.proofs.ShownLemmas.{end_shown, behind_block}
use Rattle.hz_scopes.proofs.scopes.OpenScopes.end_scope.Goals as goal

pub returns : goal.returns
returns c =
    let s = c.args.self.now in
    let b = s.body in
    let block = c.in-Some.block in
    let rest = c.pop.new.self.items in
    let end = c.args.end in
    let outer = reverse s.outer.items in
    let declared = s.lexical.inner in
    let here = s.here.inner in
    let names = scope_names b.binds declared here in
    let back : reverse b.blocks.items ≡ block ∷ reverse rest =
    ap reverse c.in-Some.ensures.items ∙ reverse_push rest block in
    let kept : IsKept (head_of_body b) (block ∷ reverse rest) outer (layers_of s.listed s.table.listed) =
    subst (λ (bs : List Block). IsKept (head_of_body b) bs outer (layers_of s.listed s.table.listed)) back
    c.requires.kept in
    let named : Table = record s.table { pending = names } in
    let table : c.add_here.new.table ≡ named =
    c.in_ok-add_here.ensures
    ∙ ap (with_names (used_names (filter (shows b.binds false declared) here))) c.in_ok-add_declared.ensures.named
    ∙ ap (λ (known : List ScopeName). record s.table {
      pending = (known ++ declared_names declared) ++ used_names (filter (shows b.binds false declared) here);
    }) c.requires.pending
    ∙ ap (λ (known : List ScopeName). record s.table { pending = known }) (block_names b.binds declared here) in
    let ended = ends s.listed block.number end (head_of_block block) named kept.innermost.within.0 in
    let last : c.end_scope.new.self ≡ with_end (first_start s.listed + block.number) end named =
    c.end_scope.ensures
    ∙ ap (λ (place : ℕ). with_end place end c.add_here.new.table)
    (c.in_ok-place.ensures ∙ ap (λ (m : ℕ). m + block.number) c.innermost.ensures)
    ∙ ap (with_end (first_start s.listed + block.number) end) table in
    let layers = ap (λ (t : Table). layers_of s.listed t.listed) last ∙ ended.shown in
    let make : Known → State = λ k. record { begun = s.begun; waiting = waiting_of s.waiting; known = k } in
    let shows = end_shown b block (reverse rest) outer (held_by s) s.table.functions end in
    let state : List Block → Held → List FunctionScopes → State =
    λ bs h f. record { begun = s.begun; waiting = waiting_of s.waiting; known = known_of b bs outer h f } in
    let h : Held = record {
      tops = s.tops;
      lexical = c.close.new.self;
      here = c.close-2.new.self;
      uses = c.join.new.self;
      listed = layers_of s.listed c.end_scope.new.self.listed;
    } in
    let held : h ≡ behind_block b.binds end block (held_by s) =
    rw (layers, c.join.ensures, c.in_ok-add_declared.ensures.taken, c.close.ensures, c.close-2.ensures) refl in
    record {
      to = ap (λ (h : Held). state (reverse rest) h c.end_scope.new.self.functions) held
          ∙ ap (λ (t : Table). state (reverse rest) (behind_block b.binds end block (held_by s)) t.functions) last
          ∙ ap make shows
          ∙ ap (λ (bs : List Block). in_body (end_scope end) (make (known_of b bs outer (held_by s) s.table.functions)))
          (sym back);
      whole = record {
        pending = ap (λ (t : Table). t.pending) last;
        nested = subst (AreNested s.listed) (sym (ap (λ (t : Table). length t.listed) last ∙ ended.same))
            c.requires.nested;
        kept = subst (λ (l : Layers Scope). IsKept (head_of_body b) (reverse rest) outer l) (sym layers)
            (end_kept (head_of_body b) block (reverse rest) outer (layers_of s.listed s.table.listed)
            (named_end end names (head_of_block block)) refl kept);
      };
    }

use Rattle.std.proofs.Common.{◌≡◌, ◌++◌, ◌∙◌, ap, sym, append_assoc}
use Rattle.std.proofs.lemmas.Result.{on_ok_weaker}
use Rattle.std.specs.List.{slice_get, flat_map, enumerate_from}
use Rattle.hz_tree.specs.sources.Refusals.{functions, function_scopes}
use Rattle.hz_tree.specs.tokens.Text.{Text}
use Rattle.hz_tree.specs.trees.Layout.{layout}
use Rattle.hz_resolve.specs.Places.{place_at}
use Rattle.hz_front_dump.specs.Dump.{function_line, free_line, scope_lines}
use Rattle.hz_front_dump.proofs.Written.{lines_known, same_places, have_places}
use Rattle.hz_front_dump.proofs.dump.push_lines.Goals as goal

three : (start a b d first second third : Text) → first ≡ start ++ a → second ≡ first ++ b → third ≡ second ++ d
    → third ≡ start ++ (a ++ (b ++ d))
three start a b d first second third h i j =
    j ∙ ap (λ (x : Text). x ++ d) (i ∙ ap (λ (x : Text). x ++ b) h ∙ append_assoc start a b)
    ∙ append_assoc start (a ++ b) d ∙ ap (λ (x : Text). start ++ x) (append_assoc a b d)

pub push_scopes-requires : goal.push_scopes-requires
push_scopes-requires c =
    have_places c.args.index.now.source c.args.k c.scopes.result c.args.layout.now c.requires.layout c.scopes.ensures

pub returns : goal.returns
returns c =
    let source = c.args.index.now.source in
    let k = c.args.k in
    let f = c.function.result.now in
    let free = c.free.result in
    let places = layout (function_scopes source) k in
    let mine = place_at c.args.layout.now k in
    let scopes = c.scopes.result in
    let known = lines_known places k c.args.own (slice_get (functions source) k) (slice_get
    (function_scopes source) k) f
    free scopes c.function.ensures c.free.ensures c.scopes.ensures in
    on_ok_weaker c.push_scopes.result (λ h.
    three c.args.text.now.items (function_line k f c.args.own) (flat_map free_line free)
    (flat_map (scope_lines mine) (enumerate_from 0 scopes)) c.push_function.new.text.items c.push_free.new.text.items
    c.push_scopes.new.text.items c.in_ok-push_function.ensures c.in_ok-push_free.ensures h
    ∙ ap (λ (x : Text). c.args.text.now.items ++ (function_line k f c.args.own ++ (flat_map free_line free ++ x)))
    (same_places mine places (enumerate_from 0 scopes) (c.requires.layout k))
    ∙ ap (λ (x : Text). c.args.text.now.items ++ x) (sym known)) c.push_scopes.ensures

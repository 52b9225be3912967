-- What the events of a tree do, from what the tree declares: in order, in the innermost scope.
use Rattle.std.proofs.Common.{◌≡◌, ℕ, true, false, List, [], ◌∷◌, ◌++◌, map, drop, refl, sym, ap, ◌∙◌}
use Rattle.std.proofs.Common.{append_assoc, append-nil, Option, subst}
use Rattle.std.proofs.lemmas.List.{map-append}
use Rattle.hz_tree.specs.declared.scope.ScopeKind.{ScopeKind}
use Rattle.hz_tree.specs.declared.scope.ScopeKind.TheVariants as scope
use Rattle.hz_tree.specs.grammar.Signals.{Event}
use Rattle.hz_tree.specs.sources.EarlyErrors.{order_of_early}
use Rattle.hz_tree.specs.sources.Kinds.{order_of_profile}
use Rattle.hz_tree.specs.errors.Declarations.{Declaration, Declaring, none_declared, together, vars_of}
use Rattle.hz_tree.specs.errors.Declarations.{in_scope, in_top, at_top, scope_errors}
use Rattle.hz_tree.specs.errors.Scopes.{empty_scope, holds_vars, EarlyError}
use Rattle.hz_tree.specs.errors.Sources.{global_errors}
use Rattle.hz_tree.specs.errors.Targets.{ProfileError}
use Rattle.hz_early.specs.Events.{Known}
use Rattle.hz_errors.specs.declared.declarations.Site.{Site}
use Rattle.hz_errors.specs.Declarations.{Declared, declared_at, of_script, globals_noted, site_in, opens, closes}
use Rattle.hz_errors.specs.Declarations.{happens, after}
use Rattle.hz_errors.specs.Found.{noted}
use Rattle.hz_errors.proofs.Orders.{noted_twice, noted_none, early_is_order, profile_is_order}
use Rattle.hz_errors.proofs.ScopeLemmas.{least, both, least_append, both_swapped, declare_all, declare_append}
use Rattle.hz_errors.proofs.ScopeLemmas.{errors_append, inner_scopes, inner_errors, top_scopes, top_errors}
use Rattle.hz_errors.proofs.SiteLemmas.{of_script_append, globals_append, within, declared_within, declared_vars}
use Rattle.hz_errors.proofs.SiteLemmas.{inner_globals, function_globals}

pub after_append : (d : Declared) (es fs : List Event) → after d (es ++ fs) ≡ after (after d es) fs
after_append d [] fs = refl
after_append d (e ∷ es) fs = after_append (happens d e) es fs

-- these errors, and those of these declarations in the scopes that are open
abbrev pub knows : List EarlyError → List Declaration → Known → Known
knows errors ds k =
    record {
      scopes = declare_all ds k.scopes;
      least = noted order_of_early (errors ++ scope_errors k.scopes ds) k.least;
    }

abbrev pub state : List Site → Known → ℕ → Option ProfileError → Declared
state sites k bound profile = record { sites = sites; known = k; bound = bound; profile = profile }

-- The events act as the declarations: they declare them in the innermost scope, and leave the same scopes open.
pub record Acts (es : List Event) (d : Declaring) : Type 0 where
  pub bound : ℕ → ℕ
  pub acts : (site : Site) (outer : List Site) (k : Known) (at : ℕ) (profile : Option ProfileError)
      → after (state (site ∷ outer) k at profile) es
      ≡ state (site ∷ outer) (knows d.errors (map (declared_at site) d.declarations) k) (bound at)
      (globals_noted site d.declarations profile)

pub same_state : (sites : List Site) (bound : ℕ) {k l : Known} {p q : (Option ProfileError)} → k ≡ l → p ≡ q
    → state sites k bound p ≡ state sites l bound q
same_state sites bound {k} {l} {p} {q} h i = ap (λ k. state sites k bound p) h ∙ ap (state sites l bound) i

-- ---- one after the other

knows_none : (k : Known) → k ≡ knows [] [] k
knows_none k =
    ap (λ l. record { scopes = k.scopes; least = l }) (sym (noted_none order_of_early early_is_order k.least))

pub acts_none : Acts [] none_declared
acts_none =
    record {
      bound = λ at. at;
      acts = λ site outer k at profile.
          same_state (site ∷ outer) at (knows_none k) (sym (noted_none order_of_profile profile_is_order profile));
    }

pub least_twice : (x y z : List EarlyError) (l : Option EarlyError) → least (x ++ y) ≡ least z
    → noted order_of_early y (noted order_of_early x l) ≡ noted order_of_early z l
least_twice x y z l h = noted_twice order_of_early early_is_order x y l ∙ ap (both l) h

pub knows_twice : (e f : List EarlyError) (ds es : List Declaration) (k : Known)
    → knows f es (knows e ds k) ≡ knows (e ++ f) (ds ++ es) k
knows_twice e f ds es k =
    let first : List EarlyError = scope_errors k.scopes ds in
    let second : List EarlyError = scope_errors (declare_all ds k.scopes) es in
    let all : List EarlyError = scope_errors k.scopes (ds ++ es) in
    ap (λ l. record { scopes = declare_all es (declare_all ds k.scopes); least = l })
    (least_twice (e ++ first) (f ++ second) ((e ++ f) ++ (first ++ second)) k.least (both_swapped e f first second)
    ∙ ap (λ x. noted order_of_early ((e ++ f) ++ x) k.least) (sym (errors_append ds es k.scopes)))
    ∙ ap (λ xs. record { scopes = xs; least = noted order_of_early ((e ++ f) ++ all) k.least })
    (sym (declare_append ds es k.scopes))

globals_twice : (site : Site) (ds es : List Declaration) (profile : Option ProfileError)
    → globals_noted site es (globals_noted site ds profile) ≡ globals_noted site (ds ++ es) profile
globals_twice site ds es profile =
    noted_twice order_of_profile profile_is_order (global_errors (of_script site ds))
    (global_errors (of_script site es)) profile
    ∙ ap (λ x. noted order_of_profile x profile)
    (sym (ap global_errors (of_script_append site ds es)
    ∙ globals_append (of_script site ds) (of_script site es)))

pub acts_both : {es fs : (List Event)} {d e : Declaring} → Acts es d → Acts fs e → Acts (es ++ fs) (together d e)
acts_both {es} {fs} {d} {e} h i =
    record {
      bound = λ at. i.bound (h.bound at);
      acts = λ site outer k at profile.
          after_append (state (site ∷ outer) k at profile) es fs
          ∙ ap (λ s. after s fs) (h.acts site outer k at profile)
          ∙ i.acts site outer (knows d.errors (map (declared_at site) d.declarations) k) (h.bound at)
          (globals_noted site d.declarations profile)
          ∙ same_state (site ∷ outer) (i.bound (h.bound at))
          (knows_twice d.errors e.errors (map (declared_at site) d.declarations)
          (map (declared_at site) e.declarations) k
          ∙ ap (λ ds. knows (d.errors ++ e.errors) ds k)
          (sym (map-append (declared_at site) d.declarations e.declarations)))
          (globals_twice site d.declarations e.declarations profile);
    }

pub acts_as : {es : (List Event)} {d e : Declaring} → d ≡ e → Acts es d → Acts es e
acts_as {es} h i = subst (Acts es) h i

pub together_none : (d : Declaring) → together d none_declared ≡ d
together_none d =
    ap (λ x. record { declarations = x; errors = d.errors ++ [] }) (append-nil d.declarations)
    ∙ ap (λ x. record { declarations = d.declarations; errors = x }) (append-nil d.errors)

-- ---- scopes

module _ (site : Site) (k : Known) (d : Declaring) where
  -- the scope of a block ends
  inner_known : (kind : ScopeKind) → holds_vars kind ≡ false
      → record {
        scopes = drop 1 (declare_all d.declarations (empty_scope kind ∷ k.scopes));
        least = noted order_of_early (d.errors ++ scope_errors (empty_scope kind ∷ k.scopes) d.declarations) k.least;
      }
      ≡ knows (in_scope kind [] d).errors (map (declared_at site) (in_scope kind [] d).declarations) k
  inner_known kind h =
      let ds : List Declaration = d.declarations in
      let one : List EarlyError = scope_errors (empty_scope kind ∷ []) ds in
      let all : List EarlyError = scope_errors (empty_scope kind ∷ k.scopes) ds in
      let outer : List EarlyError = scope_errors k.scopes (vars_of ds) in
      ap (λ xs. record { scopes = xs; least = noted order_of_early (d.errors ++ all) k.least })
      (inner_scopes ds (empty_scope kind) k.scopes h)
      ∙ ap (λ l. record { scopes = declare_all (vars_of ds) k.scopes; least = both k.least l })
      (least_append d.errors all
      ∙ ap (both (least d.errors)) (inner_errors ds (empty_scope kind) k.scopes h ∙ sym (least_append one outer))
      ∙ sym (least_append d.errors (one ++ outer)) ∙ ap least (sym (append_assoc d.errors one outer)))
      ∙ ap (λ es. knows (d.errors ++ one) es k) (sym (declared_vars site ds))

  -- that of a function ends
  top_known : record {
    scopes = drop 1 (declare_all (map at_top d.declarations) (empty_scope scope.Function ∷ k.scopes));
    least = noted order_of_early
        (d.errors ++ scope_errors (empty_scope scope.Function ∷ k.scopes) (map at_top d.declarations)) k.least;
  }
      ≡ knows (d.errors ++ scope_errors (empty_scope scope.Function ∷ []) (map at_top d.declarations)) [] k
  top_known =
      let ds : List Declaration = map at_top d.declarations in
      let one : List EarlyError = scope_errors (empty_scope scope.Function ∷ []) ds in
      let all : List EarlyError = scope_errors (empty_scope scope.Function ∷ k.scopes) ds in
      ap (λ xs. record { scopes = xs; least = noted order_of_early (d.errors ++ all) k.least })
      (top_scopes ds (empty_scope scope.Function) k.scopes refl)
      ∙ ap (λ x. record { scopes = k.scopes; least = noted order_of_early x k.least })
      (ap (λ x. d.errors ++ x) (top_errors ds (empty_scope scope.Function) k.scopes refl)
      ∙ sym (append-nil (d.errors ++ one)))

module _ {es : (List Event)} {d : Declaring} (h : Acts es d) where
  pub inner_acts : (kind : ScopeKind) → holds_vars kind ≡ false
      → (site : Site) (outer : List Site) (k : Known) (at : ℕ) (profile : Option ProfileError)
      → site_in kind site ≡ within site.of_script
      → closes (after (opens kind (state (site ∷ outer) k at profile)) es)
      ≡ state (site ∷ outer)
      (knows (in_scope kind [] d).errors (map (declared_at site) (in_scope kind [] d).declarations) k)
      (h.bound at) (globals_noted site (in_scope kind [] d).declarations profile)
  inner_acts kind i site outer k at profile j =
      let opened : Known = record k { scopes = empty_scope kind ∷ k.scopes } in
      ap (λ s. closes (after (state (s ∷ site ∷ outer) opened at profile) es)) j
      ∙ ap closes (h.acts (within site.of_script) (site ∷ outer) opened at profile)
      ∙ same_state (site ∷ outer) (h.bound at)
      (ap (λ ds. record {
        scopes = drop 1 (declare_all ds (empty_scope kind ∷ k.scopes));
        least = noted order_of_early (d.errors ++ scope_errors (empty_scope kind ∷ k.scopes) ds) k.least;
      }) (declared_within site.of_script d.declarations)
      ∙ inner_known site k d kind i)
      (ap (λ ds. noted order_of_profile (global_errors ds) profile) (inner_globals site d.declarations))

  pub top_acts : (site : Site) (outer : List Site) (k : Known) (at : ℕ) (profile : Option ProfileError)
      → closes (after (opens scope.Function (state (site ∷ outer) k at profile)) es)
      ≡ state (site ∷ outer)
      (knows (in_top scope.Function [] d).errors [] k)
      (h.bound at) (globals_noted site [] profile)
  top_acts site outer k at profile =
      ap closes
      (h.acts (record { holds_vars = true; of_script = false }) (site ∷ outer)
      (record k { scopes = empty_scope scope.Function ∷ k.scopes }) at profile)
      ∙ same_state (site ∷ outer) (h.bound at) (top_known site k d)
      (ap (λ ds. noted order_of_profile (global_errors ds) profile) (function_globals d.declarations))

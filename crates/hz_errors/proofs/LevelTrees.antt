-- The events of a tree do to the state of levels what its depths say.
use Rattle.std.proofs.Common.{◌≡◌, Bool, true, false, ◌||◌, List, [], ◌∷◌, map, Option, Some, None, refl}
use Rattle.std.proofs.Common.{sym, subst}
use Rattle.hz_tree.specs.declared.operator.DeclarationWord.{DeclarationWord}
use Rattle.hz_tree.specs.declared.operator.DeclarationWord.TheVariants as word
use Rattle.hz_tree.specs.declared.signal.Signal.TheVariants as tell
use Rattle.hz_tree.specs.declared.tree.Tree.{Tree}
use Rattle.hz_tree.specs.declared.tree.Tree.TheOpen.{Tree-F}
use Rattle.hz_tree.specs.declared.tree.Tree.TheFolds.{map-Tree}
use Rattle.hz_tree.specs.errors.Limits.{Depths, depths_layer, depths_of}
use Rattle.hz_tree.specs.grammar.Signals.{Event, Plain}
use Rattle.hz_tree.specs.trees.Events.{told_all, told_into, told_initial, told_layer, events_of}
use Rattle.hz_tree.specs.trees.Places.{node}
use Rattle.hz_laws.specs.Sorts.{Sort, script, statement, bind, clause, handler, expression, element, property, method}
use Rattle.hz_laws.specs.Sorts.{body, key, tail, is_script, is_statement, is_bind, is_clause, is_handler}
use Rattle.hz_laws.specs.Sorts.{is_expression, is_element, is_property, is_method, is_body, is_key, is_tail}
use Rattle.hz_laws.specs.Sorts.{Fits, all_fit, fits_layer, fits_of}
use Rattle.hz_laws.proofs.Ranks.{and_left, and_right}
use Rattle.hz_errors.proofs.LevelActs.{Adds, Puts, JoinsFirst, adds_none, adds_both, adds_put, adds_quiet}
use Rattle.hz_errors.proofs.LevelCounts.{AllPut}

-- trees of this sort are entries; the others go into the uppermost one
abbrev pub is_entry : Sort → Bool
is_entry statement = false
is_entry bind = false
is_entry clause = false
is_entry handler = false
is_entry key = false
is_entry tail = false
is_entry _ = true

abbrev pub Acts : Bool → List Event → Depths → Type 0
Acts true es d = Puts es d
Acts false es d = Adds es (d ∷ [])

abbrev pub TreeActs : Tree → Type 0
TreeActs tree = (wanted : Sort) → fits_of tree wanted ≡ true → Acts (is_entry wanted) (events_of tree) (depths_of tree)

abbrev pub Proved : Type 0
Proved = (tree : Tree) × TreeActs tree

abbrev pub trees : List Proved → List Tree
trees = map (λ e. e.0)

-- ---- lists of trees

pub join_first : (more : List Event) → JoinsFirst (Plain tell.Join ∷ more) more
join_first more = record { joins = λ s. refl }

pub puts_as : (wanted : Sort) → is_entry wanted ≡ true → {es : (List Event)} {d : Depths} → Puts es d
    → Acts (is_entry wanted) es d
puts_as wanted h {es} {d} a = subst (λ b. Acts b es d) (sym h) a

pub adds_as : (wanted : Sort) → is_entry wanted ≡ false → {es : (List Event)} {d : Depths} → Adds es (d ∷ [])
    → Acts (is_entry wanted) es d
adds_as wanted h {es} {d} a = subst (λ b. Acts b es d) (sym h) a

puts_one : (wanted : Sort) → is_entry wanted ≡ true → (e : Proved) → fits_of e.0 wanted ≡ true
    → Puts (events_of e.0) (depths_of e.0)
puts_one wanted p e h = subst (λ b. Acts b (events_of e.0) (depths_of e.0)) p (e.1 wanted h)

adds_one : (wanted : Sort) → is_entry wanted ≡ false → (e : Proved) → fits_of e.0 wanted ≡ true
    → Adds (events_of e.0) (depths_of e.0 ∷ [])
adds_one wanted p e h = subst (λ b. Acts b (events_of e.0) (depths_of e.0)) p (e.1 wanted h)

pub all_add : (wanted : Sort) → is_entry wanted ≡ false → (ts : List Proved)
    → all_fit wanted (map fits_of (trees ts)) ≡ true
    → Adds (told_all (map events_of (trees ts))) (map depths_of (trees ts))
all_add wanted p [] h = adds_none
all_add wanted p (e ∷ more) h =
    adds_both (adds_one wanted p e (and_left _ _ h)) (all_add wanted p more (and_right _ _ h))

pub all_into : (wanted : Sort) → is_entry wanted ≡ true → (ts : List Proved)
    → all_fit wanted (map fits_of (trees ts)) ≡ true
    → Adds (told_into (map events_of (trees ts))) (map depths_of (trees ts))
all_into wanted p [] h = adds_none
all_into wanted p (e ∷ more) h =
    adds_put (puts_one wanted p e (and_left _ _ h)) (join_first _)
    (all_into wanted p more (and_right _ _ h))

pub all_put : (wanted : Sort) → is_entry wanted ≡ true → (ts : List Proved)
    → all_fit wanted (map fits_of (trees ts)) ≡ true
    → AllPut (map events_of (trees ts)) (map depths_of (trees ts))
all_put wanted p [] h = tt
all_put wanted p (e ∷ more) h =
    (puts_one wanted p e (and_left _ _ h), all_put wanted p more (and_right _ _ h))

-- ---- layers

abbrev pub inside : Tree-F Proved → Tree-F Tree
inside = map-Tree Proved Tree (λ e. e.0)

abbrev pub LayerActs : Tree-F Proved → Type 0
LayerActs y = (wanted : Sort) → fits_layer (map-Tree Tree Fits fits_of (inside y)) wanted ≡ true
    → Acts (is_entry wanted) (told_layer (map-Tree Tree (List Event) events_of (inside y)))
    (depths_layer (map-Tree Tree Depths depths_of (inside y)))

-- what stands in a layer where a tree can be
abbrev pub optional_of : (A : Type 0) → (Tree → A) → Option Proved → List A
optional_of A f value = (node (map-Tree Tree A f (inside (Tree-F.Return 0 value)))).children

pub option_adds : (wanted : Sort) → is_entry wanted ≡ false → (value : Option Proved)
    → all_fit wanted (optional_of Fits fits_of value) ≡ true
    → Adds (told_all (optional_of (List Event) events_of value)) (optional_of Depths depths_of value)
option_adds wanted p None h = adds_none
option_adds wanted p (Some e) h = all_add wanted p (e ∷ []) h

pub option_into : (wanted : Sort) → is_entry wanted ≡ true → (value : Option Proved)
    → all_fit wanted (optional_of Fits fits_of value) ≡ true
    → Adds (told_into (optional_of (List Event) events_of value)) (optional_of Depths depths_of value)
option_into wanted p None h = adds_none
option_into wanted p (Some e) h = all_into wanted p (e ∷ []) h

pub initial_adds : (word : DeclarationWord) (value : Option Proved)
    → all_fit expression (optional_of Fits fits_of value) ≡ true
    → Adds (told_initial word (optional_of (List Event) events_of value)) (optional_of Depths depths_of value)
initial_adds word.Const None h = adds_quiet _ (λ s. refl) adds_none
initial_adds word.Const (Some e) h = option_into expression refl (Some e) h
initial_adds word.Let value h = option_into expression refl value h
initial_adds word.Var value h = option_into expression refl value h

-- ---- sorts

pub script_puts : (wanted : Sort) → is_script wanted ≡ true → is_entry wanted ≡ true
script_puts script h = refl
script_puts _ h = cc

pub statement_adds : (wanted : Sort) → is_statement wanted ≡ true → is_entry wanted ≡ false
statement_adds statement h = refl
statement_adds _ h = cc

pub bind_adds : (wanted : Sort) → is_bind wanted ≡ true → is_entry wanted ≡ false
bind_adds bind h = refl
bind_adds _ h = cc

pub clause_adds : (wanted : Sort) → is_clause wanted ≡ true → is_entry wanted ≡ false
clause_adds clause h = refl
clause_adds _ h = cc

pub handler_adds : (wanted : Sort) → is_handler wanted ≡ true → is_entry wanted ≡ false
handler_adds handler h = refl
handler_adds _ h = cc

pub expression_puts : (wanted : Sort) → is_expression wanted ≡ true → is_entry wanted ≡ true
expression_puts expression h = refl
expression_puts element h = refl
expression_puts body h = refl
expression_puts _ h = cc

pub element_puts : (wanted : Sort) → is_element wanted ≡ true → is_entry wanted ≡ true
element_puts element h = refl
element_puts _ h = cc

pub property_puts : (wanted : Sort) → is_property wanted ≡ true → is_entry wanted ≡ true
property_puts property h = refl
property_puts _ h = cc

pub spread_puts : (wanted : Sort) → (is_element wanted || is_property wanted) ≡ true → is_entry wanted ≡ true
spread_puts element h = refl
spread_puts property h = refl
spread_puts _ h = cc

pub method_puts : (wanted : Sort) → is_method wanted ≡ true → is_entry wanted ≡ true
method_puts method h = refl
method_puts _ h = cc

pub body_puts : (wanted : Sort) → is_body wanted ≡ true → is_entry wanted ≡ true
body_puts body h = refl
body_puts _ h = cc

pub key_adds : (wanted : Sort) → is_key wanted ≡ true → is_entry wanted ≡ false
key_adds key h = refl
key_adds _ h = cc

pub tail_adds : (wanted : Sort) → is_tail wanted ≡ true → is_entry wanted ≡ false
tail_adds tail h = refl
tail_adds _ h = cc

-- The events of each variant of trees do what is meant of it, where those of the trees in it do.
use Rattle.std.proofs.Common.{List, [], ◌∷◌, ◌++◌, map, Option, Some, None, refl, sym}
use Rattle.hz_tree.specs.declared.operator.DeclarationWord.{DeclarationWord}
use Rattle.hz_tree.specs.declared.operator.DeclarationWord.TheVariants as word
use Rattle.hz_tree.specs.declared.tree.Tree.{Tree}
use Rattle.hz_tree.specs.declared.tree.Tree.TheOpen.{Tree-F}
use Rattle.hz_tree.specs.declared.tree.Tree.TheFolds.{map-Tree}
use Rattle.hz_tree.specs.grammar.Signals.{Event}
use Rattle.hz_tree.specs.trees.Events.{told_all, told_into, told_arguments, told_comma, told_initial, told_layer}
use Rattle.hz_tree.specs.trees.Events.{told_joined, events_of}
use Rattle.hz_tree.specs.trees.FunctionScopes.{Scoping, all_of, scoping_layer, scoping_of}
use Rattle.hz_tree.specs.trees.Places.{node}
use Rattle.hz_scopes.proofs.Acts.{acted_nothing}
use Rattle.hz_scopes.proofs.Does.{Does, none, then, more, one, behind, before, statement, operand, part, identifier}
use Rattle.hz_scopes.proofs.Does.{literal, join, joined, jumps, shorthand, this, new_target, bound, scope_here, block}
use Rattle.hz_scopes.proofs.Does.{loop, handler, function}

abbrev pub TreeDoes : Tree → Type 0
TreeDoes tree = Does (events_of tree) (scoping_of tree)

abbrev pub Proved : Type 0
Proved = (tree : Tree) × TreeDoes tree

abbrev pub trees : List Proved → List Tree
trees = map (λ e. e.0)

-- ---- lists of trees

abbrev events : List Proved → List (List Event)
events ts = map events_of (trees ts)

abbrev meant : List Proved → List Scoping
meant ts = map scoping_of (trees ts)

all : (ts : List Proved) → Does (told_all (events ts)) (all_of (meant ts))
all [] = none
all (e ∷ ts) = then e.1 (all ts)

into : (ts : List Proved) → Does (told_into (events ts)) (all_of (meant ts))
into [] = none
into (e ∷ ts) = then e.1 (join (into ts))

arguments : (ts : List Proved) → Does (told_arguments (events ts)) (all_of (meant ts))
arguments [] = none
arguments (e ∷ ts) = then e.1 (behind (λ s. refl) (arguments ts))

comma : (ts : List Proved) → Does (told_comma (events ts)) (all_of (meant ts))
comma [] = behind (λ s. refl) none
comma (e ∷ ts) = then e.1 (before _ (λ s. refl) (into ts))

initial : (word : DeclarationWord) (ts : List Proved) → Does (told_initial word (events ts)) (all_of (meant ts))
initial word.Const [] = behind (λ s. refl) none
initial word.Const (e ∷ ts) = into (e ∷ ts)
initial word.Let ts = into ts
initial word.Var ts = into ts

-- ---- what stands in a layer where a tree can be

abbrev mapped : {A : Type 0} → (Tree → A) → Tree-F Proved → Tree-F A
mapped {A} f y = map-Tree Tree A f (map-Tree Proved Tree (λ e. e.0) y)

abbrev optional_of : (A : Type 0) → (Tree → A) → Option Proved → List A
optional_of A f value = (node (mapped f (Tree-F.Return 0 value))).children

option : (value : Option Proved)
    → Does (told_all (optional_of (List Event) events_of value)) (all_of (optional_of Scoping scoping_of value))
option None = none
option (Some e) = all (e ∷ [])

option_into : (value : Option Proved)
    → Does (told_into (optional_of (List Event) events_of value)) (all_of (optional_of Scoping scoping_of value))
option_into None = none
option_into (Some e) = into (e ∷ [])

option_initial : (word : DeclarationWord) (value : Option Proved)
    → Does (told_initial word (optional_of (List Event) events_of value))
    (all_of (optional_of Scoping scoping_of value))
option_initial word None = initial word []
option_initial word (Some e) = initial word (e ∷ [])

abbrev options : Option Proved → List Scoping
options value = optional_of Scoping scoping_of value

abbrev told_option : Option Proved → List (List Event)
told_option value = optional_of (List Event) events_of value

-- the test, the update and the body of a `for`
for_parts : (test update : Option Proved) (body : Proved)
    → Does (told_into (told_option test) ++ (told_into (told_option update) ++ events_of body.0))
    (all_of (options test ++ (options update ++ scoping_of body.0 ∷ [])))
for_parts test update body =
    more (options test) (options update ++ scoping_of body.0 ∷ []) (option_into test)
    (more (options update) (scoping_of body.0 ∷ []) (option_into update) (one body.1))

with_joined : (e : Proved) → Does (told_joined (events_of e.0)) (all_of (scoping_of e.0 ∷ []))
with_joined e = then e.1 (join (behind (λ s. refl) none))

-- ---- variants

pub layer : (y : Tree-F Proved) → Does (told_layer (mapped events_of y)) (scoping_layer (mapped scoping_of y))
layer (Tree-F.Script at items) = behind (λ s. refl) (all items)
layer (Tree-F.Function at end form kind parameters rest body) = function at end kind parameters rest body.1 form
layer (Tree-F.Body at items) = behind (λ s. refl) (all items)
layer (Tree-F.Lexical at word binds) = statement (all binds)
layer (Tree-F.Var at binds) = statement (all binds)
layer (Tree-F.Bind at word name value) = then (bound word at name) (option_initial word value)
layer (Tree-F.Block at items end) = block (all items)
layer (Tree-F.Empty at) = statement none
layer (Tree-F.Debugger at) = statement none
layer (Tree-F.If at test body other) = statement (then test.1 (join (then body.1 (option other))))
layer (Tree-F.DoWhile at body test) = statement (then body.1 (then test.1 joined))
layer (Tree-F.While at test body) = statement (then test.1 (join (one body.1)))
layer (Tree-F.ForDeclared at word name iteration over body end) =
    loop (then (bound word name.at name.name) (then over.1 (join body.1))) end
layer (Tree-F.ForBinds at word binds test update body end) =
    loop
    (more (meant binds) (options test ++ (options update ++ scoping_of body.0 ∷ [])) (all binds)
    (for_parts test update body)) end
layer (Tree-F.ForLeft at target iteration over body) =
    statement (then target.1 (behind (λ s. refl) (join (then over.1 (join (one body.1))))))
layer (Tree-F.ForExpr at first test update body) =
    statement
    (more (options first) (options test ++ (options update ++ scoping_of body.0 ∷ [])) (option_into first)
    (for_parts test update body))
layer (Tree-F.Continue at label) = statement (jumps _ label)
layer (Tree-F.Break at label) = statement (jumps _ label)
layer (Tree-F.Return at value) = statement (option_into value)
layer (Tree-F.Throw at value) = statement (then value.1 joined)
layer (Tree-F.Switch at value brace clauses end) =
    statement (then value.1 (join (scope_here (all clauses))))
layer (Tree-F.Case at value items) = then value.1 (join (all items))
layer (Tree-F.Default at items) = all items
layer (Tree-F.Try at guarded caught finally) =
    statement (then guarded.1 (more (options caught) (options finally) (option caught) (option finally)))
layer (Tree-F.Catch at name brace items end) = handler at name brace end (all items)
layer (Tree-F.Label at name body) = statement (behind (λ s. refl) (one body.1))
layer (Tree-F.Expression at value) =
    behind (λ s. refl)
    (then value.1 (behind (λ s. refl) (join (behind (λ s. refl) none))))
layer (Tree-F.Comma at values) = comma values
layer (Tree-F.Assign at target operator value) = then target.1 (behind (λ s. refl) (with_joined value))
layer (Tree-F.Yield at delegates value) = operand (option_into value)
layer (Tree-F.Cond at test first second) = then test.1 (then first.1 (join (with_joined second)))
layer (Tree-F.Binary at left operator right) = then left.1 (with_joined right)
layer (Tree-F.Unary at operator value) =
    operand (then value.1 (behind (λ s. refl) joined))
layer (Tree-F.Postfix at value operator) = then value.1 (behind (λ s. refl) (behind (λ s. refl) none))
layer (Tree-F.Left at head tails) = then head.1 (before _ (λ s. refl) (all tails))
layer (Tree-F.NewTarget at) = new_target at
layer (Tree-F.New at callee members args) =
    operand (then callee.1 (join (more (meant members) (options args) (all members) (option args))))
layer (Tree-F.Index at key) = then key.1 (join (behind (λ s. refl) none))
layer (Tree-F.Args at values) = behind (λ s. refl) (before _ (λ s. refl) (arguments values))
layer (Tree-F.Optional at tail) = then tail.1 (behind (λ s. refl) none)
layer (Tree-F.Spread at value) = part (then value.1 joined)
layer (Tree-F.This at) = this at
layer (Tree-F.Identifier at name) = identifier at name
layer (Tree-F.Parentheses at value) = behind (λ s. refl) (then value.1 (behind (λ s. refl) none))
layer (Tree-F.Template at parts holes) = operand (into holes)
layer (Tree-F.Array at elements) = literal (into elements)
layer (Tree-F.Object at props) = literal (into props)
layer (Tree-F.Shorthand at name) = part (shorthand name)
layer (Tree-F.Property at key value) = part (then key.1 (behind (λ s. refl) (then value.1 joined)))
layer (Tree-F.Method at key function) = part (then key.1 (then function.1 joined))
layer (Tree-F.Getter at key function) = part (then key.1 (then function.1 joined))
layer (Tree-F.Setter at key function) = part (then key.1 (then function.1 joined))
layer (Tree-F.ComputedKey at key) = then key.1 joined
layer _ = record { known = λ s. sym (acted_nothing s.known) }

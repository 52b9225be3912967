-- Scopes: what they declare, and the records that are made for them.
use Rattle.std.specs.Prelude.{ℕ, suc, Bool, true, false, if◌then◌else◌, List, [], ◌∷◌, ◌++◌, map, filter, drop}
use Rattle.hz_tree.specs.declared.operator.DeclarationWord.{DeclarationWord}
use Rattle.hz_tree.specs.declared.operator.DeclarationWord.TheVariants as word
use Rattle.hz_tree.specs.declared.tree.Tree.{Tree, out-Tree}
use Rattle.hz_tree.specs.declared.tree.Tree.TheOpen.{Tree-F}
use Rattle.hz_tree.specs.tokens.Values.{name_value}
use Rattle.hz_value.specs.world.Globals.{Globals, declare_global}
use Rattle.hz_value.specs.world.Records.{Record, fresh_record}
use Rattle.hz_value.specs.world.World.{World, with_record}
use Rattle.hz_ecma.specs.evaluator.Activations.{Activation, Restore}

-- ---- what is declared

pub record Declared : Type 0 where
  pub name : List ℕ
  pub constant : Bool

abbrev pub is_const : DeclarationWord → Bool
is_const word.Const = true
is_const declared = false

abbrev pub bound_in : Tree-F Tree → List Declared
bound_in (Tree-F.Bind at declared name value) = record { name = name_value name; constant = is_const declared } ∷ []
bound_in layer = []

-- the names that these parts of a declaration bind (8.2.1)
abbrev pub bound_by : List Tree → List Declared
bound_by [] = []
bound_by (t ∷ ts) = bound_in (out-Tree t) ++ bound_by ts

-- LexicallyScopedDeclarations of a statement (8.2.5)
abbrev pub declared_in : Tree-F Tree → List Declared
declared_in (Tree-F.Lexical at declared binds) = bound_by binds
declared_in layer = []

-- and of a list of statements
abbrev pub declared_by : List Tree → List Declared
declared_by [] = []
declared_by (t ∷ ts) = declared_in (out-Tree t) ++ declared_by ts

abbrev pub names_of : List Declared → List (List ℕ)
names_of ds = map (λ d. d.name) ds

abbrev pub constants_of : List Declared → List (List ℕ)
constants_of ds = names_of (filter (λ d. d.constant) ds)

-- ---- records

-- the record of the scope with this number, in which nothing is initialised (9.1.1.1.2, 9.1.1.1.3)
abbrev pub record_of : (function number : ℕ) → List Declared → Record
record_of function number ds =
    fresh_record (record { function = function; number = number; constants = constants_of ds }) (names_of ds)

-- A scope inside a function has the place where it begins for a number, counted from 1; the function's own has 0.
abbrev pub number_at : (place : ℕ) → ℕ
number_at place = suc place

-- goes on in a scope of these declarations, whose records are in scope until what is in it completes
-- (BlockDeclarationInstantiation, 14.2.3)
abbrev pub scoped_to : {T : Type 0} → (place : ℕ) → List Declared → Activation → World → (Activation → World → T) → T
scoped_to place ds a w go =
    go (record a { own = w.record_count ∷ a.own; frames = Restore a.own ∷ a.frames })
    (with_record (record_of a.function (number_at place) ds) w)

-- the innermost record; a loop that copies always has one
abbrev pub copy_of : List ℕ → World → Record
copy_of [] w = w.records w.record_count
copy_of (r ∷ rs) w = w.records r

-- goes on with a new record in the place of the innermost one, and with its bindings where the loop has some of its
-- own for each iteration (CreatePerIterationEnvironment, 14.7.4.4)
abbrev pub copied_to : {T : Type 0} → Bool → Activation → World → (Activation → World → T) → T
copied_to copies a w go =
    if copies then go (record a { own = w.record_count ∷ drop 1 a.own }) (with_record (copy_of a.own w) w)
    else go a w

-- ---- the script (GlobalDeclarationInstantiation, 16.1.7)

abbrev pub declare_all : List (List ℕ) → Globals → Globals
declare_all [] gs = gs
declare_all (name ∷ names) gs = declare_all names (declare_global name gs)

-- the `var` names are those of the global record, and the lexical ones stand in a record inside it
abbrev pub script_world : List (List ℕ) → List Declared → World → World
script_world vars ds w = with_record (record_of 0 0 ds) (record w { globals = declare_all vars w.globals })

abbrev pub instantiated_to : {T : Type 0} → List (List ℕ) → List Tree → Activation → World → (Activation → World → T)
    → T
instantiated_to vars items a w go =
    go (record a { own = w.record_count ∷ a.own }) (script_world vars (declared_by items) w)

-- The state as it is stored.
use Rattle.std.specs.Prelude.{◌≡◌, ℕ, List, [], ◌∷◌, ◌++◌, length, map, reverse, slice_get, slice_set, true, Some, None}
use Rattle.hz_tree.specs.trees.FunctionScopes.{Declared, Used, Scope, FunctionScopes, activation, is_free}
use Rattle.hz_tree.specs.trees.FunctionScopes.{each_name, scope_names}
use Rattle.std.specs.List.{filter}
use Rattle.hz_index.specs.Table.{Table, with_end, with_function_end}
use Rattle.hz_tree.specs.tokens.Text.{Text}
use Rattle.hz_scopes.specs.Layers.{Layers, closed, first_start, layers_of, AreNested}
use Rattle.hz_scopes.specs.State.{OpenScope, Body, Waiting, Known, State, pass_on, of_body as ended_body, enter}
use Rattle.hz_scopes.specs.State.{happens}
use Rattle.hz_tree.specs.grammar.Signals.{Event}
use Rattle.hz_scopes.specs.declared.body.Block.{Block}
use Rattle.hz_scopes.specs.declared.body.OpenBody.{OpenBody}
use Rattle.hz_scopes.specs.declared.body.WaitingFunction.{WaitingFunction}
use Rattle.hz_scopes.specs.declared.scopes.OpenScopes.{OpenScopes}

-- What open scopes and functions hold. `tops` has a list for each open function, `lexical` one for each open scope
-- within, and `here` and `uses` one for each of both.
pub record Held : Type 0 where
  pub tops : Layers Declared
  pub lexical : Layers Declared
  pub here : Layers Text
  pub uses : Layers Used
  pub listed : Layers Scope

abbrev pub held_by : OpenScopes → Held
held_by s = record {
  tops = s.tops;
  lexical = s.lexical;
  here = s.here;
  uses = s.uses;
  listed = layers_of s.listed s.table.listed;
}

-- what is outside these scopes, the innermost first
abbrev pub outside_blocks : {X : Type 0} → List Block → Layers X → Layers X
outside_blocks [] l = l
outside_blocks (b ∷ outer) l = outside_blocks outer (closed l)

abbrev pub blocks_of : List Block → Layers Declared → Layers Text → Layers Used → List OpenScope
blocks_of [] lexical here uses = []
blocks_of (b ∷ outer) lexical here uses = record {
  number = b.number;
  kind = b.kind;
  start = b.start;
  parent = Some b.parent;
  declared = lexical.inner;
  here = here.inner;
  used = uses.inner;
} ∷ blocks_of outer (closed lexical) (closed here) (closed uses)

-- the number of the innermost one, where that of the function has the number 0
abbrev pub number_of : List Block → ℕ
number_of [] = 0
number_of (b ∷ outer) = b.number

-- a function with these open scopes, the innermost first
abbrev pub body_of : OpenBody → List Block → Held → Body
body_of b blocks h = record {
  number = b.number;
  around = b.around;
  binds = b.binds;
  named = b.named;
  listed = h.listed.inner;
  top = record {
    number = 0;
    kind = b.kind;
    start = b.start;
    parent = None;
    declared = h.tops.inner;
    here = (outside_blocks blocks h.here).inner;
    used = (outside_blocks blocks h.uses).inner;
  };
  blocks = blocks_of blocks h.lexical h.here h.uses;
}

-- what is outside the innermost function
abbrev pub outside_body : List Block → Held → Held
outside_body blocks h = record {
  tops = closed h.tops;
  lexical = outside_blocks blocks h.lexical;
  here = closed (outside_blocks blocks h.here);
  uses = closed (outside_blocks blocks h.uses);
  listed = closed h.listed;
}

abbrev pub bodies_of : List OpenBody → Held → List Body
bodies_of [] h = []
bodies_of (b ∷ outer) h =
    let blocks = reverse b.blocks.items in body_of b blocks h ∷ bodies_of outer (outside_body blocks h)

abbrev pub known_of : OpenBody → List Block → List OpenBody → Held → List FunctionScopes → Known
known_of b blocks outer h functions = record {
  body = body_of b blocks h;
  outer = bodies_of outer (outside_body blocks h);
  functions = functions;
}

abbrev pub waiting_of : WaitingFunction → Waiting
waiting_of w = record { number = w.number; start = w.start; kind = w.kind; named = w.named }

abbrev pub shown : OpenScopes → State
shown s = record {
  begun = s.begun;
  waiting = waiting_of s.waiting;
  known = known_of s.body (reverse s.body.blocks.items) (reverse s.outer.items) (held_by s) s.table.functions;
}

-- ---- what stays true

-- a scope without its end and its names
abbrev pub head : Scope → Scope
head s = record s { end = 0; names = [] }

abbrev pub head_of_block : Block → Scope
head_of_block b = record { kind = b.kind; start = b.start; end = 0; parent = Some b.parent; names = [] }

abbrev pub head_of_body : OpenBody → Scope
head_of_body b = record { kind = b.kind; start = b.start; end = 0; parent = None; names = [] }

-- each open scope is listed under its number
abbrev pub BlocksAreListed : List Block → (heads : List Scope) → Type 0
BlocksAreListed [] heads = Unit {0}
BlocksAreListed (b ∷ outer) heads =
    (slice_get heads b.number ≡ Some (head_of_block b)) × BlocksAreListed outer heads

pub record IsListed (top : Scope) (blocks : List Block) (heads : List Scope) : Type 0 where
  pub outermost : slice_get heads 0 ≡ Some top
  pub within : BlocksAreListed blocks heads

abbrev pub BodiesAreListed : List OpenBody → Layers Scope → Type 0
BodiesAreListed [] l = Unit {0}
BodiesAreListed (b ∷ outer) l =
    IsListed (head_of_body b) (reverse b.blocks.items) (map head l.inner) × BodiesAreListed outer (closed l)

pub record IsKept (top : Scope) (blocks : List Block) (outer : List OpenBody) (l : Layers Scope) : Type 0 where
  pub innermost : IsListed top blocks (map head l.inner)
  pub others : BodiesAreListed outer (closed l)

-- no names wait for the next end
pub record IsWhole (s : OpenScopes) : Type 0 where
  pub pending : s.table.pending ≡ []
  pub nested : AreNested s.listed (length s.table.listed)
  pub kept : IsKept (head_of_body s.body) (reverse s.body.blocks.items) (reverse s.outer.items) (layers_of s.listed
      s.table.listed)

-- it goes on by this step
pub record Goes (step : State → State) (old new : OpenScopes) : Type 0 where
  pub to : shown new ≡ step (shown old)
  pub whole : IsWhole new

-- ---- the end of a function

-- without the scopes within its outermost one
abbrev pub at_its_top : Body → Body
at_its_top body = record body { blocks = [] }

abbrev pub declared_by : OpenScopes → List Declared
declared_by s = activation s.body.binds s.uses.inner ++ s.tops.inner

-- the uses that are left in the innermost function
abbrev pub free_uses : OpenScopes → List Used
free_uses s = filter (is_free s.body.binds (declared_by s)) s.uses.inner

abbrev pub free_of : OpenScopes → List Text
free_of s = each_name [] (map (λ u. u.name) (free_uses s))

-- the table behind the end of the innermost function's outermost scope
abbrev pub with_top_end : (end : ℕ) → OpenScopes → Table
with_top_end end s =
    with_end (first_start s.listed) end (record s.table {
      pending = scope_names s.body.binds (declared_by s) s.here.inner;
    })

abbrev pub with_body_end : (end : ℕ) → OpenScopes → Table
with_body_end end s =
    with_function_end s.body.number (first_start s.listed) s.body.around s.body.binds (record (with_top_end end s) {
      pending = map (λ name. record { name = name; binding = None }) (free_of s);
    })

abbrev pub with_known : (Known → Known) → State → State
with_known f s = record s { known = f s.known }

-- The innermost function ends, and the scope of its name does not yet.
abbrev pub leaves : (end : ℕ) → Known → Known
leaves end known =
    elim known.outer [
      | [] ↦ known
      | body ∷ outer ↦ record {
        body = pass_on (map (λ name. record { name = name; inner = true }) (ended_body end known.body).free) body;
        outer = outer;
        functions = slice_set known.functions known.body.number (ended_body end known.body);
      }
    ]

abbrev pub enters : State → State
enters s = record s { known = enter s.waiting s.known }

abbrev pub happening : Event → State → State
happening e s = happens s e

-- What the rows of functions have to do with counts: which functions stand in a function, and that an arrow begins
-- where its row is taken.
use Rattle.std.proofs.Common.{◌≡◌, ◌<◌, Bool, true, false, ◌&&◌, if◌then◌else◌, List, [], ◌∷◌, length, Some}
use Rattle.std.proofs.Common.{None, refl, subst, append-nil, arith}
use Rattle.hz_tree.specs.declared.look.Look.{Look}
use Rattle.hz_tree.specs.declared.nonterminal.Nonterminal.{Nonterminal}
use Rattle.hz_tree.specs.declared.nonterminal.Nonterminal.TheVariants as n
use Rattle.hz_tree.specs.declared.symbol.Symbol.{Symbol}
use Rattle.hz_tree.specs.declared.tree.FunctionKind.TheVariants as kind
use Rattle.hz_tree.specs.grammar.Look.{Terminal, begins_arrow}
use Rattle.hz_tree.specs.grammar.OperatorRows.{is_loosest}
use Rattle.hz_tree.specs.grammar.Symbols.{Parts, Value}
use Rattle.hz_tree.specs.reading.Reading.{Got, Reader, read_all, reads}
use Rattle.hz_laws.proofs.Balance.{got_rest}
use Rattle.hz_laws.proofs.Depth.{Within, all_within}
use Rattle.hz_laws.proofs.Ranks.{eats_all}
use Rattle.hz_laws.proofs.ReadingLaws.{reads_shorter}
use Rattle.hz_cuts.specs.Skips.{Skip, skip_of}
use Rattle.hz_stands.specs.Nodes.{nodes_of, part_nodes}
use Rattle.hz_stands.specs.Stands.{Shape, declared, expressed, arrowed, method, getter, setter, written}
use Rattle.hz_stands.proofs.Opening.{begins_operation, arrow_begins}

-- ---- the functions in a function

pub written_nodes : (shape : Shape) (r : Parts Value (written shape).symbols)
    → part_nodes (written shape).symbols r ≡ nodes_of ((written shape).given r).body
written_nodes (declared true) r = append-nil _
written_nodes (declared false) r = append-nil _
written_nodes (expressed true) r = append-nil _
written_nodes (expressed false) r = append-nil _
written_nodes (arrowed c true) r = append-nil _
written_nodes (arrowed c false) r = append-nil _
written_nodes (method true) r = append-nil _
written_nodes (method false) r = append-nil _
written_nodes getter r = append-nil _
written_nodes setter r = append-nil _

eats_some : (shape : Shape) → eats_all (written shape).symbols ≡ true
eats_some (declared true) = refl
eats_some (declared false) = refl
eats_some (expressed true) = refl
eats_some (expressed false) = refl
eats_some (arrowed c true) = refl
eats_some (arrowed c false) = refl
eats_some (method true) = refl
eats_some (method false) = refl
eats_some getter = refl
eats_some setter = refl

pub passed_some : (shape : Shape) (ts rest : List Terminal) (r : Parts Value (written shape).symbols)
    → read_all reads (written shape).symbols ts ≡ Got r rest → length rest < length ts
passed_some shape ts rest r h =
    let w : Within true (length ts) (Got r rest) =
    subst (λ b. Within b (length ts) (Got r rest)) (eats_some shape)
    (subst (Within (eats_all (written shape).symbols) (length ts)) h
    (all_within reads reads_shorter (written shape).symbols ts)) in
    omega (arith, w)

-- ---- arrows

pub kind_arrow : (shape : Shape) (m : Nonterminal) (lead : List Symbol) → (written shape).kind ≡ kind.Arrow
    → arrow_begins m lead shape ≡ begins_operation m lead
kind_arrow (declared true) m lead h = cc
kind_arrow (declared false) m lead h = cc
kind_arrow (expressed true) m lead h = cc
kind_arrow (expressed false) m lead h = cc
kind_arrow (arrowed c true) m lead h = refl
kind_arrow (arrowed c false) m lead h = refl
kind_arrow (method true) m lead h = cc
kind_arrow (method false) m lead h = cc
kind_arrow getter m lead h = cc
kind_arrow setter m lead h = cc

abbrev pub is_operation : Nonterminal → Bool
is_operation (n.Operation loosest c) = true
is_operation m = false

pub operation_first : (m : Nonterminal) (lead : List Symbol) → begins_operation m lead ≡ true → is_operation m ≡ true
operation_first (n.Operation loosest c) lead h = refl
operation_first m lead h = cc

pub no_lead : (m : Nonterminal) (lead : List Symbol) → begins_operation m lead ≡ true → lead ≡ []
no_lead m [] h = refl
no_lead (n.Operation loosest c) (x ∷ lead) h = cc
no_lead m (x ∷ lead) h = cc

-- the row of an arrow is taken where one begins
pub skips_arrow : (m : Nonterminal) (l : Look) (skip : Skip m) → skip_of [] m l ≡ Some skip → is_operation m ≡ true
    → begins_arrow l ≡ true
skips_arrow (n.Operation loosest c) l skip h i = by_test (is_loosest loosest) (begins_arrow l) _ skip h
  where
    by_test : (a b : Bool) (one two : Skip (n.Operation loosest c)) → (if a && b then Some one else None) ≡ Some two
        → b ≡ true
    by_test true true one two h = refl
    by_test true false one two h = cc
    by_test false b one two h = cc
skips_arrow m l skip h i = cc

pub nothing_passed : (trees : Reader Value) (xs : List Symbol) (ts mid : List Terminal) (p : Parts Value xs) → xs ≡ []
    → read_all trees xs ts ≡ Got p mid → ts ≡ mid
nothing_passed trees [] ts mid p e h = got_rest tt p ts mid h
nothing_passed trees (x ∷ xs) ts mid p e h = cc

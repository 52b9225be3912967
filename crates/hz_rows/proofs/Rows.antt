-- What the row of a nonterminal pushes, where the nonterminal or what it carries is known by an equation.
use Rattle.std.proofs.Common.{◌≡◌, Bool, true, false, List, [], ◌∷◌, Result, refl, sym, subst}
use Rattle.hz_tree.specs.declared.class.Class.{Class}
use Rattle.hz_tree.specs.declared.class.Class.TheVariants as k
use Rattle.hz_tree.specs.declared.nonterminal.Context.{Context}
use Rattle.hz_tree.specs.declared.nonterminal.Nonterminal.TheVariants as n
use Rattle.hz_tree.specs.declared.look.Look.{Look}
use Rattle.hz_tree.specs.declared.nonterminal.Nonterminal.{Nonterminal}
use Rattle.hz_tree.specs.declared.operator.Level.{Level}
use Rattle.hz_tree.specs.declared.operator.Level.TheVariants as level
use Rattle.hz_tree.specs.declared.symbol.Symbol.{Symbol}
use Rattle.hz_tree.specs.declared.symbol.Symbol.TheVariants.{Take, Read}
use Rattle.hz_tree.specs.grammar.Table.{Step, pushes, step_of, step}
use Rattle.hz_tree.specs.grammar.StatementRows.{clauses_row}
use Rattle.hz_tree.specs.grammar.Symbols.{goes, refuses, Row}
use Rattle.hz_tree.specs.grammar.OperatorRows.{without_tails}
use Rattle.hz_rows.specs.declared.stop.Stop.{Stop}
use Rattle.hz_rows.specs.Pushed.{Pushed}

pub pushed_at : (m m' : Nonterminal) (l : Look) (r : Result (Unit {0}) Stop) (old new : List Symbol) → m ≡ m'
    → Pushed (step m' l) r old new → Pushed (step m l) r old new
pushed_at m m' l r old new e h = subst (λ x. Pushed (step x l) r old new) (sym e) h

-- the same of a row in which what is known stands
pub pushed_by : {A : Type 0} (step : A → Step) (x y : A) (r : Result (Unit {0}) Stop) (old new : List Symbol) → x ≡ y
    → Pushed (step y) r old new → Pushed (step x) r old new
pushed_by step x y r old new e h = subst (λ z. Pushed (step z) r old new) (sym e) h

-- no second `default`
pub clauses_row-default : (c : Context) (has_default : Bool) (one : Class) → one ≡ k.Default → has_default ≡ true
    → step_of (clauses_row c has_default one) ≡ pushes []
clauses_row-default c has_default one p q = rw (p, q) refl

pub clauses_row-first_default : (c : Context) (has_default : Bool) (one : Class) → one ≡ k.Default → has_default ≡ false
    → step_of (clauses_row c has_default one)
    ≡ pushes (Take k.Default ∷ Take k.Colon ∷ Read (n.Items c) ∷ Read (n.Clauses c true) ∷ [])
clauses_row-first_default c has_default one p q = rw (p, q) refl

-- a right-hand side that is that of another row
pub pushed_without : (loosest : Level) (c : Context) (r : Row (n.Rests loosest level.Update c))
    (result : Result (Unit {0}) Stop) (old new : List Symbol) → Pushed (step_of r) result old new
    → Pushed (step_of (without_tails loosest c r)) result old new
pushed_without loosest c (goes right make) result old new h = h
pushed_without loosest c (refuses cause) result old new h = h

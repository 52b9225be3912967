-- Ranks of nonterminals: they fall from a nonterminal to what its right-hand sides read before they take a token.
use Rattle.std.proofs.Common.{◌≡◌, ℕ, ◌<◌, Bool, true, false, not, ◌&&◌, ◌||◌, nat_lt, List, [], ◌∷◌, refl, arith}
use Rattle.hz_tree.specs.declared.nonterminal.Nonterminal.{Nonterminal}
use Rattle.hz_tree.specs.declared.nonterminal.Nonterminal.TheVariants as n
use Rattle.hz_tree.specs.declared.signal.Signal.{Signal}
use Rattle.hz_tree.specs.declared.signal.Signal.TheVariants as tell
use Rattle.hz_tree.specs.declared.symbol.Symbol.{Symbol}
use Rattle.hz_tree.specs.declared.symbol.Symbol.TheVariants as s
use Rattle.hz_tree.specs.grammar.Table.{Step, pushes, fails}

abbrev pub rank : Nonterminal → ℕ
rank n.Script = 6
rank (n.Items _) = 5
rank (n.Item _) = 4
rank (n.Statement _) = 3
rank (n.Binds _ _) = 2
rank (n.Bind _ _) = 1
rank (n.ReturnValue _) = 3
rank (n.ThrowValue _) = 3
rank (n.Handlers _) = 1
rank (n.Head _) = 3
rank (n.DeclaredHead _ _) = 1
rank (n.LeftHead _) = 2
rank (n.OptionalExpr _) = 3
rank (n.Expr _) = 2
rank (n.Operation _ _) = 1
rank (n.Tails _ _ _) = 1
rank (n.ArrowBody _) = 2
rank (n.YieldValue _) = 2
rank (n.OptionalTail _) = 1
rank (n.NewArgs _) = 1
rank (n.Arguments _) = 3
rank (n.Argument _) = 2
rank (n.Elements _) = 3
rank (n.Props _) = 3
rank (n.Prop _) = 2
rank (n.KeyRest _) = 1
rank (n.Key _) = 1
rank n.OwnName = 1
rank n.Parameters = 1
rank _ = 0

-- it takes a token wherever it is read
abbrev pub eats : Nonterminal → Bool
eats n.Script = true
eats (n.Item _) = true
eats (n.Statement _) = true
eats (n.Block _) = true
eats (n.Binds _ _) = true
eats (n.Bind _ _) = true
eats (n.Bound _) = true
eats (n.ThrowValue _) = true
eats (n.CatchClause _) = true
eats n.ForOpen = true
eats (n.Head _) = true
eats (n.DeclaredHead _ _) = true
eats (n.LeftHead _) = true
eats (n.Expr _) = true
eats (n.Operation _ _) = true
eats n.ArrowSign = true
eats (n.ArrowBody _) = true
eats (n.OptionalTail _) = true
eats n.Word = true
eats (n.Args _) = true
eats (n.Argument _) = true
eats (n.Primary _) = true
eats (n.TemplateRest _) = true
eats (n.Prop _) = true
eats (n.KeyRest _) = true
eats (n.Key _) = true
eats n.Params = true
eats (n.Body _) = true
eats _ = false

abbrev pub eats_symbol : Symbol → Bool
eats_symbol (s.Take wanted) = true
eats_symbol (s.Read nonterminal) = eats nonterminal
eats_symbol _ = false

abbrev pub eats_all : List Symbol → Bool
eats_all [] = false
eats_all (symbol ∷ more) = eats_symbol symbol || eats_all more

-- up to the first symbol that takes a token all ranks are below the limit
abbrev pub falls : (limit : ℕ) → List Symbol → Bool
falls limit [] = true
falls limit (s.Take wanted ∷ more) = true
falls limit (s.Read nonterminal ∷ more) = nat_lt (rank nonterminal) limit && (eats nonterminal || falls limit more)
falls limit (s.Tell signal ∷ more) = falls limit more

abbrev pub is_fine : Nonterminal → Step → Bool
is_fine nonterminal (pushes right) = falls (rank nonterminal) right && (not (eats nonterminal) || eats_all right)
is_fine nonterminal (fails cause) = true

pub rank_small : (nonterminal : Nonterminal) → rank nonterminal < 16
rank_small n.Script = omega arith
rank_small _ = omega arith

-- ---- functions open at tokens

-- nonterminals that begin with a token of their own
abbrev pub leads : Nonterminal → Bool
leads (n.Bound _) = true
leads n.Params = true
leads _ = false

abbrev pub opens : Signal → Bool
opens (tell.Open node kind) = true
opens _ = false

abbrev pub leads_all : List Symbol → Bool
leads_all [] = false
leads_all (s.Take wanted ∷ more) = true
leads_all (s.Read nonterminal ∷ more) = leads nonterminal
leads_all (s.Tell signal ∷ more) = not (opens signal) && leads_all more

-- a token is taken behind each function that opens, before another one does
abbrev pub opens_well : List Symbol → Bool
opens_well [] = true
opens_well (s.Tell signal ∷ more) = (not (opens signal) || leads_all more) && opens_well more
opens_well (_ ∷ more) = opens_well more

abbrev pub is_open : Nonterminal → Step → Bool
is_open nonterminal (pushes right) = opens_well right && (not (leads nonterminal) || leads_all right)
is_open nonterminal (fails cause) = true

pub false_true : false ≡ true → ⊥
false_true h = cc

pub and_left : (a b : Bool) → (a && b) ≡ true → a ≡ true
and_left true b h = refl
and_left false b h = h

pub and_right : (a b : Bool) → (a && b) ≡ true → b ≡ true
and_right true b h = h
and_right false b h = absurd (false_true h)

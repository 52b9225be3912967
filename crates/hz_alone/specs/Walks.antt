-- Symbols that close the braces and the holes that they open, and go on with no template that they did not begin.
use Rattle.std.specs.Prelude.{Bool, true, false, List, [], ◌∷◌}
use Rattle.hz_tree.specs.declared.class.Class.{Class}
use Rattle.hz_tree.specs.declared.class.Class.TheVariants as k
use Rattle.hz_tree.specs.declared.symbol.Symbol.{Symbol}
use Rattle.hz_tree.specs.declared.symbol.Symbol.TheVariants as s
use Rattle.hz_laws.specs.Middle.{closes_hole}

-- ---- one token

-- what a token does to the braces and the holes that are open
pub data Walk : Type 0 where
  stays : Walk
  begins : (hole : Bool) → Walk
  ends : Walk
  reopens : Walk  -- a template goes on, and a hole of it is open again
  stops : Walk  -- no token begins here

abbrev pub walk : Class → Walk
walk k.LeftBrace = begins false
walk k.TemplateHead = begins true
walk k.RightBrace = ends
walk k.TemplateTail = ends
walk k.TemplateMiddle = reopens
walk k.Malformed = stops
walk k.BigInt = stops
walk k.NumberForm = stops
walk k.PrivateName = stops
walk k.IdentifierEscape = stops
walk k.HtmlComment = stops
walk k.Character = stops
walk _ = stays

abbrev pub after_walk : Walk → List Bool → (List Bool → Bool) → Bool
after_walk stays inner test = test inner
after_walk (begins hole) inner test = test (hole ∷ inner)
after_walk ends [] test = false
after_walk ends (b ∷ inner) test = test inner
after_walk reopens [] test = false
after_walk reopens (b ∷ inner) test = test (b ∷ inner)
after_walk stops inner test = false

-- ---- right-hand sides

abbrev pub is_none : List Bool → Bool
is_none [] = true
is_none (b ∷ inner) = false

-- the hole that a nonterminal closes
abbrev pub after_hole : (closes : Bool) → List Bool → (List Bool → Bool) → Bool
after_hole false inner test = test inner
after_hole true [] test = false
after_hole true (true ∷ inner) test = test inner
after_hole true (false ∷ inner) test = false

-- where these are open before it and no others, none is behind it
abbrev pub walks_all : List Bool → List Symbol → Bool
walks_all inner [] = is_none inner
walks_all inner (s.Take wanted ∷ more) = after_walk (walk wanted) inner (λ now. walks_all now more)
walks_all inner (s.Read m ∷ more) = after_hole (closes_hole m) inner (λ now. walks_all now more)
walks_all inner (s.Tell signal ∷ more) = walks_all inner more

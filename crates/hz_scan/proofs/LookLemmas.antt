-- The look of the next two tokens is the one that the grammar has of the terminals that they are.
use Rattle.std.proofs.Common.{◌≡◌, ℕ, Bool, true, false, ◌&&◌, ◌||◌, if◌then◌else◌, List, [], ◌∷◌, Some, None, refl}
use Rattle.std.proofs.Common.{map}
use Rattle.hz_tree.specs.declared.class.Class.{Class}
use Rattle.hz_tree.specs.declared.class.Class.TheVariants as k
use Rattle.hz_tree.specs.declared.class.Bracket.TheVariants.{Round}
use Rattle.hz_tree.specs.grammar.Classes.{class_of, is_paren}
use Rattle.hz_tree.specs.grammar.Look.{arrow_behind, begins_parameters, first_arrow, look, terminals_from}
use Rattle.hz_tree.specs.tokens.Tokens.{Lexeme}
use Rattle.hz_scan.specs.Look.{look_at, seen}

-- for a `(`, whether `=>` stands behind the `)` that matches it; these tokens stand behind it
abbrev pub has_arrow : List Lexeme → Bool
has_arrow ts = arrow_behind (Round ∷ []) (map class_of ts)

parameters : (c : Class) (ts : List Lexeme) → begins_parameters c ts ≡ (is_paren c && has_arrow ts)
parameters c ts = elim c as (λ x. begins_parameters x ts ≡ (is_paren x && has_arrow ts)) [
  | k.LeftParen ↦ refl
  | _ ↦ refl
]

first_arrow_is : (c : Class) (one two : Bool) → first_arrow c one two ≡ (if is_paren c then one else two)
first_arrow_is c one two = elim c as (λ x. first_arrow x one two ≡ (if is_paren x then one else two)) [
  | k.LeftParen ↦ refl
  | _ ↦ refl
]

-- what a flag tells of the next two tokens: whether the first `(` of them begins the parameters of an arrow
abbrev pub Tells : Bool → List Lexeme → Type 0
Tells arrow [] = Unit {0}
Tells arrow (t ∷ []) = is_paren (class_of t) ≡ true → arrow ≡ has_arrow []
Tells arrow (t ∷ u ∷ ts) =
    (is_paren (class_of t) ≡ true → arrow ≡ has_arrow (u ∷ ts))
    × (is_paren (class_of t) ≡ false → is_paren (class_of u) ≡ true → arrow ≡ has_arrow ts)

one_told : (p a arrow : Bool) → (p ≡ true → arrow ≡ a) → ((p || false) && arrow) ≡ (p && a)
one_told true a arrow told = told refl
one_told false a arrow told = refl

two_told : (p q a b arrow : Bool) → (p ≡ true → arrow ≡ a) → (p ≡ false → q ≡ true → arrow ≡ b)
    → ((p || q) && arrow) ≡ (if p then p && a else q && b)
two_told true q a b arrow one two = one refl
two_told false true a b arrow one two = two refl refl
two_told false false a b arrow one two = refl

pub one_seen : (behind : ℕ) (t : Lexeme) (arrow : Bool) → Tells arrow (t ∷ [])
    → look_at (Some (seen t)) None arrow ≡ look (terminals_from behind (t ∷ []))
one_seen behind t arrow told =
    rw (parameters (class_of t) [], one_told (is_paren (class_of t)) (has_arrow []) arrow told) refl

pub two_seen : (behind : ℕ) (t u : Lexeme) (ts : List Lexeme) (arrow : Bool) → Tells arrow (t ∷ u ∷ ts)
    → look_at (Some (seen t)) (Some (seen u)) arrow ≡ look (terminals_from behind (t ∷ u ∷ ts))
two_seen behind t u ts arrow told =
    let p = is_paren (class_of t) in
    let q = is_paren (class_of u) in
    rw (
      parameters (class_of t) (u ∷ ts),
      parameters (class_of u) ts,
      first_arrow_is (class_of t) (p && has_arrow (u ∷ ts)) (q && has_arrow ts),
      two_told p q (has_arrow (u ∷ ts)) (has_arrow ts) arrow told.0 told.1,
    ) refl

-- Parts of what is read, where the reading is settled.
use Rattle.std.proofs.Common.{◌≡◌, Bool, true, false, not, ◌&&◌, ◌||◌, List, ◌∷◌, refl}
use Rattle.hz_tree.specs.declared.nonterminal.Nonterminal.{Nonterminal}
use Rattle.hz_tree.specs.declared.nonterminal.Nonterminal.TheVariants as n
use Rattle.hz_tree.specs.declared.symbol.Symbol.{Symbol}
use Rattle.hz_tree.specs.declared.symbol.Symbol.TheVariants as s
use Rattle.hz_tree.specs.grammar.Look.{Terminal}
use Rattle.hz_tree.specs.grammar.Symbols.{Parts, Value, goes}
use Rattle.hz_tree.specs.reading.Reading.{Got, read_all, reads}
use Rattle.hz_laws.proofs.Ranks.{and_left, and_right}
use Rattle.hz_stands.specs.Heads.{in_head, is_of_head, in_ahead, settled}
use Rattle.hz_stands.specs.Stands.{Shape, arrowed}
use Rattle.hz_stands.proofs.Ahead.{keeps_off, none_behind}
use Rattle.hz_stands.proofs.SettledExpressions.{guards, Settles}

-- ---- truth values

implied : (a b c d : Bool) → (not a || (b && c)) ≡ true → (c ≡ true → d ≡ true) → (not a || (b && d)) ≡ true
implied false b c d h i = refl
implied true true c d h i = i h
implied true false c d h i = cc

ahead_none : (head part ahead : Bool) → (not head || (part && not ahead)) ≡ true → head ≡ true → ahead ≡ false
ahead_none true true false h i = refl
ahead_none true true true h i = cc
ahead_none true false ahead h i = cc
ahead_none false part ahead h i = cc

head_part : (head part ahead : Bool) → (not head || (part && not ahead)) ≡ true → head ≡ true → part ≡ true
head_part true true ahead h i = refl
head_part true false ahead h i = cc
head_part false part ahead h i = cc

guarded : (head part ahead guard : Bool) → (not head || (part && not ahead)) ≡ true
    → ((head && not part) || guard) ≡ true → guard ≡ true
guarded true true ahead guard h i = i
guarded true false ahead guard h i = cc
guarded false part ahead guard h i = i

none_not : (b : Bool) → b ≡ false → not b ≡ true
none_not true h = cc
none_not false h = refl

-- ---- readings

-- so of a function that ends before `rest`: the body of an arrow can be an expression of a head
abbrev pub shape_settled : Shape → (rest : List Terminal) → Bool
shape_settled (arrowed c parenthesised) rest = settled (n.ArrowBody c) rest
shape_settled _ rest = true

-- no `in` stands behind a part of a head
abbrev pub NoneBehind : (behind : Bool) → List Terminal → Type 0
NoneBehind behind rest = behind ≡ true → in_ahead rest ≡ false

pub behind_settled : (m : Nonterminal) (rest : List Terminal) → settled m rest ≡ true → NoneBehind (in_head m) rest
behind_settled m rest h = ahead_none (in_head m) (is_of_head m) (in_ahead rest) h

pub settled_in_head : (m : Nonterminal) (rest : List Terminal) → settled m rest ≡ true → in_head m ≡ true
    → is_of_head m ≡ true
settled_in_head m rest h i = head_part (in_head m) (is_of_head m) (in_ahead rest) h i

pub settled_guards : (m : Nonterminal) (right : List Symbol) (make : Parts Value right → Value m)
    (rest : List Terminal)
    → settled m rest ≡ true → Settles m (goes right make) → guards (in_head m) right ≡ true
settled_guards m right make rest h i =
    guarded (in_head m) (is_of_head m) (in_ahead rest) (guards (in_head m) right) h i

-- The first of several parts is settled where they are guarded.
pub first_settled : (m : Nonterminal) (more : List Symbol) (mid rest : List Terminal) (p : Parts Value more)
    (behind : Bool)
    → guards behind (s.Read m ∷ more) ≡ true → NoneBehind behind rest → read_all reads more mid ≡ Got p rest
    → settled m mid ≡ true
first_settled m more mid rest p behind h none is =
    implied (in_head m) (is_of_head m) (keeps_off behind more) (not (in_ahead mid))
    (and_left (not (in_head m) || (is_of_head m && keeps_off behind more)) (guards behind more) h)
    (λ off. none_not (in_ahead mid) (none_behind more mid rest p behind off none is))

pub others_guarded : (x : Symbol) (more : List Symbol) (behind : Bool) → guards behind (x ∷ more) ≡ true
    → guards behind more ≡ true
others_guarded (s.Take wanted) more behind h = h
others_guarded (s.Read m) more behind h =
    and_right (not (in_head m) || (is_of_head m && keeps_off behind more)) (guards behind more) h
others_guarded (s.Tell signal) more behind h = h

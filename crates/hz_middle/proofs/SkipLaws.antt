-- Behind a reading the terminals are those that are left where it ends, with the braces of before.
use Rattle.std.proofs.Common.{◌≡◌, ℕ, Bool, true, false, if◌then◌else◌, List, [], ◌∷◌, ◌++◌, Some, None}
use Rattle.std.proofs.Common.{refl, ap, sym, ◌∙◌, subst}
use Rattle.hz_tree.specs.declared.nonterminal.Nonterminal.{Nonterminal}
use Rattle.hz_tree.specs.grammar.Look.{Terminal}
use Rattle.hz_tree.specs.grammar.Symbols.{Value}
use Rattle.hz_tree.specs.reading.Reading.{Got, reads}
use Rattle.hz_tree.specs.tokens.Tokens.{Lexeme, braces}
use Rattle.hz_laws.specs.Middle.{Classed, braces_behind, closes_hole, hole_by, Balances}
use Rattle.hz_laws.proofs.Balance.{reading_balance, terminals_classed}
use Rattle.hz_middle.specs.Place.{Place, tokens_left, left, first, past, terminal}
use Rattle.hz_middle.proofs.PlaceLaws.{left_some, left_none}

-- the place behind some terminals
record Reaches (p : Place) (passed rest : List Terminal) : Type 0 where
  place : Place
  source_is : place.source ≡ p.source
  opened_is : place.opened ≡ braces_behind passed p.opened
  left_is : left place ≡ rest

tail_of : List Terminal → List Terminal
tail_of [] = []
tail_of (x ∷ ts) = ts

lexeme_of : Lexeme → List Terminal → Lexeme
lexeme_of other [] = other
lexeme_of other (x ∷ ts) = x.token

reaches : (passed : List Terminal) (p : Place) (rest : List Terminal) → left p ≡ passed ++ rest → Reaches p passed rest
unfolding tail_of lexeme_of
reaches [] p rest h = record { place = p; source_is = refl; opened_is = refl; left_is = h }
reaches (x ∷ passed) p rest h =
    elim (first p) as (λ o. first p ≡ o → Reaches p (x ∷ passed) rest) [
      | None ↦ λ e. cc (sym (left_none p e) ∙ h)
      | Some t ↦ λ e.
          let same : terminal p t ∷ left (past p t) ≡ x ∷ (passed ++ rest) = sym (left_some p t e) ∙ h in
          let further : Reaches (past p t) passed rest = reaches passed (past p t) rest (ap tail_of same) in
          let token : t ≡ x.token = ap (lexeme_of t) same in
          record {
            place = further.place;
            source_is = further.source_is;
            opened_is = further.opened_is ∙ ap (λ u. braces_behind passed (braces u p.opened)) token;
            left_is = further.left_is;
          }
    ] refl

behind_of : ℕ → List Terminal → ℕ
behind_of other [] = other
behind_of other (x ∷ ts) = x.behind

not_ended : (ended : Bool) (u t : Lexeme) → (if ended then None else Some u) ≡ Some t → ended ≡ false
not_ended true u t h = cc
not_ended false u t h = refl

-- a place at which something is left lies behind the token before that
stands : (q : Place) (x : Terminal) (rest : List Terminal) → left q ≡ x ∷ rest
    → record q { at = x.behind; ended = false } ≡ q
unfolding behind_of
stands q x rest h =
    elim (first q) as (λ o. first q ≡ o → record q { at = x.behind; ended = false } ≡ q) [
      | None ↦ λ e. cc (sym (left_none q e) ∙ h)
      | Some t ↦ λ e.
          ap (λ b. record q { at = x.behind; ended = b }) (sym (not_ended q.ended _ t e))
          ∙ ap (λ a. record q { at = a }) (sym (ap (behind_of 0) (sym (left_some q t e) ∙ h)))
    ] refl

classed_first : (ps qs : List Terminal) → Classed (ps ++ qs) → Classed ps
classed_first [] qs h = tt
classed_first (p ∷ ps) qs h = (h.0, classed_first ps qs h.1)

-- Where terminals are passed that close the braces which they open, what is left stands at the place behind them.
pub skip_balanced : (p : Place) (x : Terminal) (rest : List Terminal) → Balances [] (left p) (x ∷ rest)
    → left (record p { at = x.behind; ended = false }) ≡ x ∷ rest
skip_balanced p x rest b =
    let r : Reaches p b.passed (x ∷ rest) = reaches b.passed p (x ∷ rest) b.split in
    let classed : Classed b.passed =
    classed_first b.passed (x ∷ rest) (subst Classed b.split (terminals_classed (tokens_left p) p.at)) in
    let opened : r.place.opened ≡ p.opened = r.opened_is ∙ b.closed classed p.opened in
    ap left (ap (λ o. record p { opened = o; at = x.behind; ended = false }) (sym opened)
    ∙ ap (λ s. record r.place { source = s; at = x.behind; ended = false }) (sym r.source_is)
    ∙ stands r.place x rest r.left_is)
    ∙ r.left_is

-- Behind a reading that closes no hole stands what is left at the place where its last token ends.
pub skip_law : (p : Place) (m : Nonterminal) (v : Value m) (x : Terminal) (rest : List Terminal)
    → closes_hole m ≡ false → reads m (left p) ≡ Got v (x ∷ rest)
    → left (record p { at = x.behind; ended = false }) ≡ x ∷ rest
skip_law p m v x rest h is =
    skip_balanced p x rest
    (subst (λ inner. Balances inner (left p) (x ∷ rest)) (ap hole_by h) (reading_balance m (left p) (x ∷ rest) v is))

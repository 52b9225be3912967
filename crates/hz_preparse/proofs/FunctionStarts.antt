-- The functions of a source start one behind the other.
use Rattle.std.proofs.Common.{◌≡◌, ℕ, zero, suc, ◌+◌, ◌-◌, ◌≤◌, Bool, true, false, if◌then◌else◌}
use Rattle.std.proofs.Common.{inl, inr, List, [], ◌∷◌, ◌++◌, length, map}
use Rattle.std.proofs.Common.{refl, ap, sym, subst, arith}
use Rattle.hz_tree.specs.declared.nonterminal.Nonterminal.TheVariants as n
use Rattle.hz_tree.specs.declared.tree.Tree.{Tree}
use Rattle.hz_tree.specs.tokens.Text.{Text}
use Rattle.hz_tree.specs.tokens.Tokens.{Lexeme, token_behind, is_last, braces, in_hole, tokens_to, tokens_from}
use Rattle.hz_tree.specs.tokens.Tokens.{tokens}
use Rattle.hz_tree.specs.grammar.Look.{Terminal, terminals_from, terminals}
use Rattle.hz_tree.specs.reading.Reading.{Reading, Got, Stuck, Deeper, reads}
use Rattle.hz_tree.specs.sources.Refusals.{functions_by, functions}
use Rattle.hz_tree.specs.trees.Events.{events_of}
use Rattle.hz_tree.specs.trees.Functions.{found_in, functions_of}
use Rattle.hz_laws.proofs.Starts.{Among, Passes, places, starts, function_starts}
use Rattle.hz_scan.specs.State.{Lies}
use Rattle.hz_scan.specs.Order.{end_of}
use Rattle.hz_scan.proofs.OrderLemmas.{behind_lies}
use Rattle.hz_scan.proofs.TokenLemmas.{some_text}
use Rattle.hz_preparse.specs.Starts.{Rises, StartsRise}

-- ---- tokens

sooner : (a b : ℕ) (xs : List ℕ) → a ≤ b → Rises b xs → Rises a xs
sooner a b [] h i = tt
sooner a b (x ∷ xs) h i = (let first : b ≤ x = i.0 in omega (arith, first), i.1)

abbrev lexeme_places : List Lexeme → List ℕ
lexeme_places ts = map (λ t. t.at) ts

rises_to : (n : ℕ) (opened : List Bool) (source : Text) (place : ℕ) → place ≤ length source
    → Rises place (lexeme_places (tokens_to n opened source place))
rises_to zero opened source place h = tt
rises_to (suc n) opened source place h =
    let t = token_behind (in_hole opened) source place in
    let lies : Lies source place t = behind_lies (in_hole opened) source place h in (
      lies.after,
      elim (is_last t.kind) as (λ b. is_last t.kind ≡ b → Rises (suc t.at)
          (lexeme_places (if b then [] else tokens_to n (braces t opened) source (end_of t)))) [
            | true ↦ λ e. tt
            | false ↦ λ e.
                let some : 1 ≤ length t.text = some_text (in_hole opened) source place e in
                sooner (suc t.at) (end_of t) _ (omega (arith, some))
                (rises_to n (braces t opened) source (end_of t) lies.inside)
          ] refl,
    )

abbrev terminal_places : List Terminal → List ℕ
terminal_places ts = map (λ x. x.token.at) ts

places_same : (behind : ℕ) (ts : List Lexeme) → terminal_places (terminals_from behind ts) ≡ lexeme_places ts
places_same behind [] = refl
places_same behind (t ∷ ts) = ap (λ ps. t.at ∷ ps) (places_same (t.at + length t.text) ts)

terminals_rise : (source : Text) → Rises 0 (terminal_places (terminals source))
unfolding tokens_from terminals
terminals_rise source =
    subst (λ ps. Rises 0 ps) (sym (places_same 0 (tokens source)))
    (rises_to (suc (length source - 0)) [] source 0 (omega arith))

-- ---- places among those of tokens

front_rises : (from : ℕ) (ts us : List Terminal) → Rises from (terminal_places (ts ++ us))
    → Rises from (terminal_places ts)
front_rises from [] us h = tt
front_rises from (t ∷ ts) us h = (h.0, front_rises (suc t.token.at) ts us h.1)

among_rises : (from : ℕ) (ps : List ℕ) (ts : List Terminal) → Rises from (terminal_places ts) → Among ps ts
    → Rises from ps
among_rises from ps [] h i = subst (λ qs. Rises from qs) (sym i) tt
among_rises from ps (t ∷ ts) h (inl i) =
    let first : from ≤ t.token.at = h.0 in
    sooner from (suc t.token.at) ps (omega (arith, first)) (among_rises (suc t.token.at) ps ts h.1 i)
among_rises from ps (t ∷ ts) h (inr (qs, (e, i))) =
    subst (λ rs. Rises from rs) (sym e) (h.0, among_rises (suc t.token.at) qs ts h.1 i)

passes_rises : (ts rest : List Terminal) (ps : List ℕ) → Rises 0 (terminal_places ts) → Passes ts ps rest → Rises 0 ps
passes_rises ts rest ps h i =
    among_rises 0 ps i.passed
    (front_rises 0 i.passed rest (subst (λ us. Rises 0 (terminal_places us)) i.split h)) i.among

-- ---- functions

tail_same : (a b : ℕ) (ps qs : List ℕ) → a ∷ ps ≡ b ∷ qs → ps ≡ qs
tail_same a b ps qs h = cc (h)

by_rise : (source : Text) (r : Reading Tree) → reads n.Script (terminals source) ≡ r
    → StartsRise (functions_by source r)
unfolding functions_of
by_rise source (Got tree rest) is =
    let told = function_starts source (terminals source) tree rest is in
    let same : starts (found_in tree 0 1) ≡ places (events_of tree) = tail_same 0 0 _ _ told.0 in (
      refl,
      subst (λ ps. Rises 0 ps) (sym same)
          (passes_rises (terminals source) rest (places (events_of tree)) (terminals_rise source) told.1),
    )
by_rise source (Stuck cause ts) is = tt
by_rise source Deeper is = tt

pub functions_rise : (source : Text) → StartsRise (functions source)
unfolding functions
functions_rise source = by_rise source (reads n.Script (terminals source)) refl

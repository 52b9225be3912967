-- The terminals of a source stand in line.
use Rattle.std.proofs.Common.{◌≡◌, ℕ, zero, suc, ◌+◌, ◌-◌, ◌≤◌, Bool, true, false, if◌then◌else◌, List, [], ◌∷◌, length}
use Rattle.std.proofs.Common.{refl, sym, subst, arith}
use Rattle.hz_tree.specs.declared.token.TokenKind.TheVariants.{End}
use Rattle.hz_tree.specs.grammar.Classes.{class_of}
use Rattle.hz_tree.specs.grammar.Look.{Terminal, terminals_from, terminals}
use Rattle.hz_tree.specs.tokens.Text.{Text}
use Rattle.hz_tree.specs.tokens.Tokens.{Lexeme, token_behind, is_last, braces, in_hole, tokens_to, tokens_from}
use Rattle.hz_scan.specs.State.{Lies}
use Rattle.hz_scan.specs.Order.{end_of}
use Rattle.hz_scan.proofs.OrderLemmas.{behind_lies}
use Rattle.hz_scan.proofs.TokenLemmas.{some_text}
use Rattle.hz_own.specs.Lined.{GoesOn, InLine, Lined}
use Rattle.hz_own.proofs.Ends.{at_end}

goes_on : (t : Lexeme) (more : List Terminal) → is_last t.kind ≡ false → 1 ≤ length t.text → GoesOn t more
goes_on t [] h i = tt
goes_on t (x ∷ more) h i = (h, i)

-- the token behind a place, and others behind it
in_line : (hole : Bool) (source : Text) (place : ℕ) (x : Terminal) (more : List Terminal) → place ≤ length source
    → x.token ≡ token_behind hole source place → x.class ≡ class_of x.token → x.behind ≡ place
    → GoesOn x.token more → InLine source place x more
in_line hole source place x more h same class behind goes =
    let t = token_behind hole source place in
    let lies : Lies source place t = behind_lies hole source place h in
    let inside : t.at + length t.text ≤ length source = lies.inside in
    record {
      class = class;
      behind = behind;
      lies = subst (λ y. Lies source place y) (sym same) lies;
      goes_on = goes;
      ends = subst (λ y. y.kind ≡ End → y.at ≡ length source) (sym same)
          (λ e. let there : length source ≤ t.at = at_end hole source place e in omega arith);
    }

lined_to : (n : ℕ) (opened : List Bool) (source : Text) (place : ℕ) → place ≤ length source
    → Lined source place (terminals_from place (tokens_to n opened source place))
lined_to zero opened source place h = tt
lined_to (suc n) opened source place h =
    let t = token_behind (in_hole opened) source place in
    let inside : end_of t ≤ length source = (behind_lies (in_hole opened) source place h).inside in
    elim (is_last t.kind) as (λ b. is_last t.kind ≡ b → Lined source place
    (terminals_from place (t ∷ (if b then [] else tokens_to n (braces t opened) source (end_of t))))) [
      | true ↦ λ e. (in_line (in_hole opened) source place _ [] h refl refl refl tt, tt)
      | false ↦ λ e. (
        in_line (in_hole opened) source place _ _ h refl refl refl
            (goes_on t _ e (some_text (in_hole opened) source place e)),
        lined_to n (braces t opened) source (end_of t) inside,
      )
    ] refl

-- So do those from a place on.
pub lined_from : (opened : List Bool) (source : Text) (place : ℕ) → place ≤ length source
    → Lined source place (terminals_from place (tokens_from opened source place))
unfolding tokens_from
lined_from opened source place h = lined_to (suc (length source - place)) opened source place h

-- The terminals of a source stand in line.
pub terminals_lined : (source : Text) → Lined source 0 (terminals source)
unfolding tokens_from terminals
terminals_lined source = lined_to (suc (length source - 0)) [] source 0 (omega arith)

-- Behind a function that was passed over.
use Rattle.std.proofs.Common.{◌+◌, ◌≤◌, ◌||◌, if◌then◌else◌, None, subst, arith}
use Rattle.std.proofs.Common.{◌≡◌, ◌≢◌, ℕ, Bool, true, false, List, [], ◌∷◌, ◌++◌, length, Some, refl, ap, sym, ◌∙◌}
use Rattle.hz_tree.specs.grammar.Look.{Terminal}
use Rattle.hz_tree.specs.reading.Reading.{end_behind}
use Rattle.hz_laws.specs.Middle.{Balances}
use Rattle.hz_middle.specs.Place.{Place, first, left, past}
use Rattle.hz_middle.proofs.PlaceLaws.{left_none, left_some}
use Rattle.hz_middle.proofs.SkipLaws.{skip_balanced}
use Rattle.hz_scan.proofs.OrderLemmas.{behind_lies}
use Rattle.hz_own.specs.Known.{Known}
use Rattle.hz_parts.specs.declared.parts.Parts.{Parts as Stacks}
use Rattle.hz_parse.specs.Leads.{Skipping}
use Rattle.hz_cuts.specs.Rows.{is_close, some_symbol}
use Rattle.hz_tree.specs.declared.index.FunctionInfo.{FunctionInfo}
use Rattle.hz_tree.specs.declared.signal.Signal.TheVariants as tell
use Rattle.hz_tree.specs.declared.symbol.Symbol.{Symbol}
use Rattle.hz_tree.specs.declared.symbol.Symbol.TheVariants as s
use Rattle.hz_tree.specs.tokens.Tokens.{Lexeme, in_hole, token_behind}
use Rattle.hz_tree.specs.trees.FunctionTrees.{number_at}
use Rattle.std.specs.List.{slice_get}
use Rattle.std.specs.Option.{option_map}

pub passed : (p : Place) (rest : List Terminal) (end : ℕ) → Balances [] (left p) rest → rest ≢ [] → end ≡ end_behind rest
    → left (record p { at = end; ended = false }) ≡ rest
passed p [] end b some e = absurd (some refl)
passed p (x ∷ rest) end b some e =
    ap (λ at. left (record p { at = at; ended = false })) e ∙ skip_balanced p x rest b

-- ---- the place at which the function ends

abbrev first_of : Terminal → List Terminal → Terminal
first_of other [] = other
first_of other (x ∷ ts) = x

abbrev rest_of : List Terminal → List Terminal
rest_of [] = []
rest_of (x ∷ ts) = ts

pub token_inside : (p : Place) (t : Lexeme) → p.at ≤ length p.source → first p ≡ Some t
    → t.at + length t.text ≤ length p.source
token_inside p t h e = by_ended p.ended e
  where
    by_ended : (ended : Bool) → (if ended then None else Some (token_behind (in_hole p.opened) p.source p.at)) ≡ Some t
        → t.at + length t.text ≤ length p.source
    by_ended true e = cc
    by_ended false e =
        let same : token_behind (in_hole p.opened) p.source p.at ≡ t = cc in
        subst (λ u. u.at + length u.text ≤ length p.source) same
        (behind_lies (in_hole p.opened) p.source p.at h).inside

pub inside_left : (passed : List Terminal) (p : Place) (x : Terminal) (rest : List Terminal) → p.at ≤ length p.source
    → left p ≡ passed ++ x ∷ rest → x.behind ≤ length p.source
inside_left [] p x rest h e =
    elim (first p) as (λ o. first p ≡ o → x.behind ≤ length p.source) [
      | None ↦ λ f. cc (sym (left_none p f) ∙ e)
      | Some t ↦ λ f.
          let same : p.at ≡ x.behind = ap (λ ts. (first_of x ts).behind) (sym (left_some p t f) ∙ e) in
          omega (arith, same, h)
    ] refl
inside_left (y ∷ ys) p x rest h e =
    elim (first p) as (λ o. first p ≡ o → x.behind ≤ length p.source) [
      | None ↦ λ f. cc (sym (left_none p f) ∙ e)
      | Some t ↦ λ f. inside_left ys (past p t) x rest (token_inside p t h f)
          (ap rest_of (sym (left_some p t f) ∙ e))
    ] refl

pub rest_inside : (p : Place) (rest : List Terminal) → p.at ≤ length p.source → Balances [] (left p) rest → rest ≢ []
    → end_behind rest ≤ length p.source
rest_inside p [] h b some = absurd (some refl)
rest_inside p (x ∷ rest) h b some = inside_left b.passed p x rest h b.split

end_is : (functions : List FunctionInfo) (number end : ℕ) (info : FunctionInfo)
    → slice_get functions number ≡ Some info → option_map (λ f. f.end) (slice_get functions number) ≡ Some end
    → end ≡ info.end
end_is functions number end info h e = cc (sym e ∙ ap (option_map (λ f. f.end)) h)

pub end_found : (functions : List FunctionInfo) (symbols : List Symbol) (ts : List Terminal) (p : Stacks)
    (opened number end : ℕ) (more : List ℕ) → p.opened ≡ opened ∷ more → number ≡ number_at functions opened
    → option_map (λ f. f.end) (slice_get functions number) ≡ Some end
    → (s : Skipping (Known functions) symbols ts p (λ rest. rest ≢ [])) → end ≡ end_behind s.rest
end_found functions symbols ts p opened number end more e is found s =
    let here : opened ≡ s.function.at = cc (sym e ∙ s.opened) in
    let place : number ≡ number_at functions s.function.at = is ∙ ap (number_at functions) here in
    end_is functions number end s.known.info (ap (slice_get functions) place ∙ s.known.found) found
    ∙ s.known.end ∙ sym s.ends

-- ---- the symbols behind it

pub some_close : (middle others : List Symbol)
    → some_symbol is_close (middle ++ s.Tell tell.Close ∷ others) ≡ true
some_close [] others = refl
some_close (x ∷ xs) others = or_true (is_close x) (some_symbol is_close (xs ++ s.Tell tell.Close ∷ others))
    (some_close xs others)
  where
    or_true : (a b : Bool) → b ≡ true → (a || b) ≡ true
    or_true true b h = refl
    or_true false b h = h

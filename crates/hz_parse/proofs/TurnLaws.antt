-- What each turn keeps.
use Rattle.std.proofs.Common.{◌≡◌, ◌≢◌, ℕ, ◌<◌, ◌≤◌, ◌&&◌, Bool, true, false, List, [], ◌∷◌, ◌++◌, length}
use Rattle.std.proofs.Common.{refl, ap, sym, ◌∙◌, subst, arith, append_assoc}
use Rattle.std.proofs.lemmas.List.Elements.{All-weaker}
use Rattle.hz_tree.specs.declared.index.FunctionInfo.{FunctionInfo}
use Rattle.hz_tree.specs.declared.nonterminal.Nonterminal.{Nonterminal}
use Rattle.hz_tree.specs.declared.symbol.Symbol.{Symbol}
use Rattle.hz_tree.specs.declared.symbol.Symbol.TheVariants as s
use Rattle.hz_tree.specs.grammar.Classes.{is_paren}
use Rattle.hz_tree.specs.grammar.Look.{Terminal, begins_arrow, look}
use Rattle.hz_tree.specs.reading.Reading.{end_behind, place_ahead}
use Rattle.hz_tree.specs.tokens.Text.{Text}
use Rattle.hz_tree.specs.trees.FunctionTrees.{number_at}
use Rattle.hz_scan.specs.Order.{end_of}
use Rattle.hz_own.specs.Known.{Known}
use Rattle.hz_own.specs.Lined.{GoesOn, Lined}
use Rattle.hz_alone.specs.Alone.{ToldBefore}
use Rattle.hz_parts.specs.declared.mark.Mark.{Mark}
use Rattle.hz_parts.specs.declared.parts.Parts.{Parts as Stacks}
use Rattle.hz_stands.proofs.Several.{Suffix}
use Rattle.hz_parse.specs.Asked.{Told, asks, turned}
use Rattle.hz_parse.specs.Leads.{Leads, Reaches}
use Rattle.hz_parse.specs.Turns.{Ahead, arrow_at, arrow_told}
use Rattle.hz_parse.proofs.ArrowsAhead.{Found, Taken, arrow_found, asked_known, asked_taken, begins_other, begins_paren}
use Rattle.hz_parse.proofs.ArrowsAhead.{of_found}

-- ---- what is ahead, further on

lined_behind : (source : Text) (place : ℕ) (passed rest : List Terminal) → Lined source place (passed ++ rest)
    → (further : ℕ) × Lined source further rest
lined_behind source place [] rest l = (place, l)
lined_behind source place (x ∷ passed) rest l = lined_behind source (end_of x.token) passed rest l.1

told_behind : (end : ℕ) (passed rest : List Terminal) (info : FunctionInfo) → ToldBefore (passed ++ rest) end info
    → ToldBefore rest end info
told_behind end passed rest info told arrow before after t split =
    told arrow (passed ++ before) after t
    (ap (λ us. passed ++ us) split ∙ sym (append_assoc passed before (t ∷ after)))

pub ahead_behind : (functions : List FunctionInfo) (source : Text) (end : ℕ) (ts rest : List Terminal)
    → Suffix ts rest → Ahead functions source end ts → Ahead functions source end rest
ahead_behind functions source end ts rest u a =
    let here : Ahead functions source end (u.passed ++ rest) = subst (Ahead functions source end) u.split a in
    let lined = lined_behind source here.place u.passed rest here.lined in
    record {
      told = All-weaker (ToldBefore (u.passed ++ rest) end) (ToldBefore rest end)
          (λ info. told_behind end u.passed rest info) functions here.told;
      place = lined.0;
      lined = lined.1;
    }

-- ---- places

-- what is left in line, where something is, is behind the end of each token before it
end_before : (source : Text) (place : ℕ) (passed last : List Terminal) → last ≢ []
    → Lined source place (passed ++ last) → place ≤ end_behind last
end_before source place [] [] some l = absurd (some refl)
end_before source place [] (x ∷ last) some l = omega (arith, l.0.behind)
end_before source place (x ∷ passed) last some l =
    let more : end_of x.token ≤ end_behind last = end_before source (end_of x.token) passed last some l.1 in
    let here : place ≤ x.token.at = l.0.lies.after in
    omega (arith, more, here)

has_text : (x : Terminal) (passed last : List Terminal) → last ≢ [] → GoesOn x.token (passed ++ last)
    → 1 ≤ length x.token.text
has_text x [] [] some g = absurd (some refl)
has_text x [] (y ∷ last) some g = g.1
has_text x (y ∷ passed) last some g = g.1

-- a token before what is left begins before the place where the one before that ends
begins_before : (source : Text) (place : ℕ) (x : Terminal) (passed last : List Terminal) → last ≢ []
    → Lined source place (x ∷ passed ++ last) → x.token.at < end_behind last
begins_before source place x passed last some l =
    let more : end_of x.token ≤ end_behind last = end_before source (end_of x.token) passed last some l.1 in
    omega (arith, more, has_text x passed last some l.0.goes_on)

-- ---- what is told of an arrow

module _ (functions : List FunctionInfo) (last : List Terminal) (whole : Stacks) (source : Text) where
  abbrev Goes : List Symbol → List Mark → List Terminal → Stacks → (own : ℕ) → Type 0
  Goes symbols marks ts p own =
      Leads functions (Known functions) (Reaches last whole) false false symbols marks ts p own

  -- an arrow that the functions' starts tell begins
  begins_known : (m : Nonterminal) (more : List Symbol) (marks : List Mark) (ts : List Terminal) (p : Stacks) (own : ℕ)
      → asks m ≡ true → is_paren (look ts).one ≡ true → last ≢ [] → Ahead functions source (end_behind last) ts
      → Goes (s.Read m ∷ more) marks ts p own → arrow_at functions (place_ahead ts) ≡ true
      → begins_arrow (look ts) ≡ true
  begins_known m more marks ts p own a h some ahead g found = by_begins (begins_arrow (look ts)) refl
    where
      by_begins : (b : Bool) → begins_arrow (look ts) ≡ b → begins_arrow (look ts) ≡ true
      by_begins true e = e
      by_begins false e =
          let taken : Taken functions last whole ts = asked_taken functions last whole m more marks ts p own a h e g in
          let info : Found functions (place_ahead ts) = arrow_found functions (place_ahead ts) found in
          let lined : Lined source ahead.place (taken.paren ∷ taken.passed ++ last) =
          subst (Lined source ahead.place) taken.split ahead.lined in
          ap (λ us. begins_arrow (look us)) taken.split
          ∙ of_found (ToldBefore ts (end_behind last)) functions (number_at functions (place_ahead ts)) info.info
          ahead.told info.found info.kind [] (taken.passed ++ last) taken.paren taken.split
          (sym (info.start ∙ ap place_ahead taken.split))
          (begins_before source ahead.place taken.paren taken.passed last some lined)

  -- where the row asks, a `(` is told to begin an arrow just where it does
  told_same : (m : Nonterminal) (more : List Symbol) (marks : List Mark) (ts : List Terminal) (p : Stacks) (own : ℕ)
      → asks m ≡ true → is_paren (look ts).one ≡ true → last ≢ [] → Ahead functions source (end_behind last) ts
      → Goes (s.Read m ∷ more) marks ts p own → arrow_at functions (place_ahead ts) ≡ begins_arrow (look ts)
  told_same m more marks ts p own a h some ahead g =
      by_both (arrow_at functions (place_ahead ts)) (begins_arrow (look ts))
      (begins_known m more marks ts p own a h some ahead g)
      (λ begins. asked_known functions last whole m more marks ts p own a h begins g)
    where
      by_both : (x y : Bool) → (x ≡ true → y ≡ true) → (y ≡ true → x ≡ true) → x ≡ y
      by_both true y f g = sym (f refl)
      by_both false true f g = g refl
      by_both false false f g = refl

  pub told_ahead_of : (m : Nonterminal) (more : List Symbol) (marks : List Mark) (ts : List Terminal) (p : Stacks)
      (own : ℕ) → last ≢ [] → Ahead functions source (end_behind last) ts → Goes (s.Read m ∷ more) marks ts p own
      → Told m (look ts) (arrow_told functions m ts)
  told_ahead_of m more marks ts p own some ahead g = record {
    begins = λ a. by_paren (is_paren (look ts).one) refl a;
    paren = λ e. ap (λ b. asks m && (b && arrow_at functions (place_ahead ts))) e ∙ and_none (asks m);
  }
    where
      and_none : (b : Bool) → (b && false) ≡ false
      and_none true = refl
      and_none false = refl

      by_paren : (b : Bool) → is_paren (look ts).one ≡ b → asks m ≡ true
          → begins_arrow (turned (look ts) (arrow_told functions m ts)) ≡ begins_arrow (look ts)
      by_paren true e a =
          begins_paren (turned (look ts) (arrow_told functions m ts)) e
          ∙ ap (λ b. b && (is_paren (look ts).one && arrow_at functions (place_ahead ts))) a
          ∙ ap (λ b. b && arrow_at functions (place_ahead ts)) e
          ∙ told_same m more marks ts p own a e some ahead g
      by_paren false e a = begins_other (look ts) (arrow_told functions m ts) e

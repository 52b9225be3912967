-- What is left at the end is left of what is ahead.
use Rattle.std.proofs.Common.{ℕ, Bool, true, false, List, [], ◌∷◌}
use Rattle.hz_tree.specs.declared.class.Class.{Class}
use Rattle.hz_tree.specs.declared.index.FunctionInfo.{FunctionInfo}
use Rattle.hz_tree.specs.declared.signal.Signal.TheVariants as tell
use Rattle.hz_tree.specs.declared.symbol.Symbol.{Symbol}
use Rattle.hz_tree.specs.declared.symbol.Symbol.TheVariants as s
use Rattle.hz_tree.specs.grammar.Look.{Terminal}
use Rattle.hz_laws.proofs.Balance.{reading_balance}
use Rattle.hz_stands.specs.Nodes.{FunctionNode}
use Rattle.hz_stands.proofs.Several.{Suffix, same_suffix, suffix_then}
use Rattle.hz_own.specs.Owned.{open_behind}
use Rattle.hz_parts.specs.declared.mark.Mark.{Mark}
use Rattle.hz_parts.specs.declared.parts.Parts.{Parts as Stacks}
use Rattle.hz_parts.specs.Values.{after}
use Rattle.hz_parse.specs.Leads.{Either, Leads, Making, Reaches, Taking, is_mark, opened_behind}
use Rattle.hz_parse.proofs.Even.{takes_got}

module _ (functions : List FunctionInfo) (Known : FunctionNode → Type 0) (last : List Terminal) (whole : Stacks) where
  abbrev Goes : (inside opened : Bool) → List Symbol → List Mark → List Terminal → Stacks → (own : ℕ) → Type 0
  Goes inside opened symbols marks ts p own =
      Leads functions Known (Reaches last whole) inside opened symbols marks ts p own

  abbrev Takes : (opened : Bool) → Class → List Symbol → List Mark → List Terminal → Stacks → (own : ℕ) → Type 0
  Takes opened wanted more marks ts p own =
      Taking opened wanted ts p own (λ rest q others. Goes false opened more marks rest q others)

  token_then : (opened : Bool) (wanted : Class) (more : List Symbol) (marks : List Mark) (ts : List Terminal)
      (p : Stacks) (own : ℕ) (x : Takes opened wanted more marks ts p own) → Suffix x.rest last → Suffix ts last
  token_then opened wanted more marks ts p own x l =
      suffix_then ts x.rest last
      (record { passed = x.token ∷ []; split = (takes_got wanted ts x.token x.rest x.got).split }) l

  pub leads_left : (inside opened : Bool) (symbols : List Symbol) (marks : List Mark) (ts : List Terminal) (p : Stacks)
      (own : ℕ) → Goes inside opened symbols marks ts p own → Suffix ts last
  leads_left inside opened [] marks ts p own l = same_suffix ts last l.1.0
  leads_left true opened (symbol ∷ more) marks ts p own l =
      leads_left (after true symbol) (opened_behind symbol opened) more marks ts p own l
  leads_left false opened (s.Take wanted ∷ more) [] ts p own l =
      elim (is_mark wanted) as (λ b. Either b ⊥ (Takes opened wanted more [] ts p own) → Suffix ts last) [
        | true ↦ λ x. absurd x
        | false ↦ λ x. token_then opened wanted more [] ts p own x
            (leads_left false opened more [] x.rest _ x.others x.goes_on)
      ] l
  leads_left false opened (s.Take wanted ∷ more) (mark ∷ others) ts p own l =
      elim (is_mark wanted) as (λ b. Either b
      (Making functions mark p (λ q. Goes false opened more others ts q own))
      (Takes opened wanted more (mark ∷ others) ts p own) → Suffix ts last) [
        | true ↦ λ x. leads_left false opened more others ts x.new own x.goes_on
        | false ↦ λ x. token_then opened wanted more (mark ∷ others) ts p own x
            (leads_left false opened more (mark ∷ others) x.rest _ x.others x.goes_on)
      ] l
  leads_left false opened (s.Read m ∷ more) marks ts p own l =
      let passed = reading_balance m ts l.rest l.value l.read in
      suffix_then ts l.rest last (record { passed = passed.passed; split = passed.split })
      (leads_left false opened more marks l.rest _ l.others l.goes_on)
  leads_left false opened (s.Tell tell.Enter ∷ more) marks ts p own l =
      suffix_then ts l.rest last (record { passed = l.passed.passed; split = l.passed.split })
      (leads_left true opened more marks l.rest p own l.goes_on)
  leads_left false opened (s.Tell signal ∷ more) marks ts p own l =
      leads_left false (open_behind signal opened) more marks ts _ own l

-- Symbols that are read whole lead to what their parts make.
use Rattle.std.proofs.Common.{◌≡◌, ℕ, ◌+◌, ◌≤◌, Bool, true, false, List, [], length, refl, sym, subst}
use Rattle.hz_tree.specs.declared.index.FunctionInfo.{FunctionInfo}
use Rattle.hz_tree.specs.declared.symbol.Symbol.{Symbol}
use Rattle.hz_tree.specs.grammar.Look.{Terminal}
use Rattle.hz_cuts.specs.Cuts.{cut_parts}
use Rattle.hz_middle.specs.Place.{Place, left}
use Rattle.hz_own.specs.Known.{Known}
use Rattle.hz_own.specs.Lined.{Lined}
use Rattle.hz_own.specs.Owned.{counted_from}
use Rattle.hz_own.proofs.Lines.{lined_from}
use Rattle.hz_parts.specs.declared.mark.Mark.{Mark}
use Rattle.hz_parts.specs.declared.parts.Parts.{Parts as Stacks}
use Rattle.hz_parts.specs.Values.{nothing, push_parts}
use Rattle.hz_parse.specs.declared.reader.Reader.{Reader}
use Rattle.hz_parse.specs.Leads.{Leads, Reaches}
use Rattle.hz_parse.specs.Turns.{Going, functions_of_reader}
use Rattle.hz_parse.specs.Whole.{IsPlain, Whole}
use Rattle.hz_parse.proofs.LeadsLaws.{symbols_lead}

lined_left : (p : Place) → p.at ≤ length p.source → Lined p.source p.at (left p)
lined_left p h = by_ended p.ended
  where
    by_ended : (ended : Bool) → Lined p.source p.at (left (record p { ended = ended }))
    by_ended true = tt
    by_ended false = lined_from p.opened p.source p.at h

moved : (functions : List FunctionInfo) (right : List Symbol) (ts last : List Terminal) (whole : Stacks) (own : ℕ)
    (symbols : List Symbol) (marks : List Mark) (parts : Stacks) (opened : Bool) → symbols ≡ right → marks ≡ []
    → parts ≡ nothing → opened ≡ false
    → Leads functions (Known functions) (Reaches last whole) false false right [] ts nothing own
    → Leads functions (Known functions) (Reaches last whole) false opened symbols marks ts parts own
moved functions right ts last whole own symbols marks parts opened a b c d l =
    subst (λ x. Leads functions (Known functions) (Reaches last whole) false opened x marks ts parts own) (sym a)
    (subst (λ x. Leads functions (Known functions) (Reaches last whole) false opened right x ts parts own) (sym b)
    (subst (λ x. Leads functions (Known functions) (Reaches last whole) false opened right [] ts x own) (sym c)
    (subst (λ x. Leads functions (Known functions) (Reaches last whole) false x right [] ts nothing own) (sym d) l)))

own_goes : (r : Reader) (place : Place) (steps : ℕ) (right : List Symbol) → r.symbols ≡ right → r.marks ≡ []
    → r.parts ≡ nothing → r.opened ≡ false → place.source ≡ r.numbers.index.now.source
    → place.at ≤ length place.source → IsPlain right → (w : Whole (functions_of_reader r) right (left place))
    → Going r place steps w.rest (push_parts false right (cut_parts (functions_of_reader r) right w.parts) nothing)
    (steps + counted_from false right w.counts)
own_goes r place steps right symbols marks parts opened source inside plain w = record {
  own = counted_from false right w.counts;
  leads =
      moved (functions_of_reader r) right (left place) w.rest
      (push_parts false right (cut_parts (functions_of_reader r) right w.parts) nothing)
      (counted_from false right w.counts) r.symbols r.marks r.parts r.opened symbols marks parts opened
      (symbols_lead (functions_of_reader r) (Known (functions_of_reader r)) (Reaches w.rest
      (push_parts false right (cut_parts (functions_of_reader r) right w.parts) nothing)) right (left place) w.rest
      w.parts w.counts nothing plain.0 plain.1.0 plain.1.1 w.read w.owned w.known (refl, refl));
  counted = refl;
  ahead = record { told = w.told; place = place.at; lined = lined_left place inside };
  some = w.some;
  inside = inside;
  same = source;
}

-- the same, of the functions that the reader's are
pub whole_goes : (r : Reader) (place : Place) (steps : ℕ) (right : List Symbol) (functions : List FunctionInfo)
    → functions_of_reader r ≡ functions → r.symbols ≡ right → r.marks ≡ [] → r.parts ≡ nothing → r.opened ≡ false
    → place.source ≡ r.numbers.index.now.source → place.at ≤ length place.source → IsPlain right
    → (w : Whole functions right (left place))
    → Going r place steps w.rest (push_parts false right (cut_parts functions right w.parts) nothing)
    (steps + counted_from false right w.counts)
whole_goes r place steps right functions e symbols marks parts opened source inside plain w =
    subst (λ fs. (v : Whole fs right (left place)) → Going r place steps v.rest
    (push_parts false right (cut_parts fs right v.parts) nothing) (steps + counted_from false right v.counts)) e
    (λ v. own_goes r place steps right symbols marks parts opened source inside plain v) w

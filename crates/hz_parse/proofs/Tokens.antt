-- What a token that is taken leaves, and what is seen of it.
use Rattle.std.proofs.Common.{◌≡◌, ◌≤◌, List, ◌∷◌, length, Result, Ok, Err, OnOk, ap, sym, ◌∙◌, subst}
use Rattle.hz_list.specs.declared.out_of_memory.Memory.{Memory}
use Rattle.hz_tree.specs.declared.class.Class.{Class}
use Rattle.hz_tree.specs.grammar.Look.{Terminal}
use Rattle.hz_tree.specs.reading.Reading.{Got, takes}
use Rattle.hz_middle.specs.Place.{Place, Took, left, terminal}
use Rattle.hz_middle.proofs.PlaceLaws.{left_some}
use Rattle.hz_parse.proofs.Behind.{token_inside}
use Rattle.hz_parse.proofs.Split.{got_value}
use Rattle.hz_laws.proofs.Balance.{got_rest}

pub on_ok : {A B : Type 0} (r : Result (Unit {0}) Memory) → OnOk r A → (A → B) → OnOk r B
on_ok (Ok done) h f = f h
on_ok (Err memory) h f = tt

-- the token of the class stands first, and what is left stands behind it
pub record Leaves (old new : Place) (x : Terminal) (rest : List Terminal) : Type 0 where
  pub ahead : left old ≡ x ∷ rest
  pub behind : left new ≡ rest
  pub source : new.source ≡ old.source
  pub inside : new.at ≤ length old.source

pub took : (wanted : Class) (old new : Place) (x : Terminal) (rest : List Terminal) → old.at ≤ length old.source
    → Took wanted old new → takes wanted (left old) ≡ Got x rest → Leaves old new x rest
took wanted old new x rest h t e =
    let both : Got (terminal old t.token) (left new) ≡ Got x rest = sym t.taken ∙ e in
    let behind : left new ≡ rest = got_rest (terminal old t.token) x (left new) rest both in
    let same : terminal old t.token ≡ x = got_value (terminal old t.token) x (left new) rest both in
    record {
      ahead =
          left_some old t.token t.next
          ∙ ap (λ ts. terminal old t.token ∷ ts) (ap left (sym t.moved) ∙ behind)
          ∙ ap (λ y. y ∷ rest) same;
      behind = behind;
      source = ap (λ p. p.source) t.moved;
      inside = subst (λ p. p.at ≤ length old.source) (sym t.moved) (token_inside old t.token h t.next);
    }

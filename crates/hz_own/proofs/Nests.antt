-- The functions in a stretch stand in it.
use Rattle.std.proofs.Common.{◌≡◌, ℕ, List, [], ◌∷◌, ◌++◌, All, refl, ap, sym, ◌∙◌, subst, append_assoc}
use Rattle.std.proofs.lemmas.List.Elements.{All-nil, All-cons, All-append}
use Rattle.hz_tree.specs.declared.nonterminal.Nonterminal.{Nonterminal}
use Rattle.hz_tree.specs.grammar.Look.{Terminal}
use Rattle.hz_tree.specs.grammar.Symbols.{Value}
use Rattle.hz_tree.specs.reading.Reading.{Got, reads}
use Rattle.hz_stands.specs.Nodes.{FunctionNode, nodes_of, value_nodes}
use Rattle.hz_stands.proofs.Several.{Suffix, suffix_then}
use Rattle.hz_own.specs.Owned.{owns}
use Rattle.hz_own.specs.Stretch.{Spans, SeenArrow, Stretch, nothing, token, both, function, Inside, Passing}
use Rattle.hz_own.proofs.OwnReadings.{OwnedBy, reading_owned}

-- what is left of a stretch is a suffix
pub stretch_suffix : {ts rest : List Terminal} {own : ℕ} {fs : List FunctionNode} → Stretch ts rest own fs
    → Suffix ts rest
stretch_suffix (nothing ts) = record { passed = []; split = refl }
stretch_suffix (token wanted t ts h) = record { passed = t ∷ []; split = refl }
stretch_suffix (both ts mid rest own more fs gs a b) = suffix_then ts mid rest (stretch_suffix a) (stretch_suffix b)
stretch_suffix (function ts rest f inner spans arrow a) = stretch_suffix a

sooner : (f : FunctionNode) (ts mid rest : List Terminal) → Suffix mid rest → Inside f ts mid → Inside f ts rest
sooner f ts mid rest u h =
    let same : h.behind ++ mid ≡ (h.behind ++ u.passed) ++ rest =
    ap (λ us. h.behind ++ us) u.split ∙ sym (append_assoc h.behind u.passed rest) in
    record {
      before = h.before;
      own = h.own;
      behind = h.behind ++ u.passed;
      split = h.split ∙ ap (λ us. h.before ++ (h.own ++ us)) same;
      spans = subst (λ us. Spans f (h.own ++ us) us) same h.spans;
      arrow = subst (λ us. SeenArrow f (h.own ++ us)) same h.arrow;
    }

later : (f : FunctionNode) (ts mid rest : List Terminal) → Suffix ts mid → Inside f mid rest → Inside f ts rest
later f ts mid rest u h = record {
  before = u.passed ++ h.before;
  own = h.own;
  behind = h.behind;
  split =
      u.split ∙ ap (λ us. u.passed ++ us) h.split
      ∙ sym (append_assoc u.passed h.before (h.own ++ (h.behind ++ rest)));
  spans = h.spans;
  arrow = h.arrow;
}

here : (f : FunctionNode) (ts rest : List Terminal) → Spans f ts rest → SeenArrow f ts → Suffix ts rest
    → Inside f ts rest
here f ts rest h arrow u = record {
  before = [];
  own = u.passed;
  behind = [];
  split = u.split;
  spans = subst (λ us. Spans f us rest) u.split h;
  arrow = subst (SeenArrow f) u.split arrow;
}

-- Each function in a stretch stands in it.
pub stretch_inside : {ts rest : List Terminal} {own : ℕ} {fs : List FunctionNode} → Stretch ts rest own fs
    → All (λ f. Inside f ts rest) fs
stretch_inside (nothing ts) = All-nil (λ f. Inside f ts ts)
stretch_inside (token wanted t ts h) = All-nil (λ f. Inside f (t ∷ ts) ts)
stretch_inside (both ts mid rest own more fs gs a b) =
    All-append (λ f. Inside f ts rest) fs gs
    (λ k d i. sooner _ ts mid rest (stretch_suffix b) (stretch_inside a k d i))
    (λ k d i. later _ ts mid rest (stretch_suffix a) (stretch_inside b k d i))
stretch_inside (function ts rest f inner spans arrow a) =
    All-cons (λ g. Inside g ts rest) f (nodes_of f.body) (here f ts rest spans arrow (stretch_suffix a))
    (stretch_inside a)

pub passing : (m : Nonterminal) (ts rest : List Terminal) (v : Value m) → reads m ts ≡ Got v rest
    → Passing m ts rest v
passing m ts rest v is =
    let o : OwnedBy (owns m ts) m ts v rest = reading_owned m ts rest v is in
    record { own = o.count; counted = o.read; stretch = o.stretch }

pub reading_inside : (m : Nonterminal) (ts rest : List Terminal) (v : Value m) → reads m ts ≡ Got v rest
    → All (λ f. Inside f ts rest) (value_nodes m v)
reading_inside m ts rest v is =
    let o : OwnedBy (owns m ts) m ts v rest = reading_owned m ts rest v is in stretch_inside o.stretch

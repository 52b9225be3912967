-- The functions of short sources, computed.
use Rattle.std.proofs.Common.{◌≡◌, ℕ, List, [], ◌∷◌, map, codes, refl}
use Rattle.hz_tree.specs.declared.nonterminal.Nonterminal.TheVariants as n
use Rattle.hz_tree.proofs.Scanning.{scanning}
use Rattle.hz_tree.specs.grammar.Classes.{class_by, same_class, same_bracket}
use Rattle.hz_tree.specs.grammar.Look.{terminals}
use Rattle.hz_tree.specs.grammar.Signals.{Event}
use Rattle.hz_tree.specs.reading.Reading.{Reading, Got, tells, reads_to, reads_by}
use Rattle.hz_tree.specs.trees.Drafts.{built, begun}

-- where the functions that events build start and end, and how many parameters count
abbrev extents : (source : List ℕ) → Reading (List Event) → List (ℕ × (ℕ × ℕ))
extents source (Got es rest) = map (λ f. (f.start, (f.end, f.length))) (built (begun source) es).functions
extents source _ = []

abbrev functions_in : List ℕ → List (ℕ × (ℕ × ℕ))
functions_in source = extents source (tells n.Script (terminals source))

nested : functions_in (codes "function f(a,b,...c){return x=>x}({get a(){},set b(c){},*m(){}})")
    ≡ (0, (64, 0)) ∷ (0, (33, 2)) ∷ (28, (32, 1)) ∷ (40, (44, 0)) ∷ (50, (55, 1)) ∷ (58, (62, 0)) ∷ []
unfolding scanning class_by same_class same_bracket terminals reads_to reads_by
nested = refl

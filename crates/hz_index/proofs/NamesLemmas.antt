-- Names as they are stored, and as they are shown.
use Rattle.std.proofs.Common.{◌≡◌, ℕ, zero, suc, ◌-◌, ◌<◌, ◌≤◌, List, [], ◌∷◌, ◌++◌, length, map, take, drop}
use Rattle.std.proofs.Common.{refl, ap, sym, ◌∙◌}
use Rattle.std.proofs.Common.{arith, get_or, Option, Some, None}
use Rattle.std.proofs.lemmas.List.{take-map, drop-map}
use Rattle.std.specs.List.{slice_get, slice_range}
use denote.Ref.{Bor}
use Rattle.hz_tree.specs.declared.scope.BindingKind.{BindingKind}
use Rattle.hz_tree.specs.tokens.Text.{Text}
use Rattle.hz_index.specs.Names.{texts, named}

abbrev Names : Type 0
Names = List (Bor Text)

abbrev Bindings : Type 0
Bindings = List (Option BindingKind)

pub length-named : (ns : Names) (bs : Bindings) → length ns ≡ length bs → length (named ns bs) ≡ length ns
length-named [] bs h = refl
length-named (n ∷ ns) [] h = cc
length-named (n ∷ ns) (b ∷ bs) h = ap suc (length-named ns bs (cc))

pub named-append : (ns : Names) (bs : Bindings) (n : Bor Text) (b : Option BindingKind) → length ns ≡ length bs
    → named (ns ++ n ∷ []) (bs ++ b ∷ []) ≡ named ns bs ++ record { name = n.now; binding = b } ∷ []
named-append [] [] n b h = refl
named-append [] (c ∷ bs) n b h = cc
named-append (m ∷ ns) [] n b h = cc
named-append (m ∷ ns) (c ∷ bs) n b h =
    ap (λ xs. record { name = m.now; binding = c } ∷ xs) (named-append ns bs n b (cc))

named-nil : (ns : Names) → named ns [] ≡ []
named-nil [] = refl
named-nil (n ∷ ns) = refl

drop-named : (k : ℕ) (ns : Names) (bs : Bindings) → drop k (named ns bs) ≡ named (drop k ns) (drop k bs)
drop-named zero ns bs = refl
drop-named (suc k) [] bs = refl
drop-named (suc k) (n ∷ ns) [] = sym (named-nil (drop k ns))
drop-named (suc k) (n ∷ ns) (b ∷ bs) = drop-named k ns bs

take-named : (k : ℕ) (ns : Names) (bs : Bindings) → take k (named ns bs) ≡ named (take k ns) (take k bs)
take-named zero ns bs = refl
take-named (suc k) [] bs = refl
take-named (suc k) (n ∷ ns) [] = refl
take-named (suc k) (n ∷ ns) (b ∷ bs) = ap (λ xs. record { name = n.now; binding = b } ∷ xs) (take-named k ns bs)

pub range-named : (first past : ℕ) (ns : Names) (bs : Bindings)
    → named (take (past - first) (drop first ns)) (take (past - first) (drop first bs))
    ≡ slice_range (named ns bs) first past
range-named first past ns bs =
    sym (ap (take (past - first)) (drop-named first ns bs)
    ∙ take-named (past - first) (drop first ns) (drop first bs))

names-named : (ns : Names) (bs : Bindings) → length ns ≡ length bs → map (λ n. n.name) (named ns bs) ≡ texts ns
names-named [] bs h = refl
names-named (n ∷ ns) [] h = cc
names-named (n ∷ ns) (b ∷ bs) h = ap (λ xs. n.now ∷ xs) (names-named ns bs (cc))

pub range-texts : (first past : ℕ) (ns : Names) (bs : Bindings) → length ns ≡ length bs
    → texts (take (past - first) (drop first ns)) ≡ map (λ n. n.name) (slice_range (named ns bs) first past)
range-texts first past ns bs h =
    sym (take-map (λ n. n.now) (past - first) (drop first ns))
    ∙ ap (take (past - first)) (sym (drop-map (λ n. n.now) first ns) ∙ ap (drop first) (sym (names-named ns bs h))
    ∙ drop-map (λ n. n.name) first (named ns bs))
    ∙ take-map (λ n. n.name) (past - first) (drop first (named ns bs))

pub get-named : (ns : Names) (bs : Bindings) (i : ℕ) (n : Bor Text) (b : Option BindingKind)
    → i < length ns → length ns ≡ length bs
    → Some (record { name = (get_or ns i n).now; binding = get_or bs i b }) ≡ slice_get (named ns bs) i
get-named [] bs i n b l e = absurd (omega arith)
get-named (m ∷ ns) [] i n b l e = cc
get-named (m ∷ ns) (c ∷ bs) zero n b l e = refl
get-named (m ∷ ns) (c ∷ bs) (suc i) n b l e = get-named ns bs i n b (omega arith) (omega arith)

pub get-unnamed : (ns : Names) (bs : Bindings) (i : ℕ) → length ns ≤ i → slice_get (named ns bs) i ≡ None
get-unnamed [] bs i h = refl
get-unnamed (m ∷ ns) [] i h = refl
get-unnamed (m ∷ ns) (c ∷ bs) zero h = absurd (omega arith)
get-unnamed (m ∷ ns) (c ∷ bs) (suc i) h = get-unnamed ns bs i (omega arith)

pub ruleset names_laws = (length-named, named-append, get-named, get-unnamed)

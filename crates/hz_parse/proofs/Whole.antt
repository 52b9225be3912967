-- The right-hand side of a function's row, in parts.
use Rattle.std.proofs.Common.{◌≡◌, ℕ, ◌+◌, Bool, true, false, List, [], ◌∷◌, ◌++◌}
use Rattle.std.proofs.Common.{refl, ap, arith}
use Rattle.hz_tree.specs.declared.index.FunctionInfo.{FunctionInfo}
use Rattle.hz_tree.specs.declared.signal.Signal.TheVariants as tell
use Rattle.hz_tree.specs.declared.symbol.Symbol.{Symbol}
use Rattle.hz_tree.specs.declared.symbol.Symbol.TheVariants as s
use Rattle.hz_tree.specs.grammar.Symbols.{Parts, Value}
use Rattle.hz_cuts.specs.Cuts.{cut_part, cut_parts}
use Rattle.hz_cuts.specs.Rows.{all_plain, is_close, is_enter, some_symbol}
use Rattle.hz_cuts.specs.Skips.{front_parts}
use Rattle.hz_parts.specs.declared.parts.Parts.{Parts as Stacks}
use Rattle.hz_parts.specs.Values.{push_parts}
use Rattle.hz_own.specs.Owned.{Owned, counted_from, open_behind, taken, unless_open}
use Rattle.hz_parse.specs.Leads.{opened_last}
use Rattle.hz_parse.proofs.Split.{fronts}

-- ---- parts on stacks

push_back : (back : List Symbol) (vs : Parts Value back) (p : Stacks) → all_plain back ≡ true
    → push_parts false back vs p ≡ p
push_back [] vs p h = refl
push_back (s.Take wanted ∷ xs) vs p h = cc
push_back (s.Read m ∷ xs) vs p h = cc
push_back (s.Tell tell.Join ∷ xs) vs p h = push_back xs vs.1 p h
push_back (s.Tell (tell.Node shape) ∷ xs) vs p h = push_back xs vs.1 p h
push_back (s.Tell (tell.End node) ∷ xs) vs p h = push_back xs vs.1 p h
push_back (s.Tell _ ∷ xs) vs p h = cc

push_inside : (middle back : List Symbol) (vs : Parts Value (middle ++ s.Tell tell.Close ∷ back)) (p : Stacks)
    → some_symbol is_close middle ≡ false → all_plain back ≡ true
    → push_parts true (middle ++ s.Tell tell.Close ∷ back) vs p ≡ p
push_inside [] back vs p h i = push_back back vs.1 p i
push_inside (s.Take wanted ∷ xs) back vs p h i = push_inside xs back vs.1 p h i
push_inside (s.Read m ∷ xs) back vs p h i = push_inside xs back vs.1 p h i
push_inside (s.Tell tell.Close ∷ xs) back vs p h i = cc
push_inside (s.Tell _ ∷ xs) back vs p h i = push_inside xs back vs.1 p h i

-- Of the parts of the row those before the function stand on the stacks.
pub push_whole : (front middle back : List Symbol)
    (vs : Parts Value (front ++ s.Tell tell.Enter ∷ (middle ++ s.Tell tell.Close ∷ back))) (p : Stacks)
    → some_symbol is_enter front ≡ false → some_symbol is_close middle ≡ false → all_plain back ≡ true
    → push_parts false (front ++ s.Tell tell.Enter ∷ (middle ++ s.Tell tell.Close ∷ back)) vs p
    ≡ push_parts false front (fronts Value front (s.Tell tell.Enter ∷ (middle ++ s.Tell tell.Close ∷ back)) vs) p
push_whole [] middle back vs p e h i = push_inside middle back vs.1 p h i
push_whole (s.Take wanted ∷ xs) middle back vs p e h i = push_whole xs middle back vs.1 _ e h i
push_whole (s.Read m ∷ xs) middle back vs p e h i = push_whole xs middle back vs.1 _ e h i
push_whole (s.Tell tell.Enter ∷ xs) middle back vs p e h i = cc
push_whole (s.Tell _ ∷ xs) middle back vs p e h i = push_whole xs middle back vs.1 _ e h i

-- ---- own tokens

own_back : (back : List Symbol) (cs : Parts Owned back) → all_plain back ≡ true → counted_from false back cs ≡ 0
own_back [] cs h = refl
own_back (s.Take wanted ∷ xs) cs h = cc
own_back (s.Read m ∷ xs) cs h = cc
own_back (s.Tell tell.Join ∷ xs) cs h = own_back xs cs.1 h
own_back (s.Tell (tell.Node shape) ∷ xs) cs h = own_back xs cs.1 h
own_back (s.Tell (tell.End node) ∷ xs) cs h = own_back xs cs.1 h
own_back (s.Tell _ ∷ xs) cs h = cc

no_more : (n : ℕ) → n ≡ 0 → 0 + n ≡ 0
no_more n h = omega (arith, h)

own_inside : (middle back : List Symbol) (cs : Parts Owned (middle ++ s.Tell tell.Close ∷ back))
    → some_symbol is_close middle ≡ false → all_plain back ≡ true
    → counted_from true (middle ++ s.Tell tell.Close ∷ back) cs ≡ 0
own_inside [] back cs h i = own_back back cs.1 i
own_inside (s.Take wanted ∷ xs) back cs h i = no_more _ (own_inside xs back cs.1 h i)
own_inside (s.Read m ∷ xs) back cs h i = no_more _ (own_inside xs back cs.1 h i)
own_inside (s.Tell tell.Close ∷ xs) back cs h i = cc
own_inside (s.Tell _ ∷ xs) back cs h i = own_inside xs back cs.1 h i

pub own_whole : (opened : Bool) (front middle back : List Symbol)
    (cs : Parts Owned (front ++ s.Tell tell.Enter ∷ (middle ++ s.Tell tell.Close ∷ back)))
    → opened_last opened front ≡ true → some_symbol is_close middle ≡ false → all_plain back ≡ true
    → counted_from opened (front ++ s.Tell tell.Enter ∷ (middle ++ s.Tell tell.Close ∷ back)) cs
    ≡ counted_from opened front (fronts Owned front (s.Tell tell.Enter ∷ (middle ++ s.Tell tell.Close ∷ back)) cs)
own_whole true [] middle back cs o h i = own_inside middle back cs.1 h i
own_whole false [] middle back cs o h i = cc
own_whole opened (s.Take wanted ∷ xs) middle back cs o h i =
    ap (λ k. unless_open opened (taken wanted) + k) (own_whole opened xs middle back cs.1 o h i)
own_whole opened (s.Read m ∷ xs) middle back cs o h i =
    ap (λ k. unless_open opened cs.0 + k) (own_whole opened xs middle back cs.1 o h i)
own_whole opened (s.Tell signal ∷ xs) middle back cs o h i =
    own_whole (open_behind signal opened) xs middle back cs.1 o h i

-- ---- what is cut

pub cut_fronts : (functions : List FunctionInfo) (front others : List Symbol) (p : Parts Value (front ++ others))
    → fronts Value front others (cut_parts functions (front ++ others) p)
    ≡ cut_parts functions front (fronts Value front others p)
cut_fronts functions [] others p = refl
cut_fronts functions (x ∷ xs) others p =
    ap (λ more. (cut_part functions x p.0, more)) (cut_fronts functions xs others p.1)

pub same_fronts : (front others : List Symbol) (p : Parts Value (front ++ others))
    → front_parts front others p ≡ fronts Value front others p
same_fronts [] others p = refl
same_fronts (x ∷ xs) others p = ap (λ more. (p.0, more)) (same_fronts xs others p.1)

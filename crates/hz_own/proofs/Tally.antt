-- In a stretch of a source, the tokens outside of functions and those in the outermost functions are all its tokens.
use Rattle.std.proofs.Common.{◌≡◌, ℕ, zero, suc, ◌+◌, ◌<◌, ◌≤◌, true, List, [], ◌∷◌, ◌++◌, length, refl, ap, sym}
use Rattle.std.proofs.Common.{◌∙◌, subst, append_assoc, arith}
use Rattle.std.specs.List.{sum_by}
use Rattle.std.proofs.lemmas.List.{length-append}
use Rattle.std.proofs.lemmas.List.Sums.{sum_by-cons}
use Rattle.hz_tree.specs.declared.class.Class.{Class}
use Rattle.hz_tree.specs.grammar.Classes.{fits}
use Rattle.hz_tree.specs.grammar.Look.{Terminal, terminals}
use Rattle.hz_tree.specs.tokens.Text.{Text}
use Rattle.hz_tree.specs.trees.FunctionTrees.{tokens_within}
use Rattle.hz_stands.specs.Nodes.{FunctionNode, nodes_of}
use Rattle.hz_stands.proofs.Several.{Suffix}
use Rattle.hz_own.specs.Owned.{taken}
use Rattle.hz_own.specs.Stretch.{Spans, Stretch, nothing, token, both, function}
use Rattle.hz_own.proofs.Nests.{stretch_suffix}
use Rattle.hz_own.specs.Lined.{Lined}
use Rattle.hz_own.proofs.Lines.{terminals_lined}
use Rattle.hz_own.proofs.Taken.{taken_one}
use Rattle.hz_own.proofs.Windows.{lined_behind, window}

-- ---- the outermost functions

-- behind the first ones, each with those in it passed over
abbrev pub outer_behind : (inner : ℕ) → List FunctionNode → List FunctionNode
outer_behind inner [] = []
outer_behind (suc inner) (f ∷ fs) = outer_behind inner fs
outer_behind zero (f ∷ fs) = f ∷ outer_behind (length (nodes_of f.body)) fs

abbrev pub outermost : List FunctionNode → List FunctionNode
outermost fs = outer_behind 0 fs

pub outer_past : (xs ys : List FunctionNode) → outer_behind (length xs) (xs ++ ys) ≡ outermost ys
outer_past [] ys = refl
outer_past (x ∷ xs) ys = outer_past xs ys

abbrev pub tokens_of : Text → FunctionNode → ℕ
tokens_of source f = tokens_within source f.at f.end

abbrev pub outer_tokens : Text → List FunctionNode → ℕ
outer_tokens source fs = sum_by (tokens_of source) (outermost fs)

-- ---- stretches

span_by : (source : Text) (before passed rest : List Terminal) (f : FunctionNode)
    → terminals source ≡ before ++ (passed ++ rest) → 1 ≤ length rest → Spans f (passed ++ rest) rest
    → tokens_of source f ≡ length passed
span_by source before [] rest f same some h = absurd (let more : length rest < length rest = h.some in omega arith)
span_by source before (t ∷ own) [] f same some h = absurd (omega arith)
span_by source before (t ∷ own) (r ∷ more) f same some h =
    ap (λ p. tokens_within source p f.end) h.start ∙ ap (tokens_within source t.token.at) h.end
    ∙ window source before t own r more same

-- the tokens in a function are those that are passed with it
pub span : (source : Text) (before ts rest : List Terminal) (f : FunctionNode) → terminals source ≡ before ++ ts
    → 1 ≤ length rest → Suffix ts rest → Spans f ts rest → tokens_of source f + length rest ≡ length ts
span source before ts rest f same some u h =
    let own : tokens_of source f ≡ length u.passed =
    span_by source before u.passed rest f (same ∙ ap (λ us. before ++ us) u.split) some
    (subst (λ us. Spans f us rest) u.split h) in
    let all : length ts ≡ length u.passed + length rest = ap length u.split ∙ length-append u.passed rest in
    omega (arith, own, all)

token_counts : (source : Text) (before : List Terminal) (wanted : Class) (t : Terminal) (ts : List Terminal)
    → terminals source ≡ before ++ t ∷ ts → 1 ≤ length ts → fits wanted t.class ≡ true → taken wanted ≡ 1
token_counts source before wanted t [] same some h = absurd (omega arith)
token_counts source before wanted t (r ∷ more) same some h =
    let from : Lined source t.behind (t ∷ r ∷ more) =
    lined_behind source 0 before t (r ∷ more) (subst (Lined source 0) same (terminals_lined source)) in
    taken_one wanted t.class t.token.kind t.token.text h from.0.class from.0.goes_on.0

shorter : (ts rest : List Terminal) → Suffix ts rest → length rest ≤ length ts
shorter ts rest u = let all = ap length u.split ∙ length-append u.passed rest in omega (arith, all)

-- All tokens of a stretch are those outside of functions and those in the outermost ones.
pub stretch_tally : (source : Text) (before : List Terminal) {ts rest : List Terminal} {own : ℕ}
    {fs : List FunctionNode} → Stretch ts rest own fs → terminals source ≡ before ++ ts → 1 ≤ length rest
    → (others : List FunctionNode)
    → own + outer_tokens source (fs ++ others) + length rest ≡ length ts + outer_tokens source others
stretch_tally source before (nothing ts) same some others = omega arith
stretch_tally source before (token wanted t ts h) same some others =
    let one : taken wanted ≡ 1 = token_counts source before wanted t ts same some h in omega (arith, one)
stretch_tally source before (both ts mid rest own more fs gs a b) same some others =
    let u : Suffix ts mid = stretch_suffix a in
    let v : length rest ≤ length mid = shorter mid rest (stretch_suffix b) in
    let first : own + outer_tokens source (fs ++ (gs ++ others)) + length mid
    ≡ length ts + outer_tokens source (gs ++ others) =
    stretch_tally source before a same (omega (arith, some, v)) (gs ++ others) in
    let second : more + outer_tokens source (gs ++ others) + length rest ≡ length mid + outer_tokens source others =
    stretch_tally source (before ++ u.passed) b
    (same ∙ ap (λ us. before ++ us) u.split ∙ sym (append_assoc before u.passed mid)) some others in
    let joined : outer_tokens source ((fs ++ gs) ++ others) ≡ outer_tokens source (fs ++ (gs ++ others)) =
    ap (outer_tokens source) (append_assoc fs gs others) in
    omega (arith, first, second, joined)
stretch_tally source before (function ts rest f inner spans arrow a) same some others =
    let own : tokens_of source f + length rest ≡ length ts =
    span source before ts rest f same some (stretch_suffix a) spans in
    let all : outer_tokens source (f ∷ (nodes_of f.body ++ others))
    ≡ tokens_of source f + outer_tokens source others =
    ap (λ gs. sum_by (tokens_of source) (f ∷ gs)) (outer_past (nodes_of f.body) others)
    ∙ sum_by-cons (tokens_of source) f (outermost others) in
    omega (arith, own, all)

-- A reader that begins where a function starts sees where arrows begin, up to where the function ends.
use Rattle.std.proofs.Common.{◌≡◌, ℕ, zero, suc, ◌+◌, ◌-◌, ◌≤◌, Bool, true, false, ◌&&◌, ◌||◌, if◌then◌else◌}
use Rattle.std.proofs.Common.{◌⊎◌, inl, inr, List, [], ◌∷◌, ◌++◌, length, All, refl, ap, sym, ◌∙◌, subst, append_assoc}
use Rattle.std.proofs.Common.{arith}
use Rattle.std.proofs.lemmas.List.Elements.{All-weaker}
use Rattle.hz_tree.specs.declared.index.FunctionInfo.{FunctionInfo}
use Rattle.hz_tree.specs.declared.nonterminal.Nonterminal.TheVariants as n
use Rattle.hz_tree.specs.declared.tree.FunctionKind.TheVariants as kind
use Rattle.hz_tree.specs.declared.tree.Tree.{Tree}
use Rattle.hz_tree.specs.grammar.Classes.{is_name, is_arrow, is_paren}
use Rattle.hz_tree.specs.grammar.Look.{Terminal, first_arrow, look, begins_arrow, terminals_from, terminals}
use Rattle.hz_tree.specs.reading.Reading.{Got, read_all, reads, end_behind}
use Rattle.hz_tree.specs.tokens.Text.{Text}
use Rattle.hz_tree.specs.tokens.Tokens.{token_behind, is_last, braces, in_hole, tokens_to, tokens_from}
use Rattle.hz_tree.specs.trees.Functions.{functions_of}
use Rattle.hz_middle.specs.Place.{beginning, left}
use Rattle.hz_scan.specs.Order.{end_of}
use Rattle.hz_scan.specs.State.{Lies}
use Rattle.hz_scan.proofs.OrderLemmas.{behind_lies}
use Rattle.hz_stands.proofs.PlainReadings.{functions_stand_plainly}
use Rattle.hz_stands.specs.Nodes.{FunctionNode, nodes_of}
use Rattle.hz_stands.specs.Plain.{StandingPlain}
use Rattle.hz_stands.specs.Stands.{written, Standing}
use Rattle.hz_own.specs.Arrows.{ToldArrow}
use Rattle.hz_own.specs.Lined.{Lined}
use Rattle.hz_own.proofs.Arrows.{arrows_told}
use Rattle.hz_own.proofs.Lines.{terminals_lined}
use Rattle.hz_own.proofs.Windows.{lined_behind}
use Rattle.hz_alone.specs.Alone.{ToldBefore, ArrowsAlone}
use Rattle.hz_alone.specs.Middle.{EndsHole, Parted, SeenAs, begun}
use Rattle.hz_alone.proofs.Begun.{first_of}
use Rattle.hz_alone.proofs.Functions.{Beginning, begins_there, Fit, shapes_fit}
use Rattle.hz_alone.proofs.Places.{ends_before}
use Rattle.hz_alone.proofs.Readings.{Left, symbols_left}
use Rattle.hz_alone.proofs.Terminals.{goes_on_arrow, seen_left}

-- ---- places

-- each starts at or behind the one before it, the first one at or behind the place
abbrev Ordered : ℕ → List Terminal → Type 0
Ordered place [] = Unit {0}
Ordered place (x ∷ ts) = (place ≤ x.token.at) × Ordered x.token.at ts

sooner : (a b : ℕ) (ts : List Terminal) → a ≤ b → Ordered b ts → Ordered a ts
sooner a b [] h i = tt
sooner a b (x ∷ ts) h i = (let first : b ≤ x.token.at = i.0 in omega (arith, first), i.1)

ordered_to : (count : ℕ) (opened : List Bool) (source : Text) (place : ℕ) → place ≤ length source
    → Ordered place (terminals_from place (tokens_to count opened source place))
ordered_to zero opened source place h = tt
ordered_to (suc count) opened source place h =
    let t = token_behind (in_hole opened) source place in
    let lies : Lies source place t = behind_lies (in_hole opened) source place h in (
      lies.after,
      elim (is_last t.kind) as (λ b. Ordered t.at
          (terminals_from (end_of t) (if b then [] else tokens_to count (braces t opened) source (end_of t)))) [
            | true ↦ tt
            | false ↦ sooner t.at (end_of t) _ (omega arith)
                (ordered_to count (braces t opened) source (end_of t) lies.inside)
          ],
    )

left_ordered : (source : Text) (place : ℕ) → place ≤ length source → Ordered place (left (beginning source place))
unfolding tokens_from
left_ordered source place h = ordered_to (suc (length source - place)) [] source place h

-- what is left of these
ordered_behind : (place : ℕ) (xs : List Terminal) (y : Terminal) (ys : List Terminal) → Ordered place (xs ++ y ∷ ys)
    → (place ≤ y.token.at) × Ordered y.token.at ys
ordered_behind place [] y ys h = h
ordered_behind place (x ∷ xs) y ys h =
    let first : place ≤ x.token.at = h.0 in
    let more = ordered_behind x.token.at xs y ys h.1 in
    let there : x.token.at ≤ y.token.at = more.0 in (omega (arith, first, there), more.1)

lined_later : (source : Text) (place : ℕ) (xs : List Terminal) (y : Terminal) (ys : List Terminal)
    → Lined source place (xs ++ y ∷ ys) → place ≤ y.token.at
lined_later source place [] y ys h = h.0.lies.after
lined_later source place (x ∷ xs) y ys h =
    let first : place ≤ x.token.at = h.0.lies.after in
    let more : end_of x.token ≤ y.token.at = lined_later source (end_of x.token) xs y ys h.1 in
    omega (arith, first, more)

-- what stands before a terminal ends at or before it
end_later : (source : Text) (before mid more : List Terminal) (e : Terminal)
    → Lined source 0 (before ++ (mid ++ e ∷ more)) → end_behind (mid ++ e ∷ more) ≤ e.token.at
end_later source before [] more e h = (lined_behind source 0 before e more h).0.lies.after
end_later source before (y ∷ mid) more e h =
    lined_later source y.behind (y ∷ mid) e more (lined_behind source 0 before y (mid ++ e ∷ more) h)

-- ---- before the end of a hole, or not

head_is : (x y : Terminal) (ts us : List Terminal) → x ∷ ts ≡ y ∷ us → x ≡ y
head_is x y ts us h = cc

tail_is : (x y : Terminal) (ts us : List Terminal) → x ∷ ts ≡ y ∷ us → ts ≡ us
tail_is x y ts us h = cc

record Early (before after front others : List Terminal) (t g : Terminal) : Type 0 where
  mid : List Terminal
  front_is : front ≡ before ++ t ∷ mid
  after_is : after ≡ mid ++ g ∷ others

record Late (after others : List Terminal) (t g : Terminal) : Type 0 where
  passed : List Terminal
  split : g ∷ others ≡ passed ++ t ∷ after

abbrev Cut : (before after front others : List Terminal) → (t g : Terminal) → Type 0
Cut before after front others t g = Early before after front others t g ⊎ Late after others t g

cut_then : (x y : Terminal) (before after front others : List Terminal) (t g : Terminal) → x ≡ y
    → Cut before after front others t g → Cut (x ∷ before) after (y ∷ front) others t g
cut_then x y before after front others t g same (inl e) =
    inl (record {
      mid = e.mid;
      front_is = ap (λ z. z ∷ front) (sym same) ∙ ap (λ us. x ∷ us) e.front_is;
      after_is = e.after_is;
    })
cut_then x y before after front others t g same (inr l) = inr l

cut : (before after front others : List Terminal) (t g : Terminal) → before ++ t ∷ after ≡ front ++ g ∷ others
    → Cut before after front others t g
cut [] after [] others t g h = inr (record { passed = []; split = sym h })
cut [] after (y ∷ front) others t g h =
    inl (record {
      mid = front;
      front_is = ap (λ z. z ∷ front) (sym (head_is t y after (front ++ g ∷ others) h));
      after_is = tail_is t y after (front ++ g ∷ others) h;
    })
cut (x ∷ before) after [] others t g h = inr (record { passed = x ∷ before; split = sym h })
cut (x ∷ before) after (y ∷ front) others t g h =
    cut_then x y before after front others t g (head_is x y (before ++ t ∷ after) (front ++ g ∷ others) h)
    (cut before after front others t g (tail_is x y (before ++ t ∷ after) (front ++ g ∷ others) h))

-- ---- what is seen of two tokens

first_seen : (x : Terminal) (ts : List Terminal)
    → begins_arrow (look (first_of x ∷ ts)) ≡ begins_arrow (look (x ∷ ts))
first_seen x [] = refl
first_seen x (y ∷ ts) = refl

abbrev arrow_by : (t : Terminal) → (arrow_behind arrow : Bool) → Bool
arrow_by t arrow_behind arrow =
    (is_name t.class && arrow_behind) || (is_paren t.class && first_arrow t.class t.arrow arrow)

end_seen : (e g : Terminal) (more others mid : List Terminal) (t : Terminal) → EndsHole e g
    → begins_arrow (look (t ∷ (mid ++ g ∷ others))) ≡ begins_arrow (look (t ∷ (mid ++ e ∷ more)))
end_seen e g more others [] t h =
    ap (λ b. arrow_by t b g.arrow) (ap is_arrow h.brace ∙ sym (goes_on_arrow e.class h.hole))
    ∙ ap (arrow_by t (is_arrow e.class)) (sym h.arrow)
end_seen e g more others (y ∷ mid) t h = refl

-- ---- arrows

-- the terminals of the source from a token on, but for what stands before that
told_begun : (source : Text) (passed behind : List Terminal) (x : Terminal) (info : FunctionInfo)
    → ToldArrow (terminals source) info → terminals source ≡ passed ++ x ∷ behind → info.kind ≡ kind.Arrow
    → (before after : List Terminal) (t : Terminal) → begun (x ∷ behind) ≡ before ++ t ∷ after
    → t.token.at ≡ info.start → begins_arrow (look (t ∷ after)) ≡ true
told_begun source passed behind x info told split arrow [] after t h at =
    let same : x.token.at ≡ info.start =
    ap (λ y. y.token.at) (head_is (first_of x) t behind after h) ∙ at in
    ap (λ ts. begins_arrow (look ts)) (sym h) ∙ first_seen x behind ∙ told arrow passed behind x split same
told_begun source passed behind x info told split arrow (y ∷ before) after t h at =
    let there : terminals source ≡ (passed ++ x ∷ before) ++ t ∷ after =
    split ∙ ap (λ us. passed ++ x ∷ us) (tail_is (first_of x) y behind (before ++ t ∷ after) h)
    ∙ sym (append_assoc passed (x ∷ before) (t ∷ after)) in
    told arrow (passed ++ x ∷ before) after t there at

told_seen : (source : Text) (passed behind seen : List Terminal) (x : Terminal) (place end : ℕ) (info : FunctionInfo)
    → ToldArrow (terminals source) info → terminals source ≡ passed ++ x ∷ behind → Ordered place seen
    → ((p : Parted [] (begun (x ∷ behind)) seen) → end ≤ p.brace.token.at)
    → SeenAs [] (begun (x ∷ behind)) seen → ToldBefore seen end info
told_seen source passed behind seen x place end info told split ordered ends (inl same) arrow before after t h at i =
    told_begun source passed behind x info told split arrow before after t (same ∙ h) at
told_seen source passed behind seen x place end info told split ordered ends (inr p) arrow before after t h at i =
    by_cut (cut before after p.before p.others t p.brace (sym h ∙ p.seen_is))
  where
    by_cut : Cut before after p.before p.others t p.brace → begins_arrow (look (t ∷ after)) ≡ true
    by_cut (inl e) =
        ap (λ us. begins_arrow (look (t ∷ us))) e.after_is
        ∙ end_seen p.ending p.brace p.more p.others e.mid t p.ends
        ∙ told_begun source passed behind x info told split arrow before (e.mid ++ p.ending ∷ p.more) t
        (p.source_is ∙ ap (λ us. us ++ p.ending ∷ p.more) e.front_is
        ∙ append_assoc before (t ∷ e.mid) (p.ending ∷ p.more)) at
    by_cut (inr l) =
        let from = ordered_behind place p.before p.brace p.others (subst (Ordered place) p.seen_is ordered) in
        let there : Ordered p.brace.token.at (l.passed ++ t ∷ after) =
        subst (Ordered p.brace.token.at) l.split (omega arith, from.1) in
        let later : p.brace.token.at ≤ t.token.at = (ordered_behind p.brace.token.at l.passed t after there).0 in
        let sooner_end : end ≤ p.brace.token.at = ends p in
        absurd (omega (arith, later, sooner_end, i))

-- ---- a function

standing_ends : (source : Text) (f : FunctionNode) (s : Standing f (terminals source)) (b : Beginning source f s)
    (seen : List Terminal) (p : Parted [] (begun (b.first ∷ b.others)) seen) → f.end ≤ p.brace.token.at
standing_ends source f s b seen p =
    let symbols = (written s.shape).symbols in
    let fit : Fit s.shape = shapes_fit s.shape in
    let e = ends_before source s.passed b.others s.left seen b.first symbols s.parts b.split fit.opening fit.walking
    (sym (ap (read_all reads symbols) b.from) ∙ s.read) p in
    let u : Left s.from s.left = symbols_left symbols s.from s.parts s.left s.read in
    let there : terminals source ≡ (s.passed ++ u.passed) ++ (e.0 ++ p.ending ∷ p.more) =
    s.split ∙ ap (λ us. s.passed ++ us) (u.split ∙ ap (λ us. u.passed ++ us) e.1)
    ∙ sym (append_assoc s.passed u.passed (e.0 ++ p.ending ∷ p.more)) in
    let later : end_behind (e.0 ++ p.ending ∷ p.more) ≤ p.ending.token.at =
    end_later source (s.passed ++ u.passed) e.0 p.more p.ending
    (subst (Lined source 0) there (terminals_lined source)) in
    let end : f.end ≡ end_behind (e.0 ++ p.ending ∷ p.more) = s.end ∙ ap end_behind e.1 in
    let at = p.ends.at in
    omega (arith, later, end, at)

arrows_alone : (functions : List FunctionInfo) (source : Text) (f : FunctionNode) (s : Standing f (terminals source))
    → All (ToldArrow (terminals source)) functions → ArrowsAlone functions source f
arrows_alone functions source f s h =
    let b : Beginning source f s = begins_there source f s in
    let from : Lined source b.first.behind (b.first ∷ b.others) =
    lined_behind source 0 s.passed b.first b.others (subst (Lined source 0) b.split (terminals_lined source)) in
    let within : b.first.token.at + length b.first.token.text ≤ length source = from.0.lies.inside in
    let place = b.first.token.at in
    let told : All (ToldBefore (left (beginning source place)) f.end) functions =
    All-weaker (ToldArrow (terminals source)) (ToldBefore (left (beginning source place)) f.end)
    (λ info told. told_seen source s.passed b.others (left (beginning source place)) b.first place f.end info
    told b.split (left_ordered source place (omega (arith, within)))
    (standing_ends source f s b (left (beginning source place)))
    (seen_left source s.passed b.others b.first b.split b.comment)) functions h in
    record { told = subst (λ at. All (ToldBefore (left (beginning source at)) f.end) functions) (sym b.at) told }

pub all_told : (source : Text) (script : Tree) (rest : List Terminal)
    → reads n.Script (terminals source) ≡ Got script rest
    → All (ArrowsAlone (functions_of source script) source) (nodes_of script)
all_told source script rest is k d within =
    let h : StandingPlain _ (terminals source) =
    functions_stand_plainly n.Script (terminals source) rest script refl is k d within in
    arrows_alone (functions_of source script) source _ h.standing (arrows_told source script rest is)

-- A nonterminal that is read leads to where its row does.
use Rattle.std.proofs.Common.{◌≡◌, ℕ, ◌+◌, Bool, true, false, List, [], ◌∷◌, ◌++◌, Some, All}
use Rattle.std.proofs.Common.{refl, ap, sym, ◌∙◌, subst, append_assoc}
use Rattle.std.proofs.lemmas.List.Elements.{All-head}
use Rattle.hz_tree.specs.declared.index.FunctionInfo.{FunctionInfo}
use Rattle.hz_tree.specs.declared.nonterminal.Nonterminal.{Nonterminal}
use Rattle.hz_tree.specs.declared.signal.Signal.TheVariants as tell
use Rattle.hz_tree.specs.declared.symbol.Symbol.{Symbol}
use Rattle.hz_tree.specs.declared.symbol.Symbol.TheVariants as s
use Rattle.hz_tree.specs.grammar.Look.{Terminal}
use Rattle.hz_tree.specs.grammar.Signals.{Told}
use Rattle.hz_tree.specs.grammar.Symbols.{Parts, Value, Row, RowOf, goes}
use Rattle.hz_tree.specs.reading.Reading.{Got, by_row, read_all, reads, told_ahead}
use Rattle.hz_laws.proofs.Balance.{Then, then_got, got_rest}
use Rattle.hz_cuts.specs.Cuts.{cut_parts, cut_value}
use Rattle.hz_cuts.specs.Rows.{all_plain, is_close, some_symbol, KeepsRow, SkipsRow, cut_by}
use Rattle.hz_cuts.specs.Skips.{Skip, inside, whole}
use Rattle.hz_cuts.proofs.Readings.{cut_front}
use Rattle.hz_stands.specs.Nodes.{FunctionNode, value_nodes, part_nodes}
use Rattle.hz_parts.specs.declared.mark.Mark.{Mark}
use Rattle.hz_parts.specs.declared.parts.Parts.{Parts as Stacks}
use Rattle.hz_parts.specs.Makes.{row_of}
use Rattle.hz_parts.specs.Values.{push_parts, push_value}
use Rattle.hz_parse.specs.Leads.{calm, opened_last, Leads, MadeRow, mark_symbol, no_marks}
use Rattle.hz_own.specs.Owned.{Owned, counted_from, counting, owns, unless_open}
use Rattle.hz_parse.proofs.Ends.{all_ending, same_end}
use Rattle.hz_parse.proofs.Even.{even_balances}
use Rattle.hz_parse.proofs.Plain.{Both, all_first, all_second, leads_plain}
use Rattle.hz_parse.proofs.Plain.{leads_inside, leads_back}
use Rattle.hz_parse.proofs.SkipNodes.{SkipNodes, closed_in, middle_parts}
use Rattle.hz_parse.proofs.Split.{Cons, cons, Split, split, fronts, backs, got_value}
use Rattle.hz_parse.proofs.Whole.{push_whole, own_whole, cut_fronts}

-- ---- what a row reads

-- the parts that a row read, with their own tokens
pub record RowRead (m : Nonterminal) (right : List Symbol) (make : Parts Value right → Value m) (ts rest : List Terminal)
    (v : Value m) (tokens : ℕ) : Type 0 where
  pub parts : Parts Value right
  pub counts : Parts Owned right
  pub both : Both right ts rest parts counts
  pub made : make parts ≡ v
  pub owned : counted_from false right counts ≡ tokens

pub row_read : (m : Nonterminal) (right : List Symbol) (make : Parts Value right → Value m) (ts rest : List Terminal)
    (v : Value m) (tokens : ℕ) → by_row reads m (goes right make) ts ≡ Got v rest
    → by_row owns m (counting {Value = Value} {nonterminal = m} (goes right make)) ts ≡ Got tokens rest
    → RowRead m right make ts rest v tokens
row_read m right make ts rest v tokens h i =
    let a : Then (read_all reads right ts) _ v rest = then_got (read_all reads right ts) _ v rest h in
    let b : Then (read_all owns right ts) _ tokens rest = then_got (read_all owns right ts) _ tokens rest i in
    record {
      parts = a.first;
      counts = b.first;
      both = record {
        trees = a.got ∙ ap (Got a.first) (got_rest (make a.first) v a.mid rest a.goes_on);
        counts = b.got ∙ ap (Got b.first) (got_rest (counted_from false right b.first) tokens b.mid rest b.goes_on);
      };
      made = got_value (make a.first) v a.mid rest a.goes_on;
      owned = got_value (counted_from false right b.first) tokens b.mid rest b.goes_on;
    }

more_counted : (own tokens others sum : ℕ) → own ≡ tokens + others → sum ≡ tokens → own ≡ sum + others
more_counted own tokens others sum h i = h ∙ ap (λ k. k + others) (sym i)

-- ---- the row of a function, in parts

pub record Sides (m : Nonterminal) (skip : Skip m) (ts rest : List Terminal) (vs : Parts Value (whole skip))
    (cs : Parts Owned (whole skip)) : Type 0 where
  pub enter : List Terminal
  pub front : Both skip.front ts enter (fronts Value skip.front (inside skip) vs) (fronts Owned skip.front (inside skip) cs)
  pub middle : read_all reads skip.middle enter ≡ Got (middle_parts skip vs) rest
  pub closed : told_ahead rest ≡ closed_in skip vs

nothing_behind : (back : List Symbol) (vs : Parts Value back) (ts rest : List Terminal) → all_plain back ≡ true
    → read_all reads back ts ≡ Got vs rest → ts ≡ rest
nothing_behind [] vs ts rest h r = got_rest tt vs ts rest r
nothing_behind (s.Take wanted ∷ xs) vs ts rest h r = cc
nothing_behind (s.Read m ∷ xs) vs ts rest h r = cc
nothing_behind (s.Tell tell.Join ∷ xs) vs ts rest h r =
    let c : Cons reads (s.Tell tell.Join) xs ts vs rest = cons reads (s.Tell tell.Join) xs ts vs rest r in
    got_rest (told_ahead ts) vs.0 ts c.mid c.first ∙ nothing_behind xs vs.1 c.mid rest h c.others
nothing_behind (s.Tell (tell.Node shape) ∷ xs) vs ts rest h r =
    let c : Cons reads (s.Tell (tell.Node shape)) xs ts vs rest = cons reads (s.Tell (tell.Node shape)) xs ts vs rest r
    in got_rest (told_ahead ts) vs.0 ts c.mid c.first ∙ nothing_behind xs vs.1 c.mid rest h c.others
nothing_behind (s.Tell (tell.End node) ∷ xs) vs ts rest h r =
    let c : Cons reads (s.Tell (tell.End node)) xs ts vs rest = cons reads (s.Tell (tell.End node)) xs ts vs rest r in
    got_rest (told_ahead ts) vs.0 ts c.mid c.first ∙ nothing_behind xs vs.1 c.mid rest h c.others
nothing_behind (s.Tell _ ∷ xs) vs ts rest h r = cc

pub sides : (m : Nonterminal) (skip : Skip m) (ts rest : List Terminal) (vs : Parts Value (whole skip))
    (cs : Parts Owned (whole skip)) → all_plain skip.back ≡ true → Both (whole skip) ts rest vs cs
    → Sides m skip ts rest vs cs
sides m skip ts rest vs cs plain h =
    let close : List Symbol = s.Tell tell.Close ∷ skip.back in
    let a : Split reads skip.front (inside skip) ts vs rest = split reads skip.front (inside skip) ts rest vs h.trees in
    let b : Split owns skip.front (inside skip) ts cs rest = split owns skip.front (inside skip) ts rest cs h.counts in
    let same : a.mid ≡ b.mid = same_end (fronts Value skip.front (inside skip) vs)
    (fronts Owned skip.front (inside skip) cs) (read_all reads skip.front ts) (read_all owns skip.front ts) a.mid b.mid
    (all_ending skip.front ts) a.first b.first in
    let inner : Parts Value (inside skip) = backs Value skip.front (inside skip) vs in
    let c : Cons reads (s.Tell tell.Enter) (skip.middle ++ close) a.mid inner rest =
    cons reads (s.Tell tell.Enter) (skip.middle ++ close) a.mid inner rest a.others in
    let d : Split reads skip.middle close c.mid inner.1 rest =
    split reads skip.middle close c.mid rest inner.1 c.others in
    let last : Parts Value close = backs Value skip.middle close inner.1 in
    let e : Cons reads (s.Tell tell.Close) skip.back d.mid last rest =
    cons reads (s.Tell tell.Close) skip.back d.mid last rest d.others in
    let end : d.mid ≡ rest =
    got_rest (told_ahead d.mid) last.0 d.mid e.mid e.first ∙ nothing_behind skip.back last.1 e.mid rest plain e.others in
    record {
      enter = a.mid;
      front = record {
        trees = a.first;
        counts = b.first ∙ ap (Got (fronts Owned skip.front (inside skip) cs)) (sym same);
      };
      middle =
          ap (read_all reads skip.middle) (got_rest (told_ahead a.mid) inner.0 a.mid c.mid c.first)
          ∙ d.first
          ∙ ap (Got (middle_parts skip vs)) end;
      closed =
          ap told_ahead (sym end) ∙ got_value (told_ahead d.mid) last.0 d.mid e.mid e.first;
    }

-- ---- rows in hand

abbrev own_counted : {m : Nonterminal} → Row m → RowOf Owned m
own_counted r = counting r

-- The row that is marked is this one.
abbrev Marks : List FunctionInfo → Mark → (m : Nonterminal) → Row m → Type 0
Marks functions mark m r =
    (old new : Stacks) → MadeRow m r old new → MadeRow mark.nonterminal (row_of functions mark) old new

module _ (functions : List FunctionInfo) (Known : FunctionNode → Type 0)
    (End : List Terminal → Stacks → Type 0) where
  abbrev Goes : Bool → List Symbol → List Mark → List Terminal → Stacks → ℕ → Type 0
  Goes opened symbols marks ts p own = Leads functions Known End false opened symbols marks ts p own

  -- where the mark comes up
  made_leads : (opened : Bool) (m : Nonterminal) (r : Row m) (mark : Mark) (more : List Symbol) (marks : List Mark)
      (ts : List Terminal) (old new : Stacks) (own : ℕ) → Marks functions mark m r → MadeRow m r old new
      → Goes opened more marks ts new own → Goes opened (mark_symbol ∷ more) (mark ∷ marks) ts old own
  made_leads opened m r mark more marks ts old new own into made l =
      record { new = new; made = into old new made; goes_on = l }

  pub keeps_leads : (opened : Bool) (m : Nonterminal) (right : List Symbol) (make : Parts Value right → Value m)
      (mark : Mark) (more : List Symbol) (marks : List Mark) (ts rest : List Terminal) (v : Value m) (p : Stacks)
      (own tokens others : ℕ) → Marks functions mark m (goes right make) → no_marks right ≡ true
      → calm opened right ≡ true → opened_last opened right ≡ opened → KeepsRow functions m (goes right make)
      → ((q : Parts Value right) → value_nodes m (make q) ≡ part_nodes right q)
      → (r : RowRead m right make ts rest v tokens)
      → counted_from opened right r.counts ≡ unless_open opened tokens → All Known (value_nodes m v)
      → own ≡ unless_open opened tokens + others
      → Goes opened more marks rest (push_value m (cut_value functions m v) p) others
      → Goes opened (right ++ mark_symbol ∷ more) (mark ∷ marks) ts p own
  keeps_leads opened m right make mark more marks ts rest v p own tokens others into u c o keeps nodes r sum known counted
      l =
      leads_plain functions Known End opened right (mark_symbol ∷ more) (mark ∷ marks) ts rest r.parts r.counts p own
      others u keeps.0 c r.both
      (subst (All Known) (ap (value_nodes m) (sym r.made) ∙ nodes r.parts) known)
      (more_counted own (unless_open opened tokens) others (counted_from opened right r.counts) counted sum)
      (subst (λ b. Goes b (mark_symbol ∷ more) (mark ∷ marks) rest
      (push_parts false right (cut_parts functions right r.parts) p) others) (sym o)
      (made_leads opened m (goes right make) mark more marks rest
      (push_parts false right (cut_parts functions right r.parts) p) (push_value m (cut_value functions m v) p) others
      into (
        cut_parts functions right r.parts,
        p,
        (
          refl,
          ap (λ w. push_value m w p) (ap (cut_value functions m) (sym r.made) ∙ keeps.1 r.parts),
        ),
      ) l))

  -- where the function is entered
  entered : (m : Nonterminal) (skip : Skip m) (r : Row m) (more : List Symbol) (marks : List Mark)
      (ts rest : List Terminal) (vs : Parts Value (whole skip)) (cs : Parts Owned (whole skip)) (p : Stacks) (own : ℕ)
      (nodes : SkipNodes functions m r skip) (sides : Sides m skip ts rest vs cs) → Known (nodes.function vs)
      → some_symbol is_close skip.middle ≡ false → all_plain skip.back ≡ true
      → Goes false more marks rest
      (push_parts false skip.front (cut_parts functions skip.front (fronts Value skip.front (inside skip) vs)) p) own
      → Goes true (inside skip ++ more) marks sides.enter
      (push_parts false skip.front (cut_parts functions skip.front (fronts Value skip.front (inside skip) vs)) p) own
  entered m skip r more marks ts rest vs cs p own nodes sides known within plain l = record {
    function = nodes.function vs;
    others = p.opened;
    rest = rest;
    known = known;
    opened = nodes.opened vs p;
    ends = ap (λ (t : Told). t.behind) sides.closed ∙ sym (nodes.ends vs);
    middle = skip.middle;
    behind = skip.back ++ more;
    split = append_assoc skip.middle (s.Tell tell.Close ∷ skip.back) more;
    within = within;
    unmarked = nodes.unmarked_middle;
    parts = middle_parts skip vs;
    read = sides.middle;
    passed = even_balances skip.middle sides.enter rest (middle_parts skip vs) nodes.even sides.middle;
    goes_on = subst
        (λ symbols. Leads functions Known End true true symbols marks rest
        (push_parts false skip.front (cut_parts functions skip.front (fronts Value skip.front (inside skip) vs)) p) own)
        (sym (append_assoc skip.middle (s.Tell tell.Close ∷ skip.back) more))
        (leads_inside functions Known End true skip.middle (skip.back ++ more) marks rest _ own within
        (leads_back functions Known End skip.back more marks rest _ own plain l));
  }

  skips_made : (m : Nonterminal) (r : Row m) (skip : Skip m) (cuts : SkipsRow functions m r skip) (v : Value m)
      (vs : Parts Value (whole skip)) (p : Stacks) → cuts.make vs ≡ v
      → MadeRow m (cut_by m r (Some skip))
      (push_parts false skip.front (cut_parts functions skip.front (fronts Value skip.front (inside skip) vs)) p)
      (push_value m (cut_value functions m v) p)
  skips_made m r skip cuts v vs p made = (
    cut_parts functions (whole skip) vs,
    p,
    (
      sym (push_whole skip.front skip.middle skip.back (cut_parts functions (whole skip) vs) p cuts.before cuts.within
          cuts.behind ∙ ap (λ q. push_parts false skip.front q p) (cut_fronts functions skip.front (inside skip) vs)),
      ap (λ w. push_value m w p) (ap (cut_value functions m) (sym made)
          ∙ cuts.made vs
          ∙ ap skip.make (sym (cut_front functions skip.front (inside skip) vs))),
    ),
  )

  skips_whole : (m : Nonterminal) (r : Row m) (skip : Skip m) (mark : Mark) (more : List Symbol) (marks : List Mark)
      (ts rest : List Terminal) (v : Value m) (p : Stacks) (own tokens others : ℕ)
      → Marks functions mark m (cut_by m r (Some skip)) → (cuts : SkipsRow functions m r skip)
      → (nodes : SkipNodes functions m r skip) → (a : RowRead m (whole skip) nodes.make ts rest v tokens)
      → cuts.make a.parts ≡ v → All Known (value_nodes m v) → own ≡ tokens + others
      → Goes false more marks rest (push_value m (cut_value functions m v) p) others
      → Goes false (whole skip ++ mark_symbol ∷ more) (mark ∷ marks) ts p own
  skips_whole m r skip mark more marks ts rest v p own tokens others into cuts nodes a made known counted l =
      let front : Parts Value skip.front = fronts Value skip.front (inside skip) a.parts in
      let own_front : Parts Owned skip.front = fronts Owned skip.front (inside skip) a.counts in
      let p1 : Stacks = push_parts false skip.front (cut_parts functions skip.front front) p in
      let sides : Sides m skip ts rest a.parts a.counts = sides m skip ts rest a.parts a.counts cuts.behind a.both in
      let all : All Known (part_nodes skip.front front
      ++ nodes.function a.parts ∷ part_nodes skip.middle (middle_parts skip a.parts)) =
      subst (All Known) (ap (value_nodes m) (sym a.made) ∙ nodes.nodes a.parts) known in
      let here : Known (nodes.function a.parts) =
      All-head Known (nodes.function a.parts) (part_nodes skip.middle (middle_parts skip a.parts))
      (all_second Known (part_nodes skip.front front)
      (nodes.function a.parts ∷ part_nodes skip.middle (middle_parts skip a.parts)) all) in
      let tokens_front : counted_from false skip.front own_front ≡ tokens =
      sym (own_whole false skip.front skip.middle skip.back a.counts nodes.opens cuts.within cuts.behind) ∙ a.owned in
      subst (λ symbols. Goes false symbols (mark ∷ marks) ts p own)
      (sym (append_assoc skip.front (inside skip) (mark_symbol ∷ more)))
      (leads_plain functions Known End false skip.front (inside skip ++ mark_symbol ∷ more) (mark ∷ marks) ts
      sides.enter front own_front p own others nodes.unmarked cuts.before nodes.calm sides.front
      (all_first Known (part_nodes skip.front front)
      (nodes.function a.parts ∷ part_nodes skip.middle (middle_parts skip a.parts)) all)
      (more_counted own tokens others (counted_from false skip.front own_front) counted tokens_front)
      (subst (λ b. Goes b (inside skip ++ mark_symbol ∷ more) (mark ∷ marks) sides.enter p1 others) (sym nodes.opens)
      (entered m skip r (mark_symbol ∷ more) (mark ∷ marks) ts rest a.parts a.counts p others nodes sides here
      cuts.within cuts.behind
      (made_leads false m (cut_by m r (Some skip)) mark more marks rest p1 (push_value m (cut_value functions m v) p) others
      into (skips_made m r skip cuts v a.parts p made) l))))

  pub skips_leads : (m : Nonterminal) (r : Row m) (skip : Skip m) (mark : Mark)
      (more : List Symbol) (marks : List Mark) (ts rest : List Terminal) (v : Value m) (p : Stacks)
      (own tokens others : ℕ) → Marks functions mark m (cut_by m r (Some skip)) → SkipsRow functions m r skip
      → SkipNodes functions m r skip
      → by_row reads m r ts ≡ Got v rest → by_row owns m (counting r) ts ≡ Got tokens rest
      → All Known (value_nodes m v) → own ≡ tokens + others
      → Goes false more marks rest (push_value m (cut_value functions m v) p) others
      → Goes false (whole skip ++ mark_symbol ∷ more) (mark ∷ marks) ts p own
  skips_leads m r skip mark more marks ts rest v p own tokens others into cuts nodes read owned known counted l =
      let a : RowRead m (whole skip) nodes.make ts rest v tokens =
      row_read m (whole skip) nodes.make ts rest v tokens
      (ap (λ x. by_row reads m x ts) (sym nodes.same) ∙ read)
      (ap (λ x. by_row owns m (own_counted x) ts) (sym nodes.same) ∙ owned) in
      let b : RowRead m (whole skip) cuts.make ts rest v tokens =
      row_read m (whole skip) cuts.make ts rest v tokens
      (ap (λ x. by_row reads m x ts) (sym cuts.same) ∙ read)
      (ap (λ x. by_row owns m (own_counted x) ts) (sym cuts.same) ∙ owned) in
      skips_whole m r skip mark more marks ts rest v p own tokens others into cuts nodes a
      (ap cuts.make (got_value a.parts b.parts rest rest (sym a.both.trees ∙ b.both.trees)) ∙ b.made) known counted l

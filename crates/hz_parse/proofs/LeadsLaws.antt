-- What a stack of symbols and the rows in hand lead to, step by step.
use Rattle.std.proofs.Common.{◌≡◌, ℕ, ◌+◌, Bool, true, false, List, [], ◌∷◌, ◌++◌, Option, Some, None}
use Rattle.std.proofs.Common.{refl, ap, sym, ◌∙◌, subst, ◌&&◌, if◌then◌else◌, arith, append-nil, All}
use Rattle.hz_tree.specs.declared.class.Class.{Class}
use Rattle.hz_tree.specs.declared.class.Class.TheVariants as k
use Rattle.hz_tree.specs.declared.index.FunctionInfo.{FunctionInfo}
use Rattle.hz_tree.specs.declared.look.Look.{Look}
use Rattle.hz_tree.specs.declared.nonterminal.Nonterminal.{Nonterminal}
use Rattle.hz_tree.specs.declared.nonterminal.Nonterminal.TheVariants as n
use Rattle.hz_tree.specs.declared.nonterminal.Context.{Context}
use Rattle.hz_tree.specs.declared.outside.BadKind.{BadKind}
use Rattle.hz_tree.specs.declared.signal.Role.{Role}
use Rattle.hz_tree.specs.declared.signal.Signal.TheVariants as tell
use Rattle.hz_tree.specs.declared.symbol.Symbol.{Symbol}
use Rattle.hz_tree.specs.declared.symbol.Symbol.TheVariants as s
use Rattle.hz_tree.specs.grammar.Classes.{begins_key, is_name}
use Rattle.hz_tree.specs.grammar.Look.{Terminal, look, is_async, begins_arrow}
use Rattle.hz_tree.specs.grammar.OperatorRows.{is_loosest}
use Rattle.hz_tree.specs.grammar.StatementRows.{bound_by}
use Rattle.hz_tree.specs.grammar.Symbols.{Parts, Value, Row, goes, refuses}
use Rattle.hz_tree.specs.grammar.Table.{row, Step, pushes, fails, step, step_of}
use Rattle.hz_tree.specs.reading.Reading.{Got, Stuck, by_row, read_all, reads, takes}
use Rattle.hz_laws.proofs.Balance.{got_rest}
use Rattle.hz_laws.proofs.ReadingLaws.{reads_law}
use Rattle.hz_cuts.specs.Rows.{CutsRow, KeepsRow, SkipsRow, cut_by, cut_row, is_enter, some_symbol}
use Rattle.hz_cuts.specs.Skips.{Skip, skip_of, item_skip, primary_skip, getter_skip, setter_skip, prop_skip}
use Rattle.hz_cuts.specs.Skips.{method_skip}
use Rattle.hz_cuts.proofs.RowCuts.{rows_cut}
use Rattle.hz_stands.specs.Nodes.{FunctionNode, part_nodes}
use Rattle.hz_stands.proofs.Opening.{is_open}
use Rattle.hz_stands.proofs.RowNodes.{RowNodes, KeepsNodes, rows_nodes}
use Rattle.hz_parts.specs.declared.mark.Mark.{Mark}
use Rattle.hz_parts.specs.declared.parts.Parts.{Parts as Stacks}
use Rattle.hz_parts.specs.Makes.{MakesRow, row_of}
use Rattle.hz_parts.specs.Values.{push_parts, push_seen, seen_token}
use Rattle.hz_cuts.specs.Cuts.{cut_parts}
use Rattle.hz_parse.specs.Leads.{calm, opened_last, Leads, MadeRow, ReadingOne, is_mark, is_named, mark_symbol, no_marks}
use Rattle.hz_own.specs.Owned.{counted_from, counting, Owned, own_row, owns, taken, unless_open}
use Rattle.hz_own.proofs.RowsOpen.{opens_none}
use Rattle.hz_parse.specs.Asked.{Told, turned}
use Rattle.hz_parse.proofs.Asked.{Unasked, unasked, Went}
use Rattle.hz_alone.proofs.Readings.{owns_law}
use Rattle.hz_parse.proofs.Marks.{row_unmarked, rows_unmarked}
use Rattle.hz_parse.proofs.Plain.{inside_leads, leads_plain, to_right}
use Rattle.hz_parse.proofs.Rows.{RowRead, row_read, keeps_leads, skips_leads}
use Rattle.hz_parse.proofs.SkipNodes.{NodesBy, skips_nodes}
use Rattle.hz_parse.proofs.Split.{got_value}

-- ---- rows

abbrev right_of : Step → List Symbol
right_of (pushes right) = right
right_of (fails cause) = []

went : (m : Nonterminal) (r : Row m) (ts rest : List Terminal) (v : Value m) → by_row reads m r ts ≡ Got v rest
    → Went r
went m (goes right make) ts rest v h = tt
went m (refuses cause) ts rest v h = cc

-- ---- whether a row is that of a function, whatever the functions are

abbrev is_skip : {m : Nonterminal} → Option (Skip m) → Bool
is_skip (Some skip) = true
is_skip None = false

skip_if : {m : Nonterminal} (test : Bool) (a a' b b' : Option (Skip m)) → is_skip a ≡ is_skip a'
    → is_skip b ≡ is_skip b' → is_skip (if test then a else b) ≡ is_skip (if test then a' else b')
skip_if true a a' b b' h i = h
skip_if false a a' b b' h i = i

item_skips : (functions : List FunctionInfo) (c : Context) (one two : Class)
    → is_skip (item_skip functions c one two) ≡ is_skip (item_skip [] c one two)
item_skips functions c k.Function two = refl
item_skips functions c _ two = refl

primary_skips : (functions : List FunctionInfo) (c : Context) (one two : Class)
    → is_skip (primary_skip functions c one two) ≡ is_skip (primary_skip [] c one two)
primary_skips functions c k.Function two = refl
primary_skips functions c _ two = refl

getter_skips : (functions : List FunctionInfo) (c : Context) (keyed : Bool)
    → is_skip (getter_skip functions c keyed) ≡ is_skip (getter_skip [] c keyed)
getter_skips functions c true = refl
getter_skips functions c false = refl

setter_skips : (functions : List FunctionInfo) (c : Context) (keyed : Bool)
    → is_skip (setter_skip functions c keyed) ≡ is_skip (setter_skip [] c keyed)
setter_skips functions c true = refl
setter_skips functions c false = refl

prop_skips : (functions : List FunctionInfo) (c : Context) (one two : Class)
    → is_skip (prop_skip functions c one two) ≡ is_skip (prop_skip [] c one two)
prop_skips functions c k.Star two = refl
prop_skips functions c k.Get two = getter_skips functions c (begins_key two)
prop_skips functions c k.Set two = setter_skips functions c (begins_key two)
prop_skips functions c _ two = refl

method_skips : (functions : List FunctionInfo) (c : Context) (one : Class)
    → is_skip (method_skip functions c one) ≡ is_skip (method_skip [] c one)
method_skips functions c k.LeftParen = refl
method_skips functions c _ = refl

skips_alike : (functions : List FunctionInfo) (m : Nonterminal) (l : Look)
    → is_skip (skip_of functions m l) ≡ is_skip (skip_of [] m l)
skips_alike functions (n.Item c) l = item_skips functions c l.one l.two
skips_alike functions (n.Primary c) l =
    skip_if {m = n.Primary c} (is_async l) None None _ _ refl (primary_skips functions c l.one l.two)
skips_alike functions (n.Operation loosest c) l =
    skip_if {m = n.Operation loosest c} (is_loosest loosest && begins_arrow l) (Some _) (Some _) None None refl refl
skips_alike functions (n.Prop c) l =
    skip_if {m = n.Prop c} (is_async l) None None _ _ refl (prop_skips functions c l.one l.two)
skips_alike functions (n.KeyRest c) l = method_skips functions c l.one
skips_alike functions _ l = refl

keeps_by : (m : Nonterminal) (r : Row m) (skip : Option (Skip m)) → is_skip skip ≡ false → RowNodes m r skip
    → KeepsNodes m r
keeps_by m r None h i = i
keeps_by m r (Some skip) h i = cc

keeps_nodes : (functions : List FunctionInfo) (m : Nonterminal) (l : Look) → skip_of functions m l ≡ None
    → KeepsNodes m (row m l)
keeps_nodes functions m l h =
    keeps_by m (row m l) (skip_of [] m l) (sym (skips_alike functions m l) ∙ ap is_skip h) (rows_nodes m l)

-- ---- no function opens where none is entered

opened_stays : (right : List Symbol) → some_symbol is_open right ≡ false → opened_last false right ≡ false
opened_stays [] h = refl
opened_stays (s.Take wanted ∷ xs) h = opened_stays xs h
opened_stays (s.Read m ∷ xs) h = opened_stays xs h
opened_stays (s.Tell (tell.Open node kind) ∷ xs) h = cc
opened_stays (s.Tell _ ∷ xs) h = opened_stays xs h

calm_stays : (right : List Symbol) → some_symbol is_open right ≡ false → calm false right ≡ true
calm_stays [] h = refl
calm_stays (s.Take wanted ∷ xs) h = calm_stays xs h
calm_stays (s.Read m ∷ xs) h = calm_stays xs h
calm_stays (s.Tell (tell.Open node kind) ∷ xs) h = cc
calm_stays (s.Tell _ ∷ xs) h = calm_stays xs h

-- ---- names, of which no token is an own one

-- the row is one of a name, where a function is open
pub record Named (right : List Symbol) : Type 0 where
  pub calm : calm true right ≡ true
  pub opened : opened_last true right ≡ true
  pub none : (cs : Parts Owned right) → counted_from true right cs ≡ 0

abbrev NamedRow : {m : Nonterminal} → Row m → Type 0
NamedRow (goes right make) = Named right
NamedRow (refuses cause) = Unit {0}

named_if : {m : Nonterminal} (test : Bool) (a b : Row m) → NamedRow a → NamedRow b → NamedRow (if test then a else b)
named_if true a b h i = h
named_if false a b h i = i

named_bound : (role : Role) (l : Look) (one : Class) → NamedRow (bound_by role l one)
named_bound role l k.LeftBracket = tt
named_bound role l k.LeftBrace = tt
named_bound role l _ =
    named_if (is_name l.one) _ _ (record { calm = refl; opened = refl; none = λ cs. omega arith }) tt

named_row : (m : Nonterminal) (l : Look) → is_named m ≡ true → NamedRow (row m l)
named_row (n.Bound role) l h = named_bound role l l.one
named_row n.OwnName l h =
    named_if (is_name l.one) _ _ (record { calm = refl; opened = refl; none = λ cs. omega arith })
    (record { calm = refl; opened = refl; none = λ cs. refl })
named_row m l h = cc

named_skip : (functions : List FunctionInfo) (m : Nonterminal) (l : Look) → is_named m ≡ true
    → skip_of functions m l ≡ None
named_skip functions (n.Bound role) l h = refl
named_skip functions n.OwnName l h = refl
named_skip functions m l h = cc

module _ (functions : List FunctionInfo) (Known : FunctionNode → Type 0)
    (End : List Terminal → Stacks → Type 0) where
  abbrev Goes : Bool → List Symbol → List Mark → List Terminal → Stacks → ℕ → Type 0
  Goes opened symbols marks ts p own = Leads functions Known End false opened symbols marks ts p own

  abbrev One : Bool → (m : Nonterminal) → List Symbol → List Mark → List Terminal → Stacks → ℕ → Type 0
  One opened m more marks ts p own =
      ReadingOne functions Known opened m ts p own (λ rest q others. Goes opened more marks rest q others)

  abbrev Marks : Mark → (m : Nonterminal) → Row m → Type 0
  Marks mark m r = (old new : Stacks) → MadeRow m r old new → MadeRow mark.nonterminal (row_of functions mark) old new

  kept : (m : Nonterminal) (right : List Symbol) (make : Parts Value right → Value m) (mark : Mark)
      (more : List Symbol) (marks : List Mark) (ts : List Terminal) (p : Stacks) (own : ℕ)
      (l : One false m more marks ts p own) → Marks mark m (goes right make) → no_marks right ≡ true
      → some_symbol is_open right ≡ false → KeepsRow functions m (goes right make) → KeepsNodes m (goes right make)
      → RowRead m right make ts l.rest l.value l.tokens → Goes false (right ++ mark_symbol ∷ more) (mark ∷ marks) ts p own
  kept m right make mark more marks ts p own l into u o keeps nodes r =
      keeps_leads functions Known End false m right make mark more marks ts l.rest l.value p own l.tokens l.others into
      u (calm_stays right o) (opened_stays right o) keeps nodes r r.owned l.known l.counted l.goes_on

  named : (m : Nonterminal) (right : List Symbol) (make : Parts Value right → Value m) (mark : Mark)
      (more : List Symbol) (marks : List Mark) (ts : List Terminal) (p : Stacks) (own : ℕ)
      (l : One true m more marks ts p own) → Marks mark m (goes right make) → no_marks right ≡ true
      → Named right → KeepsRow functions m (goes right make) → KeepsNodes m (goes right make)
      → RowRead m right make ts l.rest l.value l.tokens → Goes true (right ++ mark_symbol ∷ more) (mark ∷ marks) ts p own
  named m right make mark more marks ts p own l into u o keeps nodes r =
      keeps_leads functions Known End true m right make mark more marks ts l.rest l.value p own l.tokens l.others into
      u o.calm o.opened keeps nodes r (o.none r.counts) l.known l.counted l.goes_on

  kept_row : (m : Nonterminal) (r : Row m) (mark : Mark) (more : List Symbol) (marks : List Mark) (ts : List Terminal)
      (p : Stacks) (own : ℕ) (l : One false m more marks ts p own) → Marks mark m r → row_unmarked r
      → ((right : List Symbol) → step_of r ≡ pushes right → some_symbol is_enter right ≡ false
      → some_symbol is_open right ≡ false)
      → KeepsRow functions m r → KeepsNodes m r
      → by_row reads m r ts ≡ Got l.value l.rest → by_row owns m (counting r) ts ≡ Got l.tokens l.rest
      → Goes false (right_of (step_of r) ++ mark_symbol ∷ more) (mark ∷ marks) ts p own
  kept_row m (goes right make) mark more marks ts p own l into u o keeps nodes read owned =
      kept m right make mark more marks ts p own l into u (o right refl keeps.0) keeps nodes
      (row_read m right make ts l.rest l.value l.tokens read owned)
  kept_row m (refuses cause) mark more marks ts p own l into u o keeps nodes read owned = cc

  named_leads : (m : Nonterminal) (r : Row m) (mark : Mark) (more : List Symbol) (marks : List Mark)
      (ts : List Terminal) (p : Stacks) (own : ℕ) (l : One true m more marks ts p own) → Marks mark m r
      → row_unmarked r → NamedRow r → KeepsRow functions m r → KeepsNodes m r
      → by_row reads m r ts ≡ Got l.value l.rest → by_row owns m (counting r) ts ≡ Got l.tokens l.rest
      → Goes true (right_of (step_of r) ++ mark_symbol ∷ more) (mark ∷ marks) ts p own
  named_leads m (goes right make) mark more marks ts p own l into u o keeps nodes read owned =
      named m right make mark more marks ts p own l into u o keeps nodes
      (row_read m right make ts l.rest l.value l.tokens read owned)
  named_leads m (refuses cause) mark more marks ts p own l into u o keeps nodes read owned = cc

  skipped : (m : Nonterminal) (r : Row m) (skip : Skip m) (mark : Mark) (more : List Symbol) (marks : List Mark)
      (ts : List Terminal) (p : Stacks) (own : ℕ) (l : One false m more marks ts p own)
      → Marks mark m (cut_by m r (Some skip)) → (cuts : SkipsRow functions m r skip)
      → NodesBy functions m r (Some skip)
      → by_row reads m r ts ≡ Got l.value l.rest → by_row owns m (counting r) ts ≡ Got l.tokens l.rest
      → Goes false (right_of (step_of r) ++ mark_symbol ∷ more) (mark ∷ marks) ts p own
  skipped m r skip mark more marks ts p own l into cuts nodes read owned =
      subst (λ right. Goes false (right ++ mark_symbol ∷ more) (mark ∷ marks) ts p own)
      (sym (ap (λ x. right_of (step_of x)) cuts.same))
      (skips_leads functions Known End m r skip mark more marks ts l.rest l.value p own l.tokens l.others into cuts
      nodes read owned l.known l.counted l.goes_on)

  by_skip : (m : Nonterminal) (l : Look) (skip : Option (Skip m)) (mark : Mark) (more : List Symbol)
      (marks : List Mark) (ts : List Terminal) (p : Stacks) (own : ℕ) (one : One false m more marks ts p own)
      → skip_of functions m l ≡ skip → Marks mark m (cut_by m (row m l) skip) → CutsRow functions m (row m l) skip
      → NodesBy functions m (row m l) skip
      → by_row reads m (row m l) ts ≡ Got one.value one.rest → by_row owns m (own_row m l) ts ≡ Got one.tokens one.rest
      → Goes false (right_of (step m l) ++ mark_symbol ∷ more) (mark ∷ marks) ts p own
  by_skip m l None mark more marks ts p own one e into cuts nodes read owned =
      kept_row m (row m l) mark more marks ts p own one into (rows_unmarked m l) (opens_none m l) cuts
      (keeps_nodes functions m l e) read owned
  by_skip m l (Some skip) mark more marks ts p own one e into cuts nodes read owned =
      skipped m (row m l) skip mark more marks ts p own one into cuts nodes read owned

  by_name : (m : Nonterminal) (l : Look) (mark : Mark) (more : List Symbol) (marks : List Mark) (ts : List Terminal)
      (p : Stacks) (own : ℕ) (one : One true m more marks ts p own) → Marks mark m (cut_row functions m l)
      → by_row reads m (row m l) ts ≡ Got one.value one.rest → by_row owns m (own_row m l) ts ≡ Got one.tokens one.rest
      → Goes true (right_of (step m l) ++ mark_symbol ∷ more) (mark ∷ marks) ts p own
  by_name m l mark more marks ts p own one into read owned =
      let none : skip_of functions m l ≡ None = named_skip functions m l one.named in
      named_leads m (row m l) mark more marks ts p own one
      (λ old new made. into old new
      (subst (λ skip. MadeRow m (cut_by m (row m l) skip) old new) (sym none) made)) (rows_unmarked m l)
      (named_row m l one.named) (subst (CutsRow functions m (row m l)) none (rows_cut functions m l))
      (keeps_nodes functions m l none) read owned

  by_look : (opened : Bool) (m : Nonterminal) (mark : Mark) (more : List Symbol) (marks : List Mark)
      (ts : List Terminal) (p : Stacks) (own : ℕ) → Goes opened (s.Read m ∷ more) marks ts p own
      → Marks mark m (cut_row functions m (look ts))
      → Goes opened (right_of (step m (look ts)) ++ mark_symbol ∷ more) (mark ∷ marks) ts p own
  by_look false m mark more marks ts p own one into =
      by_skip m (look ts) (skip_of functions m (look ts)) mark more marks ts p own one refl into
      (rows_cut functions m (look ts)) (skips_nodes functions m (look ts)) (sym (reads_law m ts) ∙ one.read)
      (sym (owns_law m ts) ∙ one.owned)
  by_look true m mark more marks ts p own one into =
      by_name m (look ts) mark more marks ts p own one into (sym (reads_law m ts) ∙ one.read)
      (sym (owns_law m ts) ∙ one.owned)

  -- the row that begins, whatever is told of an arrow that is not asked for
  pub row_went : (opened : Bool) (m : Nonterminal) (more : List Symbol) (marks : List Mark) (ts : List Terminal)
      (p : Stacks) (own : ℕ) → Goes opened (s.Read m ∷ more) marks ts p own → Went (row m (look ts))
  row_went opened m more marks ts p own one =
      went m (row m (look ts)) ts one.rest one.value (sym (reads_law m ts) ∙ one.read)

  -- A nonterminal gives way to its row, whose mark lies behind it.
  pub leads_pushes : (opened : Bool) (m : Nonterminal) (arrow : Bool) (right more : List Symbol) (marks : List Mark)
      (ts : List Terminal) (p : Stacks) (own : ℕ) → Told m (look ts) arrow
      → step m (turned (look ts) arrow) ≡ pushes right → Goes opened (s.Read m ∷ more) marks ts p own
      → Goes opened (right ++ mark_symbol ∷ more) (record { nonterminal = m; look = turned (look ts) arrow } ∷ marks) ts
      p own
  leads_pushes opened m arrow right more marks ts p own told e one =
      let mark : Mark = record { nonterminal = m; look = turned (look ts) arrow } in
      let same : Unasked functions m (look ts) (turned (look ts) arrow) =
      unasked functions m (look ts) arrow told (row_went opened m more marks ts p own one) in
      subst (λ symbols. Goes opened (symbols ++ mark_symbol ∷ more) (mark ∷ marks) ts p own)
      (ap right_of (sym same.step ∙ e))
      (by_look opened m mark more marks ts p own one
      (λ old new made. subst (λ r. MadeRow m r old new) (sym same.cut) made))

  no_refusal : (m : Nonterminal) (r : Row m) (cause : BadKind) → step_of r ≡ fails cause → Went r → ⊥
  no_refusal m (goes right make) cause e h = cc
  no_refusal m (refuses why) cause e h = h

  -- Where the whole is read, no row refuses.
  pub leads_no_refusal : (opened : Bool) (m : Nonterminal) (arrow : Bool) (cause : BadKind) (more : List Symbol)
      (marks : List Mark) (ts : List Terminal) (p : Stacks) (own : ℕ) → Told m (look ts) arrow
      → step m (turned (look ts) arrow) ≡ fails cause → Goes opened (s.Read m ∷ more) marks ts p own → ⊥
  leads_no_refusal opened m arrow cause more marks ts p own told e one =
      let here : Went (row m (look ts)) = row_went opened m more marks ts p own one in
      no_refusal m (row m (look ts)) cause
      (sym (unasked functions m (look ts) arrow told here).step ∙ e) here

  got_or_stuck : (a : Terminal) (ts : List Terminal) (cause : BadKind) (us : List Terminal)
      → Got a ts ≡ Stuck cause us → ⊥
  got_or_stuck a ts cause us h = cc

  -- ---- tokens

  pub leads_take : (opened : Bool) (wanted : Class) (x : Terminal) (more : List Symbol) (marks : List Mark)
      (ts rest : List Terminal) (p : Stacks) (own : ℕ) → is_mark wanted ≡ false → takes wanted ts ≡ Got x rest
      → Goes opened (s.Take wanted ∷ more) marks ts p own
      → (others : ℕ) × ((own ≡ unless_open opened (taken wanted) + others)
      × Goes opened more marks rest (push_seen (seen_token x) p) others)
  leads_take opened wanted x more marks ts rest p own some e l =
      let t = to_right (is_mark wanted) _ _ some l in
      let both : Got t.token t.rest ≡ Got x rest = sym t.got ∙ e in (
        t.others,
        (
          t.counted,
          subst (λ us. Goes opened more marks us (push_seen (seen_token x) p) t.others)
              (got_rest t.token x t.rest rest both)
              (subst (λ y. Goes opened more marks t.rest (push_seen (seen_token y) p) t.others)
              (got_value t.token x t.rest rest both) t.goes_on),
        ),
      )

  -- Where the whole is read, no token misfits.
  pub leads_no_misfit : (opened : Bool) (wanted : Class) (cause : BadKind) (more : List Symbol) (marks : List Mark)
      (ts us : List Terminal) (p : Stacks) (own : ℕ) → is_mark wanted ≡ false → takes wanted ts ≡ Stuck cause us
      → Goes opened (s.Take wanted ∷ more) marks ts p own → ⊥
  leads_no_misfit opened wanted cause more marks ts us p own some e l =
      got_or_stuck _ _ cause us (sym (to_right (is_mark wanted) _ _ some l).got ∙ e)

  -- ---- functions

  -- Behind a function that was passed over the symbols go on that stand behind its own.
  pub leads_behind : (opened : Bool) (more : List Symbol) (marks : List Mark) (ts : List Terminal) (p : Stacks)
      (own : ℕ) (l : Goes opened (s.Tell tell.Enter ∷ more) marks ts p own)
      → Goes false l.behind marks l.rest p own
  leads_behind opened more marks ts p own l =
      inside_leads functions Known End opened l.middle l.behind marks l.rest p own l.within
      (subst (λ symbols. Leads functions Known End true opened symbols marks l.rest p own) l.split l.goes_on)

  -- ---- rows in hand

  made_alone : (m : Nonterminal) (r : Row m) (old new made : Stacks) → MakesRow m r old made → MadeRow m r old new
      → made ≡ new
  made_alone m (goes right make) old new made h i = h i.0 i.1 i.2.0 ∙ sym i.2.1
  made_alone m (refuses cause) old new made h i = absurd i

  -- The mark comes up when the symbols of its row are read, and its row's maker makes what it makes.
  pub leads_make : (opened : Bool) (mark : Mark) (more : List Symbol) (marks : List Mark) (ts : List Terminal)
      (p q : Stacks) (own : ℕ) → MakesRow mark.nonterminal (row_of functions mark) p q
      → Goes opened (mark_symbol ∷ more) (mark ∷ marks) ts p own → Goes opened more marks ts q own
  leads_make opened mark more marks ts p q own made l =
      subst (λ r. Goes opened more marks ts r own)
      (sym (made_alone mark.nonterminal (row_of functions mark) p l.new q made l.made)) l.goes_on

  -- ---- the beginning

  pub symbols_lead : (right : List Symbol) (ts rest : List Terminal) (vs : Parts Value right) (cs : Parts Owned right)
      (p : Stacks) → no_marks right ≡ true → some_symbol is_enter right ≡ false → calm false right ≡ true
      → read_all reads right ts ≡ Got vs rest → read_all owns right ts ≡ Got cs rest → All Known (part_nodes right vs)
      → End rest (push_parts false right (cut_parts functions right vs) p)
      → Goes false right [] ts p (counted_from false right cs)
  symbols_lead right ts rest vs cs p u e c trees counts known end =
      subst (λ symbols. Goes false symbols [] ts p (counted_from false right cs)) (append-nil right)
      (leads_plain functions Known End false right [] [] ts rest vs cs p (counted_from false right cs) 0 u e c
      (record { trees = trees; counts = counts }) known (omega arith) (refl, end))

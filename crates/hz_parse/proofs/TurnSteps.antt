-- Each turn goes on to the same end, with less to do.
use Rattle.std.proofs.Common.{◌≡◌, ◌≢◌, ℕ, ◌+◌, ◌<◌, ◌≤◌, ◌&&◌, Bool, true, false, List, [], ◌∷◌, ◌++◌, length}
use Rattle.std.proofs.Common.{refl, ap, sym, ◌∙◌, subst, arith}
use Rattle.hz_tree.specs.declared.class.Class.{Class}
use Rattle.hz_tree.specs.declared.index.FunctionInfo.{FunctionInfo}
use Rattle.hz_tree.specs.declared.look.Look.{Look}
use Rattle.hz_tree.specs.declared.nonterminal.Nonterminal.{Nonterminal}
use Rattle.hz_tree.specs.declared.nonterminal.Nonterminal.TheVariants as n
use Rattle.hz_tree.specs.declared.signal.Signal.{Signal}
use Rattle.hz_tree.specs.declared.signal.Signal.TheVariants as tell
use Rattle.hz_tree.specs.declared.symbol.Symbol.{Symbol}
use Rattle.hz_tree.specs.declared.symbol.Symbol.TheVariants as s
use Rattle.hz_tree.specs.grammar.Classes.{is_paren}
use Rattle.hz_tree.specs.grammar.Look.{Terminal, look}
use Rattle.hz_tree.specs.grammar.Symbols.{Row, goes, refuses}
use Rattle.hz_tree.specs.grammar.Table.{Step, pushes, fails, row, step, step_of}
use Rattle.hz_tree.specs.reading.Reading.{Got, end_behind, place_ahead, takes, told_ahead}
use Rattle.hz_middle.specs.Place.{Place, left}
use Rattle.hz_own.specs.Known.{Known}
use Rattle.hz_own.specs.Owned.{open_behind, taken, unless_open}
use Rattle.hz_stands.proofs.Several.{Suffix}
use Rattle.hz_parts.specs.declared.mark.Mark.{Mark}
use Rattle.hz_parts.specs.declared.parts.Parts.{Parts as Stacks}
use Rattle.hz_parts.specs.Values.{push_seen, push_told, seen_token}
use Rattle.hz_parse.specs.declared.reader.Reader.{Reader}
use Rattle.hz_parse.specs.Asked.{Told, asks, turned}
use Rattle.hz_parse.specs.Leads.{Leads, Reaches, Skipping, Taking, is_mark, is_named, mark_symbol, no_marks}
use Rattle.hz_parse.specs.Turns.{Ahead, Going, Reached, Ready, Turned, arrow_at, arrow_told, functions_of_reader, measure, with_symbol}
use Rattle.hz_parse.proofs.Even.{takes_got}
use Rattle.hz_parse.proofs.LeadsLaws.{leads_behind, leads_no_refusal, leads_pushes, leads_take, row_went}
use Rattle.hz_parse.proofs.Asked.{unasked}
use Rattle.hz_parse.proofs.LeftBehind.{leads_left}
use Rattle.hz_parse.proofs.Marks.{row_unmarked, rows_unmarked}
use Rattle.hz_parse.proofs.Measure.{pushed_less, skipped_less, taken_less, told_less}
use Rattle.hz_parse.proofs.Plain.{to_right}
use Rattle.hz_parse.proofs.TurnLaws.{ahead_behind, told_ahead_of}

-- ---- something is told

told_leads : (functions : List FunctionInfo) (End : List Terminal → Stacks → Type 0) (signal : Signal) (opened : Bool)
    (more : List Symbol) (marks : List Mark) (ts : List Terminal) (p : Stacks) (own : ℕ) → signal ≢ tell.Enter
    → Leads functions (Known functions) End false opened (s.Tell signal ∷ more) marks ts p own
    → Leads functions (Known functions) End false (open_behind signal opened) more marks ts
    (push_told signal (told_ahead ts) p) own
told_leads functions End tell.Enter opened more marks ts p own differs l = absurd (differs refl)
told_leads functions End _ opened more marks ts p own differs l = l

pub told_turn : (signal : Signal) (r : Reader) (place : Place) (steps : ℕ) (parts : Stacks) → signal ≢ tell.Enter
    → parts ≡ push_told signal (told_ahead (left place)) r.parts
    → Turned (s.Tell signal) r place steps (record r { opened = open_behind signal r.opened; parts = parts }) place
    steps
told_turn signal r place steps parts differs e = record {
  goes = λ last whole total g. record {
    own = g.own;
    leads =
        subst (λ p. Leads (functions_of_reader r) (Known (functions_of_reader r)) (Reaches last whole) false
        (open_behind signal r.opened) r.symbols r.marks (left place) p g.own) (sym e)
        (told_leads (functions_of_reader r) (Reaches last whole) signal r.opened r.symbols r.marks (left place) r.parts
        g.own differs g.leads);
    counted = g.counted;
    ahead = g.ahead;
    some = g.some;
    inside = g.inside;
    same = g.same;
  };
  less = told_less signal r.symbols r.marks (left place);
}

-- ---- a token is taken

-- the token ahead is taken
pub token_of : (wanted : Class) (r : Reader) (place : Place) (steps : ℕ) → is_mark wanted ≡ false
    → (h : Ready (s.Take wanted) r place steps) → Taking r.opened wanted (left place) r.parts h.going.own
    (λ rest q others. Leads (functions_of_reader r) (Known (functions_of_reader r)) (Reaches h.last h.whole) false
    r.opened r.symbols r.marks rest q others)
token_of wanted r place steps some h = to_right (is_mark wanted) _ _ some h.going.leads

pub taken_turn : (wanted : Class) (r : Reader) (place new : Place) (steps after : ℕ) (x : Terminal)
    (rest : List Terminal) (parts : Stacks) → is_mark wanted ≡ false → takes wanted (left place) ≡ Got x rest
    → (left new ≡ rest) × ((new.source ≡ place.source) × ((new.at ≤ length place.source)
    × ((parts ≡ push_seen (seen_token x) r.parts) × (after ≡ steps + unless_open r.opened (taken wanted)))))
    → Turned (s.Take wanted) r place steps (record r { parts = parts }) new after
taken_turn wanted r place new steps after x rest parts some got h = record {
  goes = λ last whole total g.
      let functions : List FunctionInfo = functions_of_reader r in
      let t = leads_take functions (Known functions) (Reaches last whole) r.opened wanted x r.symbols r.marks
      (left place) rest r.parts g.own some got g.leads in
      let split : Suffix (left place) (left new) = record {
        passed = x ∷ [];
        split = (takes_got wanted (left place) x rest got).split ∙ ap (λ us. x ∷ us) (sym h.0);
      } in
      record {
        own = t.0;
        leads =
            subst (λ p. Leads functions (Known functions) (Reaches last whole) false r.opened r.symbols r.marks
            (left new) p t.0) (sym h.1.1.1.0)
            (subst (λ us. Leads functions (Known functions) (Reaches last whole) false r.opened r.symbols r.marks us
            (push_seen (seen_token x) r.parts) t.0) (sym h.0) t.1.1);
        counted =
            let counted : g.own ≡ unless_open r.opened (taken wanted) + t.0 = t.1.0 in
            let before : steps + g.own ≡ total = g.counted in
            let steps_are : after ≡ steps + unless_open r.opened (taken wanted) = h.1.1.1.1 in
            omega (arith, counted, before, steps_are);
        ahead = ahead_behind functions new.source (end_behind last) (left place) (left new) split
            (subst (λ source. Ahead functions source (end_behind last) (left place)) (sym h.1.0) g.ahead);
        some = g.some;
        inside = subst (λ source. new.at ≤ length source) (sym h.1.0) h.1.1.0;
        same = h.1.0 ∙ g.same;
      };
  less =
      subst (λ us. measure r.symbols r.marks us < measure (s.Take wanted ∷ r.symbols) r.marks (left place)) (sym h.0)
      (taken_less wanted x r.symbols r.marks (left place) rest some got);
}

-- ---- a nonterminal gives way to its row

named_asks : (m : Nonterminal) → is_named m ≡ true → asks m ≡ false
named_asks (n.Bound role) h = refl
named_asks n.OwnName h = refl
named_asks _ h = cc

told_by : (r : Reader) (place : Place) (steps : ℕ) (m : Nonterminal) (last : List Terminal) (whole : Stacks) (total : ℕ)
    → Going (with_symbol (s.Read m) r) place steps last whole total
    → Told m (look (left place)) (arrow_told (functions_of_reader r) m (left place))
told_by r place steps m last whole total g = by_opened r.opened g.leads
  where
    by_opened : (opened : Bool) → Leads (functions_of_reader r) (Known (functions_of_reader r)) (Reaches last whole) false
        opened (s.Read m ∷ r.symbols) r.marks (left place) r.parts g.own
        → Told m (look (left place)) (arrow_told (functions_of_reader r) m (left place))
    by_opened false l =
        told_ahead_of (functions_of_reader r) last whole place.source m r.symbols r.marks (left place) r.parts g.own g.some g.ahead l
    by_opened true l =
        let none : asks m ≡ false = named_asks m l.named in
        record {
          begins = λ a. cc;
          paren = λ e. ap (λ b. b && (is_paren (look (left place)).one && arrow_at (functions_of_reader r)
              (place_ahead (left place)))) none;
        }

pub some_row : (r : Reader) (place : Place) (steps : ℕ) (m : Nonterminal) (l : Look) → Ready (s.Read m) r place steps
    → l ≡ turned (look (left place)) (arrow_told (functions_of_reader r) m (left place))
    → (right : List Symbol) × (step m l ≡ pushes right)
some_row r place steps m l h e = by_step (step m l) refl
  where
    by_step : (given : Step) → step m l ≡ given → (right : List Symbol) × (step m l ≡ pushes right)
    by_step (pushes right) i = (right, i)
    by_step (fails cause) i =
        absurd (leads_no_refusal (functions_of_reader r) (Known (functions_of_reader r)) (Reaches h.last h.whole)
        r.opened m _ cause r.symbols r.marks (left place) r.parts h.going.own
        (told_by r place steps m h.last h.whole h.total h.going) (ap (step m) (sym e) ∙ i) h.going.leads)

right_unmarked : (m : Nonterminal) (r : Row m) (right : List Symbol) → row_unmarked r → step_of r ≡ pushes right
    → no_marks right ≡ true
right_unmarked m (goes own make) right u e = ap no_marks (same own right e) ∙ u
  where
    same : (xs ys : List Symbol) → pushes xs ≡ pushes ys → ys ≡ xs
    same xs ys h = cc
right_unmarked m (refuses cause) right u e = cc

-- what the row pushes, whatever is told of an arrow that is not asked for
untold_step : (m : Nonterminal) (l : Look) (r : Reader) (place : Place) (steps : ℕ) (right : List Symbol)
    → l ≡ turned (look (left place)) (arrow_told (functions_of_reader r) m (left place)) → step m l ≡ pushes right
    → Ready (s.Read m) r place steps → step m (look (left place)) ≡ pushes right
untold_step m l r place steps right e i h =
    let told = told_by r place steps m h.last h.whole h.total h.going in
    let went = row_went (functions_of_reader r) (Known (functions_of_reader r)) (Reaches h.last h.whole) r.opened m
    r.symbols r.marks (left place) r.parts h.going.own h.going.leads in
    sym (unasked (functions_of_reader r) m (look (left place)) (arrow_told (functions_of_reader r) m (left place)) told
    went).step ∙ ap (step m) (sym e) ∙ i

pub expanded_turn : (m : Nonterminal) (l : Look) (r : Reader) (place : Place) (steps : ℕ) (right symbols : List Symbol)
    (marks : List Mark) → Ready (s.Read m) r place steps → l ≡ turned (look (left place)) (arrow_told (functions_of_reader r) m (left place)) → step m l ≡ pushes right
    → (symbols ≡ right ++ mark_symbol ∷ r.symbols) × (marks ≡ record { nonterminal = m; look = l } ∷ r.marks)
    → Turned (s.Read m) r place steps (record r { symbols = symbols; marks = marks }) place steps
expanded_turn m l r place steps right symbols marks ready e i h = record {
  goes = λ last whole total g. record {
    own = g.own;
    leads = moved last whole g.own
        (leads_pushes (functions_of_reader r) (Known (functions_of_reader r)) (Reaches last whole) r.opened m _ right
        r.symbols r.marks (left place) r.parts g.own (told_by r place steps m last whole total g)
        (ap (step m) (sym e) ∙ i) g.leads);
    counted = g.counted;
    ahead = g.ahead;
    some = g.some;
    inside = g.inside;
    same = g.same;
  };
  less =
      subst (λ us. measure us marks (left place) < measure (s.Read m ∷ r.symbols) r.marks (left place)) (sym h.0)
      (subst (λ ms. measure (right ++ mark_symbol ∷ r.symbols) ms (left place)
      < measure (s.Read m ∷ r.symbols) r.marks (left place)) (sym h.1)
      (pushed_less m right r.symbols (record { nonterminal = m; look = l }) r.marks (left place)
      (right_unmarked m (row m l) right (rows_unmarked m l) i)
      (untold_step m l r place steps right e i ready)));
}
  where
    moved : (last : List Terminal) (whole : Stacks) (own : ℕ)
        → Leads (functions_of_reader r) (Known (functions_of_reader r)) (Reaches last whole) false r.opened
        (right ++ mark_symbol ∷ r.symbols)
        (record {
          nonterminal = m;
          look = turned (look (left place)) (arrow_told (functions_of_reader r) m
              (left place));
        } ∷ r.marks) (left place) r.parts own
        → Leads (functions_of_reader r) (Known (functions_of_reader r)) (Reaches last whole) false r.opened symbols
        marks (left place) r.parts own
    moved last whole own g =
        subst (λ us. Leads (functions_of_reader r) (Known (functions_of_reader r)) (Reaches last whole) false r.opened
        us marks (left place) r.parts own) (sym h.0)
        (subst (λ ms. Leads (functions_of_reader r) (Known (functions_of_reader r)) (Reaches last whole) false r.opened
        (right ++ mark_symbol ∷ r.symbols) ms (left place) r.parts own)
        (sym (h.1 ∙ ap (λ given. record { nonterminal = m; look = given } ∷ r.marks) e)) g)

-- ---- a function is passed over

nonempty : (passed last : List Terminal) → last ≢ [] → passed ++ last ≢ []
nonempty [] last some = some
nonempty (x ∷ passed) last some = λ e. cc

abbrev Passing : Reader → Place → Type 0
Passing r place =
    Skipping (Known (functions_of_reader r)) r.symbols (left place) r.parts (λ rest. rest ≢ [])

-- what is known where a function is entered
pub passing_from : (r : Reader) (place : Place) (steps : ℕ) (last : List Terminal) (whole : Stacks) (total : ℕ)
    → Going (with_symbol (s.Tell tell.Enter) r) place steps last whole total → Passing r place
passing_from r place steps last whole total g =
    let l = g.leads in
    let behind : Suffix l.rest last =
    leads_left (functions_of_reader r) (Known (functions_of_reader r)) last whole true r.opened r.symbols r.marks l.rest
    r.parts g.own l.goes_on in
    record {
      function = l.function;
      others = l.others;
      rest = l.rest;
      known = l.known;
      opened = l.opened;
      ends = l.ends;
      middle = l.middle;
      behind = l.behind;
      split = l.split;
      within = l.within;
      unmarked = l.unmarked;
      parts = l.parts;
      read = l.read;
      passed = l.passed;
      goes_on = subst (λ us. us ≢ []) (sym behind.split) (nonempty behind.passed last g.some);
    }

pub passed_turn : (r : Reader) (place new : Place) (steps : ℕ) (symbols : List Symbol)
    → Ready (s.Tell tell.Enter) r place steps
    → ((l : Passing r place) → (left new ≡ l.rest) × ((new.source ≡ place.source)
    × ((new.at ≤ length place.source) × (symbols ≡ l.behind))))
    → Turned (s.Tell tell.Enter) r place steps (record r { symbols = symbols; opened = false }) new steps
unfolding passing_from
passed_turn r place new steps symbols ready h = record {
  goes = λ last whole total g.
      let functions : List FunctionInfo = functions_of_reader r in
      let l : Passing r place = passing_from r place steps last whole total g in
      let moved = h l in
      let split : Suffix (left place) (left new) = record {
        passed = l.passed.passed;
        split = l.passed.split ∙ ap (λ us. l.passed.passed ++ us) (sym moved.0);
      } in
      record {
        own = g.own;
        leads =
            subst (λ us. Leads functions (Known functions) (Reaches last whole) false false us r.marks (left new) r.parts
            g.own) (sym moved.1.1.1)
            (subst (λ us. Leads functions (Known functions) (Reaches last whole) false false l.behind r.marks us r.parts
            g.own) (sym moved.0)
            (leads_behind functions (Known functions) (Reaches last whole) r.opened r.symbols r.marks (left place)
            r.parts g.own g.leads));
        counted = g.counted;
        ahead = ahead_behind functions new.source (end_behind last) (left place) (left new) split
            (subst (λ source. Ahead functions source (end_behind last) (left place)) (sym moved.1.0) g.ahead);
        some = g.some;
        inside = subst (λ source. new.at ≤ length source) (sym moved.1.0) moved.1.1.0;
        same = moved.1.0 ∙ g.same;
      };
  less =
      let l : Passing r place = passing_from r place steps ready.last ready.whole ready.total ready.going in
      let moved = h l in
      subst (λ us. measure us r.marks (left new) < measure (s.Tell tell.Enter ∷ r.symbols) r.marks (left place))
      (sym moved.1.1.1)
      (subst (λ us. measure l.behind r.marks us < measure (s.Tell tell.Enter ∷ r.symbols) r.marks (left place))
      (sym moved.0)
      (skipped_less r.symbols l.middle l.behind r.marks (left place) l.rest l.parts l.split l.unmarked l.read));
}

-- ---- the end

-- where no symbol is left, the reader is there
pub reached : (r : Reader) (place : Place) (steps : ℕ) (last : List Terminal) (whole : Stacks) (total : ℕ)
    (symbols : List Symbol) → r.symbols ≡ [] → symbols ≡ [] → Going r place steps last whole total
    → Reached (record r { symbols = symbols }) place steps last whole total
reached r place steps last whole total symbols none here g =
    let l = subst (λ xs. Leads (functions_of_reader r) (Known (functions_of_reader r)) (Reaches last whole) false r.opened
    xs r.marks (left place) r.parts g.own) none g.leads in
    let nothing : g.own ≡ 0 = l.0 in
    let counted : steps + g.own ≡ total = g.counted in
    record { left = l.1.0; made = l.1.1; counted = omega (arith, nothing, counted) }

-- The functions that a reading tells of start at tokens that it takes, one behind the other.
use Rattle.std.proofs.Common.{◌≡◌, ℕ, zero, suc, Bool, true, false, not, ◌||◌, if◌then◌else◌, ◌⊎◌, inl, inr}
use Rattle.std.proofs.Common.{List, [], ◌∷◌, ◌++◌, map, refl, ap, sym, ◌∙◌, subst, append_assoc, append-nil}
use Rattle.hz_tree.specs.declared.class.Class.{Class}
use Rattle.hz_tree.specs.declared.index.FunctionInfo.{FunctionInfo}
use Rattle.hz_tree.specs.declared.nonterminal.Nonterminal.{Nonterminal}
use Rattle.hz_tree.specs.declared.nonterminal.Nonterminal.TheVariants as n
use Rattle.hz_tree.specs.declared.signal.Role.{Role}
use Rattle.hz_tree.specs.declared.signal.Role.TheVariants as role
use Rattle.hz_tree.specs.declared.signal.Signal.{Signal}
use Rattle.hz_tree.specs.declared.signal.Signal.TheVariants as tell
use Rattle.hz_tree.specs.declared.symbol.Symbol.{Symbol}
use Rattle.hz_tree.specs.declared.symbol.Symbol.TheVariants as s
use Rattle.hz_tree.specs.declared.tree.Tree.{Tree}
use Rattle.hz_tree.specs.grammar.Classes.{fits}
use Rattle.hz_tree.specs.grammar.Look.{Terminal, look, stuck}
use Rattle.hz_tree.specs.grammar.Signals.{Event, Plain, Placed, Texted, Named, Written, event}
use Rattle.hz_tree.specs.grammar.Symbols.{Part, Parts, Row, goes, refuses}
use Rattle.hz_tree.specs.grammar.Table.{pushes, row, step_of}
use Rattle.hz_tree.specs.reading.Reading.{Reading, Got, Stuck, Deeper, and_then, takes, place_ahead, told_ahead}
use Rattle.hz_tree.specs.reading.Reading.{Reader, read_one}
use Rattle.hz_tree.specs.reading.Reading.{read_all, by_row, reads_to, reads_by, enough}
use Rattle.hz_tree.specs.reading.Reading.{Events, told, telling, event_row, tells, reads}
use Rattle.hz_tree.specs.tokens.Text.{Text}
use Rattle.hz_tree.specs.trees.Drafts.{Draft, change, change_innermost, counted, ended, happens, built, begun}
use Rattle.hz_tree.specs.trees.Events.{events_of}
use Rattle.hz_tree.specs.trees.Functions.{functions_of}
use Rattle.hz_laws.proofs.Ranks.{leads, opens, leads_all, opens_well, is_open, false_true, and_left, and_right}
use Rattle.hz_laws.proofs.RowLaws.{rows_open, tells_tree}
use Rattle.hz_laws.proofs.Tied.{built_is}
use Rattle.hz_laws.proofs.Told.{tell_reading}

-- ---- places of tokens

-- the places are some of those of the tokens, in their order
abbrev pub Among : List ℕ → List Terminal → Type 0
Among ps [] = ps ≡ []
Among ps (t ∷ ts) = (Among ps ts) ⊎ ((qs : List ℕ) × ((ps ≡ t.token.at ∷ qs) × Among qs ts))

among_append : (ps qs : List ℕ) (ts us : List Terminal) → Among ps ts → Among qs us → Among (ps ++ qs) (ts ++ us)
among_append ps qs [] us h i = subst (λ x. Among (x ++ qs) us) (sym h) i
among_append ps qs (t ∷ ts) us (inl h) i = inl (among_append ps qs ts us h i)
among_append ps qs (t ∷ ts) us (inr (rs, (e, h))) i =
    inr (rs ++ qs, (ap (λ x. x ++ qs) e, among_append rs qs ts us h i))

-- From the tokens `ts` to `rest`, which are left of them, functions open at these places.
pub record Passes (ts : List Terminal) (ps : List ℕ) (rest : List Terminal) : Type 0 where
  pub passed : List Terminal
  pub split : ts ≡ passed ++ rest
  pub among : Among ps passed

-- the same where a token is taken before a function opens
record Leads (ts : List Terminal) (ps : List ℕ) (rest : List Terminal) : Type 0 where
  first : Terminal
  passed : List Terminal
  split : ts ≡ first ∷ (passed ++ rest)
  among : Among ps passed

passes_leads : (ts rest : List Terminal) (ps : List ℕ) → Leads ts ps rest → Passes ts ps rest
passes_leads ts rest ps h = record { passed = h.first ∷ h.passed; split = h.split; among = inl h.among }

opens_leads : (ts rest : List Terminal) (ps : List ℕ) → Leads ts ps rest → Passes ts (place_ahead ts ∷ ps) rest
opens_leads ts rest ps h = record {
  passed = h.first ∷ h.passed;
  split = h.split;
  among = inr (ps, (ap (λ us. place_ahead us ∷ ps) h.split, h.among));
}

passes_nothing : (ts : List Terminal) → Passes ts [] ts
passes_nothing ts = record { passed = []; split = refl; among = refl }

passes_then : (ts mid rest : List Terminal) (ps qs : List ℕ) → Passes ts ps mid → Passes mid qs rest
    → Passes ts (ps ++ qs) rest
passes_then ts mid rest ps qs h i = record {
  passed = h.passed ++ i.passed;
  split = h.split ∙ ap (λ us. h.passed ++ us) i.split ∙ sym (append_assoc h.passed i.passed rest);
  among = among_append ps qs h.passed i.passed h.among i.among;
}

leads_then : (ts mid rest : List Terminal) (ps qs : List ℕ) → Leads ts ps mid → Passes mid qs rest
    → Leads ts (ps ++ qs) rest
leads_then ts mid rest ps qs h i = record {
  first = h.first;
  passed = h.passed ++ i.passed;
  split =
      h.split ∙ ap (λ us. h.first ∷ (h.passed ++ us)) i.split
      ∙ ap (λ us. h.first ∷ us) (sym (append_assoc h.passed i.passed rest));
  among = among_append ps qs h.passed i.passed h.among i.among;
}

-- ---- events

-- the place at which a function opens
abbrev pub opened : Event → List ℕ
opened (Placed (tell.Open node kind) at) = at ∷ []
opened _ = []

abbrev pub places : List Event → List ℕ
places [] = []
places (e ∷ es) = opened e ++ places es

places_append : (es fs : List Event) → places (es ++ fs) ≡ places es ++ places fs
places_append [] fs = refl
places_append (e ∷ es) fs =
    ap (λ ps. opened e ++ ps) (places_append es fs) ∙ sym (append_assoc (opened e) (places es) (places fs))

implied : (a b : Bool) → (not a || b) ≡ true → a ≡ true → b ≡ true
implied true b h i = h
implied false b h i = absurd (false_true i)

-- ---- a reading

took : (wanted : Class) (us : List Terminal) (v : Terminal) (mid : List Terminal) → takes wanted us ≡ Got v mid
    → us ≡ v ∷ mid
took wanted [] v mid is = cc
took wanted (y ∷ us) v mid is =
    elim (fits wanted y.class)
    as (λ b. (if b then Got y us else Stuck (stuck (look (y ∷ us))) (y ∷ us)) ≡ Got v mid → y ∷ us ≡ v ∷ mid)
    [ true ↦ λ e. cc | false ↦ λ e. cc ] is

takes_leads : (wanted : Class) (us : List Terminal) (v : Terminal) (mid : List Terminal)
    → takes wanted us ≡ Got v mid → Leads us [] mid
takes_leads wanted us v mid is =
    record { first = v; passed = []; split = took wanted us v mid is; among = refl }

-- what was read of a list of symbols: the first one, and then the others
record Both (reads : Reader Events) (symbol : Symbol) (more : List Symbol) (ts : List Terminal)
    (parts : Parts Events (symbol ∷ more)) (rest : List Terminal) : Type 0 where
  mid : List Terminal
  one : read_one reads symbol ts ≡ Got parts.0 mid
  others : read_all reads more mid ≡ Got parts.1 rest

got_others : (reads : Reader Events) (symbol : Symbol) (more : List Symbol) (ts mid : List Terminal)
    (v : Part Events symbol) (r : Reading (Parts Events more)) (parts : Parts Events (symbol ∷ more))
    (rest : List Terminal)
    → read_one reads symbol ts ≡ Got v mid → read_all reads more mid ≡ r
    → and_then r (λ vs end. Got (v, vs) end) ≡ Got parts rest → Both reads symbol more ts parts rest
got_others reads symbol more ts mid v (Got vs end) parts rest one others is =
    got_is (λ p us. Both reads symbol more ts p us) (v, vs) parts end rest is
    (record { mid = mid; one = one; others = others })
  where
    got_is : (P : Parts Events (symbol ∷ more) → List Terminal → Type 0) (a b : Parts Events (symbol ∷ more))
        (us ws : List Terminal) → Got a us ≡ Got b ws → P a us → P b ws
    got_is P a b us ws e h =
        let ea : a ≡ b = cc in let eu : us ≡ ws = cc in subst (λ y. P b y) eu (subst (λ y. P y us) ea h)
got_others reads symbol more ts mid v (Stuck cause us) parts rest one others is = cc
got_others reads symbol more ts mid v Deeper parts rest one others is = cc

got_both : (reads : Reader Events) (symbol : Symbol) (more : List Symbol) (ts : List Terminal)
    (r : Reading (Part Events symbol)) (parts : Parts Events (symbol ∷ more)) (rest : List Terminal)
    → read_one reads symbol ts ≡ r
    → and_then r (λ v mid. and_then (read_all reads more mid) (λ vs end. Got (v, vs) end)) ≡ Got parts rest
    → Both reads symbol more ts parts rest
got_both reads symbol more ts (Got v mid) parts rest one is =
    got_others reads symbol more ts mid v (read_all reads more mid) parts rest one refl is
got_both reads symbol more ts (Stuck cause us) parts rest one is = cc
got_both reads symbol more ts Deeper parts rest one is = cc

-- what a reading of symbols tells, and that a token is taken first where they lead
record Walked (right : List Symbol) (ts : List Terminal) (ps : List ℕ) (rest : List Terminal) : Type 0 where
  passes : Passes ts ps rest
  leading : leads_all right ≡ true → Leads ts ps rest

record ToldBy (m : Nonterminal) (ts : List Terminal) (es : List Event) (rest : List Terminal) : Type 0 where
  passes : Passes ts (places es) rest
  leading : leads m ≡ true → Leads ts (places es) rest

no_lead : (right : List Symbol) (ts : List Terminal) (ps : List ℕ) (rest : List Terminal) → leads_all right ≡ false
    → Passes ts ps rest → Walked right ts ps rest
no_lead right ts ps rest none h = record { passes = h; leading = λ e. absurd (false_true (sym none ∙ e)) }

same_left : {A : Type 0} (a b : A) (ts mid : List Terminal) → Got a ts ≡ Got b mid → ts ≡ mid
same_left a b ts mid e = cc

same_got : {A : Type 0} (a b : A) (ts mid : List Terminal) → Got a ts ≡ Got b mid → a ≡ b
same_got a b ts mid e = cc

-- a function opens at a token that is taken behind, before another one opens; another signal changes nothing
tell_walked : (signal : Signal) (more : List Symbol) (ts rest : List Terminal) (ps : List ℕ)
    → (not (opens signal) || leads_all more) ≡ true → Walked more ts ps rest
    → Walked (s.Tell signal ∷ more) ts (opened (event signal (told_ahead ts)) ++ ps) rest
tell_walked (tell.Open node kind) more ts rest ps h others =
    no_lead (s.Tell (tell.Open node kind) ∷ more) ts (place_ahead ts ∷ ps) rest refl
    (opens_leads ts rest ps (others.leading h))
tell_walked _ more ts rest ps h others = record { passes = others.passes; leading = others.leading }

module _ (reads : Reader Events)
    (told_by : (m : Nonterminal) (us : List Terminal) (es : List Event) (end : List Terminal)
    → reads m us ≡ Got es end → ToldBy m us es end) where
  all_walked : (right : List Symbol) (ts : List Terminal) (parts : Parts Events right) (rest : List Terminal)
      → opens_well right ≡ true → read_all reads right ts ≡ Got parts rest
      → Walked right ts (places (told right parts)) rest
  all_walked [] ts parts rest h is =
      no_lead [] ts [] rest refl (subst (λ us. Passes ts [] us) (same_left tt parts ts rest is) (passes_nothing ts))
  all_walked (s.Take wanted ∷ more) ts parts rest h is =
      let both = got_both reads (s.Take wanted) more ts (takes wanted ts) parts rest refl is in
      let first = takes_leads wanted ts parts.0 both.mid both.one in
      let others = all_walked more both.mid parts.1 rest h both.others in
      (record {
        passes = passes_then ts both.mid rest [] (places (told more parts.1))
            (passes_leads ts both.mid [] first) others.passes;
        leading = λ e. leads_then ts both.mid rest [] (places (told more parts.1)) first others.passes;
      })
  all_walked (s.Read m ∷ more) ts parts rest h is =
      let both = got_both reads (s.Read m) more ts (reads m ts) parts rest refl is in
      let first = told_by m ts parts.0 both.mid both.one in
      let others = all_walked more both.mid parts.1 rest h both.others in
      let joined : places (parts.0 ++ told more parts.1) ≡ places parts.0 ++ places (told more parts.1) =
      places_append parts.0 (told more parts.1) in
      (record {
        passes =
            subst (λ ps. Passes ts ps rest) (sym joined)
            (passes_then ts both.mid rest (places parts.0) (places (told more parts.1)) first.passes others.passes);
        leading = λ e.
            subst (λ ps. Leads ts ps rest) (sym joined)
            (leads_then ts both.mid rest (places parts.0) (places (told more parts.1)) (first.leading e) others.passes);
      })
  all_walked (s.Tell signal ∷ more) ts parts rest h is =
      let both = got_both reads (s.Tell signal) more ts (Got (told_ahead ts) ts) parts rest refl is in
      let same : ts ≡ both.mid = same_left (told_ahead ts) parts.0 ts both.mid both.one in
      let here : told_ahead ts ≡ parts.0 = same_got (told_ahead ts) parts.0 ts both.mid both.one in
      let others = all_walked more ts parts.1 rest (and_right (not (opens signal) || leads_all more)
      (opens_well more) h)
      (ap (read_all reads more) same ∙ both.others) in
      subst (λ beside. Walked (s.Tell signal ∷ more) ts
      (opened (event signal beside) ++ places (told more parts.1)) rest) here
      (tell_walked signal more ts rest (places (told more parts.1))
      (and_left (not (opens signal) || leads_all more) (opens_well more) h) others)

  right_told : (m : Nonterminal) (right : List Symbol) (ts : List Terminal) (r : Reading (Parts Events right))
      (es : List Event) (rest : List Terminal) → is_open m (pushes right) ≡ true → read_all reads right ts ≡ r
      → and_then r (λ vs end. Got (told right vs) end) ≡ Got es rest → ToldBy m ts es rest
  right_told m right ts (Got parts end) es rest h read is =
      let all = all_walked right ts parts end (and_left (opens_well right) (not (leads m) || leads_all right) h) read in
      let same : told right parts ≡ es = cc in
      let left : end ≡ rest = cc in
      subst (λ us. ToldBy m ts es us) left (subst (λ fs. ToldBy m ts fs end) same (record {
        passes = all.passes;
        leading = λ e.
            all.leading (implied (leads m) (leads_all right)
            (and_right (opens_well right) (not (leads m) || leads_all right) h) e);
      }))
  right_told m right ts (Stuck cause us) es rest h read is = cc
  right_told m right ts Deeper es rest h read is = cc

  row_told : (m : Nonterminal) (r : Row m) (ts : List Terminal) (es : List Event) (rest : List Terminal)
      → is_open m (step_of r) ≡ true → by_row reads m (telling r) ts ≡ Got es rest → ToldBy m ts es rest
  row_told m (goes right make) ts es rest h is = right_told m right ts (read_all reads right ts) es rest h refl is
  row_told m (refuses cause) ts es rest h is = cc

told_to : (d : ℕ) (m : Nonterminal) (ts : List Terminal) (es : List Event) (rest : List Terminal)
    → reads_to event_row d m ts ≡ Got es rest → ToldBy m ts es rest
unfolding reads_to
told_to zero m ts es rest is = cc
told_to (suc d) m ts es rest is =
    row_told (reads_to event_row d) (told_to d) m (row m (look ts)) ts es rest (rows_open m (look ts)) is

pub tells_pass : (m : Nonterminal) (ts : List Terminal) (es : List Event) (rest : List Terminal)
    → tells m ts ≡ Got es rest → Passes ts (places es) rest
unfolding reads_by
tells_pass m ts es rest is = (told_to (enough ts) m ts es rest is).passes

-- ---- the functions that events build

abbrev pub starts : List FunctionInfo → List ℕ
starts fs = map (λ f. f.start) fs

starts_append : (fs : List FunctionInfo) (f : FunctionInfo) → starts (fs ++ f ∷ []) ≡ starts fs ++ f.start ∷ []
starts_append [] f = refl
starts_append (g ∷ fs) f = ap (λ ps. g.start ∷ ps) (starts_append fs f)

change_starts : (k : ℕ) (f : FunctionInfo → FunctionInfo) (fs : List FunctionInfo)
    → ((x : FunctionInfo) → (f x).start ≡ x.start) → starts (change k f fs) ≡ starts fs
change_starts zero f [] h = refl
change_starts (suc k) f [] h = refl
change_starts zero f (x ∷ fs) h = ap (λ p. p ∷ starts fs) (h x)
change_starts (suc k) f (x ∷ fs) h = ap (λ ps. x.start ∷ ps) (change_starts k f fs h)

innermost_starts : (opened : List ℕ) (f : FunctionInfo → FunctionInfo) (fs : List FunctionInfo)
    → ((x : FunctionInfo) → (f x).start ≡ x.start) → starts (change_innermost opened f fs) ≡ starts fs
innermost_starts [] f fs h = refl
innermost_starts (k ∷ outer) f fs h = change_starts k f fs h

placed_starts : (signal : Signal) (at : ℕ) (d : Draft)
    → starts (happens d (Placed signal at)).functions ≡ starts d.functions ++ opened (Placed signal at)
placed_starts (tell.Open node kind) at d = starts_append d.functions _
placed_starts tell.Close end d =
    innermost_starts d.opened (ended end) d.functions (λ x. refl) ∙ sym (append-nil (starts d.functions))
placed_starts _ at d = sym (append-nil (starts d.functions))

declared_starts : (role : Role) (at : ℕ) (name : Text) (d : Draft)
    → starts (happens d (Named (tell.Declare role) at name)).functions ≡ starts d.functions ++ []
declared_starts role.Parameter at name d =
    innermost_starts d.opened counted d.functions (λ x. refl) ∙ sym (append-nil (starts d.functions))
declared_starts _ at name d = sym (append-nil (starts d.functions))

named_starts : (signal : Signal) (at : ℕ) (name : Text) (d : Draft)
    → starts (happens d (Named signal at name)).functions ≡ starts d.functions ++ []
named_starts (tell.Declare role) at name d = declared_starts role at name d
named_starts _ at name d = sym (append-nil (starts d.functions))

happens_starts : (e : Event) (d : Draft) → starts (happens d e).functions ≡ starts d.functions ++ opened e
happens_starts (Plain signal) d = sym (append-nil (starts d.functions))
happens_starts (Placed signal at) d = placed_starts signal at d
happens_starts (Texted signal text) d = sym (append-nil (starts d.functions))
happens_starts (Named signal at name) d = named_starts signal at name d
happens_starts (Written signal at text octal) d = sym (append-nil (starts d.functions))

built_starts : (es : List Event) (d : Draft) → starts (built d es).functions ≡ starts d.functions ++ places es
built_starts [] d = sym (append-nil (starts d.functions))
built_starts (e ∷ es) d =
    built_starts es (happens d e) ∙ ap (λ ps. ps ++ places es) (happens_starts e d)
    ∙ append_assoc (starts d.functions) (opened e) (places es)

-- The functions of a script that is read start at 0 and at tokens of it, in their order.
pub function_starts : (source : Text) (ts : List Terminal) (tree : Tree) (rest : List Terminal)
    → reads n.Script ts ≡ Got tree rest
    → (starts (functions_of source tree) ≡ 0 ∷ places (events_of tree)) × Passes ts (places (events_of tree)) rest
function_starts source ts tree rest is = (
  ap (λ d. starts d.functions) (sym (built_is source tree)) ∙ built_starts (events_of tree) (begun source),
  tells_pass n.Script ts (events_of tree) rest (tells_tree n.Script ts ∙ ap (tell_reading n.Script) is),
)

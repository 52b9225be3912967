-- Each function in what is read stands among the terminals.
use Rattle.std.proofs.Common.{◌≡◌, ℕ, zero, suc, Bool, true, List, [], ◌∷◌, ◌++◌, Option, Some, None, All, refl, ap}
use Rattle.std.proofs.Common.{sym, ◌∙◌, subst}
use Rattle.std.proofs.lemmas.List.Elements.{All-nil, All-cons, All-append}
use Rattle.hz_tree.specs.declared.nonterminal.Nonterminal.{Nonterminal}
use Rattle.hz_tree.specs.declared.signal.Signal.TheVariants as tell
use Rattle.hz_tree.specs.declared.symbol.Symbol.{Symbol}
use Rattle.hz_tree.specs.declared.symbol.Symbol.TheVariants as s
use Rattle.hz_tree.specs.grammar.Look.{Terminal, look}
use Rattle.hz_tree.specs.grammar.Symbols.{Part, Parts, Value, Row, goes, refuses}
use Rattle.hz_tree.specs.grammar.Table.{row}
use Rattle.hz_tree.specs.reading.Reading.{Got, Reader, read_one, read_all, by_row, reads_to}
use Rattle.hz_tree.specs.reading.Reading.{reads_by, enough, reads}
use Rattle.hz_laws.proofs.Balance.{Then, then_got, got_rest}
use Rattle.hz_cuts.specs.Skips.{Skip, front_parts, skip_of}
use Rattle.hz_stands.specs.Heads.{in_head, settled}
use Rattle.hz_stands.specs.Nodes.{FunctionNode, value_nodes, part_nodes}
use Rattle.hz_stands.specs.Stands.{Standing}
use Rattle.hz_stands.proofs.Ends.{Ends, ends_settled}
use Rattle.hz_stands.proofs.Settled.{NoneBehind, behind_settled, settled_guards, first_settled, others_guarded}
use Rattle.hz_stands.proofs.Settled.{shape_settled}
use Rattle.hz_stands.proofs.SettledExpressions.{guards, Settles}
use Rattle.hz_stands.proofs.SettledRows.{rows_settle}
use Rattle.hz_stands.proofs.Several.{value_of, back_parts, Cons, cons_got, Suffix, same_suffix, suffix_then}
use Rattle.hz_stands.proofs.Several.{one_suffix, one_same, all_same, to_reads}
use Rattle.hz_stands.proofs.Opening.{to_close, from_open, side, behind_open, own_parts, Opening, function_of}
use Rattle.hz_stands.proofs.Opening.{stands_here}
use Rattle.hz_stands.proofs.RowNodes.{RowNodes, rows_nodes}

-- The function stands among the terminals; where the reading is known to be settled, it is settled where it ends.
pub record Stands (known : Bool) (function : FunctionNode) (ts : List Terminal) : Type 0 where
  pub standing : Standing function ts
  pub settled : known ≡ true → shape_settled standing.shape standing.left ≡ true

abbrev pub Stand : (known : Bool) → List Terminal → List FunctionNode → Type 0
Stand known ts functions = All (λ f. Stands known f ts) functions

-- what stands in a suffix stands in the whole
one_more : (known : Bool) (ts us : List Terminal) (f : FunctionNode) → Suffix ts us → Stands known f us
    → Stands known f ts
one_more known ts us f u stands =
    let h : Standing f us = stands.standing in
    let whole : Suffix ts h.from = suffix_then ts us h.from u (record { passed = h.passed; split = h.split }) in
    record {
      standing = record {
        passed = whole.passed;
        from = h.from;
        left = h.left;
        shape = h.shape;
        parts = h.parts;
        split = whole.split;
        start = h.start;
        read = h.read;
        end = h.end;
        kind = h.kind;
        given = h.given;
      };
      settled = stands.settled;
    }

more_stand : (known : Bool) (ts us : List Terminal) (functions : List FunctionNode) → Suffix ts us
    → Stand known us functions
    → Stand known ts functions
more_stand known ts us functions u h = λ k d below. one_more known ts us _ u (h k d below)

abbrev one_nodes : (x : Symbol) → Part Value x → List FunctionNode
one_nodes (s.Take wanted) v = []
one_nodes (s.Read m) v = value_nodes m v
one_nodes (s.Tell signal) v = []

cons_stand : (known : Bool) (ts : List Terminal) (x : Symbol) (xs : List Symbol) (p : Parts Value (x ∷ xs))
    → Stand known ts (one_nodes x p.0) → Stand known ts (part_nodes xs p.1)
    → Stand known ts (part_nodes (x ∷ xs) p)
cons_stand known ts (s.Take wanted) xs p h i = i
cons_stand known ts (s.Read m) xs p h i =
    All-append (λ f. Stands known f ts) (value_nodes m p.0) (part_nodes xs p.1) h i
cons_stand known ts (s.Tell signal) xs p h i = i

-- ---- rows

-- what is known of the symbols of a row, where the reading is known to be settled
abbrev Guarded : (known behind : Bool) → List Symbol → (rest : List Terminal) → Type 0
Guarded known behind right rest = known ≡ true → (guards behind right ≡ true) × NoneBehind behind rest

guarded_others : (known behind : Bool) (x : Symbol) (more : List Symbol) (rest : List Terminal)
    → Guarded known behind (x ∷ more) rest
    → Guarded known behind more rest
guarded_others known behind x more rest g = λ k. (others_guarded x more behind (g k).0, (g k).1)

-- the row of a settled reading
row_guarded : {known : Bool} (m : Nonterminal) (right : List Symbol) (make : Parts Value right → Value m)
    (rest : List Terminal)
    → Settles m (goes right make) → (known ≡ true → settled m rest ≡ true) → Guarded known (in_head m) right rest
row_guarded m right make rest e k = λ i. (settled_guards m right make rest (k i) e, behind_settled m rest (k i))

module _ (known : Bool) (trees : Reader Value)
    (same : (m : Nonterminal) (ts rest : List Terminal) (v : Value m) → trees m ts ≡ Got v rest
    → reads m ts ≡ Got v rest)
    (stand : (m : Nonterminal) (ts rest : List Terminal) (v : Value m) → (known ≡ true → settled m rest ≡ true)
    → trees m ts ≡ Got v rest
    → Stand known ts (value_nodes m v)) where
  one_stand : (x : Symbol) (more : List Symbol) (ts mid rest : List Terminal) (p : Parts Value (x ∷ more))
      (behind : Bool) → Guarded known behind (x ∷ more) rest → read_one trees x ts ≡ Got p.0 mid
      → read_all trees more mid ≡ Got p.1 rest → Stand known ts (one_nodes x p.0)
  one_stand (s.Take wanted) more ts mid rest p behind g h i = All-nil (λ f. Stands known f ts)
  one_stand (s.Read m) more ts mid rest p behind g h i =
      stand m ts mid p.0
      (λ k. first_settled m more mid rest p.1 behind (g k).0 (g k).1 (all_same trees same more mid rest p.1 i)) h
  one_stand (s.Tell signal) more ts mid rest p behind g h i = All-nil (λ f. Stands known f ts)

  all_stand : (xs : List Symbol) (ts rest : List Terminal) (p : Parts Value xs) (behind : Bool)
      → Guarded known behind xs rest → read_all trees xs ts ≡ Got p rest
      → Stand known ts (part_nodes xs p)
  all_stand [] ts rest p behind g h = All-nil (λ f. Stands known f ts)
  all_stand (x ∷ xs) ts rest p behind g h =
      let c : Cons trees x xs ts p rest = cons_got trees x xs ts p rest h in
      let u : Suffix ts c.mid = one_suffix x ts c.mid p.0 (one_same trees same x ts c.mid p.0 c.first) in
      cons_stand known ts x xs p (one_stand x xs ts c.mid rest p behind g c.first c.others)
      (more_stand known ts c.mid (part_nodes xs p.1) u
      (all_stand xs c.mid rest p.1 behind (guarded_others known behind x xs rest g) c.others))

  -- some symbols, and others behind them
  record Parted (xs ys : List Symbol) (ts : List Terminal) (p : Parts Value (xs ++ ys)) (behind : Bool)
      (rest : List Terminal) : Type 0 where
    mid : List Terminal
    suffix : Suffix ts mid
    front : Stand known ts (part_nodes xs (front_parts xs ys p))
    others : read_all trees ys mid ≡ Got (back_parts xs ys p) rest
    further : Guarded known behind ys rest

  parted : (xs ys : List Symbol) (ts rest : List Terminal) (p : Parts Value (xs ++ ys)) (behind : Bool)
      → Guarded known behind (xs ++ ys) rest → read_all trees (xs ++ ys) ts ≡ Got p rest
      → Parted xs ys ts p behind rest
  parted [] ys ts rest p behind g h = record {
    mid = ts;
    suffix = same_suffix ts ts refl;
    front = All-nil (λ f. Stands known f ts);
    others = h;
    further = g;
  }
  parted (x ∷ xs) ys ts rest p behind g h =
      let c : Cons trees x (xs ++ ys) ts p rest = cons_got trees x (xs ++ ys) ts p rest h in
      let u : Suffix ts c.mid = one_suffix x ts c.mid p.0 (one_same trees same x ts c.mid p.0 c.first) in
      let q : Parted xs ys c.mid p.1 behind rest =
      parted xs ys c.mid rest p.1 behind (guarded_others known behind x (xs ++ ys) rest g) c.others in
      record {
        mid = q.mid;
        suffix = suffix_then ts c.mid q.mid u q.suffix;
        front =
            cons_stand known ts x xs (front_parts (x ∷ xs) ys p)
            (one_stand x (xs ++ ys) ts c.mid rest p behind g c.first c.others)
            (more_stand known ts c.mid (part_nodes xs (front_parts xs ys p.1)) u q.front);
        others = q.others;
        further = q.further;
      }

  opening_stands : (m : Nonterminal) (r : Row m) (o : Opening m r) → Ends m r o → (ts rest : List Terminal)
      (p : Parts Value (side o.sides)) → Guarded known (in_head m) (side o.sides) rest
      → read_all trees (side o.sides) ts ≡ Got p rest
      → Stand known ts (value_nodes m (o.make p))
  opening_stands m r o ends ts rest p g h =
      let x = o.sides in
      let a : Parted x.lead (from_open x) ts p (in_head m) rest =
      parted x.lead (from_open x) ts rest p (in_head m) g h in
      let b : Cons trees (s.Tell x.signal) (to_close x) a.mid (back_parts x.lead (from_open x) p) rest =
      cons_got trees (s.Tell x.signal) (to_close x) a.mid (back_parts x.lead (from_open x) p) rest a.others in
      let c : Parted x.own (s.Tell tell.Close ∷ x.back) b.mid (behind_open x p) (in_head m) rest =
      parted x.own (s.Tell tell.Close ∷ x.back) b.mid rest (behind_open x p) (in_head m) a.further b.others in
      let u : Suffix ts b.mid =
      suffix_then ts a.mid b.mid a.suffix
      (one_suffix (s.Tell x.signal) a.mid b.mid (back_parts x.lead (from_open x) p).0 b.first) in
      let inner = part_nodes x.own (own_parts x p) in
      let outer = part_nodes x.lead (front_parts x.lead (from_open x) p) in
      let read : read_all reads (side x) ts ≡ Got p rest = all_same trees same (side x) ts rest p h in
      let here : Stands known (function_of o p) ts = record {
        standing = stands_here m r o ts rest p read;
        settled = λ k. ends_settled m r o ts rest p read ends (g k).1;
      } in
      subst (Stand known ts) (sym (o.nodes p))
      (All-append (λ f. Stands known f ts) outer (function_of o p ∷ inner) a.front
      (All-cons (λ f. Stands known f ts) (function_of o p) inner here
      (more_stand known ts b.mid inner u c.front)))

  goes_stands : (m : Nonterminal) (right : List Symbol) (make : Parts Value right → Value m) (ts rest : List Terminal)
      (v : Value m) → by_row trees m (goes right make) ts ≡ Got v rest
      → ((p : Parts Value right) → read_all trees right ts ≡ Got p rest → Stand known ts (value_nodes m (make p)))
      → Stand known ts (value_nodes m v)
  goes_stands m right make ts rest v is h =
      let all : Then (read_all trees right ts) (λ vs end. Got (make vs) end) v rest =
      then_got (read_all trees right ts) (λ vs end. Got (make vs) end) v rest is in
      subst (λ w. Stand known ts (value_nodes m w)) (ap (value_of v) all.goes_on)
      (h all.first
      (all.got ∙ ap (Got all.first) (got_rest (make all.first) v all.mid rest all.goes_on)))

  row_stands : (m : Nonterminal) (r : Row m) (skip : Option (Skip m)) (ts rest : List Terminal) (v : Value m)
      → RowNodes m r skip → Settles m r → (known ≡ true → settled m rest ≡ true) → by_row trees m r ts ≡ Got v rest
      → Stand known ts (value_nodes m v)
  row_stands m (goes right make) None ts rest v h e k is =
      goes_stands m right make ts rest v is
      (λ p got. subst (Stand known ts) (sym (h p))
      (all_stand right ts rest p (in_head m) (row_guarded m right make rest e k) got))
  row_stands m (refuses cause) None ts rest v h e k is = cc
  row_stands m r (Some skip) ts rest v h e k is =
      let o : Opening m r = h.0 in
      goes_stands m (side o.sides) o.make ts rest v (ap (λ x. by_row trees m x ts) (sym o.same) ∙ is)
      (λ p got. opening_stands m r o h.1 ts rest p
      (row_guarded m (side o.sides) o.make rest (subst (Settles m) o.same e) k) got)

-- ---- readings

stands_to : (known : Bool) (d : ℕ) (m : Nonterminal) (ts rest : List Terminal) (v : Value m)
    → (known ≡ true → settled m rest ≡ true) → reads_to row d m ts ≡ Got v rest
    → Stand known ts (value_nodes m v)
unfolding reads_to
stands_to known zero m ts rest v k is = cc
stands_to known (suc d) m ts rest v k is =
    row_stands known (reads_to row d) (to_reads d) (stands_to known d) m (row m (look ts)) (skip_of [] m (look ts)) ts
    rest v (rows_nodes m (look ts)) (rows_settle m (look ts)) k is

-- Each function in what is read stands among the terminals; where the reading is settled, so is the function.
pub functions_stand : (known : Bool) (m : Nonterminal) (ts rest : List Terminal) (v : Value m)
    → (known ≡ true → settled m rest ≡ true) → reads m ts ≡ Got v rest
    → Stand known ts (value_nodes m v)
unfolding reads_by
functions_stand known m ts rest v k is = stands_to known (enough ts) m ts rest v k is

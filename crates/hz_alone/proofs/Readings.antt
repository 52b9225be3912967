-- A reading that ends before a hole of a template does is the same where a block ends in the hole's place: by the
-- grammar's rows, whatever they make.
use Rattle.std.proofs.Common.{◌≡◌, ℕ, zero, suc, ◌+◌, ◌≤◌, Bool, true, false, if◌then◌else◌, inl, inr}
use Rattle.std.proofs.Common.{List, [], ◌∷◌, ◌++◌, length, length-append, append_assoc, refl, ap, sym, ◌∙◌, subst}
use Rattle.std.proofs.Common.{arith}
use Rattle.std.proofs.lemmas.List.{append_cancel_right}
use Rattle.hz_tree.specs.declared.class.Class.{Class}
use Rattle.hz_tree.specs.declared.class.Class.TheVariants as k
use Rattle.hz_tree.specs.declared.look.Look.{Look}
use Rattle.hz_tree.specs.declared.nonterminal.Nonterminal.{Nonterminal}
use Rattle.hz_tree.specs.declared.signal.Signal.{Signal}
use Rattle.hz_tree.specs.declared.symbol.Symbol.{Symbol}
use Rattle.hz_tree.specs.declared.symbol.Symbol.TheVariants as s
use Rattle.hz_tree.specs.grammar.Classes.{fits}
use Rattle.hz_tree.specs.grammar.Look.{Terminal, look, stuck, first_arrow}
use Rattle.hz_tree.specs.grammar.Signals.{Told}
use Rattle.hz_tree.specs.grammar.Symbols.{Part, Parts, Value, Row, RowOf, goes, refuses}
use Rattle.hz_tree.specs.grammar.Table.{row, step_of}
use Rattle.hz_tree.specs.reading.Reading.{Reading, Got, Stuck, and_then, takes, Reader, read_one, read_all}
use Rattle.hz_tree.specs.reading.Reading.{told_ahead, has_octal, Table, by_row, reads_to, reads_by, enough, reads}
use Rattle.hz_laws.proofs.Balance.{Then, then_got, got_rest}
use Rattle.hz_laws.proofs.Depth.{Ends, Fine, Within, count, all_within, same_depth, shrinks}
use Rattle.hz_laws.proofs.Ranks.{eats, eats_all, is_fine}
use Rattle.hz_laws.proofs.RowLaws.{looked, rows_fine}
use Rattle.hz_laws.proofs.ReadingLaws.{by_ends, by_law, by_shorter}
use Rattle.hz_alone.specs.Middle.{EndsHole, is_told, untold}
use Rattle.hz_own.specs.Owned.{Owned, taken, open_behind, unless_open, counted_from, counting, own_row, owns}
use Rattle.hz_alone.proofs.Blurs.{blurred, blur, BlursIn, rows_blur}
use Rattle.hz_alone.proofs.EndRows.{second_same, EatsStep, Eats, First, first_same}

-- ---- what is left

-- `rest` is left of the terminals
pub record Left (ts rest : List Terminal) : Type 0 where
  pub passed : List Terminal
  pub split : ts ≡ passed ++ rest

left_none : (ts rest : List Terminal) → ts ≡ rest → Left ts rest
left_none ts rest h = record { passed = []; split = h }

left_then : (ts mid rest : List Terminal) → Left ts mid → Left mid rest → Left ts rest
left_then ts mid rest h i = record {
  passed = h.passed ++ i.passed;
  split = h.split ∙ ap (λ us. h.passed ++ us) i.split ∙ sym (append_assoc h.passed i.passed rest);
}

took_left : (wanted : Class) (ts : List Terminal) (x : Terminal) (rest : List Terminal) → takes wanted ts ≡ Got x rest
    → ts ≡ x ∷ rest
took_left wanted [] x rest h = cc
took_left wanted (y ∷ ts) x rest h =
    elim (fits wanted y.class) as (λ b. (if b then Got y ts else Stuck (stuck (look (y ∷ ts))) (y ∷ ts)) ≡ Got x rest
    → y ∷ ts ≡ x ∷ rest) [ true ↦ λ e. cc | false ↦ λ e. cc ] h

-- one token that the class fits is taken whatever stands behind it
took_with : (wanted : Class) (y : Terminal) (ts us : List Terminal) (x : Terminal) (rest : List Terminal)
    → takes wanted (y ∷ ts) ≡ Got x rest → takes wanted (y ∷ us) ≡ Got x us
took_with wanted y ts us x rest h =
    elim (fits wanted y.class) as (λ b. (if b then Got y ts else Stuck (stuck (look (y ∷ ts))) (y ∷ ts)) ≡ Got x rest
    → (if b then Got y us else Stuck (stuck (look (y ∷ us))) (y ∷ us)) ≡ Got x us)
    [ true ↦ λ e. cc | false ↦ λ e. cc ] h

module _ {V : Nonterminal → Type 0} (trees : Reader V)
    (left : (m : Nonterminal) (ts : List Terminal) (v : V m) (rest : List Terminal) → trees m ts ≡ Got v rest
    → Left ts rest) where
  left_one : (x : Symbol) (ts : List Terminal) (v : Part V x) (rest : List Terminal)
      → read_one trees x ts ≡ Got v rest → Left ts rest
  left_one (s.Take wanted) ts v rest h = record { passed = v ∷ []; split = took_left wanted ts v rest h }
  left_one (s.Read m) ts v rest h = left m ts v rest h
  left_one (s.Tell signal) ts v rest h = left_none ts rest (got_rest (told_ahead ts) v ts rest h)

  left_all : (right : List Symbol) (ts : List Terminal) (vs : Parts V right) (rest : List Terminal)
      → read_all trees right ts ≡ Got vs rest → Left ts rest
  left_all [] ts vs rest h = left_none ts rest (got_rest tt vs ts rest h)
  left_all (x ∷ more) ts vs rest h =
      let one : Then (read_one trees x ts) _ vs rest = then_got (read_one trees x ts) _ vs rest h in
      let others : Then (read_all trees more one.mid) _ vs rest =
      then_got (read_all trees more one.mid) _ vs rest one.goes_on in
      left_then ts one.mid rest (left_one x ts one.first one.mid one.got)
      (left_all more one.mid others.first rest
      (others.got ∙ ap (Got others.first) (got_rest _ vs others.mid rest others.goes_on)))

  left_row : (m : Nonterminal) (r : RowOf V m) (ts : List Terminal) (v : V m) (rest : List Terminal)
      → by_row trees m r ts ≡ Got v rest → Left ts rest
  left_row m (refuses cause) ts v rest h = cc
  left_row m (goes right make) ts v rest h =
      let all : Then (read_all trees right ts) (λ vs end. Got (make vs) end) v rest =
      then_got (read_all trees right ts) _ v rest h in
      left_all right ts all.first rest
      (all.got ∙ ap (Got all.first) (got_rest (make all.first) v all.mid rest all.goes_on))

-- ---- lengths

-- nothing is taken of terminals that are all left
no_eating : (eaten : Bool) (mid ts : List Terminal) → count eaten + length (mid ++ ts) ≤ length ts → eaten ≡ false
no_eating true mid ts h = absurd (omega (arith, length-append mid ts))
no_eating false mid ts h = refl

within_got : {A : Type 0} (eaten : Bool) (bound : ℕ) (r : Reading A) (v : A) (rest : List Terminal) → r ≡ Got v rest
    → Within eaten bound r → count eaten + length rest ≤ bound
within_got eaten bound r v rest h w = subst (Within eaten bound) h w

true_false : true ≡ false → ⊥
true_false h = cc

untold_blur : (V : Nonterminal → Type 0) (right : List Symbol) (p : Parts V right) → untold right ≡ true
    → blur V right p ≡ p
untold_blur V [] p h = refl
untold_blur V (s.Take wanted ∷ more) p h = ap (λ q. (p.0, q)) (untold_blur V more p.1 h)
untold_blur V (s.Read m ∷ more) p h = ap (λ q. (p.0, q)) (untold_blur V more p.1 h)
untold_blur V (s.Tell signal ∷ more) p h = cc

got_value : {A : Type 0} (v w : A) (ts us : List Terminal) → Got v ts ≡ Got w us → v ≡ w
got_value v w ts us h = cc

blur_then : (V : Nonterminal → Type 0) (x : Symbol) (symbols : List Symbol) (v : Part V x) (ws vs : Parts V symbols)
    → blur V symbols ws ≡ blur V symbols vs → blur V (x ∷ symbols) (v, ws) ≡ blur V (x ∷ symbols) (v, vs)
blur_then V (s.Take wanted) symbols v ws vs h = ap (λ ps. (v, ps)) h
blur_then V (s.Read m) symbols v ws vs h = ap (λ ps. (v, ps)) h
blur_then V (s.Tell signal) symbols v ws vs h = ap (λ ps. (blurred (eats_all symbols) v, ps)) h

look_first : (x : Terminal) (ts : List Terminal)
    → look (x ∷ ts)
    ≡ looked x.class x.token.newline (look (x ∷ ts)).two (look (x ∷ ts)).two_newline (look (x ∷ ts)).arrow
look_first x [] = refl
look_first x (y ∷ ts) = refl

-- ---- where a hole ends

module _ (e f : Terminal) (more others : List Terminal) (ends : EndsHole e f) where
  abbrev pub old : List Terminal
  old = e ∷ more

  abbrev pub new : List Terminal
  new = f ∷ others

  abbrev told_at : (at : ℕ) → (octal : Bool) → (behind : ℕ) → Told
  told_at at octal behind = record { at = at; text = []; octal = octal; behind = behind }

  told_end : blurred false (told_ahead new) ≡ blurred false (told_ahead old)
  told_end =
      ap (λ at. told_at at (has_octal f.token.kind) f.behind) (sym ends.at)
      ∙ ap (λ octal. told_at e.token.at octal f.behind) (sym ends.octal)
      ∙ ap (told_at e.token.at (has_octal e.token.kind)) (sym ends.behind)

  module _ {V : Nonterminal → Type 0} (trees : Reader V)
      (left : (m : Nonterminal) (ts : List Terminal) (v : V m) (rest : List Terminal) → trees m ts ≡ Got v rest
      → Left ts rest)
      (shorter : (m : Nonterminal) (ts : List Terminal) → Within (eats m) (length ts) (trees m ts))
      (same : (m : Nonterminal) (before mid : List Terminal) (v : V m)
      → trees m (before ++ old) ≡ Got v (mid ++ old)
      → trees m (before ++ new) ≡ Got v (mid ++ new)) where
    -- the same parts but for texts of what stands behind
    record Alike (right : List Symbol) (before mid : List Terminal) (vs : Parts V right) : Type 0 where
      parts : Parts V right
      got : read_all trees right (before ++ new) ≡ Got parts (mid ++ new)
      same_parts : blur V right parts ≡ blur V right vs

    nothing_behind : (right : List Symbol) (mid : List Terminal) (vs : Parts V right)
        → read_all trees right old ≡ Got vs (mid ++ old) → eats_all right ≡ false
    nothing_behind right mid vs h =
        no_eating (eats_all right) mid old
        (within_got (eats_all right) (length old) (read_all trees right old) vs (mid ++ old) h
        (all_within trees shorter right old))

    take_same : (wanted : Class) (before mid : List Terminal) (x : Terminal)
        → takes wanted (before ++ old) ≡ Got x (mid ++ old) → takes wanted (before ++ new) ≡ Got x (mid ++ new)
    take_same wanted [] mid x h =
        absurd (too_long (ap length (took_left wanted old x (mid ++ old) h)))
      where
        too_long : length old ≡ length (x ∷ (mid ++ old)) → ⊥
        too_long i = omega (arith, length-append mid old, i)
    take_same wanted (y ∷ before) mid x h =
        let all : y ∷ before ++ old ≡ x ∷ mid ++ old = took_left wanted (y ∷ before ++ old) x (mid ++ old) h in
        let mids : before ≡ mid = append_cancel_right before mid old (cc all) in
        took_with wanted y (before ++ old) (before ++ new) x (mid ++ old) h ∙ ap (λ us. Got x (us ++ new)) mids

    -- what takes nothing is told alone
    one_same : (x : Symbol) (before mid : List Terminal) (v : Part V x) → is_told x ≡ false
        → read_one trees x (before ++ old) ≡ Got v (mid ++ old) → read_one trees x (before ++ new) ≡ Got v (mid ++ new)
    one_same (s.Take wanted) before mid v t h = take_same wanted before mid v h
    one_same (s.Read m) before mid v t h = same m before mid v h
    one_same (s.Tell signal) before mid v t h = cc

    then_same : (x : Symbol) (symbols : List Symbol) (before middle mid : List Terminal) (v : Part V x)
        (vs : Parts V symbols) → read_one trees x (before ++ new) ≡ Got v (middle ++ new)
        → Alike symbols middle mid vs → Alike (x ∷ symbols) before mid (v, vs)
    then_same x symbols before middle mid v vs h i = record {
      parts = (v, i.parts);
      got =
          ap (λ r. and_then r (λ w rest. and_then (read_all trees symbols rest) (λ ws end. Got (w, ws) end))) h
          ∙ ap (λ r. and_then r (λ ws end. Got (v, ws) end)) i.got;
      same_parts = blur_then V x symbols v i.parts vs i.same_parts;
    }

    tell_same : (signal : Signal) (symbols : List Symbol) (before mid : List Terminal) (vs : Parts V symbols)
        → (before ≡ [] → eats_all symbols ≡ false) → Alike symbols before mid vs
        → Alike (s.Tell signal ∷ symbols) before mid (told_ahead (before ++ old), vs)
    tell_same signal symbols [] mid vs none i = record {
      parts = (told_ahead new, i.parts);
      got = ap (λ r. and_then r (λ ws end. Got (told_ahead new, ws) end)) i.got;
      same_parts =
          ap (λ b. (blurred b (told_ahead new), blur V symbols i.parts)) (none refl)
          ∙ ap (λ told. (told, blur V symbols i.parts)) told_end
          ∙ ap (λ ws. (blurred false (told_ahead old), ws)) i.same_parts
          ∙ ap (λ b. (blurred b (told_ahead old), blur V symbols vs)) (sym (none refl));
    }
    tell_same signal symbols (y ∷ before) mid vs none i =
        then_same (s.Tell signal) symbols (y ∷ before) (y ∷ before) mid (told_ahead (y ∷ before ++ old)) vs refl i

    token_or_tree : (x : Symbol) (symbols : List Symbol) (before mid : List Terminal) (vs : Parts V (x ∷ symbols))
        → is_told x ≡ false → read_all trees (x ∷ symbols) (before ++ old) ≡ Got vs (mid ++ old)
        → ((middle : List Terminal) (ws : Parts V symbols) → read_all trees symbols (middle ++ old)
        ≡ Got ws (mid ++ old) → Alike symbols middle mid ws) → Alike (x ∷ symbols) before mid vs
    token_or_tree x symbols before mid vs t h next =
        let one : Then (read_one trees x (before ++ old)) (λ v rest.
        and_then (read_all trees symbols rest) (λ ws end. Got (v, ws) end)) vs (mid ++ old) =
        then_got (read_one trees x (before ++ old)) _ vs (mid ++ old) h in
        let others : Then (read_all trees symbols one.mid) (λ ws end. Got (one.first, ws) end) vs (mid ++ old) =
        then_got (read_all trees symbols one.mid) _ vs (mid ++ old) one.goes_on in
        let ends_so : others.mid ≡ mid ++ old =
        got_rest (one.first, others.first) vs others.mid (mid ++ old) others.goes_on in
        let got : read_all trees symbols one.mid ≡ Got others.first (mid ++ old) =
        others.got ∙ ap (Got others.first) ends_so in
        let further : Left one.mid (mid ++ old) =
        left_all trees left symbols one.mid others.first (mid ++ old) got in
        let middle : one.mid ≡ (further.passed ++ mid) ++ old =
        further.split ∙ sym (append_assoc further.passed mid old) in
        subst (Alike (x ∷ symbols) before mid)
        (got_value (one.first, others.first) vs others.mid (mid ++ old) others.goes_on)
        (then_same x symbols before (further.passed ++ mid) mid one.first others.first
        (one_same x before (further.passed ++ mid) one.first t (one.got ∙ ap (Got one.first) middle))
        (next (further.passed ++ mid) others.first
        (subst (λ us. read_all trees symbols us ≡ Got others.first (mid ++ old)) middle got)))

    all_same : (right : List Symbol) (before mid : List Terminal) (vs : Parts V right)
        → read_all trees right (before ++ old) ≡ Got vs (mid ++ old) → Alike right before mid vs
    all_same [] before mid vs h =
        let mids : before ≡ mid = append_cancel_right before mid old (got_rest tt vs (before ++ old) (mid ++ old) h) in
        (record { parts = vs; got = ap (λ us. Got vs (us ++ new)) mids; same_parts = refl })
    all_same (s.Tell signal ∷ symbols) before mid vs h =
        let others : Then (read_all trees symbols (before ++ old)) (λ ws end. Got (told_ahead (before ++ old), ws) end)
        vs (mid ++ old) = then_got (read_all trees symbols (before ++ old)) _ vs (mid ++ old) h in
        let ends_so : others.mid ≡ mid ++ old =
        got_rest (told_ahead (before ++ old), others.first) vs others.mid (mid ++ old) others.goes_on in
        let got : read_all trees symbols (before ++ old) ≡ Got others.first (mid ++ old) =
        others.got ∙ ap (Got others.first) ends_so in
        subst (Alike (s.Tell signal ∷ symbols) before mid)
        (got_value (told_ahead (before ++ old), others.first) vs others.mid (mid ++ old) others.goes_on)
        (tell_same signal symbols before mid others.first
        (λ empty. nothing_behind symbols mid others.first (subst (λ us. read_all trees symbols (us ++ old)
        ≡ Got others.first (mid ++ old)) empty got)) (all_same symbols before mid others.first got))
    all_same (s.Take wanted ∷ symbols) before mid vs h =
        token_or_tree (s.Take wanted) symbols before mid vs refl h (λ middle ws got. all_same symbols middle mid ws got)
    all_same (s.Read m ∷ symbols) before mid vs h =
        token_or_tree (s.Read m) symbols before mid vs refl h (λ middle ws got. all_same symbols middle mid ws got)

    goes_same : (m : Nonterminal) (r : RowOf V m) (before mid : List Terminal) (v : V m) → BlursIn V m r
        → by_row trees m r (before ++ old) ≡ Got v (mid ++ old) → by_row trees m r (before ++ new) ≡ Got v (mid ++ new)
    goes_same m (refuses cause) before mid v b h = cc
    goes_same m (goes right make) before mid v b h =
        let all : Then (read_all trees right (before ++ old)) (λ vs end. Got (make vs) end) v (mid ++ old) =
        then_got (read_all trees right (before ++ old)) _ v (mid ++ old) h in
        let alike : Alike right before mid all.first = all_same right before mid all.first
        (all.got ∙ ap (Got all.first) (got_rest (make all.first) v all.mid (mid ++ old) all.goes_on)) in
        ap (λ r. and_then r (λ vs end. Got (make vs) end)) alike.got
        ∙ ap (λ w. Got w (mid ++ new)) (sym (b alike.parts) ∙ ap make alike.same_parts ∙ b all.first
        ∙ got_value (make all.first) v all.mid (mid ++ old) all.goes_on)

    none_eaten : (m : Nonterminal) (r : RowOf V m) (mid : List Terminal) (v : V m)
        → by_row trees m r old ≡ Got v (mid ++ old) → EatsStep (step_of r) → ⊥
    none_eaten m (refuses cause) mid v h eaten = cc
    none_eaten m (goes right make) mid v h eaten =
        let all : Then (read_all trees right old) (λ vs end. Got (make vs) end) v (mid ++ old) =
        then_got (read_all trees right old) _ v (mid ++ old) h in
        true_false (sym eaten ∙ nothing_behind right mid all.first
        (all.got ∙ ap (Got all.first) (got_rest (make all.first) v all.mid (mid ++ old) all.goes_on)))

    -- rows of the grammar, which make something else
    module _ (turn : (m : Nonterminal) → Row m → RowOf V m)
        (keeps : (m : Nonterminal) (r : Row m) → step_of (turn m r) ≡ step_of r)
        (blurs : (m : Nonterminal) (l : Look) → BlursIn V m (turn m (row m l))) where
      first_row : (m : Nonterminal) (mid : List Terminal) (v : V m) → eats m ≡ false
          → by_row trees m (turn m (row m (look old))) old ≡ Got v (mid ++ old) → row m (look old) ≡ row m (look new)
      first_row m mid v none h =
          let l = look old in
          let l' = look new in
          either (first_same e.class ends.hole m e.token.newline l.two l'.two l.two_newline l.arrow l'.two_newline
          l'.arrow none)
        where
          seen_as : look new
              ≡ looked k.RightBrace e.token.newline (look new).two (look new).two_newline (look new).arrow
          seen_as =
              look_first f others
              ∙ ap (λ c. looked c f.token.newline (look new).two (look new).two_newline (look new).arrow) ends.brace
              ∙ ap (λ b. looked k.RightBrace b (look new).two (look new).two_newline (look new).arrow)
              (sym ends.newline)

          either : First m e.class e.token.newline (look old).two (look new).two (look old).two_newline (look old).arrow
              (look new).two_newline (look new).arrow → row m (look old) ≡ row m (look new)
          either (inl same_row) = ap (row m) (look_first e more) ∙ same_row ∙ ap (row m) (sym seen_as)
          either (inr eaten) =
              absurd (none_eaten m (turn m (row m (look old))) mid v h
              (subst EatsStep (sym (keeps m (row m (look old))))
              (subst (λ l. Eats m (row m l)) (sym (look_first e more)) eaten)))

      second_row : (m : Nonterminal) (x : Terminal) → row m (look (x ∷ old)) ≡ row m (look (x ∷ new))
      second_row m x =
          second_same e.class ends.hole m x.class x.token.newline e.token.newline (first_arrow x.class x.arrow e.arrow)
          ∙ ap (λ c. row m (looked x.class x.token.newline c e.token.newline (first_arrow x.class x.arrow e.arrow)))
          (sym ends.brace)
          ∙ ap (λ b. row m (looked x.class x.token.newline f.class b (first_arrow x.class x.arrow e.arrow)))
          ends.newline
          ∙ ap (λ a. row m (looked x.class x.token.newline f.class f.token.newline (first_arrow x.class x.arrow a)))
          ends.arrow

      rows_same : (m : Nonterminal) (before mid : List Terminal) (v : V m) → (before ≡ [] → eats m ≡ false)
          → by_row trees m (turn m (row m (look (before ++ old)))) (before ++ old) ≡ Got v (mid ++ old)
          → row m (look (before ++ old)) ≡ row m (look (before ++ new))
      rows_same m [] mid v none h = first_row m mid v (none refl) h
      rows_same m (x ∷ []) mid v none h = second_row m x
      rows_same m (x ∷ y ∷ before) mid v none h = refl

      row_same : (m : Nonterminal) (before mid : List Terminal) (v : V m) → (before ≡ [] → eats m ≡ false)
          → by_row trees m (turn m (row m (look (before ++ old)))) (before ++ old) ≡ Got v (mid ++ old)
          → by_row trees m (turn m (row m (look (before ++ new)))) (before ++ new) ≡ Got v (mid ++ new)
      row_same m before mid v none h =
          ap (λ r. by_row trees m (turn m r) (before ++ new)) (sym (rows_same m before mid v none h))
          ∙ goes_same m (turn m (row m (look (before ++ old)))) before mid v (blurs m (look (before ++ old))) h

-- ---- readings by such rows

got_ends : {A : Type 0} (r : Reading A) (v : A) (rest : List Terminal) → r ≡ Got v rest → Ends r
got_ends r v rest h = subst Ends (sym h) tt

module _ {V : Nonterminal → Type 0} (turn : (m : Nonterminal) → Row m → RowOf V m)
    (keeps : (m : Nonterminal) (r : Row m) → step_of (turn m r) ≡ step_of r)
    (blurs : (m : Nonterminal) (l : Look) → BlursIn V m (turn m (row m l))) where
  abbrev turned : Table V
  turned m l = turn m (row m l)

  turned_fine : Fine turned
  turned_fine m l = ap (is_fine m) (keeps m (row m l)) ∙ rows_fine m l

  left_to : (d : ℕ) (m : Nonterminal) (ts : List Terminal) (v : V m) (rest : List Terminal)
      → reads_to turned d m ts ≡ Got v rest → Left ts rest
  unfolding reads_to
  left_to zero m ts v rest h = cc
  left_to (suc d) m ts v rest h = left_row (reads_to turned d) (left_to d) m (turned m (look ts)) ts v rest h

  left_by : (m : Nonterminal) (ts : List Terminal) (v : V m) (rest : List Terminal)
      → reads_by turned m ts ≡ Got v rest → Left ts rest
  unfolding reads_by
  left_by m ts v rest h = left_to (enough ts) m ts v rest h

  to_reads : (d : ℕ) (m : Nonterminal) (ts : List Terminal) (v : V m) (rest : List Terminal)
      → reads_to turned d m ts ≡ Got v rest → reads_by turned m ts ≡ Got v rest
  unfolding reads_by
  to_reads d m ts v rest h =
      same_depth turned (enough ts) d m ts (by_ends turned turned_fine m ts)
      (got_ends (reads_to turned d m ts) v rest h) ∙ h

  module _ (e f : Terminal) (more others : List Terminal) (ends : EndsHole e f) where
    same_to : (d : ℕ) (m : Nonterminal) (before mid : List Terminal) (v : V m)
        → reads_to turned d m (before ++ e ∷ more) ≡ Got v (mid ++ e ∷ more)
        → reads_to turned d m (before ++ f ∷ others) ≡ Got v (mid ++ f ∷ others)
    unfolding reads_to
    same_to zero m before mid v h = cc
    same_to (suc d) m before mid v h =
        row_same e f more others ends (reads_to turned d) (left_to d) (shrinks turned turned_fine d) (same_to d)
        turn keeps blurs m before mid v
        (λ empty. no_eating (eats m) mid (e ∷ more)
        (within_got (eats m) (length (e ∷ more)) (reads_to turned (suc d) m (e ∷ more)) v (mid ++ e ∷ more)
        (subst (λ us. reads_to turned (suc d) m (us ++ e ∷ more) ≡ Got v (mid ++ e ∷ more)) empty h)
        (shrinks turned turned_fine (suc d) m (e ∷ more)))) h

    same_by : (m : Nonterminal) (before mid : List Terminal) (v : V m)
        → reads_by turned m (before ++ e ∷ more) ≡ Got v (mid ++ e ∷ more)
        → reads_by turned m (before ++ f ∷ others) ≡ Got v (mid ++ f ∷ others)
    unfolding reads_by
    same_by m before mid v h =
        to_reads (enough (before ++ e ∷ more)) m (before ++ f ∷ others) v (mid ++ f ∷ others)
        (same_to (enough (before ++ e ∷ more)) m before mid v h)

    all_same_by : (right : List Symbol) (before mid : List Terminal) (vs : Parts V right) → untold right ≡ true
        → read_all (reads_by turned) right (before ++ e ∷ more) ≡ Got vs (mid ++ e ∷ more)
        → read_all (reads_by turned) right (before ++ f ∷ others) ≡ Got vs (mid ++ f ∷ others)
    all_same_by right before mid vs none h =
        let alike : Alike e f more others ends (reads_by turned) left_by (by_shorter turned turned_fine) same_by right
        before mid vs =
        all_same e f more others ends (reads_by turned) left_by (by_shorter turned turned_fine) same_by right
        before mid vs h in
        alike.got
        ∙ ap (λ ws. Got ws (mid ++ f ∷ others))
        (sym (untold_blur V right alike.parts none) ∙ alike.same_parts ∙ untold_blur V right vs none)

-- ---- readings of trees, and readings with counts

abbrev as_is : (m : Nonterminal) → Row m → RowOf Value m
as_is m r = r

as_is_keeps : (m : Nonterminal) (r : Row m) → step_of (as_is m r) ≡ step_of r
as_is_keeps m r = refl

abbrev counts : (m : Nonterminal) → Row m → RowOf Owned m
counts m r = counting r

counts_keeps : (m : Nonterminal) (r : Row m) → step_of (counts m r) ≡ step_of r
counts_keeps m (goes right make) = refl
counts_keeps m (refuses cause) = refl

counted_blur : (opened : Bool) (right : List Symbol) (p : Parts Owned right)
    → counted_from opened right (blur Owned right p) ≡ counted_from opened right p
counted_blur opened [] p = refl
counted_blur opened (s.Take wanted ∷ more) p =
    ap (λ k. unless_open opened (taken wanted) + k) (counted_blur opened more p.1)
counted_blur opened (s.Read m ∷ more) p = ap (λ k. unless_open opened p.0 + k) (counted_blur opened more p.1)
counted_blur opened (s.Tell signal ∷ more) p = counted_blur (open_behind signal opened) more p.1

row_counts_blur : (m : Nonterminal) (r : Row m) → BlursIn Owned m (counts m r)
row_counts_blur m (goes right make) = counted_blur false right
row_counts_blur m (refuses cause) = tt

counts_blur : (m : Nonterminal) (l : Look) → BlursIn Owned m (counts m (row m l))
counts_blur m l = row_counts_blur m (row m l)

pub owns_law : (m : Nonterminal) (ts : List Terminal) → owns m ts ≡ by_row owns m (own_row m (look ts)) ts
owns_law = by_law own_row (turned_fine counts counts_keeps counts_blur)

pub symbols_left : (right : List Symbol) (ts : List Terminal) (vs : Parts Value right) (rest : List Terminal)
    → read_all reads right ts ≡ Got vs rest → Left ts rest
symbols_left = left_all reads (left_by as_is as_is_keeps rows_blur)

module _ (e f : Terminal) (more others : List Terminal) (ends : EndsHole e f) where
  -- what is read before a hole ends is read where a block ends there
  pub reads_same : (m : Nonterminal) (before mid : List Terminal) (v : Value m)
      → reads m (before ++ e ∷ more) ≡ Got v (mid ++ e ∷ more)
      → reads m (before ++ f ∷ others) ≡ Got v (mid ++ f ∷ others)
  reads_same = same_by as_is as_is_keeps rows_blur e f more others ends

  -- so are symbols between which nothing is told
  pub symbols_same : (right : List Symbol) (before mid : List Terminal) (vs : Parts Value right) → untold right ≡ true
      → read_all reads right (before ++ e ∷ more) ≡ Got vs (mid ++ e ∷ more)
      → read_all reads right (before ++ f ∷ others) ≡ Got vs (mid ++ f ∷ others)
  symbols_same = all_same_by as_is as_is_keeps rows_blur e f more others ends

  -- with the same counts
  pub symbols_counted : (right : List Symbol) (before mid : List Terminal) (vs : Parts Owned right)
      → untold right ≡ true → read_all owns right (before ++ e ∷ more) ≡ Got vs (mid ++ e ∷ more)
      → read_all owns right (before ++ f ∷ others) ≡ Got vs (mid ++ f ∷ others)
  symbols_counted = all_same_by counts counts_keeps counts_blur e f more others ends

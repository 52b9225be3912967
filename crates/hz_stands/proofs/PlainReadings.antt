-- Each function is read in one of the plainer ways.
use Rattle.std.proofs.Common.{◌≡◌, Bool, true, false, List, [], ◌∷◌, Some, None, All, refl, ap, ◌∙◌, sym}
use Rattle.hz_tree.specs.declared.class.Class.{Class}
use Rattle.hz_tree.specs.declared.class.Class.TheVariants as k
use Rattle.hz_tree.specs.declared.nonterminal.Context.{Context}
use Rattle.hz_tree.specs.declared.nonterminal.Nonterminal.{Nonterminal}
use Rattle.hz_tree.specs.declared.nonterminal.Nonterminal.TheVariants as n
use Rattle.hz_tree.specs.declared.signal.Role.TheVariants as role
use Rattle.hz_tree.specs.declared.symbol.Symbol.{Symbol}
use Rattle.hz_tree.specs.declared.symbol.Symbol.TheVariants as s
use Rattle.hz_tree.specs.declared.tree.Tree.{Tree}
use Rattle.hz_tree.specs.grammar.ExpressionRows.{arrow_body_row}
use Rattle.hz_tree.specs.grammar.Look.{Terminal, look}
use Rattle.hz_tree.specs.grammar.Symbols.{Parts, Value, of_body}
use Rattle.hz_tree.specs.reading.Reading.{Got, read_all, by_row, reads}
use Rattle.hz_laws.proofs.Balance.{got_rest}
use Rattle.hz_laws.proofs.Ranks.{false_true}
use Rattle.hz_laws.proofs.ReadingLaws.{reads_law}
use Rattle.hz_stands.specs.Heads.{placed_context, settled}
use Rattle.hz_stands.specs.Nodes.{FunctionNode, value_nodes}
use Rattle.hz_stands.specs.Plain.{is_plain, StandingPlain}
use Rattle.hz_stands.specs.Stands.{Shape, declared, expressed, arrowed, method, getter, setter, written, Standing}
use Rattle.hz_stands.proofs.Plain.{own_name_read, no_parameters, params_read, one_parameter, end_read}
use Rattle.hz_stands.proofs.MovedReadings.{read_anywhere}
use Rattle.hz_stands.proofs.Readings.{Stands, functions_stand}
use Rattle.hz_stands.proofs.Settled.{shape_settled}
use Rattle.hz_stands.proofs.Several.{Cons, cons_got, cons_makes}

record PlainReading (shape : Shape) (from left : List Terminal) (parts : Parts Value (written shape).symbols)
    : Type 0 where
  other : Shape
  others : Parts Value (written other).symbols
  plain : is_plain other ≡ true
  read : read_all reads (written other).symbols from ≡ Got others left
  kind : (written shape).kind ≡ (written other).kind
  given : (written shape).given parts ≡ (written other).given others

abbrev inner : (generator : Bool) → List Symbol
inner generator = s.Read n.Params ∷ s.Read (n.Body generator) ∷ []

abbrev named : (generator : Bool) → List Symbol
named generator = s.Read (n.Bound role.Function) ∷ inner generator

abbrev owned : (generator : Bool) → List Symbol
owned generator = s.Read n.OwnName ∷ inner generator

-- a name in the place of an own name
named_read : (generator : Bool) (ts left : List Terminal) (p : Parts Value (named generator))
    → read_all reads (named generator) ts ≡ Got p left
    → read_all reads (owned generator) ts ≡ Got (Some p.0, p.1) left
named_read generator ts left p h =
    let c : Cons reads (s.Read (n.Bound role.Function)) (inner generator) ts p left =
    cons_got reads (s.Read (n.Bound role.Function)) (inner generator) ts p left h in
    cons_makes (s.Read n.OwnName) (inner generator) ts c.mid left (Some p.0) p.1 (own_name_read ts c.mid p.0 c.first)
    c.others

plain_declared : (generator : Bool) (from left : List Terminal)
    (parts : Parts Value (written (declared generator)).symbols)
    → read_all reads (written (declared generator)).symbols from ≡ Got parts left
    → PlainReading (declared generator) from left parts
plain_declared true from left p h =
    let c : Cons reads (s.Take k.Function) (s.Take k.Star ∷ named true) from p left =
    cons_got reads (s.Take k.Function) (s.Take k.Star ∷ named true) from p left h in
    let d : Cons reads (s.Take k.Star) (named true) c.mid p.1 left =
    cons_got reads (s.Take k.Star) (named true) c.mid p.1 left c.others in
    record {
      other = expressed true;
      others = (p.0, (p.1.0, (Some p.1.1.0, p.1.1.1)));
      plain = refl;
      read =
          cons_makes (s.Take k.Function) (s.Take k.Star ∷ owned true) from c.mid left p.0
          (p.1.0, (Some p.1.1.0, p.1.1.1)) c.first
          (cons_makes (s.Take k.Star) (owned true) c.mid d.mid left p.1.0 (Some p.1.1.0, p.1.1.1) d.first
          (named_read true d.mid left p.1.1 d.others));
      kind = refl;
      given = refl;
    }
plain_declared false from left p h =
    let c : Cons reads (s.Take k.Function) (named false) from p left =
    cons_got reads (s.Take k.Function) (named false) from p left h in
    record {
      other = expressed false;
      others = (p.0, (Some p.1.0, p.1.1));
      plain = refl;
      read =
          cons_makes (s.Take k.Function) (owned false) from c.mid left p.0 (Some p.1.0, p.1.1) c.first
          (named_read false c.mid left p.1 c.others);
      kind = refl;
      given = refl;
    }

abbrev bodied : List Symbol
bodied = s.Read (n.Body false) ∷ []

plain_getter : (from left : List Terminal) (parts : Parts Value (written getter).symbols)
    → read_all reads (written getter).symbols from ≡ Got parts left → PlainReading getter from left parts
plain_getter from left p h =
    let c : Cons reads (s.Take k.LeftParen) (s.Take k.RightParen ∷ bodied) from p left =
    cons_got reads (s.Take k.LeftParen) (s.Take k.RightParen ∷ bodied) from p left h in
    let d : Cons reads (s.Take k.RightParen) bodied c.mid p.1 left =
    cons_got reads (s.Take k.RightParen) bodied c.mid p.1 left c.others in
    record {
      other = method false;
      others = (([], None), p.1.1);
      plain = refl;
      read =
          cons_makes (s.Read n.Params) bodied from d.mid left ([], None) p.1.1
          (params_read from c.mid c.mid d.mid p.0 p.1.0 ([], None) c.first (no_parameters c.mid d.mid p.1.0 d.first)
          d.first)
          d.others;
      kind = refl;
      given = refl;
    }

abbrev closed : List Symbol
closed = s.Take k.RightParen ∷ bodied

plain_setter : (from left : List Terminal) (parts : Parts Value (written setter).symbols)
    → read_all reads (written setter).symbols from ≡ Got parts left → PlainReading setter from left parts
plain_setter from left p h =
    let c : Cons reads (s.Take k.LeftParen) (s.Read (n.Bound role.Parameter) ∷ s.Read n.ParameterEnd ∷ closed) from p
    left =
    cons_got reads (s.Take k.LeftParen) (s.Read (n.Bound role.Parameter) ∷ s.Read n.ParameterEnd ∷ closed) from p left
    h in
    let d : Cons reads (s.Read (n.Bound role.Parameter)) (s.Read n.ParameterEnd ∷ closed) c.mid p.1 left =
    cons_got reads (s.Read (n.Bound role.Parameter)) (s.Read n.ParameterEnd ∷ closed) c.mid p.1 left c.others in
    let e : Cons reads (s.Read n.ParameterEnd) closed d.mid p.1.1 left =
    cons_got reads (s.Read n.ParameterEnd) closed d.mid p.1.1 left d.others in
    let same : d.mid ≡ e.mid = end_read d.mid e.mid p.1.1.0 e.first in
    let g : Cons reads (s.Take k.RightParen) bodied d.mid p.1.1.1 left =
    cons_got reads (s.Take k.RightParen) bodied d.mid p.1.1.1 left (ap (read_all reads closed) same ∙ e.others) in
    record {
      other = method false;
      others = ((p.1.0 ∷ [], None), p.1.1.1.1);
      plain = refl;
      read =
          cons_makes (s.Read n.Params) bodied from g.mid left (p.1.0 ∷ [], None) p.1.1.1.1
          (params_read from c.mid d.mid g.mid p.0 p.1.1.1.0 (p.1.0 ∷ [], None) c.first
          (one_parameter c.mid d.mid g.mid p.1.0 p.1.1.1.0 d.first g.first) g.first)
          g.others;
      kind = refl;
      given = refl;
    }

-- outside of heads, the body of an arrow is read alike in every function
same_body : (c : Context) (one : Class) (ts : List Terminal)
    → by_row reads (n.ArrowBody (placed_context false c)) (arrow_body_row (placed_context false c) one) ts
    ≡ by_row reads (n.ArrowBody (of_body false)) (arrow_body_row (of_body false) one) ts
same_body c k.LeftBrace ts = refl
same_body c _ ts = refl

arrow_body : (c : Context) (ts left : List Terminal) (body : Tree) → settled (n.ArrowBody c) left ≡ true
    → reads (n.ArrowBody c) ts ≡ Got body left → reads (n.ArrowBody (of_body false)) ts ≡ Got body left
arrow_body c ts left body settled h =
    reads_law (n.ArrowBody (of_body false)) ts
    ∙ sym (same_body c (look ts).one ts)
    ∙ sym (reads_law (n.ArrowBody (placed_context false c)) ts)
    ∙ read_anywhere (n.ArrowBody c) ts left body settled h

-- parameters, the sign and the body
abbrev arrow_parts : (first : Symbol) → Context → List Symbol
arrow_parts first c = first ∷ s.Read n.ArrowSign ∷ s.Read (n.ArrowBody c) ∷ []

arrow_read : (first : Symbol) (c : Context) (from left : List Terminal) (p : Parts Value (arrow_parts first c))
    → settled (n.ArrowBody c) left ≡ true → read_all reads (arrow_parts first c) from ≡ Got p left
    → read_all reads (arrow_parts first (of_body false)) from ≡ Got p left
arrow_read first c from left p settled h =
    let a : Cons reads first (s.Read n.ArrowSign ∷ s.Read (n.ArrowBody c) ∷ []) from p left =
    cons_got reads first (s.Read n.ArrowSign ∷ s.Read (n.ArrowBody c) ∷ []) from p left h in
    let b : Cons reads (s.Read n.ArrowSign) (s.Read (n.ArrowBody c) ∷ []) a.mid p.1 left =
    cons_got reads (s.Read n.ArrowSign) (s.Read (n.ArrowBody c) ∷ []) a.mid p.1 left a.others in
    let d : Cons reads (s.Read (n.ArrowBody c)) [] b.mid p.1.1 left =
    cons_got reads (s.Read (n.ArrowBody c)) [] b.mid p.1.1 left b.others in
    let body : reads (n.ArrowBody c) b.mid ≡ Got p.1.1.0 left =
    d.first ∙ ap (Got p.1.1.0) (got_rest tt p.1.1.1 d.mid left d.others) in
    cons_makes first (s.Read n.ArrowSign ∷ s.Read (n.ArrowBody (of_body false)) ∷ []) from a.mid left p.0 p.1 a.first
    (cons_makes (s.Read n.ArrowSign) (s.Read (n.ArrowBody (of_body false)) ∷ []) a.mid b.mid left p.1.0 p.1.1 b.first
    (cons_makes (s.Read (n.ArrowBody (of_body false))) [] b.mid left left p.1.1.0 p.1.1.1
    (arrow_body c b.mid left p.1.1.0 settled body) refl))

plain_arrow : (c : Context) (parenthesised : Bool) (from left : List Terminal)
    (parts : Parts Value (written (arrowed c parenthesised)).symbols)
    → settled (n.ArrowBody c) left ≡ true
    → read_all reads (written (arrowed c parenthesised)).symbols from ≡ Got parts left
    → PlainReading (arrowed c parenthesised) from left parts
plain_arrow c true from left p settled h = record {
  other = arrowed (of_body false) true;
  others = p;
  plain = refl;
  read = arrow_read (s.Read n.Params) c from left p settled h;
  kind = refl;
  given = refl;
}
plain_arrow c false from left p settled h = record {
  other = arrowed (of_body false) false;
  others = p;
  plain = refl;
  read = arrow_read (s.Read (n.Bound role.Parameter)) c from left p settled h;
  kind = refl;
  given = refl;
}

plain_reading : (shape : Shape) (from left : List Terminal) (parts : Parts Value (written shape).symbols)
    → shape_settled shape left ≡ true → read_all reads (written shape).symbols from ≡ Got parts left
    → PlainReading shape from left parts
plain_reading (declared generator) from left p settled h = plain_declared generator from left p h
plain_reading (expressed generator) from left p settled h =
    record { other = expressed generator; others = p; plain = refl; read = h; kind = refl; given = refl }
plain_reading (arrowed c parenthesised) from left p settled h = plain_arrow c parenthesised from left p settled h
plain_reading (method generator) from left p settled h =
    record { other = method generator; others = p; plain = refl; read = h; kind = refl; given = refl }
plain_reading getter from left p settled h = plain_getter from left p h
plain_reading setter from left p settled h = plain_setter from left p h

plainly : (f : FunctionNode) (ts : List Terminal) → Stands true f ts → StandingPlain f ts
plainly f ts stands =
    let h : Standing f ts = stands.standing in
    let r : PlainReading h.shape h.from h.left h.parts =
    plain_reading h.shape h.from h.left h.parts (stands.settled refl) h.read in
    record {
      standing = record {
        passed = h.passed;
        from = h.from;
        left = h.left;
        shape = r.other;
        parts = r.others;
        split = h.split;
        start = h.start;
        read = r.read;
        end = h.end;
        kind = h.kind ∙ r.kind;
        given = h.given ∙ r.given;
      };
      plain = r.plain;
    }

-- Each function in what is read stands among the terminals.
pub all_stand : (m : Nonterminal) (ts rest : List Terminal) (v : Value m) → reads m ts ≡ Got v rest
    → All (λ f. Standing f ts) (value_nodes m v)
all_stand m ts rest v is =
    λ i d below. (functions_stand false m ts rest v (λ k. absurd (false_true k)) is i d below).standing

-- Where the reading is settled, it is read in a plain way.
pub functions_stand_plainly : (m : Nonterminal) (ts rest : List Terminal) (v : Value m) → settled m rest ≡ true
    → reads m ts ≡ Got v rest
    → All (λ f. StandingPlain f ts) (value_nodes m v)
functions_stand_plainly m ts rest v settled is =
    λ i d below. plainly _ ts (functions_stand true m ts rest v (λ k. settled) is i d below)

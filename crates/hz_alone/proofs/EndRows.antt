-- Each row is the same where a hole of a template ends and where a block does, but for rows that take a token there.
use Rattle.std.proofs.Common.{◌≡◌, Bool, true, false, ◌⊎◌, inl, inr, refl}
use Rattle.hz_tree.specs.declared.class.Class.{Class}
use Rattle.hz_tree.specs.declared.class.Class.TheVariants as k
use Rattle.hz_tree.specs.declared.nonterminal.Nonterminal.{Nonterminal}
use Rattle.hz_tree.specs.declared.nonterminal.Nonterminal.TheVariants as n
use Rattle.hz_tree.specs.grammar.Symbols.{Row}
use Rattle.hz_tree.specs.grammar.Table.{Step, pushes, fails, row, step_of}
use Rattle.hz_laws.proofs.Ranks.{eats, eats_all}
use Rattle.hz_laws.proofs.RowLaws.{looked}
use Rattle.hz_alone.specs.Middle.{goes_on}

-- ---- as the second token

middle_second : (m : Nonterminal) (one : Class) (newline newline' arrow : Bool)
    → row m (looked one newline k.TemplateMiddle newline' arrow) ≡ row m (looked one newline k.RightBrace newline'
    arrow)
middle_second (n.Item c) k.Plus _ _ _ = refl
middle_second (n.Item c) _ _ _ _ = refl
middle_second (n.Statement c) k.Plus _ _ _ = refl
middle_second (n.Statement c) _ _ _ _ = refl
middle_second (n.Bound role) k.Plus _ _ _ = refl
middle_second (n.Bound role) _ _ _ _ = refl
middle_second n.Semi k.Plus _ _ _ = refl
middle_second n.Semi _ _ _ _ = refl
middle_second (n.Handlers c) k.Plus _ _ _ = refl
middle_second (n.Handlers c) _ _ _ _ = refl
middle_second (n.Head c) k.Plus _ _ _ = refl
middle_second (n.Head c) _ _ _ _ = refl
middle_second (n.Operation loosest c) k.Plus _ _ _ = refl
middle_second (n.Operation loosest c) _ _ _ _ = refl
middle_second (n.Tails true loosest c) k.Plus _ _ _ = refl
middle_second (n.Tails true loosest c) _ _ _ _ = refl
middle_second (n.Tails false loosest c) k.Plus _ _ _ = refl
middle_second (n.Tails false loosest c) _ _ _ _ = refl
middle_second n.Word k.Plus _ _ _ = refl
middle_second n.Word _ _ _ _ = refl
middle_second (n.Primary c) k.Plus _ _ _ = refl
middle_second (n.Primary c) _ _ _ _ = refl
middle_second (n.TemplateRest c) k.Plus _ _ _ = refl
middle_second (n.TemplateRest c) _ _ _ _ = refl
middle_second (n.Prop c) k.Plus _ _ _ = refl
middle_second (n.Prop c) _ _ _ _ = refl
middle_second (n.KeyRest c) k.Plus _ _ _ = refl
middle_second (n.KeyRest c) _ _ _ _ = refl
middle_second (n.Key c) k.Plus _ _ _ = refl
middle_second (n.Key c) _ _ _ _ = refl
middle_second _ _ _ _ _ = refl

tail_second : (m : Nonterminal) (one : Class) (newline newline' arrow : Bool)
    → row m (looked one newline k.TemplateTail newline' arrow) ≡ row m (looked one newline k.RightBrace newline' arrow)
tail_second (n.Item c) k.Plus _ _ _ = refl
tail_second (n.Item c) _ _ _ _ = refl
tail_second (n.Statement c) k.Plus _ _ _ = refl
tail_second (n.Statement c) _ _ _ _ = refl
tail_second (n.Bound role) k.Plus _ _ _ = refl
tail_second (n.Bound role) _ _ _ _ = refl
tail_second n.Semi k.Plus _ _ _ = refl
tail_second n.Semi _ _ _ _ = refl
tail_second (n.Handlers c) k.Plus _ _ _ = refl
tail_second (n.Handlers c) _ _ _ _ = refl
tail_second (n.Head c) k.Plus _ _ _ = refl
tail_second (n.Head c) _ _ _ _ = refl
tail_second (n.Operation loosest c) k.Plus _ _ _ = refl
tail_second (n.Operation loosest c) _ _ _ _ = refl
tail_second (n.Tails true loosest c) k.Plus _ _ _ = refl
tail_second (n.Tails true loosest c) _ _ _ _ = refl
tail_second (n.Tails false loosest c) k.Plus _ _ _ = refl
tail_second (n.Tails false loosest c) _ _ _ _ = refl
tail_second n.Word k.Plus _ _ _ = refl
tail_second n.Word _ _ _ _ = refl
tail_second (n.Primary c) k.Plus _ _ _ = refl
tail_second (n.Primary c) _ _ _ _ = refl
tail_second (n.TemplateRest c) k.Plus _ _ _ = refl
tail_second (n.TemplateRest c) _ _ _ _ = refl
tail_second (n.Prop c) k.Plus _ _ _ = refl
tail_second (n.Prop c) _ _ _ _ = refl
tail_second (n.KeyRest c) k.Plus _ _ _ = refl
tail_second (n.KeyRest c) _ _ _ _ = refl
tail_second (n.Key c) k.Plus _ _ _ = refl
tail_second (n.Key c) _ _ _ _ = refl
tail_second _ _ _ _ _ = refl

unfinished_second : (m : Nonterminal) (one : Class) (newline newline' arrow : Bool)
    → row m (looked one newline k.Malformed newline' arrow) ≡ row m (looked one newline k.RightBrace newline' arrow)
unfinished_second (n.Item c) k.Plus _ _ _ = refl
unfinished_second (n.Item c) _ _ _ _ = refl
unfinished_second (n.Statement c) k.Plus _ _ _ = refl
unfinished_second (n.Statement c) _ _ _ _ = refl
unfinished_second (n.Bound role) k.Plus _ _ _ = refl
unfinished_second (n.Bound role) _ _ _ _ = refl
unfinished_second n.Semi k.Plus _ _ _ = refl
unfinished_second n.Semi _ _ _ _ = refl
unfinished_second (n.Handlers c) k.Plus _ _ _ = refl
unfinished_second (n.Handlers c) _ _ _ _ = refl
unfinished_second (n.Head c) k.Plus _ _ _ = refl
unfinished_second (n.Head c) _ _ _ _ = refl
unfinished_second (n.Operation loosest c) k.Plus _ _ _ = refl
unfinished_second (n.Operation loosest c) _ _ _ _ = refl
unfinished_second (n.Tails true loosest c) k.Plus _ _ _ = refl
unfinished_second (n.Tails true loosest c) _ _ _ _ = refl
unfinished_second (n.Tails false loosest c) k.Plus _ _ _ = refl
unfinished_second (n.Tails false loosest c) _ _ _ _ = refl
unfinished_second n.Word k.Plus _ _ _ = refl
unfinished_second n.Word _ _ _ _ = refl
unfinished_second (n.Primary c) k.Plus _ _ _ = refl
unfinished_second (n.Primary c) _ _ _ _ = refl
unfinished_second (n.TemplateRest c) k.Plus _ _ _ = refl
unfinished_second (n.TemplateRest c) _ _ _ _ = refl
unfinished_second (n.Prop c) k.Plus _ _ _ = refl
unfinished_second (n.Prop c) _ _ _ _ = refl
unfinished_second (n.KeyRest c) k.Plus _ _ _ = refl
unfinished_second (n.KeyRest c) _ _ _ _ = refl
unfinished_second (n.Key c) k.Plus _ _ _ = refl
unfinished_second (n.Key c) _ _ _ _ = refl
unfinished_second _ _ _ _ _ = refl

pub second_same : (two : Class) → goes_on two ≡ true → (m : Nonterminal) (one : Class) (newline newline' arrow : Bool)
    → row m (looked one newline two newline' arrow) ≡ row m (looked one newline k.RightBrace newline' arrow)
second_same k.TemplateMiddle h = middle_second
second_same k.TemplateTail h = tail_second
second_same k.Malformed h = unfinished_second
second_same _ h = cc

-- ---- as the first token

-- a token is taken, or none can be
abbrev pub EatsStep : Step → Type 0
EatsStep (pushes right) = eats_all right ≡ true
EatsStep (fails cause) = Unit {0}

abbrev pub Eats : (m : Nonterminal) → Row m → Type 0
Eats m r = EatsStep (step_of r)

abbrev pub First : (m : Nonterminal) → (one : Class) → (newline : Bool) → (two two' : Class) → (a b a' b' : Bool)
    → Type 0
First m one newline two two' a b a' b' =
    (row m (looked one newline two a b) ≡ row m (looked k.RightBrace newline two' a' b'))
    ⊎ Eats m (row m (looked one newline two a b))

middle_first : (m : Nonterminal) (newline : Bool) (two two' : Class) (a b a' b' : Bool) → eats m ≡ false
    → First m k.TemplateMiddle newline two two' a b a' b'
middle_first (n.Items c) _ _ _ _ _ _ _ h = inr refl
middle_first (n.MoreBinds word c) _ _ _ _ _ _ _ h = inl refl
middle_first (n.Initial word c) _ _ _ _ _ _ _ h = inl refl
middle_first n.Semi true _ _ _ _ _ _ h = inl refl
middle_first n.Semi false _ _ _ _ _ _ h = inr tt
middle_first n.LooseSemi _ _ _ _ _ _ _ h = inl refl
middle_first (n.Else c) _ _ _ _ _ _ _ h = inl refl
middle_first (n.Label jump) true _ _ _ _ _ _ h = inl refl
middle_first (n.Label jump) false _ _ _ _ _ _ h = inl refl
middle_first (n.ReturnValue c) true _ _ _ _ _ _ h = inl refl
middle_first (n.ReturnValue c) false _ _ _ _ _ _ h = inr refl
middle_first (n.Clauses c has_default) _ _ _ _ _ _ _ h = inl refl
middle_first (n.Handlers c) _ _ _ _ _ _ _ h = inr tt
middle_first n.CatchName _ _ _ _ _ _ _ h = inl refl
middle_first (n.Finally c) _ _ _ _ _ _ _ h = inl refl
middle_first (n.OptionalExpr c) _ _ _ _ _ _ _ h = inr refl
middle_first (n.ExprRest listed c) _ _ _ _ _ _ _ h = inl refl
middle_first (n.Tails true loosest c) _ _ _ _ _ _ _ h = inl refl
middle_first (n.Tails false loosest c) _ _ _ _ _ _ _ h = inl refl
middle_first (n.Rests loosest tightest c) _ _ _ _ _ _ _ h = inl refl
middle_first (n.YieldValue c) true _ _ _ _ _ _ h = inl refl
middle_first (n.YieldValue c) false _ _ _ _ _ _ h = inl refl
middle_first (n.Members c) _ _ _ _ _ _ _ h = inl refl
middle_first (n.NewArgs c) _ _ _ _ _ _ _ h = inl refl
middle_first (n.Arguments c) _ _ _ _ _ _ _ h = inr refl
middle_first (n.MoreArguments c) _ _ _ _ _ _ _ h = inl refl
middle_first (n.Elements c) _ _ _ _ _ _ _ h = inr refl
middle_first (n.MoreElements c) _ _ _ _ _ _ _ h = inl refl
middle_first (n.Props c) _ _ _ _ _ _ _ h = inr refl
middle_first (n.MoreProps c) _ _ _ _ _ _ _ h = inl refl
middle_first n.ShorthandEnd _ _ _ _ _ _ _ h = inl refl
middle_first n.OwnName _ _ _ _ _ _ _ h = inl refl
middle_first n.Parameters _ _ _ _ _ _ _ h = inr refl
middle_first n.MoreParameters _ _ _ _ _ _ _ h = inl refl
middle_first n.ParameterEnd _ _ _ _ _ _ _ h = inl refl
middle_first _ _ _ _ _ _ _ _ h = cc

tail_first : (m : Nonterminal) (newline : Bool) (two two' : Class) (a b a' b' : Bool) → eats m ≡ false
    → First m k.TemplateTail newline two two' a b a' b'
tail_first (n.Items c) _ _ _ _ _ _ _ h = inr refl
tail_first (n.MoreBinds word c) _ _ _ _ _ _ _ h = inl refl
tail_first (n.Initial word c) _ _ _ _ _ _ _ h = inl refl
tail_first n.Semi true _ _ _ _ _ _ h = inl refl
tail_first n.Semi false _ _ _ _ _ _ h = inr tt
tail_first n.LooseSemi _ _ _ _ _ _ _ h = inl refl
tail_first (n.Else c) _ _ _ _ _ _ _ h = inl refl
tail_first (n.Label jump) true _ _ _ _ _ _ h = inl refl
tail_first (n.Label jump) false _ _ _ _ _ _ h = inl refl
tail_first (n.ReturnValue c) true _ _ _ _ _ _ h = inl refl
tail_first (n.ReturnValue c) false _ _ _ _ _ _ h = inr refl
tail_first (n.Clauses c has_default) _ _ _ _ _ _ _ h = inl refl
tail_first (n.Handlers c) _ _ _ _ _ _ _ h = inr tt
tail_first n.CatchName _ _ _ _ _ _ _ h = inl refl
tail_first (n.Finally c) _ _ _ _ _ _ _ h = inl refl
tail_first (n.OptionalExpr c) _ _ _ _ _ _ _ h = inr refl
tail_first (n.ExprRest listed c) _ _ _ _ _ _ _ h = inl refl
tail_first (n.Tails true loosest c) _ _ _ _ _ _ _ h = inl refl
tail_first (n.Tails false loosest c) _ _ _ _ _ _ _ h = inl refl
tail_first (n.Rests loosest tightest c) _ _ _ _ _ _ _ h = inl refl
tail_first (n.YieldValue c) true _ _ _ _ _ _ h = inl refl
tail_first (n.YieldValue c) false _ _ _ _ _ _ h = inl refl
tail_first (n.Members c) _ _ _ _ _ _ _ h = inl refl
tail_first (n.NewArgs c) _ _ _ _ _ _ _ h = inl refl
tail_first (n.Arguments c) _ _ _ _ _ _ _ h = inr refl
tail_first (n.MoreArguments c) _ _ _ _ _ _ _ h = inl refl
tail_first (n.Elements c) _ _ _ _ _ _ _ h = inr refl
tail_first (n.MoreElements c) _ _ _ _ _ _ _ h = inl refl
tail_first (n.Props c) _ _ _ _ _ _ _ h = inr refl
tail_first (n.MoreProps c) _ _ _ _ _ _ _ h = inl refl
tail_first n.ShorthandEnd _ _ _ _ _ _ _ h = inl refl
tail_first n.OwnName _ _ _ _ _ _ _ h = inl refl
tail_first n.Parameters _ _ _ _ _ _ _ h = inr refl
tail_first n.MoreParameters _ _ _ _ _ _ _ h = inl refl
tail_first n.ParameterEnd _ _ _ _ _ _ _ h = inl refl
tail_first _ _ _ _ _ _ _ _ h = cc

unfinished_first : (m : Nonterminal) (newline : Bool) (two two' : Class) (a b a' b' : Bool) → eats m ≡ false
    → First m k.Malformed newline two two' a b a' b'
unfinished_first (n.Items c) _ _ _ _ _ _ _ h = inr refl
unfinished_first (n.MoreBinds word c) _ _ _ _ _ _ _ h = inl refl
unfinished_first (n.Initial word c) _ _ _ _ _ _ _ h = inl refl
unfinished_first n.Semi true _ _ _ _ _ _ h = inl refl
unfinished_first n.Semi false _ _ _ _ _ _ h = inr tt
unfinished_first n.LooseSemi _ _ _ _ _ _ _ h = inl refl
unfinished_first (n.Else c) _ _ _ _ _ _ _ h = inl refl
unfinished_first (n.Label jump) true _ _ _ _ _ _ h = inl refl
unfinished_first (n.Label jump) false _ _ _ _ _ _ h = inl refl
unfinished_first (n.ReturnValue c) true _ _ _ _ _ _ h = inl refl
unfinished_first (n.ReturnValue c) false _ _ _ _ _ _ h = inr refl
unfinished_first (n.Clauses c has_default) _ _ _ _ _ _ _ h = inl refl
unfinished_first (n.Handlers c) _ _ _ _ _ _ _ h = inr tt
unfinished_first n.CatchName _ _ _ _ _ _ _ h = inl refl
unfinished_first (n.Finally c) _ _ _ _ _ _ _ h = inl refl
unfinished_first (n.OptionalExpr c) _ _ _ _ _ _ _ h = inr refl
unfinished_first (n.ExprRest listed c) _ _ _ _ _ _ _ h = inl refl
unfinished_first (n.Tails true loosest c) _ _ _ _ _ _ _ h = inl refl
unfinished_first (n.Tails false loosest c) _ _ _ _ _ _ _ h = inl refl
unfinished_first (n.Rests loosest tightest c) _ _ _ _ _ _ _ h = inl refl
unfinished_first (n.YieldValue c) true _ _ _ _ _ _ h = inl refl
unfinished_first (n.YieldValue c) false _ _ _ _ _ _ h = inr refl
unfinished_first (n.Members c) _ _ _ _ _ _ _ h = inl refl
unfinished_first (n.NewArgs c) _ _ _ _ _ _ _ h = inl refl
unfinished_first (n.Arguments c) _ _ _ _ _ _ _ h = inr refl
unfinished_first (n.MoreArguments c) _ _ _ _ _ _ _ h = inl refl
unfinished_first (n.Elements c) _ _ _ _ _ _ _ h = inr refl
unfinished_first (n.MoreElements c) _ _ _ _ _ _ _ h = inl refl
unfinished_first (n.Props c) _ _ _ _ _ _ _ h = inr refl
unfinished_first (n.MoreProps c) _ _ _ _ _ _ _ h = inl refl
unfinished_first n.ShorthandEnd _ _ _ _ _ _ _ h = inl refl
unfinished_first n.OwnName _ _ _ _ _ _ _ h = inl refl
unfinished_first n.Parameters _ _ _ _ _ _ _ h = inr refl
unfinished_first n.MoreParameters _ _ _ _ _ _ _ h = inl refl
unfinished_first n.ParameterEnd _ _ _ _ _ _ _ h = inl refl
unfinished_first _ _ _ _ _ _ _ _ h = cc

pub first_same : (one : Class) → goes_on one ≡ true → (m : Nonterminal) (newline : Bool) (two two' : Class)
    (a b a' b' : Bool) → eats m ≡ false → First m one newline two two' a b a' b'
first_same k.TemplateMiddle g = middle_first
first_same k.TemplateTail g = tail_first
first_same k.Malformed g = unfinished_first
first_same _ g = cc

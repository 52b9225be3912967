-- The rows of functions, of which a reader passes over what stands in the function.
use Rattle.std.specs.Prelude.{Bool, true, false, ◌&&◌, if◌then◌else◌, List, [], ◌∷◌, ◌++◌, Option, Some, None}
use Rattle.hz_tree.specs.declared.class.Class.{Class}
use Rattle.hz_tree.specs.declared.class.Class.TheVariants as k
use Rattle.hz_tree.specs.declared.index.FunctionInfo.{FunctionInfo}
use Rattle.hz_tree.specs.declared.look.Look.{Look}
use Rattle.hz_tree.specs.declared.nonterminal.Context.{Context}
use Rattle.hz_tree.specs.declared.nonterminal.Nonterminal.{Nonterminal}
use Rattle.hz_tree.specs.declared.nonterminal.Nonterminal.TheVariants as n
use Rattle.hz_tree.specs.declared.operator.Level.{Level}
use Rattle.hz_tree.specs.declared.signal.NodeKind.TheVariants as node
use Rattle.hz_tree.specs.declared.signal.NodeShape.TheVariants as shape
use Rattle.hz_tree.specs.declared.signal.Role.TheVariants as role
use Rattle.hz_tree.specs.declared.signal.Signal.TheVariants as tell
use Rattle.hz_tree.specs.declared.symbol.Symbol.{Symbol}
use Rattle.hz_tree.specs.declared.symbol.Symbol.TheVariants.{Take, Read, Tell}
use Rattle.hz_tree.specs.declared.tree.FunctionForm.TheVariants as form
use Rattle.hz_tree.specs.declared.tree.FunctionKind.TheVariants as kind
use Rattle.hz_tree.specs.declared.tree.Tree.TheVariants as t
use Rattle.hz_tree.specs.grammar.Classes.{begins_key, is_paren}
use Rattle.hz_tree.specs.grammar.Look.{is_async, begins_arrow}
use Rattle.hz_tree.specs.grammar.OperatorRows.{is_loosest}
use Rattle.hz_tree.specs.grammar.Symbols.{Parts, Value, called}
use Rattle.hz_cuts.specs.Cuts.{inner_tree}

-- a row in the right-hand side of which a function stands
pub record Skip (m : Nonterminal) : Type 0 where
  pub front : List Symbol  -- before the function is entered
  pub middle : List Symbol  -- its parameters and its body
  pub back : List Symbol  -- behind its end
  pub make : Parts Value front → Value m  -- what is made, with the function's number in the place of the function

-- from where the function is entered
abbrev pub inside : {m : Nonterminal} → Skip m → List Symbol
inside skip = Tell tell.Enter ∷ (skip.middle ++ Tell tell.Close ∷ skip.back)

-- the right-hand side
abbrev pub whole : {m : Nonterminal} → Skip m → List Symbol
whole skip = skip.front ++ inside skip

-- the parts of the symbols before these others
abbrev pub front_parts : (front others : List Symbol) → Parts Value (front ++ others) → Parts Value front
front_parts [] others parts = tt
front_parts (symbol ∷ more) others parts = (parts.0, front_parts more others parts.1)

-- ---- the rows

-- parameters and body of a function that begins with `function` or `*`
abbrev pub usual : (generator : Bool) → List Symbol
usual generator = Read n.Params ∷ Read (n.Body generator) ∷ Tell tell.Join ∷ []

abbrev pub declaration_skip : List FunctionInfo → (c : Context) → (two : Class) → Skip (n.Item c)
declaration_skip functions c k.Star = record {
  front = Tell (tell.Open node.Statement kind.Generator) ∷ Take k.Function ∷ Take k.Star ∷ Read (n.Bound role.Function)
      ∷ [];
  middle = usual true;
  back = Tell (tell.End node.Statement) ∷ [];
  make = λ (opened, (_, (_, (name, _)))). inner_tree functions opened (form.Declaration name);
}
declaration_skip functions c _ = record {
  front = Tell (tell.Open node.Statement kind.Function) ∷ Take k.Function ∷ Read (n.Bound role.Function) ∷ [];
  middle = usual false;
  back = Tell (tell.End node.Statement) ∷ [];
  make = λ (opened, (_, (name, _))). inner_tree functions opened (form.Declaration name);
}

abbrev pub item_skip : List FunctionInfo → (c : Context) → (one two : Class) → Option (Skip (n.Item c))
item_skip functions c k.Function two = Some (declaration_skip functions c two)
item_skip functions c _ two = None

abbrev pub expression_skip : List FunctionInfo → (c : Context) → (two : Class) → Skip (n.Primary c)
expression_skip functions c k.Star = record {
  front = Tell (tell.Open node.Operand kind.Generator) ∷ Take k.Function ∷ Take k.Star ∷ Read n.OwnName ∷ [];
  middle = usual true;
  back = Tell (tell.Node shape.Other) ∷ [];
  make = λ (opened, (_, (_, (name, _)))). inner_tree functions opened (form.Expression name);
}
expression_skip functions c _ = record {
  front = Tell (tell.Open node.Operand kind.Function) ∷ Take k.Function ∷ Read n.OwnName ∷ [];
  middle = usual false;
  back = Tell (tell.Node shape.Other) ∷ [];
  make = λ (opened, (_, (name, _))). inner_tree functions opened (form.Expression name);
}

abbrev pub primary_skip : List FunctionInfo → (c : Context) → (one two : Class) → Option (Skip (n.Primary c))
primary_skip functions c k.Function two = Some (expression_skip functions c two)
primary_skip functions c _ two = None

abbrev pub arrow_parameters : (parenthesised : Bool) → Symbol
arrow_parameters true = Read n.Params
arrow_parameters false = Read (n.Bound role.Parameter)

abbrev pub arrow_skip : List FunctionInfo → (loosest : Level) → (c : Context) → (parenthesised : Bool)
    → Skip (n.Operation loosest c)
arrow_skip functions loosest c parenthesised = record {
  front = Tell (tell.Open node.Operand kind.Arrow) ∷ [];
  middle = arrow_parameters parenthesised ∷ Read n.ArrowSign ∷ Read (n.ArrowBody c) ∷ Tell tell.Join ∷ [];
  back = Tell (tell.Node shape.Other) ∷ [];
  make = λ (opened, _). inner_tree functions opened form.Arrow;
}

-- `(`, the parameters of a getter or a setter, `)` and the body
abbrev pub accessor : (parameters : List Symbol) → List Symbol
accessor parameters =
    Take k.LeftParen ∷ (parameters ++ Take k.RightParen ∷ Read (n.Body false) ∷ Tell tell.Join ∷ [])

abbrev pub getter_of : List FunctionInfo → (c : Context) → Skip (n.Prop c)
getter_of functions c = record {
  front = Tell (tell.Begin node.Part) ∷ Take k.Get ∷ Read (n.Key c) ∷ Tell (tell.Open node.Part kind.Method) ∷ [];
  middle = accessor [];
  back = Tell tell.Join ∷ [];
  make = λ (begun, (_, (key, (opened, _)))). t.Getter begun.at key (inner_tree functions opened form.Method);
}

abbrev pub getter_skip : List FunctionInfo → (c : Context) → (keyed : Bool) → Option (Skip (n.Prop c))
getter_skip functions c true = Some (getter_of functions c)
getter_skip functions c false = None

abbrev pub setter_of : List FunctionInfo → (c : Context) → Skip (n.Prop c)
setter_of functions c = record {
  front = Tell (tell.Begin node.Part) ∷ Take k.Set ∷ Read (n.Key c) ∷ Tell (tell.Open node.Part kind.Method) ∷ [];
  middle = accessor (Read (n.Bound role.Parameter) ∷ Read n.ParameterEnd ∷ []);
  back = Tell tell.Join ∷ [];
  make = λ (begun, (_, (key, (opened, _)))). t.Setter begun.at key (inner_tree functions opened form.Method);
}

abbrev pub setter_skip : List FunctionInfo → (c : Context) → (keyed : Bool) → Option (Skip (n.Prop c))
setter_skip functions c true = Some (setter_of functions c)
setter_skip functions c false = None

abbrev pub generator_of : List FunctionInfo → (c : Context) → Skip (n.Prop c)
generator_of functions c = record {
  front = Tell (tell.Begin node.Part) ∷ Take k.Star ∷ Read (n.Key c) ∷ Tell (tell.Open node.Part kind.Generator) ∷ [];
  middle = usual true;
  back = Tell tell.Join ∷ [];
  make = λ (begun, (_, (key, (opened, _)))). t.Method begun.at key (inner_tree functions opened form.Method);
}

abbrev pub prop_skip : List FunctionInfo → (c : Context) → (one two : Class) → Option (Skip (n.Prop c))
prop_skip functions c k.Star two = Some (generator_of functions c)
prop_skip functions c k.Get two = getter_skip functions c (begins_key two)
prop_skip functions c k.Set two = setter_skip functions c (begins_key two)
prop_skip functions c _ two = None

abbrev pub method_of : List FunctionInfo → (c : Context) → Skip (n.KeyRest c)
method_of functions c = record {
  front = Tell (tell.Open node.Part kind.Method) ∷ [];
  middle = usual false;
  back = Tell tell.Join ∷ [];
  make = λ (opened, _). called (inner_tree functions opened form.Method);
}

abbrev pub method_skip : List FunctionInfo → (c : Context) → (one : Class) → Option (Skip (n.KeyRest c))
method_skip functions c k.LeftParen = Some (method_of functions c)
method_skip functions c _ = None

-- The row of a function, if that is the nonterminal's row where these tokens are in hand.
abbrev pub skip_of : List FunctionInfo → (m : Nonterminal) → Look → Option (Skip m)
skip_of functions (n.Item c) l = item_skip functions c l.one l.two
skip_of functions (n.Primary c) l = if is_async l then None else primary_skip functions c l.one l.two
skip_of functions (n.Operation loosest c) l =
    if is_loosest loosest && begins_arrow l then Some (arrow_skip functions loosest c (is_paren l.one)) else None
skip_of functions (n.Prop c) l = if is_async l then None else prop_skip functions c l.one l.two
skip_of functions (n.KeyRest c) l = method_skip functions c l.one
skip_of functions _ l = None

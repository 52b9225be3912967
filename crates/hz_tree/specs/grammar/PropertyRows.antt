-- Rows of the grammar: the properties of object literals (ECMA-262, 13.2.5).
use Rattle.std.specs.Prelude.{Bool, true, false, not, ◌&&◌, if◌then◌else◌, [], ◌∷◌, None}
use Rattle.hz_tree.specs.declared.class.Class.{Class}
use Rattle.hz_tree.specs.declared.class.Class.TheVariants as k
use Rattle.hz_tree.specs.declared.outside.BadKind.TheVariants as bad
use Rattle.hz_tree.specs.declared.outside.OutsideKind.TheVariants as outside
use Rattle.hz_tree.specs.declared.nonterminal.Context.{Context}
use Rattle.hz_tree.specs.declared.nonterminal.Nonterminal.TheVariants as n
use Rattle.hz_tree.specs.declared.signal.NodeKind.TheVariants as node
use Rattle.hz_tree.specs.declared.signal.Role.TheVariants as role
use Rattle.hz_tree.specs.declared.signal.Signal.TheVariants as tell
use Rattle.hz_tree.specs.declared.symbol.Symbol.TheVariants.{Take, Read, Tell}
use Rattle.hz_tree.specs.declared.tree.FunctionForm.TheVariants as form
use Rattle.hz_tree.specs.declared.tree.FunctionKind.TheVariants as kind
use Rattle.hz_tree.specs.declared.tree.Tree.{Tree}
use Rattle.hz_tree.specs.declared.tree.Tree.TheVariants as t
use Rattle.hz_tree.specs.grammar.Classes.{is_name, begins_key, is_colon, is_paren}
use Rattle.hz_tree.specs.declared.look.Look.{Look}
use Rattle.hz_tree.specs.grammar.Look.{is_async, stuck}
use Rattle.hz_tree.specs.grammar.Signals.{Told}
use Rattle.hz_tree.specs.grammar.Symbols.{assignment, AfterKey, has_value, called, goes, refuses, Row}
use Rattle.hz_tree.specs.grammar.FunctionRows.{function_tree}
use Rattle.hz_tree.specs.grammar.PrimaryRows.{number_value}

abbrev pub props_row : (c : Context) → Class → Row (n.Props c)
props_row c k.RightBrace = goes [] (λ _. [])
props_row c _ =
    goes (Read (n.Prop c) ∷ Tell tell.Join ∷ Read (n.MoreProps c) ∷ []) (λ (first, (_, (more, _))). first ∷ more)

abbrev pub more_props_row : (c : Context) → Class → Row (n.MoreProps c)
more_props_row c k.Comma = goes (Take k.Comma ∷ Read (n.Props c) ∷ []) (λ (_, (more, _)). more)
more_props_row c _ = goes [] (λ _. [])

-- ---- one property

abbrev pub property : (begun : Told) → (key : Tree) → AfterKey → Tree
property begun key (has_value value) = t.Property begun.at key value
property begun key (called function) = t.Method begun.at key function

-- A name by itself is a property with the value of that name. A default value there is left out of the language.
abbrev pub plain_prop_row : (c : Context) → Look → Row (n.Prop c)
plain_prop_row c l =
    if is_name l.one && (not (is_colon l.two) && not (is_paren l.two)) then
    goes (Tell (tell.Begin node.Part) ∷ Tell tell.Use ∷ Take k.Name ∷ Read n.ShorthandEnd ∷ [])
    (λ (begun, (used, _)). t.Shorthand begun.at used.text)
    else goes (Tell (tell.Begin node.Part) ∷ Read (n.Key c) ∷ Read (n.KeyRest c) ∷ [])
    (λ (begun, (key, (more, _))). property begun key more)

abbrev pub getter_row : (c : Context) → Look → (keyed : Bool) → Row (n.Prop c)
getter_row c l true =
    goes
    (Tell (tell.Begin node.Part) ∷ Take k.Get ∷ Read (n.Key c) ∷ Tell (tell.Open node.Part kind.Method)
    ∷ Tell tell.Enter ∷ Take k.LeftParen ∷ Take k.RightParen ∷ Read (n.Body false) ∷ Tell tell.Join ∷ Tell tell.Close
    ∷ Tell tell.Join ∷ [])
    (λ (begun, (_, (key, (opened, (_, (_, (_, (body, (_, (closed, _)))))))))).
    t.Getter begun.at key (function_tree opened closed form.Method kind.Method ([], None) body))
getter_row c l false = plain_prop_row c l

abbrev pub setter_row : (c : Context) → Look → (keyed : Bool) → Row (n.Prop c)
setter_row c l true =
    goes
    (Tell (tell.Begin node.Part) ∷ Take k.Set ∷ Read (n.Key c) ∷ Tell (tell.Open node.Part kind.Method)
    ∷ Tell tell.Enter ∷ Take k.LeftParen ∷ Read (n.Bound role.Parameter) ∷ Read n.ParameterEnd ∷ Take k.RightParen
    ∷ Read (n.Body false) ∷ Tell tell.Join ∷ Tell tell.Close ∷ Tell tell.Join ∷ [])
    (λ (begun, (_, (key, (opened, (_, (_, (bound, (_, (_, (body, (_, (closed, _)))))))))))).
    t.Setter begun.at key (function_tree opened closed form.Method kind.Method (bound ∷ [], None) body))
setter_row c l false = plain_prop_row c l

abbrev pub prop_by : (c : Context) → Look → Class → Row (n.Prop c)
prop_by c l k.Ellipsis =
    goes (Tell (tell.Begin node.Part) ∷ Take k.Ellipsis ∷ Read (assignment c) ∷ Tell tell.Join ∷ [])
    (λ (begun, (_, (value, _))). t.Spread begun.at value)
prop_by c l k.Star =
    goes
    (Tell (tell.Begin node.Part) ∷ Take k.Star ∷ Read (n.Key c) ∷ Tell (tell.Open node.Part kind.Generator)
    ∷ Tell tell.Enter ∷ Read n.Params ∷ Read (n.Body true) ∷ Tell tell.Join ∷ Tell tell.Close ∷ Tell tell.Join ∷ [])
    (λ (begun, (_, (key, (opened, (_, (params, (body, (_, (closed, _))))))))).
    t.Method begun.at key (function_tree opened closed form.Method kind.Generator params body))
prop_by c l k.Get = getter_row c l (begins_key l.two)
prop_by c l k.Set = setter_row c l (begins_key l.two)
prop_by c l _ = plain_prop_row c l

abbrev pub prop_row : (c : Context) → Look → Row (n.Prop c)
prop_row c l = if is_async l then refuses (bad.Outside outside.Async) else prop_by c l l.one

abbrev pub shorthand_end_row : Class → Row n.ShorthandEnd
shorthand_end_row k.Assign = refuses (bad.Outside outside.Pattern)
shorthand_end_row _ = goes [] (λ _. tt)

abbrev pub key_rest_by : (c : Context) → Look → Class → Row (n.KeyRest c)
key_rest_by c l k.Colon =
    goes (Tell tell.Valued ∷ Take k.Colon ∷ Read (assignment c) ∷ Tell tell.Join ∷ [])
    (λ (_, (_, (value, _))). has_value value)
key_rest_by c l k.LeftParen =
    goes
    (Tell (tell.Open node.Part kind.Method) ∷ Tell tell.Enter ∷ Read n.Params ∷ Read (n.Body false) ∷ Tell tell.Join
    ∷ Tell tell.Close ∷ Tell tell.Join ∷ [])
    (λ (opened, (_, (params, (body, (_, (closed, _)))))).
    called (function_tree opened closed form.Method kind.Method params body))
key_rest_by c l _ = refuses (stuck l)

abbrev pub key_rest_row : (c : Context) → Look → Row (n.KeyRest c)
key_rest_row c l = key_rest_by c l l.one

abbrev pub key_by : (c : Context) → Look → Class → Row (n.Key c)
key_by c l k.Text =
    goes (Tell tell.TextKey ∷ Take k.Text ∷ []) (λ (told, _). t.TextKey told.at told.text told.octal)
key_by c l k.Number =
    goes (Take k.Number ∷ []) (λ (first, _). t.NumberKey first.token.at (number_value first.token.kind))
key_by c l k.OctalNumber = goes (Tell tell.OctalKey ∷ Take k.OctalNumber ∷ []) (λ (told, _). t.OctalKey told.at)
key_by c l k.LeftBracket =
    goes (Take k.LeftBracket ∷ Read (assignment c) ∷ Tell tell.Join ∷ Take k.RightBracket ∷ [])
    (λ (first, (key, _)). t.ComputedKey first.token.at key)
key_by c l _ = goes (Tell tell.WordKey ∷ Read n.Word ∷ []) (λ (told, (word, _)). t.WordKey word.token.at told.text)

abbrev pub key_row : (c : Context) → Look → Row (n.Key c)
key_row c l = key_by c l l.one

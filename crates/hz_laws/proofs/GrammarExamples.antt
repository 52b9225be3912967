-- What the grammar makes of short sources, computed: none where it reads them, or else the refusal.
use Rattle.std.proofs.Common.{◌≡◌, ℕ, List, [], ◌∷◌, map, codes, Option, Some, None, refl}
use Rattle.hz_tree.specs.declared.outside.OutsideKind.TheVariants as outside
use Rattle.hz_tree.specs.declared.nonterminal.Nonterminal.TheVariants as n
use Rattle.hz_tree.specs.declared.refusal.Refusal.{Refusal}
use Rattle.hz_tree.specs.declared.refusal.Refusal.TheVariants.{Syntax, Outside}
use Rattle.hz_tree.specs.declared.tree.Tree.{Tree}
use Rattle.hz_tree.proofs.Scanning.{scanning}
use Rattle.hz_tree.specs.grammar.Classes.{class_by, same_class, same_bracket}
use Rattle.hz_tree.specs.grammar.Look.{terminals}
use Rattle.hz_tree.specs.reading.Reading.{Reading, Stuck, reads, reads_to, reads_by, place_ahead}
use Rattle.hz_tree.specs.sources.Refusals.{refusal_at}

-- where the grammar is stuck
abbrev stuck_in : Reading Tree → Option Refusal
stuck_in (Stuck cause ts) = Some (refusal_at cause (place_ahead ts))
stuck_in _ = None

abbrev refused : List ℕ → Option Refusal
refused source = stuck_in (reads n.Script (terminals source))

statements :
    map refused (codes "" ∷ codes "a;" ∷ codes "let a = 1\n++" ∷ codes "do ; while (0) 1;" ∷ codes "let let"
    ∷ codes "class A {}" ∷ codes "print(1.5);" ∷ codes "a b" ∷ codes "a\nb" ∷ codes "{a}" ∷ codes "if (a) b; else c"
    ∷ codes "if (a) function f(){}" ∷ codes "x: y" ∷ codes "x: function f(){}" ∷ codes "return 1"
    ∷ codes "function f(){return\n1}" ∷ codes "throw\n/x/" ∷ codes "switch(a){default: default: }"
    ∷ codes "switch(a){case 1: b; default: case 2}" ∷ codes "try {}" ∷ codes "try {} finally {}"
    ∷ codes "try {} catch ([a]) {}" ∷ codes "continue\nx" ∷ codes "break x y" ∷ codes "}" ∷ codes "{ case"
    ∷ codes "var a, b = 1, c" ∷ codes "const [a] = b" ∷ [])
    ≡ None ∷ None ∷ Some (Syntax 12) ∷ None ∷ Some (Syntax 4) ∷ Some (Outside outside.Class 0)
    ∷ Some (Outside outside.NumberForm 6) ∷ Some (Syntax 2) ∷ None ∷ None ∷ None ∷ Some (Syntax 7) ∷ None
    ∷ Some (Syntax 3) ∷ Some (Syntax 0) ∷ None ∷ Some (Syntax 6) ∷ Some (Syntax 19) ∷ Some (Syntax 36)
    ∷ Some (Syntax 6) ∷ None ∷ Some (Outside outside.Pattern 14) ∷ None ∷ Some (Syntax 8) ∷ Some (Syntax 0)
    ∷ Some (Syntax 2) ∷ None ∷ Some (Outside outside.Pattern 6) ∷ []
unfolding scanning class_by same_class same_bracket terminals reads_to reads_by
statements = refl

operators :
    map refused (codes "a ?? b || c" ∷ codes "a || b ?? c" ∷ codes "a ?? b ?? c" ∷ codes "(a || b) ?? c"
    ∷ codes "-a ** b" ∷ codes "2 ** -1" ∷ codes "2 ** -1 ** 2" ∷ codes "++a ** 2" ∷ codes "a < b in c"
    ∷ codes "a ? b : c ? d : e" ∷ codes "a = b = c" ∷ codes "a /= b" ∷ codes "a + /x/" ∷ codes "/x/" ∷ codes "a++ ++"
    ∷ codes "a\n++b" ∷ codes "a, b, c" ∷ codes "a ? b" ∷ codes "typeof void delete a" ∷ codes "a && b || c && d"
    ∷ codes "a ?? b && c" ∷ codes "a === b !== c" ∷ [])
    ≡ Some (Syntax 7) ∷ Some (Syntax 7) ∷ None ∷ None ∷ Some (Syntax 3) ∷ None ∷ Some (Syntax 8) ∷ None ∷ None ∷ None
    ∷ None ∷ None ∷ Some (Outside outside.RegExp 4) ∷ Some (Outside outside.RegExp 0) ∷ Some (Syntax 4) ∷ None ∷ None
    ∷ Some (Syntax 5) ∷ None ∷ None ∷ Some (Syntax 7) ∷ None ∷ []
unfolding scanning class_by same_class same_bracket terminals reads_to reads_by
operators = refl

heads :
    map refused (codes "for (a in b);" ∷ codes "for (a of b, c);" ∷ codes "for (a in b, c);"
    ∷ codes "for (let a of b);" ∷ codes "for (let a = 1 in b);" ∷ codes "for (;;);" ∷ codes "for (a in b; ;);"
    ∷ codes "for ((a in b);;);" ∷ codes "for (a ? b in c : d;;);" ∷ codes "for (a ? b : c in d;;);"
    ∷ codes "for (async of b);" ∷ codes "for await (a of b);" ∷ codes "for (a.b[c in d] of e);"
    ∷ codes "for (a + b; c; d);" ∷ codes "for (var [a] of b);" ∷ codes "for (of of of);" ∷ codes "for (-a in b);"
    ∷ codes "for (let of of of);" ∷ codes "for (a => a in b;;);" ∷ codes "for (a = 1, b; ;) ;" ∷ codes "for (;;/x/);"
    ∷ [])
    ≡ None ∷ Some (Syntax 11) ∷ None ∷ None ∷ Some (Syntax 15) ∷ None ∷ Some (Syntax 11) ∷ None ∷ None
    ∷ Some (Syntax 15) ∷ Some (Outside outside.Async 5) ∷ Some (Outside outside.Async 4) ∷ None ∷ None
    ∷ Some (Outside outside.Pattern 9) ∷ None ∷ Some (Syntax 8) ∷ None ∷ Some (Syntax 12) ∷ None
    ∷ Some (Outside outside.RegExp 7) ∷ []
unfolding scanning class_by same_class same_bracket terminals reads_to reads_by
heads = refl

primaries :
    map refused (codes "new a?.b" ∷ codes "new a()?.b" ∷ codes "new.target" ∷ codes "new.foo"
    ∷ codes "new new a.b(c)(d)" ∷ codes "new a`x`" ∷ codes "a?.`x`" ∷ codes "a\n`x`" ∷ codes "`a${b}c${d}e`"
    ∷ codes "`${}`" ∷ codes "a.class" ∷ codes "a.1" ∷ codes "f(a,)" ∷ codes "f(,)" ∷ codes "f(...a, b)"
    ∷ codes "[,a,,b,]" ∷ codes "[a b]" ∷ codes "[...a]" ∷ codes "()" ∷ codes "a.super" ∷ codes "super.a"
    ∷ codes "import(a)" ∷ codes "a?.[b]?.(c).d" ∷ codes "async x => 1" ∷ codes "async\nx" ∷ codes "async(x)"
    ∷ codes "async (x)\n=> 1" ∷ codes "a async x" ∷ codes "a async" ∷ codes "a with" ∷ codes "x++`a`"
    ∷ codes "()=>{}`x`" ∷ [])
    ≡ Some (Syntax 5) ∷ None ∷ None ∷ Some (Syntax 4) ∷ None ∷ Some (Outside outside.TaggedTemplate 5)
    ∷ Some (Outside outside.TaggedTemplate 3) ∷ Some (Outside outside.TaggedTemplate 2) ∷ None ∷ Some (Syntax 3)
    ∷ None ∷ Some (Outside outside.NumberForm 1) ∷ None ∷ Some (Syntax 2) ∷ None ∷ None ∷ Some (Syntax 3) ∷ None
    ∷ Some (Syntax 1) ∷ None ∷ Some (Outside outside.Super 0) ∷ Some (Outside outside.Module 0) ∷ None
    ∷ Some (Outside outside.Async 0) ∷ None ∷ None ∷ Some (Outside outside.Async 0) ∷ Some (Outside outside.Async 2)
    ∷ Some (Syntax 2) ∷ Some (Outside outside.With 2) ∷ Some (Syntax 3) ∷ Some (Syntax 6) ∷ []
unfolding scanning class_by same_class same_bracket terminals reads_to reads_by
primaries = refl

functions :
    map refused (codes "()\n=> 1" ∷ codes "a\n=> 1" ∷ codes "() => {}" ∷ codes "(a, b,) => a" ∷ codes "(a, ...b) => a"
    ∷ codes "(...a,) => a" ∷ codes "(a = 1) => a" ∷ codes "([a]) => a" ∷ codes "( [ ) => 1" ∷ codes "function f(a,){}"
    ∷ codes "function f(...a = 1){}" ∷ codes "function [" ∷ codes "(function [" ∷ codes "function* g(){ yield\n1 }"
    ∷ codes "function* g(){ yield * }" ∷ codes "function* g(){ () => yield }" ∷ codes "function* g(){ `${yield}` }"
    ∷ codes "function f(){ yield }" ∷ codes "a => b => c" ∷ codes "a => {} (b)" ∷ codes "a => {}\n(b)"
    ∷ codes "async => 1" ∷ codes "(a = 1, b = 2n) => a" ∷ codes "function* g(){ yield a in b }"
    ∷ codes "function* g(){ return yield* a }" ∷ codes "a ? (b) : c => d" ∷ [])
    ≡ Some (Syntax 3) ∷ Some (Syntax 2) ∷ None ∷ None ∷ None ∷ Some (Syntax 5)
    ∷ Some (Outside outside.DefaultParameter 3) ∷ Some (Outside outside.Pattern 1) ∷ Some (Syntax 4) ∷ None
    ∷ Some (Outside outside.DefaultParameter 16) ∷ Some (Outside outside.Pattern 9) ∷ Some (Syntax 10) ∷ None
    ∷ Some (Syntax 23) ∷ Some (Syntax 21) ∷ None ∷ Some (Syntax 14) ∷ None ∷ Some (Syntax 8) ∷ None ∷ None
    ∷ Some (Outside outside.BigInt 12) ∷ None ∷ None ∷ None ∷ []
unfolding scanning class_by same_class same_bracket terminals reads_to reads_by
functions = refl

properties :
    map refused (codes "({if})" ∷ codes "({\"a\"})" ∷ codes "({a, b})" ∷ codes "({a = 1})"
    ∷ codes "({a: 1, \"b\": 2, 3: 4, [c]: d})" ∷ codes "({get a(){}, set a(b){}})"
    ∷ codes "({get: 1, set(){}, get(){}})" ∷ codes "({get, set})" ∷ codes "({*a(){}})" ∷ codes "({async f(){}})"
    ∷ codes "({async *f(){}})" ∷ codes "({async if(){}})" ∷ codes "({async [a](){}})" ∷ codes "({async \"a\"(){}})"
    ∷ codes "({async, b})" ∷ codes "({async(){}})" ∷ codes "({...a})" ∷ codes "({set a(b = 1){}})"
    ∷ codes "({get a(b){}})" ∷ codes "({a b})" ∷ codes "({a,,b})" ∷ codes "({if(){}})" ∷ codes "({get if(){}})"
    ∷ codes "({get *a(){}})" ∷ [])
    ≡ Some (Syntax 4) ∷ Some (Syntax 5) ∷ None ∷ Some (Outside outside.Pattern 4) ∷ None ∷ None ∷ None ∷ None ∷ None
    ∷ Some (Outside outside.Async 2) ∷ Some (Syntax 8) ∷ Some (Syntax 8) ∷ Some (Syntax 8) ∷ Some (Syntax 8) ∷ None
    ∷ None ∷ None ∷ Some (Outside outside.DefaultParameter 10) ∷ Some (Syntax 8) ∷ Some (Syntax 4) ∷ Some (Syntax 4)
    ∷ None ∷ None ∷ Some (Syntax 6) ∷ []
unfolding scanning class_by same_class same_bracket terminals reads_to reads_by
properties = refl

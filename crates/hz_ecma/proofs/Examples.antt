-- Sources with what they print and how they end, computed: one for each form and each way out. The `var` names of a
-- source are given beside it.
use Rattle.std.proofs.Common.{◌≡◌, [], ◌∷◌, codes, refl}
use Rattle.std.specs.Fmt.{digits}
use Rattle.hz_tree.proofs.Scanning.{scanning}
use Rattle.hz_tree.specs.grammar.Classes.{class_by, same_class, same_bracket}
use Rattle.hz_tree.specs.grammar.Look.{terminals}
use Rattle.hz_tree.specs.reading.Reading.{reads_to, reads_by}
use Rattle.hz_ecma.proofs.Running.{run_source, mark_in, entered_in}

declarations :
    run_source 100 (codes "d" ∷ [])
    (codes "let a = 1, b; const c = a; var d = c; print(a, b, c, d)")
    ≡ codes "1 undefined 1 1\ndone"
unfolding digits scanning class_by same_class same_bracket terminals reads_to reads_by
    Rattle.hz_tree.specs.declared.tree.Tree.TheViews.out-Tree denote.Hole.Carrier.out
    Rattle.hz_tree.specs.declared.tree.Tree.TheBlock.shown-the_row-Tree-0 denote.Hole.Carrier.shown
    denote.Hole.Carrier.hidden Rattle.hz_tree.specs.declared.tree.Tree.TheBlock.shown-the_row-Tree-1
declarations = refl

-- a semicolon is inserted
lines_end_statements : run_source 100 [] (codes "let a = 1\nlet b = a\n++b\nprint(a, b)") ≡ codes "1 2\ndone"
unfolding digits scanning class_by same_class same_bracket terminals reads_to reads_by
    Rattle.hz_tree.specs.declared.tree.Tree.TheViews.out-Tree denote.Hole.Carrier.out
    Rattle.hz_tree.specs.declared.tree.Tree.TheBlock.shown-the_row-Tree-0 denote.Hole.Carrier.shown
    denote.Hole.Carrier.hidden Rattle.hz_tree.specs.declared.tree.Tree.TheBlock.shown-the_row-Tree-1
lines_end_statements = refl

before_its_declaration :
    run_source 100 []
    (codes "print(x); let x = 1")
    ≡ codes "uncaught ReferenceError: x is not initialised"
unfolding digits scanning class_by same_class same_bracket terminals reads_to reads_by
    Rattle.hz_tree.specs.declared.tree.Tree.TheViews.out-Tree denote.Hole.Carrier.out
    Rattle.hz_tree.specs.declared.tree.Tree.TheBlock.shown-the_row-Tree-0 denote.Hole.Carrier.shown
    denote.Hole.Carrier.hidden Rattle.hz_tree.specs.declared.tree.Tree.TheBlock.shown-the_row-Tree-1
before_its_declaration = refl

no_safe_integer : run_source 100 [] (codes "print(1); print(9007199254740991 + 1)") ≡ codes "1\nleft NotSafe"
unfolding digits scanning class_by same_class same_bracket terminals reads_to reads_by
    Rattle.hz_tree.specs.declared.tree.Tree.TheViews.out-Tree denote.Hole.Carrier.out
    Rattle.hz_tree.specs.declared.tree.Tree.TheBlock.shown-the_row-Tree-0 denote.Hole.Carrier.shown
    denote.Hole.Carrier.hidden Rattle.hz_tree.specs.declared.tree.Tree.TheBlock.shown-the_row-Tree-1
no_safe_integer = refl

turns_are_taken : run_source 10 [] (codes "for (;;) {}") ≡ codes "turns spent"
unfolding digits scanning class_by same_class same_bracket terminals reads_to reads_by
    Rattle.hz_tree.specs.declared.tree.Tree.TheViews.out-Tree denote.Hole.Carrier.out
    Rattle.hz_tree.specs.declared.tree.Tree.TheBlock.shown-the_row-Tree-0 denote.Hole.Carrier.shown
    denote.Hole.Carrier.hidden Rattle.hz_tree.specs.declared.tree.Tree.TheBlock.shown-the_row-Tree-1
turns_are_taken = refl

no_turn_for_a_call : run_source 0 [] (codes "print(7)") ≡ codes "turns spent"
unfolding digits scanning class_by same_class same_bracket terminals reads_to reads_by
    Rattle.hz_tree.specs.declared.tree.Tree.TheViews.out-Tree denote.Hole.Carrier.out
    Rattle.hz_tree.specs.declared.tree.Tree.TheBlock.shown-the_row-Tree-0 denote.Hole.Carrier.shown
    denote.Hole.Carrier.hidden Rattle.hz_tree.specs.declared.tree.Tree.TheBlock.shown-the_row-Tree-1
no_turn_for_a_call = refl

one_turn_for_a_call : run_source 1 [] (codes "print(7)") ≡ codes "7\ndone"
unfolding digits scanning class_by same_class same_bracket terminals reads_to reads_by
    Rattle.hz_tree.specs.declared.tree.Tree.TheViews.out-Tree denote.Hole.Carrier.out
    Rattle.hz_tree.specs.declared.tree.Tree.TheBlock.shown-the_row-Tree-0 denote.Hole.Carrier.shown
    denote.Hole.Carrier.hidden Rattle.hz_tree.specs.declared.tree.Tree.TheBlock.shown-the_row-Tree-1
one_turn_for_a_call = refl

a_loop_continues :
    run_source 100 []
    (codes "let t = 0; for (let i = 1; i < 5; i++) { if (i === 3) continue; t += i } print(t)")
    ≡ codes "7\ndone"
unfolding digits scanning class_by same_class same_bracket terminals reads_to reads_by
    Rattle.hz_tree.specs.declared.tree.Tree.TheViews.out-Tree denote.Hole.Carrier.out
    Rattle.hz_tree.specs.declared.tree.Tree.TheBlock.shown-the_row-Tree-0 denote.Hole.Carrier.shown
    denote.Hole.Carrier.hidden Rattle.hz_tree.specs.declared.tree.Tree.TheBlock.shown-the_row-Tree-1
a_loop_continues = refl

-- an object would become a primitive
objects_wait : run_source 100 [] (codes "print(print + 1)") ≡ codes "left NotBuilt"
unfolding digits scanning class_by same_class same_bracket terminals reads_to reads_by
    Rattle.hz_tree.specs.declared.tree.Tree.TheViews.out-Tree denote.Hole.Carrier.out
    Rattle.hz_tree.specs.declared.tree.Tree.TheBlock.shown-the_row-Tree-0 denote.Hole.Carrier.shown
    denote.Hole.Carrier.hidden Rattle.hz_tree.specs.declared.tree.Tree.TheBlock.shown-the_row-Tree-1
objects_wait = refl

loops : run_source 100 [] (codes "let i = 0; while (i < 2) ++i; do i--; while (i > 0); print(i)") ≡ codes "0\ndone"
unfolding digits scanning class_by same_class same_bracket terminals reads_to reads_by
    Rattle.hz_tree.specs.declared.tree.Tree.TheViews.out-Tree denote.Hole.Carrier.out
    Rattle.hz_tree.specs.declared.tree.Tree.TheBlock.shown-the_row-Tree-0 denote.Hole.Carrier.shown
    denote.Hole.Carrier.hidden Rattle.hz_tree.specs.declared.tree.Tree.TheBlock.shown-the_row-Tree-1
loops = refl

labels : run_source 100 [] (codes "a: for (;;) { for (;;) { break a } } b: { print(1); break b }") ≡ codes "1\ndone"
unfolding digits scanning class_by same_class same_bracket terminals reads_to reads_by
    Rattle.hz_tree.specs.declared.tree.Tree.TheViews.out-Tree denote.Hole.Carrier.out
    Rattle.hz_tree.specs.declared.tree.Tree.TheBlock.shown-the_row-Tree-0 denote.Hole.Carrier.shown
    denote.Hole.Carrier.hidden Rattle.hz_tree.specs.declared.tree.Tree.TheBlock.shown-the_row-Tree-1
labels = refl

an_outer_loop_continues :
    run_source 100 (codes "i" ∷ [])
    (codes "let n = 0; a: for (var i = 0; i < 2; i++) { for (;;) { n++; continue a } } print(n)")
    ≡ codes "2\ndone"
unfolding digits scanning class_by same_class same_bracket terminals reads_to reads_by
    Rattle.hz_tree.specs.declared.tree.Tree.TheViews.out-Tree denote.Hole.Carrier.out
    Rattle.hz_tree.specs.declared.tree.Tree.TheBlock.shown-the_row-Tree-0 denote.Hole.Carrier.shown
    denote.Hole.Carrier.hidden Rattle.hz_tree.specs.declared.tree.Tree.TheBlock.shown-the_row-Tree-1
an_outer_loop_continues = refl

a_switch :
    run_source 100 []
    (codes "switch (2) { case 1: print(1); default: print(0); case 3: print(3); break; case 4: } print(5)")
    ≡ codes "0\n3\n5\ndone"
unfolding digits scanning class_by same_class same_bracket terminals reads_to reads_by
    Rattle.hz_tree.specs.declared.tree.Tree.TheViews.out-Tree denote.Hole.Carrier.out
    Rattle.hz_tree.specs.declared.tree.Tree.TheBlock.shown-the_row-Tree-0 denote.Hole.Carrier.shown
    denote.Hole.Carrier.hidden Rattle.hz_tree.specs.declared.tree.Tree.TheBlock.shown-the_row-Tree-1
a_switch = refl

a_case_is_selected : run_source 100 [] (codes "switch (2) { default: print(0); case 2: print(2) }") ≡ codes "2\ndone"
unfolding digits scanning class_by same_class same_bracket terminals reads_to reads_by
    Rattle.hz_tree.specs.declared.tree.Tree.TheViews.out-Tree denote.Hole.Carrier.out
    Rattle.hz_tree.specs.declared.tree.Tree.TheBlock.shown-the_row-Tree-0 denote.Hole.Carrier.shown
    denote.Hole.Carrier.hidden Rattle.hz_tree.specs.declared.tree.Tree.TheBlock.shown-the_row-Tree-1
a_case_is_selected = refl

a_throw : run_source 100 [] (codes "throw 'a' + 1") ≡ codes "uncaught a1"
unfolding digits scanning class_by same_class same_bracket terminals reads_to reads_by
    Rattle.hz_tree.specs.declared.tree.Tree.TheViews.out-Tree denote.Hole.Carrier.out
    Rattle.hz_tree.specs.declared.tree.Tree.TheBlock.shown-the_row-Tree-0 denote.Hole.Carrier.shown
    denote.Hole.Carrier.hidden Rattle.hz_tree.specs.declared.tree.Tree.TheBlock.shown-the_row-Tree-1
a_throw = refl

a_template : run_source 100 [] (codes "let a = 2; print(`x${a}y${a * 2}`)") ≡ codes "x2y4\ndone"
unfolding digits scanning class_by same_class same_bracket terminals reads_to reads_by
    Rattle.hz_tree.specs.declared.tree.Tree.TheViews.out-Tree denote.Hole.Carrier.out
    Rattle.hz_tree.specs.declared.tree.Tree.TheBlock.shown-the_row-Tree-0 denote.Hole.Carrier.shown
    denote.Hole.Carrier.hidden Rattle.hz_tree.specs.declared.tree.Tree.TheBlock.shown-the_row-Tree-1
a_template = refl

assignments : run_source 100 [] (codes "let a = 6; a -= 1; a *= 2; print(a = a % 7, a)") ≡ codes "3 3\ndone"
unfolding digits scanning class_by same_class same_bracket terminals reads_to reads_by
    Rattle.hz_tree.specs.declared.tree.Tree.TheViews.out-Tree denote.Hole.Carrier.out
    Rattle.hz_tree.specs.declared.tree.Tree.TheBlock.shown-the_row-Tree-0 denote.Hole.Carrier.shown
    denote.Hole.Carrier.hidden Rattle.hz_tree.specs.declared.tree.Tree.TheBlock.shown-the_row-Tree-1
assignments = refl

logical_assignments : run_source 100 [] (codes "let a = null; a ??= 4; a &&= 5; a ||= 9; print(a)") ≡ codes "5\ndone"
unfolding digits scanning class_by same_class same_bracket terminals reads_to reads_by
    Rattle.hz_tree.specs.declared.tree.Tree.TheViews.out-Tree denote.Hole.Carrier.out
    Rattle.hz_tree.specs.declared.tree.Tree.TheBlock.shown-the_row-Tree-0 denote.Hole.Carrier.shown
    denote.Hole.Carrier.hidden Rattle.hz_tree.specs.declared.tree.Tree.TheBlock.shown-the_row-Tree-1
logical_assignments = refl

updates : run_source 100 [] (codes "let a = 1; print(a++, ++a, (a)--, --a)") ≡ codes "1 3 3 1\ndone"
unfolding digits scanning class_by same_class same_bracket terminals reads_to reads_by
    Rattle.hz_tree.specs.declared.tree.Tree.TheViews.out-Tree denote.Hole.Carrier.out
    Rattle.hz_tree.specs.declared.tree.Tree.TheBlock.shown-the_row-Tree-0 denote.Hole.Carrier.shown
    denote.Hole.Carrier.hidden Rattle.hz_tree.specs.declared.tree.Tree.TheBlock.shown-the_row-Tree-1
updates = refl

a_constant : run_source 100 [] (codes "const c = 1; c = print(2)") ≡ codes "2\nuncaught TypeError: c is constant"
unfolding digits scanning class_by same_class same_bracket terminals reads_to reads_by
    Rattle.hz_tree.specs.declared.tree.Tree.TheViews.out-Tree denote.Hole.Carrier.out
    Rattle.hz_tree.specs.declared.tree.Tree.TheBlock.shown-the_row-Tree-0 denote.Hole.Carrier.shown
    denote.Hole.Carrier.hidden Rattle.hz_tree.specs.declared.tree.Tree.TheBlock.shown-the_row-Tree-1
a_constant = refl

no_such_name : run_source 100 [] (codes "x = print(1)") ≡ codes "1\nuncaught ReferenceError: x is not defined"
unfolding digits scanning class_by same_class same_bracket terminals reads_to reads_by
    Rattle.hz_tree.specs.declared.tree.Tree.TheViews.out-Tree denote.Hole.Carrier.out
    Rattle.hz_tree.specs.declared.tree.Tree.TheBlock.shown-the_row-Tree-0 denote.Hole.Carrier.shown
    denote.Hole.Carrier.hidden Rattle.hz_tree.specs.declared.tree.Tree.TheBlock.shown-the_row-Tree-1
no_such_name = refl

a_missing_name : run_source 100 [] (codes "print(1); Map") ≡ codes "1\nleft Missing"
unfolding digits scanning class_by same_class same_bracket terminals reads_to reads_by
    Rattle.hz_tree.specs.declared.tree.Tree.TheViews.out-Tree denote.Hole.Carrier.out
    Rattle.hz_tree.specs.declared.tree.Tree.TheBlock.shown-the_row-Tree-0 denote.Hole.Carrier.shown
    denote.Hole.Carrier.hidden Rattle.hz_tree.specs.declared.tree.Tree.TheBlock.shown-the_row-Tree-1
a_missing_name = refl

words :
    run_source 100 []
    (codes "print(typeof x, typeof (print), void 0, -'3', !0, ~0)")
    ≡ codes "undefined function undefined -3 true -1\ndone"
unfolding digits scanning class_by same_class same_bracket terminals reads_to reads_by
    Rattle.hz_tree.specs.declared.tree.Tree.TheViews.out-Tree denote.Hole.Carrier.out
    Rattle.hz_tree.specs.declared.tree.Tree.TheBlock.shown-the_row-Tree-0 denote.Hole.Carrier.shown
    denote.Hole.Carrier.hidden Rattle.hz_tree.specs.declared.tree.Tree.TheBlock.shown-the_row-Tree-1
words = refl

fused_quotients : run_source 100 [] (codes "print((7 / 2) | 0, ((-7 / 2)) | 0)") ≡ codes "3 -3\ndone"
unfolding digits scanning class_by same_class same_bracket terminals reads_to reads_by
    Rattle.hz_tree.specs.declared.tree.Tree.TheViews.out-Tree denote.Hole.Carrier.out
    Rattle.hz_tree.specs.declared.tree.Tree.TheBlock.shown-the_row-Tree-0 denote.Hole.Carrier.shown
    denote.Hole.Carrier.hidden Rattle.hz_tree.specs.declared.tree.Tree.TheBlock.shown-the_row-Tree-1
fused_quotients = refl

numbers : run_source 100 [] (codes "print(7 % 4, 2 ** 3, 1 << 4, -8 >> 1, 6 & 3, 6 ^ 3)") ≡ codes "3 8 16 -4 2 5\ndone"
unfolding digits scanning class_by same_class same_bracket terminals reads_to reads_by
    Rattle.hz_tree.specs.declared.tree.Tree.TheViews.out-Tree denote.Hole.Carrier.out
    Rattle.hz_tree.specs.declared.tree.Tree.TheBlock.shown-the_row-Tree-0 denote.Hole.Carrier.shown
    denote.Hole.Carrier.hidden Rattle.hz_tree.specs.declared.tree.Tree.TheBlock.shown-the_row-Tree-1
numbers = refl

comparisons : run_source 100 [] (codes "print(1 < 2, 2 >= 3, 1 == '1', 1 !== 1)") ≡ codes "true false true false\ndone"
unfolding digits scanning class_by same_class same_bracket terminals reads_to reads_by
    Rattle.hz_tree.specs.declared.tree.Tree.TheViews.out-Tree denote.Hole.Carrier.out
    Rattle.hz_tree.specs.declared.tree.Tree.TheBlock.shown-the_row-Tree-0 denote.Hole.Carrier.shown
    denote.Hole.Carrier.hidden Rattle.hz_tree.specs.declared.tree.Tree.TheBlock.shown-the_row-Tree-1
comparisons = refl

choices : run_source 100 [] (codes "print((1, 2), true ? 3 : 4, null || 5, 0 && 6)") ≡ codes "2 3 5 0\ndone"
unfolding digits scanning class_by same_class same_bracket terminals reads_to reads_by
    Rattle.hz_tree.specs.declared.tree.Tree.TheViews.out-Tree denote.Hole.Carrier.out
    Rattle.hz_tree.specs.declared.tree.Tree.TheBlock.shown-the_row-Tree-0 denote.Hole.Carrier.shown
    denote.Hole.Carrier.hidden Rattle.hz_tree.specs.declared.tree.Tree.TheBlock.shown-the_row-Tree-1
choices = refl

scopes : run_source 100 [] (codes "let a = 1; { let a = 2; print(a) } if (a) print(a); else ;") ≡ codes "2\n1\ndone"
unfolding digits scanning class_by same_class same_bracket terminals reads_to reads_by
    Rattle.hz_tree.specs.declared.tree.Tree.TheViews.out-Tree denote.Hole.Carrier.out
    Rattle.hz_tree.specs.declared.tree.Tree.TheBlock.shown-the_row-Tree-0 denote.Hole.Carrier.shown
    denote.Hole.Carrier.hidden Rattle.hz_tree.specs.declared.tree.Tree.TheBlock.shown-the_row-Tree-1
scopes = refl

-- the arguments come before the test of the callee
no_function :
    run_source 100 []
    (codes "debugger; print(1)(print(2))")
    ≡ codes "1\n2\nuncaught TypeError: value is not a function"
unfolding digits scanning class_by same_class same_bracket terminals reads_to reads_by
    Rattle.hz_tree.specs.declared.tree.Tree.TheViews.out-Tree denote.Hole.Carrier.out
    Rattle.hz_tree.specs.declared.tree.Tree.TheBlock.shown-the_row-Tree-0 denote.Hole.Carrier.shown
    denote.Hole.Carrier.hidden Rattle.hz_tree.specs.declared.tree.Tree.TheBlock.shown-the_row-Tree-1
no_function = refl

-- a lone surrogate is a unit like any other
units : run_source 1 [] (codes "print('\\uD800')") ≡ 55296 ∷ 10 ∷ codes "done"
unfolding digits scanning class_by same_class same_bracket terminals reads_to reads_by
    Rattle.hz_tree.specs.declared.tree.Tree.TheViews.out-Tree denote.Hole.Carrier.out
    Rattle.hz_tree.specs.declared.tree.Tree.TheBlock.shown-the_row-Tree-0 denote.Hole.Carrier.shown
    denote.Hole.Carrier.hidden Rattle.hz_tree.specs.declared.tree.Tree.TheBlock.shown-the_row-Tree-1
units = refl

-- the statement in hand: that of the block's, and that of a loop for its test
raised_in_a_block : mark_in (codes "1; { x }") ≡ 5
unfolding digits scanning class_by same_class same_bracket terminals reads_to reads_by
    Rattle.hz_tree.specs.declared.tree.Tree.TheViews.out-Tree denote.Hole.Carrier.out
    Rattle.hz_tree.specs.declared.tree.Tree.TheBlock.shown-the_row-Tree-0 denote.Hole.Carrier.shown
    denote.Hole.Carrier.hidden Rattle.hz_tree.specs.declared.tree.Tree.TheBlock.shown-the_row-Tree-1
raised_in_a_block = refl

raised_in_a_test : mark_in (codes "1; while (x) {}") ≡ 3
unfolding digits scanning class_by same_class same_bracket terminals reads_to reads_by
    Rattle.hz_tree.specs.declared.tree.Tree.TheViews.out-Tree denote.Hole.Carrier.out
    Rattle.hz_tree.specs.declared.tree.Tree.TheBlock.shown-the_row-Tree-0 denote.Hole.Carrier.shown
    denote.Hole.Carrier.hidden Rattle.hz_tree.specs.declared.tree.Tree.TheBlock.shown-the_row-Tree-1
raised_in_a_test = refl

script_entered : entered_in 20 (codes "print(1)") ≡ 0 ∷ []
unfolding digits scanning class_by same_class same_bracket terminals reads_to reads_by
    Rattle.hz_tree.specs.declared.tree.Tree.TheViews.out-Tree denote.Hole.Carrier.out
    Rattle.hz_tree.specs.declared.tree.Tree.TheBlock.shown-the_row-Tree-0 denote.Hole.Carrier.shown
    denote.Hole.Carrier.hidden Rattle.hz_tree.specs.declared.tree.Tree.TheBlock.shown-the_row-Tree-1
script_entered = refl

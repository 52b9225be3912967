-- The names that go to the table, one by one.
use Rattle.std.proofs.Common.{◌≡◌, ◌+◌, ℕ, Bool, true, false, not, ◌&&◌, ◌||◌, cond, List, [], ◌∷◌, ◌++◌, map, take}
use Rattle.std.proofs.Common.{refl, sym, ap, ◌∙◌, Some, None, append_assoc}
use Rattle.std.specs.List.{slice_get, filter}
use Rattle.std.specs.Str.{bytes_eq}
use Rattle.std.specs.Cmp.Lexicographic.{bytes_decides}
use Rattle.std.proofs.lemmas.List.{map-append, take_more, append-nil}
use Rattle.std.proofs.lemmas.List.Elements.{filter-append}
use Rattle.std.proofs.lemmas.List.Folds.{list_any-append}
use Rattle.std.proofs.lemmas.Option.{slice_get_within, get_or_from_slice_get}
use Rattle.hz_index.specs.Table.{Table, with_name}
use Rattle.hz_tree.specs.declared.scope.BindingKind.TheVariants as binding
use Rattle.hz_tree.specs.errors.Scopes.{occurs}
use Rattle.hz_tree.specs.tokens.Text.{Text}
use Rattle.hz_tree.specs.trees.FunctionScopes.{ScopeName, Declared, Used, declares_name, used_within, outside}
use Rattle.hz_tree.specs.trees.FunctionScopes.{activation}
use Rattle.hz_tree.specs.trees.FunctionScopes.{this_name, target_name, activation_names, is_listed, scope_names}
use Rattle.hz_tree.specs.trees.FunctionScopes.{is_free}
use Rattle.hz_scopes.specs.Links.{without}
use Rattle.hz_scopes.specs.Naming.{arguments_name, declared_names, used_names, with_names, shows, without_bound}

take_at : {X : Type 0} (xs : List X) (i : ℕ) (x : X) → slice_get xs i ≡ Some x → take (i + 1) xs ≡ take i xs ++ x ∷ []
take_at xs i x is =
    take_more xs i x (slice_get_within xs i x is)
    ∙ ap (λ y. take i xs ++ y ∷ []) (get_or_from_slice_get xs i x x is)

with_both : (first second : List ScopeName) (t : Table)
    → with_names second (with_names first t) ≡ with_names (first ++ second) t
with_both first second t = ap (λ names. record t { pending = names }) (append_assoc t.pending first second)

pub no_names : (t : Table) → t ≡ with_names [] t
no_names t = ap (λ names. record t { pending = names }) (sym (append-nil t.pending))

pub outside_none : (us : List Used) → us ≡ outside [] us
outside_none [] = refl
outside_none (u ∷ us) = ap (λ us. u ∷ us) (outside_none us)

-- one more of a list
pub named_step : (declared : List Declared) (i : ℕ) (d : Declared) (t : Table) → slice_get declared i ≡ Some d
    → with_name (record { name = d.name; binding = Some d.binding }) (with_names (declared_names (take i declared)) t)
    ≡ with_names (declared_names (take (i + 1) declared)) t
named_step declared i d t is =
    with_both (declared_names (take i declared)) (declared_names (d ∷ [])) t
    ∙ ap (λ names. with_names names t)
    (sym (map-append (λ (d : Declared). record { name = d.name; binding = Some d.binding }) (take i declared) (d ∷ []))
    ∙ ap declared_names (sym (take_at declared i d is)))

-- equal texts, in either order
eq_swap : (a b : Text) → bytes_eq a b ≡ bytes_eq b a
eq_swap a b = either (bytes_eq a b) (bytes_eq b a) refl refl
  where
    either : (x y : Bool) → bytes_eq a b ≡ x → bytes_eq b a ≡ y → x ≡ y
    either true true p q = refl
    either false false p q = refl
    either true false p q =
        let same = (bytes_decides b a).1 (sym ((bytes_decides a b).0 p)) in
        absurd cc
    either false true p q =
        let same = (bytes_decides a b).1 (sym ((bytes_decides b a).0 q)) in
        absurd cc

push_without : (b : Bool) (d : Declared) (u : Used) (rest : List Used)
    → without d.name (cond (not b) (u ∷ rest) rest)
    ≡ cond (not (b || bytes_eq d.name u.name)) (u ∷ without d.name rest) (without d.name rest)
push_without true d u rest = refl
push_without false d u rest =
    ap (λ e. cond (not e) (u ∷ without d.name rest) (without d.name rest)) (eq_swap u.name d.name)

declares_more : (ds : List Declared) (d : Declared) (name : Text)
    → declares_name name (ds ++ d ∷ []) ≡ (declares_name name ds || bytes_eq d.name name)
declares_more ds d name =
    list_any-append (λ (d : Declared). bytes_eq d.name name) ds (d ∷ [])
    ∙ ap (λ b. declares_name name ds || b) (or_false (bytes_eq d.name name))
  where
    or_false : (b : Bool) → (b || false) ≡ b
    or_false true = refl
    or_false false = refl

outside_more : (ds : List Declared) (d : Declared) (us : List Used)
    → without d.name (outside ds us) ≡ outside (ds ++ d ∷ []) us
outside_more ds d [] = refl
outside_more ds d (u ∷ us) =
    let more = ds ++ d ∷ [] in
    push_without (declares_name u.name ds) d u (outside ds us)
    ∙ ap (λ rest. cond (not (declares_name u.name ds || bytes_eq d.name u.name)) (u ∷ rest) rest) (outside_more ds d us)
    ∙ ap (λ b. cond (not b) (u ∷ outside more us) (outside more us)) (sym (declares_more ds d u.name))

pub taken_step : (declared : List Declared) (i : ℕ) (d : Declared) (us : List Used) → slice_get declared i ≡ Some d
    → without d.name (outside (take i declared) us) ≡ outside (take (i + 1) declared) us
taken_step declared i d us is =
    outside_more (take i declared) d us ∙ ap (λ ds. outside ds us) (sym (take_at declared i d is))

pub here_step : (p : Text → Bool) (names : List Text) (i : ℕ) (name : Text) (t : Table)
    → slice_get names i ≡ Some name
    → (let before = with_names (used_names (filter p (take i names))) t in
    cond (p name) (with_name (record { name = name; binding = None }) before) before)
    ≡ with_names (used_names (filter p (take (i + 1) names))) t
here_step p names i name t is =
    by_test (p name) refl
    ∙ ap (λ ns. with_names ns t)
    (sym (map-append (λ (name : Text). record { name = name; binding = None }) (filter p (take i names)) (filter p
    (name ∷ [])))
    ∙ ap used_names (sym (filter-append p (take i names) (name ∷ [])) ∙ ap (filter p) (sym (take_at names i name is))))
  where
    by_test : (b : Bool) → p name ≡ b
        → (let before = with_names (used_names (filter p (take i names))) t in
        cond b (with_name (record { name = name; binding = None }) before) before)
        ≡ with_names (used_names (filter p (take i names)) ++ used_names (filter p (name ∷ []))) t
    by_test true is =
        with_both (used_names (filter p (take i names))) (used_names (name ∷ [])) t
        ∙ ap (λ b. with_names (used_names (filter p (take i names)) ++ used_names (cond b (name ∷ []) [])) t) (sym is)
    by_test false is =
        no_names (with_names (used_names (filter p (take i names))) t)
        ∙ with_both (used_names (filter p (take i names))) [] t
        ∙ ap (λ b. with_names (used_names (filter p (take i names)) ++ used_names (cond b (name ∷ []) [])) t) (sym is)

-- ---- `this`, `new.target` and `arguments`

used_without : (m n : Text) (us : List Used) → bytes_eq m n ≡ false
    → used_within (without m us) n ≡ used_within us n
used_without m n [] other = refl
used_without m n (u ∷ us) other = by_test (bytes_eq u.name m) refl (used_without m n us other)
  where
    and_false : (b : Bool) → (b && false) ≡ false
    and_false true = refl
    and_false false = refl

    by_test : (b : Bool) → bytes_eq u.name m ≡ b
        → used_within (without m us) n ≡ used_within us n
        → used_within (without m (u ∷ us)) n ≡ used_within (u ∷ us) n
    by_test false is more = rw is (ap (λ b. u.inner && bytes_eq u.name n || b) more)
    by_test true is more =
        let unlike : bytes_eq u.name n ≡ false =
        ap (λ name. bytes_eq name n) ((bytes_decides u.name m).0 is) ∙ other in
        rw (is, unlike) (more ∙ ap (λ b. b || used_within us n) (sym (and_false u.inner)))

abbrev act : Text → ScopeName
act name = record { name = name; binding = Some binding.Activation }

abbrev added : Bool → Text → Table → Table
added b name t = cond b (with_names (act name ∷ []) t) t

added_step : (b : Bool) (name : Text) (names : List ScopeName) (t : Table)
    → added b name (with_names names t) ≡ with_names (names ++ cond b (act name ∷ []) []) t
added_step true name names t = with_both names (act name ∷ []) t
added_step false name names t = ap (λ names. with_names names t) (sym (append-nil names))

three_names : (a b c : Bool)
    → (cond a (act this_name ∷ []) [] ++ cond b (act target_name ∷ []) []) ++ cond c (act arguments_name ∷ []) []
    ≡ (let last = cond c (arguments_name ∷ []) [] in let more = cond b (target_name ∷ last) last in
    map act (cond a (this_name ∷ more) more))
three_names true true true = refl
three_names true true false = refl
three_names true false true = refl
three_names true false false = refl
three_names false true true = refl
three_names false true false = refl
three_names false false true = refl
three_names false false false = refl

three : (a b c : Bool) (t : Table)
    → added c arguments_name (added b target_name (added a this_name t))
    ≡ with_names ((cond a (act this_name ∷ []) [] ++ cond b (act target_name ∷ []) [])
    ++ cond c (act arguments_name ∷ []) []) t
three a b c t =
    ap (λ t. added c arguments_name (added b target_name (added a this_name t))) (no_names t)
    ∙ ap (λ t. added c arguments_name (added b target_name t)) (added_step a this_name [] t)
    ∙ ap (added c arguments_name) (added_step b target_name (cond a (act this_name ∷ []) []) t)
    ∙ added_step c arguments_name (cond a (act this_name ∷ []) [] ++ cond b (act target_name ∷ []) []) t

act_names : (names : List Text)
    → map act names ≡ declared_names (map (λ name. record { binding = binding.Activation; name = name }) names)
act_names [] = refl
act_names (name ∷ names) = ap (λ rest. act name ∷ rest) (act_names names)

pub arguments_found : (us : List Used)
    → used_within (without target_name (without this_name us)) arguments_name ≡ used_within us arguments_name
arguments_found us =
    used_without target_name arguments_name (without this_name us) refl ∙ used_without this_name arguments_name us refl

pub activation_names_added : (us : List Used) (t : Table)
    → added (used_within (without target_name (without this_name us)) arguments_name) arguments_name
    (added (used_within (without this_name us) target_name) target_name (added (used_within us this_name) this_name t))
    ≡ with_names (declared_names (activation true us)) t
activation_names_added us t =
    let a = used_within us this_name in
    let b = used_within us target_name in
    let c = used_within us arguments_name in
    ap (λ x. added x arguments_name (added (used_within (without this_name us) target_name) target_name
    (added a this_name t))) (arguments_found us)
    ∙ ap (λ x. added c arguments_name (added x target_name (added a this_name t)))
    (used_without this_name target_name us refl)
    ∙ three a b c t
    ∙ ap (λ names. with_names names t) (three_names a b c ∙ act_names (filter (used_within us) activation_names))

-- ---- the names of a scope that ends

filter_same : {X : Type 0} (p q : X → Bool) (xs : List X) → ((x : X) → p x ≡ q x) → filter p xs ≡ filter q xs
filter_same p q [] same = refl
filter_same p q (x ∷ xs) same =
    ap (λ b. cond b (x ∷ filter p xs) (filter p xs)) (same x)
    ∙ ap (λ rest. cond (q x) (x ∷ rest) rest) (filter_same p q xs same)

and_true : (b : Bool) → (b && true) ≡ b
and_true true = refl
and_true false = refl

pub block_names : (binds : Bool) (declared : List Declared) (here : List Text)
    → declared_names declared ++ used_names (filter (shows binds false declared) here) ≡ scope_names binds declared here
block_names binds declared here =
    ap (λ names. declared_names declared ++ used_names names)
    (filter_same (shows binds false declared) (is_listed binds declared) here
    (λ name. ap (λ b. not (declares_name name declared) && b)
    (and_true (not (binds && occurs name (this_name ∷ target_name ∷ []))))))

abbrev act3 : (a b c : Bool) → List Declared
act3 a b c =
    let last = cond c (arguments_name ∷ []) [] in let more = cond b (target_name ∷ last) last in
    map (λ name. record { binding = binding.Activation; name = name }) (cond a (this_name ∷ more) more)

declares_act3 : (a b c : Bool) (n : Text)
    → declares_name n (act3 a b c)
    ≡ ((a && bytes_eq this_name n) || ((b && bytes_eq target_name n) || ((c && bytes_eq arguments_name n) || false)))
declares_act3 true true true n = refl
declares_act3 true true false n = refl
declares_act3 true false true n = refl
declares_act3 true false false n = refl
declares_act3 false true true n = refl
declares_act3 false true false n = refl
declares_act3 false false true n = refl
declares_act3 false false false n = refl

or_true : (b : Bool) → (b || true) ≡ true
or_true true = refl
or_true false = refl

or_false : (b : Bool) → (b || false) ≡ b
or_false true = refl
or_false false = refl

and_false : (b : Bool) → (b && false) ≡ false
and_false true = refl
and_false false = refl

-- a name that is listed, in a function that binds these: d tells that it is declared, e to g which of the three it is
listed_test : (a b c d e f g : Bool)
    → (not d && (not (e || (f || false)) && not (c && g)))
    ≡ (not (((a && e) || ((b && f) || ((c && g) || false))) || d) && not (e || (f || false)))
listed_test a b c true e f g =
    ap (λ x. not x && not (e || (f || false))) (sym (or_true ((a && e) || ((b && f) || ((c && g) || false)))))
listed_test a b c false true f g =
    sym (and_false (not (((a && true) || ((b && f) || ((c && g) || false))) || false)))
listed_test a b c false false true g =
    sym (and_false (not (((a && false) || ((b && true) || ((c && g) || false))) || false)))
listed_test a b c false false false g =
    sym (and_true (not (((a && false) || ((b && false) || ((c && g) || false))) || false))
    ∙ ap not (or_false ((a && false) || ((b && false) || ((c && g) || false))))
    ∙ ap (λ x. not (x || ((b && false) || ((c && g) || false)))) (and_false a)
    ∙ ap (λ x. not (x || ((c && g) || false))) (and_false b)
    ∙ ap not (or_false (c && g)))

-- a name that is free in it
free_test : (a b c d e f g : Bool)
    → (((not e && not f) && not g) && not d)
    ≡ (not (((a && e) || ((b && f) || ((c && g) || false))) || d) && not (e || (f || (g || false))))
free_test a b c d true f g = sym (and_false (not (((a && true) || ((b && f) || ((c && g) || false))) || d)))
free_test a b c d false true g = sym (and_false (not (((a && false) || ((b && true) || ((c && g) || false))) || d)))
free_test a b c d false false true =
    sym (and_false (not (((a && false) || ((b && false) || ((c && true) || false))) || d)))
free_test a b c d false false false =
    sym (and_true (not (((a && false) || ((b && false) || ((c && false) || false))) || d))
    ∙ ap (λ x. not ((x || ((b && false) || ((c && false) || false))) || d)) (and_false a)
    ∙ ap (λ x. not ((x || ((c && false) || false)) || d)) (and_false b)
    ∙ ap (λ x. not ((x || false) || d)) (and_false c))

declares_both : (first second : List Declared) (n : Text)
    → declares_name n (first ++ second) ≡ (declares_name n first || declares_name n second)
declares_both first second n = list_any-append (λ (d : Declared). bytes_eq d.name n) first second

top_listed : (binds : Bool) (used : List Used) (declared : List Declared) (n : Text)
    → shows binds (binds && used_within used arguments_name) declared n
    ≡ is_listed binds (activation binds used ++ declared) n
top_listed false used declared n = refl
top_listed true used declared n =
    let a = used_within used this_name in
    let b = used_within used target_name in
    let c = used_within used arguments_name in
    let e = bytes_eq this_name n in
    let f = bytes_eq target_name n in
    listed_test a b c (declares_name n declared) e f (bytes_eq arguments_name n)
    ∙ ap (λ x. not x && not (e || (f || false)))
    (ap (λ x. x || declares_name n declared) (sym (declares_act3 a b c n)) ∙ sym (declares_both (act3 a b c) declared
    n))

-- the names of the outermost scope of a function
pub top_names : (binds : Bool) (used : List Used) (declared : List Declared) (here : List Text)
    → (declared_names (activation binds used) ++ declared_names declared)
    ++ used_names (filter (shows binds (binds && used_within used arguments_name) declared) here)
    ≡ scope_names binds (activation binds used ++ declared) here
top_names binds used declared here =
    let bound = activation binds used in
    ap (λ names. names ++ used_names (filter (shows binds (binds && used_within used arguments_name) declared) here))
    (sym (map-append (λ (d : Declared). record { name = d.name; binding = Some d.binding }) bound declared))
    ∙ ap (λ names. declared_names (bound ++ declared) ++ used_names names)
    (filter_same (shows binds (binds && used_within used arguments_name) declared) (is_listed binds (bound ++ declared))
    here (top_listed binds used declared))

filter_twice : {X : Type 0} (p q : X → Bool) (xs : List X) → filter p (filter q xs) ≡ filter (λ x. q x && p x) xs
filter_twice p q [] = refl
filter_twice p q (x ∷ xs) = by_test (q x) (filter_twice p q xs)
  where
    by_test : (b : Bool) → filter p (filter q xs) ≡ filter (λ x. q x && p x) xs
        → filter p (cond b (x ∷ filter q xs) (filter q xs))
        ≡ cond (b && p x) (x ∷ filter (λ x. q x && p x) xs) (filter (λ x. q x && p x) xs)
    by_test true more = ap (λ rest. cond (p x) (x ∷ rest) rest) more
    by_test false more = more

free_one : (used : List Used) (declared : List Declared) (u : Used)
    → (((not (bytes_eq u.name this_name) && not (bytes_eq u.name target_name)) && not (bytes_eq u.name arguments_name))
    && not (declares_name u.name declared))
    ≡ is_free true (activation true used ++ declared) u
free_one used declared u =
    let n = u.name in
    let a = used_within used this_name in
    let b = used_within used target_name in
    let c = used_within used arguments_name in
    let d = declares_name n declared in
    let e = bytes_eq this_name n in
    let f = bytes_eq target_name n in
    let g = bytes_eq arguments_name n in
    ap (λ x. ((not x && not (bytes_eq n target_name)) && not (bytes_eq n arguments_name)) && not d) (eq_swap n
    this_name)
    ∙ ap (λ x. ((not e && not x) && not (bytes_eq n arguments_name)) && not d) (eq_swap n target_name)
    ∙ ap (λ x. ((not e && not f) && not x) && not d) (eq_swap n arguments_name)
    ∙ free_test a b c d e f g
    ∙ ap (λ x. not x && not (e || (f || (g || false))))
    (ap (λ x. x || d) (sym (declares_act3 a b c n)) ∙ sym (declares_both (act3 a b c) declared n))

-- what is left when all that a function declares is taken out is free in it
pub free_left : (binds : Bool) (used : List Used) (declared : List Declared)
    → outside declared (without_bound binds used) ≡ filter (is_free binds (activation binds used ++ declared)) used
free_left false used declared =
    filter_same (λ u. not (declares_name u.name declared)) (is_free false declared) used
    (λ u. sym (and_true (not (declares_name u.name declared))))
free_left true used declared =
    let p1 : Used → Bool = λ u. not (bytes_eq u.name this_name) in
    let p2 : Used → Bool = λ u. not (bytes_eq u.name target_name) in
    let p3 : Used → Bool = λ u. not (bytes_eq u.name arguments_name) in
    let p4 : Used → Bool = λ u. not (declares_name u.name declared) in
    ap (λ us. filter p4 (filter p3 us)) (filter_twice p2 p1 used)
    ∙ ap (filter p4) (filter_twice p3 (λ u. p1 u && p2 u) used)
    ∙ filter_twice p4 (λ u. (p1 u && p2 u) && p3 u) used
    ∙ filter_same (λ u. ((p1 u && p2 u) && p3 u) && p4 u) (is_free true (activation true used ++ declared)) used
    (free_one used declared)

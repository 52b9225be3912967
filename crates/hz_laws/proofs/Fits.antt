-- What fits where a sort is wanted has parts that fit where others are wanted, and that are no scripts.
use Rattle.std.proofs.Common.{◌≡◌, Bool, true, false, not, ◌&&◌, ◌||◌, List, [], ◌∷◌, ◌++◌, refl}
use Rattle.hz_tree.specs.declared.tree.Tree.TheOpen.{Tree-F}
use Rattle.hz_tree.specs.trees.Places.{node, optional}
use Rattle.hz_laws.specs.Sorts.{Sort, statement, bind, clause, handler, expression, element, property, method}
use Rattle.hz_laws.specs.Sorts.{body, key, tail, is_script, Fits, all_fit, fits_layer, is_bind, is_body, is_clause}
use Rattle.hz_laws.specs.Sorts.{is_element, is_expression, is_form, is_handler, is_key, is_method, is_property, is_statement}
use Rattle.hz_laws.specs.Sorts.{is_tail}
use Rattle.hz_laws.proofs.Ranks.{and_left, and_right}

-- A property and the function of one.
abbrev pub is_method_part : Sort → Bool
is_method_part wanted = is_property wanted || is_method wanted

-- A sort that no part has. Where `may` is false, none is a property or the function of one.
abbrev pub is_apart : (may : Bool) → Sort → Bool
is_apart may wanted = is_script wanted || (not may && is_method_part wanted)

pub record Fit (may : Bool) (fits : Fits) : Type 0 where
  pub sort : Sort
  pub is_part : is_apart may sort ≡ false
  pub holds : fits sort ≡ true

left_false : (a b : Bool) → (a || b) ≡ false → a ≡ false
left_false true b h = h
left_false false b h = refl

pub no_script : {may : Bool} {fits : Fits} (fit : Fit may fits) → is_script fit.sort ≡ false
no_script {may} fit = left_false (is_script fit.sort) (not may && is_method_part fit.sort) fit.is_part

abbrev AllFit : Bool → List Fits → Type 0
AllFit may [] = Unit {0}
AllFit may (fits ∷ more) = Fit may fits × AllFit may more

pub record Parts (may : Bool) (all : List Fits) : Type 0 where
  pub fit : AllFit may all

pub no_parts : {may : Bool} → Parts may []
no_parts = record { fit = tt }

pub one_part : (sort : Sort) (fits : Fits) {may : Bool} → is_apart may sort ≡ false → fits sort ≡ true
    → Parts may (fits ∷ [])
one_part sort fits h i = record { fit = (record { sort = sort; is_part = h; holds = i }, tt) }

pub first_part : {may : Bool} {fits : Fits} {more : (List Fits)} → Parts may (fits ∷ more) → Fit may fits
first_part h = h.fit.0

pub more_parts : {may : Bool} {fits : Fits} {more : (List Fits)} → Parts may (fits ∷ more) → Parts may more
more_parts h = record { fit = h.fit.1 }

both_fit : (may : Bool) (xs ys : List Fits) → AllFit may xs → AllFit may ys → AllFit may (xs ++ ys)
both_fit may [] ys h i = i
both_fit may (x ∷ xs) ys h i = (h.0, both_fit may xs ys h.1 i)

all_parts : (may : Bool) (sort : Sort) (all : List Fits) → is_apart may sort ≡ false → all_fit sort all ≡ true
    → AllFit may all
all_parts may sort [] h i = tt
all_parts may sort (fits ∷ more) h i = (
  record { sort = sort; is_part = h; holds = and_left (fits sort) (all_fit sort more) i },
  all_parts may sort more h (and_right (fits sort) (all_fit sort more) i),
)

pub list : {may : Bool} (sort : Sort) (all : List Fits) → is_apart may sort ≡ false → all_fit sort all ≡ true
    → Parts may all
list {may} sort all h i = record { fit = all_parts may sort all h i }

next : (sort : Sort) (fits : Fits) {may b : Bool} {more : (List Fits)} → is_apart may sort ≡ false
    → (b ≡ true → Parts may more) → (fits sort && b) ≡ true → Parts may (fits ∷ more)
next sort fits {may} {b} {more} h rest i =
    record {
      fit = (
        record { sort = sort; is_part = h; holds = and_left (fits sort) b i },
        (rest (and_right (fits sort) b i)).fit,
      );
    }

lists : (sort : Sort) (all : List Fits) {may b : Bool} {more : (List Fits)} → is_apart may sort ≡ false
    → (b ≡ true → Parts may more) → (all_fit sort all && b) ≡ true → Parts may (all ++ more)
lists sort all {may} {b} {more} h rest i =
    record {
      fit = both_fit may all more (all_parts may sort all h (and_left (all_fit sort all) b i))
          (rest (and_right (all_fit sort all) b i)).fit;
    }

behind : (a : Bool) {b may : Bool} {all : (List Fits)} → (b ≡ true → Parts may all) → (a && b) ≡ true
    → Parts may all
behind a {b} rest i = rest (and_right a b i)

-- whether parts of a layer can be properties, or functions of them
abbrev pub has_method_parts : {A : Type 0} → Tree-F A → Bool
has_method_parts (Tree-F.Object at props) = true
has_method_parts (Tree-F.Method at named function) = true
has_method_parts (Tree-F.Getter at named function) = true
has_method_parts (Tree-F.Setter at named function) = true
has_method_parts _ = false

-- the parts of what fits
pub parts_fit : (x : Tree-F Fits) (sort : Sort) → fits_layer x sort ≡ true
    → Parts (has_method_parts x) (node x).children
parts_fit (Tree-F.Function at end form kind parameters rest within) sort h =
    behind (is_form form sort) (one_part body within refl) h
parts_fit (Tree-F.Comma at []) sort h = no_parts
parts_fit (Tree-F.Comma at (first ∷ more)) sort h =
    behind (is_expression sort) (list expression (first ∷ more) refl) h
parts_fit (Tree-F.Script at items) sort h = behind (is_script sort) (list statement items refl) h
parts_fit (Tree-F.Body at items) sort h = behind (is_body sort) (list statement items refl) h
parts_fit (Tree-F.Lexical at word binds) sort h = behind (is_statement sort) (list bind binds refl) h
parts_fit (Tree-F.Var at binds) sort h = behind (is_statement sort) (list bind binds refl) h
parts_fit (Tree-F.Bind at word name value) sort h = behind (is_bind sort) (list expression (optional value) refl) h
parts_fit (Tree-F.Block at items end) sort h = behind (is_statement sort) (list statement items refl) h
parts_fit (Tree-F.If at test within other) sort h =
    behind (is_statement sort)
    (next expression test refl (next statement within refl (list statement (optional other) refl))) h
parts_fit (Tree-F.DoWhile at within test) sort h =
    behind (is_statement sort) (next statement within refl (one_part expression test refl)) h
parts_fit (Tree-F.While at test within) sort h =
    behind (is_statement sort) (next expression test refl (one_part statement within refl)) h
parts_fit (Tree-F.ForDeclared at word bound iteration over within end) sort h =
    behind (is_statement sort) (next expression over refl (one_part statement within refl)) h
parts_fit (Tree-F.ForBinds at word binds test update within end) sort h =
    behind (is_statement sort)
    (lists bind binds refl (lists expression (optional test) refl
    (lists expression (optional update) refl (one_part statement within refl)))) h
parts_fit (Tree-F.ForLeft at target iteration over within) sort h =
    behind (is_statement sort)
    (next expression target refl (next expression over refl (one_part statement within refl))) h
parts_fit (Tree-F.ForExpr at first test update within) sort h =
    behind (is_statement sort)
    (lists expression (optional first) refl (lists expression (optional test) refl
    (lists expression (optional update) refl (one_part statement within refl)))) h
parts_fit (Tree-F.Return at value) sort h = behind (is_statement sort) (list expression (optional value) refl) h
parts_fit (Tree-F.Throw at value) sort h = behind (is_statement sort) (one_part expression value refl) h
parts_fit (Tree-F.Switch at value brace clauses end) sort h =
    behind (is_statement sort) (next expression value refl (list clause clauses refl)) h
parts_fit (Tree-F.Case at value items) sort h =
    behind (is_clause sort) (next expression value refl (list statement items refl)) h
parts_fit (Tree-F.Default at items) sort h = behind (is_clause sort) (list statement items refl) h
parts_fit (Tree-F.Try at block handling finally) sort h =
    behind (is_statement sort)
    (next statement block refl (lists handler (optional handling) refl (list statement (optional finally) refl))) h
parts_fit (Tree-F.Catch at bound brace items end) sort h = behind (is_handler sort) (list statement items refl) h
parts_fit (Tree-F.Label at name within) sort h = behind (is_statement sort) (one_part statement within refl) h
parts_fit (Tree-F.Expression at value) sort h = behind (is_statement sort) (one_part expression value refl) h
parts_fit (Tree-F.Assign at target operator value) sort h =
    behind (is_expression sort) (next expression target refl (one_part expression value refl)) h
parts_fit (Tree-F.Yield at delegates value) sort h =
    behind (is_expression sort) (list expression (optional value) refl) h
parts_fit (Tree-F.Cond at test first second) sort h =
    behind (is_expression sort)
    (next expression test refl (next expression first refl (one_part expression second refl))) h
parts_fit (Tree-F.Binary at left operator right) sort h =
    behind (is_expression sort) (next expression left refl (one_part expression right refl)) h
parts_fit (Tree-F.Unary at operator operand) sort h = behind (is_expression sort) (one_part expression operand refl) h
parts_fit (Tree-F.Postfix at operand operator) sort h =
    behind (is_expression sort) (one_part expression operand refl) h
parts_fit (Tree-F.Left at head tails) sort h =
    behind (is_expression sort) (next expression head refl (list tail tails refl)) h
parts_fit (Tree-F.New at callee members args) sort h =
    behind (is_expression sort)
    (next expression callee refl (lists tail members refl (list tail (optional args) refl))) h
parts_fit (Tree-F.Index at within) sort h = behind (is_tail sort) (one_part expression within refl) h
parts_fit (Tree-F.Args at values) sort h = behind (is_tail sort) (list element values refl) h
parts_fit (Tree-F.Optional at within) sort h = behind (is_tail sort) (one_part tail within refl) h
parts_fit (Tree-F.Spread at value) sort h =
    behind (is_element sort || is_property sort) (one_part expression value refl) h
parts_fit (Tree-F.Parentheses at value) sort h = behind (is_expression sort) (one_part expression value refl) h
parts_fit (Tree-F.Template at parts holes) sort h = behind (is_expression sort) (list expression holes refl) h
parts_fit (Tree-F.Array at elements) sort h = behind (is_expression sort) (list element elements refl) h
parts_fit (Tree-F.Object at props) sort h = behind (is_expression sort) (list property props refl) h
parts_fit (Tree-F.Property at named value) sort h =
    behind (is_property sort) (next key named refl (one_part expression value refl)) h
parts_fit (Tree-F.Method at named function) sort h =
    behind (is_property sort) (next key named refl (one_part method function refl)) h
parts_fit (Tree-F.Getter at named function) sort h =
    behind (is_property sort) (next key named refl (one_part method function refl)) h
parts_fit (Tree-F.Setter at named function) sort h =
    behind (is_property sort) (next key named refl (one_part method function refl)) h
parts_fit (Tree-F.ComputedKey at within) sort h = behind (is_key sort) (one_part expression within refl) h
parts_fit _ sort h = no_parts

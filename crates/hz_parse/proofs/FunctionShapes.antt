-- How a function is written, as its kind and its first token tell, and what its symbols leave on the stacks.
use Rattle.std.proofs.Common.{◌≡◌, ◌≢◌, ℕ, Bool, true, false, not, List, [], Option, refl, ap, sym, subst, ◌∙◌}
use Rattle.hz_tree.specs.declared.class.Class.{Class}
use Rattle.hz_tree.specs.declared.class.Class.TheVariants as k
use Rattle.hz_tree.specs.declared.function_tree.FunctionTree.{FunctionTree}
use Rattle.hz_tree.specs.declared.index.FunctionInfo.{FunctionInfo}
use Rattle.hz_tree.specs.declared.tree.Bound.{Bound}
use Rattle.hz_tree.specs.declared.tree.FunctionKind.{FunctionKind}
use Rattle.hz_tree.specs.declared.tree.FunctionKind.TheVariants as kind
use Rattle.hz_tree.specs.declared.tree.Rest.{Rest}
use Rattle.hz_tree.specs.declared.tree.Tree.{Tree}
use Rattle.hz_tree.specs.grammar.Classes.{is_function, is_paren}
use Rattle.hz_tree.specs.grammar.Look.{Terminal}
use Rattle.hz_tree.specs.grammar.Symbols.{of_body}
use Rattle.hz_cuts.specs.Cuts.{cut_tree}
use Rattle.hz_parts.specs.declared.parts.Parts.{Parts as Stacks}
use Rattle.hz_stands.specs.Plain.{generator_by, is_plain, shape_by}
use Rattle.hz_stands.specs.Stands.{Shape, arrowed, declared, expressed, getter, method, setter, written}
use Rattle.hz_parse.specs.Given.{Gives, ReadsParts, function_tree, has_one_name, made_of}
use Rattle.hz_parse.specs.Parsed.{Reads}
use Rattle.hz_parse.specs.Whole.{IsPlain, Whole}

-- ---- the kind and the first token

pub no_word : (first : Class) → first ≢ k.Function → is_function first ≡ false
no_word k.Function h = absurd (h refl)
no_word _ h = refl

pub no_paren : (first : Class) → first ≢ k.LeftParen → is_paren first ≡ false
no_paren k.LeftParen h = absurd (h refl)
no_paren _ h = refl

pub other_kind : (a : FunctionKind) (first : Class) → a ≢ kind.Generator → a ≢ kind.Arrow → a ≢ kind.Method
    → expressed false ≡ shape_by a first
other_kind kind.Generator first g h i = absurd (g refl)
other_kind kind.Arrow first g h i = absurd (h refl)
other_kind kind.Method first g h i = absurd (i refl)
other_kind _ first g h i = refl

generator_listed : (word : Bool) → false ≡ has_one_name (generator_by word)
generator_listed true = refl
generator_listed false = refl

pub listed_kind : (a : FunctionKind) (first : Class) → a ≢ kind.Arrow → false ≡ has_one_name (shape_by a first)
listed_kind kind.Generator first h = generator_listed (is_function first)
listed_kind kind.Arrow first h = absurd (h refl)
listed_kind _ first h = refl

pub name_by_paren : (first : Class) (paren : Bool) → paren ≡ is_paren first
    → not paren ≡ has_one_name (shape_by kind.Arrow first)
name_by_paren first paren h = ap not h ∙ by_paren (is_paren first)
  where
    by_paren : (b : Bool) → not b ≡ has_one_name (arrowed (of_body false) b)
    by_paren true = refl
    by_paren false = refl

generator_plain : (word : Bool) → is_plain (generator_by word) ≡ true
generator_plain true = refl
generator_plain false = refl

pub told_plain : (a : FunctionKind) (first : Class) → is_plain (shape_by a first) ≡ true
told_plain kind.Generator first = generator_plain (is_function first)
told_plain _ first = refl

pub shape_plain : (shape : Shape) → is_plain shape ≡ true → IsPlain (written shape).symbols
shape_plain (expressed true) h = (refl, (refl, refl))
shape_plain (expressed false) h = (refl, (refl, refl))
shape_plain (method true) h = (refl, (refl, refl))
shape_plain (method false) h = (refl, (refl, refl))
shape_plain (arrowed c true) h = (refl, (refl, refl))
shape_plain (arrowed c false) h = (refl, (refl, refl))
shape_plain (declared generator) h = cc
shape_plain getter h = cc
shape_plain setter h = cc

-- ---- what lies on the stacks

shape_gives : (functions : List FunctionInfo) (ts : List Terminal) (shape : Shape) → is_plain shape ≡ true
    → (w : Whole functions (written shape).symbols ts)
    → Gives (has_one_name shape) (made_of functions (written shape).symbols ts w)
    ((written shape).given w.parts).parameters ((written shape).given w.parts).rest
    (cut_tree functions ((written shape).given w.parts).body)
shape_gives functions ts (expressed true) h w =
    record { more = []; rests = []; trees = []; bounds_are = refl; rests_are = refl; trees_are = refl }
shape_gives functions ts (expressed false) h w =
    record { more = []; rests = []; trees = []; bounds_are = refl; rests_are = refl; trees_are = refl }
shape_gives functions ts (method true) h w =
    record { more = []; rests = []; trees = []; bounds_are = refl; rests_are = refl; trees_are = refl }
shape_gives functions ts (method false) h w =
    record { more = []; rests = []; trees = []; bounds_are = refl; rests_are = refl; trees_are = refl }
shape_gives functions ts (arrowed c true) h w =
    record { more = []; rests = []; trees = []; bounds_are = refl; rests_are = refl; trees_are = refl }
shape_gives functions ts (arrowed c false) h w = record {
  bound = w.parts.0;
  names = [];
  trees = [];
  names_are = refl;
  trees_are = refl;
  one = refl;
  none = refl;
}
shape_gives functions ts (declared generator) h w = cc
shape_gives functions ts getter h w = cc
shape_gives functions ts setter h w = cc

-- the parts of a function that was read
pub shape_made : (functions : List FunctionInfo) (ts rest : List Terminal) (shape : Shape) (made : Stacks)
    (before after : ℕ) → is_plain shape ≡ true
    → ReadsParts functions (written shape).symbols ts rest made before after
    → (w : Whole functions (written shape).symbols ts)
    → Gives (has_one_name shape) made ((written shape).given w.parts).parameters ((written shape).given w.parts).rest
    (cut_tree functions ((written shape).given w.parts).body)
shape_made functions ts rest shape made before after h read w =
    subst (λ p. Gives (has_one_name shape) p ((written shape).given w.parts).parameters
    ((written shape).given w.parts).rest (cut_tree functions ((written shape).given w.parts).body))
    (sym (read w).1.0) (shape_gives functions ts shape h w)

pub shape_some : (functions : List FunctionInfo) (ts rest : List Terminal) (shape : Shape) (made : Stacks)
    (before after : ℕ) (one_name : Bool) → one_name ≡ has_one_name shape → is_plain shape ≡ true
    → ReadsParts functions (written shape).symbols ts rest made before after
    → Whole functions (written shape).symbols ts
    → (bounds : List Bound) × (collected : Option Rest) × (body : Tree) × Gives one_name made bounds collected body
shape_some functions ts rest shape made before after one_name e h read w = (
  ((written shape).given w.parts).parameters,
  ((written shape).given w.parts).rest,
  cut_tree functions ((written shape).given w.parts).body,
  subst (λ b. Gives b made ((written shape).given w.parts).parameters ((written shape).given w.parts).rest
      (cut_tree functions ((written shape).given w.parts).body)) (sym e)
      (shape_made functions ts rest shape made before after h read w),
)

-- the function of these parts is the one that was read
pub shape_read : (functions : List FunctionInfo) (number : ℕ) (kind : FunctionKind) (ts rest : List Terminal)
    (shape : Shape) (made : Stacks) (before after : ℕ) (tree : FunctionTree) → is_plain shape ≡ true
    → ReadsParts functions (written shape).symbols ts rest made before after
    → ((bounds : List Bound) (collected : Option Rest) (body : Tree) → Gives (has_one_name shape) made bounds
    collected body → tree ≡ function_tree number kind bounds collected body)
    → Reads functions number kind ts tree before after shape
shape_read functions number kind ts rest shape made before after tree h read top w =
    (top _ _ _ (shape_made functions ts rest shape made before after h read w), (read w).1.1)

-- What is read as an expression makes its tree.
use Rattle.std.proofs.Common.{◌≡◌, ℕ, Bool, true, false, List, [], ◌∷◌, refl, ap, ◌∙◌}
use Rattle.hz_tree.specs.declared.index.FunctionInfo.{FunctionInfo}
use Rattle.hz_tree.specs.declared.nonterminal.Context.{Context}
use Rattle.hz_tree.specs.declared.tree.Tree.{Tree}
use Rattle.hz_tree.specs.grammar.Look.{Terminal}
use Rattle.hz_cuts.specs.Cuts.{cut_tree}
use Rattle.hz_parts.specs.declared.parts.Parts.{Parts as Stacks}
use Rattle.hz_parse.specs.Given.{ReadsParts, made_of}
use Rattle.hz_parse.specs.Parsed.{ReadsTree, expression}
use Rattle.hz_parse.specs.Whole.{IsPlain, Whole}

pub expression_plain : (whole : Bool) (c : Context) → IsPlain (expression whole c).symbols
expression_plain true c = (refl, (refl, refl))
expression_plain false c = (refl, (refl, refl))

pub made_trees : (functions : List FunctionInfo) (whole : Bool) (c : Context) (ts : List Terminal)
    (w : Whole functions (expression whole c).symbols ts)
    → (made_of functions (expression whole c).symbols ts w).trees
    ≡ cut_tree functions ((expression whole c).given w.parts) ∷ []
made_trees functions true c ts w = refl
made_trees functions false c ts w = refl

pub expression_read : (functions : List FunctionInfo) (whole : Bool) (c : Context) (ts rest : List Terminal)
    (made : Stacks) (tree : Tree) (before after : ℕ)
    → ReadsParts functions (expression whole c).symbols ts rest made before after
    → ((top : Tree) (others : List Tree) → made.trees ≡ top ∷ others → tree ≡ top)
    → ReadsTree functions (expression whole c) ts rest tree before after
expression_read functions whole c ts rest made tree before after h top w =
    let e = h w in (
      top (cut_tree functions ((expression whole c).given w.parts)) []
          (ap (λ p. p.trees) e.1.0 ∙ made_trees functions whole c ts w),
      (e.0, e.1.1),
    )

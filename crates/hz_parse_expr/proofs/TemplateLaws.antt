-- What the makers of templates put in the place of the uppermost parts.
use Rattle.std.proofs.Common.{◌≡◌, List, ◌∷◌, ap, ◌∙◌}
use Rattle.hz_tree.specs.declared.tree.Tree.{Tree}
use Rattle.hz_tree.specs.declared.tree.Tree.TheVariants as t
use Rattle.hz_tree.specs.tokens.Text.{Text}
use Rattle.hz_parts.specs.declared.parts.Parts.{Parts as Stacks}
use Rattle.hz_parts.specs.declared.parts.Seen.{Seen}
use Rattle.hz_parts.specs.Values.{push_list, push_seen, push_texts, push_tree}

-- what puts the text of the uppermost token before the uppermost texts
abbrev TextFirst : (old new : Stacks) → Type 0
TextFirst old new =
    (token : Seen) (seen : List Seen) (more : List Text) (texts : List (List Text)) → old.seen ≡ token ∷ seen
    → old.texts ≡ more ∷ texts → new ≡ record old { seen = seen; texts = (token.text ∷ more) ∷ texts }

pub text_made : (token : Seen) (more : List Text) (old new below : Stacks) → TextFirst old new
    → old ≡ push_texts more (push_seen token below) → new ≡ push_texts (token.text ∷ more) below
text_made token more old new below h e =
    h token below.seen more below.texts (ap (λ (s : Stacks). s.seen) e) (ap (λ (s : Stacks). s.texts) e)
    ∙ ap (λ (s : Stacks). record s { seen = below.seen; texts = (token.text ∷ more) ∷ below.texts }) e

-- what makes a template of the uppermost texts and holes
abbrev Templated : (old new : Stacks) → Type 0
Templated old new =
    (begun : Seen) (seen : List Seen) (written : List Text) (texts : List (List Text)) (holes : List Tree)
    (lists : List (List Tree)) → old.seen ≡ begun ∷ seen → old.texts ≡ written ∷ texts → old.lists ≡ holes ∷ lists
    → new ≡ record old {
      seen = seen;
      texts = texts;
      lists = lists;
      trees = t.Template begun.at written holes ∷ old.trees;
    }

pub template_made : (begun : Seen) (written : List Text) (holes : List Tree) (old new below : Stacks)
    → Templated old new → old ≡ push_texts written (push_list holes (push_seen begun below))
    → new ≡ push_tree (t.Template begun.at written holes) below
template_made begun written holes old new below h e =
    h begun below.seen written below.texts holes below.lists (ap (λ (s : Stacks). s.seen) e)
    (ap (λ (s : Stacks). s.texts) e) (ap (λ (s : Stacks). s.lists) e)
    ∙ ap (λ (s : Stacks). record s {
      seen = below.seen;
      texts = below.texts;
      lists = below.lists;
      trees = t.Template begun.at written holes ∷ s.trees;
    }) e

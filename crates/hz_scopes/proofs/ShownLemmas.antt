-- What the stored state shows, step by step.
use Rattle.std.proofs.Common.{◌≡◌, ◌<◌, ℕ, Bool, false, List, [], ◌∷◌, length}
use Rattle.std.specs.Prelude.{slice_set}
use Rattle.std.proofs.Common.{refl, sym, ◌∙◌, Some, arith}
use Rattle.hz_tree.specs.tokens.Text.{Text}
use Rattle.hz_tree.specs.trees.FunctionScopes.{Declared, FunctionScopes, with_declared, with_name, at_top}
use Rattle.hz_tree.specs.trees.FunctionScopes.{outside, scope_names}
use Rattle.hz_index.specs.Table.{unended}
use Rattle.hz_scopes.specs.Layers.{opened, pushed, closed, joined}
use Rattle.hz_scopes.specs.State.{Body, Known, use_name, declare_lexical, begin_scope, end_scope, innermost}
use Rattle.hz_scopes.specs.Stored.{Held, body_of, known_of, number_of}
use Rattle.hz_scopes.specs.declared.body.Block.{Block}
use Rattle.hz_scopes.specs.declared.body.OpenBody.{OpenBody}

-- a step in the innermost function
abbrev pub in_known : (Body → Body) → Known → Known
in_known f k = record k { body = f k.body }

abbrev pub here_with : Text → Held → Held
here_with name h = record h {
  here = record { inner = with_name h.here.inner name; outer = h.here.outer };
  uses = pushed (record { name = name; inner = false }) h.uses;
}

pub use_shown : (b : OpenBody) (blocks : List Block) (outer : List OpenBody) (h : Held) (functions : List
    FunctionScopes)
    (name : Text)
    → known_of b blocks outer (here_with name h) functions
    ≡ in_known (use_name name) (known_of b blocks outer h functions)
use_shown b [] outer h functions name = refl
use_shown b (block ∷ blocks) outer h functions name = refl

abbrev pub tops_with : Declared → Held → Held
tops_with d h = record h { tops = record { inner = with_declared h.tops.inner d; outer = h.tops.outer } }

abbrev pub lexical_with : Declared → Held → Held
lexical_with d h = record h { lexical = record { inner = with_declared h.lexical.inner d; outer = h.lexical.outer } }

-- a block that begins
abbrev pub within_block : Block → Held → Held
within_block b h = record {
  tops = h.tops;
  lexical = opened h.lexical;
  here = opened h.here;
  uses = opened h.uses;
  listed = pushed (unended b.kind b.start (Some b.parent)) h.listed;
}

pub number_shown : (b : OpenBody) (blocks : List Block) (h : Held) → (innermost (body_of b blocks h)).number ≡ number_of
    blocks
number_shown b [] h = refl
number_shown b (block ∷ blocks) h = refl

pub begin_shown : (b : OpenBody) (blocks : List Block) (outer : List OpenBody) (h : Held)
    (functions : List FunctionScopes) (new : Block)
    → new.number ≡ length h.listed.inner
    → new.parent ≡ number_of blocks
    → known_of b (new ∷ blocks) outer (within_block new h) functions
    ≡ in_known (begin_scope new.kind new.start) (known_of b blocks outer h functions)
begin_shown b blocks outer h functions new number parent =
    let around = parent ∙ sym (number_shown b blocks h) in rw (sym number, sym around) refl

-- a scope within that ends
abbrev pub behind_block : (binds : Bool) → (end : ℕ) → Block → Held → Held
behind_block binds end b h = record {
  tops = h.tops;
  lexical = closed h.lexical;
  here = closed h.here;
  uses = joined (record { inner = outside h.lexical.inner h.uses.inner; outer = h.uses.outer });
  listed = record {
    inner = slice_set h.listed.inner b.number (record {
      kind = b.kind;
      start = b.start;
      end = end;
      parent = Some b.parent;
      names = scope_names binds h.lexical.inner h.here.inner;
    });
    outer = h.listed.outer;
  };
}

pub end_shown : (b : OpenBody) (block : Block) (blocks : List Block) (outer : List OpenBody) (h : Held)
    (functions : List FunctionScopes) (end : ℕ)
    → known_of b blocks outer (behind_block b.binds end block h) functions
    ≡ in_known (end_scope end) (known_of b (block ∷ blocks) outer h functions)
end_shown b block [] outer h functions end = refl
end_shown b block (more ∷ blocks) outer h functions end = refl

pub end_none : (b : OpenBody) (outer : List OpenBody) (h : Held) (functions : List FunctionScopes) (end : ℕ)
    → known_of b [] outer h functions ≡ in_known (end_scope end) (known_of b [] outer h functions)
end_none b outer h functions end = refl

-- a name that is no var is declared
pub top_shown : (b : OpenBody) (blocks : List Block) (outer : List OpenBody) (h : Held) (functions : List
    FunctionScopes)
    (d : Declared)
    → length blocks ≡ 0
    → known_of b blocks outer (tops_with (at_top d) h) functions
    ≡ in_known (declare_lexical d) (known_of b blocks outer h functions)
top_shown b [] outer h functions d none = refl
top_shown b (block ∷ blocks) outer h functions d none = absurd (omega (arith, none))

pub within_shown : (b : OpenBody) (blocks : List Block) (outer : List OpenBody) (h : Held)
    (functions : List FunctionScopes) (d : Declared)
    → 0 < length blocks
    → known_of b blocks outer (lexical_with d h) functions
    ≡ in_known (declare_lexical d) (known_of b blocks outer h functions)
within_shown b [] outer h functions d some = absurd (omega (arith, some))
within_shown b (block ∷ blocks) outer h functions d some = refl

-- the innermost scope goes
abbrev pub without_block : Held → Held
without_block h = record {
  tops = h.tops;
  lexical = closed h.lexical;
  here = closed h.here;
  uses = closed h.uses;
  listed = h.listed;
}

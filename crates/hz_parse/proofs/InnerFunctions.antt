-- Each function in a script is read alone from where it starts: this gives its tree, and takes its own tokens.
use Rattle.std.proofs.Common.{◌≡◌, ◌≢◌, ℕ, ◌+◌, ◌<◌, ◌≤◌, List, [], ◌∷◌, length, Some, unwrap_or, All}
use Rattle.std.proofs.Common.{ap, sym, ◌∙◌, subst, arith}
use Rattle.std.specs.List.{slice_get}
use Rattle.std.proofs.lemmas.List.Elements.{All-nil, All-cons}
use Rattle.hz_tree.specs.declared.function_tree.FunctionTree.{FunctionTree}
use Rattle.hz_tree.specs.declared.index.FunctionInfo.{FunctionInfo}
use Rattle.hz_tree.specs.declared.tree.FunctionKind.{FunctionKind}
use Rattle.hz_tree.specs.grammar.Look.{Terminal, terminals}
use Rattle.hz_tree.specs.reading.Reading.{end_behind}
use Rattle.hz_tree.specs.tokens.Text.{Text}
use Rattle.hz_tree.specs.trees.FunctionTrees.{number_at, own_tokens}
use Rattle.hz_middle.specs.Place.{beginning, left}
use Rattle.hz_stands.specs.Nodes.{FunctionNode, function_tree_of}
use Rattle.hz_stands.specs.Plain.{StandingPlain}
use Rattle.hz_stands.specs.Stands.{Shape, written}
use Rattle.hz_own.specs.Lined.{Lined}
use Rattle.hz_own.specs.Owned.{counted}
use Rattle.hz_own.specs.Stretch.{Nested}
use Rattle.hz_own.proofs.Lines.{terminals_lined}
use Rattle.hz_own.proofs.Windows.{lined_behind}
use Rattle.hz_alone.specs.Alone.{ArrowsAlone, KnownWithin, OwnAlone, ToldBefore}
use Rattle.hz_alone.specs.Functions.{ReadAlone}
use Rattle.hz_alone.proofs.Functions.{Beginning, begins_there}
use Rattle.hz_parse.specs.Parsed.{of_given, symbols_by}
use Rattle.hz_parse.specs.Whole.{Whole}

-- ---- where functions start and end

pub some_each : (fs : List FunctionNode) → Nested fs → All (λ f. f.at < f.end) fs
some_each [] h = All-nil (λ f. f.at < f.end)
some_each (f ∷ fs) h = All-cons (λ g. g.at < g.end) f fs h.0 (some_each fs h.2)

pub starts_inside : (source : Text) (f : FunctionNode) → StandingPlain f (terminals source) → f.at ≤ length source
starts_inside source f h =
    let b : Beginning source f h.standing = begins_there source f h.standing in
    let from : Lined source b.first.behind (b.first ∷ b.others) =
    lined_behind source 0 h.standing.passed b.first b.others
    (subst (Lined source 0) b.split (terminals_lined source)) in
    let within : b.first.token.at + length b.first.token.text ≤ length source = from.0.lies.inside in
    let at : f.at ≡ b.first.token.at = b.at in
    omega (arith, within, at)

some_left : (f : FunctionNode) (rest : List Terminal) → f.at < f.end → f.end ≡ end_behind rest → rest ≢ []
some_left f rest h e is =
    let none : f.end ≡ 0 = e ∙ ap end_behind is in
    omega (arith, h, none)

-- ---- the ways in which a function is read

pub same_entry : (a b : FunctionInfo) → Some a ≡ Some b → a ≡ b
same_entry a b h = ap (λ o. unwrap_or o a) h

record ByShape (functions : List FunctionInfo) (source : Text) (k : ℕ) (info : FunctionInfo) (f : FunctionNode)
    (shape : Shape) : Type 0 where
  whole : Whole functions (written shape).symbols (left (beginning source f.at))
  tree : of_given functions k f.kind ((written shape).given whole.parts) ≡ function_tree_of functions f
  own : counted (written shape).symbols whole.counts ≡ own_tokens functions source k info

-- what is known of a function that is read alone
pub record Alone (functions : List FunctionInfo) (source : Text) (k : ℕ) (info : FunctionInfo) (f : FunctionNode)
    : Type 0 where
  pub number : number_at functions f.at ≡ k
  pub found : slice_get functions k ≡ Some info
  pub some : f.at < f.end
  pub read : ReadAlone source f
  pub known : KnownWithin functions source f
  pub own : OwnAlone functions source f read
  pub told : ArrowsAlone functions source f

by_shape : (functions : List FunctionInfo) (source : Text) (k : ℕ) (info : FunctionInfo) (f : FunctionNode)
    (h : Alone functions source k info f) → ByShape functions source k info f h.read.shape
by_shape functions source k info f h =
    let same : h.own.info ≡ info =
    same_entry h.own.info info (sym h.own.found ∙ ap (slice_get functions) h.number ∙ h.found) in
    record {
      whole = record {
        parts = h.read.parts;
        counts = h.own.counts;
        rest = h.read.rest;
        read = h.read.read;
        owned = h.own.read;
        known = h.known.known h.read;
        told =
            subst (λ end. All (ToldBefore (left (beginning source f.at)) end) functions) h.read.end h.told.told;
        some = some_left f h.read.rest h.some h.read.end;
      };
      tree =
          ap (λ g. of_given functions k f.kind g) (sym h.read.given)
          ∙ ap (λ number. of_given functions number f.kind
          (record { parameters = f.parameters; rest = f.rest; body = f.body })) (sym h.number);
      own =
          h.own.same
          ∙ ap (λ number. own_tokens functions source number h.own.info) h.number
          ∙ ap (own_tokens functions source k) same;
    }

-- The function that starts here and is of this kind gives this tree, and takes the tokens that are its own.
pub record Inner (functions : List FunctionInfo) (source : Text) (k : ℕ) (info : FunctionInfo) (tree : FunctionTree)
    (at : ℕ) (kind : FunctionKind) : Type 0 where
  pub whole : Whole functions (written (symbols_by kind (left (beginning source at)))).symbols
      (left (beginning source at))
  pub given : of_given functions k kind
      ((written (symbols_by kind (left (beginning source at)))).given whole.parts) ≡ tree
  pub own : counted (written (symbols_by kind (left (beginning source at)))).symbols whole.counts
      ≡ own_tokens functions source k info

by_kind : (functions : List FunctionInfo) (source : Text) (k : ℕ) (info : FunctionInfo) (f : FunctionNode)
    → ByShape functions source k info f (symbols_by f.kind (left (beginning source f.at)))
    → Inner functions source k info (function_tree_of functions f) f.at f.kind
by_kind functions source k info f h = record { whole = h.whole; given = h.tree; own = h.own }

pub inner_read : (functions : List FunctionInfo) (source : Text) (k : ℕ) (info : FunctionInfo) (f : FunctionNode)
    → Alone functions source k info f → info.start ≡ f.at → info.kind ≡ f.kind
    → Inner functions source k info (function_tree_of functions f) info.start info.kind
inner_read functions source k info f h start kind =
    subst (λ at. Inner functions source k info (function_tree_of functions f) at info.kind) (sym start)
    (subst (λ kind. Inner functions source k info (function_tree_of functions f) f.at kind) (sym kind)
    (by_kind functions source k info f
    (subst (ByShape functions source k info f) h.read.told (by_shape functions source k info f h))))

-- Where the tokens of a source begin, as it is counted.
use Rattle.std.specs.Prelude.{◌≡◌, ℕ, ◌+◌, ◌-◌, ◌<◌, ◌≤◌, ◌==◌, nat_lt, List, length, slice_get, Some}
use Rattle.std.specs.List.{count_by, sum_by, slice_index_or}
use Rattle.hz_tree.specs.declared.index.FunctionInfo.{FunctionInfo}
use Rattle.hz_tree.specs.sources.Refusals.{functions}
use Rattle.hz_tree.specs.tokens.Text.{Text}
use Rattle.hz_tree.specs.tokens.Tokens.{Lexeme}
use Rattle.hz_tree.specs.trees.FunctionTrees.{tokens_within, inner_tokens}

abbrev pub begin_at : ℕ → List Lexeme → ℕ
begin_at place ts = count_by (λ t. t.at == place) ts

abbrev pub begin_before : ℕ → List Lexeme → ℕ
begin_before place ts = count_by (λ t. nat_lt t.at place) ts

-- how many tokens of the list begin at each place of a source, its end included
pub record HasStarts (ts : List Lexeme) (starts : List ℕ) : Type 0 where
  pub each : (place : ℕ) → place < length starts → slice_index_or starts place 0 ≡ begin_at place ts

-- how many begin before each place up to this one
pub record HasBefore (ts : List Lexeme) (last : ℕ) (before : List ℕ) : Type 0 where
  pub long : length before ≡ last + 1
  pub each : (place : ℕ) → place ≤ last → slice_index_or before place 0 ≡ begin_before place ts

-- for each function the tokens in its extent, but for those in the first so many functions where these stand in it
pub record HasOwn (source : Text) (others : List FunctionInfo) (owns : List ℕ) : Type 0 where
  pub long : length owns ≡ length (functions source)
  pub each : (k : ℕ) (f : FunctionInfo) → slice_get (functions source) k ≡ Some f → slice_index_or owns k 0
      ≡ tokens_within source f.start f.end - sum_by (inner_tokens source k) others

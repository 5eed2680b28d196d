-- Blanks and words of a text by their places, as the code passes over them.
use Rattle.std.specs.Prelude.{ℕ, ◌+◌, ◌≤◌, ◌<◌, ◌≡◌, Bool, true, false, List, length, drop, get_or}
use Rattle.records.specs.Gate.RecordRules.{every}
use Rattle.records.specs.Ends.Stands.{Stands}
use Rattle.text.specs.Grammar.{blank, alphanumeric}
use Rattle.text.specs.Tokens.Places.{tokens_from}

-- every byte before i passes the test p
pub record Passed (p : ℕ → Bool) (s : List ℕ) (i : ℕ) : Type 0 where
  pub within : i ≤ length s
  pub same : every p s ≡ every p (drop i s)

-- n bytes pass the test p from i on, and the one behind them does not
pub record Run (p : ℕ → Bool) (s : List ℕ) (i n : ℕ) : Type 0 where
  pub within : i + n ≤ length s
  pub each : (k : ℕ) → k < n → p (get_or s (i + k) 0) ≡ true
  pub ended : i + n < length s → p (get_or s (i + n) 0) ≡ false

-- the tokens from i on are those from j on
pub record Skipped (s : List ℕ) (i j : ℕ) : Type 0 where
  pub forth : i ≤ j
  pub within : j ≤ length s
  pub same : tokens_from s i ≡ tokens_from s j

-- .. and no blank stands at j
pub record BlanksEnd (s : List ℕ) (i j : ℕ) : Type 0 where
  pub skipped : Skipped s i j
  pub ended : j < length s → blank (get_or s j 0) ≡ false

-- letters, digits and underscores stand from i to j
pub record Word (s : List ℕ) (i j : ℕ) : Type 0 where
  pub letters : List ℕ
  pub stands : Stands s i letters j
  pub every_letter : every alphanumeric letters ≡ true
  pub within : j ≤ length s

-- .. and none of them at j
pub record WordEnd (s : List ℕ) (i j : ℕ) : Type 0 where
  pub word : Word s i j
  pub ended : j < length s → alphanumeric (get_or s j 0) ≡ false

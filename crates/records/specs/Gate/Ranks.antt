-- Rows of items with a number each: pairs and their variables, definitions and their keys.
use Rattle.std.specs.Prelude.{ℕ, ◌+◌, ◌*◌, Bool, List, Option, Some, None}
use Rattle.records.specs.Format.Syntax.{Binding, Definition}
use Rattle.records.specs.Format.Heads.{word_at, definition_head_at}
use Rattle.records.specs.Format.Items.{Reader, many, read_binding, read_definition}
use Rattle.records.specs.Gate.RecordRules.{bound, keys, rising_from}
use Rattle.records.specs.Gate.Rows.{row_at}
use Rattle.records.specs.Ends.Traversal.{end_of}
use Rattle.records.specs.declared.rules.Ranked.{Ranked}
use Rattle.records.specs.declared.rules.Ranked.TheVariants.{Pairs, Definitions}
use Rattle.records.specs.declared.heads.Signature.{Signature}

abbrev pub RankedTree : Ranked → Type 0
RankedTree Pairs = Binding
RankedTree Definitions = Definition

abbrev pub ranked_reader : (k : Ranked) → Reader (RankedTree k)
ranked_reader Pairs = read_binding
ranked_reader Definitions = read_definition

-- the numbers of a row
abbrev pub ranks : (k : Ranked) → List (RankedTree k) → List ℕ
ranks Pairs = bound
ranks Definitions = keys

-- the number at a position, by the head there
abbrev pub signature_rank : Option Signature → Option ℕ
signature_rank (Some d) = Some (d.predicate * 256 + d.arity)
signature_rank None = None

unfoldable pub rank_at : Ranked → List ℕ → ℕ → Option ℕ
rank_at Pairs s at = word_at s at
rank_at Definitions s at = signature_rank (definition_head_at s at)

-- where an item, and a row of n items, ends
unfoldable pub ranked_end : Ranked → List ℕ → ℕ → Option ℕ
ranked_end k = end_of (ranked_reader k)

unfoldable pub ranks_end : Ranked → ℕ → List ℕ → ℕ → Option ℕ
ranks_end k n = end_of (many (ranked_reader k) n)

-- the numbers of the row rise strictly, the first of them at least `low`
unfoldable pub ranks_rise : Ranked → (low n : ℕ) → List ℕ → ℕ → Bool
ranks_rise k low n s at = rising_from low (ranks k (row_at (ranked_reader k) n s at))

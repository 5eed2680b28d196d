-- Counted rows of items at positions: where they end, and whether each keeps its rules; whether the definitions of a program rise.
use Rattle.std.specs.Prelude.{ℕ, Bool, List, Option}
use Rattle.records.specs.Gate.RecordRules.{every, keys, rising}
use Rattle.records.specs.Format.Items.{read_counted, read_program_bytes}
use Rattle.records.specs.Ends.Traversal.{end_of}
use Rattle.records.specs.Ends.ItemEnds.{item_reader}
use Rattle.records.specs.Gate.Rows.{kept_at, item_rules}
use Rattle.records.specs.declared.ends.Item.{Item}

-- a count, and so many items of one kind
unfoldable pub counted_end : Item → List ℕ → ℕ → Option ℕ
counted_end i = end_of (read_counted (item_reader i))

-- the rules of each of them
unfoldable pub counted_kept : Item → List ℕ → ℕ → Bool
counted_kept i = kept_at (every (item_rules i)) (read_counted (item_reader i))

-- a program: its definitions rise
unfoldable pub program_rises : List ℕ → Bool
program_rises s = kept_at (λ ds. rising (keys ds)) read_program_bytes s 3

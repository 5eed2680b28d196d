-- Where an ancestor, a bet, a definition or a clause ends, and where a row of them does.
use Rattle.std.specs.Prelude.{ℕ, List, Option}
use Rattle.records.specs.Format.Syntax as Syntax
use Rattle.records.specs.Format.Items.{Reader, many, read_ancestor, read_bet, read_definition, read_clause}
use Rattle.records.specs.Ends.Traversal.{end_of}
use Rattle.records.specs.declared.ends.Item.{Item}
use Rattle.records.specs.declared.ends.Item.TheVariants.{Ancestor, Bet, Definition, Clause}

-- what an item of a kind is, and its reader
abbrev pub ItemTree : Item → Type 0
ItemTree Ancestor = Syntax.Ancestor
ItemTree Bet = Syntax.Bet
ItemTree Definition = Syntax.Definition
ItemTree Clause = Syntax.Clause

abbrev pub item_reader : (i : Item) → Reader (ItemTree i)
item_reader Ancestor = read_ancestor
item_reader Bet = read_bet
item_reader Definition = read_definition
item_reader Clause = read_clause

-- where an item, and a row of items of one kind, ends
unfoldable pub item_end : Item → List ℕ → ℕ → Option ℕ
item_end i = end_of (item_reader i)

unfoldable pub items_end : Item → ℕ → List ℕ → ℕ → Option ℕ
items_end i n = end_of (many (item_reader i) n)

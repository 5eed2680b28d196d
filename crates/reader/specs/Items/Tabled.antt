-- Items in tables: code keeps of a text's items the roles, and finds their words in the text.
use Rattle.std.specs.Prelude.{◌≡◌, List, ℕ, length}
use Rattle.text.specs.Tokens.Lexer.{tokens_of}
use Rattle.reader.specs.Items.Items.{Item}
use Rattle.reader.specs.Items.Words.{item_words, token_words, RolesAre}
use Rattle.reader.specs.declared.roles.Role.{Role}

-- items that a text has the words of, and a table the roles
pub record Tabled (s : List ℕ) (roles : List Role) (count : ℕ) (is : List Item) : Type 0 where
  pub counted : count ≡ length is
  pub coded : RolesAre roles is count
  pub worded : item_words is ≡ token_words (tokens_of s)

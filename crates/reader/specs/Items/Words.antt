-- What code keeps of the items of a text: a table of their roles, one of the numbers of their names, one of the numbers of their variables, by the item's place.
use Rattle.std.specs.Prelude.{◌≡◌, List, [], ◌∷◌, ℕ, ◌<◌, max, length, get_or}
use Rattle.text.specs.Grammar.{Token}
use Rattle.text.specs.Tokens.Places.{token_word}
use Rattle.reader.specs.Items.Items.{Item, item}
use Rattle.reader.specs.declared.roles.Role.{Role}
use Rattle.reader.specs.declared.roles.Role.TheVariants.{Variable}
use Rattle.reader.specs.Emit.Cells.{by_sort, role, name_number, variable_number, met_behind}

-- the words of items, and those of tokens
abbrev pub item_words : List Item → List (List ℕ)
item_words [] = []
item_words (item r w ∷ is) = w ∷ item_words is

abbrev pub token_words : List Token → List (List ℕ)
token_words [] = []
token_words (t ∷ ts) = token_word t ∷ token_words ts

-- the words that are names
abbrev pub names_of_items : List Item → List (List ℕ)
names_of_items [] = []
names_of_items (item r w ∷ is) = by_sort r (w ∷ names_of_items is) (names_of_items is) (names_of_items is) (names_of_items is)

-- what the three tables hold
unfoldable pub roles_of : List Item → List Role
roles_of [] = []
roles_of (i ∷ is) = role i ∷ roles_of is

unfoldable pub name_numbers : List (List ℕ) → List Item → List ℕ
name_numbers ns [] = []
name_numbers ns (i ∷ is) = name_number ns i ∷ name_numbers ns is

unfoldable pub variable_numbers : List (List ℕ) → List Item → List ℕ
variable_numbers vs [] = []
variable_numbers vs (i ∷ is) = variable_number vs i ∷ variable_numbers (met_behind vs i) is

-- the most variables that a clause has met at any item, behind those met before; at least `most`
unfoldable pub most_met : ℕ → List (List ℕ) → List Item → ℕ
most_met most vs [] = most
most_met most vs (i ∷ is) = most_met (max most (length (met_behind vs i))) (met_behind vs i) is

-- the first n entries of a table are those of a list
unfoldable pub AgreesBy : {A : Type 0} → A → (table l : List A) → ℕ → Type 0
AgreesBy d table l n = (j : ℕ) → j < n → get_or table j d ≡ get_or l j d

abbrev pub Agrees : (table l : List ℕ) → ℕ → Type 0
Agrees table l n = AgreesBy 0 table l n

-- the first n entries of a table are the roles of items
abbrev pub RolesAre : List Role → List Item → ℕ → Type 0
RolesAre roles is n = AgreesBy Variable roles (roles_of is) n

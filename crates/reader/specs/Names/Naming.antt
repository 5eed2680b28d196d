-- The names of a text: what the pass leaves that numbers them, and how far it has come at an item. The names so far stand in the trie, with their numbers, and in a
-- list of bytes; what is said of them holds of every list of names that these hold, and of every list of items that the tables have.
-- Choice: what code needs to be safe (places, counts, lengths) is said apart, and holds whatever the tables hold.
use Rattle.std.specs.Prelude.{◌≡◌, Bool, true, false, cond, List, [], ◌∷◌, ◌++◌, ℕ, ◌+◌, ◌-◌, ◌*◌, ◌≤◌, length, take, drop}
use Rattle.records.specs.Ends.Range.{cut}
use Rattle.records.specs.Format.Encode.{word}
use Rattle.records.specs.Gate.RecordRules.{every}
use Rattle.records.specs.declared.put.Range.{Range}
use Rattle.text.specs.Tokens.Places.{tokens_from}
use Rattle.reader.specs.Form.Meaning.{place, with_name, with_names, name_list}
use Rattle.reader.specs.Items.Items.{Item}
use Rattle.reader.specs.Items.Tabled.{Tabled}
use Rattle.reader.specs.Items.Words.{item_words, token_words, names_of_items, name_numbers, Agrees}
use Rattle.reader.specs.Names.Holds.{Holds}
use Rattle.reader.specs.Names.Trie.{Tables, Filled}
use Rattle.reader.specs.declared.names.Entry.{Entry}
use Rattle.reader.specs.declared.roles.Role.{Role}
use Rattle.reader.specs.declared.trie.Trie.{Trie}

-- a name in the list: its two-byte length, and its bytes
abbrev pub name_bytes : List ℕ → List ℕ
name_bytes w = word (length w) ++ w

-- a word of some bytes; names are such words
abbrev pub some_bytes : List ℕ → Bool
some_bytes [] = false
some_bytes (b ∷ w) = true

abbrev pub NamesSome : List Item → Type 0
NamesSome is = every some_bytes (names_of_items is) ≡ true

-- the nodes of the trie, the names in it, and the bytes of their list
pub record Naming : Type 0 where
  pub nodes : ℕ
  pub names : ℕ
  pub listed : ℕ

abbrev pub naming : Trie → ℕ → Naming
naming t listed = record { nodes = t.used; names = t.names; listed = listed }

-- the number of an item's name, and the names behind it
pub record Entered : Type 0 where
  pub number : ℕ
  pub naming : Naming

abbrev pub entry_of : Trie → Entry → Entered
entry_of t e = record { number = e.number; naming = naming t e.listed }

-- the trie and the list hold these names
pub record NamesIn (T : Tables) (number list : List ℕ) (now : Naming) (names : List (List ℕ)) : Type 0 where
  pub holds : Holds T number now.nodes now.names names
  pub long : now.listed ≡ length (name_list names)
  pub bytes : take now.listed list ≡ name_list names

-- One word entered where `due` says so: its number, and the names with it.
pub record EntryIs (due : Bool) (w : List ℕ) (T : Tables) (number list : List ℕ) (r : Entered) (names : List (List ℕ)) : Type 0 where
  pub number_is : r.number ≡ cond due (place w names) 0
  pub held : NamesIn T number list r.naming (cond due (with_name names w) names)

pub record NameEntered (due : Bool) (s : List ℕ) (w : Range) (T₀ : Tables) (number₀ list₀ : List ℕ) (before : Naming) (T : Tables) (number list : List ℕ) (r : Entered) : Type 0 where
  pub filled : Filled T r.naming.nodes
  pub long : length number ≡ 65536
  pub kept : length list ≡ length list₀
  pub nodes_few : r.naming.nodes ≤ before.nodes + (w.to - w.from)
  pub names_few : r.naming.names ≤ before.names + 1
  pub listed_few : r.naming.listed ≤ before.listed + (2 + (w.to - w.from))
  pub entry : (due ≡ true → cut s w ≡ [] → ⊥) → (names : List (List ℕ)) → NamesIn T₀ number₀ list₀ before names → EntryIs due (cut s w) T number list r names

-- All items named, behind the names of N: the table of their numbers, and the names.
pub record NamesAre (is : List Item) (N : List (List ℕ)) (count : ℕ) (numbers : List ℕ) (T : Tables) (number list : List ℕ) (r : Naming) : Type 0 where
  pub numbers_are : Agrees numbers (name_numbers (with_names N (names_of_items is)) is) count
  pub held : NamesIn T number list r (with_names N (names_of_items is))

pub record NamedItems (s : List ℕ) (roles : List Role) (count : ℕ) (numbers₀ : List ℕ) (T₀ : Tables) (number₀ list₀ : List ℕ) (before : Naming) (numbers : List ℕ) (T : Tables) (number list : List ℕ) (r : Naming)
    : Type 0 where
  pub named : (is : List Item) (N : List (List ℕ)) → Tabled s roles count is → NamesSome is → NamesIn T₀ number₀ list₀ before N → NamesAre is N count numbers T number list r
  pub filled : Filled T r.nodes
  pub long : length number ≡ 65536
  pub numbers_kept : length numbers ≡ length numbers₀
  pub list_kept : length list ≡ length list₀
  pub nodes_few : r.nodes ≤ before.nodes + length s
  pub names_few : r.names ≤ before.names + length s
  pub listed_few : r.listed ≤ before.listed + 3 * length s

-- The same up to the k-th item, at the place `at` of the text: with the names so far, those that follow give the names of all.
pub record NamesAt (s : List ℕ) (is : List Item) (N : List (List ℕ)) (numbers : List ℕ) (T : Tables) (number list : List ℕ) (at k : ℕ) (now : Naming) : Type 0 where
  pub names : List (List ℕ)
  pub held : NamesIn T number list now names
  pub words : item_words (drop k is) ≡ token_words (tokens_from s at)
  pub rest : with_names names (names_of_items (drop k is)) ≡ with_names N (names_of_items is)
  pub some : NamesSome (drop k is)
  pub table : Agrees numbers (name_numbers (with_names N (names_of_items is)) is) k

pub record NamingAt (s : List ℕ) (roles : List Role) (count : ℕ) (numbers₀ : List ℕ) (T₀ : Tables) (number₀ list₀ : List ℕ) (before : Naming) (numbers : List ℕ) (T : Tables) (number list : List ℕ) (at k : ℕ) (now : Naming)
    : Type 0 where
  pub named : (is : List Item) (N : List (List ℕ)) → Tabled s roles count is → NamesSome is → NamesIn T₀ number₀ list₀ before N → NamesAt s is N numbers T number list at k now
  pub within : at ≤ length s
  pub reached : k ≤ count
  pub filled : Filled T now.nodes
  pub long : length number ≡ 65536
  pub numbers_kept : length numbers ≡ length numbers₀
  pub list_kept : length list ≡ length list₀
  pub nodes_few : now.nodes ≤ before.nodes + at
  pub names_few : now.names ≤ before.names + k
  pub listed_few : now.listed ≤ before.listed + (2 * k + at)

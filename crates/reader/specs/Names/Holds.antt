-- Names in tables: what it is for a trie and a table of numbers to hold a list of names.
use Rattle.std.specs.Prelude.{◌≡◌, List, [], ℕ, ◌+◌, ◌≤◌, ◌<◌, length, get_or}
use Rattle.reader.specs.Form.Meaning.{place, with_name}
use Rattle.reader.specs.Names.Seek.{seek}
use Rattle.reader.specs.Names.Trie.{trie_node, Tables, Filled, Trie}

-- THE INVARIANT. The tables hold these names: at a word's node stands one more than its place among them, or 0 where it is no name.
pub record Holds (T : Tables) (number : List ℕ) (nodes count : ℕ) (names : List (List ℕ)) : Type 0 where
  pub filled : Filled T nodes
  pub words : List (List ℕ)
  pub trie : Trie T nodes words
  pub numbers : length number ≡ 65536
  pub root : get_or number 0 0 ≡ 0
  pub free : (m : ℕ) → nodes ≤ m → get_or number m 0 ≡ 0
  pub found : (w : List ℕ) → get_or number (trie_node w words) 0 ≡ seek w names
  pub counted : count ≡ length names

-- a table of full length with nothing in it
pub record Zeros (table : List ℕ) : Type 0 where
  pub long : length table ≡ 65536
  pub zero : (k : ℕ) → get_or table k 0 ≡ 0

-- A word has its number, and the tables hold the names with it.
pub record NameNumbered (names : List (List ℕ)) (w : List ℕ) (T : Tables) (number : List ℕ) (nodes count n : ℕ) : Type 0 where
  pub is : n ≡ place w names
  pub holds : Holds T number nodes count (with_name names w)

-- The same of any names that the tables hold, where the word is not empty; and what is true whatever they hold.
pub record NameGiven (T₀ : Tables) (number₀ : List ℕ) (nodes₀ count₀ : ℕ) (w : List ℕ) (T : Tables) (number : List ℕ) (nodes count n : ℕ) : Type 0 where
  pub filled : Filled T nodes
  pub long : length number ≡ 65536
  pub few : nodes ≤ nodes₀ + length w
  pub one : count ≤ count₀ + 1
  pub small : n < 65536
  pub numbered : (w ≡ [] → ⊥) → (names : List (List ℕ)) → Holds T₀ number₀ nodes₀ count₀ names → NameNumbered names w T number nodes count n

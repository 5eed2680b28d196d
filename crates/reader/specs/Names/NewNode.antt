-- New nodes: what the tables hold after a node, or all nodes of a word, were added where they were missing.
-- Choice: what is said holds of every list of words that the tables can be read as, so that no code has to carry one.
use Rattle.std.specs.Prelude.{◌≡◌, List, [], ◌∷◌, ◌++◌, ℕ, ◌+◌, ◌-◌, ◌≤◌, ◌<◌, length, get_or, set, take, drop}
use Rattle.reader.specs.Names.Trie.{trie_node, HasNode, Tables, Filled, Trie}

-- a new node in the tables: the newest child of p
abbrev pub with_node : Tables → ℕ → ℕ → ℕ → Tables
with_node T n p b = record { child = set T.child p n; sibling = set T.sibling n (get_or T.child p 0); letter = set T.letter n b }

-- More words, the old ones at their nodes: what is 0 at the root and at each new node is the same of every word.
pub record Grown (words after : List (List ℕ)) : Type 0 where
  pub longer : length words ≤ length after
  pub same : (f : ℕ → ℕ) → f 0 ≡ 0 → ((m : ℕ) → length words < m → f m ≡ 0) → (w : List ℕ) → f (trie_node w after) ≡ f (trie_node w words)

-- the tables now hold more words, w among them, which has this node
pub record NodeHeld (words : List (List ℕ)) (w : List ℕ) (T : Tables) (nodes node : ℕ) : Type 0 where
  pub after : List (List ℕ)
  pub grown : Grown words after
  pub trie : Trie T nodes after
  pub has : HasNode w after
  pub at : node ≡ trie_node w after

-- From the node p of any word, one byte further.
pub record ChildMade (T₀ : Tables) (nodes₀ p b : ℕ) (T : Tables) (nodes node : ℕ) : Type 0 where
  pub filled : Filled T nodes
  pub below : node < nodes
  pub few : nodes ≤ nodes₀ + 1
  pub held : (words : List (List ℕ)) → Trie T₀ nodes₀ words → (w : List ℕ) → HasNode w words → p ≡ trie_node w words → NodeHeld words (w ++ (b ∷ [])) T nodes node

-- the bytes of a word that were passed
abbrev pub passed : List ℕ → ℕ → ℕ → List ℕ
passed s from i = take (i - from) (drop from s)

-- From the root, by all bytes of a word.
pub record NodeMade (T₀ : Tables) (nodes₀ : ℕ) (w : List ℕ) (T : Tables) (nodes node : ℕ) : Type 0 where
  pub filled : Filled T nodes
  pub below : node < nodes
  pub few : nodes ≤ nodes₀ + length w
  pub held : (words : List (List ℕ)) → Trie T₀ nodes₀ words → NodeHeld words w T nodes node

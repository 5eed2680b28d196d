-- The trie of names, in a table of nodes, whose fields are seen as tables: child[p] is the newest child of node p, sibling[m] the next older child of m's parent, letter[m] the byte that leads to m,
-- number[m] one more than the number of the name that ends at m. 0 is no child, no sibling and no name; node 0 is the root, which stands for the empty word.
-- Choice: of a trie the words of its nodes are kept, newest first, and no parents. A word's node is then found by its bytes alone.
use Rattle.std.specs.Prelude.{◌≡◌, List, [], ◌∷◌, ◌++◌, ◌⊎◌, ℕ, suc, ◌≤◌, ◌<◌, length, get_or, map}
use Rattle.reader.specs.declared.trie.TrieNode.{TrieNode}
use Rattle.records.specs.Format.Heads.{pick}
use Rattle.records.specs.Ends.Same.{same_bytes}

-- a word's node: nodes are counted in order of birth, from 1; 0 where the word has none
unfoldable pub trie_node : List ℕ → List (List ℕ) → ℕ
trie_node w [] = 0
trie_node w (v ∷ words) = pick (same_bytes w v) (suc (length words)) (trie_node w words)

-- the root stands for the empty word, any other word needs a node of its own
abbrev pub HasNode : List ℕ → List (List ℕ) → Type 0
HasNode w words = (w ≡ []) ⊎ (0 < trie_node w words)

-- the tables that link the nodes
pub record Tables : Type 0 where
  pub child : List ℕ
  pub sibling : List ℕ
  pub letter : List ℕ

abbrev pub tables : List ℕ → List ℕ → List ℕ → Tables
tables c s l = record { child = c; sibling = s; letter = l }

-- the tables that the fields of nodes are, and that of the numbers
abbrev pub links : List TrieNode → Tables
links t = tables (map (λ (n : TrieNode). n.child) t) (map (λ (n : TrieNode). n.sibling) t) (map (λ (n : TrieNode). n.letter) t)

abbrev pub marks : List TrieNode → List ℕ
marks t = map (λ (n : TrieNode). n.number) t

-- tables of full length, in which a sibling is older
pub record FullTables (T : Tables) : Type 0 where
  pub children : length T.child ≡ 65536
  pub siblings : length T.sibling ≡ 65536
  pub letters : length T.letter ≡ 65536
  pub older : (m : ℕ) → 0 < m → get_or T.sibling m 0 < m

-- tables of so many nodes: a child is one of them, and nobody else has a child
pub record Filled (T : Tables) (nodes : ℕ) : Type 0 where
  pub full : FullTables T
  pub some : 0 < nodes
  pub room : nodes ≤ 65536
  pub born : (p : ℕ) → get_or T.child p 0 < nodes
  pub free : (m : ℕ) → nodes ≤ m → get_or T.child m 0 ≡ 0

-- from m on, by siblings, the first node with the letter b is r; 0 where there is none
pub data Sought (T : Tables) (b : ℕ) : ℕ → ℕ → Type 0 where
  lost : Sought T b 0 0
  here : {m : ℕ} → 0 < m → get_or T.letter m 0 ≡ b → Sought T b m m
  further : {m r : ℕ} → 0 < m → (get_or T.letter m 0 ≡ b → ⊥) → Sought T b (get_or T.sibling m 0) r → Sought T b m r

-- The tables hold a trie of these words: with a word its fronts have nodes, and a node's children are sought where its child is.
pub record Trie (T : Tables) (nodes : ℕ) (words : List (List ℕ)) : Type 0 where
  pub count : nodes ≡ suc (length words)
  pub root : trie_node [] words ≡ 0
  pub fronts : (w : List ℕ) (b : ℕ) → 0 < trie_node (w ++ (b ∷ [])) words → HasNode w words
  pub branches : (w : List ℕ) → HasNode w words → (b : ℕ) → Sought T b (get_or T.child (trie_node w words) 0) (trie_node (w ++ (b ∷ [])) words)

-- Laws of the table of nodes: what a field of a node is as an entry of a table, and what it is for the tables that nodes, or a number, are written.
use Rattle.std.specs.Prelude.{◌≡◌, refl, List, ℕ, zero, suc, ◌<◌, length, get_or, set, map, replicate}
use Rattle.std.proofs.Common.{sym, ap, ◌∙◌, arith, get_or-set_other}
use Rattle.std.proofs.Math.ListN.{get_or-map}
use Rattle.std.proofs.Math.Seq.{map-set_same}
use Rattle.std.proofs.lemmas.List.{map-set, length-map, length-replicate}
use Rattle.reader.specs.Names.Trie.{links, marks, FullTables}
use Rattle.reader.specs.Names.NewNode.{with_node}
use Rattle.reader.specs.Names.Holds.{Zeros}
use Rattle.reader.specs.declared.trie.TrieNode.{TrieNode}

abbrev pub empty_node : TrieNode
empty_node = record { child = 0; sibling = 0; number = 0; letter = 0 }

pub full_length : (t : List TrieNode) → FullTables (links t) → length t ≡ 65536
full_length t f = sym (length-map t (λ (n : TrieNode). n.child)) ∙ f.children

pub full_marks : (t : List TrieNode) → FullTables (links t) → length (marks t) ≡ 65536
full_marks t f = length-map t (λ (n : TrieNode). n.number) ∙ full_length t f

pub node_child : (t : List TrieNode) (p : ℕ) → get_or (links t).child p 0 ≡ (get_or t p empty_node).child
node_child t p = get_or-map (λ (n : TrieNode). n.child) t p empty_node

pub node_sibling : (t : List TrieNode) (p : ℕ) → get_or (links t).sibling p 0 ≡ (get_or t p empty_node).sibling
node_sibling t p = get_or-map (λ (n : TrieNode). n.sibling) t p empty_node

pub node_letter : (t : List TrieNode) (p : ℕ) → get_or (links t).letter p 0 ≡ (get_or t p empty_node).letter
node_letter t p = get_or-map (λ (n : TrieNode). n.letter) t p empty_node

pub node_mark : (t : List TrieNode) (p : ℕ) → get_or (marks t) p 0 ≡ (get_or t p empty_node).number
node_mark t p = get_or-map (λ (n : TrieNode). n.number) t p empty_node

-- a new node written, and its parent
module _ (t : List TrieNode) (n p b : ℕ) where
  abbrev pub born : List TrieNode
  born = set t n (record (get_or t n empty_node) { sibling = (get_or t p empty_node).child; letter = b })

  abbrev pub linked : List TrieNode
  linked = set born p (record (get_or t p empty_node) { child = n })

  other : p < n → get_or born p empty_node ≡ get_or t p empty_node
  other h = get_or-set_other t n p _ empty_node (λ q. omega arith)

  pub linked_tables : p < n → links linked ≡ with_node (links t) n p b
  linked_tables h =
      let c : (links linked).child ≡ set (links t).child p n
      = map-set (λ (x : TrieNode). x.child) born p _ ∙ ap (λ (l : List ℕ). set l p n) (map-set_same (λ (x : TrieNode). x.child) t n _ empty_node refl) in
      let s : (links linked).sibling ≡ set (links t).sibling n (get_or (links t).child p 0)
      = map-set_same (λ (x : TrieNode). x.sibling) born p _ empty_node (ap (λ (x : TrieNode). x.sibling) (sym (other h)))
      ∙ (map-set (λ (x : TrieNode). x.sibling) t n _ ∙ ap (set (links t).sibling n) (sym (node_child t p))) in
      let l : (links linked).letter ≡ set (links t).letter n b
      = map-set_same (λ (x : TrieNode). x.letter) born p _ empty_node (ap (λ (x : TrieNode). x.letter) (sym (other h))) ∙ map-set (λ (x : TrieNode). x.letter) t n _ in
      rw (c, s, l)

  pub linked_marks : p < n → marks linked ≡ marks t
  linked_marks h = map-set_same (λ (x : TrieNode). x.number) born p _ empty_node (ap (λ (x : TrieNode). x.number) (sym (other h))) ∙ map-set_same (λ (x : TrieNode). x.number) t n _ empty_node refl

-- a number written
module _ (t : List TrieNode) (m v : ℕ) where
  abbrev pub numbered : List TrieNode
  numbered = set t m (record (get_or t m empty_node) { number = v })

  pub numbered_tables : links numbered ≡ links t
  numbered_tables = rw (map-set_same (λ (x : TrieNode). x.child) t m (record (get_or t m empty_node) { number = v }) empty_node refl, map-set_same (λ (x : TrieNode). x.sibling) t m (record (get_or t m empty_node) { number = v }) empty_node refl, map-set_same (λ (x : TrieNode). x.letter) t m (record (get_or t m empty_node) { number = v }) empty_node refl)

  pub numbered_marks : marks numbered ≡ set (marks t) m v
  numbered_marks = map-set (λ (x : TrieNode). x.number) t m _

-- empty nodes are tables of zeros
pub zeros_of : (f : TrieNode → ℕ) → f empty_node ≡ 0 → (n : ℕ) → n ≡ 65536 → Zeros (map f (replicate n empty_node))
zeros_of f e n h = record { long = length-map (replicate n empty_node) f ∙ (length-replicate n empty_node ∙ h); zero = nothing n }
  where
    nothing : (n k : ℕ) → get_or (map f (replicate n empty_node)) k 0 ≡ 0
    nothing zero k = refl
    nothing (suc n) zero = e
    nothing (suc n) (suc k) = nothing n k

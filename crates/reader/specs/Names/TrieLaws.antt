-- Laws of the trie: what seeking among a node's children gives, and which words have which nodes.
use Rattle.std.specs.Prelude.{◌≡◌, refl, Bool, true, false, List, [], ◌∷◌, ◌++◌, ℕ, suc, ◌≤◌, ◌<◌, length, get_or}
use Rattle.std.proofs.Common.{sym, ap, ◌∙◌, inl, inr, arith, length-append}
use Rattle.records.specs.Format.Heads.{pick}
use Rattle.records.specs.Ends.Same.{same_bytes}
use Rattle.records.specs.Ends.SameLaws.{same_true, same_refl}
use Rattle.reader.specs.Names.Trie.{trie_node, HasNode, Tables, FullTables, Sought, Trie}
use Rattle.reader.specs.Names.Trie.Sought.{lost, here, further}

-- seeking: where it can end, and that it ends in one place
sought_lost : {T : Tables} {b m r : ℕ} → m ≡ 0 → Sought T b m r → 0 ≡ r
sought_lost e lost = refl
sought_lost e (here h q) = absurd (omega arith)
sought_lost e (further h q s) = absurd (omega arith)

sought_here : {T : Tables} {b m r : ℕ} → 0 < m → get_or T.letter m 0 ≡ b → Sought T b m r → m ≡ r
sought_here p e lost = absurd (omega arith)
sought_here p e (here h q) = refl
sought_here p e (further h q s) = absurd (q e)

sought_further : {T : Tables} {b m r : ℕ} → 0 < m → (get_or T.letter m 0 ≡ b → ⊥) → Sought T b m r → Sought T b (get_or T.sibling m 0) r
sought_further p n lost = absurd (omega arith)
sought_further p n (here h q) = absurd (n q)
sought_further p n (further h q s) = s

pub sought_once : {T : Tables} {b m r k : ℕ} → Sought T b m r → Sought T b m k → r ≡ k
sought_once lost t = sought_lost refl t
sought_once (here h q) t = sought_here h q t
sought_once (further h q s) t = sought_once s (sought_further h q t)

pub sought_below : {T : Tables} {b m r : ℕ} → FullTables T → Sought T b m r → r ≤ m
sought_below l lost = omega arith
sought_below l (here h q) = omega arith
sought_below l (further {m = m} h q s) = omega (arith, sought_below l s, l.older m h)

-- words with one byte more
pub snoc_some : (w : List ℕ) (b : ℕ) → w ++ (b ∷ []) ≡ [] → ⊥
snoc_some w b e = omega (arith, length-append w (b ∷ []), ap length e)

pub snoc_same : (v w : List ℕ) (b c : ℕ) → v ++ (b ∷ []) ≡ w ++ (c ∷ []) → (v ≡ w) × (b ≡ c)
snoc_same [] [] b c e = (refl, cc)
snoc_same [] (y ∷ w) b c e = absurd (snoc_some w c (cc))
snoc_same (x ∷ v) [] b c e = absurd (snoc_some v b (cc))
snoc_same (x ∷ v) (y ∷ w) b c e = let h = snoc_same v w b c (cc) in (cc h.0, h.1)

-- nodes of words
pub node_old : (w : List ℕ) (words : List (List ℕ)) → trie_node w words ≤ length words
unfolding trie_node
node_old w [] = omega arith
node_old w (v ∷ words) = go (same_bytes w v) (node_old w words)
  where
    go : (t : Bool) → trie_node w words ≤ length words → pick t (suc (length words)) (trie_node w words) ≤ suc (length words)
    go true h = omega arith
    go false h = omega arith

pub node_one : (v w : List ℕ) (words : List (List ℕ)) → trie_node v words ≡ trie_node w words → 0 < trie_node v words → v ≡ w
unfolding trie_node
node_one v w [] e h = absurd (omega arith)
node_one v w (x ∷ words) e h = go (same_bytes v x) refl (same_bytes w x) refl e h (node_one v w words) (node_old v words) (node_old w words)
  where
    go : (s : Bool) → same_bytes v x ≡ s → (t : Bool) → same_bytes w x ≡ t → pick s (suc (length words)) (trie_node v words) ≡ pick t (suc (length words)) (trie_node w words) → 0 < pick s (suc (length words)) (trie_node v words)
        → (trie_node v words ≡ trie_node w words → 0 < trie_node v words → v ≡ w) → trie_node v words ≤ length words → trie_node w words ≤ length words → v ≡ w
    go true p true q e h ih a b = same_true v x p ∙ sym (same_true w x q)
    go true p false q e h ih a b = absurd (omega arith)
    go false p true q e h ih a b = absurd (omega arith)
    go false p false q e h ih a b = ih e h

-- two words that have nodes have two
pub node_own : {T : Tables} {nodes : ℕ} {v w : List ℕ} {words : List (List ℕ)} → Trie T nodes words → HasNode v words → HasNode w words → trie_node v words ≡ trie_node w words → v ≡ w
node_own t (inl p) (inl q) e = p ∙ sym q
node_own {words = words} t (inl p) (inr q) e = absurd (omega (arith, t.root, ap (λ (l : List ℕ). trie_node l words) p))
node_own {words = words} t (inr p) (inl q) e = absurd (omega (arith, t.root, ap (λ (l : List ℕ). trie_node l words) q))
node_own {v = v} {w} {words} t (inr p) (inr q) e = node_one v w words e p

-- the node of a word among one more
module _ (w x : List ℕ) (words : List (List ℕ)) where
  pub node_new : w ≡ x → trie_node w (x ∷ words) ≡ suc (length words)
  unfolding trie_node
  node_new e = rw (e, same_refl x)

  pub node_kept : same_bytes w x ≡ false → trie_node w (x ∷ words) ≡ trie_node w words
  unfolding trie_node
  node_kept e = rw e

  pub has_more : HasNode w words → HasNode w (x ∷ words)
  has_more (inl e) = inl e
  has_more (inr h) = inr (go (same_bytes w x) refl)
    where
      go : (t : Bool) → same_bytes w x ≡ t → 0 < trie_node w (x ∷ words)
      go true e = omega (arith, node_new (same_true w x e))
      go false e = omega (arith, node_kept e)

  pub has_before : same_bytes w x ≡ false → HasNode w (x ∷ words) → HasNode w words
  has_before e (inl q) = inl q
  has_before e (inr h) = inr (omega (arith, node_kept e))

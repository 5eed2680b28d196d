-- Laws of new nodes: one more node makes a trie of one more word, and the bytes of a word, one after the other, lead to its node.
use Rattle.std.specs.Prelude.{◌≡◌, refl, Bool, true, false, List, [], ◌∷◌, ◌++◌, ℕ, suc, ◌+◌, ◌-◌, ◌≤◌, ◌<◌, length, get_or, take, drop}
use Rattle.std.proofs.Common.{sym, ap, subst, subst₂, ◌∙◌, inl, inr, arith, length-set, length-append, add-one, take-suc, get_or-set_same, get_or-set_other}
use Rattle.std.proofs.Math.Decide.{ℕ_discrete}
use Rattle.std.proofs.lemmas.List.{length-take, length-drop, get_or-drop}
use Rattle.records.specs.Ends.Same.{same_bytes}
use Rattle.records.specs.Ends.SameLaws.{same_true, same_length}
use Rattle.reader.specs.Names.SeekLaws.{differ}
use Rattle.reader.specs.Names.Trie.{trie_node, HasNode, Tables, Filled, Sought, Trie}
use Rattle.reader.specs.Names.Trie.Sought.{lost, here, further}
use Rattle.reader.specs.Names.TrieLaws.{sought_once, sought_below, snoc_some, snoc_same, node_own, node_new, node_kept, has_more, has_before}
use Rattle.reader.specs.Names.NewNode.{with_node, Grown, ChildMade, NodeMade, passed}

module _ {T : Tables} {nodes : ℕ} (p b : ℕ) (f : Filled T nodes) (below : p < nodes) (room : nodes < 65536) where
  -- what is sought from an older node on is found as before
  sought_kept : {c m r : ℕ} → m < nodes → Sought T c m r → Sought (with_node T nodes p b) c m r
  sought_kept h lost = lost
  sought_kept h (here {m = m} o q) = here o (get_or-set_other T.letter nodes m b 0 (omega arith) ∙ q)
  sought_kept {c} h (further {m = m} {r = r} o q s) =
      further o (λ e. q (sym (get_or-set_other T.letter nodes m b 0 (omega arith)) ∙ e)) (subst (λ (k : ℕ). Sought (with_node T nodes p b) c k r) (sym (get_or-set_other T.sibling nodes m (get_or T.child p 0) 0 (omega arith))) (sought_kept (omega (arith, f.full.older m o)) s))

  child_new : get_or (with_node T nodes p b).child p 0 ≡ nodes
  child_new = get_or-set_same T.child p nodes 0 (omega (arith, f.full.children, f.room))

  child_kept : (k : ℕ) → (k ≡ p → ⊥) → get_or (with_node T nodes p b).child k 0 ≡ get_or T.child k 0
  child_kept k e = get_or-set_other T.child p k nodes 0 e

  sibling_new : get_or (with_node T nodes p b).sibling nodes 0 ≡ get_or T.child p 0
  sibling_new = get_or-set_same T.sibling nodes (get_or T.child p 0) 0 (omega (arith, f.full.siblings))

  letter_new : get_or (with_node T nodes p b).letter nodes 0 ≡ b
  letter_new = get_or-set_same T.letter nodes b 0 (omega (arith, f.full.letters))

  pub filled_more : Filled (with_node T nodes p b) (nodes + 1)
  filled_more = record {
    full = record {
      children = length-set T.child p nodes ∙ f.full.children;
      siblings = length-set T.sibling nodes (get_or T.child p 0) ∙ f.full.siblings;
      letters = length-set T.letter nodes b ∙ f.full.letters;
      older = λ k o. older k o (ℕ_discrete k nodes);
    };
    some = omega arith;
    room = omega arith;
    born = λ k. born k (ℕ_discrete k p);
    free = λ k o. child_kept k (omega arith) ∙ f.free k (omega arith);
  }
    where
      older : (k : ℕ) → 0 < k → Dec (k ≡ nodes) → get_or (with_node T nodes p b).sibling k 0 < k
      older k o (yes e) = rw (e, sibling_new) (f.born p)
      older k o (no e) = rw (get_or-set_other T.sibling nodes k (get_or T.child p 0) 0 e) (f.full.older k o)

      born : (k : ℕ) → Dec (k ≡ p) → get_or (with_node T nodes p b).child k 0 < nodes + 1
      born k (yes e) = rw (e, child_new) (omega arith)
      born k (no e) = rw (child_kept k e) (omega (arith, f.born k))

  -- one more word, a word of the trie and a byte
  module _ (w : List ℕ) (words : List (List ℕ)) (t : Trie T nodes words) (h : HasNode w words) (at : p ≡ trie_node w words) (new : trie_node (w ++ (b ∷ [])) words ≡ 0) where
    abbrev x : List ℕ
    x = w ++ (b ∷ [])

    abbrev more : List (List ℕ)
    more = x ∷ words

    abbrev T₁ : Tables
    T₁ = with_node T nodes p b

    pub grown_one : Grown words more
    grown_one = record { longer = omega arith; same = λ g z free v. go g z free v (same_bytes v x) refl }
      where
        go : (g : ℕ → ℕ) → g 0 ≡ 0 → ((m : ℕ) → length words < m → g m ≡ 0) → (v : List ℕ) (s : Bool) → same_bytes v x ≡ s → g (trie_node v more) ≡ g (trie_node v words)
        go g z free v true e =
            let q : v ≡ x = same_true v x e in
            ap g (node_new v x words q) ∙ free (suc (length words)) (omega arith) ∙ sym z ∙ sym (ap g (ap (λ (l : List ℕ). trie_node l words) q ∙ new))
        go g z free v false e = ap g (node_kept v x words e)

    -- what is to be shown of each word and byte
    abbrev Branch : List ℕ → ℕ → Type 0
    Branch v c = Sought T₁ c (get_or T₁.child (trie_node v more) 0) (trie_node (v ++ (c ∷ [])) more)

    branch : (v : List ℕ) (c : ℕ) {i j : ℕ} → get_or T₁.child (trie_node v more) 0 ≡ i → trie_node (v ++ (c ∷ [])) more ≡ j → Sought T₁ c i j → Branch v c
    branch v c d e s = subst₂ (λ (m r : ℕ). Sought T₁ c m r) (sym d) (sym e) s

    -- the new node is a leaf
    leaf : (v : List ℕ) → v ≡ x → (c : ℕ) → Branch v c
    leaf v e c =
        let longer : same_bytes (v ++ (c ∷ [])) x ≡ false = same_length _ _ (λ q. omega (arith, length-append v (c ∷ []), ap length e)) in
        let none : 0 < trie_node (v ++ (c ∷ [])) words → ⊥ = λ o. strange (t.fronts v c o) in
        branch v c (ap (λ (k : ℕ). get_or T₁.child k 0) (node_new v x words e) ∙ child_kept (suc (length words)) (omega (arith, t.count)) ∙ f.free (suc (length words)) (omega (arith, t.count))) (node_kept _ x words longer ∙ omega arith) lost
      where
        strange : HasNode v words → ⊥
        strange (inl q) = snoc_some w b (sym e ∙ q)
        strange (inr q) = omega (arith, new, ap (λ (l : List ℕ). trie_node l words) e)

    -- it is the child of w for the byte b
    newest : (v : List ℕ) (c : ℕ) → v ++ (c ∷ []) ≡ x → same_bytes v x ≡ false → Branch v c
    newest v c e n =
        let q = snoc_same v w c b e in
        branch v c (ap (λ (k : ℕ). get_or T₁.child k 0) (node_kept v x words n ∙ ap (λ (l : List ℕ). trie_node l words) q.0 ∙ sym at) ∙ child_new) (node_new _ x words e ∙ sym t.count) (here f.some (letter_new ∙ sym q.1))

    -- every other child is found as before, one of w behind the new one
    beside : (v : List ℕ) (c : ℕ) → HasNode v words → same_bytes (v ++ (c ∷ [])) x ≡ false → same_bytes v x ≡ false → Dec (trie_node v words ≡ p) → Branch v c
    beside v c o n m (yes e) =
        let q : v ≡ w = node_own t o h (e ∙ at) in
        let s = subst (λ (k : ℕ). Sought T c (get_or T.child k 0) (trie_node (v ++ (c ∷ [])) words)) e (t.branches v o c) in
        branch v c (ap (λ (k : ℕ). get_or T₁.child k 0) (node_kept v x words m ∙ e) ∙ child_new) (node_kept _ x words n)
        (further f.some (λ z. differ n (ap (λ (l : List ℕ). l ++ (c ∷ [])) q ∙ ap (λ (k : ℕ). w ++ (k ∷ [])) (sym z ∙ letter_new))) (subst (λ (k : ℕ). Sought T₁ c k (trie_node (v ++ (c ∷ [])) words)) (sym sibling_new) (sought_kept (f.born p) s)))
    beside v c o n m (no e) = branch v c (ap (λ (k : ℕ). get_or T₁.child k 0) (node_kept v x words m) ∙ child_kept _ e) (node_kept _ x words n) (sought_kept (f.born _) (t.branches v o c))

    pub trie_more : Trie T₁ (nodes + 1) more
    trie_more = record {
      count = omega (arith, t.count);
      root = node_kept [] x words (same_length [] x (λ q. snoc_some w b (empty x q))) ∙ t.root;
      fronts = λ v c o. fronts v c (same_bytes (v ++ (c ∷ [])) x) refl o;
      branches = λ v o c. branches v o c (same_bytes v x) refl (same_bytes (v ++ (c ∷ [])) x) refl;
    }
      where
        empty : (l : List ℕ) → 0 ≡ length l → l ≡ []
        empty [] q = refl
        empty (y ∷ l) q = absurd (omega arith)

        fronts : (v : List ℕ) (c : ℕ) (s : Bool) → same_bytes (v ++ (c ∷ [])) x ≡ s → 0 < trie_node (v ++ (c ∷ [])) more → HasNode v more
        fronts v c true e o = has_more v x words (rw (snoc_same v w c b (same_true _ _ e)).0 h)
        fronts v c false e o = has_more v x words (t.fronts v c (omega (arith, node_kept (v ++ (c ∷ [])) x words e)))

        branches : (v : List ℕ) → HasNode v more → (c : ℕ) (s : Bool) → same_bytes v x ≡ s → (r : Bool) → same_bytes (v ++ (c ∷ [])) x ≡ r → Branch v c
        branches v o c true e r q = leaf v (same_true v x e) c
        branches v o c false e true q = newest v c (same_true _ _ q) e
        branches v o c false e false q = beside v c (has_before v x words e o) q e (ℕ_discrete (trie_node v words) p)

-- more and more words
grown_none : {words : List (List ℕ)} → Grown words words
grown_none = record { longer = omega arith; same = λ g z free w. refl }

grown_then : {words middle after : List (List ℕ)} → Grown words middle → Grown middle after → Grown words after
grown_then p q = record { longer = omega (arith, p.longer, q.longer); same = λ g z free w. q.same g z (λ m o. free m (omega (arith, p.longer))) w ∙ p.same g z free w }

-- one byte further: the child was there, or it is the new node
module _ {T : Tables} {nodes : ℕ} (p b : ℕ) {m : ℕ} (f : Filled T nodes) (s : Sought T b (get_or T.child p 0) m) where
  child_is : {words : List (List ℕ)} → Trie T nodes words → (w : List ℕ) → HasNode w words → p ≡ trie_node w words → m ≡ trie_node (w ++ (b ∷ [])) words
  child_is {words} t w h at = sought_once s (subst (λ (k : ℕ). Sought T b (get_or T.child k 0) (trie_node (w ++ (b ∷ [])) words)) (sym at) (t.branches w h b))

  pub child_there : 0 < m → ChildMade T nodes p b T nodes m
  child_there o = record {
    filled = f;
    below = omega (arith, sought_below f.full s, f.born p);
    few = omega arith;
    held = λ words t w h at. let e = child_is t w h at in record { after = words; grown = grown_none; trie = t; has = inr (omega arith); at = e };
  }

  pub child_made : p < nodes → nodes < 65536 → m ≡ 0 → ChildMade T nodes p b (with_node T nodes p b) (nodes + 1) nodes
  child_made below room z = record {
    filled = filled_more p b f below room;
    below = omega arith;
    few = omega arith;
    held = λ words t w h at.
        let new : trie_node (w ++ (b ∷ [])) words ≡ 0 = sym (child_is t w h at) ∙ z in
        let e = node_new (w ++ (b ∷ [])) (w ++ (b ∷ [])) words refl in
        record {
          after = (w ++ (b ∷ [])) ∷ words;
          grown = grown_one p b f below room w words t h at new;
          trie = trie_more p b f below room w words t h at new;
          has = inr (omega arith);
          at = t.count ∙ sym e;
        };
  }

-- the bytes of a word that were passed: how many, and one more
pub length_passed : (s : List ℕ) (from i : ℕ) → i ≤ length s → length (passed s from i) ≡ i - from
length_passed s from i h = simp (length-take, length-drop) (omega arith)

passed_next : (s : List ℕ) (from i : ℕ) → from ≤ i → i < length s → passed s from (i + 1) ≡ passed s from i ++ (get_or s i 0 ∷ [])
passed_next s from i h l =
    let a : i + 1 - from ≡ suc (i - from) = omega arith in
    let b : from + (i - from) ≡ i = omega arith in
    rw (a, take-suc (drop from s) (i - from) 0 (omega (arith, length-drop from s)), get_or-drop from s (i - from) 0, b)

-- from the root, and one byte further
pub node_start : {T : Tables} {nodes : ℕ} → Filled T nodes → NodeMade T nodes [] T nodes 0
node_start f = record { filled = f; below = f.some; few = omega arith; held = λ words t. record { after = words; grown = grown_none; trie = t; has = inl refl; at = sym t.root } }

pub node_next : {T₀ : Tables} {nodes₀ : ℕ} {T : Tables} {nodes p : ℕ} {T₁ : Tables} {nodes₁ p₁ : ℕ} (s : List ℕ) (i : ℕ) → i < length s → NodeMade T₀ nodes₀ (take i s) T nodes p
    → ChildMade T nodes p (get_or s i 0) T₁ nodes₁ p₁ → NodeMade T₀ nodes₀ (take (i + 1) s) T₁ nodes₁ p₁
node_next s i l w t =
    rw (add-one i, take-suc s i 0 l) (record {
      filled = t.filled;
      below = t.below;
      few = omega (arith, t.few, w.few, length-append (take i s) (get_or s i 0 ∷ []));
      held = λ words u.
          let r = w.held words u in
          let q = t.held r.after r.trie (take i s) r.has r.at in
          record { after = q.after; grown = grown_then r.grown q.grown; trie = q.trie; has = q.has; at = q.at };
    })

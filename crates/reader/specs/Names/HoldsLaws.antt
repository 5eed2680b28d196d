-- Laws of the names that tables hold: none at the start, the same ones when nodes are added, and one more when a word without a number gets one.
use Rattle.std.specs.Prelude.{◌≡◌, refl, Bool, true, false, List, [], ℕ, zero, suc, ◌+◌, ◌-◌, ◌<◌, length, set, replicate}
use Rattle.std.proofs.Common.{sym, ◌∙◌, inl, inr, arith, length-set, get_or-set_same, get_or-set_other}
use Rattle.std.proofs.Math.Path.{ap}
use Rattle.std.proofs.Math.ListN.{get_or}
use Rattle.std.proofs.lemmas.List.{length-replicate}
use Rattle.records.specs.Ends.Same.{same_bytes}
use Rattle.records.specs.Ends.SameLaws.{same_true}
use Rattle.reader.specs.Form.Meaning.{with_name}
use Rattle.reader.specs.Names.Seek.{seek}
use Rattle.reader.specs.Names.SeekLaws.{differ, seek_some, seek_none, seek_other}
use Rattle.reader.specs.Names.Trie.{trie_node, HasNode, Tables, tables}
use Rattle.reader.specs.Names.NewNode.{NodeHeld, NodeMade}
use Rattle.reader.specs.Names.Holds.{Holds, Zeros, NameNumbered, NameGiven}
use Rattle.reader.specs.Names.Trie.Sought.{lost}
use Rattle.reader.specs.Names.TrieLaws.{node_one}

-- tables of zeros hold no name
pub zeros_made : (n : ℕ) → n ≡ 65536 → Zeros (replicate n 0)
zeros_made n e = record { long = length-replicate n 0 ∙ e; zero = nothing n }
  where
    nothing : (n k : ℕ) → ◌≡◌ {A = ℕ} (get_or (replicate n 0) k 0) 0
    nothing zero k = refl
    nothing (suc n) zero = refl
    nothing (suc n) (suc k) = nothing n k

pub holds_start : {child sibling letter number : List ℕ} → Zeros child → Zeros sibling → Zeros letter → Zeros number → Holds (tables child sibling letter) number 1 0 []
unfolding trie_node seek
holds_start c s l n = record {
  filled = record {
    full = record { children = c.long; siblings = s.long; letters = l.long; older = λ m o. omega (arith, s.zero m) };
    some = omega arith;
    room = omega arith;
    born = λ p. omega (arith, c.zero p);
    free = λ m o. c.zero m;
  };
  words = [];
  trie = record {
    count = refl;
    root = refl;
    fronts = λ w b o. absurd (omega arith);
    branches = λ w h b. rw (c.zero 0) lost;
  };
  numbers = n.long;
  root = n.zero 0;
  free = λ m o. n.zero m;
  found = λ w. n.zero 0;
  counted = refl;
}

-- new nodes bring no name
module _ {T₀ : Tables} {number : List ℕ} {nodes₀ count : ℕ} {names : List (List ℕ)} (h : Holds T₀ number nodes₀ count names) {w : List ℕ} {T : Tables} {nodes node : ℕ}
    (k : NodeMade T₀ nodes₀ w T nodes node) where
  held : NodeHeld h.words w T nodes node
  held = k.held h.words h.trie

  found_still : (v : List ℕ) → get_or number (trie_node v held.after) 0 ≡ seek v names
  unfolding held
  found_still v =
      held.grown.same (λ (m : ℕ). get_or number m 0) h.root (λ m o. h.free m (omega (arith, h.trie.count))) v ∙ h.found v

  mark_is : get_or number node 0 ≡ seek w names
  unfolding held
  mark_is = ap (λ (m : ℕ). get_or number m 0) held.at ∙ found_still w

  holds_still : Holds T number nodes count names
  unfolding held
  holds_still = record {
    filled = k.filled;
    words = held.after;
    trie = held.trie;
    numbers = h.numbers;
    root = h.root;
    free = λ m o. h.free m (omega (arith, h.trie.count, held.trie.count, held.grown.longer));
    found = found_still;
    counted = h.counted;
  }

  -- the word has a number
  numbered_old : {m : ℕ} → m ≡ get_or number node 0 → (m ≡ 0 → ⊥) → NameNumbered names w T number nodes count (m - 1)
  numbered_old {m} e o =
      let s = seek_some w names (m - 1) (sym mark_is ∙ sym e ∙ omega arith) in
      record { is = sym s.0; holds = rw s.1 holds_still }

  -- it gets the next one
  numbered_new : {m : ℕ} → (w ≡ [] → ⊥) → m ≡ get_or number node 0 → m ≡ 0 → NameNumbered names w T (set number node (count + 1)) nodes (count + 1) count
  numbered_new o e z =
      let s = seek_none w names (sym mark_is ∙ sym e ∙ z) in
      let some : 0 < node = has_some held.has in
      record {
        is = h.counted ∙ sym s.0;
        holds = record {
          filled = k.filled;
          words = held.after;
          trie = held.trie;
          numbers = length-set number node (count + 1) ∙ h.numbers;
          root = get_or-set_other number node 0 (count + 1) 0 (omega arith) ∙ h.root;
          free = λ m q. get_or-set_other number node m (count + 1) 0 (omega (arith, k.below)) ∙ holds_still.free m q;
          found = λ v. found v (same_bytes v w) refl;
          counted = omega (arith, h.counted, s.1);
        };
      }
    where
      has_some : HasNode w held.after → 0 < node
      has_some (inl q) = absurd (o q)
      has_some (inr q) = omega (arith, held.at)

      found : (v : List ℕ) (t : Bool) → same_bytes v w ≡ t → get_or (set number node (count + 1)) (trie_node v held.after) 0 ≡ seek v (with_name names w)
      found v true q =
          let same : v ≡ w = same_true v w q in
          let s = seek_none w names (sym mark_is ∙ sym e ∙ z) in
          let here : trie_node v held.after ≡ node = ap (λ (l : List ℕ). trie_node l held.after) same ∙ sym held.at in
          let new = get_or-set_same number node (count + 1) 0 (omega (arith, k.below, k.filled.room, h.numbers)) in
          rw (here, same, new, s.2) (omega (arith, h.counted))
      found v false q =
          let elsewhere : trie_node v held.after ≡ node → ⊥ = λ z. differ q (node_one v w held.after (z ∙ held.at) (omega (arith, has_some held.has))) in
          get_or-set_other number node _ (count + 1) 0 elsewhere ∙ found_still v ∙ sym (seek_other v w names q)

-- what the tables are given, whatever they hold
module _ {T₀ : Tables} {number : List ℕ} {nodes₀ count : ℕ} {w : List ℕ} {T : Tables} {nodes node : ℕ} (k : NodeMade T₀ nodes₀ w T nodes node) (l : length number ≡ 65536) where
  pub given_old : {m : ℕ} → m ≡ get_or number node 0 → (m ≡ 0 → ⊥) → m < 65536 → NameGiven T₀ number nodes₀ count w T number nodes count (m - 1)
  given_old e o s = record {
    filled = k.filled;
    long = l;
    few = k.few;
    one = omega arith;
    small = omega arith;
    numbered = λ some names h. numbered_old h k e o;
  }

  pub given_new : {m : ℕ} → m ≡ get_or number node 0 → m ≡ 0 → count < 65536 → NameGiven T₀ number nodes₀ count w T (set number node (count + 1)) nodes (count + 1) count
  given_new e z s = record {
    filled = k.filled;
    long = length-set number node (count + 1) ∙ l;
    few = k.few;
    one = omega arith;
    small = s;
    numbered = λ some names h. numbered_new h k some e z;
  }

-- Laws of what stands at a position: its parts stand one after the other, readers and traversals go over it, the heads there are the tree's, and
-- equal bytes are equal trees.
use Rattle.std.specs.Prelude.{ℕ, ◌+◌, ◌-◌, ◌≤◌, ◌<◌, ◌≡◌, refl, List, [], ◌∷◌, ◌++◌, length, drop, Some}
use Rattle.std.proofs.Common.{add_assoc, arith, sym, ◌∙◌, append_assoc, append-nil, length-append, length-drop, drop-drop, drop_at, take_at}
use Rattle.std.proofs.Math.Path.{ap}
use borrow.Author.Tests.{le-leb}
use Rattle.records.specs.Format.Syntax.{Term, Terms, Goal, Ancestor, Bet, arity}
use Rattle.records.specs.Format.Syntax.Term.{var, app}
use Rattle.records.specs.Format.Syntax.Terms.{nil, cons}
use Rattle.records.specs.Format.Syntax.Goal.{truth, failure, equal, conj, disj, atom}
use Rattle.records.specs.Format.Syntax.Ancestor.{called, in_conj, in_disj}
use Rattle.records.specs.Format.Syntax.Bet.{unifier, or, by}
use Rattle.records.specs.Format.Syntax.Definition.{definition}
use Rattle.records.specs.Format.Encode.{word, term_bytes, terms_bytes, goal_bytes, ancestor_bytes, bet_bytes, definition_bytes, record_of, each, counted}
use Rattle.records.specs.Format.Formed.{TermFormed, TermsFormed, GoalFormed, AncestorFormed, BetFormed, DefinitionFormed}
use Rattle.records.specs.Format.Heads.{signed, term_head, goal_head, ancestor_head, bet_head, definition_head, word_head, term_head_at, goal_head_at, ancestor_head_at, bet_head_at, word_at, definition_head_at}
use Rattle.records.specs.Format.HeadLaws.{joined_word}
use Rattle.records.specs.Ends.Range.{size, cut, Inside}
use Rattle.records.specs.Format.Reader.{read}
use Rattle.records.specs.Format.Reader.Read.{found}
use Rattle.records.specs.Format.Reader.Parts.{parts}
use Rattle.records.specs.Format.Items.{Reader}
use Rattle.records.specs.Format.ItemLaws.{Exact, parts_exact}
use Rattle.records.specs.Format.Exact.{tag_is}
use Rattle.records.specs.Ends.Traversal.{traverse, place_of, end_of, term_nodes, terms_nodes, goal_nodes, end_at, traversal_end}
use Rattle.records.specs.Ends.Traversal.Traversal.{on}
use Rattle.records.specs.Ends.Stands.{Stands, head_of_term, head_of_goal, head_of_ancestor, head_of_bet, Both}

-- what stands lies within
pub stands_within : {s : List ℕ} {at : ℕ} {x : List ℕ} {e : ℕ} → Stands s at x e → 0 < length x → (at < e) × (e ≤ length s)
stands_within {s} {at} {x} {e} w z =
    let y : length (drop at s) ≡ length x + length (drop e s) = ap length w.bytes ∙ length-append x (drop e s) in
    (omega (arith, w.end), omega (arith, w.end, length-drop at s, length-drop e s))

-- one part after the other
pub stands_first : {s : List ℕ} {at e : ℕ} (x y : List ℕ) → Stands s at (x ++ y) e → Stands s at x (at + length x)
stands_first {s} {at} {e} x y w = record {
  end = refl;
  bytes = w.bytes ∙ append_assoc x y (drop e s)
      ∙ ap (λ (r : List ℕ). x ++ r) (sym (sym (drop-drop (length x) at s) ∙ ap (drop (length x)) (w.bytes ∙ append_assoc x y (drop e s)) ∙ drop_at x (y ++ drop e s) (length x) refl));
}

pub stands_second : {s : List ℕ} {at e : ℕ} (x y : List ℕ) → Stands s at (x ++ y) e → Stands s (at + length x) y e
stands_second {s} {at} {e} x y w = record {
  end = w.end ∙ rw length-append (sym (add_assoc at (length x) (length y)));
  bytes = sym (drop-drop (length x) at s) ∙ ap (drop (length x)) (w.bytes ∙ append_assoc x y (drop e s)) ∙ drop_at x (y ++ drop e s) (length x) refl;
}

pub stands_join : {s : List ℕ} {at m e : ℕ} (x y : List ℕ) → Stands s at x m → Stands s m y e → Stands s at (x ++ y) e
stands_join {s} {at} {m} {e} x y w v = record {
  end = v.end ∙ ap (λ (n : ℕ). n + length y) w.end ∙ add_assoc at (length x) (length y) ∙ ap (λ (n : ℕ). at + n) (sym (length-append x y));
  bytes = w.bytes ∙ ap (λ (r : List ℕ). x ++ r) v.bytes ∙ sym (append_assoc x y (drop e s));
}

-- a record's body stands after its length and its version
pub body_stands : (body : List ℕ) → Stands (record_of body) 3 body (3 + length body)
unfolding record_of
body_stands body = record { end = refl; bytes = sym (append-nil body) ∙ ap (λ (x : List ℕ). body ++ x) (sym (past body)) }
  where
    past : (b : List ℕ) → drop (3 + length b) (word (1 + length b) ++ (1 ∷ b)) ≡ []
    past b = sym (drop-drop (length b) 3 (word (1 + length b) ++ (1 ∷ b))) ∙ ap (drop (length b)) (sym (append-nil b)) ∙ drop_at b [] (length b) refl

-- the range from `at` to e cuts out what stands there
pub stands_cut : {s : List ℕ} {at : ℕ} {x : List ℕ} {e : ℕ} → Stands s at x e → cut s (record { from = at; to = e }) ≡ x
unfolding cut size
stands_cut {s} {at} {x} {e} w =
    let n : length x ≡ e - at = omega (arith, w.end) in
    rw w.bytes (take_at x (drop e s) (e - at) n)

pub stands_inside : {s : List ℕ} {at : ℕ} {x : List ℕ} {e : ℕ} → Stands s at x e → e ≤ length s → Inside (record { from = at; to = e }) s
stands_inside w h = record { order = omega (arith, w.end); stop = h }

-- an exact reader reads what stands there
pub stands_read : {A : Type 0} {bytes : A → List ℕ} {Formed : A → Type 0} {r : Reader A} → Exact bytes Formed r → {s : List ℕ} {at e : ℕ} (a : A) → Formed a → Stands s at (bytes a) e
    → r (drop at s) ≡ found a (length (bytes a))
stands_read {bytes = bytes} {r = r} w {s} {at} {e} a f h = ap r h.bytes ∙ w.complete a f (drop e s)

pub stands_ends : {A : Type 0} {bytes : A → List ℕ} {Formed : A → Type 0} {r : Reader A} → Exact bytes Formed r → {s : List ℕ} {at e : ℕ} (a : A) → Formed a → Stands s at (bytes a) e
    → end_of r s at ≡ Some e
unfolding end_of
stands_ends w {s} {at} {e} a f h = ap (place_of at) (stands_read w a f h) ∙ ap Some (sym h.end)

-- the traversal over what stands there
pub traverse_terms : {s : List ℕ} {at e : ℕ} (ts : Terms) → TermsFormed ts → Stands s at (terms_bytes ts) e → traverse s at (arity ts) 0 ≡ on (terms_nodes ts) e
unfolding traverse
traverse_terms {s} {at} {e} ts f h =
    let r : read (drop at s) (arity ts) 0 ≡ found (parts ts []) (length (terms_bytes ts)) =
    ap (λ (l : List ℕ). read l (arity ts) 0) (h.bytes ∙ ap (λ (x : List ℕ). x ++ drop e s) (sym (append-nil (terms_bytes ts))))
    ∙ (parts_exact (arity ts) 0).complete (parts ts []) (refl, refl, f, tt) (drop e s) ∙ ap (λ (x : List ℕ). found (parts ts []) (length x)) (append-nil (terms_bytes ts)) in
    rw r (ap (on (terms_nodes ts ++ [])) (sym h.end) ∙ ap (λ (l : List _). on l e) (append-nil (terms_nodes ts)))

pub traverse_term : {s : List ℕ} {at e : ℕ} (t : Term) → TermFormed t → Stands s at (term_bytes t) e → traverse s at 1 0 ≡ on (term_nodes t) e
traverse_term {s} {at} {e} t f h =
    traverse_terms (cons t nil) (f, tt) (rw (← append-nil (term_bytes t)) at h) ∙ ap (λ (l : List _). on l e) (append-nil (term_nodes t))

-- it ends there
pub term_ends : {s : List ℕ} {at e : ℕ} (t : Term) → TermFormed t → Stands s at (term_bytes t) e → end_at s at 1 0 ≡ Some e
unfolding end_at
term_ends t f h = ap traversal_end (traverse_term t f h)

pub traverse_goal : {s : List ℕ} {at e : ℕ} (g : Goal) → GoalFormed g → Stands s at (goal_bytes g) e → traverse s at 0 1 ≡ on (goal_nodes g) e
unfolding traverse
traverse_goal {s} {at} {e} g f h =
    let r : read (drop at s) 0 1 ≡ found (parts nil (g ∷ [])) (length (goal_bytes g)) =
    ap (λ (l : List ℕ). read l 0 1) (h.bytes ∙ ap (λ (x : List ℕ). x ++ drop e s) (sym (append-nil (goal_bytes g))))
    ∙ (parts_exact 0 1).complete (parts nil (g ∷ [])) (refl, refl, tt, (f, tt)) (drop e s) ∙ ap (λ (x : List ℕ). found (parts nil (g ∷ [])) (length x)) (append-nil (goal_bytes g)) in
    rw r (ap (on (goal_nodes g ++ [])) (sym h.end) ∙ ap (λ (l : List _). on l e) (append-nil (goal_nodes g)))

module _ {s : List ℕ} {at e : ℕ} where
  pub term_stands : (t : Term) → TermFormed t → Stands s at (term_bytes t) e → term_head_at s at ≡ head_of_term t
  unfolding term_head_at
  term_stands (var v) f w = ap term_head w.bytes ∙ rw (joined_word v f)
  term_stands (app g ts) f w = ap term_head w.bytes ∙ rw (joined_word g f.0, le-leb (arity ts) 16 f.1)

  pub goal_stands : (g : Goal) → GoalFormed g → Stands s at (goal_bytes g) e → goal_head_at s at ≡ head_of_goal g
  unfolding goal_head_at
  goal_stands truth f w = ap goal_head w.bytes
  goal_stands failure f w = ap goal_head w.bytes
  goal_stands (equal t u) f w = ap goal_head w.bytes
  goal_stands (conj a b) f w = ap goal_head w.bytes
  goal_stands (disj a b) f w = ap goal_head w.bytes
  goal_stands (atom p ts) f w = ap goal_head w.bytes ∙ rw (joined_word p f.0, le-leb (arity ts) 16 f.1)

  pub ancestor_stands : (a : Ancestor) → AncestorFormed a → Stands s at (ancestor_bytes a) e → ancestor_head_at s at ≡ head_of_ancestor a
  unfolding ancestor_head_at
  ancestor_stands (called p ts) f w = ap ancestor_head w.bytes ∙ rw (joined_word p f.0, le-leb (arity ts) 16 f.1)
  ancestor_stands (in_conj h a b) f w = ap ancestor_head w.bytes ∙ rw (tag_is h)
  ancestor_stands (in_disj h a b) f w = ap ancestor_head w.bytes ∙ rw (tag_is h)

  pub bet_stands : (b : Bet) → BetFormed b → Stands s at (bet_bytes b) e → bet_head_at s at ≡ head_of_bet b
  unfolding bet_head_at
  bet_stands (unifier bs) f w = ap bet_head w.bytes ∙ rw (joined_word (length bs) f.0)
  bet_stands (or h) f w = ap bet_head w.bytes ∙ rw (tag_is h)
  bet_stands (by g) f w = ap bet_head w.bytes

  pub definition_stands : (p k n : ℕ) (g : Goal) → DefinitionFormed (definition p k n g) → Stands s at (definition_bytes (definition p k n g)) e → definition_head_at s at ≡ signed p k n
  unfolding definition_head_at
  definition_stands p k n g f w = ap definition_head w.bytes ∙ rw (le-leb k 16 f.1, joined_word p f.0)

  pub word_stands : (n : ℕ) (x : List ℕ) → n < 65536 → Stands s at (word n ++ x) e → word_at s at ≡ Some n
  unfolding word_at
  word_stands n x f w = ap word_head w.bytes ∙ rw (joined_word n f)

both : {s : List ℕ} {at e : ℕ} (h x y : List ℕ) → Stands s at (h ++ (x ++ y)) e → Both s (at + length h) x y e
both h x y w = record { one = stands_first x y (stands_second h (x ++ y) w); other = stands_second x y (stands_second h (x ++ y) w) }

module _ {s : List ℕ} {at e : ℕ} where
  -- the sides of an equality
  pub equal_parts : (t u : Term) → Stands s at (goal_bytes (equal t u)) e → Both s (at + 1) (term_bytes t) (term_bytes u) e
  equal_parts t u w = both (0x12 ∷ []) (term_bytes t) (term_bytes u) w

  -- a stack: behind its count the top, and then the rest
  pub stack_parts : {A : Type 0} (f : A → List ℕ) (x : A) (l : List A) → Stands s at (counted f (x ∷ l)) e → Both s (at + 2) (f x) (each f l) e
  stack_parts f x l w = both (word (length (x ∷ l))) (f x) (each f l) w

-- unique readability: two things that start the same bytes are one, and so is what follows them
pub unique_front : {A : Type 0} {bytes : A → List ℕ} {Formed : A → Type 0} {r : Reader A} → Exact bytes Formed r → (a b : A) → Formed a → Formed b → (x y : List ℕ)
    → bytes a ++ x ≡ bytes b ++ y → (a ≡ b) × (x ≡ y)
unique_front {bytes = bytes} {r = r} w a b fa fb x y e =
    let i : a ≡ b = same (sym (w.complete a fa x) ∙ ap r e ∙ w.complete b fb y) in
    (i, sym (drop_at (bytes a) x (length (bytes a)) refl) ∙ ap (drop (length (bytes a))) e ∙ rw i (drop_at (bytes b) y (length (bytes b)) refl))
  where
    same : {m n : ℕ} → found a m ≡ found b n → a ≡ b
    same {m} {n} q = cc

-- equal bytes are equal trees
pub same_tree : {A : Type 0} {bytes : A → List ℕ} {Formed : A → Type 0} {r : Reader A} → Exact bytes Formed r → (a b : A) → Formed a → Formed b → bytes a ≡ bytes b → a ≡ b
same_tree w a b fa fb e = (unique_front w a b fa fb [] [] (ap (λ (x : List ℕ). x ++ []) e)).0

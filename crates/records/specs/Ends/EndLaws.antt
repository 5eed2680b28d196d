-- Laws of where terms, goals and rows of items end: what code that looks for an end goes by.
use Prim.Native.Nat.{ℕ, zero, suc, ◌+◌, ◌-◌, ◌*◌, ◌≤◌, ◌<◌}
use Rattle.std.proofs.Common.{zero-add, add-zero, arith, sym, ◌∙◌, append_assoc, append-nil, length-append, length-drop, drop-drop}
use Rattle.std.specs.Prelude.{◌≡◌, List, [], ◌∷◌, ◌++◌, length, drop, Option, Some, None}
use Rattle.std.proofs.Math.Path.{refl, ap}
use Rattle.records.specs.Format.Never.{never}
use Rattle.records.specs.Format.Syntax.{Term, Terms, Goal, arity}
use Rattle.records.specs.Format.Syntax.Term.{var, app}
use Rattle.records.specs.Format.Syntax.Terms.{nil, cons}
use Rattle.records.specs.Format.Syntax.Goal.{truth, failure, equal, conj, disj, atom}
use Rattle.records.specs.Format.Encode.{each, term_bytes, terms_bytes, goal_bytes}
use Rattle.records.specs.Format.Heads.{term_head_at, goal_head_at}
use Rattle.records.specs.Format.HeadLaws.{Bytes, Known, bytes_all, bytes_drop}
use Rattle.records.specs.Ends.HeadRoomLaws.{goal_room}
use Rattle.records.specs.Format.Reader.{Read, Parts, also, terms_of, goals_of, leading, back, read}
use Rattle.records.specs.Format.Reader.Read.{unread, found}
use Rattle.records.specs.Format.Reader.Parts.{parts}
use Rattle.records.specs.Format.ReaderLaws.{complete_terms, over_terms, read_done, sound, ReadSound, parts_bytes, front_arity, bytes_split, formed_split}
use Rattle.records.specs.Ends.Traversal.{Node, Traversal, traversed, traverse, before, place_of, traversal_end, end_at}
use Rattle.records.specs.Ends.Traversal.Traversal.{off, on}
use Rattle.records.specs.Ends.TraversalLaws.{step, traverse_step}
use Rattle.records.specs.declared.ends.Ahead.{Ahead}
use Rattle.records.specs.declared.heads.TermHead.{TermHead}
use Rattle.records.specs.declared.heads.TermHead.TheVariants.{Variable, Symbol}
use Rattle.records.specs.declared.heads.GoalHead.{GoalHead}
use Rattle.records.specs.declared.heads.GoalHead.TheVariants.{Truth, Failure, Equal, Conj, Disj, Atom}

-- an encoding is not empty
pub term_long : (t : Term) → 3 ≤ length (term_bytes t)
term_long (var v) = omega arith
term_long (app f ts) = omega arith

pub terms_long : (ts : Terms) → 3 * arity ts ≤ length (terms_bytes ts)
terms_long nil = omega arith
terms_long (cons t ts) = simp length-append (omega (arith, term_long t, terms_long ts))

pub goal_long : (a : Goal) → 1 ≤ length (goal_bytes a)
goal_long truth = omega arith
goal_long failure = omega arith
goal_long (equal t u) = omega arith
goal_long (conj a b) = omega arith
goal_long (disj a b) = omega arith
goal_long (atom p ts) = omega arith

goals_long : (gs : List Goal) → length gs ≤ length (each goal_bytes gs)
goals_long [] = omega arith
goals_long (g ∷ gs) = simp length-append (omega (arith, goal_long g, goals_long gs))

-- the position that was found
abbrev pub onward : Option ℕ → (ℕ → Option ℕ) → Option ℕ
onward (Some e) k = k e
onward None k = None

traversal_end_place : (at : ℕ) (o : Read Parts) → traversal_end (traversed at o) ≡ place_of at o
traversal_end_place at unread = refl
traversal_end_place at (found p n) = refl

no_place : {P : Type 0} {e : ℕ} → None ≡ Some e → P
no_place q = never cc

pub end_read : (s : List ℕ) (at t g : ℕ) → end_at s at t g ≡ place_of at (read (drop at s) t g)
unfolding end_at traverse
end_read s at t g = traversal_end_place at (read (drop at s) t g)

module _ (s : List ℕ) (at : ℕ) where
  traversal_end_before : (x : Node) (w : Traversal) → traversal_end (before x w) ≡ traversal_end w
  traversal_end_before x off = refl
  traversal_end_before x (on l e) = refl

  -- one node, by its heads
  abbrev pub end_step : ℕ → ℕ → Option TermHead → Option GoalHead → Option ℕ
  end_step zero zero h i = Some at
  end_step (suc t) g (Some (Variable v)) i = end_at s (at + 3) t g
  end_step (suc t) g (Some (Symbol f k)) i = end_at s (at + 4) (k + t) g
  end_step (suc t) g None i = None
  end_step zero (suc g) h (Some Truth) = end_at s (at + 1) zero g
  end_step zero (suc g) h (Some Failure) = end_at s (at + 1) zero g
  end_step zero (suc g) h (Some Equal) = end_at s (at + 1) 2 g
  end_step zero (suc g) h (Some Conj) = end_at s (at + 1) zero (suc (suc g))
  end_step zero (suc g) h (Some Disj) = end_at s (at + 1) zero (suc (suc g))
  end_step zero (suc g) h (Some (Atom p k)) = end_at s (at + 4) k g
  end_step zero (suc g) h None = None

  end_of_step : (t g : ℕ) (h : Option TermHead) (i : Option GoalHead) → traversal_end (step s at t g h i) ≡ end_step t g h i
  unfolding end_at
  end_of_step zero zero h i = refl
  end_of_step (suc t) g (Some (Variable v)) i = traversal_end_before _ (traverse s (at + 3) t g)
  end_of_step (suc t) g (Some (Symbol f k)) i = traversal_end_before _ (traverse s (at + 4) (k + t) g)
  end_of_step (suc t) g None i = refl
  end_of_step zero (suc g) h (Some Truth) = traversal_end_before _ (traverse s (at + 1) zero g)
  end_of_step zero (suc g) h (Some Failure) = traversal_end_before _ (traverse s (at + 1) zero g)
  end_of_step zero (suc g) h (Some Equal) = traversal_end_before _ (traverse s (at + 1) 2 g)
  end_of_step zero (suc g) h (Some Conj) = traversal_end_before _ (traverse s (at + 1) zero (suc (suc g)))
  end_of_step zero (suc g) h (Some Disj) = traversal_end_before _ (traverse s (at + 1) zero (suc (suc g)))
  end_of_step zero (suc g) h (Some (Atom p k)) = traversal_end_before _ (traverse s (at + 4) k g)
  end_of_step zero (suc g) h None = refl

  pub end_by_heads : (t g : ℕ) → end_at s at t g ≡ end_step t g (term_head_at s at) (goal_head_at s at)
  unfolding end_at
  end_by_heads t g = ap traversal_end (traverse_step s at t g) ∙ end_of_step t g (term_head_at s at) (goal_head_at s at)

  -- what was read there, from where it ends
  read_of : (t g e : ℕ) → end_at s at t g ≡ Some e → (p : Parts) × (n : ℕ) × (read (drop at s) t g ≡ found p n) × (e ≡ at + n) × ReadSound (drop at s) t g p n
  read_of t g e q = go (read (drop at s) t g) refl (sym (end_read s at t g) ∙ q)
    where
      go : (o : Read Parts) → read (drop at s) t g ≡ o → place_of at o ≡ Some e → (p : Parts) × (n : ℕ) × (read (drop at s) t g ≡ found p n) × (e ≡ at + n) × ReadSound (drop at s) t g p n
      go unread h z = no_place z
      go (found p n) h z = (p, n, h, cc, sound (drop at s) t g p n h)

  module _ (known : Known s) where
    bytes_at : Bytes (drop at s)
    bytes_at = bytes_drop at s (bytes_all s known)

    -- each term takes three bytes at least and each goal one, and all lie within
    pub end_bound : (t g e : ℕ) → end_at s at t g ≡ Some e → (at + (3 * t + g) ≤ e) × (e ≤ length s + (at - length s))
    end_bound t g e q =
        let w = read_of t g e q in
        let v = w.4 in
        let x : length (drop at s) ≡ length (parts_bytes w.0) + length (drop w.1 (drop at s)) = ap length (v.bytes bytes_at) ∙ length-append (parts_bytes w.0) (drop w.1 (drop at s)) in
        let y : length (parts_bytes w.0) ≡ length (terms_bytes (terms_of w.0)) + length (each goal_bytes (goals_of w.0)) = length-append (terms_bytes (terms_of w.0)) (each goal_bytes (goals_of w.0)) in
        (omega (arith, w.3, v.size, v.terms, v.goals, y, terms_long (terms_of w.0), goals_long (goals_of w.0)), omega (arith, w.3, v.size, x, length-drop at s))

    -- t terms, and then what follows them
    pub end_then : (t n g e : ℕ) → end_at s at t zero ≡ Some e → end_at s at (t + n) g ≡ end_at s e n g
    end_then t n g e q =
        let w = read_of t zero e q in
        end_read s at (t + n) g ∙ go w.0 w.1 w.3 w.4 ∙ sym (end_read s e n g)
      where
        moved : (ts : Terms) (k : ℕ) (o : Read Parts) → e ≡ at + k → place_of at (also (over_terms ts) k o) ≡ place_of e o
        moved ts k unread h = refl
        moved ts k (found p m) h = ap Some (omega arith)

        go : (p : Parts) (m : ℕ) → e ≡ at + m → ReadSound (drop at s) t zero p m → place_of at (read (drop at s) (t + n) g) ≡ place_of e (read (drop e s) n g)
        go (parts ts (a ∷ gs)) m h v = absurd (omega (arith, v.goals))
        go (parts ts []) m h v =
            let b : drop at s ≡ terms_bytes ts ++ drop e s = v.bytes bytes_at ∙ rw (append-nil, h) (ap (λ (l : List ℕ). terms_bytes ts ++ l) (drop-drop m at s)) in
            let z : m ≡ length (terms_bytes ts) = v.size ∙ rw append-nil in
            rw (b, ← v.terms, complete_terms ts (v.formed bytes_at).0 n g (drop e s), ← z) (moved ts m (read (drop e s) n g) h)

    -- where t terms do not stand, no more do
    pub end_never : (t n g : ℕ) → end_at s at t zero ≡ None → end_at s at (t + n) g ≡ None
    end_never t n g q = end_read s at (t + n) g ∙ go (read (drop at s) (t + n) g) refl
      where
        go : (o : Read Parts) → read (drop at s) (t + n) g ≡ o → place_of at o ≡ None
        go unread h = refl
        go (found p m) h =
            let v = sound (drop at s) (t + n) g p m h in
            let f = formed_split t (terms_of p) (v.formed bytes_at).0 in
            let b : drop at s ≡ terms_bytes (leading t (terms_of p)) ++ (terms_bytes (back t (terms_of p)) ++ (each goal_bytes (goals_of p) ++ drop m (drop at s))) =
            v.bytes bytes_at ∙ rw (bytes_split t (terms_of p)) (simp append_assoc) in
            let c = complete_terms (leading t (terms_of p)) f.0 zero zero (terms_bytes (back t (terms_of p)) ++ (each goal_bytes (goals_of p) ++ drop m (drop at s))) in
            let r : read (drop at s) t zero ≡ also (over_terms (leading t (terms_of p))) (length (terms_bytes (leading t (terms_of p)))) (found (parts nil []) 0) =
            rw (b) (rw (front_arity t n (terms_of p) v.terms, add-zero, read_done) at c) in
            no_place (sym q ∙ end_read s at t zero ∙ ap (place_of at) r)

-- what follows a goal's own head and terms: from where on, and how many goals the head announced
abbrev pub announced : Option ℕ → Option Ahead
announced (Some e) = Some (record { at = e; goals = 0 })
announced None = None

abbrev pub next_by : List ℕ → ℕ → Option GoalHead → Option Ahead
next_by s at (Some Truth) = announced (Some (at + 1))
next_by s at (Some Failure) = announced (Some (at + 1))
next_by s at (Some Equal) = announced (end_at s (at + 1) 2 0)
next_by s at (Some Conj) = Some (record { at = at + 1; goals = 2 })
next_by s at (Some Disj) = Some (record { at = at + 1; goals = 2 })
next_by s at (Some (Atom p k)) = announced (end_at s (at + 4) k 0)
next_by s at None = None

unfoldable pub next_goal : List ℕ → ℕ → Option Ahead
next_goal s at = next_by s at (goal_head_at s at)

-- where g goals more end, after what `next_goal` found
abbrev pub goals_after : List ℕ → Option Ahead → ℕ → Option ℕ
goals_after s (Some a) g = end_at s a.at zero (a.goals + g)
goals_after s None g = None

module _ (s : List ℕ) (at : ℕ) (known : Known s) where
  after_terms : (k g : ℕ) (f : Option ℕ) → end_at s at k zero ≡ f → end_at s at k g ≡ goals_after s (announced f) g
  after_terms k g (Some e) q = rw zero-add (rw add-zero at (end_then s at known k zero g e q))
  after_terms k g None q = rw add-zero at (end_never s at known k zero g q)

  terms_fit : (k : ℕ) (f : Option ℕ) → end_at s at k zero ≡ f → at ≤ length s → (a : Ahead) → announced f ≡ Some a → (at ≤ a.at) × (a.at ≤ length s) × (a.goals ≤ 2)
  terms_fit k (Some e) q h a p =
      let w = end_bound s at known k zero e q in
      let x : record { at = e; goals = 0 } ≡ a = cc in
      rw (← x) (omega arith, omega arith, omega arith)
  terms_fit k None q h a p = never cc

module _ (s : List ℕ) (at : ℕ) (known : Known s) where
  goal_by : (g : ℕ) (i : Option GoalHead) → end_step s at zero (suc g) (term_head_at s at) i ≡ goals_after s (next_by s at i) g
  goal_by g (Some Truth) = rw zero-add
  goal_by g (Some Failure) = rw zero-add
  goal_by g (Some Equal) = after_terms s (at + 1) known 2 g (end_at s (at + 1) 2 0) refl
  goal_by g (Some Conj) = ap (end_at s (at + 1) zero) (omega arith)
  goal_by g (Some Disj) = ap (end_at s (at + 1) zero) (omega arith)
  goal_by g (Some (Atom p k)) = after_terms s (at + 4) known k g (end_at s (at + 4) k 0) refl
  goal_by g None = refl

  -- one goal of g + 1 is its head, the terms of the head, and what is to come
  pub goals_end : (g : ℕ) → end_at s at zero (suc g) ≡ goals_after s (next_goal s at) g
  unfolding next_goal
  goals_end g = end_by_heads s at zero (suc g) ∙ goal_by g (goal_head_at s at)

  next_fits : (i : Option GoalHead) → goal_head_at s at ≡ i → (a : Ahead) → next_by s at i ≡ Some a → (at < a.at) × (a.at ≤ length s) × (a.goals ≤ 2)
  next_fits (Some Truth) f a q = let r = goal_room s at known (sym f) (Some Truth) refl in let x : record { at = at + 1; goals = 0 } ≡ a = cc in rw (← x) (omega arith, omega arith, omega arith)
  next_fits (Some Failure) f a q = let r = goal_room s at known (sym f) (Some Failure) refl in let x : record { at = at + 1; goals = 0 } ≡ a = cc in rw (← x) (omega arith, omega arith, omega arith)
  next_fits (Some Equal) f a q = let r = goal_room s at known (sym f) (Some Equal) refl in let x = terms_fit s (at + 1) known 2 (end_at s (at + 1) 2 0) refl r a q in omega arith
  next_fits (Some Conj) f a q = let r = goal_room s at known (sym f) (Some Conj) refl in let x : record { at = at + 1; goals = 2 } ≡ a = cc in rw (← x) (omega arith, omega arith, omega arith)
  next_fits (Some Disj) f a q = let r = goal_room s at known (sym f) (Some Disj) refl in let x : record { at = at + 1; goals = 2 } ≡ a = cc in rw (← x) (omega arith, omega arith, omega arith)
  next_fits (Some (Atom p k)) f a q = let r = goal_room s at known (sym f) (Some (Atom p k)) refl in let x = terms_fit s (at + 4) known k (end_at s (at + 4) k 0) refl r.0 a q in omega arith
  next_fits None f a q = never cc

  -- for code that has the head h, or what is next, from a call
  pub next_arm : {h : Option GoalHead} → h ≡ goal_head_at s at → (i : Option GoalHead) → h ≡ i → next_by s at i ≡ next_goal s at
  unfolding next_goal
  next_arm is i e = ap (next_by s at) (sym e ∙ is)

  pub next_bound : {r : Option Ahead} {a : Ahead} → r ≡ next_goal s at → r ≡ Some a → (at < a.at) × (a.at ≤ length s) × (a.goals ≤ 2)
  unfolding next_goal
  next_bound {r} {a} is q = next_fits (goal_head_at s at) refl a (sym is ∙ q)

  pub next_on : {r : Option Ahead} {a : Ahead} (g : ℕ) → r ≡ next_goal s at → r ≡ Some a → 0 < g → end_at s at zero g ≡ end_at s a.at zero (a.goals + (g - 1))
  next_on {r} {a} g is q h =
      let w : suc (g - 1) ≡ g = omega arith in
      let x : next_goal s at ≡ Some a = sym is ∙ q in
      rw (x, w) at (goals_end (g - 1))

  pub next_off : {r : Option Ahead} (g : ℕ) → r ≡ next_goal s at → r ≡ None → 0 < g → end_at s at zero g ≡ None
  next_off g is q h =
      let w : suc (g - 1) ≡ g = omega arith in
      let x : next_goal s at ≡ None = sym is ∙ q in
      rw (x, w) at (goals_end (g - 1))

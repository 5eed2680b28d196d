-- Laws of the reader of terms and goals. `complete`: the bytes of what is well formed are read back. `sound`: what is read is well formed, and
-- the bytes read are its bytes.
use Rattle.std.specs.Prelude.{ℕ, zero, suc, ◌+◌, ◌≡◌, refl, List, [], ◌∷◌, ◌++◌, length, drop, Option, Some, None}
use Rattle.std.proofs.Common.{suc-add, zero-add, add-zero, arith, sym, ap, ◌∙◌, append_assoc, append-nil, length-append, drop-drop, le-leb}
use Rattle.records.specs.Format.Never.{never}
use Rattle.records.specs.Format.Syntax.{Term, Terms, Goal, arity}
use Rattle.records.specs.Format.Syntax.Term.{var, app}
use Rattle.records.specs.Format.Syntax.Terms.{nil, cons}
use Rattle.records.specs.Format.Syntax.Goal.{truth, failure, equal, conj, disj, atom}
use Rattle.records.specs.Format.Encode.{word, each, term_bytes, terms_bytes, goal_bytes}
use Rattle.records.specs.Format.Formed.{TermFormed, TermsFormed, GoalFormed, All}
use Rattle.records.specs.Format.Heads.{term_head, goal_head}
use Rattle.records.specs.Format.HeadLaws.{Bytes, bytes_drop, TermLead, GoalLead, term_lead, goal_lead, joined_word}
use Rattle.records.specs.Format.Reader.{Read, Parts, also, terms_of, goals_of, leading, back, over_variable, over_symbol, over_goal, over_atom, over_equal, over_pair, ReadOn, node, read}
use Rattle.records.specs.Format.Reader.Read.{unread, found}
use Rattle.records.specs.Format.Reader.Parts.{parts}
use Rattle.records.specs.declared.heads.TermHead.{TermHead}
use Rattle.records.specs.declared.heads.TermHead.TheVariants.{Variable, Symbol}
use Rattle.records.specs.declared.heads.GoalHead.{GoalHead}
use Rattle.records.specs.declared.heads.GoalHead.TheVariants.{Truth, Failure, Equal, Conj, Disj, Atom}

-- every reader does one node
pub read_node : (l : List ℕ) (t g : ℕ) → read l t g ≡ node t g (term_head l) (goal_head l) (read (drop 1 l)) (read (drop 3 l)) (read (drop 4 l))
unfolding read
read_node [] zero zero = refl
read_node [] (suc t) g = refl
read_node [] zero (suc g) = refl
read_node (b ∷ []) t g = refl
read_node (b ∷ x ∷ []) t g = refl
read_node (b ∷ x ∷ y ∷ []) t g = refl
read_node (b ∷ x ∷ y ∷ k ∷ l) t g = refl

-- nothing is left to read
pub read_done : (l : List ℕ) → read l zero zero ≡ found (parts nil []) 0
read_done l = read_node l zero zero

-- induction as the reader goes: after 1, 3 or 4 bytes
pub down : (P : List ℕ → Type 0) → P [] → ((b : ℕ) (l : List ℕ) → P l → P (drop 2 l) → P (drop 3 l) → P (b ∷ l)) → (l : List ℕ) → P l
down P z f [] = z
down P z f (b ∷ []) = f b [] z z z
down P z f (b ∷ x ∷ []) = f b (x ∷ []) (down P z f (x ∷ [])) z z
down P z f (b ∷ x ∷ y ∷ []) = f b (x ∷ y ∷ []) (down P z f (x ∷ y ∷ [])) z z
down P z f (b ∷ x ∷ y ∷ k ∷ l) = f b (x ∷ y ∷ k ∷ l) (down P z f (x ∷ y ∷ k ∷ l)) (down P z f (k ∷ l)) (down P z f l)

-- Completeness.
abbrev pub join : Terms → Terms → Terms
join nil us = us
join (cons t ts) us = cons t (join ts us)

abbrev pub over_terms : Terms → Parts → Parts
over_terms ts p = parts (join ts (terms_of p)) (goals_of p)

front_join : (ts us : Terms) → leading (arity ts) (join ts us) ≡ ts
front_join nil us = refl
front_join (cons t ts) us = ap (cons t) (front_join ts us)

back_join : (ts us : Terms) → back (arity ts) (join ts us) ≡ us
back_join nil us = refl
back_join (cons t ts) us = back_join ts us

-- two steps over what was read are one
also_twice : {A B C : Type 0} (f : B → C) (g : A → B) (h : A → C) (j k n : ℕ) → j + k ≡ n → ((a : A) → f (g a) ≡ h a) → (r : Read A) → also f j (also g k r) ≡ also h n r
also_twice f g h j k n e q unread = refl
also_twice f g h j k n e q (found a m) =
    let x : j + (k + m) ≡ n + m = omega arith in
    ap (λ (b : _). found b (j + (k + m))) (q a) ∙ ap (found (h a)) x

symbol_over : (f : ℕ) (ts : Terms) (p : Parts) → over_symbol f (arity ts) (over_terms ts p) ≡ over_terms (cons (app f ts) nil) p
symbol_over f ts (parts us gs) = rw (front_join, back_join)

atom_over : (f : ℕ) (ts : Terms) (p : Parts) → over_atom f (arity ts) (over_terms ts p) ≡ over_goal (atom f ts) p
atom_over f ts (parts us gs) = rw (front_join, back_join)

equal_over : (t u : Term) (p : Parts) → over_equal (over_terms (cons t (cons u nil)) p) ≡ over_goal (equal t u) p
equal_over t u (parts us gs) = refl

pair_read : (op : Goal → Goal → Goal) (a b : Goal) (k : ℕ) (r : Read Parts)
    → also (over_pair op) 1 (also (over_goal a) (length (goal_bytes a)) (also (over_goal b) (length (goal_bytes b)) r)) ≡ also (over_goal (op a b)) (length (k ∷ (goal_bytes a ++ goal_bytes b))) r
pair_read op a b k unread = refl
pair_read op a b k (found (parts ts gs) n) = ap (found (parts ts (op a b ∷ gs))) (simp length-append (omega arith))

nothing_over : (r : Read Parts) → r ≡ also (over_terms nil) 0 r
nothing_over unread = refl
nothing_over (found (parts ts gs) n) = ap (found (parts ts gs)) (omega arith)

mutual
  pub complete_term : (t : Term) → TermFormed t → (n g : ℕ) (s : List ℕ) → read (term_bytes t ++ s) (suc n) g ≡ also (over_terms (cons t nil)) (length (term_bytes t)) (read s n g)
  complete_term (var v) h n g s = rw (read_node, joined_word v h) refl
  complete_term (app f ts) h n g s =
      rw (read_node, joined_word f h.0, le-leb (arity ts) 16 h.1, complete_terms ts h.2 n g s)
      (also_twice _ _ _ 4 (length (terms_bytes ts)) _ (omega arith) (symbol_over f ts) (read s n g))

  pub complete_terms : (ts : Terms) → TermsFormed ts → (n g : ℕ) (s : List ℕ) → read (terms_bytes ts ++ s) (arity ts + n) g ≡ also (over_terms ts) (length (terms_bytes ts)) (read s n g)
  complete_terms nil h n g s = rw zero-add (nothing_over (read s n g))
  complete_terms (cons t ts) h n g s =
      rw (append_assoc, suc-add, complete_term t h.0 (arity ts + n) g (terms_bytes ts ++ s), complete_terms ts h.1 n g s)
      (also_twice _ _ _ (length (term_bytes t)) (length (terms_bytes ts)) _ (simp length-append) (λ p. refl) (read s n g))

pub complete_goal : (a : Goal) → GoalFormed a → (n : ℕ) (s : List ℕ) → read (goal_bytes a ++ s) zero (suc n) ≡ also (over_goal a) (length (goal_bytes a)) (read s zero n)
complete_goal truth h n s = read_node (0x10 ∷ s) zero (suc n)
complete_goal failure h n s = read_node (0x11 ∷ s) zero (suc n)
complete_goal (equal t u) h n s =
    let e : read ((term_bytes t ++ term_bytes u) ++ s) 2 n ≡ also (over_terms (cons t (cons u nil))) (length (term_bytes t) + length (term_bytes u)) (read s zero n) =
    rw (append_assoc, complete_term t h.0 1 n (term_bytes u ++ s), complete_term u h.1 0 n s) (also_twice _ _ _ _ _ _ refl (λ p. refl) (read s zero n)) in
    rw (read_node, e) (also_twice _ _ _ 1 _ _ (simp length-append (omega arith)) (equal_over t u) (read s zero n))
complete_goal (conj a b) h n s =
    rw (read_node, append_assoc, complete_goal a h.0 (suc n) (goal_bytes b ++ s), complete_goal b h.1 n s) (pair_read conj a b 0x13 (read s zero n))
complete_goal (disj a b) h n s =
    rw (read_node, append_assoc, complete_goal a h.0 (suc n) (goal_bytes b ++ s), complete_goal b h.1 n s) (pair_read disj a b 0x14 (read s zero n))
complete_goal (atom f ts) h n s =
    let e : read (terms_bytes ts ++ s) (arity ts) n ≡ also (over_terms ts) (length (terms_bytes ts)) (read s zero n) = rw add-zero at (complete_terms ts h.2 zero n s) in
    rw (read_node, joined_word f h.0, le-leb (arity ts) 16 h.1, e) (also_twice _ _ _ 4 (length (terms_bytes ts)) _ (omega arith) (atom_over f ts) (read s zero n))

-- Soundness: what was read of l, with t terms and g goals to come, in n bytes.
abbrev pub parts_bytes : Parts → List ℕ
parts_bytes p = terms_bytes (terms_of p) ++ each goal_bytes (goals_of p)

pub record ReadSound (l : List ℕ) (t g : ℕ) (p : Parts) (n : ℕ) : Type 0 where
  pub terms : arity (terms_of p) ≡ t
  pub goals : length (goals_of p) ≡ g
  pub size : n ≡ length (parts_bytes p)
  pub bytes : Bytes l → l ≡ parts_bytes p ++ drop n l
  pub formed : Bytes l → TermsFormed (terms_of p) × All GoalFormed (goals_of p)

abbrev Sounds : List ℕ → ReadOn → Type 0
Sounds l r = (t g : ℕ) (p : Parts) (n : ℕ) → r t g ≡ found p n → ReadSound l t g p n

abbrev Step : Type 0
Step = Parts → Parts

-- nothing read is no tree
not_found : {P : Type 0} {p : Parts} {n : ℕ} → unread ≡ found p n → P
not_found e = never cc

-- what a node makes of what was read after it
carried : (f : Step) (k : ℕ) (r : Read Parts) (l : List ℕ) (t g : ℕ) (p : Parts) (n : ℕ) → ((q : Parts) (m : ℕ) → r ≡ found q m → ReadSound l t g (f q) (k + m))
    → also f k r ≡ found p n → ReadSound l t g p n
carried f k unread l t g p n s e = not_found e
carried f k (found q m) l t g p n s e =
    let a : f q ≡ p = cc in
    let b : k + m ≡ n = cc in
    rw (← a, ← b) (s q m refl)

-- a node that stands before what was read: its own bytes x in front, if what it makes of the parts has these bytes
over : (x : List ℕ) (l : List ℕ) (t g t' g' : ℕ) (f : Step) (q : Parts) (m : ℕ) → ReadSound (drop (length x) l) t g q m → arity (terms_of (f q)) ≡ t' → length (goals_of (f q)) ≡ g'
    → parts_bytes (f q) ≡ x ++ parts_bytes q → (Bytes l → l ≡ x ++ drop (length x) l)
    → (Bytes l → TermsFormed (terms_of q) × All GoalFormed (goals_of q) → TermsFormed (terms_of (f q)) × All GoalFormed (goals_of (f q))) → ReadSound l t' g' (f q) (length x + m)
over x l t g t' g' f q m s et eg eb ex ef = record {
  terms = et;
  goals = eg;
  size = ap (λ (k : ℕ). length x + k) s.size ∙ sym (length-append x (parts_bytes q)) ∙ ap length (sym eb);
  bytes = λ h. ex h ∙ ap (λ (r : List ℕ). x ++ r) (s.bytes (bytes_drop (length x) l h))
      ∙ ap (λ (r : List ℕ). x ++ (parts_bytes q ++ r)) (drop-drop m (length x) l)
      ∙ sym (append_assoc x (parts_bytes q) (drop (length x + m) l)) ∙ ap (λ (b : List ℕ). b ++ drop (length x + m) l) (sym eb);
  formed = λ h. ef h (s.formed (bytes_drop (length x) l h));
}

pub front_arity : (k n : ℕ) (ts : Terms) → arity ts ≡ k + n → arity (leading k ts) ≡ k
front_arity zero n ts e = refl
front_arity (suc k) n nil e = omega arith
front_arity (suc k) n (cons t ts) e = ap suc (front_arity k n ts (omega arith))

back_arity : (k n : ℕ) (ts : Terms) → arity ts ≡ k + n → arity (back k ts) ≡ n
back_arity zero n ts e = omega arith
back_arity (suc k) n nil e = omega arith
back_arity (suc k) n (cons t ts) e = back_arity k n ts (omega arith)

pub bytes_split : (k : ℕ) (ts : Terms) → terms_bytes ts ≡ terms_bytes (leading k ts) ++ terms_bytes (back k ts)
bytes_split zero ts = refl
bytes_split (suc k) nil = refl
bytes_split (suc k) (cons t ts) = rw (append_assoc, ← bytes_split k ts)

pub formed_split : (k : ℕ) (ts : Terms) → TermsFormed ts → TermsFormed (leading k ts) × TermsFormed (back k ts)
formed_split zero ts h = (tt, h)
formed_split (suc k) nil h = (tt, tt)
formed_split (suc k) (cons t ts) h = let w = formed_split k ts h.1 in ((h.0, w.0), w.1)

-- with no more than k terms, the first k are all
pub none_back : (k : ℕ) (ts : Terms) → arity ts ≡ k → (leading k ts ≡ ts) × (back k ts ≡ nil)
none_back zero nil e = (refl, refl)
none_back zero (cons t ts) e = absurd (omega arith)
none_back (suc k) nil e = absurd (omega arith)
none_back (suc k) (cons t ts) e = let w = none_back k ts (omega arith) in (ap (cons t) w.0, w.1)

pub none_left : (ts : Terms) → arity ts ≡ 0 → ts ≡ nil
none_left nil e = refl
none_left (cons t ts) e = absurd (omega arith)

-- one goal with no parts, before what was read
goal_sound : (a : Goal) (c : ℕ) → goal_bytes a ≡ c ∷ [] → GoalFormed a → (l : List ℕ) (g : ℕ) (q : Parts) (m : ℕ) → (Bytes l → l ≡ c ∷ drop 1 l) → ReadSound (drop 1 l) zero g q m
    → ReadSound l zero (suc g) (over_goal a q) (1 + m)
goal_sound a c e w l g (parts ts gs) m h s =
    let z : ts ≡ nil = none_left ts s.terms in
    over (c ∷ []) l zero g zero (suc g) (over_goal a) (parts ts gs) m s s.terms (ap suc s.goals) (rw (z, e)) h (λ b f. (f.0, (w, f.1)))

equal_sound : (l : List ℕ) (g : ℕ) (q : Parts) (m : ℕ) → (Bytes l → l ≡ 0x12 ∷ drop 1 l) → ReadSound (drop 1 l) 2 g q m → ReadSound l zero (suc g) (over_equal q) (1 + m)
equal_sound l g (parts nil gs) m h s = absurd (omega (arith, s.terms))
equal_sound l g (parts (cons t nil) gs) m h s = absurd (omega (arith, s.terms))
equal_sound l g (parts (cons t (cons u nil)) gs) m h s =
    over (0x12 ∷ []) l 2 g zero (suc g) over_equal (parts (cons t (cons u nil)) gs) m s refl (ap suc s.goals) (simp (append_assoc, append-nil)) h (λ b f. (tt, ((f.0.0, f.0.1.0), f.1)))
equal_sound l g (parts (cons t (cons u (cons v ts))) gs) m h s = absurd (omega (arith, s.terms))

pair_sound : (op : Goal → Goal → Goal) (c : ℕ) → ((x y : Goal) → goal_bytes (op x y) ≡ c ∷ (goal_bytes x ++ goal_bytes y)) → ((x y : Goal) → GoalFormed x → GoalFormed y → GoalFormed (op x y))
    → (l : List ℕ) (g : ℕ) (q : Parts) (m : ℕ) → (Bytes l → l ≡ c ∷ drop 1 l) → ReadSound (drop 1 l) zero (suc (suc g)) q m → ReadSound l zero (suc g) (over_pair op q) (1 + m)
pair_sound op c lay form l g (parts ts []) m h s = absurd (omega (arith, s.goals))
pair_sound op c lay form l g (parts ts (x ∷ [])) m h s = absurd (omega (arith, s.goals))
pair_sound op c lay form l g (parts ts (x ∷ y ∷ gs)) m h s =
    let z : ts ≡ nil = none_left ts s.terms in
    let e : length gs ≡ g = omega (arith, s.goals) in
    over (c ∷ []) l zero (suc (suc g)) zero (suc g) (over_pair op) (parts ts (x ∷ y ∷ gs)) m s s.terms (ap suc e) (rw (z, lay x y) (simp append_assoc)) h
    (λ b f. (f.0, (form x y f.1.0 f.1.1.0, f.1.1.1)))

atom_sound : (p k : ℕ) (l : List ℕ) (g : ℕ) (q : Parts) (m : ℕ) → (Bytes l → GoalLead l (Some (Atom p k))) → ReadSound (drop 4 l) k g q m → ReadSound l zero (suc g) (over_atom p k q) (4 + m)
atom_sound p k l g (parts ts gs) m h s =
    let w = none_back k ts s.terms in
    over (0x15 ∷ (word p ++ (k ∷ []))) l k g zero (suc g) (over_atom p k) (parts ts gs) m s (ap arity w.1) (ap suc s.goals)
    (rw (w.0, w.1, s.terms) (simp append_assoc)) (λ b. (h b).0) (λ b f. rw (w.0, w.1) (tt, (((h b).1, rw s.terms (h b).2, f.0), f.1)))

symbol_sound : (f k : ℕ) (l : List ℕ) (t g : ℕ) (q : Parts) (m : ℕ) → (Bytes l → TermLead l (Some (Symbol f k))) → ReadSound (drop 4 l) (k + t) g q m → ReadSound l (suc t) g (over_symbol f k q) (4 + m)
symbol_sound f k l t g (parts ts gs) m h s =
    let a = front_arity k t ts s.terms in
    over (0x02 ∷ (word f ++ (k ∷ []))) l (k + t) g (suc t) g (over_symbol f k) (parts ts gs) m s (ap suc (back_arity k t ts s.terms)) s.goals
    (ap (λ (n : ℕ). 0x02 ∷ (word f ++ (n ∷ ((terms_bytes (leading k ts) ++ terms_bytes (back k ts)) ++ each goal_bytes gs)))) a
    ∙ ap (λ (r : List ℕ). 0x02 ∷ (word f ++ (k ∷ (r ++ each goal_bytes gs)))) (sym (bytes_split k ts))) (λ b. (h b).0)
    (λ b w. let v = formed_split k ts w.0 in ((((h b).1, rw a (h b).2, v.0), v.1), w.1))

variable_sound : (v : ℕ) (l : List ℕ) (t g : ℕ) (q : Parts) (m : ℕ) → (Bytes l → TermLead l (Some (Variable v))) → ReadSound (drop 3 l) t g q m → ReadSound l (suc t) g (over_variable v q) (3 + m)
variable_sound v l t g (parts ts gs) m h s =
    over (0x01 ∷ word v) l t g (suc t) g (over_variable v) (parts ts gs) m s (ap suc s.terms) s.goals refl (λ b. (h b).0) (λ b w. (((h b).1, w.0), w.1))

node_sound : (l : List ℕ) (t g : ℕ) (h : Option TermHead) (i : Option GoalHead) (r1 r3 r4 : ReadOn) → (Bytes l → TermLead l h) → (Bytes l → GoalLead l i)
    → Sounds (drop 1 l) r1 → Sounds (drop 3 l) r3 → Sounds (drop 4 l) r4 → (p : Parts) (n : ℕ) → node t g h i r1 r3 r4 ≡ found p n → ReadSound l t g p n
node_sound l zero zero h i r1 r3 r4 x y s1 s3 s4 p n = λ e.
    let q : parts nil [] ≡ p = cc in
    let z : 0 ≡ n = cc in
    rw (← q, ← z) (record { terms = refl; goals = refl; size = refl; bytes = λ _. refl; formed = λ _. (tt, tt) })
node_sound l (suc t) g (Some (Variable v)) i r1 r3 r4 x y s1 s3 s4 p n = carried (over_variable v) 3 (r3 t g) l (suc t) g p n (λ q m e. variable_sound v l t g q m x (s3 t g q m e))
node_sound l (suc t) g (Some (Symbol f k)) i r1 r3 r4 x y s1 s3 s4 p n = carried (over_symbol f k) 4 (r4 (k + t) g) l (suc t) g p n (λ q m e. symbol_sound f k l t g q m x (s4 (k + t) g q m e))
node_sound l (suc t) g None i r1 r3 r4 x y s1 s3 s4 p n = not_found
node_sound l zero (suc g) h (Some Truth) r1 r3 r4 x y s1 s3 s4 p n = carried (over_goal truth) 1 (r1 zero g) l zero (suc g) p n (λ q m e. goal_sound truth 0x10 refl tt l g q m y (s1 zero g q m e))
node_sound l zero (suc g) h (Some Failure) r1 r3 r4 x y s1 s3 s4 p n = carried (over_goal failure) 1 (r1 zero g) l zero (suc g) p n (λ q m e. goal_sound failure 0x11 refl tt l g q m y (s1 zero g q m e))
node_sound l zero (suc g) h (Some Equal) r1 r3 r4 x y s1 s3 s4 p n = carried over_equal 1 (r1 2 g) l zero (suc g) p n (λ q m e. equal_sound l g q m y (s1 2 g q m e))
node_sound l zero (suc g) h (Some Conj) r1 r3 r4 x y s1 s3 s4 p n =
    carried (over_pair conj) 1 (r1 zero (suc (suc g))) l zero (suc g) p n (λ q m e. pair_sound conj 0x13 (λ _ _. refl) (λ _ _ a b. (a, b)) l g q m y (s1 zero (suc (suc g)) q m e))
node_sound l zero (suc g) h (Some Disj) r1 r3 r4 x y s1 s3 s4 p n =
    carried (over_pair disj) 1 (r1 zero (suc (suc g))) l zero (suc g) p n (λ q m e. pair_sound disj 0x14 (λ _ _. refl) (λ _ _ a b. (a, b)) l g q m y (s1 zero (suc (suc g)) q m e))
node_sound l zero (suc g) h (Some (Atom f k)) r1 r3 r4 x y s1 s3 s4 p n = carried (over_atom f k) 4 (r4 k g) l zero (suc g) p n (λ q m e. atom_sound f k l g q m y (s4 k g q m e))
node_sound l zero (suc g) h None r1 r3 r4 x y s1 s3 s4 p n = not_found

nothing_sound : (t g : ℕ) (p : Parts) (n : ℕ) → node t g None None (λ _ _. unread) (λ _ _. unread) (λ _ _. unread) ≡ found p n → ReadSound [] t g p n
nothing_sound t g = node_sound [] t g None None _ _ _ (λ _. tt) (λ _. tt) (λ _ _ _ _. not_found) (λ _ _ _ _. not_found) (λ _ _ _ _. not_found)

pub sound : (l : List ℕ) (t g : ℕ) (p : Parts) (n : ℕ) → read l t g ≡ found p n → ReadSound l t g p n
unfolding read
sound =
    down (λ l. Sounds l (read l)) (λ t g. nothing_sound t g)
    (λ b l s1 s3 s4 t g p n e. node_sound (b ∷ l) t g (term_head (b ∷ l)) (goal_head (b ∷ l)) (read l) (read (drop 2 l)) (read (drop 3 l))
    (term_lead (b ∷ l)) (goal_lead (b ∷ l)) s1 s3 s4 p n (sym (read_node (b ∷ l) t g) ∙ e))

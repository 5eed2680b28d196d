-- Each reader is exact for its layout: the bytes of what is well formed are read back, and what is read is well formed and has the bytes read.
use Prim.Native.Nat.{ℕ, zero, suc, ◌+◌}
use Rattle.std.proofs.Common.{add-zero, arith, sym, ap, ◌∙◌, length-append, drop-drop, drop_at}
use Rattle.std.specs.Prelude.{◌≡◌, length, drop, Option, Some, None}
use Rattle.std.proofs.Math.Path.{refl}
use mathlib.Core.List.{List, [], ◌∷◌, ◌++◌, append_assoc, append-nil}
use Rattle.records.specs.Format.Never.{never}
use Rattle.records.specs.Format.Syntax.{Terms, Goal, arity}
use Rattle.records.specs.Format.Syntax.Terms.{nil, cons}
use Rattle.records.specs.Format.Encode.{word, each, counted, terms_bytes, goal_bytes}
use Rattle.records.specs.Format.Formed.{TermsFormed, GoalFormed, All, Counted}
use Rattle.records.specs.Format.Heads.{word_head}
use Rattle.records.specs.Format.HeadLaws.{Bytes, bytes_drop, WordLead, word_lead, joined_word}
use Rattle.records.specs.Format.Reader.{Read, Parts, also, terms_of, goals_of, read}
use Rattle.records.specs.Format.Reader.Read.{unread, found}
use Rattle.records.specs.Format.Reader.Parts.{parts}
use Rattle.records.specs.Format.ReaderLaws.{complete_terms, complete_goal, parts_bytes, over_terms, read_done, sound, ReadSound}
use Rattle.records.specs.Format.Items.{Reader, then_read, made, many, counted_by, read_counted, first_goal, read_goal}

-- the bytes of a, which is well formed, are the first n of l
pub record Laid {A : Type 0} (bytes : A → List ℕ) (Formed : A → Type 0) (l : List ℕ) (a : A) (n : ℕ) : Type 0 where
  pub formed : Formed a
  pub size : n ≡ length (bytes a)
  pub front : l ≡ bytes a ++ drop n l

pub record Exact {A : Type 0} (bytes : A → List ℕ) (Formed : A → Type 0) (r : Reader A) : Type 0 where
  pub complete : (a : A) → Formed a → (s : List ℕ) → r (bytes a ++ s) ≡ found a (length (bytes a))
  pub sound : (l : List ℕ) → Bytes l → (a : A) (n : ℕ) → r l ≡ found a n → Laid bytes Formed l a n

-- terms and goals, xs many xs were asked for
abbrev pub PartsFormed : ℕ → ℕ → Parts → Type 0
PartsFormed t g p = (arity (terms_of p) ≡ t) × (length (goals_of p) ≡ g) × TermsFormed (terms_of p) × All GoalFormed (goals_of p)

goals_complete : (gs : List Goal) → All GoalFormed gs → (s : List ℕ) → read (each goal_bytes gs ++ s) 0 (length gs) ≡ found (parts nil gs) (length (each goal_bytes gs))
goals_complete [] h s = read_done s
goals_complete (a ∷ gs) h s =
    rw (append_assoc, complete_goal a h.0 (length gs) (each goal_bytes gs ++ s), goals_complete gs h.1 s) (ap (found (parts nil (a ∷ gs))) (simp length-append))

join_nil : (ts : Terms) (gs : List Goal) → over_terms ts (parts nil gs) ≡ parts ts gs
join_nil nil gs = refl
join_nil (cons t ts) gs = ap (λ (q : Parts). parts (cons t (terms_of q)) gs) (join_nil ts gs)

pub parts_exact : (t g : ℕ) → Exact parts_bytes (PartsFormed t g) (λ l. read l t g)
parts_exact t g = record { complete = whole; sound = λ l b p n e. back l b p n (sound l t g p n e) }
  where
    whole : (p : Parts) → PartsFormed t g p → (s : List ℕ) → read (parts_bytes p ++ s) t g ≡ found p (length (parts_bytes p))
    whole (parts ts gs) h s =
        rw (append_assoc, ← h.0, ← h.1, ← add-zero (arity ts), complete_terms ts h.2 zero (length gs) (each goal_bytes gs ++ s), goals_complete gs h.3 s, join_nil ts gs)
        (ap (found (parts ts gs)) (sym (length-append (terms_bytes ts) (each goal_bytes gs))))

    back : (l : List ℕ) → Bytes l → (p : Parts) (n : ℕ) → ReadSound l t g p n → Laid parts_bytes (PartsFormed t g) l p n
    back l b p n s = record { formed = (s.terms, s.goals, (s.formed b).0, (s.formed b).1); size = s.size; front = s.bytes b }

module _ {B C : Type 0} {b_bytes : B → List ℕ} {c_bytes : C → List ℕ} {FB : B → Type 0} {FC : C → Type 0} where
  -- a head's bytes x, and then what the head announces
  pub lead_laid : (x : List ℕ) (f : B → C) (l : List ℕ) (b : B) (n : ℕ) → l ≡ x ++ drop (length x) l → Laid b_bytes FB (drop (length x) l) b n → c_bytes (f b) ≡ x ++ b_bytes b → FC (f b)
      → Laid c_bytes FC l (f b) (length x + n)
  lead_laid x f l b n e w q h = record {
    formed = h;
    size = ap (λ (k : ℕ). length x + k) w.size ∙ sym (length-append x (b_bytes b)) ∙ ap length (sym q);
    front = e ∙ ap (λ (r : List ℕ). x ++ r) (w.front ∙ ap (λ (r : List ℕ). b_bytes b ++ r) (drop-drop n (length x) l))
        ∙ sym (append_assoc x (b_bytes b) (drop (length x + n) l)) ∙ ap (λ (r : List ℕ). r ++ drop (length x + n) l) (sym q);
  }

  -- the same for what a reader made of it
  pub also_laid : (x : List ℕ) (f : B → C) (r : Reader B) (l : List ℕ) → l ≡ x ++ drop (length x) l → Exact b_bytes FB r → Bytes l → ((b : B) → FB b → (c_bytes (f b) ≡ x ++ b_bytes b) × FC (f b))
      → (c : C) (n : ℕ) → also f (length x) (r (drop (length x) l)) ≡ found c n → Laid c_bytes FC l c n
  also_laid x f r l e w h q c n = go (r (drop (length x) l)) refl
    where
      go : (o : Read B) → r (drop (length x) l) ≡ o → also f (length x) o ≡ found c n → Laid c_bytes FC l c n
      go unread p z = never cc
      go (found b m) p z =
          let v = w.sound (drop (length x) l) (bytes_drop (length x) l h) b m p in
          let y = q b v.formed in
          let a1 : f b ≡ c = cc in
          let a2 : length x + m ≡ n = cc in
          rw (← a1, ← a2) (lead_laid x f l b m e v y.0 y.1)

module _ {A B C : Type 0} {a_bytes : A → List ℕ} {b_bytes : B → List ℕ} {FA : A → Type 0} {FB : B → Type 0} where
  -- one thing after the other
  pub after_laid : {c_bytes : C → List ℕ} {FC : C → Type 0} (f : A → B → C) (ra : Reader A) (rb : Reader B) → Exact a_bytes FA ra → Exact b_bytes FB rb
      → ((a : A) (b : B) → FA a → FB b → (c_bytes (f a b) ≡ a_bytes a ++ b_bytes b) × FC (f a b)) → (l : List ℕ) → Bytes l → (c : C) (n : ℕ) → then_read f (ra l) rb l ≡ found c n → Laid c_bytes FC l c n
  after_laid {c_bytes} {FC} f ra rb wa wb q l h c n = go (ra l) refl
    where
      go : (o : Read A) → ra l ≡ o → then_read f o rb l ≡ found c n → Laid c_bytes FC l c n
      go unread p z = never cc
      go (found a m) p z =
          let v = wa.sound l h a m p in
          let e : length (a_bytes a) ≡ m = sym v.size in
          also_laid (a_bytes a) (f a) rb l (rw e v.front) wb h (λ b w. q a b v.formed w) c n (rw e z)

  pub after_complete : (f : A → B → C) (ra : Reader A) (rb : Reader B) → Exact a_bytes FA ra → Exact b_bytes FB rb
      → (a : A) (b : B) → FA a → FB b → (x : List ℕ) → x ≡ a_bytes a ++ b_bytes b → (s : List ℕ) → then_read f (ra (x ++ s)) rb (x ++ s) ≡ found (f a b) (length x)
  after_complete f ra rb wa wb a b ha hb x q s =
      rw (q, append_assoc, wa.complete a ha (b_bytes b ++ s), drop_at (a_bytes a) (b_bytes b ++ s) (length (a_bytes a)) refl, wb.complete b hb s)
      (ap (found (f a b)) (sym (length-append (a_bytes a) (b_bytes b))))

-- a row of n
abbrev pub RowFormed : {A : Type 0} → (A → Type 0) → ℕ → List A → Type 0
RowFormed Φ n l = (length l ≡ n) × All Φ l

module _ {A : Type 0} {bytes : A → List ℕ} {Formed : A → Type 0} {r : Reader A} (w : Exact bytes Formed r) where
  pub many_exact : (n : ℕ) → Exact (each bytes) (RowFormed Formed n) (many r n)
  unfolding many
  many_exact zero = record { complete = none_complete; sound = λ l h xs n e. none_sound l xs n e }
    where
      none_complete : (xs : List A) → RowFormed Formed 0 xs → (s : List ℕ) → many r 0 (each bytes xs ++ s) ≡ found xs (length (each bytes xs))
      none_complete [] h s = refl
      none_complete (a ∷ xs) h s = absurd (omega (arith, h.0))

      none_sound : (l : List ℕ) (xs : List A) (n : ℕ) → found [] 0 ≡ found xs n → Laid (each bytes) (RowFormed Formed 0) l xs n
      none_sound l xs n e =
          let p : ◌≡◌ {A = List A} [] xs = cc in
          let q : 0 ≡ n = cc in
          rw (← p, ← q) (record { formed = (refl, tt); size = refl; front = refl })
  many_exact (suc n) = record { complete = more_complete (many_exact n); sound = λ l h xs m e. after_laid ◌∷◌ r (many r n) w (many_exact n) (λ a xs x y. (refl, (ap suc y.0, (x, y.1)))) l h xs m e }
    where
      more_complete : Exact (each bytes) (RowFormed Formed n) (many r n) → (xs : List A) → RowFormed Formed (suc n) xs → (s : List ℕ) → many r (suc n) (each bytes xs ++ s) ≡ found xs (length (each bytes xs))
      more_complete v [] h s = absurd (omega (arith, h.0))
      more_complete v (a ∷ xs) h s = after_complete ◌∷◌ r (many r n) w v a xs h.1.0 (omega (arith, h.0), h.1.1) (bytes a ++ each bytes xs) refl s

  pub counted_exact : Exact (counted bytes) (Counted Formed) (read_counted r)
  unfolding read_counted
  counted_exact = record { complete = whole; sound = λ l h xs m e. back l h (word_head l) (word_lead l h) xs m e }
    where
      whole : (xs : List A) → Counted Formed xs → (s : List ℕ) → read_counted r (counted bytes xs ++ s) ≡ found xs (length (counted bytes xs))
      whole xs h s = rw (joined_word (length xs) h.0, (many_exact (length xs)).complete xs (refl, h.1) s) (ap (found xs) (omega arith))

      back : (l : List ℕ) → Bytes l → (k : Option ℕ) → WordLead l k → (xs : List A) (m : ℕ) → counted_by r k l ≡ found xs m → Laid (counted bytes) (Counted Formed) l xs m
      back l h (Some n) q xs m e =
          also_laid (word n) (λ x. x) (many r n) l q.0 (many_exact n) h (λ b v. (ap (λ (k : ℕ). word k ++ each bytes b) v.0, (rw v.0 q.1, v.1))) xs m e
      back l h None q xs m e = never cc

-- one goal
pub goal_exact : Exact goal_bytes GoalFormed read_goal
unfolding read_goal
goal_exact = record { complete = λ a h s. whole a h s; sound = λ l b a n e. back l b (read l 0 1) refl a n e }
  where
    whole : (a : Goal) → GoalFormed a → (s : List ℕ) → read_goal (goal_bytes a ++ s) ≡ found a (length (goal_bytes a))
    whole a h s = rw (complete_goal a h 0 s, read_done) (ap (found a) (omega arith))

    back : (l : List ℕ) → Bytes l → (o : Read Parts) → read l 0 1 ≡ o → (a : Goal) (n : ℕ) → made first_goal o ≡ found a n → Laid goal_bytes GoalFormed l a n
    back l b unread p a n e = never cc
    back l b (found (parts (cons t ts) gs) m) p a n e = absurd (omega (arith, (sound l 0 1 (parts (cons t ts) gs) m p).terms))
    back l b (found (parts nil []) m) p a n e = absurd (omega (arith, (sound l 0 1 (parts nil []) m p).goals))
    back l b (found (parts nil (x ∷ y ∷ gs)) m) p a n e = absurd (omega (arith, (sound l 0 1 (parts nil (x ∷ y ∷ gs)) m p).goals))
    back l b (found (parts nil (x ∷ [])) m) p a n e =
        let w = sound l 0 1 (parts nil (x ∷ [])) m p in
        let a1 : x ≡ a = cc in
        let a2 : m ≡ n = cc in
        rw (← a1, ← a2) (record { formed = (w.formed b).1.0; size = w.size ∙ simp append-nil; front = w.bytes b ∙ simp append-nil })

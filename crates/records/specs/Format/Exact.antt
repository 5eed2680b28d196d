-- The readers of ancestors, pairs, bets, stacks, events, definitions and clauses are exact, each for its layout.
use Rattle.std.specs.Prelude.{ℕ, ◌≡◌, refl, Bool, true, false, ◌||◌, List, [], ◌∷◌, ◌++◌, eqb, length, Option, Some, None}
use Rattle.std.proofs.Common.{arith, sym, ap, ◌∙◌, append-nil, le-leb, eqb-true}
use Rattle.records.specs.Format.Never.{never}
use Rattle.records.specs.Format.Syntax.{Terms, Half, Ancestor, Binding, Bet, Definition, Clause, arity, Port, Event}
use Rattle.records.specs.Format.Syntax.Terms.{nil, cons}
use Rattle.records.specs.Format.Syntax.Half.{first, second}
use Rattle.records.specs.Format.Syntax.Ancestor.{called, in_conj, in_disj}
use Rattle.records.specs.Format.Syntax.Binding.{bind}
use Rattle.records.specs.Format.Syntax.Bet.{unifier, or, by}
use Rattle.records.specs.Format.Syntax.Definition.{definition}
use Rattle.records.specs.Format.Syntax.Clause.{clause}
use Rattle.records.specs.Format.Encode.{word, each, tag, term_bytes, terms_bytes, goal_bytes, ancestor_bytes, binding_bytes, bet_bytes, definition_bytes, clause_bytes, counted, port_byte, event_bytes}
use Rattle.records.specs.Format.Formed.{TermFormed, GoalFormed, AncestorFormed, BindingFormed, BetFormed, DefinitionFormed, ClauseFormed, Counted, EventFormed}
use Rattle.records.specs.Format.Heads.{pick, is_tag, word_head, ancestor_head, bet_head, definition_head, clause_head}
use Rattle.records.specs.Format.HeadLaws.{Bytes, IsTag, AncestorLead, ancestor_lead, WordLead, word_lead, BetLead, bet_lead, DefinitionLead, definition_lead, ClauseLead, clause_lead, joined_word, by_test}
use Rattle.records.specs.Format.Reader.{Parts, terms_of, goals_of, read, Read}
use Rattle.records.specs.Format.Reader.Read.{unread, found}
use Rattle.records.specs.Format.Reader.Parts.{parts}
use Rattle.records.specs.Format.ReaderLaws.{parts_bytes}
use Rattle.records.specs.Format.Items.{many, first_term, first_goal, second_goal, half_of, ancestor_by, read_ancestor, binding_by, read_binding, bet_by, read_bet, definition_by, read_definition, clause_by, read_clause, Stacks, EventFrame, read_counted, read_goal, read_stacks, read_port, read_frame, event_of_frame, read_event_bytes}
use Rattle.records.specs.Format.Items.Stacks.{stacks}
use Rattle.records.specs.Format.ItemLaws.{Laid, Exact, PartsFormed, parts_exact, also_laid, many_exact, after_laid, after_complete, counted_exact, goal_exact}
use Rattle.records.specs.declared.heads.AncestorHead.{AncestorHead}
use Rattle.records.specs.declared.heads.AncestorHead.TheVariants.{Called, InConj, InDisj}
use Rattle.records.specs.declared.heads.BetHead.{BetHead}
use Rattle.records.specs.declared.heads.BetHead.TheVariants.{Unifier, Or, By}
use Rattle.records.specs.declared.heads.Signature.{Signature}
use Rattle.records.specs.Format.Syntax.Port.{call, exit, fail, redo}
use Rattle.records.specs.Format.Syntax.Event.{event}
use Rattle.records.specs.Format.Items.EventFrame.{frame}

-- nothing was found
pub unread_found : {A P : Type 0} {a : A} {n : ℕ} → unread ≡ found a n → P
unread_found e = never cc

-- a byte that is a tag is the tag of the half that it selects
pub tag_half : (k : ℕ) → IsTag k → tag (half_of k) ≡ k
tag_half k h = go (eqb k 1) refl h
  where
    go : (b : Bool) → eqb k 1 ≡ b → (b || eqb k 2) ≡ true → tag (pick b first second) ≡ k
    go true e q = sym (eqb-true k 1 e)
    go false e q = sym (eqb-true k 2 q)

pub half_tag : (h : Half) → half_of (tag h) ≡ h
half_tag first = refl
half_tag second = refl

pub tag_is : (h : Half) → is_tag (tag h) ≡ true
tag_is first = refl
tag_is second = refl

-- the terms and goals that were asked for, by their number
only_terms : (p : Parts) → length (goals_of p) ≡ 0 → parts_bytes p ≡ terms_bytes (terms_of p)
only_terms (parts ts []) e = simp append-nil
only_terms (parts ts (a ∷ gs)) e = absurd (omega arith)

one_term : (p : Parts) → PartsFormed 1 0 p → (parts_bytes p ≡ term_bytes (first_term p)) × TermFormed (first_term p)
one_term (parts nil gs) h = absurd (omega (arith, h.0))
one_term (parts (cons t (cons u ts)) gs) h = absurd (omega (arith, h.0))
one_term (parts (cons t nil) (a ∷ gs)) h = absurd (omega (arith, h.1))
one_term (parts (cons t nil) []) h = (simp append-nil, h.2.0)

one_goal : (k : ℕ) (p : Parts) → PartsFormed k 1 p → (parts_bytes p ≡ terms_bytes (terms_of p) ++ goal_bytes (first_goal p)) × GoalFormed (first_goal p)
one_goal k (parts ts []) h = absurd (omega (arith, h.1))
one_goal k (parts ts (a ∷ b ∷ gs)) h = absurd (omega (arith, h.1))
one_goal k (parts ts (a ∷ [])) h = (simp append-nil, h.3.0)

no_terms : (ts : Terms) → arity ts ≡ 0 → terms_bytes ts ≡ []
no_terms nil e = refl
no_terms (cons t ts) e = absurd (omega arith)

sole_goal : (p : Parts) → PartsFormed 0 1 p → (parts_bytes p ≡ goal_bytes (first_goal p)) × GoalFormed (first_goal p)
sole_goal p h = let w = one_goal 0 p h in (w.0 ∙ ap (λ (x : List ℕ). x ++ goal_bytes (first_goal p)) (no_terms (terms_of p) h.0), w.1)

two_goals : (p : Parts) → PartsFormed 0 2 p → (parts_bytes p ≡ goal_bytes (first_goal p) ++ goal_bytes (second_goal p)) × GoalFormed (first_goal p) × GoalFormed (second_goal p)
two_goals (parts (cons t ts) gs) h = absurd (omega (arith, h.0))
two_goals (parts nil []) h = absurd (omega (arith, h.1))
two_goals (parts nil (a ∷ [])) h = absurd (omega (arith, h.1))
two_goals (parts nil (a ∷ b ∷ c ∷ gs)) h = absurd (omega (arith, h.1))
two_goals (parts nil (a ∷ b ∷ [])) h = (simp append-nil, h.3.0, h.3.1.0)

-- reading on after a head of k bytes
read_on : (t g : ℕ) (p : Parts) (s x : List ℕ) → PartsFormed t g p → x ≡ parts_bytes p → read (x ++ s) t g ≡ found p (length x)
read_on t g p s x h e = rw e ((parts_exact t g).complete p h s)

pub ancestor_exact : Exact ancestor_bytes AncestorFormed read_ancestor
unfolding read_ancestor
ancestor_exact = record { complete = whole; sound = λ l b a n e. back l b (ancestor_head l) (ancestor_lead l b) a n e }
  where
    whole : (a : Ancestor) → AncestorFormed a → (s : List ℕ) → read_ancestor (ancestor_bytes a ++ s) ≡ found a (length (ancestor_bytes a))
    whole (called p ts) h s =
        rw (joined_word p h.0, le-leb (arity ts) 16 h.1, read_on (arity ts) 0 (parts ts []) s (terms_bytes ts) (refl, refl, h.2, tt) (simp append-nil)) (ap (found (called p ts)) (omega arith))
    whole (in_conj d x y) h s =
        rw (tag_is d, half_tag d, read_on 0 2 (parts nil (x ∷ y ∷ [])) s (goal_bytes x ++ goal_bytes y) (refl, refl, tt, (h.0, (h.1, tt))) (simp append-nil)) (ap (found (in_conj d x y)) (omega arith))
    whole (in_disj d x y) h s =
        rw (tag_is d, half_tag d, read_on 0 2 (parts nil (x ∷ y ∷ [])) s (goal_bytes x ++ goal_bytes y) (refl, refl, tt, (h.0, (h.1, tt))) (simp append-nil)) (ap (found (in_disj d x y)) (omega arith))

    back : (l : List ℕ) → Bytes l → (i : Option AncestorHead) → AncestorLead l i → (a : Ancestor) (n : ℕ) → ancestor_by i l ≡ found a n → Laid ancestor_bytes AncestorFormed l a n
    back l b (Some (Called p k)) q =
        also_laid (0x15 ∷ (word p ++ (k ∷ []))) (λ w. called p (terms_of w)) (λ m. read m k 0) l q.0 (parts_exact k 0) b
        (λ w h. (ap (λ (n : ℕ). 0x15 ∷ (word p ++ (n ∷ terms_bytes (terms_of w)))) h.0 ∙ ap (λ (x : List ℕ). 0x15 ∷ (word p ++ (k ∷ x))) (sym (only_terms w h.1)), (q.1, rw h.0 q.2, h.2)))
    back l b (Some (InConj k)) q =
        also_laid (0x30 ∷ (k ∷ [])) (λ w. in_conj (half_of k) (first_goal w) (second_goal w)) (λ m. read m 0 2) l q.0 (parts_exact 0 2) b
        (λ w h. let v = two_goals w h in (rw (tag_half k q.1) (ap (λ (x : List ℕ). 0x30 ∷ (k ∷ x)) (sym v.0)), (v.1, v.2)))
    back l b (Some (InDisj k)) q =
        also_laid (0x31 ∷ (k ∷ [])) (λ w. in_disj (half_of k) (first_goal w) (second_goal w)) (λ m. read m 0 2) l q.0 (parts_exact 0 2) b
        (λ w h. let v = two_goals w h in (rw (tag_half k q.1) (ap (λ (x : List ℕ). 0x31 ∷ (k ∷ x)) (sym v.0)), (v.1, v.2)))
    back l b None q = λ a n e. unread_found e

pub binding_exact : Exact binding_bytes BindingFormed read_binding
unfolding read_binding
binding_exact = record { complete = whole; sound = λ l b a n e. back l b (word_head l) (word_lead l b) a n e }
  where
    whole : (a : Binding) → BindingFormed a → (s : List ℕ) → read_binding (binding_bytes a ++ s) ≡ found a (length (binding_bytes a))
    whole (bind v t) h s =
        rw (joined_word v h.0, read_on 1 0 (parts (cons t nil) []) s (term_bytes t) (refl, refl, (h.1, tt), tt) (simp append-nil)) (ap (found (bind v t)) (omega arith))

    back : (l : List ℕ) → Bytes l → (i : Option ℕ) → WordLead l i → (a : Binding) (n : ℕ) → binding_by i l ≡ found a n → Laid binding_bytes BindingFormed l a n
    back l b (Some v) q =
        also_laid (word v) (λ w. bind v (first_term w)) (λ m. read m 1 0) l q.0 (parts_exact 1 0) b (λ w h. let u = one_term w h in (ap (λ (x : List ℕ). word v ++ x) (sym u.0), (q.1, u.1)))
    back l b None q = λ a n e. unread_found e

pub bet_exact : Exact bet_bytes BetFormed read_bet
unfolding read_bet
bet_exact = record { complete = whole; sound = λ l b a n e. back l b (bet_head l) (bet_lead l b) a n e }
  where
    whole : (a : Bet) → BetFormed a → (s : List ℕ) → read_bet (bet_bytes a ++ s) ≡ found a (length (bet_bytes a))
    whole (unifier bs) h s = rw (joined_word (length bs) h.0, (many_exact binding_exact (length bs)).complete bs (refl, h.1) s) (ap (found (unifier bs)) (omega arith))
    whole (or d) h s = rw (tag_is d, half_tag d)
    whole (by g) h s = rw (read_on 0 1 (parts nil (g ∷ [])) s (goal_bytes g) (refl, refl, tt, (h, tt)) (simp append-nil)) (ap (found (by g)) (omega arith))

    back : (l : List ℕ) → Bytes l → (i : Option BetHead) → BetLead l i → (a : Bet) (n : ℕ) → bet_by i l ≡ found a n → Laid bet_bytes BetFormed l a n
    back l b (Some (Unifier n)) q =
        also_laid (0x20 ∷ word n) unifier (many read_binding n) l q.0 (many_exact binding_exact n) b
        (λ bs h. (ap (λ (k : ℕ). 0x20 ∷ (word k ++ each binding_bytes bs)) h.0, (rw h.0 q.1, h.1)))
    back l b (Some (Or k)) q = λ a n e.
        let a1 : or (half_of k) ≡ a = cc in
        let a2 : 2 ≡ n = cc in
        rw (← a1, ← a2) (record { formed = tt; size = refl; front = rw (tag_half k q.1) q.0 })
    back l b (Some By) q =
        also_laid (0x22 ∷ []) (λ w. by (first_goal w)) (λ m. read m 0 1) l q (parts_exact 0 1) b (λ w h. let u = sole_goal w h in (ap (λ (x : List ℕ). 0x22 ∷ x) (sym u.0), u.1))
    back l b None q = λ a n e. unread_found e

pub definition_exact : Exact definition_bytes DefinitionFormed read_definition
unfolding read_definition
definition_exact = record { complete = whole; sound = λ l b a n e. back l b (definition_head l) (definition_lead l b) a n e }
  where
    whole : (a : Definition) → DefinitionFormed a → (s : List ℕ) → read_definition (definition_bytes a ++ s) ≡ found a (length (definition_bytes a))
    whole (definition p k n g) h s =
        rw (le-leb k 16 h.1, joined_word p h.0, read_on 0 1 (parts nil (g ∷ [])) s (goal_bytes g) (refl, refl, tt, (h.3, tt)) (simp append-nil)) (ap (found (definition p k n g)) (omega arith))

    back : (l : List ℕ) → Bytes l → (i : Option Signature) → DefinitionLead l i → (a : Definition) (n : ℕ) → definition_by i l ≡ found a n → Laid definition_bytes DefinitionFormed l a n
    back l b (Some d) q =
        also_laid (word d.predicate ++ (d.arity ∷ (d.count ∷ []))) (λ w. definition d.predicate d.arity d.count (first_goal w)) (λ m. read m 0 1) l q.0 (parts_exact 0 1) b
        (λ w h. let u = sole_goal w h in (ap (λ (x : List ℕ). word d.predicate ++ (d.arity ∷ (d.count ∷ x))) (sym u.0), (q.1, q.2, q.3, u.1)))
    back l b None q = λ a n e. unread_found e

pub clause_exact : Exact clause_bytes ClauseFormed read_clause
unfolding read_clause
clause_exact = record { complete = whole; sound = λ l b a n e. back l b (clause_head l) (clause_lead l b) a n e }
  where
    whole : (a : Clause) → ClauseFormed a → (s : List ℕ) → read_clause (clause_bytes a ++ s) ≡ found a (length (clause_bytes a))
    whole (clause p v ts g) h s =
        rw (le-leb (arity ts) 16 h.1, le-leb v 64 h.2, joined_word p h.0, read_on (arity ts) 1 (parts ts (g ∷ [])) s (terms_bytes ts ++ goal_bytes g) (refl, refl, h.3, (h.4, tt)) (simp append-nil))
        (ap (found (clause p v ts g)) (omega arith))

    back : (l : List ℕ) → Bytes l → (i : Option Signature) → ClauseLead l i → (a : Clause) (n : ℕ) → clause_by i l ≡ found a n → Laid clause_bytes ClauseFormed l a n
    back l b (Some d) q =
        also_laid (word d.predicate ++ (d.arity ∷ (d.count ∷ []))) (λ w. clause d.predicate d.count (terms_of w) (first_goal w)) (λ m. read m d.arity 1) l q.0 (parts_exact d.arity 1) b
        (λ w h. let u = one_goal d.arity w h in (
          ap (λ (n : ℕ). word d.predicate ++ (n ∷ (d.count ∷ (terms_bytes (terms_of w) ++ goal_bytes (first_goal w))))) h.0 ∙ ap (λ (x : List ℕ). word d.predicate ++ (d.arity ∷ (d.count ∷ x))) (sym u.0),
          (q.1, rw h.0 q.2, q.3, h.2, u.1),
        ))
    back l b None q = λ a n e. unread_found e

stacks_bytes : Stacks → List ℕ
stacks_bytes (stacks u s) = counted ancestor_bytes u ++ counted bet_bytes s

StacksFormed : Stacks → Type 0
StacksFormed (stacks u s) = Counted AncestorFormed u × Counted BetFormed s

stacks_exact : Exact stacks_bytes StacksFormed read_stacks
unfolding read_stacks stacks_bytes StacksFormed
stacks_exact = record {
  complete = whole;
  sound = λ l b a n e. after_laid stacks (read_counted read_ancestor) (read_counted read_bet) (counted_exact ancestor_exact) (counted_exact bet_exact) (λ u s p q. (refl, (p, q))) l b a n e;
}
  where
    whole : (a : Stacks) → StacksFormed a → (s : List ℕ) → read_stacks (stacks_bytes a ++ s) ≡ found a (length (stacks_bytes a))
    whole (stacks u v) h s = after_complete stacks (read_counted read_ancestor) (read_counted read_bet) (counted_exact ancestor_exact) (counted_exact bet_exact) u v h.0 h.1 _ refl s

frame_bytes : EventFrame → List ℕ
frame_bytes (frame g k) = goal_bytes g ++ stacks_bytes k

FrameFormed : EventFrame → Type 0
FrameFormed (frame g k) = GoalFormed g × StacksFormed k

frame_exact : Exact frame_bytes FrameFormed read_frame
unfolding read_frame frame_bytes FrameFormed
frame_exact = record {
  complete = whole;
  sound = λ l b a n e. after_laid frame read_goal read_stacks goal_exact stacks_exact (λ g k p q. (refl, (p, q))) l b a n e;
}
  where
    whole : (a : EventFrame) → FrameFormed a → (s : List ℕ) → read_frame (frame_bytes a ++ s) ≡ found a (length (frame_bytes a))
    whole (frame g k) h s = after_complete frame read_goal read_stacks goal_exact stacks_exact g k h.0 h.1 _ refl s

port_bytes : Port → List ℕ
port_bytes p = port_byte p ∷ []

port_exact : Exact port_bytes (λ _. Unit {0}) read_port
unfolding port_bytes
port_exact = record { complete = whole; sound = λ l b p n e. back l p n e }
  where
    whole : (p : Port) → Unit {0} → (s : List ℕ) → read_port (port_bytes p ++ s) ≡ found p (length (port_bytes p))
    whole call h s = refl
    whole exit h s = refl
    whole fail h s = refl
    whole redo h s = refl

    of : (b : ℕ) (l : List ℕ) (q p : Port) (n : ℕ) → b ≡ port_byte q → found q 1 ≡ found p n → Laid port_bytes (λ _. Unit {0}) (b ∷ l) p n
    of b l q p n e z =
        let a1 : q ≡ p = cc in
        let a2 : 1 ≡ n = cc in
        rw (← a1, ← a2) (record { formed = tt; size = refl; front = ap (λ (c : ℕ). c ∷ l) e })

    test : (b k : ℕ) (l : List ℕ) (q : Port) (o : Read Port) (p : Port) (n : ℕ) → port_byte q ≡ k → (o ≡ found p n → Laid port_bytes (λ _. Unit {0}) (b ∷ l) p n)
        → pick (eqb b k) (found q 1) o ≡ found p n → Laid port_bytes (λ _. Unit {0}) (b ∷ l) p n
    test b k l q o p n h f =
        by_test (λ r. r ≡ found p n → Laid port_bytes (λ _. Unit {0}) (b ∷ l) p n) (eqb b k) (found q 1) o (λ e. of b l q p n (eqb-true b k e ∙ sym h)) (λ _. f)

    back : (l : List ℕ) (p : Port) (n : ℕ) → read_port l ≡ found p n → Laid port_bytes (λ _. Unit {0}) l p n
    back [] p n e = unread_found e
    back (b ∷ l) p n e = test b 1 l call _ p n refl (test b 2 l exit _ p n refl (test b 3 l fail _ p n refl (test b 4 l redo unread p n refl unread_found))) e

pub event_exact : Exact event_bytes EventFormed read_event_bytes
unfolding read_event_bytes frame_bytes stacks_bytes FrameFormed StacksFormed port_bytes
event_exact = record {
  complete = whole;
  sound = λ l b a n e. after_laid event_of_frame read_port read_frame port_exact frame_exact made l b a n e;
}
  where
    made : (p : Port) (f : EventFrame) → Unit {0} → FrameFormed f → (event_bytes (event_of_frame p f) ≡ port_bytes p ++ frame_bytes f) × EventFormed (event_of_frame p f)
    made p (frame g (stacks u s)) x h = (refl, (h.0, h.1.0, h.1.1))

    whole : (a : Event) → EventFormed a → (s : List ℕ) → read_event_bytes (event_bytes a ++ s) ≡ found a (length (event_bytes a))
    whole (event p g u v) h s = after_complete event_of_frame read_port read_frame port_exact frame_exact p (frame g (stacks u v)) tt (h.0, (h.1, h.2)) (event_bytes (event p g u v)) refl s

-- What a head says of the bytes that it was read from, if they are bytes.
use Rattle.std.specs.Prelude.{ℕ, zero, suc, ◌<◌, ◌≤◌, ◌/◌, ◌%◌, ◌≡◌, refl, Bool, true, false, List, [], ◌∷◌, ◌++◌, eqb, leb, take, drop, get_or, Option, Some, None}
use Rattle.std.proofs.Common.{arith, Fits, eqb-true, leb-true}
use Rattle.std.specs.Int.{w8}
use Rattle.records.specs.Format.Encode.{word}
use Rattle.records.specs.Format.Heads.{pick, joined, term_head, symbol_head, goal_head, atom_head, ancestor_head, half_head, called_or, is_tag, word_head, bet_head, unifier_head, or_head, definition_head, clause_head, clause_of}
use Rattle.records.specs.declared.heads.TermHead.{TermHead}
use Rattle.records.specs.declared.heads.TermHead.TheVariants.{Variable, Symbol}
use Rattle.records.specs.declared.heads.GoalHead.{GoalHead}
use Rattle.records.specs.declared.heads.GoalHead.TheVariants.{Truth, Failure, Equal, Conj, Disj, Atom}
use Rattle.records.specs.declared.heads.AncestorHead.{AncestorHead}
use Rattle.records.specs.declared.heads.AncestorHead.TheVariants.{Called, InConj, InDisj}
use Rattle.records.specs.declared.heads.BetHead.{BetHead}
use Rattle.records.specs.declared.heads.BetHead.TheVariants.{Unifier, Or, By}
use Rattle.records.specs.declared.heads.Signature.{Signature}

-- every element is a byte
abbrev pub Bytes : List ℕ → Type 0
Bytes [] = Unit {0}
Bytes (b ∷ l) = (b < 256) × Bytes l

-- the same as it is known of a slice
abbrev pub Known : List ℕ → Type 0
Known l = (i : ℕ) → Fits w8 (get_or l i 0)

pub bytes_all : (l : List ℕ) → Known l → Bytes l
bytes_all [] h = tt
bytes_all (b ∷ l) h = ((h 0).fits, bytes_all l (λ i. h (suc i)))

-- the front of a slice is known as the slice is
pub front_known : (n : ℕ) (l : List ℕ) → Known l → Known (take n l)
front_known zero l h i = record { fits = omega arith }
front_known (suc n) [] h i = h i
front_known (suc n) (b ∷ l) h zero = h 0
front_known (suc n) (b ∷ l) h (suc i) = front_known n l (λ i. h (suc i)) i

pub bytes_drop : (n : ℕ) (l : List ℕ) → Bytes l → Bytes (drop n l)
bytes_drop zero l h = h
bytes_drop (suc n) [] h = h
bytes_drop (suc n) (b ∷ l) h = bytes_drop n l h.1

-- both ways of a test
pub by_test : {A : Type 0} (P : A → Type 0) (c : Bool) (a b : A) → (c ≡ true → P a) → (c ≡ false → P b) → P (pick c a b)
by_test P true a b f g = f refl
by_test P false a b f g = g refl

-- two bytes are those of the number that they come to
pub word_joined : (x y : ℕ) → x < 256 → y < 256 → (r : List ℕ) → x ∷ y ∷ r ≡ word (joined x y) ++ r
word_joined x y hx hy r =
    let p : x ≡ joined x y / 256 % 256 = omega arith in
    let q : y ≡ joined x y % 256 = omega arith in
    cc

-- and a number that fits two bytes is what its bytes come to
pub joined_word : (n : ℕ) → n < 65536 → joined (n / 256 % 256) (n % 256) ≡ n
joined_word n h = omega arith

abbrev pub TermLead : List ℕ → Option TermHead → Type 0
TermLead l (Some (Variable v)) = (l ≡ 0x01 ∷ (word v ++ drop 3 l)) × (v < 65536)
TermLead l (Some (Symbol f k)) = (l ≡ 0x02 ∷ (word f ++ (k ∷ drop 4 l))) × (f < 65536) × (k ≤ 16)
TermLead l None = Unit {0}

abbrev pub GoalLead : List ℕ → Option GoalHead → Type 0
GoalLead l (Some Truth) = l ≡ 0x10 ∷ drop 1 l
GoalLead l (Some Failure) = l ≡ 0x11 ∷ drop 1 l
GoalLead l (Some Equal) = l ≡ 0x12 ∷ drop 1 l
GoalLead l (Some Conj) = l ≡ 0x13 ∷ drop 1 l
GoalLead l (Some Disj) = l ≡ 0x14 ∷ drop 1 l
GoalLead l (Some (Atom p k)) = (l ≡ 0x15 ∷ (word p ++ (k ∷ drop 4 l))) × (p < 65536) × (k ≤ 16)
GoalLead l None = Unit {0}

abbrev pub IsTag : ℕ → Type 0
IsTag k = is_tag k ≡ true

abbrev pub AncestorLead : List ℕ → Option AncestorHead → Type 0
AncestorLead l (Some (Called p k)) = (l ≡ 0x15 ∷ (word p ++ (k ∷ drop 4 l))) × (p < 65536) × (k ≤ 16)
AncestorLead l (Some (InConj k)) = (l ≡ 0x30 ∷ (k ∷ drop 2 l)) × IsTag k
AncestorLead l (Some (InDisj k)) = (l ≡ 0x31 ∷ (k ∷ drop 2 l)) × IsTag k
AncestorLead l None = Unit {0}

abbrev pub WordLead : List ℕ → Option ℕ → Type 0
WordLead l (Some n) = (l ≡ word n ++ drop 2 l) × (n < 65536)
WordLead l None = Unit {0}

abbrev pub BetLead : List ℕ → Option BetHead → Type 0
BetLead l (Some (Unifier n)) = (l ≡ 0x20 ∷ (word n ++ drop 3 l)) × (n < 65536)
BetLead l (Some (Or k)) = (l ≡ 0x21 ∷ (k ∷ drop 2 l)) × IsTag k
BetLead l (Some By) = l ≡ 0x22 ∷ drop 1 l
BetLead l None = Unit {0}

abbrev pub DefinitionLead : List ℕ → Option Signature → Type 0
DefinitionLead l (Some d) = (l ≡ word d.predicate ++ (d.arity ∷ (d.count ∷ drop 4 l))) × (d.predicate < 65536) × (d.arity ≤ 16) × (d.count < 256)
DefinitionLead l None = Unit {0}

abbrev pub ClauseLead : List ℕ → Option Signature → Type 0
ClauseLead l (Some d) = (l ≡ word d.predicate ++ (d.arity ∷ (d.count ∷ drop 4 l))) × (d.predicate < 65536) × (d.arity ≤ 16) × (d.count ≤ 64)
ClauseLead l None = Unit {0}

-- a kind byte that passed its test, before bytes that are known
kind : (b c : ℕ) (l r : List ℕ) → eqb b c ≡ true → l ≡ r → b ∷ l ≡ c ∷ r
kind b c l r e q = let p : b ≡ c = eqb-true b c e in cc

pub term_lead : (l : List ℕ) → Bytes l → TermLead l (term_head l)
term_lead [] h = tt
term_lead (b ∷ []) h = tt
term_lead (b ∷ x ∷ []) h = tt
term_lead (b ∷ x ∷ y ∷ l) h =
    by_test (TermLead (b ∷ x ∷ y ∷ l)) (eqb b 0x01) _ _ (λ e. (kind b 0x01 _ _ e (word_joined x y h.1.0 h.1.1.0 l), omega arith))
    (λ _. by_test (TermLead (b ∷ x ∷ y ∷ l)) (eqb b 0x02) _ _ (λ e. symbol b x y l e h) (λ _. tt))
  where
    symbol : (b x y : ℕ) (l : List ℕ) → eqb b 0x02 ≡ true → Bytes (b ∷ x ∷ y ∷ l) → TermLead (b ∷ x ∷ y ∷ l) (symbol_head (joined x y) l)
    symbol b x y [] e h = tt
    symbol b x y (k ∷ l) e h =
        by_test (TermLead (b ∷ x ∷ y ∷ k ∷ l)) (leb k 16) _ _
        (λ q. (kind b 0x02 _ _ e (word_joined x y h.1.0 h.1.1.0 (k ∷ l)), omega arith, leb-true k 16 q)) (λ _. tt)

atom_lead : (b : ℕ) (l : List ℕ) → Bytes l → eqb b 0x15 ≡ true → GoalLead (b ∷ l) (atom_head l)
atom_lead b [] h e = tt
atom_lead b (x ∷ []) h e = tt
atom_lead b (x ∷ y ∷ []) h e = tt
atom_lead b (x ∷ y ∷ k ∷ l) h e =
    by_test (GoalLead (b ∷ x ∷ y ∷ k ∷ l)) (leb k 16) _ _ (λ q. (kind b 0x15 _ _ e (word_joined x y h.0 h.1.0 (k ∷ l)), omega arith, leb-true k 16 q)) (λ _. tt)

pub goal_lead : (l : List ℕ) → Bytes l → GoalLead l (goal_head l)
goal_lead [] h = tt
goal_lead (b ∷ l) h =
    by_test (GoalLead (b ∷ l)) (eqb b 0x10) _ _ (λ e. kind b 0x10 l l e refl)
    (λ _. by_test (GoalLead (b ∷ l)) (eqb b 0x11) _ _ (λ e. kind b 0x11 l l e refl)
    (λ _. by_test (GoalLead (b ∷ l)) (eqb b 0x12) _ _ (λ e. kind b 0x12 l l e refl)
    (λ _. by_test (GoalLead (b ∷ l)) (eqb b 0x13) _ _ (λ e. kind b 0x13 l l e refl)
    (λ _. by_test (GoalLead (b ∷ l)) (eqb b 0x14) _ _ (λ e. kind b 0x14 l l e refl)
    (λ _. by_test (GoalLead (b ∷ l)) (eqb b 0x15) _ _ (λ e. atom_lead b l h.1 e) (λ _. tt))))))

half_lead : (l : List ℕ) → AncestorLead l (half_head l)
half_lead [] = tt
half_lead (b ∷ []) = tt
half_lead (b ∷ k ∷ l) =
    by_test (AncestorLead (b ∷ k ∷ l)) (is_tag k) _ _
    (λ q. by_test (AncestorLead (b ∷ k ∷ l)) (eqb b 0x30) _ _ (λ e. (kind b 0x30 _ _ e refl, q))
    (λ _. by_test (AncestorLead (b ∷ k ∷ l)) (eqb b 0x31) _ _ (λ e. (kind b 0x31 _ _ e refl, q)) (λ _. tt)))
    (λ _. tt)

called_lead : (l : List ℕ) (h : Option GoalHead) (i : Option AncestorHead) → GoalLead l h → AncestorLead l i → AncestorLead l (called_or h i)
called_lead l (Some Truth) i p q = q
called_lead l (Some Failure) i p q = q
called_lead l (Some Equal) i p q = q
called_lead l (Some Conj) i p q = q
called_lead l (Some Disj) i p q = q
called_lead l (Some (Atom f k)) i p q = p
called_lead l None i p q = q

pub ancestor_lead : (l : List ℕ) → Bytes l → AncestorLead l (ancestor_head l)
ancestor_lead l h = called_lead l (goal_head l) (half_head l) (goal_lead l h) (half_lead l)

pub word_lead : (l : List ℕ) → Bytes l → WordLead l (word_head l)
word_lead [] h = tt
word_lead (x ∷ []) h = tt
word_lead (x ∷ y ∷ l) h = (word_joined x y h.0 h.1.0 l, omega arith)

unifier_lead : (b : ℕ) (l : List ℕ) (w : Option ℕ) → WordLead l w → eqb b 0x20 ≡ true → BetLead (b ∷ l) (unifier_head w)
unifier_lead b l (Some n) q e = (kind b 0x20 _ _ e q.0, q.1)
unifier_lead b l None q e = tt

or_lead : (b : ℕ) (l : List ℕ) → eqb b 0x21 ≡ true → BetLead (b ∷ l) (or_head l)
or_lead b [] e = tt
or_lead b (k ∷ l) e = by_test (BetLead (b ∷ k ∷ l)) (is_tag k) _ _ (λ q. (kind b 0x21 _ _ e refl, q)) (λ _. tt)

pub bet_lead : (l : List ℕ) → Bytes l → BetLead l (bet_head l)
bet_lead [] h = tt
bet_lead (b ∷ l) h =
    by_test (BetLead (b ∷ l)) (eqb b 0x20) _ _ (λ e. unifier_lead b l (word_head l) (word_lead l h.1) e)
    (λ _. by_test (BetLead (b ∷ l)) (eqb b 0x21) _ _ (λ e. or_lead b l e)
    (λ _. by_test (BetLead (b ∷ l)) (eqb b 0x22) _ _ (λ e. kind b 0x22 l l e refl) (λ _. tt)))

pub definition_lead : (l : List ℕ) → Bytes l → DefinitionLead l (definition_head l)
definition_lead [] h = tt
definition_lead (x ∷ []) h = tt
definition_lead (x ∷ y ∷ []) h = tt
definition_lead (x ∷ y ∷ k ∷ []) h = tt
definition_lead (x ∷ y ∷ k ∷ n ∷ l) h =
    by_test (DefinitionLead (x ∷ y ∷ k ∷ n ∷ l)) (leb k 16) _ _
    (λ q. (word_joined x y h.0 h.1.0 (k ∷ n ∷ l), omega arith, leb-true k 16 q, h.1.1.1.0)) (λ _. tt)

clause_lead_of : (l : List ℕ) (h : Option Signature) → DefinitionLead l h → ClauseLead l (clause_of h)
clause_lead_of l (Some d) q = by_test (ClauseLead l) (leb d.count 64) _ _ (λ e. (q.0, q.1, q.2, leb-true d.count 64 e)) (λ _. tt)
clause_lead_of l None q = tt

pub clause_lead : (l : List ℕ) → Bytes l → ClauseLead l (clause_head l)
clause_lead l h = clause_lead_of l (definition_head l) (definition_lead l h)

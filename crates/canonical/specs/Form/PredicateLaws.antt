-- Laws of a clause list's predicates: they rise, each stands there once, and exactly those that have clauses.
use Rattle.std.specs.Prelude.{◌≡◌, refl, Bool, true, false, ◌&&◌, ◌||◌, cond, List, [], ◌∷◌, ◌++◌, ℕ, suc, ◌+◌, ◌*◌, ◌≤◌, ◌<◌, eqb, ltb, length}
use Rattle.std.proofs.Common.{sym, ap, ◌∙◌, inl, inr, arith, eq-eqb, ne_eqb, eqb-true, lt-ltb, le-ltb, ltb-true, ltb-false}
use Rattle.std.proofs.lemmas.Bool.{eqb-false}
use Rattle.records.specs.Format.Syntax.{Clause}
use Rattle.records.specs.Format.Formed.{All}
use Rattle.records.specs.Gate.RecordRulesLaws.{and_both}
use Rattle.terms.specs.Theory.Variables.{Among}
use Rattle.canonical.specs.Form.Canonical.{Predicate, predicate, predicate_of, same_predicate, predicate_before, placed, predicates, clauses_of}

-- the number by which a program's definitions rise
abbrev pub rank : Predicate → ℕ
rank (predicate p n) = p * 256 + n

abbrev pub predicate_ranks : List Predicate → List ℕ
predicate_ranks [] = []
predicate_ranks (x ∷ l) = rank x ∷ predicate_ranks l

-- an arity that fits a byte
abbrev pub ArityFits : Predicate → Type 0
ArityFits (predicate p n) = n < 256

-- strictly rising ranks, the first of them at least `low`
abbrev pub Rising : ℕ → List Predicate → Type 0
Rising low [] = Unit {0}
Rising low (x ∷ l) = (low ≤ rank x) × Rising (suc (rank x)) l

-- x stands in the list
abbrev pub listed : Predicate → List Predicate → Bool
listed x [] = false
listed x (y ∷ l) = same_predicate x y || listed x l

pub same_equal : (x y : Predicate) → same_predicate x y ≡ true → x ≡ y
same_equal (predicate p n) (predicate q m) h =
    let w = and_both (eqb p q) (eqb n m) h in
    let i : p ≡ q = eqb-true p q w.0 in
    let j : n ≡ m = eqb-true n m w.1 in
    cc

-- the order of predicates is the order of their ranks
before_rank : (x y : Predicate) → ArityFits x → ArityFits y → ltb (rank x) (rank y) ≡ predicate_before x y
before_rank (predicate p n) (predicate q m) s z = go (ltb p q) (eqb p q) (ltb n m) refl refl refl
  where
    go : (a b c : Bool) → ltb p q ≡ a → eqb p q ≡ b → ltb n m ≡ c → ltb (p * 256 + n) (q * 256 + m) ≡ (a || (b && c))
    go true b c ea eb ec = lt-ltb (p * 256 + n) (q * 256 + m) (omega (arith, ltb-true p q ea))
    go false true true ea eb ec = lt-ltb (p * 256 + n) (q * 256 + m) (omega (arith, eqb-true p q eb, ltb-true n m ec))
    go false true false ea eb ec = le-ltb (p * 256 + n) (q * 256 + m) (omega (arith, eqb-true p q eb, ltb-false n m ec))
    go false false c ea eb ec = le-ltb (p * 256 + n) (q * 256 + m) (omega (arith, ltb-false p q ea, eqb-false p q eb))

-- equal ranks are one predicate
pub rank_same : (x y : Predicate) → ArityFits x → ArityFits y → eqb (rank y) (rank x) ≡ same_predicate x y
rank_same (predicate p n) (predicate q m) s z = go (eqb p q) (eqb n m) refl refl
  where
    go : (a b : Bool) → eqb p q ≡ a → eqb n m ≡ b → eqb (q * 256 + m) (p * 256 + n) ≡ (a && b)
    go true true ea eb = eq-eqb (q * 256 + m) (p * 256 + n) (omega (arith, eqb-true p q ea, eqb-true n m eb))
    go true false ea eb = ne_eqb (q * 256 + m) (p * 256 + n) (λ i. omega (arith, eqb-true p q ea, eqb-false n m eb))
    go false b ea eb = ne_eqb (q * 256 + m) (p * 256 + n) (λ i. omega (arith, eqb-false p q ea))

-- a property of x and of each of a list holds of each of the list with x in it
pub all_placed : (Φ : Predicate → Type 0) (x : Predicate) (l : List Predicate) → Φ x → All Φ l → All Φ (placed x l)
all_placed Φ x [] h k = (h, tt)
all_placed Φ x (y ∷ l) h k = go (predicate_before x y) (same_predicate x y) (all_placed Φ x l h k.1)
  where
    go : (a b : Bool) → All Φ (placed x l) → All Φ (cond a (x ∷ (y ∷ l)) (cond b (y ∷ l) (y ∷ placed x l)))
    go true b i = (h, k)
    go false true i = k
    go false false i = (k.0, i)

pub all_predicates : (Φ : Predicate → Type 0) (cs : List Clause) → All (λ c. Φ (predicate_of c)) cs → All Φ (predicates cs)
all_predicates Φ [] h = tt
all_predicates Φ (c ∷ cs) h = all_placed Φ (predicate_of c) (predicates cs) h.0 (all_predicates Φ cs h.1)

placed_rises : (low : ℕ) (x : Predicate) (l : List Predicate) → low ≤ rank x → ArityFits x → All ArityFits l → Rising low l → Rising low (placed x l)
placed_rises low x [] m s k r = (m, tt)
placed_rises low x (y ∷ l) m s k r =
    go (predicate_before x y) (same_predicate x y) refl refl (λ i. placed_rises (suc (rank y)) x l i s k.1 r.1)
  where
    go : (a b : Bool) → predicate_before x y ≡ a → same_predicate x y ≡ b → (suc (rank y) ≤ rank x → Rising (suc (rank y)) (placed x l))
        → Rising low (cond a (x ∷ (y ∷ l)) (cond b (y ∷ l) (y ∷ placed x l)))
    go true b ea eb ih = (m, (ltb-true (rank x) (rank y) (before_rank x y s k.0 ∙ ea), r.1))
    go false true ea eb ih = r
    go false false ea eb ih =
        (r.0, ih (omega (arith, ltb-false (rank x) (rank y) (before_rank x y s k.0 ∙ ea), eqb-false (rank y) (rank x) (rank_same x y s k.0 ∙ eb))))

-- the predicates of clauses rise
pub predicates_rise : (cs : List Clause) → All (λ c. ArityFits (predicate_of c)) cs → Rising 0 (predicates cs)
predicates_rise [] h = tt
predicates_rise (c ∷ cs) h =
    placed_rises 0 (predicate_of c) (predicates cs) (omega arith) h.0 (all_predicates ArityFits cs h.1) (predicates_rise cs h.1)

-- the rank of each clause's predicate is among theirs
placed_there : (x : Predicate) (l : List Predicate) → Among (rank x) (predicate_ranks (placed x l))
placed_there x [] = inl refl
placed_there x (y ∷ l) = go (predicate_before x y) (same_predicate x y) refl (placed_there x l)
  where
    go : (a b : Bool) → same_predicate x y ≡ b → Among (rank x) (predicate_ranks (placed x l))
        → Among (rank x) (predicate_ranks (cond a (x ∷ (y ∷ l)) (cond b (y ∷ l) (y ∷ placed x l))))
    go true b e i = inl refl
    go false true e i = inl (ap rank (same_equal x y e))
    go false false e i = inr i

placed_still : (k : ℕ) (x : Predicate) (l : List Predicate) → Among k (predicate_ranks l) → Among k (predicate_ranks (placed x l))
placed_still k x [] m = absurd m
placed_still k x (y ∷ l) m = go (predicate_before x y) (same_predicate x y) m (placed_still k x l)
  where
    go : (a b : Bool) → Among k (predicate_ranks (y ∷ l)) → (Among k (predicate_ranks l) → Among k (predicate_ranks (placed x l)))
        → Among k (predicate_ranks (cond a (x ∷ (y ∷ l)) (cond b (y ∷ l) (y ∷ placed x l))))
    go true b i later = inr i
    go false true i later = i
    go false false (inl i) later = inl i
    go false false (inr i) later = inr (later i)

pub all_ranked : (cs : List Clause) → All (λ c. Among (rank (predicate_of c)) (predicate_ranks (predicates cs))) cs
all_ranked [] = tt
all_ranked (c ∷ cs) = (placed_there (predicate_of c) (predicates cs), still cs (all_ranked cs))
  where
    still : (ds : List Clause) → All (λ d. Among (rank (predicate_of d)) (predicate_ranks (predicates cs))) ds
        → All (λ d. Among (rank (predicate_of d)) (predicate_ranks (placed (predicate_of c) (predicates cs)))) ds
    still [] h = tt
    still (d ∷ ds) h = (placed_still (rank (predicate_of d)) (predicate_of c) (predicates cs) h.0, still ds h.1)

-- there are no more of them than clauses
placed_length : (x : Predicate) (l : List Predicate) → length (placed x l) ≤ suc (length l)
placed_length x [] = omega arith
placed_length x (y ∷ l) = go (predicate_before x y) (same_predicate x y) (placed_length x l)
  where
    go : (a b : Bool) → length (placed x l) ≤ suc (length l)
        → length (cond a (x ∷ (y ∷ l)) (cond b (y ∷ l) (y ∷ placed x l))) ≤ suc (suc (length l))
    go true b i = omega arith
    go false true i = omega arith
    go false false i = omega arith

pub predicates_length : (cs : List Clause) → length (predicates cs) ≤ length cs
predicates_length [] = omega arith
predicates_length (c ∷ cs) = omega (arith, placed_length (predicate_of c) (predicates cs), predicates_length cs)

or_twice : (a b : Bool) → (a || b) ≡ (a || (a || b))
or_twice true b = refl
or_twice false b = refl

or_swap : (a b c : Bool) → (a || (b || c)) ≡ (b || (a || c))
or_swap true true c = refl
or_swap true false c = refl
or_swap false b c = refl

among_placed : (x y : Predicate) (l : List Predicate) → listed x (placed y l) ≡ (same_predicate x y || listed x l)
among_placed x y [] = refl
among_placed x y (z ∷ l) = go (predicate_before y z) (same_predicate y z) refl (among_placed x y l)
  where
    go : (a b : Bool) → same_predicate y z ≡ b → listed x (placed y l) ≡ (same_predicate x y || listed x l)
        → listed x (cond a (y ∷ (z ∷ l)) (cond b (z ∷ l) (z ∷ placed y l))) ≡ (same_predicate x y || (same_predicate x z || listed x l))
    go true b e i = refl
    go false true e i = let w : y ≡ z = same_equal y z e in rw w (or_twice (same_predicate x z) (listed x l))
    go false false e i = ap (λ (b : Bool). same_predicate x z || b) i ∙ or_swap (same_predicate x z) (same_predicate x y) (listed x l)

-- a predicate that does not stand there has no clauses
pub unlisted_none : (x : Predicate) (cs : List Clause) → listed x (predicates cs) ≡ false → clauses_of x cs ≡ []
unlisted_none x [] h = refl
unlisted_none x (c ∷ cs) h = go (same_predicate x (predicate_of c)) (sym (among_placed x (predicate_of c) (predicates cs)) ∙ h) (unlisted_none x cs)
  where
    go : (b : Bool) → (b || listed x (predicates cs)) ≡ false → (listed x (predicates cs) ≡ false → clauses_of x cs ≡ [])
        → cond b (c ∷ clauses_of x cs) (clauses_of x cs) ≡ []
    go true e i = cc
    go false e i = i e

-- the clauses of a predicate in two lists, one after the other
pub clauses_of_append : (x : Predicate) (cs ds : List Clause) → clauses_of x (cs ++ ds) ≡ clauses_of x cs ++ clauses_of x ds
clauses_of_append x [] ds = refl
clauses_of_append x (c ∷ cs) ds = go (same_predicate x (predicate_of c)) (clauses_of_append x cs ds)
  where
    go : (b : Bool) → clauses_of x (cs ++ ds) ≡ clauses_of x cs ++ clauses_of x ds
        → cond b (c ∷ clauses_of x (cs ++ ds)) (clauses_of x (cs ++ ds)) ≡ cond b (c ∷ clauses_of x cs) (clauses_of x cs) ++ clauses_of x ds
    go true i = ap (λ (l : List Clause). c ∷ l) i
    go false i = i

-- each of them is of that predicate, and has what each clause has
pub all_clauses_of : (Φ : Clause → Type 0) (x : Predicate) (cs : List Clause) → All Φ cs
    → All (λ c. Φ c × (x ≡ predicate_of c)) (clauses_of x cs)
all_clauses_of Φ x [] h = tt
all_clauses_of Φ x (c ∷ cs) h = go (same_predicate x (predicate_of c)) refl (all_clauses_of Φ x cs h.1)
  where
    go : (b : Bool) → same_predicate x (predicate_of c) ≡ b → All (λ d. Φ d × (x ≡ predicate_of d)) (clauses_of x cs)
        → All (λ d. Φ d × (x ≡ predicate_of d)) (cond b (c ∷ clauses_of x cs) (clauses_of x cs))
    go true e i = ((h.0, same_equal x (predicate_of c) e), i)
    go false e i = i

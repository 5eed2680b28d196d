-- Laws of entries: the last entry that binds a variable tells what S makes of it, and the entries before those of its bet are those of the bets above.
use Rattle.std.specs.Prelude.{◌≡◌, refl, Bool, true, false, not, ◌&&◌, ◌⊎◌, ℕ, zero, suc, ◌+◌, ◌-◌, ◌≤◌, ◌<◌, ltb, length, take, drop, Option as Optional, Some, None}
use Rattle.std.proofs.Common.{sym, ap, ◌∙◌, inl, inr, add-zero, arith, length-append, length-take-le, get_or-take, eq-eqb, ne_eqb, ltb-false}
use mathlib.Core.List.{List, [], ◌∷◌, ◌++◌, append_assoc, append-nil}
use Rattle.std.proofs.Math.Logic.{ite}
use Rattle.std.proofs.Math.Option.{Option, none, some}
use Rattle.std.proofs.Math.Decide.{ℕ_discrete}
use Rattle.std.proofs.Math.Seq.{take-length}
use Rattle.std.proofs.lemmas.Bool.{not-true}
use Rattle.records.specs.Gate.RecordRulesLaws.{and_both}
use Rattle.records.specs.Format.Never.{never}
use Rattle.records.specs.Format.Syntax.{Term, Binding, Bet}
use Rattle.records.specs.Format.Syntax.Term.{var}
use Rattle.records.specs.Format.Syntax.Binding.{bind}
use Rattle.records.specs.Format.Syntax.Bet.{unifier, or, by}
use Rattle.records.specs.Gate.RecordRules.{bound, member, rising, rising_from, every, unifier_rules, bet_rules}
use Rattle.records.specs.Format.Heads.{word_at}
use Rattle.terms.specs.declared.pairs.ListedPair.{ListedPair}
use Rattle.terms.specs.Theory.Substitution.{substitute, and_then, as_substitution, apply}
use Rattle.terms.specs.Theory.SubstitutionLaws.{substitute_var, substitute_twice, apply_append}
use Rattle.terms.specs.Standing.BetRow.{bet_pairs}
use Rattle.terms.specs.Values.Entries.{under, PairEntry, entry, own, pair_entries, or_else, last_of, Means, Entered, Entereds, PairTable, PairsListed, FoundPair}

-- S is what it makes of the variables
pub apply_variables : (bets : List Bet) (t : Term) → substitute (λ v. apply bets (var v)) t ≡ apply bets t
unfolding apply
apply_variables [] t = substitute_var t
apply_variables (unifier σ ∷ bets) t =
    sym (substitute_twice (as_substitution σ) (λ v. apply bets (var v)) t) ∙ ap (substitute (as_substitution σ)) (apply_variables bets t)
apply_variables (or h ∷ bets) t = apply_variables bets t
apply_variables (by g ∷ bets) t = apply_variables bets t

-- so the variables become what the lower part makes of them, and then what the upper part does
pub under_append : (upper lower : List Bet) (v : ℕ) → under (upper ++ lower) v ≡ and_then (under lower) (under upper) v
under_append upper lower v = apply_append upper lower (var v) ∙ sym (apply_variables upper (under lower v))

-- the last of two lists, one after the other
or_else_none : (o : Option PairEntry) → or_else none o ≡ o
or_else_none none = refl
or_else_none (some x) = refl

or_else_assoc : (a b c : Option PairEntry) → or_else a (or_else b c) ≡ or_else (or_else a b) c
or_else_assoc a b none = refl
or_else_assoc a b (some x) = refl

pub last_append : (v : ℕ) (l m : List PairEntry) → last_of v (l ++ m) ≡ or_else (last_of v l) (last_of v m)
last_append v [] m = sym (or_else_none (last_of v m))
last_append v (x ∷ l) m =
    ap (or_else (ite (ℕ_discrete v x.variable) (some x) none)) (last_append v l m)
    ∙ or_else_assoc (ite (ℕ_discrete v x.variable) (some x) none) (last_of v l) (last_of v m)

-- one entry
binds_it : (v : ℕ) (x : PairEntry) → x.variable ≡ v → last_of v (x ∷ []) ≡ some x
binds_it v x e = go (ℕ_discrete v x.variable)
  where
    go : (d : Dec (v ≡ x.variable)) → ite d (some x) none ≡ some x
    go (yes p) = refl
    go (no n) = absurd (n (sym e))

binds_another : (v : ℕ) (x : PairEntry) → (x.variable ≡ v → ⊥) → last_of v (x ∷ []) ≡ none
binds_another v x e = go (ℕ_discrete v x.variable)
  where
    go : (d : Dec (v ≡ x.variable)) → ite d (some x) none ≡ none
    go (yes p) = absurd (e (sym p))
    go (no n) = refl

-- looking past a pair with another variable
other_pair : (x v : ℕ) (t : Term) (σ : List Binding) → (v ≡ x → ⊥)
    → (as_substitution (bind x t ∷ σ) v ≡ as_substitution σ v) × (member v (bound (bind x t ∷ σ)) ≡ member v (bound σ))
other_pair x v t σ h = (go (ℕ_discrete v x), rw (ne_eqb v x h))
  where
    go : (d : Dec (v ≡ x)) → ite d t (as_substitution σ v) ≡ as_substitution σ v
    go (yes q) = absurd (h q)
    go (no _) = refl

-- a pair with the variable itself
same_pair : (x v : ℕ) (t : Term) (σ : List Binding) → v ≡ x → (as_substitution (bind x t ∷ σ) v ≡ t) × (member v (bound (bind x t ∷ σ)) ≡ true)
same_pair x v t σ h = (go (ℕ_discrete v x), rw (eq-eqb v x h))
  where
    go : (d : Dec (v ≡ x)) → ite d t (as_substitution σ v) ≡ t
    go (yes q) = refl
    go (no k) = absurd (k h)

-- rising pairs do not bind what is below them
below_free : (σ : List Binding) (low v : ℕ) → v < low → rising_from low (bound σ) ≡ true → member v (bound σ) ≡ false
below_free [] low v h e = refl
below_free (bind x t ∷ σ) low v h e =
    let l : low ≤ x = ltb-false x low (not-true (ltb x low) (and_both (not (ltb x low)) _ e).0) in
    (other_pair x v t σ (λ z. omega arith)).1 ∙ below_free σ (suc x) v (omega arith) (and_both (not (ltb x low)) _ e).1

-- a bet is applied by its pairs
apply_pairs : (b : Bet) (bets : List Bet) (t : Term) → apply (b ∷ bets) t ≡ substitute (as_substitution (bet_pairs b)) (apply bets t)
unfolding apply
apply_pairs (unifier σ) bets t = refl
apply_pairs (or h) bets t = sym (substitute_var (apply bets t))
apply_pairs (by g) bets t = sym (substitute_var (apply bets t))

-- the entries of one bet: what its pairs make of v
abbrev OwnMeans : List Bet → List Binding → ℕ → Option PairEntry → Type 0
OwnMeans above σ v none = as_substitution σ v ≡ var v
OwnMeans above σ v (some x) = (x.above ≡ above) × (as_substitution σ v ≡ x.term) × (member v (bound σ) ≡ true)

own_means : (above : List Bet) (σ : List Binding) (low v : ℕ) → rising_from low (bound σ) ≡ true → OwnMeans above σ v (last_of v (own above σ))
own_means above [] low v r = refl
own_means above (bind y t ∷ σ) low v r = go (last_of v (own above σ)) (own_means above σ (suc y) v rest) (ℕ_discrete v y)
  where
    rest : rising_from (suc y) (bound σ) ≡ true
    rest = (and_both (not (ltb y low)) (rising_from (suc y) (bound σ)) r).1

    go : (o : Option PairEntry) → OwnMeans above σ v o → (d : Dec (v ≡ y))
        → OwnMeans above (bind y t ∷ σ) v (or_else (ite d (some (record { variable = y; term = t; above = above })) none) o)
    go none i (yes e) = let q = same_pair y v t σ e in (refl, q.0, q.1)
    go none i (no n) = (other_pair y v t σ n).0 ∙ i
    go (some x) i (yes e) = never (sym i.2 ∙ below_free σ (suc y) v (omega (arith, e)) rest)
    go (some x) i (no n) = let q = other_pair y v t σ n in (i.0, q.0 ∙ i.1, q.1 ∙ i.2)

bet_rises : (b : Bet) → bet_rules b ≡ true → rising_from 0 (bound (bet_pairs b)) ≡ true
unfolding unifier_rules
bet_rises (unifier σ) r = (and_both (rising (bound σ)) _ r).0
bet_rises (or h) r = refl
bet_rises (by g) r = refl

-- the entries of a bet stack: what S makes of v
abbrev MeansUnder : List Bet → List Bet → ℕ → Option PairEntry → Type 0
MeansUnder above bets v none = apply bets (var v) ≡ var v
MeansUnder above bets v (some x) = apply (above ++ bets) (var v) ≡ apply x.above x.term

last_means : (above bets : List Bet) (v : ℕ) → every bet_rules bets ≡ true → MeansUnder above bets v (last_of v (pair_entries above bets))
unfolding apply pair_entries
last_means above [] v r = refl
last_means above (b ∷ bets) v r =
    rw (last_append v (own above (bet_pairs b)) (pair_entries (above ++ (b ∷ [])) bets))
    (go (last_of v (pair_entries (above ++ (b ∷ [])) bets)) (last_means (above ++ (b ∷ [])) bets v (and_both (bet_rules b) (every bet_rules bets) r).1)
    (last_of v (own above (bet_pairs b))) (own_means above (bet_pairs b) 0 v (bet_rises b (and_both (bet_rules b) (every bet_rules bets) r).0)))
  where
    go : (o : Option PairEntry) → MeansUnder (above ++ (b ∷ [])) bets v o → (q : Option PairEntry) → OwnMeans above (bet_pairs b) v q → MeansUnder above (b ∷ bets) v (or_else q o)
    go (some x) i q j = ap (λ (l : List Bet). apply l (var v)) (sym (append_assoc above (b ∷ []) bets)) ∙ i
    go none i none j = apply_pairs b bets (var v) ∙ ap (substitute (as_substitution (bet_pairs b))) i ∙ j
    go none i (some x) j =
        apply_append above (b ∷ bets) (var v)
        ∙ ap (apply above) (apply_pairs b bets (var v) ∙ ap (substitute (as_substitution (bet_pairs b))) i ∙ j.1)
        ∙ ap (λ (l : List Bet). apply l x.term) (sym j.0)

pub table_means : {s : List ℕ} {listed : List ListedPair} {i : ℕ} (p : PairTable s listed i) (v : ℕ) → Means p.bets v (last_of v (pair_entries [] p.bets))
table_means p v = go (last_of v (pair_entries [] p.bets)) (last_means [] p.bets v p.rules)
  where
    go : (o : Option PairEntry) → MeansUnder [] p.bets v o → Means p.bets v o
    go none i = i
    go (some x) i = i

-- an entry in its place
pub entry_at : (l : List PairEntry) (k : ℕ) → k < length l → (x : PairEntry) × (drop k l ≡ x ∷ drop (suc k) l)
entry_at [] k h = absurd (omega arith)
entry_at (x ∷ l) zero h = (x, refl)
entry_at (x ∷ l) (suc k) h = entry_at l k (omega arith)

take_more : (l : List PairEntry) (k : ℕ) (x : PairEntry) (m : List PairEntry) → drop k l ≡ x ∷ m → take (suc k) l ≡ take k l ++ (x ∷ [])
take_more [] zero x m e = absurd (no_entry x m e)
  where
    no_entry : (x : PairEntry) (m : List PairEntry) → [] ≡ x ∷ m → ⊥
    no_entry x m e = let z = ap length e in omega arith
take_more [] (suc k) x m e = let z = ap length e in absurd (omega arith)
take_more (y ∷ l) zero x m e = ap (λ (z : PairEntry). z ∷ []) (same e)
  where
    same : y ∷ l ≡ x ∷ m → y ≡ x
    same e = cc
take_more (y ∷ l) (suc k) x m e = ap (λ (z : List PairEntry). y ∷ z) (take_more l k x m e)

pub entered_at : (s : List ℕ) (listed : List ListedPair) (l : List PairEntry) (from k : ℕ) (x : PairEntry) (m : List PairEntry) → Entereds s listed from l → drop k l ≡ x ∷ m
    → Entered s (entry listed (from + k)) x
entered_at s listed [] from zero x m h e = let z = ap length e in absurd (omega arith)
entered_at s listed [] from (suc k) x m h e = let z = ap length e in absurd (omega arith)
entered_at s listed (y ∷ l) from zero x m h e = rw (← (same e), add-zero from) h.0
  where
    same : y ∷ l ≡ x ∷ m → y ≡ x
    same e = cc
entered_at s listed (y ∷ l) from (suc k) x m h e =
    let q : from + 1 + k ≡ from + suc k = omega arith in
    rw q at (entered_at s listed l (from + 1) k x m h.1 e)

-- looking for v from the end: no entry from k on binds it
pub record Searching (l : List PairEntry) (v k : ℕ) : Type 0 where
  pub within : k ≤ length l
  pub same : last_of v l ≡ last_of v (take k l)

pub searching_start : (l : List PairEntry) (v : ℕ) → Searching l v (length l)
searching_start l v = record { within = omega arith; same = ap (last_of v) (sym (take-length l)) }

pub searching_none : {l : List PairEntry} {v k : ℕ} → Searching l v k → k ≡ 0 → last_of v l ≡ none
searching_none {l} {v} u e = u.same ∙ ap (λ (n : ℕ). last_of v (take n l)) e

module _ {l : List PairEntry} {v k : ℕ} (u : Searching l v k) (h : 0 < k) where
  -- the entry before k
  pub searched : (x : PairEntry) × (drop (k - 1) l ≡ x ∷ drop (suc (k - 1)) l)
  searched = entry_at l (k - 1) (omega (arith, u.within))

  with_it : last_of v l ≡ or_else (last_of v (take (k - 1) l)) (last_of v (searched.0 ∷ []))
  with_it =
      let e : suc (k - 1) ≡ k = omega arith in
      u.same ∙ ap (λ (n : ℕ). last_of v (take n l)) (sym e) ∙ ap (last_of v) (take_more l (k - 1) searched.0 _ searched.1)
      ∙ last_append v (take (k - 1) l) (searched.0 ∷ [])

  pub searching_found : searched.0.variable ≡ v → last_of v l ≡ some searched.0
  searching_found e = with_it ∙ ap (or_else (last_of v (take (k - 1) l))) (binds_it v searched.0 e)

  pub searching_next : (searched.0.variable ≡ v → ⊥) → Searching l v (k - 1)
  searching_next n = record { within = omega (arith, u.within); same = with_it ∙ ap (or_else (last_of v (take (k - 1) l))) (binds_another v searched.0 n) }

-- entries of a stack whose lower part is m
pub entries_append : (above l m : List Bet) → pair_entries above (l ++ m) ≡ pair_entries above l ++ pair_entries (above ++ l) m
unfolding pair_entries
entries_append above [] m = ap (λ (a : List Bet). pair_entries a m) (sym (append-nil above))
entries_append above (b ∷ l) m =
    ap (λ (z : List PairEntry). own above (bet_pairs b) ++ z) (entries_append (above ++ (b ∷ [])) l m
    ∙ ap (λ (a : List Bet). pair_entries (above ++ (b ∷ [])) l ++ pair_entries a m) (append_assoc above (b ∷ []) l))
    ∙ sym (append_assoc (own above (bet_pairs b)) (pair_entries (above ++ (b ∷ [])) l) (pair_entries (above ++ (b ∷ l)) m))

pub own_length : (above : List Bet) (σ : List Binding) → length (own above σ) ≡ length σ
own_length above [] = refl
own_length above (bind x t ∷ σ) = ap suc (own_length above σ)

one_more : (above : List Bet) (b : Bet) → length (pair_entries [] (above ++ (b ∷ []))) ≡ length (pair_entries [] above) + length (bet_pairs b)
unfolding pair_entries
one_more above b =
    ap length (entries_append [] above (b ∷ [])) ∙ length-append (pair_entries [] above) (own above (bet_pairs b) ++ [])
    ∙ ap (λ (n : ℕ). length (pair_entries [] above) + n) (ap length (append-nil (own above (bet_pairs b))) ∙ own_length above (bet_pairs b))

-- where an entry stands, its bet's entries start at or before it, and the bets above it are the upper part of the stack
pub record Located (above bets : List Bet) (k : ℕ) (x : PairEntry) : Type 0 where
  pub rest : List Bet
  pub split : above ++ bets ≡ x.above ++ rest
  pub early : length (pair_entries [] x.above) ≤ length (pair_entries [] above) + k

in_own : (above : List Bet) (σ : List Binding) (m : List PairEntry) (k : ℕ) (x : PairEntry) (n : List PairEntry) → drop k (own above σ ++ m) ≡ x ∷ n
    → (x.above ≡ above) ⊎ ((j : ℕ) × (k ≡ length σ + j) × (drop j m ≡ x ∷ n))
in_own above [] m k x n e = inr (k, omega arith, e)
in_own above (bind y t ∷ σ) m zero x n e = inl (ap (λ (z : PairEntry). z.above) (sym (same e)))
  where
    same : record { variable = y; term = t; above = above } ∷ (own above σ ++ m) ≡ x ∷ n → record { variable = y; term = t; above = above } ≡ x
    same e = cc
in_own above (bind y t ∷ σ) m (suc k) x n e = go (in_own above σ m k x n e)
  where
    go : (x.above ≡ above) ⊎ ((j : ℕ) × (k ≡ length σ + j) × (drop j m ≡ x ∷ n)) → (x.above ≡ above) ⊎ ((j : ℕ) × (suc k ≡ suc (length σ) + j) × (drop j m ≡ x ∷ n))
    go (inl i) = inl i
    go (inr i) = inr (i.0, omega (arith, i.1), i.2)

pub located : (above bets : List Bet) (k : ℕ) (x : PairEntry) (n : List PairEntry) → drop k (pair_entries above bets) ≡ x ∷ n → Located above bets k x
unfolding pair_entries
located above [] zero x n e = let z = ap length e in absurd (omega arith)
located above [] (suc k) x n e = let z = ap length e in absurd (omega arith)
located above (b ∷ bets) k x n e = go (in_own above (bet_pairs b) (pair_entries (above ++ (b ∷ [])) bets) k x n e) (λ j f. located (above ++ (b ∷ [])) bets j x n f)
  where
    go : (x.above ≡ above) ⊎ ((j : ℕ) × (k ≡ length (bet_pairs b) + j) × (drop j (pair_entries (above ++ (b ∷ [])) bets) ≡ x ∷ n))
        → ((j : ℕ) → drop j (pair_entries (above ++ (b ∷ [])) bets) ≡ x ∷ n → Located (above ++ (b ∷ [])) bets j x) → Located above (b ∷ bets) k x
    go (inl i) below = record { rest = b ∷ bets; split = ap (λ (a : List Bet). a ++ (b ∷ bets)) (sym i); early = omega (arith, ap (λ (a : List Bet). length (pair_entries [] a)) i) }
    go (inr i) below =
        let w = below i.0 i.2 in
        record { rest = w.rest; split = sym (append_assoc above (b ∷ []) bets) ∙ w.split; early = omega (arith, w.early, one_more above b, i.1) }

-- the table of the bets above an entry
pub entereds_front : (s : List ℕ) (listed : List ListedPair) (l m : List PairEntry) (from : ℕ) → Entereds s listed from (l ++ m) → Entereds s listed from l
entereds_front s listed [] m from h = tt
entereds_front s listed (x ∷ l) m from h = (h.0, entereds_front s listed l m (from + 1) h.1)

pub every_front : (l m : List Bet) → every bet_rules (l ++ m) ≡ true → every bet_rules l ≡ true
every_front [] m r = refl
every_front (b ∷ l) m r = go (bet_rules b) (and_both (bet_rules b) (every bet_rules (l ++ m)) r).0 (every_front l m (and_both (bet_rules b) (every bet_rules (l ++ m)) r).1)
  where
    go : (c : Bool) → c ≡ true → every bet_rules l ≡ true → (c && every bet_rules l) ≡ true
    go true e f = f
    go false e f = e

module _ {s : List ℕ} {listed : List ListedPair} {i : ℕ} (p : PairTable s listed i) {k : ℕ} {x : PairEntry} {n : List PairEntry} (e : drop k (pair_entries [] p.bets) ≡ x ∷ n) (h : k < i) where
  pub entry_entered : Entered s (entry listed k) x
  entry_entered = let q : 0 + k ≡ k = omega arith in rw q at (entered_at s listed (pair_entries [] p.bets) 0 k x n p.entered e)

  -- it has fewer entries
  pub above_fewer : (entry listed k).first < i
  unfolding pair_entries
  above_fewer = omega (arith, entry_entered.before, (located [] p.bets k x n e).early)

  abbrev pub above_table : PairTable s listed (entry listed k).first
  above_table =
      let w = located [] p.bets k x n e in
      let q : pair_entries [] p.bets ≡ pair_entries [] x.above ++ pair_entries x.above w.rest = ap (pair_entries []) w.split ∙ entries_append [] x.above w.rest in
      record {
        bets = x.above;
        rules = every_front x.above w.rest (rw w.split at p.rules);
        count = sym entry_entered.before;
        entered = entereds_front s listed (pair_entries [] x.above) (pair_entries x.above w.rest) 0 (rw q at p.entered);
        held = omega (arith, above_fewer, p.held);
      }

-- the table cut off behind its pairs
pub entereds_taken : (s : List ℕ) (listed : List ListedPair) (i from : ℕ) (l : List PairEntry) → from + length l ≤ i → Entereds s listed from l → Entereds s (take i listed) from l
entereds_taken s listed i from [] h e = tt
entereds_taken s listed i from (x ∷ l) h e =
    let q : from < i = omega arith in
    (rw (get_or-take i listed from (record { place = 0; first = 0 }) q) e.0, entereds_taken s listed i (from + 1) l (omega arith) e.1)

abbrev pub table_taken : {s : List ℕ} {listed : List ListedPair} {i : ℕ} → PairTable s listed i → PairTable s (take i listed) (length (take i listed))
table_taken {s} {listed} {i} p = record {
  bets = p.bets;
  rules = p.rules;
  count = p.count ∙ sym (length-take-le i listed p.held);
  entered = entereds_taken s listed i 0 (pair_entries [] p.bets) (omega (arith, p.count)) p.entered;
  held = omega arith;
}

pub listed_taken : {bets : List Bet} {s : List ℕ} {listed : List ListedPair} {i : ℕ} → PairsListed bets s listed i → PairsListed bets s (take i listed) (length (take i listed))
listed_taken l = record { table = table_taken l.table; are = l.are; formed = l.formed }

-- for code that looks for v in a table from the end
module _ {s : List ℕ} {listed : List ListedPair} {i : ℕ} (p : PairTable s listed i) where
  pub find_start : (v : ℕ) → Searching (pair_entries [] p.bets) v i
  find_start v = rw p.count at (searching_start (pair_entries [] p.bets) v)

  module _ {v k : ℕ} (u : Searching (pair_entries [] p.bets) v k) where
    pub find_none : k ≡ 0 → FoundPair p.bets i v None
    find_none e = record { found = λ i. never cc; none_binds = λ i. searching_none u e }

    module _ (h : 0 < k) {w : Optional ℕ} (is : w ≡ word_at s (entry listed (k - 1)).place) where
      stands_there : word_at s (entry listed (k - 1)).place ≡ Some (searched u h).0.variable
      stands_there = (entry_entered p {k = k - 1} (searched u h).1 (omega (arith, u.within, p.count))).number

      pub find_number : w ≡ None → ⊥
      find_number e = let q = stands_there in never cc

      module _ {x : ℕ} (e : w ≡ Some x) where
        same_number : (searched u h).0.variable ≡ x
        same_number = let q = stands_there in cc

        pub find_found : x ≡ v → FoundPair p.bets i v (Some (k - 1))
        find_found q = record { found = λ r. moved (AtSame r); none_binds = λ r. never cc }
          where
            AtSame : {j : ℕ} → Some (k - 1) ≡ Some j → k - 1 ≡ j
            AtSame r = cc

            moved : {j : ℕ} → k - 1 ≡ j
                → (j < i) × ((y : PairEntry) × (drop j (pair_entries [] p.bets) ≡ y ∷ drop (suc j) (pair_entries [] p.bets)) × (last_of v (pair_entries [] p.bets) ≡ some y))
            moved r = rw (← r) (omega (arith, u.within, p.count), ((searched u h).0, (searched u h).1, searching_found u h (same_number ∙ q)))

        pub find_next : (x ≡ v → ⊥) → Searching (pair_entries [] p.bets) v (k - 1)
        find_next n = searching_next u h (λ z. n (sym same_number ∙ z))

-- Laws of groups: what a group starts with; and that entries picked one after the other are those of each predicate in turn.
use Rattle.std.specs.Prelude.{◌≡◌, Bool, true, false, cond, ℕ, suc, ◌+◌, ◌*◌, ◌-◌, ◌≤◌, ◌<◌, zero, take, drop, get_or}
use Rattle.std.proofs.Math.Path.{refl, sym, ap, subst}
use Rattle.std.proofs.Common.{◌∙◌, inl, inr, arith, length-append, length-drop, drop-cons, drop-drop, take_at, drop_at}
use mathlib.Core.List.{List, [], ◌∷◌, ◌++◌}
use Rattle.std.proofs.Math.Dec.{eqb}
use Rattle.std.proofs.Math.ListN.{length}
use Rattle.std.specs.List.{All as Each, AllByRecursion, IsChunkByPrefix, IsDistinct}
use Rattle.std.proofs.lemmas.Bool.{eqb-false}
use Rattle.std.proofs.lemmas.List.Elements.{All-cons}
use borrow.Author.Tests.{eq-eqb, ne_eqb, eqb-true}
use Rattle.records.specs.Format.Syntax.{Clause}
use Rattle.records.specs.Format.Syntax.Clause.{clause}
use Rattle.records.specs.Format.Encode.{each, clause_bytes}
use Rattle.records.specs.Format.Formed.{All, ClauseFormed}
use Rattle.records.specs.Ends.Stands.{Stands}
use Rattle.records.specs.Ends.StandsLaws.{stands_first, stands_second, stands_within}
use Rattle.terms.specs.Theory.Variables.{Among}
use Rattle.terms.specs.Theory.VariablesLaws.{among_left, among_right, among_either}
use Rattle.terms.specs.Theory.TestLaws.{all_among}
use Rattle.canonical.specs.Form.Canonical.{Predicate, predicate_of, same_predicate, clauses_of}
use Rattle.canonical.specs.Form.PredicateLaws.{rank, predicate_ranks, ArityFits, rank_same, Rising}
use Rattle.canonical.specs.Sorting.Entries.{clause_at, ClauseAt, clause_entry, clause_entries, entry_key, entry_place, clauses_in}
use Rattle.canonical.specs.Sorting.EntryLaws.{clause_at_is, clause_at_stands}
use Rattle.canonical.specs.Sorting.Picking.{entry_limit, picked}
use Rattle.canonical.specs.Sorting.PickingLaws.{Ascending, picked_ascending}
use Rattle.canonical.specs.Sorting.Groups.{group_length, with_key, by_predicate, one_key, NextGroup}

-- the longest run of entries with one key, as the library cuts it off
run_length : (k : ℕ) (l : List ℕ) (n : ℕ) → n < length l → entry_key (get_or l 0 0) ≡ k → IsChunkByPrefix one_key l (suc n) → suc n ≡ group_length k l
unfolding group_length
run_length k [] n h e w = absurd (omega arith)
run_length k (x ∷ []) zero h e w = rw (e, eq-eqb k k refl) refl
run_length k (x ∷ y ∷ l) zero h e w =
    let no : eqb (entry_key x) (entry_key y) ≡ false = w.1 (omega arith) 0 in
    rw (e, eq-eqb k k refl, ne_eqb (entry_key y) k (λ h. eqb-false (entry_key x) (entry_key y) no (e ∙ sym h))) refl
run_length k (x ∷ []) (suc n) h e w = absurd (omega arith)
run_length k (x ∷ y ∷ l) (suc n) h e w =
    let same : entry_key y ≡ k = sym (eqb-true (entry_key x) (entry_key y) (w.0 0 0 (omega arith))) ∙ e in
    let next : (i : ℕ) → suc i + 1 ≡ suc (i + 1) = λ i. omega arith in
    let last : suc (suc n) - 1 ≡ suc (suc n - 1) = omega arith in
    let more =
    run_length k (y ∷ l) n (omega arith) same (
      λ i d b. subst (λ (j : ℕ). one_key (get_or (y ∷ l) i d) (get_or (x ∷ y ∷ l) j d) ≡ true) (next i) (w.0 (suc i) d (omega arith)),
      λ b d. subst (λ (j : ℕ). one_key (get_or (x ∷ y ∷ l) j d) (get_or (y ∷ l) (suc n) d) ≡ false) last (w.1 (omega arith) d),
    ) in
    rw (e, eq-eqb k k refl) (ap suc more)

pub chunk_next : {P Q : (ℕ → ℕ → Bool) → Type 0} {t rest group later : List ℕ} {i : ℕ} → rest ≡ drop i t
    → (rest ≡ group ++ later) × (0 < length group) × ((e : ℕ → ℕ → Bool) → P e → Q e × IsChunkByPrefix e rest (length group)) → P one_key
    → NextGroup t i group later (i + length group)
chunk_next {t = t} {rest = rest} {group = group} {later = later} {i = i} at step p =
    let split = step.0 in
    let some = step.1 in
    let run = (step.2 one_key p).1 in
    let whole : drop i t ≡ group ++ later = sym at ∙ split in
    let size = ap length whole in
    let total = length-append group later in
    let left = length-drop i t in
    let more : i < length t = omega arith in
    let n : i + length group - i ≡ length group = omega arith in
    let m : suc (length group - 1) ≡ length group = omega arith in
    let first = ap (λ (l : List ℕ). entry_key (get_or l 0 0)) (drop-cons t i 0 more) in
    let long = run_length (entry_key (get_or t i 0)) (drop i t) (length group - 1) (omega arith) first (rw m (rw at at run)) in
    record {
      more = more;
      ends = ap (λ (k : ℕ). i + k) (sym m ∙ long);
      is = sym (ap (take (i + length group - i)) whole ∙ take_at group later (i + length group - i) (sym n));
      later_is = sym (sym (drop-drop (length group) i t) ∙ ap (drop (length group)) whole ∙ drop_at group later (length group) refl);
    }

-- places rise from p on, and entries are below the limit, as they stand in a record
abbrev pub PlacesRise : ℕ → List ℕ → Type 0
PlacesRise p [] = Unit {0}
PlacesRise p (e ∷ l) = (p ≤ entry_place e) × (e < entry_limit) × PlacesRise (suc (entry_place e)) l

-- such entries differ
rise_differ : (e p : ℕ) (l : List ℕ) → entry_place e < p → PlacesRise p l → AllByRecursion (λ v. eqb e v ≡ false) l
rise_differ e p [] h r = tt
rise_differ e p (v ∷ l) h r = (ne_eqb e v (λ i. omega (arith, ap entry_place i, r.0)), rise_differ e (suc (entry_place v)) l (omega (arith, r.0)) r.2)

pub rise_distinct : (p : ℕ) (l : List ℕ) → PlacesRise p l → IsDistinct eqb l
unfolding IsDistinct
rise_distinct p [] r = tt
rise_distinct p (e ∷ l) r = (rise_differ e (suc (entry_place e)) l (omega arith) r.2, rise_distinct (suc (entry_place e)) l r.2)

pub rise_below : (p : ℕ) (l : List ℕ) → PlacesRise p l → Each (λ e. e < entry_limit) l
rise_below p [] r = λ k d h. absurd (omega arith)
rise_below p (e ∷ l) r = All-cons (λ e. e < entry_limit) e l r.1 (rise_below (suc (entry_place e)) l r.2)

ascending_weaker : (low high : ℕ) (l : List ℕ) → low ≤ high → Ascending high l → Ascending low l
ascending_weaker low high [] b h = tt
ascending_weaker low high (x ∷ l) b h = (omega (arith, h.0), h.1, h.2)

-- entries with one key rise by place, in front of such with higher keys
with_ascends : (k p low : ℕ) (l m : List ℕ) → PlacesRise p l → low ≤ k * 65536 + p → low ≤ suc k * 65536 → Ascending (suc k * 65536) m
    → Ascending low (with_key k l ++ m)
with_ascends k p low [] m h a b r = ascending_weaker low (suc k * 65536) m b r
with_ascends k p low (e ∷ l) m h a b r =
    go (eqb (entry_key e) k) refl (λ next c d. with_ascends k (suc (entry_place e)) next l m h.2 c d r)
  where
    go : (t : Bool) → eqb (entry_key e) k ≡ t
        → ((next : ℕ) → next ≤ k * 65536 + suc (entry_place e) → next ≤ suc k * 65536 → Ascending next (with_key k l ++ m))
        → Ascending low (cond t (e ∷ with_key k l) (with_key k l) ++ m)
    go true i later =
        let n : entry_key e ≡ k = eqb-true (entry_key e) k i in
        (omega (arith, h.0), h.1, later (suc e) (omega arith) (omega arith))
    go false i later = later low (omega (arith, h.0)) b

pub by_ascends : (low p : ℕ) (xs : List Predicate) (l : List ℕ) → Rising low xs → PlacesRise p l → Ascending (low * 65536) (by_predicate xs l)
by_ascends low p [] l r h = tt
by_ascends low p (x ∷ xs) l r h =
    with_ascends (rank x) p (low * 65536) l (by_predicate xs l) h (omega (arith, r.0)) (omega (arith, r.0)) (by_ascends (suc (rank x)) p xs l r.1 h)

-- they are entries of the list,
with_back : (k : ℕ) (l : List ℕ) (v : ℕ) → Among v (with_key k l) → Among v l
with_back k [] v m = m
with_back k (e ∷ l) v m = go (eqb (entry_key e) k) m (with_back k l v)
  where
    go : (t : Bool) → Among v (cond t (e ∷ with_key k l) (with_key k l)) → (Among v (with_key k l) → Among v l) → Among v (e ∷ l)
    go true (inl i) later = inl i
    go true (inr i) later = inr (later i)
    go false i later = inr (later i)

by_back : (xs : List Predicate) (l : List ℕ) (v : ℕ) → Among v (by_predicate xs l) → Among v l
by_back [] l v m = absurd m
by_back (x ∷ xs) l v m = elim (among_either v (with_key (rank x) l) (by_predicate xs l) m) [
  | inl i ↦ with_back (rank x) l v i
  | inr i ↦ by_back xs l v i
]

-- and all whose keys are ranks of the predicates
with_to : (k : ℕ) (l : List ℕ) (v : ℕ) → entry_key v ≡ k → Among v l → Among v (with_key k l)
with_to k [] v e m = m
with_to k (w ∷ l) v e (inl i) = rw (eq-eqb (entry_key w) k (ap entry_key (sym i) ∙ e)) (inl i)
with_to k (w ∷ l) v e (inr i) = go (eqb (entry_key w) k) (with_to k l v e i)
  where
    go : (t : Bool) → Among v (with_key k l) → Among v (cond t (w ∷ with_key k l) (with_key k l))
    go true later = inr later
    go false later = later

by_to : (xs : List Predicate) (l : List ℕ) (v : ℕ) → Among (entry_key v) (predicate_ranks xs) → Among v l → Among v (by_predicate xs l)
by_to [] l v e m = absurd e
by_to (x ∷ xs) l v (inl e) m = among_left v (with_key (rank x) l) (by_predicate xs l) (with_to (rank x) l v e m)
by_to (x ∷ xs) l v (inr e) m = among_right v (with_key (rank x) l) (by_predicate xs l) (by_to xs l v e m)

-- an entry is among those of one predicate only
rank_from : (low : ℕ) (xs : List Predicate) (k : ℕ) → Rising low xs → Among k (predicate_ranks xs) → low ≤ k
rank_from low [] k r m = absurd m
rank_from low (x ∷ xs) k r (inl e) = omega (arith, r.0)
rank_from low (x ∷ xs) k r (inr m) = omega (arith, r.0, rank_from (suc (rank x)) xs k r.1 m)

by_below : (low : ℕ) (xs : List Predicate) (e : ℕ) (l : List ℕ) → Rising low xs → entry_key e < low → by_predicate xs (e ∷ l) ≡ by_predicate xs l
by_below low [] e l r h = refl
by_below low (x ∷ xs) e l r h =
    rw (ne_eqb (entry_key e) (rank x) (λ i. omega (arith, r.0))) (ap (λ (m : List ℕ). with_key (rank x) l ++ m) (by_below (suc (rank x)) xs e l r.1 (omega (arith, r.0))))

by_more : (low : ℕ) (xs : List Predicate) (e : ℕ) (l : List ℕ) → Rising low xs → Among (entry_key e) (predicate_ranks xs)
    → length (by_predicate xs (e ∷ l)) ≡ suc (length (by_predicate xs l))
by_more low [] e l r m = absurd m
by_more low (x ∷ xs) e l r (inl i) =
    rw (eq-eqb (entry_key e) (rank x) i) (ap (λ (m : List ℕ). suc (length (with_key (rank x) l ++ m))) (by_below (suc (rank x)) xs e l r.1 (omega arith)))
by_more low (x ∷ xs) e l r (inr m) =
    rw (ne_eqb (entry_key e) (rank x) (λ i. omega (arith, rank_from (suc (rank x)) xs (entry_key e) r.1 m)))
    (omega (
      arith,
      by_more (suc (rank x)) xs e l r.1 m,
      length-append (with_key (rank x) l) (by_predicate xs (e ∷ l)),
      length-append (with_key (rank x) l) (by_predicate xs l),
    ))

pub by_length : (low : ℕ) (xs : List Predicate) (l : List ℕ) → Rising low xs → All (λ e. Among (entry_key e) (predicate_ranks xs)) l
    → length (by_predicate xs l) ≡ length l
by_length low xs [] r h = none xs
  where
    none : (ys : List Predicate) → length (by_predicate ys []) ≡ 0
    none [] = refl
    none (y ∷ ys) = none ys
by_length low xs (e ∷ l) r h = by_more low xs e l r h.0 ∙ ap suc (by_length low xs l r h.1)

-- so picking the entries one after the other gives those of each predicate in turn
pub picked_by_predicate : (low p : ℕ) (xs : List Predicate) (l : List ℕ) → Rising low xs → PlacesRise p l → All (λ e. Among (entry_key e) (predicate_ranks xs)) l
    → picked (length l) 0 l ≡ by_predicate xs l
picked_by_predicate low p xs l r w h =
    ap (λ (n : ℕ). picked n 0 l) (sym (by_length low xs l r h))
    ∙ picked_ascending l (by_predicate xs l) 0 (ascending_weaker 0 (low * 65536) (by_predicate xs l) (omega arith) (by_ascends low p xs l r w)) (by_back xs l)
    (λ v m b. by_to xs l v (all_among (λ e. Among (entry_key e) (predicate_ranks xs)) l h v m) m)

-- what holds of each entry holds of each with a key, which has that key
pub all_with : (Φ : ℕ → Type 0) (k : ℕ) (l : List ℕ) → All Φ l → All (λ e. Φ e × (entry_key e ≡ k)) (with_key k l)
all_with Φ k [] h = tt
all_with Φ k (e ∷ l) h = go (eqb (entry_key e) k) refl (all_with Φ k l h.1)
  where
    go : (t : Bool) → eqb (entry_key e) k ≡ t → All (λ e. Φ e × (entry_key e ≡ k)) (with_key k l)
        → All (λ e. Φ e × (entry_key e ≡ k)) (cond t (e ∷ with_key k l) (with_key k l))
    go true i later = ((h.0, eqb-true (entry_key e) k i), later)
    go false i later = later

-- the group that they start with is the first predicate's entries
pub group_first : (k : ℕ) (l m : List ℕ) → Ascending (suc k * 65536) m → group_length k (with_key k l ++ m) ≡ length (with_key k l)
unfolding group_length
group_first k [] [] r = refl
group_first k [] (e ∷ m) r = rw (ne_eqb (entry_key e) k (λ i. omega (arith, r.0)))
group_first k (e ∷ l) m r = go (eqb (entry_key e) k) refl (group_first k l m r)
  where
    go : (t : Bool) → eqb (entry_key e) k ≡ t → group_length k (with_key k l ++ m) ≡ length (with_key k l)
        → group_length k (cond t (e ∷ with_key k l) (with_key k l) ++ m) ≡ length (cond t (e ∷ with_key k l) (with_key k l))
    go true i later = rw i (ap suc later)
    go false i later = later

places_weaker : (low high : ℕ) (l : List ℕ) → low ≤ high → PlacesRise high l → PlacesRise low l
places_weaker low high [] b h = tt
places_weaker low high (e ∷ l) b h = (omega (arith, h.0), h.1, h.2)

-- entries as they stand in a record: their places rise, each names a clause, and its key is the rank of one of the predicates xs
pub record ClausesEntered (s : List ℕ) (xs : List Predicate) (at : ℕ) (l : List ℕ) : Type 0 where
  pub rise : PlacesRise at l
  pub named : All (λ e. ClauseAt s (entry_place e)) l
  pub ranked : All (λ e. Among (entry_key e) (predicate_ranks xs)) l

-- the entry of a clause tells its rank and where it stands
entry_parts : {s : List ℕ} {at e : ℕ} (c : Clause) → ClauseFormed c → length s ≤ 32768 → Stands s at (clause_bytes c) e
    → (entry_place (clause_entry at c) ≡ at) × (entry_key (clause_entry at c) ≡ rank (predicate_of c)) × (clause_entry at c < entry_limit) × (at < e) × ArityFits (predicate_of c)
entry_parts (clause p v ts g) f short w =
    let x = stands_within w (omega arith) in
    let n = f.0 in
    let m = f.1 in
    (omega (arith, x.0, x.1), omega (arith, x.0, x.1), omega (arith, x.0, x.1), x.0, omega arith)

clauses_head : (s : List ℕ) (b : Bool) (e : ℕ) (l : List ℕ) (c : Clause) (cs : List Clause) → clause_at s (entry_place e) ≡ c → clauses_in s l ≡ cs
    → clauses_in s (cond b (e ∷ l) l) ≡ cond b (c ∷ cs) cs
unfolding clauses_in
clauses_head s true e l c cs q i = rw (q, i)
clauses_head s false e l c cs q i = i

module _ (s : List ℕ) (short : length s ≤ 32768) where
  -- clauses that stand one after the other are entered
  pub clauses_entered : (xs : List Predicate) (at e : ℕ) (cs : List Clause) → All ClauseFormed cs → All (λ c. Among (rank (predicate_of c)) (predicate_ranks xs)) cs
      → Stands s at (each clause_bytes cs) e → ClausesEntered s xs at (clause_entries at cs)
  unfolding clause_entries
  clauses_entered xs at e [] f r w = record { rise = tt; named = tt; ranked = tt }
  clauses_entered xs at e (c ∷ cs) f r w =
      let one = stands_first (clause_bytes c) (each clause_bytes cs) w in
      let x = entry_parts c f.0 short one in
      let i = clauses_entered xs (at + length (clause_bytes c)) e cs f.1 r.1 (stands_second (clause_bytes c) (each clause_bytes cs) w) in
      record {
        rise = (
          omega (arith, x.0),
          x.2,
          places_weaker (suc (entry_place (clause_entry at c))) (at + length (clause_bytes c)) (clause_entries (at + length (clause_bytes c)) cs) (omega (arith, x.0, x.3)) i.rise,
        );
        named = (rw x.0 (clause_at_stands c f.0 one), i.named);
        ranked = (rw x.1 r.0, i.ranked);
      }

  -- those with a predicate's rank name its clauses
  pub own_clauses : (x : Predicate) → ArityFits x → (at e : ℕ) (cs : List Clause) → All ClauseFormed cs → Stands s at (each clause_bytes cs) e
      → clauses_in s (with_key (rank x) (clause_entries at cs)) ≡ clauses_of x cs
  unfolding clause_entries clauses_in
  own_clauses x fits at e [] f w = refl
  own_clauses x fits at e (c ∷ cs) f w =
      let one = stands_first (clause_bytes c) (each clause_bytes cs) w in
      let y = entry_parts c f.0 short one in
      let same : eqb (entry_key (clause_entry at c)) (rank x) ≡ same_predicate x (predicate_of c) =
      ap (λ (k : ℕ). eqb k (rank x)) y.1 ∙ rank_same x (predicate_of c) fits y.4 in
      rw same (clauses_head s (same_predicate x (predicate_of c)) (clause_entry at c) (with_key (rank x) (clause_entries (at + length (clause_bytes c)) cs)) c (clauses_of x cs)
      (ap (clause_at s) y.0 ∙ clause_at_is c f.0 one)
      (own_clauses x fits (at + length (clause_bytes c)) e cs f.1 (stands_second (clause_bytes c) (each clause_bytes cs) w)))

pub entries_many : (at : ℕ) (cs : List Clause) → length (clause_entries at cs) ≡ length cs
unfolding clause_entries
entries_many at [] = refl
entries_many at (c ∷ cs) = ap suc (entries_many (at + length (clause_bytes c)) cs)

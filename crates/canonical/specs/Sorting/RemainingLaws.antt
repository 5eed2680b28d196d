-- Laws of the definitions that sorted entries still have to make: an accepted record's entries, picked one after the other, have its whole program
-- to make, the next group makes the next definition, and at the end there is none.
use Rattle.std.specs.Prelude.{◌≡◌, refl, List, [], ◌∷◌, ◌++◌, ℕ, suc, ◌+◌, ◌-◌, ◌*◌, ◌≤◌, ◌<◌, length, take, drop, get_or, eqb, Option, Some, None}
use Rattle.std.specs.List.{All as Each, IsDistinct}
use Rattle.std.proofs.Common.{sym, ◌∙◌, arith, length-append, length-take, length-drop, drop_of_length-le, drop-cons, drop-drop, take_at, drop_at}
use Rattle.std.proofs.Math.Path.{ap}
use Rattle.records.specs.Format.Never.{never}
use Rattle.records.specs.Format.Syntax.{Definition, Clause, arity}
use Rattle.records.specs.Format.Syntax.Clause.{clause}
use Rattle.records.specs.Format.Encode.{word, each, counted, terms_bytes, goal_bytes, clause_bytes, record_of}
use Rattle.records.specs.Format.Formed.{All, Counted, ClauseFormed}
use Rattle.records.specs.Gate.RecordRules.{clauses_rules}
use Rattle.records.specs.Format.Heads.{word_at}
use Rattle.records.specs.Format.HeadLaws.{Known, bytes_all}
use Rattle.records.specs.Gate.Gate.{Reading, refused, tree, Accepted, read_clauses}
use Rattle.records.specs.Gate.GateLaws.{RecordOf, clauses_tree}
use Rattle.records.specs.Ends.EndLaws.{goal_long}
use Rattle.records.specs.Ends.Stands.{Stands}
use Rattle.records.specs.Ends.StandsLaws.{body_stands, stands_second, word_stands}
use Rattle.canonical.specs.Form.Canonical.{Predicate, predicate, predicate_of, predicates, clauses_of, defined_by, if_any, definitions, canonical}
use Rattle.canonical.specs.Form.PredicateLaws.{rank, ArityFits, Rising, all_predicates, all_ranked, predicates_rise, all_clauses_of}
use Rattle.canonical.specs.Form.FormedLaws.{arities_fit}
use Rattle.canonical.specs.Sorting.Entries.{ClauseAt, ClausesAt, clause_entries, record_entries, entry_key, entry_place, clauses_in, GroupAt}
use Rattle.canonical.specs.Sorting.EntryLaws.{clauses_length}
use Rattle.canonical.specs.Sorting.Picking.{picked, entry_limit}
use Rattle.canonical.specs.Sorting.Groups.{group_length, with_key, by_predicate}
use Rattle.canonical.specs.Sorting.GroupLaws.{PlacesRise, rise_distinct, rise_below, by_ascends, by_length, picked_by_predicate, all_with, group_first, ClausesEntered, clauses_entered, own_clauses, entries_many}
use Rattle.canonical.specs.Sorting.Remaining.{clauses_or_none, record_clauses, program_of, clauses_between, Remaining}
use Rattle.canonical.specs.Writing.Definition.{group_definition}

-- a clause record's entries
module _ {s : List ℕ} {n : ℕ} (a : ClausesAt s n) where
  entered : ClausesEntered s (predicates a.clauses) 5 (record_entries a)
  entered = clauses_entered s a.short (predicates a.clauses) 5 a.end a.clauses a.formed (all_ranked a.clauses) a.stand

  with_clauses : (x : Predicate) → ArityFits x → clauses_in s (with_key (rank x) (record_entries a)) ≡ clauses_of x a.clauses
  with_clauses x fits = own_clauses s a.short x fits 5 a.end a.clauses a.formed a.stand

  -- a predicate without entries has no definition
  no_entries : (x : Predicate) → ArityFits x → (xs : List Predicate) → with_key (rank x) (record_entries a) ≡ []
      → definitions (x ∷ xs) a.clauses ≡ definitions xs a.clauses
  unfolding clauses_in
  no_entries (predicate p m) fits xs e = rw (sym (with_clauses (predicate p m) fits) ∙ ap (clauses_in s) e)

  -- picked one after the other, they have the whole program to make
  remaining_start : length a.clauses ≤ 32768 → Remaining s (picked (length (record_entries a)) 0 (record_entries a)) 0 (canonical a.clauses)
  unfolding canonical
  remaining_start few =
      let rises = predicates_rise a.clauses (arities_fit a.clauses a.formed) in
      rw (picked_by_predicate 0 5 (predicates a.clauses) (record_entries a) rises entered.rise entered.ranked) (record {
        count = n;
        at = a;
        predicates = predicates a.clauses;
        low = 0;
        rises = rises;
        small = all_predicates ArityFits a.clauses (arities_fit a.clauses a.formed);
        is = refl;
        make = refl;
        few = omega (arith, by_length 0 (predicates a.clauses) (record_entries a) rises entered.ranked, entries_many 5 a.clauses);
        within = omega arith;
      })

-- the group that starts at i and ends at j makes the first of the definitions ds
pub record Group (s t : List ℕ) (i j : ℕ) (ds : List Definition) : Type 0 where
  pub rest : List Definition
  pub makes : ds ≡ group_definition (clauses_between s t i j) ∷ rest
  pub group : GroupAt s (take (j - i) (drop i t))
  pub long : length (take (j - i) (drop i t)) ≡ j - i
  pub forth : i < j
  pub within : j ≤ length t
  pub onward : Remaining s t j rest

-- a predicate's definition is the one that its clauses make
made_by : (x : Predicate) (gs : List Clause) (ds : List Definition) → 0 < length gs → All (λ c. ClauseFormed c × (x ≡ predicate_of c)) gs
    → if_any (defined_by x gs) ds ≡ group_definition gs ∷ ds
unfolding group_definition
made_by x [] ds h a = absurd (omega arith)
made_by (predicate p n) (clause q v ts g ∷ gs) ds h a =
    let e : predicate p n ≡ predicate q (arity ts) = a.0.1 in
    let i : p ≡ q = cc in
    let j : n ≡ arity ts = cc in
    rw (i, j)

each_entry : (Φ : ℕ → Type 0) (k : ℕ) (l : List ℕ) → All (λ e. Φ e × (entry_key e ≡ k)) l → All Φ l
each_entry Φ k [] h = tt
each_entry Φ k (e ∷ l) h = (h.0.0, each_entry Φ k l h.1)

module _ {s t : List ℕ} {i : ℕ} {ds : List Definition} (m : Remaining s t i ds) where
  module _ (h : i < length t) {j : ℕ} (is : j ≡ i + group_length (entry_key (get_or t i 0)) (drop i t)) where
    -- with x the first predicate that has entries, and e the first of them
    group_with : (low : ℕ) (x : Predicate) (xs : List Predicate) (e : ℕ) (l : List ℕ) → Rising low (x ∷ xs) → All ArityFits (x ∷ xs)
        → with_key (rank x) (record_entries m.at) ≡ e ∷ l
        → drop i t ≡ with_key (rank x) (record_entries m.at) ++ by_predicate xs (record_entries m.at)
        → ds ≡ if_any (defined_by x (clauses_of x m.at.clauses)) (definitions xs m.at.clauses) → Group s t i j ds
    group_with low x xs e l rises small own whole make =
        let table = record_entries m.at in
        let named = all_with (λ v. ClauseAt s (entry_place v)) (rank x) table (entered m.at).named in
        let first : get_or t i 0 ∷ drop (suc i) t ≡ e ∷ (l ++ by_predicate xs table) =
        sym (drop-cons t i 0 h) ∙ whole ∙ ap (λ (k : List ℕ). k ++ by_predicate xs table) own in
        let is_first : get_or t i 0 ≡ e = cc in
        let key : entry_key (get_or t i 0) ≡ rank x = ap entry_key is_first ∙ (rw own at named).0.1 in
        let count : group_length (entry_key (get_or t i 0)) (drop i t) ≡ length (with_key (rank x) table) =
        ap (λ (k : ℕ). group_length k (drop i t)) key ∙ ap (group_length (rank x)) whole
        ∙ group_first (rank x) table (by_predicate xs table) (by_ascends (suc (rank x)) 5 xs table rises.1 (entered m.at).rise) in
        let some = ap length own in
        let n : j - i ≡ length (with_key (rank x) table) = omega arith in
        let front : take (j - i) (drop i t) ≡ with_key (rank x) table = ap (take (j - i)) whole ∙ take_at (with_key (rank x) table) (by_predicate xs table) (j - i) (sym n) in
        let back : drop j t ≡ by_predicate xs table =
        ap (λ (k : ℕ). drop k t) (let e : j ≡ i + (j - i) = omega arith in e) ∙ sym (drop-drop (j - i) i t) ∙ ap (drop (j - i)) whole
        ∙ drop_at (with_key (rank x) table) (by_predicate xs table) (j - i) (sym n) in
        let clauses = with_clauses m.at x small.0 in
        let size = ap length whole ∙ length-append (with_key (rank x) table) (by_predicate xs table) in
        let left = length-drop i t in
        let few = m.few in
        record {
          rest = definitions xs m.at.clauses;
          makes =
              make ∙ made_by x (clauses_of x m.at.clauses) (definitions xs m.at.clauses)
              (omega (arith, ap length clauses, clauses_length s (with_key (rank x) table))) (all_clauses_of ClauseFormed x m.at.clauses m.at.formed)
              ∙ ap (λ (k : List Clause). group_definition k ∷ definitions xs m.at.clauses) (sym (ap (clauses_in s) front ∙ clauses));
          group = record {
            entries = rw front (each_entry (λ v. ClauseAt s (entry_place v)) (rank x) (with_key (rank x) table) named);
            short = m.at.short;
            few = rw front (omega arith);
          };
          long = ap length front ∙ sym n;
          forth = omega arith;
          within = omega arith;
          onward = record {
            count = m.count;
            at = m.at;
            predicates = xs;
            low = suc (rank x);
            rises = rises.1;
            small = small.1;
            is = back;
            make = refl;
            few = m.few;
            within = omega arith;
          };
        }

    next_group : (low : ℕ) (xs : List Predicate) → Rising low xs → All ArityFits xs → drop i t ≡ by_predicate xs (record_entries m.at)
        → ds ≡ definitions xs m.at.clauses → Group s t i j ds
    next_group low [] rises small whole make = absurd (omega (arith, ap length whole, length-drop i t))
    next_group low (x ∷ xs) rises small whole make =
        go (with_key (rank x) (record_entries m.at)) refl (next_group (suc (rank x)) xs rises.1 small.1)
      where
        go : (l : List ℕ) → with_key (rank x) (record_entries m.at) ≡ l
            → (drop i t ≡ by_predicate xs (record_entries m.at) → ds ≡ definitions xs m.at.clauses → Group s t i j ds) → Group s t i j ds
        go [] own later =
            later (whole ∙ ap (λ (k : List ℕ). k ++ by_predicate xs (record_entries m.at)) own) (make ∙ no_entries m.at x small.0 xs own)
        go (e ∷ l) own later = group_with low x xs e l rises small own whole make

    pub remaining_next : Group s t i j ds
    remaining_next = next_group m.low m.predicates m.rises m.small m.is m.make

  -- at the end there is none
  pub remaining_end : length t ≤ i → ds ≡ []
  remaining_end h = m.make ∙ none m.predicates m.small (sym m.is ∙ drop_of_length-le t h)
    where
      none : (xs : List Predicate) → All ArityFits xs → by_predicate xs (record_entries m.at) ≡ [] → definitions xs m.at.clauses ≡ []
      none [] small e = refl
      none (x ∷ xs) small e = go (with_key (rank x) (record_entries m.at)) refl e (none xs small.1)
        where
          go : (l : List ℕ) → with_key (rank x) (record_entries m.at) ≡ l → l ++ by_predicate xs (record_entries m.at) ≡ []
              → (by_predicate xs (record_entries m.at) ≡ [] → definitions xs m.at.clauses ≡ []) → definitions (x ∷ xs) m.at.clauses ≡ []
          go [] own e later = no_entries m.at x small.0 xs own ∙ later e
          go (v ∷ l) own e later = cc

-- what an accepted record says
pub accepted_tree : (s : List ℕ) → Accepted (read_clauses s) → read_clauses s ≡ tree (record_clauses s)
unfolding record_clauses
accepted_tree s a = go (read_clauses s) a
  where
    go : (r : Reading (List Clause)) → Accepted r → r ≡ tree (clauses_or_none r)
    go (refused q) a = absurd a
    go (tree cs) a = refl

-- a clause has five bytes or more
clauses_long : (cs : List Clause) → 5 * length cs ≤ length (each clause_bytes cs)
clauses_long [] = omega arith
clauses_long (clause p v ts g ∷ cs) =
    omega (
      arith,
      clauses_long cs,
      goal_long g,
      length-append (terms_bytes ts) (goal_bytes g),
      length-append (clause_bytes (clause p v ts g)) (each clause_bytes cs),
    )

-- a clause record's clauses
abbrev pub ClauseRecord : List ℕ → List Clause → Type 0
ClauseRecord s cs = RecordOf (counted clause_bytes) (Counted ClauseFormed) clauses_rules s cs

pub laid_stands : (s : List ℕ) (cs : List Clause) → s ≡ record_of (counted clause_bytes cs) → Stands s 3 (counted clause_bytes cs) (3 + length (counted clause_bytes cs))
laid_stands s cs e = rw e (body_stands (counted clause_bytes cs))

laid_few : (s : List ℕ) (cs : List Clause) → ClauseRecord s cs → length cs ≤ 6552
unfolding record_of
laid_few s cs r = let n = r.short in omega (arith, clauses_long cs, ap length r.laid)

module _ (s : List ℕ) (known : Known s) (a : Accepted (read_clauses s)) where
  pub laid : ClauseRecord s (record_clauses s)
  laid = clauses_tree s (bytes_all s known) (record_clauses s) (accepted_tree s a)

  -- they stand one after the other
  abbrev pub clauses_stand : (n : ℕ) → n ≡ length (record_clauses s) → ClausesAt s n
  clauses_stand n e = record {
    clauses = record_clauses s;
    formed = laid.formed.1;
    many = sym e;
    short = laid.short;
    end = 3 + length (counted clause_bytes (record_clauses s));
    stand = stands_second (word (length (record_clauses s))) (each clause_bytes (record_clauses s)) (laid_stands s (record_clauses s) laid.laid);
  }

  pub clauses_few : length (record_clauses s) ≤ 6552
  clauses_few = laid_few s (record_clauses s) laid

  -- for code that read their count
  count_is : word_at s 3 ≡ Some (length (record_clauses s))
  count_is = word_stands (length (record_clauses s)) (each clause_bytes (record_clauses s)) laid.formed.0 (laid_stands s (record_clauses s) laid.laid)

  pub count_read : {r : Option ℕ} {n : ℕ} → r ≡ word_at s 3 → r ≡ Some n → n ≡ length (record_clauses s)
  count_read {r} {n} is e = let y : Some n ≡ Some (length (record_clauses s)) = sym e ∙ is ∙ count_is in cc

  pub count_unread : {P : Type 0} {r : Option ℕ} → r ≡ word_at s 3 → r ≡ None → P
  count_unread is e =
      let y : None ≡ Some (length (record_clauses s)) = sym e ∙ is ∙ count_is in
      never cc

pub ordered_remaining : {s table sorted : List ℕ} (known : Known s) (a : Accepted (read_clauses s)) → table ≡ clause_entries 5 (record_clauses s)
    → (IsDistinct eqb table → Each (λ e. e < entry_limit) table → sorted ≡ picked (length table) 0 table) → Remaining s sorted 0 (program_of s)
unfolding program_of
ordered_remaining {s} {table} known a e f =
    let there = clauses_stand s known a _ refl in
    let rise : PlacesRise 5 table = rw e (entered there).rise in
    rw (f (rise_distinct 5 table rise) (rise_below 5 table rise), e) (remaining_start there (omega (arith, clauses_few s known a)))

-- the first n of a table
pub front_length : (n : ℕ) (l : List ℕ) → n ≤ length l → length (take n l) ≡ n
front_length n l h = simp length-take (omega arith)

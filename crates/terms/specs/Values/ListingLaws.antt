-- Laws of the listing: the entries of one bet more, one entry stored behind the others, and the invariants of the passes over pairs and over bets.
use Rattle.std.specs.Prelude.{◌≡◌, refl, true, List, [], ◌∷◌, ◌++◌, ℕ, ◌+◌, ◌-◌, ◌*◌, ◌≤◌, ◌<◌, length, set, drop, Option}
use Rattle.std.proofs.Common.{sym, ap, ◌∙◌, append_assoc, append-nil, arith, length-append, length-set, length-drop, get_or-set_same, get_or-set_other}
use Rattle.records.specs.Format.Encode.{each, bet_bytes}
use Rattle.records.specs.Format.Formed.{All, BetFormed}
use Rattle.records.specs.Format.Syntax.{Binding, Bet}
use Rattle.records.specs.Format.Syntax.Binding.{bind}
use Rattle.records.specs.Gate.RecordRules.{every, bet_rules}
use Rattle.records.specs.Format.Heads.{bet_head_at}
use Rattle.records.specs.Format.Items.{read_bet}
use Rattle.records.specs.Ends.Traversal.{position, end_at, end_of}
use Rattle.records.specs.Format.Exact.{bet_exact}
use Rattle.records.specs.Ends.StandsLaws.{stands_within, stands_ends, term_ends}
use Rattle.terms.specs.declared.pairs.ListedPair.{ListedPair}
use Rattle.terms.specs.Theory.SubstitutionLaws.{term_length_least}
use Rattle.terms.specs.Standing.Rows.{FirstOf}
use Rattle.terms.specs.Standing.RowsLaws.{standing_first}
use Rattle.terms.specs.Standing.Frames.{PairAt, PairsAt, BetAt, BetsAt}
use Rattle.terms.specs.Standing.BetRow.{RuledBets, bet_pairs, head_pairs, PairParts}
use Rattle.terms.specs.Standing.BetRowLaws.{pair_parts, head_pairs_are, pairs_of, bet_pairs_long}
use Rattle.terms.specs.Values.EntryLaws.{entries_append, own_length}
use Rattle.terms.specs.Values.Entries.{PairEntry, Entered, Entereds, PairsListed, own, pair_entries, PairsEntered}

-- the entries of one bet more
pub entries_one : (done : List Bet) (b : Bet) → pair_entries [] (done ++ (b ∷ [])) ≡ pair_entries [] done ++ own done (bet_pairs b)
unfolding pair_entries
entries_one done b = entries_append [] done (b ∷ []) ∙ ap (λ (x : List PairEntry). pair_entries [] done ++ x) (append-nil (own done (bet_pairs b)))

pub own_append : (above : List Bet) (σ τ : List Binding) → own above (σ ++ τ) ≡ own above σ ++ own above τ
own_append above [] τ = refl
own_append above (bind x t ∷ σ) τ = ap (λ (l : List PairEntry). record { variable = x; term = t; above = above } ∷ l) (own_append above σ τ)

-- one entry more, stored behind the others
pub entereds_one : {s : List ℕ} (listed : List ListedPair) (i k : ℕ) (n : ListedPair) (l : List PairEntry) {x : PairEntry} → i + length l ≡ k → k < length listed
    → Entereds s listed i l → Entered s n x → Entereds s (set listed k n) i (l ++ (x ∷ []))
entereds_one listed i k n [] e h es a =
    let q : i ≡ k = omega arith in
    (rw (q, get_or-set_same listed k n (record { place = 0; first = 0 }) h) a, tt)
entereds_one listed i k n (y ∷ l) e h es a =
    let q : i ≡ k → ⊥ = λ z. omega arith in
    (rw (get_or-set_other listed k i n (record { place = 0; first = 0 }) q) es.0, entereds_one listed (i + 1) k n l (omega arith) h es.1 a)

pub filled_none : {s : List ℕ} {first : ℕ} {listed : List ListedPair} → PairsEntered s [] first listed listed first
filled_none = record { number = omega arith; entered = λ above e h. rw append-nil h; same_length = refl }

-- a bet without pairs, and one with n of them
module _ {s : List ℕ} {at n first : ℕ} (b : BetAt s at) (e : n ≡ head_pairs (bet_head_at s at)) where
  pub filled_no_pairs : {listed : List ListedPair} → n ≡ 0 → PairsEntered s (bet_pairs b.item) first listed listed first
  filled_no_pairs {listed} z = go (bet_pairs b.item) (omega (arith, head_pairs_are b))
    where
      go : (σ : List Binding) → length σ ≡ 0 → PairsEntered s σ first listed listed first
      go [] l = filled_none
      go (x ∷ σ) l = absurd (omega arith)

  pub filled_pairs : {listed₀ listed : List ListedPair} {k : ℕ} (z : n ≡ 0 → ⊥) → PairsEntered s (pairs_of b e z).pairs.items first listed₀ listed k
      → PairsEntered s (bet_pairs b.item) first listed₀ listed k
  filled_pairs z u = rw (← (pairs_of b e z).are) u

-- one pair more
pub filled_one : {s : List ℕ} {σ : List Binding} {first : ℕ} {listed₀ listed : List ListedPair} {k : ℕ} → PairsEntered s σ first listed₀ listed k
    → k < length listed → {at : ℕ} {p : PairAt s at} (f : PairParts p)
    → PairsEntered s (σ ++ (bind f.variable f.term ∷ [])) first listed₀ (set listed k (record { place = at; first = first })) (k + 1)
filled_one {s} {σ} {first} {listed₀} {listed} {k} u h {at} {p} f = record {
  number = omega (arith, u.number, length-append σ (bind f.variable f.term ∷ []));
  entered = λ above e es.
      rw (own_append above σ (bind f.variable f.term ∷ []), ← append_assoc)
      (entereds_one listed 0 k (record { place = at; first = first }) (pair_entries [] above ++ own above σ) (omega (arith, u.number, own_length above σ, length-append (pair_entries [] above) (own above σ))) h (u.entered above e es)
      (record { number = f.number; formed = f.formed; end = p.end; stands = f.stands; before = sym e }));
  same_length = length-set listed k (record { place = at; first = first }) ∙ u.same_length;
}

-- the pass over the pairs of a bet: some are entered, the others stand at pos
pub record PairsListing (s : List ℕ) (σ : List Binding) (first : ℕ) (listed₀ : List ListedPair) (end : ℕ) (listed : List ListedPair) (pos k : ℕ) : Type 0 where
  pub made : List Binding
  pub number : ℕ
  pub left : PairsAt s pos number
  pub whole : made ++ left.items ≡ σ
  pub filled : PairsEntered s made first listed₀ listed k
  pub end_is : k + number ≡ end

pub pairs_start : {s : List ℕ} {at n first end : ℕ} {listed : List ListedPair} (p : PairsAt s at n) → first + n ≡ end → PairsListing s p.items first listed end listed at first
pairs_start p e = record { made = []; number = _; left = p; whole = refl; filled = filled_none; end_is = e }

module _ {s : List ℕ} {σ : List Binding} {first : ℕ} {listed₀ : List ListedPair} {end : ℕ} {listed : List ListedPair} {pos k : ℕ}
    (u : PairsListing s σ first listed₀ end listed pos k) where
  pub pairs_end : end ≤ k → PairsEntered s σ first listed₀ listed end
  pairs_end h = go u.left.items u.whole u.left.many
    where
      go : (τ : List Binding) → u.made ++ τ ≡ σ → length τ ≡ u.number → PairsEntered s σ first listed₀ listed end
      go [] w c = let e : end ≡ k = omega (arith, u.end_is) in rw (← w, append-nil, e) u.filled
      go (b ∷ τ) w c = absurd (omega (arith, u.end_is))

  module _ (h : k < end) where
    filling_first : FirstOf u.left
    filling_first = standing_first u.left (omega (arith, u.end_is))

    -- a term stands behind the variable
    pub pairs_room : pos + 2 ≤ length s
    pairs_room = let f = pair_parts filling_first.first in omega (arith, stands_within f.stands (omega (arith, term_length_least f.term)))

    pub pairs_next : end ≤ length listed → {o : Option ℕ} {next : ℕ} → o ≡ end_at s (pos + 2) 1 0 → next ≡ position o
        → PairsListing s σ first listed₀ end (set listed k (record { place = pos; first = first })) next (k + 1)
    pairs_next l {o} {next} is e =
        let f = filling_first in
        let q = pair_parts f.first in
        let g : next ≡ f.first.end = e ∙ ap position (is ∙ term_ends q.term q.formed q.stands) in
        rw g (record {
          made = u.made ++ (bind q.variable q.term ∷ []);
          number = u.number - 1;
          left = f.rest;
          whole = append_assoc u.made (bind q.variable q.term ∷ []) f.rest.items
              ∙ ap (λ (x : Binding). u.made ++ (x ∷ f.rest.items)) (sym q.is) ∙ ap (λ (τ : List Binding). u.made ++ τ) (sym f.whole) ∙ u.whole;
          filled = filled_one u.filled (omega arith) q;
          end_is = omega (arith, u.end_is);
        })

-- the pass over the bets: the pairs of some are entered, the other bets stand at `at`
pub record BetsListing (s : List ℕ) (bets : List Bet) (listed : List ListedPair) (at n k : ℕ) : Type 0 where
  pub done : List Bet
  pub left : BetsAt s at n
  pub whole : done ++ left.items ≡ bets
  pub count : length (pair_entries [] done) ≡ k
  pub entered : Entereds s listed 0 (pair_entries [] done)
  pub few : 5 * k ≤ at
  pub held : k ≤ length listed

pub bets_start : {s : List ℕ} {at n : ℕ} {listed : List ListedPair} (p : RuledBets s at n) {m : ℕ} → m ≡ n → BetsListing s p.row.items listed at m 0
unfolding pair_entries
bets_start p e = rw e (record { done = []; left = p.row; whole = refl; count = refl; entered = tt; few = omega arith; held = omega arith })

module _ {s : List ℕ} {bets : List Bet} {listed : List ListedPair} {at n k : ℕ} (u : BetsListing s bets listed at n k) where
  pub bets_end : All BetFormed bets → every bet_rules bets ≡ true → n ≡ 0 → PairsListed bets s listed k
  bets_end f r e = go u.left.items u.whole u.left.many
    where
      go : (l : List Bet) → u.done ++ l ≡ bets → length l ≡ n → PairsListed bets s listed k
      go [] w c =
          let d : u.done ≡ bets = sym (append-nil u.done) ∙ w in
          record { table = record { bets = u.done; rules = rw d r; count = u.count; entered = u.entered; held = u.held }; are = d; formed = f }
      go (b ∷ l) w c = absurd (omega arith)

  module _ (h : 0 < n) where
    -- a bet stands there
    abbrev pub bets_here : BetAt s at
    bets_here = (standing_first u.left h).first

    -- there is room for its pairs
    pub bets_room : length s ≤ 5 * length listed → k + head_pairs (bet_head_at s at) ≤ length listed
    bets_room l = let b = bets_here in omega (arith, bet_pairs_long b.item, head_pairs_are b, stands_within b.stands (omega (arith, bet_pairs_long b.item)), b.stands.end, u.few)

    -- the next bet
    pub bets_next : length s ≤ 5 * length listed → {listed' : List ListedPair} {r : ℕ} → PairsEntered s (bet_pairs bets_here.item) k listed listed' r
        → {o : Option ℕ} {next : ℕ} → o ≡ end_of read_bet s at → next ≡ position o → {m : ℕ} → m ≡ n - 1 → BetsListing s bets listed' next m r
    bets_next l a {o} {next} is e fewer =
        let f = standing_first u.left h in
        let b = f.first in
        let g : next ≡ b.end = e ∙ ap position (is ∙ stands_ends bet_exact b.item b.formed b.stands) in
        let d = entries_one u.done b.item in
        let x = bet_pairs_long b.item in
        rw (g, fewer) (record {
          done = u.done ++ (b.item ∷ []);
          left = f.rest;
          whole = append_assoc u.done (b.item ∷ []) f.rest.items ∙ ap (λ (x : List Bet). u.done ++ x) (sym f.whole) ∙ u.whole;
          count = ap length d ∙ length-append (pair_entries [] u.done) (own u.done (bet_pairs b.item)) ∙ omega (arith, u.count, own_length u.done (bet_pairs b.item), a.number);
          entered = rw d (a.entered u.done u.count u.entered);
          few = omega (arith, u.few, a.number, b.stands.end);
          held = omega (arith, bets_room l, a.number, a.same_length, head_pairs_are b);
        })

-- a pair has five bytes or more, so that there are few of them
entries_few : (above bets : List Bet) → 5 * length (pair_entries above bets) ≤ length (each bet_bytes bets)
unfolding pair_entries
entries_few above [] = omega arith
entries_few above (b ∷ bets) =
    omega (arith, entries_few (above ++ (b ∷ [])) bets, bet_pairs_long b, own_length above (bet_pairs b), length-append (own above (bet_pairs b)) (pair_entries (above ++ (b ∷ [])) bets), length-append (bet_bytes b) (each bet_bytes bets))

pub pairs_few : {s : List ℕ} {at n : ℕ} (b : BetsAt s at n) {listed : List ListedPair} {k : ℕ} → PairsListed b.items s listed k → 5 * k ≤ length s
pairs_few {s} {at} b l =
    omega (arith, entries_few [] b.items, ap (λ (x : List Bet). length (pair_entries [] x)) l.are, l.table.count, ap length b.stands.bytes, length-append (each bet_bytes b.items) (drop b.end s), length-drop at s)

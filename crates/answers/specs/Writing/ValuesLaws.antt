-- Laws of the values: how long they are as pairs, one after another, and the pairs that are written.
use Rattle.std.specs.Prelude.{◌≡◌, ℕ, zero, suc, ◌+◌, ◌≤◌, ◌<◌, get_or, drop, Some, None}
use Rattle.std.proofs.Math.Path.{refl, sym, ap}
use Rattle.std.proofs.Common.{◌∙◌, add-zero, zero-add, add-one, drop_of_length-le, drop-cons}
use mathlib.Core.List.{List, [], ◌∷◌, ◌++◌, append_assoc, append-nil}
use Rattle.std.proofs.Math.Option.{Option, none, some}
use native.Mathlib.Omega.{arith}
use Rattle.std.proofs.Math.ListN.{length, length-append}
use Rattle.records.specs.Format.Never.{never}
use Rattle.records.specs.Format.Syntax.{var, Binding, Bet}
use Rattle.records.specs.Format.Encode.{each, term_bytes, binding_bytes}
use Rattle.records.specs.Format.Formed.{All}
use Rattle.records.specs.Ends.EndLaws.{term_long}
use Rattle.records.specs.Ends.Range.{cut, Inside}
use Rattle.records.specs.Ends.StandsLaws.{stands_within, stands_cut}
use Rattle.records.specs.Writing.Patched.{Put}
use Rattle.records.specs.Writing.PatchedLaws.{put_none, put_then, put_length}
use Rattle.terms.specs.Theory.Outcome.{value}
use Rattle.terms.specs.Theory.OutcomeLaws.{Valued, within, beyond, valued}
use Rattle.terms.specs.Values.Answered.{sized, Answered}
use Rattle.terms.specs.Values.Entries.{under}
use Rattle.terms.specs.Values.NodeBytesLaws.{each_append}
use Rattle.terms.specs.Values.Sized.{Sized}
use Rattle.answers.specs.Form.Answer.{paired, values_of}
use Rattle.answers.specs.Writing.Values.{pairs_sized, value_pair, value_pairs, ValuePairFits, ValuePairsFit}

-- a part of a list that each part of it has
pub all_at : (Φ : ℕ → Type 0) (l : List ℕ) (i : ℕ) → i < length l → All Φ l → Φ (get_or l i 0)
all_at Φ [] i h k = absurd (omega arith)
all_at Φ (x ∷ l) zero h k = k.0
all_at Φ (x ∷ l) (suc i) h k = all_at Φ l i (omega arith) k.1

-- so many bytes in front
abbrev pub more_bytes : ℕ → Sized → Sized
more_bytes n (Some m) = Some (n + m)
more_bytes n None = None

more_more : (a b : ℕ) (r : Sized) → more_bytes a (more_bytes b r) ≡ more_bytes (a + b) r
more_more a b (Some m) = ap Some (omega arith)
more_more a b None = refl

more_none : (r : Sized) → more_bytes 0 r ≡ r
more_none (Some m) = ap Some (zero-add m)
more_none None = refl

module _ (s : List Bet) where
  -- where all values are within the limit they are the pairs of what the bets make of the variables
  pub all_within_limit : (vs : List ℕ) (l : List Binding) → values_of s vs ≡ some l → values_of s vs ≡ some (value_pairs s vs)
  unfolding values_of
  all_within_limit [] l h = refl
  all_within_limit (v ∷ vs) l h = go (valued s (var v)) (values_of s vs) refl (all_within_limit vs)
    where
      go : Valued s (var v) → (o : Option (List Binding)) → values_of s vs ≡ o → ((l : List Binding) → values_of s vs ≡ some l → values_of s vs ≡ some (value_pairs s vs))
          → paired v (value s v) (values_of s vs) ≡ some (value_pairs s (v ∷ vs))
      go (within i e) (some k) j f = rw (e, f k j) refl
      go (within i e) none j f = never cc
      go (beyond i e) o j f = never cc

  -- the first one's value, and the others
  module _ (v : ℕ) (vs : List ℕ) where
    pub sized_more : value s v ≡ some (under s v)
        → pairs_sized (values_of s (v ∷ vs)) ≡ more_bytes (2 + length (term_bytes (under s v))) (pairs_sized (values_of s vs))
    unfolding values_of
    sized_more e = rw e (go (values_of s vs))
      where
        go : (o : Option (List Binding)) → pairs_sized (paired v (some (under s v)) o) ≡ more_bytes (2 + length (term_bytes (under s v))) (pairs_sized o)
        go none = refl
        go (some l) = ap Some (simp length-append (omega arith))

    pub sized_large : value s v ≡ none → pairs_sized (values_of s (v ∷ vs)) ≡ None
    unfolding values_of
    sized_large e = rw e refl

    -- where all are within the limit, so is the first, and so are the others
    pub first_within : values_of s (v ∷ vs) ≡ some (value_pairs s (v ∷ vs)) → (value s v ≡ some (under s v)) × (values_of s vs ≡ some (value_pairs s vs))
    unfolding values_of
    first_within h = go (valued s (var v)) (values_of s vs) refl
      where
        go : Valued s (var v) → (o : Option (List Binding)) → values_of s vs ≡ o → (value s v ≡ some (under s v)) × (values_of s vs ≡ some (value_pairs s vs))
        go (within i e) (some k) j = (e, all_within_limit vs k j)
        go (within i e) none j = never cc
        go (beyond i e) o j = never cc

-- the value of a variable as code finds it, where it is within the limit: how long it is, and its bytes at the start of the buffer
module _ {s : List Bet} {v : ℕ} {buffer : List ℕ} {r : Sized} (a : Answered s (var v) buffer r) (e : value s v ≡ some (under s v)) where
  value_sized : r ≡ Some (length (term_bytes (under s v)))
  value_sized = a.is ∙ ap sized e

  pub value_not_large : {P : Type 0} → r ≡ None → P
  value_not_large h = let k = value_sized in never cc

  pub value_length : {m : ℕ} → r ≡ Some m → m ≡ length (term_bytes (under s v))
  value_length h = let k = value_sized in cc

  pub value_inside : {m : ℕ} → r ≡ Some m → Inside (record { from = 0; to = m }) buffer
  value_inside h =
      let n = value_length h in
      let w = stands_within (a.written e) (omega (arith, term_long (under s v))) in
      record { order = omega arith; stop = omega arith }

  pub value_cut : {m : ℕ} → r ≡ Some m → cut buffer (record { from = 0; to = m }) ≡ term_bytes (under s v)
  value_cut h = rw (value_length h) (stands_cut (a.written e))

-- the answer tells whether the value is within the limit
module _ {s : List Bet} {v : ℕ} {buffer : List ℕ} {r : Sized} (a : Answered s (var v) buffer r) where
  answered_within : {m : ℕ} → r ≡ Some m → value s v ≡ some (under s v)
  answered_within {m} h = go (valued s (var v))
    where
      go : Valued s (var v) → value s v ≡ some (under s v)
      go (within i e) = e
      go (beyond i e) = let k = a.is ∙ ap sized e in never cc

  answered_beyond : r ≡ None → value s v ≡ none
  answered_beyond h = go (valued s (var v))
    where
      go : Valued s (var v) → value s v ≡ none
      go (within i e) = value_not_large a e h
      go (beyond i e) = e

  pub answered_short : {m : ℕ} → r ≡ Some m → m ≤ length buffer
  answered_short h = (value_inside a (answered_within h) h).stop

-- the values of the first i variables are within the limit, and have so many bytes as pairs
pub record Summed (s : List Bet) (vs : List ℕ) (i sum : ℕ) : Type 0 where
  pub whole : pairs_sized (values_of s vs) ≡ more_bytes sum (pairs_sized (values_of s (drop i vs)))

pub summed_start : {s : List Bet} {vs : List ℕ} → Summed s vs 0 0
summed_start {s} {vs} = record { whole = sym (more_none (pairs_sized (values_of s vs))) }

module _ {s : List Bet} {vs : List ℕ} {i sum : ℕ} (w : Summed s vs i sum) where
  module _ (h : i < length vs) {buffer : List ℕ} {r : Sized} (a : Answered s (var (get_or vs i 0)) buffer r) where
    summed_first : pairs_sized (values_of s vs) ≡ more_bytes sum (pairs_sized (values_of s (get_or vs i 0 ∷ drop (suc i) vs)))
    summed_first = w.whole ∙ ap (λ l. more_bytes sum (pairs_sized (values_of s l))) (drop-cons vs i 0 h)

    pub summed_next : {m : ℕ} → r ≡ Some m → Summed s vs (i + 1) (sum + (2 + m))
    summed_next {m} e =
        let v = get_or vs i 0 in
        let rest = drop (suc i) vs in
        let in_limit = answered_within a e in
        record {
          whole = summed_first ∙ ap (more_bytes sum) (sized_more s v rest in_limit) ∙ more_more sum (2 + length (term_bytes (under s v))) (pairs_sized (values_of s rest))
              ∙ rw (value_length a in_limit e, add-one i) refl;
        }

    pub summed_large : r ≡ None → None ≡ pairs_sized (values_of s vs)
    summed_large e = sym (summed_first ∙ ap (more_bytes sum) (sized_large s (get_or vs i 0) (drop (suc i) vs) (answered_beyond a e)))

  pub summed_end : i ≡ length vs → Some sum ≡ pairs_sized (values_of s vs)
  unfolding values_of
  summed_end z = let none_left : length vs ≤ i = omega arith in sym (w.whole ∙ rw (drop_of_length-le vs none_left) (ap Some (add-zero sum)))

-- the first i variables are written with their values as pairs, and the others' values are within the limit
pub record ValuePairsPut (s : List Bet) (vs before : List ℕ) (at i : ℕ) (out : List ℕ) (pos : ℕ) : Type 0 where
  pub done : List Binding
  pub whole : value_pairs s vs ≡ done ++ value_pairs s (drop i vs)
  pub within : values_of s (drop i vs) ≡ some (value_pairs s (drop i vs))
  pub put : Put before at (each binding_bytes done) out pos

pub value_pairs_start : {s : List Bet} {vs before : List ℕ} {at room : ℕ} → ValuePairsFit s vs at room → ValuePairsPut s vs before at 0 before at
value_pairs_start f = record { done = []; whole = refl; within = f.within; put = put_none }

module _ {s : List Bet} {vs before : List ℕ} {at i : ℕ} {out : List ℕ} {pos : ℕ} (w : ValuePairsPut s vs before at i out pos) where
  module _ (h : i < length vs) where
    split : drop i vs ≡ get_or vs i 0 ∷ drop (suc i) vs
    split = drop-cons vs i 0 h

    next_within : (value s (get_or vs i 0) ≡ some (under s (get_or vs i 0))) × (values_of s (drop (suc i) vs) ≡ some (value_pairs s (drop (suc i) vs)))
    next_within = first_within s (get_or vs i 0) (drop (suc i) vs) (rw split at w.within)

    next_whole : value_pairs s vs ≡ (w.done ++ (value_pair s (get_or vs i 0) ∷ [])) ++ value_pairs s (drop (suc i) vs)
    next_whole = w.whole ∙ rw (split, append_assoc) refl

    pub next_pair_fits : ValuePairsFit s vs at (length before) → ValuePairFits s (get_or vs i 0) pos (length out)
    next_pair_fits f = record {
      within = next_within.0;
      room_left =
          let b = value_pair s (get_or vs i 0) in
          let rest = value_pairs s (drop (suc i) vs) in
          let size = ap (λ l. length (each binding_bytes l)) (w.whole ∙ ap (λ l. w.done ++ value_pairs s l) split)
          ∙ ap length (each_append binding_bytes w.done (b ∷ rest)) ∙ length-append (each binding_bytes w.done) (each binding_bytes (b ∷ rest)) in
          omega (arith, size, length-append (binding_bytes b) (each binding_bytes rest), f.room_left, w.put.place, put_length w.put);
    }

    pub value_pairs_next : {out' : List ℕ} {next : ℕ} → Put out pos (binding_bytes (value_pair s (get_or vs i 0))) out' next → ValuePairsPut s vs before at (i + 1) out' next
    value_pairs_next p =
        let b = value_pair s (get_or vs i 0) in
        rw (add-one i) (record {
          done = w.done ++ (b ∷ []);
          whole = next_whole;
          within = next_within.1;
          put = rw (each_append binding_bytes w.done (b ∷ []), append-nil (binding_bytes b)) (put_then w.put p);
        })

  pub value_pairs_end : i ≡ length vs → Put before at (each binding_bytes (value_pairs s vs)) out pos
  value_pairs_end z =
      let none_left : length vs ≤ i = omega arith in
      let all : value_pairs s vs ≡ w.done = w.whole ∙ rw (drop_of_length-le vs none_left) (append-nil w.done) in
      rw all w.put

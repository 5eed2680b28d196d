-- Laws of an answer: how long it is, its parts written one after the other, and each of the ways it is delivered.
use Rattle.std.specs.Prelude.{◌≡◌, List, [], ◌∷◌, ℕ, ◌+◌, ◌-◌, ◌*◌, ◌≤◌, ◌<◌, Some, None}
use Rattle.std.proofs.Math.Path.{refl, ap}
use Rattle.std.proofs.Common.{sym, ◌∙◌, arith, length-append}
use Rattle.std.proofs.Math.Option.{Option, none, some}
use Rattle.std.proofs.Math.ListN.{length}
use borrow.Author.Tests.{le-leb, lt-leb}
use Rattle.records.specs.Format.Never.{never}
use Rattle.records.specs.Format.Syntax.{var, Binding, Bet}
use Rattle.records.specs.Format.Encode.{word, each, term_bytes, binding_bytes, bet_bytes}
use Rattle.records.specs.Gate.Question.{values, fits, question_number}
use Rattle.records.specs.Gate.Reply.{gives, on_yes, through, Receipted}
use Rattle.records.specs.Gate.ReplyLaws.{receipted_refused, receipted_given}
use Rattle.records.specs.Writing.Patched.{Put}
use Rattle.records.specs.Writing.PatchedLaws.{put_then, put_length}
use Rattle.terms.specs.Theory.Outcome.{value}
use Rattle.terms.specs.Theory.OutcomeLaws.{Valued, within, beyond, valued}
use Rattle.terms.specs.Values.Entries.{under}
use Rattle.answers.specs.Form.Answer.{values_of, used_of, solution_bytes, solution_for, solution_into}
use Rattle.answers.specs.Writing.Values.{value_pairs, pairs_sized, ValuePairsFit}
use Rattle.answers.specs.Writing.ValuesLaws.{all_within_limit, first_within}
use Rattle.answers.specs.Writing.Used.{used_size}
use Rattle.answers.specs.Writing.Solved.{solution_of, SolutionFits}
use Rattle.answers.specs.declared.used.UsedSize.{UsedSize}

pub pairs_length : (s : List Bet) (vs : List ℕ) → length (value_pairs s vs) ≡ length vs
pairs_length s [] = refl
pairs_length s (v ∷ vs) = omega (arith, pairs_length s vs)

-- a value has at most 8,192 bytes
pub pairs_short : (s : List Bet) (vs : List ℕ) → values_of s vs ≡ some (value_pairs s vs) → length (each binding_bytes (value_pairs s vs)) ≤ 8194 * length vs
pairs_short s [] h = omega arith
pairs_short s (v ∷ vs) h = let rest = pairs_short s vs (first_within s v vs h).1 in let one = go (valued s (var v)) (first_within s v vs h).0 in simp length-append (omega arith)
  where
    go : Valued s (var v) → value s v ≡ some (under s v) → length (term_bytes (under s v)) ≤ 8192
    go (within i e) k = i
    go (beyond i e) k = never cc

module _ (vs : List ℕ) (s : List Bet) where
  -- two counts, the pairs, and the bodies and branches
  pub solution_length : length (solution_bytes (solution_of vs s)) ≡ 4 + length (each binding_bytes (value_pairs s vs)) + length (each bet_bytes (used_of s))
  solution_length = simp length-append (omega arith)

  -- a value is too large
  pub measured_large : pairs_sized (values_of s vs) ≡ None → values_of s vs ≡ none
  measured_large h = go (values_of s vs) h
    where
      go : (o : Option (List Binding)) → pairs_sized o ≡ None → o ≡ none
      go none k = refl
      go (some l) k = never cc

  -- all are within the limit
  pub measured_fits : {m : ℕ} → pairs_sized (values_of s vs) ≡ Some m → (values_of s vs ≡ some (value_pairs s vs)) × (m ≡ length (each binding_bytes (value_pairs s vs)))
  measured_fits {m} h = go (values_of s vs) refl
    where
      go : (o : Option (List Binding)) → values_of s vs ≡ o → (values_of s vs ≡ some (value_pairs s vs)) × (m ≡ length (each binding_bytes (value_pairs s vs)))
      go none k = let z : None ≡ Some m = sym (ap pairs_sized k) ∙ h in never cc
      go (some l) k =
          let e = all_within_limit s vs l k in
          let z : Some (length (each binding_bytes (value_pairs s vs))) ≡ Some m = sym (ap pairs_sized e) ∙ h in
          (e, cc)

  -- so many that no sum overflows, where there are few variables
  pub measured_small : {m : ℕ} → pairs_sized (values_of s vs) ≡ Some m → length vs ≤ 65535 → m ≤ 536993790
  measured_small h k = omega (arith, (measured_fits h).1, pairs_short s vs (measured_fits h).0)

  given : values_of s vs ≡ some (value_pairs s vs) → solution_for vs s ≡ gives (solution_of vs s)
  unfolding solution_for through
  given h = rw h

  module _ {before : List ℕ} where
    pub solution_large : pairs_sized (values_of s vs) ≡ None
        → Receipted (λ b. b) (solution_into (length before) (solution_for vs s)) before (record { number = 8; length = 0 }) before
    unfolding solution_into solution_for through question_number
    solution_large h = receipted_refused (λ b. b) before {q = values} (rw (measured_large h) refl) refl

    pub solution_long : {m : ℕ} {u : UsedSize} → pairs_sized (values_of s vs) ≡ Some m → u ≡ used_size (used_of s) → length before < 4 + m + u.length
        → Receipted (λ b. b) (solution_into (length before) (solution_for vs s)) before (record { number = 10; length = 0 }) before
    unfolding solution_into through on_yes question_number
    solution_long h e k =
        let long : length before < length (solution_bytes (solution_of vs s)) = omega (arith, k, (measured_fits h).1, ap (λ u. u.length) e, solution_length) in
        receipted_refused (λ b. b) before {q = fits} (rw (given (measured_fits h).0, lt-leb (length (solution_bytes (solution_of vs s))) (length before) long) refl) refl

    pub solution_put : {u : UsedSize} → SolutionFits vs s u (length before) → {after : List ℕ} {n : ℕ} → Put before 0 (solution_bytes (solution_of vs s)) after n
        → Receipted (λ b. b) (solution_into (length before) (solution_for vs s)) before (record { number = 0; length = n }) after
    unfolding solution_into through on_yes
    solution_put f p =
        receipted_given (λ b. b) before (rw (given f.within, le-leb (length (solution_bytes (solution_of vs s))) (length before) f.room_left) refl) p f.room_left

-- what is measured fits
pub solution_fits : (vs : List ℕ) (s : List Bet) {m room : ℕ} {u : UsedSize} → pairs_sized (values_of s vs) ≡ Some m → u ≡ used_size (used_of s) → 4 + m + u.length ≤ room
    → SolutionFits vs s u room
solution_fits vs s h e k =
    record { within = (measured_fits vs s h).0; measured = e; room_left = omega (arith, k, (measured_fits vs s h).1, ap (λ u. u.length) e, solution_length vs s) }

-- the parts one after the other
module _ {vs : List ℕ} {s : List Bet} {u : UsedSize} {room : ℕ} (f : SolutionFits vs s u room) where
  -- the pairs fit behind their count
  pub pairs_fit_at : {before a : List ℕ} {i : ℕ} → Put before 0 (word (length vs)) a i → room ≡ length before → ValuePairsFit s vs i (length a)
  pairs_fit_at {before} {a} p e = record { within = f.within; room_left = omega (arith, f.room_left, solution_length vs s, p.place, put_length p) }

  pub used_fits : (u.count ≡ length (used_of s)) × (u.length ≡ length (each bet_bytes (used_of s)))
  used_fits = (ap (λ u. u.count) f.measured, ap (λ u. u.length) f.measured)

  pub parts_put : {before a b c after : List ℕ} {i j k end : ℕ} → Put before 0 (word (length vs)) a i → Put a i (each binding_bytes (value_pairs s vs)) b j
      → Put b j (word u.count) c k → end ≡ k + u.length → Put c (end - length (each bet_bytes (used_of s))) (each bet_bytes (used_of s)) after end
      → Put before 0 (solution_bytes (solution_of vs s)) after end
  parts_put {c = c} {after} {k = k} {end} x y z e w =
      let at : end - length (each bet_bytes (used_of s)) ≡ k = omega (arith, used_fits.1) in
      let last : Put c k (each bet_bytes (used_of s)) after end = rw at at w in
      rw (pairs_length s vs) (put_then (put_then x y) (put_then (rw used_fits.0 at z) last))

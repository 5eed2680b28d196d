-- Laws of the answer to question 8: what it tells of the value, and that a term written within the limit is answered so.
use Rattle.std.specs.Prelude.{◌≡◌, refl, List, ℕ, ◌≤◌, length, Some, None}
use Rattle.std.proofs.Common.{sym, ap, ◌∙◌, zero-add, arith}
use Rattle.std.proofs.Math.Option.{none, some}
use Rattle.records.specs.Format.Never.{never}
use Rattle.records.specs.Format.Syntax.{Term, Bet}
use Rattle.records.specs.Format.Encode.{term_bytes}
use Rattle.records.specs.Ends.Traversal.{traverse}
use Rattle.records.specs.Ends.Stands.{Stands}
use Rattle.records.specs.Ends.StandsLaws.{traverse_term}
use Rattle.terms.specs.declared.pairs.ListedPair.{ListedPair}
use Rattle.terms.specs.Theory.Substitution.{apply}
use Rattle.terms.specs.Theory.Outcome.{value_limit, value_under}
use Rattle.terms.specs.Theory.OutcomeLaws.{value_within, value_beyond, Valued, within, beyond, valued}
use Rattle.terms.specs.Values.NodeBytes.{traversal_bytes}
use Rattle.terms.specs.Values.NodeBytesLaws.{substituted_bytes}
use Rattle.terms.specs.Values.Fitted.{Fitted}
use Rattle.terms.specs.Values.Applied.{TermAt}
use Rattle.terms.specs.Values.AppliedLaws.{put_stands}
use Rattle.terms.specs.Values.Entries.{PairsListed, under}
use Rattle.terms.specs.Values.EntryLaws.{apply_variables}
use Rattle.terms.specs.Values.Answered.{sized, Answered}
use Rattle.terms.specs.Values.Sized.{Sized}

module _ {bets : List Bet} {t : Term} {out : List ℕ} {r : Sized} (w : Answered bets t out r) where
  -- a value of so many bytes, and one beyond the limit
  pub answered_fits : {n : ℕ} → r ≡ Some n → (value_under bets t ≡ some (apply bets t)) × Stands out 0 (term_bytes (apply bets t)) n × (n ≤ value_limit)
  answered_fits {n} e = go (valued bets t)
    where
      go : Valued bets t → (value_under bets t ≡ some (apply bets t)) × Stands out 0 (term_bytes (apply bets t)) n × (n ≤ value_limit)
      go (within h v) =
          let i : Some n ≡ Some (length (term_bytes (apply bets t))) = sym e ∙ w.is ∙ ap sized v in
          let m : n ≡ length (term_bytes (apply bets t)) = cc in
          (v, rw m (w.written v), omega arith)
      go (beyond h v) = let i : Some n ≡ None = sym e ∙ w.is ∙ ap sized v in never cc

  pub answered_large : r ≡ None → value_under bets t ≡ none
  answered_large e = go (valued bets t)
    where
      go : Valued bets t → value_under bets t ≡ none
      go (within h v) = let i : None ≡ Some (length (term_bytes (apply bets t))) = sym e ∙ w.is ∙ ap sized v in never cc
      go (beyond h v) = v

-- a term under the pairs of the bets, written within the limit
pub answered : {bets : List Bet} {s : List ℕ} {listed : List ListedPair} {i : ℕ} (l : PairsListed bets s listed i) {src : List ℕ} {from to : ℕ} (q : TermAt src from to) {out after : List ℕ} {r : Sized}
    → length out ≡ value_limit → Fitted out (traversal_bytes (under l.table.bets) (traverse src from 1 0)) after r → Answered bets q.term after r
answered {bets} l {src} {from} q {out} {after} {r} e f = go r refl
  where
    bytes : traversal_bytes (under l.table.bets) (traverse src from 1 0) ≡ term_bytes (apply bets q.term)
    bytes =
        ap (traversal_bytes (under l.table.bets)) (traverse_term q.term q.formed q.stands) ∙ substituted_bytes (under l.table.bets) q.term
        ∙ ap term_bytes (apply_variables l.table.bets q.term ∙ ap (λ (b : List Bet). apply b q.term) l.are)

    g : Fitted out (term_bytes (apply bets q.term)) after r
    g = rw bytes at f

    go : (x : Sized) → r ≡ x → Answered bets q.term after r
    go (Some n) i =
        let y = g.fits i in
        let v = value_within bets q.term (omega (arith, y.1)) in
        let w = put_stands y.0 (omega (arith, y.1)) in
        let m : n ≡ length (term_bytes (apply bets q.term)) = w.end ∙ zero-add _ in
        record { is = i ∙ ap Some m ∙ sym (ap sized v); written = λ h. rw m at w }
    go None i =
        let v = value_beyond bets q.term (omega (arith, g.large i)) in
        record { is = i ∙ sym (ap sized v); written = λ h. let k : none ≡ some (apply bets q.term) = sym v ∙ h in never cc }

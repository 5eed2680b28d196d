-- Laws of the bets that stand in a record: the parts of a pair, the pairs of a bet by its head, and how long they are.
use Rattle.std.specs.Prelude.{◌≡◌, refl, List, [], ◌∷◌, ℕ, ◌*◌, ◌≤◌, ◌<◌, length}
use Rattle.std.proofs.Common.{sym, ap, ◌∙◌, arith, length-append}
use Rattle.records.specs.Format.Syntax.{Binding, Bet}
use Rattle.records.specs.Format.Syntax.Binding.{bind}
use Rattle.records.specs.Format.Syntax.Bet.{unifier, or, by}
use Rattle.records.specs.Format.Encode.{word, each, term_bytes, binding_bytes, bet_bytes}
use Rattle.records.specs.Format.Formed.{BindingFormed, BetFormed}
use Rattle.records.specs.Format.Heads.{bet_head_at}
use Rattle.records.specs.Ends.Stands.{Stands, head_of_bet}
use Rattle.records.specs.Ends.StandsLaws.{stands_second, stands_within, word_stands, bet_stands}
use Rattle.terms.specs.Theory.SubstitutionLaws.{term_length_least}
use Rattle.terms.specs.Standing.Frames.{PairAt, BetAt}
use Rattle.terms.specs.Standing.BetRow.{bet_pairs, head_pairs, PairParts, PairsOf}

pub pair_parts : {s : List ℕ} {at : ℕ} (p : PairAt s at) → PairParts p
pair_parts {s} {at} p = go p.item refl p.formed p.stands
  where
    go : (b : Binding) → p.item ≡ b → BindingFormed b → Stands s at (binding_bytes b) p.end → PairParts p
    go (bind x t) e f w = record { variable = x; term = t; is = e; number = word_stands x (term_bytes t) f.0 w; formed = f.1; stands = stands_second (word x) (term_bytes t) w }

-- the pairs of the bet that stands there, by its head
pub head_pairs_are : {s : List ℕ} {at : ℕ} (b : BetAt s at) → head_pairs (bet_head_at s at) ≡ length (bet_pairs b.item)
head_pairs_are {s} {at} b = ap head_pairs (bet_stands b.item b.formed b.stands) ∙ go b.item
  where
    go : (i : Bet) → head_pairs (head_of_bet i) ≡ length (bet_pairs i)
    go (unifier σ) = refl
    go (or h) = refl
    go (by g) = refl

pub pairs_of : {s : List ℕ} {at n : ℕ} (b : BetAt s at) → n ≡ head_pairs (bet_head_at s at) → (n ≡ 0 → ⊥) → PairsOf b n
pairs_of {s} {at} {n} b e h = go b.item refl b.formed b.stands (e ∙ head_pairs_are b)
  where
    go : (i : Bet) → b.item ≡ i → BetFormed i → Stands s at (bet_bytes i) b.end → n ≡ length (bet_pairs i) → PairsOf b n
    go (unifier σ) q f w l = record {
      pairs = record { items = σ; formed = f.1; many = sym l; end = b.end; stands = stands_second (0x20 ∷ word (length σ)) (each binding_bytes σ) w };
      are = ap bet_pairs (sym q);
      room = omega (arith, w.end, stands_within w (omega arith));
    }
    go (or k) q f w l = absurd (h l)
    go (by g) q f w l = absurd (h l)

-- a pair has at least 5 bytes, and a bet one more than its pairs
pairs_long : (σ : List Binding) → 5 * length σ ≤ length (each binding_bytes σ)
pairs_long [] = omega arith
pairs_long (bind x t ∷ σ) = omega (arith, pairs_long σ, term_length_least t, length-append (binding_bytes (bind x t)) (each binding_bytes σ))

pub bet_pairs_long : (b : Bet) → 5 * length (bet_pairs b) < length (bet_bytes b)
bet_pairs_long (unifier σ) = omega (arith, pairs_long σ)
bet_pairs_long (or h) = omega arith
bet_pairs_long (by g) = omega arith

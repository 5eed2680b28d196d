-- Laws of the classes of bytes: what a class says of its byte, and which class a byte has.
use Rattle.std.specs.Prelude.{ℕ, ◌≡◌, refl, Bool, true, false, ◌||◌, List, [], ◌∷◌, eqb}
use Rattle.std.proofs.lemmas.Bool.{false≢true}
use Rattle.std.proofs.Common.{eqb-true}
use Rattle.records.specs.Format.Heads.{pick}
use Rattle.text.specs.Grammar.{Token, blank, alphanumeric, word_ends, stands_before, token_bytes}
use Rattle.text.specs.Grammar.Token.{closing, comma, semicolon, equals, stop}
use Rattle.text.specs.Tokens.Lexer.{Class, class}
use Rattle.text.specs.Tokens.Lexer.Class.{space, letter, bracket, colon, minus, foreign, single}

-- what a class says of its byte
pub data ClassOf (b : ℕ) : Class → Type 0 where
  spaces : blank b ≡ true → ClassOf b space
  letters : alphanumeric b ≡ true → ClassOf b letter
  brackets : b ≡ 40 → ClassOf b bracket
  marks : (t : Token) → token_bytes t ≡ b ∷ [] → ((s : List ℕ) → stands_before t s ≡ true) → ((s : List ℕ) → word_ends (b ∷ s) ≡ true) → ClassOf b (single t)
  colons : b ≡ 58 → ClassOf b colon
  minuses : b ≡ 45 → ClassOf b minus
  foreigns : ClassOf b foreign

module _ (b : ℕ) where
  pick_class : (t : Bool) {x y : Class} → (t ≡ true → ClassOf b x) → ClassOf b y → ClassOf b (pick t x y)
  pick_class true h d = h refl
  pick_class false h d = d

  marked : (n : ℕ) (t : Token) → token_bytes t ≡ n ∷ [] → ((s : List ℕ) → stands_before t s ≡ true) → ((s : List ℕ) → word_ends (n ∷ s) ≡ true) → eqb b n ≡ true → ClassOf b (single t)
  marked n t e f g h =
      let d : b ≡ n = eqb-true b n h in
      marks t (rw d e) f (rw d g)

  pub classified : ClassOf b (class b)
  classified =
      pick_class (alphanumeric b) letters
      (pick_class (blank b) spaces
      (pick_class (eqb b 40) (λ h. brackets (eqb-true b 40 h))
      (pick_class (eqb b 41) (marked 41 closing refl (λ s. refl) (λ s. refl))
      (pick_class (eqb b 44) (marked 44 comma refl (λ s. refl) (λ s. refl))
      (pick_class (eqb b 59) (marked 59 semicolon refl (λ s. refl) (λ s. refl))
      (pick_class (eqb b 61) (marked 61 equals refl (λ s. refl) (λ s. refl))
      (pick_class (eqb b 46) (marked 46 stop refl (λ s. refl) (λ s. refl))
      (pick_class (eqb b 58) (λ h. colons (eqb-true b 58 h))
      (pick_class (eqb b 45) (λ h. minuses (eqb-true b 45 h)) foreigns)))))))))

pub or_cases : {P : Type 0} (a b : Bool) → (a || b) ≡ true → (a ≡ true → P) → (b ≡ true → P) → P
or_cases true b e f g = f refl
or_cases false b e f g = g e

-- a blank by its four values
blank_by : (P : ℕ → Type 0) → P 9 → P 10 → P 13 → P 32 → (b : ℕ) → blank b ≡ true → P b
blank_by P p q r s b e =
    or_cases (eqb b 9) _ e (λ h. rw (eqb-true b 9 h) p) λ e1.
    or_cases (eqb b 10) _ e1 (λ h. rw (eqb-true b 10 h) q) λ e2.
    or_cases (eqb b 13) (eqb b 32) e2 (λ h. rw (eqb-true b 13 h) r) (λ h. rw (eqb-true b 32 h) s)

pub blank_class : (b : ℕ) → blank b ≡ true → class b ≡ space
blank_class b e = blank_by (λ (n : ℕ). class n ≡ space) refl refl refl refl b e

pub blank_ends : (s : List ℕ) (b : ℕ) → blank b ≡ true → word_ends (b ∷ s) ≡ true
blank_ends s b e = blank_by (λ (n : ℕ). word_ends (n ∷ s) ≡ true) refl refl refl refl b e

pub letter_class : (b : ℕ) → alphanumeric b ≡ true → class b ≡ letter
letter_class b e = go (alphanumeric b) _ e
  where
    go : (t : Bool) (y : Class) → t ≡ true → pick t letter y ≡ letter
    go true y h = refl
    go false y h = absurd (false≢true h)

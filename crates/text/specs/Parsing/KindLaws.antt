-- Laws of kinds: what holds of each kind that a word, a name or a term can have holds of its kind.
use Rattle.std.specs.Prelude.{ℕ, ◌≡◌, refl, Bool, true, false, ◌||◌, not, List}
use Rattle.records.specs.Format.Never.{never}
use Rattle.records.specs.Format.Heads.{pick}
use Rattle.text.specs.Grammar.{Token, ProperTerm, is_name, is_variable, is_number, is_true, is_fail}
use Rattle.text.specs.Grammar.Token.{bare, functor, opening, closing, comma, semicolon, equals, neck, stop, wrong}
use Rattle.text.specs.Grammar.TermTree.{alone}
use Rattle.text.specs.Parsing.Table.{name_kind, word_kind, kind, end_kind, stop_kind}
use Rattle.text.specs.Parsing.Questions.{no_stop}
use Rattle.text.specs.declared.tokens.Kind.{Kind}
use Rattle.text.specs.declared.tokens.Kind.TheVariants.{Name, True, Fail, Variable, Number, Stop, Wrong, End}

-- what holds of both holds of the one picked
pub pick_by : {A : Type 0} (P : A → Type 0) (t : Bool) {x y : A} → P x → P y → P (pick t x y)
pick_by P true a b = a
pick_by P false a b = b

-- of a name, of any word, and of a word that is a term
name_by : (P : Kind → Type 0) → P Name → P True → P Fail → (w : List ℕ) → P (name_kind w)
name_by P n tr fa w = pick_by P (is_true w) tr (pick_by P (is_fail w) fa n)

pub by_name : (P : Kind → Type 0) → P Name → P True → P Fail → (w : List ℕ) → is_name w ≡ true → P (word_kind w)
by_name P n tr fa w e = rw e (name_by P n tr fa w)

word_by : (P : Kind → Type 0) → P Name → P True → P Fail → P Variable → P Number → P Wrong → (w : List ℕ) → P (word_kind w)
word_by P n tr fa va nu wr w = pick_by P (is_name w) (name_by P n tr fa w) (pick_by P (is_variable w) va (pick_by P (is_number w) nu wr))

pub by_word : (P : Kind → Type 0) → P Name → P True → P Fail → P Variable → P Number → (w : List ℕ) → ProperTerm (alone w) → P (word_kind w)
by_word P n tr fa va nu w = go (is_name w) (is_variable w) (is_number w) (name_by P n tr fa w)
  where
    go : (a v d : Bool) {k : Kind} → P k → (a || (v || d)) ≡ true → P (pick a k (pick v Variable (pick d Number Wrong)))
    go true v d h e = h
    go false true d h e = va
    go false false true h e = nu
    go false false false h e = never cc

-- a head has a name's kind
pub head_kind : (w : List ℕ) → is_name w ≡ true → (is_true w || is_fail w) ≡ false → word_kind w ≡ Name
head_kind w e d = rw e (go (is_true w) (is_fail w) d)
  where
    go : (t f : Bool) → (t || f) ≡ false → pick t True (pick f Fail Name) ≡ Name
    go true f h = never cc
    go false true h = never cc
    go false false h = refl

-- a kind that is not the one asked for
pub not_end : (k : Kind) → (k ≡ End → ⊥) → end_kind k ≡ false
not_end End h = absurd (h refl)
not_end _ h = refl

pub not_stop : (k : Kind) → (k ≡ Stop → ⊥) → stop_kind k ≡ false
not_stop Stop h = absurd (h refl)
not_stop _ h = refl

-- no token has the kind of the end, and only the full stop has its own
pub token_not_end : (t : Token) → end_kind (kind t) ≡ false
token_not_end (bare w) = word_by (λ k. end_kind k ≡ false) refl refl refl refl refl refl w
token_not_end (functor w) = pick_by (λ k. end_kind k ≡ false) (is_name w) refl refl
token_not_end opening = refl
token_not_end closing = refl
token_not_end comma = refl
token_not_end semicolon = refl
token_not_end equals = refl
token_not_end neck = refl
token_not_end stop = refl
token_not_end wrong = refl

pub stop_told : (t : Token) → no_stop t ≡ not (stop_kind (kind t))
stop_told (bare w) = word_by (λ k. true ≡ not (stop_kind k)) refl refl refl refl refl refl w
stop_told (functor w) = pick_by (λ k. true ≡ not (stop_kind k)) (is_name w) refl refl
stop_told opening = refl
stop_told closing = refl
stop_told comma = refl
stop_told semicolon = refl
stop_told equals = refl
stop_told neck = refl
stop_told stop = refl
stop_told wrong = refl

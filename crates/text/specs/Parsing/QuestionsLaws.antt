-- The two loops of question 21: what is known of a text and of a state when the text is read up to a place.
use Rattle.std.specs.Prelude.{ℕ, ◌-◌, ◌≤◌, ◌<◌, ◌≡◌, refl, Bool, true, false, List, [], ◌∷◌, length}
use Rattle.std.proofs.Common.{arith, sym, ap, ◌∙◌}
use Rattle.text.specs.Grammar.{Token}
use Rattle.text.specs.Tokens.Lexer.{tokens_of}
use Rattle.text.specs.Tokens.Places.{tokens_from, NextToken}
use Rattle.text.specs.Tokens.PlacesLaws.{there_is_none, there_is_one}
use Rattle.text.specs.Parsing.Table.{kind, end_kind, stop_kind, look, final, accepts, start, goal_start}
use Rattle.text.specs.Parsing.Questions.{no_stop, grammatical, goal_accepts, goal_grammatical}
use Rattle.text.specs.Parsing.KindLaws.{stop_told}
use Rattle.text.specs.Parsing.CountLaws.{Small, look_small}
use Rattle.text.specs.declared.tokens.Kind.{Kind}
use Rattle.text.specs.declared.tokens.Kind.TheVariants.{Stop}
use Rattle.text.specs.declared.tokens.Lexeme.{Lexeme}
use Rattle.text.specs.declared.table.State.{State}

-- the whole answer is that of the rest, read on from the state
pub record ReadTo (whole : Bool) (answer : State → List Token → Bool) (s : List ℕ) (st : State) (at : ℕ) : Type 0 where
  pub within : at ≤ length s
  pub small : Small st at
  pub same : whole ≡ answer st (tokens_from s at)

module _ {whole : Bool} {answer : State → List Token → Bool} {s : List ℕ} {st : State} {at : ℕ} {r : Lexeme} (w : ReadTo whole answer s st at) (n : NextToken s at r) where
  pub read_on : ((t : Token) (ts : List Token) → kind t ≡ r.kind → answer st (t ∷ ts) ≡ answer (look st (kind t)) ts) → end_kind r.kind ≡ false → {next : State} → next ≡ look st r.kind → ReadTo whole answer s next r.next
  read_on step e {next} d =
      let f = there_is_one n e in
      let k : kind f.token ≡ r.kind = sym f.kind_is in
      record {
        within = n.within;
        small = rw d (let l = look_small st r.kind at w.small in let a = n.advances e in omega arith);
        same = w.same ∙ (rw f.tokens (step f.token (tokens_from s r.next) k) ∙ ap (λ (x : State). answer x (tokens_from s r.next)) (ap (look st) k ∙ sym d));
      }

  pub read_less : end_kind r.kind ≡ false → length s - r.next < length s - at
  read_less e = let a = n.advances e in let l = n.within in omega arith

  pub read_end : end_kind r.kind ≡ true → whole ≡ answer st []
  read_end e = w.same ∙ ap (answer st) (there_is_none n e)

-- of clauses
pub read_start : (s : List ℕ) → ReadTo (grammatical s) accepts s start 0
unfolding grammatical tokens_of tokens_from
read_start s = record { within = omega arith; small = omega arith; same = refl }

pub accepts_step : (st : State) (t : Token) (ts : List Token) → accepts st (t ∷ ts) ≡ accepts (look st (kind t)) ts
unfolding accepts
accepts_step st t ts = refl

pub accepts_end : (st : State) → accepts st [] ≡ final st.mode
unfolding accepts
accepts_end st = refl

-- of a goal
pub goal_read_start : (s : List ℕ) → ReadTo (goal_grammatical s) goal_accepts s goal_start 0
unfolding goal_grammatical tokens_of tokens_from
goal_read_start s = record { within = omega arith; small = omega arith; same = refl }

pub goal_step : (st : State) {k : Kind} → stop_kind k ≡ false → (t : Token) (ts : List Token) → kind t ≡ k → goal_accepts st (t ∷ ts) ≡ goal_accepts (look st (kind t)) ts
unfolding goal_accepts accepts
goal_step st e t ts d = let h : no_stop t ≡ true = stop_told t ∙ rw (d, e) in rw h

pub goal_stopped : {whole : Bool} {s : List ℕ} {st : State} {at : ℕ} {r : Lexeme} → ReadTo whole goal_accepts s st at → NextToken s at r → end_kind r.kind ≡ false → stop_kind r.kind ≡ true → false ≡ whole
unfolding goal_accepts
goal_stopped {r = r} w n e d =
    let f = there_is_one n e in
    let h : no_stop f.token ≡ false = stop_told f.token ∙ rw (← f.kind_is, d) in
    sym (w.same ∙ rw (f.tokens, h))

pub goal_accepts_end : (st : State) → goal_accepts st [] ≡ final (look st Stop).mode
unfolding goal_accepts accepts
goal_accepts_end st = refl

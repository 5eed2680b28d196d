-- Laws of sorting: from token to token. Only of true and fail does the role hang on what comes next.
use Rattle.std.specs.Prelude.{◌≡◌, refl, Bool, true, false, List, [], ◌∷◌, ℕ, ◌+◌, ◌≤◌, ◌<◌, length, set}
use Rattle.std.proofs.Math.Path.{sym, ap}
use Rattle.std.proofs.Common.{◌∙◌, arith}
use Rattle.std.proofs.lemmas.Bool.{false≢true}
use Rattle.std.proofs.Math.ListN.{length-set}
use Rattle.text.specs.Grammar.{Token, is_name, is_variable, is_number, is_true, is_fail}
use Rattle.text.specs.Grammar.Token.{bare, functor, opening, closing, comma, semicolon, equals, neck, stop, wrong}
use Rattle.text.specs.Parsing.Table.{kind, end_kind, look}
use Rattle.text.specs.Parsing.CountLaws.{look_small}
use Rattle.text.specs.Parsing.KindLaws.{pick_by}
use Rattle.text.specs.Tokens.Lexer.{tokens_of}
use Rattle.text.specs.Tokens.Places.{tokens_from, token_word, first_kind, NextToken}
use Rattle.text.specs.Tokens.PlacesLaws.{there_is_none, there_is_one}
use Rattle.text.specs.declared.tokens.Kind.{Kind}
use Rattle.text.specs.declared.tokens.Kind.TheVariants.{Name, True, Fail, Variable, Number, Functor, Open, Close, Comma, Semicolon, Equals, Neck, Stop, Wrong, End}
use Rattle.text.specs.declared.tokens.Lexeme.{Lexeme}
use Rattle.text.specs.declared.table.State.{State}
use Rattle.reader.specs.Items.Items.{Position, position, role_of, equals_next, items}
use Rattle.reader.specs.declared.roles.Role.{Role}
use Rattle.reader.specs.declared.roles.Role.TheVariants.{Variable as AVariable}
use Rattle.reader.specs.Items.Words.{roles_of, item_words, token_words}
use Rattle.reader.specs.Items.Sorted.{text_items, reserved, equals_kind, Sorted, Sorting}
use Rattle.reader.specs.Items.TableLaws.{agrees_none, agrees_more, drop_more, drop_none, drop_head, drop_rest, drop_roles}

-- the words of a text's items are those of its tokens
pub items_words : (st : State) (ts : List Token) → item_words (items st ts) ≡ token_words ts
unfolding items
items_words st [] = refl
items_words st (t ∷ ts) = ap (λ (l : List (List ℕ)). token_word t ∷ l) (items_words (look st (kind t)) ts)

-- what comes next is = where its kind says so
abbrev Other : Kind → Type 0
Other k = equals_kind k ≡ false

pub equals_first : (ts : List Token) → equals_kind (first_kind ts) ≡ equals_next ts
equals_first [] = refl
equals_first (bare w ∷ ts) =
    pick_by Other (is_name w) (pick_by Other (is_true w) refl (pick_by Other (is_fail w) refl refl)) (pick_by Other (is_variable w) refl (pick_by Other (is_number w) refl refl))
equals_first (functor w ∷ ts) = pick_by Other (is_name w) refl refl
equals_first (opening ∷ ts) = refl
equals_first (closing ∷ ts) = refl
equals_first (comma ∷ ts) = refl
equals_first (semicolon ∷ ts) = refl
equals_first (equals ∷ ts) = refl
equals_first (neck ∷ ts) = refl
equals_first (stop ∷ ts) = refl
equals_first (wrong ∷ ts) = refl

-- any other word, and a mark, has its role whatever comes next
pub role_alike : (z : Position) (k : Kind) → reserved k ≡ false → (a b : Bool) → role_of z k a ≡ role_of z k b
role_alike z Name h a b = refl
role_alike z True h a b = absurd (false≢true (sym h))
role_alike z Fail h a b = absurd (false≢true (sym h))
role_alike z Variable h a b = refl
role_alike z Number h a b = refl
role_alike z Functor h a b = refl
role_alike z Open h a b = refl
role_alike z Close h a b = refl
role_alike z Comma h a b = refl
role_alike z Semicolon h a b = refl
role_alike z Equals h a b = refl
role_alike z Neck h a b = refl
role_alike z Stop h a b = refl
role_alike z Wrong h a b = refl
role_alike z End h a b = refl

module _ {s : List ℕ} {start : State} where
  -- before the first token
  pub sorting_start : (roles : List Role) → start.terms + start.goals ≤ 0 → Sorting s start roles roles 0 0 start
  unfolding tokens_of tokens_from
  sorting_start roles h = record {
    left = refl;
    reached = omega arith;
    behind = omega arith;
    within = omega arith;
    kept = refl;
    table = agrees_none _ roles (roles_of (text_items start s));
    few = h;
  }

  -- one token more
  pub sorting_more : {before roles : List Role} {count at : ℕ} {now : State} {t : Lexeme} → Sorting s start before roles count at now → NextToken s at t
      → end_kind t.kind ≡ false → count < length roles → (role : Role) → role ≡ role_of (position now.mode) t.kind (equals_next (tokens_from s t.next))
      → Sorting s start before (set roles count role) (count + 1) t.next (look now t.kind)
  unfolding items roles_of
  sorting_more {before} {roles} {count} {at} {now} {t} g n h f role q =
      let all = text_items start s in
      let one = there_is_one n h in
      let l = g.left ∙ ap (items now) one.tokens in
      record {
        left = drop_rest all count _ _ l ∙ ap (λ (k : Kind). items (look now k) (tokens_from s t.next)) (sym one.kind_is);
        reached = omega (arith, drop_more all count _ _ l);
        behind = omega (arith, n.advances h);
        within = n.within;
        kept = length-set roles count role ∙ g.kept;
        table = agrees_more _ roles (roles_of all) count role f g.table
            (q ∙ ap (λ (k : Kind). role_of (position now.mode) k (equals_next (tokens_from s t.next))) one.kind_is ∙ sym (drop_head (roles_of all) count _ _ AVariable (drop_roles all count ∙ ap roles_of l)));
        few = look_small now t.kind count g.few;
      }

  -- behind the last token
  pub sorting_end : {before roles : List Role} {count at : ℕ} {now : State} {t : Lexeme} → Sorting s start before roles count at now → NextToken s at t → end_kind t.kind ≡ true
      → Sorted s start before roles count
  unfolding items
  sorting_end {before} {roles} {count} {at} {now} g n h = record {
    counted = omega (arith, drop_none (text_items start s) count (g.left ∙ ap (items now) (there_is_none n h)));
    bounded = omega arith;
    kept = g.kept;
    table = g.table;
  }

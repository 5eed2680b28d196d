-- Laws of numbering: what the search for a variable finds, one item more, and the whole table.
use Rattle.std.specs.Prelude.{◌≡◌, refl, Bool, true, false, cond, ◌||◌, ℕ, zero, suc, ◌+◌, ◌≤◌, ◌<◌, max, get_or, set, replicate}
use Rattle.std.proofs.Math.Path.{sym, ap}
use Rattle.std.proofs.Common.{◌∙◌, arith, length-set, length-append, drop_of_length-le, drop-cons}
use Rattle.std.proofs.Math.Bool.{not}
use mathlib.Core.List.{List, [], ◌∷◌, ◌++◌}
use Rattle.std.proofs.Math.Numerals.{add-one}
use Rattle.std.proofs.Math.Dec.{leb}
use borrow.Author.Tests.{le-leb, lt-leb, leb-true, leb-false}
use Rattle.std.proofs.Math.ListN.{length, take, drop}
use Rattle.std.proofs.Math.Seq.{drop-length}
use Rattle.std.proofs.lemmas.List.{map-append, length-map, length-replicate, length-take-le, get_or-take, take-append-le, take-set-le, take_more_set}
use Rattle.std.proofs.lemmas.List.Elements.{All-append}
use Rattle.records.specs.Ends.Range.{cut, Inside}
use Rattle.records.specs.Ends.Same.{same_bytes}
use Rattle.records.specs.declared.put.Range.{Range}
use Rattle.text.specs.Grammar.{Token}
use Rattle.text.specs.Tokens.Lexer.{tokens_of}
use Rattle.text.specs.Tokens.Places.{tokens_from, first_word, rest_tokens, NextToken}
use Rattle.text.specs.declared.table.State.{State}
use Rattle.text.specs.declared.tokens.Lexeme.{Lexeme}
use Rattle.reader.specs.Form.Meaning.{place, listed, lone, number_in, met}
use Rattle.reader.specs.Items.Items.{Item, item}
use Rattle.reader.specs.Items.Roles.{variable_role, end_role}
use Rattle.reader.specs.Items.RolesLaws.{by_role}
use Rattle.reader.specs.Items.Words.{item_words, token_words, roles_of, variable_numbers, most_met, AgreesBy}
use Rattle.reader.specs.Items.Sorted.{text_items, Sorted}
use Rattle.reader.specs.Items.SortedLaws.{items_words}
use Rattle.reader.specs.Items.TableLaws.{agrees_none, agrees_more, drop_head, drop_rest, drop_roles}
use Rattle.reader.specs.Items.Tabled.{Tabled}
use Rattle.reader.specs.Items.Variables.{range_words, RangesInside, first_ranges, role_number, role_met, NumberedItem, Numbering}
use Rattle.reader.specs.Names.PlaceLaws.{place_within, place_listed, place_unlisted}
use Rattle.reader.specs.Emit.Cells.{variable_number, met_behind}
use Rattle.reader.specs.declared.roles.Role.{Role}
use Rattle.reader.specs.declared.roles.Role.TheVariants.{Variable}
use Rattle.reader.specs.declared.roles.Role.TheVariants.{Variable}
use Rattle.reader.specs.declared.variables.Numbered.{Numbered}

-- the search: behind j words that are others
pub place_other : (w : List ℕ) (vs : List (List ℕ)) (j : ℕ) → j < length vs → place w vs ≡ j + place w (drop j vs) → same_bytes w (get_or vs j []) ≡ false → place w vs ≡ (j + 1) + place w (drop (j + 1) vs)
place_other w vs j h e d =
    rw (add-one j) (e ∙ ap (λ (l : List (List ℕ)). j + place w l) (drop-cons vs j [] h) ∙ rw d (omega arith))

pub place_found : (w : List ℕ) (vs : List (List ℕ)) (j : ℕ) → j < length vs → place w vs ≡ j + place w (drop j vs) → same_bytes w (get_or vs j []) ≡ true → j ≡ place w vs
place_found w vs j h e d = sym (e ∙ ap (λ (l : List (List ℕ)). j + place w l) (drop-cons vs j [] h) ∙ rw d (omega arith))

pub place_end : (w : List ℕ) (vs : List (List ℕ)) → place w vs ≡ length vs + place w (drop (length vs) vs) → length vs ≡ place w vs
place_end w vs e = sym (e ∙ rw (drop-length vs) (omega arith))

-- a variable met before, and a new one, are told by the number
number_within : (vs : List (List ℕ)) (w : List ℕ) → number_in vs w ≤ length vs
number_within vs w = go (lone w)
  where
    go : (b : Bool) → cond b (length vs) (place w vs) ≤ length vs
    go true = omega arith
    go false = place_within w vs

met_known : (vs : List (List ℕ)) (w : List ℕ) → number_in vs w < length vs → met vs w ≡ vs
met_known vs w = go (lone w) (listed w vs) refl
  where
    go : (b c : Bool) → listed w vs ≡ c → cond b (length vs) (place w vs) < length vs → cond (b || not c) (vs ++ (w ∷ [])) vs ≡ vs
    go true c i h = absurd (omega arith)
    go false true i h = refl
    go false false i h = absurd (omega (arith, place_unlisted w vs i))

met_new : (vs : List (List ℕ)) (w : List ℕ) → number_in vs w ≡ length vs → met vs w ≡ vs ++ (w ∷ [])
met_new vs w = go (lone w) (listed w vs) refl
  where
    go : (b c : Bool) → listed w vs ≡ c → cond b (length vs) (place w vs) ≡ length vs → cond (b || not c) (vs ++ (w ∷ [])) vs ≡ vs ++ (w ∷ [])
    go true c i h = refl
    go false true i h = absurd (omega (arith, place_listed w vs i))
    go false false i h = refl

new_one : (o : Role) (vs : List (List ℕ)) (w : List ℕ) (x : ℕ) → variable_role o ≡ true → x ≡ number_in vs w → length vs ≤ x
    → (length vs ≡ role_number o vs w) × (role_met o vs w ≡ vs ++ (w ∷ []))
new_one o vs w x v e h = let q : number_in vs w ≡ length vs = omega (arith, number_within vs w) in (rw v (sym q), rw v (met_new vs w q))

-- Ranges.
pub length_words : (s : List ℕ) (ranges : List Range) → length (range_words s ranges) ≡ length ranges
unfolding range_words
length_words s ranges = length-map ranges (cut s)

pub range_word_at : (s : List ℕ) (ranges : List Range) (j : ℕ) (d : Range) → j < length ranges → get_or (range_words s ranges) j [] ≡ cut s (get_or ranges j d)
unfolding range_words
range_word_at s (r ∷ ranges) zero d h = refl
range_word_at s (r ∷ ranges) (suc j) d h = range_word_at s ranges j d (omega arith)
range_word_at s [] j d h = absurd (omega arith)

-- There are always so many first ranges, and they are the front of a table that has as many.
first_length : (ranges : List Range) (n : ℕ) → length (first_ranges ranges n) ≡ n
first_length ranges n =
    let none : Range = record { from = 0; to = 0 } in
    length-take-le n (ranges ++ replicate n none) (omega (arith, length-append ranges (replicate n none), length-replicate n none))

pub first_taken : (ranges : List Range) (n : ℕ) → n ≤ length ranges → first_ranges ranges n ≡ take n ranges
first_taken ranges n h = take-append-le n ranges _ h

first_words : (s : List ℕ) (ranges : List Range) (n : ℕ) → length (range_words s (first_ranges ranges n)) ≡ n
first_words s ranges n = length_words s (first_ranges ranges n) ∙ first_length ranges n

-- a range stored behind those that are counted
first_more : (ranges : List Range) (n : ℕ) (w : Range) → n < length ranges → first_ranges (set ranges n w) (n + 1) ≡ first_ranges ranges n ++ (w ∷ [])
first_more ranges n w h =
    first_taken (set ranges n w) (n + 1) (omega (arith, length-set ranges n w))
    ∙ (take_more_set ranges n w h ∙ ap (λ (l : List Range). l ++ (w ∷ [])) (sym (first_taken ranges n (omega arith))))

words_before : (s : List ℕ) (ranges : List Range) (m : ℕ) (w : Range) (n : ℕ) → n ≤ m → range_words s (take n (set ranges m w)) ≡ range_words s (take n ranges)
words_before s ranges m w n h = ap (range_words s) (take-set-le n ranges m w h)

words_more : (s : List ℕ) (ranges : List Range) (n : ℕ) (w : Range) → n < length ranges → range_words s (first_ranges (set ranges n w) (n + 1)) ≡ range_words s (first_ranges ranges n) ++ (cut s w ∷ [])
unfolding range_words
words_more s ranges n w h = ap (range_words s) (first_more ranges n w h) ∙ map-append (cut s) (first_ranges ranges n) (w ∷ [])

pub inside_none : (s : List ℕ) → RangesInside s []
unfolding RangesInside
inside_none s k d h = absurd (omega arith)

inside_more : (s : List ℕ) (ranges : List Range) (n : ℕ) (w : Range) → n < length ranges → RangesInside s (first_ranges ranges n) → Inside w s → RangesInside s (first_ranges (set ranges n w) (n + 1))
unfolding RangesInside
inside_more s ranges n w h all i = rw (first_more ranges n w h) (All-append (λ r. Inside r s) (first_ranges ranges n) (w ∷ []) all (λ k d l. let z : k ≡ 0 = omega arith in rw z i))

-- One item. A variable that was met before, a new one, a 65th, the end of a clause, anything else.
module _ {s : List ℕ} {o : Role} {w : Range} {ranges : List Range} {n : ℕ} (inside : RangesInside s (first_ranges ranges n)) where
  pub numbered_known : (x : ℕ) → variable_role o ≡ true → x ≡ number_in (range_words s (first_ranges ranges n)) (cut s w) → x < n → NumberedItem s o w ranges n ranges (record { number = x; met = n })
  numbered_known x v e h =
      let before = range_words s (first_ranges ranges n) in
      let long = first_words s ranges n in
      let known = met_known before (cut s w) (omega (arith, long)) in
      record {
        number = rw v e;
        count = rw (v, known) (sym long);
        words = λ l. rw (v, known) refl;
        inside = λ l. inside;
        kept = refl;
      }

  pub numbered_new : (x : ℕ) → variable_role o ≡ true → x ≡ number_in (range_words s (first_ranges ranges n)) (cut s w) → n ≤ x → n < length ranges → Inside w s
      → NumberedItem s o w ranges n (set ranges n w) (record { number = n; met = n + 1 })
  numbered_new x v e h f i =
      let before = range_words s (first_ranges ranges n) in
      let long = first_words s ranges n in
      let new = new_one o before (cut s w) x v e (omega (arith, long)) in
      record {
        number = sym long ∙ new.0;
        count = sym (ap length new.1 ∙ length-append before (cut s w ∷ []) ∙ omega (arith, long));
        words = λ l. words_more s ranges n w f ∙ sym new.1;
        inside = λ l. inside_more s ranges n w f inside i;
        kept = length-set ranges n w;
      }

  pub numbered_over : (x : ℕ) → variable_role o ≡ true → x ≡ number_in (range_words s (first_ranges ranges n)) (cut s w) → n ≤ x → 64 ≤ n → NumberedItem s o w ranges n ranges (record { number = n; met = n + 1 })
  numbered_over x v e h f =
      let before = range_words s (first_ranges ranges n) in
      let long = first_words s ranges n in
      let new = new_one o before (cut s w) x v e (omega (arith, long)) in
      record {
        number = sym long ∙ new.0;
        count = sym (ap length new.1 ∙ length-append before (cut s w ∷ []) ∙ omega (arith, long));
        words = λ l. absurd (omega arith);
        inside = λ l. absurd (omega arith);
        kept = refl;
      }

  pub numbered_end : variable_role o ≡ false → end_role o ≡ true → NumberedItem s o w ranges n ranges (record { number = n; met = 0 })
  unfolding range_words
  numbered_end v e = record {
    number = rw (v, e) (sym (first_words s ranges n));
    count = rw (v, e) refl;
    words = λ l. rw (v, e) refl;
    inside = λ l. inside_none s;
    kept = refl;
  }

  pub numbered_other : variable_role o ≡ false → end_role o ≡ false → NumberedItem s o w ranges n ranges (record { number = 0; met = n })
  numbered_other v e = record {
    number = rw (v, e) refl;
    count = rw (v, e) (sym (first_words s ranges n));
    words = λ l. rw (v, e) refl;
    inside = λ l. inside;
    kept = refl;
  }

-- The most met: never below where it starts, and from 64 at most on only what comes behind counts.
most_above : (m : ℕ) (vs : List (List ℕ)) (is : List Item) → m ≤ most_met m vs is
unfolding most_met
most_above m vs [] = omega arith
most_above m vs (i ∷ is) = omega (arith, most_above (max m (length (met_behind vs i))) (met_behind vs i) is)

most_max : (m : ℕ) (vs : List (List ℕ)) (is : List Item) → most_met m vs is ≡ max m (most_met 0 vs is)
unfolding most_met
most_max m vs [] = omega arith
most_max m vs (i ∷ is) =
    let ws = met_behind vs i in
    omega (arith, most_max (max m (length ws)) ws is, most_max (max 0 (length ws)) ws is)

most_from : (m : ℕ) (vs : List (List ℕ)) (is : List Item) → m ≤ 64 → leb (most_met m vs is) 64 ≡ leb (most_met 0 vs is) 64
most_from m vs is h = go (leb (most_met 0 vs is) 64) refl
  where
    go : (b : Bool) → leb (most_met 0 vs is) 64 ≡ b → leb (most_met m vs is) 64 ≡ b
    go true e = le-leb (most_met m vs is) 64 (omega (arith, leb-true (most_met 0 vs is) 64 e, most_max m vs is))
    go false e = lt-leb (most_met m vs is) 64 (omega (arith, leb-false (most_met 0 vs is) 64 e, most_max m vs is))

-- a word in front of others is that of the first token
words_split : {w : List ℕ} {l : List (List ℕ)} (ts : List Token) → w ∷ l ≡ token_words ts → (w ≡ first_word ts) × (l ≡ token_words (rest_tokens ts))
words_split [] e = let z : ◌≡◌ {A = ℕ} 0 1 = cc in absurd (omega arith)
words_split (t ∷ ts) e = (cc, cc)

-- the items of a text that is sorted
pub sorted_tabled : {s : List ℕ} {start : State} {before roles : List Role} {count : ℕ} → Sorted s start before roles count → Tabled s roles count (text_items start s)
sorted_tabled {s} {start} g = record { counted = g.counted; coded = g.table; worded = items_words start (tokens_of s) }

-- The table. Before the first item, one item more, a 65th variable, and behind the last.
-- the entries that are filled are a table of their own
pub tabled_front : {s : List ℕ} {roles : List Role} {count : ℕ} {is : List Item} → count ≤ length roles → Tabled s roles count is → Tabled s (take count roles) (length (take count roles)) is
unfolding AgreesBy
tabled_front {roles = roles} {count} h t =
    let e : length (take count roles) ≡ count = length-take-le count roles h in
    record { counted = e ∙ t.counted; coded = λ j i. let k : j < count = omega (arith, e) in get_or-take count roles j Variable k ∙ t.coded j k; worded = t.worded }

module _ {s : List ℕ} {roles : List Role} {count : ℕ} {is : List Item} (tabled : Tabled s roles count is) where
  pub numbering_start : (variables : List ℕ) (ranges : List Range) → Numbering s is variables 0 0 (range_words s (first_ranges ranges 0))
  unfolding tokens_of tokens_from range_words
  numbering_start variables ranges = record { words = tabled.worded; left = refl; most = refl; table = agrees_none _ variables (variable_numbers [] is) }

  module _ {variables : List ℕ} {ranges after : List Range} {at k n : ℕ} {t : Lexeme} {r : Numbered}
      (g : Numbering s is variables at k (range_words s (first_ranges ranges n))) (next : NextToken s at t) (more : k < count)
      (numbered : NumberedItem s (get_or roles k Variable) t.word ranges n after r) where
    abbrev vs : List (List ℕ)
    vs = range_words s (first_ranges ranges n)

    -- the item at k, told by its role and word
    by_this : (A : Type 0) → ((o : Role) (w : List ℕ) → drop k is ≡ item o w ∷ drop (suc k) is → r.number ≡ variable_number vs (item o w)
        → role_met (get_or roles k Variable) vs (cut s t.word) ≡ met_behind vs (item o w) → item_words (drop (suc k) is) ≡ token_words (tokens_from s t.next) → A) → A
    unfolding AgreesBy roles_of
    by_this A f = go (get_or is k (item Variable [])) (drop-cons is k (item Variable []) (omega (arith, tabled.counted)))
      where
        go : (i : Item) → drop k is ≡ i ∷ drop (suc k) is → A
        go (item o w) e =
            let role = tabled.coded k more ∙ drop_head (roles_of is) k o (roles_of (drop (suc k) is)) Variable (drop_roles is k ∙ ap roles_of e) in
            let both = words_split (tokens_from s at) (sym (ap item_words e) ∙ g.words) in
            let word = next.word_is ∙ sym both.0 in
            f o w e (numbered.number ∙ rw (role, word) (sym (by_role o (number_in vs w) (length vs) 0))) (rw (role, word) (sym (by_role o (met vs w) [] vs))) (both.1 ∙ sym (ap token_words next.rest_is))

    pub numbering_more : k < length variables → r.met ≤ 64 → Numbering s is (set variables k r.number) t.next (k + 1) (range_words s (first_ranges after r.met))
    unfolding variable_numbers most_met
    numbering_more h few = by_this (Numbering s is (set variables k r.number) t.next (k + 1) (range_words s (first_ranges after r.met))) (λ o w e x m b. record {
      words = rw (add-one k) b;
      left = drop_rest (variable_numbers [] is) k (variable_number vs (item o w)) (variable_numbers (met_behind vs (item o w)) (drop (suc k) is)) (g.left ∙ ap (variable_numbers vs) e)
          ∙ rw (numbered.words few, m, add-one k) refl;
      most = g.most ∙ ap (λ (l : List Item). leb (most_met 0 vs l) 64) e ∙ most_from _ (met_behind vs (item o w)) (drop (suc k) is) (omega (arith, numbered.count, ap length m)) ∙ rw (numbered.words few, m, add-one k) refl;
      table = agrees_more _ variables (variable_numbers [] is) k r.number h g.table
          (x ∙ sym (drop_head (variable_numbers [] is) k (variable_number vs (item o w)) (variable_numbers (met_behind vs (item o w)) (drop (suc k) is)) 0 (g.left ∙ ap (variable_numbers vs) e)));
    })

    pub numbering_over : 64 < r.met → true ≡ not (leb (most_met 0 [] is) 64)
    unfolding most_met
    numbering_over h = by_this (true ≡ not (leb (most_met 0 [] is) 64)) (λ o w e x m b.
        let c = met_behind vs (item o w) in
        let over = lt-leb (most_met (max 0 (length c)) c (drop (suc k) is)) 64 (omega (arith, numbered.count, ap length m, most_above (max 0 (length c)) c (drop (suc k) is))) in
        ap not (sym (g.most ∙ ap (λ (l : List Item). leb (most_met 0 vs l) 64) e ∙ over)))

  pub numbering_end : {variables : List ℕ} {at : ℕ} {vs : List (List ℕ)} → Numbering s is variables at count vs → false ≡ not (leb (most_met 0 [] is) 64)
  unfolding most_met
  numbering_end {variables} {at} {vs} g =
      ap not (sym (g.most ∙ ap (λ (l : List Item). leb (most_met 0 vs l) 64) (drop_of_length-le is {i = count} (omega (arith, tabled.counted)))))

-- Laws of the list of names: it has just the names that stand in the text, none of them twice, and a name is the entry at its number; a query's names come behind
-- those of the text, which keep their numbers.
use Rattle.std.specs.Prelude.{◌≡◌, refl, Bool, true, false, cond, ◌||◌, not, List, [], ◌∷◌, ◌++◌, ℕ, zero, suc, ◌<◌, length, get_or}
use Rattle.std.proofs.Common.{sym, ap, ◌∙◌, append-nil, append_assoc, arith}
use Rattle.std.proofs.lemmas.Bool.{false≢true}
use Rattle.std.proofs.Math.Bool.{or-true, or-false, or_assoc}
use Rattle.records.specs.Ends.Same.{same_bytes}
use Rattle.records.specs.Ends.SameLaws.{same_true, same_refl}
use Rattle.records.specs.Gate.RecordRulesLaws.{same_truth, and_both}
use Rattle.text.specs.Grammar.{GoalTree, ClauseTree}
use Rattle.reader.specs.Form.Meaning.{place, listed, with_name, with_names, names_of_goal, names_of_clauses, text_names, query_names, name_list}
use Rattle.reader.specs.Form.Numbers.{distinct}
use Rattle.reader.specs.Names.PlaceLaws.{place_behind, name_list_append}

-- What is listed: the words that were, and those that are entered.
pub listed_append : (w : List ℕ) (l k : List (List ℕ)) → listed w (l ++ k) ≡ (listed w l || listed w k)
listed_append w [] k = refl
listed_append w (v ∷ l) k = ap (λ (b : Bool). same_bytes w v || b) (listed_append w l k) ∙ sym (or_assoc (same_bytes w v) (listed w l) (listed w k))

listed_with : (w : List ℕ) (ns : List (List ℕ)) (v : List ℕ) → listed w (with_name ns v) ≡ (listed w ns || same_bytes w v)
listed_with w ns v = go (listed v ns) refl
  where
    go : (b : Bool) → listed v ns ≡ b → listed w (cond b ns (ns ++ (v ∷ []))) ≡ (listed w ns || same_bytes w v)
    go true e = same (same_bytes w v) refl
      where
        same : (c : Bool) → same_bytes w v ≡ c → listed w ns ≡ (listed w ns || c)
        same true d = let q : w ≡ v = same_true w v d in rw (q, e)
        same false d = sym (or-false (listed w ns))
    go false e = listed_append w ns (v ∷ []) ∙ ap (λ (b : Bool). listed w ns || b) (or-false (same_bytes w v))

pub listed_names : (w : List ℕ) (ns ws : List (List ℕ)) → listed w (with_names ns ws) ≡ (listed w ns || listed w ws)
listed_names w ns [] = sym (or-false (listed w ns))
listed_names w ns (v ∷ ws) =
    listed_names w (with_name ns v) ws ∙ ap (λ (b : Bool). b || listed w ws) (listed_with w ns v) ∙ or_assoc (listed w ns) (same_bytes w v) (listed w ws)

pub text_listed : (w : List ℕ) (cs : List ClauseTree) → listed w (text_names cs) ≡ listed w (names_of_clauses cs)
text_listed w cs = listed_names w [] (names_of_clauses cs)

pub query_listed : (w : List ℕ) (cs : List ClauseTree) (g : GoalTree) → listed w (query_names cs g) ≡ (listed w (names_of_clauses cs) || listed w (names_of_goal g))
query_listed w cs g = listed_names w (text_names cs) (names_of_goal g) ∙ ap (λ (b : Bool). b || listed w (names_of_goal g)) (text_listed w cs)

-- No name twice.
same_sym : (v w : List ℕ) → same_bytes v w ≡ same_bytes w v
same_sym v w = same_truth (same_bytes v w) (same_bytes w v) (turned v w) (turned w v)
  where
    turned : (x y : List ℕ) → same_bytes x y ≡ true → same_bytes y x ≡ true
    turned x y e = rw (same_true x y e) (same_refl y)

distinct_end : (w : List ℕ) (l : List (List ℕ)) → listed w l ≡ false → distinct l ≡ true → distinct (l ++ (w ∷ [])) ≡ true
distinct_end w [] n d = refl
distinct_end w (v ∷ l) n d =
    let m = neither (same_bytes w v) (listed w l) n in
    let k = and_both (not (listed v l)) (distinct l) d in
    rw (listed_append v l (w ∷ []), same_sym v w, m.0, or-false (listed v l), k.0) (distinct_end w l m.1 k.1)
  where
    neither : (a b : Bool) → (a || b) ≡ false → (a ≡ false) × (b ≡ false)
    neither true b e = absurd (false≢true (sym e))
    neither false b e = (refl, e)

names_distinct : (ns ws : List (List ℕ)) → distinct ns ≡ true → distinct (with_names ns ws) ≡ true
names_distinct ns [] d = d
names_distinct ns (w ∷ ws) d = names_distinct (with_name ns w) ws (go (listed w ns) refl)
  where
    go : (b : Bool) → listed w ns ≡ b → distinct (cond b ns (ns ++ (w ∷ []))) ≡ true
    go true e = d
    go false e = distinct_end w ns e d

pub text_distinct : (cs : List ClauseTree) → distinct (text_names cs) ≡ true
text_distinct cs = names_distinct [] (names_of_clauses cs) refl

pub query_distinct : (cs : List ClauseTree) (g : GoalTree) → distinct (query_names cs g) ≡ true
query_distinct cs g = names_distinct (text_names cs) (names_of_goal g) (text_distinct cs)

-- A listed word is the entry at its place, so no other has that place ..
pub place_entry : (w : List ℕ) (l : List (List ℕ)) → listed w l ≡ true → get_or l (place w l) [] ≡ w
place_entry w [] h = absurd (false≢true h)
place_entry w (v ∷ l) h = go (same_bytes w v) refl (place_entry w l) h
  where
    go : (b : Bool) → same_bytes w v ≡ b → (listed w l ≡ true → get_or l (place w l) [] ≡ w) → (b || listed w l) ≡ true → get_or (v ∷ l) (cond b zero (suc (place w l))) [] ≡ w
    go true e ih h = sym (same_true w v e)
    go false e ih h = ih h

pub place_apart : (w v : List ℕ) (l : List (List ℕ)) → listed w l ≡ true → listed v l ≡ true → place w l ≡ place v l → w ≡ v
place_apart w v l h k e = sym (place_entry w l h) ∙ ap (λ (i : ℕ). get_or l i []) e ∙ place_entry v l k

-- .. and where no word stands twice, every entry's place is its own.
pub entry_place : (l : List (List ℕ)) → distinct l ≡ true → (i : ℕ) → i < length l → place (get_or l i []) l ≡ i
entry_place [] d i h = absurd (omega arith)
entry_place (v ∷ l) d zero h = rw (same_refl v)
entry_place (v ∷ l) d (suc i) h =
    let k = and_both (not (listed v l)) (distinct l) d in
    go (same_bytes (get_or l i []) v) refl k.0 (entry_listed l i (omega arith)) (entry_place l k.1 i (omega arith))
  where
    entry_listed : (l : List (List ℕ)) (i : ℕ) → i < length l → listed (get_or l i []) l ≡ true
    entry_listed [] i h = absurd (omega arith)
    entry_listed (u ∷ l) zero h = rw (same_refl u)
    entry_listed (u ∷ l) (suc i) h = rw (entry_listed l i (omega arith)) (or-true (same_bytes (get_or l i []) u))

    go : (b : Bool) → same_bytes (get_or l i []) v ≡ b → not (listed v l) ≡ true → listed (get_or l i []) l ≡ true → place (get_or l i []) l ≡ i → cond b zero (suc (place (get_or l i []) l)) ≡ suc i
    go true e n m p = let q : get_or l i [] ≡ v = same_true (get_or l i []) v e in absurd (false≢true (ap not (sym (rw q at m)) ∙ n))
    go false e n m p = ap suc p

-- The names of a text are a front of a query's: as words, as bytes, and so each keeps its number.
names_front : (ns ws : List (List ℕ)) → (rest : List (List ℕ)) × (with_names ns ws ≡ ns ++ rest)
names_front ns [] = ([], sym (append-nil ns))
names_front ns (w ∷ ws) =
    let more = names_front (with_name ns w) ws in
    let f = go (listed w ns) more.0 in (f.0, more.1 ∙ f.1)
  where
    go : (b : Bool) (k : List (List ℕ)) → (rest : List (List ℕ)) × (cond b ns (ns ++ (w ∷ [])) ++ k ≡ ns ++ rest)
    go true k = (k, refl)
    go false k = (w ∷ k, append_assoc ns (w ∷ []) k)

pub query_names_front : (cs : List ClauseTree) (g : GoalTree) → (rest : List (List ℕ)) × (query_names cs g ≡ text_names cs ++ rest)
query_names_front cs g = names_front (text_names cs) (names_of_goal g)

pub query_list_front : (cs : List ClauseTree) (g : GoalTree) → (rest : List ℕ) × (name_list (query_names cs g) ≡ name_list (text_names cs) ++ rest)
query_list_front cs g = let f = query_names_front cs g in (name_list f.0, ap name_list f.1 ∙ name_list_append (text_names cs) f.0)

pub text_place_kept : (cs : List ClauseTree) (g : GoalTree) (w : List ℕ) → listed w (text_names cs) ≡ true → place w (query_names cs g) ≡ place w (text_names cs)
text_place_kept cs g w h = place_behind w (text_names cs) (names_of_goal g) h

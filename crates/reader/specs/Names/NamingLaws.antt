-- Laws of the pass that names the items of a text: one word entered, and from item to item.
use Rattle.std.specs.Prelude.{◌≡◌, Bool, not, ℕ, zero, suc, ◌+◌, ◌-◌, ◌≤◌, ◌<◌, eqb, take, drop, set, replicate}
use Rattle.std.proofs.Math.Path.{refl, sym, ap}
use Rattle.std.proofs.Common.{◌∙◌, arith, eqb-true, length-append, length-take, length-drop, length-set, drop_of_length-le, take_at}
use Rattle.std.proofs.Math.Bool.{true, false, cond}
use Rattle.std.proofs.lemmas.Bool.{false≢true, eqb-false}
use mathlib.Core.List.{List, [], ◌∷◌, ◌++◌, append_assoc}
use Rattle.std.proofs.Math.ListN.{length, get_or}
use Rattle.records.specs.Ends.Range.{size, cut, Inside}
use Rattle.records.specs.Ends.RangeLaws.{length_cut}
use Rattle.records.specs.Format.Encode.{word}
use Rattle.records.specs.Format.Never.{never}
use Rattle.records.specs.Gate.RecordRules.{every}
use Rattle.records.specs.Gate.RecordRulesLaws.{and_both}
use Rattle.records.specs.Writing.Patched.{Put}
use Rattle.records.specs.Writing.PatchedLaws.{patched_nil, patched_tail, patched_front, put_length, put_then}
use Rattle.records.specs.declared.put.Range.{Range}
use Rattle.text.specs.Grammar.{Token}
use Rattle.text.specs.Grammar.Token.{bare, functor, opening, closing, comma, semicolon, equals, neck, stop, wrong}
use Rattle.text.specs.Parsing.Table.{kind, look}
use Rattle.text.specs.Tokens.Lexer.{tokens_of}
use Rattle.text.specs.Tokens.Places.{tokens_from, token_word, first_word, rest_tokens, NextToken}
use Rattle.text.specs.declared.table.State.{State}
use Rattle.text.specs.declared.tokens.Lexeme.{Lexeme}
use Rattle.reader.specs.Form.Meaning.{place, with_name, with_names, name_list}
use Rattle.reader.specs.Emit.Cells.{by_sort}
use Rattle.reader.specs.Items.Items.{Item, item, Position, position, mark_role, stop_role, role_of, equals_next, items}
use Rattle.reader.specs.Items.Items.Position.{clause_starts, head_ends, goal_starts, argument_ends, elsewhere}
use Rattle.reader.specs.Items.Roles.{name_role}
use Rattle.reader.specs.Items.TableLaws.{agrees_none, agrees_more, drop_none, drop_head, drop_rest, drop_roles}
use Rattle.reader.specs.Items.Tabled.{Tabled}
use Rattle.reader.specs.Items.Words.{item_words, token_words, names_of_items, name_numbers, roles_of, AgreesBy}
use Rattle.reader.specs.Names.Holds.{NameGiven, Zeros}
use Rattle.reader.specs.Names.HoldsLaws.{holds_start}
use Rattle.reader.specs.Names.Naming.{name_bytes, some_bytes, Naming, Entered, NamesSome, NamesIn, EntryIs, NameEntered, NamedItems, NamesAt, NamingAt}
use Rattle.reader.specs.Names.PlaceLaws.{with_same, with_more, place_kept, name_list_more}
use Rattle.reader.specs.Names.NodeLaws.{empty_node, zeros_of}
use Rattle.reader.specs.Names.Trie.{Tables, tables, links, marks, Filled}
use Rattle.reader.specs.declared.trie.TrieNode.{TrieNode}
use Rattle.reader.specs.declared.roles.Role.{Role}
use Rattle.reader.specs.declared.roles.Role.TheVariants.{Variable, Constant, Functor, GoalVariable, GoalConstant, GoalFunctor, Truth, Failure, Head, HeadFunctor, Shut, Next, And, Or, Equal, Open, Close, Neck, Fact, Rule}

-- what stands up to the end of a write: what stood before it, and the bytes
take_put : {before : List ℕ} {at : ℕ} {bytes after : List ℕ} {next : ℕ} → at + length bytes ≤ length before → Put before at bytes after next → take next after ≡ take at before ++ bytes
take_put {before} {at} {bytes} {after} {next} h p =
    let rest = drop (length bytes) (drop at before) in
    let f : after ≡ (take at before ++ bytes) ++ rest =
    p.output ∙ sym (patched_tail before at bytes)
    ∙ ap (λ (l : List ℕ). take at before ++ l) (patched_front (drop at before) bytes (omega (arith, length-drop at before)))
    ∙ sym (append_assoc (take at before) bytes rest) in
    rw f (take_at (take at before ++ bytes) rest next (simp (length-append, length-take) (omega (arith, p.place))))

-- a new name put into the list
pub put_new : {list₀ : List ℕ} {l₀ : ℕ} {new : Bool} {s : List ℕ} {w : Range} {mid list : List ℕ} {m l : ℕ} → new ≡ true → Inside w s → Put list₀ l₀ (word (w.to - w.from)) mid m
    → Put mid m (cut s w) list l → Put list₀ l₀ (cond new (name_bytes (cut s w)) []) list l
unfolding size
put_new e i p q = rw (e, length_cut i) (put_then p q)

-- the list has the new name, or stays as it is
listed_on : (N : List (List ℕ)) (v : List ℕ) {list₀ list : List ℕ} {c₀ c l₀ l : ℕ} → c₀ ≡ length N → c ≡ length (with_name N v) → l₀ ≡ length (name_list N) → take l₀ list₀ ≡ name_list N
    → l₀ + (2 + length v) ≤ length list₀ → (old : Bool) → eqb c c₀ ≡ old → Put list₀ l₀ (cond (not old) (name_bytes v) []) list l
    → (l ≡ length (name_list (with_name N v))) × (take l list ≡ name_list (with_name N v))
listed_on N v {list₀} {list} {c₀} {c} {l₀} {l} p q m b room true e h =
    let same : with_name N v ≡ N = with_same N v (omega (arith, eqb-true c c₀ e)) in
    let at : l ≡ l₀ = omega (arith, h.place) in
    (at ∙ m ∙ sym (ap (λ (x : List (List ℕ)). length (name_list x)) same), ap (λ (x : List ℕ). take l x) (h.output ∙ patched_nil list₀ l₀) ∙ ap (λ (n : ℕ). take n list₀) at ∙ b ∙ sym (ap name_list same))
listed_on N v {list₀} {list} {c₀} {c} {l₀} {l} p q m b room false e h =
    let more : name_list (with_name N v) ≡ name_list N ++ name_bytes v = ap name_list (with_more N v (λ z. eqb-false c c₀ e (omega arith))) ∙ name_list_more N v in
    (rw (more, length-append, h.place) (omega arith), rw more (take_put (omega arith) h ∙ ap (λ (x : List ℕ). x ++ name_bytes v) b))

module _ {s : List ℕ} {w : Range} {T₀ : Tables} {number₀ list₀ : List ℕ} {before : Naming} {T : Tables} {number list : List ℕ} {nodes names n listed : ℕ} where
  -- a word entered
  pub entered : Inside w s → before.listed + (2 + (w.to - w.from)) ≤ length list₀ → NameGiven T₀ number₀ before.nodes before.names (cut s w) T number nodes names n
      → Put list₀ before.listed (cond (not (eqb names before.names)) (name_bytes (cut s w)) []) list listed
      → NameEntered true s w T₀ number₀ list₀ before T number list (record { number = n; naming = record { nodes = nodes; names = names; listed = listed } })
  unfolding size
  entered i room g p =
      let m : length (cut s w) ≡ w.to - w.from = length_cut i in
      record {
        filled = g.filled;
        long = g.long;
        kept = put_length p;
        nodes_few = omega (arith, g.few);
        names_few = g.one;
        listed_few = few (not (eqb names before.names)) p m;
        entry = λ some N h.
            let k = g.numbered (some refl) N h.holds in
            let o = listed_on N (cut s w) h.holds.counted k.holds.counted h.long h.bytes (omega arith) (eqb names before.names) refl p in
            record { number_is = k.is; held = record { holds = k.holds; long = o.0; bytes = o.1 } };
      }
    where
      few : (b : Bool) → Put list₀ before.listed (cond b (name_bytes (cut s w)) []) list listed → length (cut s w) ≡ w.to - w.from → listed ≤ before.listed + (2 + (w.to - w.from))
      few true q m = omega (arith, q.place)
      few false q m = omega (arith, q.place)

-- no word entered
pub entered_none : {s : List ℕ} {w : Range} {T : Tables} {number list : List ℕ} {before : Naming} → Filled T before.nodes → length number ≡ 65536
    → NameEntered false s w T number list before T number list (record { number = 0; naming = before })
entered_none f l = record {
  filled = f;
  long = l;
  kept = refl;
  nodes_few = omega arith;
  names_few = omega arith;
  listed_few = omega arith;
  entry = λ some N h. record { number_is = refl; held = h };
}

-- roles that take a name are told by their sort
by_name : {A : Type 0} (r : Role) (n o : A) → by_sort r n o o o ≡ cond (name_role r) n o
by_name Variable n o = refl
by_name Constant n o = refl
by_name Functor n o = refl
by_name GoalVariable n o = refl
by_name GoalConstant n o = refl
by_name GoalFunctor n o = refl
by_name Truth n o = refl
by_name Failure n o = refl
by_name Head n o = refl
by_name HeadFunctor n o = refl
by_name Shut n o = refl
by_name Next n o = refl
by_name And n o = refl
by_name Or n o = refl
by_name Equal n o = refl
by_name Open n o = refl
by_name Close n o = refl
by_name Neck n o = refl
by_name Fact n o = refl
by_name Rule n o = refl

-- the names of a text's items have some bytes: a mark takes none, and the empty word is none
module _ (is : List Item) (h : NamesSome is) where
  some_word : (r : Role) (b : ℕ) (w : List ℕ) → NamesSome (item r (b ∷ w) ∷ is)
  some_word r b w = rw (by_name r ((b ∷ w) ∷ names_of_items is) (names_of_items is)) (go (name_role r))
    where
      go : (t : Bool) → every some_bytes (cond t ((b ∷ w) ∷ names_of_items is) (names_of_items is)) ≡ true
      go true = h
      go false = h

  no_word : (r : Role) → name_role r ≡ false → (w : List ℕ) → NamesSome (item r w ∷ is)
  no_word r e w = rw (by_name r (w ∷ names_of_items is) (names_of_items is), e) h

  mark_none : (z : Position) (a b : Role) → name_role a ≡ false → name_role b ≡ false → NamesSome (item (mark_role z a b) [] ∷ is)
  mark_none argument_ends a b x y = no_word a x []
  mark_none clause_starts a b x y = no_word b y []
  mark_none goal_starts a b x y = no_word b y []
  mark_none head_ends a b x y = no_word b y []
  mark_none elsewhere a b x y = no_word b y []

  stop_none : (z : Position) → NamesSome (item (stop_role z) [] ∷ is)
  stop_none argument_ends = h
  stop_none clause_starts = h
  stop_none goal_starts = h
  stop_none head_ends = h
  stop_none elsewhere = h

  token_some : (z : Position) (t : Token) (e : Bool) → NamesSome (item (role_of z (kind t) e) (token_word t) ∷ is)
  token_some z (bare []) e = h
  token_some z (bare (b ∷ w)) e = some_word (role_of z (kind (bare (b ∷ w))) e) b w
  token_some z (functor []) e = h
  token_some z (functor (b ∷ w)) e = some_word (role_of z (kind (functor (b ∷ w))) e) b w
  token_some z opening e = h
  token_some z closing e = mark_none z Shut Close refl refl
  token_some z comma e = mark_none z Next And refl refl
  token_some z semicolon e = h
  token_some z equals e = h
  token_some z neck e = h
  token_some z stop e = stop_none z
  token_some z wrong e = h

pub items_named : (st : State) (ts : List Token) → NamesSome (items st ts)
unfolding items
items_named st [] = refl
items_named st (t ∷ ts) = token_some (items (look st (kind t)) ts) (items_named (look st (kind t)) ts) (position st.mode) t (equals_next ts)

-- one item further: with the names so far and those that follow, where w is a name and where it is none
with_next : (b : Bool) (names ws : List (List ℕ)) (w : List ℕ) → with_names (cond b (with_name names w) names) ws ≡ with_names names (cond b (w ∷ ws) ws)
with_next true names ws w = refl
with_next false names ws w = refl

some_next : (b : Bool) (ws : List (List ℕ)) (w : List ℕ) → every some_bytes (cond b (w ∷ ws) ws) ≡ true → (every some_bytes ws ≡ true) × (b ≡ true → w ≡ [] → ⊥)
some_next true ws w h = let q = and_both (some_bytes w) (every some_bytes ws) h in (q.1, λ t e. false≢true (sym (ap some_bytes e) ∙ q.0))
some_next false ws w h = (h, λ t e. false≢true t)

number_next : (b : Bool) (names ws M : List (List ℕ)) (w : List ℕ) → with_names names (cond b (w ∷ ws) ws) ≡ M → cond b (place w names) 0 ≡ cond b (place w M) 0
number_next true names ws M w e = sym (place_kept w names ws) ∙ ap (place w) e
number_next false names ws M w e = refl

drop_numbers : (ns : List (List ℕ)) (is : List Item) (n : ℕ) → drop n (name_numbers ns is) ≡ name_numbers ns (drop n is)
unfolding name_numbers
drop_numbers ns is zero = refl
drop_numbers ns [] (suc n) = refl
drop_numbers ns (i ∷ is) (suc n) = drop_numbers ns is n

module _ {s : List ℕ} {roles : List Role} {count : ℕ} {is : List Item} {N : List (List ℕ)} {numbers : List ℕ} {T : Tables} {number list : List ℕ} {at k : ℕ} {now : Naming} {t : Lexeme}
    {T' : Tables} {number' list' : List ℕ} {e : Entered} (d : Tabled s roles count is) (g : NamesAt s is N numbers T number list at k now) (n : NextToken s at t) (h : k < count) (room : k < length numbers)
    (x : NameEntered (name_role (get_or roles k Variable)) s t.word T number list now T' number' list' e) where
  abbrev all : List (List ℕ)
  all = with_names N (names_of_items is)

  -- at the item and at the token
  at_item : (r : Role) (w : List ℕ) (l : List Item) → drop k is ≡ item r w ∷ l → cut s t.word ≡ w → item_words l ≡ token_words (tokens_from s t.next)
      → with_names g.names (names_of_items (item r w ∷ l)) ≡ all → NamesSome (item r w ∷ l) → NamesAt s is N (set numbers k e.number) T' number' list' t.next (k + 1) e.naming
  unfolding roles_of name_numbers AgreesBy
  at_item r w l f c v m o =
      let ws = names_of_items l in
      let role : get_or roles k Variable ≡ r = d.coded k h ∙ drop_head (roles_of is) k _ _ Variable (drop_roles is k ∙ ap roles_of f) in
      let b = name_role r in
      let m' : with_names g.names (cond b (w ∷ ws) ws) ≡ all = rw (by_name r (w ∷ ws) ws) at m in
      let o' = some_next b ws w (rw (by_name r (w ∷ ws) ws) at o) in
      let i : EntryIs b w T' number' list' e g.names = entry_at b w (ap name_role role) c o'.1 in
      record {
        names = cond b (with_name g.names w) g.names;
        held = i.held;
        words = ap item_words (drop_rest is k _ _ f) ∙ v;
        rest = ap (λ (y : List Item). with_names (cond b (with_name g.names w) g.names) (names_of_items y)) (drop_rest is k _ _ f) ∙ with_next b g.names ws w ∙ m';
        some = ap (λ (y : List Item). every some_bytes (names_of_items y)) (drop_rest is k _ _ f) ∙ o'.0;
        table = agrees_more _ numbers (name_numbers all is) k e.number room g.table
            (i.number_is ∙ number_next b g.names ws all w m' ∙ sym (by_name r (place w all) 0)
            ∙ sym (drop_head (name_numbers all is) k _ _ 0 (drop_numbers all is k ∙ ap (name_numbers all) f)));
      }
    where
      entry_at : (b : Bool) (w : List ℕ) → name_role (get_or roles k Variable) ≡ b → cut s t.word ≡ w → (b ≡ true → w ≡ [] → ⊥) → EntryIs b w T' number' list' e g.names
      entry_at b w p q z = rw (p, q) at (x.entry (λ y u. z (sym p ∙ y) (sym q ∙ u)) g.names g.held)

  pub names_next : NamesAt s is N (set numbers k e.number) T' number' list' t.next (k + 1) e.naming
  names_next = go (drop k is) refl g.words g.rest g.some
    where
      token : (ts : List Token) (r : Role) (w : List ℕ) (l : List Item) → drop k is ≡ item r w ∷ l → w ∷ item_words l ≡ token_words ts → cut s t.word ≡ first_word ts
          → tokens_from s t.next ≡ rest_tokens ts → with_names g.names (names_of_items (item r w ∷ l)) ≡ all → NamesSome (item r w ∷ l)
          → NamesAt s is N (set numbers k e.number) T' number' list' t.next (k + 1) e.naming
      token [] r w l f v c q m o = never cc
      token (y ∷ ts) r w l f v c q m o = let a : w ≡ token_word y = cc in let u : item_words l ≡ token_words ts = cc in at_item r w l f (c ∙ sym a) (u ∙ sym (ap token_words q)) m o

      go : (l : List Item) → drop k is ≡ l → item_words l ≡ token_words (tokens_from s at) → with_names g.names (names_of_items l) ≡ all → NamesSome l
          → NamesAt s is N (set numbers k e.number) T' number' list' t.next (k + 1) e.naming
      go [] f v m o = absurd (omega (arith, drop_none is k f, d.counted))
      go (item r w ∷ l) f v m o = token (tokens_from s at) r w l f v n.word_is n.rest_is m o

-- tables of zeros and an empty list hold no names
pub names_none : {child sibling letter number : List ℕ} → Zeros child → Zeros sibling → Zeros letter → Zeros number → (list : List ℕ)
    → NamesIn (tables child sibling letter) number list (record { nodes = 1; names = 0; listed = 0 }) []
unfolding name_list
names_none c s l n list = record { holds = holds_start c s l n; long = refl; bytes = refl }

pub nodes_none : (n : ℕ) → n ≡ 65536 → (list : List ℕ) → NamesIn (links (replicate n empty_node)) (marks (replicate n empty_node)) list (record { nodes = 1; names = 0; listed = 0 }) []
nodes_none n e list =
    names_none (zeros_of (λ (x : TrieNode). x.child) refl n e) (zeros_of (λ (x : TrieNode). x.sibling) refl n e) (zeros_of (λ (x : TrieNode). x.letter) refl n e) (zeros_of (λ (x : TrieNode). x.number) refl n e) list

module _ {s : List ℕ} {roles : List Role} {count : ℕ} where
  -- before the first item
  pub naming_start : {numbers : List ℕ} {T : Tables} {number list : List ℕ} {before : Naming} → Filled T before.nodes → length number ≡ 65536
      → NamingAt s roles count numbers T number list before numbers T number list 0 0 before
  unfolding tokens_of tokens_from
  naming_start {numbers} f l = record {
    named = λ is N d o h. record {
      names = N;
      held = h;
      words = d.worded;
      rest = refl;
      some = o;
      table = agrees_none _ numbers (name_numbers (with_names N (names_of_items is)) is);
    };
    within = omega arith;
    reached = omega arith;
    filled = f;
    long = l;
    numbers_kept = refl;
    list_kept = refl;
    nodes_few = omega arith;
    names_few = omega arith;
    listed_few = omega arith;
  }

  -- one item further
  pub naming_next : {numbers₀ : List ℕ} {T₀ : Tables} {number₀ list₀ : List ℕ} {before : Naming} {numbers : List ℕ} {T : Tables} {number list : List ℕ} {at k : ℕ} {now : Naming} {t : Lexeme}
      {T' : Tables} {number' list' : List ℕ} {e : Entered} → NamingAt s roles count numbers₀ T₀ number₀ list₀ before numbers T number list at k now → NextToken s at t → k < count → count ≤ length numbers₀
      → NameEntered (name_role (get_or roles k Variable)) s t.word T number list now T' number' list' e
      → NamingAt s roles count numbers₀ T₀ number₀ list₀ before (set numbers k e.number) T' number' list' t.next (k + 1) e.naming
  naming_next {numbers = numbers} {k = k} {e = e} g n h r x =
      let room : k < length numbers = omega (arith, g.numbers_kept) in
      record {
        named = λ is N d o b. names_next d (g.named is N d o b) n h room x;
        within = n.within;
        reached = omega arith;
        filled = x.filled;
        long = x.long;
        numbers_kept = length-set numbers k e.number ∙ g.numbers_kept;
        list_kept = x.kept ∙ g.list_kept;
        nodes_few = omega (arith, x.nodes_few, g.nodes_few, n.begins, n.ends, n.follows);
        names_few = omega (arith, x.names_few, g.names_few);
        listed_few = omega (arith, x.listed_few, g.listed_few, n.begins, n.ends, n.follows);
      }

  -- behind the last item
  pub naming_end : {numbers₀ : List ℕ} {T₀ : Tables} {number₀ list₀ : List ℕ} {before : Naming} {numbers : List ℕ} {T : Tables} {number list : List ℕ} {at k : ℕ} {now : Naming}
      → NamingAt s roles count numbers₀ T₀ number₀ list₀ before numbers T number list at k now → count ≤ k → count ≤ length s → NamedItems s roles count numbers₀ T₀ number₀ list₀ before numbers T number list now
  naming_end {number = number} {list} {k = k} {now} g h l = record {
    named = λ is N d o b. let a = g.named is N d o b in let q : k ≡ count = omega (arith, g.reached) in record {
      numbers_are = rw q at a.table;
      held = rw (sym (all_named is N d a)) a.held;
    };
    filled = g.filled;
    long = g.long;
    numbers_kept = g.numbers_kept;
    list_kept = g.list_kept;
    nodes_few = omega (arith, g.nodes_few, g.within);
    names_few = omega (arith, g.names_few, g.reached);
    listed_few = omega (arith, g.listed_few, g.within, g.reached);
  }
    where
      all_named : {numbers : List ℕ} {T : Tables} {at : ℕ} (is : List Item) (N : List (List ℕ)) → Tabled s roles count is → (a : NamesAt s is N numbers T number list at k now) → a.names ≡ with_names N (names_of_items is)
      all_named is N d a = ap (λ (y : List Item). with_names a.names (names_of_items y)) (sym (drop_of_length-le is {i = k} (omega (arith, d.counted)))) ∙ a.rest

-- Loading: the loop over a term's bytes.
use Rattle.std.specs.Prelude.{◌≡◌, refl, List, [], ◌∷◌, ◌++◌, ℕ, ◌+◌, ◌*◌, ◌≤◌, ◌<◌, length, set, drop}
use Rattle.std.proofs.Common.{sym, ◌∙◌, ap, append-nil, arith, below_more, length-set, get_or-set_same, get_or-set_other, length-append, drop_of_length-le}
use Rattle.records.specs.Format.Syntax.{Term, Terms, arity}
use Rattle.records.specs.Format.Syntax.Term.{var, app}
use Rattle.records.specs.Format.Syntax.Terms.{nil, cons}
use Rattle.records.specs.Format.Encode.{word, term_bytes, terms_bytes}
use Rattle.records.specs.Format.Formed.{TermFormed, TermsFormed}
use Rattle.records.specs.Format.Heads.{term_head_at}
use Rattle.records.specs.Ends.Stands.{Stands, head_of_term}
use Rattle.records.specs.Ends.StandsLaws.{stands_first, stands_second, stands_within, term_stands}
use Rattle.terms.specs.declared.nodes.Node.{Node}
use Rattle.terms.specs.declared.load.NodeHead.{NodeHead}
use Rattle.terms.specs.Classes.Nodes.{Nodes, count, blank, node}
use Rattle.terms.specs.Classes.Forest.{joined_forest, node_count, nodes_count, term_kind, term_number, forest_after, forest_first, term_at}
use Rattle.terms.specs.Classes.ForestLaws.{joined_forest_bytes, joined_count, joined_formed, after_add, count_bytes, count_positive}
use Rattle.terms.specs.Classes.Laid.{head_of, IsValue, NodeOf, NodesPut, Loads}

-- nothing is left behind the last byte
drop_all : (b : List ℕ) → drop (length b) b ≡ []
drop_all b = drop_of_length-le b {i = length b} (omega arith)

-- a node that is as it was is still a term's
pub still_node : (old new : Nodes) (i j : ℕ) (t : Term) → node new i ≡ node old j → NodeOf old j t → NodeOf new i t
still_node old new i j t e h = record { kind_is = ap (λ x. x.kind) e ∙ h.kind_is; number_is = ap (λ x. x.number) e ∙ h.number_is }

-- the first nodes of t are written, and its bytes from p on are those of what is left of it
pub record Loading (b : List ℕ) (start : ℕ) (old new : Nodes) (i p : ℕ) (t : Term) : Type 0 where
  pub left : Terms
  pub formed : TermsFormed left
  pub stands : Stands b p (terms_bytes left) (length b)
  pub many : ℕ
  pub place : i ≡ start + many
  pub rest : forest_after many (cons t nil) ≡ left
  pub sum : many + nodes_count left ≡ node_count t
  pub written : (k : ℕ) → k < many → NodeOf new (start + k) (term_at (cons t nil) k)
  pub before : (k : ℕ) → k < start → node new k ≡ node old k
  pub behind : (k : ℕ) → i ≤ k → node new k ≡ node old k
  pub long : count new ≡ count old

-- a node by its head; where its subtree ends is not known yet
abbrev pub head_node : NodeHead → Node
head_node h = record { kind = h.kind; number = h.number; next = 0 }

module _ (b : List ℕ) (start : ℕ) (old : Nodes) where
  pub loading_start : (t : Term) → TermFormed t → b ≡ term_bytes t → Loading b start old old start 0 t
  loading_start t f e = record {
    left = cons t nil;
    formed = (f, tt);
    stands = whole;
    many = 0;
    place = omega arith;
    rest = refl;
    sum = omega arith;
    written = λ k h. absurd (omega arith);
    before = λ k h. refl;
    behind = λ k h. refl;
    long = refl;
  }
    where
      whole : Stands b 0 (term_bytes t ++ []) (length b)
      whole = rw (append-nil (term_bytes t), ← e) (record { end = omega arith; bytes = sym (append-nil b) ∙ ap (λ l. b ++ l) (sym (drop_all b)) })

  module _ (new : Nodes) (i p : ℕ) (t : Term) where
    -- the head at p lies within the bytes, and what is written of it takes the loop on
    pub record HeadStep (h : NodeHead) : Type 0 where
      pub low : 3 ≤ h.size
      pub high : p + h.size ≤ length b
      pub next : i < count new → Loading b start old (set new i (head_node h)) (i + 1) (p + h.size) t

    pub loading_step : Loading b start old new i p t → p < length b → (h : NodeHead) → h ≡ head_of (term_head_at b p) → HeadStep h
    loading_step l lt h is = go l.left l.formed l.stands l.rest l.sum
      where
        step : (u : Term) (us left : Terms) → term_head_at b p ≡ head_of_term u → TermsFormed left → (x : List ℕ) → Stands b p (x ++ terms_bytes left) (length b)
            → length x ≡ (head_of (head_of_term u)).size → 3 ≤ length x
            → (head_of (head_of_term u)).kind ≡ term_kind u → (head_of (head_of_term u)).number ≡ term_number u
            → forest_after l.many (cons t nil) ≡ cons u us → forest_after 1 (cons u us) ≡ left → l.many + (1 + nodes_count left) ≡ node_count t → HeadStep h
        step u us left e f x w s o a c r q d =
            let z : h ≡ head_of (head_of_term u) = is ∙ ap head_of e in
            let first = stands_first x (terms_bytes left) w in
            record {
              low = let y : h.size ≡ length x = ap (λ g. g.size) z ∙ sym s in omega arith;
              high = let y : h.size ≡ length x = ap (λ g. g.size) z ∙ sym s in let k = (stands_within first (omega arith)).1 in omega arith;
              next = λ inside. record {
                left = left;
                formed = f;
                stands = rw z (rw (sym s) (stands_second x (terms_bytes left) w));
                many = l.many + 1;
                place = omega (arith, l.place);
                rest = after_add l.many 1 (cons t nil) ∙ ap (forest_after 1) r ∙ q;
                sum = omega arith;
                written = below_more _ _
                    (λ k y. still_node new (set new i (head_node h)) (start + k) (start + k) (term_at (cons t nil) k)
                    (get_or-set_other new i (start + k) (head_node h) blank (λ v. omega (arith, l.place))) (l.written k y))
                    (here inside (ap (λ g. g.kind) z ∙ a ∙ sym (ap (λ v. term_kind (forest_first v)) r)) (ap (λ g. g.number) z ∙ c ∙ sym (ap (λ v. term_number (forest_first v)) r)));
                before = λ k y. get_or-set_other new i k (head_node h) blank (λ v. omega (arith, l.place)) ∙ l.before k y;
                behind = λ k y. get_or-set_other new i k (head_node h) blank (λ v. omega arith) ∙ l.behind k (omega arith);
                long = length-set new i (head_node h) ∙ l.long;
              };
            }
          where
            here : i < count new → h.kind ≡ term_kind (term_at (cons t nil) l.many) → h.number ≡ term_number (term_at (cons t nil) l.many)
                → NodeOf (set new i (head_node h)) (start + l.many) (term_at (cons t nil) l.many)
            here inside a c =
                let y : node (set new i (head_node h)) (start + l.many) ≡ head_node h = rw (sym l.place) (get_or-set_same new i (head_node h) blank inside) in
                record { kind_is = ap (λ g. g.kind) y ∙ a; number_is = ap (λ g. g.number) y ∙ c }

        go : (left : Terms) → TermsFormed left → Stands b p (terms_bytes left) (length b) → forest_after l.many (cons t nil) ≡ left
            → l.many + nodes_count left ≡ node_count t → HeadStep h
        go nil f w r d = absurd (omega (arith, w.end))
        go (cons (var v) ts) f w r d =
            step (var v) ts ts (term_stands (var v) f.0 (stands_first (term_bytes (var v)) (terms_bytes ts) w)) f.1 (term_bytes (var v)) w refl (omega arith)
            refl refl r refl (omega arith)
        go (cons (app g us) ts) f w r d =
            step (app g us) ts (joined_forest us ts) (term_stands (app g us) f.0 (stands_first (term_bytes (app g us)) (terms_bytes ts) w))
            (joined_formed us ts f.0.2 f.1) (0x02 ∷ (word g ++ (arity us ∷ []))) (rw joined_forest_bytes w) refl (omega arith)
            refl refl r refl (omega (arith, joined_count us ts))

    pub loading_end : Loading b start old new i p t → length b ≤ p → NodesPut start old new i t
    loading_end l le = go l.left l.stands l.sum
      where
        go : (left : Terms) → Stands b p (terms_bytes left) (length b) → l.many + nodes_count left ≡ node_count t → NodesPut start old new i t
        go nil w d = record { place = omega (arith, l.place); written = λ k h. l.written k (omega arith); before = l.before; behind = l.behind; long = l.long }
        go (cons u ts) w d =
            let z = count_bytes u in
            let y = count_positive u in
            absurd (omega (arith, w.end, length-append (term_bytes u) (terms_bytes ts)))

-- the loop, whatever term the bytes are
pub record LoadLoop (b : List ℕ) (start : ℕ) (old new : Nodes) (i p : ℕ) : Type 0 where
  pub kept : count new ≡ count old
  pub room : 3 * i + length b ≤ 3 * count new + p
  pub each : (t : Term) → TermFormed t → b ≡ term_bytes t → Loading b start old new i p t

module _ (b : List ℕ) (start : ℕ) (old : Nodes) where
  pub load_start : 3 * start + length b ≤ 3 * count old → LoadLoop b start old old start 0
  load_start r = record { kept = refl; room = omega arith; each = loading_start b start old }

  module _ (v : IsValue b) (new : Nodes) (i p : ℕ) (l : LoadLoop b start old new i p) (h : NodeHead) (is : h ≡ head_of (term_head_at b p)) (lt : p < length b) where
    here : HeadStep b start old new i p v.term h
    here = loading_step b start old new i p v.term (l.each v.term v.formed v.same) lt h is

    pub load_room : (i < count new) × (p + h.size ≤ length b) × (0 < h.size)
    load_room = (omega (arith, here.low, here.high, l.room), here.high, omega (arith, here.low))

    pub load_step : LoadLoop b start old (set new i (head_node h)) (i + 1) (p + h.size)
    load_step = record {
      kept = length-set new i (head_node h) ∙ l.kept;
      room = omega (arith, here.low, l.room, length-set new i (head_node h));
      each = λ t f e. (loading_step b start old new i p t (l.each t f e) lt h is).next load_room.0;
    }

  pub load_end : (new : Nodes) (i p : ℕ) → LoadLoop b start old new i p → length b ≤ p → Loads b start old new i
  load_end new i p l le = record { each = λ t f e. loading_end b start old new i p t (l.each t f e) le }

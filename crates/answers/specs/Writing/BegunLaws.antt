-- Laws of the first event of 'Q, fail': its bytes around those of Q, and how many they are.
use Rattle.std.specs.Prelude.{◌≡◌, refl, List, [], ◌∷◌, ◌++◌, ℕ, ◌+◌, length}
use Rattle.std.proofs.Common.{sym, ◌∙◌, ap, append_assoc, arith, length-append}
use Rattle.records.specs.Format.Syntax.{Goal}
use Rattle.records.specs.Format.Encode.{goal_bytes, event_bytes, record_of, record_head, event_record}
use Rattle.records.specs.Format.HeadLaws.{Known, bytes_all}
use Rattle.records.specs.Gate.Gate.{Reading, refused, tree, Accepted, read_query}
use Rattle.records.specs.Gate.GateLaws.{query_tree}
use Rattle.records.specs.Ends.Range.{cut, Inside}
use Rattle.records.specs.Ends.StandsLaws.{body_stands, stands_cut}
use Rattle.records.specs.Writing.Patched.{Put}
use Rattle.records.specs.Writing.PatchedLaws.{put_then}
use Rattle.records.specs.Writing.EmittedLaws.{length_record_of, put_record}
use Rattle.stepper.specs.Rules.Rules.{first_event}
use Rattle.answers.specs.Form.Answers.{all_of}
use Rattle.answers.specs.Writing.Begun.{opening_bytes, closing_bytes}

-- the event's bytes
begin_bytes : (q : Goal) → event_bytes (first_event (all_of q)) ≡ opening_bytes ++ (goal_bytes q ++ closing_bytes)
unfolding first_event
begin_bytes q = ap (λ l. 0x01 ∷ 0x13 ∷ l) (append_assoc (goal_bytes q) (0x11 ∷ []) (0 ∷ 0 ∷ 0 ∷ 0 ∷ []))

-- an accepted query has a tree
pub accepted_query : (query : List ℕ) → Accepted (read_query query) → (q : Goal) × (read_query query ≡ tree q)
accepted_query query h = go (read_query query) refl h
  where
    go : (r : Reading Goal) → read_query query ≡ r → Accepted r → (q : Goal) × (read_query query ≡ tree q)
    go (refused x) e z = absurd z
    go (tree q) e z = (q, e)

module _ (query : List ℕ) (known : Known query) (q : Goal) (reads : read_query query ≡ tree q) where
  query_is : query ≡ record_of (goal_bytes q)
  query_is = (query_tree query (bytes_all query known) q reads).laid

  -- seven more than the query's record has
  pub begin_length : length (event_record (first_event (all_of q))) ≡ length query + 7
  begin_length = length_record_of (event_bytes (first_event (all_of q))) ∙ rw (begin_bytes q, query_is, length_record_of (goal_bytes q)) (simp length-append (omega arith))

  pub begin_goal : cut query (record { from = 3; to = length query }) ≡ goal_bytes q
  begin_goal = rw (query_is, length_record_of (goal_bytes q)) (stands_cut (body_stands (goal_bytes q)))

  pub begin_put : {before a b c after : List ℕ} {i j k end : ℕ} → Put before 0 (record_head (length query + 7)) a i → Put a i opening_bytes b j
      → Put b j (cut query (record { from = 3; to = length query })) c k → Put c k closing_bytes after end → Put before 0 (event_record (first_event (all_of q))) after end
  begin_put x y z w =
      put_record (sym begin_length) x (rw (begin_bytes q) (put_then y (put_then (rw begin_goal at z) w)))

-- the goal of an accepted query stands behind its record's head
pub query_inside : (query : List ℕ) → Known query → Accepted (read_query query) → Inside (record { from = 3; to = length query }) query
query_inside query known h =
    let (q, e) = accepted_query query h in
    record { order = omega (arith, ap length (query_is query known q e), length_record_of (goal_bytes q)); stop = omega arith }

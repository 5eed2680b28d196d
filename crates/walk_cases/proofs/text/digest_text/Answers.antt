use Rattle.std.proofs.Common.{◌≡◌, true, rules}
use Rattle.walk_text.specs.Rest.{done}
use Rattle.walk_cases.specs.TextLaws.{digest_start, digest_page, digest_end}
use Rattle.walk_cases.proofs.text.digest_text.Goals as goal

pub loop-used-init : goal.loop-used-init
loop-used-init c = record { digest_so_far = rw c.no_bytes-digest.ensures (digest_start _ _); within = search rules }

pub loop-used-preserved : goal.loop-used-preserved
loop-used-preserved c = record {
  digest_so_far = digest_page _ _ _ _ c.next_page-next.ensures c.add_bytes-digest.ensures c.loop-used.invariant.digest_so_far;
  within = search rules;
}

pub returns : goal.returns
returns c =
    let ended : done c.loop-used.rest ≡ true = search rules in
    record { digest_value = digest_end _ _ _ _ ended c.loop-used.invariant.digest_so_far; within = c.loop-used.invariant.within }

-- The digest of the pages passed, gone on with over what is left, is that of the text. The measure is the number of pages that are left.
use Rattle.std.proofs.Common.{◌≡◌}
use Rattle.io.specs.Counts.{IsPrefixLen}
use Rattle.walk_text.specs.Text.{text}
use Rattle.walk_text.specs.Rest.{left_text, pages_left}
use Rattle.case_io.specs.Digest.{digest_from, digest_of}
use Rattle.walk_cases.proofs.text.digest_text.Given as goal

abbrev pub invariant-loop-used : goal.invariant-loop-used
invariant-loop-used l = record {
  digest_so_far : digest_from l.digest (left_text l.program l.query l.rest) ≡ digest_of (text l.program l.query);
  within : IsPrefixLen l.used l.page;
}

abbrev pub decreases-loop-used : goal.decreases-loop-used
decreases-loop-used l = pages_left l.rest

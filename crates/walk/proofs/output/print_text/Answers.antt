use Rattle.std.proofs.Common.{◌≡◌, true, ap, not, rules}
use Rattle.walk_text.specs.Rest.{done}
use Rattle.walk.specs.WritingLaws.{printing_start, printing_page, printing_cut, printing_done}
use Rattle.walk.proofs.output.print_text.Goals as goal

pub loop-page-init : goal.loop-page-init
loop-page-init c = printing_start

pub returns-then-not-write_bytes : goal.returns-then-not-write_bytes
returns-then-not-write_bytes c = printing_cut c.loop-page.invariant c.next_page-next.ensures _ c.write_bytes.ensures (ap not c.if-not-write_bytes.true)

pub loop-page-preserved : goal.loop-page-preserved
loop-page-preserved c = printing_page c.loop-page.invariant c.next_page-next.ensures _ c.write_bytes.ensures (ap not c.if-not-write_bytes.false)

pub returns : goal.returns
returns c = let ended : done c.loop-page.rest ≡ true = search rules in printing_done c.loop-page.invariant ended

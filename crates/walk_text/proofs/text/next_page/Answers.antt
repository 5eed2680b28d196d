use Rattle.walk_text.specs.RestLaws.{paged_start, paged_walking, paged_done}
use Rattle.walk_text.proofs.text.next_page.Goals as goal

pub returns-in-Start : goal.returns-in-Start
returns-in-Start c = rw c.in-Start.is (paged_start (c.page_or_stop.ensures _ _ _ _ _ c.first_page.ensures))

pub returns-in-Walking : goal.returns-in-Walking
returns-in-Walking c = rw c.in-Walking.is (paged_walking _ (c.page_or_stop-in-Walking.ensures _ _ _ _ _ (c.later_page.ensures _)))

pub returns-in-Done : goal.returns-in-Done
returns-in-Done c = rw c.in-Done.is paged_done

use Rattle.records.specs.Writing.PatchedLaws.{put_then}
use Rattle.answers.proofs.begin.put_closing.Goals as goal

pub returns : goal.returns
returns c =
    put_then c.put_byte-ancestors_at.ensures (put_then c.put_word-bets_at.ensures c.put_word.ensures)

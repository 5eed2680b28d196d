use native.Mathlib.Omega.{arith}
use Rattle.records.proofs.HeadBytes.{short_word, number_at}
use Rattle.records.proofs.heads.word_at.Goals as goal

pub returns-then-room-lt2 : goal.returns-then-room-lt2
returns-then-room-lt2 c = short_word _ _ (omega arith)

pub returns : goal.returns
returns c = number_at _ _ _ (omega arith) (omega arith)

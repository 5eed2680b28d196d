-- What rests on 'the locals of a body are new', and is therefore no part of `specs`: a must-fail edit takes that away, and all of this is refused. Whole at
-- every fail (`WholeLaws`), the list that the answers service writes (`ListLaws`, `FormedLaws`, `BytesLaws`), the last page (`RightAndWhole`), and the example
-- of release 1 (`NewLocals`).
pub mod WholeLaws
pub mod ListLaws
pub mod FormedLaws
pub mod BytesLaws
pub mod RightAndWhole
pub mod NewLocals

-- The text of the walk program. What is printed? `Text` (`printed`), whose lines are in `Line`; what is taken of an input, `Input`. That the text is
-- the lines of a run's log: `TextLaws`. What does a page hold? `Rest`; that the pages (`Pages`) are the text, `PagesLaws`. The specification's
-- example: `Example`; its bench sheet: `Bench`; the clauses that shared a number: `NewLocals`.
pub mod Line
pub mod Input
pub mod Text
pub mod Rest
pub mod Pages
pub mod Example
pub mod Bench
pub mod NewLocals
pub mod LineLaws
pub mod InputLaws
pub mod TextLaws
pub mod RestLaws
pub mod PagesLaws

-- From tokens to trees: the table that question 21 asks, and that it lets pass exactly the tokens of trees, each list of them one tree's.
pub mod Table
pub mod KindLaws
pub mod Questions
pub mod QuestionsLaws
pub mod CountLaws
pub mod TreeLaws
pub mod Followers
pub mod CompleteLaws
pub mod SoundLaws
pub mod UniqueLaws
pub mod ExactLaws
pub mod Found
pub mod FoundLaws

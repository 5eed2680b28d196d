-- What is known of a text before anything is written.
pub mod Survey
pub mod SurveyLaws
pub mod ReplyLaws
pub mod ServiceLaws

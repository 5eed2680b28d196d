pub mod HeadBytes
pub mod EndSteps
pub mod TraversalArms
pub mod RuleArms
pub mod ItemArms

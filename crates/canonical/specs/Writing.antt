-- Writing: the bytes of a branch, of a definition and of a program, and the service.
pub mod PartlyPut
pub mod Equation
pub mod Definition
pub mod Program
pub mod Service
pub mod PartlyPutLaws
pub mod EquationLaws
pub mod BranchLaws
pub mod DefinitionLaws
pub mod ProgramLaws
pub mod ServiceLaws
pub mod ReplyLaws

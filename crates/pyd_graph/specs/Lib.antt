pub mod Names
pub mod GraphText
pub mod ScriptGraph

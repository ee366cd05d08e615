pub mod PathsElement
pub mod Paths
pub mod LateCalls
pub mod BuilderCalls
pub mod CodedCalls
pub mod TokenCall
pub mod ReadCall
pub mod ListCalls
pub mod SheetCalls
pub mod XmlCall
pub mod MergeCall
pub mod Demand1
pub mod Limits
mod Examples

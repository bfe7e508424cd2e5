pub mod Json
pub mod Office
pub mod Plan

pub mod Answer
pub mod Said
pub mod Laws

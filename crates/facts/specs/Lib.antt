-- What the contracts of `facts` cite.
pub mod Sets
pub mod Turns

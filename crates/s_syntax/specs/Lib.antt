pub mod ExprTree
pub mod ExprOf
pub mod ExprFalls
pub mod ExprCode
pub mod BlockTree
pub mod BlockOf
pub mod BlockFalls
pub mod BlockCode

pub mod LeftRoom
pub mod OwnTails
pub mod HostTails

pub mod Chains
pub mod EachSlot
pub mod Joints

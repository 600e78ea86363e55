pub mod Bound
pub mod RoleSize
pub mod FragmentSize
pub mod RoleSizeLaws
pub mod Sizes

pub mod Role
pub mod RoleLaws
pub mod Rule
pub mod RuleLaws
pub mod Named
pub mod Derivation
pub mod ChainParts

pub mod TableTrails
pub mod TableTrailsLaws
pub mod TrailsBind

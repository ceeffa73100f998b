pub mod RefusedSection

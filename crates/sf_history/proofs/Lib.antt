pub mod LegalHistories
mod LastLeads
pub mod Currents
pub mod Settling
pub mod Members

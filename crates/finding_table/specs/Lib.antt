pub mod FindingTable

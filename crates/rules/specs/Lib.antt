-- The paper as definitions, a file for each of its sections, in its order. First how they are written:
pub mod Types
pub mod Limits
pub mod Scan
pub mod Rulings
-- What the host keeps
pub mod Kept
pub mod Real
-- The partition image
pub mod Bits
pub mod Widths
pub mod Image
-- Entry to every event
pub mod Host
pub mod Tables
-- The statuses
pub mod Statuses
-- Which calls exist
pub mod Calls
pub mod Versions
-- Queues and mondos
pub mod Queues
pub mod Mondo
-- TSB lists and memory
pub mod Tsb
pub mod Memory
pub mod Hits
-- Interrupt sources
pub mod Sources
-- Writing partition images, by request No. 2
pub mod Writing
-- The session program
pub mod Text
pub mod Session
-- The program plan, by request No. 2
pub mod Plan

-- To be believed, in this order: Asked, Bench, Block, Sound, Questions, Answers, Records and Calls (demand 1); Taken, Runs, Lines, Arcs,
-- Texts and TickBytes (demand 2); Before (02 §4); Panel (02 §5); CheckFromC, PanelFromC and FromC. Demand 3, the figure and the claims on
-- the look-ahead are in crate history. Proved of them: proofs/laws.
pub mod Asked
pub mod Bench
pub mod Block
pub mod Sound
pub mod Questions
pub mod Answers
pub mod Records
pub mod Calls
pub mod Taken
pub mod Runs
pub mod Lines
pub mod Arcs
pub mod Texts
pub mod Panel
pub mod TickBytes
pub mod Before
pub mod CheckFromC
pub mod PanelFromC
pub mod FromC

-- Laws of the pair check: its counts, the test of a pair, what is answered where nothing is refused, and that there is
-- one answer.
pub mod Counts
pub mod PairTest
pub mod Given
pub mod Unique

-- Laws of bits, products and remainders; of sums, counts, tests, searches and lists below a number; of sums and sizes
-- of whole numbers.
pub mod Bits
pub mod Products
pub mod Remainders
pub mod Sums
pub mod Involutions
pub mod Squares
pub mod Tests
pub mod FromOne
pub mod Lists
pub mod Filled
pub mod Fills
pub mod SumsSigned
pub mod Shifts
pub mod Sizes

-- The steps of the transform as code takes them.
-- Defines:  addable              two numbers below it in size can be added in 32 bits, and one taken from the other
--           butterfly s y i      what a stage writes at place i, from y, where the two places of a pair lie s apart
--           Stride s             s is the stride of a stage: a power of 2 below the most entries
--           Start s i            i is where a block of 2 s entries begins: it is a multiple of 2 s
--           Readable s n a       a stage may read the first n entries of a: blocks of 2 s fill them, and any two of
--                                them can be added
--           Block s p a d        the block that begins at p may be read of a and written to d
--           first_at m k a       what the first area holds after k stages: what the last even stage wrote, and
--           second_at m k a b    the second: what the last odd stage wrote; before any stage, b
-- Laws: proofs/Halves.antt, Stages.antt.  Assumes nothing: these are definitions.
use Rattle.std.specs.Prelude.{ℕ, zero, suc, ◌+◌, ◌-◌, ◌*◌, ◌/◌, ◌%◌, ◌^◌, ◌≤◌, ◌<◌, ◌≡◌, cond, List}
use Rattle.std.specs.Prelude.{eqb, ℤ, ◌+ℤ◌, ◌-ℤ◌, length}
use Rattle.std.specs.Int.Signed.{mag}
use Rattle.range.specs.Below.{filled}
use Rattle.range.specs.Signed.{entry}
use Rattle.rules.specs.Shape.{greatest_m, carriers}
use Rattle.rules.specs.Spectrum.{stages}

abbrev pub addable : ℕ
addable = 2 ^ 30

unfoldable pub butterfly : ℕ → (ℕ → ℤ) → ℕ → ℤ
butterfly s y i = cond (eqb (i / s % 2) 0) (y i +ℤ y (i + s)) (y (i - s) -ℤ y i)

pub record Stride (s : ℕ) : Type 0 where
  pub digit : ℕ
  pub below : digit < greatest_m
  pub at : s ≡ 2 ^ digit

pub record Start (s i : ℕ) : Type 0 where
  pub number : ℕ
  pub at : i ≡ number * (2 * s)

pub record Readable (s n : ℕ) (a : List ℤ) : Type 0 where
  pub stride : 0 < s
  pub blocks : Start s n
  pub long : n ≤ length a
  pub small : (i : ℕ) → i < n → mag (entry a i) < addable

pub record Block (s p : ℕ) (a d : List ℤ) : Type 0 where
  pub begins : Start s p
  pub inside : p + s + s ≤ length a
  pub fits : p + s + s ≤ length d
  pub small : (i : ℕ) → i < p + s + s → mag (entry a i) < addable

unfoldable pub first_at : ℕ → ℕ → List ℤ → List ℤ
first_at m k a = filled (carriers m) (stages m (2 * (k / 2)) (entry a)) a

unfoldable pub second_at : ℕ → ℕ → List ℤ → List ℤ → List ℤ
second_at m zero a b = b
second_at m (suc k) a b = filled (carriers m) (stages m (2 * (k / 2) + 1) (entry a)) b

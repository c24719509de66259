-- The path of a label of the shape, for every m in range: it is a path, and its neighbours differ.
-- Not here: the laws of all paths (crate paths).  Assumes nothing.
use Prim.Native.Nat.{ℕ, suc, ◌<◌}
use native.Mathlib.Nat.{le_refl}
use mathlib.Core.List.{List}
use lib.Dec.{T}
use Rattle.rules.specs.Shape.{in_m}
use Rattle.rules.specs.Path.{IsPath, path_at}
use Rattle.rules.specs.Label.{labels, label_path}
use Rattle.paths.proofs.Members.{is_path_in, is_path_distinct}
use Rattle.paths.proofs.Number.{used_is_path}
use Rattle.words.proofs.Labels.{label_path_lt}
use Rattle.words.proofs.Readings.{Good}

pub is_path_good : (m : ℕ) (p : List ℕ) → IsPath m p → Good m p
is_path_good m p s = record {
  within = λ i l. (is_path_in m p s i l).1;
  apart = λ i b. is_path_distinct m p s i (suc i) (le_refl (suc i)) b;
}

-- the path of a label of the shape
pub label_path_is_path : (h m l : ℕ) → T (in_m m) → l < labels h m → IsPath m (path_at m (label_path h m l))
label_path_is_path h m l range b = used_is_path m (label_path h m l) range (label_path_lt h m l b)

pub label_path_good : (h m l : ℕ) → T (in_m m) → l < labels h m → Good m (path_at m (label_path h m l))
label_path_good h m l range b = is_path_good m (path_at m (label_path h m l)) (label_path_is_path h m l range b)

-- The three cases of better: the value does not pass the second best; it passes that alone; it passes the best.
-- Assumes nothing.
use Prim.Native.Nat.{ℕ, ◌≤◌, ◌<◌}
use mathlib.Core.Path.{◌≡◌}
use borrow.Author.Tests.{le-leb, lt-leb}
use Rattle.standing.specs.declared.Standing.{Standing}
use Rattle.standing.specs.Lead.{better}

module _ (st : Standing) (v l : ℕ) where
  pub better_kept : v ≤ st.second → better st v l ≡ st
  better_kept h = rw (le-leb v st.second h)

  pub better_second : st.second < v → v ≤ st.best →
      better st v l ≡ record { best = st.best; second = v; label = st.label }
  better_second h b = rw (lt-leb v st.second h, le-leb v st.best b)

  pub better_best : st.second < v → st.best < v → better st v l ≡ record { best = v; second = st.best; label = l }
  better_best h b = rw (lt-leb v st.second h, lt-leb v st.best b)

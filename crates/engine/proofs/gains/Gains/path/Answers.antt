-- `engine::gains::Gains::path` meets its contract: the path's own word is put into the gains, and the stages begin from
-- there.
-- Assumes nothing.
use Prim.Native.Nat.{ℕ, ◌+◌, ◌*◌, ◌^◌, ◌≤◌}
use native.Mathlib.Omega.{arith}
use mathlib.Core.Path.{◌≡◌, ◌∙◌, ap}
use mathlib.Core.List.{◌++◌}
use lib.ListN.{length, take, drop}
use lib.Seq.{length-take-le}
use Rattle.range.specs.Below.{list_below}
use Rattle.rules.specs.Word.{word_at}
use Rattle.rules.specs.Shape.{phases, carriers, greatest_m}
use Rattle.totals.specs.Climb.{gains_with}
use Rattle.engine.specs.SearchTables.{area}
use Rattle.rules.proofs.Range.{in_shape_range, carriers_most}
use Rattle.shape.proofs.Powers.{power_labels}
use Rattle.engine.proofs.Pieces.{front_written}
use Rattle.engine.proofs.PathLaws.{path_room, path_first, path_counted, path_word_fits, path_climbing, path_returned}
use Rattle.engine.proofs.gains.Gains.path.Goals.{After-carriers-n, After-power, After-own_word, After-write}
use Rattle.engine.proofs.gains.Gains.path.Goals as goal

-- how many labels a path has
size : (c : After-power) → c.power.result ≡ phases c.args.self.now.shape.h ^ (c.args.self.now.shape.m + 1)
size c =
    let shape = c.args.self.now.shape in
    c.power.ensures ∙ power_labels shape.h shape.m (in_shape_range shape.h shape.m shape.in_range)

fits : (c : After-carriers-n) → c.carriers-n.result ≤ carriers greatest_m
fits c =
    let shape = c.args.self.now.shape in
    omega (
      arith,
      c.carriers-n.ensures,
      carriers_most shape.h shape.m (in_shape_range shape.h shape.m shape.in_range),
    )

pub overflow_mul-first : goal.overflow_mul-first
overflow_mul-first c =
    let counted = path_counted c.args.self.now c.args.number c.requires in
    rw (size (goal.at.overflow_mul-first c).After-power) (omega (arith, counted))

pub slice_bounds-word-end : goal.slice_bounds-word-end
slice_bounds-word-end c = fits (goal.at.slice_bounds-word-end c).After-carriers-n

pub own_word-requires : goal.own_word-requires
own_word-requires c =
    let room : c.carriers-n.result ≤ length c.args.areas.now.word =
    omega (arith, fits (goal.at.own_word-requires c).After-carriers-n) in (
      rw (size (goal.at.own_word-requires c).After-power) (path_first c.args.self.now c.args.number c.requires),
      length-take-le _ _ room ∙ c.carriers-n.ensures,
    )

-- the path's own word
word : (c : After-own_word) → let shape = c.args.self.now.shape in
    c.own_word.new.word
    ≡ list_below (carriers shape.m)
    (word_at shape.h shape.m (c.args.number * phases shape.h ^ (shape.m + 1)))
word c =
    let shape = c.args.self.now.shape in
    c.own_word.ensures
    ∙ ap (λ (k : ℕ). list_below (carriers shape.m) (word_at shape.h shape.m (c.args.number * k)))
    (size (goal.at.After-own_word c).After-power)

pub invariant_of-turned : goal.invariant_of-turned
invariant_of-turned c = record {
  fits = rw c.phases-q.ensures
      (path_word_fits c.args.self.now c.args.number c.requires _ (word (goal.at.invariant_of-turned c).After-own_word));
}

-- the table has as many numbers as there are gains
room : (c : After-own_word) → length c.args.self.now.numbers.now ≤ length c.args.areas.now.x
room c = omega (arith, path_room c.args.self.now)

-- the first table stands at the front of x
first : (c : After-write) → let xs = c.args.self.now.numbers.now in
    let zs = c.write.new.to ++ drop (length xs) c.args.areas.now.x in
    (take (length xs) zs
    ≡ gains_with (phases c.args.self.now.shape.h) (length c.own_word.new.word) c.own_word.new.word xs)
    × (length zs ≡ area)
first c =
    let before = room (goal.at.After-write c).After-own_word in
    let front = front_written _ c.args.areas.now.x c.write.new.to before
    (c.write.auto.to ∙ length-take-le _ _ before) in (
      front.0 ∙ c.write.ensures
          ∙ ap (λ (k : ℕ). gains_with k (length c.own_word.new.word) c.own_word.new.word c.args.self.now.numbers.now)
          c.phases-q.ensures,
      front.1 ∙ omega arith,
    )

pub climb-requires : goal.climb-requires
climb-requires c =
    let after = (goal.at.climb-requires c).After-write in
    let table = first after in
    rw (c.phases-q.ensures, c.carriers-n.ensures, size (goal.at.climb-requires c).After-power)
    (path_climbing c.args.self.now c.args.number c.requires _ (word (goal.at.climb-requires c).After-own_word) _ table.0
    c.args.areas.now.y table.1 (omega arith))

pub returns : goal.returns
returns c =
    let after = (goal.at.returns c).After-write in
    let table = first after in
    path_returned c.args.self.now c.args.number c.requires _ (word (goal.at.returns c).After-own_word) _ table.0
    c.args.before c.climb.result
    (rw (c.phases-q.ensures, c.carriers-n.ensures, size (goal.at.returns c).After-power) at c.climb.ensures)

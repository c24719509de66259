-- `encoder::Form::links` meets its contract: each turn adds one link.
-- In order: how many steps there are; the turn: its window, the steps there, what it adds; the goals.
-- Assumes nothing.
use Prim.Native.Nat.{ℕ, ◌+◌, ◌*◌, ◌≤◌, ◌<◌}
use native.Mathlib.Nat.{add-zero}
use native.Mathlib.Omega.{arith}
use mathlib.Core.Path.{◌≡◌, refl, ◌∙◌, ap, ap₂}
use mathlib.Core.List.{List}
use lib.ListN.{length, get_or, drop}
use lib.Seq.{length-take-le, get_or-take}
use Rattle.std.proofs.Common.{rules}
use Rattle.std.proofs.lemmas.Iterator.{window_more}
use Rattle.std.specs.Slice.Iter.{windows_rest}
use Rattle.range.specs.Below.{sum_below}
use Rattle.range.proofs.Sums.{sum_below_turn}
use Rattle.rules.specs.Shape.{greatest_m}
use Rattle.encoder.specs.declared.Form.{Form}
use Rattle.encoder.specs.Arrays.{cell, links_of}
use Rattle.encoder.specs.Forms.{step_at, link_at}
use Rattle.encoder.proofs.Bounds.{range_of, link_le, links_le, most_links}
use Rattle.encoder.proofs.Form.links.Invariants.{path, gone}
use Rattle.encoder.proofs.Form.links.Goals.{In-Some}
use Rattle.encoder.proofs.Form.links.Goals as goal

path_long : (f : Form) → length f.steps ≡ greatest_m → length (path f) ≡ f.shape.m
path_long f e = length-take-le f.shape.m f.steps (omega (arith, e, (range_of f).m_most))

module _ (c : In-Some) where
  abbrev f : Form
  f = c.args.self.now

  abbrev i : ℕ
  i = c.args.at.place

  abbrev before : List ℕ
  before = windows_rest c.loop-link.link-iterator

  abbrev after : List ℕ
  after = windows_rest c.next.new.self

  -- the link of this turn
  abbrev turn : ℕ
  turn = gone f before

  window : (length after + 1 ≡ length before)
      × (after ≡ drop (gone f after) (path f))
      × (2 ≤ length before)
      × ((k : ℕ) → k < 2 → get_or c.in-Some.link.now k 0 ≡ get_or (path f) (turn + k) 0)
  window =
      let v = c.loop-link.invariant in
      let w = window_more (path f) c.loop-link.link-iterator c.next.new.self _ _ c.in-Some.is c.next.ensures.steps
      (omega (arith, v.pairs)) v.within v.left in
      (w.0, w.1, omega (arith, w.2, v.pairs), λ k h. w.3 k 0 (omega (arith, h, v.pairs)))

  inside : turn + 1 < f.shape.m
  inside = omega (arith, path_long f (search rules), window.2, c.loop-link.invariant.within)

  window_at : (k : ℕ) → k < 2 → get_or c.in-Some.link.now k 0 ≡ get_or f.steps (turn + k) 0
  window_at k h = window.3 k h ∙ get_or-take f.shape.m f.steps (turn + k) 0 (omega (arith, h, inside))

  digit_is : (k x : ℕ) → k < 2 → x ≡ cell f.generator (get_or c.in-Some.link.now k 0) i → x ≡ step_at f i (turn + k)
  digit_is k x h e = e ∙ ap (λ (s : ℕ). cell f.generator s i) (window_at k h)

  adds : (x y : ℕ) → x ≡ cell f.generator (get_or c.in-Some.link.now 0 0) i
      → y ≡ cell f.generator (get_or c.in-Some.link.now 1 0) i → x * y ≡ link_at f i turn
  adds x y p q =
      ap₂ (λ (a b : ℕ). a * b)
      (digit_is 0 x (omega arith) p ∙ ap (step_at f i) (add-zero turn)) (digit_is 1 y (omega arith) q)

  -- both what it adds and what was added before are small
  small : (link_at f i turn ≤ 1) × (c.loop-link.sum ≤ most_links)
  small = (
    link_le f i c.args.at.inside turn (omega (arith, inside)),
    omega (
      arith,
      c.loop-link.invariant.added,
      links_le f i c.args.at.inside turn (omega (arith, inside)),
      inside,
      (range_of f).m_most,
    ),
  )

pub loop-link-init : goal.loop-link-init
unfolding sum_below
loop-link-init c =
    let f = c.args.self.now in
    let rest : windows_rest c.into_iter-link-iterator.result ≡ path f = search rules in
    let none : gone f (windows_rest c.into_iter-link-iterator.result) ≡ 0 = omega (arith, ap length rest) in
    record {
      pairs = search rules;
      some = omega (arith, ap length rest, path_long f (search rules), (range_of f).m_least);
      within = omega (arith, ap length rest);
      left = rw none rest;
      added = rw none refl;
    }

pub overflow_mul-sum : goal.overflow_mul-sum
overflow_mul-sum c =
    let t = (goal.at.overflow_mul-sum c).In-Some in
    omega (arith, adds t _ _ c.digit.ensures c.digit-in-loop-link.ensures, small t)

pub overflow_add-sum : goal.overflow_add-sum
overflow_add-sum c =
    let t = (goal.at.overflow_add-sum c).In-Some in
    omega (arith, adds t _ _ c.digit.ensures c.digit-in-loop-link.ensures, small t)

pub loop-link-preserved : goal.loop-link-preserved
loop-link-preserved c =
    let t = (goal.at.loop-link-preserved c).In-Some in
    let v = c.loop-link.invariant in
    let w = window t in
    let next : gone (f t) (after t) ≡ turn t + 1 = omega (arith, w.0, v.within, v.some) in
    record {
      pairs = c.next.ensures.steps.0 ∙ v.pairs;
      some = omega (arith, w.0, w.2);
      within = omega (arith, w.0, v.within);
      left = w.1;
      added = rw next (sum_below_turn _ _ _ _ v.added (adds t _ _ c.digit.ensures c.digit-in-loop-link.ensures));
    }

pub returns : goal.returns
unfolding links_of
returns c =
    let f = c.args.self.now in
    let v = c.loop-link.invariant in
    v.added ∙ ap (λ (n : ℕ). sum_below n (link_at f c.args.at.place))
    (omega (arith, path_long f (search rules), c.in-None.ensures.steps.1.0, v.pairs, v.some, v.within))

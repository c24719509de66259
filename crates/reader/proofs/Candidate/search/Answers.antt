-- `Candidate::search` meets its contract: the word determines its message, so the first path that fits gives the
-- message, and where none fits no message has the word.
-- Assumes nothing.
use Prim.Native.Nat.{ℕ, ◌+◌, ◌*◌, ◌<◌}
use native.Mathlib.Omega.{arith}
use mathlib.Core.Path.{◌≡◌, sym, ◌∙◌, ap, subst}
use mathlib.Core.Bool.{false≢true}
use borrow.Author.Count.{below_more}
use Rattle.rules.specs.Shape.{paths_in_use, messages}
use Rattle.rules.specs.Label.{message_of}
use Rattle.rules.specs.Word.{word_of}
use Rattle.rules.proofs.Range.{in_shape_range}
use Rattle.shape.proofs.Powers.{power_labels}
use Rattle.reader.specs.Shown.{label_with}
use Rattle.reader.proofs.ShownLaws.{label_with_of, label_with_small, tried_lt, message_with_some, message_with_none}
use Rattle.reader.proofs.Candidate.search.Goals.{After-low-low, After-message_of-message, At-loop-n, In-loop-n}
use Rattle.reader.proofs.Candidate.search.Goals as goal

-- the label that is tried
label_is : (c : At-loop-n) → c.loop-n.n * c.power-step.result + c.low-low.result
    ≡ label_with c.args.self.now.shape.h c.args.self.now.shape.m c.args.self.now.word.now c.loop-n.n
label_is c =
    let said = c.args.self.now in
    let range = in_shape_range said.shape.h said.shape.m said.symbols.shape in
    label_with_of said.shape.h said.shape.m said.word.now c.loop-n.n _ _
    (c.power-step.ensures ∙ power_labels said.shape.h said.shape.m range) c.low-low.ensures

-- the path is in use
used : (c : In-loop-n) → c.loop-n.n < paths_in_use c.args.self.now.shape.m
used c = omega (arith, c.loop-n-test.true, c.paths_in_use-uses.ensures)

-- the message that is tried
message_is : (c : After-message_of-message) → c.message_of-message.result.0
    ≡ message_of c.args.self.now.shape.h c.args.self.now.shape.m
    (label_with c.args.self.now.shape.h c.args.self.now.shape.m c.args.self.now.word.now c.loop-n.n)
message_is c =
    let said = c.args.self.now in
    c.message_of-message.ensures.0 said.symbols.shape
    ∙ ap (message_of said.shape.h said.shape.m) (label_is (goal.at.is_word-requires c).At-loop-n)

message_lt : (c : After-message_of-message) →
    c.message_of-message.result.0 < messages c.args.self.now.shape.h c.args.self.now.shape.m
message_lt c =
    let said = c.args.self.now in
    let b = used (goal.at.is_word-requires c).In-loop-n in
    subst (λ (g : ℕ). g < messages said.shape.h said.shape.m) (sym (message_is c))
    (tried_lt said.shape.h said.shape.m said.word.now said.symbols c.loop-n.n b)

pub overflow_mul-n : goal.overflow_mul-n
overflow_mul-n c =
    let said = c.args.self.now in
    omega (
      arith,
      label_is (goal.at.overflow_mul-n c).At-loop-n,
      label_with_small said.shape.h said.shape.m said.word.now said.symbols _
          (used (goal.at.overflow_mul-n c).In-loop-n),
    )

pub overflow_add-n : goal.overflow_add-n
overflow_add-n c =
    let said = c.args.self.now in
    omega (
      arith,
      label_is (goal.at.overflow_add-n c).At-loop-n,
      label_with_small said.shape.h said.shape.m said.word.now said.symbols _
          (used (goal.at.overflow_add-n c).In-loop-n),
    )

pub is_word-requires : goal.is_word-requires
is_word-requires c = message_lt (goal.at.is_word-requires c).After-message_of-message

pub returns-then-is_word : goal.returns-then-is_word
returns-then-is_word c =
    let said = c.args.self.now in
    message_with_some said.shape.h said.shape.m said.word.now said.symbols _
    (message_lt (goal.at.returns-then-is_word c).After-message_of-message) (c.is_word.ensures.0 c.if-is_word.true)

pub loop-n-preserved : goal.loop-n-preserved
loop-n-preserved c =
    let said = c.args.self.now in
    let tried = ap (word_of said.shape.h said.shape.m)
    (message_is (goal.at.loop-n-preserved c).After-message_of-message) in
    below_more _ _ c.loop-n.invariant
    (λ e. false≢true (sym c.if-is_word.false ∙ c.is_word.ensures.1 (tried ∙ e)))

pub returns : goal.returns
returns c =
    let said = c.args.self.now in
    message_with_none said.shape.h said.shape.m said.word.now said.symbols
    (λ n b. c.loop-n.invariant n (omega (arith, c.loop-n-test.false, c.paths_in_use-uses.ensures)))

-- `reader::read` meets its contract: it answers what the question about it refuses, and else what the search finds.
-- Assumes nothing.
use Rattle.std.proofs.Common.{rules}
use Prim.Native.Nat.{ℕ}
use mathlib.Core.Path.{◌≡◌, sym, ap}
use mathlib.Core.Option.{none, some}
use mathlib.Core.Option as Math
use Rattle.std.specs.Prelude.{Option, None, Some, MatchOption}
use Rattle.std.specs.Option.{ok_or}
use Rattle.rules.specs.Refusal.{read_outcome, or_no_word}
use Rattle.kinds.specs.declared.MessageNumber.{MessageNumber}
use Rattle.kinds.specs.declared.Refusal.TheVariants.{NoWord}
use Rattle.reader.specs.Reading.{reading_told}
use Rattle.rules.proofs.OutcomeLaws.{and_then_refused}
use Rattle.rules.proofs.RefusalLaws.{word_taken}
use Rattle.kinds.proofs.RefusalLaws.{handed_on}
use Rattle.reader.proofs.read.Goals as goal

pub returns-in_err-word : goal.returns-in_err-word
unfolding read_outcome
returns-in_err-word c =
    handed_on (λ g. g.0) _ c.in_err-word.field-0.0 (search rules) (and_then_refused _ c.in_err-word.ensures)

-- a message that is found, or the refusal in its place
found_told : (o : Option MessageNumber) (f : Math.Option ℕ) → MatchOption o (f ≡ none) (λ g. f ≡ some g.0) →
    reading_told (ok_or o NoWord) ≡ or_no_word f
found_told None f e = sym (ap or_no_word e)
found_told (Some g) f e = sym (ap or_no_word e)

pub invariant_of-shape : goal.invariant_of-shape
invariant_of-shape c = record { in_range = (word_taken _ _ c.args.word.now (sym c.in_ok-word.ensures)).shape }

pub invariant_of-candidate : goal.invariant_of-candidate
invariant_of-candidate c = record { symbols = word_taken _ _ _ (sym c.in_ok-word.ensures) }

pub returns : goal.returns
unfolding read_outcome
returns c =
    rw (sym c.in_ok-word.ensures, c.ok_or.ensures.value) (found_told c.search.result _ c.search.ensures)

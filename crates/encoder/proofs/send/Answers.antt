-- `encoder::send` meets its contract: it answers what the question about it refuses, and else the word is written.
-- In order: nothing is refused; what that gives; the label; the goals.  Assumes nothing.
use Prim.Native.Nat.{ℕ, ◌*◌, ◌<◌}
use mathlib.Core.Path.{◌≡◌, sym, ◌∙◌, ap, subst}
use lib.ListN.{length}
use Rattle.range.specs.Below.{list_below}
use Rattle.rules.specs.Shape.{carriers, half_turn}
use Rattle.rules.specs.Label.{labels, label_of}
use Rattle.rules.specs.Outcome.{allowed}
use Rattle.rules.specs.Refusal.{send_refusal}
use Rattle.rules.proofs.Messages.{label_of_lt}
use Rattle.rules.proofs.RefusalLaws.{SendTaken, send_taken}
use Rattle.encoder.specs.Arrays.{lifted_at}
use Rattle.encoder.proofs.SentLaws.{sent_done}
use Rattle.encoder.proofs.send.Goals.{After-label_of-label}
use Rattle.encoder.proofs.send.Goals as goal

module _ (c : After-label_of-label) where
  free : send_refusal c.args.h c.args.m (length c.args.out.now) c.args.message.0 ≡ allowed
  free = sym c.in_ok-send.ensures

  taken : SendTaken c.args.h c.args.m (length c.args.out.now) c.args.message.0
  taken = send_taken _ _ _ _ free

  label_is : c.label_of-label.result ≡ label_of c.args.h c.args.m c.args.message.0
  label_is = c.label_of-label.ensures.0 taken.shape

pub invariant_of-fill : goal.invariant_of-fill
invariant_of-fill c = record { in_range = (taken (goal.at.invariant_of-fill c).After-label_of-label).shape }

pub fill-requires : goal.fill-requires
fill-requires c =
    let t = (goal.at.fill-requires c).After-label_of-label in
    record {
      lift_bound = c.requires;
      label_bound = subst (λ (l : ℕ). l < labels c.args.h c.args.m) (sym (label_is t))
          (label_of_lt c.args.h c.args.m c.args.message.0 (taken t).message);
      out_len = (taken t).long;
    }

pub returns : goal.returns
returns c =
    let t = (goal.at.returns c).After-label_of-label in
    sent_done c.args.h c.args.m c.args.message.0 _ _ _ (free t)
    (c.fill.ensures
    ∙ ap (λ (l : ℕ). list_below (carriers c.args.m) (lifted_at c.args.h c.args.m l (c.args.lift * half_turn c.args.h)))
    (label_is t))

-- What encode does with the message of a label in range: it writes that label's word, and refuses nothing.
-- Assumes nothing.
use Prim.Native.Nat.{ℕ, ◌<◌}
use mathlib.Core.Path.{◌≡◌, ◌∙◌, ap}
use mathlib.Core.Bool.{true}
use mathlib.Core.List.{List}
use lib.ListN.{length}
use Rattle.range.specs.Below.{list_below}
use Rattle.rules.specs.Shape.{in_shape, carriers}
use Rattle.rules.specs.Label.{labels, label_of, message_of}
use Rattle.rules.specs.Word.{word_at, word_of}
use Rattle.rules.specs.Outcome.{allowed}
use Rattle.rules.specs.Refusal.{send_refusal}
use Rattle.rules.proofs.RefusalLaws.{send_allowed}
use Rattle.rules.proofs.Messages.{label_of_message_of, message_of_lt}
use Rattle.std.specs.Prelude.{IsOk}
use Rattle.encoder.specs.Sent.{Written, Sent}
use Rattle.encoder.proofs.SentLaws.{sent_word, sent_ok}

module _ (h m l g : ℕ) (before after : List ℕ) (r : Written) (e : in_shape h m ≡ true) (b : l < labels h m)
    (n : length before ≡ carriers m) (k : g ≡ message_of h m l) (s : Sent h m g (word_of h m g) before r after) where
  free : send_refusal h m (length before) g ≡ allowed
  free =
      send_allowed h m (length before) g
      (record { shape = e; long = n; message = rw k (message_of_lt h m l b) })

  pub own_ok : IsOk r
  own_ok = sent_ok s free

  pub sent_own : after ≡ list_below (carriers m) (word_at h m l)
  unfolding word_of
  sent_own =
      sent_word s free ∙ ap (λ (x : ℕ). list_below (carriers m) (word_at h m x))
      (ap (label_of h m) k ∙ label_of_message_of h m l)

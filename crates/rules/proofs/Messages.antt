-- Message numbers and label numbers: they go to and fro, and are below the same number. In order: there and back; a
-- label has one message; below the number of labels, of messages.
-- Not here: the parts of a label (crate words, Labels).  Assumes nothing.
use Prim.Native.Nat.{ℕ, ◌<◌}
use mathlib.Core.Path.{◌≡◌, refl, sym, ◌∙◌, ap}
use Rattle.rules.specs.Shape.{messages}
use Rattle.rules.specs.Label.{labels, label_of, message_of}

pub message_of_label_of : (h m g : ℕ) → message_of h m (label_of h m g) ≡ g
unfolding label_of message_of
message_of_label_of h m g = refl

pub label_of_message_of : (h m l : ℕ) → label_of h m (message_of h m l) ≡ l
unfolding label_of message_of
label_of_message_of h m l = refl

pub label_of_inj : (h m g k : ℕ) → label_of h m g ≡ label_of h m k → g ≡ k
label_of_inj h m g k e = sym (message_of_label_of h m g) ∙ ap (message_of h m) e ∙ message_of_label_of h m k

pub label_of_lt : (h m g : ℕ) → g < messages h m → label_of h m g < labels h m
unfolding label_of
label_of_lt h m g b = b

pub message_of_lt : (h m l : ℕ) → l < labels h m → message_of h m l < messages h m
unfolding message_of
message_of_lt h m l b = b

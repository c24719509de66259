-- Names that the claims of the index share.
-- Defines:  word h m g, partner h m g  the word and the partner of message g, as functions of the place
--           Encodes h m g d w          encode of message g writes, and leaves w in the slice that held d
--           Partners h m g d w         the same of partner
-- Assumes nothing: these are definitions.
use Rattle.std.specs.Prelude.{ℕ, Ok, List}
use Rattle.rules.specs.Label.{label_of}
use Rattle.rules.specs.Word.{word_at, partner_at, word_of, partner_of}
use Rattle.encoder.specs.Sent.{Sent}

abbrev pub word : ℕ → ℕ → ℕ → ℕ → ℕ
word h m g = word_at h m (label_of h m g)

abbrev pub partner : ℕ → ℕ → ℕ → ℕ → ℕ
partner h m g = partner_at h m (label_of h m g)

abbrev pub Encodes : ℕ → ℕ → ℕ → List ℕ → List ℕ → Type 0
Encodes h m g d w = Sent h m g (word_of h m g) d (Ok tt) w

abbrev pub Partners : ℕ → ℕ → ℕ → List ℕ → List ℕ → Type 0
Partners h m g d w = Sent h m g (partner_of h m g) d (Ok tt) w

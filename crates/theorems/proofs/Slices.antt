-- What encode and partner leave in a slice: N symbols in range, of a shape and a message in range. In order: the words
-- and the partners are such; the shape, the message and the word of what was written; where they write, and where they
-- do not.
-- Not here: what the calls then answer (PairChecks, Damage, RoundTrips).  Assumes nothing.
use Prim.Native.Nat.{ℕ, ◌<◌}
use mathlib.Core.Path.{◌≡◌, sym, ◌∙◌}
use mathlib.Core.Bool.{true}
use Rattle.std.specs.Prelude.{Ok}
use mathlib.Core.List.{List}
use lib.ListN.{length}
use Rattle.range.specs.Below.{list_below}
use Rattle.range.proofs.Lists.{length_list_below, list_below_at}
use Rattle.rules.specs.Shape.{in_shape, carriers, messages}
use Rattle.rules.specs.Word.{word_at, word_of, partner_of}
use Rattle.rules.specs.Symbols.{Symbols}
use Rattle.rules.specs.Outcome.{refuses}
use Rattle.rules.proofs.RefusalLaws.{send_allowed, send_taken}
use Rattle.rules.proofs.SymbolLaws.{word_at_lt}
use Rattle.words.proofs.Forms.{length_word_of, length_partner_of, word_of_lt, partner_of_lt}
use Rattle.encoder.specs.Sent.{Written}
use Rattle.encoder.specs.Sent.{written_told, Sent}
use Rattle.encoder.proofs.SentLaws.{sent_word, sent_kept}
use Rattle.encoder.proofs.Unique.{written_told_inj}

pub word_of_symbols : (h m g : ℕ) → in_shape h m ≡ true → Symbols h m (word_of h m g)
word_of_symbols h m g shape = record { shape = shape; long = length_word_of h m g; below = word_of_lt h m g }

pub partner_of_symbols : (h m g : ℕ) → in_shape h m ≡ true → Symbols h m (partner_of h m g)
partner_of_symbols h m g shape = record { shape = shape; long = length_partner_of h m g; below = partner_of_lt h m g }

-- the word of any label, of a path in use or not
pub labelled_symbols : (h m l : ℕ) → in_shape h m ≡ true → Symbols h m (list_below (carriers m) (word_at h m l))
labelled_symbols h m l shape = record {
  shape = shape;
  long = length_list_below (carriers m) (word_at h m l);
  below = λ i b. rw (list_below_at (carriers m) (word_at h m l) i 0 b) (word_at_lt h m l i);
}

module _ {h m g : ℕ} {word d w : List ℕ} (s : Sent h m g word d (Ok tt) w) where
  pub done_shape : in_shape h m ≡ true
  done_shape = (send_taken h m (length d) g (sym s.told)).shape

  pub done_message : g < messages h m
  done_message = (send_taken h m (length d) g (sym s.told)).message

  pub done_word : w ≡ word
  done_word = sent_word s (sym s.told)

pub sent_writes : (h m g : ℕ) (word d w : List ℕ) (r : Written) → in_shape h m ≡ true → length d ≡ carriers m →
    g < messages h m → Sent h m g word d r w → (r ≡ Ok tt) × (w ≡ word)
sent_writes h m g word d w r shape long inside s =
    let e = send_allowed h m (length d) g (record { shape = shape; long = long; message = inside }) in
    (written_told_inj r (Ok tt) (s.told ∙ e), sent_word s e)

pub sent_keeps : {h m g : ℕ} {word d w : List ℕ} {r : Written} → Sent h m g word d r w → (k : ℕ) (v : List ℕ) →
    written_told r ≡ refuses k v → w ≡ d
sent_keeps s k v e = sent_kept k v s (sym s.told ∙ e)

-- The starred cases of 01 "Known words", with the digits that 01 prints, and what each says of the rules.
-- Defines:  Case        a case
--           Right k     what it says
--           starred     the list, in 01's order
--           AllRight    the one claim about the list, proved in proofs/KnownWords.antt
--           Refused1, four_least, reaching  what some cases say: every call with a shape refuses 1; four times
--                       -32,768; the messages that reach a correlation
-- Assumes nothing: these are definitions.
use Rattle.std.specs.Prelude.{ℕ, ◌≤◌, ◌≡◌, true, not, ◌&&◌, List, [], ◌∷◌, eqb, ℤ, pos, negsuc, length, replicate}
use Rattle.std.specs.Int.Signed.{le_z}
use Rattle.range.specs.Below.{list_below}
use Rattle.rules.specs.Shape.{in_shape, carriers, messages}
use Rattle.rules.specs.Path.{keep, path_at}
use Rattle.rules.specs.Label.{label_of, label_path, label_parts}
use Rattle.rules.specs.Word.{word_of, partner_of}
use Rattle.rules.specs.Soft.{correlation, soft_length}
use Rattle.rules.specs.Outcome.{gives, refuses, allowed}
use Rattle.rules.specs.Refusal.{send_refusal, pair_outcome, read_outcome, soft_refusal, hard_refusal, transform_refusal}
use Rattle.rules.specs.Decoding.{SoftAnswer, HardAnswer, SoftOutcome, HardOutcome}

pub data Case : Type 0 where
  -- message g's word, and its partner
  word : (h m g : ℕ) → List ℕ → Case
  partner : (h m g : ℕ) → List ℕ → Case
  -- message g has this path, and these c_1, .., c_m, c
  means : (h m g : ℕ) → List ℕ → List ℕ → Case
  -- the pair check says yes
  pair : (h m : ℕ) → List ℕ → List ℕ → Case
  -- message g is taken; it is refused 4
  taken : (h m g : ℕ) → Case
  refused4 : (h m g : ℕ) → Case
  -- this m with any h, this h with any m: refused 1
  outside_m : ℕ → Case
  outside_h : ℕ → Case
  -- soft values give this answer, tied with just the messages of the list
  soft : (h m : ℕ) → List ℤ → SoftAnswer → List ℕ → Case
  -- symbols give this answer
  hard : (h m : ℕ) → List ℕ → HardAnswer → Case
  -- no message has this word: reading refuses 5
  unread : (h m : ℕ) → List ℕ → Case
  -- any soft shape, all zeros: message 0 with correlation 0, tied
  silence : Case

-- every call with a shape refuses 1
abbrev pub Refused1 : ℕ → ℕ → Type 0
Refused1 h m =
    (n g : ℕ) (a b : List ℕ) (ys : List ℤ) →
    (send_refusal h m n g ≡ refuses 1 [])
    × (pair_outcome h m a b ≡ refuses 1 [])
    × (read_outcome h m a ≡ refuses 1 [])
    × (soft_refusal h m ys ≡ refuses 1 [])
    × (hard_refusal h m a ≡ refuses 1 [])

-- the messages besides g whose correlation is v or more
unfoldable pub reaching : ℕ → ℕ → List ℤ → ℕ → ℤ → List ℕ
reaching h m ys g v =
    keep (λ k. not (eqb k g) && le_z v (correlation h m ys (label_of h m k))) (list_below (messages h m) (λ k. k))

abbrev pub Right : Case → Type 0
Right (word h m g w) = (send_refusal h m (length w) g ≡ allowed) × (word_of h m g ≡ w)
Right (partner h m g w) = (send_refusal h m (length w) g ≡ allowed) × (partner_of h m g ≡ w)
Right (means h m g p c) =
    (path_at m (label_path h m (label_of h m g)) ≡ p)
    × (label_parts h m (label_of h m g) ≡ label_path h m (label_of h m g) ∷ c)
Right (pair h m a b) = pair_outcome h m a b ≡ gives true
Right (taken h m g) = send_refusal h m (carriers m) g ≡ allowed
Right (refused4 h m g) = send_refusal h m (carriers m) g ≡ refuses 4 []
Right (outside_m m) = ((h : ℕ) → Refused1 h m) × ((y : List ℤ) (n : ℕ) → transform_refusal m y n ≡ refuses 1 [])
Right (outside_h h) = (m : ℕ) → Refused1 h m
Right (soft h m ys a others) =
    SoftOutcome h m ys (gives a) × (reaching h m ys a.message a.value ≡ others)
Right (hard h m w a) = HardOutcome h m w (gives a)
Right (unread h m w) = read_outcome h m w ≡ refuses 5 []
Right silence =
    (h m : ℕ) → in_shape h m ≡ true → h ≤ 2 →
    SoftOutcome h m (replicate (soft_length h m) (pos 0))
    (gives (record { message = 0; value = pos 0; tied = true }))

abbrev pub AllRight : List Case → Type 0
AllRight [] = Unit {0}
AllRight (k ∷ ks) = Right k × AllRight ks

-- four times -32,768
abbrev pub four_least : List ℤ
four_least = negsuc 32767 ∷ negsuc 32767 ∷ negsuc 32767 ∷ negsuc 32767 ∷ []

unfoldable pub starred : List Case
starred =
    word 2 2 0 (0 ∷ 0 ∷ 0 ∷ 2 ∷ [])
    ∷ partner 2 2 0 (0 ∷ 0 ∷ 2 ∷ 0 ∷ [])
    ∷ pair 2 2 (0 ∷ 0 ∷ 0 ∷ 2 ∷ []) (0 ∷ 0 ∷ 2 ∷ 0 ∷ [])
    ∷ word 2 2 27 (3 ∷ 1 ∷ 0 ∷ 0 ∷ [])
    ∷ means 2 2 27 (1 ∷ 2 ∷ []) (1 ∷ 2 ∷ 3 ∷ [])
    ∷ partner 2 2 27 (3 ∷ 1 ∷ 2 ∷ 2 ∷ [])
    ∷ word 1 3 0 (0 ∷ 0 ∷ 0 ∷ 1 ∷ 0 ∷ 0 ∷ 1 ∷ 0 ∷ [])
    ∷ word 1 3 31 (1 ∷ 0 ∷ 0 ∷ 0 ∷ 0 ∷ 0 ∷ 1 ∷ 0 ∷ [])
    ∷ means 1 3 31 (1 ∷ 3 ∷ 2 ∷ []) (1 ∷ 1 ∷ 1 ∷ 1 ∷ [])
    ∷ partner 1 3 31 (1 ∷ 0 ∷ 0 ∷ 0 ∷ 1 ∷ 1 ∷ 0 ∷ 1 ∷ [])
    ∷ word 2 4 0 (0 ∷ 0 ∷ 0 ∷ 2 ∷ 0 ∷ 0 ∷ 2 ∷ 0 ∷ 0 ∷ 0 ∷ 0 ∷ 2 ∷ 2 ∷ 2 ∷ 0 ∷ 2 ∷ [])
    ∷ word 2 4 5120 (0 ∷ 0 ∷ 0 ∷ 2 ∷ 0 ∷ 0 ∷ 2 ∷ 0 ∷ 0 ∷ 2 ∷ 0 ∷ 0 ∷ 0 ∷ 2 ∷ 2 ∷ 2 ∷ [])
    ∷ means 2 4 5120 (1 ∷ 4 ∷ 3 ∷ 2 ∷ []) (0 ∷ 0 ∷ 0 ∷ 0 ∷ 0 ∷ [])
    ∷ taken 1 4 255
    ∷ refused4 1 4 256
    ∷ taken 3 2 511
    ∷ refused4 3 2 512
    ∷ outside_m 1
    ∷ outside_m 6
    ∷ outside_h 0
    ∷ outside_h 4
    ∷ soft 1 2 four_least (record { message = 1; value = pos 65536; tied = true }) (3 ∷ 5 ∷ 6 ∷ [])
    ∷ word 1 2 1 (1 ∷ 1 ∷ 1 ∷ 0 ∷ [])
    ∷ silence
    ∷ hard 1 2 (1 ∷ 1 ∷ 1 ∷ 1 ∷ []) (record { message = 1; value = 1; tied = true })
    ∷ unread 1 2 (1 ∷ 1 ∷ 1 ∷ 1 ∷ [])
    ∷ []

-- `Candidate::is_word` meets its contract: encode writes the message's word to the front of the buffer, which has room
-- for it, and the two lists are compared.
-- Assumes nothing.
use Prim.Native.Nat.{ℕ, ◌≤◌}
use native.Mathlib.Omega.{arith}
use mathlib.Core.Path.{◌≡◌, sym, ◌∙◌}
use mathlib.Core.List.{List}
use lib.ListN.{length, replicate, take}
use lib.Seq.{length-take-le}
use Rattle.std.proofs.lemmas.Bool.Decides.{Decides-eqb}
use Rattle.std.proofs.lemmas.Slice.Eq.{slice_eq-Decides}
use Rattle.rules.specs.Shape.{greatest_m, carriers}
use Rattle.rules.specs.Outcome.{allowed}
use Rattle.rules.specs.Refusal.{send_refusal}
use Rattle.rules.proofs.Range.{in_shape_range, carriers_most}
use Rattle.rules.proofs.RefusalLaws.{send_allowed}
use Rattle.encoder.proofs.SentLaws.{sent_word, sent_ok}
use Rattle.reader.proofs.Candidate.is_word.Goals.{Start, After-encode}
use Rattle.reader.proofs.Candidate.is_word.Goals as goal

-- the buffer as it starts
abbrev zeros : List ℕ
zeros = replicate (carriers greatest_m) 0

fits : (c : Start) → length c.args.self.now.word.now ≤ carriers greatest_m
fits c =
    let symbols = c.args.self.now.symbols in
    let shape = c.args.self.now.shape in
    omega (arith, symbols.long, carriers_most shape.h shape.m (in_shape_range shape.h shape.m symbols.shape))

pub slice_bounds-buffer-end : goal.slice_bounds-buffer-end
slice_bounds-buffer-end c = fits (goal.at.slice_bounds-buffer-end c).Start

pub slice_bounds-out-end : goal.slice_bounds-out-end
slice_bounds-out-end c = sym (length-take-le _ zeros (fits (goal.at.slice_bounds-out-end c).Start))

-- nothing is refused
free : (c : After-encode) → send_refusal c.args.self.now.shape.h c.args.self.now.shape.m
    (length (take (length c.args.self.now.word.now) zeros)) c.args.message.0 ≡ allowed
free c =
    let shape = c.args.self.now.shape in
    let symbols = c.args.self.now.symbols in
    let fits : length c.args.self.now.word.now ≤ carriers greatest_m =
    omega (arith, symbols.long, carriers_most shape.h shape.m (in_shape_range shape.h shape.m symbols.shape)) in
    send_allowed shape.h shape.m _ _
    (record {
      shape = symbols.shape;
      long = length-take-le _ zeros fits ∙ symbols.long;
      message = c.requires;
    })

pub unwrap-requires : goal.unwrap-requires
unwrap-requires c = sent_ok c.encode.ensures (free (goal.at.unwrap-requires c).After-encode)

pub returns : goal.returns
returns c =
    let sent = sent_word c.encode.ensures (free (goal.at.returns c).After-encode) in
    let same = slice_eq-Decides Decides-eqb _ _ _ c.eq.ensures in
    (λ t. sym sent ∙ same.0 t, λ e. same.1 (sent ∙ e))

use Rattle.std.proofs.Common.{◌≡◌, ◌++◌, ◌∙◌, ap, arith, length, sym}
use Rattle.state_head.specs.Head.{subject_of}
use Rattle.state_head.specs.Words.{keys_of}
use Rattle.state_source.proofs.Adds.{after_skip, first_wrong, found_one}
use Rattle.state_whole.specs.Files.{file_bytes}
use Rattle.state_source.proofs.adding.add_held.Goals as goal

pub returns-in-Ok-Some-clause-held : goal.returns-in-Ok-Some-clause-held
returns-in-Ok-Some-clause-held c = (
  λ m cover is.
      let shape = c.args.shape.now in
      let before = c.args.ahead.now.bytes in
      let after = c.skip.new.self.bytes in
      let rest = c.in-Ok-Some.rest.now in
      let did = rw c.in-Ok-Some.field-0-is at (c.in-Ok-Some.ensures.added m cover is) in
      let front = file_bytes shape.kinds.now did.0 in
      let begins : before ≡ front ++ rest = sym c.bytes-2.ensures ∙ did.2 in
      let less = rw c.in-Ok-Some.field-0-is at c.in-Ok-Some.ensures.shorter in
      let same = after_skip front rest before after _ begins (omega (arith, less, ap length c.bytes-2.ensures, ap length c.bytes-in-Ok-Some.ensures)) c.skip.ensures.bytes in
      found_one shape (subject_of c.args.whole) (keys_of c.args.range) before after m cover c.add_first.new.sum did.0 did.1 (begins ∙ ap (λ bs. front ++ bs) same) did.3,
  c.skip.ensures.ended,
)

pub returns-in-Err-clause-refused : goal.returns-in-Err-clause-refused
returns-in-Err-clause-refused c = λ m cover more is.
    let subject = subject_of c.args.whole in
    let keys = keys_of c.args.range in
    let wrong = c.in-Err.ensures.refused m cover more is in
    first_wrong c.args.shape.now subject keys m (c.args.ahead.now.bytes ++ more) c.in-Err.why (rw c.bytes-2.ensures at wrong)

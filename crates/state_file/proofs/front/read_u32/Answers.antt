use Rattle.std.proofs.Common.{◌++◌, ◌∙◌, List, ℕ, refl, ap, sym}
use Rattle.std.specs.Int.{to_le_bytes, w32}
use Rattle.state_file.proofs.Parts.{same_u32}
use Rattle.state_file.proofs.front.read_u32.Goals as goal

pub returns-in-Some-clause-read : goal.returns-in-Some-clause-read
returns-in-Some-clause-read c = c.in-Some.ensures.read.0 ∙ ap (λ (bs : List ℕ). bs ++ c.in-Some.rest.now) (sym c.u32_of.ensures.bytes)

pub returns-in-Some-clause-written : goal.returns-in-Some-clause-written
returns-in-Some-clause-written c = λ n rest fits e.
    let s = c.in-Some.ensures.written (to_le_bytes w32 n) rest refl e in
    (same_u32 c.u32_of.result n c.u32_of.ensures.fits fits (c.u32_of.ensures.bytes ∙ s.0), s.1)

pub returns-in-None-clause-written : goal.returns-in-None-clause-written
returns-in-None-clause-written c = λ n rest fits e. c.in-None.ensures.written (to_le_bytes w32 n) rest refl e

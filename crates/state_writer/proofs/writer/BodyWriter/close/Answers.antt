use Rattle.std.proofs.Common.{◌≡◌, ◌∙◌, ap, arith, length, sym}
use Rattle.std.proofs.lemmas.Bool.{true≢false}
use Rattle.state_blocks.specs.Blocks.{block_bytes}
use Rattle.state_writer.proofs.writer.BodyWriter.close.Goals as goal

pub returns-then-not-fits-clause-long : goal.returns-then-not-fits-clause-long
returns-then-not-fits-clause-long c = λ e fits. true≢false (sym (c.fits.ensures.1 fits) ∙ c.if-not-fits.true)

pub push_section-requires : goal.push_section-requires
push_section-requires c =
    let short = (c.fits.ensures.0 c.if-not-fits.false).block in
    omega (arith, short, ap length c.as_slice.ensures.value)

pub add-requires-clause-at : goal.add-requires-clause-at
add-requires-clause-at c =
    let fits = c.fits.ensures.0 c.if-not-fits.false in
    let short = fits.block in
    let at = fits.at in
    omega (arith, short, at, c.len.ensures)

pub add-requires-clause-blocks : goal.add-requires-clause-blocks
add-requires-clause-blocks c =
    let blocks = (c.fits.ensures.0 c.if-not-fits.false).blocks in
    omega (arith, blocks)

pub add-requires-clause-groups : goal.add-requires-clause-groups
add-requires-clause-groups c =
    let fits = c.fits.ensures.0 c.if-not-fits.false in
    let groups = fits.groups in
    let begun = fits.begun in
    omega (arith, groups, begun)

pub returns-clause-short : goal.returns-clause-short
returns-clause-short c = (c.fits.ensures.0 c.if-not-fits.false).block

pub returns-clause-index : goal.returns-clause-index
returns-clause-index c = λ kinds start blocks block is first groups bytes.
    let long : c.len.result ≡ length (block_bytes kinds block) = omega (arith, c.len.ensures, ap length bytes) in
    c.in_ok-add.ensures.ok kinds start blocks block is (c.as_slice-2.ensures.value ∙ first) groups long

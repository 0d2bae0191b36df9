use Rattle.std.proofs.Common.{ℕ, ◌*◌, ap, ◌∙◌}
use Rattle.dsa_area.specs.Sizes.{page_bytes}
use Rattle.dsa_area.proofs.Chunks.{size_least, size_pages}
use Rattle.dsa_area.proofs.sizes.chunk_bytes.Goals as goal

pub returns-in-Some-clause-size : goal.returns-in-Some-clause-size
returns-in-Some-clause-size c = c.from.ensures ∙ (c.class_bytes.ensures.size ∙ size_least c.args.bytes c.in-Some.class c.in-Some.ensures.least)

pub returns-in-None-clause-size : goal.returns-in-None-clause-size
returns-in-None-clause-size c = ap (λ (z : ℕ). page_bytes * z) (c.from-in-None.ensures ∙ c.page_count.ensures.pages) ∙ size_pages c.args.bytes c.in-None.ensures.none

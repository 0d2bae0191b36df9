use Rattle.std.proofs.Common.{◌++◌, ◌∙◌, List, ℕ, length, ap, sym}
use Rattle.std.specs.Int.{to_le_bytes, w32}
use Rattle.state_file.specs.Checksum.{crc32c}
use Rattle.state_file.proofs.Sections.{chained, section-is}
use Rattle.state_file.proofs.section.push_section.Goals as goal

pub returns : goal.returns
returns c =
    let out = c.args.out.now.items in
    let part = c.args.part.now in
    chained out _ _ _ _ part _ (to_le_bytes w32 (length part)) (to_le_bytes w32 (crc32c part)) c.in_ok-extend_from_slice.ensures.items c.in_ok-extend_from_slice-2.ensures.items
    c.in_ok-extend_from_slice-3.ensures.items c.to_le_bytes.ensures (c.to_le_bytes-2.ensures ∙ ap (to_le_bytes w32) c.crc32c.ensures)
    ∙ ap (λ (bs : List ℕ). out ++ bs) (sym (section-is part))

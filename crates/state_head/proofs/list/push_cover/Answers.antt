use Rattle.std.proofs.Common.{◌≡◌, ◌++◌, ◌∙◌, ℕ, List, ap, append_assoc, arith, length, take}
use Rattle.std.proofs.Math.Seq.{take-length}
use Rattle.std.specs.List.{flat_map}
use Rattle.state_file.specs.Number.{number_bytes}
use Rattle.state_head.specs.Cover.{cover_bytes, stretch_bytes}
use Rattle.state_head.specs.declared.cover.Stretch.{Stretch}
use Rattle.state_head.proofs.list.push_cover.Goals as goal

pub returns : goal.returns
unfolding cover_bytes
returns c =
    let cover = c.args.cover.now in
    let out = c.args.out.now.items in
    let end : c.loop-at.at ≡ length cover = omega arith in
    c.loop-at.invariant ∙ ap (λ (ss : List Stretch). (out ++ number_bytes (length cover)) ++ flat_map stretch_bytes ss) (ap (λ (n : ℕ). take n cover) end ∙ take-length cover)
    ∙ append_assoc out (number_bytes (length cover)) (flat_map stretch_bytes cover)

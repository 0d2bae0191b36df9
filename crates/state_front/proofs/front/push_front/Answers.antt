use Rattle.std.proofs.Common.{◌++◌, ◌∙◌, ℕ, List, ap}
use Rattle.state_file.specs.Section.{section}
use Rattle.state_front.specs.Front.{name_bytes, version_bytes}
use Rattle.state_head.specs.Head.{head_bytes, preface_of}
use Rattle.state_front.proofs.Fronts.{front_pushed}
use Rattle.state_front.proofs.front.push_front.Goals as goal

pub returns-clause-front : goal.returns-clause-front
returns-clause-front c =
    let out = c.args.out.now.items in
    let p = preface_of c.args.head.now in
    let part = c.as_slice.result.now in
    front_pushed out c.push_section.new.out.items part p
    (c.as_slice.ensures.value ∙ c.in_ok-push_head.ensures ∙ ap (λ (bs : List ℕ). bs ++ head_bytes p) c.new-part.ensures.items)
    (c.in_ok-push_section.ensures ∙ ap (λ (bs : List ℕ). bs ++ section part) (c.in_ok-extend_from_slice-2.ensures.items ∙ ap (λ (bs : List ℕ). bs ++ version_bytes) c.in_ok-extend_from_slice.ensures.items))

use Rattle.std.proofs.Common.{◌≡◌, ◌++◌, ◌∙◌, [], List, ap, refl}
use Rattle.state_body.specs.Body.{groups_of}
use Rattle.state_head.specs.Words.{keys_of}
use Rattle.state_head.specs.declared.cover.Stretch.{Stretch}
use Rattle.state_whole.proofs.Bodies.{none_has}
use Rattle.state_whole.proofs.Sums.{past_bound, sum_few, summed}
use Rattle.state_whole.proofs.files.Sum.add_groups.Goals as goal

-- what was put at the end of a list
slices : (old cover more slice : List Stretch) → old ≡ cover → slice ≡ more → old ++ slice ≡ cover ++ more
slices old cover more slice e f = ap (λ (xs : List Stretch). xs ++ slice) e ∙ ap (λ (xs : List Stretch). cover ++ xs) f

pub returns-in-Err-clause-refused : goal.returns-in-Err-clause-refused
returns-in-Err-clause-refused c = λ m cover bs is all e.
    let shape = c.args.shape.now in
    let range = keys_of c.args.front.now.head.range in
    let old = c.args.self.now in
    c.in-Err.ensures old.map range [] bs (none_has shape old.kept range old.map old.map c.new-order.result _ refl refl c.new-order.ensures) all e

pub returns-in_default-clause-refused : goal.returns-in_default-clause-refused
returns-in_default-clause-refused c = λ m cover bs is all e.
    let shape = c.args.shape.now in
    let range = keys_of c.args.front.now.head.range in
    let old = c.args.self.now in
    let did = c.in-Ok.ensures old.map range [] bs (none_has shape old.kept range old.map old.map c.new-order.result _ refl refl c.new-order.ensures) all e in
    past_bound shape range m c.add_blocks.new.map cover old (groups_of bs) c.add_blocks.new.order c.add_blocks.new.count is did c.in_default.ensures.past

pub returns-in-Ok-extend_from_slice-clause-order : goal.returns-in-Ok-extend_from_slice-clause-order
returns-in-Ok-extend_from_slice-clause-order c = λ bs all e.
    let shape = c.args.shape.now in
    let range = keys_of c.args.front.now.head.range in
    let old = c.args.self.now in
    let did = c.in-Ok.ensures old.map range [] bs (none_has shape old.kept range old.map old.map c.new-order.result _ refl refl c.new-order.ensures) all e in
    did.keys.are

pub returns-in-Ok-extend_from_slice-clause-sum : goal.returns-in-Ok-extend_from_slice-clause-sum
returns-in-Ok-extend_from_slice-clause-sum c = λ m cover bs is all e.
    let shape = c.args.shape.now in
    let range = keys_of c.args.front.now.head.range in
    let old = c.args.self.now in
    let did = c.in-Ok.ensures old.map range [] bs (none_has shape old.kept range old.map old.map c.new-order.result _ refl refl c.new-order.ensures) all e in
    let few = sum_few shape range m c.add_blocks.new.map cover old (groups_of bs) c.add_blocks.new.order c.add_blocks.new.count is did in
    summed shape range m c.add_blocks.new.map cover c.args.front.now.head.cover.items _ old _ (groups_of bs) c.add_blocks.new.order c.add_blocks.new.count c.in-Some.most is did refl refl refl
    (c.in-Ok-extend_from_slice.ensures.items ∙ slices old.cover.items cover c.args.front.now.head.cover.items c.as_slice.result.now is.cover_is c.as_slice.ensures.value) refl c.in-Some.ensures.few (c.in-Some.ensures.bound few)

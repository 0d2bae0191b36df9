use Rattle.std.proofs.Common.{◌≡◌, Err, Ok, List, All, IfErr, MatchResult, OnOk, Result, subst}
use Rattle.state_body.specs.Body.{groups_of}
use Rattle.state_keep.specs.declared.keep.KeepFault.{KeepFault}
use Rattle.state_keep.specs.declared.keep.KeepFault.TheVariants as fault
use Rattle.state_ranges.specs.Parts.{AreRangesOf, HasFault, IsFilled}
use Rattle.state_ranges.specs.declared.maps.RangeMap.{RangeMap}
use Rattle.state_ranges.proofs.Done.{all_done, one_lacks, same_ends}
use Rattle.state_ranges.proofs.maps.keep_in_threads.Goals as goal
use Rattle.state_whole.specs.Adding.{sum_with}

-- either all have taken the groups, or there was no memory
either : (r : Result Unit KeepFault) (P : Type 0) (news : List RangeMap) → OnOk r (All IsFilled news) → IfErr r (HasFault news) → (All IsFilled news → P) → ((why : KeepFault) → HasFault news why → why ≡ fault.Memory) → MatchResult r (λ _. P) (λ why. why ≡ fault.Memory)
either (Ok x) P news all has done lacks = done all
either (Err why) P news all has done lacks = lacks why has

pub returns-clause-kept : goal.returns-clause-kept
returns-clause-kept g c = λ m bs was all rise e.
    let shape = c.args.shape.now in
    let olds = c.args.ranges.now.items in
    let news = c.fill_each.new.ranges.items in
    let same : c.deref.result.now ≡ news = c.deref.ensures.value in
    let P = AreRangesOf shape.columns (sum_with shape m (groups_of bs)) news in
    either c.first_fault.result P news (subst (λ (rs : List RangeMap). OnOk c.first_fault.result (All IsFilled rs)) same c.first_fault.ensures.all) (subst (λ (rs : List RangeMap). IfErr c.first_fault.result (HasFault rs)) same c.first_fault.ensures.fault)
    (λ filled. all_done shape shape.columns c.args.blocks.now m bs olds news c.fill_each.ensures was all rise e filled) (λ why has. one_lacks shape shape.columns c.args.blocks.now m bs olds news why c.fill_each.ensures was all rise e has)

pub returns-clause-same : goal.returns-clause-same
returns-clause-same g c = same_ends c.args.shape.now c.args.blocks.now c.args.ranges.now.items c.fill_each.new.ranges.items c.fill_each.ensures

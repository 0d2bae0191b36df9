use Rattle.std.proofs.Common.{◌≡◌, ◌++◌, ◌/◌, Result, IfOk, List, subst, sym}
use Rattle.std.proofs.lemmas.Result.{IfOk-weaker}
use Rattle.std.specs.declared.alloc.AllocError.{AllocError}
use Rattle.partial_agg.specs.Groups.{GroupsByKey, with_groups}
use Rattle.split_run.specs.Together.{Joins}
use Rattle.split_run.proofs.Joining.{joins_both, whole_of}
use Rattle.split_run.proofs.together.+fn-join_all-join+arg2+fn-join_all-join+arg3+join_all.Goals as goal

pub returns : goal.returns
returns g t c =
    let all = c.args.front.items in
    let front = c.split_off.new.self.items in
    let back = c.in_ok-back.back.items in
    let groups = c.in_ok-groups.groups in
    let others = c.in_ok-others.others in
    let whole : front ++ back ≡ all = whole_of (c.len-2.result / 2) all front back c.in_ok-back.ensures.items c.in_ok-back.ensures.tail in
    let low : Joins front groups = subst (λ (r : Result GroupsByKey AllocError). IfOk r (Joins front)) c.in_ok-groups.was c.join-first.ensures.first in
    let high : Joins back others = subst (λ (r : Result GroupsByKey AllocError). IfOk r (Joins back)) c.in_ok-others.was c.join-first.ensures.second in
    let both : Joins all (with_groups groups others) = subst (λ (l : List GroupsByKey). Joins l (with_groups groups others)) whole (joins_both front back groups others low high) in
    IfOk-weaker c.add_groups.result _ _ (λ m e. subst (λ (w : GroupsByKey). Joins all w) (sym e) both) c.add_groups.ensures

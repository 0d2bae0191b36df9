use Rattle.std.proofs.Common.{◌≡◌, ◌∙◌, List, ◌∷◌, ◌++◌, length, ap, subst}
use Rattle.par_barrier.specs.Shown.{AreAll, history_of}
use Rattle.par_barrier.specs.declared.barrier.BarrierPass.{BarrierPass}
use Rattle.shell_sync.specs.Barriers.{call_of}
use Rattle.shell_sync.specs.Barriers.{HasSeen}
use Rattle.shell_sync.specs.Meetings.{IsAlike}
use Rattle.shell_sync.proofs.PartyLaws.{all-after, all-alike, all-before, among, get-middle}
use Rattle.shell_sync.proofs.barriers.call_among.Goals as goal

pub call_and_meet-requires-clause-own : goal.call_and_meet-requires-clause-own
call_and_meet-requires-clause-own g c =
    let before = c.split_at_mut-before.result.0.now in
    let pass = c.in-Some.pass.now in
    let after = c.in-Some.after.now in
    let whole : c.args.passes.now ≡ before ++ pass ∷ after = c.split_at_mut-before.ensures.value ∙ ap (λ (l : List BarrierPass). before ++ l) c.in-Some.ensures.cases.0 in
    let all = subst (AreAll c.args.barrier.now) whole c.requires.all in
    (all.each (length before) pass (get-middle before pass after)).0

pub call_and_meet-requires-clause-before : goal.call_and_meet-requires-clause-before
call_and_meet-requires-clause-before g c =
    let before = c.split_at_mut-before.result.0.now in
    let pass = c.in-Some.pass.now in
    let after = c.in-Some.after.now in
    let seen = c.requires.alike.0 in
    let whole : c.args.passes.now ≡ before ++ pass ∷ after = c.split_at_mut-before.ensures.value ∙ ap (λ (l : List BarrierPass). before ++ l) c.in-Some.ensures.cases.0 in
    let all = subst (AreAll c.args.barrier.now) whole c.requires.all in
    let alike = subst (λ (l : List BarrierPass). HasSeen l seen) whole c.requires.alike.1 in
    all-before (IsAlike c.args.barrier.now (history_of pass)) before pass after (all-alike c.args.barrier.now (before ++ pass ∷ after) seen (length before) pass all alike (get-middle before pass after))

pub call_and_meet-requires-clause-after : goal.call_and_meet-requires-clause-after
call_and_meet-requires-clause-after g c =
    let before = c.split_at_mut-before.result.0.now in
    let pass = c.in-Some.pass.now in
    let after = c.in-Some.after.now in
    let seen = c.requires.alike.0 in
    let whole : c.args.passes.now ≡ before ++ pass ∷ after = c.split_at_mut-before.ensures.value ∙ ap (λ (l : List BarrierPass). before ++ l) c.in-Some.ensures.cases.0 in
    let all = subst (AreAll c.args.barrier.now) whole c.requires.all in
    let alike = subst (λ (l : List BarrierPass). HasSeen l seen) whole c.requires.alike.1 in
    all-after (IsAlike c.args.barrier.now (history_of pass)) before pass after (all-alike c.args.barrier.now (before ++ pass ∷ after) seen (length before) pass all alike (get-middle before pass after))

pub returns : goal.returns
returns g c =
    let before = c.split_at_mut-before.result.0.now in
    let pass = c.in-Some.pass.now in
    let after = c.in-Some.after.now in
    let seen = c.requires.alike.0 in
    let whole : c.args.passes.now ≡ before ++ pass ∷ after = c.split_at_mut-before.ensures.value ∙ ap (λ (l : List BarrierPass). before ++ l) c.in-Some.ensures.cases.0 in
    let all = subst (AreAll c.args.barrier.now) whole c.requires.all in
    let alike = subst (λ (l : List BarrierPass). HasSeen l seen) whole c.requires.alike.1 in
    let met = c.call_and_meet.ensures in
    let is = among c.args.barrier.now before c.call_and_meet.new.before after c.call_and_meet.new.after pass met.0 c.call_and_meet.new.pass (call_of c.args.call) met.1 c.args.caller seen all alike c.split_at_mut-before.ensures.front_len met.3 in
    (seen, history_of met.0, met.1, c.requires.alike.1, is.0, is.1, is.2, met.2)
